use Rattle.std.proofs.Common.{◌≡◌, length, map}
use Rattle.hc_rows.specs.Rows.{flat}
use Rattle.hc_store.proofs.Wakes.{IsWaking, left_of}
use Rattle.hc_store.proofs.waking.wake_from.Given as goal

abbrev pub decreases-up : goal.decreases-up
decreases-up l = left_of (flat l.stale) l.at

abbrev pub invariant-up : goal.invariant-up
invariant-up l = record { shape : map length l.stale ≡ map length l.fn.stale; waking : IsWaking l.up (flat l.fn.stale) (flat l.stale) l.part l.at }
