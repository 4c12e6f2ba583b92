use Rattle.std.proofs.Common.{◌≡◌, ◌+◌, length, map}
use Rattle.std.specs.Prelude.{slice_get}
use Rattle.std.specs.List.{range_with_len}
use Rattle.hc_rows.specs.Rows.{flat}
use Rattle.hc_layout.specs.Up.{runner, ran_in}
use Rattle.hc_layout.proofs.up.kid_row.Given as goal

abbrev pub invariant-parts : goal.invariant-parts
invariant-parts l = l.row.items ≡ map (λ b. runner l.up l.p (ran_in (slice_get l.plans l.id.0) l.i.0 b) (length (flat l.up) + b)) (range_with_len 0 l.part)
