use Rattle.std.proofs.Common.{◌≡◌, take}
use Rattle.hc_workload.specs.Digest.{digest}
use Rattle.hc_workload.proofs.digest.digest_of.Given as goal

abbrev pub invariant-bytes : goal.invariant-bytes
invariant-bytes l = l.value ≡ digest (take l.byte-index l.bytes)
