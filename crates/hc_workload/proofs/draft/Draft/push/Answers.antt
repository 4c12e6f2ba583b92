use Rattle.std.proofs.Common.{refl}
use Rattle.hc_workload.proofs.Pieces.{says}
use Rattle.hc_workload.proofs.draft.Draft.push.Goals as goal

pub returns : goal.returns
returns c = says c.args.text.now c.args.self.now _ c.in_ok-extend_from_slice.ensures.items refl
