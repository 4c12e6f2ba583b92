use Rattle.std.proofs.lemmas.Result.{IfOk-weaker, MatchResult-weaker, on_ok_weaker}
use Rattle.hc_signal.specs.Tree.{tree}
use Rattle.hc_paths.proofs.KidMasks.{loop_whole, loop_local, masks_whole}
use Rattle.hc_paths.proofs.make.paths.Goals as goal

pub returns-clause-masks : goal.returns-clause-masks
returns-clause-masks c = IfOk-weaker c.local_paths.result _ _ (λ paths m trees a. masks_whole (tree c.args.circuit.now trees) _ c.lawful.ensures a _ m) c.local_paths.ensures.masks

pub returns-clause-free : goal.returns-clause-free
returns-clause-free c = on_ok_weaker c.local_paths.result (λ f trees a x. f (loop_local (tree c.args.circuit.now trees) _ c.lawful.ensures a x)) c.local_paths.ensures.free

pub returns-clause-cycle : goal.returns-clause-cycle
returns-clause-cycle c = MatchResult-weaker c.local_paths.result c.local_paths.ensures.cycle (λ paths m. m) (λ stop h e trees a. loop_whole (tree c.args.circuit.now trees) _ c.lawful.ensures a (h e))
