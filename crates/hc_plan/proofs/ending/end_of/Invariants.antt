use Rattle.std.proofs.Common.{◌≡◌, ◌++◌, map}
use Rattle.std.specs.Prelude.{Some}
use Rattle.std.specs.Vec.Iter.{into_iter_items}
use Rattle.hc_plan.specs.Hierarchies.{Done}
use Rattle.hc_plan.specs.Stepping.{dones_of, outs_of}
use Rattle.hc_plan.proofs.ending.end_of.Given as goal

abbrev pub invariant-outs : goal.invariant-outs
invariant-outs l = (l.yielded ++ into_iter_items l.out-iterator ≡ into_iter_items l.initial.out-iterator) × (outs_of l.yielded ≡ map (λ (x : Done). Some x) (dones_of l.done))
