use Rattle.std.proofs.Common.{◌<◌, ◌∙◌, subst, sym}
use Rattle.hc_signal.specs.Member.{Has}
use Rattle.hc_plan.proofs.HierSteps.{hier_of_row, kids_lower, read_at, row_called, views_many}
use Rattle.hc_plan.proofs.hierarchy.hier_at.Goals as goal

pub circuit_of-circuit-requires : goal.circuit_of-circuit-requires
circuit_of-circuit-requires c =
    row_called _ _ _ c.requires.plan c.args.place _ (read_at _ _ _ _ c.as_slice.ensures c.requires.place c.index-as_slice-place.is)

pub hiers_of-requires : goal.hiers_of-requires
hiers_of-requires c =
    let lower = kids_lower _ _ _ c.requires.plan c.args.place _ (read_at _ _ _ _ c.as_slice.ensures c.requires.place c.index-as_slice-place.is) in
    λ k m. subst (λ n. k < n) (sym c.requires.below.many ∙ views_many c.args.below.now) (lower k (subst (λ ks. Has ks k) c.as_slice-2.ensures m))

pub returns : goal.returns
returns c =
    hier_of_row _ _ _ _ _ _ _ _ _ _ _ _ c.as_slice.ensures c.requires.many c.requires.place c.index-as_slice-place.is
    c.index-done-place.is c.circuit_of-circuit.ensures c.as_slice-2.ensures c.requires.below c.in_ok-kids.ensures c.hier_over.ensures
