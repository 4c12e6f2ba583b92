use Rattle.std.proofs.Common.{◌≡◌, ◌++◌, ◌∙◌, ap, subst}
use Rattle.hc_dbstate.specs.Unfolding.{unfolding_of}
use Rattle.hc_flatten.specs.Flattened.{flat_memories, flat_nodes, top}
use Rattle.std.specs.Prelude.{slice_get, Some}
use Rattle.hc_flatten.proofs.Flattens.{few_laid}
use Rattle.hc_flatten.proofs.flattening.lay_top.Goals as goal

pub returns-clause-few : goal.returns-clause-few
returns-clause-few c =
    few_laid c.args.db.now.entries c.in_ok-sizes.sizes.items c.args.entry c.in-Some.size c.lay.new.laid.nodes.items c.lay.new.laid.memories.items c.in_ok-sizes.ensures
    (subst (λ l. slice_get l c.args.entry.0 ≡ Some (Some c.in-Some.size)) c.as_slice.ensures.value c.in-Some.ensures)
    c.fits.ensures.0 c.fits.ensures.1
    (c.in_ok-lay.ensures.nodes ∙ ap (λ l. l ++ flat_nodes top (unfolding_of c.args.db.now.entries c.args.entry)) c.in_ok-with_capacity.ensures.items)
    (c.in_ok-lay.ensures.memories ∙ ap (λ l. l ++ flat_memories top (unfolding_of c.args.db.now.entries c.args.entry)) c.in_ok-with_capacity-2.ensures.items)
