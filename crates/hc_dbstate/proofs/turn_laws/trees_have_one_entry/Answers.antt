use Rattle.hc_dbstate.specs.Unfolding.{unfolding_of}
use Rattle.hc_dbstate.proofs.Denoted.{unfoldings_once}
use Rattle.hc_dbstate.proofs.turn_laws.trees_have_one_entry.Goals as goal

pub returns : goal.returns
returns c h i j t legal within other here there =
    let same = c.same_is_an_equivalence.ensures in
    unfoldings_once h legal i j within other (same.transitive (unfolding_of h.entries i) t (unfolding_of h.entries j) here (same.symmetric (unfolding_of h.entries j) t there))
