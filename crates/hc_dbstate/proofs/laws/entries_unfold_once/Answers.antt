use Rattle.std.proofs.Common.{subst}
use Rattle.hc_canon.specs.Same.{Same}
use Rattle.hc_canon.proofs.Isomorphisms.{same-refl}
use Rattle.hc_dbstate.specs.Unfolding.{unfolding_of}
use Rattle.hc_dbstate.proofs.Denoted.{unfoldings_once}
use Rattle.hc_dbstate.proofs.laws.entries_unfold_once.Goals as goal

pub returns : goal.returns
returns c h i j legal l m =
    (unfoldings_once h legal i j l m, λ e. subst (λ k. Same (unfolding_of h.entries i) (unfolding_of h.entries k)) e (same-refl (unfolding_of h.entries i)))
