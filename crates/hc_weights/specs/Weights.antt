-- The weight of the entries that an entry uses, each once.
use Rattle.std.specs.Prelude.{◌≡◌, ℕ, ◌+◌, Bool, true, false, List, [], ◌∷◌}
use Rattle.hc_signal.specs.Weight.{graph_weight}
use Rattle.hc_canon.specs.declared.form.EntryId.{EntryId}
use Rattle.hc_canon.specs.FormView.{FormView}
use Rattle.hc_dbstate.specs.Uses.{AreUses}

-- the weights of the forms that are marked, together
abbrev pub weight_where : List Bool → List FormView → ℕ
weight_where (true ∷ marks) (form ∷ forms) = graph_weight form.circuit + weight_where marks forms
weight_where (false ∷ marks) (form ∷ forms) = weight_where marks forms
weight_where marks forms = 0

-- the weight of the forms of the entries that the top uses, each once
abbrev pub IsUsedWeight : List FormView → EntryId → ℕ → Type 0
IsUsedWeight entries top n = (marks : List Bool) × AreUses entries top marks × (n ≡ weight_where marks entries)
