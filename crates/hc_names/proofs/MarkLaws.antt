-- Marked entries have names, and a name that was given stays.
use Rattle.std.proofs.Common.{◌≡◌, ℕ, zero, suc, Bool, false, true, replicate, List, [], ◌∷◌, ◌++◌, ◌⊎◌, inl, inr, cond, nat_eq, refl, sym, ap, subst, ◌∙◌}
use Rattle.std.specs.Prelude.{Option, Some, None, IsSome, slice_get}
use Rattle.hc_canon.specs.declared.form.EntryId.{EntryId}
use Rattle.hc_dbstate.specs.Uses.{IsMarked}
use Rattle.hc_names.specs.NameRows.{name_of_entry}
use Rattle.hc_names.specs.Naming.{NameRow}
use Rattle.hc_names.specs.Steps.{MarksNamed, NamesTo}
use Rattle.hc_names.proofs.RowLaws.{eq_self, in_row, name_after, or_else}

abbrev HasName : List NameRow → EntryId → Type 0
HasName rows id = IsSome (name_of_entry rows id)

still : (o b : Option (List ℕ)) → IsSome o → IsSome (or_else o b)
still None b has = absurd cc
still (Some name) b has = has

there : {X : Type 0} (o : Option X) → IsSome o → (x : X) × (o ≡ Some x)
there None has = absurd cc
there (Some x) has = (x, refl)

-- a name stays as calls are named
pub names_stay : (rows calls end : List NameRow) (id : EntryId) → NamesTo rows calls end → HasName rows id → HasName end id
names_stay rows [] end id is has = subst (λ (r : List NameRow). HasName r id) (sym is) has
names_stay rows (c ∷ cs) end id (inl (name, found, rest)) has = names_stay rows cs end id rest has
names_stay rows (c ∷ cs) end id (inr (name, none, mangled, rest)) has =
    names_stay (rows ++ (c.0, name) ∷ []) cs end id rest (subst IsSome (sym (name_after rows (c.0, name) id)) (still (name_of_entry rows id) (in_row (c.0, name) id) has))

-- a call that was named has a name
pub one_named : (rows end : List NameRow) (c : NameRow) → NamesTo rows (c ∷ []) end → HasName end c.0
one_named rows end c (inl (name, found, is)) = subst (λ (r : List NameRow). HasName r c.0) (sym is) (subst IsSome (sym found) refl)
one_named rows end c (inr (name, none, mangled, is)) =
    subst (λ (r : List NameRow). HasName r c.0) (sym is)
    (subst IsSome (sym (name_after rows (c.0, name) c.0 ∙ ap (λ o. or_else o (in_row (c.0, name) c.0)) none ∙ ap (λ b. cond b (Some name) None) (eq_self c.0.0))) refl)

-- a marked entry is passed over
pub named_again : (rows : List NameRow) (marks : List Bool) (c : NameRow) → MarksNamed rows marks → IsMarked marks c.0 → NamesTo rows (c ∷ []) rows
named_again rows marks c all marked = let n = there (name_of_entry rows c.0) (all c.0 marked) in inl (n.0, n.1, refl)

-- one mark more
pub marked_more : (rows end : List NameRow) (old new : List Bool) (c : NameRow) → MarksNamed rows old → NamesTo rows (c ∷ []) end
    → ((k : EntryId) → IsMarked new k → IsMarked old k ⊎ (k ≡ c.0)) → MarksNamed end new
marked_more rows end old new c all named more k marked = elim (more k marked) [
  | inl before ↦ names_stay rows (c ∷ []) end k named (all k before)
  | inr same ↦ subst (HasName end) (sym same) (one_named rows end c named)
]

none_marked : (n k : ℕ) → slice_get (replicate n false) k ≡ Some true → ⊥
none_marked zero k e = absurd cc
none_marked (suc n) zero e = absurd cc
none_marked (suc n) (suc k) e = none_marked n k e

-- no mark is on
pub none_named : (rows : List NameRow) (marks : List Bool) (n : ℕ) → marks ≡ replicate n false → MarksNamed rows marks
none_named rows marks n is id marked = absurd (none_marked n id.0 (subst (λ m. slice_get m id.0 ≡ Some true) is marked))
