-- Rows of names in a table by entry numbers.
use Rattle.std.proofs.Common.{◌≡◌, ℕ, suc, Bool, true, false, cond, List, [], ◌∷◌, ◌++◌, length, refl, ap, nat_eq}
use Rattle.std.specs.Prelude.{Some, None}
use Rattle.std.specs.Map.{lookup}
use Rattle.indexmap.specs.IndexMap.{insert_entry}
use Rattle.hc_canon.specs.declared.form.EntryId.{EntryId}
use Rattle.hc_names.specs.NameRows.{name_of_entry, numbered_rows}

pub name_found : (rows : List (ℕ × List ℕ)) (id : EntryId) → lookup (nat_eq id.0) rows ≡ name_of_entry (numbered_rows rows) id
name_found [] id = refl
name_found (r ∷ rows) id = ap (cond (nat_eq id.0 r.0) (Some r.1)) (name_found rows id)

pub row_added : (rows : List (ℕ × List ℕ)) (id : EntryId) (name : List ℕ) → name_of_entry (numbered_rows rows) id ≡ None
    → numbered_rows (insert_entry nat_eq rows id.0 name) ≡ numbered_rows rows ++ (id, name) ∷ []
row_added [] id name none = refl
row_added (r ∷ rows) id name none = by (λ rest. row_added rows id name rest) (nat_eq id.0 r.0) refl
  where
    at : EntryId × List ℕ
    at = (record { 0 = r.0 }, r.1)

    by : (name_of_entry (numbered_rows rows) id ≡ None → numbered_rows (insert_entry nat_eq rows id.0 name) ≡ numbered_rows rows ++ (id, name) ∷ []) → (b : Bool)
        → nat_eq id.0 r.0 ≡ b → numbered_rows (insert_entry nat_eq (r ∷ rows) id.0 name) ≡ numbered_rows (r ∷ rows) ++ (id, name) ∷ []
    by more true e = let value : Some r.1 ≡ None = rw e at none in absurd cc
    by more false e = let rest : name_of_entry (numbered_rows rows) id ≡ None = rw e at none in rw e (ap (λ l. at ∷ l) (more rest))

pub rows_length : (rows : List (ℕ × List ℕ)) → length (numbered_rows rows) ≡ length rows
rows_length [] = refl
rows_length (r ∷ rows) = ap suc (rows_length rows)
