-- Rows of module names: an entry and the name of its module.
use Rattle.std.specs.Prelude.{ℕ, nat_eq, List, [], ◌∷◌, map, Option, Some, None, if◌then◌else◌}
use Rattle.std.specs.Borrow.{Bor}
use Rattle.hc_canon.specs.declared.form.EntryId.{EntryId}

-- the name in the entry's first row
abbrev pub name_of_entry : List (EntryId × List ℕ) → EntryId → Option (List ℕ)
name_of_entry [] id = None
name_of_entry (row ∷ rows) id = if nat_eq id.0 row.0.0 then Some row.1 else name_of_entry rows id

-- rows whose entries are given by their numbers
abbrev pub numbered_rows : List (ℕ × List ℕ) → List (EntryId × List ℕ)
numbered_rows rows = map (λ (r : ℕ × List ℕ). (record { 0 = r.0 }, r.1)) rows

-- a row whose name is borrowed
abbrev pub row_of : Option (EntryId × Bor (List ℕ)) → Option (EntryId × List ℕ)
row_of None = None
row_of (Some r) = Some (r.0, r.1.now)
