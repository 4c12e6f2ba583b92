-- Names given call by call, to entries that have none yet.
use Rattle.std.specs.Prelude.{◌≡◌, ℕ, ◌⊎◌, Bool, List, [], ◌∷◌, ◌++◌, map, Some, None, IsSome}
use Rattle.hc_canon.specs.declared.form.EntryId.{EntryId}
use Rattle.hc_dbstate.specs.Elaboration.{CallView}
use Rattle.hc_dbstate.specs.Uses.{IsMarked}
use Rattle.hc_names.specs.Mangling.{IsMangled}
use Rattle.hc_names.specs.NameRows.{name_of_entry}
use Rattle.hc_names.specs.Naming.{NameRow}

-- the names in the rows
abbrev pub names_in : List NameRow → List (List ℕ)
names_in rows = map (λ (r : NameRow). r.1) rows

-- The rows after calls: an entry that has a row keeps it, any other one gets the mangled name that its call requests.
-- A row here is an entry with a requested name.
abbrev pub NamesTo : List NameRow → List NameRow → List NameRow → Type 0
NamesTo rows [] end = end ≡ rows
NamesTo rows (call ∷ calls) end =
    ((name : List ℕ) × (name_of_entry rows call.0 ≡ Some name) × NamesTo rows calls end)
    ⊎ ((name : List ℕ) × (name_of_entry rows call.0 ≡ None) × IsMangled call.1 (names_in rows) name × NamesTo (rows ++ (call.0, name) ∷ []) calls end)

-- the entries of a hierarchy's calls, with the names that they request
abbrev pub requests : List CallView → List NameRow
requests calls = map (λ (c : CallView). (c.own.entry, c.own.name)) calls

-- each marked entry has a row
abbrev pub MarksNamed : List NameRow → List Bool → Type 0
MarksNamed rows marks = (id : EntryId) → IsMarked marks id → IsSome (name_of_entry rows id)
