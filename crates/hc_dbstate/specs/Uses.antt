-- The entries that an entry is built from.
use Rattle.std.specs.Prelude.{◌≡◌, ◌↔◌, Bool, true, List, [], ◌∷◌, slice_get, slice_set, Some}
use Rattle.hc_signal.specs.Member.{Has}
use Rattle.hc_canon.specs.declared.form.EntryId.{EntryId}
use Rattle.hc_canon.specs.FormView.{FormView}

-- the entries that the top reaches through kids, itself among them
pub data Uses (entries : List FormView) (top : EntryId) : EntryId → Type 0 where
  itself : Uses entries top top
  kid : {id next : EntryId} (form : FormView) → Uses entries top id → slice_get entries id.0 ≡ Some form → Has form.kids next → Uses entries top next

abbrev pub IsMarked : List Bool → EntryId → Type 0
IsMarked marks id = slice_get marks id.0 ≡ Some true

-- the marks are those of the entries that the top uses
abbrev pub AreUses : List FormView → EntryId → List Bool → Type 0
AreUses entries top marks = (id : EntryId) → IsMarked marks id ↔ Uses entries top id

-- the marks with one more, and with some more
abbrev pub with_mark : List Bool → EntryId → List Bool
with_mark marks id = slice_set marks id.0 true

abbrev pub with_marks : List Bool → List EntryId → List Bool
with_marks marks [] = marks
with_marks marks (id ∷ ids) = with_marks (with_mark marks id) ids
