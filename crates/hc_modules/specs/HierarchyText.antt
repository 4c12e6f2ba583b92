-- The Verilog text of a hierarchy over the entries of a database.
use Rattle.std.specs.Prelude.{◌≡◌, ℕ, ◌⊎◌, List, [], ◌∷◌, slice_get, Some}
use Rattle.std.specs.List.{join_with_byte}
use Rattle.hc_canon.specs.declared.form.EntryId.{EntryId}
use Rattle.hc_canon.specs.FormView.{FormView}
use Rattle.hc_names.specs.Naming.{NameRow}
use Rattle.hc_verilog.specs.ModuleText.{IsFormText}
use Rattle.hc_dbstate.specs.Uses.{Uses}

-- the module of an entry, under the name in its row
pub record IsEntryText (entries : List FormView) (rows : List NameRow) (row : NameRow) (text : List ℕ) : Type 0 where
  pub form : FormView
  pub found : slice_get entries row.0.0 ≡ Some form
  pub text_is : IsFormText form rows row.1 text

-- the modules of these rows, in order, but for the entries that the top does not use
abbrev pub AreTexts : List FormView → EntryId → List NameRow → List NameRow → List (List ℕ) → Type 0
AreTexts entries top rows [] texts = texts ≡ []
AreTexts entries top rows (row ∷ rest) texts =
    (Uses entries top row.0 × ((text : List ℕ) × (more : List (List ℕ)) × IsEntryText entries rows row text × (texts ≡ text ∷ more) × AreTexts entries top rows rest more))
    ⊎ (¬ Uses entries top row.0 × AreTexts entries top rows rest texts)

-- The text: the modules in the order of the rows, with an empty line between two.
pub record IsHierarchyText (entries : List FormView) (top : EntryId) (rows : List NameRow) (text : List ℕ) : Type 0 where
  pub texts : List (List ℕ)
  pub modules : AreTexts entries top rows rows texts
  pub text_is : text ≡ join_with_byte 10 texts
