-- A module more at the end of a text.
use Rattle.std.specs.Prelude.{◌≡◌, ℕ, Bool, true, false, List, [], ◌∷◌, ◌++◌, drop, if◌then◌else◌, slice_get, Some}
use Rattle.std.specs.List.{join_with_byte}
use Rattle.hc_canon.specs.declared.form.EntryId.{EntryId}
use Rattle.hc_canon.specs.FormView.{FormView}
use Rattle.hc_names.specs.Naming.{NameRow}
use Rattle.hc_verilog.specs.ModuleText.{AreNamed, IsFormText}
use Rattle.hc_modules.specs.HierarchyText.{AreTexts}
use Rattle.hc_dbstate.specs.Uses.{Uses}

-- the text, after an empty line where it is not the first
abbrev pub parted : Bool → List ℕ → List ℕ
parted first text = if first then text else 10 ∷ text

abbrev pub Appends : FormView → List NameRow → List ℕ → Bool → List ℕ → List ℕ → Type 0
Appends form rows name first old new = (text : List ℕ) × IsFormText form rows name text × (new ≡ old ++ parted first text)

abbrev pub is_empty : List (List ℕ) → Bool
is_empty [] = true
is_empty (t ∷ texts) = false

-- The modules of the rows before a place are printed: with those of the rows from there on they are those of all.
pub record IsPrinted (entries : List FormView) (top : EntryId) (rows : List NameRow) (place : ℕ) (first : Bool) (out : List ℕ) : Type 0 where
  pub texts : List (List ℕ)
  pub rest : (more : List (List ℕ)) → AreTexts entries top rows (drop place rows) more → AreTexts entries top rows rows (texts ++ more)
  pub text_is : out ≡ join_with_byte 10 texts
  pub none_yet : first ≡ is_empty texts

-- the entries that the top uses are there, and their kids have names
abbrev pub AreThere : List FormView → EntryId → List NameRow → Type 0
AreThere entries top rows = (id : EntryId) → Uses entries top id → (form : FormView) × (slice_get entries id.0 ≡ Some form) × AreNamed rows form.kids
