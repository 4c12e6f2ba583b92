-- The text of the module of a circuit, of a form, and of a tree.
use Rattle.std.specs.Prelude.{◌≡◌, ℕ, List, [], slice_get, Some, IsSome, unwrap_or, option_and_then}
use Rattle.hc_bits.specs.Digits.{lines_text}
use Rattle.hc_signal.specs.Graph.{Graph}
use Rattle.hc_signal.specs.Member.{Has}
use Rattle.hc_signal.specs.Tree.{Tree, graph}
use Rattle.hc_signal.specs.Renumber.{Renumbering}
use Rattle.hc_canon.specs.declared.form.EntryId.{EntryId}
use Rattle.hc_canon.specs.FormView.{FormView}
use Rattle.hc_canon.specs.Same.{IsIsomorphism}
use Rattle.hc_canon.specs.Numbering.{IsCanonical}
use Rattle.hc_names.specs.NameRows.{name_of_entry}
use Rattle.hc_naming.specs.ModuleNames.{Named, wanted, Takes, name_in}
use Rattle.hc_verilog.specs.Templates.{module_lines}

-- The module of a circuit in canonical numbering, under a title. `modules` names the module of each instance.
abbrev pub IsModuleText : Graph → (ℕ → List ℕ) → List ℕ → List ℕ → Type 0
IsModuleText g modules title text = (names : List (Named × List ℕ)) × Takes [] (wanted g) names × (text ≡ lines_text (module_lines (name_in names) g modules title))

-- the name in the first row of an instance's entry; nothing where there is none
unfoldable pub module_of : List (EntryId × List ℕ) → List EntryId → ℕ → List ℕ
module_of rows kids i = unwrap_or (option_and_then (name_of_entry rows) (slice_get kids i)) []

-- each entry has a row
abbrev pub AreNamed : List (EntryId × List ℕ) → List EntryId → Type 0
AreNamed rows ids = (id : EntryId) → Has ids id → IsSome (name_of_entry rows id)

-- The module of a form, where each row names the module of an entry: that of an instance is in its entry's first row.
pub record IsFormText (form : FormView) (rows : List (EntryId × List ℕ)) (title text : List ℕ) : Type 0 where
  pub modules : ℕ → List ℕ
  pub named : (i : ℕ) (kid : EntryId) → slice_get form.kids i ≡ Some kid → name_of_entry rows kid ≡ Some (modules i)
  pub text_is : IsModuleText form.circuit modules title text

-- The module of a tree: that of a canonical circuit which is isomorphic to its graph. `modules` names the modules of the
-- tree's instances.
abbrev pub IsTreeText : Tree → (ℕ → List ℕ) → List ℕ → List ℕ → Type 0
IsTreeText t modules title text = (g : Graph) × (to : Renumbering) × (back : Renumbering) × IsCanonical g × IsIsomorphism to back (graph t) g × IsModuleText g (λ i. modules (back.inst i)) title text
