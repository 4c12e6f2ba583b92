-- A tree has one flat text, and the form of a circuit without instances has its text.
use Rattle.std.proofs.Common.{◌≡◌, ℕ, ◌<◌, List, [], ◌∷◌, length, refl, arith}
use Rattle.hc_bits.specs.Digits.{lines_text}
use Rattle.hc_signal.specs.Graph.{Graph}
use Rattle.hc_signal.specs.Member.{Has, first}
use Rattle.hc_signal.specs.Tree.{Tree, IsWhole, leaf}
use Rattle.hc_signal.specs.FlatGraph.{IsFlat}
use Rattle.hc_canon.specs.FormView.{FormView, IsCanonOf}
use Rattle.hc_canon.proofs.Renumbered.{then}
use Rattle.hc_canon.proofs.Isomorphisms.{isomorphism_then}
use Rattle.hc_naming.specs.ModuleNames.{name_in}
use Rattle.hc_verilog.specs.Templates.{module_lines}
use Rattle.hc_verilog.specs.ModuleText.{IsFormText, IsTreeText}
use Rattle.hc_verilog.proofs.Single.{module_text_single, tree_text_single}
use Rattle.hc_flattext.specs.FlatText.{IsFlatText}
use Rattle.hc_flattext.proofs.FlatGraphs.{to, flats_paired}

-- the text of an isomorphic circuit without instances
text_along : (g h : Graph) (title text : List ℕ) (t : Tree) → IsWhole t → IsFlat t g → IsFlat t h → IsTreeText (leaf g) (λ i. []) title text → IsTreeText (leaf h) (λ i. []) title text
text_along g h title text t whole f k (c, into, home, canonical, e, x) =
    (c, then (to t whole h k g f) into, then home (to t whole g f h k), canonical, isomorphism_then (to t whole h k g f) (to t whole g f h k) into home h g c (flats_paired t whole h g k f) e, x)

pub flat_text_single : (t : Tree) (title a b : List ℕ) → IsWhole t → IsFlatText t title a → IsFlatText t title b → a ≡ b
flat_text_single t title a b whole (g, f, x) (h, k, y) =
    tree_text_single (leaf h) (λ i. []) (λ i. []) title a b (λ i r. refl) (text_along g h title a t whole f k x) y

no_items : {X : Type 0} (xs : List X) → ((x : X) → Has xs x → ⊥) → length xs ≡ 0
no_items [] none = refl
no_items (x ∷ xs) none = absurd (none x first)

-- the text of the form of a circuit without instances
pub form_text_flat : (g : Graph) (form : FormView) (title text : List ℕ) → IsCanonOf g [] form → IsFormText form [] title text → IsTreeText (leaf g) (λ i. []) title text
form_text_flat g form title text c x = (
  form.circuit,
  c.to,
  c.back,
  c.form.canonical,
  c.isomorphism,
  (
    x.text_is.0,
    x.text_is.1,
    module_text_single form.circuit x.modules (λ i. []) title text (lines_text (module_lines (name_in x.text_is.0) form.circuit (λ i. []) title)) agrees
        x.text_is (x.text_is.0, x.text_is.1, refl),
  ),
)
  where
    agrees : (k : ℕ) → k < length form.circuit.instances → x.modules k ≡ []
    agrees k lt = absurd (omega (arith, lt, c.form.kids, no_items form.kids (λ id h. elim (c.known id h) [ ])))
