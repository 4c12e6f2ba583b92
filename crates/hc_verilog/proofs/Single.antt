-- The text of a module and the text of a tree are single.
use Rattle.std.proofs.Common.{◌≡◌, ℕ, ◌+◌, ◌<◌, List, [], ◌∷◌, ◌++◌, length, refl, sym, ap, ap₂, subst, ◌∙◌, arith}
use Rattle.std.specs.List.{enumerate_from}
use Rattle.hc_bits.specs.Digits.{lines_text}
use Rattle.hc_signal.specs.declared.signal.Instance.{Instance}
use Rattle.hc_signal.specs.Graph.{Graph, inst, Reached}
use Rattle.hc_signal.specs.Tree.{Tree, graph}
use Rattle.hc_signal.specs.Renumber.{Renumbering}
use Rattle.hc_canon.specs.Same.{IsIsomorphism}
use Rattle.hc_canon.specs.Numbering.{IsCanonical}
use Rattle.hc_canon.proofs.Renumbered.{then, number}
use Rattle.hc_canon.proofs.Isomorphisms.{reached_to, isomorphism_then, isomorphism_back}
use Rattle.hc_canon.proofs.Canonical.{canonical_once, instance_stays, reached_inst}
use Rattle.hc_naming.specs.ModuleNames.{Named, wanted, name_in}
use Rattle.hc_naming.proofs.Named.{takes_single}
use Rattle.hc_verilog.specs.Templates.{instance_lines, all_instance_lines, output_name, module_lines}
use Rattle.hc_verilog.specs.ModuleText.{IsModuleText, IsTreeText}

-- modules that agree on the instances give one text
agree : (name : Named → List ℕ) (a b : ℕ → List ℕ) (outputs : ℕ → ℕ → List ℕ) (start : ℕ) (its : List Instance) → ((k : ℕ) → k < start + length its → a k ≡ b k)
    → all_instance_lines name a outputs (enumerate_from start its) ≡ all_instance_lines name b outputs (enumerate_from start its)
unfolding all_instance_lines
agree name a b outputs start [] same = refl
agree name a b outputs start (it ∷ its) same =
    ap₂ (λ x y. x ++ y) (ap (λ t. instance_lines name t (outputs start) (start, it)) (same start (omega arith)))
    (agree name a b outputs (start + 1) its (λ k lt. same k (omega (arith, lt))))

pub module_text_single : (g : Graph) (a b : ℕ → List ℕ) (title s t : List ℕ) → ((k : ℕ) → k < length g.instances → a k ≡ b k) → IsModuleText g a title s → IsModuleText g b title t → s ≡ t
unfolding module_lines
module_text_single g a b title s t same x y =
    let names : x.0 ≡ y.0 = takes_single [] (wanted g) x.0 y.0 x.1 y.1 in
    x.2
    ∙ ap (λ n. lines_text (module_lines (name_in n) g a title)) names
    ∙ rw (agree (name_in y.0) a b (output_name (name_in y.0) g) 0 g.instances (λ k lt. same k (omega (arith, lt)))) refl
    ∙ sym y.2

module _ (t : Tree) (modules others : ℕ → List ℕ) (agrees : (i : ℕ) → Reached (graph t) (inst i) → modules i ≡ others i)
    (c d : Graph) (to back into home : Renumbering) (cc : IsCanonical c) (cd : IsCanonical d) (e : IsIsomorphism to back (graph t) c) (f : IsIsomorphism into home (graph t) d) where
  from_c : IsIsomorphism back to c (graph t)
  from_c = isomorphism_back to back (graph t) c e

  across : IsIsomorphism (then back into) (then home to) c d
  across = isomorphism_then back to into home c (graph t) d from_c f

  pub one_circuit : d ≡ c
  one_circuit = canonical_once (then back into) (then home to) c d across cc cd

  -- each instance comes from one
  pub one_instance : (k : ℕ) → k < length c.instances → modules (back.inst k) ≡ others (home.inst k)
  one_instance k lt =
      let r : Reached c (inst k) = reached_inst c cc k lt in
      let s : Reached (graph t) (inst (back.inst k)) = reached_to back to c (graph t) from_c r in
      let stays : into.inst (back.inst k) ≡ k = instance_stays (then back into) (then home to) c d across cc cd k r in
      let comes : home.inst (into.inst (back.inst k)) ≡ back.inst k = ap number (f.one_to_one (inst (back.inst k)) s) in
      agrees (back.inst k) s ∙ ap others (sym comes ∙ ap home.inst stays)

pub tree_text_single : (t : Tree) (modules others : ℕ → List ℕ) (title a b : List ℕ) → ((i : ℕ) → Reached (graph t) (inst i) → modules i ≡ others i)
    → IsTreeText t modules title a → IsTreeText t others title b → a ≡ b
tree_text_single t modules others title a b agrees (c, to, back, cc, e, x) (d, into, home, cd, f, y) =
    module_text_single c (λ i. modules (back.inst i)) (λ i. others (home.inst i)) title a b (one_instance t modules others agrees c d to back into home cc cd e f) x
    (subst (λ g. IsModuleText g (λ i. others (home.inst i)) title b) (one_circuit t modules others agrees c d to back into home cc cd e f) y)
