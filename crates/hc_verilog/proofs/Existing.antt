-- Lawful circuits and trees have module texts.
use Rattle.std.proofs.Common.{◌≡◌, ℕ, ◌≤◌, List, [], length, refl, ap, arith}
use Rattle.hc_bits.specs.Digits.{lines_text}
use Rattle.hc_signal.specs.declared.signal.Ports.{Ports}
use Rattle.hc_signal.specs.Graph.{Graph}
use Rattle.hc_signal.specs.Lawful.{IsLawful}
use Rattle.hc_signal.specs.Renumber.{Renumbering}
use Rattle.hc_signal.specs.Tree.{Tree, graph}
use Rattle.hc_canon.specs.Numbering.{IsCanonical}
use Rattle.hc_canon.specs.Same.{IsIsomorphism}
use Rattle.hc_naming.specs.ModuleNames.{Named, Takes, name_in, wanted}
use Rattle.hc_verilog.specs.ModuleText.{IsModuleText, IsTreeText}
use Rattle.hc_verilog.specs.Templates.{module_lines}

abbrev pub CanBeNamed : Type 0
CanBeNamed = (g : Graph) → length g.ports.inputs ≤ 4294967296 → length g.ports.outputs ≤ 4294967296 → length g.nodes ≤ 4294967296 → length g.memories ≤ 4294967296
    → length g.instances ≤ 4294967296 → (given : List (Named × List ℕ)) × Takes [] (wanted g) given

abbrev pub HaveCanonical : Type 0
HaveCanonical = (g : Graph) → IsLawful g → (c : Graph) × (to : Renumbering) × (back : Renumbering) × IsIsomorphism to back g c × IsLawful c × IsCanonical c

module _ (can : CanBeNamed) where
  pub circuit_text : (g : Graph) (modules : ℕ → List ℕ) (title : List ℕ) → IsLawful g → length g.ports.inputs ≤ 4294967296 → length g.ports.outputs ≤ 4294967296
      → (text : List ℕ) × IsModuleText g modules title text
  circuit_text g modules title l ins outs =
      let names : (given : List (Named × List ℕ)) × Takes [] (wanted g) given = can g ins outs l.few.0 l.few.1 l.few.2 in
      (lines_text (module_lines (name_in names.0) g modules title), (names.0, names.1, refl))

  pub tree_text : HaveCanonical → (t : Tree) (modules : ℕ → List ℕ) (title : List ℕ) → IsLawful (graph t) → length (graph t).ports.inputs ≤ 4294967296
      → length (graph t).ports.outputs ≤ 4294967296 → (text : List ℕ) × IsTreeText t modules title text
  tree_text canonical t modules title l ins outs = with_form (canonical (graph t) l)
    where
      with_form : (c : Graph) × (to : Renumbering) × (back : Renumbering) × IsIsomorphism to back (graph t) c × IsLawful c × IsCanonical c → (text : List ℕ) × IsTreeText t modules title text
      with_form (c, to, back, same, lawful, canon) =
          let i : length c.ports.inputs ≡ length (graph t).ports.inputs = ap (λ (p : Ports). length p.inputs) same.ports in
          let o : length c.ports.outputs ≡ length (graph t).ports.outputs = ap (λ (p : Ports). length p.outputs) same.ports in
          let text : (text : List ℕ) × IsModuleText c (λ k. modules (back.inst k)) title text = circuit_text c (λ k. modules (back.inst k)) title lawful (omega (arith, i, ins))
          (omega (arith, o, outs)) in
          (text.0, (c, to, back, canon, same, text.1))
