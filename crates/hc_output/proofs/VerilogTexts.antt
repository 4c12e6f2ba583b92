-- An elaborated design has the Verilog of its hierarchy.
use Rattle.std.proofs.Common.{◌≡◌, ℕ, ◌<◌, ◌≤◌, ◌^◌, List, [], ◌∷◌, length, refl, subst, arith}
use Rattle.std.proofs.lemmas.List.{length-map}
use Rattle.std.specs.Prelude.{slice_get, Some}
use Rattle.hc_signal.specs.Checked.{IsChecked}
use Rattle.hc_signal.specs.declared.signal.Instance.{Instance}
use Rattle.hc_signal.specs.Lawful.{IsLawful}
use Rattle.hc_signal.specs.Member.{Has, first, later}
use Rattle.hc_signal.specs.Tree.{IsWhole, Tree, graph, kid, none, tree}
use Rattle.hc_modules.specs.VerilogText.{IsVerilog}
use Rattle.hc_modules.specs.Writable.{IsWritable}
use Rattle.hc_names.specs.Naming.{NamedTree}
use Rattle.hc_output.specs.Output.{named_calls}
use Rattle.hc_plan.specs.Elaborates.{ElaboratedCall}

-- ---- calls with their names

abbrev named_call : ElaboratedCall → NamedTree
named_call x = record { name = x.name; tree = x.tree }

has_named : (calls : List ElaboratedCall) (x : ElaboratedCall) → Has calls x → Has (named_calls calls) (named_call x)
has_named [] y has = elim has [ ]
has_named (x ∷ calls) y first = first
has_named (x ∷ calls) y (later has) = later (has_named calls y has)

from_named : (calls : List ElaboratedCall) (c : NamedTree) → Has (named_calls calls) c → (x : ElaboratedCall) × Has calls x × (named_call x ≡ c)
from_named [] c has = elim has [ ]
from_named (x ∷ calls) c first = (x, first, refl)
from_named (x ∷ calls) c (later has) = let y : (x : ElaboratedCall) × Has calls x × (named_call x ≡ c) = from_named calls c has in (y.0, later y.1, y.2)

-- ---- the text

abbrev pub HierarchiesHaveTexts : Type 0
HierarchiesHaveTexts = (top : Tree) (calls : List NamedTree) → length calls < 2 ^ 64 → ((call : NamedTree) → Has calls call → IsWritable calls call)
    → (((text : List ℕ) × IsVerilog top calls text) → ⊥) → ⊥

lawful_top : (t : Tree) → IsWhole t → IsLawful (graph t)
lawful_top none w = absurd w
lawful_top (tree g kids) w = w.0

module _ (calls : List ElaboratedCall) (whole : (x : ElaboratedCall) → Has calls x → IsWhole x.tree) (checked : (x : ElaboratedCall) → Has calls x → IsChecked (graph x.tree))
    (closed : (x : ElaboratedCall) → Has calls x → (i : ℕ) (it : Instance) → slice_get (graph x.tree).instances i ≡ Some it → (y : ElaboratedCall) × Has calls y × (y.tree ≡ kid x.tree i)) where
  writable : (x : ElaboratedCall) → Has calls x → IsWritable (named_calls calls) (named_call x)
  writable x has =
      let c : IsChecked (graph x.tree) = checked x has in
      let ins : length (graph x.tree).ports.inputs ≤ 128 = c.few_inputs in
      let outs : length (graph x.tree).ports.outputs ≤ 128 = c.few_outputs in
      record {
        lawful = lawful_top x.tree (whole x has);
        few_inputs = omega (arith, ins);
        few_outputs = omega (arith, outs);
        kids = λ i it at. (let y : (y : ElaboratedCall) × Has calls y × (y.tree ≡ kid x.tree i) = closed x has i it at in (named_call y.0, has_named calls y.0 y.1, y.2));
      }

  all_writable : (c : NamedTree) → Has (named_calls calls) c → IsWritable (named_calls calls) c
  all_writable c has =
      let x : (x : ElaboratedCall) × Has calls x × (named_call x ≡ c) = from_named calls c has in
      subst (IsWritable (named_calls calls)) x.2 (writable x.0 x.1)

  pub verilog_text : HierarchiesHaveTexts → (top : Tree) → length calls ≤ 65536 → (((text : List ℕ) × IsVerilog top (named_calls calls) text) → ⊥) → ⊥
  verilog_text texts top few =
      let many : length (named_calls calls) ≡ length calls = length-map calls named_call in
      texts top (named_calls calls) (omega (arith, many, few)) all_writable
