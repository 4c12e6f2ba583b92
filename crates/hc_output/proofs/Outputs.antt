-- A command writes one output.
use Rattle.std.proofs.Common.{◌≡◌, ℕ, Bool, true, false, List, ◌∷◌, ◌++◌, sym, ap, ap₂, ◌∙◌}
use Rattle.hc_words.specs.declared.job.Verb.{Verb}
use Rattle.hc_words.specs.declared.job.Verb.TheVariants as verb
use Rattle.hc_signal.specs.Tree.{Tree, IsWhole}
use Rattle.hc_bench.specs.Listing.{CycleRow}
use Rattle.hc_plan.specs.Elaborates.{Elaborated}
use Rattle.hc_names.specs.Naming.{NamedTree}
use Rattle.hc_modules.specs.VerilogText.{IsVerilog}
use Rattle.hc_flattext.specs.FlatText.{IsFlatText}
use Rattle.hc_summary.specs.Summary.{IsSummary}
use Rattle.hc_output.specs.Digests.{digest_lines}
use Rattle.hc_output.specs.Output.{IsOutput, IsVerilogFor, listing_for, named_calls}

module _ (one_text : (top : Tree) (calls : List NamedTree) (a b : List ℕ) → IsVerilog top calls a → IsVerilog top calls b → a ≡ b)
    (one_flat : (t : Tree) (title a b : List ℕ) → IsWhole t → IsFlatText t title a → IsFlatText t title b → a ≡ b)
    (one_summary : (e : Elaborated) (rows : List CycleRow) (a b : List ℕ) → IsSummary e rows a → IsSummary e rows b → a ≡ b) where
  verilog_once : (flat : Bool) (title : List ℕ) (e : Elaborated) (a b : List ℕ) → IsWhole e.tree → IsVerilogFor flat title e a → IsVerilogFor flat title e b → a ≡ b
  verilog_once false title e a b whole x y = one_text e.tree (named_calls e.calls) a b x y
  verilog_once true title e a b whole x y = one_flat e.tree title a b whole x y

  pub output_once : (v : Verb) (flat : Bool) (title : List ℕ) (e : Elaborated) (rows : List CycleRow) (a b : List ℕ) → IsWhole e.tree → IsOutput v flat title e rows a
      → IsOutput v flat title e rows b → a ≡ b
  output_once verb.Verilog flat title e rows a b whole x y = verilog_once flat title e a b whole x y
  output_once verb.Sim flat title e rows a b whole x y = x ∙ sym y
  output_once verb.Both flat title e rows a b whole (s, x, p) (t, y, q) = p ∙ ap (λ (l : List ℕ). l ++ 10 ∷ listing_for e rows) (verilog_once flat title e s t whole x y) ∙ sym q
  output_once verb.Stat flat title e rows a b whole x y = one_summary e rows a b x y
  output_once verb.Gen flat title e rows a b whole (s, t, x, p, out) (r, u, y, q, other) =
      out ∙ ap₂ (λ (l m : List ℕ). l ++ digest_lines m (listing_for e rows)) (one_summary e rows s r x y) (verilog_once flat title e t u whole p q) ∙ sym other
