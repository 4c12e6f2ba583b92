-- What a command writes for an elaborated design.
use Rattle.std.specs.Prelude.{ℕ, ◌≡◌, Bool, true, false, List, ◌∷◌, ◌++◌, map}
use Rattle.hc_words.specs.declared.job.Verb.{Verb}
use Rattle.hc_words.specs.declared.job.Verb.TheVariants as verb
use Rattle.hc_signal.specs.Tree.{graph}
use Rattle.hc_bench.specs.Listing.{CycleRow, listing}
use Rattle.hc_plan.specs.Elaborates.{Elaborated, ElaboratedCall}
use Rattle.hc_names.specs.Naming.{NamedTree}
use Rattle.hc_modules.specs.VerilogText.{IsVerilog}
use Rattle.hc_flattext.specs.FlatText.{IsFlatText}
use Rattle.hc_summary.specs.Summary.{IsSummary}
use Rattle.hc_output.specs.Digests.{digest_lines}

-- the calls with the names that they request
abbrev pub named_calls : List ElaboratedCall → List NamedTree
named_calls calls = map (λ (c : ElaboratedCall). let t : NamedTree = record { name = c.name; tree = c.tree } in t) calls

-- the Verilog: the modules of the hierarchy, or flat, the one module of the flattened circuit under this title
abbrev pub IsVerilogFor : Bool → List ℕ → Elaborated → List ℕ → Type 0
IsVerilogFor false title e text = IsVerilog e.tree (named_calls e.calls) text
IsVerilogFor true title e text = IsFlatText e.tree title text

-- the listing of the rows of a run
abbrev pub listing_for : Elaborated → List CycleRow → List ℕ
listing_for e rows = listing (graph e.tree).ports.outputs rows

abbrev pub IsOutput : Verb → Bool → List ℕ → Elaborated → List CycleRow → List ℕ → Type 0
IsOutput verb.Verilog flat title e rows out = IsVerilogFor flat title e out
IsOutput verb.Sim flat title e rows out = out ≡ listing_for e rows
IsOutput verb.Both flat title e rows out = (text : List ℕ) × IsVerilogFor flat title e text × (out ≡ text ++ 10 ∷ listing_for e rows)
IsOutput verb.Stat flat title e rows out = IsSummary e rows out
IsOutput verb.Gen flat title e rows out =
    (summary : List ℕ) × (text : List ℕ) × IsSummary e rows summary × IsVerilogFor flat title e text
    × (out ≡ summary ++ digest_lines text (listing_for e rows))

-- a command that writes the summary
abbrev pub HasSummary : Verb → Type 0
HasSummary verb.Stat = Unit {0}
HasSummary verb.Gen = Unit {0}
HasSummary other = ⊥
