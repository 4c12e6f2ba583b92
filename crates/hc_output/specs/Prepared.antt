-- What is prepared for a command, as the bytes that it stands for.
use Rattle.std.specs.Prelude.{ℕ, ◌≡◌, Bool, List, [], ◌++◌, codes, Option, Some, None}
use Rattle.hc_words.specs.declared.job.Verb.{Verb}
use Rattle.hc_signal.specs.Graph.{Graph}
use Rattle.hc_signal.specs.Checked.{IsChecked}
use Rattle.hc_signal.specs.FlatGraph.{IsFlat}
use Rattle.hc_signal.specs.Occurrences.{HasCombLoop}
use Rattle.hc_signal.specs.Tree.{IsWhole, leaf}
use Rattle.hc_canon.specs.FormView.{FormView}
use Rattle.hc_dbstate.specs.declared.hier.Hier.{Hier}
use Rattle.hc_dbstate.specs.Elaboration.{hier_view}
use Rattle.hc_dbstate.specs.Unfolding.{unfolding_of}
use Rattle.hc_bench.specs.declared.kinds.Step.{Step}
use Rattle.hc_bench.specs.Steps.{AreStepsFor}
use Rattle.hc_bench.specs.Listing.{CycleRow, listing}
use Rattle.hc_bench.specs.Trace.{IsRun}
use Rattle.hc_plan.specs.Elaborates.{Elaborated}
use Rattle.hc_summary.specs.Summary.{IsSummary}
use Rattle.hc_output.specs.Digests.{ended_line}
use Rattle.hc_output.specs.Output.{IsOutput, IsVerilogFor}
use Rattle.hc_output.specs.declared.kinds.ListingForm.{ListingForm}
use Rattle.hc_output.specs.declared.kinds.ListingForm.TheVariants as form
use Rattle.hc_output.specs.declared.kinds.Played.{Played}
use Rattle.hc_output.specs.declared.kinds.Output.{Output}

-- The flattened circuit of the tree of a hierarchy's top entry.
pub record IsFlatOf (entries : List FormView) (h : Hier) (g : Graph) : Type 0 where
  pub flat : IsFlat (unfolding_of entries (hier_view h).own.entry) g
  pub whole : IsWhole (unfolding_of entries (hier_view h).own.entry)
  pub free : ¬ HasCombLoop (unfolding_of entries (hier_view h).own.entry)
  pub checked : IsChecked g
  pub instances : g.instances ≡ []
  pub no_loop : ¬ HasCombLoop (leaf g)

-- A circuit that the flat simulator takes, and steps for its inputs.
pub record IsPlayable (g : Graph) (ss : List Step) : Type 0 where
  pub checked : IsChecked g
  pub instances : g.instances ≡ []
  pub no_loop : ¬ HasCombLoop (leaf g)
  pub steps : AreStepsFor g.ports.inputs ss

-- the listing of the run of a circuit
abbrev pub IsListing : Played → List ℕ → Type 0
IsListing p out = (rows : List CycleRow) × IsRun (leaf p.circuit) p.bench.steps rows × (out ≡ listing p.circuit.ports.outputs rows)

-- what is written of a listing: the listing itself, or its digest line
abbrev pub written_listing : ListingForm → List ℕ → List ℕ
written_listing form.Whole rows = rows
written_listing form.Digest rows = ended_line (codes "rows ") rows

-- what is to be played can be
abbrev pub CanPlay : Option Played → Type 0
CanPlay None = Unit {0}
CanPlay (Some p) = IsPlayable p.circuit p.bench.steps

-- the text, and after it what is written of the listing of what is to be played
abbrev pub IsWithListing : List ℕ → Option Played → List ℕ → Type 0
IsWithListing text None out = out ≡ text
IsWithListing text (Some p) out = (rows : List ℕ) × IsListing p rows × (out ≡ text ++ written_listing p.form rows)

abbrev pub IsReady : Output → Type 0
IsReady o = CanPlay o.played

abbrev pub IsTextOf : Output → List ℕ → Type 0
IsTextOf o out = IsWithListing o.text.items o.played out

-- the output is what the command writes for the elaborated design, whose bench has these steps
abbrev pub HasOutput : Verb → Bool → List ℕ → Elaborated → List Step → Output → Type 0
HasOutput verb flat title e steps o = (rows : List CycleRow) × (out : List ℕ) × IsRun e.tree steps rows × IsOutput verb flat title e rows out × IsTextOf o out

-- the summary, and after it the digest line of the Verilog
abbrev pub IsDigestedVerilog : Bool → List ℕ → Elaborated → List CycleRow → List ℕ → Type 0
IsDigestedVerilog flat title e rows out =
    (summary : List ℕ) × (text : List ℕ) × IsSummary e rows summary × IsVerilogFor flat title e text
    × (out ≡ summary ++ ended_line (codes "verilog ") text)
