-- Something is due for all words and each input.
use Rattle.std.proofs.Common.{◌≡◌, ℕ, ◌<◌, ◌≤◌, ◌⊎◌, inl, inr, Bool, true, false, List, [], ◌∷◌, ◌++◌, length, Result, Ok, Err, refl, arith}
use Rattle.hc_fault.specs.declared.fault.Fault.{Fault}
use Rattle.hc_fault.specs.declared.fault.FaultKind.{FaultKind}
use Rattle.hc_fault.specs.declared.fault.FaultKind.TheVariants.{TooLong}
use Rattle.hc_words.specs.declared.job.Job.{Job}
use Rattle.hc_words.specs.declared.job.Verb.{Verb}
use Rattle.hc_words.specs.declared.job.Verb.TheVariants as verb
use Rattle.hc_words.specs.Jobs.{HasNoJob, IsJob}
use Rattle.hc_signal.specs.Lawful.{ArePorts}
use Rattle.hc_signal.specs.Occurrences.{HasCombLoop}
use Rattle.hc_signal.specs.Tree.{Tree, IsWhole, graph, none, tree}
use Rattle.hc_signal.specs.declared.signal.Ports.{Ports}
use Rattle.hc_lang.specs.declared.tree.Design.{Design}
use Rattle.hc_lang.specs.Reads.{FirstFault, OneOfTwo, ParsesTo}
use Rattle.hc_bench.specs.declared.kinds.Step.{Step}
use Rattle.hc_bench.specs.Listing.{CycleRow}
use Rattle.hc_bench.specs.Steps.{AreStepsFor, steps_of}
use Rattle.hc_bench.specs.Trace.{IsRun}
use Rattle.hc_plan.specs.Elaborates.{DesignElaborates, Elaborated}
use Rattle.hc_modules.specs.VerilogText.{IsVerilog}
use Rattle.hc_flattext.specs.FlatText.{IsFlatText}
use Rattle.hc_summary.specs.Summary.{IsSummary}
use Rattle.hc_output.specs.Digests.{digest_lines}
use Rattle.hc_output.specs.Output.{IsOutput, IsVerilogFor, listing_for, named_calls}
use Rattle.hc_cli.specs.Due.{Due, IsDesignDue, IsDue, IsTextDue, asked, bench_broken, broken, done, faulty, limit, parsed, refusal, refused, text_fault, text_for, told, too_long, whole}

long_or_fits : (n m : ℕ) → (n < m) ⊎ (m ≤ n)
long_or_fits n m = grind arith

whole_ports : (t : Tree) → IsWhole t → ArePorts (graph t).ports
whole_ports none w = absurd w
whole_ports (tree g kids) w = w.0.ports

module _ (decided : (words : List (List ℕ)) → HasNoJob words ⊎ ((job : Job) × IsJob words job)) (one_of_two : OneOfTwo)
    (answers : (d : Design) → ((r : Result Elaborated Fault) → DesignElaborates d r → ⊥) → ⊥)
    (free : (d : Design) (e : Elaborated) → DesignElaborates d (Ok e) → ¬ HasCombLoop e.tree)
    (whole_tree : (d : Design) (e : Elaborated) → DesignElaborates d (Ok e) → IsWhole e.tree)
    (for_inputs : (d : Design) (ports : Ports) (steps : List Step) → ArePorts ports → steps_of d ports ≡ Ok steps → AreStepsFor ports.inputs steps)
    (runs : (t : Tree) → IsWhole t → ¬ HasCombLoop t → (steps : List Step) → AreStepsFor (graph t).ports.inputs steps → (rows : List CycleRow) × IsRun t steps rows)
    (verilog : (d : Design) (e : Elaborated) → DesignElaborates d (Ok e) → (((text : List ℕ) × IsVerilog e.tree (named_calls e.calls) text) → ⊥) → ⊥)
    (flat_text : (d : Design) (e : Elaborated) (title : List ℕ) → DesignElaborates d (Ok e) → (text : List ℕ) × IsFlatText e.tree title text)
    (summary : (d : Design) (e : Elaborated) (rows : List CycleRow) → DesignElaborates d (Ok e) → (((text : List ℕ) × IsSummary e rows text) → ⊥) → ⊥) where
  some_verilog : (d : Design) (e : Elaborated) (flat : Bool) (title : List ℕ) → DesignElaborates d (Ok e) → (((text : List ℕ) × IsVerilogFor flat title e text) → ⊥) → ⊥
  some_verilog d e false title x = verilog d e x
  some_verilog d e true title x = λ missing. missing (flat_text d e title x)

  some_output : (d : Design) (e : Elaborated) (command : Verb) (flat : Bool) (title : List ℕ) (rows : List CycleRow) → DesignElaborates d (Ok e)
      → (((out : List ℕ) × IsOutput command flat title e rows out) → ⊥) → ⊥
  some_output d e verb.Verilog flat title rows x missing = some_verilog d e flat title x missing
  some_output d e verb.Sim flat title rows x missing = missing (listing_for e rows, refl)
  some_output d e verb.Both flat title rows x missing =
      some_verilog d e flat title x (λ text. missing (text.0 ++ 10 ∷ listing_for e rows, (text.0, text.1, refl)))
  some_output d e verb.Stat flat title rows x missing = summary d e rows x missing
  some_output d e verb.Gen flat title rows x missing =
      summary d e rows x (λ head. some_verilog d e flat title x (λ text.
      missing (head.0 ++ digest_lines text.0 (listing_for e rows), (head.0, text.0, head.1, text.1, refl))))

  some_whole : (job : Job) (d : Design) (e : Elaborated) (steps : List Step) → DesignElaborates d (Ok e) → steps_of d (graph e.tree).ports ≡ Ok steps → ((due : Due) → IsDesignDue job d due → ⊥) → ⊥
  some_whole job d e steps x given missing =
      let w : IsWhole e.tree = whole_tree d e x in
      let run : (rows : List CycleRow) × IsRun e.tree steps rows = runs e.tree w (free d e x) steps (for_inputs d (graph e.tree).ports steps (whole_ports e.tree w) given) in
      some_output d e job.verb job.flat d.top.name run.0 x (λ out. missing (done e.calls out.0) (whole e steps run.0 out.0 x given run.1 out.1))

  some_bench : (job : Job) (d : Design) (e : Elaborated) (answer : Result (List Step) Fault) → DesignElaborates d (Ok e) → steps_of d (graph e.tree).ports ≡ answer
      → ((due : Due) → IsDesignDue job d due → ⊥) → ⊥
  some_bench job d e (Ok steps) x given missing = some_whole job d e steps x given missing
  some_bench job d e (Err f) x given missing = missing (told f e.calls) (bench_broken e f x given)

  some_elaborated : (job : Job) (d : Design) (r : Result Elaborated Fault) → DesignElaborates d r → ((due : Due) → IsDesignDue job d due → ⊥) → ⊥
  some_elaborated job d (Ok e) x missing = some_bench job d e (steps_of d (graph e.tree).ports) x refl missing
  some_elaborated job d (Err f) x missing = missing (told f []) (broken f x)

  some_design : (job : Job) (d : Design) → ((due : Due) → IsDesignDue job d due → ⊥) → ⊥
  some_design job d missing = answers d (λ r x. some_elaborated job d r x missing)

  some_read : (job : Job) (text : List ℕ) → length text ≤ limit → ((d : Design) × ParsesTo text d) ⊎ ((k : FaultKind) × (n : ℕ) × FirstFault text k n) → ((due : Due) → IsTextDue job text due → ⊥) → ⊥
  some_read job text fits (inl d) missing = some_design job d.0 (λ due x. missing due (parsed d.0 fits d.1 x))
  some_read job text fits (inr f) missing = missing (told (text_fault f.0 f.1) []) (faulty f.0 f.1 fits f.2)

  some_text : (job : Job) (text : List ℕ) → (limit < length text) ⊎ (length text ≤ limit) → ((due : Due) → IsTextDue job text due → ⊥) → ⊥
  some_text job text (inl long) missing = missing (told (text_fault TooLong 0) []) (too_long long)
  some_text job text (inr fits) missing = some_read job text fits (one_of_two text) missing

  some_words : (words : List (List ℕ)) (input : List ℕ) → HasNoJob words ⊎ ((job : Job) × IsJob words job) → ((due : Due) → IsDue words input due → ⊥) → ⊥
  some_words words input (inl no_job) missing = missing refusal (refused no_job)
  some_words words input (inr job) missing =
      let text = text_for job.0 input in
      some_text job.0 text (long_or_fits limit (length text)) (λ due x. missing due (asked job.0 job.1 x))

  pub some_due : (words : List (List ℕ)) (input : List ℕ) → ((due : Due) → IsDue words input due → ⊥) → ⊥
  some_due words input = some_words words input (decided words)
