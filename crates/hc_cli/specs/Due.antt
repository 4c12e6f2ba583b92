-- What the program owes for words and an input: a status, the bytes to be written, and the calls whose history it hands out.
use Rattle.std.specs.Prelude.{ℕ, ◌≡◌, ◌<◌, ◌≤◌, Bool, true, false, if◌then◌else◌, List, [], codes, length, None, Ok, Err}
use Rattle.hc_fault.specs.declared.fault.Fault.{Fault}
use Rattle.hc_fault.specs.declared.fault.FaultKind.{FaultKind}
use Rattle.hc_fault.specs.declared.fault.FaultKind.TheVariants.{TooLong}
use Rattle.hc_workload.specs.Workload.{workload}
use Rattle.hc_words.specs.declared.job.Job.{Job}
use Rattle.hc_words.specs.declared.job.Verb.{Verb}
use Rattle.hc_words.specs.declared.job.Verb.TheVariants as verb
use Rattle.hc_words.specs.Jobs.{IsJob, HasNoJob}
use Rattle.hc_lang.specs.declared.tree.Design.{Design}
use Rattle.hc_lang.specs.Reads.{FirstFault, ParsesTo}
use Rattle.hc_signal.specs.Tree.{graph}
use Rattle.hc_plan.specs.Elaborates.{Elaborated, ElaboratedCall, DesignElaborates}
use Rattle.hc_bench.specs.declared.kinds.Step.{Step}
use Rattle.hc_bench.specs.Listing.{CycleRow}
use Rattle.hc_bench.specs.Steps.{steps_of}
use Rattle.hc_bench.specs.Trace.{IsRun}
use Rattle.hc_output.specs.Output.{IsOutput}
use Rattle.hc_cli.specs.FaultLine.{fault_line}

pub record Due : Type 0 where
  pub status : ℕ
  pub out : List ℕ
  pub calls : List ElaboratedCall

-- the most bytes of a text
abbrev pub limit : ℕ
limit = 4194304

abbrev pub usage : List ℕ
usage = codes "usage: hardcaml COMMAND [--workers N] [--flat] [--seed N]\n"

-- ---- ends

-- for words that are refused
abbrev pub refusal : Due
refusal = record { status = 2; out = usage; calls = [] }

-- for a fault, after the elaboration of these calls
abbrev pub told : Fault → List ElaboratedCall → Due
told f calls = record { status = 1; out = fault_line f; calls = calls }

-- for what the command writes of these calls
abbrev pub done : List ElaboratedCall → List ℕ → Due
done calls out = record { status = 0; out = out; calls = calls }

-- ---- the text of a job

-- whether a command reads its input
abbrev pub reads_input : Verb → Bool
reads_input verb.Verilog = true
reads_input verb.Sim = true
reads_input verb.Both = true
reads_input verb.Stat = true
reads_input verb.Gen = false

-- the input, or the workload of the job's seed where the command reads none
abbrev pub text_for : Job → List ℕ → List ℕ
text_for job input = if reads_input job.verb then input else workload job.seed

-- ---- what is due

-- a fault of a text, which has no path
abbrev pub text_fault : FaultKind → ℕ → Fault
text_fault kind line = record { kind = kind; line = line; path = None }

-- What is due for a job and a design: the first fault of its elaboration, and then of its bench; else what the command
-- writes of the run of its bench.
pub data IsDesignDue (job : Job) (d : Design) : Due → Type 0 where
  broken : (f : Fault) → DesignElaborates d (Err f) → IsDesignDue job d (told f [])
  bench_broken : (e : Elaborated) (f : Fault) → DesignElaborates d (Ok e) → steps_of d (graph e.tree).ports ≡ Err f → IsDesignDue job d (told f e.calls)
  whole : (e : Elaborated) (steps : List Step) (rows : List CycleRow) (out : List ℕ) → DesignElaborates d (Ok e) → steps_of d (graph e.tree).ports ≡ Ok steps
      → IsRun e.tree steps rows → IsOutput job.verb job.flat d.top.name e rows out → IsDesignDue job d (done e.calls out)

-- What is due for a job and a text.
pub data IsTextDue (job : Job) (text : List ℕ) : Due → Type 0 where
  too_long : limit < length text → IsTextDue job text (told (text_fault TooLong 0) [])
  faulty : (kind : FaultKind) (line : ℕ) → length text ≤ limit → FirstFault text kind line → IsTextDue job text (told (text_fault kind line) [])
  parsed : {due : Due} (d : Design) → length text ≤ limit → ParsesTo text d → IsDesignDue job d due → IsTextDue job text due

-- What is due for words and an input.
pub data IsDue (words : List (List ℕ)) (input : List ℕ) : Due → Type 0 where
  refused : HasNoJob words → IsDue words input refusal
  asked : {due : Due} (job : Job) → IsJob words job → IsTextDue job (text_for job input) due → IsDue words input due
