-- What was prepared is what is due, and nothing else is due.
use Rattle.std.proofs.Common.{ℕ, ◌≡◌, ◌≤◌, ◌<◌, ◌+◌, Bool, true, false, if◌then◌else◌, List, [], length, refl, sym, ap, ap₂, ◌∙◌, subst, arith, replicate}
use Rattle.std.proofs.lemmas.List.{length-replicate}
use Rattle.std.specs.Prelude.{Option, Some, None, Result, Ok, Err, IfOk}
use Rattle.std.proofs.lemmas.Result.{IfOk-weaker}
use Rattle.hc_fault.specs.declared.memory.NoMemory.{NoMemory}
use Rattle.hc_fault.specs.declared.fault.Refused.{Refused}
use Rattle.hc_fault.specs.declared.fault.Refused.TheVariants as refusals
use Rattle.hc_plan.specs.Planning.{FaultIs}
use Rattle.hc_fault.specs.declared.fault.Fault.{Fault}
use Rattle.hc_fault.specs.declared.fault.FaultKind.{FaultKind}
use Rattle.hc_fault.specs.declared.fault.FaultKind.TheVariants.{TooLong}
use Rattle.hc_outside.specs.Moves.{Holds, LongerThan}
use Rattle.hc_workload.specs.Workload.{workload}
use Rattle.hc_words.specs.declared.job.Job.{Job}
use Rattle.hc_words.specs.declared.job.Verb.{Verb}
use Rattle.hc_words.specs.Jobs.{HasNoJob, IsJob}
use Rattle.hc_signal.specs.Tree.{Tree, IsWhole, graph}
use Rattle.hc_signal.specs.Occurrences.{HasCombLoop}
use Rattle.hc_lang.specs.declared.tree.Design.{Design}
use Rattle.hc_lang.specs.Reads.{Answers, AtMostOne, NotBoth, OneFault}
use Rattle.hc_bench.specs.declared.kinds.Step.{Step}
use Rattle.hc_bench.specs.Listing.{CycleRow}
use Rattle.hc_bench.specs.Answers.{Refuses}
use Rattle.hc_bench.specs.Steps.{steps_of}
use Rattle.hc_bench.specs.Trace.{IsRun}
use Rattle.hc_dbstate.specs.History.{History}
use Rattle.hc_plan.specs.Elaborates.{DesignElaborates, Elaborated, ElaboratedCall}
use Rattle.hc_output.specs.Output.{IsOutput}
use Rattle.hc_output.specs.Prepared.{HasOutput, IsReady}
use Rattle.hc_output.specs.declared.kinds.Output.{Output}
use Rattle.hc_cli.specs.declared.prepared.Kept.{Kept}
use Rattle.hc_cli.specs.declared.prepared.Prepared.{Prepared}
use Rattle.hc_cli.specs.declared.prepared.Prepared.TheVariants as is
use Rattle.hc_cli.specs.Clauses.{EndsInput}
use Rattle.hc_cli.specs.Due.{Due, IsDesignDue, IsDue, IsTextDue, asked, bench_broken, broken, done, faulty, parsed, reads_input, refusal, refused, text_fault, text_for, told, too_long, whole}
use Rattle.hc_cli.specs.Histories.{HistoryRule, IsThis, no_history}
use Rattle.hc_cli.specs.Read.{IsReadFor, IsReadFrom, IsReadOf}
use Rattle.hc_cli.specs.declared.read.Read.{Read}
use Rattle.hc_cli.specs.declared.read.Read.TheVariants as reads
use Rattle.hc_cli.specs.Prepared.{IsBenchToldOf, IsToldOf, Serves, ServesDesign, ServesInput, ServesLeft, history_in}

-- ---- what serves what is due

long_one : (n : ℕ) → (text : List ℕ) × (n < length text)
long_one n = (replicate (n + 1) 32, let l : length (replicate (n + 1) 32) ≡ n + 1 = length-replicate {A = ℕ} (n + 1) 32 in omega (arith, l))

pub long_ends : (old new : Option (List ℕ)) → LongerThan old 4194304 → EndsInput old new
long_ends None new long = tt
long_ends (Some text) new long = λ fits. absurd (omega (arith, long, fits))

no_path : (f : Fault) → f.path ≡ None → f ≡ text_fault f.kind f.line
no_path f e = grind arith

-- ---- what was read is due

pub faulty_read : (text : List ℕ) (f : Fault) → length text ≤ 4194304 → Answers text (Err (refusals.Fault f)) → (job : Job) → IsTextDue job text (told f [])
faulty_read text f fits answer job = subst (λ (g : Fault). IsTextDue job text (told g [])) (sym (no_path f answer.1)) (faulty f.kind f.line fits answer.0)

long_from : (n : ℕ) (left : Option (List ℕ)) (f : Fault) → LongerThan left n → ((text : List ℕ) → n < length text → (job : Job) → IsTextDue job text (told f [])) → IsReadFrom left (reads.Faulty f)
long_from n None f long due = let text = long_one n in (text.0, tt, due text.0 text.1)
long_from n (Some text) f long due = (text, refl, due text long)

pub long_read : (left : Option (List ℕ)) → LongerThan left 4194304 → IsReadFrom left (reads.Faulty (text_fault TooLong 0))
long_read left long = long_from 4194304 left (text_fault TooLong 0) long (λ text more job. too_long more)

-- ---- the text of a job

-- a text that the source may have had left
some_input : (left : Option (List ℕ)) → (input : List ℕ) × Holds left input
some_input None = ([], tt)
some_input (Some told) = (told, refl)

text_read : (job : Job) (input : List ℕ) → reads_input job.verb ≡ true → text_for job input ≡ input
text_read job input reads = ap (λ (b : Bool). if b then input else workload job.seed) reads

text_generated : (job : Job) (input : List ℕ) → reads_input job.verb ≡ false → text_for job input ≡ workload job.seed
text_generated job input none = ap (λ (b : Bool). if b then input else workload job.seed) none

-- what was read of the input is read of the text of a job that reads
pub read_for_input : (job : Job) (left : Option (List ℕ)) (r : Read) → reads_input job.verb ≡ true → IsReadFrom left r → IsReadFor job left r
read_for_input job left r reads is = (is.0, is.1, subst (λ (text : List ℕ). IsReadOf text r) (sym (text_read job is.0 reads)) is.2)

-- and what was read of the workload is read of that of a job that does not
pub read_for_workload : (job : Job) (left : Option (List ℕ)) (r : Read) → reads_input job.verb ≡ false → IsReadOf (workload job.seed) r → IsReadFor job left r
read_for_workload job left r none is =
    let input = some_input left in
    (input.0, input.1, subst (λ (text : List ℕ). IsReadOf text r) (sym (text_generated job input.0 none)) is)

-- ---- elaborated designs

module _ (Rule : HistoryRule) where
  serves_bench : (job : Job) (d : Design) (e : Elaborated) (f : Fault) (k : Kept) → DesignElaborates d (Ok e) → steps_of d (graph e.tree).ports ≡ Err f
      → Rule (history_in k) e.calls → ServesDesign Rule job d (is.BenchTold f k)
  serves_bench job d e f k elaborates fault history = (told f e.calls, bench_broken e f elaborates fault, record { status = refl; out = refl; history = history; ready = tt })

  pub serves_refused : (job : Job) (d : Design) (e : Elaborated) (r : Refused) (k : Kept) (p : Prepared) → DesignElaborates d (Ok e)
      → Refuses r (steps_of d (graph e.tree).ports) → IsBenchToldOf r k p → Rule (history_in k) e.calls → ServesDesign Rule job d p
  serves_refused job d e (refusals.Fault f) k p elaborates fault same history = subst (ServesDesign Rule job d) (sym same) (serves_bench job d e f k elaborates fault history)
  serves_refused job d e refusals.NoMemory k p elaborates fault same history = absurd same

  pub serves_whole : (job : Job) (d : Design) (e : Elaborated) (steps : List Step) (o : Output) (k : Kept) → DesignElaborates d (Ok e) → steps_of d (graph e.tree).ports ≡ Ok steps
      → HasOutput job.verb job.flat d.top.name e steps o → IsReady o → Rule (history_in k) e.calls → ServesDesign Rule job d (is.Whole o k)
  serves_whole job d e steps o k elaborates given (rows, out, run, output, text) ready history =
      (done e.calls out, whole e steps rows out elaborates given run output, record { status = refl; out = text; history = history; ready = ready })

  -- the history of the database is one by the rule
  pub by_rule : (job : Job) (d : Design) (p : Prepared) (h : History) (calls : List ElaboratedCall) → ServesDesign (IsThis h calls) job d p → Rule h calls → ServesDesign Rule job d p
  by_rule job d p h calls s is = (
    s.0,
    s.1,
    record { status = s.2.status; out = s.2.out; history = subst (λ (g : History). Rule g s.0.calls) (sym s.2.history.0) (subst (Rule h) (sym s.2.history.1) is); ready = s.2.ready },
  )

-- ---- without an elaborated design

module _ (Rule : HistoryRule) (no_calls : Rule no_history []) where
  pub serves_refusal : Serves Rule is.Refusal refusal
  serves_refusal = record { status = refl; out = refl; history = no_calls; ready = tt }

  pub serves_told : (f : Fault) → Serves Rule (is.Told f) (told f [])
  serves_told f = record { status = refl; out = refl; history = no_calls; ready = tt }

  pub refused_left : (words : List (List ℕ)) (left : Option (List ℕ)) → HasNoJob words → ServesLeft Rule words left is.Refusal
  refused_left words None none = ([], refusal, tt, refused none, serves_refusal)
  refused_left words (Some text) none = (text, refusal, refl, refused none, serves_refusal)

  pub asked_left : (words : List (List ℕ)) (left : Option (List ℕ)) (job : Job) (p : Prepared) → IsJob words job → ServesInput Rule job left p → ServesLeft Rule words left p
  asked_left words left job p j s = (s.0, s.1, s.2, asked job j s.3, s.4)

  pub told_input : (job : Job) (left : Option (List ℕ)) (f : Fault) → IsReadFor job left (reads.Faulty f) → ServesInput Rule job left (is.Told f)
  told_input job left f r = (r.0, told f [], r.1, r.2 job, serves_told f)

  pub parsed_input : (job : Job) (left : Option (List ℕ)) (d : Design) (p : Prepared) → IsReadFor job left (reads.Parsed d) → ServesDesign Rule job d p → ServesInput Rule job left p
  parsed_input job left d p r s = (r.0, s.0, r.1, r.2 job s.0 s.1, s.2)

  pub serves_broken : (job : Job) (d : Design) (r : Refused) (result : Result Prepared NoMemory) → FaultIs (λ f. DesignElaborates d (Err f)) r → IfOk result (IsToldOf r)
      → IfOk result (ServesDesign Rule job d)
  serves_broken job d r result fault are = IfOk-weaker result _ _ (λ p told_of. by r p fault told_of) are
    where
      by : (r : Refused) (p : Prepared) → FaultIs (λ f. DesignElaborates d (Err f)) r → IsToldOf r p → ServesDesign Rule job d p
      by (refusals.Fault f) p fault same = subst (ServesDesign Rule job d) (sym same) (told f [], broken f fault, serves_told f)
      by refusals.NoMemory p fault same = absurd same

-- ---- at most one is due

ok_err : {A F : Type 0} (x : A) (f : F) → ◌≡◌ {A = Result A F} (Ok x) (Err f) → ⊥
ok_err x f e = cc

ok_is : {A F : Type 0} (x y : A) → ◌≡◌ {A = Result A F} (Ok x) (Ok y) → x ≡ y
ok_is x y e = cc

err_is : {A F : Type 0} (x y : F) → ◌≡◌ {A = Result A F} (Err x) (Err y) → x ≡ y
err_is x y e = cc

module _ (one_job : (words : List (List ℕ)) (a b : Job) → IsJob words a → IsJob words b → a ≡ b) (one_design : AtMostOne) (one_fault : OneFault) (not_two : NotBoth)
    (elaborates_once : (d : Design) (r s : Result Elaborated Fault) → DesignElaborates d r → DesignElaborates d s → r ≡ s)
    (free : (d : Design) (e : Elaborated) → DesignElaborates d (Ok e) → ¬ HasCombLoop e.tree)
    (whole_tree : (d : Design) (e : Elaborated) → DesignElaborates d (Ok e) → IsWhole e.tree)
    (one_run : (t : Tree) → IsWhole t → ¬ HasCombLoop t → (steps : List Step) (rows others : List CycleRow) → IsRun t steps rows → IsRun t steps others → rows ≡ others)
    (one_output : (verb : Verb) (flat : Bool) (title : List ℕ) (e : Elaborated) (rows : List CycleRow) (a b : List ℕ) → IsWhole e.tree → IsOutput verb flat title e rows a
    → IsOutput verb flat title e rows b → a ≡ b) where
  -- one output of one elaborated design
  outputs_once : (job : Job) (d : Design) (e : Elaborated) (steps others : List Step) (rows more : List CycleRow) (a b : List ℕ) → DesignElaborates d (Ok e)
      → steps_of d (graph e.tree).ports ≡ Ok steps → steps_of d (graph e.tree).ports ≡ Ok others → IsRun e.tree steps rows → IsRun e.tree others more
      → IsOutput job.verb job.flat d.top.name e rows a → IsOutput job.verb job.flat d.top.name e more b → a ≡ b
  outputs_once job d e steps others rows more a b x s t run ran o p =
      let w : IsWhole e.tree = whole_tree d e x in
      let same : steps ≡ others = ok_is steps others (sym s ∙ t) in
      let rows_same : rows ≡ more = one_run e.tree w (free d e x) others rows more (subst (λ (l : List Step). IsRun e.tree l rows) same run) ran in
      one_output job.verb job.flat d.top.name e more a b w (subst (λ (l : List CycleRow). IsOutput job.verb job.flat d.top.name e l a) rows_same o) p

  same_design : (d : Design) (e g : Elaborated) → DesignElaborates d (Ok e) → DesignElaborates d (Ok g) → e ≡ g
  same_design d e g x y = ok_is e g (elaborates_once d (Ok e) (Ok g) x y)

  told_once : (d : Design) (e g : Elaborated) (f h : Fault) → DesignElaborates d (Ok e) → DesignElaborates d (Ok g) → steps_of d (graph e.tree).ports ≡ Err f
      → steps_of d (graph g.tree).ports ≡ Err h → told f e.calls ≡ told h g.calls
  told_once d e g f h x y a b =
      let same : e ≡ g = same_design d e g x y in
      let here : steps_of d (graph g.tree).ports ≡ Err f = subst (λ (k : Elaborated). steps_of d (graph k.tree).ports ≡ Err f) same a in
      ap₂ (λ (k : Fault) (l : Elaborated). told k l.calls) (err_is f h (sym here ∙ b)) same

  not_mixed : (d : Design) (e g : Elaborated) (f : Fault) (steps : List Step) → DesignElaborates d (Ok e) → DesignElaborates d (Ok g)
      → steps_of d (graph e.tree).ports ≡ Err f → steps_of d (graph g.tree).ports ≡ Ok steps → ⊥
  not_mixed d e g f steps x y a b =
      let here : steps_of d (graph g.tree).ports ≡ Err f = subst (λ (k : Elaborated). steps_of d (graph k.tree).ports ≡ Err f) (same_design d e g x y) a in
      ok_err steps f (sym b ∙ here)

  whole_once : (job : Job) (d : Design) (e g : Elaborated) (steps others : List Step) (rows more : List CycleRow) (a b : List ℕ) → DesignElaborates d (Ok e) → DesignElaborates d (Ok g)
      → steps_of d (graph e.tree).ports ≡ Ok steps → steps_of d (graph g.tree).ports ≡ Ok others → IsRun e.tree steps rows → IsRun g.tree others more
      → IsOutput job.verb job.flat d.top.name e rows a → IsOutput job.verb job.flat d.top.name g more b → done e.calls a ≡ done g.calls b
  whole_once job d e g steps others rows more a b x y s t run ran o p =
      let same : e ≡ g = same_design d e g x y in
      let given : steps_of d (graph g.tree).ports ≡ Ok steps = subst (λ (k : Elaborated). steps_of d (graph k.tree).ports ≡ Ok steps) same s in
      let rows_here : IsRun g.tree steps rows = subst (λ (k : Elaborated). IsRun k.tree steps rows) same run in
      let out_here : IsOutput job.verb job.flat d.top.name g rows a = subst (λ (k : Elaborated). IsOutput job.verb job.flat d.top.name k rows a) same o in
      ap₂ (λ (k : Elaborated) (l : List ℕ). done k.calls l) same (outputs_once job d g steps others rows more a b y given t rows_here ran out_here p)

  design_once : (job : Job) (d : Design) (x y : Due) → IsDesignDue job d x → IsDesignDue job d y → x ≡ y
  design_once job d x y (broken f k) (broken g m) = ap (λ (h : Fault). told h []) (err_is f g (elaborates_once d (Err f) (Err g) k m))
  design_once job d x y (broken f k) (bench_broken e g m n) = absurd (ok_err e f (elaborates_once d (Ok e) (Err f) m k))
  design_once job d x y (broken f k) (whole e s r o m n u v) = absurd (ok_err e f (elaborates_once d (Ok e) (Err f) m k))
  design_once job d x y (bench_broken e f k l) (broken g m) = absurd (ok_err e g (elaborates_once d (Ok e) (Err g) k m))
  design_once job d x y (bench_broken e f k l) (bench_broken g h m n) = told_once d e g f h k m l n
  design_once job d x y (bench_broken e f k l) (whole g s r o m n u v) = absurd (not_mixed d e g f s k m l n)
  design_once job d x y (whole e s r o k l u v) (broken f m) = absurd (ok_err e f (elaborates_once d (Ok e) (Err f) k m))
  design_once job d x y (whole e s r o k l u v) (bench_broken g f m n) = absurd (not_mixed d g e f s m k n l)
  design_once job d x y (whole e s r o k l u v) (whole g t q p m n i j) = whole_once job d e g s t r q o p k m l n u i v j

  text_once : (job : Job) (text : List ℕ) (x y : Due) → IsTextDue job text x → IsTextDue job text y → x ≡ y
  text_once job text x y (too_long a) (too_long b) = refl
  text_once job text x y (too_long a) (faulty k n b f) = absurd (omega (arith, a, b))
  text_once job text x y (too_long a) (parsed d b p due) = absurd (omega (arith, a, b))
  text_once job text x y (faulty k n a f) (too_long b) = absurd (omega (arith, a, b))
  text_once job text x y (faulty k n a f) (faulty j m b g) = let same = one_fault text k j n m f g in ap₂ (λ (kind : FaultKind) (line : ℕ). told (text_fault kind line) []) same.0 same.1
  text_once job text x y (faulty k n a f) (parsed d b p due) = absurd (not_two text d k n p f)
  text_once job text x y (parsed d a p due) (too_long b) = absurd (omega (arith, a, b))
  text_once job text x y (parsed d a p due) (faulty k n b f) = absurd (not_two text d k n p f)
  text_once job text x y (parsed d a p due) (parsed e b q other) =
      let same : d ≡ e = one_design text d e p.reads q.reads in
      design_once job e x y (subst (λ (d : Design). IsDesignDue job d x) same due) other

  pub due_once : (words : List (List ℕ)) (input : List ℕ) (x y : Due) → IsDue words input x → IsDue words input y → x ≡ y
  due_once words input x y (refused a) (refused b) = refl
  due_once words input x y (refused a) (asked job j due) = absurd (a j.items j.spelling)
  due_once words input x y (asked job j due) (refused b) = absurd (b j.items j.spelling)
  due_once words input x y (asked job j due) (asked other k more) =
      let same : job ≡ other = one_job words job other j k in
      text_once other (text_for other input) x y (subst (λ (g : Job). IsTextDue g (text_for g input) x) same due) more
