-- What the program has prepared, as what is due.
use Rattle.std.specs.Prelude.{◌≡◌, ℕ, List, Option}
use Rattle.hc_fault.specs.declared.fault.Refused.{Refused}
use Rattle.hc_fault.specs.declared.fault.Refused.TheVariants as refused
use Rattle.hc_outside.specs.Moves.{Holds}
use Rattle.hc_lang.specs.declared.tree.Design.{Design}
use Rattle.hc_dbstate.specs.History.{History}
use Rattle.hc_output.specs.Prepared.{IsReady, IsTextOf}
use Rattle.hc_words.specs.declared.job.Job.{Job}
use Rattle.hc_cli.specs.declared.prepared.Kept.{Kept}
use Rattle.hc_cli.specs.declared.prepared.Prepared.{Prepared}
use Rattle.hc_cli.specs.declared.prepared.Prepared.TheVariants as is
use Rattle.hc_cli.specs.Due.{Due, IsDesignDue, IsDue, IsTextDue, refusal, text_for}
use Rattle.hc_cli.specs.FaultLine.{fault_line}
use Rattle.hc_cli.specs.Histories.{HistoryRule, no_history}

-- the history that is kept
abbrev pub history_in : Kept → History
history_in k = record { entries = k.entries.items; turns = k.turns.items }

abbrev pub kept : Prepared → History
kept is.Refusal = no_history
kept (is.Told f) = no_history
kept (is.BenchTold f k) = history_in k
kept (is.Whole o k) = history_in k

abbrev pub status_of : Prepared → ℕ
status_of is.Refusal = 2
status_of (is.Told f) = 1
status_of (is.BenchTold f k) = 1
status_of (is.Whole o k) = 0

-- these bytes are to be written
abbrev pub IsOutOf : Prepared → List ℕ → Type 0
IsOutOf is.Refusal out = out ≡ refusal.out
IsOutOf (is.Told f) out = out ≡ fault_line f
IsOutOf (is.BenchTold f k) out = out ≡ fault_line f
IsOutOf (is.Whole o k) out = IsTextOf o out

-- what is to be played can be
abbrev pub CanSend : Prepared → Type 0
CanSend (is.Whole o k) = IsReady o
CanSend other = Unit {0}

-- these are the status and the bytes that are due, and the history is one, by the rule, of the calls that are due
pub record Serves (Rule : HistoryRule) (p : Prepared) (d : Due) : Type 0 where
  pub status : status_of p ≡ d.status
  pub out : IsOutOf p d.out
  pub history : Rule (kept p) d.calls
  pub ready : CanSend p

-- the end for a fault
abbrev pub IsToldOf : Refused → Prepared → Type 0
IsToldOf (refused.Fault f) p = p ≡ is.Told f
IsToldOf refused.NoMemory p = ⊥

-- and for one of a bench
abbrev pub IsBenchToldOf : Refused → Kept → Prepared → Type 0
IsBenchToldOf (refused.Fault f) k p = p ≡ is.BenchTold f k
IsBenchToldOf refused.NoMemory k p = ⊥

-- this serves what is due for a design; for a job and what a source had left, or some input where it tells none; for words
abbrev pub ServesDesign : HistoryRule → Job → Design → Prepared → Type 0
ServesDesign Rule job design p = (d : Due) × IsDesignDue job design d × Serves Rule p d

abbrev pub ServesInput : HistoryRule → Job → Option (List ℕ) → Prepared → Type 0
ServesInput Rule job left p = (input : List ℕ) × (d : Due) × Holds left input × IsTextDue job (text_for job input) d × Serves Rule p d

abbrev pub ServesLeft : HistoryRule → List (List ℕ) → Option (List ℕ) → Prepared → Type 0
ServesLeft Rule words left p = (input : List ℕ) × (d : Due) × Holds left input × IsDue words input d × Serves Rule p d
