-- The words of the top call's clauses.
use Rattle.std.specs.Prelude.{ℕ, ◌≡◌, ◌≤◌, ◌⊎◌, true, List, Option, IfSome, length}
use Rattle.std.specs.Io.KnownBytes.{Appends, IsAtEnd}
use Rattle.hc_outside.specs.Moves.{AppendsFront, Holds}
use Rattle.hc_dbstate.specs.History.{History}
use Rattle.hc_words.specs.declared.job.Job.{Job}
use Rattle.hc_words.specs.Jobs.{IsJob}
use Rattle.hc_cli.specs.Due.{Due, IsDue, limit, reads_input}
use Rattle.hc_cli.specs.Histories.{HistoryRule}
use Rattle.hc_cli.specs.declared.ending.Outcome.{Outcome}

-- the entries and the turns that are handed out
abbrev pub history_of : Outcome → History
history_of o = record { entries = o.entries.items; turns = o.turns.items }

-- a status whose bytes were all written
abbrev pub IsWritten : ℕ → Type 0
IsWritten status = (status ≡ 0) ⊎ (status ≡ 1) ⊎ (status ≡ 2)

-- This holds of what is due for the words and the input that the source had left, or for some input where it tells none.
abbrev pub ForDue : List (List ℕ) → Option (List ℕ) → (Due → Type 0) → Type 0
ForDue words left P = (input : List ℕ) × (d : Due) × Holds left input × IsDue words input d × P d

-- The status is the one that is due, the sink took exactly what is due, and the history is one, by the rule, of the calls that
-- are due.
pub record IsDone (Rule : HistoryRule) (o : Outcome) (old new : Option (List ℕ)) (d : Due) : Type 0 where
  pub status : o.status ≡ d.status
  pub out : Appends old new d.out
  pub history : Rule (history_of o) d.calls

-- The sink took a front of what is due, and the history is one, by the rule, of the calls that are due.
pub record IsCut (Rule : HistoryRule) (o : Outcome) (old new : Option (List ℕ)) (d : Due) : Type 0 where
  pub out : AppendsFront old new d.out
  pub history : Rule (history_of o) d.calls

-- the status is that of want of memory or the one that is due
abbrev pub IsDueOrNoMemory : List (List ℕ) → Option (List ℕ) → ℕ → Type 0
IsDueOrNoMemory words left status = (status ≡ 5) ⊎ ForDue words left (λ d. status ≡ d.status)

-- ---- the source

-- the words ask for a command that reads its input
abbrev pub AskForInput : List (List ℕ) → Type 0
AskForInput words = (job : Job) × IsJob words job × (reads_input job.verb ≡ true)

-- what the source had left and its count of faults are as they were
abbrev pub IsLeftAlone : Option (List ℕ) → Option (List ℕ) → ℕ → ℕ → Type 0
IsLeftAlone old new before now = (new ≡ old) × (now ≡ before)

-- what the source had left was read to its end, unless it is longer than the limit
abbrev pub EndsInput : Option (List ℕ) → Option (List ℕ) → Type 0
EndsInput old new = IfSome old (λ text. length text ≤ limit → IsAtEnd new)

-- and so it is for words that ask for it
abbrev pub EndsRead : List (List ℕ) → Option (List ℕ) → Option (List ℕ) → Type 0
EndsRead words old new = AskForInput words → EndsInput old new
