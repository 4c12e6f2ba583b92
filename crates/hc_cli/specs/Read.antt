-- What was read of a text, as what is due for it.
use Rattle.std.specs.Prelude.{ℕ, List, [], Option}
use Rattle.hc_outside.specs.Moves.{Holds}
use Rattle.hc_words.specs.declared.job.Job.{Job}
use Rattle.hc_cli.specs.declared.read.Read.{Read}
use Rattle.hc_cli.specs.declared.read.Read.TheVariants as is
use Rattle.hc_cli.specs.Due.{Due, IsDesignDue, IsTextDue, text_for, told}

-- For each job, the fault is what is due for the text, or what is due for the design is.
abbrev pub IsReadOf : List ℕ → Read → Type 0
IsReadOf text (is.Faulty f) = (job : Job) → IsTextDue job text (told f [])
IsReadOf text (is.Parsed d) = (job : Job) (due : Due) → IsDesignDue job d due → IsTextDue job text due

-- it was read of what a source had left, or of some input where it tells none
abbrev pub IsReadFrom : Option (List ℕ) → Read → Type 0
IsReadFrom left r = (input : List ℕ) × Holds left input × IsReadOf input r

-- it was read of the text of a job
abbrev pub IsReadFor : Job → Option (List ℕ) → Read → Type 0
IsReadFor job left r = (input : List ℕ) × Holds left input × IsReadOf (text_for job input) r
