-- What words ask of the source, by their job.
use Rattle.std.proofs.Common.{ℕ, ◌≡◌, Bool, true, false, List, refl, subst}
use Rattle.std.specs.Prelude.{Option, Result, Ok, Err, OnOk}
use Rattle.hc_words.specs.declared.job.Job.{Job}
use Rattle.hc_words.specs.Jobs.{IsJob}
use Rattle.hc_cli.specs.Clauses.{EndsInput, EndsRead}
use Rattle.hc_cli.specs.Due.{reads_input}

-- what is so where a command reads no input is so where the words do not ask for it
pub alone_of : {A : Type 0} (reads : Bool) → (reads ≡ true → ⊥) → (reads ≡ false → A) → A
alone_of true none alone = absurd (none refl)
alone_of false none alone = alone refl

-- the input is read to its end for the words where it is for their job
pub ends_for : {T E : Type 0} (words : List (List ℕ)) (old new : Option (List ℕ)) (job : Job) (result : Result T E) → ((a b : Job) → IsJob words a → IsJob words b → a ≡ b) → IsJob words job
    → (reads_input job.verb ≡ true → OnOk result (EndsInput old new)) → OnOk result (EndsRead words old new)
ends_for words old new job (Ok x) one is end = λ asks. end (subst (λ (j : Job). reads_input j.verb ≡ true) (one asks.0 job asks.1 is) asks.2)
ends_for words old new job (Err e) one is end = tt
