-- The command of the program takes the words of a job, and its matches have the job's values.
use Rattle.std.proofs.Common.{◌≡◌, List, true, cond, codes, ap, ap₂, sym, ◌∙◌, Some, option_map}
use Rattle.std.specs.Str.Parse.{digits_value}
use Rattle.clap.specs.Words.{App, first_of, matches_of, one_of, takes}
use Rattle.hc_words.specs.Items.{Text}
use Rattle.hc_words.specs.Jobs.{IsJob}
use Rattle.hc_words.specs.Reads.{HasJob}
use Rattle.hc_words.specs.Rules.{IsProgram}
use Rattle.hc_words.specs.declared.job.Job.{Job}
use Rattle.hc_words.proofs.Law.{Parses, flat_text, has_item, law}

module _ (a : App) (is : IsProgram a) (words : List Text) (job : Job) (j : IsJob words job) where
  parses : Parses is.0 j.items
  parses = law is.0 is.1 j.items j.spelling.lawful (has_item j.items j.spelling.has_command)

  pub job_taken : takes a words ≡ true
  job_taken = ap₂ takes is.2 j.spelling.words_are ∙ parses.taken

  pub job_values : HasJob (matches_of a words) job
  job_values =
      let same = ap₂ matches_of is.2 j.spelling.words_are in
      record {
        verb = ap (first_of (codes "command")) same ∙ parses.verb ∙ j.verb;
        workers = ap (option_map (digits_value 10)) (ap (one_of (codes "workers")) same ∙ parses.workers) ∙ ap Some (sym j.workers);
        seed = ap (option_map (digits_value 10)) (ap (one_of (codes "seed")) same ∙ parses.seed) ∙ ap Some (sym j.seed);
        flat = ap (one_of (codes "flat")) same ∙ parses.flat ∙ ap Some (flat_text j.items ∙ ap (λ b. cond b (codes "true") (codes "false")) (sym j.flat));
      }
