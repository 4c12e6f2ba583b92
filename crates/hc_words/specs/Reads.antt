-- What the matches of the program say, for words that are these items.
use Rattle.std.specs.Prelude.{◌≡◌, List, codes, if◌then◌else◌, option_map, Some, true, unwrap_or}
use Rattle.std.specs.Str.Parse.{digits_value}
use Rattle.clap.specs.Words.{Row, first_of, found_of, first_value, one_of, one_text}
use Rattle.clap.specs.declared.parser.matches.ArgMatches.{ArgMatches}
use Rattle.hc_words.specs.Items.{IsSpelledBy, Item, Text, greatest, is_between, is_command, least, seed as seed_option, name_of, text_at, workers as workers_option}
use Rattle.hc_words.specs.declared.job.Job.{Job}

pub record HasValues (xs : List Item) (m : ArgMatches) : Type 0 where
  pub verb : first_value (found_of m) (codes "command") ≡ text_at (codes "command") xs
  pub workers : one_text (found_of m) (codes "workers") ≡ Some (unwrap_or (text_at (codes "workers") xs) (codes "1"))
  pub seed : one_text (found_of m) (codes "seed") ≡ Some (unwrap_or (text_at (codes "seed") xs) (codes "0"))
  pub flat : one_text (found_of m) (codes "flat") ≡ Some (unwrap_or (text_at (codes "flat") xs) (codes "false"))

abbrev pub ReadsItems : List Text → ArgMatches → Type 0
ReadsItems words m = (xs : List Item) → IsSpelledBy words xs → HasValues xs m

abbrev pub HasForm : List Text → Type 0
HasForm words = (xs : List Item) × IsSpelledBy words xs

-- the values of the matches are lawful
pub record AreLawful (m : ArgMatches) : Type 0 where
  pub verb : Text
  pub verb_is : first_value (found_of m) (codes "command") ≡ Some verb
  pub verb_lawful : is_command verb ≡ true
  pub workers : Text
  pub workers_is : one_text (found_of m) (codes "workers") ≡ Some workers
  pub workers_lawful : is_between (least workers_option) (greatest workers_option) workers ≡ true
  pub seed : Text
  pub seed_is : one_text (found_of m) (codes "seed") ≡ Some seed
  pub seed_lawful : is_between (least seed_option) (greatest seed_option) seed ≡ true

-- the rows of clap's matches have the values of a job
pub record HasJob (rows : List Row) (job : Job) : Type 0 where
  pub verb : first_of (codes "command") rows ≡ Some (name_of job.verb)
  pub workers : option_map (digits_value 10) (one_of (codes "workers") rows) ≡ Some job.workers
  pub seed : option_map (digits_value 10) (one_of (codes "seed") rows) ≡ Some job.seed
  pub flat : one_of (codes "flat") rows ≡ Some (if job.flat then codes "true" else codes "false")
