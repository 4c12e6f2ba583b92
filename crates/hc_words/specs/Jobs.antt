-- The job that a list of words asks for.
use Rattle.std.specs.Prelude.{◌≡◌, ℕ, List, codes, Some, unwrap_or}
use Rattle.std.specs.Str.Parse.{digits_value}
use Rattle.hc_words.specs.Items.{IsSpelledBy, Item, NumberOption, Text, default_number, is_about, name_of, option_name, seed, text_at, workers}
use Rattle.hc_words.specs.declared.job.Job.{Job}

-- the number of an option, or its default
abbrev pub number_of : NumberOption → List Item → ℕ
number_of o xs = digits_value 10 (unwrap_or (text_at (option_name o) xs) (default_number o))

-- The words are items in any order: one command, and each option and the flag at most once.
pub record IsJob (words : List Text) (j : Job) : Type 0 where
  pub items : List Item
  pub spelling : IsSpelledBy words items
  pub verb : text_at (codes "command") items ≡ Some (name_of j.verb)
  pub workers : j.workers ≡ number_of workers items
  pub flat : j.flat ≡ is_about (codes "flat") items
  pub seed : j.seed ≡ number_of seed items

abbrev pub HasNoJob : List Text → Type 0
HasNoJob words = (xs : List Item) → IsSpelledBy words xs → ⊥
