-- The words of the command line as items: a command, options with their numbers, and a flag.
use Rattle.std.specs.Prelude.{◌≡◌, ℕ, Bool, true, not, ◌&&◌, List, [], ◌∷◌, ◌++◌, map}
use Rattle.std.specs.Prelude.{codes, length, Option, option_map, nat_lt, nat_le, find}
use Rattle.std.specs.List.{list_all, list_any}
use Rattle.std.specs.Str.{bytes_eq}
use Rattle.std.specs.Str.Parse.{digits_value}
use Rattle.std.specs.Char.{is_ascii_digit}
use Rattle.hc_words.specs.declared.job.Verb.{Verb}
use Rattle.hc_words.specs.declared.job.Verb.TheVariants as verb

abbrev pub Text : Type 0
Text = List ℕ

-- ---- commands

abbrev pub name_of : Verb → Text
name_of verb.Verilog = codes "verilog"
name_of verb.Sim = codes "sim"
name_of verb.Both = codes "both"
name_of verb.Stat = codes "stat"
name_of verb.Gen = codes "gen"

abbrev pub commands : List Verb
commands = verb.Verilog ∷ verb.Sim ∷ verb.Both ∷ verb.Stat ∷ verb.Gen ∷ []

abbrev pub command_names : List Text
command_names = map name_of commands

abbrev pub is_command : Text → Bool
is_command v = list_any (λ name. bytes_eq name v) command_names

-- ---- options with a number

pub data NumberOption : Type 0 where
  workers : NumberOption
  seed : NumberOption

abbrev pub option_name : NumberOption → Text
option_name workers = codes "workers"
option_name seed = codes "seed"

abbrev pub least : NumberOption → ℕ
least workers = 1
least seed = 0

abbrev pub greatest : NumberOption → ℕ
greatest workers = 64
greatest seed = 18446744073709551615

-- the number where the option is absent
abbrev pub default_number : NumberOption → Text
default_number workers = codes "1"
default_number seed = codes "0"

-- ---- items

-- a command; an option with its number, as one word or as two; or the flag
pub data Item : Type 0 where
  command : Text → Item
  joined : NumberOption → Text → Item
  split : NumberOption → Text → Item
  flat : Item

abbrev pub spelled : Item → List Text
spelled (command v) = v ∷ []
spelled (joined o n) = (codes "--" ++ (option_name o ++ (codes "=" ++ n))) ∷ []
spelled (split o n) = (codes "--" ++ option_name o) ∷ n ∷ []
spelled flat = codes "--flat" ∷ []

-- what the item is about
abbrev pub id_of : Item → Text
id_of (command v) = codes "command"
id_of (joined o n) = option_name o
id_of (split o n) = option_name o
id_of flat = codes "flat"

abbrev pub value_of : Item → Text
value_of (command v) = v
value_of (joined o n) = n
value_of (split o n) = n
value_of flat = codes "true"

abbrev pub spelled_all : List Item → List Text
spelled_all [] = []
spelled_all (x ∷ xs) = spelled x ++ spelled_all xs

-- 1 to 20 decimal digits
abbrev pub is_decimal : Text → Bool
is_decimal n =
    nat_lt 0 (length n) && (nat_le (length n) 20 && list_all is_ascii_digit n)

abbrev pub is_between : ℕ → ℕ → Text → Bool
is_between low high n =
    is_decimal n && (nat_le low (digits_value 10 n) && nat_le (digits_value 10 n) high)

abbrev pub is_lawful : Item → Bool
is_lawful (command v) = is_command v
is_lawful (joined o n) = is_between (least o) (greatest o) n
is_lawful (split o n) = is_between (least o) (greatest o) n
is_lawful flat = true

-- an item of the list is about this
abbrev pub is_about : Text → List Item → Bool
is_about id xs = list_any (λ y. bytes_eq id (id_of y)) xs

abbrev pub clashes : Item → List Item → Bool
clashes x xs = is_about (id_of x) xs

-- each item is lawful, and no two are about the same
abbrev pub are_lawful : List Item → Bool
are_lawful [] = true
are_lawful (x ∷ xs) = is_lawful x && (not (clashes x xs) && are_lawful xs)

-- what the items say about this
abbrev pub item_at : Text → List Item → Option Item
item_at id xs = find (λ x. bytes_eq (id_of x) id) xs

abbrev pub text_at : Text → List Item → Option Text
text_at id xs = option_map value_of (item_at id xs)

-- the words are these items, one of which is a command
pub record IsSpelledBy (words : List Text) (xs : List Item) : Type 0 where
  pub words_are : words ≡ spelled_all xs
  pub lawful : are_lawful xs ≡ true
  pub has_command : is_about (codes "command") xs ≡ true
