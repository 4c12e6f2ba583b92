-- The test of the form, word by word.
use Rattle.std.specs.Prelude.{ℕ, Bool, true, false, not, ◌&&◌, ◌||◌, List, [], ◌∷◌, codes, drop, take, if◌then◌else◌, length, Option, Some, None}
use Rattle.std.specs.Option.{option_map_or}
use Rattle.std.specs.Str.{bytes_eq}
use Rattle.hc_words.specs.Items.{Text, greatest, is_between, is_command, least, seed, workers}
use Rattle.hc_words.specs.declared.form.Awaits.{Awaits}
use Rattle.hc_words.specs.declared.form.Awaits.TheVariants as awaits
use Rattle.hc_words.specs.declared.form.Seen.{Seen}

-- what follows the prefix
abbrev pub joined_number : Text → Text → Option Text
joined_number prefix word =
    if bytes_eq (take (length prefix) word) prefix then Some (drop (length prefix) word) else None

abbrev pub nothing_seen : Seen
nothing_seen = record { command = false; workers = false; seed = false; flat = false; awaits = awaits.Nothing }

abbrev pub awaited : ℕ → ℕ → Seen → Text → Option Seen
awaited low high seen word =
    if is_between low high word then Some (record seen { awaits = awaits.Nothing }) else None

abbrev pub command_word : Seen → Text → Option Seen
command_word seen word =
    if seen.command || not (is_command word) then None else Some (record seen { command = true })

abbrev pub joined_seed : Seen → Text → Option Text → Option Seen
joined_seed seen word (Some number) =
    if seen.seed || not (is_between (least seed) (greatest seed) number) then None else Some (record seen { seed = true })
joined_seed seen word None = command_word seen word

abbrev pub joined_word : Seen → Text → Option Text → Option Seen
joined_word seen word (Some number) =
    if seen.workers || not (is_between (least workers) (greatest workers) number) then None else Some (record seen { workers = true })
joined_word seen word None = joined_seed seen word (joined_number (codes "--seed=") word)

abbrev pub item_word : Seen → Text → Option Seen
item_word seen word =
    if bytes_eq word (codes "--workers")
    then (if seen.workers then None else Some (record seen { workers = true; awaits = awaits.Workers }))
    else (if bytes_eq word (codes "--seed")
    then (if seen.seed then None else Some (record seen { seed = true; awaits = awaits.Seed }))
    else (if bytes_eq word (codes "--flat")
    then (if seen.flat then None else Some (record seen { flat = true }))
    else joined_word seen word (joined_number (codes "--workers=") word)))

abbrev pub stepped_at : Awaits → Seen → Text → Option Seen
stepped_at awaits.Nothing seen word = item_word seen word
stepped_at awaits.Workers seen word = awaited (least workers) (greatest workers) seen word
stepped_at awaits.Seed seen word = awaited (least seed) (greatest seed) seen word

abbrev pub stepped : Seen → Text → Option Seen
stepped seen word = stepped_at seen.awaits seen word

abbrev pub is_nothing : Awaits → Bool
is_nothing awaits.Nothing = true
is_nothing _ = false

abbrev pub passes : Seen → List Text → Bool
passes seen [] = seen.command && is_nothing seen.awaits
passes seen (word ∷ rest) = option_map_or (λ s. passes s rest) (stepped seen word) false
