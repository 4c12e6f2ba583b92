-- What the parser reads of each argument.
use Rattle.std.specs.Prelude.{◌≡◌, List, [], ◌∷◌, Some, true, codes, map}
use Rattle.std.specs.Borrow.{Bor}
use Rattle.clap.specs.Words.{App, Rule, Text, new_app, new_rule, with_rule}
use Rattle.clap.specs.Simple.{on_top}
use Rattle.clap.specs.declared.builder.value_parser.ValueParser.{ValueParser}
use Rattle.clap.specs.declared.builder.value_parser.ValueParser.TheVariants as vp
use Rattle.clap.specs.declared.builder.action.ArgAction.TheVariants.{SetTrue}
use Rattle.hc_words.specs.Items.{command_names, default_number, greatest, least, seed, workers}

abbrev pub command_rule : Bor (List (Bor Text)) → Rule
command_rule names =
    record (new_rule (codes "command")) { required = true; parser = Some (vp.Names names) }

abbrev pub option_rule : Text → ValueParser → Text → Rule
option_rule id parser default =
    record (new_rule id) { long = Some id; parser = Some parser; defaults = default ∷ [] }

abbrev pub workers_rule : Rule
workers_rule = option_rule (codes "workers") (vp.Unsigned (least workers) (greatest workers)) (default_number workers)

abbrev pub seed_rule : Rule
seed_rule = option_rule (codes "seed") (vp.Unsigned (least seed) (greatest seed)) (default_number seed)

abbrev pub flat_rule : Rule
flat_rule = record (new_rule (codes "flat")) { long = Some (codes "flat"); action = Some SetTrue }

-- an argument whose values are the names of the commands
abbrev pub IsCommandRule : Rule → Type 0
IsCommandRule r = (names : Bor (List (Bor Text))) × (map (λ s. s.now) names.now ≡ command_names) × (r ≡ command_rule names)

-- the command of the program, with a list of names of commands
abbrev pub app : Bor (List (Bor Text)) → App
app names = with_rule
    (with_rule
    (with_rule
    (with_rule (on_top (λ s. record s { no_binary_name = true }) (new_app (codes "hardcaml"))) (command_rule names))
    workers_rule) seed_rule) flat_rule

-- the command of the program
abbrev pub IsProgram : App → Type 0
IsProgram a = (names : Bor (List (Bor Text))) × (map (λ s. s.now) names.now ≡ command_names) × (a ≡ app names)
