-- The walk of the parser over one item.
use Rattle.std.proofs.Common.{◌≡◌, ◌<◌, ℕ, Bool, true, false, cond, ◌&&◌, ◌||◌, List, [], ◌∷◌, ◌++◌, codes}
use Rattle.std.proofs.Common.{Some, None, option_and_then, refl, ap, ap₂, ◌∙◌, arith, true≢false, fold, Bor, append-nil, ◌==◌, ne_eqb}
use Rattle.std.proofs.lemmas.Str.Parse.{digit_from_value}
use Rattle.std.specs.Str.{bytes_eq}
use Rattle.std.specs.Char.{digit_value}
use Rattle.clap.specs.Walk.{Held, Row, Rule, Step, Waiting, Walk, after_step, at_row, idle, is_pending, long_or_other, option, plain_word, short_or_plain, subcommand_or_other, trailing, more_values, used, settled, settled_rows, reacted, walked, with_values, without, pushed, has_row}
use Rattle.clap.specs.Simple.{Shape, built, is_simple}
use Rattle.clap.specs.Lexer.{long_of, long_of_rest, short_of, short_of_rest, strip_byte}
use Rattle.std.specs.Option.{option_map_or}
use Rattle.clap.specs.Takes.{bundle_passes, flag_word_passes, other_passes, step_passes, turn_passes, settle_passes, use_passes, value_passes, walk_passes}
use Rattle.clap.specs.declared.builder.value_parser.Reading.TheVariants as reading
use Rattle.clap.specs.declared.parser.matches.ValueSource.TheVariants.{CommandLine}
use Rattle.clap.specs.declared.builder.value_parser.ValueParser.TheVariants as vp
use Rattle.clap.specs.declared.builder.action.ArgAction.TheVariants.{Set}
use Rattle.clap.proofs.OnLiterals.{clap_on_literals}
use Rattle.hc_words.specs.Rules.{app, command_rule, flat_rule, seed_rule, workers_rule}
use Rattle.hc_words.specs.Items.{Item, Text, command, NumberOption, flat, joined, split, workers, seed, option_name, id_of, spelled, value_of}

abbrev pub rules_in : Bor (List (Bor Text)) → List Rule
rules_in names = (built (app names)).top.rules

abbrev pub filled_workers : Rule
filled_workers = record workers_rule {
  action = Some Set;
  range = Some (record { start_inclusive = 1; end_inclusive = 1 });
}

abbrev pub filled_seed : Rule
filled_seed = record seed_rule {
  action = Some Set;
  range = Some (record { start_inclusive = 1; end_inclusive = 1 });
}

abbrev pub filled_option : NumberOption → Rule
filled_option workers = filled_workers
filled_option seed = filled_seed

abbrev pub filled_flat : Rule
filled_flat = record flat_rule {
  range = Some (record { start_inclusive = 0; end_inclusive = 0 });
  parser = Some vp.Bool;
  defaults = codes "false" ∷ [];
  missing = codes "true" ∷ [];
}

abbrev pub filled_command : Bor (List (Bor Text)) → Rule
filled_command names = record (command_rule names) {
  action = Some Set;
  index = Some 1;
  range = Some (record { start_inclusive = 1; end_inclusive = 1 });
}

abbrev pub at : Held → ℕ → Walk
at h p = record { held = h; waiting = idle; position = p; is_trailing = false; stopped = None }

pub simple : (names : Bor (List (Bor Text))) → is_simple (app names) ≡ true
unfolding clap_on_literals
simple names = refl

-- ---- rows

-- what an item leaves
abbrev pub row : Item → Row
row x = record {
  id = id_of x;
  values = value_of x ∷ [];
  count = None;
  source = Some CommandLine;
  reading = reading.AsWritten;
}

pub at_fresh : (id : Text) (change : Row → List Row) (missing rows : List Row) → has_row id rows ≡ false → at_row id change missing rows ≡ rows ++ missing
at_fresh id change missing [] e = refl
at_fresh id change missing (r ∷ rs) e = go (bytes_eq r.id id) (λ f. at_fresh id change missing rs f) e
  where
    go : (b : Bool) → (has_row id rs ≡ false → at_row id change missing rs ≡ rs ++ missing) → (b || has_row id rs) ≡ false
        → cond b (change r ++ rs) (r ∷ at_row id change missing rs) ≡ r ∷ rs ++ missing
    go true more f = absurd (true≢false f)
    go false more f = ap (λ ys. r ∷ ys) (more f)

-- a first use of an option puts its row at the end
pub with_fresh : (id v : Text) (rows : List Row) → has_row id rows ≡ false
    → with_values id reading.AsWritten CommandLine (v ∷ []) (without id rows)
    ≡ rows ++ record { id = id; values = v ∷ []; count = None; source = Some CommandLine; reading = reading.AsWritten } ∷ []
with_fresh id v rows e =
    let gone : without id rows ≡ rows = at_fresh id (λ _. []) [] rows e ∙ append-nil rows in
    ap (with_values id reading.AsWritten CommandLine (v ∷ [])) gone ∙ at_fresh id (more_values CommandLine (v ∷ [])) _ rows e

-- ---- one item

abbrev pub shape_in : Bor (List (Bor Text)) → Shape
shape_in names = (built (app names)).top

pub record Settles (names : Bor (List (Bor Text))) (h : Held) (rows : List Row) : Type 0 where
  pub rows_are : settled_rows (rules_in names) h.pending h.rows ≡ rows
  pub passes : settle_passes (rules_in names) false h ≡ true

-- the walk from h over these words comes to a held state with these rows
pub record Steps (names : Bor (List (Bor Text))) (h : Held) (p q : ℕ) (words : List Text) (rows : List Row) : Type 0 where
  pub end : Held
  pub settles : Settles names end rows
  pub walks : (rest : List Text) → fold (walked (rules_in names) []) (at h p) (words ++ rest) ≡ fold (walked (rules_in names) []) (at end q) rest
  pub walk_ok : (rest : List Text) → walk_passes (shape_in names) [] (at end q) rest ≡ true → walk_passes (shape_in names) [] (at h p) (words ++ rest) ≡ true

use_ok : (o : NumberOption) (n : Text) (rows : List Row) → has_row (option_name o) rows ≡ false → value_passes (filled_option o) n ≡ true
    → use_passes false (filled_option o) (n ∷ []) rows ≡ true
use_ok workers n rows fresh passes = rw (fresh, passes) refl
use_ok seed n rows fresh passes = rw (fresh, passes) refl

joined_walk : (names : Bor (List (Bor Text))) (h : Held) (p : ℕ) (o : NumberOption) (n : Text)
    → walked (rules_in names) [] (at h p) (codes "--" ++ (option_name o ++ (codes "=" ++ n))) ≡ at (reacted (rules_in names) (filled_option o) (n ∷ []) h) p
unfolding clap_on_literals
joined_walk names h p workers n = refl
joined_walk names h p seed n = refl

joined_turn : (names : Bor (List (Bor Text))) (h : Held) (p : ℕ) (o : NumberOption) (n : Text)
    → turn_passes (shape_in names) [] (at h p) (codes "--" ++ (option_name o ++ (codes "=" ++ n)))
    ≡ ((settle_passes (rules_in names) false h && use_passes false (filled_option o) (n ∷ []) (settled_rows (rules_in names) h.pending h.rows)) && true)
unfolding clap_on_literals
joined_turn names h p workers n = refl
joined_turn names h p seed n = refl

walk_cons : (names : Bor (List (Bor Text))) (w v : Walk) (word : Text) (rest : List Text) → walked (rules_in names) [] w word ≡ v
    → turn_passes (shape_in names) [] w word ≡ true → walk_passes (shape_in names) [] v rest ≡ true
    → walk_passes (shape_in names) [] w (word ∷ rest) ≡ true
unfolding walk_passes
walk_cons names w v word rest is turn e = rw (turn, is) e

-- what the use of an option with its number leaves
used_rows : (o : NumberOption) (n : Text) (rows : List Row) → has_row (option_name o) rows ≡ false
    → used (filled_option o) (n ∷ []) rows ≡ rows ++ row (joined o n) ∷ []
used_rows workers n rows fresh = with_fresh (codes "workers") n rows fresh
used_rows seed n rows fresh = with_fresh (codes "seed") n rows fresh

-- once an option has its number, nothing is left to settle
reacted_rows : (names : Bor (List (Bor Text))) (o : NumberOption) (n : Text) (h : Held) (rows : List Row)
    → used (filled_option o) (n ∷ []) (settled_rows (rules_in names) h.pending h.rows) ≡ rows → Settles names (reacted (rules_in names) (filled_option o) (n ∷ []) h) rows
unfolding clap_on_literals
reacted_rows names workers n h rows e = record { rows_are = e; passes = refl }
reacted_rows names seed n h rows e = record { rows_are = e; passes = refl }

pub joined_step : (names : Bor (List (Bor Text))) (h : Held) (p : ℕ) (o : NumberOption) (n : Text) (rows : List Row) → Settles names h rows
    → has_row (option_name o) rows ≡ false → value_passes (filled_option o) n ≡ true
    → Steps names h p p (spelled (joined o n)) (rows ++ row (joined o n) ∷ [])
joined_step names h p o n rows s fresh passes = record {
  end = reacted (rules_in names) (filled_option o) (n ∷ []) h;
  settles = reacted_rows names o n h (rows ++ row (joined o n) ∷ []) (ap (used (filled_option o) (n ∷ [])) s.rows_are ∙ used_rows o n rows fresh);
  walks = λ rest. ap (λ w. fold (walked (rules_in names) []) w rest) (joined_walk names h p o n);
  walk_ok = λ rest e.
      walk_cons names _ _ _ rest (joined_walk names h p o n)
      (joined_turn names h p o n ∙ (rw (s.passes, s.rows_are, use_ok o n rows fresh passes) refl)) e;
}

-- ---- the number as a word of its own

no_digit : (d c : ℕ) → digit_value d < 10 → c < 48 → (d == c) ≡ false
no_digit d c digit below = ne_eqb d c (λ same. let range = digit_from_value d digit in omega (arith, range.0, same))

abbrev waits : Bor (List (Bor Text)) → Held → ℕ → NumberOption → Walk
waits names h p o = record {
  held = record (settled (rules_in names) h) { pending = Some (option_name o, []) };
  waiting = option (option_name o);
  position = p;
  is_trailing = false;
  stopped = None;
}

abbrev pending_with : Bor (List (Bor Text)) → Held → NumberOption → Text → Held
pending_with names h o n = record (settled (rules_in names) h) { pending = Some (option_name o, n ∷ []) }

name_walk : (names : Bor (List (Bor Text))) (h : Held) (p : ℕ) (o : NumberOption) → walked (rules_in names) [] (at h p) (codes "--" ++ option_name o) ≡ waits names h p o
unfolding clap_on_literals
name_walk names h p workers = refl
name_walk names h p seed = refl

name_turn : (names : Bor (List (Bor Text))) (h : Held) (p : ℕ) (o : NumberOption)
    → turn_passes (shape_in names) [] (at h p) (codes "--" ++ option_name o) ≡ (settle_passes (rules_in names) false h && true)
unfolding clap_on_literals
name_turn names h p workers = refl
name_turn names h p seed = refl

-- a word whose first byte is no hyphen is no flag
not_long : (d : ℕ) (ds : Text) → (d == 45) ≡ false → long_of (d ∷ ds) ≡ None
not_long d ds other = ap (λ b. option_and_then long_of_rest (option_and_then (strip_byte 45) (cond b (Some ds) None))) other

not_short : (d : ℕ) (ds : Text) → (d == 45) ≡ false → short_of (d ∷ ds) ≡ None
not_short d ds other = ap (λ b. option_and_then short_of_rest (cond b (Some ds) None)) other

not_dashes : (d : ℕ) (ds : Text) → (d == 45) ≡ false → bytes_eq (d ∷ ds) (45 ∷ 45 ∷ []) ≡ false
not_dashes d ds other = ap (λ b. b && bytes_eq ds (45 ∷ [])) other

plain_met : (c : List Rule) (waiting : Waiting) (p d : ℕ) (ds : Text) (h : Held) → (d == 45) ≡ false
    → subcommand_or_other c None waiting p (d ∷ ds) h ≡ plain_word c waiting (d ∷ ds) h
plain_met c waiting p d ds h other =
    let word = d ∷ ds in
    ap (λ x. cond x (h, trailing p) (long_or_other c waiting word (long_of word) h)) (not_dashes d ds other)
    ∙ ap (λ o. long_or_other c waiting word o h) (not_long d ds other)
    ∙ ap (λ o. short_or_plain c waiting word o h) (not_short d ds other)

plain_passes : (s : Shape) (d : ℕ) (ds : Text) (h : Held) → (d == 45) ≡ false → other_passes s None (d ∷ ds) h ≡ true
plain_passes s d ds h other =
    let word = d ∷ ds in
    ap (λ x. x || flag_word_passes s.rules s.args_override_self (long_of word) word h) (not_dashes d ds other)
    ∙ ap (λ o. flag_word_passes s.rules s.args_override_self o word h) (not_long d ds other)
    ∙ ap (λ o. option_map_or (λ flags. bundle_passes s.rules s.args_override_self flags h) o true) (not_short d ds other)

number_walk : (names : Bor (List (Bor Text))) (h : Held) (p : ℕ) (o : NumberOption) (d : ℕ) (ds : Text) → (d == 45) ≡ false
    → walked (rules_in names) [] (waits names h p o) (d ∷ ds) ≡ at (pending_with names h o (d ∷ ds)) p
unfolding clap_on_literals
number_walk names h p workers d ds other =
    let w = waits names h p workers in
    ap (λ (m : Held × Step). after_step (rules_in names) (d ∷ ds) w m.0 m.1) (plain_met (rules_in names) w.waiting p d ds w.held other)
number_walk names h p seed d ds other =
    let w = waits names h p seed in
    ap (λ (m : Held × Step). after_step (rules_in names) (d ∷ ds) w m.0 m.1) (plain_met (rules_in names) w.waiting p d ds w.held other)

number_turn : (names : Bor (List (Bor Text))) (h : Held) (p : ℕ) (o : NumberOption) (d : ℕ) (ds : Text) → (d == 45) ≡ false
    → turn_passes (shape_in names) [] (waits names h p o) (d ∷ ds) ≡ true
unfolding clap_on_literals
number_turn names h p workers d ds other =
    let w = waits names h p workers in
    ap₂ (λ (b : Bool) (m : Held × Step). b && step_passes (shape_in names) p m.0 m.1)
    (plain_passes (shape_in names) d ds w.held other) (plain_met (rules_in names) w.waiting p d ds w.held other)
number_turn names h p seed d ds other =
    let w = waits names h p seed in
    ap₂ (λ (b : Bool) (m : Held × Step). b && step_passes (shape_in names) p m.0 m.1)
    (plain_passes (shape_in names) d ds w.held other) (plain_met (rules_in names) w.waiting p d ds w.held other)

-- a number that waits to be taken
pending_rows : (names : Bor (List (Bor Text))) (o : NumberOption) (n : Text) (h : Held) (rows : List Row)
    → used (filled_option o) (n ∷ []) (settled_rows (rules_in names) h.pending h.rows) ≡ rows
    → use_passes false (filled_option o) (n ∷ []) (settled_rows (rules_in names) h.pending h.rows) ≡ true → Settles names (pending_with names h o n) rows
unfolding clap_on_literals
pending_rows names workers n h rows e passes = record { rows_are = e; passes = passes }
pending_rows names seed n h rows e passes = record { rows_are = e; passes = passes }

pub split_step : (names : Bor (List (Bor Text))) (h : Held) (p : ℕ) (o : NumberOption) (d : ℕ) (ds : Text) (rows : List Row) → Settles names h rows
    → has_row (option_name o) rows ≡ false → value_passes (filled_option o) (d ∷ ds) ≡ true → digit_value d < 10
    → Steps names h p p (spelled (split o (d ∷ ds))) (rows ++ row (split o (d ∷ ds)) ∷ [])
split_step names h p o d ds rows s fresh passes digit =
    let other = no_digit d 45 digit (omega arith) in
    record {
      end = pending_with names h o (d ∷ ds);
      settles = pending_rows names o (d ∷ ds) h (rows ++ row (split o (d ∷ ds)) ∷ [])
          (ap (used (filled_option o) ((d ∷ ds) ∷ [])) s.rows_are ∙ used_rows o (d ∷ ds) rows fresh)
          (ap (use_passes false (filled_option o) ((d ∷ ds) ∷ [])) s.rows_are ∙ use_ok o (d ∷ ds) rows fresh passes);
      walks = λ rest.
          ap (λ w. fold (walked (rules_in names) []) w ((d ∷ ds) ∷ rest)) (name_walk names h p o)
          ∙ ap (λ w. fold (walked (rules_in names) []) w rest) (number_walk names h p o d ds other);
      walk_ok = λ rest e.
          walk_cons names _ _ _ _ (name_walk names h p o) (name_turn names h p o ∙ (rw s.passes refl))
          (walk_cons names _ _ _ rest (number_walk names h p o d ds other) (number_turn names h p o d ds other) e);
    }

-- ---- the command

pub and-false : (b : Bool) → (b && false) ≡ false
and-false true = refl
and-false false = refl

verb_walk : (names : Bor (List (Bor Text))) (h : Held) (d : ℕ) (ds : Text) → (d == 45) ≡ false
    → walked (rules_in names) [] (at h 1) (d ∷ ds) ≡ at (record (settled (rules_in names) h) { pending = Some (codes "command", (d ∷ ds) ∷ []) }) 2
unfolding clap_on_literals
verb_walk names h d ds other =
    let w = at h 1 in
    let c = rules_in names in
    ap (λ (m : Held × Step). after_step c (d ∷ ds) w m.0 m.1) (plain_met c idle 1 d ds h other)
    ∙ ap (λ b. at (pushed (codes "command") (d ∷ ds) (cond b h (settled c h))) 2) (and-false (is_pending (filled_command names) h.pending))

verb_turn : (names : Bor (List (Bor Text))) (h : Held) (d : ℕ) (ds : Text) → (d == 45) ≡ false → settle_passes (rules_in names) false h ≡ true
    → turn_passes (shape_in names) [] (at h 1) (d ∷ ds) ≡ true
unfolding clap_on_literals
verb_turn names h d ds other passes =
    let c = rules_in names in
    ap₂ (λ (b : Bool) (m : Held × Step). b && step_passes (shape_in names) 1 m.0 m.1)
    (plain_passes (shape_in names) d ds h other) (plain_met c idle 1 d ds h other)
    ∙ ap (λ b. b || settle_passes c false h) (and-false (is_pending (filled_command names) h.pending)) ∙ passes

verb_ok : (names : Bor (List (Bor Text))) (v : Text) (rows : List Row) → has_row (codes "command") rows ≡ false → value_passes (filled_command names) v ≡ true
    → use_passes false (filled_command names) (v ∷ []) rows ≡ true
verb_ok names v rows fresh passes = rw (fresh, passes) refl

pub command_step : (names : Bor (List (Bor Text))) (h : Held) (d : ℕ) (ds : Text) (rows : List Row) → Settles names h rows
    → has_row (codes "command") rows ≡ false → value_passes (filled_command names) (d ∷ ds) ≡ true → (d == 45) ≡ false
    → Steps names h 1 2 (spelled (command (d ∷ ds))) (rows ++ row (command (d ∷ ds)) ∷ [])
command_step names h d ds rows s fresh passes other = record {
  end = record (settled (rules_in names) h) { pending = Some (codes "command", (d ∷ ds) ∷ []) };
  settles = record {
    rows_are = ap (used (filled_command names) ((d ∷ ds) ∷ [])) s.rows_are ∙ with_fresh (codes "command") (d ∷ ds) rows fresh;
    passes = ap (use_passes false (filled_command names) ((d ∷ ds) ∷ [])) s.rows_are ∙ verb_ok names (d ∷ ds) rows fresh passes;
  };
  walks = λ rest. ap (λ w. fold (walked (rules_in names) []) w rest) (verb_walk names h d ds other);
  walk_ok = λ rest e. walk_cons names _ _ _ rest (verb_walk names h d ds other) (verb_turn names h d ds other s.passes) e;
}

-- ---- the flag

flat_walk : (names : Bor (List (Bor Text))) (h : Held) (p : ℕ)
    → walked (rules_in names) [] (at h p) (codes "--flat") ≡ at (reacted (rules_in names) filled_flat [] h) p
unfolding clap_on_literals
flat_walk names h p = refl

flat_turn : (names : Bor (List (Bor Text))) (h : Held) (p : ℕ)
    → turn_passes (shape_in names) [] (at h p) (codes "--flat")
    ≡ ((settle_passes (rules_in names) false h && use_passes false filled_flat [] (settled_rows (rules_in names) h.pending h.rows)) && true)
unfolding clap_on_literals
flat_turn names h p = refl

flat_ok : (rows : List Row) → has_row (codes "flat") rows ≡ false → use_passes false filled_flat [] rows ≡ true
flat_ok rows fresh = rw fresh refl

pub flat_step : (names : Bor (List (Bor Text))) (h : Held) (p : ℕ) (rows : List Row) → Settles names h rows
    → has_row (codes "flat") rows ≡ false → Steps names h p p (spelled flat) (rows ++ row flat ∷ [])
flat_step names h p rows s fresh = record {
  end = reacted (rules_in names) filled_flat [] h;
  settles = record {
    rows_are = ap (used filled_flat []) s.rows_are ∙ with_fresh (codes "flat") (codes "true") rows fresh;
    passes = refl;
  };
  walks = λ rest. ap (λ w. fold (walked (rules_in names) []) w rest) (flat_walk names h p);
  walk_ok = λ rest e.
      walk_cons names _ _ _ rest (flat_walk names h p)
      (flat_turn names h p ∙ (rw (s.passes, s.rows_are, flat_ok rows fresh) refl)) e;
}
