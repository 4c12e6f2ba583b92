-- The parser takes each list of lawful items, and its matches are their values.
use Rattle.std.proofs.Common.{◌≡◌, ◌<◌, ◌≤◌, ◌^◌, ℕ, Bool, true, false, not, cond, ◌&&◌, ◌||◌, List, [], ◌∷◌, ◌++◌, map, codes}
use Rattle.std.proofs.Common.{Option, Some, None, slice_get, is_some, if◌then◌else◌, option_and_then, option_map, find, nat_lt, nat_le, refl, ap, ap₂, sym, subst, ◌∙◌, arith, true≢false, fold, Bor, append-nil, append_assoc, ◌==◌, leb-true, lt-ltb, eqb-true, ne_eqb, drop, unwrap_or}
use Rattle.std.proofs.lemmas.Str.Parse.{digit_from_value}
use Rattle.std.proofs.lemmas.Str.{digit_value_digit}
use Rattle.std.specs.List.{list_all, list_any}
use Rattle.std.specs.Option.{option_map_or}
use Rattle.std.specs.Str.{bytes_eq}
use Rattle.std.specs.Str.Parse.{digits_value, without_leading_plus}
use Rattle.std.specs.Char.{digit_value, is_ascii_digit}
use Rattle.clap.specs.Walk.{Held, Row, Rule, Walk, finished, first_of, has_row, more_values, nothing_held, one_of, row_text, walk, walked, with_default, with_values}
use Rattle.clap.specs.Simple.{built, matches_of}
use Rattle.clap.specs.Facts.{explicit_source}
use Rattle.clap.specs.ValueTests.{is_numeral, is_unsigned_in}
use Rattle.clap.specs.Takes.{default_passes, is_given, is_valid, level_passes, settle_passes, takes, value_passes, walk_passes}
use Rattle.clap.specs.declared.builder.value_parser.Reading.TheVariants as reading
use Rattle.clap.specs.declared.parser.matches.ValueSource.TheVariants.{DefaultValue}
use Rattle.clap.proofs.OnLiterals.{clap_on_literals}
use Rattle.clap.proofs.WalkLemmas.{both, find-map, list_any-map}
use Rattle.clap.proofs.TakesLemmas.{leaf_takes}
use Rattle.hc_words.specs.Items.{Item, Text, are_lawful, clashes, is_about, command, command_names, id_of, is_between, is_command, is_lawful, item_at, flat, joined, split, spelled, spelled_all, text_at, value_of, NumberOption, workers, seed, option_name, least, greatest}
use Rattle.hc_words.specs.Rules.{app}
use Rattle.hc_words.proofs.Steps.{flat_step, Settles, Steps, at, at_fresh, command_step, filled_command, filled_option, joined_step, row, rules_in, shape_in, simple, split_step}

abbrev Names : Type 0
Names = Bor (List (Bor Text))

is_false : (b : Bool) → not b ≡ true → b ≡ false
is_false true e = sym e
is_false false e = refl

-- ---- values

pub ascii_digit : (d : ℕ) → is_ascii_digit d ≡ true → digit_value d < 10
ascii_digit d e =
    let parts = both (nat_le 48 d) (nat_le d 57) e in
    let low : 48 ≤ d = leb-true _ _ parts.0 in
    let high : d ≤ 57 = leb-true _ _ parts.1 in
    omega (arith, digit_value_digit d (low, high), high)

pub all_digits : (n : Text) → list_all is_ascii_digit n ≡ true → list_all (λ d. nat_lt (digit_value d) 10) n ≡ true
all_digits [] e = refl
all_digits (d ∷ ds) e =
    let parts = both _ _ e in
    ap₂ (λ a b. a && b) (lt-ltb _ _ (ascii_digit d parts.0)) (all_digits ds parts.1)

pub first_digit : (d : ℕ) (ds : Text) (low high : ℕ) → is_between low high (d ∷ ds) ≡ true → digit_value d < 10
first_digit d ds low high e =
    let decimal = (both _ _ e).0 in
    let digits = (both _ _ (both _ _ decimal).1).1 in
    ascii_digit d (both _ _ digits).0

pub no_plus : (d : ℕ) (ds : Text) → digit_value d < 10 → without_leading_plus (d ∷ ds) ≡ d ∷ ds
no_plus d ds digit =
    let range = digit_from_value d digit in
    let other : (d == 43) ≡ false = ne_eqb d 43 (λ same. omega (arith, range.0, same)) in
    ap (λ b. drop (cond b 1 0) (d ∷ ds)) other

pub bounded : (low high : ℕ) (n : Text) → without_leading_plus n ≡ n → high < 2 ^ 64 → is_between low high n ≡ true → is_unsigned_in low high n ≡ true
bounded low high n same below e =
    let decimal = both _ _ e in
    let counted = both _ _ decimal.0 in
    let numeral : is_numeral n ≡ true = ap₂ (λ a b. a && b) counted.0 (all_digits n (both _ _ counted.1).1) in
    let range = both (nat_le low (digits_value 10 n)) (nat_le (digits_value 10 n) high) decimal.1 in
    let top : digits_value 10 n ≤ high = leb-true _ _ range.1 in
    let small : nat_lt (digits_value 10 n) (2 ^ 64) ≡ true = lt-ltb _ _ (omega (arith, top, below)) in
    ap (λ (t : Text). is_numeral t && (nat_lt (digits_value 10 t) (2 ^ 64) && (nat_le low (digits_value 10 t) && nat_le (digits_value 10 t) high))) same
    ∙ (rw (numeral, small, range.0, range.1) refl)

pub no_hyphen : (d : ℕ) (ds : Text) → is_command (d ∷ ds) ≡ true → (d == 45) ≡ false
no_hyphen d ds e = go (d == 45) refl
  where
    go : (b : Bool) → (d == 45) ≡ b → (d == 45) ≡ false
    go true t =
        let is : d ≡ 45 = eqb-true d 45 t in
        absurd (true≢false (sym e ∙ ap (λ x. is_command (x ∷ ds)) is))
    go false t = t

-- ---- the items one after another

has_row-append : (id : Text) (rows : List Row) (r : Row) → has_row id (rows ++ r ∷ []) ≡ (has_row id rows || (bytes_eq r.id id || false))
has_row-append id [] r = refl
has_row-append id (x ∷ rows) r = go (bytes_eq x.id id) (has_row-append id rows r)
  where
    go : (b : Bool) → has_row id (rows ++ r ∷ []) ≡ (has_row id rows || (bytes_eq r.id id || false))
        → (b || has_row id (rows ++ r ∷ [])) ≡ ((b || has_row id rows) || (bytes_eq r.id id || false))
    go true e = refl
    go false e = e

abbrev position_in : List Row → ℕ
position_in rows = cond (has_row (codes "command") rows) 2 1

or-false : (b : Bool) → (b || false) ≡ b
or-false true = refl
or-false false = refl

stays_at : (rows : List Row) (r : Row) → bytes_eq r.id (codes "command") ≡ false → position_in rows ≡ position_in (rows ++ r ∷ [])
stays_at rows r e =
    ap (λ b. cond b 2 1) (sym (has_row-append (codes "command") rows r ∙ ap (λ b. has_row (codes "command") rows || (b || false)) e ∙ or-false _))

no_command : (o : NumberOption) → bytes_eq (option_name o) (codes "command") ≡ false
no_command workers = refl
no_command seed = refl

-- a number in its range is taken
number_passes : (o : NumberOption) (d : ℕ) (ds : Text) → is_between (least o) (greatest o) (d ∷ ds) ≡ true → value_passes (filled_option o) (d ∷ ds) ≡ true
number_passes workers d ds e = bounded 1 64 (d ∷ ds) (no_plus d ds (first_digit d ds 1 64 e)) (omega arith) e
number_passes seed d ds e = bounded 0 18446744073709551615 (d ∷ ds) (no_plus d ds (first_digit d ds 0 18446744073709551615 e)) (omega arith) e

step : (names : Names) → map (λ s. s.now) names.now ≡ command_names → (x : Item) (h : Held) (rows : List Row) → Settles names h rows → has_row (id_of x) rows ≡ false
    → is_lawful x ≡ true → Steps names h (position_in rows) (position_in (rows ++ row x ∷ [])) (spelled x) (rows ++ row x ∷ [])
step names verb (joined o []) h rows s fresh lawful = absurd (true≢false (sym lawful))
step names verb (joined o (d ∷ ds)) h rows s fresh lawful =
    subst (λ q. Steps names h (position_in rows) q (spelled (joined o (d ∷ ds))) (rows ++ row (joined o (d ∷ ds)) ∷ []))
    (stays_at rows (row (joined o (d ∷ ds))) (no_command o))
    (joined_step names h (position_in rows) o (d ∷ ds) rows s fresh (number_passes o d ds lawful))
step names verb (split o []) h rows s fresh lawful = absurd (true≢false (sym lawful))
step names verb (split o (d ∷ ds)) h rows s fresh lawful =
    subst (λ q. Steps names h (position_in rows) q (spelled (split o (d ∷ ds))) (rows ++ row (split o (d ∷ ds)) ∷ []))
    (stays_at rows (row (split o (d ∷ ds))) (no_command o))
    (split_step names h (position_in rows) o d ds rows s fresh (number_passes o d ds lawful) (first_digit d ds (least o) (greatest o) lawful))
step names verb flat h rows s fresh lawful =
    subst (λ q. Steps names h (position_in rows) q (spelled flat) (rows ++ row flat ∷ [])) (stays_at rows (row flat) refl)
    (flat_step names h (position_in rows) rows s fresh)
step names verb (command []) h rows s fresh lawful = absurd (true≢false (sym lawful))
step names verb (command (d ∷ ds)) h rows s fresh lawful =
    let now = row (command (d ∷ ds)) in
    let passes : value_passes (filled_command names) (d ∷ ds) ≡ true =
    list_any-map (λ (name : Text). bytes_eq name (d ∷ ds)) (λ (s : Bor Text). s.now) names.now
    ∙ ap (λ (vs : List Text). list_any (λ name. bytes_eq name (d ∷ ds)) vs) verb ∙ lawful in
    let first : 1 ≡ position_in rows = ap (λ b. cond b 2 1) (sym fresh) in
    let second : 2 ≡ position_in (rows ++ now ∷ []) =
    ap (λ b. cond b 2 1) (sym (has_row-append (codes "command") rows now ∙ ap (λ b. b || true) fresh)) in
    subst (λ p. Steps names h p (position_in (rows ++ now ∷ [])) (spelled (command (d ∷ ds))) (rows ++ now ∷ [])) first
    (subst (λ q. Steps names h 1 q (spelled (command (d ∷ ds))) (rows ++ now ∷ [])) second
    (command_step names h d ds rows s fresh passes (no_hyphen d ds lawful)))

-- the walk over all the items
record Reached (names : Names) (h : Held) (p : ℕ) (words : List Text) (rows : List Row) : Type 0 where
  end : Held
  last : ℕ
  settles : Settles names end rows
  walks : fold (walked (rules_in names) []) (at h p) words ≡ at end last
  walk_ok : walk_passes (shape_in names) [] (at h p) words ≡ true

-- none of the items is about a row
abbrev are_fresh : List Row → List Item → Bool
are_fresh rows xs = list_all (λ x. not (has_row (id_of x) rows)) xs

neither : (a b : Bool) → (a || b) ≡ false → (a ≡ false) × (b ≡ false)
neither true b e = absurd (true≢false e)
neither false b e = (refl, e)

still_fresh : (x : Item) (rows : List Row) (xs : List Item) → are_fresh rows xs ≡ true → clashes x xs ≡ false → are_fresh (rows ++ row x ∷ []) xs ≡ true
still_fresh x rows [] fresh apart = refl
still_fresh x rows (y ∷ ys) fresh apart =
    let here = both _ _ fresh in
    let other = neither (bytes_eq (id_of x) (id_of y)) _ apart in
    let none : has_row (id_of y) (rows ++ row x ∷ []) ≡ false =
    has_row-append (id_of y) rows (row x) ∙ ap₂ (λ a b. a || (b || false)) (is_false _ here.0) other.0 in
    ap₂ (λ a b. not a && b) none (still_fresh x rows ys here.1 other.1)

reach : (names : Names) → map (λ s. s.now) names.now ≡ command_names → (xs : List Item) (h : Held) (rows : List Row) → Settles names h rows → are_fresh rows xs ≡ true
    → are_lawful xs ≡ true → Reached names h (position_in rows) (spelled_all xs) (rows ++ map row xs)
unfolding walk_passes
reach names verb [] h rows s fresh lawful = record {
  end = h;
  last = position_in rows;
  settles = subst (Settles names h) (sym (append-nil rows)) s;
  walks = refl;
  walk_ok = refl;
}
reach names verb (x ∷ xs) h rows s fresh lawful =
    let mine = both _ _ lawful in
    let others = both _ _ mine.1 in
    let here = both _ _ fresh in
    let one = step names verb x h rows s (is_false _ here.0) mine.0 in
    let rest = reach names verb xs one.end (rows ++ row x ∷ []) one.settles (still_fresh x rows xs here.1 (is_false _ others.0)) others.1 in
    record {
      end = rest.end;
      last = rest.last;
      settles = subst (Settles names rest.end) (append_assoc rows (row x ∷ []) (map row xs)) rest.settles;
      walks = one.walks (spelled_all xs) ∙ rest.walks;
      walk_ok = one.walk_ok (spelled_all xs) rest.walk_ok;
    }

-- ---- the matches

abbrev default_of_id : Text → Text → Row
default_of_id id value = record {
  id = id;
  values = value ∷ [];
  count = None;
  source = Some DefaultValue;
  reading = reading.AsWritten;
}

abbrev workers_default : Row
workers_default = default_of_id (codes "workers") (codes "1")

abbrev seed_default : Row
seed_default = default_of_id (codes "seed") (codes "0")

abbrev flat_default : Row
flat_default = default_of_id (codes "flat") (codes "false")

same_branches : (b : Bool) (rows : List Row) → cond b rows rows ≡ rows
same_branches true rows = refl
same_branches false rows = refl

-- the rows with this default, where the words say nothing of it
abbrev with_row : Row → List Row → List Row
with_row d rows = if has_row d.id rows then rows else rows ++ d ∷ []

-- the rows with all defaults
abbrev completed : List Row → List Row
completed rows = with_row flat_default (with_row seed_default (with_row workers_default rows))

gets_default : (id value : Text) (b : Bool) (rows : List Row) → has_row id rows ≡ b
    → cond b rows (with_values id reading.AsWritten DefaultValue (value ∷ []) rows) ≡ cond b rows (rows ++ default_of_id id value ∷ [])
gets_default id value true rows e = refl
gets_default id value false rows e = at_fresh id (more_values DefaultValue (value ∷ [])) (default_of_id id value ∷ []) rows e

defaults : (names : Names) (rows : List Row) → fold with_default rows (rules_in names) ≡ completed rows
unfolding clap_on_literals
defaults names rows =
    let first = with_row workers_default rows in
    let second = with_row seed_default first in
    let third = with_row flat_default second in
    let rest : List Row → List Rule → List Row = λ r rules. fold with_default r rules in
    ap (λ r. rest r (drop 1 (rules_in names))) (same_branches (has_row (codes "command") rows) rows)
    ∙ ap (λ r. rest r (drop 2 (rules_in names))) (gets_default (codes "workers") (codes "1") (has_row (codes "workers") rows) rows refl)
    ∙ ap (λ r. rest r (drop 3 (rules_in names))) (gets_default (codes "seed") (codes "0") (has_row (codes "seed") first) first refl)
    ∙ ap (λ r. rest r (drop 4 (rules_in names))) (gets_default (codes "flat") (codes "false") (has_row (codes "flat") second) second refl)
    ∙ same_branches (has_row (codes "help") third) third

-- ---- reading the rows

abbrev or_else : {X : Type 0} → Option X → Option X → Option X
or_else None o = o
or_else (Some x) o = Some x

find-append : {X : Type 0} (p : X → Bool) (xs ys : List X) → find p (xs ++ ys) ≡ or_else (find p xs) (find p ys)
find-append p [] ys = refl
find-append p (x ∷ xs) ys = go (p x) (find-append p xs ys)
  where
    go : (b : Bool) → find p (xs ++ ys) ≡ or_else (find p xs) (find p ys)
        → cond b (Some x) (find p (xs ++ ys)) ≡ or_else (cond b (Some x) (find p xs)) (find p ys)
    go true e = refl
    go false e = e

abbrev row_at : Text → List Row → Option Row
row_at id rows = find (λ r. bytes_eq r.id id) rows

or_none : (o : Option Row) → or_else o None ≡ o
or_none None = refl
or_none (Some x) = refl

-- another default leaves the row of an id
other_row : (id : Text) (d : Row) (rows : List Row) → bytes_eq d.id id ≡ false → row_at id (with_row d rows) ≡ row_at id rows
other_row id d rows e = go (has_row d.id rows)
  where
    go : (b : Bool) → row_at id (cond b rows (rows ++ d ∷ [])) ≡ row_at id rows
    go true = refl
    go false =
        find-append (λ (r : Row). bytes_eq r.id id) rows (d ∷ [])
        ∙ ap (λ b. or_else (row_at id rows) (cond b (Some d) None)) e ∙ or_none (row_at id rows)

has_found : (id : Text) (rows : List Row) → has_row id rows ≡ is_some (row_at id rows)
has_found id [] = refl
has_found id (r ∷ rows) = go (bytes_eq r.id id) (has_found id rows)
  where
    go : (b : Bool) → has_row id rows ≡ is_some (row_at id rows) → (b || has_row id rows) ≡ is_some (cond b (Some r) (row_at id rows))
    go true e = refl
    go false e = e

own_row : (d : Row) (rows : List Row) → bytes_eq d.id d.id ≡ true → row_at d.id (with_row d rows) ≡ Some (unwrap_or (row_at d.id rows) d)
own_row d rows e = ap (λ b. row_at d.id (cond b rows (rows ++ d ∷ []))) (has_found d.id rows) ∙ go (row_at d.id rows) refl
  where
    go : (o : Option Row) → row_at d.id rows ≡ o → row_at d.id (cond (is_some o) rows (rows ++ d ∷ [])) ≡ Some (unwrap_or o d)
    go None is =
        find-append (λ (r : Row). bytes_eq r.id d.id) rows (d ∷ []) ∙ ap (λ o. or_else o (cond (bytes_eq d.id d.id) (Some d) None)) is
        ∙ ap (λ b. cond b (Some d) None) e
    go (Some x) is = is

items_row : (id : Text) (xs : List Item) → row_at id (map row xs) ≡ option_map row (item_at id xs)
items_row id xs = sym (find-map (λ (r : Row). bytes_eq r.id id) row xs)

command_row : (xs : List Item) → row_at (codes "command") (completed (map row xs)) ≡ option_map row (item_at (codes "command") xs)
command_row xs =
    other_row (codes "command") flat_default (with_row seed_default (with_row workers_default (map row xs))) refl
    ∙ other_row (codes "command") seed_default (with_row workers_default (map row xs)) refl
    ∙ other_row (codes "command") workers_default (map row xs) refl ∙ items_row (codes "command") xs

-- the text that a getter reads of an item's row, or of the default
text_or : (o : Option Item) (id value : Text) → option_and_then row_text (Some (unwrap_or (option_map row o) (default_of_id id value))) ≡ Some (unwrap_or (option_map value_of o) value)
text_or None id value = refl
text_or (Some x) id value = refl

workers_row : (xs : List Item)
    → one_of (codes "workers") (completed (map row xs)) ≡ Some (unwrap_or (text_at (codes "workers") xs) (codes "1"))
workers_row xs =
    ap (option_and_then row_text)
    (other_row (codes "workers") flat_default (with_row seed_default (with_row workers_default (map row xs))) refl
    ∙ other_row (codes "workers") seed_default (with_row workers_default (map row xs)) refl
    ∙ own_row workers_default (map row xs) refl ∙ ap (λ o. Some (unwrap_or o workers_default)) (items_row (codes "workers") xs))
    ∙ text_or (item_at (codes "workers") xs) (codes "workers") (codes "1")

seed_row : (xs : List Item)
    → one_of (codes "seed") (completed (map row xs)) ≡ Some (unwrap_or (text_at (codes "seed") xs) (codes "0"))
seed_row xs =
    ap (option_and_then row_text)
    (other_row (codes "seed") flat_default (with_row seed_default (with_row workers_default (map row xs))) refl
    ∙ own_row seed_default (with_row workers_default (map row xs)) refl
    ∙ ap (λ o. Some (unwrap_or o seed_default)) (other_row (codes "seed") workers_default (map row xs) refl ∙ items_row (codes "seed") xs))
    ∙ text_or (item_at (codes "seed") xs) (codes "seed") (codes "0")

flat_row : (xs : List Item)
    → one_of (codes "flat") (completed (map row xs)) ≡ Some (unwrap_or (text_at (codes "flat") xs) (codes "false"))
flat_row xs =
    ap (option_and_then row_text)
    (own_row flat_default (with_row seed_default (with_row workers_default (map row xs))) refl
    ∙ ap (λ o. Some (unwrap_or o flat_default))
    (other_row (codes "flat") seed_default (with_row workers_default (map row xs)) refl ∙ other_row (codes "flat") workers_default (map row xs) refl ∙ items_row (codes "flat") xs))
    ∙ text_or (item_at (codes "flat") xs) (codes "flat") (codes "false")

-- ---- the law

pub record Parses (names : Names) (xs : List Item) : Type 0 where
  pub taken : takes (app names) (spelled_all xs) ≡ true
  pub verb : first_of (codes "command") (matches_of (app names) (spelled_all xs)) ≡ text_at (codes "command") xs
  pub workers : one_of (codes "workers") (matches_of (app names) (spelled_all xs)) ≡ Some (unwrap_or (text_at (codes "workers") xs) (codes "1"))
  pub seed : one_of (codes "seed") (matches_of (app names) (spelled_all xs)) ≡ Some (unwrap_or (text_at (codes "seed") xs) (codes "0"))
  pub flat : one_of (codes "flat") (matches_of (app names) (spelled_all xs)) ≡ Some (unwrap_or (text_at (codes "flat") xs) (codes "false"))

given_command : (o : Option Item) → is_some o ≡ true → option_map_or (λ (r : Row). explicit_source r.source) (option_map row o) false ≡ true
given_command None e = absurd (true≢false (sym e))
given_command (Some x) e = refl

first_row : (o : Option Item) → option_and_then (λ (r : Row). slice_get r.values 0) (option_map row o) ≡ option_map value_of o
first_row None = refl
first_row (Some x) = refl

pub has_item : (xs : List Item) → is_about (codes "command") xs ≡ true → is_some (item_at (codes "command") xs) ≡ true
has_item [] e = absurd (true≢false (sym e))
has_item (command v ∷ xs) e = refl
has_item (joined workers n ∷ xs) e = has_item xs e
has_item (split workers n ∷ xs) e = has_item xs e
has_item (joined seed n ∷ xs) e = has_item xs e
has_item (split seed n ∷ xs) e = has_item xs e
has_item (flat ∷ xs) e = has_item xs e

pub verb_lawful : (xs : List Item) → are_lawful xs ≡ true → is_about (codes "command") xs ≡ true → (v : Text) × (text_at (codes "command") xs ≡ Some v) × (is_command v ≡ true)
verb_lawful [] e has = absurd (true≢false (sym has))
verb_lawful (command v ∷ xs) e has = (v, refl, (both _ _ e).0)
verb_lawful (joined workers n ∷ xs) e has = verb_lawful xs (both _ _ (both _ _ e).1).1 has
verb_lawful (split workers n ∷ xs) e has = verb_lawful xs (both _ _ (both _ _ e).1).1 has
verb_lawful (joined seed n ∷ xs) e has = verb_lawful xs (both _ _ (both _ _ e).1).1 has
verb_lawful (split seed n ∷ xs) e has = verb_lawful xs (both _ _ (both _ _ e).1).1 has
verb_lawful (flat ∷ xs) e has = verb_lawful xs (both _ _ (both true _ e).1).1 has

pub workers_lawful : (xs : List Item) → are_lawful xs ≡ true → is_between 1 64 (unwrap_or (text_at (codes "workers") xs) (codes "1")) ≡ true
workers_lawful [] e = refl
workers_lawful (joined workers n ∷ xs) e = (both _ _ e).0
workers_lawful (split workers n ∷ xs) e = (both _ _ e).0
workers_lawful (joined seed n ∷ xs) e = workers_lawful xs (both _ _ (both _ _ e).1).1
workers_lawful (split seed n ∷ xs) e = workers_lawful xs (both _ _ (both _ _ e).1).1
workers_lawful (command v ∷ xs) e = workers_lawful xs (both _ _ (both _ _ e).1).1
workers_lawful (flat ∷ xs) e = workers_lawful xs (both _ _ (both true _ e).1).1

pub seed_lawful : (xs : List Item) → are_lawful xs ≡ true → is_between 0 18446744073709551615 (unwrap_or (text_at (codes "seed") xs) (codes "0")) ≡ true
seed_lawful [] e = refl
seed_lawful (joined seed n ∷ xs) e = (both _ _ e).0
seed_lawful (split seed n ∷ xs) e = (both _ _ e).0
seed_lawful (joined workers n ∷ xs) e = seed_lawful xs (both _ _ (both _ _ e).1).1
seed_lawful (split workers n ∷ xs) e = seed_lawful xs (both _ _ (both _ _ e).1).1
seed_lawful (command v ∷ xs) e = seed_lawful xs (both _ _ (both _ _ e).1).1
seed_lawful (flat ∷ xs) e = seed_lawful xs (both _ _ (both true _ e).1).1

-- the flag reads as whether it is there
pub flat_text : (xs : List Item) → unwrap_or (text_at (codes "flat") xs) (codes "false") ≡ cond (is_about (codes "flat") xs) (codes "true") (codes "false")
flat_text [] = refl
flat_text (flat ∷ xs) = refl
flat_text (command v ∷ xs) = flat_text xs
flat_text (joined workers n ∷ xs) = flat_text xs
flat_text (split workers n ∷ xs) = flat_text xs
flat_text (joined seed n ∷ xs) = flat_text xs
flat_text (split seed n ∷ xs) = flat_text xs

all_fresh : (xs : List Item) → are_fresh [] xs ≡ true
all_fresh [] = refl
all_fresh (x ∷ xs) = all_fresh xs

matches_is : (names : Names) (words : List Text) → matches_of (app names) words ≡ finished (rules_in names) (walk (rules_in names) [] nothing_held words).held
unfolding clap_on_literals
matches_is names words = refl

valid_is : (names : Names) (rows : List Row) → is_given (codes "command") rows ≡ true → is_valid (shape_in names) rows false ≡ true
unfolding clap_on_literals
valid_is names rows e = rw e refl

defaults_pass : (names : Names) → list_all default_passes (rules_in names) ≡ true
unfolding clap_on_literals
defaults_pass names = refl

level_is : (names : Names) (words : List Text) (end : Held) (rows : List Row) → (walk (rules_in names) [] nothing_held words).held ≡ end
    → walk_passes (shape_in names) [] (at nothing_held 1) words ≡ true → settle_passes (rules_in names) false end ≡ true
    → finished (rules_in names) end ≡ rows → is_given (codes "command") rows ≡ true → level_passes (shape_in names) [] nothing_held words false ≡ true
level_is names words end rows is walks settles done given =
    let valid : is_valid (shape_in names) (finished (rules_in names) end) false ≡ true =
    ap (λ r. is_valid (shape_in names) r false) done ∙ valid_is names rows given in
    ap (λ (h : Held). walk_passes (shape_in names) [] (at nothing_held 1) words && (settle_passes (rules_in names) false h
    && (list_all default_passes (rules_in names) && is_valid (shape_in names) (finished (rules_in names) h) false))) is
    ∙ ap₂ (λ a b. a && (b && (list_all default_passes (rules_in names) && is_valid (shape_in names) (finished (rules_in names) end) false))) walks settles
    ∙ ap₂ (λ a b. a && b) (defaults_pass names) valid

takes_is : (names : Names) (words : List Text) → level_passes (shape_in names) [] nothing_held words false ≡ true → takes (app names) words ≡ true
takes_is names words e =
    ap₂ (λ a b. a && b) (simple names) (leaf_takes (built (app names)) nothing_held words refl e)

pub law : (names : Names) → map (λ s. s.now) names.now ≡ command_names → (xs : List Item) → are_lawful xs ≡ true → is_some (item_at (codes "command") xs) ≡ true → Parses names xs
law names verb xs lawful has =
    let words = spelled_all xs in
    let all = reach names verb xs nothing_held [] (record { rows_are = refl; passes = refl }) (all_fresh xs) lawful in
    let ends : (walk (rules_in names) [] nothing_held words).held ≡ all.end = ap (λ (w : Walk). w.held) all.walks in
    let rows : finished (rules_in names) all.end ≡ completed (map row xs) =
    ap (λ (r : List Row). fold with_default r (rules_in names)) all.settles.rows_are ∙ defaults names (map row xs) in
    let matches : matches_of (app names) words ≡ completed (map row xs) = matches_is names words ∙ ap (finished (rules_in names)) ends ∙ rows in
    let given : is_given (codes "command") (completed (map row xs)) ≡ true =
    ap (λ o. option_map_or (λ (r : Row). explicit_source r.source) o false) (command_row xs) ∙ given_command (item_at (codes "command") xs) has in
    record {
      taken = takes_is names words (level_is names words all.end (completed (map row xs)) ends all.walk_ok all.settles.passes rows given);
      verb = ap (first_of (codes "command")) matches ∙ ap (option_and_then (λ (r : Row). slice_get r.values 0)) (command_row xs) ∙ first_row (item_at (codes "command") xs);
      workers = ap (one_of (codes "workers")) matches ∙ workers_row xs;
      seed = ap (one_of (codes "seed")) matches ∙ seed_row xs;
      flat = ap (one_of (codes "flat")) matches ∙ flat_row xs;
    }
