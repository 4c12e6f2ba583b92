-- The test of the form finds the items exactly where there are any.
use Rattle.std.proofs.Common.{◌≡◌, ℕ, Bool, true, false, not, cond, ◌&&◌, ◌||◌, List, [], ◌∷◌, ◌++◌, codes, take, drop, take-append-drop, length}
use Rattle.std.proofs.Common.{Option, Some, None, is_some, unwrap_or, refl, ap, ap₂, sym, ◌∙◌, true≢false}
use Rattle.std.specs.Option.{option_map_or}
use Rattle.std.specs.Str.{bytes_eq}
use Rattle.std.proofs.lemmas.Slice.Eq.{bytes_eq-Decides}
use Rattle.clap.proofs.WalkLemmas.{both}
use Rattle.hc_words.specs.Items.{IsSpelledBy, Item, Text, are_lawful, command, flat, is_about, is_between, is_command, joined, spelled_all, seed, split, workers}
use Rattle.hc_words.specs.Form.{command_word, joined_number, joined_seed, joined_word, nothing_seen, passes, stepped}
use Rattle.hc_words.specs.Jobs.{HasNoJob}
use Rattle.hc_words.specs.declared.form.Awaits.{Awaits}
use Rattle.hc_words.specs.declared.form.Awaits.TheVariants as awaits
use Rattle.hc_words.specs.declared.form.Seen.{Seen}
use Rattle.hc_words.proofs.Law.{no_hyphen}

abbrev seen : Bool → Bool → Bool → Bool → Awaits → Seen
seen c w d f a = record { command = c; workers = w; seed = d; flat = f; awaits = a }

-- the words are lawful items, none about what was seen
record Form (c w d f : Bool) (words : List Text) : Type 0 where
  items : List Item
  words_are : words ≡ spelled_all items
  lawful : are_lawful items ≡ true
  command_once : (c && is_about (codes "command") items) ≡ false
  workers_once : (w && is_about (codes "workers") items) ≡ false
  seed_once : (d && is_about (codes "seed") items) ≡ false
  flat_once : (f && is_about (codes "flat") items) ≡ false
  has_command : (c || is_about (codes "command") items) ≡ true

-- where a number is awaited, it comes first
record Awaited (low high : ℕ) (c w d f : Bool) (words : List Text) : Type 0 where
  number : Text
  rest : List Text
  words_are : words ≡ number ∷ rest
  between : is_between low high number ≡ true
  form : Form c w d f rest

abbrev Meaning : Awaits → Bool → Bool → Bool → Bool → List Text → Type 0
Meaning awaits.Nothing c w d f words = Form c w d f words
Meaning awaits.Workers c w d f words = Awaited 1 64 c w d f words
Meaning awaits.Seed c w d f words = Awaited 0 18446744073709551615 c w d f words

joined_is : (prefix word n : Text) → joined_number prefix word ≡ Some n → word ≡ prefix ++ n
joined_is prefix word n e = go (bytes_eq (take (length prefix) word) prefix) refl e
  where
    go : (b : Bool) → bytes_eq (take (length prefix) word) prefix ≡ b → cond b (Some (drop (length prefix) word)) None ≡ Some n → word ≡ prefix ++ n
    go true is f =
        let front : take (length prefix) word ≡ prefix = (bytes_eq-Decides (take (length prefix) word) prefix).0 is in
        let back : drop (length prefix) word ≡ n = ap (λ o. unwrap_or o []) f in
        sym (take-append-drop (length prefix) word) ∙ ap₂ (λ (a b : Text). a ++ b) front back
    go false is f = absurd (true≢false (sym (ap is_some f)))

and-false-right : (b : Bool) → (b && false) ≡ false
and-false-right true = refl
and-false-right false = refl

or-false : (b : Bool) → (b || false) ≡ b
or-false true = refl
or-false false = refl

-- one more word
module _ (c w d f : Bool) (word : Text) (rest : List Text)
    (more : (c w d f : Bool) (a : Awaits) → passes (seen c w d f a) rest ≡ true → Meaning a c w d f rest) where
  with_verb : (c : Bool) → (c ≡ false) → is_command word ≡ true → passes (seen true w d f awaits.Nothing) rest ≡ true → Form c w d f (word ∷ rest)
  with_verb true un v e = absurd (true≢false un)
  with_verb false un v e =
      let m = more true w d f awaits.Nothing e in
      let r = m in
      record {
        items = command word ∷ r.items;
        words_are = ap (λ ws. word ∷ ws) r.words_are;
        lawful = ap₂ (λ x y. x && (not y && are_lawful r.items)) v r.command_once ∙ r.lawful;
        command_once = refl;
        workers_once = r.workers_once;
        seed_once = r.seed_once;
        flat_once = r.flat_once;
        has_command = refl;
      }

  with_joined_workers : (w : Bool) → (w ≡ false) → (n : Text) → word ≡ codes "--workers=" ++ n → is_between 1 64 n ≡ true → passes (seen c true d f awaits.Nothing) rest ≡ true → Form c w d f (word ∷ rest)
  with_joined_workers true un n is b e = absurd (true≢false un)
  with_joined_workers false un n is b e =
      let m = more c true d f awaits.Nothing e in
      let r = m in
      record {
        items = joined workers n ∷ r.items;
        words_are = ap₂ (λ (x : Text) (ws : List Text). x ∷ ws) is r.words_are;
        lawful = ap₂ (λ x y. x && (not y && are_lawful r.items)) b r.workers_once ∙ r.lawful;
        command_once = r.command_once;
        workers_once = refl;
        seed_once = r.seed_once;
        flat_once = r.flat_once;
        has_command = r.has_command;
      }

  with_split_workers : (w : Bool) → (w ≡ false) → word ≡ codes "--workers" → passes (seen c true d f awaits.Workers) rest ≡ true → Form c w d f (word ∷ rest)
  with_split_workers true un is e = absurd (true≢false un)
  with_split_workers false un is e =
      let m = more c true d f awaits.Workers e in
      let r = m.form in
      record {
        items = split workers m.number ∷ r.items;
        words_are = ap₂ (λ (x : Text) (ws : List Text). x ∷ ws) is (m.words_are ∙ ap (λ ws. m.number ∷ ws) r.words_are);
        lawful = ap₂ (λ x y. x && (not y && are_lawful r.items)) m.between r.workers_once ∙ r.lawful;
        command_once = r.command_once;
        workers_once = refl;
        seed_once = r.seed_once;
        flat_once = r.flat_once;
        has_command = r.has_command;
      }

  with_joined_seed : (d : Bool) → (d ≡ false) → (n : Text) → word ≡ codes "--seed=" ++ n → is_between 0 18446744073709551615 n ≡ true → passes (seen c w true f awaits.Nothing) rest ≡ true → Form c w d f (word ∷ rest)
  with_joined_seed true un n is b e = absurd (true≢false un)
  with_joined_seed false un n is b e =
      let m = more c w true f awaits.Nothing e in
      let r = m in
      record {
        items = joined seed n ∷ r.items;
        words_are = ap₂ (λ (x : Text) (ws : List Text). x ∷ ws) is r.words_are;
        lawful = ap₂ (λ x y. x && (not y && are_lawful r.items)) b r.seed_once ∙ r.lawful;
        command_once = r.command_once;
        workers_once = r.workers_once;
        seed_once = refl;
        flat_once = r.flat_once;
        has_command = r.has_command;
      }

  with_split_seed : (d : Bool) → (d ≡ false) → word ≡ codes "--seed" → passes (seen c w true f awaits.Seed) rest ≡ true → Form c w d f (word ∷ rest)
  with_split_seed true un is e = absurd (true≢false un)
  with_split_seed false un is e =
      let m = more c w true f awaits.Seed e in
      let r = m.form in
      record {
        items = split seed m.number ∷ r.items;
        words_are = ap₂ (λ (x : Text) (ws : List Text). x ∷ ws) is (m.words_are ∙ ap (λ ws. m.number ∷ ws) r.words_are);
        lawful = ap₂ (λ x y. x && (not y && are_lawful r.items)) m.between r.seed_once ∙ r.lawful;
        command_once = r.command_once;
        workers_once = r.workers_once;
        seed_once = refl;
        flat_once = r.flat_once;
        has_command = r.has_command;
      }

  with_flat : (f : Bool) → (f ≡ false) → word ≡ codes "--flat" → passes (seen c w d true awaits.Nothing) rest ≡ true → Form c w d f (word ∷ rest)
  with_flat true un is e = absurd (true≢false un)
  with_flat false un is e =
      let r = more c w d true awaits.Nothing e in
      record {
        items = flat ∷ r.items;
        words_are = ap₂ (λ (x : Text) (ws : List Text). x ∷ ws) is r.words_are;
        lawful = ap (λ y. not y && are_lawful r.items) r.flat_once ∙ r.lawful;
        command_once = r.command_once;
        workers_once = r.workers_once;
        seed_once = r.seed_once;
        flat_once = refl;
        has_command = r.has_command;
      }

  by_test : (b : Bool) (next : Seen) → option_map_or (λ s. passes s rest) (cond b None (Some next)) false ≡ true → (b ≡ false) × (passes next rest ≡ true)
  by_test true next e = absurd (true≢false (sym e))
  by_test false next e = (refl, e)

  or_none : (a b : Bool) → (a || not b) ≡ false → (a ≡ false) × (b ≡ true)
  or_none true b e = absurd (true≢false e)
  or_none false true e = (refl, refl)
  or_none false false e = absurd (true≢false e)

  with_command_word : option_map_or (λ s. passes s rest) (command_word (seen c w d f awaits.Nothing) word) false ≡ true → Form c w d f (word ∷ rest)
  with_command_word e =
      let t = by_test (c || not (is_command word)) (seen true w d f awaits.Nothing) e in
      let both_are = or_none c (is_command word) t.0 in
      with_verb c both_are.0 both_are.1 t.1

  with_seed_word : (o : Option Text) → joined_number (codes "--seed=") word ≡ o
      → option_map_or (λ s. passes s rest) (joined_seed (seen c w d f awaits.Nothing) word o) false ≡ true → Form c w d f (word ∷ rest)
  with_seed_word (Some n) is e =
      let t = by_test (d || not (is_between 0 18446744073709551615 n)) (seen c w true f awaits.Nothing) e in
      let both_are = or_none d (is_between 0 18446744073709551615 n) t.0 in
      with_joined_seed d both_are.0 n (joined_is (codes "--seed=") word n is) both_are.1 t.1
  with_seed_word None is e = with_command_word e

  with_joined_word : (o : Option Text) → joined_number (codes "--workers=") word ≡ o
      → option_map_or (λ s. passes s rest) (joined_word (seen c w d f awaits.Nothing) word o) false ≡ true → Form c w d f (word ∷ rest)
  with_joined_word (Some n) is e =
      let t = by_test (w || not (is_between 1 64 n)) (seen c true d f awaits.Nothing) e in
      let both_are = or_none w (is_between 1 64 n) t.0 in
      with_joined_workers w both_are.0 n (joined_is (codes "--workers=") word n is) both_are.1 t.1
  with_joined_word None is e = with_seed_word (joined_number (codes "--seed=") word) refl e

  as_flat : (b : Bool) → bytes_eq word (codes "--flat") ≡ b
      → option_map_or (λ s. passes s rest)
      (cond b (cond f None (Some (seen c w d true awaits.Nothing))) (joined_word (seen c w d f awaits.Nothing) word (joined_number (codes "--workers=") word))) false ≡ true
      → Form c w d f (word ∷ rest)
  as_flat true is e =
      let t = by_test f (seen c w d true awaits.Nothing) e in
      with_flat f t.0 ((bytes_eq-Decides word (codes "--flat")).0 is) t.1
  as_flat false is e = with_joined_word (joined_number (codes "--workers=") word) refl e

  as_seed : (b : Bool) → bytes_eq word (codes "--seed") ≡ b
      → option_map_or (λ s. passes s rest)
      (cond b (cond d None (Some (seen c w true f awaits.Seed)))
      (cond (bytes_eq word (codes "--flat")) (cond f None (Some (seen c w d true awaits.Nothing)))
      (joined_word (seen c w d f awaits.Nothing) word (joined_number (codes "--workers=") word)))) false ≡ true
      → Form c w d f (word ∷ rest)
  as_seed true is e =
      let t = by_test d (seen c w true f awaits.Seed) e in
      with_split_seed d t.0 ((bytes_eq-Decides word (codes "--seed")).0 is) t.1
  as_seed false is e = as_flat (bytes_eq word (codes "--flat")) refl e

  as_workers : (b : Bool) → bytes_eq word (codes "--workers") ≡ b
      → option_map_or (λ s. passes s rest)
      (cond b (cond w None (Some (seen c true d f awaits.Workers)))
      (cond (bytes_eq word (codes "--seed")) (cond d None (Some (seen c w true f awaits.Seed)))
      (cond (bytes_eq word (codes "--flat")) (cond f None (Some (seen c w d true awaits.Nothing)))
      (joined_word (seen c w d f awaits.Nothing) word (joined_number (codes "--workers=") word))))) false ≡ true
      → Form c w d f (word ∷ rest)
  as_workers true is e =
      let t = by_test w (seen c true d f awaits.Workers) e in
      with_split_workers w t.0 ((bytes_eq-Decides word (codes "--workers")).0 is) t.1
  as_workers false is e = as_seed (bytes_eq word (codes "--seed")) refl e

  with_number : (low high : ℕ) (b : Bool) → is_between low high word ≡ b → option_map_or (λ s. passes s rest) (cond b (Some (seen c w d f awaits.Nothing)) None) false ≡ true
      → Awaited low high c w d f (word ∷ rest)
  with_number low high true is e = record {
    number = word;
    rest = rest;
    words_are = refl;
    between = is;
    form = more c w d f awaits.Nothing e;
  }
  with_number low high false is e = absurd (true≢false (sym e))

sound : (words : List Text) (c w d f : Bool) (a : Awaits) → passes (seen c w d f a) words ≡ true → Meaning a c w d f words
sound [] c w d f awaits.Workers e = absurd (true≢false (sym ((both c false e).1)))
sound [] c w d f awaits.Seed e = absurd (true≢false (sym ((both c false e).1)))
sound [] c w d f awaits.Nothing e = record {
  items = [];
  words_are = refl;
  lawful = refl;
  command_once = and-false-right c;
  workers_once = and-false-right w;
  seed_once = and-false-right d;
  flat_once = and-false-right f;
  has_command = ap (λ b. b || false) (both c true e).0;
}
sound (word ∷ rest) c w d f awaits.Workers e = with_number c w d f word rest (sound rest) 1 64 (is_between 1 64 word) refl e
sound (word ∷ rest) c w d f awaits.Seed e = with_number c w d f word rest (sound rest) 0 18446744073709551615 (is_between 0 18446744073709551615 word) refl e
sound (word ∷ rest) c w d f awaits.Nothing e = as_workers c w d f word rest (sound rest) (bytes_eq word (codes "--workers")) refl e

-- ---- and every list of lawful items passes

is_false : (b : Bool) → not b ≡ true → b ≡ false
is_false true e = sym e
is_false false e = refl

command_step : (w d f : Bool) (v : Text) → is_command v ≡ true → stepped (seen false w d f awaits.Nothing) v ≡ Some (seen true w d f awaits.Nothing)
command_step w d f [] e = absurd (true≢false (sym e))
command_step w d f (b ∷ bs) e =
    let other = no_hyphen b bs e in
    let now = seen false w d f awaits.Nothing in
    let word = b ∷ bs in
    ap (λ dash. cond (dash && bytes_eq bs (codes "-workers")) (cond w None (Some (seen false true d f awaits.Workers)))
    (cond (dash && bytes_eq bs (codes "-seed")) (cond d None (Some (seen false w true f awaits.Seed)))
    (cond (dash && bytes_eq bs (codes "-flat")) (cond f None (Some (seen false w d true awaits.Nothing)))
    (joined_word now word (cond (dash && bytes_eq (take 9 bs) (codes "-workers=")) (Some (drop 9 bs)) None))))) other
    ∙ ap (λ dash. joined_seed now word (cond (dash && bytes_eq (take 6 bs) (codes "-seed=")) (Some (drop 6 bs)) None)) other
    ∙ ap (λ b. cond (not b) None (Some (seen true w d f awaits.Nothing))) e

complete : (xs : List Item) (c w d f : Bool) → are_lawful xs ≡ true
    → (c && is_about (codes "command") xs) ≡ false → (w && is_about (codes "workers") xs) ≡ false → (d && is_about (codes "seed") xs) ≡ false → (f && is_about (codes "flat") xs) ≡ false
    → (c || is_about (codes "command") xs) ≡ true → passes (seen c w d f awaits.Nothing) (spelled_all xs) ≡ true
complete [] c w d f lawful cs ws ss fs has = ap (λ b. b && true) (sym (or-false c) ∙ has)
complete (command v ∷ xs) true w d f lawful cs ws ss fs has = absurd (true≢false cs)
complete (command v ∷ xs) false w d f lawful cs ws ss fs has =
    let mine = both _ _ lawful in
    let others = both _ _ mine.1 in
    ap (λ o. option_map_or (λ s. passes s (spelled_all xs)) o false) (command_step w d f v mine.0)
    ∙ complete xs true w d f others.1 (is_false _ others.0) ws ss fs refl
complete (joined workers n ∷ xs) c true d f lawful cs ws ss fs has = absurd (true≢false ws)
complete (joined workers n ∷ xs) c false d f lawful cs ws ss fs has =
    let mine = both _ _ lawful in
    let others = both _ _ mine.1 in
    ap (λ b. option_map_or (λ s. passes s (spelled_all xs)) (cond (not b) None (Some (seen c true d f awaits.Nothing))) false) mine.0
    ∙ complete xs c true d f others.1 cs (is_false _ others.0) ss fs has
complete (split workers n ∷ xs) c true d f lawful cs ws ss fs has = absurd (true≢false ws)
complete (split workers n ∷ xs) c false d f lawful cs ws ss fs has =
    let mine = both _ _ lawful in
    let others = both _ _ mine.1 in
    ap (λ b. option_map_or (λ s. passes s (spelled_all xs)) (cond b (Some (seen c true d f awaits.Nothing)) None) false) mine.0
    ∙ complete xs c true d f others.1 cs (is_false _ others.0) ss fs has
complete (joined seed n ∷ xs) c w true f lawful cs ws ss fs has = absurd (true≢false ss)
complete (joined seed n ∷ xs) c w false f lawful cs ws ss fs has =
    let mine = both _ _ lawful in
    let others = both _ _ mine.1 in
    ap (λ b. option_map_or (λ s. passes s (spelled_all xs)) (cond (not b) None (Some (seen c w true f awaits.Nothing))) false) mine.0
    ∙ complete xs c w true f others.1 cs ws (is_false _ others.0) fs has
complete (split seed n ∷ xs) c w true f lawful cs ws ss fs has = absurd (true≢false ss)
complete (split seed n ∷ xs) c w false f lawful cs ws ss fs has =
    let mine = both _ _ lawful in
    let others = both _ _ mine.1 in
    ap (λ b. option_map_or (λ s. passes s (spelled_all xs)) (cond b (Some (seen c w true f awaits.Nothing)) None) false) mine.0
    ∙ complete xs c w true f others.1 cs ws (is_false _ others.0) fs has
complete (flat ∷ xs) c w d true lawful cs ws ss fs has = absurd (true≢false fs)
complete (flat ∷ xs) c w d false lawful cs ws ss fs has =
    let others = both _ _ (both true _ lawful).1 in
    complete xs c w d true others.1 cs ws ss (is_false _ others.0) has

pub spelled_by : (words : List Text) → passes nothing_seen words ≡ true → (xs : List Item) × IsSpelledBy words xs
spelled_by words e =
    let f = sound words false false false false awaits.Nothing e in
    (f.items, record { words_are = f.words_are; lawful = f.lawful; has_command = f.has_command })

pub no_job : (words : List Text) → passes nothing_seen words ≡ false → HasNoJob words
no_job words e xs s =
    true≢false (sym (complete xs false false false false s.lawful refl refl refl refl s.has_command) ∙ ap (passes nothing_seen) (sym s.words_are) ∙ e)
