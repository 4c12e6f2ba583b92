-- Texts as lists.
use Rattle.std.proofs.Common.{◌≡◌, ℕ, zero, suc, ◌+◌, ◌-◌, ◌/◌, ◌%◌, ◌^◌, ◌<◌, ◌≤◌, Bool, true, false, if◌then◌else◌, cond, List, [], ◌∷◌, ◌++◌, map, drop, length, refl, sym, ap, ap₂, ◌∙◌, inl, inr, append_assoc, append-nil, arith, length-drop}
use Rattle.std.specs.Prelude.{nat_le, nat_lt, slice_get, Option, Some, Result, Ok, Err, OnOk, flat_map, filter, codes}
use Rattle.std.specs.List.{enumerate_from, zip}
use Rattle.std.proofs.lemmas.List.{length-map}
use Rattle.std.proofs.lemmas.Grind.{flat_map-append}
use Rattle.std.proofs.lemmas.Bool.{lt-leb, lt-ltb, le-ltb, ltb-true, ltb-false}
use Rattle.std.proofs.Math.Pow.{pow_mono}
use Rattle.hc_bits.specs.Digits.{digit, hex, lines_text}
use Rattle.hc_signal.specs.declared.signal.NodeId.{NodeId}
use Rattle.hc_naming.specs.ModuleNames.{Named, name_of_id}
use Rattle.hc_naming.proofs.Lists.{drop_at, drop_all}
use Rattle.hc_naming.proofs.Named.{choice}
use Rattle.hc_verilog.specs.Templates.{comma_list, with_commas, clocked, mux_text, tested_case}

-- the last digit after the others
pub hex_last : (old mid new : List ℕ) (n v d : ℕ) → 0 < n → mid ≡ old ++ hex (n - 1) (v / 16) → d ≡ digit (v % 16) → new ≡ mid ++ d ∷ [] → new ≡ old ++ hex n v
hex_last old mid new zero v d h _ _ _ = absurd (omega (arith, h))
hex_last old mid new (suc n) v d h begins last ends =
    let fewer : suc n - 1 ≡ n = omega arith in
    rw (ends, begins, last, fewer, append_assoc) refl

pub lines_append : (xs ys : List (List ℕ)) → lines_text (xs ++ ys) ≡ lines_text xs ++ lines_text ys
lines_append xs ys = flat_map-append (λ line. line ++ 10 ∷ []) xs ys

pub clocked_text : (lines : List (List ℕ)) → lines_text (clocked lines) ≡ codes "  always @(posedge clock) begin\n" ++ (lines_text lines ++ codes "  end\n")
unfolding clocked
clocked_text lines = ap (λ t. codes "  always @(posedge clock) begin\n" ++ t) (lines_append lines (codes "  end" ∷ []))

-- ---- texts that are written in parts

module _ {T E : Type 0} (r : Result T E) (old new : List ℕ) where
  pub written_two : (a p q all : List ℕ) → all ≡ p ++ q → a ≡ old ++ p → OnOk r (new ≡ a ++ q) → OnOk r (new ≡ old ++ all)
  written_two a p q all parts first last = by r last
    where
      by : (r : Result T E) → OnOk r (new ≡ a ++ q) → OnOk r (new ≡ old ++ all)
      by (Ok x) last = rw (last, first, parts) (append_assoc old p q)
      by (Err e) last = tt

  pub written_three : (a b p q s all : List ℕ) → all ≡ p ++ (q ++ s) → a ≡ old ++ p → b ≡ a ++ q → OnOk r (new ≡ b ++ s) → OnOk r (new ≡ old ++ all)
  written_three a b p q s all parts first second last =
      written_two b (p ++ q) s all (parts ∙ sym (append_assoc p q s)) (second ∙ ap (λ t. t ++ q) first ∙ append_assoc old p q) last

  pub written_four : (a b c p q s t all : List ℕ) → all ≡ p ++ (q ++ (s ++ t)) → a ≡ old ++ p → b ≡ a ++ q → c ≡ b ++ s → OnOk r (new ≡ c ++ t) → OnOk r (new ≡ old ++ all)
  written_four a b c p q s t all parts first second third last =
      written_three b c (p ++ q) s t all (parts ∙ sym (append_assoc p q (s ++ t))) (second ∙ ap (λ l. l ++ q) first ∙ append_assoc old p q) third last

  pub written_seven : (a b c d e f p q s t u v w all : List ℕ) → all ≡ p ++ (q ++ (s ++ (t ++ (u ++ (v ++ w))))) → a ≡ old ++ p → b ≡ a ++ q → c ≡ b ++ s → d ≡ c ++ t
      → e ≡ d ++ u → f ≡ e ++ v → OnOk r (new ≡ f ++ w) → OnOk r (new ≡ old ++ all)
  written_seven a b c d e f p q s t u v w all parts first second third fourth fifth sixth last =
      written_four d e f (p ++ (q ++ (s ++ t))) u v w all
      (parts ∙ sym (append_assoc p (q ++ (s ++ t)) (u ++ (v ++ w)) ∙ ap (λ l. p ++ l) (append_assoc q (s ++ t) (u ++ (v ++ w)) ∙ ap (λ l. q ++ l) (append_assoc s t (u ++ (v ++ w))))))
      (fourth ∙ ap (λ l. l ++ t) third ∙ append_assoc b s t ∙ ap (λ l. l ++ (s ++ t)) second ∙ append_assoc a q (s ++ t) ∙ ap (λ l. l ++ (q ++ (s ++ t))) first ∙ append_assoc old p (q ++ (s ++ t)))
      fifth sixth last

-- ---- loops that write the elements of a list

pub get_enumerated : {X : Type 0} (n : ℕ) (xs : List X) (k : ℕ) (x : X) → slice_get xs k ≡ Some x → slice_get (enumerate_from n xs) k ≡ Some (n + k, x)
get_enumerated n [] k x e = absurd (cc)
get_enumerated {X} n (y ∷ xs) zero x e = let same : y ≡ x = cc in let z : n ≡ n + 0 = omega arith in ap₂ {C = Option (ℕ × X)} (λ a b. Some (a, b)) z same
get_enumerated {X} n (y ∷ xs) (suc k) x e = get_enumerated (n + 1) xs k x e ∙ ap {B = Option (ℕ × X)} (λ a. Some (a, x)) (let s : n + 1 + k ≡ n + suc k = omega arith in s)

-- what was written, with the rest, is all
pub one_more : (out new piece rest after all : List ℕ) → new ≡ out ++ piece → rest ≡ piece ++ after → out ++ rest ≡ all → new ++ after ≡ all
one_more out new piece rest after all written cut before = rw written (append_assoc out piece after ∙ ap (λ t. out ++ t) (sym cut) ∙ before)

pub finished : (out rest all : List ℕ) → rest ≡ [] → out ++ rest ≡ all → out ≡ all
finished out rest all none before = sym (append-nil out) ∙ ap (λ t. out ++ t) (sym none) ∙ before

module _ {X : Type 0} (f : ℕ × X → List (List ℕ)) (first k : ℕ) (xs : List X) where
  -- the lines for the elements from place k on
  pub lines_cut : (x : X) → slice_get xs k ≡ Some x
      → lines_text (flat_map f (enumerate_from (first + k) (drop k xs))) ≡ lines_text (f (first + k, x)) ++ lines_text (flat_map f (enumerate_from (first + (k + 1)) (drop (k + 1) xs)))
  lines_cut x e =
      ap (λ l. lines_text (flat_map f (enumerate_from (first + k) l))) (drop_at xs k x e)
      ∙ lines_append (f (first + k, x)) (flat_map f (enumerate_from (first + k + 1) (drop (k + 1) xs)))
      ∙ ap (λ n. lines_text (f (first + k, x)) ++ lines_text (flat_map f (enumerate_from n (drop (k + 1) xs)))) (let s : first + k + 1 ≡ first + (k + 1) = omega arith in s)

  pub lines_over : length xs ≤ k → lines_text (flat_map f (enumerate_from (first + k) (drop k xs))) ≡ []
  lines_over le = ap (λ l. lines_text (flat_map f (enumerate_from (first + k) l))) (drop_all xs k le)

module _ {X : Type 0} (f : ℕ × X → List ℕ) (first k : ℕ) (xs : List X) where
  -- the same where each element has one line
  pub line_each_cut : (x : X) → slice_get xs k ≡ Some x
      → lines_text (map f (enumerate_from (first + k) (drop k xs))) ≡ (f (first + k, x) ++ 10 ∷ []) ++ lines_text (map f (enumerate_from (first + (k + 1)) (drop (k + 1) xs)))
  line_each_cut x e =
      ap (λ l. lines_text (map f (enumerate_from (first + k) l))) (drop_at xs k x e)
      ∙ ap (λ n. (f (first + k, x) ++ 10 ∷ []) ++ lines_text (map f (enumerate_from n (drop (k + 1) xs)))) (let s : first + k + 1 ≡ first + (k + 1) = omega arith in s)

  -- the same where some elements have none
  pub line_some_cut : (test : ℕ × X → Bool) (x : X) → slice_get xs k ≡ Some x
      → lines_text (map f (filter test (enumerate_from (first + k) (drop k xs)))) ≡ (if test (first + k, x) then (f (first + k, x) ++ 10 ∷ []) else []) ++ lines_text
      (map f (filter test (enumerate_from (first + (k + 1)) (drop (k + 1) xs))))
  line_some_cut test x e =
      ap (λ l. lines_text (map f (filter test (enumerate_from (first + k) l)))) (drop_at xs k x e)
      ∙ by (test (first + k, x)) (filter test (enumerate_from (first + k + 1) (drop (k + 1) xs)))
      ∙ ap (λ n. (if test (first + k, x) then (f (first + k, x) ++ 10 ∷ []) else []) ++ lines_text (map f (filter test (enumerate_from n (drop (k + 1) xs)))))
      (let s : first + k + 1 ≡ first + (k + 1) = omega arith in s)
    where
      by : (b : Bool) (rest : List (ℕ × X)) → lines_text (map f (cond b ((first + k, x) ∷ rest) rest)) ≡ (if b then (f (first + k, x) ++ 10 ∷ []) else []) ++ lines_text (map f rest)
      by true rest = refl
      by false rest = refl

-- ---- lists whose last element is written otherwise

left_over : (a b : ℕ) → nat_lt a b ≡ nat_lt 0 (b - a)
left_over a b =
    elim (choice (nat_lt a b)) [
      | inl e ↦ e ∙ sym (lt-ltb 0 (b - a) (let lt : a < b = ltb-true a b e in omega arith))
      | inr e ↦ e ∙ sym (le-ltb 0 (b - a) (let le : b ≤ a = ltb-false a b e in omega arith))
    ]

-- more elements follow
pub more_left : {X Y : Type 0} (f : X → Y) (k : ℕ) (xs : List X) → nat_lt 0 (length (map f (drop (k + 1) xs))) ≡ nat_lt (k + 1) (length xs)
more_left f k xs = ap (nat_lt 0) (length-map (drop (k + 1) xs) f ∙ length-drop (k + 1) xs) ∙ sym (left_over (k + 1) (length xs))

some_left : {X : Type 0} (x : X) (xs : List X) → true ≡ nat_lt 0 (length (x ∷ xs))
some_left x xs = sym (lt-ltb 0 (length (x ∷ xs)) (omega arith))

comma_cut : (x : List ℕ) (xs : List (List ℕ)) → comma_list (x ∷ xs) ≡ (x ++ (if nat_lt 0 (length xs) then codes ", " else [])) ++ comma_list xs
comma_cut x [] = sym (append-nil (x ++ []) ∙ append-nil x)
comma_cut x (y ∷ ys) = ap (λ b. (x ++ (if b then codes ", " else [])) ++ comma_list (y ∷ ys)) (some_left y ys)

commas_cut : (x : List ℕ) (xs : List (List ℕ)) → lines_text (with_commas (x ∷ xs)) ≡ (x ++ (if nat_lt 0 (length xs) then codes ",\n" else codes "\n")) ++ lines_text (with_commas xs)
commas_cut x [] = refl
commas_cut x (y ∷ ys) =
    ap (λ l. l ++ lines_text (with_commas (y ∷ ys))) (append_assoc x (codes ",") (10 ∷ []))
    ∙ ap (λ b. (x ++ (if b then codes ",\n" else codes "\n")) ++ lines_text (with_commas (y ∷ ys))) (some_left y ys)

module _ {X : Type 0} (f : X → List ℕ) (xs : List X) (k : ℕ) (x : X) (more : Bool) (at : slice_get xs k ≡ Some x) (more_is : more ≡ nat_lt (k + 1) (length xs)) where
  pub part_cut : comma_list (map f (drop k xs)) ≡ (f x ++ (if more then codes ", " else [])) ++ comma_list (map f (drop (k + 1) xs))
  part_cut =
      ap (λ l. comma_list (map f l)) (drop_at xs k x at)
      ∙ comma_cut (f x) (map f (drop (k + 1) xs))
      ∙ ap (λ b. (f x ++ (if b then codes ", " else [])) ++ comma_list (map f (drop (k + 1) xs))) (more_left f k xs ∙ sym more_is)

  pub line_cut : lines_text (with_commas (map f (drop k xs))) ≡ (f x ++ (if more then codes ",\n" else codes "\n")) ++ lines_text (with_commas (map f (drop (k + 1) xs)))
  line_cut =
      ap (λ l. lines_text (with_commas (map f l))) (drop_at xs k x at)
      ∙ commas_cut (f x) (map f (drop (k + 1) xs))
      ∙ ap (λ b. (f x ++ (if b then codes ",\n" else codes "\n")) ++ lines_text (with_commas (map f (drop (k + 1) xs)))) (more_left f k xs ∙ sym more_is)

module _ (name : Named → List ℕ) (ws : ℕ) (sel : NodeId) where
  mux_cut : (k : ℕ) (c : NodeId) (cs : List NodeId)
      → mux_text name ws sel k (c ∷ cs) ≡ (if nat_lt 0 (length cs) then tested_case name ws sel k c else name_of_id name c) ++ mux_text name ws sel (k + 1) cs
  mux_cut k c [] = sym (append-nil (name_of_id name c))
  mux_cut k c (d ∷ cs) =
      ap (λ n. tested_case name ws sel k c ++ mux_text name ws sel n (d ∷ cs)) (let s : suc k ≡ k + 1 = omega arith in s)
      ∙ ap (λ b. (if b then tested_case name ws sel k c else name_of_id name c) ++ mux_text name ws sel (k + 1) (d ∷ cs)) (some_left d cs)

  pub case_cut : (cs : List NodeId) (k : ℕ) (c : NodeId) (more : Bool) → slice_get cs k ≡ Some c → more ≡ nat_lt (k + 1) (length cs)
      → mux_text name ws sel k (drop k cs) ≡ (if more then tested_case name ws sel k c else name_of_id name c) ++ mux_text name ws sel (k + 1) (drop (k + 1) cs)
  case_cut cs k c more at more_is =
      ap (mux_text name ws sel k) (drop_at cs k c at)
      ∙ mux_cut k c (drop (k + 1) cs)
      ∙ ap (λ b. (if b then tested_case name ws sel k c else name_of_id name c) ++ mux_text name ws sel (k + 1) (drop (k + 1) cs))
      (ap (nat_lt 0) (length-drop (k + 1) cs) ∙ sym (left_over (k + 1) (length cs)) ∙ sym more_is)

-- more words than a size can have
pub many_words : (w size : ℕ) → 32 ≤ w → size < 2 ^ 32 → false ≡ nat_le (2 ^ w) size
many_words w size wide small = sym (lt-leb (2 ^ w) size (let more : 2 ^ 32 ≤ 2 ^ w = pow_mono wide in omega arith))

-- ---- the ends of loops over pairs

pub zip_none_left : {X Y : Type 0} (xs : List X) (ys : List Y) → length xs ≡ 0 → zip xs ys ≡ []
zip_none_left [] ys e = refl
zip_none_left (x ∷ xs) ys e = absurd (omega (arith, e))

pub zip_none_right : {X Y : Type 0} (xs : List X) (ys : List Y) → length ys ≡ 0 → zip xs ys ≡ []
zip_none_right [] ys e = refl
zip_none_right (x ∷ xs) [] e = refl
zip_none_right (x ∷ xs) (y ∷ ys) e = absurd (omega (arith, e))

pub get_numbered : {X : Type 0} (xs : List X) (k : ℕ) (x : X) → slice_get xs k ≡ Some x → slice_get (enumerate_from 0 xs) k ≡ Some (k, x)
get_numbered {X} xs k x e = get_enumerated 0 xs k x e ∙ ap {B = Option (ℕ × X)} (λ n. Some (n, x)) (let z : 0 + k ≡ k = omega arith in z)
