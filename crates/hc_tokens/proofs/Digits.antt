-- Numbers and their digits.
use Rattle.std.proofs.Common.{◌≡◌, ℕ, zero, suc, ◌+◌, ◌*◌, ◌^◌, ◌≤◌, ◌<◌, Bool, true, false, cond, nat_le, ◌&&◌, List, [], ◌∷◌, length, take, drop, get_or, refl, sym, ◌∙◌, ap, subst, arith}
use Rattle.std.specs.List.{prefix_len, list_all}
use Rattle.std.proofs.Math.Nat.{pow-zero, pow-suc, mul_comm, mul_assoc, pow-le-pow_right}
use Rattle.std.proofs.lemmas.List.{drop_more}
use Rattle.std.proofs.lemmas.List.Folds.{length-prefix_len}
use Rattle.std.proofs.lemmas.Bool.Decides.{nat_tests}
use Rattle.std.specs.Char.{is_ascii_hexdigit}
use Rattle.hc_tokens.specs.Tokens as t

least_times : (b n : ℕ) → 1 ≤ b → n ≤ b * n
least_times zero n h = absurd (omega arith)
least_times (suc b) n h = omega arith

-- digits make a number no smaller
pub number-grows : (base n : ℕ) (ds : List ℕ) → 1 ≤ base → n ≤ t.number_from base n ds
number-grows base n [] h = omega arith
number-grows base n (d ∷ ds) h = omega (arith, number-grows base (base * n + t.digit_value d) ds h, least_times base n h)

-- a number past 128 bits stays so
pub past_stays : (base n : ℕ) (d : ℕ) (ds : List ℕ) (all : ℕ) → 1 ≤ base → all ≡ t.number_from base n (d ∷ ds) → 2 ^ 128 ≤ base * n + t.digit_value d → 2 ^ 128 ≤ all
past_stays base n d ds all h e l = let more : base * n + t.digit_value d ≤ t.number_from base (base * n + t.digit_value d) ds = number-grows base (base * n + t.digit_value d) ds h in omega arith

times_le : (a b c : ℕ) → a ≤ b → a * c ≤ b * c
times_le a b zero h = omega arith
times_le a b (suc c) h = omega (arith, times_le a b c h)

regroup : (b n q r : ℕ) → r ≡ q * b → (b * n) * q ≡ n * r
regroup b n q r e = rw e (ap (λ x. x * q) (mul_comm b n) ∙ mul_assoc n b q ∙ ap (λ x. n * x) (mul_comm b q))

module _ (p : ℕ → Bool) (base : ℕ) (small : (d : ℕ) → p d ≡ true → t.digit_value d < base) where
  both_true : (a b : Bool) → (a && b) ≡ true → (a ≡ true) × (b ≡ true)
  both_true true b e = (refl, e)
  both_true false b e = absurd cc

  number-below : (n : ℕ) (ds : List ℕ) → list_all p ds ≡ true → t.number_from base n ds < (n + 1) * base ^ length ds
  number-below n [] h = let one : base ^ 0 ≡ 1 = pow-zero base in let is : (n + 1) * base ^ length {A = ℕ} [] ≡ n + 1 = ap (λ x. (n + 1) * x) one ∙ omega arith in omega arith
  number-below n (d ∷ ds) h =
      let both = both_true (p d) (list_all p ds) h in
      let first : t.digit_value d < base = small d both.0 in
      let rest : t.number_from base (base * n + t.digit_value d) ds < (base * n + t.digit_value d + 1) * base ^ length ds = number-below (base * n + t.digit_value d) ds both.1 in
      let bound : (base * n + t.digit_value d + 1) * base ^ length ds ≤ (base * (n + 1)) * base ^ length ds = times_le (base * n + t.digit_value d + 1) (base * (n + 1)) (base ^ length ds) (omega arith) in
      let same : (base * (n + 1)) * base ^ length ds ≡ (n + 1) * base ^ (suc (length ds)) = regroup base (n + 1) (base ^ length ds) (base ^ (suc (length ds))) (pow-suc base (length ds)) in
      omega arith

  front-step : (b : Bool) (x : ℕ) (xs : List ℕ) → p x ≡ b → list_all p (take (prefix_len p xs) xs) ≡ true → list_all p (take (cond b (1 + prefix_len p xs) 0) (x ∷ xs)) ≡ true
  front-step true x xs e h = ap (λ k. list_all p (take k (x ∷ xs))) (let on : 1 + prefix_len p xs ≡ suc (prefix_len p xs) = omega arith in on) ∙ ap (λ b. b && list_all p (take (prefix_len p xs) xs)) e ∙ h
  front-step false x xs e h = refl

  front-all : (xs : List ℕ) → list_all p (take (prefix_len p xs) xs) ≡ true
  front-all [] = refl
  front-all (x ∷ xs) = front-step (p x) x xs refl (front-all xs)

pub hexadecimal_small : (d : ℕ) → is_ascii_hexdigit d ≡ true → t.digit_value d < 16
hexadecimal_small d e = grind (arith, nat_tests)

pub binary_small : (d : ℕ) → t.is_binary_digit d ≡ true → t.digit_value d < 2
binary_small d e = grind (arith, nat_tests)

-- a number of few digits is within 128 bits
few_digits : (p : ℕ → Bool) (base most m : ℕ) → ((d : ℕ) → p d ≡ true → t.digit_value d < base) → 1 ≤ base → base ^ most ≡ 2 ^ 128 → (bytes digits : List ℕ) → m ≡ prefix_len p bytes → digits ≡ take m bytes → m ≤ most → 2 ^ 128 ≤ t.number_of base digits → ⊥
few_digits p base most m small one is bytes digits e e' le past =
    let digits_are : digits ≡ take (prefix_len p bytes) bytes = e' ∙ ap (λ k. take k bytes) e in
    let below : t.number_of base digits < (0 + 1) * base ^ length digits = number-below p base small 0 digits (subst (λ x. list_all p x ≡ true) (sym digits_are) (front-all p base small bytes)) in
    let long : length digits ≡ m = ap length digits_are ∙ length-prefix_len p bytes ∙ sym e in
    let power : base ^ length digits ≤ base ^ most = pow-le-pow_right one (omega arith) in
    omega arith

and_left : (a b : Bool) → (a && b) ≡ true → a ≡ true
and_left true b e = refl
and_left false b e = absurd cc

pub and_right : (a b : Bool) → (a && b) ≡ true → b ≡ true
and_right true b e = e
and_right false b e = absurd cc

literal_fits : (m most : ℕ) (a b : Bool) → (nat_le 1 m && nat_le m most && a && b) ≡ true → m ≤ most
literal_fits m most a b e = let h : nat_le m most ≡ true = and_right (nat_le 1 m) (nat_le m most) (and_left (nat_le 1 m && nat_le m most) a (and_left (nat_le 1 m && nat_le m most && a) b e)) in grind (arith, nat_tests)

pub is_few : (p : ℕ → Bool) (base most m : ℕ) → ((d : ℕ) → p d ≡ true → t.digit_value d < base) → 1 ≤ base → base ^ most ≡ 2 ^ 128 → (bytes digits : List ℕ) → m ≡ prefix_len p bytes → digits ≡ take m bytes → (a b : Bool) → (nat_le 1 m && nat_le m most && a && b) ≡ true → 2 ^ 128 ≤ t.number_of base digits → ⊥
is_few p base most m small one is bytes digits e e' a b f past = few_digits p base most m small one is bytes digits e e' (literal_fits m most a b f) past

-- a number that is past 128 bits at the digit i is past them
pub past_at : (digits : List ℕ) (i base n : ℕ) → 1 ≤ base → i < length digits → t.number_of base digits ≡ t.number_from base n (drop i digits) → 2 ^ 128 ≤ base * n + t.digit_value (get_or digits i 0) → 2 ^ 128 ≤ t.number_of base digits
past_at digits i base n h l e past = past_stays base n (get_or digits i 0) (drop (i + 1) digits) (t.number_of base digits) h (e ∙ ap (t.number_from base n) (drop_more digits i 0 l)) past
