-- What the test of the form, and the reading of a number, cite.
use Rattle.std.proofs.Common.{◌≡◌, ◌<◌, ◌≤◌, ◌^◌, ℕ, Bool, true, false, cond, ◌&&◌, [], ◌∷◌, ◌++◌, length, take, drop, take-append-drop}
use Rattle.std.proofs.Common.{Option, Some, None, unwrap_or, nat_le, refl, ap, ap₂, sym, ◌∙◌, arith, true≢false, leb-true, zero-lt-suc, lt_of_not-le, lt_of_le_of_lt, take_at, drop_at}
use Rattle.std.specs.List.{list_all}
use Rattle.std.specs.Str.{bytes_eq}
use Rattle.std.specs.Str.Parse.{AllDigits, ExplainsUnsignedError, HasUnsignedDigitsIfOk, IsNumeral, ParsesUnsigned, digits_value, without_leading_plus}
use Rattle.std.specs.Str.Pattern.{LacksTextAt}
use Rattle.std.specs.Char.{is_ascii_digit}
use Rattle.std.proofs.lemmas.Slice.Eq.{bytes_eq-Decides}
use Rattle.std.proofs.lemmas.Bool.{lt-leb}
use Rattle.clap.specs.Words.{ReadsOne}
use Rattle.clap.proofs.WalkLemmas.{both}
use Rattle.hc_words.specs.Items.{Text, is_between, is_decimal}
use Rattle.hc_words.specs.Form.{joined_number}
use Rattle.hc_words.proofs.Law.{ascii_digit, first_digit, no_plus}
use Rattle.hc_words.proofs.Steps.{and-false}

-- ---- what the test cites

digits_from : (ds : Text) → list_all is_ascii_digit ds ≡ true → AllDigits 10 ds
digits_from [] e = tt
digits_from (d ∷ ds) e =
    let parts = both _ _ e in
    (ascii_digit d parts.0, digits_from ds parts.1)

pub too_large : (low high : ℕ) (n : Text) → is_decimal n ≡ true
    → (IsNumeral 10 (without_leading_plus n) × (digits_value 10 (without_leading_plus n) < 2 ^ 64) → ⊥) → high < 2 ^ 64 → false ≡ is_between low high n
too_large low high [] e no_number below = absurd (true≢false (sym e))
too_large low high (d ∷ ds) e no_number below =
    let n = d ∷ ds in
    let digits : list_all is_ascii_digit n ≡ true = (both _ _ (both _ _ e).1).1 in
    let first = ascii_digit d (both _ _ digits).0 in
    let same = no_plus d ds first in
    let above : high < digits_value 10 n =
    lt_of_not-le {n = digits_value 10 n} {m = high} (λ (le : digits_value 10 n ≤ high). no_number (rw same ((zero-lt-suc (length ds), digits_from n digits), omega (arith, below)))) in
    sym (ap₂ (λ a b. a && (nat_le low (digits_value 10 n) && b)) e (lt-leb (digits_value 10 n) high above) ∙ and-false (nat_le low (digits_value 10 n)))

pub number_read : (k low high default : ℕ) (t : Text) (r : Option ℕ) → high < 2 ^ k
    → ReadsOne (λ bs r. ParsesUnsigned k 10 bs r × ExplainsUnsignedError 10 bs r × HasUnsignedDigitsIfOk bs r) t r
    → is_between low high t ≡ true → unwrap_or r default ≡ digits_value 10 t
number_read k low high default [] r fits reads e = absurd (true≢false (sym e))
number_read k low high default (d ∷ ds) (Some v) fits reads e = reads.0.1 ∙ ap (digits_value 10) (no_plus d ds (first_digit d ds low high e))
number_read k low high default (d ∷ ds) None fits reads e =
    let n = d ∷ ds in
    let parts = both (is_decimal n) _ e in
    let digits : list_all is_ascii_digit n ≡ true = (both _ _ (both _ _ parts.0).1).1 in
    let most : digits_value 10 n ≤ high = leb-true _ _ (both (nat_le low (digits_value 10 n)) _ parts.1).1 in
    absurd (reads.1.0 (rw (no_plus d ds (first_digit d ds low high e)) ((zero-lt-suc (length ds), digits_from n digits), lt_of_le_of_lt most fits)))

pub is_joined : (prefix word rest : Text) → word ≡ prefix ++ rest → Some rest ≡ joined_number prefix word
is_joined prefix word rest e =
    let front : take (length prefix) word ≡ prefix = ap (take (length prefix)) e ∙ take_at prefix rest (length prefix) refl in
    let back : drop (length prefix) word ≡ rest = ap (drop (length prefix)) e ∙ drop_at prefix rest (length prefix) refl in
    sym (ap₂ (λ b (t : Text). cond b (Some t) None) ((bytes_eq-Decides (take (length prefix) word) prefix).1 front) back)

pub no_joined : (prefix word : Text) → LacksTextAt prefix word 0 → None ≡ joined_number prefix word
no_joined prefix word lacks = go (bytes_eq (take (length prefix) word) prefix) refl
  where
    go : (b : Bool) → bytes_eq (take (length prefix) word) prefix ≡ b → None ≡ joined_number prefix word
    go true e =
        let is : take (length prefix) word ≡ prefix = (bytes_eq-Decides (take (length prefix) word) prefix).0 e in
        absurd (lacks (drop (length prefix) word) (sym (take-append-drop (length prefix) word) ∙ ap (λ (t : Text). t ++ drop (length prefix) word) is))
    go false e = rw e refl
