-- One turn of the loop that cuts a line into tokens.
use Rattle.std.proofs.Common.{◌≡◌, ℕ, zero, suc, ◌+◌, ◌-◌, ◌^◌, ◌≤◌, Bool, true, false, cond, not, nat_le, nat_eq, nat_lt, ◌==◌, ◌&&◌, List, [], ◌∷◌, ◌++◌, length, take, drop, Option, Some, None, refl, sym, ◌∙◌, ap, subst, arith, append_assoc, append-nil, length-drop, pos, codes, rules}
use Rattle.std.specs.List.{prefix_len, starts_with}
use Rattle.std.specs.Option.{option_map}
use Rattle.std.specs.Cmp.Lexicographic.{pointwise}
use Rattle.std.specs.Char.{is_ascii_digit, is_ascii_hexdigit}
use Rattle.std.proofs.lemmas.Bool.Decides.{nat_tests}
use Rattle.std.proofs.lemmas.List.Sums.{prefix_len-le-length}
use Rattle.hc_tokens.specs.declared.token.Token.{Token}
use Rattle.hc_tokens.specs.declared.token.Token.TheVariants as tok
use Rattle.hc_tokens.specs.Tokens as t
use Rattle.hc_tokens.specs.Tokens.{Front, first_token, tokens, tokens_after}
use Rattle.hc_tokens.specs.SignTable.{with_front, front_among}
use Rattle.hc_tokens.proofs.Digits.{and_right}

-- ---- a token takes at least one byte and at most all

abbrev pub Within : ℕ → Front → Type 0
Within m None = Unit {0}
Within m (Some f) = (1 ≤ f.1) × (f.1 ≤ m)

when-within : (b : Bool) (x : Token) (n m : ℕ) → 1 ≤ n → n ≤ m → Within m (t.when b x n)
when-within true x n m h k = (h, k)
when-within false x n m h k = tt

word_byte : (b : ℕ) → t.begins_word b ≡ true → t.is_word_byte b ≡ true
word_byte b e = grind (arith, nat_tests)

counts : (p : ℕ → Bool) (b : ℕ) (bytes : List ℕ) → p b ≡ true → 1 ≤ prefix_len p (b ∷ bytes)
counts p b bytes e = let is : prefix_len p (b ∷ bytes) ≡ 1 + prefix_len p bytes = ap (λ x. cond x (1 + prefix_len p bytes) 0) e in omega arith

word-within : (bytes : List ℕ) → t.first_is t.begins_word bytes ≡ true → Within (length bytes) (t.word_front bytes)
word-within [] e = absurd cc
word-within (b ∷ bytes) e = when-within (nat_le (prefix_len t.is_word_byte (b ∷ bytes)) 64) _ (prefix_len t.is_word_byte (b ∷ bytes)) (suc (length bytes)) (counts t.is_word_byte b bytes (word_byte b e)) (prefix_len-le-length t.is_word_byte (b ∷ bytes))

starts_two : (bytes : List ℕ) (a b : ℕ) → starts_with nat_eq bytes (a ∷ b ∷ []) ≡ true → 2 ≤ length bytes
starts_two [] a b e = absurd cc
starts_two (x ∷ []) a b e = absurd (let clash : false ≡ true = and_right (nat_eq a x) false e in cc)
starts_two (x ∷ y ∷ bytes) a b e = omega arith

literal-within : (p : ℕ → Bool) (base most width n m : ℕ) (bytes : List ℕ) → n + 2 + length bytes ≤ m → Within m (t.literal_front p base most width n bytes)
literal-within p base most width n m bytes h = let le : prefix_len p bytes ≤ length bytes = prefix_len-le-length p bytes in when-within _ _ (n + 2 + prefix_len p bytes) m (omega arith) (omega arith)

digits-within : (number n m : ℕ) (bytes : List ℕ) (h b : Bool) → starts_with nat_eq bytes (codes "'h") ≡ h → starts_with nat_eq bytes (codes "'b") ≡ b → 1 ≤ n → n + length bytes ≤ m → Within m (cond h (t.literal_front is_ascii_hexdigit 16 32 number n (drop 2 bytes)) (cond b (t.literal_front t.is_binary_digit 2 128 number n (drop 2 bytes)) (t.when (nat_lt number (2 ^ 63) && not (t.first_is t.begins_word bytes)) (tok.Int (pos number)) n)))
digits-within number n m bytes true b e f one le = let two : 2 ≤ length bytes = starts_two bytes 39 104 e in let long : length (drop 2 bytes) ≡ length bytes - 2 = length-drop 2 bytes in literal-within is_ascii_hexdigit 16 32 number n m (drop 2 bytes) (omega arith)
digits-within number n m bytes false true e f one le = let two : 2 ≤ length bytes = starts_two bytes 39 98 f in let long : length (drop 2 bytes) ≡ length bytes - 2 = length-drop 2 bytes in literal-within t.is_binary_digit 2 128 number n m (drop 2 bytes) (omega arith)
digits-within number n m bytes false false e f one le = when-within _ _ n m one (omega arith)

number-within : (bytes : List ℕ) → t.first_is is_ascii_digit bytes ≡ true → Within (length bytes) (t.number_front bytes)
number-within [] e = absurd cc
number-within (b ∷ bytes) e =
    let n : ℕ = prefix_len is_ascii_digit (b ∷ bytes) in
    let one : 1 ≤ prefix_len is_ascii_digit (b ∷ bytes) = counts is_ascii_digit b bytes e in
    let le : prefix_len is_ascii_digit (b ∷ bytes) ≤ suc (length bytes) = prefix_len-le-length is_ascii_digit (b ∷ bytes) in
    let long : length (drop (prefix_len is_ascii_digit (b ∷ bytes)) (b ∷ bytes)) ≡ suc (length bytes) - prefix_len is_ascii_digit (b ∷ bytes) = length-drop (prefix_len is_ascii_digit (b ∷ bytes)) (b ∷ bytes) in
    digits-within _ (prefix_len is_ascii_digit (b ∷ bytes)) (suc (length bytes)) (drop (prefix_len is_ascii_digit (b ∷ bytes)) (b ∷ bytes)) _ _ refl refl one (omega arith)

starts-le : (needle bytes : List ℕ) → pointwise nat_eq needle (take (length needle) bytes) ≡ true → length needle ≤ length bytes
starts-le [] bytes e = omega arith
starts-le (a ∷ needle) [] e = absurd cc
starts-le (a ∷ needle) (b ∷ bytes) e = let h : length needle ≤ length bytes = starts-le needle bytes (and_right (nat_eq a b) (pointwise nat_eq needle (take (length needle) bytes)) e) in omega arith

some_within : (b : Bool) (bytes : List ℕ) (s : List ℕ × Token) (rest : Option (List ℕ × Token)) → starts_with nat_eq bytes s.0 ≡ b → 1 ≤ length s.0 → Within (length bytes) (option_map (λ s. (s.1, length s.0)) rest) → Within (length bytes) (option_map (λ s. (s.1, length s.0)) (cond b (Some s) rest))
some_within true bytes s rest e one h = (one, starts-le s.0 bytes e)
some_within false bytes s rest e one h = h

abbrev AllLong : List (List ℕ × Token) → Type 0
AllLong [] = Unit {0}
AllLong (s ∷ table) = (1 ≤ length s.0) × AllLong table

among-within : (bytes : List ℕ) (table : List (List ℕ × Token)) → AllLong table → Within (length bytes) (front_among bytes table)
among-within bytes [] h = tt
among-within bytes (s ∷ table) h = some_within (starts_with nat_eq bytes s.0) bytes s _ refl h.0 (among-within bytes table h.1)

all_long : AllLong t.signs
all_long = search rules

front-by : (bytes : List ℕ) (w d : Bool) → t.first_is t.begins_word bytes ≡ w → t.first_is is_ascii_digit bytes ≡ d → Within (length bytes) (cond w (t.word_front bytes) (cond d (t.number_front bytes) (t.sign_front bytes)))
front-by bytes true d e f = word-within bytes e
front-by bytes false true e f = number-within bytes f
front-by bytes false false e f = among-within bytes t.signs all_long

pub front-within : (bytes : List ℕ) → Within (length bytes) (first_token bytes)
front-within bytes = front-by bytes _ _ refl refl

pub token_within : (bytes : List ℕ) (x : Token) (n : ℕ) → first_token bytes ≡ Some (x, n) → (1 ≤ n) × (n ≤ length bytes)
token_within bytes x n e = subst (λ f. Within (length bytes) f) e (front-within bytes)

-- ---- what a line begins with

skip : (n : ℕ) (line : List ℕ) → tokens_after n line ≡ tokens (drop n line)
skip zero line = refl
skip (suc n) [] = refl
skip (suc n) (b ∷ line) = skip n line

abbrev turn : List ℕ → t.Start → Option (List Token)
turn bytes s = elim s [ t.Comment ↦ Some [] | t.Space ↦ tokens_after zero bytes | t.Token_of x n ↦ option_map (λ ts. x ∷ ts) (tokens_after (n - 1) bytes) | t.Wrong ↦ None ]

tokens-turn : (b : ℕ) (bytes : List ℕ) (s : t.Start) → t.start b bytes ≡ s → tokens (b ∷ bytes) ≡ turn bytes s
tokens-turn b bytes s e = ap (turn bytes) e

start-comment : (b : ℕ) (bytes : List ℕ) → b ≡ 35 → t.start b bytes ≡ t.Comment
start-comment b bytes e = rw e refl

start-space : (b : ℕ) (bytes : List ℕ) → (b ≡ 35 → ⊥) → t.is_blank b ≡ true → t.start b bytes ≡ t.Space
start-space b bytes n e = ap (λ x. cond x t.Comment (cond (t.is_blank b) t.Space (t.starts_as (first_token (b ∷ bytes))))) (not_comment b n) ∙ ap (λ x. cond x t.Space (t.starts_as (first_token (b ∷ bytes)))) e
  where
    not_comment : (b : ℕ) → (b ≡ 35 → ⊥) → (b == 35) ≡ false
    not_comment b n = grind (arith, nat_tests)

start-front : (b : ℕ) (bytes : List ℕ) (f : Front) → (b ≡ 35 → ⊥) → t.is_blank b ≡ false → first_token (b ∷ bytes) ≡ f → t.start b bytes ≡ t.starts_as f
start-front b bytes f n e g = ap (λ x. cond x t.Comment (cond (t.is_blank b) t.Space (t.starts_as (first_token (b ∷ bytes))))) (not_comment b n) ∙ ap (λ x. cond x t.Space (t.starts_as (first_token (b ∷ bytes)))) e ∙ ap t.starts_as g
  where
    not_comment : (b : ℕ) → (b ≡ 35 → ⊥) → (b == 35) ≡ false
    not_comment b n = grind (arith, nat_tests)

-- ---- with the tokens before

pub front_space : (ts : List Token) (line : List ℕ) (b : ℕ) (after : List ℕ) (all : Option (List Token)) → with_front ts (tokens line) ≡ all → line ≡ b ∷ after → (b ≡ 35 → ⊥) → t.is_blank b ≡ true → with_front ts (tokens after) ≡ all
front_space ts line b after all so_far is n e = ap (with_front ts) (sym (tokens-turn b after t.Space (start-space b after n e)) ∙ ap tokens (sym is)) ∙ so_far

pub front_comment : (ts : List Token) (line : List ℕ) (b : ℕ) (after : List ℕ) (all : Option (List Token)) → with_front ts (tokens line) ≡ all → line ≡ b ∷ after → b ≡ 35 → all ≡ Some ts
front_comment ts line b after all so_far is e = sym so_far ∙ ap (with_front ts) (ap tokens is ∙ tokens-turn b after t.Comment (start-comment b after e)) ∙ ap (λ l. Some l) (append-nil ts)

pub front_end : (ts : List Token) (line : List ℕ) (all : Option (List Token)) → with_front ts (tokens line) ≡ all → length line ≡ 0 → all ≡ Some ts
front_end ts [] all so_far is = sym so_far ∙ ap (λ l. Some l) (append-nil ts)
front_end ts (b ∷ line) all so_far is = absurd (omega arith)

pub front_none : (ts : List Token) (line : List ℕ) (b : ℕ) (after : List ℕ) (all : Option (List Token)) → with_front ts (tokens line) ≡ all → line ≡ b ∷ after → (b ≡ 35 → ⊥) → t.is_blank b ≡ false → first_token line ≡ None → all ≡ None
front_none ts line b after all so_far is n e none = sym so_far ∙ ap (with_front ts) (ap tokens is ∙ tokens-turn b after t.Wrong (start-front b after None n e (ap first_token (sym is) ∙ none)))

with_front-more : (ts : List Token) (x : Token) (rest : Option (List Token)) → with_front ts (option_map (λ us. x ∷ us) rest) ≡ with_front (ts ++ x ∷ []) rest
with_front-more ts x None = refl
with_front-more ts x (Some us) = ap (λ l. Some l) (sym (append_assoc ts (x ∷ []) us))

shorter : (n b : ℕ) (line : List ℕ) → 1 ≤ n → drop (n - 1) line ≡ drop n (b ∷ line)
shorter zero b line lt = absurd (omega arith)
shorter (suc n) b line lt = ap (λ k. drop k line) (omega arith)

pub front_some : (ts : List Token) (line : List ℕ) (b : ℕ) (after rest : List ℕ) (x : Token) (n : ℕ) (all : Option (List Token)) → with_front ts (tokens line) ≡ all → line ≡ b ∷ after → (b ≡ 35 → ⊥) → t.is_blank b ≡ false → first_token line ≡ Some (x, n) → rest ≡ drop n line → with_front (ts ++ x ∷ []) (tokens rest) ≡ all
front_some ts line b after rest x n all so_far is nc e some left =
    let long = token_within line x n some in
    let here : tokens (b ∷ after) ≡ option_map (λ us. x ∷ us) (tokens_after (n - 1) after) = tokens-turn b after (t.Token_of x n) (start-front b after (Some (x, n)) nc e (ap first_token (sym is) ∙ some)) in
    let rest_is : tokens_after (n - 1) after ≡ tokens rest = skip (n - 1) after ∙ ap tokens (shorter n b after long.0 ∙ ap (drop n) (sym is) ∙ sym left) in
    sym (with_front-more ts x (tokens rest)) ∙ ap (λ l. with_front ts (option_map (λ us. x ∷ us) l)) (sym rest_is) ∙ ap (with_front ts) (sym here ∙ ap tokens (sym is)) ∙ so_far
