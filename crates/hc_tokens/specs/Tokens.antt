-- The bytes of the design text, its lines and the tokens of a line.
use Rattle.std.specs.Prelude.{ℕ, zero, suc, ◌+◌, ◌-◌, ◌*◌, ◌^◌, Bool, true, false, not, ◌&&◌, ◌||◌, ◌==◌, nat_lt, nat_le, nat_eq, if◌then◌else◌, List, [], ◌∷◌, length, take, drop, Option, Some, None, pos, codes}
use Rattle.std.specs.List.{prefix_len, find, starts_with}
use Rattle.std.specs.Cmp.Lexicographic.{pointwise}
use Rattle.std.specs.Option.{option_map}
use Rattle.hc_tokens.specs.declared.token.Token.{Token}
use Rattle.hc_tokens.specs.declared.token.Token.TheVariants.{Word, Int, Sized, Operator, Mark}
use Rattle.hc_tokens.specs.declared.token.Mark.TheVariants as mark
use Rattle.hc_tokens.specs.declared.tree.NumOp.TheVariants as num_op
use Rattle.std.specs.Char.{is_ascii_digit, is_ascii_hexdigit, is_ascii_alphabetic, is_ascii_alphanumeric}

-- ---- bytes and lines

abbrev pub same_bytes : List ℕ → List ℕ → Bool
same_bytes a b = pointwise nat_eq a b

-- bytes 9, 10, 13 and 32 to 126
abbrev pub is_allowed : ℕ → Bool
is_allowed b = b == 9 || b == 10 || b == 13 || (nat_le 32 b && nat_le b 126)

abbrev pub is_blank : ℕ → Bool
is_blank b = b == 9 || b == 13 || b == 32

-- the byte belongs to the first line of these
abbrev pub onto_first : ℕ → List (List ℕ) → List (List ℕ)
onto_first b [] = (b ∷ []) ∷ []
onto_first b (line ∷ lines) = (b ∷ line) ∷ lines

-- the text cut at byte 10; each line ends there or at the end of the text
abbrev pub lines : List ℕ → List (List ℕ)
lines [] = [] ∷ []
lines (b ∷ text) = if b == 10 then [] ∷ lines text else onto_first b (lines text)

-- ---- tokens

abbrev pub begins_word : ℕ → Bool
begins_word b = is_ascii_alphabetic b || b == 95

abbrev pub is_word_byte : ℕ → Bool
is_word_byte b = is_ascii_alphanumeric b || b == 95

abbrev pub is_binary_digit : ℕ → Bool
is_binary_digit b = b == 48 || b == 49

-- digits of either case
abbrev pub digit_value : ℕ → ℕ
digit_value b = if nat_le b 57 then b - 48 else (if nat_le b 70 then b - 55 else b - 87)

-- the number that digits stand for, after the number so far
abbrev pub number_from : ℕ → ℕ → List ℕ → ℕ
number_from base n [] = n
number_from base n (d ∷ ds) = number_from base (base * n + digit_value d) ds

abbrev pub number_of : ℕ → List ℕ → ℕ
number_of base ds = number_from base 0 ds

-- whether the first byte is of this kind
abbrev pub first_is : (ℕ → Bool) → List ℕ → Bool
first_is p [] = false
first_is p (b ∷ bytes) = p b

-- how signs are written, a longer one before its beginning
abbrev pub signs : List (List ℕ × Token)
signs = (codes "(", Mark mark.OpenRound) ∷ (codes ")", Mark mark.CloseRound) ∷ (codes "[", Mark mark.OpenSquare) ∷ (codes "]", Mark mark.CloseSquare) ∷ (codes ",", Mark mark.Comma) ∷ (codes ":", Mark mark.Colon) ∷ (codes ".", Mark mark.Dot) ∷ (codes "<=", Operator num_op.Le) ∷ (codes ">=", Operator num_op.Ge) ∷ (codes "==", Operator num_op.Eq) ∷ (codes "!=", Operator num_op.Ne) ∷ (codes "<", Operator num_op.Lt) ∷ (codes ">", Operator num_op.Gt) ∷ (codes "+", Operator num_op.Add) ∷ (codes "-", Operator num_op.Sub) ∷ (codes "*", Operator num_op.Mul) ∷ (codes "/", Operator num_op.Div) ∷ (codes "%", Operator num_op.Rem) ∷ (codes "=", Mark mark.Equals) ∷ []

-- a token and how many bytes it takes
abbrev pub Front : Type 0
Front = Option (Token × ℕ)

abbrev pub when : Bool → Token → ℕ → Front
when true t n = Some (t, n)
when false t n = None

-- 1 to 64 bytes
abbrev pub word_front : List ℕ → Front
word_front bytes = let n = prefix_len is_word_byte bytes in when (nat_le n 64) (Word (take n bytes)) n

-- a literal of this base, whose width was read in `n` bytes; `bytes` stand after the mark of the base
abbrev pub literal_front : (ℕ → Bool) → ℕ → ℕ → ℕ → ℕ → List ℕ → Front
literal_front is_digit base most width n bytes =
    let m = prefix_len is_digit bytes in
    when (nat_le 1 m && nat_le m most && nat_lt width (2 ^ 63) && not (first_is begins_word (drop m bytes))) (Sized (pos width) (number_of base (take m bytes))) (n + 2 + m)

-- a number or a literal, of whose first `n` bytes the number is read; `bytes` stand after them
abbrev pub digits_front : ℕ → ℕ → List ℕ → Front
digits_front number n bytes =
    if starts_with nat_eq bytes (codes "'h") then literal_front is_ascii_hexdigit 16 32 number n (drop 2 bytes) else (if starts_with nat_eq bytes (codes "'b") then literal_front is_binary_digit 2 128 number n (drop 2 bytes) else when (nat_lt number (2 ^ 63) && not (first_is begins_word bytes)) (Int (pos number)) n)

abbrev pub number_front : List ℕ → Front
number_front bytes = let n = prefix_len is_ascii_digit bytes in digits_front (number_of 10 (take n bytes)) n (drop n bytes)

abbrev pub sign_front : List ℕ → Front
sign_front bytes = option_map (λ s. (s.1, length s.0)) (find (λ s. starts_with nat_eq bytes s.0) signs)

-- the longest token that the bytes begin with, if it is one within its limits
abbrev pub first_token : List ℕ → Front
first_token bytes = if first_is begins_word bytes then word_front bytes else (if first_is is_ascii_digit bytes then number_front bytes else sign_front bytes)

-- what a line begins with
pub data Start : Type 0 where
  Comment : Start
  Space : Start
  Token_of : Token → ℕ → Start
  Wrong : Start

abbrev pub starts_as : Front → Start
starts_as None = Wrong
starts_as (Some f) = Token_of f.0 f.1

abbrev pub start : ℕ → List ℕ → Start
start b bytes = if b == 35 then Comment else (if is_blank b then Space else starts_as (first_token (b ∷ bytes)))

-- The tokens of a line, from left to right. The first `covered` bytes belong to the token before; a comment ends the line.
abbrev pub tokens_after : ℕ → List ℕ → Option (List Token)
tokens_after covered [] = Some []
tokens_after (suc covered) (b ∷ bytes) = tokens_after covered bytes
tokens_after zero (b ∷ bytes) =
    elim (start b bytes) [ Comment ↦ Some [] | Space ↦ tokens_after zero bytes | Token_of t n ↦ option_map (λ ts. t ∷ ts) (tokens_after (n - 1) bytes) | Wrong ↦ None ]

-- the longest tokens of a line, or none where a byte begins no token
abbrev pub tokens : List ℕ → Option (List Token)
tokens line = tokens_after 0 line
