-- The lines of a text one after the other, and the rows that they add.
use Rattle.std.proofs.Common.{◌≡◌, ℕ, zero, suc, ◌+◌, ◌-◌, ◌≤◌, ◌<◌, Bool, true, false, not, cond, ◌==◌, List, [], ◌∷◌, length, take, drop, refl, sym, ◌∙◌, ap, arith}
use Rattle.std.specs.List.{prefix_len}
use Rattle.hc_tokens.specs.Tokens.{lines, onto_first}

-- ---- the first line

-- what follows the end of a line
abbrev pub after_end : List ℕ → List (List ℕ)
after_end [] = []
after_end (b ∷ bytes) = lines bytes

abbrev in_line : ℕ → Bool
in_line b = not (b == 10)

cut_at : (e : Bool) (b n : ℕ) (bytes : List ℕ) → lines bytes ≡ take n bytes ∷ after_end (drop n bytes)
    → cond e ([] ∷ lines bytes) (onto_first b (lines bytes)) ≡ take (cond (not e) (1 + n) 0) (b ∷ bytes) ∷ after_end (drop (cond (not e) (1 + n) 0) (b ∷ bytes))
cut_at true b n bytes h = refl
cut_at false b n bytes h = ap (onto_first b) h ∙ ap (λ k. take k (b ∷ bytes) ∷ after_end (drop k (b ∷ bytes))) (sym (one_more n))
  where
    one_more : (n : ℕ) → 1 + n ≡ suc n
    one_more n = omega arith

-- the first line ends at the first byte 10
pub lines_cut : (bytes : List ℕ) → lines bytes ≡ take (prefix_len in_line bytes) bytes ∷ after_end (drop (prefix_len in_line bytes) bytes)
lines_cut [] = refl
lines_cut (b ∷ bytes) = cut_at (b == 10) b (prefix_len in_line bytes) bytes (lines_cut bytes)

cut_by : (bytes line rest : List ℕ) (n : ℕ) → n ≡ prefix_len in_line bytes → line ≡ take n bytes → rest ≡ drop n bytes → lines bytes ≡ line ∷ after_end rest
cut_by bytes line rest n is front back = lines_cut bytes ∙ ap (λ k. take k bytes ∷ after_end (drop k bytes)) (sym is) ∙ ap (λ l. l ∷ after_end (drop n bytes)) (sym front)
    ∙ ap (λ l. line ∷ after_end l) (sym back)

pub cut_last : (bytes line rest : List ℕ) (n : ℕ) → n ≡ prefix_len in_line bytes → line ≡ take n bytes → rest ≡ drop n bytes → length rest < 1 → lines bytes ≡ line ∷ []
cut_last bytes line [] n is front back few = cut_by bytes line [] n is front back
cut_last bytes line (b ∷ rest) n is front back few = absurd (omega arith)

pub cut_more : (bytes line rest : List ℕ) (n : ℕ) → n ≡ prefix_len in_line bytes → line ≡ take n bytes → rest ≡ drop n bytes → 1 ≤ length rest
    → lines bytes ≡ line ∷ lines (take (length rest - 1) (drop 1 rest))
cut_more bytes line [] n is front back some = absurd (omega arith)
cut_more bytes line (b ∷ rest) n is front back some = cut_by bytes line (b ∷ rest) n is front back ∙ ap (λ l. line ∷ lines l) (sym (take_all (length (b ∷ rest) - 1) rest (omega arith)))
  where
    take_all : (k : ℕ) (xs : List ℕ) → k ≡ length xs → take k xs ≡ xs
    take_all zero [] e = refl
    take_all (suc k) [] e = refl
    take_all zero (x ∷ xs) e = absurd (omega arith)
    take_all (suc k) (x ∷ xs) e = ap (λ l. x ∷ l) (take_all k xs (omega arith))
