-- The places of a log.
use Rattle.std.proofs.Common.{◌≡◌, ℕ, zero, suc, ◌+◌, ◌-◌, List, ◌∷◌, ◌++◌, length, sym, ap, ◌∙◌, IsPermutation, arith, length-append}
use Rattle.std.specs.List.{range_with_len}
use Rattle.std.proofs.lemmas.List.FromFn.{length-range_with_len}
use Rattle.std.proofs.lemmas.List.Sorted.{length_permutation}
use mathlib.Core.List.{IsPrefix}
use Rattle.hc_turn.specs.Views.{places_of}

range_with_len-append : (a m n : ℕ) → range_with_len a (m + n) ≡ range_with_len a m ++ range_with_len (a + m) n
range_with_len-append a zero n =
    let e : 0 + n ≡ n = omega arith in let e' : a + 0 ≡ a = omega arith in ap (λ k. range_with_len a k) e ∙ ap (λ k. range_with_len k n) (sym e')
range_with_len-append a (suc m) n =
    let e : suc m + n ≡ suc (m + n) = omega arith in let e' : (a + 1) + m ≡ a + suc m = omega arith in
    ap (λ k. range_with_len a k) e ∙ ap (λ l. a ∷ l) (range_with_len-append (a + 1) m n) ∙ ap (λ k. a ∷ (range_with_len (a + 1) m ++ range_with_len k n)) e'

-- the places of a log that goes on
pub places_of-append : {I : Type 0} (old seen log : List I) → seen ≡ old → IsPrefix seen log → places_of log ≡ places_of old ++ range_with_len (length seen) (length log - length seen)
places_of-append {I} old seen log was more =
    let n = length seen in
    let rest : n + length more.0 ≡ length log = sym (length-append seen more.0) ∙ ap length more.1 in
    let split : length log ≡ n + (length log - n) = omega arith in
    let from : 0 + n ≡ n = omega arith in
    ap (λ k. range_with_len 0 k) split ∙ range_with_len-append 0 n (length log - n)
    ∙ ap (λ k. range_with_len 0 n ++ range_with_len k (length log - n)) from
    ∙ ap (λ (l : List I). range_with_len 0 (length l) ++ range_with_len n (length log - n)) was

-- who owns each place of a log once owns as many places as it has items
pub length-owned : {I : Type 0} (log : List I) (mine : List ℕ) → IsPermutation (places_of log) mine → length log ≡ length mine
length-owned log mine all = sym (length-range_with_len 0 (length log)) ∙ sym (length_permutation (places_of log) mine all)
