-- Names with numbers: two numbers give two names, so a list has no more of them than its length.
use Rattle.std.proofs.Common.{◌≡◌, ℕ, zero, suc, ◌<◌, ◌≤◌, ◌^◌, List, [], ◌∷◌, ◌++◌, length, arith}
use Rattle.std.specs.Prelude.{decimal}
use Rattle.std.proofs.lemmas.Fmt.{decimal_injective}
use Rattle.hc_signal.specs.Member.{Has}
use Rattle.hc_names.specs.Mangling.{numbered}
use Rattle.hc_names.specs.Numbers.{AreGivenBelow}
use Rattle.hc_names.proofs.Members.{without, length-without, has_without}

tail_of : List ℕ → List ℕ
tail_of [] = []
tail_of (x ∷ xs) = xs

same_ends : (name xs ys : List ℕ) → name ++ xs ≡ name ++ ys → xs ≡ ys
same_ends [] xs ys e = e
same_ends (n ∷ name) xs ys e = same_ends name xs ys (let t : name ++ xs ≡ name ++ ys = cc in t)

numbers_differ : (name : List ℕ) (i j : ℕ) → i < 2 ^ 64 → j < 2 ^ 64 → numbered name i ≡ numbered name j → i ≡ j
numbers_differ name i j hi hj e =
    decimal_injective i j hi hj (let t : (95 ∷ decimal i) ≡ (95 ∷ decimal j) = same_ends name (95 ∷ decimal i) (95 ∷ decimal j) e in cc)

-- a list that has the first n numbered names is that long
pub given_below_fit : (name : List ℕ) (n : ℕ) (given : List (List ℕ)) → n ≤ 2 ^ 64 → AreGivenBelow given name n → n ≤ length given
given_below_fit name zero given small all = omega arith
given_below_fit name (suc n) given small all =
    let h : Has given (numbered name n) = all n (omega arith) in
    let fewer : n ≤ length (without h) = given_below_fit name n (without h) (omega arith)
    (λ j lt. has_without h (all j (omega arith)) (λ e. let eq : j ≡ n = numbers_differ name j n (omega arith) (omega arith) e in omega arith)) in
    let one : suc (length (without h)) ≡ length given = length-without h in
    omega arith
