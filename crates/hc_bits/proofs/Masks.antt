-- Arithmetic modulo 2^128, shifts and masks, as numbers.
use Rattle.std.proofs.Common.{◌≡◌, ℕ, ◌+◌, ◌-◌, ◌*◌, ◌/◌, ◌%◌, ◌^◌, ◌≤◌, ◌<◌, arith, ap, subst, ◌∙◌}
use Rattle.std.specs.Prelude.{bit_or}
use Rattle.std.proofs.lemmas.Nat.{pow-add, pow_pos, mul-lt, mul-add-lt, shl_whole, or_shifted, shr_split, mod_below, div_below, mod-mul-add}
use Rattle.std.proofs.lemmas.Nat.Bits.{ones_shr}
use Rattle.std.proofs.Math.Pow.{mod-mod-pow, pow_mono}
use Rattle.std.proofs.Math.Nat.{mul_comm, add-mul, add-mul-mod_self_right}

-- ---- one width w and the rest, 128 bits together

pub whole : (w : ℕ) → w ≤ 128 → 2 ^ 128 ≡ 2 ^ (128 - w) * 2 ^ w
whole w few =
    let sum : 128 ≡ (128 - w) + w = omega arith in
    ap (λ (k : ℕ). 2 ^ k) sum ∙ pow-add 2 (128 - w) w

-- the ones of a width
pub shifted_ones : (w : ℕ) → w ≤ 128 → (2 ^ 128 - 1) / 2 ^ (128 - w) ≡ 2 ^ w - 1
shifted_ones w few =
    let within : 128 - w ≤ 128 = omega arith in
    let left : 128 - (128 - w) ≡ w = omega arith in
    ones_shr 128 (128 - w) within ∙ ap (λ (k : ℕ). 2 ^ k - 1) left

-- to wrap at 128 bits first changes nothing of the lower ones
pub low_of_wrapped : (n w : ℕ) → w ≤ 128 → n % 2 ^ 128 % 2 ^ w ≡ n % 2 ^ w
low_of_wrapped n w few =
    let sum : (128 - w) + w ≡ 128 = omega arith in
    subst (λ (k : ℕ). n % 2 ^ k % 2 ^ w ≡ n % 2 ^ w) sum (mod-mod-pow n (128 - w) w)

-- the low part of what is left of a * k - 1
complement-mod : (a k q r : ℕ) → q < a → r < k → (a * k - 1 - (q * k + r)) % k ≡ k - 1 - r
complement-mod a k q r below rest =
    let parts : a ≡ (a - 1 - q) + (q + 1) = omega arith in
    let product : a * k ≡ (a - 1 - q) * k + (q * k + 1 * k) = ap (λ (x : ℕ). x * k) parts ∙ add-mul (a - 1 - q) (q + 1) k ∙ ap (λ (x : ℕ). (a - 1 - q) * k + x) (add-mul q 1 k) in
    let split : a * k - 1 - (q * k + r) ≡ (a - 1 - q) * k + (k - 1 - r) = omega arith in
    let small : k - 1 - r < k = omega arith in
    rw split (mod-mul-add (a - 1 - q) k (k - 1 - r) small)

-- the low bits of a number's complement
pub low_of_not : (n w : ℕ) → n < 2 ^ 128 → w ≤ 128 → (2 ^ 128 - 1 - n) % 2 ^ w ≡ 2 ^ w - 1 - n % 2 ^ w
low_of_not n w fits few =
    let all : 2 ^ 128 ≡ 2 ^ (128 - w) * 2 ^ w = whole w few in
    let within : n < 2 ^ (128 - w) * 2 ^ w = omega arith in
    let high : n / 2 ^ w < 2 ^ (128 - w) = div_below n (2 ^ w) (2 ^ (128 - w)) (pow_pos w) within in
    let low : n % 2 ^ w < 2 ^ w = mod_below n (2 ^ w) (pow_pos w) in
    let parts : n / 2 ^ w * 2 ^ w + n % 2 ^ w ≡ n = shr_split n w in
    let same : 2 ^ 128 - 1 - n ≡ 2 ^ (128 - w) * 2 ^ w - 1 - (n / 2 ^ w * 2 ^ w + n % 2 ^ w) = omega arith in
    rw same (complement-mod (2 ^ (128 - w)) (2 ^ w) (n / 2 ^ w) (n % 2 ^ w) high low)

-- the low part of a difference, where b is borrowed from a * k
borrow-mod : (n b a k : ℕ) → 1 ≤ a → b < k → (n + (a * k - b)) % k ≡ (n + k - b) % k
borrow-mod n b a k some below =
    let parts : a ≡ (a - 1) + 1 = omega arith in
    let product : a * k ≡ (a - 1) * k + 1 * k = ap (λ (x : ℕ). x * k) parts ∙ add-mul (a - 1) 1 k in
    let split : n + (a * k - b) ≡ (n + k - b) + (a - 1) * k = omega arith in
    rw split (add-mul-mod_self_right (n + k - b) (a - 1) k)

-- the low bits of a difference: a number less one of w bits
pub low_of_difference : (n b w : ℕ) → b < 2 ^ w → w ≤ 128 → (n + (2 ^ 128 - b)) % 2 ^ w ≡ (n + 2 ^ w - b) % 2 ^ w
low_of_difference n b w fits few =
    let all : 2 ^ 128 ≡ 2 ^ (128 - w) * 2 ^ w = whole w few in
    let some : 1 ≤ 2 ^ (128 - w) = pow_pos (128 - w) in
    let same : n + (2 ^ 128 - b) ≡ n + (2 ^ (128 - w) * 2 ^ w - b) = omega arith in
    rw same (borrow-mod n b (2 ^ (128 - w)) (2 ^ w) some fits)

-- ---- two widths

pub product_below : (a b j k : ℕ) → a < 2 ^ j → b < 2 ^ k → a * b < 2 ^ (j + k)
product_below a b j k p q = rw (pow-add 2 j k) (mul-lt a b (2 ^ j) (2 ^ k) p q)

pub product_fits : (a b j k : ℕ) → a < 2 ^ j → b < 2 ^ k → j + k ≤ 128 → a * b < 2 ^ 128
product_fits a b j k p q few =
    let most : 2 ^ (j + k) ≤ 2 ^ 128 = pow_mono few in
    omega (arith, product_below a b j k p q)

pub cat_below : (a b j k : ℕ) → a < 2 ^ j → b < 2 ^ k → a * 2 ^ k + b < 2 ^ (j + k)
cat_below a b j k p q = rw (pow-add 2 j k) (omega (arith, mul-add-lt a (2 ^ k) b (2 ^ j) p q, mul_comm (2 ^ j) (2 ^ k)))

pub cat_is : (a b j k : ℕ) → a < 2 ^ j → b < 2 ^ k → j + k ≤ 128 → bit_or (a * 2 ^ k % 2 ^ 128) b ≡ a * 2 ^ k + b
cat_is a b j k p q few = rw (shl_whole a j k 128 p few) (or_shifted a k b q)
