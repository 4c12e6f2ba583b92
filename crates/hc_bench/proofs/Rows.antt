-- The text of a row, part by part.
use Rattle.std.proofs.Common.{◌≡◌, ℕ, zero, suc, ◌+◌, ◌/◌, ◌%◌, ◌<◌, List, [], ◌∷◌, ◌++◌, take, drop, length, get_or, refl, sym, ap, ◌∙◌, append_assoc, append-nil, arith, add-one, drop-cons, length-append}
use Rattle.std.proofs.Math.Seq.{take-append_seam}
use Rattle.std.specs.Prelude.{Some, slice_get, slice_index}
use Rattle.std.proofs.lemmas.Option.{slice_get_read}
use Rattle.hc_bits.specs.Digits.{digit, hex, hex_of}
use Rattle.hc_bits.specs.BitVector.{BitVector}
use Rattle.hc_signal.specs.declared.signal.Port.{Port}
use Rattle.hc_bench.specs.Listing.{value_text, values_text}

length_hex : (n v : ℕ) → length (hex n v) ≡ n
length_hex zero v = refl
length_hex (suc n) v = let e = length_hex n (v / 16) in omega (arith, length-append (hex n (v / 16)) (digit (v % 16) ∷ []), e)

-- the digits that were put to the front
pub front_digits : (n v : ℕ) (digits rest front : List ℕ) → digits ≡ hex n v ++ rest → front ≡ take n digits → front ≡ hex n v
front_digits n v digits rest front put cut =
    cut ∙ ap (λ (l : List ℕ). take n l) put
    ∙ ap (λ (k : ℕ). take k (hex n v ++ rest)) (sym (length_hex n v))
    ∙ take-append_seam (hex n v) rest

-- the pieces of an output and its value
pub value_pieces : (name bytes front : List ℕ) (w v : ℕ) → bytes ≡ name → front ≡ hex_of w v → 32 ∷ (bytes ++ 61 ∷ (front ++ [])) ≡ 32 ∷ (name ++ 61 ∷ [] ++ hex_of w v)
value_pieces name bytes front w v same digits = ap (λ (l : List ℕ). 32 ∷ l) (
    ap (λ (l : List ℕ). l ++ 61 ∷ (front ++ [])) same
    ∙ ap (λ (l : List ℕ). name ++ 61 ∷ l) (append-nil front ∙ digits)
    ∙ sym (append_assoc name (61 ∷ []) (hex_of w v))
    )

-- one output more
pub values_more : (outputs : List Port) (values : List ℕ) (i : ℕ) (p : Port) (v : ℕ) → i < length outputs → length values ≡ length outputs → p ≡ get_or outputs i p
    → v ≡ get_or values i 0 → values_text (drop i outputs) (drop i values) ≡ value_text (p, v) ++ values_text (drop (i + 1) outputs) (drop (i + 1) values)
values_more outputs values i p v within same item is =
    let ports : drop i outputs ≡ p ∷ drop (i + 1) outputs = rw add-one (drop-cons outputs i p within ∙ ap (λ (q : Port). q ∷ drop (suc i) outputs) (sym item)) in
    let numbers : drop i values ≡ v ∷ drop (i + 1) values = rw add-one (drop-cons values i 0 (omega (arith, within, same)) ∙ ap (λ (x : ℕ). x ∷ drop (suc i) values) (sym is)) in
    ap (λ (ps : List Port). values_text ps (drop i values)) ports ∙ ap (λ (vs : List ℕ). values_text (p ∷ drop (i + 1) outputs) vs) numbers

-- one output more, whose value the simulator told
pub outputs_more : (ports outputs : List Port) (values : List ℕ) (i : ℕ) (p : Port) (x : BitVector) → ports ≡ outputs → i < length outputs → length values ≡ length ports
    → p ≡ get_or outputs i p → ((q : Port) → slice_get ports i ≡ Some q → x ≡ record { width = q.width; value = slice_index values i })
    → values_text (drop i outputs) (drop i values) ≡ value_text (p, x.value) ++ values_text (drop (i + 1) outputs) (drop (i + 1) values)
outputs_more ports outputs values i p x same within many item told =
    let there : slice_get outputs i ≡ Some p = slice_get_read outputs (length outputs) i p refl within item in
    let is : x ≡ record { width = p.width; value = slice_index values i } = told p (ap (λ (ps : List Port). slice_get ps i) same ∙ there) in
    values_more outputs values i p x.value within (many ∙ ap (λ (ps : List Port). length ps) same) item (ap (λ (y : BitVector). y.value) is)
