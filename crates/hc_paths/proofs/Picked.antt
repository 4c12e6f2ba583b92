-- The connections of an instance that a mask names.
use Rattle.std.proofs.Common.{◌≡◌, ℕ, zero, suc, ◌*◌, ◌/◌, ◌%◌, ◌^◌, ◌<◌, ◌≤◌, ◌⊎◌, List, [], ◌∷◌, ◌++◌, length, get_or, refl, sym, subst, ◌∙◌, ap, inl, inr, arith}
use Rattle.std.specs.Prelude.{slice_get, unwrap_or, Option, Some, None, IsBitSet, bit_and}
use Rattle.std.specs.Int.{bit_at}
use Rattle.std.proofs.lemmas.Option.{slice_get_past, slice_get_read}
use Rattle.std.proofs.lemmas.List.{append-nil}
use Rattle.std.proofs.lemmas.Nat.Bits.{bit_at_lowest, bit_at-suc, bit_at-lt, and_pow}
use Rattle.hc_signal.specs.Member.{Has, first, later}
use Rattle.hc_signal.specs.declared.signal.NodeId.{NodeId}
use Rattle.hc_signal.specs.declared.signal.Instance.{Instance}
use Rattle.hc_paths.specs.Fanin.{kept, picked, picked_of}
use Rattle.hc_paths.proofs.Searching.{same_or_not}

pub none_adds : (xs : List NodeId) (instances : List Instance) (i : ℕ) (m : Option ℕ) → length instances ≤ i → xs ≡ xs ++ picked_of (slice_get instances i) m
none_adds xs instances i m h = subst (λ o. xs ≡ xs ++ picked_of o m) (sym (slice_get_past instances i h)) (sym (append-nil xs))

pub picks : (instances : List Instance) (i : ℕ) (it : Instance) (m : Option ℕ) (mask : ℕ) (conns : List NodeId) → i < length instances → it ≡ get_or instances i it → Some mask ≡ m → conns ≡ it.conns → picked mask conns ≡ picked_of (slice_get instances i) m
picks instances i it m mask conns h e f g =
    ap (λ z. picked mask z) g ∙ ap (λ o. picked_of o (Some mask)) (sym (slice_get_read instances (length instances) i it refl h e)) ∙ ap (λ z. picked_of (slice_get instances i) z) f

-- a bit that is set
pow-pos : (k : ℕ) → 0 < 2 ^ k
pow-pos zero = omega arith
pow-pos (suc k) = let h : 0 < 2 ^ k = pow-pos k in omega (arith, h)

pub to_bit : (n k : ℕ) → IsBitSet n k → bit_at n k ≡ 1
to_bit n k h = elim (same_or_not (bit_at n k) 1) [ inl e ↦ e | inr d ↦ absurd (h (let l : bit_at n k < 2 = bit_at-lt n k in let z : bit_at n k ≡ 0 = omega (arith, l, d) in let f : bit_and n (2 ^ k) ≡ 0 * 2 ^ k = and_pow n k ∙ ap (λ x. x * 2 ^ k) z in omega (arith, f))) ]

pub from_bit : (n k : ℕ) → bit_at n k ≡ 1 → IsBitSet n k
from_bit n k e z = let f : bit_and n (2 ^ k) ≡ 1 * 2 ^ k = and_pow n k ∙ ap (λ x. x * 2 ^ k) e in let p : 0 < 2 ^ k = pow-pos k in omega (arith, f, p, z)

-- picked connections
kept_cases : (b : ℕ) (id : NodeId) (ids : List NodeId) (m : NodeId) → b < 2 → Has (kept b id ids) m → ((b ≡ 1) × (id ≡ m)) ⊎ Has ids m
kept_cases zero id ids m h x = inr x
kept_cases (suc zero) id ids _ h first = inl (refl, refl)
kept_cases (suc zero) id ids m h (later x) = inr x
kept_cases (suc (suc b)) id ids m h x = absurd (omega (arith, h))

kept_later : (b : ℕ) (id : NodeId) (ids : List NodeId) (m : NodeId) → Has ids m → Has (kept b id ids) m
kept_later zero id ids m x = x
kept_later (suc b) id ids m x = later x

kept_first : (b : ℕ) (id : NodeId) (ids : List NodeId) → b ≡ 1 → Has (kept b id ids) id
kept_first zero id ids e = cc
kept_first (suc b) id ids e = first

abbrev pub Picks : ℕ → List NodeId → NodeId → Type 0
Picks mask ids m = (k : ℕ) × IsBitSet mask k × (slice_get ids k ≡ Some m)

picked_more : (mask : ℕ) (id : NodeId) (ids : List NodeId) (m : NodeId) → ((mask % 2 ≡ 1) × (id ≡ m)) ⊎ Picks (mask / 2) ids m → Picks mask (id ∷ ids) m
picked_more mask id ids m (inl x) = (0, from_bit mask 0 (bit_at_lowest mask ∙ x.0), ap (λ z. Some z) x.1)
picked_more mask id ids m (inr r) = (suc r.0, from_bit mask (suc r.0) (bit_at-suc mask r.0 ∙ to_bit (mask / 2) r.0 r.1), r.2)

pub picked_at : (mask : ℕ) (ids : List NodeId) (m : NodeId) → Has (picked mask ids) m → Picks mask ids m
picked_at mask [] m h = elim h [ ]
picked_at mask (id ∷ ids) m h =
    picked_more mask id ids m (elim (kept_cases (mask % 2) id (picked (mask / 2) ids) m (subst (λ z. z < 2) (bit_at_lowest mask) (bit_at-lt mask 0)) h) [ inl x ↦ inl x | inr y ↦ inr (picked_at (mask / 2) ids m y) ])

pub picked_has : (mask : ℕ) (ids : List NodeId) (m : NodeId) (k : ℕ) → IsBitSet mask k → slice_get ids k ≡ Some m → Has (picked mask ids) m
picked_has mask [] m k b e = cc
picked_has mask (id ∷ ids) m zero b e = subst (λ z. Has (picked mask (id ∷ ids)) z) (ap (λ o. unwrap_or o id) e) (kept_first (mask % 2) id (picked (mask / 2) ids) (sym (bit_at_lowest mask) ∙ to_bit mask 0 b))
picked_has mask (id ∷ ids) m (suc k) b e = kept_later (mask % 2) id (picked (mask / 2) ids) m (picked_has (mask / 2) ids m k (from_bit (mask / 2) k (sym (bit_at-suc mask k) ∙ to_bit mask (suc k) b)) e)
