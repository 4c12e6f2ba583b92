-- After a sweep what a node is computed from needs no more than the node, and whatever an input leads to still needs it.
use Rattle.std.proofs.Common.{◌≡◌, ℕ, ◌<◌, ◌≤◌, inl, inr, List, [], ◌∷◌, length, refl, sym, subst, ◌∙◌, ap, arith}
use Rattle.std.specs.Prelude.{slice_set, slice_index_or, IsBitSet, bit_and}
use Rattle.std.specs.Int.{bit_at}
use Rattle.std.proofs.lemmas.List.{get_or-set_same, get_or-set_other, get_or_past, set_past}
use Rattle.std.proofs.lemmas.Nat.Bits.{bit_at-zero}
use Rattle.hc_signal.specs.Member.{Has, first, later}
use Rattle.hc_signal.specs.declared.signal.NodeId.{NodeId}
use Rattle.hc_paths.specs.Digraph.{AllDifferent, IsSorted}
use Rattle.hc_paths.proofs.Picked.{to_bit}
use Rattle.hc_paths.proofs.Searching.{ids_cases}
use Rattle.hc_steps.proofs.Bits.{and_left, and_right, and_both}
use Rattle.hc_steps.proofs.Lists.{below_or_past}
use Rattle.hc_draft.specs.Needs.{NeedsBit, narrowed, swept}

pub no_bit : (k : ℕ) → IsBitSet 0 k → ⊥
no_bit k h = let e : bit_at 0 k ≡ 0 = bit_at-zero k in let q : bit_at 0 k ≡ 1 = to_bit 0 k h in omega (arith, e, q)

-- ---- one mask

abbrev set_one : ℕ → NodeId → List ℕ → List ℕ
set_one mask m list = slice_set list m.0 (bit_and (slice_index_or list m.0 0) mask)

abbrev here_is : (mask : ℕ) (m : NodeId) (list : List ℕ) → m.0 < length list → slice_index_or (set_one mask m list) m.0 0 ≡ bit_and (slice_index_or list m.0 0) mask
here_is mask m list l = get_or-set_same list m.0 (bit_and (slice_index_or list m.0 0) mask) 0 l

abbrev past_is : (mask : ℕ) (m : NodeId) (list : List ℕ) → length list ≤ m.0 → set_one mask m list ≡ list
past_is mask m list l = set_past list m.0 (bit_and (slice_index_or list m.0 0) mask) l

abbrev other_is : (mask : ℕ) (m n : NodeId) (list : List ℕ) → (m.0 ≡ n.0 → ⊥) → slice_index_or (set_one mask m list) n.0 0 ≡ slice_index_or list n.0 0
other_is mask m n list d = get_or-set_other list m.0 n.0 (bit_and (slice_index_or list m.0 0) mask) 0 (λ q. d (sym q))

same_falls : (mask : ℕ) (m : NodeId) (list : List ℕ) (k : ℕ) → NeedsBit (set_one mask m list) m k → NeedsBit list m k
same_falls mask m list k h = elim (below_or_past m.0 (length list)) [
  | inl l ↦ and_left (slice_index_or list m.0 0) mask k (subst (λ z. IsBitSet z k) (here_is mask m list l) h)
  | inr p ↦ subst (λ z. NeedsBit z m k) (past_is mask m list p) h
]

same_within : (mask : ℕ) (m : NodeId) (list : List ℕ) (k : ℕ) → NeedsBit (set_one mask m list) m k → IsBitSet mask k
same_within mask m list k h = elim (below_or_past m.0 (length list)) [
  | inl l ↦ and_right (slice_index_or list m.0 0) mask k (subst (λ z. IsBitSet z k) (here_is mask m list l) h)
  | inr p ↦ absurd (no_bit k (subst (λ z. IsBitSet z k) (get_or_past list m.0 0 p) (subst (λ z. NeedsBit z m k) (past_is mask m list p) h)))
]

same_keeps : (mask : ℕ) (m : NodeId) (list : List ℕ) (k : ℕ) → NeedsBit list m k → IsBitSet mask k → NeedsBit (set_one mask m list) m k
same_keeps mask m list k h b = elim (below_or_past m.0 (length list)) [
  | inl l ↦ subst (λ z. IsBitSet z k) (sym (here_is mask m list l)) (and_both (slice_index_or list m.0 0) mask k h b)
  | inr p ↦ subst (λ z. NeedsBit z m k) (sym (past_is mask m list p)) h
]

one_falls : (mask : ℕ) (m n : NodeId) (list : List ℕ) (k : ℕ) → NeedsBit (set_one mask m list) n k → NeedsBit list n k
one_falls mask m n list k h = elim (ids_cases m n) [
  | inl e ↦ subst (λ (i : NodeId). NeedsBit list i k) e (same_falls mask m list k (subst (λ (i : NodeId). NeedsBit (set_one mask m list) i k) (sym e) h))
  | inr d ↦ subst (λ z. IsBitSet z k) (other_is mask m n list d) h
]

pub one_keeps : (mask : ℕ) (m n : NodeId) (list : List ℕ) (k : ℕ) → NeedsBit list n k → (m ≡ n → IsBitSet mask k) → NeedsBit (set_one mask m list) n k
one_keeps mask m n list k h b = elim (ids_cases m n) [
  | inl e ↦ subst (λ (i : NodeId). NeedsBit (set_one mask m list) i k) e (same_keeps mask m list k (subst (λ (i : NodeId). NeedsBit list i k) (sym e) h) (b e))
  | inr d ↦ subst (λ z. IsBitSet z k) (sym (other_is mask m n list d)) h
]

-- ---- the fan-in of one node

falls : (mask : ℕ) (ids : List NodeId) (list : List ℕ) (n : NodeId) (k : ℕ) → NeedsBit (narrowed mask ids list) n k → NeedsBit list n k
falls mask [] list n k h = h
falls mask (m ∷ ids) list n k h = one_falls mask m n list k (falls mask ids (set_one mask m list) n k h)

keeps : (mask : ℕ) (ids : List NodeId) (list : List ℕ) (n : NodeId) (k : ℕ) → NeedsBit list n k → (Has ids n → IsBitSet mask k) → NeedsBit (narrowed mask ids list) n k
keeps mask [] list n k h b = h
keeps mask (m ∷ ids) list n k h b =
    keeps mask ids (set_one mask m list) n k (one_keeps mask m n list k h (λ q. b (subst (λ (z : NodeId). Has (m ∷ ids) z) q first))) (λ c. b (later c))

within : (mask : ℕ) (ids : List NodeId) (list : List ℕ) (n : NodeId) → Has ids n → (k : ℕ) → NeedsBit (narrowed mask ids list) n k → IsBitSet mask k
within mask [] list n c k h = elim c [ ]
within mask (_ ∷ ids) list n first k h = same_within mask n list k (falls mask ids (set_one mask n list) n k h)
within mask (m ∷ ids) list n (later c) k h = within mask ids (set_one mask m list) n c k h

others_stay : (mask : ℕ) (ids : List NodeId) (list : List ℕ) (n : NodeId) → ¬ Has ids n → slice_index_or (narrowed mask ids list) n.0 0 ≡ slice_index_or list n.0 0
others_stay mask [] list n d = refl
others_stay mask (m ∷ ids) list n d =
    others_stay mask ids (set_one mask m list) n (λ h. d (later h))
    ∙ other_is mask m n list (λ q. d (subst (λ (z : NodeId). Has (m ∷ ids) z) (ap (λ (i : ℕ). let z : NodeId = record { 0 = i } in z) q) first))

-- ---- the whole sweep

module _ (next : ℕ → List NodeId) where
  swept_falls : (order : List NodeId) (list : List ℕ) (n : NodeId) (k : ℕ) → NeedsBit (swept next order list) n k → NeedsBit list n k
  swept_falls [] list n k h = h
  swept_falls (x ∷ order) list n k h = falls (slice_index_or list x.0 0) (next x.0) list n k (swept_falls order (narrowed (slice_index_or list x.0 0) (next x.0) list) n k h)

  swept_others : (order : List NodeId) (list : List ℕ) (n : NodeId) → ((x : NodeId) → Has order x → ¬ Has (next x.0) n) → slice_index_or (swept next order list) n.0 0 ≡ slice_index_or list n.0 0
  swept_others [] list n d = refl
  swept_others (x ∷ order) list n d =
      swept_others order (narrowed (slice_index_or list x.0 0) (next x.0) list) n (λ y h. d y (later h)) ∙ others_stay (slice_index_or list x.0 0) (next x.0) list n (d x first)

  -- what a sorted list leads to stands in it
  pub stands : (order : List NodeId) → IsSorted next order → (x n : NodeId) → Has order x → Has (next x.0) n → Has order n
  stands [] s x n h c = elim h [ ]
  stands (_ ∷ order) s x n first c = later (s.0 n c)
  stands (y ∷ order) s x n (later h) c = later (stands order s.1 x n h c)

  -- what a node is computed from needs no more than the node
  pub swept_within : (order : List NodeId) (list : List ℕ) → AllDifferent order → IsSorted next order → (n m : NodeId) → Has order n → Has (next n.0) m → (k : ℕ)
      → NeedsBit (swept next order list) m k → NeedsBit (swept next order list) n k
  swept_within [] list d s n m h c k b = elim h [ ]
  swept_within (_ ∷ order) list d s n m first c k b =
      let mask : ℕ = slice_index_or list n.0 0 in
      let now : List ℕ = narrowed mask (next n.0) list in
      let low : NeedsBit now m k = swept_falls order now m k b in
      let bit : IsBitSet mask k = within mask (next n.0) list m c k low in
      let here : slice_index_or (swept next order now) n.0 0 ≡ slice_index_or now n.0 0 = swept_others order now n (λ x h q. d.0 (stands order s.1 x n h q)) in
      let same : slice_index_or now n.0 0 ≡ mask = others_stay mask (next n.0) list n (λ q. d.0 (s.0 n q)) in
      subst (λ z. IsBitSet z k) (sym (here ∙ same)) bit
  swept_within (x ∷ order) list d s n m (later h) c k b = swept_within order (narrowed (slice_index_or list x.0 0) (next x.0) list) d.1 s.1 n m h c k b

  -- an input that a node leads to stands in what it needs
  pub swept_keeps : (k : ℕ) (Leads : NodeId → Type 0) → ((n m : NodeId) → Has (next n.0) m → Leads m → Leads n) → (order : List NodeId) (list : List ℕ) → ((n : NodeId) → Leads n → NeedsBit list n k)
      → (n : NodeId) → Leads n → NeedsBit (swept next order list) n k
  swept_keeps k Leads closed [] list a n l = a n l
  swept_keeps k Leads closed (x ∷ order) list a n l =
      swept_keeps k Leads closed order (narrowed (slice_index_or list x.0 0) (next x.0) list) (λ m c. keeps (slice_index_or list x.0 0) (next x.0) list m k (a m c) (λ h. a x (closed x m h c))) n l
