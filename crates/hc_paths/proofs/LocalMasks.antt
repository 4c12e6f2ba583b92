-- The masks along an order are those of the paths of the circuit.
use Rattle.std.proofs.Common.{◌≡◌, ℕ, zero, suc, ◌^◌, ◌<◌, ◌≤◌, ◌↔◌, ◌⊎◌, List, [], ◌∷◌, map, max, length, refl, sym, subst, ◌∙◌, ap, inl, inr, arith, length-set}
use Rattle.std.specs.Prelude.{slice_get, slice_index_or, unwrap_or, Option, Some, None, option_map, IsBitSet, bit_or}
use Rattle.std.specs.Int.{bit_at}
use Rattle.std.proofs.lemmas.Option.{slice_get_within, slice_get-map}
use Rattle.std.proofs.lemmas.List.{length-map, length-replicate, get_or-set_same, get_or-set_other}
use Rattle.std.proofs.lemmas.Nat.Bits.{bit_at-zero, bit_at_or, bit_at-pow_same, bit_at-pow_other, bit_at-lt}
use Rattle.hc_signal.specs.Member.{Has, first, later}
use Rattle.hc_signal.specs.declared.signal.NodeId.{NodeId}
use Rattle.hc_signal.specs.declared.signal.NodeRow.{NodeRow}
use Rattle.hc_signal.specs.declared.signal.Node.{Node}
use Rattle.hc_signal.specs.declared.signal.Node.TheVariants.{Input, Wire, Const, Two, Not, Mux, Cat, Select, Reg, Read, InstOut, Op}
use Rattle.hc_signal.specs.Graph.{Graph}
use Rattle.hc_signal.specs.Lawful.{IsLawful, IsLawfulNode, NodeAt}
use Rattle.hc_walk.proofs.Members.{has_slice}
use Rattle.hc_paths.specs.Local.{LocalStep, LocalPath, here, on, DependsLocally, AreLocalMasks}
use Rattle.hc_paths.specs.Digraph.{AllDifferent, IsSorted}
use Rattle.hc_paths.specs.Fanin.{local_fanin, own_bit, own_bit_of, joined, mask_from, filled, HasBit, HaveBits}
use Rattle.hc_paths.proofs.KidMasks.{many_outputs}
use Rattle.hc_paths.proofs.LocalSteps.{fanin_step, step_fanin}
use Rattle.hc_paths.proofs.Picked.{to_bit, from_bit}
use Rattle.hc_paths.proofs.Searching.{same_or_not, ids_cases, not_first}

-- the bits of joined masks
or_left : (a b k : ℕ) → IsBitSet a k → IsBitSet (bit_or a b) k
or_left a b k h = from_bit (bit_or a b) k (let e : bit_at (bit_or a b) k ≡ max (bit_at a k) (bit_at b k) = bit_at_or a b k in let l : bit_at b k < 2 = bit_at-lt b k in let q : bit_at a k ≡ 1 = to_bit a k h in omega (arith, e, q, l))

or_right : (a b k : ℕ) → IsBitSet b k → IsBitSet (bit_or a b) k
or_right a b k h = from_bit (bit_or a b) k (let e : bit_at (bit_or a b) k ≡ max (bit_at a k) (bit_at b k) = bit_at_or a b k in let l : bit_at a k < 2 = bit_at-lt a k in let q : bit_at b k ≡ 1 = to_bit b k h in omega (arith, e, q, l))

or_cases : (a b k : ℕ) → IsBitSet (bit_or a b) k → IsBitSet a k ⊎ IsBitSet b k
or_cases a b k h =
    let e : bit_at (bit_or a b) k ≡ max (bit_at a k) (bit_at b k) = bit_at_or a b k in
    let q : bit_at (bit_or a b) k ≡ 1 = to_bit (bit_or a b) k h in
    elim (same_or_not (bit_at a k) 1) [ inl x ↦ inl (from_bit a k x) | inr d ↦ inr (from_bit b k (let l : bit_at a k < 2 = bit_at-lt a k in let m : bit_at b k < 2 = bit_at-lt b k in omega (arith, e, q, l, m, d))) ]

joined_none : (list : List ℕ) (start : ℕ) → joined list start [] ≡ start
unfolding joined
joined_none list start = refl

joined_more : (list : List ℕ) (start : ℕ) (id : NodeId) (ids : List NodeId) → joined list start (id ∷ ids) ≡ joined list (bit_or start (slice_index_or list id.0 0)) ids
unfolding joined
joined_more list start id ids = refl

abbrev Joins : List ℕ → ℕ → List NodeId → ℕ → Type 0
Joins list start ids k = IsBitSet start k ⊎ ((id : NodeId) × Has ids id × IsBitSet (slice_index_or list id.0 0) k)

joins_more : (list : List ℕ) (start : ℕ) (id : NodeId) (ids : List NodeId) (k : ℕ) → Joins list (bit_or start (slice_index_or list id.0 0)) ids k → Joins list start (id ∷ ids) k
joins_more list start id ids k (inl x) = elim (or_cases start (slice_index_or list id.0 0) k x) [ inl y ↦ inl y | inr z ↦ inr (id, first, z) ]
joins_more list start id ids k (inr y) = inr (y.0, later y.1, y.2)

joined_from : (list : List ℕ) (start : ℕ) (ids : List NodeId) (k : ℕ) → IsBitSet (joined list start ids) k → Joins list start ids k
joined_from list start [] k h = inl (subst (λ z. IsBitSet z k) (joined_none list start) h)
joined_from list start (id ∷ ids) k h = joins_more list start id ids k (joined_from list (bit_or start (slice_index_or list id.0 0)) ids k (subst (λ z. IsBitSet z k) (joined_more list start id ids) h))

joined_all : (list : List ℕ) (start : ℕ) (ids : List NodeId) (k : ℕ) → IsBitSet start k → IsBitSet (joined list start ids) k
joined_all list start [] k h = subst (λ z. IsBitSet z k) (sym (joined_none list start)) h
joined_all list start (id ∷ ids) k h = subst (λ z. IsBitSet z k) (sym (joined_more list start id ids)) (joined_all list (bit_or start (slice_index_or list id.0 0)) ids k (or_left start (slice_index_or list id.0 0) k h))

joined_one : (list : List ℕ) (start : ℕ) (ids : List NodeId) (k : ℕ) (id : NodeId) → Has ids id → IsBitSet (slice_index_or list id.0 0) k → IsBitSet (joined list start ids) k
joined_one list start [] k id x h = elim x [ ]
joined_one list start (_ ∷ ids) k id first h = subst (λ z. IsBitSet z k) (sym (joined_more list start id ids)) (joined_all list (bit_or start (slice_index_or list id.0 0)) ids k (or_right start (slice_index_or list id.0 0) k h))
joined_one list start (n ∷ ids) k id (later x) h = subst (λ z. IsBitSet z k) (sym (joined_more list start n ids)) (joined_one list (bit_or start (slice_index_or list n.0 0)) ids k id x h)

no_bit : (k : ℕ) → IsBitSet 0 k → ⊥
no_bit k h = let e : bit_at 0 k ≡ 0 = bit_at-zero k in let q : bit_at 0 k ≡ 1 = to_bit 0 k h in omega (arith, e, q)

-- the bit of an input
own_from : (x : Node) (k : ℕ) → IsBitSet (own_bit x) k → x ≡ Input k
own_from (Input port) k h = elim (same_or_not k port) [ inl e ↦ ap (λ z. Input z) (sym e) | inr d ↦ absurd (let f : bit_at (2 ^ port) k ≡ 0 = bit_at-pow_other port k d in let q : bit_at (2 ^ port) k ≡ 1 = to_bit (2 ^ port) k h in omega (arith, f, q)) ]
own_from (Wire driver) k h = absurd (no_bit k h)
own_from (Const value) k h = absurd (no_bit k h)
own_from (Two op a b) k h = absurd (no_bit k h)
own_from (Not a) k h = absurd (no_bit k h)
own_from (Mux sel cases) k h = absurd (no_bit k h)
own_from (Cat parts) k h = absurd (no_bit k h)
own_from (Select a hi lo) k h = absurd (no_bit k h)
own_from (Reg next enable clear init) k h = absurd (no_bit k h)
own_from (Read mem addr) k h = absurd (no_bit k h)
own_from (InstOut i port) k h = absurd (no_bit k h)
own_from (Op kind args) k h = absurd (no_bit k h)

own_has : (x : Node) (k : ℕ) → x ≡ Input k → IsBitSet (own_bit x) k
own_has x k e = subst (λ z. IsBitSet (own_bit z) k) (sym e) (from_bit (2 ^ k) k (bit_at-pow_same k))

-- the masks along an order
module _ (g : Graph) (masks : List (List ℕ)) where
  abbrev pub Reaches : ℕ → ℕ → Type 0
  Reaches n k = (m : ℕ) × NodeAt g m (Input k) × LocalPath g masks n m

  abbrev pub IsRight : List ℕ → NodeId → Type 0
  IsRight list n = (k : ℕ) → IsBitSet (slice_index_or list n.0 0) k ↔ Reaches n.0 k

  own_reaches : (n : ℕ) (k : ℕ) (o : Option NodeRow) → slice_get g.nodes n ≡ o → IsBitSet (own_bit_of o) k → NodeAt g n (Input k)
  own_reaches n k None e h = absurd (no_bit k h)
  own_reaches n k (Some row) e h = (row, e, own_from row.node k h)

  own_is : (n k : ℕ) → NodeAt g n (Input k) → IsBitSet (own_bit_of (slice_get g.nodes n)) k
  own_is n k y = subst (λ o. IsBitSet (own_bit_of o) k) (sym y.1) (own_has y.0.node k y.2)

  mask_right : (list : List ℕ) (n : NodeId) → ((m : NodeId) → Has (local_fanin g masks n.0) m → IsRight list m) → (k : ℕ) → IsBitSet (mask_from g masks list n.0) k ↔ Reaches n.0 k
  mask_right list n r k = (
    λ h. from_joins (joined_from list (own_bit_of (slice_get g.nodes n.0)) (local_fanin g masks n.0) k h),
    λ x. to_joins x.0 x.1 x.2,
  )
    where
      from_joins : Joins list (own_bit_of (slice_get g.nodes n.0)) (local_fanin g masks n.0) k → Reaches n.0 k
      from_joins (inl x) = (n.0, own_reaches n.0 k (slice_get g.nodes n.0) refl x, here)
      from_joins (inr y) =
          let w : Reaches y.0.0 k = (r y.0 y.1 k).0 y.2 in
          (w.0, w.1, on (fanin_step g masks n y.0 y.1) w.2)

      to_joins : (m : ℕ) → NodeAt g m (Input k) → LocalPath g masks n.0 m → IsBitSet (mask_from g masks list n.0) k
      to_joins m y here = joined_all list (own_bit_of (slice_get g.nodes n.0)) (local_fanin g masks n.0) k (own_is n.0 k y)
      to_joins m y (on {k = c} s w) =
          let a : Has (local_fanin g masks n.0) (record { 0 = c }) = step_fanin g masks n.0 c s in
          joined_one list (own_bit_of (slice_get g.nodes n.0)) (local_fanin g masks n.0) k (record { 0 = c }) a ((r (record { 0 = c }) a k).1 (m, y, w))

  filled_length : (ns : List NodeId) → length (filled g masks ns) ≡ length g.nodes
  filled_length [] = length-replicate (length g.nodes) 0
  filled_length (n ∷ ns) = length-set (filled g masks ns) n.0 (mask_from g masks (filled g masks ns) n.0) ∙ filled_length ns

  pub filled_right : (ns : List NodeId) → IsSorted (local_fanin g masks) ns → ((id : NodeId) → Has ns id → id.0 < length g.nodes) → AllDifferent ns → (n : NodeId) → Has ns n → IsRight (filled g masks ns) n
  filled_right [] s i d n h = elim h [ ]
  filled_right (x ∷ ns) s i d n h =
      let below : (m : NodeId) → Has ns m → IsRight (filled g masks ns) m = filled_right ns s.1 (λ m q. i m (later q)) d.1 in
      elim (ids_cases x n) [ inl e ↦ subst (λ z. IsRight (filled g masks (x ∷ ns)) z) e (top below) | inr e ↦ other e (below n (not_first h (λ q. e (ap (λ z. z.0) q)))) ]
    where
      top : ((m : NodeId) → Has ns m → IsRight (filled g masks ns) m) → IsRight (filled g masks (x ∷ ns)) x
      top below = λ k. subst (λ z. IsBitSet z k ↔ Reaches x.0 k) (sym (get_or-set_same (filled g masks ns) x.0 (mask_from g masks (filled g masks ns) x.0) 0 (subst (λ z. x.0 < z) (sym (filled_length ns)) (i x first)))) (mask_right (filled g masks ns) x (λ m a. below m (s.0 m a)) k)

      other : (x.0 ≡ n.0 → ⊥) → IsRight (filled g masks ns) n → IsRight (filled g masks (x ∷ ns)) n
      other e r = λ k. subst (λ z. IsBitSet z k ↔ Reaches n.0 k) (sym (get_or-set_other (filled g masks ns) x.0 n.0 (mask_from g masks (filled g masks ns) x.0) 0 (λ q. e (sym q)))) (r k)

  pub local_masks : IsLawful g → (ns : List NodeId) → IsSorted (local_fanin g masks) ns → ((id : NodeId) → Has ns id → id.0 < length g.nodes) → AllDifferent ns → ((id : NodeId) → Has g.outputs id → Has ns id) → (list : List ℕ) → list ≡ map (λ (id : NodeId). slice_index_or (filled g masks ns) id.0 0) g.outputs → AreLocalMasks g masks list
  local_masks l ns s i d o list e = record { many = ap length e ∙ (length-map _ _ ∙ many_outputs g l); each = each }
    where
      at : (out : ℕ) (mask : ℕ) (p : Option NodeId) → slice_get g.outputs out ≡ p → option_map (λ (id : NodeId). slice_index_or (filled g masks ns) id.0 0) p ≡ Some mask → (k : ℕ) → IsBitSet mask k ↔ DependsLocally g masks out k
      at out mask None f q = cc
      at out mask (Some id) f q =
          let r : IsRight (filled g masks ns) id = filled_right ns s i d id (o id (has_slice g.outputs out id f)) in
          let w : slice_index_or (filled g masks ns) id.0 0 ≡ mask = cc in
          λ k. subst (λ z. IsBitSet z k ↔ DependsLocally g masks out k) w (
            λ h. let v : Reaches id.0 k = (r k).0 h in (id.0, v.0, f, v.1, v.2),
            λ x. (r k).1 (x.1, x.3, subst (λ z. LocalPath g masks z x.1) (same_out x.0 x.2) x.4),
          )
        where
          same_out : (m : ℕ) → slice_get g.outputs out ≡ Some (record { 0 = m }) → m ≡ id.0
          same_out m v = ap (λ (z : Option NodeId). (unwrap_or z id).0) (sym v ∙ f)

      each : (out mask : ℕ) → slice_get list out ≡ Some mask → (k : ℕ) → IsBitSet mask k ↔ DependsLocally g masks out k
      each out mask q = at out mask (slice_get g.outputs out) refl (sym (slice_get-map (λ (id : NodeId). slice_index_or (filled g masks ns) id.0 0) g.outputs out) ∙ subst (λ l. slice_get l out ≡ Some mask) e q)

-- the inputs of a circuit with at most 128 of them
pub have_bits : (g : Graph) → IsLawful g → length g.ports.inputs ≤ 128 → HaveBits g
have_bits g l h = record { bits = λ n row e. go row.node row.width (l.nodes n row e).1 }
  where
    go : (x : Node) (w : ℕ) → IsLawfulNode g w x → HasBit x
    go (Input port) w a = let k : port < length g.ports.inputs = slice_get_within g.ports.inputs port a.0 a.1 in omega (arith, h, k)
    go (Wire driver) w a = tt
    go (Const value) w a = tt
    go (Two op b c) w a = tt
    go (Not b) w a = tt
    go (Mux sel cases) w a = tt
    go (Cat parts) w a = tt
    go (Select b hi lo) w a = tt
    go (Reg next enable clear init) w a = tt
    go (Read mem addr) w a = tt
    go (InstOut i port) w a = tt
    go (Op kind args) w a = tt
