-- What nodes wait for, along an order of a circuit.
use Rattle.std.proofs.Common.{◌≡◌, ℕ, zero, suc, ◌+◌, ◌<◌, ◌↔◌, inl, inr, List, [], ◌∷◌, length, replicate, refl, sym, subst, ap, arith}
use Rattle.std.specs.Prelude.{slice_get, slice_set, slice_index_or, Some, IsBitSet, bit_and}
use Rattle.std.specs.Int.{bit_at}
use Rattle.std.proofs.lemmas.Option.{slice_get_within}
use Rattle.std.proofs.lemmas.List.{get_or-replicate}
use Rattle.std.proofs.lemmas.Nat.Bits.{bit_at-lt, bit_at-zero, same_from_bits}
use Rattle.hc_signal.specs.Member.{Has}
use Rattle.hc_signal.specs.declared.signal.NodeId.{NodeId}
use Rattle.hc_signal.specs.declared.signal.Node.TheVariants.{Input}
use Rattle.hc_signal.specs.Graph.{Graph, node}
use Rattle.hc_signal.specs.Lawful.{IsLawful, NodeAt}
use Rattle.hc_walk.proofs.InRange.{HasRow, reached_row}
use Rattle.hc_paths.specs.Fanin.{filled, local_fanin}
use Rattle.hc_paths.specs.Local.{LocalPath, LocalStep, here, on, inside, through}
use Rattle.hc_paths.specs.Order.{IsLocalOrder}
use Rattle.hc_paths.proofs.LocalMasks.{filled_right}
use Rattle.hc_paths.proofs.LocalSteps.{fanin_step}
use Rattle.hc_paths.proofs.Picked.{from_bit}
use Rattle.hc_paths.proofs.Searching.{same_or_not}
use Rattle.hc_draft.specs.Needs.{NeedsBit, narrowed_by, swept, unless_free, cleared, needs_of_nodes}
use Rattle.hc_draft.proofs.Sweep.{no_bit, one_keeps, stands, swept_within, swept_keeps}

-- ---- clearing

unless_bit : (d mask k : ℕ) → IsBitSet (unless_free d mask) k → (d ≡ 0 → ⊥) × IsBitSet mask k
unless_bit zero mask k h = absurd (no_bit k h)
unless_bit (suc d) mask k h = ((λ e. let f : suc d ≡ 0 = e in omega (arith, f)), h)

unless_has : (d mask k : ℕ) → (d ≡ 0 → ⊥) → IsBitSet mask k → IsBitSet (unless_free d mask) k
unless_has zero mask k d h = absurd (d refl)
unless_has (suc d) mask k n h = h

cleared_bit : (depends : List ℕ) (j : ℕ) (masks : List ℕ) (n k : ℕ) → IsBitSet (slice_index_or (cleared depends j masks) n 0) k
    → (slice_index_or depends (j + n) 0 ≡ 0 → ⊥) × IsBitSet (slice_index_or masks n 0) k
cleared_bit depends j [] n k h = absurd (no_bit k h)
cleared_bit depends j (mask ∷ masks) zero k h =
    let r = unless_bit (slice_index_or depends j 0) mask k h in
    let e : j ≡ j + 0 = omega arith in
    (subst (λ z. slice_index_or depends z 0 ≡ 0 → ⊥) e r.0, r.1)
cleared_bit depends j (mask ∷ masks) (suc n) k h =
    let r = cleared_bit depends (j + 1) masks n k h in
    let e : j + 1 + n ≡ j + suc n = omega arith in
    (subst (λ z. slice_index_or depends z 0 ≡ 0 → ⊥) e r.0, r.1)

cleared_has : (depends : List ℕ) (j : ℕ) (masks : List ℕ) (n k : ℕ) → (slice_index_or depends (j + n) 0 ≡ 0 → ⊥) → IsBitSet (slice_index_or masks n 0) k
    → IsBitSet (slice_index_or (cleared depends j masks) n 0) k
cleared_has depends j [] n k d h = absurd (no_bit k h)
cleared_has depends j (mask ∷ masks) zero k d h =
    let e : j + 0 ≡ j = omega arith in
    unless_has (slice_index_or depends j 0) mask k (subst (λ z. slice_index_or depends z 0 ≡ 0 → ⊥) e d) h
cleared_has depends j (mask ∷ masks) (suc n) k d h =
    let e : j + suc n ≡ j + 1 + n = omega arith in
    cleared_has depends (j + 1) masks n k (subst (λ z. slice_index_or depends z 0 ≡ 0 → ⊥) e d) h

all_bit : (depends masks : List ℕ) (n k : ℕ) → IsBitSet (slice_index_or (cleared depends 0 masks) n 0) k → (slice_index_or depends n 0 ≡ 0 → ⊥) × IsBitSet (slice_index_or masks n 0) k
all_bit depends masks n k h =
    let r = cleared_bit depends 0 masks n k h in
    let e : 0 + n ≡ n = omega arith in
    (subst (λ z. slice_index_or depends z 0 ≡ 0 → ⊥) e r.0, r.1)

all_has : (depends masks : List ℕ) (n k : ℕ) → (slice_index_or depends n 0 ≡ 0 → ⊥) → IsBitSet (slice_index_or masks n 0) k → IsBitSet (slice_index_or (cleared depends 0 masks) n 0) k
all_has depends masks n k d h =
    let e : n ≡ 0 + n = omega arith in
    cleared_has depends 0 masks n k (subst (λ z. slice_index_or depends z 0 ≡ 0 → ⊥) e d) h

-- a number without a bit
no_bits : (x : ℕ) → ((k : ℕ) → IsBitSet x k → ⊥) → x ≡ 0
no_bits x none = same_from_bits x 0 (λ i. elim (same_or_not (bit_at x i) 1) [
  | inl e ↦ absurd (none i (from_bit x i e))
  | inr d ↦ let l : bit_at x i < 2 = bit_at-lt x i in let z : bit_at 0 i ≡ 0 = bit_at-zero i in omega (arith, l, z, d)
])

-- ---- outputs

outputs_keep : (own : List ℕ) (port : ℕ) (ids : List NodeId) (list : List ℕ) (n : NodeId) (k : ℕ) → NeedsBit list n k
    → ((i : ℕ) → slice_get ids i ≡ Some n → IsBitSet (slice_index_or own (port + i) 0) k) → NeedsBit (narrowed_by own port ids list) n k
outputs_keep own port [] list n k h b = h
outputs_keep own port (m ∷ ids) list n k h b =
    outputs_keep own (port + 1) ids (slice_set list m.0 (bit_and (slice_index_or list m.0 0) (slice_index_or own port 0))) n k
    (one_keeps (slice_index_or own port 0) m n list k h (λ q. let s : port + 0 ≡ port = omega arith in subst (λ z. IsBitSet (slice_index_or own z 0) k) s (b 0 (ap (λ z. Some z) q))))
    (λ i e. let s : port + suc i ≡ port + 1 + i = omega arith in subst (λ z. IsBitSet (slice_index_or own z 0) k) s (b (suc i) e))

module _ (g : Graph) (kids : List (List ℕ)) (order : List NodeId) (lawful : IsLawful g) (o : IsLocalOrder g kids order) where
  within_rows : (n : NodeId) → Has order n → n.0 < length g.nodes
  within_rows n h = let x : HasRow g (node n.0) = reached_row g lawful ((o.all n).0 h) in slice_get_within g.nodes n.0 x.0 x.1

  -- the inputs that a node of the order depends on
  right : (n : NodeId) → Has order n → (k : ℕ) → IsBitSet (slice_index_or (filled g kids order) n.0 0) k ↔ ((m : ℕ) × NodeAt g m (Input k) × LocalPath g kids n.0 m)
  right n h = filled_right g kids order o.sorted within_rows o.different n h

  next_in : (n m : NodeId) → Has order n → Has (local_fanin g kids n.0) m → Has order m
  next_in n m h c = stands (local_fanin g kids) order o.sorted n m h c

  -- what a node that depends on no input is computed from depends on none
  free_up : (n m : NodeId) → Has order n → Has (local_fanin g kids n.0) m → slice_index_or (filled g kids order) n.0 0 ≡ 0 → slice_index_or (filled g kids order) m.0 0 ≡ 0
  free_up n m h c e =
      no_bits (slice_index_or (filled g kids order) m.0 0) (λ k b.
      let r = (right m (next_in n m h c) k).0 b in
      no_bit k (subst (λ z. IsBitSet z k) e ((right n h k).1 (r.0, r.1, on (fanin_step g kids n m c) r.2))))

  -- what a node is computed from waits for no more than the node
  pub needs_within : (own : List ℕ) (every : ℕ) (n m : NodeId) → Has order n → Has (local_fanin g kids n.0) m → (k : ℕ)
      → NeedsBit (needs_of_nodes g kids order own every) m k → NeedsBit (needs_of_nodes g kids order own every) n k
  needs_within own every n m h c k b =
      let free : List ℕ = filled g kids order in
      let masks : List ℕ = swept (local_fanin g kids) order (narrowed_by own 0 g.outputs (replicate (length g.nodes) every)) in
      let r = all_bit free masks m.0 k b in
      all_has free masks n.0 k (λ e. r.0 (free_up n m h c e)) (swept_within (local_fanin g kids) order (narrowed_by own 0 g.outputs (replicate (length g.nodes) every)) o.different
      o.sorted n m h c k r.1)

  -- a node that a path leads from has a row
  step_row : (n m : ℕ) → LocalStep g kids n m → n < length g.nodes
  step_row n m (inside x y h) = slice_get_within g.nodes n y.0 y.1
  step_row n m (through i port k mask y e b c) = slice_get_within g.nodes n y.0 y.1

  path_row : (n m k : ℕ) → NodeAt g m (Input k) → LocalPath g kids n m → n < length g.nodes
  path_row n _ k y here = slice_get_within g.nodes n y.0 y.1
  path_row n m k y (on {k = j} s w) = step_row n j s

  -- a node waits for each input that leads to it
  pub needs_all : (own : List ℕ) (every k : ℕ) → IsBitSet every k
      → ((output m : ℕ) (n : NodeId) → slice_get g.outputs output ≡ Some n → NodeAt g m (Input k) → LocalPath g kids n.0 m → IsBitSet (slice_index_or own output 0) k)
      → (n : NodeId) (m : ℕ) → Has order n → NodeAt g m (Input k) → LocalPath g kids n.0 m → NeedsBit (needs_of_nodes g kids order own every) n k
  needs_all own every k e covers n m h y w =
      let free : List ℕ = filled g kids order in
      let start : List ℕ = narrowed_by own 0 g.outputs (replicate (length g.nodes) every) in
      all_has free (swept (local_fanin g kids) order start) n.0 k (λ z. no_bit k (subst (λ x. IsBitSet x k) z ((right n h k).1 (m, y, w))))
      (swept_keeps (local_fanin g kids) k (λ z. (j : ℕ) × NodeAt g j (Input k) × LocalPath g kids z.0 j) (λ z x c p. (p.0, p.1, on (fanin_step g kids z x c) p.2)) order start
      (λ z p. outputs_keep own 0 g.outputs (replicate (length g.nodes) every) z k
      (subst (λ x. IsBitSet x k) (sym (get_or-replicate (length g.nodes) z.0 every 0 (path_row z.0 p.0 k p.1 p.2))) e)
      (λ i f. let s : i ≡ 0 + i = omega arith in subst (λ x. IsBitSet (slice_index_or own x 0) k) s (covers i p.0 z f p.1 p.2))) n (m, y, w))
