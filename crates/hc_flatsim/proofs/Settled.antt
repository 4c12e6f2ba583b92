-- Along a schedule each node gets the value that belongs to those of its operands.
use Rattle.std.proofs.Common.{◌≡◌, ℕ, zero, suc, ◌+◌, ◌<◌, List, [], ◌∷◌, ◌++◌, map, length, refl, sym, subst, ◌∙◌, ap, ap₂, arith}
use Rattle.std.specs.Prelude.{slice_get, slice_index, Option, Some, None}
use Rattle.std.proofs.lemmas.Option.{slice_get_within, same_Some}
use Rattle.std.proofs.Math.ListN.{length-set}
use Rattle.hc_bits.specs.BitVector.{BitVector, not_, select, cat_all, mux}
use Rattle.hc_bits.specs.Catalogue.{operation}
use Rattle.hc_signal.specs.Member.{Has, first, later}
use Rattle.hc_signal.specs.declared.signal.NodeId.{NodeId}
use Rattle.hc_signal.specs.declared.signal.NodeRow.{NodeRow}
use Rattle.hc_signal.specs.declared.signal.Node.{Node}
use Rattle.hc_signal.specs.declared.signal.Node.TheVariants.{Input, Wire, Const, Two, Not, Mux, Cat, Select, Reg, Read, InstOut, Op}
use Rattle.hc_signal.specs.Operators.{binary}
use Rattle.hc_signal.specs.Graph.{Graph}
use Rattle.hc_signal.specs.Occurrences.{comb_fanin}
use Rattle.hc_bench.specs.Simulation.{width_of}
use Rattle.hc_paths.specs.Schedule.{IsSchedule}
use Rattle.hc_paths.proofs.Searching.{get_set_same, get_set_other}
use Rattle.hc_flatsim.specs.Machine.{number_of, number_at, numbers, words_at}
use Rattle.hc_flatsim.specs.Settling.{Given, operand, own_value, own_vector, with_row, settled}

-- ---- one node

with_row_other : (g : Graph) (given : Given) (values : List BitVector) (n m : ℕ) (o : Option NodeRow) → (n ≡ m → ⊥) → slice_get (with_row g given values n o) m ≡ slice_get values m
with_row_other g given values n m None d = refl
with_row_other g given values n m (Some row) d = get_set_other values n m (own_vector g given values n row) d

with_row_here : (g : Graph) (given : Given) (values : List BitVector) (n : ℕ) (o : Option NodeRow) (row : NodeRow) → o ≡ Some row → n < length values
    → slice_get (with_row g given values n o) n ≡ Some (own_vector g given values n row)
with_row_here g given values n None row e l = absurd (cc)
with_row_here g given values n (Some r) row e l = get_set_same values n (own_vector g given values n r) l ∙ ap (λ z. Some (own_vector g given values n z)) (same_Some _ _ e)

with_row_many : (g : Graph) (given : Given) (values : List BitVector) (n : ℕ) (o : Option NodeRow) → length (with_row g given values n o) ≡ length values
with_row_many g given values n None = refl
with_row_many g given values n (Some row) = length-set values n (own_vector g given values n row)

-- ---- all nodes

settled_other : (g : Graph) (given : Given) (ids : List NodeId) (values : List BitVector) (m : NodeId) → ¬ Has ids m → slice_get (settled g given ids values) m.0 ≡ slice_get values m.0
settled_other g given [] values m d = refl
settled_other g given (id ∷ ids) values m d =
    settled_other g given ids (with_row g given values id.0 (slice_get g.nodes id.0)) m (λ h. d (later h))
    ∙ with_row_other g given values id.0 m.0 (slice_get g.nodes id.0) (λ e. d (subst (λ (k : NodeId). Has (id ∷ ids) k) (ap (λ (n : ℕ). let z : NodeId = record { 0 = n } in z) e) first))

settled_many : (g : Graph) (given : Given) (ids : List NodeId) (values : List BitVector) → length (settled g given ids values) ≡ length values
settled_many g given [] values = refl
settled_many g given (id ∷ ids) values = settled_many g given ids (with_row g given values id.0 (slice_get g.nodes id.0)) ∙ with_row_many g given values id.0 (slice_get g.nodes id.0)

settled_parts : (g : Graph) (given : Given) (ids more : List NodeId) (values : List BitVector) → settled g given (ids ++ more) values ≡ settled g given more (settled g given ids values)
settled_parts g given [] more values = refl
settled_parts g given (id ∷ ids) more values = settled_parts g given ids more (with_row g given values id.0 (slice_get g.nodes id.0))

-- ---- the value of a node depends on its operands alone

module _ (g : Graph) (given : Given) (values final : List BitVector) (n : ℕ) where
  abbrev pub AgreeOn : List NodeId → Type 0
  AgreeOn ids = (id : NodeId) → Has ids id → number_at values id.0 ≡ number_at final id.0

  vector_agrees : (id : NodeId) → number_at values id.0 ≡ number_at final id.0 → operand g values id ≡ operand g final id
  vector_agrees id e = ap (λ z. record { width = width_of (slice_get g.nodes id.0); value = z }) e

  vectors_agree : (ids : List NodeId) → AgreeOn ids → map (operand g values) ids ≡ map (operand g final) ids
  vectors_agree [] a = refl
  vectors_agree (id ∷ ids) a = ap₂ (λ x xs. x ∷ xs) (vector_agrees id (a id first)) (vectors_agree ids (λ i h. a i (later h)))

  pub own_agrees : (x : Node) → AgreeOn (comb_fanin x) → own_value g given values n x ≡ own_value g given final n x
  own_agrees (Input port) a = refl
  own_agrees (Wire None) a = refl
  own_agrees (Wire (Some d)) a = a d first
  own_agrees (Const c) a = refl
  own_agrees (Two op b c) a = ap₂ (λ x z. (binary op x z).value) (vector_agrees b (a b first)) (vector_agrees c (a c (later first)))
  own_agrees (Not b) a = ap (λ x. (not_ x).value) (vector_agrees b (a b first))
  own_agrees (Mux sel cases) a = ap₂ (λ x z. (mux x z).value) (vector_agrees sel (a sel first)) (vectors_agree cases (λ i h. a i (later h)))
  own_agrees (Cat parts) a = ap (λ x. (cat_all x).value) (vectors_agree parts a)
  own_agrees (Select b hi lo) a = ap (λ x. (select x hi lo).value) (vector_agrees b (a b first))
  own_agrees (Reg next enable clear init) a = refl
  own_agrees (Read m addr) a = ap (λ z. slice_index (numbers (words_at given.memories m.0)) z) (a addr first)
  own_agrees (InstOut i port) a = refl
  own_agrees (Op kind args) a = ap (λ x. (operation kind x).value) (vectors_agree args a)

-- ---- along a schedule

abbrev Split : List NodeId → ℕ → NodeId → Type 0
Split ids i n = (before : List NodeId) × (rest : List NodeId) × (ids ≡ before ++ n ∷ rest) × (length before ≡ i)

split_at : (ids : List NodeId) (i : ℕ) (n : NodeId) → slice_get ids i ≡ Some n → Split ids i n
split_at [] i n e = cc
split_at (x ∷ ids) zero n e = ([], ids, ap (λ z. z ∷ ids) (same_Some _ _ e), refl)
split_at (x ∷ ids) (suc i) n e = let s : Split ids i n = split_at ids i n e in (x ∷ s.0, s.1, ap (λ l. x ∷ l) s.2, ap suc s.3)

pub place : {X : Type 0} (xs : List X) (x : X) → Has xs x → (k : ℕ) × (slice_get xs k ≡ Some x)
place [] x h = elim h [ ]
place (y ∷ xs) _ first = (0, refl)
place (y ∷ xs) x (later h) = let r : (k : ℕ) × (slice_get xs k ≡ Some x) = place xs x h in (suc r.0, r.1)

-- what stands in a later part stands at a later place
past : {X : Type 0} (before rest : List X) (k : ℕ) (x : X) → slice_get rest k ≡ Some x → (j : ℕ) × (length before + k ≡ j) × (slice_get (before ++ rest) j ≡ Some x)
past [] rest k x at = (k, omega arith, at)
past (y ∷ before) rest k x at =
    let r : (j : ℕ) × (length before + k ≡ j) × (slice_get (before ++ rest) j ≡ Some x) = past before rest k x at in
    let e : length before + k ≡ r.0 = r.1 in
    (suc r.0, omega (arith, e), r.2)

module _ (g : Graph) (given : Given) (order : List NodeId) (values : List BitVector) (s : IsSchedule g order) (many : length values ≡ length g.nodes) where
  abbrev final : List BitVector
  final = settled g given order values

  -- at this place
  computed_at : (i : ℕ) (id : NodeId) (row : NodeRow) → slice_get order i ≡ Some id → slice_get g.nodes id.0 ≡ Some row → number_at final id.0 ≡ own_value g given final id.0 row.node
  computed_at i id row at is =
      let p : Split order i id = split_at order i id at in
      let upto : List BitVector = settled g given p.0 values in
      let step : List BitVector = with_row g given upto id.0 (slice_get g.nodes id.0) in
      let whole : final ≡ settled g given (id ∷ p.1) upto = ap (λ l. settled g given l values) p.2 ∙ settled_parts g given p.0 (id ∷ p.1) values in
      let within : id.0 < length upto = subst (λ n. id.0 < n) (sym (settled_many g given p.0 values ∙ many)) (slice_get_within g.nodes id.0 row is) in
      let alone : ¬ Has p.1 id = λ h.
      let k : (k : ℕ) × (slice_get p.1 k ≡ Some id) = place p.1 id h in
      let j : (j : ℕ) × (length p.0 + suc k.0 ≡ j) × (slice_get (p.0 ++ id ∷ p.1) j ≡ Some id) = past p.0 (id ∷ p.1) (suc k.0) id k.1 in
      let same : i ≡ j.0 = s.once i j.0 id at (subst (λ l. slice_get l j.0 ≡ Some id) (sym p.2) j.2) in
      let b : length p.0 ≡ i = p.3 in let e : length p.0 + suc k.0 ≡ j.0 = j.1 in omega (arith, same, b, e) in
      let here : slice_get final id.0 ≡ Some (own_vector g given upto id.0 row) =
      ap (λ l. slice_get l id.0) whole ∙ settled_other g given p.1 step id alone ∙ with_row_here g given upto id.0 (slice_get g.nodes id.0) row is within in
      let kept : AgreeOn g given upto final id.0 (comb_fanin row.node) = λ m h.
      let a : (j : ℕ) × (j < i) × (slice_get order j ≡ Some m) = s.after i id m row.node at (row, is, refl) h in
      let other : ¬ Has (id ∷ p.1) m = λ c.
      let k : (k : ℕ) × (slice_get (id ∷ p.1) k ≡ Some m) = place (id ∷ p.1) m c in
      let j : (j : ℕ) × (length p.0 + k.0 ≡ j) × (slice_get (p.0 ++ id ∷ p.1) j ≡ Some m) = past p.0 (id ∷ p.1) k.0 m k.1 in
      let same : a.0 ≡ j.0 = s.once a.0 j.0 m a.2 (subst (λ l. slice_get l j.0 ≡ Some m) (sym p.2) j.2) in
      let b : length p.0 ≡ i = p.3 in let e : length p.0 + k.0 ≡ j.0 = j.1 in let l : a.0 < i = a.1 in omega (arith, same, b, e, l) in
      ap number_of (sym (ap (λ l. slice_get l m.0) whole ∙ settled_other g given (id ∷ p.1) upto m other)) in
      ap number_of here ∙ own_agrees g given upto final id.0 row.node kept

  pub computed : (id : NodeId) (row : NodeRow) → Has order id → slice_get g.nodes id.0 ≡ Some row → number_at final id.0 ≡ own_value g given final id.0 row.node
  computed id row h is = let k : (k : ℕ) × (slice_get order k ≡ Some id) = place order id h in computed_at k.0 id row k.1 is
