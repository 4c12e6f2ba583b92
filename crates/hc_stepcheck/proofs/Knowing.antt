-- What is known before a step.
use Rattle.std.proofs.Common.{◌≡◌, ℕ, ◌<◌, inl, inr, List, [], ◌∷◌, sym, subst}
use Rattle.std.specs.Prelude.{slice_get, Some, IsBitSet}
use Rattle.hc_signal.specs.Member.{first, later}
use Rattle.hc_signal.specs.declared.signal.NodeId.{NodeId}
use Rattle.hc_signal.specs.declared.signal.NodeRow.{NodeRow}
use Rattle.hc_signal.specs.declared.signal.Node.TheVariants.{Input, Const}
use Rattle.hc_signal.specs.Graph.{Graph}
use Rattle.hc_bits.specs.BitVector.{BitVector}
use Rattle.hc_steps.specs.Plan.{Part, Fact, made, facts, steps_at, constant, input, before, IsBefore, NeedsIn, NeedsInput}
use Rattle.hc_steps.specs.Views.{IsKnownAt, AreKnownAt}
use Rattle.hc_steps.proofs.Lists.{has_at, has_taken}

pub before_is : (plan : List Part) (j b : ℕ) (own it : Part) (m n : ℕ) → slice_get plan j ≡ Some own → slice_get plan b ≡ Some it → m ≡ it.needs → n ≡ own.needs → b < j
    → ((k : ℕ) → IsBitSet m k → IsBitSet n k) → IsBefore plan j b
before_is plan j b own it m n e f x y l w = (l, (λ k h. subst (λ o. NeedsIn o k) (sym e) (subst (λ z. IsBitSet z k) y (w k (subst (λ z. IsBitSet z k) (sym x) (subst (λ o. NeedsIn o k) f h))))))

pub needs_is : (plan : List Part) (j k : ℕ) (it : Part) (m : ℕ) → slice_get plan j ≡ Some it → m ≡ it.needs → IsBitSet m k → NeedsInput plan j k
needs_is plan j k it m e x h = subst (λ o. NeedsIn o k) (sym e) (subst (λ z. IsBitSet z k) x h)

pub earlier : (g : Graph) (plan : List Part) (j s b k : ℕ) (f : Fact) → slice_get (facts (steps_at plan b)) k ≡ Some f → IsBefore plan j b → IsKnownAt g plan j s f
earlier g plan j s b k f e l = inl (before b l (has_at (facts (steps_at plan b)) k f e))

pub within_part : (g : Graph) (plan : List Part) (j s b k : ℕ) (f : Fact) → b ≡ j → slice_get (facts (steps_at plan b)) k ≡ Some f → k < s → IsKnownAt g plan j s f
within_part g plan j s b k f q e l = inr (has_taken (steps_at plan j) s k f l (subst (λ z. slice_get (facts (steps_at plan z)) k ≡ Some f) q e))

pub constant_known : (g : Graph) (plan : List Part) (j s n : ℕ) (row : NodeRow) (c : BitVector) → slice_get g.nodes n ≡ Some row → row.node ≡ Const c → IsKnownAt g plan j s (made n)
constant_known g plan j s n row c e f = inl (constant c (row, e, f))

pub input_known : (g : Graph) (plan : List Part) (j s n : ℕ) (row : NodeRow) (k : ℕ) → slice_get g.nodes n ≡ Some row → row.node ≡ Input k → NeedsInput plan j k → IsKnownAt g plan j s (made n)
input_known g plan j s n row k e f h = inl (input k (row, e, f) h)

-- ---- operands

pub none_known : (g : Graph) (plan : List Part) (j s : ℕ) → AreKnownAt g plan j s []
none_known g plan j s m h = elim h [ ]

pub more_known : (g : Graph) (plan : List Part) (j s : ℕ) (id : NodeId) (ids : List NodeId) → IsKnownAt g plan j s (made id.0) → AreKnownAt g plan j s ids → AreKnownAt g plan j s (id ∷ ids)
more_known g plan j s id ids k a _ first = k
more_known g plan j s id ids k a m (later h) = a m h

-- ---- parts that do not come before

pub apart_is : (plan : List Part) (j b : ℕ) (own it : Part) (m n : ℕ) → slice_get plan j ≡ Some own → slice_get plan b ≡ Some it → m ≡ it.needs → n ≡ own.needs
    → IsBefore plan j b → (k : ℕ) → IsBitSet m k → IsBitSet n k
apart_is plan j b own it m n e f x y w k h = subst (λ z. IsBitSet z k) (sym y) (subst (λ o. NeedsIn o k) e (w.1 k (subst (λ o. NeedsIn o k) (sym f) (subst (λ z. IsBitSet z k) x h))))
