-- Steps in lists.
use Rattle.std.proofs.Common.{◌≡◌, ℕ, zero, suc, ◌+◌, ◌<◌, ◌≤◌, ◌⊎◌, inl, inr, List, [], ◌∷◌, length, get_or, take, refl, sym, subst, ◌∙◌, ap, arith}
use Rattle.std.proofs.lemmas.Option.{slice_get_within}
use Rattle.std.specs.Prelude.{slice_get, Some}
use Rattle.hc_signal.specs.Member.{Has, first, later}
use Rattle.hc_signal.specs.declared.signal.NodeRow.{NodeRow}
use Rattle.hc_signal.specs.declared.signal.Node.{Node}
use Rattle.hc_signal.specs.Graph.{Graph}
use Rattle.hc_signal.specs.Lawful.{NodeAt}
use Rattle.hc_steps.specs.Plan.{Step, Fact, fact, facts}

pub same_some : {X : Type 0} (x y : X) → Some x ≡ Some y → x ≡ y
same_some x y e = cc

pub same_node : (g : Graph) (n : ℕ) (x y : Node) → NodeAt g n x → NodeAt g n y → x ≡ y
same_node g n x y a b = sym a.2 ∙ ap (λ (r : NodeRow). r.node) (same_some _ _ (sym a.1 ∙ b.1)) ∙ b.2

pub has_at : {X : Type 0} (xs : List X) (k : ℕ) (x : X) → slice_get xs k ≡ Some x → Has xs x
has_at [] k x e = cc
has_at (y ∷ xs) zero x e = subst (λ z. Has (y ∷ xs) z) (same_some y x e) first
has_at (y ∷ xs) (suc k) x e = later (has_at xs k x e)

pub has_taken : (steps : List Step) (s k : ℕ) (f : Fact) → k < s → slice_get (facts steps) k ≡ Some f → Has (facts (take s steps)) f
has_taken [] s k f l e = cc
has_taken (x ∷ steps) zero k f l e = absurd (omega (arith, l))
has_taken (x ∷ steps) (suc s) zero f l e = subst (λ z. Has (facts (take (suc s) (x ∷ steps))) z) (same_some (fact x) f e) first
has_taken (x ∷ steps) (suc s) (suc k) f l e = later (has_taken steps s k f (omega (arith, l)) e)

-- ---- what holds of each element

pub has_index : {X : Type 0} {xs : List X} {x : X} → Has xs x → (i : ℕ) × (slice_get xs i ≡ Some x)
has_index first = (zero, refl)
has_index (later h) = let r = has_index h in (suc r.0, r.1)

pub there : {X : Type 0} (xs : List X) (i : ℕ) (d : X) → i < length xs → slice_get xs i ≡ Some (get_or xs i d)
there [] i d l = absurd (omega (arith, l))
there (x ∷ xs) zero d l = refl
there (x ∷ xs) (suc i) d l = there xs i d (omega (arith, l))

below_or_at : (k i : ℕ) → k < i + 1 → (k < i) ⊎ (k ≡ i)
below_or_at zero zero l = inr refl
below_or_at zero (suc i) l = inl (omega arith)
below_or_at (suc k) zero l = absurd (omega (arith, l))
below_or_at (suc k) (suc i) l = elim (below_or_at k i (omega (arith, l))) [ inl b ↦ inl (omega (arith, b)) | inr e ↦ inr (ap suc e) ]

pub one_more : {X : Type 0} (P : X → Type 0) (xs : List X) (i : ℕ) (x : X) → slice_get xs i ≡ Some x → P x → ((k : ℕ) (m : X) → k < i → slice_get xs k ≡ Some m → P m)
    → (k : ℕ) (m : X) → k < i + 1 → slice_get xs k ≡ Some m → P m
one_more P xs i x e p all k m l f = elim (below_or_at k i l) [ inl b ↦ all k m b f | inr q ↦ subst P (same_some x m (sym e ∙ ap (slice_get xs) (sym q) ∙ f)) p ]

pub all_of : {X : Type 0} (P : X → Type 0) (xs : List X) (i : ℕ) → length xs ≤ i → ((k : ℕ) (m : X) → k < i → slice_get xs k ≡ Some m → P m) → (m : X) → Has xs m → P m
all_of P xs i l all m h = let r = has_index h in all r.0 m (let w : r.0 < length xs = slice_get_within xs r.0 m r.1 in omega (arith, w, l)) r.1

pub next : (P : ℕ → Type 0) (i : ℕ) → ((k : ℕ) → k < i → P k) → P i → (k : ℕ) → k < i + 1 → P k
next P i all p k l = elim (below_or_at k i l) [ inl b ↦ all k b | inr q ↦ subst P (sym q) p ]

pub below_or_past : (j n : ℕ) → (j < n) ⊎ (n ≤ j)
below_or_past j zero = inr (omega arith)
below_or_past zero (suc n) = inl (omega arith)
below_or_past (suc j) (suc n) = elim (below_or_past j n) [ inl a ↦ inl (omega (arith, a)) | inr b ↦ inr (omega (arith, b)) ]
