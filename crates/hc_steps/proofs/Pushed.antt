-- A step that is pushed where it is ready keeps a list of steps ready.
use Rattle.std.proofs.Common.{ℕ, ◌⊎◌, inl, inr, List, [], ◌∷◌, ◌++◌}
use Rattle.hc_signal.specs.Member.{Has, first, later}
use Rattle.hc_signal.specs.Graph.{Graph}
use Rattle.hc_steps.specs.Plan.{Step, make, take, pass, run, Part, Fact, made, passed, ran, fact, facts, IsReady, AreReady}

module _ (g : Graph) (graphs : ℕ → Graph) (plans : ℕ → List Part) where
  pub ready_more : (known more : Fact → Type 0) → ((f : Fact) → known f → more f) → (s : Step) → IsReady g graphs plans known s → IsReady g graphs plans more s
  ready_more known more up (make n) r = (r.0, (r.1.0, r.1.1, r.1.2, (λ m h. up (made m.0) (r.1.3 m h))))
  ready_more known more up (take n i port) r = (r.0, r.1, (r.2.0, r.2.1, r.2.2, r.2.3, up (ran i r.2.1) r.2.4))
  ready_more known more up (pass n i port) r = (r.0, r.1, up (made n) r.2)
  ready_more known more up (run i part) r = (r.0, (λ k need. up (passed i k) (r.1 k need)), (λ b is. up (ran i b) (r.2 b is)), r.3)

  abbrev Either : (Fact → Type 0) → List Fact → List Step → Fact → Type 0
  Either known so_far steps f = known f ⊎ (Has so_far f ⊎ Has (facts steps) f)

  at_end : (known : Fact → Type 0) (so_far : List Fact) (f : Fact) → Either known so_far [] f → known f ⊎ Has so_far f
  at_end known so_far f (inl k) = inl k
  at_end known so_far f (inr (inl h)) = inr h
  at_end known so_far f (inr (inr h)) = elim h [ ]

  moved : (known : Fact → Type 0) (so_far : List Fact) (x : Step) (steps : List Step) (f : Fact) → Either known so_far (x ∷ steps) f → Either known (fact x ∷ so_far) steps f
  moved known so_far x steps f (inl k) = inl k
  moved known so_far x steps f (inr (inl h)) = inr (inl (later h))
  moved known so_far x steps _ (inr (inr first)) = inr (inl first)
  moved known so_far x steps f (inr (inr (later h))) = inr (inr h)

  pushed_on : (known : Fact → Type 0) (so_far : List Fact) (steps : List Step) (s : Step) → AreReady g graphs plans known so_far steps
      → IsReady g graphs plans (Either known so_far steps) s → AreReady g graphs plans known so_far (steps ++ s ∷ [])
  pushed_on known so_far [] s a r = (ready_more (Either known so_far []) (λ f. known f ⊎ Has so_far f) (at_end known so_far) s r, tt)
  pushed_on known so_far (x ∷ steps) s a r = (
    a.0,
    pushed_on known (fact x ∷ so_far) steps s a.1
        (ready_more (Either known so_far (x ∷ steps)) (Either known (fact x ∷ so_far) steps) (moved known so_far x steps) s r),
  )

  from_start : (known : Fact → Type 0) (steps : List Step) (f : Fact) → known f ⊎ Has (facts steps) f → Either known [] steps f
  from_start known steps f (inl k) = inl k
  from_start known steps f (inr h) = inr (inr h)

  pub pushed : (known : Fact → Type 0) (steps : List Step) (s : Step) → AreReady g graphs plans known [] steps
      → IsReady g graphs plans (λ f. known f ⊎ Has (facts steps) f) s → AreReady g graphs plans known [] (steps ++ s ∷ [])
  pushed known steps s a r = pushed_on known [] steps s a (ready_more (λ f. known f ⊎ Has (facts steps) f) (Either known [] steps) (from_start known steps) s r)
