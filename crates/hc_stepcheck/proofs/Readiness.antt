-- Steps that may come where they stand.
use Rattle.std.proofs.Common.{◌≡◌, ℕ, zero, suc, ◌<◌, ◌≤◌, ◌⊎◌, inl, inr, List, [], ◌∷◌, take, length, refl, sym, subst, ◌∙◌, ap, arith}
use Rattle.std.specs.Prelude.{slice_get, Some, IsBitSet}
use Rattle.hc_signal.specs.Member.{Has, first, later}
use Rattle.hc_signal.specs.declared.signal.NodeId.{NodeId}
use Rattle.hc_signal.specs.declared.signal.Node.TheVariants.{InstOut}
use Rattle.hc_signal.specs.Graph.{Graph, Reached, node, inst}
use Rattle.hc_signal.specs.Lawful.{NodeAt}
use Rattle.hc_canon.specs.FormView.{FormView}
use Rattle.std.proofs.lemmas.Option.{slice_get_within, slice_get_past}
use Rattle.hc_steps.specs.Plan.{Step, take as takes, run, Part, steps_of, steps_at, Begins, NeedsIn, Fact, made, passed, ran, fact, facts, IsReady, AreReady, IsBefore}
use Rattle.hc_steps.specs.Views.{IsKnownAt}
use Rattle.hc_steps.specs.Compiled.{PlanView, graph_of_kid, parts_of_kid, parts_in, plan_in}
use Rattle.hc_stepcheck.specs.Checked.{IsReadyAt, IsPartReady}
use Rattle.hc_steps.proofs.Lists.{has_at, below_or_past}
use Rattle.hc_steps.proofs.Pushed.{ready_more}

pub take_ready : (entries : List FormView) (plans : List PlanView) (form : FormView) (plan : List Part) (j s n i port : ℕ) (g : Graph) (kid : PlanView) (parts : List Part) (w : NodeId) (part step : ℕ)
    → Reached form.circuit (node n) → NodeAt form.circuit n (InstOut (record { 0 = i }) port) → g ≡ graph_of_kid entries form i → plan_in plans (slice_get form.kids i) ≡ Some kid → parts ≡ kid.parts
    → slice_get g.outputs port ≡ Some w → slice_get (facts (steps_at parts part)) step ≡ Some (made w.0) → IsKnownAt form.circuit plan j s (ran i part)
    → IsReadyAt entries plans form plan j s (takes n i port)
take_ready entries plans form plan j s n i port g kid parts w part step r at e f x o h k = (
  r,
  at,
  (
    w,
    part,
    subst (λ (z : Graph). slice_get z.outputs port ≡ Some w) e o,
    subst (λ o. Has (facts (steps_at (parts_in o) part)) (made w.0)) (sym f)
        (has_at (facts (steps_at kid.parts part)) step (made w.0) (subst (λ z. slice_get (facts (steps_at z part)) step ≡ Some (made w.0)) x h)),
    k,
  ),
)

pub run_ready : (entries : List FormView) (plans : List PlanView) (form : FormView) (plan : List Part) (j s i b : ℕ) (kid : PlanView) (parts : List Part) (part : Part) (needs : ℕ)
    → Reached form.circuit (inst i) → plan_in plans (slice_get form.kids i) ≡ Some kid → parts ≡ kid.parts → slice_get parts b ≡ Some part → needs ≡ part.needs
    → ((k : ℕ) → IsBitSet needs k → IsKnownAt form.circuit plan j s (passed i k)) → ((c : ℕ) → IsBefore parts b c → IsKnownAt form.circuit plan j s (ran i c))
    → IsReadyAt entries plans form plan j s (run i b)
run_ready entries plans form plan j s i b kid parts part needs r f x e y p q =
    let same : parts ≡ parts_of_kid plans form i = x ∙ sym (ap parts_in f) in
    subst (λ z. Reached form.circuit (inst i) × ((k : ℕ) → NeedsIn (slice_get z b) k → IsKnownAt form.circuit plan j s (passed i k))
    × ((c : ℕ) → IsBefore z b c → IsKnownAt form.circuit plan j s (ran i c)) × (b < length z)) same
    (r, (λ k h. p k (subst (λ z. IsBitSet z k) (sym y) (subst (λ o. NeedsIn o k) e h))), q, slice_get_within parts b part e)

-- ---- all steps of a part

module _ (g : Graph) (graphs : ℕ → Graph) (plans : ℕ → List Part) where
  -- a known fact, one of those so far, or one of the steps before
  abbrev Seen : (Fact → Type 0) → List Fact → List Step → Fact → Type 0
  Seen known so_far steps f = (known f ⊎ Has so_far f) ⊎ Has (facts steps) f

  moved : (known : Fact → Type 0) (so_far : List Fact) (x : Step) (steps : List Step) (f : Fact) → Seen known so_far (x ∷ steps) f → Seen known (fact x ∷ so_far) steps f
  moved known so_far x steps f (inl (inl k)) = inl (inl k)
  moved known so_far x steps f (inl (inr h)) = inl (inr (later h))
  moved known so_far x steps _ (inr first) = inl (inr first)
  moved known so_far x steps f (inr (later h)) = inr h

  at_front : (known : Fact → Type 0) (so_far : List Fact) (f : Fact) → Seen known so_far [] f → known f ⊎ Has so_far f
  at_front known so_far f (inl k) = k
  at_front known so_far f (inr h) = elim h [ ]

  each_on : (known : Fact → Type 0) (so_far : List Fact) (steps : List Step)
      → ((k : ℕ) (s : Step) → slice_get steps k ≡ Some s → IsReady g graphs plans (Seen known so_far (take k steps)) s) → AreReady g graphs plans known so_far steps
  each_on known so_far [] all = tt
  each_on known so_far (x ∷ steps) all = (
    ready_more g graphs plans (Seen known so_far []) (λ f. known f ⊎ Has so_far f) (at_front known so_far) x (all zero x refl),
    each_on known (fact x ∷ so_far) steps (λ k s e. ready_more g graphs plans (Seen known so_far (take (suc k) (x ∷ steps))) (Seen known (fact x ∷ so_far) (take k steps))
        (moved known so_far x (take k steps)) s (all (suc k) s e)),
  )

  started : (known : Fact → Type 0) (steps : List Step) (f : Fact) → known f ⊎ Has (facts steps) f → Seen known [] steps f
  started known steps f (inl k) = inl (inl k)
  started known steps f (inr h) = inr h

  pub each_ready : (known : Fact → Type 0) (steps : List Step)
      → ((k : ℕ) (s : Step) → slice_get steps k ≡ Some s → IsReady g graphs plans (λ f. known f ⊎ Has (facts (take k steps)) f) s)
      → AreReady g graphs plans known [] steps
  each_ready known steps all = each_on known [] steps (λ k s e. ready_more g graphs plans (λ f. known f ⊎ Has (facts (take k steps)) f) (Seen known [] (take k steps))
      (started known (take k steps)) s (all k s e))

-- ---- all parts

pub part_ready : (entries : List FormView) (plans : List PlanView) (form : FormView) (plan : List Part) (j count i : ℕ) → count ≡ length (steps_at plan j) → count ≤ i
    → ((k : ℕ) → k < i → (s : Step) → slice_get (steps_at plan j) k ≡ Some s → IsReadyAt entries plans form plan j k s) → IsPartReady entries plans form plan j
part_ready entries plans form plan j count i c l all =
    each_ready form.circuit (graph_of_kid entries form) (parts_of_kid plans form) (Begins form.circuit plan j) (steps_at plan j)
    (λ k s e. all k (let w : k < length (steps_at plan j) = slice_get_within (steps_at plan j) k s e in omega (arith, c, l, w)) s e)

pub parts_ready : (entries : List FormView) (plans : List PlanView) (form : FormView) (plan : List Part) (count i : ℕ) → count ≡ length plan → count ≤ i
    → ((k : ℕ) → k < i → IsPartReady entries plans form plan k) → (j : ℕ) → IsPartReady entries plans form plan j
parts_ready entries plans form plan count i c l all j =
    elim (below_or_past j (length plan)) [
      | inl a ↦ all j (omega (arith, a, c, l))
      | inr b ↦ subst (λ o. AreReady form.circuit (graph_of_kid entries form) (parts_of_kid plans form) (Begins form.circuit plan j) [] (steps_of o)) (sym (slice_get_past plan j b)) tt
    ]
