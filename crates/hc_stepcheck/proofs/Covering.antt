-- What a checked plan covers and lists.
use Rattle.std.proofs.Common.{◌≡◌, ℕ, ◌<◌, ◌≤◌, ◌⊎◌, inl, inr, List, [], ◌∷◌, length, refl, sym, subst, ◌∙◌, ap, arith}
use Rattle.std.specs.Prelude.{slice_get, Option, Some, None}
use Rattle.std.proofs.lemmas.Option.{slice_get_within, slice_get_past}
use Rattle.hc_signal.specs.Member.{Has, first, later}
use Rattle.hc_signal.specs.declared.signal.Node.{Node}
use Rattle.hc_signal.specs.declared.signal.Node.TheVariants.{Input}
use Rattle.hc_signal.specs.Graph.{Graph}
use Rattle.hc_signal.specs.Tree.{empty}
use Rattle.hc_signal.specs.Lawful.{IsLawful, IsLawfulNode, NodeAt}
use Rattle.hc_canon.specs.FormView.{FormView}
use Rattle.hc_canon.specs.declared.form.EntryId.{EntryId}
use Rattle.hc_steps.specs.Plan.{Step, make, take, pass, run, Part, steps_of, steps_at, Fact, made, passed, ran, fact, facts, HasStep, IsGiven, id_of}
use Rattle.hc_steps.specs.Tables.{Reads, by_make, by_pass, Takes, by_take, row}
use Rattle.hc_steps.specs.Views.{part_of, ran_at}
use Rattle.hc_steps.specs.Compiled.{PlanView, entry_in, circuit_in, graph_of_kid, plan_in, parts_in, parts_of_kid, part_of_in, part_of_kid, IsNoted, AreNoted, IsCompiled}
use Rattle.hc_stepcheck.specs.Checked.{IsStepNoted, AreStepsNoted, IsPartReady, AreNodesGiven, AreInputsGiven, AreRunsGiven, IsListed, IsReaderListed, AreListedIn}
use Rattle.hc_steps.proofs.Lists.{has_index, below_or_past}

pub nodes_given : (g : Graph) (plan : List Part) (i : ℕ) → length g.nodes ≤ i → ((k : ℕ) → k < i → (x : Node) → NodeAt g k x → HasStep x → IsGiven plan (made k)) → AreNodesGiven g plan
nodes_given g plan i l all n x at s = all n (let w : n < length g.nodes = slice_get_within g.nodes n at.0 at.1 in omega (arith, w, l)) x at s

port_inside : (g : Graph) (n port : ℕ) → IsLawful g → NodeAt g n (Input port) → port < length g.ports.inputs
port_inside g n port lawful at =
    let h : IsLawfulNode g at.0.width (Input port) = subst (λ (x : Node). IsLawfulNode g at.0.width x) at.2 (lawful.nodes n at.0 at.1).1 in slice_get_within g.ports.inputs port h.0 h.1

pub inputs_given : (entries : List FormView) (form : FormView) (plan : List Part) (i : ℕ) (g : Graph) (count : ℕ) → g ≡ graph_of_kid entries form i → IsLawful g
    → length g.ports.inputs ≤ count → ((k : ℕ) → k < count → IsGiven plan (passed i k)) → AreInputsGiven entries form plan i
inputs_given entries form plan i g count e lawful l all port n at =
    all port (let w : port < length g.ports.inputs = port_inside g n port lawful (subst (λ (z : Graph). NodeAt z n (Input port)) (sym e) at) in omega (arith, w, l))

-- no part past the end has a step
inside_of : (plan : List Part) (j : ℕ) (f : Fact) → (j < length plan) ⊎ (length plan ≤ j) → Has (facts (steps_at plan j)) f → j < length plan
inside_of plan j f (inl a) h = a
inside_of plan j f (inr b) h = absurd (none (subst (λ o. Has (facts (steps_of o)) f) (slice_get_past plan j b) h))
  where
    none : Has [] f → ⊥
    none x = elim x [ ]

pub inside : (plan : List Part) (j : ℕ) (f : Fact) → Has (facts (steps_at plan j)) f → j < length plan
inside plan j f h = inside_of plan j f (below_or_past j (length plan)) h

pub runs_given : (plans : List PlanView) (form : FormView) (plan : List Part) (i : ℕ) (kid : PlanView) (parts : List Part) (count m : ℕ)
    → plan_in plans (slice_get form.kids i) ≡ Some kid → parts ≡ kid.parts → count ≡ length parts → count ≤ m
    → ((k : ℕ) → k < m → IsGiven plan (ran i k)) → AreRunsGiven plans form plan i
runs_given plans form plan i kid parts count m e x c l all part f h =
    all part (let w : part < length parts = inside parts part f (subst (λ z. Has (facts (steps_at z part)) f) (ap parts_in e ∙ sym x) h) in omega (arith, w, c, l))

no_node : (n : ℕ) (x : Node) → NodeAt empty n x → ⊥
no_node n x at = cc (at.1)

kid_given_past : (entries : List FormView) (plans : List PlanView) (form : FormView) (plan : List Part) (i : ℕ) → length form.kids ≤ i
    → AreInputsGiven entries form plan i × AreRunsGiven plans form plan i
kid_given_past entries plans form plan i l =
    let e : slice_get form.kids i ≡ None = slice_get_past form.kids i l in (
      (λ port n at. absurd (no_node n (Input port) (subst (λ o. NodeAt (circuit_in (entry_in entries o)) n (Input port)) e at))),
      (λ part f h. let w : part < 0 = inside [] part f (subst (λ o. Has (facts (steps_at (parts_in (plan_in plans o)) part)) f) e h) in absurd (omega (arith, w))),
    )

pub kids_given : (entries : List FormView) (plans : List PlanView) (form : FormView) (plan : List Part) (m : ℕ) → length form.kids ≤ m
    → ((k : ℕ) → k < m → AreInputsGiven entries form plan k × AreRunsGiven plans form plan k) → (i : ℕ)
    → AreInputsGiven entries form plan i × AreRunsGiven plans form plan i
kids_given entries plans form plan m l all i =
    elim (below_or_past i m) [ inl a ↦ all i a | inr b ↦ kid_given_past entries plans form plan i (omega (arith, l, b)) ]

-- ---- tables

pub listed_in : (entries : List FormView) (plans : List PlanView) (form : FormView) (plan : PlanView) (j count m : ℕ) → count ≡ length (steps_at plan.parts j) → count ≤ m
    → ((k : ℕ) → k < m → (x : Step) → slice_get (steps_at plan.parts j) k ≡ Some x → IsListed entries plans form plan j x) → AreListedIn entries plans form plan j
listed_in entries plans form plan j count m c l all step h =
    let r : (i : ℕ) × (slice_get (steps_at plan.parts j) i ≡ Some step) = has_index h in
    all r.0 (let w : r.0 < length (steps_at plan.parts j) = slice_get_within (steps_at plan.parts j) r.0 step r.1 in omega (arith, w, c, l)) step r.1

has_fact_of : (steps : List Step) (step : Step) → Has steps step → Has (facts steps) (fact step)
has_fact_of _ _ first = first
has_fact_of _ step (later h) = later (has_fact_of _ step h)

pub listed_all : (entries : List FormView) (plans : List PlanView) (form : FormView) (plan : PlanView) (count m : ℕ) → count ≡ length plan.parts → count ≤ m
    → ((k : ℕ) → k < m → AreListedIn entries plans form plan k) → (j : ℕ) → AreListedIn entries plans form plan j
listed_all entries plans form plan count m c l all j step h =
    all j (let w : j < length plan.parts = inside plan.parts j (fact step) (has_fact_of (steps_at plan.parts j) step h) in omega (arith, w, c, l)) step h

-- ---- all together

has_step_of : (steps : List Step) (f : Fact) → Has (facts steps) f → (step : Step) × Has steps step × (fact step ≡ f)
has_step_of [] f h = elim h [ ]
has_step_of (x ∷ steps) _ first = (x, first, refl)
has_step_of (x ∷ steps) f (later h) = let r = has_step_of steps f h in (r.0, later r.1, r.2)

pub noted_of : (plan : PlanView) → ((j : ℕ) (step : Step) → Has (steps_at plan.parts j) step → IsStepNoted plan j step) → IsNoted plan
noted_of plan all a n h = let r = has_step_of (steps_at plan.parts a) (made n) h in all a r.0 r.1 n r.2

kid_noted_in : (plans : List PlanView) → AreNoted plans → (o : Option EntryId) (b w : ℕ) → Has (facts (steps_at (parts_in (plan_in plans o)) b)) (made w) → b ≡ part_of_in (plan_in plans o) w
kid_noted_in plans noted None b w h = let l : b < 0 = inside [] b (made w) h in absurd (omega (arith, l))
kid_noted_in plans noted (Some id) b w h = at (slice_get plans id.0) refl h
  where
    at : (o : Option PlanView) → slice_get plans id.0 ≡ o → Has (facts (steps_at (parts_in o) b)) (made w) → b ≡ part_of_in o w
    at None e x = let l : b < 0 = inside [] b (made w) x in absurd (omega (arith, l))
    at (Some plan) e x = noted id.0 plan e b w x

reader : (entries : List FormView) (plans : List PlanView) (form : FormView) (plan : PlanView) → ((j : ℕ) → AreListedIn entries plans form plan j) → (j n : ℕ)
    → Reads form.circuit plan.parts j n → IsReaderListed form.circuit plan j n
reader entries plans form plan listed j n (by_make {m = m} x h at f) = (listed j (make m) h x at).0 (id_of n) f
reader entries plans form plan listed j n (by_pass {i = i} {port = port} h) = listed j (pass n i port) h

module _ (entries : List FormView) (plans : List PlanView) (form : FormView) (plan : PlanView) (all_noted : AreNoted plans) (noted : IsNoted plan)
    (listed : (j : ℕ) → AreListedIn entries plans form plan j) where
  reads : (a j n : ℕ) → Has (facts (steps_at plan.parts a)) (made n) → Reads form.circuit plan.parts j n → ¬ (a ≡ j) → Has (row plan.readers a) j
  reads a j n h r d =
      let e : a ≡ part_of plan.spots n = noted a n h in
      let l : a < length plan.parts = inside plan.parts a (made n) h in
      subst (λ z. Has (row plan.readers z) j) (sym e) ((reader entries plans form plan listed j n r).0 (λ q. d (e ∙ q)) (subst (λ z. z < length plan.parts) e l))

  taken : (a j i b w : ℕ) → Has (steps_at plan.parts a) (run i b) → Has (facts (steps_at (parts_of_kid plans form i) b)) (made w)
      → Takes (graph_of_kid entries form) plan.parts j i w → ¬ (a ≡ j) → Has (row plan.takers a) j
  taken a j i b w h k (by_take {m = m} {port = port} t o) d =
      let q : b ≡ part_of_kid plans form i w = kid_noted_in plans all_noted (slice_get form.kids i) b w k in
      let e : a ≡ ran_at plan.first_part plan.ran i (part_of_kid plans form i w) = listed a (run i b) h ∙ ap (ran_at plan.first_part plan.ran i) q in
      subst (λ z. Has (row plan.takers z) j) (sym e) (listed j (take m i port) t (id_of w) o (λ z. d (e ∙ z)))

  pub compiled : ((j : ℕ) → IsPartReady entries plans form plan.parts j) → AreNodesGiven form.circuit plan.parts
      → ((i : ℕ) → AreInputsGiven entries form plan.parts i × AreRunsGiven plans form plan.parts i) → IsCompiled entries plans form plan
  compiled ready nodes kids = record {
    is_plan = record {
      parts = ready;
      nodes = λ n x r at s. nodes n x at s;
      inputs = λ i port n r at. (kids i).0 port n at;
      instances = λ i part f r h. (kids i).1 part f h;
    };
    tables = record {
      readers = reads;
      takers = taken;
      inputs = λ k j n at r. (reader entries plans form plan listed j n r).1 k at;
      state = λ j n x h at is. (listed j (make n) h x at).1 is;
      one_run = λ a i b h. listed a (run i b) h;
      one_step = λ a b n x y. noted a n x ∙ sym (noted b n y);
    };
    noted = noted;
  }

-- ---- spots

pub steps_noted : (plan : PlanView) (a count m : ℕ) → count ≡ length (steps_at plan.parts a) → count ≤ m
    → ((k : ℕ) → k < m → (x : Step) → slice_get (steps_at plan.parts a) k ≡ Some x → IsStepNoted plan a x) → AreStepsNoted plan a
steps_noted plan a count m c l all step h =
    let r : (i : ℕ) × (slice_get (steps_at plan.parts a) i ≡ Some step) = has_index h in
    all r.0 (let w : r.0 < length (steps_at plan.parts a) = slice_get_within (steps_at plan.parts a) r.0 step r.1 in omega (arith, w, c, l)) step r.1

pub plan_noted : (plan : PlanView) (count m : ℕ) → count ≡ length plan.parts → count ≤ m → ((k : ℕ) → k < m → AreStepsNoted plan k) → IsNoted plan
plan_noted plan count m c l all =
    noted_of plan (λ j step h. all j (let w : j < length plan.parts = inside plan.parts j (fact step) (has_fact_of (steps_at plan.parts j) step h) in omega (arith, w, c, l)) step h)

pub make_noted : (plan : PlanView) (a m : ℕ) → a ≡ part_of plan.spots m → (n : ℕ) → made m ≡ made n → a ≡ part_of plan.spots n
make_noted plan a m e n q = let f : m ≡ n = cc in e ∙ ap (part_of plan.spots) f

pub pass_noted : (plan : PlanView) (a i port : ℕ) (n : ℕ) → passed i port ≡ made n → a ≡ part_of plan.spots n
pass_noted plan a i port n q = cc

pub run_noted : (plan : PlanView) (a i b : ℕ) (n : ℕ) → ran i b ≡ made n → a ≡ part_of plan.spots n
run_noted plan a i b n q = cc

pub plans_noted : (plans : List PlanView) (m : ℕ) → length plans ≤ m → ((k : ℕ) (p : PlanView) → k < m → slice_get plans k ≡ Some p → IsNoted p) → AreNoted plans
plans_noted plans m l all k p e = all k p (let w : k < length plans = slice_get_within plans k p e in omega (arith, w, l)) e
