-- The tree of what elaborates is no heavier than its sums say.
use Rattle.std.proofs.Common.{◌≡◌, ◌⊎◌, inl, inr, ℕ, zero, suc, ◌+◌, ◌≤◌, Bool, true, false, List, [], ◌∷◌, length, refl, sym, ap, subst, ◌∙◌, arith}
use Rattle.std.specs.Prelude.{nat_lt, if◌then◌else◌, slice_get, Option, Some, None, Result, Ok, ℤ}
use Rattle.std.proofs.lemmas.Bool.{ltb-false}
use Rattle.hc_fault.specs.declared.fault.Fault.{Fault}
use Rattle.hc_fault.specs.declared.fault.FaultKind.{FaultKind}
use Rattle.hc_fault.specs.declared.fault.FaultKind.TheVariants.{DesignWeight, DesignWords, TooManyInstances}
use Rattle.hc_fault.specs.declared.fault.Path.{Path}
use Rattle.hc_lang.specs.declared.tree.CircuitText.{CircuitText}
use Rattle.hc_lang.specs.declared.tree.Design.{Design}
use Rattle.hc_signal.specs.Tree.{Tree, graph}
use Rattle.hc_signal.specs.Weight.{graph_weight}
use Rattle.hc_statements.specs.declared.kinds.Call.{Call}
use Rattle.hc_statements.specs.declared.kinds.Child.{Child}
use Rattle.hc_statements.specs.PortWidths.{parameters}
use Rattle.hc_statements.specs.Unrolled.{unrolled}
use Rattle.hc_body.specs.BodyOf.{BodyOf, IsCallOf, body_of, broken, many_ports, no_outputs, undriven}
use Rattle.hc_body.specs.BodyOf as body
use Rattle.hc_body.specs.declared.kinds.Body.{Body}
use Rattle.hc_plan.specs.Elaborates.{DesignFinishes, ElaborateChildren, Elaborated, Elaborates, FinishedCall, Sums, body_fault, called, child_fault, comb_loop, elaborated_call, fault_in_child, later_fault, limit_passed, many_words, most_instances, most_weight, most_words, no_more, one_more, own_sums, past_limit, plus, too_deep, tree_of_kid, whole}
use Rattle.hc_plan.specs.Light.{sum_below, tree_weight}
use Rattle.hc_plan.proofs.Right.{HaveChildren}

-- ---- sums over lists

-- the first number of a sum
sum_first : (f : ℕ → ℕ) (n : ℕ) → sum_below f (suc n) ≡ f zero + sum_below (λ i. f (suc i)) n
sum_first f zero = omega arith
sum_first f (suc n) = let more : sum_below f (suc n) ≡ f zero + sum_below (λ i. f (suc i)) n = sum_first f n in omega (arith, more)

abbrev kids_weight : List Elaborated → ℕ → ℕ
kids_weight kids i = tree_weight (tree_of_kid (slice_get kids i))

-- ---- limits

under_limit : (s : Sums) → limit_passed s ≡ None → s.weight ≤ 4194304
under_limit s e = by (nat_lt most_instances s.instances) (nat_lt most_weight s.weight) refl e
  where
    by : (a b : Bool) → nat_lt most_weight s.weight ≡ b
        → ◌≡◌ {A = Option FaultKind} (if a then Some TooManyInstances else if b then Some DesignWeight else if nat_lt most_words s.words then Some DesignWords else None) None
        → s.weight ≤ 4194304
    by true b is e' = absurd cc
    by false true is e' = absurd cc
    by false false is e' = ltb-false most_weight s.weight is

-- ---- bodies

body_weighs : (d : Design) (c : CircuitText) (args : List ℤ) (path : Path) (r : Result Body Fault) → BodyOf d c args path r → (b : Body) → r ≡ Ok b → graph_weight b.circuit ≤ b.weight
body_weighs d c args path r (broken fault is) b e = absurd cc
body_weighs d c args path r (no_outputs f is breaks) b e = absurd cc
body_weighs d c args path r (many_ports f is breaks) b e = absurd cc
body_weighs d c args path r (undriven f n is breaks) b e = absurd cc
body_weighs d c args path r (body.whole f is checked) b e =
    let same : body_of c args f ≡ b = cc in
    subst (λ (x : Body). graph_weight x.circuit ≤ x.weight) same (at_least (unrolled c.body (parameters c args)).count (graph_weight f.graph))
  where
    at_least : (m n : ℕ) → n ≤ m + n
    at_least m n = omega arith

-- ---- trees

-- the kids weigh what the sums grow by; where there are some, the limit holds
record AllWeigh (before all : Sums) (children : List Child) (kids : List Elaborated) : Type 0 where
  many : length kids ≡ length children
  weigh : before.weight + sum_below (kids_weight kids) (length kids) ≤ all.weight
  few : (kids ≡ []) ⊎ (all.weight ≤ 4194304)

none_weigh : (s : Sums) → AllWeigh s s [] []
none_weigh s = record { many = refl; weigh = omega arith; few = inl refl }

more_weigh : (s all : Sums) (child : Child) (more : List Child) (kid : Elaborated) (kids : List Elaborated) → limit_passed (plus s kid.sums) ≡ None
    → tree_weight kid.tree ≤ kid.sums.weight → AllWeigh (plus s kid.sums) all more kids
    → (kids ≡ [] → all ≡ plus s kid.sums) → AllWeigh s all (child ∷ more) (kid ∷ kids)
more_weigh s all child more kid kids under own rest alone = record {
  many = ap suc rest.many;
  weigh = (let w : s.weight + kid.sums.weight + sum_below (kids_weight kids) (length kids) ≤ all.weight = rest.weigh in
      let f : sum_below (kids_weight (kid ∷ kids)) (suc (length kids)) ≡ tree_weight kid.tree + sum_below (kids_weight kids) (length kids) = sum_first (kids_weight (kid ∷ kids)) (length kids) in
      omega (arith, w, f, own));
  few = inr (elim rest.few [
    | inl none ↦ subst (λ (t : Sums). t.weight ≤ 4194304) (sym (alone none)) (under_limit (plus s kid.sums) under)
    | inr light ↦ light
  ]);
}

-- a tree, its sums, and whether it has kids
record Weighs (e : Elaborated) : Type 0 where
  weigh : tree_weight e.tree ≤ e.sums.weight
  few : ((graph e.tree).instances ≡ []) ⊎ (e.sums.weight ≤ 4194304)

none_left : {X : Type 0} (xs : List X) → length xs ≡ 0 → xs ≡ []
none_left [] e = refl
none_left (x ∷ xs) e = absurd (omega (arith, e))

pair_of : (s all : Sums) (ks kids : List Elaborated) → ◌≡◌ {A = Result (Sums × List Elaborated) Fault} (Ok (s, ks)) (Ok (all, kids)) → ◌≡◌ {A = Sums × List Elaborated} (s, ks) (all, kids)
pair_of s all ks kids q = cc

module _ (L : Tree → Type 0) (d : Design) (have_children : HaveChildren d) where
  over : (path : Path) (call : Call) (c : CircuitText) (b : Body) (sums : Sums) (kids : List Elaborated) → BodyOf d c call.args path (Ok b)
      → AllWeigh (own_sums b) sums b.children kids → Weighs (elaborated_call call c b sums kids)
  over path call c b sums kids body all =
      let many : length b.children ≡ length b.circuit.instances = (have_children c call.args path b body).many in
      let own : graph_weight b.circuit ≤ b.weight = body_weighs d c call.args path (Ok b) body b refl in
      let count : length kids ≡ length b.circuit.instances = all.many ∙ many in
      let w : b.weight + sum_below (kids_weight kids) (length kids) ≤ sums.weight = all.weigh in
      let v : b.weight + sum_below (kids_weight kids) (length b.circuit.instances) ≤ sums.weight = subst (λ n. b.weight + sum_below (kids_weight kids) n ≤ sums.weight) count w in
      record {
        weigh = omega (arith, own, v);
        few = elim all.few [ inl none ↦ inl (none_left b.circuit.instances (let l : length kids ≡ 0 = ap length none in omega (arith, l, count))) | inr light ↦ inr light ];
      }

  -- children that are none add nothing
  alone_sums : {level : ℕ} {path : Path} {sums : Sums} {children : List Child} {done : List FinishedCall} {r : Result (Sums × List Elaborated) Fault}
      → ElaborateChildren L d level path sums children done r → (all : Sums) → r ≡ Ok (all, []) → all ≡ sums
  alone_sums {level} {path} {sums} no_more all q = sym (ap (λ (x : Sums × List Elaborated). x.0) (pair_of sums all [] [] q))
  alone_sums (too_deep l) all q = absurd cc
  alone_sums (fault_in_child f l x) all q = absurd cc
  alone_sums (past_limit kid kind l x past) all q = absurd cc
  alone_sums (later_fault kid f l x under rest) all q = absurd cc
  alone_sums (one_more kid total others l x under rest) all q = absurd (let n : kid ∷ others ≡ [] = ap (λ (x : Sums × List Elaborated). x.1) (pair_of total all (kid ∷ others) [] q) in cc)

  mutual
    weighs : {level : ℕ} {path : Path} {call : Call} {done : List FinishedCall} {r : Result Elaborated Fault} → Elaborates L d level path call done r → (e : Elaborated) → r ≡ Ok e → Weighs e
    weighs (body_fault c f of body) e q = absurd cc
    weighs (many_words c b of body words) e q = absurd cc
    weighs (child_fault c b f of body words children) e q = absurd cc
    weighs (comb_loop c b sums kids of body words children loop) e q = absurd cc
    weighs {level} {path} {call} (whole {done = inner} c b sums kids of body words children free) e q =
        let same : elaborated_call call c b sums kids ≡ e = cc in
        subst Weighs same (over path call c b sums kids body (all_weigh children sums kids refl))

    all_weigh : {level : ℕ} {path : Path} {sums : Sums} {children : List Child} {done : List FinishedCall} {r : Result (Sums × List Elaborated) Fault}
        → ElaborateChildren L d level path sums children done r → (all : Sums) (kids : List Elaborated) → r ≡ Ok (all, kids) → AllWeigh sums all children kids
    all_weigh {level} {path} {sums} no_more all kids q = subst (λ (x : Sums × List Elaborated). AllWeigh sums x.0 [] x.1) (pair_of sums all [] kids q) (none_weigh sums)
    all_weigh (too_deep l) all kids q = absurd cc
    all_weigh (fault_in_child f l x) all kids q = absurd cc
    all_weigh (past_limit kid kind l x past) all kids q = absurd cc
    all_weigh (later_fault kid f l x under rest) all kids q = absurd cc
    all_weigh {level} {path} {sums} (one_more {child = child} {more = more} kid total others l x under rest) all kids q =
        subst (λ (y : Sums × List Elaborated). AllWeigh sums y.0 (child ∷ more) y.1) (pair_of total all (kid ∷ others) kids q)
        (more_weigh sums total child more kid others under (weighs x kid refl).weigh (all_weigh rest total others refl)
        (λ none. alone_sums rest total (ap (λ ks. (let p : Sums × List Elaborated = (total, ks) in Ok p)) none)))

  pub light_tree : {done : List FinishedCall} {e : Elaborated} → DesignFinishes L d done (Ok e) → ((graph e.tree).instances ≡ []) ⊎ (tree_weight e.tree ≤ 4194304)
  light_tree {done} {e} (called call q x) =
      let w : Weighs e = weighs x e refl in
      let at_most : tree_weight e.tree ≤ e.sums.weight = w.weigh in
      elim w.few [ inl none ↦ inl none | inr light ↦ inr (omega (arith, at_most, light)) ]
