-- What holds of the tree of all that elaborates holds of the tree of each of its calls; and the calls are few.
use Rattle.std.proofs.Common.{◌≡◌, ◌⊎◌, inl, inr, ℕ, ◌+◌, ◌≤◌, Bool, true, false, List, [], ◌∷◌, ◌++◌, flat_map, length, length-append, refl, sym, ap, subst, arith}
use Rattle.std.specs.Prelude.{nat_lt, if◌then◌else◌, Option, Some, None, Result, Ok}
use Rattle.std.proofs.lemmas.Bool.{ltb-false}
use Rattle.hc_fault.specs.declared.fault.Fault.{Fault}
use Rattle.hc_fault.specs.declared.fault.FaultKind.{FaultKind}
use Rattle.hc_fault.specs.declared.fault.FaultKind.TheVariants.{DesignWeight, DesignWords, TooManyInstances}
use Rattle.hc_fault.specs.declared.fault.Path.{Path}
use Rattle.hc_lang.specs.declared.tree.Design.{Design}
use Rattle.hc_signal.specs.Member.{Has, first, later}
use Rattle.hc_signal.specs.Tree.{Tree}
use Rattle.hc_statements.specs.declared.kinds.Call.{Call}
use Rattle.hc_statements.specs.declared.kinds.Child.{Child}
use Rattle.hc_body.specs.declared.kinds.Body.{Body}
use Rattle.hc_plan.specs.Elaborates.{DesignFinishes, ElaborateChildren, Elaborated, ElaboratedCall, Elaborates, FinishedCall, Sums, body_fault, called, child_fault, comb_loop, elaborated_call, fault_in_child, later_fault, limit_passed, many_words, most_instances, most_weight, most_words, no_more, one_more, own_call, own_sums, past_limit, plus, too_deep, whole}

has_either : {X : Type 0} (xs ys : List X) {x : X} → Has (xs ++ ys) x → Has xs x ⊎ Has ys x
has_either [] ys h = inr h
has_either (z ∷ xs) ys first = inl first
has_either (z ∷ xs) ys (later h) = elim (has_either xs ys h) [ inl l ↦ inl (later l) | inr r ↦ inr r ]

has_only : {X : Type 0} {x y : X} → Has (x ∷ []) y → x ≡ y
has_only first = refl
has_only (later h) = elim h [ ]

pair_of : (s all : Sums) (ks kids : List Elaborated) → ◌≡◌ {A = Result (Sums × List Elaborated) Fault} (Ok (s, ks)) (Ok (all, kids)) → ◌≡◌ {A = Sums × List Elaborated} (s, ks) (all, kids)
pair_of s all ks kids q = cc

abbrev calls_in : List Elaborated → List ElaboratedCall
calls_in kids = flat_map (λ (k : Elaborated). k.calls) kids

-- ---- a fact on trees

module _ (L : Tree → Type 0) (d : Design) (P : Tree → Type 0) (holds : (level : ℕ) (path : Path) (call : Call) (done : List FinishedCall) (e : Elaborated)
    → Elaborates L d level path call done (Ok e) → P e.tree) where
  abbrev HoldsAt : List ElaboratedCall → Type 0
  HoldsAt calls = (x : ElaboratedCall) → Has calls x → P x.tree

  mutual
    each_of : {level : ℕ} {path : Path} {call : Call} {done : List FinishedCall} {r : Result Elaborated Fault} → Elaborates L d level path call done r → (e : Elaborated) → r ≡ Ok e → HoldsAt e.calls
    each_of (body_fault c f of body) e q = absurd cc
    each_of (many_words c b of body words) e q = absurd cc
    each_of (child_fault c b f of body words children) e q = absurd cc
    each_of (comb_loop c b sums kids of body words children loop) e q = absurd cc
    each_of {level} {path} {call} (whole {done = inner} c b sums kids of body words children free) e q =
        let same : elaborated_call call c b sums kids ≡ e = cc in
        subst (λ (y : Elaborated). HoldsAt y.calls) same (λ x m. elim (has_either (calls_in kids) (own_call call c b sums kids ∷ []) m) [
          | inl below ↦ each_in children sums kids refl x below
          | inr last ↦ subst (λ (z : ElaboratedCall). P z.tree) (has_only last) (holds level path call _ (elaborated_call call c b sums kids) (whole c b sums kids of body words children free))
        ])

    each_in : {level : ℕ} {path : Path} {sums : Sums} {children : List Child} {done : List FinishedCall} {r : Result (Sums × List Elaborated) Fault}
        → ElaborateChildren L d level path sums children done r → (all : Sums) (kids : List Elaborated) → r ≡ Ok (all, kids) → HoldsAt (calls_in kids)
    each_in {level} {path} {sums} no_more all kids q = subst (λ (y : Sums × List Elaborated). HoldsAt (calls_in y.1)) (pair_of sums all [] kids q) (λ x m. elim m [ ])
    each_in (too_deep l) all kids q = absurd cc
    each_in (fault_in_child f l x) all kids q = absurd cc
    each_in (past_limit kid kind l x past) all kids q = absurd cc
    each_in (later_fault kid f l x under rest) all kids q = absurd cc
    each_in (one_more kid total others l x under rest) all kids q =
        subst (λ (y : Sums × List Elaborated). HoldsAt (calls_in y.1)) (pair_of total all (kid ∷ others) kids q) (λ y m. elim (has_either kid.calls (calls_in others) m) [
          | inl here ↦ each_of x kid refl y here
          | inr there ↦ each_in rest total others refl y there
        ])

  -- what holds of the tree of all that elaborates holds of that of each call
  pub each_call : {done : List FinishedCall} {e : Elaborated} → DesignFinishes L d done (Ok e) → (x : ElaboratedCall) → Has e.calls x → P x.tree
  each_call {done} {e} (called call q x) = each_of x e refl

-- ---- how many calls

under_limit : (s : Sums) → limit_passed s ≡ None → s.instances ≤ 65536
under_limit s e = by (nat_lt most_instances s.instances) refl e
  where
    by : (a : Bool) → nat_lt most_instances s.instances ≡ a
        → ◌≡◌ {A = Option FaultKind} (if a then Some TooManyInstances else if nat_lt most_weight s.weight then Some DesignWeight else if nat_lt most_words s.words then Some DesignWords else None) None
        → s.instances ≤ 65536
    by true is e' = absurd cc
    by false is e' = ltb-false most_instances s.instances is

-- the calls of children are no more than what their sums add; where there are some, the limit holds
record AreFew (before all : Sums) (kids : List Elaborated) : Type 0 where
  many : before.instances + length (calls_in kids) ≤ all.instances
  few : (all ≡ before) ⊎ (all.instances ≤ 65536)

none_few : (s : Sums) → AreFew s s []
none_few s = record { many = omega arith; few = inl refl }

more_few : (s all : Sums) (kid : Elaborated) (kids : List Elaborated) → limit_passed (plus s kid.sums) ≡ None → length kid.calls ≤ kid.sums.instances
    → AreFew (plus s kid.sums) all kids → AreFew s all (kid ∷ kids)
more_few s all kid kids under own rest = record {
  many = (let m : s.instances + kid.sums.instances + length (calls_in kids) ≤ all.instances = rest.many in
      let l : length (kid.calls ++ calls_in kids) ≡ length kid.calls + length (calls_in kids) = length-append kid.calls (calls_in kids) in
      omega (arith, m, l, own));
  few = inr (elim rest.few [
    | inl same ↦ subst (λ (t : Sums). t.instances ≤ 65536) (sym same) (under_limit (plus s kid.sums) under)
    | inr light ↦ light
  ]);
}

-- what elaborates has no more calls than its sums say, and these are few
record IsFew (e : Elaborated) : Type 0 where
  many : length e.calls ≤ e.sums.instances
  few : e.sums.instances ≤ 65536

module _ (L : Tree → Type 0) (d : Design) where
  few_over : (call : Call) (c : _) (b : Body) (sums : Sums) (kids : List Elaborated) → AreFew (own_sums b) sums kids → IsFew (elaborated_call call c b sums kids)
  few_over call c b sums kids all =
      let m : 1 + length (calls_in kids) ≤ sums.instances = all.many in
      let l : length (calls_in kids ++ own_call call c b sums kids ∷ []) ≡ length (calls_in kids) + 1 = length-append (calls_in kids) (own_call call c b sums kids ∷ []) in
      record {
        many = omega (arith, m, l);
        few = elim all.few [
          | inl same ↦ (let one : sums.instances ≡ 1 = ap (λ (s : Sums). s.instances) same in omega (arith, one))
          | inr light ↦ light
        ];
      }

  mutual
    few_of : {level : ℕ} {path : Path} {call : Call} {done : List FinishedCall} {r : Result Elaborated Fault} → Elaborates L d level path call done r → (e : Elaborated) → r ≡ Ok e → IsFew e
    few_of (body_fault c f of body) e q = absurd cc
    few_of (many_words c b of body words) e q = absurd cc
    few_of (child_fault c b f of body words children) e q = absurd cc
    few_of (comb_loop c b sums kids of body words children loop) e q = absurd cc
    few_of {level} {path} {call} (whole {done = inner} c b sums kids of body words children free) e q =
        let same : elaborated_call call c b sums kids ≡ e = cc in
        subst IsFew same (few_over call c b sums kids (few_in children sums kids refl))

    few_in : {level : ℕ} {path : Path} {sums : Sums} {children : List Child} {done : List FinishedCall} {r : Result (Sums × List Elaborated) Fault}
        → ElaborateChildren L d level path sums children done r → (all : Sums) (kids : List Elaborated) → r ≡ Ok (all, kids) → AreFew sums all kids
    few_in {level} {path} {sums} no_more all kids q = subst (λ (x : Sums × List Elaborated). AreFew sums x.0 x.1) (pair_of sums all [] kids q) (none_few sums)
    few_in (too_deep l) all kids q = absurd cc
    few_in (fault_in_child f l x) all kids q = absurd cc
    few_in (past_limit kid kind l x past) all kids q = absurd cc
    few_in (later_fault kid f l x under rest) all kids q = absurd cc
    few_in {level} {path} {sums} (one_more kid total others l x under rest) all kids q =
        subst (λ (y : Sums × List Elaborated). AreFew sums y.0 y.1) (pair_of total all (kid ∷ others) kids q)
        (more_few sums total kid others under (few_of x kid refl).many (few_in rest total others refl))

  -- a design has few calls
  pub few_calls : {done : List FinishedCall} {e : Elaborated} → DesignFinishes L d done (Ok e) → length e.calls ≤ 65536
  few_calls {done} {e} (called call q x) =
      let f : IsFew e = few_of x e refl in
      let m : length e.calls ≤ e.sums.instances = f.many in
      let s : e.sums.instances ≤ 65536 = f.few in
      omega (arith, m, s)
