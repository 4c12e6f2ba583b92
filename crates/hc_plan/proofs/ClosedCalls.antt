-- The calls of what elaborates: the tree of each of their instances is that of one of them.
use Rattle.std.proofs.Common.{◌≡◌, ◌⊎◌, inl, inr, ℕ, zero, suc, ◌<◌, List, [], ◌∷◌, ◌++◌, flat_map, length, refl, ap, subst, arith}
use Rattle.std.specs.Prelude.{slice_get, Some, Result, Ok}
use Rattle.std.proofs.lemmas.Option.{slice_get_within}
use Rattle.hc_fault.specs.declared.fault.Fault.{Fault}
use Rattle.hc_fault.specs.declared.fault.Path.{Path}
use Rattle.hc_lang.specs.declared.tree.CircuitText.{CircuitText}
use Rattle.hc_lang.specs.declared.tree.Design.{Design}
use Rattle.hc_signal.specs.Member.{Has, first, later}
use Rattle.hc_signal.specs.declared.signal.Instance.{Instance}
use Rattle.hc_signal.specs.Tree.{Tree, graph, kid}
use Rattle.hc_statements.specs.declared.kinds.Call.{Call}
use Rattle.hc_statements.specs.declared.kinds.Child.{Child}
use Rattle.hc_body.specs.BodyOf.{BodyOf}
use Rattle.hc_body.specs.declared.kinds.Body.{Body}
use Rattle.hc_plan.specs.Elaborates.{DesignFinishes, ElaborateChildren, Elaborated, ElaboratedCall, Elaborates, FinishedCall, Sums, body_fault, called, child_fault, comb_loop, elaborated_call, fault_in_child, later_fault, many_words, no_more, one_more, own_call, past_limit, too_deep, tree_of_kid, whole}
use Rattle.hc_plan.proofs.Right.{HaveChildren}

-- ---- membership

has_left : {X : Type 0} {xs : List X} (ys : List X) {x : X} → Has xs x → Has (xs ++ ys) x
has_left ys first = first
has_left ys (later h) = later (has_left ys h)

has_right : {X : Type 0} (xs : List X) {ys : List X} {x : X} → Has ys x → Has (xs ++ ys) x
has_right [] h = h
has_right (z ∷ xs) h = later (has_right xs h)

has_either : {X : Type 0} (xs ys : List X) {x : X} → Has (xs ++ ys) x → Has xs x ⊎ Has ys x
has_either [] ys h = inr h
has_either (z ∷ xs) ys first = inl first
has_either (z ∷ xs) ys (later h) = elim (has_either xs ys h) [ inl l ↦ inl (later l) | inr r ↦ inr r ]

has_only : {X : Type 0} {x y : X} → Has (x ∷ []) y → x ≡ y
has_only first = refl
has_only (later h) = elim h [ ]

-- ---- calls

abbrev KidIn : List ElaboratedCall → ElaboratedCall → ℕ → Type 0
KidIn calls x i = (y : ElaboratedCall) × Has calls y × (y.tree ≡ kid x.tree i)

abbrev AreClosed : List ElaboratedCall → Type 0
AreClosed calls = (x : ElaboratedCall) → Has calls x → (i : ℕ) (it : Instance) → slice_get (graph x.tree).instances i ≡ Some it → KidIn calls x i

abbrev HasTop : List ElaboratedCall → Tree → Type 0
HasTop calls t = (x : ElaboratedCall) × Has calls x × (x.tree ≡ t)

record IsClosed (e : Elaborated) : Type 0 where
  closed : AreClosed e.calls
  top : HasTop e.calls e.tree

abbrev AllClosed : List Elaborated → Type 0
AllClosed [] = Unit {0}
AllClosed (k ∷ ks) = IsClosed k × AllClosed ks

abbrev calls_in : List Elaborated → List ElaboratedCall
calls_in kids = flat_map (λ (k : Elaborated). k.calls) kids

closed_in : (kids : List Elaborated) → AllClosed kids → AreClosed (calls_in kids)
closed_in [] all x m i it e = elim m [ ]
closed_in (k ∷ ks) all x m i it e = elim (has_either k.calls (calls_in ks) m) [
  | inl here ↦ (let y : KidIn k.calls x i = all.0.closed x here i it e in (y.0, has_left (calls_in ks) y.1, y.2))
  | inr there ↦ (let y : KidIn (calls_in ks) x i = closed_in ks all.1 x there i it e in (y.0, has_right k.calls y.1, y.2))
]

top_in : (kids : List Elaborated) → AllClosed kids → (i : ℕ) → i < length kids → HasTop (calls_in kids) (tree_of_kid (slice_get kids i))
top_in [] all i b = absurd (omega (arith, b))
top_in (k ∷ ks) all zero b = let y : HasTop k.calls k.tree = all.0.top in (y.0, has_left (calls_in ks) y.1, y.2)
top_in (k ∷ ks) all (suc i) b = let y : HasTop (calls_in ks) (tree_of_kid (slice_get ks i)) = top_in ks all.1 i (omega (arith, b)) in (y.0, has_right k.calls y.1, y.2)

pair_of : (s all : Sums) (ks kids : List Elaborated) → ◌≡◌ {A = Result (Sums × List Elaborated) Fault} (Ok (s, ks)) (Ok (all, kids)) → ks ≡ kids
pair_of s all ks kids q = let same : ◌≡◌ {A = Sums × List Elaborated} (s, ks) (all, kids) = cc in ap (λ (x : Sums × List Elaborated). x.1) same

record AllKids (children : List Child) (kids : List Elaborated) : Type 0 where
  many : length kids ≡ length children
  closed : AllClosed kids

module _ (L : Tree → Type 0) (d : Design) (have_children : HaveChildren d) where
  over : (path : Path) (call : Call) (c : CircuitText) (b : Body) (sums : Sums) (kids : List Elaborated) → BodyOf d c call.args path (Ok b) → AllKids b.children kids
      → IsClosed (elaborated_call call c b sums kids)
  over path call c b sums kids body all = record {
    closed = λ x m i it e. by x (has_either (calls_in kids) (own_call call c b sums kids ∷ []) m) i it e;
    top =
        (own_call call c b sums kids, has_right (calls_in kids) first, refl);
  }
    where
      of_own : (i : ℕ) (it : Instance) → slice_get b.circuit.instances i ≡ Some it → KidIn (calls_in kids ++ own_call call c b sums kids ∷ []) (own_call call c b sums kids) i
      of_own i it e =
          let many : length b.children ≡ length b.circuit.instances = (have_children c call.args path b body).many in
          let count : length kids ≡ length b.children = all.many in
          let within : i < length b.circuit.instances = slice_get_within b.circuit.instances i it e in
          let y : HasTop (calls_in kids) (tree_of_kid (slice_get kids i)) = top_in kids all.closed i (omega (arith, many, count, within)) in
          (y.0, has_left (own_call call c b sums kids ∷ []) y.1, y.2)

      by : (x : ElaboratedCall) → Has (calls_in kids) x ⊎ Has (own_call call c b sums kids ∷ []) x → (i : ℕ) (it : Instance)
          → slice_get (graph x.tree).instances i ≡ Some it → KidIn (calls_in kids ++ own_call call c b sums kids ∷ []) x i
      by x (inl here) i it e = (let y : KidIn (calls_in kids) x i = closed_in kids all.closed x here i it e in (y.0, has_left (own_call call c b sums kids ∷ []) y.1, y.2))
      by x (inr last) i it e = subst (λ (z : ElaboratedCall). slice_get (graph z.tree).instances i ≡ Some it → KidIn (calls_in kids ++ own_call call c b sums kids ∷ []) z i)
          (has_only last) (of_own i it) e

  mutual
    closed_of : {level : ℕ} {path : Path} {call : Call} {done : List FinishedCall} {r : Result Elaborated Fault} → Elaborates L d level path call done r → (e : Elaborated) → r ≡ Ok e → IsClosed e
    closed_of (body_fault c f of body) e q = absurd cc
    closed_of (many_words c b of body words) e q = absurd cc
    closed_of (child_fault c b f of body words children) e q = absurd cc
    closed_of (comb_loop c b sums kids of body words children loop) e q = absurd cc
    closed_of {level} {path} {call} (whole {done = inner} c b sums kids of body words children free) e q =
        let same : elaborated_call call c b sums kids ≡ e = cc in subst IsClosed same (over path call c b sums kids body (all_of children sums kids refl))

    all_of : {level : ℕ} {path : Path} {sums : Sums} {children : List Child} {done : List FinishedCall} {r : Result (Sums × List Elaborated) Fault}
        → ElaborateChildren L d level path sums children done r → (all : Sums) (kids : List Elaborated) → r ≡ Ok (all, kids) → AllKids children kids
    all_of {level} {path} {sums} no_more all kids q = subst (AllKids []) (pair_of sums all [] kids q) (record { many = refl; closed = tt })
    all_of (too_deep l) all kids q = absurd cc
    all_of (fault_in_child f l x) all kids q = absurd cc
    all_of (past_limit kid kind l x past) all kids q = absurd cc
    all_of (later_fault kid f l x under rest) all kids q = absurd cc
    all_of (one_more {child = child} {more = more} kid total others l x under rest) all kids q =
        let own : IsClosed kid = closed_of x kid refl in
        let those : AllKids more others = all_of rest total others refl in
        subst (AllKids (child ∷ more)) (pair_of total all (kid ∷ others) kids q) (record { many = ap suc those.many; closed = (own, those.closed) })

  pub closed_calls : {done : List FinishedCall} {e : Elaborated} → DesignFinishes L d done (Ok e) → (x : ElaboratedCall) → Has e.calls x → (i : ℕ) (it : Instance)
      → slice_get (graph x.tree).instances i ≡ Some it → (y : ElaboratedCall) × Has e.calls y × (y.tree ≡ kid x.tree i)
  closed_calls {done} {e} (called call q x) = (closed_of x e refl).closed
