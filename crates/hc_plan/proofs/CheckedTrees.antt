-- Each circuit of the tree of what elaborates is checked.
use Rattle.std.proofs.Common.{◌≡◌, ℕ, zero, suc, List, [], ◌∷◌, ap, subst, refl}
use Rattle.std.specs.Prelude.{slice_get, Result, Ok, ℤ}
use Rattle.hc_fault.specs.declared.fault.Fault.{Fault}
use Rattle.hc_fault.specs.declared.fault.Path.{Path}
use Rattle.hc_lang.specs.declared.tree.CircuitText.{CircuitText}
use Rattle.hc_lang.specs.declared.tree.Design.{Design}
use Rattle.hc_signal.specs.Checked.{IsChecked}
use Rattle.hc_signal.specs.Member.{Has}
use Rattle.hc_signal.specs.Occurrences.{graph_at, tree_at}
use Rattle.hc_signal.specs.Tree.{IsWhole, Tree, graph, kid, none, tree}
use Rattle.hc_statements.specs.declared.kinds.Call.{Call}
use Rattle.hc_statements.specs.declared.kinds.Child.{Child}
use Rattle.hc_body.specs.BodyOf.{BodyOf, body_of, broken, many_ports, no_outputs, undriven}
use Rattle.hc_body.specs.BodyOf as body
use Rattle.hc_body.specs.declared.kinds.Body.{Body}
use Rattle.hc_plan.specs.Elaborates.{DesignFinishes, ElaborateChildren, Elaborated, ElaboratedCall, Elaborates, FinishedCall, Sums, body_fault, called, child_fault, comb_loop, elaborated_call, fault_in_child, later_fault, many_words, no_more, one_more, past_limit, too_deep, tree_of_kid, whole}
use Rattle.hc_plan.proofs.EachCall.{each_call}

-- ---- trees

abbrev IsCheckedTree : Tree → Type 0
IsCheckedTree none = Unit {0}
IsCheckedTree (tree g kids) = IsChecked g × ((i : ℕ) → IsCheckedTree (kids i))

checked_kid : (t : Tree) (i : ℕ) → IsCheckedTree t → IsCheckedTree (kid t i)
checked_kid none i c = tt
checked_kid (tree g kids) i c = c.1 i

checked_at : (t : Tree) (path : List ℕ) → IsCheckedTree t → IsCheckedTree (tree_at t path)
checked_at t [] c = c
checked_at t (i ∷ path) c = checked_kid (tree_at t path) i (checked_at t path c)

checked_graph : (t : Tree) → IsCheckedTree t → IsWhole t → IsChecked (graph t)
checked_graph none c w = absurd w
checked_graph (tree g kids) c w = c.0

-- ---- bodies

checked_body : (d : Design) (c : CircuitText) (args : List ℤ) (path : Path) (r : Result Body Fault) → BodyOf d c args path r → (b : Body) → r ≡ Ok b → IsChecked b.circuit
checked_body d c args path r (broken fault is) b e = absurd cc
checked_body d c args path r (no_outputs f is breaks) b e = absurd cc
checked_body d c args path r (many_ports f is breaks) b e = absurd cc
checked_body d c args path r (undriven f n is breaks) b e = absurd cc
checked_body d c args path r (body.whole f is checked) b e = let same : body_of c args f ≡ b = cc in subst (λ (x : Body). IsChecked x.circuit) same checked

second : (s all : Sums) (ks kids : List Elaborated) → ◌≡◌ {A = Result (Sums × List Elaborated) Fault} (Ok (s, ks)) (Ok (all, kids)) → ks ≡ kids
second s all ks kids q = let same : ◌≡◌ {A = Sums × List Elaborated} (s, ks) (all, kids) = cc in ap (λ (x : Sums × List Elaborated). x.1) same

abbrev AreCheckedTrees : List Elaborated → Type 0
AreCheckedTrees kids = (i : ℕ) → IsCheckedTree (tree_of_kid (slice_get kids i))

no_trees : AreCheckedTrees []
no_trees i = tt

more_trees : (kid : Elaborated) (kids : List Elaborated) → IsCheckedTree kid.tree → AreCheckedTrees kids → AreCheckedTrees (kid ∷ kids)
more_trees kid kids own rest zero = own
more_trees kid kids own rest (suc i) = rest i

module _ (L : Tree → Type 0) (d : Design) where
  mutual
    tree_of : {level : ℕ} {path : Path} {call : Call} {done : List FinishedCall} {r : Result Elaborated Fault} → Elaborates L d level path call done r → (e : Elaborated)
        → r ≡ Ok e → IsCheckedTree e.tree
    tree_of (body_fault c f of body) e q = absurd cc
    tree_of (many_words c b of body words) e q = absurd cc
    tree_of (child_fault c b f of body words children) e q = absurd cc
    tree_of (comb_loop c b sums kids of body words children loop) e q = absurd cc
    tree_of {level} {path} {call} (whole {done = inner} c b sums kids of body words children free) e q =
        let same : elaborated_call call c b sums kids ≡ e = cc in
        subst (λ (x : Elaborated). IsCheckedTree x.tree) same (checked_body d c call.args path (Ok b) body b refl, trees_of children sums kids refl)

    trees_of : {level : ℕ} {path : Path} {sums : Sums} {children : List Child} {done : List FinishedCall} {r : Result (Sums × List Elaborated) Fault}
        → ElaborateChildren L d level path sums children done r → (all : Sums) (kids : List Elaborated) → r ≡ Ok (all, kids) → AreCheckedTrees kids
    trees_of {level} {path} {sums} no_more all kids q = subst AreCheckedTrees (second sums all [] kids q) no_trees
    trees_of (too_deep l) all kids q = absurd cc
    trees_of (fault_in_child f l x) all kids q = absurd cc
    trees_of (past_limit kid kind l x past) all kids q = absurd cc
    trees_of (later_fault kid f l x under rest) all kids q = absurd cc
    trees_of (one_more {child = child} {more = more} kid total others l x under rest) all kids q =
        subst AreCheckedTrees (second total all (kid ∷ others) kids q) (more_trees kid others (tree_of x kid refl) (trees_of rest total others refl))

  pub checked_circuits : {done : List FinishedCall} {e : Elaborated} → DesignFinishes L d done (Ok e) → (path : List ℕ) → IsWhole (tree_at e.tree path) → IsChecked (graph_at e.tree path)
  checked_circuits {done} {e} (called call q x) path w = checked_graph (tree_at e.tree path) (checked_at e.tree path (tree_of x e refl)) w

  -- so is that of each call
  pub checked_calls : {done : List FinishedCall} {e : Elaborated} → DesignFinishes L d done (Ok e) → (x : ElaboratedCall) → Has e.calls x → IsWhole x.tree → IsChecked (graph x.tree)
  checked_calls finishes x m = checked_graph x.tree (each_call L d IsCheckedTree (λ level path call done e y. tree_of y e refl) finishes x m)
