-- The tree of what elaborates is whole, and has the ports of its call.
use Rattle.std.proofs.Common.{◌≡◌, ℕ, zero, suc, ◌<◌, List, [], ◌∷◌, length, refl, sym, ap, subst, ◌∙◌, arith}
use Rattle.std.specs.Prelude.{slice_get, Some, Result, Ok, ℤ}
use Rattle.std.proofs.lemmas.Option.{slice_get_within}
use Rattle.hc_fault.specs.declared.fault.Fault.{Fault}
use Rattle.hc_fault.specs.declared.fault.Path.{Path}
use Rattle.hc_lang.specs.declared.tree.CircuitText.{CircuitText}
use Rattle.hc_lang.specs.declared.tree.Design.{Design}
use Rattle.hc_signal.specs.declared.signal.Instance.{Instance}
use Rattle.hc_signal.specs.Lawful.{IsLawful}
use Rattle.hc_signal.specs.Member.{Has}
use Rattle.hc_signal.specs.Tree.{IsWhole, Tree, graph}
use Rattle.hc_statements.specs.PortWidths.{port_widths, ports_of}
use Rattle.hc_statements.specs.declared.kinds.Call.{Call}
use Rattle.hc_statements.specs.declared.kinds.Child.{Child}
use Rattle.hc_body.specs.BodyOf.{BodyOf, IsCall, IsCallOf}
use Rattle.hc_body.specs.Children.{AreChildrenOf}
use Rattle.hc_body.specs.declared.kinds.Body.{Body}
use Rattle.hc_plan.specs.Elaborates.{DesignFinishes, ElaborateChildren, Elaborated, ElaboratedCall, Elaborates, FinishedCall, Sums, body_fault, body_tree, called, child_fault, comb_loop, elaborated_call, fault_in_child, later_fault, many_words, no_more, one_more, past_limit, too_deep, tree_of_kid, whole}
use Rattle.hc_plan.proofs.EachCall.{each_call}
use Rattle.hc_plan.proofs.Right.{HaveChildren, HavePorts}

abbrev pub AreLawful : Design → Type 0
AreLawful d = (c : CircuitText) (args : List ℤ) (path : Path) (b : Body) → BodyOf d c args path (Ok b) → IsLawful b.circuit

-- the tree is whole, and has the ports that the heads of the call have
record IsTreeOf (d : Design) (call : Call) (t : Tree) : Type 0 where
  whole : IsWhole t
  ports : (c : CircuitText) → IsCallOf d call c → (widths : List ℕ) → port_widths c call.args ≡ Ok widths → (graph t).ports ≡ ports_of c.heads widths

-- a tree for each child
abbrev AreTreesOf : Design → List Child → List Elaborated → Type 0
AreTreesOf d [] [] = Unit {0}
AreTreesOf d (c ∷ cs) (k ∷ ks) = IsTreeOf d c.call k.tree × AreTreesOf d cs ks
AreTreesOf d [] (k ∷ ks) = ⊥
AreTreesOf d (c ∷ cs) [] = ⊥

record TreeAt (d : Design) (cs : List Child) (ks : List Elaborated) (i : ℕ) : Type 0 where
  child : Child
  kid : Elaborated
  stands : slice_get cs i ≡ Some child
  is : slice_get ks i ≡ Some kid
  tree : IsTreeOf d child.call kid.tree

tree_at : (d : Design) (cs : List Child) (ks : List Elaborated) → AreTreesOf d cs ks → (i : ℕ) → i < length cs → TreeAt d cs ks i
tree_at d [] [] are i b = absurd (omega (arith, b))
tree_at d (c ∷ cs) (k ∷ ks) are zero b = record { child = c; kid = k; stands = refl; is = refl; tree = are.0 }
tree_at d (c ∷ cs) (k ∷ ks) are (suc i) b =
    let more : TreeAt d cs ks i = tree_at d cs ks are.1 i (omega (arith, b)) in
    record { child = more.child; kid = more.kid; stands = more.stands; is = more.is; tree = more.tree }
tree_at d [] (k ∷ ks) are i b = absurd are
tree_at d (c ∷ cs) [] are i b = absurd are

second : (s all : Sums) (ks kids : List Elaborated) → ◌≡◌ {A = Result (Sums × List Elaborated) Fault} (Ok (s, ks)) (Ok (all, kids)) → ks ≡ kids
second s all ks kids q = let same : ◌≡◌ {A = Sums × List Elaborated} (s, ks) (all, kids) = cc in ap (λ (x : Sums × List Elaborated). x.1) same

module _ (d : Design) (lawful : AreLawful d) (have_ports : HavePorts d) (have_children : HaveChildren d) where
  abbrev Fits : Instance → Tree → Type 0
  Fits it t = ((graph t).ports ≡ it.ports) × IsWhole t

  -- a body over the trees of its children
  over : (path : Path) (call : Call) (c : CircuitText) (b : Body) (kids : List Elaborated) → IsCallOf d call c → BodyOf d c call.args path (Ok b)
      → AreTreesOf d b.children kids → IsTreeOf d call (body_tree b kids)
  over path call c b kids of body are = record { whole = (lawful c call.args path b body, each); ports = own }
    where
      each : (i : ℕ) (it : Instance) → slice_get b.circuit.instances i ≡ Some it → Fits it (tree_of_kid (slice_get kids i))
      each i it there =
          let children : AreChildrenOf d b = have_children c call.args path b body in
          let many : length b.children ≡ length b.circuit.instances = children.many in
          let within : i < length b.circuit.instances = slice_get_within b.circuit.instances i it there in
          let at : TreeAt d b.children kids i = tree_at d b.children kids are i (omega (arith, many, within)) in
          let k : IsCall d at.child.call = children.calls i at.child at.stands in
          let p : (widths : List ℕ) × (port_widths k.0 at.child.call.args ≡ Ok widths) × (it.ports ≡ ports_of k.0.heads widths) = children.ports i at.child it k.0 at.stands there k.1 in
          subst (λ o. Fits it (tree_of_kid o)) (sym at.is) (at.tree.ports k.0 k.1 p.0 p.1 ∙ sym p.2, at.tree.whole)

      own : (other : CircuitText) → IsCallOf d call other → (widths : List ℕ) → port_widths other call.args ≡ Ok widths → b.circuit.ports ≡ ports_of other.heads widths
      own other is widths have =
          let one : slice_get d.circuits call.circuit ≡ Some c = of.there in
          let two : slice_get d.circuits call.circuit ≡ Some other = is.there in
          let same : c ≡ other = cc in
          let p : (ws : List ℕ) × (port_widths c call.args ≡ Ok ws) × (b.circuit.ports ≡ ports_of c.heads ws) = have_ports c call.args path b body in
          let there : port_widths c call.args ≡ Ok p.0 = p.1 in
          let again : port_widths c call.args ≡ Ok widths = subst (λ (x : CircuitText). port_widths x call.args ≡ Ok widths) (sym same) have in
          let equal : p.0 ≡ widths = cc in
          p.2 ∙ ap (ports_of c.heads) equal ∙ ap (λ (x : CircuitText). ports_of x.heads widths) same

  module _ (L : Tree → Type 0) where
    mutual
      tree_of : {level : ℕ} {path : Path} {call : Call} {done : List FinishedCall} {r : Result Elaborated Fault} → Elaborates L d level path call done r
          → (e : Elaborated) → r ≡ Ok e → IsTreeOf d call e.tree
      tree_of (body_fault c f of body) e q = absurd cc
      tree_of (many_words c b of body words) e q = absurd cc
      tree_of (child_fault c b f of body words children) e q = absurd cc
      tree_of (comb_loop c b sums kids of body words children loop) e q = absurd cc
      tree_of {level} {path} {call} (whole {done = inner} c b sums kids of body words children free) e q =
          let same : elaborated_call call c b sums kids ≡ e = cc in
          subst (λ (x : Elaborated). IsTreeOf d call x.tree) same (over path call c b kids of body (trees_of children sums kids refl))

      trees_of : {level : ℕ} {path : Path} {sums : Sums} {children : List Child} {done : List FinishedCall} {r : Result (Sums × List Elaborated) Fault}
          → ElaborateChildren L d level path sums children done r → (all : Sums) (kids : List Elaborated) → r ≡ Ok (all, kids) → AreTreesOf d children kids
      trees_of {level} {path} {sums} no_more all kids q = subst (AreTreesOf d []) (second sums all [] kids q) tt
      trees_of (too_deep l) all kids q = absurd cc
      trees_of (fault_in_child f l x) all kids q = absurd cc
      trees_of (past_limit kid kind l x past) all kids q = absurd cc
      trees_of (later_fault kid f l x under rest) all kids q = absurd cc
      trees_of (one_more {child = child} {more = more} kid total others l x under rest) all kids q =
          subst (AreTreesOf d (child ∷ more)) (second total all (kid ∷ others) kids q) (tree_of x kid refl, trees_of rest total others refl)

    pub whole_tree : {done : List FinishedCall} {e : Elaborated} → DesignFinishes L d done (Ok e) → IsWhole e.tree
    whole_tree {done} {e} (called call q x) = (tree_of x e refl).whole

    -- so is the tree of each call
    pub whole_calls : {done : List FinishedCall} {e : Elaborated} → DesignFinishes L d done (Ok e) → (x : ElaboratedCall) → Has e.calls x → IsWhole x.tree
    whole_calls = each_call L d IsWhole (λ level path call done e x. (tree_of x e refl).whole)
