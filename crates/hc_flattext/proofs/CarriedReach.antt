-- What the flat circuit of a tree reaches, in a tree that is the same.
use Rattle.std.proofs.Common.{◌≡◌, ℕ, List, [], ◌∷◌, refl, sym, subst, ◌∙◌, ap}
use Rattle.std.proofs.lemmas.Option.{slice_get-map}
use Rattle.std.specs.Prelude.{slice_get, Some, option_map}
use Rattle.hc_signal.specs.Member.{Has, first}
use Rattle.hc_walk.proofs.Members.{has_map}
use Rattle.hc_signal.specs.declared.signal.Node.{Node}
use Rattle.hc_signal.specs.declared.signal.Node.TheVariants.{Input, Wire, Const, Two, Not, Mux, Cat, Select, Reg, Read, InstOut, Op}
use Rattle.hc_signal.specs.Graph.{Graph, Vertex, node, mem, inst, Reached}
use Rattle.hc_signal.specs.Tree.{Tree, graph}
use Rattle.hc_signal.specs.Renumber.{Renumbering, renumber, id_by, node_by, row_by}
use Rattle.hc_signal.specs.Occurrences.{graph_at, NodeIs, IsFlatNode, below_top, is_port_alias, connection}
use Rattle.hc_signal.specs.FlatGraph as flat
use Rattle.hc_signal.specs.FlatGraph.{FlatReached}
use Rattle.hc_canon.specs.Same.{IsIsomorphism, Same}
use Rattle.hc_canon.proofs.Isomorphisms.{fanin_paired, outputs_paired, reached_to}
use Rattle.hc_paths.proofs.Composed.{reached_fanin}
use Rattle.hc_traces.proofs.FlatValues.{flat_at}
use Rattle.hc_trees.specs.Twins.{Partners, top, below}
use Rattle.hc_trees.proofs.Twins.{connection_by, partner_reached}
use Rattle.hc_flattext.proofs.CarriedPaths.{PairedBelow, paired_below}

-- Nodes, outputs and connections along an isomorphism.
pub node_along : (t s : Tree) (p q : List ℕ) (to back : Renumbering) → IsIsomorphism to back (graph_at t p) (graph_at s q) → (n : ℕ) (x : Node)
    → Reached (graph_at t p) (node n) → NodeIs t p n x → NodeIs s q (to.node n) (node_by to x)
node_along t s p q to back e n x r y = (row_by to y.0, e.nodes n r ∙ ap (option_map (row_by to)) y.1, ap (node_by to) y.2)

pub output_along : (g h : Graph) (to back : Renumbering) → IsIsomorphism to back g h → (port m : ℕ) → slice_get g.outputs port ≡ Some (record { 0 = m })
    → slice_get h.outputs port ≡ Some (record { 0 = to.node m })
output_along g h to back e port m o = ap (λ l. slice_get l port) e.outputs ∙ slice_get-map (id_by to) g.outputs port ∙ ap (option_map (id_by to)) o

pub connection_along : (g h : Graph) (to back : Renumbering) → IsIsomorphism to back g h → (i port m : ℕ) → Reached g (inst i)
    → connection g i port ≡ Some (record { 0 = m }) → connection h (to.inst i) port ≡ Some (record { 0 = to.node m })
connection_along g h to back e i port m r o = connection_by g h to back e i port r ∙ ap (option_map (id_by to)) o

-- the instance of a reached output
pub instance_reached : (t : Tree) (p : List ℕ) (n i port : ℕ) → Reached (graph_at t p) (node n) → NodeIs t p n (InstOut (record { 0 = i }) port) → Reached (graph_at t p) (inst i)
instance_reached t p n i port r y = reached_fanin (graph_at t p) n (InstOut (record { 0 = i }) port) (inst i) y.0 y.1 y.2 r first

module _ (t s : Tree) (e : Same t s) where
  -- the vertex at each partner of the path is reached
  abbrev ReachedAlong : List ℕ → Vertex → Type 0
  ReachedAlong p v = (q : List ℕ) (to back : Renumbering) → Partners t s p q → IsIsomorphism to back (graph_at t p) (graph_at s q) → FlatReached s q (renumber to v)

  down_along : (p : List ℕ) (n i m port : ℕ) → FlatReached t p (node n) → ReachedAlong p (node n) → NodeIs t p n (InstOut (record { 0 = i }) port)
      → slice_get (graph_at t (i ∷ p)).outputs port ≡ Some (record { 0 = m }) → ReachedAlong (i ∷ p) (node m)
  down_along p n i m port r along y o _ to back (below {q = q} {j = j} out home u x c k) z =
      flat.down port
      (along q out home u x)
      (subst (λ k. NodeIs s q (out.node n) (InstOut (record { 0 = k }) port)) k (node_along t s p q out home x n (InstOut (record { 0 = i }) port) (flat_at t r).1 y))
      (output_along (graph_at t (i ∷ p)) (graph_at s (j ∷ q)) to back z port m o)

  up_along : (p : List ℕ) (n i m port : ℕ) → FlatReached t (i ∷ p) (node n) → ReachedAlong (i ∷ p) (node n) → NodeIs t (i ∷ p) n (Input port)
      → connection (graph_at t p) i port ≡ Some (record { 0 = m }) → ReachedAlong p (node m)
  up_along p n i m port r along y o q to back u x =
      let c : Reached (graph_at t p) (inst i) = (flat_at t r).0.1 in
      let z : PairedBelow t s e (i ∷ p) (to.inst i ∷ q) = paired_below t s e to back i u x c in
      flat.up port
      (along (to.inst i ∷ q) z.0 z.1 z.2 z.3)
      (node_along t s (i ∷ p) (to.inst i ∷ q) z.0 z.1 z.3 n (Input port) (flat_at t r).1 y)
      (connection_along (graph_at t p) (graph_at s q) to back x i port m c o)

  top_along : (v : Vertex) → FlatReached t [] v → ((to back : Renumbering) → IsIsomorphism to back (graph t) (graph s) → FlatReached s [] (renumber to v)) → ReachedAlong [] v
  top_along v r along _ to back top x = along to back x

  pub flat_along : {p : List ℕ} {v : Vertex} → FlatReached t p v → ReachedAlong p v
  flat_along (flat.output {p = v} h) =
      top_along v (flat.output h) (λ to back x. flat.output (subst (λ l. Has l (renumber to v)) (sym (outputs_paired to back (graph t) (graph s) x)) (has_map (renumber to) h)))
  flat_along (flat.to_node {path = p} {p = v} {n = n} r h) =
      λ q to back u x. flat.to_node (flat_along r q to back u x) (subst (λ l. Has l (node (to.node n)))
      (sym (fanin_paired to back (graph_at t p) (graph_at s q) x v (flat_at t r).1)) (has_map (renumber to) h))
  flat_along (flat.to_mem {path = p} {p = v} {m = m} r h) =
      λ q to back u x. flat.to_mem (flat_along r q to back u x) (subst (λ l. Has l (mem (to.mem m))) (sym (fanin_paired to back (graph_at t p) (graph_at s q) x v (flat_at t r).1))
      (has_map (renumber to) h))
  flat_along (flat.down {path = p} {n = n} {i = i} {m = m} port r y o) = down_along p n i m port r (flat_along r) y o
  flat_along (flat.up {path = p} {n = n} {i = i} {m = m} port r y o) = up_along p n i m port r (flat_along r) y o

-- Flat nodes.
top_together : (t s : Tree) {p q : List ℕ} → Partners t s p q → below_top p ≡ below_top q
top_together t s top = refl
top_together t s (below to back u x r k) = refl

alias_by : (r : Renumbering) (p q : List ℕ) → below_top p ≡ below_top q → (x : Node) → is_port_alias p x ≡ is_port_alias q (node_by r x)
alias_by r p q e (Input port) = e
alias_by r p q e (Wire driver) = refl
alias_by r p q e (Const value) = refl
alias_by r p q e (Two op a b) = refl
alias_by r p q e (Not a) = refl
alias_by r p q e (Mux sel cases) = refl
alias_by r p q e (Cat parts) = refl
alias_by r p q e (Select a hi lo) = refl
alias_by r p q e (Reg next enable clear init) = refl
alias_by r p q e (Read m addr) = refl
alias_by r p q e (InstOut i port) = refl
alias_by r p q e (Op kind args) = refl

pub flat_node_along : (t s : Tree) (p q : List ℕ) (to back : Renumbering) → Partners t s p q → IsIsomorphism to back (graph_at t p) (graph_at s q) → (n : ℕ)
    → IsFlatNode t (record { path = p; node = n }) → IsFlatNode s (record { path = q; node = to.node n })
flat_node_along t s p q to back u x n (r, (row, e, f)) = (
  (partner_reached t s u, reached_to to back (graph_at t p) (graph_at s q) x r.1),
  (row_by to row, x.nodes n r.1 ∙ ap (option_map (row_by to)) e, sym (alias_by to p q (top_together t s u) row.node) ∙ f),
)
