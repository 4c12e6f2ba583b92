-- What is paired in two trees: paths, occurrences and walks.
use Rattle.std.specs.Prelude.{◌≡◌, ℕ, List, [], ◌∷◌, option_map}
use Rattle.hc_signal.specs.declared.signal.Node.{Node}
use Rattle.hc_signal.specs.Graph.{Graph, node, inst, Reached}
use Rattle.hc_signal.specs.Tree.{Tree, graph, kid}
use Rattle.hc_signal.specs.Renumber.{Renumbering, id_by, node_by}
use Rattle.hc_signal.specs.Occurrences.{tree_at, graph_at, NodeIs, IsReachedPath, connection, CombStep, CombPath}
use Rattle.hc_canon.specs.Same.{IsIsomorphism, Same}

-- some pairing of two graphs
abbrev pub SomePairs : Graph → Graph → Type 0
SomePairs g h = (to : Renumbering) × (back : Renumbering) × IsIsomorphism to back g h

-- Paths that are paired, instance by instance.
pub data Partners (s t : Tree) : List ℕ → List ℕ → Type 0 where
  top : Partners s t [] []
  below : {p q : List ℕ} {i j : ℕ} (to back : Renumbering) → Partners s t p q → IsIsomorphism to back (graph_at s p) (graph_at t q) → Reached (graph_at s p) (inst i)
      → to.inst i ≡ j → Partners s t (i ∷ p) (j ∷ q)

-- Occurrences that are paired: their paths are, and so are their graphs.
pub record Twin (s t : Tree) (p : List ℕ) (n : ℕ) (q : List ℕ) (m : ℕ) : Type 0 where
  pub paths : Partners s t p q
  pub to : Renumbering
  pub back : Renumbering
  pub pairs : IsIsomorphism to back (graph_at s p) (graph_at t q)
  pub reached : Reached (graph_at s p) (node n)
  pub goes : to.node n ≡ m

-- an occurrence's twin with a step from another one to it
abbrev pub NextTwin : Tree → Tree → List ℕ → ℕ → List ℕ → ℕ → Type 0
NextTwin s t p n q m = (r : List ℕ) × (k : ℕ) × Twin s t p n r k × CombStep t q m r k

-- an occurrence's twin with a walk from another one to it
abbrev pub LastTwin : Tree → Tree → List ℕ → ℕ → List ℕ → ℕ → Type 0
LastTwin s t p n q m = (r : List ℕ) × (k : ℕ) × Twin s t p n r k × CombPath t q m r k

-- What trees that are the same have in common, occurrence by occurrence: all that is reached has a partner, which is
-- reached too, and is computed from the partners of what it is computed from.
pub record HavePartners : Type 0 where
  pub graphs : (s t : Tree) → Same s t → SomePairs (graph s) (graph t)
  pub kids : (s t : Tree) (to back : Renumbering) (i : ℕ) → Same s t → IsIsomorphism to back (graph s) (graph t) → Reached (graph s) (inst i) → Same (kid s i) (kid t (to.inst i))
  pub trees : (s t : Tree) → Same s t → {p q : List ℕ} → Partners s t p q → Same (tree_at s p) (tree_at t q)
  pub first_path : (s t : Tree) {p q : List ℕ} → Partners s t p q → IsReachedPath s p
  pub second_path : (s t : Tree) {p q : List ℕ} → Partners s t p q → IsReachedPath t q
  pub connections : (g h : Graph) (to back : Renumbering) → IsIsomorphism to back g h → (i port : ℕ) → Reached g (inst i) → connection h (to.inst i) port ≡ option_map (id_by to) (connection g i port)
  pub row : (s t : Tree) {p q : List ℕ} {n m : ℕ} (x : Node) (w : Twin s t p n q m) → NodeIs s p n x → NodeIs t q m (node_by w.to x)
  pub twin_reached : (s t : Tree) {p q : List ℕ} {n m : ℕ} → Twin s t p n q m → IsReachedPath t q × Reached (graph_at t q) (node m)
  pub operand : (s t : Tree) {p q to : List ℕ} {n m k : ℕ} → Twin s t p n q m → CombStep s p n to k → Reached (graph_at s to) (node k)
  pub step : (s t : Tree) → Same s t → {p q to : List ℕ} {n m k : ℕ} → Twin s t p n q m → CombStep s p n to k → NextTwin s t to k q m
  pub walk : (s t : Tree) → Same s t → {p q to : List ℕ} {n m k : ℕ} → Twin s t p n q m → CombPath s p n to k → LastTwin s t to k q m
