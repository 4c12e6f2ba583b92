-- Trees that are the same have the same walks, loops and masks.
use Rattle.std.proofs.Common.{◌≡◌, ℕ, ◌↔◌, List, [], ◌∷◌, map, length, refl, sym, subst, subst₂, ◌∙◌, ap, ap₂}
use Rattle.std.proofs.lemmas.Option.{slice_get-map}
use Rattle.std.specs.Prelude.{slice_get, Option, Some, None, option_map, option_to_list}
use Rattle.hc_signal.specs.Member.{Has, first, later}
use Rattle.hc_walk.proofs.Members.{has_map, has_slice}
use Rattle.hc_signal.specs.declared.signal.NodeId.{NodeId}
use Rattle.hc_signal.specs.declared.signal.Ports.{Ports}
use Rattle.hc_signal.specs.declared.signal.Instance.{Instance}
use Rattle.hc_signal.specs.declared.signal.Node.{Node}
use Rattle.hc_signal.specs.declared.signal.Node.TheVariants.{Input, Wire, Const, Two, Not, Mux, Cat, Select, Reg, Read, InstOut, Op}
use Rattle.hc_signal.specs.Graph.{Graph, Vertex, node, inst, Reached, output, further, fanin}
use Rattle.hc_signal.specs.Tree.{Tree, none, tree, graph, kid, empty}
use Rattle.hc_signal.specs.Renumber.{Renumbering, renumber, id_by, node_by, row_by, instance_by}
use Rattle.hc_canon.specs.Same.{IsIsomorphism, Same}
use Rattle.hc_signal.specs.Occurrences.{tree_at, graph_at, NodeIs, IsReachedPath, comb_fanin, connection, connection_of, CombStep, inside, down, up, CombPath, here, on, HasCombLoop, DependsOn, AreMasks}
use Rattle.hc_canon.proofs.Renumbered.{number}
use Rattle.hc_canon.proofs.Isomorphisms.{same-refl, same-sym, fanin_paired, outputs_paired, reached_to}
use Rattle.hc_paths.proofs.Composed.{step_reached, reached_fanin}
use Rattle.hc_trees.specs.Twins.{SomePairs, Partners, top, below, Twin, NextTwin, LastTwin, HavePartners}

-- A pairing is determined on all that is reached.
head_place : Vertex → List Vertex → Vertex
head_place d [] = d
head_place d (p ∷ ps) = p

rest_places : List Vertex → List Vertex
rest_places [] = []
rest_places (p ∷ ps) = ps

maps_agree : (f g : Vertex → Vertex) {ps : List Vertex} {p : Vertex} → map f ps ≡ map g ps → Has ps p → f p ≡ g p
unfolding head_place rest_places
maps_agree f g {p = p} e first = ap (head_place p) e
maps_agree f g e (later h) = maps_agree f g (ap rest_places e) h

pub pairing_once : (to back out home : Renumbering) (g h : Graph) → IsIsomorphism to back g h → IsIsomorphism out home g h → {p : Vertex} → Reached g p → renumber to p ≡ renumber out p
pairing_once to back out home g h e f (output p c) = maps_agree (renumber to) (renumber out) (sym (outputs_paired to back g h e) ∙ outputs_paired out home g h f) c
pairing_once to back out home g h e f (further p q r c) =
    maps_agree (renumber to) (renumber out)
    (sym (fanin_paired to back g h e p r) ∙ ap (fanin h) (pairing_once to back out home g h e f r) ∙ fanin_paired out home g h f p r) c

pub same_kid : (a b : Tree) (to back : Renumbering) (i : ℕ) → Same a b → IsIsomorphism to back (graph a) (graph b) → Reached (graph a) (inst i) → Same (kid a i) (kid b (to.inst i))
same_kid none none to back i s e r = tt
same_kid none (tree h b) to back i s e r = absurd s
same_kid (tree g a) none to back i s e r = absurd s
same_kid (tree g a) (tree h b) to back i s e r =
    subst (λ k. Same (a i) (b k)) (ap number (pairing_once s.0 s.1 to back g h s.2 e r)) (s.3 i r)

pub same_at : (s t : Tree) → Same s t → {p q : List ℕ} → Partners s t p q → Same (tree_at s p) (tree_at t q)
same_at s t e top = e
same_at s t e (below {p = p} {q = q} {i = i} to back u x r k) = subst (λ j. Same (kid (tree_at s p) i) (kid (tree_at t q) j)) k (same_kid (tree_at s p) (tree_at t q) to back i (same_at s t e u) x r)

pub pairs_of : (a b : Tree) → Same a b → SomePairs (graph a) (graph b)
pairs_of none none s = let x : Same (tree empty (λ _. none)) (tree empty (λ _. none)) = same-refl (tree empty (λ _. none)) in (x.0, x.1, x.2)
pairs_of none (tree h b) s = absurd s
pairs_of (tree g a) none s = absurd s
pairs_of (tree g a) (tree h b) s = (s.0, s.1, s.2)

partners_once : (s t : Tree) {p q r : List ℕ} → Partners s t p q → Partners s t p r → q ≡ r
partners_once s t top top = refl
partners_once s t (below {p = p} {q = q} {i = i} to back u x a k) (below {q = r} out home v y b l) =
    let e : q ≡ r = partners_once s t u v in
    let z : IsIsomorphism out home (graph_at s p) (graph_at t q) = subst (λ z. IsIsomorphism out home (graph_at s p) (graph_at t z)) (sym e) y in
    ap₂ (λ m ms. m ∷ ms) (sym k ∙ ap number (pairing_once to back out home (graph_at s p) (graph_at t q) x z a) ∙ l) e

twin_once : (s t : Tree) {p q r : List ℕ} {n m k : ℕ} → Twin s t p n q m → Twin s t p n r k → (q ≡ r) × (m ≡ k)
twin_once s t {p} {q} {r} {n} a b =
    let e : q ≡ r = partners_once s t a.paths b.paths in
    let z : IsIsomorphism b.to b.back (graph_at s p) (graph_at t q) = subst (λ z. IsIsomorphism b.to b.back (graph_at s p) (graph_at t z)) (sym e) b.pairs in
    (e, sym a.goes ∙ ap number (pairing_once a.to a.back b.to b.back (graph_at s p) (graph_at t q) a.pairs z a.reached) ∙ b.goes)

options_by : (r : Renumbering) (o : Option NodeId) → option_to_list (option_map (id_by r) o) ≡ map (id_by r) (option_to_list o)
options_by r None = refl
options_by r (Some id) = refl

same_cycle_by : (r : Renumbering) (x : Node) → comb_fanin (node_by r x) ≡ map (id_by r) (comb_fanin x)
same_cycle_by r (Input port) = refl
same_cycle_by r (Wire driver) = options_by r driver
same_cycle_by r (Const value) = refl
same_cycle_by r (Two op a b) = refl
same_cycle_by r (Not a) = refl
same_cycle_by r (Mux sel cases) = refl
same_cycle_by r (Cat fanin) = refl
same_cycle_by r (Select a hi lo) = refl
same_cycle_by r (Reg next enable clear init) = refl
same_cycle_by r (Read m addr) = refl
same_cycle_by r (InstOut i port) = refl
same_cycle_by r (Op kind args) = refl

-- the node at a twin
pub twin_node : (s t : Tree) {p q : List ℕ} {n m : ℕ} (x : Node) (w : Twin s t p n q m) → NodeIs s p n x → NodeIs t q m (node_by w.to x)
twin_node s t {p} {q} {n} x w y =
    (row_by w.to y.0, ap (slice_get (graph_at t q).nodes) (sym w.goes) ∙ w.pairs.nodes n w.reached ∙ ap (option_map (row_by w.to)) y.1, ap (node_by w.to) y.2)

pub connection_by : (g h : Graph) (to back : Renumbering) → IsIsomorphism to back g h → (i port : ℕ) → Reached g (inst i) → connection h (to.inst i) port ≡ option_map (id_by to) (connection g i port)
connection_by g h to back e i port r = ap (λ o. connection_of o port) (e.instances i r) ∙ go (slice_get g.instances i)
  where
    go : (o : Option Instance) → connection_of (option_map (instance_by to) o) port ≡ option_map (id_by to) (connection_of o port)
    go None = refl
    go (Some it) = slice_get-map (id_by to) it.conns port

pub partners_reached : (s t : Tree) {p q : List ℕ} → Partners s t p q → IsReachedPath s p
partners_reached s t top = tt
partners_reached s t (below to back u x r k) = (partners_reached s t u, r)

pub twin_reached : (s t : Tree) {p q to : List ℕ} {n m k : ℕ} → Twin s t p n q m → CombStep s p n to k → Reached (graph_at s to) (node k)
twin_reached s t w x = (step_reached s x (partners_reached s t w.paths, w.reached)).1

twin_down : (s t : Tree) → Same s t → (p q : List ℕ) (n m i port k : ℕ) (w : Twin s t p n q m) → NodeIs s p n (InstOut (record { 0 = i }) port)
    → slice_get (graph_at s (i ∷ p)).outputs port ≡ Some (record { 0 = k }) → NextTwin s t (i ∷ p) k q m
twin_down s t e p q n m i port k w y o =
    let r : Reached (graph_at s p) (inst i) = reached_fanin (graph_at s p) n (InstOut (record { 0 = i }) port) (inst i) y.0 y.1 y.2 w.reached first in
    let z : SomePairs (graph_at s (i ∷ p)) (graph_at t (w.to.inst i ∷ q)) =
    pairs_of (tree_at s (i ∷ p)) (tree_at t (w.to.inst i ∷ q)) (same_kid (tree_at s p) (tree_at t q) w.to w.back i (same_at s t e w.paths) w.pairs r) in (
      w.to.inst i ∷ q,
      z.0.node k,
      record { paths = below w.to w.back w.paths w.pairs r refl; to = z.0; back = z.1; pairs = z.2; reached = twin_reached s t w (down port y o); goes = refl },
      down port (twin_node s t (InstOut (record { 0 = i }) port) w y)
          (ap (λ l. slice_get l port) z.2.outputs ∙ slice_get-map (id_by z.0) (graph_at s (i ∷ p)).outputs port ∙ ap (option_map (id_by z.0)) o),
    )

twin_up : (s t : Tree) (p : List ℕ) (i : ℕ) (q : List ℕ) (n m port k : ℕ) → Partners s t (i ∷ p) q → NodeIs t q m (Input port)
    → connection (graph_at s p) i port ≡ Some (record { 0 = k }) → Reached (graph_at s p) (node k) → NextTwin s t p k q m
twin_up s t p i _ n m port k (below {q = q} {j = j} to back u x r l) y o c = (
  q,
  to.node k,
  record { paths = u; to = to; back = back; pairs = x; reached = c; goes = refl },
  up port y (ap (λ a. connection (graph_at t q) a port) (sym l) ∙ connection_by (graph_at s p) (graph_at t q) to back x i port r ∙ ap (option_map (id_by to)) o),
)

pub twin_needs : (s t : Tree) → Same s t → {p q to : List ℕ} {n m k : ℕ} → Twin s t p n q m → CombStep s p n to k → NextTwin s t to k q m
twin_needs s t e {p} {q} {n = n} {k = k} w (inside x y h) = (
  q,
  w.to.node k,
  record { paths = w.paths; to = w.to; back = w.back; pairs = w.pairs; reached = twin_reached s t w (inside x y h); goes = refl },
  inside (node_by w.to x) (twin_node s t x w y) (subst (λ l. Has l (record { 0 = w.to.node k })) (sym (same_cycle_by w.to x)) (has_map (id_by w.to) h)),
)
twin_needs s t e {p} {q} {n = n} {m = m} {k = k} w (down {i = i} port y o) = twin_down s t e p q n m i port k w y o
twin_needs s t e {q = q} {n = n} {m = m} {k = k} w (up {path = p} {i = i} port y o) =
    twin_up s t p i q n m port k w.paths (twin_node s t (Input port) w y) o (twin_reached s t w (up port y o))

pub twin_leads : (s t : Tree) → Same s t → {p q to : List ℕ} {n m k : ℕ} → Twin s t p n q m → CombPath s p n to k → LastTwin s t to k q m
twin_leads s t e {q = q} {m = m} w here = (q, m, w, here)
twin_leads s t e w (on x v) =
    let a : _ = twin_needs s t e w x in let b : _ = twin_leads s t e a.2 v in (b.0, b.1, b.2, on a.3 b.3)

-- each reached occurrence has a twin
some_partner : (s t : Tree) → Same s t → (p : List ℕ) → IsReachedPath s p → (q : List ℕ) × Partners s t p q
some_partner s t e [] r = ([], top)
some_partner s t e (i ∷ p) r =
    let u : (q : List ℕ) × Partners s t p q = some_partner s t e p r.0 in
    let z : SomePairs (graph_at s p) (graph_at t u.0) = pairs_of (tree_at s p) (tree_at t u.0) (same_at s t e u.1) in
    (z.0.inst i ∷ u.0, below z.0 z.1 u.1 z.2 r.1 refl)

some_twin : (s t : Tree) → Same s t → (p : List ℕ) (n : ℕ) → IsReachedPath s p → Reached (graph_at s p) (node n) → (q : List ℕ) × (m : ℕ) × Twin s t p n q m
some_twin s t e p n r c =
    let u : (q : List ℕ) × Partners s t p q = some_partner s t e p r in
    let z : SomePairs (graph_at s p) (graph_at t u.0) = pairs_of (tree_at s p) (tree_at t u.0) (same_at s t e u.1) in
    (u.0, z.0.node n, record { paths = u.1; to = z.0; back = z.1; pairs = z.2; reached = c; goes = refl })

pub partner_reached : (s t : Tree) {p q : List ℕ} → Partners s t p q → IsReachedPath t q
partner_reached s t top = tt
partner_reached s t (below {p = p} {q = q} to back u x r k) = (partner_reached s t u, subst (λ j. Reached (graph_at t q) (inst j)) k (reached_to to back (graph_at s p) (graph_at t q) x r))

pub twin_is_reached : (s t : Tree) {p q : List ℕ} {n m : ℕ} → Twin s t p n q m → IsReachedPath t q × Reached (graph_at t q) (node m)
twin_is_reached s t {p} {q} w = (partner_reached s t w.paths, subst (λ j. Reached (graph_at t q) (node j)) w.goes (reached_to w.to w.back (graph_at s p) (graph_at t q) w.pairs w.reached))

-- the same trees have loops together
pub loop_of_same : (s t : Tree) → Same s t → HasCombLoop s → HasCombLoop t
loop_of_same s t e x =
    let a : _ = some_twin s t e x.0.path x.0.node x.2.0 x.2.1 in
    let b : _ = twin_needs s t e a.2 x.3 in
    let c : _ = twin_leads s t e b.2 x.4 in
    let o : _ = twin_once s t c.2 a.2 in
    (record { path = a.0; node = a.1 }, record { path = b.0; node = b.1 }, twin_is_reached s t a.2, b.3, subst₂ (λ r k. CombPath t b.0 b.1 r k) o.0 o.1 c.3)

top_only : (s t : Tree) {q : List ℕ} → Partners s t [] q → q ≡ []
top_only s t top = refl

depends_of_same : (s t : Tree) → Same s t → (port input : ℕ) → DependsOn s port input → DependsOn t port input
depends_of_same s t e port input d =
    let z : SomePairs (graph s) (graph t) = pairs_of s t e in
    let o : Reached (graph s) (node d.0) = output (node d.0) (has_map (λ (x : NodeId). node x.0) (has_slice (graph s).outputs port (record { 0 = d.0 }) d.2)) in
    let w : Twin s t [] d.0 [] (z.0.node d.0) = record { paths = top; to = z.0; back = z.1; pairs = z.2; reached = o; goes = refl } in
    let l : LastTwin s t [] d.1 [] (z.0.node d.0) = twin_leads s t e w d.4 in
    let r : l.0 ≡ [] = top_only s t l.2.paths in (
      z.0.node d.0,
      l.1,
      ap (λ x. slice_get x port) z.2.outputs ∙ slice_get-map (id_by z.0) (graph s).outputs port ∙ ap (option_map (id_by z.0)) d.2,
      subst (λ q. NodeIs t q l.1 (Input input)) r (twin_node s t (Input input) l.2 d.3),
      subst (λ q. CombPath t [] (z.0.node d.0) q l.1) r l.3,
    )

pub ports_of_same : (s t : Tree) → Same s t → (graph s).ports ≡ (graph t).ports
ports_of_same s t e = sym (pairs_of s t e).2.ports

pub masks_of_same : (s t : Tree) (masks : List ℕ) → Same s t → AreMasks s masks → AreMasks t masks
masks_of_same s t masks e a = record {
  many = a.many ∙ ap (λ (p : Ports). length p.outputs) (ports_of_same s t e);
  each = λ output mask q k. (
    λ b. depends_of_same s t e output k ((a.each output mask q k).0 b),
    λ d. (a.each output mask q k).1 (depends_of_same t s (same-sym s t e) output k d),
  );
}

pub loops_alike : (s t : Tree) → Same s t → HasCombLoop s ↔ HasCombLoop t
loops_alike s t e = (loop_of_same s t e, loop_of_same t s (same-sym s t e))

pub depends_alike : (s t : Tree) → Same s t → (output input : ℕ) → DependsOn s output input ↔ DependsOn t output input
depends_alike s t e out k = (depends_of_same s t e out k, depends_of_same t s (same-sym s t e) out k)

pub have_partners : HavePartners
have_partners = record {
  graphs = pairs_of;
  kids = same_kid;
  trees = same_at;
  first_path = partners_reached;
  second_path = partner_reached;
  connections = connection_by;
  row = twin_node;
  twin_reached = twin_is_reached;
  operand = twin_reached;
  step = twin_needs;
  walk = twin_leads;
}
