-- Paths through a tree are the paths of its circuit with the masks of its instances.
use Rattle.std.proofs.Common.{◌≡◌, ℕ, zero, suc, ◌⊎◌, List, [], ◌∷◌, ◌++◌, refl, sym, subst, ◌∙◌, ap, inl, inr}
use Rattle.std.specs.Prelude.{slice_get, unwrap_or, Option, Some, None, IsBitSet}
use Rattle.hc_signal.specs.Member.{Has, first, later}
use Rattle.hc_signal.specs.declared.signal.NodeId.{NodeId}
use Rattle.hc_signal.specs.declared.signal.NodeRow.{NodeRow}
use Rattle.hc_signal.specs.declared.signal.Node.{Node}
use Rattle.hc_signal.specs.declared.signal.Node.TheVariants.{Input, Wire, Const, Two, Not, Mux, Cat, Select, Reg, Read, InstOut, Op}
use Rattle.hc_signal.specs.Graph.{Graph, Vertex, node, inst, Reached, output, further, fanin, fanin_of_row, fanin_of_node, fanin_of_instance}
use Rattle.hc_signal.specs.declared.signal.Instance.{Instance}
use Rattle.hc_walk.proofs.Members.{has_map, has_slice}
use Rattle.hc_walk.proofs.InRange.{HasRow, reached_row}
use Rattle.hc_signal.specs.Tree.{Tree, graph, kid}
use Rattle.hc_signal.specs.Lawful.{IsLawful}
use Rattle.hc_signal.specs.Occurrences.{tree_at, graph_at, NodeIs, IsReachedPath, IsReachedOccurrence, comb_fanin, connection, connection_of, CombStep, inside, down, up, CombPath, here, on, HasCombLoop, DependsOn, IsMask}
use Rattle.hc_paths.specs.Local as local
use Rattle.hc_paths.specs.Local.{mask_at, LocalStep, LocalPath, HasLocalLoop, DependsLocally}

-- Each output node of an instance has its mask, and the mask is right.
abbrev pub HaveMasks : Tree → List (List ℕ) → Type 0
HaveMasks t masks = (n i port : ℕ) (id : NodeId) → NodeIs t [] n (InstOut (record { 0 = i }) port) → slice_get (graph (kid t i)).outputs port ≡ Some id → (mask : ℕ) × (mask_at masks i port ≡ Some mask) × IsMask (kid t i) port mask

-- each mask is right
abbrev pub AreRight : Tree → List (List ℕ) → Type 0
AreRight t masks = (i port mask : ℕ) → mask_at masks i port ≡ Some mask → IsMask (kid t i) port mask

-- the path j ∷ p as the path inside the outermost instance, and that instance
abbrev pub inner : ℕ → List ℕ → List ℕ
inner j [] = []
inner j (k ∷ p) = j ∷ inner k p

abbrev pub outer : ℕ → List ℕ → ℕ
outer j [] = j
outer j (k ∷ p) = outer k p

pub tree_in : (t : Tree) (j : ℕ) (p : List ℕ) → tree_at t (j ∷ p) ≡ tree_at (kid t (outer j p)) (inner j p)
tree_in t j [] = refl
tree_in t j (k ∷ p) = ap (λ s. kid s j) (tree_in t k p)

-- a walk and a walk
pub path_then : (t : Tree) {p q r : List ℕ} {a b c : ℕ} → CombPath t p a q b → CombPath t q b r c → CombPath t p a r c
path_then t here v = v
path_then t (on s w) v = on s (path_then t w v)

pub local_path_then : (g : Graph) (masks : List (List ℕ)) {a b c : ℕ} → LocalPath g masks a b → LocalPath g masks b c → LocalPath g masks a c
local_path_then g masks local.here v = v
local_path_then g masks (local.on s w) v = local.on s (local_path_then g masks w v)

-- a node of an inner tree, seen from there and from the top
node_in : (t : Tree) (j : ℕ) (p : List ℕ) (n : ℕ) (x : Node) → NodeIs t (j ∷ p) n x → NodeIs (kid t (outer j p)) (inner j p) n x
node_in t j p n x a = subst (λ s. (row : NodeRow) × (slice_get (graph s).nodes n ≡ Some row) × (row.node ≡ x)) (tree_in t j p) a

node_out : (t : Tree) (j : ℕ) (p : List ℕ) (n : ℕ) (x : Node) → NodeIs (kid t (outer j p)) (inner j p) n x → NodeIs t (j ∷ p) n x
node_out t j p n x a = subst (λ s. (row : NodeRow) × (slice_get (graph s).nodes n ≡ Some row) × (row.node ≡ x)) (sym (tree_in t j p)) a

-- From an occurrence a path comes to the node m at the top: it leaves the outermost instance by an input, and goes on from the connection.
module _ (t : Tree) (masks : List (List ℕ)) (m : ℕ) where
  abbrev Exits : ℕ → List ℕ → ℕ → Type 0
  Exits i path n =
      (k : ℕ) × (e : ℕ) × (c : ℕ) × NodeIs (kid t i) [] e (Input k) × CombPath (kid t i) path n [] e × (connection (graph t) i k ≡ Some (record { 0 = c })) × LocalPath (graph t) masks c m

  abbrev Comes : List ℕ → ℕ → Type 0
  Comes [] n = LocalPath (graph t) masks n m
  Comes (j ∷ p) n = Exits (outer j p) (inner j p) n

  -- a step inside the outermost instance
  abbrev before : (i : ℕ) {p q : List ℕ} {n k : ℕ} → CombStep (kid t i) p n q k → Exits i q k → Exits i p n
  before i s x = (x.0, x.1, x.2, x.3, on s x.4, x.5, x.6)

  -- a step from the top, as a step by masks
  abbrev Goes : ℕ → Type 0
  Goes n = (l : ℕ) × LocalStep (graph t) masks n l × LocalPath (graph t) masks l m

  first_step : HaveMasks t masks → (n : ℕ) (q : List ℕ) (k : ℕ) → CombStep t [] n q k → Comes q k → Goes n
  first_step a n q k (inside x y h) c = (k, local.inside x y h, c)
  first_step a n (i ∷ q) k (down port y o) c =
      let f : _ = a n i port (record { 0 = k }) y o in
      let bit : IsBitSet f.0 c.0 = (f.2 c.0).1 (k, c.1, o, c.3, c.4) in
      (c.2, local.through i port c.0 f.0 y f.1 bit c.5, c.6)

  comes_step : HaveMasks t masks → (p : List ℕ) (n : ℕ) (q : List ℕ) (k : ℕ) → CombStep t p n q k → Comes q k → Comes p n
  comes_step a [] n q k s c = let g : Goes n = first_step a n q k s c in local.on g.1 g.2
  comes_step a (j ∷ p) n q k (inside x y h) c = before (outer j p) (inside x (node_in t j p n x y) h) c
  comes_step a (j ∷ p) n (i ∷ q) k (down port y o) c =
      before (outer j p) (down port (node_in t j p n (InstOut (record { 0 = i }) port) y) (subst (λ s. slice_get (graph (kid s i)).outputs port ≡ Some (record { 0 = k })) (tree_in t j p) o)) c
  comes_step a (j ∷ []) n [] k (up port y o) c = (port, n, k, y, here, o, c)
  comes_step a (i ∷ j ∷ p) n q k (up port y o) c =
      before (outer j p) (up port (node_in t i (j ∷ p) n (Input port) y) (subst (λ s. connection (graph s) i port ≡ Some (record { 0 = k })) (tree_in t j p) o)) c

  pub comes : HaveMasks t masks → (p : List ℕ) (n : ℕ) → CombPath t p n [] m → Comes p n
  comes a p n here = local.here
  comes a p n (on {mid = q} {k = k} s w) = comes_step a p n q k s (comes a q k w)

-- A walk inside an instance is a walk of the whole.
tree_below : (t : Tree) (i : ℕ) (p : List ℕ) → tree_at t (p ++ i ∷ []) ≡ tree_at (kid t i) p
tree_below t i [] = refl
tree_below t i (j ∷ p) = ap (λ s. kid s j) (tree_below t i p)

node_below : (t : Tree) (i : ℕ) (p : List ℕ) (n : ℕ) (x : Node) → NodeIs (kid t i) p n x → NodeIs t (p ++ i ∷ []) n x
node_below t i p n x a = subst (λ s. (row : NodeRow) × (slice_get (graph s).nodes n ≡ Some row) × (row.node ≡ x)) (sym (tree_below t i p)) a

step_below : (t : Tree) (i : ℕ) {p q : List ℕ} {n m : ℕ} → CombStep (kid t i) p n q m → CombStep t (p ++ i ∷ []) n (q ++ i ∷ []) m
step_below t i {p} {n = n} (inside x y h) = inside x (node_below t i p n x y) h
step_below t i {p} {n = n} {m = m} (down {i = j} port y o) =
    down port (node_below t i p n (InstOut (record { 0 = j }) port) y) (subst (λ s. slice_get (graph (kid s j)).outputs port ≡ Some (record { 0 = m })) (sym (tree_below t i p)) o)
step_below t i {n = n} {m = m} (up {path = p} {i = j} port y o) =
    up port (node_below t i (j ∷ p) n (Input port) y) (subst (λ s. connection (graph s) j port ≡ Some (record { 0 = m })) (sym (tree_below t i p)) o)

path_below : (t : Tree) (i : ℕ) {p q : List ℕ} {n m : ℕ} → CombPath (kid t i) p n q m → CombPath t (p ++ i ∷ []) n (q ++ i ∷ []) m
path_below t i here = here
path_below t i (on s w) = on (step_below t i s) (path_below t i w)

-- A walk by masks is a walk of the whole.
module _ (t : Tree) (masks : List (List ℕ)) where
  step_path : AreRight t masks → {n m : ℕ} → LocalStep (graph t) masks n m → CombPath t [] n [] m
  step_path a (local.inside x y h) = on (inside x y h) here
  step_path a {n = n} {m = m} (local.through i port k mask y e b c) =
      let d : DependsOn (kid t i) port k = (a i port mask e k).0 b in
      on (down port y d.2) (path_then t (path_below t i d.4) (on (up k (node_below t i [] d.1 (Input k) d.3) c) here))

  pub local_path_path : AreRight t masks → {n m : ℕ} → LocalPath (graph t) masks n m → CombPath t [] n [] m
  local_path_path a local.here = here
  local_path_path a (local.on s w) = path_then t (step_path a s) (local_path_path a w)

-- What an output depends on.
module _ (t : Tree) (masks : List (List ℕ)) where
  pub depends_locally : HaveMasks t masks → (port input : ℕ) → DependsOn t port input → DependsLocally (graph t) masks port input
  depends_locally a port input d = (d.0, d.1, d.2, d.3, comes t masks d.1 a [] d.0 d.4)

  pub depends_whole : AreRight t masks → (port input : ℕ) → DependsLocally (graph t) masks port input → DependsOn t port input
  depends_whole a port input d = (d.0, d.1, d.2, d.3, local_path_path t masks a d.4)

-- What a reached occurrence is computed from is reached.
pub comb_fanin_fanin : (x : Node) (id : NodeId) → Has (comb_fanin x) id → Has (fanin_of_node x) (node id.0)
comb_fanin_fanin (Input port) id h = elim h [ ]
comb_fanin_fanin (Wire None) id h = elim h [ ]
comb_fanin_fanin (Wire (Some d)) id first = first
comb_fanin_fanin (Wire (Some d)) id (later h) = elim h [ ]
comb_fanin_fanin (Const value) id h = elim h [ ]
comb_fanin_fanin (Two op a b) id first = first
comb_fanin_fanin (Two op a b) id (later first) = later first
comb_fanin_fanin (Two op a b) id (later (later h)) = elim h [ ]
comb_fanin_fanin (Not a) id first = first
comb_fanin_fanin (Not a) id (later h) = elim h [ ]
comb_fanin_fanin (Mux sel cases) id first = first
comb_fanin_fanin (Mux sel cases) id (later h) = later (has_map (λ (i : NodeId). node i.0) h)
comb_fanin_fanin (Cat fanin) id h = has_map (λ (i : NodeId). node i.0) h
comb_fanin_fanin (Select a hi lo) id first = first
comb_fanin_fanin (Select a hi lo) id (later h) = elim h [ ]
comb_fanin_fanin (Reg next enable clear init) id h = elim h [ ]
comb_fanin_fanin (Read m addr) id first = first
comb_fanin_fanin (Read m addr) id (later h) = elim h [ ]
comb_fanin_fanin (InstOut i port) id h = elim h [ ]
comb_fanin_fanin (Op kind args) id h = has_map (λ (i : NodeId). node i.0) h

-- the fanin of a node whose row is known
fanin_at : (g : Graph) (n : ℕ) (x : Node) (row : NodeRow) → slice_get g.nodes n ≡ Some row → row.node ≡ x → fanin g (node n) ≡ fanin_of_node x
fanin_at g n x row e q = ap fanin_of_row e ∙ ap fanin_of_node q

pub reached_fanin : (g : Graph) (n : ℕ) (x : Node) (p : Vertex) (row : NodeRow) → slice_get g.nodes n ≡ Some row → row.node ≡ x → Reached g (node n) → Has (fanin_of_node x) p → Reached g p
reached_fanin g n x p row e q r h = further (node n) p r (subst (λ l. Has l p) (sym (fanin_at g n x row e q)) h)

pub connected : (g : Graph) (i port m : ℕ) → connection g i port ≡ Some (record { 0 = m }) → Reached g (inst i) → Reached g (node m)
connected g i port m e r = go (slice_get g.instances i) refl e
  where
    go : (o : Option Instance) → slice_get g.instances i ≡ o → connection_of o port ≡ Some (record { 0 = m }) → Reached g (node m)
    go None q f = cc
    go (Some it) q f = further (inst i) (node m) r (subst (λ l. Has l (node m)) (sym (ap fanin_of_instance q)) (has_map (λ (x : NodeId). node x.0) (has_slice it.conns port (record { 0 = m }) f)))

pub step_reached : (t : Tree) {p q : List ℕ} {n m : ℕ} → CombStep t p n q m → IsReachedPath t p × Reached (graph_at t p) (node n) → IsReachedPath t q × Reached (graph_at t q) (node m)
step_reached t {p} {n = n} {m = m} (inside x y h) r = (r.0, reached_fanin (graph_at t p) n x (node m) y.0 y.1 y.2 r.1 (comb_fanin_fanin x (record { 0 = m }) h))
step_reached t {p} {n = n} {m = m} (down {i = i} port y o) r = (
  (r.0, reached_fanin (graph_at t p) n (InstOut (record { 0 = i }) port) (inst i) y.0 y.1 y.2 r.1 first),
  output (node m) (has_map (λ (x : NodeId). node x.0) (has_slice (graph_at t (i ∷ p)).outputs port (record { 0 = m }) o)),
)
step_reached t {m = m} (up {path = p} {i = i} port y o) r = (r.0.0, connected (graph_at t p) i port m o r.0.1)

pub path_reached : (t : Tree) {p q : List ℕ} {n m : ℕ} → CombPath t p n q m → IsReachedPath t p × Reached (graph_at t p) (node n) → IsReachedPath t q × Reached (graph_at t q) (node m)
path_reached t here r = r
path_reached t (on s w) r = path_reached t w (step_reached t s r)

-- A path to an occurrence below the top comes past the top, or stays in one instance.
pub reached_in : (t : Tree) (j : ℕ) (p : List ℕ) → IsReachedPath t (j ∷ p) → IsReachedPath (kid t (outer j p)) (inner j p)
reached_in t j [] r = tt
reached_in t j (k ∷ p) r = (reached_in t k p r.0, subst (λ s. Reached (graph s) (inst j)) (tree_in t k p) r.1)

-- the outermost instance of a reached path is reached
reached_outer : (t : Tree) (j : ℕ) (p : List ℕ) → IsReachedPath t (j ∷ p) → Reached (graph t) (inst (outer j p))
reached_outer t j [] r = r.1
reached_outer t j (k ∷ p) r = reached_outer t k p r.0

occurrence_in : (t : Tree) (j : ℕ) (p : List ℕ) (n : ℕ) → IsReachedPath t (j ∷ p) × Reached (graph_at t (j ∷ p)) (node n) → IsReachedOccurrence (kid t (outer j p)) (record { path = inner j p; node = n })
occurrence_in t j p n r = (reached_in t j p r.0, subst (λ s. Reached (graph s) (node n)) (tree_in t j p) r.1)

module _ (t : Tree) (k : ℕ) (to : List ℕ) (m : ℕ) where
  abbrev Visits : List ℕ → ℕ → Type 0
  Visits p n = (c : ℕ) × CombPath t p n [] c × CombPath t [] c (k ∷ to) m

  abbrev Stays : List ℕ → ℕ → Type 0
  Stays [] n = ⊥
  Stays (j ∷ p) n = (outer j p ≡ outer k to) × CombPath (kid t (outer j p)) (inner j p) n (inner k to) m

  -- a step between occurrences of one instance
  abbrev StepIn : List ℕ → ℕ → List ℕ → ℕ → Type 0
  StepIn [] n q l = ⊥
  StepIn (j ∷ p) n [] l = ⊥
  StepIn (j ∷ p) n (i ∷ q) l = (outer j p ≡ outer i q) × CombStep (kid t (outer j p)) (inner j p) n (inner i q) l

  step_in : (j : ℕ) (p : List ℕ) (n i : ℕ) (q : List ℕ) (l : ℕ) → CombStep t (j ∷ p) n (i ∷ q) l → StepIn (j ∷ p) n (i ∷ q) l
  step_in j p n _ _ l (inside x y h) = (refl, inside x (node_in t j p n x y) h)
  step_in j p n i _ l (down port y o) =
      (refl, down port (node_in t j p n (InstOut (record { 0 = i }) port) y) (subst (λ s. slice_get (graph (kid s i)).outputs port ≡ Some (record { 0 = l })) (tree_in t j p) o))
  step_in i _ n j p l (up port y o) =
      (refl, up port (node_in t i (j ∷ p) n (Input port) y) (subst (λ s. connection (graph s) i port ≡ Some (record { 0 = l })) (tree_in t j p) o))

  stays_more : (j : ℕ) (p : List ℕ) (n i : ℕ) (q : List ℕ) (l : ℕ) → StepIn (j ∷ p) n (i ∷ q) l → Stays (i ∷ q) l → Stays (j ∷ p) n
  stays_more j p n i q l s w = (s.0 ∙ w.0, on s.1 (subst (λ o. CombPath (kid t o) (inner i q) l (inner k to) m) (sym s.0) w.1))

  follow_step : (p : List ℕ) (n : ℕ) (q : List ℕ) (l : ℕ) → CombStep t p n q l → CombPath t q l (k ∷ to) m → Visits q l ⊎ Stays q l → Visits p n ⊎ Stays p n
  follow_step p n q l s w (inl v) = inl (v.0, on s v.1, v.2)
  follow_step [] n q l s w (inr y) = inl (n, here, on s w)
  follow_step (j ∷ p) n [] l s w (inr y) = absurd y
  follow_step (j ∷ p) n (i ∷ q) l s w (inr y) = inr (stays_more j p n i q l (step_in j p n i q l s) y)

  follow : (p : List ℕ) (n : ℕ) → CombPath t p n (k ∷ to) m → Visits p n ⊎ Stays p n
  follow p n here = inr (refl, here)
  follow p n (on {mid = q} {k = l} s w) = follow_step p n q l s w (follow q l w)

-- A loop of the whole, where no instance has one, is a loop by masks.
module _ (t : Tree) (masks : List (List ℕ)) (lawful : IsLawful (graph t)) (a : HaveMasks t masks) (free : (i : ℕ) (it : Instance) → slice_get (graph t).instances i ≡ Some it → ¬ HasCombLoop (kid t i)) where
  loop_at_top : (n : ℕ) (q : List ℕ) (l : ℕ) → Reached (graph t) (node n) → CombStep t [] n q l → CombPath t q l [] n → HasLocalLoop (graph t) masks
  loop_at_top n q l r s w = let g : Goes t masks n n = first_step t masks n a n q l s (comes t masks n a q l w) in (n, g.0, r, g.1, g.2)

  loop_past_top : (c : ℕ) (j : ℕ) (p : List ℕ) (n : ℕ) → Reached (graph t) (node c) → CombPath t [] c (j ∷ p) n → CombPath t (j ∷ p) n [] c → HasLocalLoop (graph t) masks
  loop_past_top c j p n r (on {mid = q} {k = l} s v) u = loop_at_top c q l r s (path_then t v u)

  loop_inside : (j : ℕ) (p : List ℕ) (n : ℕ) (q : List ℕ) (l : ℕ) → IsReachedPath t (j ∷ p) × Reached (graph_at t (j ∷ p)) (node n) → CombStep t (j ∷ p) n q l → Stays t j p n q l → ⊥
  loop_inside j p n [] l r s y = absurd y
  loop_inside j p n (i ∷ q) l r s y =
      let x : StepIn t j p n (j ∷ p) n (i ∷ q) l = step_in t j p n j p n i q l s in
      let h : HasRow (graph t) (inst (outer j p)) = reached_row (graph t) lawful (reached_outer t j p r.0) in
      free (outer j p) h.0 h.1 (
        record { path = inner j p; node = n },
        record { path = inner i q; node = l },
        occurrence_in t j p n r,
        x.1,
        subst (λ o. CombPath (kid t o) (inner i q) l (inner j p) n) (sym x.0) y.1,
      )

  loop_case : (p : List ℕ) (n : ℕ) (q : List ℕ) (l : ℕ) → IsReachedPath t p × Reached (graph_at t p) (node n) → CombStep t p n q l → CombPath t q l p n → HasLocalLoop (graph t) masks
  loop_case [] n q l r s w = loop_at_top n q l r.1 s w
  loop_case (j ∷ p) n q l r s w =
      elim (follow t j p n q l w) [
        | inl v ↦ loop_past_top v.0 j p n (path_reached t (on s v.1) r).1 v.2 (on s v.1)
        | inr y ↦ absurd (loop_inside j p n q l r s y)
      ]

  pub local_from_loop : HasCombLoop t → HasLocalLoop (graph t) masks
  local_from_loop x = loop_case x.0.path x.0.node x.1.path x.1.node x.2 x.3 x.4

-- A loop by masks is a loop of the whole.
module _ (t : Tree) (masks : List (List ℕ)) (a : AreRight t masks) where
  loop_from_step : (n k : ℕ) → Reached (graph t) (node n) → LocalStep (graph t) masks n k → CombPath t [] k [] n → HasCombLoop t
  loop_from_step n k r (local.inside x y h) w = (record { path = []; node = n }, record { path = []; node = k }, (tt, r), inside x y h, w)
  loop_from_step n k r (local.through i port c mask y e b o) w =
      let d : DependsOn (kid t i) port c = (a i port mask e c).0 b in (
        record { path = []; node = n },
        record { path = i ∷ []; node = d.0 },
        (tt, r),
        down port y d.2,
        path_then t (path_below t i d.4) (on (up c (node_below t i [] d.1 (Input c) d.3) o) w),
      )

  pub loop_from_local : HasLocalLoop (graph t) masks → HasCombLoop t
  loop_from_local x = loop_from_step x.0 x.1 x.2 x.3 (local_path_path t masks a x.4)
