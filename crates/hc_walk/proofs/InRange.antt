-- In a lawful circuit each reached place has a row.
use Rattle.std.proofs.Common.{◌≡◌, ℕ, List, [], ◌∷◌, ◌++◌, refl, subst, inl, inr}
use Rattle.std.specs.Prelude.{slice_get, Option, Some, None}
use Rattle.hc_signal.specs.Member.{Has, first, later}
use Rattle.hc_walk.proofs.Members.{has_from_map, has_cases}
use Rattle.hc_signal.specs.declared.signal.NodeId.{NodeId}
use Rattle.hc_signal.specs.declared.signal.NodeRow.{NodeRow}
use Rattle.hc_signal.specs.declared.signal.Node.{Node}
use Rattle.hc_signal.specs.declared.signal.Node.TheVariants.{Input, Wire, Const, Two, Not, Mux, Cat, Select, Reg, Read, InstOut, Op}
use Rattle.hc_signal.specs.declared.signal.Memory.{Memory}
use Rattle.hc_signal.specs.declared.signal.WritePort.{WritePort}
use Rattle.hc_signal.specs.declared.signal.Instance.{Instance}
use Rattle.hc_bits.specs.BitVector.{BitVector}
use Rattle.hc_signal.specs.Graph.{Graph, Vertex, node, mem, inst, Reached, output, further, fanin, fanin_of_row, fanin_of_node, fanin_of_memory, fanin_of_instance, fanin_of_writes, nodes_of, node_of, optional_node, clear_node}
use Rattle.hc_signal.specs.Lawful.{IsLawful, IsLawfulNode, IsLawfulWrite, HasWidth, HaveWidths, MayHaveWidth, MayClear}
use Rattle.hc_walk.proofs.Members.{has_slice}

abbrev pub HasRow : Graph → Vertex → Type 0
HasRow g (node n) = (row : NodeRow) × (slice_get g.nodes n ≡ Some row)
HasRow g (mem m) = (memory : Memory) × (slice_get g.memories m ≡ Some memory)
HasRow g (inst i) = (it : Instance) × (slice_get g.instances i ≡ Some it)

abbrev AllHaveRows : Graph → List Vertex → Type 0
AllHaveRows g ps = (p : Vertex) → Has ps p → HasRow g p

one_row : (g : Graph) (id : NodeId) (w : ℕ) → HasWidth g id w → HasRow g (node id.0)
one_row g id w h = (h.0, h.1)

no_rows : (g : Graph) → AllHaveRows g []
no_rows g p h = elim h [ ]

more_rows : (g : Graph) (p : Vertex) (ps : List Vertex) → HasRow g p → AllHaveRows g ps → AllHaveRows g (p ∷ ps)
more_rows g p ps a b q first = a
more_rows g p ps a b q (later h) = b q h

both_rows : (g : Graph) (ps qs : List Vertex) → AllHaveRows g ps → AllHaveRows g qs → AllHaveRows g (ps ++ qs)
both_rows g ps qs a b p h = elim (has_cases ps qs h) [ inl l ↦ a p l | inr r ↦ b p r ]

id_rows : (g : Graph) (ids : List NodeId) → ((id : NodeId) → Has ids id → HasRow g (node id.0)) → AllHaveRows g (nodes_of ids)
id_rows g ids a p h = let m : _ = has_from_map node_of ids p h in subst (HasRow g) m.2 (a m.0 m.1)

width_rows : (g : Graph) (ids : List NodeId) (ws : List ℕ) → HaveWidths g ids ws → AllHaveRows g (nodes_of ids)
width_rows g [] ws h = no_rows g
width_rows g (id ∷ ids) [] h = absurd h
width_rows g (id ∷ ids) (w ∷ ws) h = more_rows g (node id.0) (nodes_of ids) (one_row g id w h.0) (width_rows g ids ws h.1)

enable_rows : (g : Graph) (o : Option NodeId) (w : ℕ) → MayHaveWidth g o w → AllHaveRows g (optional_node o)
enable_rows g None w h = no_rows g
enable_rows g (Some id) w h = more_rows g (node id.0) [] (one_row g id w h) (no_rows g)

clear_rows : (g : Graph) (o : Option (NodeId × BitVector)) (w : ℕ) → MayClear g o w → AllHaveRows g (clear_node o)
clear_rows g None w h = no_rows g
clear_rows g (Some c) w h = more_rows g (node c.0.0) [] (one_row g c.0 1 h.0) (no_rows g)

node_rows : (g : Graph) (w : ℕ) (x : Node) → IsLawfulNode g w x → AllHaveRows g (fanin_of_node x)
node_rows g w (Input port) l = no_rows g
node_rows g w (Wire driver) l = enable_rows g driver w l
node_rows g w (Const value) l = no_rows g
node_rows g w (Two op a b) l = more_rows g (node a.0) _ (one_row g a l.0 l.2) (more_rows g (node b.0) [] (one_row g b l.1 l.3) (no_rows g))
node_rows g w (Not a) l = more_rows g (node a.0) [] (one_row g a w l) (no_rows g)
node_rows g w (Mux sel cases) l = more_rows g (node sel.0) _ (one_row g sel l.0 l.1) (id_rows g cases (λ id h. one_row g id w (l.4 id h)))
node_rows g w (Cat parts) l = width_rows g parts l.0 l.2
node_rows g w (Select a hi lo) l = more_rows g (node a.0) [] (one_row g a l.0 l.1) (no_rows g)
node_rows g w (Reg next enable clear init) l =
    more_rows g (node next.0) _ (one_row g next w l.0) (both_rows g (optional_node enable) (clear_node clear) (enable_rows g enable 1 l.1) (clear_rows g clear w l.2))
node_rows g w (Read m addr) l = more_rows g (node addr.0) _ (one_row g addr l.0 l.1) (more_rows g (mem m.0) [] (l.2.0, l.2.1) (no_rows g))
node_rows g w (InstOut i port) l = more_rows g (inst i.0) [] (l.0, l.2) (no_rows g)
node_rows g w (Op kind args) l = id_rows g args (λ id h. one_row g id l.0 (l.2 id h))

writes_rows : (g : Graph) (m : Memory) (ws : List WritePort) → ((w : WritePort) → Has ws w → IsLawfulWrite g m w) → AllHaveRows g (fanin_of_writes ws)
writes_rows g m [] l = no_rows g
writes_rows g m (w ∷ ws) l =
    let x : IsLawfulWrite g m w = l w first in
    more_rows g (node w.enable.0) _ (one_row g w.enable 1 x.enable)
    (more_rows g (node w.addr.0) _ (one_row g w.addr x.addr.0 x.addr.1)
    (more_rows g (node w.value.0) _ (one_row g w.value m.width x.value) (writes_rows g m ws (λ v h. l v (later h)))))

parts_rows : (g : Graph) → IsLawful g → (p : Vertex) → AllHaveRows g (fanin g p)
parts_rows g l (node n) = go (slice_get g.nodes n) refl
  where
    go : (o : Option NodeRow) → slice_get g.nodes n ≡ o → AllHaveRows g (fanin_of_row o)
    go None e = no_rows g
    go (Some row) e = node_rows g row.width row.node (l.nodes n row e).1
parts_rows g l (mem m) = go (slice_get g.memories m) refl
  where
    go : (o : Option Memory) → slice_get g.memories m ≡ o → AllHaveRows g (fanin_of_memory o)
    go None e = no_rows g
    go (Some memory) e = writes_rows g memory memory.writes (l.memories memory (has_slice g.memories m memory e)).writes
parts_rows g l (inst i) = go (slice_get g.instances i) refl
  where
    go : (o : Option Instance) → slice_get g.instances i ≡ o → AllHaveRows g (fanin_of_instance o)
    go None e = no_rows g
    go (Some it) e = width_rows g it.conns _ (l.instances it (has_slice g.instances i it e)).conns

pub reached_row : (g : Graph) → IsLawful g → {p : Vertex} → Reached g p → HasRow g p
reached_row g l (output p c) = width_rows g g.outputs _ l.outputs p c
reached_row g l (further p q r c) = parts_rows g l p q c
