-- Kinds of nodes.
use Rattle.std.proofs.Common.{◌≡◌, ℕ, ◌⊎◌, inl, inr, Bool, true, false, List, [], ◌∷◌, ◌++◌, map, refl}
use Rattle.std.specs.Prelude.{Option, Some, None}
use Rattle.hc_signal.specs.Member.{Has, first, later}
use Rattle.hc_signal.specs.declared.signal.NodeId.{NodeId}
use Rattle.hc_signal.specs.declared.signal.InstId.{InstId}
use Rattle.hc_signal.specs.declared.signal.MemId.{MemId}
use Rattle.hc_signal.specs.declared.signal.Node.{Node}
use Rattle.hc_signal.specs.declared.signal.Node.TheVariants.{Input, Wire, Const, Two, Not, Mux, Cat, Select, Reg, Read, InstOut, Op}
use Rattle.hc_signal.specs.declared.signal.WritePort.{WritePort}
use Rattle.hc_bits.specs.BitVector.{BitVector}
use Rattle.hc_signal.specs.Graph.{Vertex, node, mem, inst, fanin_of_node, fanin_of_writes, nodes_of, node_of, optional_node, clear_node}
use Rattle.hc_signal.specs.Occurrences.{is_port_alias, comb_fanin}
use Rattle.hc_signal.specs.Renumber.{Renumbering, id_by, node_by}
use Rattle.hc_walk.proofs.Members.{has_cases}

-- a node that passes nothing on, an output of an instance, or an input below the top
pub alias_kind : (path : List ℕ) (x : Node)
    → (is_port_alias path x ≡ false) ⊎ (((i : InstId) × (port : ℕ) × (x ≡ InstOut i port)) ⊎ ((j : ℕ) × (rest : List ℕ) × (port : ℕ) × (path ≡ j ∷ rest) × (x ≡ Input port)))
alias_kind [] (Input w1) = inl refl
alias_kind (j ∷ path) (Input w1) = inr (inr (j, path, w1, refl, refl))
alias_kind path (Wire w1) = inl refl
alias_kind path (Const w1) = inl refl
alias_kind path (Two w1 w2 w3) = inl refl
alias_kind path (Not w1) = inl refl
alias_kind path (Mux w1 w2) = inl refl
alias_kind path (Cat w1) = inl refl
alias_kind path (Select w1 w2 w3) = inl refl
alias_kind path (Reg w1 w2 w3 w4) = inl refl
alias_kind path (Read w1 w2) = inl refl
alias_kind path (InstOut w1 w2) = inr (inl (w1, w2, refl))
alias_kind path (Op w1 w2) = inl refl

pub comb_by : (r : Renumbering) (x : Node) → comb_fanin (node_by r x) ≡ map (id_by r) (comb_fanin x)
comb_by r (Input w1) = refl
comb_by r (Wire None) = refl
comb_by r (Wire (Some w1)) = refl
comb_by r (Const w1) = refl
comb_by r (Two w1 w2 w3) = refl
comb_by r (Not w1) = refl
comb_by r (Mux w1 w2) = refl
comb_by r (Cat w1) = refl
comb_by r (Select w1 w2 w3) = refl
comb_by r (Reg w1 w2 w3 w4) = refl
comb_by r (Read w1 w2) = refl
comb_by r (InstOut w1 w2) = refl
comb_by r (Op w1 w2) = refl

abbrev pub is_inst : Vertex → Bool
is_inst (node n) = false
is_inst (mem m) = false
is_inst (inst i) = true

nodes_not : (ids : List NodeId) (v : Vertex) → Has (nodes_of ids) v → is_inst v ≡ false
nodes_not [] v h = elim h [ ]
nodes_not (id ∷ ids) _ first = refl
nodes_not (id ∷ ids) v (later h) = nodes_not ids v h

optional_not : (o : Option NodeId) (v : Vertex) → Has (optional_node o) v → is_inst v ≡ false
optional_not None v h = elim h [ ]
optional_not (Some id) v h = nodes_not (id ∷ []) v h

clear_not : (o : Option (NodeId × BitVector)) (v : Vertex) → Has (clear_node o) v → is_inst v ≡ false
clear_not None v h = elim h [ ]
clear_not (Some c) v h = nodes_not (c.0 ∷ []) v h

reg_not : (next : NodeId) (enable : Option NodeId) (clear : Option (NodeId × BitVector)) (v : Vertex) → Has (node_of next ∷ (optional_node enable ++ clear_node clear)) v → is_inst v ≡ false
reg_not next enable clear _ first = refl
reg_not next enable clear v (later h) = elim (has_cases (optional_node enable) (clear_node clear) h) [ inl l ↦ optional_not enable v l | inr r ↦ clear_not clear v r ]

read_not : (m : MemId) (addr : NodeId) (v : Vertex) → Has (node_of addr ∷ mem m.0 ∷ []) v → is_inst v ≡ false
read_not m addr _ first = refl
read_not m addr _ (later first) = refl
read_not m addr v (later (later h)) = elim h [ ]

pub no_inst : (path : List ℕ) (x : Node) → is_port_alias path x ≡ false → (v : Vertex) → Has (fanin_of_node x) v → is_inst v ≡ false
no_inst path (Input w1) f v h = elim h [ ]
no_inst path (Wire w1) f v h = optional_not w1 v h
no_inst path (Const w1) f v h = elim h [ ]
no_inst path (Two w1 w2 w3) f v h = nodes_not (w2 ∷ w3 ∷ []) v h
no_inst path (Not w1) f v h = nodes_not (w1 ∷ []) v h
no_inst path (Mux w1 w2) f v h = nodes_not (w1 ∷ w2) v h
no_inst path (Cat w1) f v h = nodes_not w1 v h
no_inst path (Select w1 w2 w3) f v h = nodes_not (w1 ∷ []) v h
no_inst path (Reg w1 w2 w3 w4) f v h = reg_not w1 w2 w3 v h
no_inst path (Read w1 w2) f v h = read_not w1 w2 v h
no_inst path (InstOut w1 w2) f v h = cc
no_inst path (Op w1 w2) f v h = nodes_not w2 v h

pub writes_not : (ws : List WritePort) (v : Vertex) → Has (fanin_of_writes ws) v → is_inst v ≡ false
writes_not [] v h = elim h [ ]
writes_not (w ∷ ws) _ first = refl
writes_not (w ∷ ws) _ (later first) = refl
writes_not (w ∷ ws) _ (later (later first)) = refl
writes_not (w ∷ ws) v (later (later (later h))) = writes_not ws v h
