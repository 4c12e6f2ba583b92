-- Renumberings that agree on the fan-in of a row give it the same numbers.
use Rattle.std.proofs.Common.{◌≡◌, List, [], ◌∷◌, ◌++◌, map, refl, ap, ap₂, ◌∙◌}
use Rattle.std.specs.Prelude.{Option, Some, None, option_map}
use Rattle.hc_signal.specs.Member.{Has, first, later}
use Rattle.hc_walk.proofs.Members.{has_left, has_right}
use Rattle.hc_signal.specs.declared.signal.NodeId.{NodeId}
use Rattle.hc_signal.specs.declared.signal.NodeRow.{NodeRow}
use Rattle.hc_signal.specs.declared.signal.Node.{Node}
use Rattle.hc_signal.specs.declared.signal.Node.TheVariants.{Input, Wire, Const, Two, Not, Mux, Cat, Select, Reg, Read, InstOut, Op}
use Rattle.hc_signal.specs.declared.signal.Memory.{Memory}
use Rattle.hc_signal.specs.declared.signal.WritePort.{WritePort}
use Rattle.hc_bits.specs.BitVector.{BitVector}
use Rattle.hc_signal.specs.Graph.{Vertex, mem, inst, fanin_of_node, fanin_of_row, fanin_of_memory, fanin_of_writes, nodes_of, node_of, optional_node, clear_node}
use Rattle.hc_signal.specs.Renumber.{Renumbering, renumber, id_by, clear_by, node_by, row_by, write_by, memory_by}
use Rattle.hc_canon.proofs.Renumbered.{number}

module _ (r s : Renumbering) where
  abbrev pub Agree : List Vertex → Type 0
  Agree ps = (p : Vertex) → Has ps p → renumber r p ≡ renumber s p

  head_agrees : (p : Vertex) (ps : List Vertex) → Agree (p ∷ ps) → renumber r p ≡ renumber s p
  head_agrees p ps a = a p first

  rest_agrees : (p : Vertex) (ps : List Vertex) → Agree (p ∷ ps) → Agree ps
  rest_agrees p ps a q c = a q (later c)

  left_agrees : (ps qs : List Vertex) → Agree (ps ++ qs) → Agree ps
  left_agrees ps qs a q c = a q (has_left qs c)

  right_agrees : (ps qs : List Vertex) → Agree (ps ++ qs) → Agree qs
  right_agrees ps qs a q c = a q (has_right ps c)

  id_agrees : (id : NodeId) → renumber r (node_of id) ≡ renumber s (node_of id) → id_by r id ≡ id_by s id
  id_agrees id e = ap (λ p. record { 0 = number p }) e

  pub ids_agree : (ids : List NodeId) → Agree (nodes_of ids) → map (id_by r) ids ≡ map (id_by s) ids
  ids_agree [] a = refl
  ids_agree (id ∷ ids) a = ap₂ (λ x xs. x ∷ xs) (id_agrees id (head_agrees (node_of id) (nodes_of ids) a)) (ids_agree ids (rest_agrees (node_of id) (nodes_of ids) a))

  enable_agrees : (o : Option NodeId) → Agree (optional_node o) → option_map (id_by r) o ≡ option_map (id_by s) o
  enable_agrees None a = refl
  enable_agrees (Some id) a = ap Some (id_agrees id (head_agrees (node_of id) [] a))

  clear_agrees : (o : Option (NodeId × BitVector)) → Agree (clear_node o) → option_map (clear_by r) o ≡ option_map (clear_by s) o
  clear_agrees None a = refl
  clear_agrees (Some c) a = ap (λ id. Some (id, c.1)) (id_agrees c.0 (head_agrees (node_of c.0) [] a))

  node_agrees : (x : Node) → Agree (fanin_of_node x) → node_by r x ≡ node_by s x
  node_agrees (Input port) a = refl
  node_agrees (Wire driver) a = ap Wire (enable_agrees driver a)
  node_agrees (Const value) a = refl
  node_agrees (Two op x y) a = ap₂ (Two op) (id_agrees x (head_agrees (node_of x) (node_of y ∷ []) a)) (id_agrees y (head_agrees (node_of y) [] (rest_agrees (node_of x) (node_of y ∷ []) a)))
  node_agrees (Not x) a = ap Not (id_agrees x (head_agrees (node_of x) [] a))
  node_agrees (Mux sel cases) a = ap₂ Mux (id_agrees sel (head_agrees (node_of sel) (nodes_of cases) a)) (ids_agree cases (rest_agrees (node_of sel) (nodes_of cases) a))
  node_agrees (Cat parts) a = ap Cat (ids_agree parts a)
  node_agrees (Select x hi lo) a = ap (λ y. Select y hi lo) (id_agrees x (head_agrees (node_of x) [] a))
  node_agrees (Reg next enable clear init) a =
      let n : id_by r next ≡ id_by s next = id_agrees next (head_agrees (node_of next) (optional_node enable ++ clear_node clear) a) in
      let rest : Agree (optional_node enable ++ clear_node clear) = rest_agrees (node_of next) (optional_node enable ++ clear_node clear) a in
      ap (λ x. Reg x (option_map (id_by r) enable) (option_map (clear_by r) clear) init) n
      ∙ ap₂ (λ e c. Reg (id_by s next) e c init) (enable_agrees enable (left_agrees (optional_node enable) (clear_node clear) rest))
      (clear_agrees clear (right_agrees (optional_node enable) (clear_node clear) rest))
  node_agrees (Read m addr) a =
      ap₂ Read (ap (λ p. record { 0 = number p }) (head_agrees (mem m.0) [] (rest_agrees (node_of addr) (mem m.0 ∷ []) a))) (id_agrees addr (head_agrees (node_of addr) (mem m.0 ∷ []) a))
  node_agrees (InstOut i port) a = ap (λ p. InstOut (record { 0 = number p }) port) (head_agrees (inst i.0) [] a)
  node_agrees (Op kind args) a = ap (Op kind) (ids_agree args a)

  pub row_agrees : (o : Option NodeRow) → Agree (fanin_of_row o) → option_map (row_by r) o ≡ option_map (row_by s) o
  row_agrees None a = refl
  row_agrees (Some row) a = ap (λ x. Some (record { width = row.width; node = x; label = row.label })) (node_agrees row.node a)

  writes_agree : (ws : List WritePort) → Agree (fanin_of_writes ws) → map (write_by r) ws ≡ map (write_by s) ws
  writes_agree [] a = refl
  writes_agree (w ∷ ws) a =
      let e : Agree (node_of w.addr ∷ node_of w.value ∷ fanin_of_writes ws) = rest_agrees (node_of w.enable) _ a in
      let b : Agree (node_of w.value ∷ fanin_of_writes ws) = rest_agrees (node_of w.addr) _ e in
      ap₂ (λ x xs. x ∷ xs)
      (ap (λ x. record { enable = x; addr = id_by r w.addr; value = id_by r w.value }) (id_agrees w.enable (head_agrees _ _ a))
      ∙ ap₂ (λ x y. record { enable = id_by s w.enable; addr = x; value = y }) (id_agrees w.addr (head_agrees _ _ e)) (id_agrees w.value (head_agrees _ _ b)))
      (writes_agree ws (rest_agrees (node_of w.value) _ b))

  pub memory_agrees : (o : Option Memory) → Agree (fanin_of_memory o) → option_map (memory_by r) o ≡ option_map (memory_by s) o
  memory_agrees None a = refl
  memory_agrees (Some m) a = ap (λ x. Some (record { size = m.size; width = m.width; writes = x; label = m.label })) (writes_agree m.writes a)
