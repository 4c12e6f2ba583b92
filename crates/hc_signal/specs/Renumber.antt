-- Rows with other numbers in them.
use Rattle.std.specs.Prelude.{ℕ, map, option_map}
use Rattle.hc_signal.specs.declared.signal.NodeId.{NodeId}
use Rattle.hc_signal.specs.declared.signal.NodeRow.{NodeRow}
use Rattle.hc_signal.specs.declared.signal.Node.{Node}
use Rattle.hc_signal.specs.declared.signal.Node.TheVariants.{Input, Wire, Const, Two, Not, Mux, Cat, Select, Reg, Read, InstOut, Op}
use Rattle.hc_signal.specs.declared.signal.Memory.{Memory}
use Rattle.hc_signal.specs.declared.signal.WritePort.{WritePort}
use Rattle.hc_signal.specs.declared.signal.Instance.{Instance}
use Rattle.hc_bits.specs.BitVector.{BitVector}
use Rattle.hc_signal.specs.Graph.{Vertex, node, mem, inst}

-- a new number for each node, memory and instance
pub record Renumbering : Type 0 where
  pub node : ℕ → ℕ
  pub mem : ℕ → ℕ
  pub inst : ℕ → ℕ

abbrev pub renumber : Renumbering → Vertex → Vertex
renumber r (node n) = node (r.node n)
renumber r (mem m) = mem (r.mem m)
renumber r (inst i) = inst (r.inst i)

abbrev pub id_by : Renumbering → NodeId → NodeId
id_by r id = record { 0 = r.node id.0 }

abbrev pub clear_by : Renumbering → NodeId × BitVector → NodeId × BitVector
clear_by r c = (id_by r c.0, c.1)

-- the same row with the new numbers in it
abbrev pub node_by : Renumbering → Node → Node
node_by r (Input port) = Input port
node_by r (Wire driver) = Wire (option_map (id_by r) driver)
node_by r (Const value) = Const value
node_by r (Two op a b) = Two op (id_by r a) (id_by r b)
node_by r (Not a) = Not (id_by r a)
node_by r (Mux sel cases) = Mux (id_by r sel) (map (id_by r) cases)
node_by r (Cat parts) = Cat (map (id_by r) parts)
node_by r (Select a hi lo) = Select (id_by r a) hi lo
node_by r (Reg next enable clear init) = Reg (id_by r next) (option_map (id_by r) enable) (option_map (clear_by r) clear) init
node_by r (Read m addr) = Read (record { 0 = r.mem m.0 }) (id_by r addr)
node_by r (InstOut i port) = InstOut (record { 0 = r.inst i.0 }) port
node_by r (Op kind args) = Op kind (map (id_by r) args)

abbrev pub row_by : Renumbering → NodeRow → NodeRow
row_by r row = record { width = row.width; node = node_by r row.node; label = row.label }

abbrev pub write_by : Renumbering → WritePort → WritePort
write_by r w = record { enable = id_by r w.enable; addr = id_by r w.addr; value = id_by r w.value }

abbrev pub memory_by : Renumbering → Memory → Memory
memory_by r m = record { size = m.size; width = m.width; writes = map (write_by r) m.writes; label = m.label }

abbrev pub instance_by : Renumbering → Instance → Instance
instance_by r i = record { ports = i.ports; conns = map (id_by r) i.conns; label = i.label }
