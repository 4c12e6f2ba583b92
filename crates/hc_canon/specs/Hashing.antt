-- The hash of a form: its numbers, one after another in the order of its lists, mixed into one.
use Rattle.std.specs.Prelude.{ℕ, ◌*◌, ◌%◌, ◌/◌, ◌^◌, bit_xor, List, length, fold, Option, Some, None}
use Rattle.hc_bits.specs.declared.kind.OpKind.{OpKind}
use Rattle.hc_bits.specs.declared.kind.OpKind.TheVariants as kind
use Rattle.hc_bits.specs.BitVector.{BitVector}
use Rattle.hc_signal.specs.declared.signal.Op2.{Op2}
use Rattle.hc_signal.specs.declared.signal.Op2.TheVariants as op
use Rattle.hc_signal.specs.declared.signal.Port.{Port}
use Rattle.hc_signal.specs.declared.signal.Ports.{Ports}
use Rattle.hc_signal.specs.declared.signal.NodeId.{NodeId}
use Rattle.hc_signal.specs.declared.signal.NodeRow.{NodeRow}
use Rattle.hc_signal.specs.declared.signal.Node.{Node}
use Rattle.hc_signal.specs.declared.signal.Node.TheVariants.{Input, Wire, Const, Two, Not, Mux, Cat, Select, Reg, Read, InstOut, Op}
use Rattle.hc_signal.specs.declared.signal.Memory.{Memory}
use Rattle.hc_signal.specs.declared.signal.WritePort.{WritePort}
use Rattle.hc_signal.specs.declared.signal.Instance.{Instance}
use Rattle.hc_signal.specs.Graph.{Graph}
use Rattle.hc_canon.specs.declared.form.EntryId.{EntryId}
use Rattle.hc_canon.specs.FormView.{FormView}

-- a hash of 64 bits, and one number more
unfoldable pub mix : ℕ → ℕ → ℕ
mix h x = let p = bit_xor h x * 0xFF51AFD7ED558CCD % 2 ^ 64 in bit_xor p (p / 2 ^ 32)

-- a list: its length, then its items
abbrev pub mix_list : {X : Type 0} → (ℕ → X → ℕ) → ℕ → List X → ℕ
mix_list f h xs = fold f (mix h (length xs)) xs

-- an option: 0, or 1 and what it has
abbrev pub mix_option : {X : Type 0} → (ℕ → X → ℕ) → ℕ → Option X → ℕ
mix_option f h None = mix h 0
mix_option f h (Some x) = f (mix h 1) x

abbrev pub mix_id : ℕ → NodeId → ℕ
mix_id h id = mix h id.0

abbrev pub mix_entry : ℕ → EntryId → ℕ
mix_entry h id = mix h id.0

abbrev pub mix_bits : ℕ → BitVector → ℕ
mix_bits h b = mix (mix (mix h b.width) (b.value / 18446744073709551616)) (b.value % 18446744073709551616)

abbrev pub mix_clear : ℕ → NodeId × BitVector → ℕ
mix_clear h c = mix_bits (mix_id h c.0) c.1

abbrev pub mix_name : ℕ → List ℕ → ℕ
mix_name h name = mix_list mix h name

abbrev pub mix_port : ℕ → Port → ℕ
mix_port h p = mix_name (mix h p.width) p.name

abbrev pub mix_ports : ℕ → Ports → ℕ
mix_ports h p = mix_list mix_port (mix_list mix_port h p.inputs) p.outputs

abbrev pub op_code : Op2 → ℕ
op_code op.Add = 0
op_code op.Sub = 1
op_code op.Mulu = 2
op_code op.Muls = 3
op_code op.And = 4
op_code op.Or = 5
op_code op.Xor = 6
op_code op.Eq = 7
op_code op.Lt = 8

abbrev pub kind_code : OpKind → ℕ
kind_code kind.Popcount = 0
kind_code kind.Clz = 1
kind_code kind.Rev = 2
kind_code kind.Min = 3
kind_code kind.Max = 4
kind_code kind.SatAdd = 5

abbrev pub mix_node : ℕ → Node → ℕ
mix_node h (Input port) = mix (mix h 0) port
mix_node h (Wire driver) = mix_option mix_id (mix h 1) driver
mix_node h (Const value) = mix_bits (mix h 2) value
mix_node h (Two which a b) = mix_id (mix_id (mix (mix h 3) (op_code which)) a) b
mix_node h (Not a) = mix_id (mix h 4) a
mix_node h (Mux sel cases) = mix_list mix_id (mix_id (mix h 5) sel) cases
mix_node h (Cat parts) = mix_list mix_id (mix h 6) parts
mix_node h (Select a hi lo) = mix (mix (mix_id (mix h 7) a) hi) lo
mix_node h (Reg next enable clear init) = mix_bits (mix_option mix_clear (mix_option mix_id (mix_id (mix h 8) next) enable) clear) init
mix_node h (Read mem addr) = mix_id (mix (mix h 9) mem.0) addr
mix_node h (InstOut inst port) = mix (mix (mix h 10) inst.0) port
mix_node h (Op which args) = mix_list mix_id (mix (mix h 11) (kind_code which)) args

abbrev pub mix_row : ℕ → NodeRow → ℕ
mix_row h row = mix_option mix_name (mix_node (mix h row.width) row.node) row.label

abbrev pub mix_write : ℕ → WritePort → ℕ
mix_write h w = mix_id (mix_id (mix_id h w.enable) w.addr) w.value

abbrev pub mix_memory : ℕ → Memory → ℕ
mix_memory h m = mix_option mix_name (mix_list mix_write (mix (mix h m.size) m.width) m.writes) m.label

abbrev pub mix_instance : ℕ → Instance → ℕ
mix_instance h i = mix_option mix_name (mix_list mix_id (mix_ports h i.ports) i.conns) i.label

abbrev pub mix_circuit : ℕ → Graph → ℕ
mix_circuit h g = mix_list mix_instance (mix_list mix_memory (mix_list mix_row (mix_list mix_id (mix_ports h g.ports) g.outputs) g.nodes) g.memories) g.instances

unfoldable pub hash_of : FormView → ℕ
hash_of f = mix_list mix_entry (mix_circuit 0 f.circuit) f.kids
