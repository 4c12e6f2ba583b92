-- The lines of a module, for any names.
use Rattle.std.specs.Prelude.{ℕ, suc, ◌-◌, ◌^◌, Bool, false, ◌&&◌, ◌==◌, if◌then◌else◌, nat_le, List, [], ◌∷◌, ◌++◌, map, slice_get, flat_map, find, Option, Some, None, codes, decimal}
use Rattle.std.specs.List.{zip, enumerate_from}
use Rattle.std.specs.Option.{option_map_or}
use Rattle.hc_bits.specs.declared.kind.OpKind.{OpKind}
use Rattle.hc_bits.specs.BitVector.{BitVector}
use Rattle.hc_bits.specs.Catalogue.{operation_name}
use Rattle.hc_bits.specs.Digits.{hex_of}
use Rattle.hc_signal.specs.declared.signal.Port.{Port}
use Rattle.hc_signal.specs.declared.signal.NodeId.{NodeId}
use Rattle.hc_signal.specs.declared.signal.NodeRow.{NodeRow}
use Rattle.hc_signal.specs.declared.signal.Op2.{Op2}
use Rattle.hc_signal.specs.declared.signal.Op2.TheVariants.{Add, Sub, Mulu, Muls, And, Or, Xor, Eq, Lt}
use Rattle.hc_signal.specs.declared.signal.Node.{Node}
use Rattle.hc_signal.specs.declared.signal.Node.TheVariants.{Input, Wire, Const, Two, Not, Mux, Cat, Select, Reg, Read, InstOut, Op}
use Rattle.hc_signal.specs.declared.signal.Memory.{Memory}
use Rattle.hc_signal.specs.declared.signal.WritePort.{WritePort}
use Rattle.hc_signal.specs.declared.signal.Instance.{Instance}
use Rattle.hc_signal.specs.Graph.{Graph, node, mem, inst}
use Rattle.hc_naming.specs.ModuleNames.{Named, vertex, cell, numbered_nodes, inner_nodes, name_of_id}

-- the range of a signal of w bits, as `[7:0]`
unfoldable pub range : ℕ → List ℕ
range w = codes "[" ++ decimal (w - 1) ++ codes ":0]"

-- a number of w bits, as `8'h0f`
unfoldable pub literal : ℕ → ℕ → List ℕ
literal w v = decimal w ++ codes "'h" ++ hex_of w v

-- a range of the bits of a signal
unfoldable pub bit_range : ℕ → ℕ → List ℕ
bit_range hi lo = codes "[" ++ decimal hi ++ codes ":" ++ decimal lo ++ codes "]"

-- the sign between two operands
unfoldable pub sign_of : Op2 → List ℕ
sign_of Add = codes " + "
sign_of Sub = codes " - "
sign_of Mulu = codes " * "
sign_of Muls = codes " * "
sign_of And = codes " & "
sign_of Or = codes " | "
sign_of Xor = codes " ^ "
sign_of Eq = codes " == "
sign_of Lt = codes " < "

-- the texts with a comma and a blank between two
abbrev pub comma_list : List (List ℕ) → List ℕ
comma_list [] = []
comma_list (x ∷ []) = x
comma_list (x ∷ y ∷ xs) = x ++ codes ", " ++ comma_list (y ∷ xs)

-- the lines, each but the last with a comma at its end
abbrev pub with_commas : List (List ℕ) → List (List ℕ)
with_commas [] = []
with_commas (x ∷ []) = x ∷ []
with_commas (x ∷ y ∷ xs) = (x ++ codes ",") ∷ with_commas (y ∷ xs)

-- the line of an assignment
unfoldable pub assign : List ℕ → List ℕ → List ℕ
assign target value = codes "  assign " ++ target ++ codes " = " ++ value ++ codes ";"

-- the declarations of a wire and of a register of w bits
unfoldable pub wire_declaration : List ℕ → ℕ → List ℕ
wire_declaration x w = codes "  wire " ++ range w ++ codes " " ++ x ++ codes ";"

unfoldable pub register_declaration : List ℕ → ℕ → BitVector → List ℕ
register_declaration x w init = codes "  reg " ++ range w ++ codes " " ++ x ++ codes " = " ++ literal w init.value ++ codes ";"

-- lines that act at each edge of the clock
unfoldable pub clocked : List (List ℕ) → List (List ℕ)
clocked lines = codes "  always @(posedge clock) begin" ∷ (lines ++ codes "  end" ∷ [])

unfoldable pub width_at : Graph → NodeId → ℕ
width_at g id = option_map_or (λ (row : NodeRow). row.width) (slice_get g.nodes id.0) 0

unfoldable pub size_at : Graph → ℕ → ℕ
size_at g m = option_map_or (λ (memory : Memory). memory.size) (slice_get g.memories m) 0

-- the width of the arguments of an operation
unfoldable pub argument_width : Graph → List NodeId → ℕ
argument_width g [] = 0
argument_width g (a ∷ more) = width_at g a

-- whether a node is this output of this instance
abbrev pub is_output_of : ℕ → ℕ → Node → Bool
is_output_of i port (InstOut it q) = (it.0 == i) && (q == port)
is_output_of i port other = false

-- an output of an instance; `output` gives what each is connected to
unfoldable pub result_line : (ℕ → List ℕ) → ℕ × Port → List ℕ
result_line output q = codes "    ." ++ q.1.name ++ codes "(" ++ output q.0 ++ codes ")"

-- The lines of a module where `name` gives each thing its name.
module _ (name : Named → List ℕ) where
  -- ---- the header

  unfoldable pub input_line : ℕ × Port → List ℕ
  input_line p = codes "  input " ++ range p.1.width ++ codes " " ++ name (vertex (node p.0)) ++ codes ","

  unfoldable pub output_line : NodeId × Port → List ℕ
  output_line p = codes "  output " ++ range p.1.width ++ codes " " ++ name_of_id name p.0

  unfoldable pub header : Graph → List ℕ → List (List ℕ)
  header g title =
      (codes "module " ++ title ++ codes " (")
      ∷ codes "  input clock,"
      ∷ (map input_line (enumerate_from 0 g.ports.inputs) ++ (with_commas (map output_line (zip g.outputs g.ports.outputs)) ++ codes ");" ∷ []))

  -- ---- declarations

  unfoldable pub declaration : ℕ × NodeRow → List ℕ
  declaration p = by p.1.node
    where
      by : Node → List ℕ
      by (Reg next enable clear init) = register_declaration (name (vertex (node p.0))) p.1.width init
      by other = wire_declaration (name (vertex (node p.0))) p.1.width

  unfoldable pub memory_declaration : ℕ × Memory → List ℕ
  memory_declaration p = codes "  reg " ++ range p.1.width ++ codes " " ++ name (vertex (mem p.0)) ++ codes " [0:" ++ decimal (p.1.size - 1) ++ codes "];"

  -- ---- items

  -- an operand of an operator, which may be signed
  unfoldable pub operand_text : Op2 → NodeId → List ℕ
  operand_text Muls id = codes "$signed(" ++ name_of_id name id ++ codes ")"
  operand_text op id = name_of_id name id

  unfoldable pub binary_text : Op2 → NodeId → NodeId → List ℕ
  binary_text op a b = operand_text op a ++ sign_of op ++ operand_text op b

  -- a case of a mux, with the test of the selector, of ws bits, for its number
  unfoldable pub tested_case : ℕ → NodeId → ℕ → NodeId → List ℕ
  tested_case ws sel k c = name_of_id name sel ++ codes " == " ++ literal ws k ++ codes " ? " ++ name_of_id name c ++ codes " : "

  -- the cases from number k on, each but the last with its test
  abbrev pub mux_text : ℕ → NodeId → ℕ → List NodeId → List ℕ
  mux_text ws sel k [] = []
  mux_text ws sel k (c ∷ []) = name_of_id name c
  mux_text ws sel k (c ∷ d ∷ cs) = tested_case ws sel k c ++ mux_text ws sel (suc k) (d ∷ cs)

  -- a word of a memory
  unfoldable pub word_text : ℕ → NodeId → List ℕ
  word_text m addr = name (vertex (mem m)) ++ codes "[" ++ name_of_id name addr ++ codes "]"

  -- A read of w bits by an address of wa bits, with a test where an address may lie past the memory's end.
  unfoldable pub read_text : ℕ → ℕ → ℕ → ℕ → NodeId → List ℕ
  read_text w wa size m addr =
      if nat_le (2 ^ wa) size then word_text m addr
      else (name_of_id name addr ++ codes " < " ++ literal wa size ++ codes " ? " ++ word_text m addr ++ codes " : " ++ literal w 0)

  -- the test of an enable, where there is one
  unfoldable pub guard : Option NodeId → List ℕ
  guard None = []
  guard (Some en) = codes "if (" ++ name_of_id name en ++ codes ") "

  unfoldable pub register_lines : List ℕ → NodeId → Option NodeId → Option (NodeId × BitVector) → List (List ℕ)
  register_lines x next enable None = (codes "    " ++ guard enable ++ x ++ codes " <= " ++ name_of_id name next ++ codes ";") ∷ []
  register_lines x next enable (Some clear) =
      (codes "    if (" ++ name_of_id name clear.0 ++ codes ") " ++ x ++ codes " <= " ++ literal clear.1.width clear.1.value ++ codes ";")
      ∷ (codes "    else " ++ guard enable ++ x ++ codes " <= " ++ name_of_id name next ++ codes ";")
      ∷ []

  -- the arguments of an operation
  unfoldable pub pins : List NodeId → List ℕ
  pins [] = []
  pins (a ∷ []) = codes ".a(" ++ name_of_id name a ++ codes "), "
  pins (a ∷ b ∷ more) = codes ".a(" ++ name_of_id name a ++ codes "), .b(" ++ name_of_id name b ++ codes "), "

  -- an operation on arguments of w bits, with the names of its cell and of its node
  unfoldable pub operation_line : OpKind → ℕ → List NodeId → List ℕ → List ℕ → List ℕ
  operation_line kind w args o x = (codes "  op_" ++ operation_name kind ++ codes " #(.W(" ++ decimal w ++ codes ")) ") ++ (o ++ codes " (" ++ pins args ++ codes ".y(" ++ x ++ codes "));")

  -- the lines for a node of width w at place n
  unfoldable pub node_lines : Graph → ℕ → ℕ → Node → List (List ℕ)
  node_lines g n w (Input port) = []
  node_lines g n w (Wire None) = []
  node_lines g n w (Wire (Some d)) = assign (name (vertex (node n))) (name_of_id name d) ∷ []
  node_lines g n w (Const value) = assign (name (vertex (node n))) (literal w value.value) ∷ []
  node_lines g n w (Two op a b) = assign (name (vertex (node n))) (binary_text op a b) ∷ []
  node_lines g n w (Not a) = assign (name (vertex (node n))) (codes "~" ++ name_of_id name a) ∷ []
  node_lines g n w (Mux sel cases) = assign (name (vertex (node n))) (mux_text (width_at g sel) sel 0 cases) ∷ []
  node_lines g n w (Cat parts) = assign (name (vertex (node n))) (codes "{" ++ comma_list (map (name_of_id name) parts) ++ codes "}") ∷ []
  node_lines g n w (Select a hi lo) = assign (name (vertex (node n))) (name_of_id name a ++ bit_range hi lo) ∷ []
  node_lines g n w (Reg next enable clear init) = clocked (register_lines (name (vertex (node n))) next enable clear)
  node_lines g n w (Read m addr) = assign (name (vertex (node n))) (read_text w (width_at g addr) (size_at g m.0) m.0 addr) ∷ []
  node_lines g n w (InstOut i port) = []
  node_lines g n w (Op kind args) = operation_line kind (argument_width g args) args (name (cell n)) (name (vertex (node n))) ∷ []

  unfoldable pub item : Graph → ℕ × NodeRow → List (List ℕ)
  item g p = node_lines g p.0 p.1.width p.1.node

  -- ---- memories

  unfoldable pub write_line : ℕ → WritePort → List ℕ
  write_line m w = codes "    if (" ++ name_of_id name w.enable ++ codes ") " ++ word_text m w.addr ++ codes " <= " ++ name_of_id name w.value ++ codes ";"

  -- the lines for the write ports of a memory, where it has any
  abbrev pub write_lines : ℕ → List WritePort → List (List ℕ)
  write_lines m [] = []
  write_lines m (w ∷ ws) = clocked (map (write_line m) (w ∷ ws))

  unfoldable pub memory_lines : ℕ × Memory → List (List ℕ)
  memory_lines p = write_lines p.0 p.1.writes

  -- ---- instances

  unfoldable pub connection_line : Port × NodeId → List ℕ
  connection_line c = codes "    ." ++ c.0.name ++ codes "(" ++ name_of_id name c.1 ++ codes "),"

  -- an instance of the module of this title
  unfoldable pub instance_lines : List ℕ → (ℕ → List ℕ) → ℕ × Instance → List (List ℕ)
  instance_lines title output p =
      (codes "  " ++ title ++ codes " " ++ name (vertex (inst p.0)) ++ codes " (")
      ∷ codes "    .clock(clock),"
      ∷ (map connection_line (zip p.1.ports.inputs p.1.conns) ++ (with_commas (map (result_line output) (enumerate_from 0 p.1.ports.outputs)) ++ codes "  );" ∷ []))

  -- the instances, where `modules` names the module of each, and `outputs` gives what its outputs are connected to
  unfoldable pub all_instance_lines : (ℕ → List ℕ) → (ℕ → ℕ → List ℕ) → List (ℕ × Instance) → List (List ℕ)
  all_instance_lines modules outputs instances = flat_map (λ (p : ℕ × Instance). instance_lines (modules p.0) (outputs p.0) p) instances

  -- the name of the node of an instance's output; nothing where it has no node
  unfoldable pub output_name : Graph → ℕ → ℕ → List ℕ
  output_name g i port = option_map_or (λ (p : ℕ × NodeRow). name (vertex (node p.0))) (find (λ (p : ℕ × NodeRow). is_output_of i port p.1.node) (numbered_nodes g)) []

  -- ---- the module

  unfoldable pub module_lines : Graph → (ℕ → List ℕ) → List ℕ → List (List ℕ)
  module_lines g modules title =
      header g title
      ++ (map declaration (inner_nodes g)
      ++ (map memory_declaration (enumerate_from 0 g.memories)
      ++ (flat_map (item g) (numbered_nodes g)
      ++ (flat_map memory_lines (enumerate_from 0 g.memories)
      ++ (all_instance_lines modules (output_name g) (enumerate_from 0 g.instances)
      ++ codes "endmodule" ∷ [])))))
