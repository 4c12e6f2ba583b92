-- The changes that keep a graph formed.
use Rattle.std.proofs.Common.{◌≡◌, false, refl, sym, subst, ap, ◌∙◌, inl, inr}
use Rattle.std.specs.Prelude.{slice_get, Some}
use Rattle.std.proofs.lemmas.Bool.{or_parts}
use Rattle.hc_fault.specs.declared.name.Name.{Name}
use Rattle.hc_signal.specs.declared.signal.InstId.{InstId}
use Rattle.hc_signal.specs.declared.signal.MemId.{MemId}
use Rattle.hc_signal.specs.declared.signal.Memory.{Memory}
use Rattle.hc_signal.specs.declared.signal.Instance.{Instance}
use Rattle.hc_signal.specs.declared.signal.NodeId.{NodeId}
use Rattle.hc_signal.specs.declared.signal.NodeRow.{NodeRow}
use Rattle.hc_signal.specs.declared.signal.WritePort.{WritePort}
use Rattle.hc_signal.specs.Graph.{Graph}
use Rattle.hc_signal.specs.Lawful.{HasWidth, IsLawful, IsLawfulMemory, IsLawfulWrite}
use Rattle.hc_signal.specs.Builds.{IsInstance, IsMemory, IsNode, IsWire, driven_from, is_input_row, is_output, is_port_node, labelled_memory, labelled_row, memory_width, memory_width_at, row_width, width_at, with_driver, with_instance_label, with_memory_label, with_node_label, with_write, written}
use Rattle.hc_unfold.specs.Formed.{AreFew, ChangesKeepForm, IsFormed}
use Rattle.hc_unfold.proofs.RowPlaces.{has_from_place, has_pushed}
use Rattle.hc_unfold.proofs.Follows.{has_its_width, some_at}
use Rattle.hc_unfold.proofs.FormedNodes.{formed_with_inner}
use Rattle.hc_unfold.proofs.FormedPorts.{formed_with_input, formed_with_output}
use Rattle.hc_unfold.proofs.FormedRows.{drive_replaces, labelled_replaces, formed_changed}
use Rattle.hc_unfold.proofs.FormedMemories.{formed_memory, formed_with_memory}
use Rattle.hc_unfold.proofs.FormedInstances.{formed_instance, formed_whole}

driven : (g : Graph) (id from : NodeId) → IsFormed g → IsWire g id → IsNode g from → width_at g id ≡ width_at g from → IsFormed (with_driver g id from)
driven g id from l (row, there, wired) node same =
    formed_changed g id.0 (driven_from from) row (drive_replaces g id from row l there wired node (sym (ap row_width there) ∙ same)) l

more_writes : (g : Graph) (id : MemId) (w : WritePort) → IsFormed g → IsMemory g id → IsNode g w.enable → IsNode g w.addr → IsNode g w.value → width_at g w.enable ≡ 1
    → width_at g w.value ≡ memory_width_at g id → IsFormed (with_write g id w)
more_writes g id w l b enable addr value one fits =
    let at : (m : Memory) × (slice_get g.memories id.0 ≡ Some m) = some_at g.memories id.0 b in
    let x : Memory = at.0 in
    let was : IsLawfulMemory g x = l.memories x (has_from_place g.memories id.0 x at.1) in
    let of_mem : memory_width_at g id ≡ x.width = ap memory_width at.1 in
    let lawful : IsLawfulMemory g (written w x) = record {
      width = was.width;
      size = was.size;
      writes = λ p k. elim (has_pushed x.writes w p k) [
        | inl h ↦ (let before : _ = was.writes p h in record { enable = before.enable; addr = before.addr; value = before.value })
        | inr now ↦ subst (IsLawfulWrite g (written w x)) now (record {
          enable = subst (λ n. HasWidth g w.enable n) one (has_its_width g w.enable enable);
          addr = (width_at g w.addr, has_its_width g w.addr addr);
          value = subst (λ n. HasWidth g w.value n) (fits ∙ of_mem) (has_its_width g w.value value);
        })
      ];
    } in
    formed_memory g id.0 (written w) x at.1 refl lawful l

node_labelled : (g : Graph) (id : NodeId) (label : Name) → IsFormed g → IsNode g id → is_port_node g id ≡ false → IsFormed (with_node_label g id label)
node_labelled g id label l b no_port =
    let at : (row : NodeRow) × (slice_get g.nodes id.0 ≡ Some row) = some_at g.nodes id.0 b in
    let neither : _ = or_parts (is_input_row (slice_get g.nodes id.0)) (is_output g id.0) no_port in
    formed_changed g id.0 (labelled_row label) at.0 (labelled_replaces g id label at.0 l at.1 (sym (ap is_input_row at.1) ∙ neither.0) neither.1) l

memory_labelled : (g : Graph) (id : MemId) (label : Name) → IsFormed g → IsMemory g id → IsFormed (with_memory_label g id label)
memory_labelled g id label l b =
    let at : (m : Memory) × (slice_get g.memories id.0 ≡ Some m) = some_at g.memories id.0 b in
    let was : IsLawfulMemory g at.0 = l.memories at.0 (has_from_place g.memories id.0 at.0 at.1) in
    let lawful : IsLawfulMemory g (labelled_memory label at.0) = record {
      width = was.width;
      size = was.size;
      writes = λ p k.
          (let before : _ = was.writes p k in record { enable = before.enable; addr = before.addr; value = before.value });
    } in
    formed_memory g id.0 (labelled_memory label) at.0 at.1 refl lawful l

instance_labelled : (g : Graph) (id : InstId) (label : Name) → IsFormed g → IsInstance g id → IsFormed (with_instance_label g id label)
instance_labelled g id label l b =
    let at : (it : Instance) × (slice_get g.instances id.0 ≡ Some it) = some_at g.instances id.0 b in
    formed_instance g id.0 label at.0 at.1 l

pub changes_keep_form : ChangesKeepForm
changes_keep_form = record {
  node = λ g w x l width node inner. formed_with_inner g w x l width node inner;
  input = λ g name w l width. formed_with_input g name w l width;
  output = λ g name w l width. formed_with_output g name w l width;
  memory = λ g size w l width some few. formed_with_memory g size w width some few l;
  instance = λ g ports conns l are have. formed_whole g ports conns l are have;
  driver = driven;
  write = more_writes;
  node_label = node_labelled;
  memory_label = memory_labelled;
  instance_label = instance_labelled;
}

pub formed_is_lawful : (g : Graph) → IsFormed g → AreFew g → IsLawful g
formed_is_lawful g l few = record {
  ports = l.ports;
  nodes = l.nodes;
  memories = l.memories;
  instances = l.instances;
  outputs = l.outputs;
  wires = l.wires;
  own_wire = l.own_wire;
  inputs = l.inputs;
  one_input = l.one_input;
  no_label = l.no_label;
  one_output = l.one_output;
  few = (few.nodes, few.memories, few.instances);
}
