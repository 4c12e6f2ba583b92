use Rattle.std.proofs.Common.{rules, ◌≡◌, ◌+◌, ◌≤◌, arith, map, length, ◌∙◌, ap}
use Rattle.std.specs.Prelude.{replicate}
use Rattle.hc_canon.specs.Numbering.{nodes_met, memories_met, instances_met}
use Rattle.hc_canon.specs.Numbers.{input_number, numbered}
use Rattle.hc_walk.specs.VertexId.{vertices_of}
use Rattle.hc_canon.proofs.Counting.{are_numbers}
use Rattle.hc_canon.proofs.Fits.{nodes_fit, memories_fit, instances_fit}
use Rattle.hc_canon.proofs.numbers.numbers_of.Goals as goal

pub number_all-requires : goal.number_all-requires
number_all-requires c =
    let g = c.args.circuit.now in
    let end = vertices_of c.args.met.now in
    let a : length c.as_slice-2.result.now ≡ length (nodes_met g end) = ap length (c.as_slice-2.ensures.value ∙ c.requires.order.nodes) in
    let i : length c.as_slice.result.now ≡ length g.ports.inputs = search rules in
    let b : length g.ports.inputs + length (nodes_met g end) ≤ length g.nodes = nodes_fit g c.lawful.ensures end c.requires.walk in
    let few : length g.nodes ≤ 4294967296 = c.lawful.ensures.few.0 in
    omega (arith, a, i, b, few)

pub number_all-requires-2 : goal.number_all-requires-2
number_all-requires-2 c =
    let g = c.args.circuit.now in
    let end = vertices_of c.args.met.now in
    let a : length c.as_slice-3.result.now ≡ length (memories_met end) = ap length (c.as_slice-3.ensures.value ∙ c.requires.order.memories) in
    let b : length (memories_met end) ≤ length g.memories = memories_fit g c.lawful.ensures end c.requires.walk in
    let few : length g.memories ≤ 4294967296 = c.lawful.ensures.few.1 in
    omega (arith, a, b, few)

pub number_all-requires-3 : goal.number_all-requires-3
number_all-requires-3 c =
    let g = c.args.circuit.now in
    let end = vertices_of c.args.met.now in
    let a : length c.as_slice-4.result.now ≡ length (instances_met end) = ap length (c.as_slice-4.ensures.value ∙ c.requires.order.instances) in
    let b : length (instances_met end) ≤ length g.instances = instances_fit g c.lawful.ensures end c.requires.walk in
    let few : length g.instances ≤ 4294967296 = c.lawful.ensures.few.2 in
    omega (arith, a, b, few)

pub returns : goal.returns
returns c =
    let g = c.args.circuit.now in
    let end = vertices_of c.args.met.now in
    let ns : c.number_all.new.table.items ≡ numbered (map input_number g.nodes) (length g.ports.inputs) (nodes_met g end) =
    search rules in
    let ms : c.number_all-2.new.table.items ≡ numbered (replicate (length g.memories) 0) 0 (memories_met end) = search rules in
    let is : c.number_all-3.new.table.items ≡ numbered (replicate (length g.instances) 0) 0 (instances_met end) = search rules in
    are_numbers g c.lawful.ensures end c.requires.walk _ _ _ ns ms is
