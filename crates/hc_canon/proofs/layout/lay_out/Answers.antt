use Rattle.std.proofs.Common.{rules, ◌≡◌, ◌++◌, subst, sym, ◌∙◌, ap}
use Rattle.hc_signal.specs.Lawful.{IsLawful}
use Rattle.hc_canon.specs.Layout.{input_rows, laid_out, picked}
use Rattle.hc_canon.specs.Numbers.{renumbering}
use Rattle.hc_signal.specs.Renumber.{row_by}
use Rattle.hc_walk.specs.VertexId.{vertices_of}
use Rattle.hc_canon.proofs.Transport.{laid_out_lawful}
use Rattle.hc_canon.proofs.Carried.{laid_out_lists}
use Rattle.hc_canon.proofs.layout.lay_out.Goals as goal

pub of_parts-requires : goal.of_parts-requires
of_parts-requires c =
    let g = c.args.circuit.now in
    let end = vertices_of c.args.met.now in
    let to = renumbering c.args.numbers.now in
    let a : c.in_ok-ports.ports ≡ g.ports = search rules in
    let b : c.in_ok-outputs.outputs ≡ (laid_out g end to).outputs = search rules in
    let n : c.from_vec.result ≡ (laid_out g end to).nodes = search rules in
    let m : c.from_vec-2.result ≡ (laid_out g end to).memories = search rules in
    let i : c.from_vec-3.result ≡ (laid_out g end to).instances = search rules in
    subst IsLawful (sym (laid_out_lists g end to _ _ _ _ _ a b n m i)) (laid_out_lawful g c.lawful.ensures end c.requires.walk to c.requires.numbers)
