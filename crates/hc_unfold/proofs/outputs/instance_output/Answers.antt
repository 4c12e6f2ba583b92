use Rattle.std.proofs.Common.{◌≡◌, sym, ap, ◌∙◌, rules}
use Rattle.hc_signal.specs.declared.signal.Node.TheVariants.{InstOut}
use Rattle.hc_unfold.specs.Outputs.{port_place}
use Rattle.hc_unfold.proofs.Standing.{output_is, output_is_node}
use Rattle.hc_unfold.proofs.outputs.instance_output.Goals as goal

pub returns-clause-found : goal.returns-clause-found
returns-clause-found c =
    let same : c.in-Ok.port ≡ c.in-Some.place = search rules in
    output_is c.args.builder.now c.args.inst c.args.name.now c.instance_row.result.now c.in-Some.place c.in-Ok.port c.out.result c.instance_row.ensures
    (ap (port_place c.args.name.now) (sym c.as_slice.ensures) ∙ sym c.port_place.ensures.place ∙ c.in-Some.is) same c.lawful.ensures c.out.ensures

pub returns-clause-node : goal.returns-clause-node
returns-clause-node c = output_is_node c.args.builder.now c.out.result.0 (InstOut c.args.inst c.in-Ok.port) c.out.ensures
