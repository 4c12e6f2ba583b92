use Rattle.std.specs.Prelude.{Some, None}
use Rattle.hc_bench.proofs.BenchSteps.{width_of_port, set_is}
use Rattle.hc_bench.proofs.lines.set.Goals as goal

pub value_in-requires : goal.value_in-requires
value_in-requires c = width_of_port c.args.ports.now.inputs c.as_slice-inputs.result.now c.in-Some.place c.index-inputs-place.result c.as_slice-inputs.ensures
    c.requires.lawful.inputs c.in-Some.ensures.within

pub returns-in-Some-value_in : goal.returns-in-Some-value_in
returns-in-Some-value_in c = set_is c.args.ports.now.inputs c.as_slice-inputs.result.now c.args.name.now c.args.value.now c.in-Some.place c.index-inputs-place.result
    (Some c.in-Some-value_in.value) c.as_slice-inputs.ensures c.in-Some.ensures.place c.in-Some.ensures.within c.index-inputs-place.is c.in-Some-value_in.ensures

pub returns-in-None : goal.returns-in-None
returns-in-None c = set_is c.args.ports.now.inputs c.as_slice-inputs.result.now c.args.name.now c.args.value.now c.in-Some.place c.index-inputs-place.result None
    c.as_slice-inputs.ensures c.in-Some.ensures.place c.in-Some.ensures.within c.index-inputs-place.is c.in-None.ensures
