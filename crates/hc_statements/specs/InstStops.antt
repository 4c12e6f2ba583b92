-- A stop of a step, as a stop of an instance.
use Rattle.hc_signal.specs.declared.stop.BuildStop.{BuildStop}
use Rattle.hc_signal.specs.declared.stop.BuildStop.TheVariants as stop
use Rattle.hc_statements.specs.declared.instances.InstStop.{InstStop}
use Rattle.hc_statements.specs.declared.instances.InstStop.TheVariants.{Here, NoMemory}

abbrev pub as_inst : BuildStop → InstStop
as_inst (stop.Fault kind) = Here kind
as_inst stop.NoMemory = NoMemory
