use Rattle.hc_traces.proofs.Traces.{trace_once}
use Rattle.hc_traces.proofs.laws.traces_are_single.Goals as goal

pub returns : goal.returns
returns c t whole free state inputs count steps rows others k a b = trace_once t whole free k a b
