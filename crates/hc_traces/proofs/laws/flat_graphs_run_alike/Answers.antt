use Rattle.hc_traces.proofs.FlatTraces.{opening_flat, trace_of_flat}
use Rattle.hc_traces.proofs.laws.flat_graphs_run_alike.Goals as goal

pub returns : goal.returns
returns c t g fl whole free st su os ol inputs count steps rows x = trace_of_flat t g fl whole free st os.whole ol.whole (opening_flat t g fl whole st su os ol) x
