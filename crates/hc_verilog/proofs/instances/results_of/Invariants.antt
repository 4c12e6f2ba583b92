use Rattle.std.proofs.Common.{◌+◌, drop}
use Rattle.std.specs.List.{enumerate_from}
use Rattle.hc_verilog.specs.Results.{AreResults}
use Rattle.hc_verilog.proofs.instances.results_of.Given as goal

-- the table has the outputs among the nodes from here on
abbrev pub invariant-loop-k : goal.invariant-loop-k
invariant-loop-k l =
    AreResults (enumerate_from (l.first + l.k) (drop l.k l.rows)) l.results.entries
