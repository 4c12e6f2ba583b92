use Rattle.std.proofs.Common.{◌≡◌, map, flat_map, drop}
use Rattle.hc_unfold.specs.Names.{AreKnown}
use Rattle.hc_statements.specs.Unrolled.{events, events_of, range, turn}
use Rattle.hc_body.specs.Running.{run}
use Rattle.hc_body.proofs.blocks.+run.Given as goal

-- the statements that are left give what all give
abbrev pub invariant-run_block-stmts : goal.invariant-run_block-stmts
invariant-run_block-stmts l = record {
  so_far : run l.design l.path (events (drop l.stmt-index l.stmts) l.fn.run.env) (l.run.count, l.run.body) ≡ run l.design l.path (events l.stmts l.fn.run.env) (l.fn.run.count, l.fn.run.body);
  env : l.run.env ≡ l.fn.run.env;
  known : AreKnown l.run.body.graph l.run.body.names;
}

-- the turns that are left give what all give
abbrev pub invariant-run_turns-turns : goal.invariant-run_turns-turns
invariant-run_turns-turns l = record {
  so_far : run l.design l.path (flat_map (turn l.line l.var (map events_of l.body) l.fn.run.env) (range l.value l.upto)) (l.run.count, l.run.body) ≡ run l.design l.path
      (flat_map (turn l.line l.var (map events_of l.body) l.fn.run.env) (range l.from l.upto)) (l.fn.run.count, l.fn.run.body);
  env : l.run.env ≡ l.fn.run.env;
  known : AreKnown l.run.body.graph l.run.body.names;
}
