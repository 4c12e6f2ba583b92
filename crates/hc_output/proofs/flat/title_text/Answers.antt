use Rattle.std.proofs.lemmas.Result.{IfOk-weaker}
use Rattle.hc_dbstate.specs.Elaboration.{hier_view}
use Rattle.hc_dbstate.specs.Unfolding.{unfolding_of}
use Rattle.hc_output.proofs.flat.title_text.Goals as goal

pub returns : goal.returns
returns c = IfOk-weaker c.flat_text.result _ _ (λ text x. λ e for. (
  c.args.circuit.now,
  c.same_trees_flatten_alike.ensures (unfolding_of c.args.db.now.entries (hier_view c.args.hier.now).own.entry) e.tree c.args.circuit.now for.top
      c.requires.whole for.whole c.requires.flat,
  x,
)) c.flat_text.ensures
