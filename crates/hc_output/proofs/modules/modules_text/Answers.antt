use Rattle.std.proofs.lemmas.Result.{IfOk-weaker}
use Rattle.hc_dbstate.specs.Elaboration.{hier_view, walk}
use Rattle.hc_dbstate.specs.Unfolding.{unfolding_of}
use Rattle.hc_names.specs.Naming.{named_trees}
use Rattle.hc_output.specs.Output.{named_calls}
use Rattle.hc_output.proofs.Naming.{are_alike}
use Rattle.hc_output.proofs.modules.modules_text.Goals as goal

pub returns : goal.returns
returns c =
    let entries = c.args.db.now.entries in
    let hier = c.args.hier.now in
    IfOk-weaker c.unfolded_text.result _ _ (λ text x. λ e for. c.alike_calls_have_one_text.ensures (unfolding_of entries (hier_view hier).own.entry) e.tree
    (named_trees entries hier) (named_calls e.calls) text.items for.top (are_alike entries (walk hier) e.calls for.calls) x) c.unfolded_text.ensures
