use Rattle.std.proofs.Common.{subst, sym}
use Rattle.hc_flatten.specs.Flattened.{AreStarts, kid_trees}
use Rattle.std.proofs.lemmas.Result.{IfOk-weaker}
use Rattle.hc_flatten.proofs.Laying.{kids_are}
use Rattle.hc_flatten.proofs.layout.lay_own.Goals as goal

pub returns-clause-kids : goal.returns-clause-kids
returns-clause-kids c =
    IfOk-weaker c.kids_of.result _ _ (λ kids a. kids_are c.args.db.now.entries c.args.form.now c.args.place.now c.as_slice-starts.result.now _ kids.items
    (subst (AreStarts c.args.place.now c.args.form.now.circuit (kid_trees c.args.db.now.entries c.args.form.now)) (sym c.as_slice-starts.ensures.value) c.in_ok-starts.ensures)
    c.in_ok-numbers.ensures a) c.kids_of.ensures
