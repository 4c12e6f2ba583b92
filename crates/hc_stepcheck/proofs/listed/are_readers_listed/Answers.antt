use Rattle.std.proofs.Common.{arith}
use Rattle.hc_signal.specs.declared.signal.NodeId.{NodeId}
use Rattle.hc_stepcheck.specs.Checked.{IsReaderListed}
use Rattle.hc_steps.proofs.Lists.{all_of, one_more, there}
use Rattle.hc_stepcheck.proofs.listed.are_readers_listed.Goals as goal

pub ids-preserved : goal.ids-preserved
ids-preserved c =
    one_more (λ (m : NodeId). IsReaderListed c.args.site.now.form.now.circuit c.args.site.now.plan.now c.args.part m.0) c.args.ids.now c.ids.id-index _
    (there c.args.ids.now c.ids.id-index (record { 0 = 0 }) c.ids-test.true) (c.is_reader_listed.ensures c.if-is_reader_listed.true) c.ids.invariant

pub returns : goal.returns
returns c = λ t. all_of (λ (m : NodeId). IsReaderListed c.args.site.now.form.now.circuit c.args.site.now.plan.now c.args.part m.0) c.args.ids.now c.ids.id-index
    (omega (arith, c.ids-test.false)) c.ids.invariant
