use Rattle.hc_output.proofs.Sends.{err_through, ok_through, written_front, written_ok}
use Rattle.hc_output.specs.declared.kinds.ListingForm.TheVariants as form
use Rattle.hc_output.specs.declared.send.SendStop.TheVariants as stop
use Rattle.hc_output.proofs.send.send_played.Goals as goal

pub returns-in-Whole-clause-all : goal.returns-in-Whole-clause-all
returns-in-Whole-clause-all g c = λ rows listed.
    written_ok c.stopped.result c.args.played.now.form form.Whole _ _ c.args.text.now rows c.in-Whole.is
    (ok_through c.stopped.result c.send_both.result _ c.stopped.ensures.ok (c.send_both.ensures.all rows listed))

pub returns-in-Whole-clause-front : goal.returns-in-Whole-clause-front
returns-in-Whole-clause-front g c = λ rows listed of.
    written_front c.args.played.now.form form.Whole _ _ c.args.text.now rows c.in-Whole.is
    (err_through c.stopped.result c.send_both.result stop.Failed _ c.stopped.ensures.failed (c.send_both.ensures.front rows listed) of)

pub returns-in-Digest-clause-front : goal.returns-in-Digest-clause-front
returns-in-Digest-clause-front g c = λ rows listed of.
    written_front c.args.played.now.form form.Digest _ _ c.args.text.now rows c.in-Digest.is (c.send_digested.ensures.front rows listed of)
