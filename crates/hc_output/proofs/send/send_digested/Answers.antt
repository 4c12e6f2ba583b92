use Rattle.std.proofs.Common.{◌∙◌}
use Rattle.hc_output.proofs.Sends.{err_through, front_of_pair}
use Rattle.hc_output.specs.declared.send.SendStop.TheVariants as stop
use Rattle.hc_output.proofs.send.send_digested.Goals as goal

pub returns-in-Ok-clause-front : goal.returns-in-Ok-clause-front
returns-in-Ok-clause-front g c = λ rows listed. err_through c.stopped.result c.send_pair.result stop.Failed _ c.stopped.ensures.failed
    (front_of_pair c.send_pair.result _ _ c.args.text.now _ _ (c.deref.ensures.value ∙ c.in-Ok.ensures rows listed) c.send_pair.ensures.front)
