use Rattle.hc_output.proofs.Sends.{sent_listing, sent_listing_front}
use Rattle.hc_output.specs.declared.send.SendStop.TheVariants as stop
use Rattle.hc_output.proofs.send.write_output.Goals as goal

pub returns-in-Ok-clause-all : goal.returns-in-Ok-clause-all
returns-in-Ok-clause-all g c = λ out is. sent_listing c.send_played.result c.deref-in-Ok.result.now c.args.output.now.text.items c.args.output.now.played c.in-Some.played out _ _
    c.deref-in-Ok.ensures.value c.in-Some.is is c.send_played.ensures.all

pub returns-in-Ok-clause-front : goal.returns-in-Ok-clause-front
returns-in-Ok-clause-front g c = λ out is. sent_listing_front c.send_played.result stop.Failed c.deref-in-Ok.result.now c.args.output.now.text.items c.args.output.now.played
    c.in-Some.played out _ _ c.deref-in-Ok.ensures.value c.in-Some.is is c.send_played.ensures.front
