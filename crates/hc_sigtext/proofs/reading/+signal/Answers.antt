use Rattle.hc_sigtext.proofs.SigSteps.{enclosed_gives}
use Rattle.hc_sigtext.proofs.reading.+signal.Goals as goal

pub enclosed-returns : goal.enclosed-returns
enclosed-returns n c = enclosed_gives _ _ c.args.depth c.args.head c.args.tokens.now c.if-depth-eq0.false c.body.ensures
