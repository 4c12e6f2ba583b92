use Rattle.std.proofs.KnownBytes.{Appends-trans}
use Rattle.hc_output.proofs.Sends.{front_of_both, front_of_first, on_any, on_err, on_ok}
use Rattle.hc_output.proofs.send.send_both.Goals as goal

pub returns-in_err-write_all-clause-front : goal.returns-in_err-write_all-clause-front
returns-in_err-write_all-clause-front g c = λ out listed. on_any c.from_residual.result _ (front_of_first _ _ c.args.text.now out c.in_err-write_all.ensures.front)

pub returns-clause-all : goal.returns-clause-all
returns-clause-all g c = λ out listed. on_ok c.play_from_start.result _ _ (Appends-trans _ _ _ c.args.text.now out c.in_ok-write_all.ensures.all) (c.play_from_start.ensures.all out listed)

pub returns-clause-front : goal.returns-clause-front
returns-clause-front g c = λ out listed. on_err c.play_from_start.result _ _ (front_of_both _ _ _ c.args.text.now out c.in_ok-write_all.ensures.all) (c.play_from_start.ensures.front out listed)
