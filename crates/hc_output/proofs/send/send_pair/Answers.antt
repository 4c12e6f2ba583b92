use Rattle.hc_output.proofs.Sends.{front_of_both, front_of_first, on_any, on_err}
use Rattle.hc_output.proofs.send.send_pair.Goals as goal

pub returns-in_err-write_all-clause-front : goal.returns-in_err-write_all-clause-front
returns-in_err-write_all-clause-front g c = on_any c.from_residual.result _ (front_of_first _ _ c.args.first.now c.args.second.now c.in_err-write_all.ensures.front)

pub returns-clause-front : goal.returns-clause-front
returns-clause-front g c = on_err c.write_all-2.result _ _ (front_of_both _ _ _ c.args.first.now c.args.second.now c.in_ok-write_all.ensures.all) c.write_all-2.ensures.front
