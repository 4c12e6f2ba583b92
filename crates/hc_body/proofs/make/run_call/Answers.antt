use Rattle.hc_body.proofs.Runs.{not_opened, runs_all, refuses_all, counts_all}
use Rattle.hc_body.proofs.make.run_call.Goals as goal

pub returns-in-Err-clause-done : goal.returns-in-Err-clause-done
returns-in-Err-clause-done c = not_opened c.args.design.now c.args.path.now c.args.circuit.now c.args.args.now c.in-Err.stop c.in-Err.ensures.done

pub returns-in-Ok-run_block-clause-done : goal.returns-in-Ok-run_block-clause-done
returns-in-Ok-run_block-clause-done c = runs_all c.args.design.now c.args.path.now c.args.circuit.now c.args.args.now c.in-Ok.run'.body c.in-Ok.run'.env c.in-Ok.run'.count
    c.as_slice.result.now _ c.in-Ok.ensures.done c.in-Ok.ensures.env c.in-Ok.ensures.count c.as_slice.ensures c.in-Ok-run_block.ensures.done

pub returns-in-Ok-run_block-clause-count : goal.returns-in-Ok-run_block-clause-count
returns-in-Ok-run_block-clause-count c = counts_all c.args.design.now c.args.path.now c.args.circuit.now c.args.args.now c.in-Ok.run'.body c.run_block.new.run.body c.in-Ok.run'.env
    c.in-Ok.run'.count c.run_block.new.run.count c.as_slice.result.now c.in-Ok.ensures.env c.in-Ok.ensures.count c.as_slice.ensures c.in-Ok-run_block.ensures.done

pub returns-in-Err-run_block-clause-done : goal.returns-in-Err-run_block-clause-done
returns-in-Err-run_block-clause-done c = refuses_all c.args.design.now c.args.path.now c.args.circuit.now c.args.args.now c.in-Ok.run'.body c.in-Ok.run'.env c.in-Ok.run'.count
    c.as_slice.result.now c.in-Err-run_block.stop c.in-Ok.ensures.done c.in-Ok.ensures.env c.in-Ok.ensures.count c.as_slice.ensures c.in-Err-run_block.ensures.done
