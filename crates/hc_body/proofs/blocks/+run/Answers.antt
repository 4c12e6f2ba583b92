use Rattle.std.proofs.Common.{◌∷◌, Bool, true, false, sym, ap, subst, ◌∙◌}
use Rattle.std.proofs.Common.{arith, map, flat_map}
use Rattle.std.proofs.lemmas.Int.{ints, to_z-of_z}
use Rattle.std.specs.Prelude.{ℤ, pos, ◌+ℤ◌}
use mir.Syntax.{w64}
use mir.Val.{to_z, of_z}
use Rattle.std.specs.Prelude.{Result, Ok}
use Rattle.hc_num.specs.Value.{Bindings}
use Rattle.hc_statements.specs.Unrolled.{events_of}
use Rattle.hc_body.specs.Running.{Progress, run}
use Rattle.hc_statements.specs.Gives.{Refuses}
use Rattle.hc_fault.specs.declared.fault.Fault.{Fault}
use Rattle.hc_statements.specs.Unrolled.{Events, range, turn}
use Rattle.hc_body.proofs.Choice.{choice_runs}
use Rattle.hc_body.proofs.Runs.{block_more, block_refuses, turn_runs}
use Rattle.hc_body.proofs.Turns.{turns_step, turns_stop}
use Rattle.hc_body.proofs.blocks.+run.Goals as goal

pub run_block-stmts-preserved : goal.run_block-stmts-preserved
run_block-stmts-preserved t c = record {
  so_far = block_more c.args.design.now c.args.path.now c.args.run.now.env c.args.stmts.now c.stmts.stmt-index c.stmt-item.result (c.stmts.run.count, c.stmts.run.body)
      (c.run_stmt.new.run.count, c.run_stmt.new.run.body) _ c.stmts-test.true c.stmt-item.is
      (ap (λ (b : Bindings). run c.args.design.now c.args.path.now (events_of c.stmt-item.result b) (c.stmts.run.count, c.stmts.run.body)) (sym c.stmts.invariant.env)
      ∙ c.in-Ok.ensures.done) c.stmts.invariant.so_far;
  env = c.in-Ok.ensures.env ∙ c.stmts.invariant.env;
  known = c.in-Ok.ensures.known;
}

pub run_block-returns-in-Err-clause-done : goal.run_block-returns-in-Err-clause-done
run_block-returns-in-Err-clause-done t c = block_refuses c.args.design.now c.args.path.now c.args.run.now.env c.stmts.run.env c.args.stmts.now c.stmts.stmt-index c.stmt-item.result
    (c.stmts.run.count, c.stmts.run.body) c.in-Err.stop _ c.stmts-test.true c.stmt-item.is c.stmts.invariant.env c.in-Err.ensures.done c.stmts.invariant.so_far

pub run_turn-returns-in-Err-run_block-clause-done : goal.run_turn-returns-in-Err-run_block-clause-done
run_turn-returns-in-Err-run_block-clause-done t c = subst (λ r. Refuses c.in-Err-run_block.stop r)
    (sym (turn_runs c.args.design.now c.args.path.now c.args.line c.args.run.now.count c.count_line.new.count c.args.var.now c.args.body.now c.args.run.now.env c.bind.new.self
    c.args.value c.args.run.now.body c.in_ok-count_line.ensures (c.in-Ok.ensures.ok ∙ ap (λ (z : ℤ). (c.args.var.now, z) ∷ c.args.run.now.env)
    (to_z-of_z w64 c.args.value c.ranges.value)))) c.in-Err-run_block.ensures.done

pub run_turn-returns-clause-done : goal.run_turn-returns-clause-done
run_turn-returns-clause-done t c = turn_runs c.args.design.now c.args.path.now c.args.line c.args.run.now.count c.count_line.new.count c.args.var.now c.args.body.now
    c.args.run.now.env c.bind.new.self c.args.value c.args.run.now.body c.in_ok-count_line.ensures
    (c.in-Ok.ensures.ok ∙ ap (λ (z : ℤ). (c.args.var.now, z) ∷ c.args.run.now.env) (to_z-of_z w64 c.args.value c.ranges.value)) ∙ c.in-Ok-run_block.ensures.done

pub run_turns-returns-in-Err-clause-done : goal.run_turns-returns-in-Err-clause-done
run_turns-returns-in-Err-clause-done t c =
    let T : Bindings → ℤ → Events = turn c.args.line c.args.var.now (map events_of c.args.body.now) in
    let all : ℤ → ℤ → Result Progress Fault = λ a b. run c.args.design.now c.args.path.now (flat_map (T c.args.run.now.env) (range a b)) (c.args.run.now.count, c.args.run.now.body) in
    let y : ℤ = to_z w64 (of_z w64 c.args.upto) in
    turns_stop c.args.design.now c.args.path.now T c.args.run.now.env c.turns.run.env (to_z w64 c.turns.value-bits) _ y (c.turns.run.count, c.turns.run.body) c.in-Err.stop
    (all c.args.from c.args.upto) c.turns-test.true c.turns.invariant.env c.in-Err.ensures.done (omega (arith, ints))
    (c.turns.invariant.so_far ∙ ap (λ (z : ℤ). all z y) (to_z-of_z w64 c.args.from c.ranges.from) ∙ ap (all c.args.from) (to_z-of_z w64 c.args.upto c.ranges.upto))

pub run_turns-turns-preserved : goal.run_turns-turns-preserved
run_turns-turns-preserved t c = record {
  so_far = turns_step c.args.design.now c.args.path.now (turn c.args.line c.args.var.now (map events_of c.args.body.now)) c.args.run.now.env c.turns.run.env
      (to_z w64 c.turns.value-bits) _ (to_z w64 (of_z w64 (to_z w64 c.turns.value-bits +ℤ pos 1))) (to_z w64 (of_z w64 c.args.upto)) (c.turns.run.count, c.turns.run.body)
      (c.run_turn.new.run.count, c.run_turn.new.run.body) _ c.turns-test.true (omega (arith, ints)) c.turns.invariant.env c.in-Ok.ensures.done (omega (arith, ints)) c.turns.invariant.so_far;
  env = c.in-Ok.ensures.env ∙ c.turns.invariant.env;
  known = c.in-Ok.ensures.known;
}

pub run_stmt-returns-in-Ok-clause-done : goal.run_stmt-returns-in-Ok-clause-done
run_stmt-returns-in-Ok-clause-done t c = choice_runs c.args.design.now c.args.path.now c.args.stmt.now c.in-If.cond c.in-If.yes c.in-If.no c.as_slice-then-second.result.now
    c.args.run.now.env c.args.run.now.count c.count_line-in-If.new.count c.args.run.now.body true c.in-If.is c.in_ok-count_line-in-If.ensures
    (c.in_ok-second-in-If.ensures ∙ ap (λ (x : Bool). let r : Result Bool Fault = Ok x in r) c.if-second.true) c.as_slice-then-second.ensures ∙ c.in-Ok.ensures.done

pub run_stmt-returns-in-Err-clause-done : goal.run_stmt-returns-in-Err-clause-done
run_stmt-returns-in-Err-clause-done t c = subst (λ (r : Result Progress Fault). Refuses c.in-Err.stop r)
    (sym (choice_runs c.args.design.now c.args.path.now c.args.stmt.now c.in-If.cond c.in-If.yes c.in-If.no c.as_slice-then-second.result.now c.args.run.now.env
    c.args.run.now.count c.count_line-in-If.new.count c.args.run.now.body true c.in-If.is c.in_ok-count_line-in-If.ensures
    (c.in_ok-second-in-If.ensures ∙ ap (λ (x : Bool). let r : Result Bool Fault = Ok x in r) c.if-second.true) c.as_slice-then-second.ensures)) c.in-Err.ensures.done

pub run_stmt-returns-in-Ok-run_block-clause-done : goal.run_stmt-returns-in-Ok-run_block-clause-done
run_stmt-returns-in-Ok-run_block-clause-done t c = choice_runs c.args.design.now c.args.path.now c.args.stmt.now c.in-If.cond c.in-If.yes c.in-If.no
    c.as_slice-else-second.result.now c.args.run.now.env c.args.run.now.count c.count_line-in-If.new.count c.args.run.now.body false c.in-If.is c.in_ok-count_line-in-If.ensures
    (c.in_ok-second-in-If.ensures ∙ ap (λ (x : Bool). let r : Result Bool Fault = Ok x in r) c.if-second.false) c.as_slice-else-second.ensures ∙ c.in-Ok-run_block.ensures.done

pub run_stmt-returns-in-Err-run_block-clause-done : goal.run_stmt-returns-in-Err-run_block-clause-done
run_stmt-returns-in-Err-run_block-clause-done t c = subst (λ (r : Result Progress Fault). Refuses c.in-Err-run_block.stop r)
    (sym (choice_runs c.args.design.now c.args.path.now c.args.stmt.now c.in-If.cond c.in-If.yes c.in-If.no c.as_slice-else-second.result.now c.args.run.now.env
    c.args.run.now.count c.count_line-in-If.new.count c.args.run.now.body false c.in-If.is c.in_ok-count_line-in-If.ensures
    (c.in_ok-second-in-If.ensures ∙ ap (λ (x : Bool). let r : Result Bool Fault = Ok x in r) c.if-second.false) c.as_slice-else-second.ensures)) c.in-Err-run_block.ensures.done
