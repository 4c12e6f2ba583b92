use Rattle.std.proofs.Common.{ap, length, subst, sym, ◌∙◌}
use Rattle.std.proofs.lemmas.Result.{IfOk-at_ok}
use Rattle.hc_turn.specs.Passes.{known}
use Rattle.hc_plan.specs.Stepping.{outs_of}
use Rattle.hc_workers.specs.Working.{AreFinishedAt, AreReadyAt}
use Rattle.hc_workers.proofs.Heights.{level_many, level_ready, level_within}
use Rattle.hc_workers.proofs.levels.finish_level.Goals as goal

pub finish_many-pass-requires-after_bounds : goal.finish_many-pass-requires-after_bounds
finish_many-pass-requires-after_bounds g c κs within =
    let rows = c.args.rows.now in
    record {
      is_of = c.requires.lock;
      free = c.requires.free;
      some = c.requires.workers.0;
      many = c.requires.workers.1;
      knows = c.requires.knows;
      ready = subst (λ l. AreReadyAt rows l) (sym (c.as_slice.ensures.value ∙ c.in-Ok.ensures)) (level_ready rows c.args.height c.requires.heights);
    }

pub write-requires-clause-within : goal.write-requires-clause-within
write-requires-clause-within g c = level_within c.args.rows.now c.args.height (length c.args.outs.now) c.as_slice-in-Ok-list.result.now
    (c.as_slice-in-Ok-list.ensures.value ∙ c.in-Ok.ensures) c.requires.many

pub write-requires-clause-many : goal.write-requires-clause-many
write-requires-clause-many g c =
    level_many (known c.args.pass) (known c.finish_many-pass.result.0) c.args.rows.now (outs_of c.args.outs.now) c.as_slice.result.now c.in-Ok-list.list.items
    (IfOk-at_ok (λ list. AreFinishedAt (known c.args.pass) (known c.finish_many-pass.result.0) c.args.rows.now (outs_of c.args.outs.now) c.as_slice.result.now (outs_of list.items))
    c.in-Ok-list.is c.finish_many-pass.ensures.ok)
    ∙ ap length (c.as_slice.ensures.value ∙ sym c.as_slice-in-Ok-list.ensures.value)
