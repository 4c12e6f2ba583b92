use Rattle.std.proofs.Common.{ap, sym, ◌∙◌}
use Rattle.std.proofs.lemmas.Option.{slice_get-get_or}
use Rattle.std.specs.Prelude.{Some}
use Rattle.hc_workers.proofs.Knowing.{one_finished, ready_at}
use Rattle.hc_workers.proofs.finish.finish_at.Goals as goal

pub finish_row-requires-clause-row : goal.finish_row-requires-clause-row
finish_row-requires-clause-row g c = ready_at _ _ _ c.requires.ready (slice_get-get_or c.args.rows.now c.args.place c.index-rows-place.result c.requires.within ∙ ap Some (sym c.index-rows-place.is))

pub returns-clause-ok : goal.returns-clause-ok
returns-clause-ok g c =
    one_finished _ _ _ _ _ _ _ _ c.in-Ok.out (slice_get-get_or c.args.rows.now c.args.place c.index-rows-place.result c.requires.within ∙ ap Some (sym c.index-rows-place.is))
    c.in-Ok.ensures.ok c.in_ok-push.ensures.items
