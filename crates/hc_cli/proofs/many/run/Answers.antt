use Rattle.std.proofs.Common.{map, string_bytes, Global, ◌∙◌}
use Rattle.hc_cli.specs.Histories.{IsHistoryOf}
use Rattle.hc_cli.proofs.Ends.{cut_end, legal_end, settled_end, status_through}
use Rattle.hc_cli.proofs.many.run.Goals as goal

pub returns-clause-front : goal.returns-clause-front
returns-clause-front g c = cut_end IsHistoryOf (map (string_bytes {Z = Global}) c.args.words.now) _ c.in-Ok.prepared c.finished.result c.in-Ok.ensures.due _ _ c.send-sent.result
    (status_through _ _ _ c.send-sent.result c.finished.ensures.sent c.ended.ensures.status) c.finished.ensures.memory
    (λ other. c.finished.ensures.history other ∙ c.ended.ensures.history) c.send-sent.ensures.front

pub returns-clause-settled : goal.returns-clause-settled
returns-clause-settled g c = λ source. settled_end IsHistoryOf (map (string_bytes {Z = Global}) c.args.words.now) _ c.in-Ok.prepared c.finished.result c.in-Ok.ensures.due _ _
    c.send-sent.result (status_through _ _ _ c.send-sent.result c.finished.ensures.sent c.ended.ensures.status) c.finished.ensures.memory c.send-sent.ensures.cause

pub returns-clause-legal : goal.returns-clause-legal
returns-clause-legal g c = legal_end IsHistoryOf (map (string_bytes {Z = Global}) c.args.words.now) _ c.in-Ok.prepared c.finished.result c.in-Ok.ensures.due
    (λ h calls is. is.legal) c.send-sent.result c.finished.ensures.memory (λ other. c.finished.ensures.history other ∙ c.ended.ensures.history)
