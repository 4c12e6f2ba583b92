use Rattle.std.proofs.Common.{map, string_bytes, Global}
use Rattle.std.proofs.lemmas.Result.{IfOk-weaker}
use Rattle.hc_cli.specs.Histories.{IsHistoryInOrder}
use Rattle.hc_cli.specs.Due.{reads_input}
use Rattle.hc_cli.proofs.Asked.{alone_of, ends_for}
use Rattle.hc_cli.proofs.DueLaws.{asked_left, refused_left}
use Rattle.hc_cli.proofs.Kept.{no_calls_in_order}
use Rattle.hc_cli.proofs.one.prepare.Goals as goal

pub returns-in-Ok-clause-due : goal.returns-in-Ok-clause-due
returns-in-Ok-clause-due g c = IfOk-weaker c.prepare_text.result _ _
    (λ p s. asked_left IsHistoryInOrder no_calls_in_order (map (string_bytes {Z = Global}) c.args.words.now) _ c.in-Ok.job p c.in-Ok.ensures.ok s) c.prepare_text.ensures.due

pub returns-in-Err-Words-clause-due : goal.returns-in-Err-Words-clause-due
returns-in-Err-Words-clause-due g c = refused_left IsHistoryInOrder no_calls_in_order (map (string_bytes {Z = Global}) c.args.words.now) _ (c.in-Err-Words.ensures.err c.in-Err-Words.field-0-is)

pub returns-in-Ok-clause-fault : goal.returns-in-Ok-clause-fault
returns-in-Ok-clause-fault g c = λ is. let fault = c.prepare_text.ensures.fault is in ((c.in-Ok.job, c.in-Ok.ensures.ok, fault.0), fault.1)

pub returns-in-Ok-clause-alone : goal.returns-in-Ok-clause-alone
returns-in-Ok-clause-alone g c = λ none. alone_of (reads_input c.in-Ok.job.verb) (λ reads. none (c.in-Ok.job, c.in-Ok.ensures.ok, reads)) c.prepare_text.ensures.alone

pub returns-in-Ok-clause-end : goal.returns-in-Ok-clause-end
returns-in-Ok-clause-end g c = let words = map (string_bytes {Z = Global}) c.args.words.now in ends_for words _ _ c.in-Ok.job c.prepare_text.result
    (c.one_job.ensures words) c.in-Ok.ensures.ok c.prepare_text.ensures.end
