use Rattle.std.proofs.Common.{List, ◌<◌, ◌^◌, sym, ap, subst, ◌∙◌, arith}
use Rattle.std.specs.Prelude.{sum_by}
use Rattle.hc_signal.specs.declared.signal.Memory.{Memory}
use Rattle.hc_signal.specs.Weight.{graph_words}
use Rattle.hc_check.specs.CheckStop.{IsStop}
use Rattle.hc_check.specs.declared.rules.CheckStop.{CheckStop}
use Rattle.hc_check.specs.declared.rules.CheckStop.TheVariants.{Broken}
use Rattle.hc_body.proofs.Finished.{few_words, breaks_answer, whole_answer}
use Rattle.hc_body.proofs.finish.finish.Goals as goal

pub words_of-words-requires : goal.words_of-words-requires
words_of-words-requires c = subst (λ (l : List Memory). sum_by (λ (m : Memory). m.size) l < 2 ^ 64) (sym c.memories.ensures) (few_words c.finish-made.result c.lawful.ensures)

pub returns-in-Ok : goal.returns-in-Ok
returns-in-Ok c =
    let count = c.requires.count in
    let from = c.from.ensures in
    let rows = c.weight.ensures.value in
    whole_answer c.args.design.now c.args.circuit.now c.args.args.now c.args.path.now c.args.run.body c.finish-made.result _ c.words_of-words.result c.requires.done
    c.finish-made.ensures c.in-Ok.ensures.passed (omega (arith, count, from, rows))
    (c.words_of-words.ensures ∙ ap (λ (l : List Memory). sum_by (λ (m : Memory). m.size) l) c.memories.ensures ∙ ap graph_words c.finish-made.ensures)

pub returns-in-Err-Broken : goal.returns-in-Err-Broken
returns-in-Err-Broken c =
    let stop : IsStop c.finish-made.result (Broken c.in-Err-Broken.kind c.in-Err-Broken.which) = subst (λ (s : CheckStop). IsStop c.finish-made.result s) c.in-Err-Broken.field-0-is
    c.in-Err-Broken.ensures.broken in
    breaks_answer c.args.design.now c.args.circuit.now c.args.args.now c.args.path.now c.args.run.body c.finish-made.result c.as_slice.result.now stop.0 c.in-Err-Broken.which
    c.line_broken-line.result c.in-Err-Broken.kind c.refused_at.result c.requires.done c.finish-made.ensures c.as_slice.ensures stop.1 stop.2
    (c.line_broken-line.ensures stop.0 stop.1) c.refused_at.ensures
