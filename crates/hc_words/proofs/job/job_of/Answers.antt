use Rattle.std.proofs.Common.{Some, ap, sym, ◌∙◌, option_map, arith}
use Rattle.std.specs.Str.Parse.{digits_value}
use Rattle.hc_words.proofs.Numbers.{number_read}
use Rattle.hc_words.proofs.job.job_of.Goals as goal

pub returns-clause-workers : goal.returns-clause-workers
returns-clause-workers c =
    let lawful = c.requires in
    let read = number_read 32 1 64 1 lawful.workers c.get_one.result (omega arith) (c.get_one.ensures.value lawful.workers lawful.workers_is) lawful.workers_lawful in
    ap (option_map (digits_value 10)) lawful.workers_is ∙ ap Some (sym read ∙ sym c.unwrap_or-workers.ensures)

pub returns-clause-seed : goal.returns-clause-seed
returns-clause-seed c =
    let lawful = c.requires in
    let read = number_read 64 0 18446744073709551615 0 lawful.seed c.get_one-2.result (omega arith) (c.get_one-2.ensures.value lawful.seed lawful.seed_is) lawful.seed_lawful in
    ap (option_map (digits_value 10)) lawful.seed_is ∙ ap Some (sym read ∙ sym c.unwrap_or-seed.ensures)
