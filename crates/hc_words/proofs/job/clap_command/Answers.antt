use Rattle.std.proofs.Common.{◌≡◌, codes, ap, ap₂, ◌∙◌, true}
use Rattle.clap.specs.Words.{app_of, new_app, with_rule}
use Rattle.clap.specs.Simple.{app_of_fields, on_top}
use Rattle.hc_words.specs.Rules.{IsProgram, app, option_rule}
use Rattle.hc_words.proofs.Taken.{job_taken, job_values}
use Rattle.hc_words.proofs.job.clap_command.Goals as goal

pub returns : goal.returns
returns c =
    let verb = c.command_arg-command.ensures.rule in
    let names = verb.0 in
    let plain_is : app_of c.no_binary_name.result ≡ on_top (λ s. record s { no_binary_name = true }) (new_app (codes "hardcaml")) =
    ap app_of_fields c.no_binary_name.ensures ∙ ap (on_top (λ s. record s { no_binary_name = true })) c.new.ensures.app in
    let program_is : app_of c.in_ok-program.program ≡ app names =
    c.in_ok-program.ensures.shape c.flat_arg-flat.ensures.local
    ∙ ap₂ with_rule
    (c.in_ok-arg-3.ensures.shape c.option_arg-seed.ensures.local
    ∙ ap₂ with_rule
    (c.in_ok-arg-2.ensures.shape c.option_arg-workers.ensures.local
    ∙ ap₂ with_rule (c.in_ok-arg.ensures.shape c.command_arg-command.ensures.local ∙ ap₂ with_rule plain_is verb.2) (c.option_arg-workers.ensures.rule ∙ ap (λ p. option_rule (codes "workers") p (codes "1")) c.workers_parser.ensures))
    (c.option_arg-seed.ensures.rule ∙ ap (λ p. option_rule (codes "seed") p (codes "0")) c.seed_parser.ensures))
    c.flat_arg-flat.ensures.rule in
    let is : IsProgram (app_of c.in_ok-program.program) = (names, verb.1, program_is) in
    record { program = is; takes = job_taken (app_of c.in_ok-program.program) is; values = job_values (app_of c.in_ok-program.program) is }
