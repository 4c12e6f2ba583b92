use Rattle.std.proofs.Common.{◌≡◌, Bool, true, false, cond, Some, refl, codes, ap, sym, ◌∙◌, map, string_bytes, Global, unwrap_or, option_map}
use Rattle.std.specs.Str.Parse.{digits_value}
use Rattle.hc_words.specs.Items.{is_about, text_at}
use Rattle.hc_words.proofs.FormLaw.{no_job, spelled_by}
use Rattle.hc_words.proofs.Law.{flat_text, seed_lawful, verb_lawful, workers_lawful}
use Rattle.hc_words.proofs.job.read_words.Goals as goal

pub returns-then-not-has_form-clause-err : goal.returns-then-not-has_form-clause-err
returns-then-not-has_form-clause-err c e = no_job (map (string_bytes {Z = Global}) c.args.words.now) (sym c.if-not-has_form.ensures)

pub parsed-requires : goal.parsed-requires
parsed-requires c = spelled_by (map (string_bytes {Z = Global}) c.args.words.now) (sym c.if-not-has_form.ensures)

pub job_of-requires : goal.job_of-requires
job_of-requires c =
    let some = spelled_by (map (string_bytes {Z = Global}) c.args.words.now) (sym c.if-not-has_form.ensures) in
    let values = c.in-Ok.ensures.ok some.0 some.1 in
    let verb = verb_lawful some.0 some.1.lawful some.1.has_command in
    record {
      verb = verb.0;
      verb_is = values.verb ∙ verb.1;
      verb_lawful = verb.2;
      workers = unwrap_or (text_at (codes "workers") some.0) (codes "1");
      workers_is = values.workers;
      workers_lawful = workers_lawful some.0 some.1.lawful;
      seed = unwrap_or (text_at (codes "seed") some.0) (codes "0");
      seed_is = values.seed;
      seed_lawful = seed_lawful some.0 some.1.lawful;
    }

pub returns-in-Ok-clause-ok : goal.returns-in-Ok-clause-ok
returns-in-Ok-clause-ok c =
    let some = spelled_by (map (string_bytes {Z = Global}) c.args.words.now) (sym c.if-not-has_form.ensures) in
    let values = c.in-Ok.ensures.ok some.0 some.1 in
    let read = c.job_of.ensures in
    let there = is_about (codes "flat") some.0 in
    let by : (b : Bool) → there ≡ b → c.job_of.result.flat ≡ b = λ b. elim b as (λ b. there ≡ b → c.job_of.result.flat ≡ b) [
      | true ↦ λ is. read.set (values.flat ∙ ap Some (flat_text some.0 ∙ ap (λ x. cond x (codes "true") (codes "false")) is))
      | false ↦ λ is. read.unset (values.flat ∙ ap Some (flat_text some.0 ∙ ap (λ x. cond x (codes "true") (codes "false")) is))
    ] in
    record {
      items = some.0;
      spelling = some.1;
      verb = sym values.verb ∙ read.verb;
      workers = ap (λ o. unwrap_or o 0) (sym read.workers ∙ ap (option_map (digits_value 10)) values.workers);
      flat = by there refl;
      seed = ap (λ o. unwrap_or o 0) (sym read.seed ∙ ap (option_map (digits_value 10)) values.seed);
    }

pub returns-in-Ok-clause-none : goal.returns-in-Ok-clause-none
returns-in-Ok-clause-none c none =
    let some = spelled_by (map (string_bytes {Z = Global}) c.args.words.now) (sym c.if-not-has_form.ensures) in
    absurd (none some.0 some.1)

pub returns-clause-none : goal.returns-clause-none
returns-clause-none c none =
    let some = spelled_by (map (string_bytes {Z = Global}) c.args.words.now) (sym c.if-not-has_form.ensures) in
    absurd (none some.0 some.1)
