use Rattle.hc_words.proofs.Numbers.{is_joined, no_joined}
use Rattle.hc_words.proofs.form.joined_number.Goals as goal

pub returns-in-None : goal.returns-in-None
returns-in-None c = no_joined c.args.prefix.now c.args.word.now c.in-None.ensures.cases

pub returns-in-Some : goal.returns-in-Some
returns-in-Some c =
    let found = c.in-Some.ensures.cases in
    is_joined c.args.prefix.now c.args.word.now c.in-Some.number.now (rw found.2 found.1.1)
