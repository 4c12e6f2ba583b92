use Rattle.std.proofs.Common.{ap, subst, sym, ◌∙◌}
use Rattle.std.specs.Map.{keys_of}
use Rattle.hc_names.specs.Numbers.{AreNumbered}
use Rattle.hc_names.proofs.Table.{mangled_free, mangled_numbered, numbered_added, numbered_next, given_below, keys_added, keys_set}
use Rattle.hc_names.proofs.used.give.Goals as goal

pub first_free-requires : goal.first_free-requires
first_free-requires c = given_below c.args.names.now.entries c.args.name.now c.in-Some.from c.requires (sym c.number_of.ensures ∙ c.in-Some.is)

pub returns-in_ok-add-in-None-clause-numbered : goal.returns-in_ok-add-in-None-clause-numbered
returns-in_ok-add-in-None-clause-numbered c =
    subst AreNumbered (sym c.in_ok-add-in-None.ensures.added) (numbered_added c.args.names.now.entries c.in_ok-given-in-None.given c.requires)

pub returns-in_ok-add-in-None-clause-mangled : goal.returns-in_ok-add-in-None-clause-mangled
returns-in_ok-add-in-None-clause-mangled c = mangled_free c.args.names.now.entries c.args.name.now c.in_ok-given-in-None.given (sym c.number_of.ensures ∙ c.in-None.is) c.in_ok-given-in-None.ensures

pub returns-in_ok-add-in-Some-clause-numbered : goal.returns-in_ok-add-in-Some-clause-numbered
returns-in_ok-add-in-Some-clause-numbered c =
    subst AreNumbered (sym (rw c.in_ok-add-in-Some.ensures.added at c.set_number.ensures))
    (numbered_next c.args.names.now.entries c.args.name.now c.in_ok-number-in-Some.given c.in_ok-number-in-Some.number c.requires c.in_ok-number-in-Some.ensures.named
    c.in_ok-number-in-Some.ensures.first)

pub returns-in_ok-add-in-Some-clause-mangled : goal.returns-in_ok-add-in-Some-clause-mangled
returns-in_ok-add-in-Some-clause-mangled c =
    let found = c.in_ok-number-in-Some in
    mangled_numbered c.args.names.now.entries c.args.name.now found.given c.in-Some.from found.number
    (sym c.number_of.ensures ∙ c.in-Some.is) found.ensures.free found.ensures.named found.ensures.first

pub returns-in_ok-add-in-Some-clause-given : goal.returns-in_ok-add-in-Some-clause-given
returns-in_ok-add-in-Some-clause-given c =
    let added = rw c.in_ok-add-in-Some.ensures.added at c.set_number.ensures in
    ap keys_of added ∙ keys_set _ c.args.name.now _ ∙ keys_added c.args.names.now.entries c.in_ok-number-in-Some.given 0
