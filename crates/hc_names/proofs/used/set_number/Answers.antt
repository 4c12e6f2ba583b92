use Rattle.std.proofs.Common.{sym, ap, ◌∙◌}
use Rattle.std.specs.Option.{option_copied_mut}
use Rattle.hc_names.proofs.Table.{set_unfound}
use Rattle.hc_names.proofs.used.set_number.Goals as goal

pub returns-in_default : goal.returns-in_default
returns-in_default c =
    ap (λ m. m.entries) c.get_mut.follows.holds-at-none
    ∙ set_unfound c.args.names.now.entries c.args.name.now c.args.number (sym c.get_mut.ensures.value ∙ ap option_copied_mut c.in_default.is)
