use Rattle.std.proofs.Common.{sym, subst}
use Rattle.hc_lang.specs.Found.{Gives}
use Rattle.hc_lang.specs.Structure as s
use Rattle.hc_lang.proofs.StructureSteps.{outside}
use Rattle.hc_lang.proofs.structure.step.Goals as goal

pub returns-in_default : goal.returns-in_default
returns-in_default c =
    subst (λ x. Gives (λ o. o) c.elsewhere.result (s.misplaced_at c.args.number x))
    (sym (outside c.args.most c.args.outline.circuits c.args.outline.place c.args.number c.args.line c.in_default.not-Circuit)) c.elsewhere.ensures
