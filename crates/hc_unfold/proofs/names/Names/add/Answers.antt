use Rattle.std.proofs.Common.{◌≡◌, ◌++◌, ◌∷◌, [], ap, ◌∙◌, subst, sym}
use Rattle.std.specs.Prelude.{None}
use Rattle.hc_unfold.specs.Names.{Names, meaning}
use Rattle.hc_unfold.proofs.Table.{insert_new}
use Rattle.hc_unfold.proofs.names.Names.add.Goals as goal

pub returns-clause-ok : goal.returns-clause-ok
returns-clause-ok c =
    let new : meaning c.self.inside.targets.entries c.args.key ≡ None = subst (λ (names : Names). meaning names c.args.key ≡ None) (sym c.self.view_is) c.requires in
    c.in_ok-insert.ensures.entries ∙ insert_new c.self.inside.targets.entries c.args.key c.args.target new
    ∙ ap (λ (names : Names). names ++ (c.args.key, c.args.target) ∷ []) c.self.view_is
