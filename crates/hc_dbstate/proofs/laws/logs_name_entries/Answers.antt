use Rattle.std.proofs.Common.{◌≡◌, Some, length, subst, ap, ◌∙◌}
use Rattle.std.specs.Prelude.{slice_get}
use Rattle.hc_canon.specs.FormView.{FormView}
use Rattle.hc_signal.specs.Member.{Has}
use Rattle.hc_dbstate.proofs.Triples.{some_at, legal_names, log_is, triple_is, triples_many, triples_at, triples_from}
use Rattle.hc_dbstate.proofs.laws.logs_name_entries.Goals as goal

pub returns-clause-many : goal.returns-clause-many
returns-clause-many c h legal = ap length (log_is h) ∙ triples_many h.entries h.turns (legal_names h legal)

pub returns-clause-turns : goal.returns-clause-turns
returns-clause-turns c h legal k t e =
    let x : (x : FormView) × (slice_get h.entries t.entry.0 ≡ Some x) = some_at h.entries t.entry.0 (legal_names h legal k t e) in
    (x.0, x.1, ap (λ l. slice_get l k) (log_is h) ∙ triples_at h.entries h.turns (legal_names h legal) k t e ∙ triple_is h.entries t x.0 x.1)

pub returns-clause-forms : goal.returns-clause-forms
returns-clause-forms c h e legal among = triples_from h.entries h.turns e (subst (λ l. Has l e) (log_is h) among)
