-- The log of turns names the entries that they name.
use Rattle.std.proofs.Common.{◌≡◌, zero, suc, List, [], ◌∷◌, map, refl, ap, ◌∙◌}
use Rattle.hc_canon.specs.FormView.{FormView}
use Rattle.hc_dbstate.specs.declared.turns.Entered.{Entered}
use Rattle.hc_dbstate.specs.declared.turns.Turn.{Turn}
use Rattle.hc_dbstate.proofs.Triples.{NameEntries, some_at, triples, triples_step}

pub log_entries : (entries : List FormView) (ts : List Turn) → NameEntries entries ts → map (λ (x : Entered). x.entry) (triples entries ts) ≡ map (λ (t : Turn). t.entry) ts
log_entries entries [] names = refl
log_entries entries (t ∷ ts) names =
    let form = some_at entries t.entry.0 (names zero t refl) in
    ap (map (λ (x : Entered). x.entry)) (triples_step entries t ts form.0 form.1) ∙ ap (λ ids. t.entry ∷ ids) (log_entries entries ts (λ k u e. names (suc k) u e))
