-- An entry keeps its form as entries are added.
use Rattle.std.proofs.Common.{◌≡◌, Bool, true, false, List, [], ◌∷◌, ◌++◌, sym, subst}
use Rattle.std.specs.Prelude.{slice_get, Some}
use Rattle.hc_canon.specs.declared.form.EntryId.{EntryId}
use Rattle.hc_canon.specs.FormView.{FormView}
use Rattle.hc_canon.proofs.LaidOut.{slice_left}
use Rattle.hc_dbstate.specs.declared.turns.Entered.{Entered}
use Rattle.hc_dbstate.specs.History.{History, IsLegal, log}
use Rattle.hc_dbstate.specs.Insertion.{IsInserted, entries_after}
use Rattle.hc_dbstate.proofs.Replayed.{Extends, log_grown}

-- through an insertion
pub form_inserted : (old new : History) (form : FormView) (id : EntryId) → IsInserted old new form id → (entry : EntryId) (kept : FormView)
    → slice_get old.entries entry.0 ≡ Some kept → slice_get new.entries entry.0 ≡ Some kept
form_inserted old new form id is entry kept e = subst (λ l. slice_get l entry.0 ≡ Some kept) (sym is.entries) (after is.fresh)
  where
    after : (fresh : Bool) → slice_get (entries_after old.entries form fresh) entry.0 ≡ Some kept
    after true = slice_left old.entries (form ∷ []) entry.0 kept e
    after false = e

-- as the log grows
pub form_grown : (h g : History) (rest : List Entered) → IsLegal h → IsLegal g → log g ≡ log h ++ rest → (entry : EntryId) (kept : FormView)
    → slice_get h.entries entry.0 ≡ Some kept → slice_get g.entries entry.0 ≡ Some kept
form_grown h g rest a b e entry kept at =
    let more : Extends h.entries g.entries = log_grown h g rest a b e in
    subst (λ l. slice_get l entry.0 ≡ Some kept) (sym more.1) (slice_left h.entries more.0 entry.0 kept at)
