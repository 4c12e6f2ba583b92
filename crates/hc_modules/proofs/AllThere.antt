-- The entries that the top of a hierarchy uses are there, and have names.
use Rattle.std.proofs.Common.{◌≡◌, List, sym, ap, subst, ◌∙◌}
use Rattle.std.specs.Prelude.{Some, slice_get, IsSome}
use Rattle.hc_signal.specs.Member.{Has}
use Rattle.hc_canon.specs.declared.form.EntryId.{EntryId}
use Rattle.hc_canon.specs.FormView.{FormView}
use Rattle.hc_dbstate.specs.declared.hier.Hier.{Hier}
use Rattle.hc_dbstate.specs.Elaboration.{CallView, IsElaboration, hier_view, walk}
use Rattle.hc_dbstate.specs.Uses.{Uses, kid}
use Rattle.hc_names.specs.NameRows.{name_of_entry}
use Rattle.hc_names.specs.Naming.{NameRow}
use Rattle.hc_modules.specs.Pieces.{AreThere}

module _ (entries : List FormView) (h : Hier) (over : IsElaboration entries h) (called : (id : EntryId) → Uses entries (hier_view h).own.entry id → (call : CallView)
    × Has (walk h) call × (call.own.entry ≡ id)) where
  pub all_there : (rows : List NameRow) → ((call : CallView) → Has (walk h) call → IsSome (name_of_entry rows call.own.entry)) → AreThere entries (hier_view h).own.entry rows
  all_there rows named id used =
      let c = called id used in
      let o = over.calls c.0 c.1 in
      let at : slice_get entries id.0 ≡ Some o.form = ap (λ (e : EntryId). slice_get entries e.0) (sym c.2) ∙ o.found in (
        o.form,
        at,
        λ next has.
            let d = called next (kid o.form used at has) in subst (λ (e : EntryId). IsSome (name_of_entry rows e)) d.2 (named d.0 d.1),
      )
