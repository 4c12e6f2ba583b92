-- Calls and hierarchies stay lawful as entries are added.
use Rattle.std.proofs.Common.{◌≡◌, ℕ, ◌<◌, List, ◌++◌, length, sym, subst, ◌∙◌, arith}
use Rattle.std.proofs.lemmas.Option.{slice_get_within}
use Rattle.std.specs.Prelude.{slice_get, Some}
use Rattle.hc_signal.specs.Member.{Has}
use Rattle.hc_signal.specs.Occurrences.{HasCombLoop, AreMasks}
use Rattle.hc_canon.specs.declared.form.EntryId.{EntryId}
use Rattle.hc_canon.specs.FormView.{FormView}
use Rattle.hc_canon.proofs.LaidOut.{slice_left}
use Rattle.hc_dbstate.specs.declared.hier.Hier.{Hier}
use Rattle.hc_dbstate.specs.declared.turns.Entered.{Entered}
use Rattle.hc_dbstate.specs.Elaboration.{CallView, IsCallOver, IsElaboration}
use Rattle.hc_dbstate.specs.History.{History, IsLegal, log}
use Rattle.hc_dbstate.specs.Unfolding.{unfolding_of}
use Rattle.hc_dbstate.proofs.Replayed.{log_grown, Extends}
use Rattle.hc_dbstate.proofs.Triples.{some_at}
use Rattle.hc_dbstate.proofs.Unfolded.{kid_below, unfolding_stays}

module _ (h : History) (legal : IsLegal h) (more : List FormView) where
  call_stays : (call : CallView) → IsCallOver h.entries call → IsCallOver (h.entries ++ more) call
  call_stays call c =
      let b : call.own.entry.0 < length h.entries = slice_get_within h.entries call.own.entry.0 c.form c.found in
      let stays : unfolding_of (h.entries ++ more) call.own.entry ≡ unfolding_of h.entries call.own.entry = unfolding_stays h legal call.own.entry more b in
      record {
        form = c.form;
        found = slice_left h.entries more call.own.entry.0 c.form c.found;
        ports = λ i it id kid at k e. c.ports i it id kid at k (was_there id kid (let l : id.0 < call.own.entry.0 = kid_below h legal call.own.entry.0 c.form i id c.found k in omega (arith, l, b)) e);
        kids = c.kids;
        no_loop = subst (λ t. ¬ HasCombLoop t) (sym stays) c.no_loop;
        masks = subst (λ t. AreMasks t call.own.masks) (sym stays) c.masks;
        instances = c.instances;
        few = c.few;
        weight = c.weight;
        light = c.light;
      }
    where
      was_there : (id : EntryId) (kid : FormView) → id.0 < length h.entries → slice_get (h.entries ++ more) id.0 ≡ Some kid → slice_get h.entries id.0 ≡ Some kid
      was_there id kid l e =
          let x : (x : FormView) × (slice_get h.entries id.0 ≡ Some x) = some_at h.entries id.0 l in
          x.1 ∙ (sym (slice_left h.entries more id.0 x.0 x.1) ∙ e)

module _ (h g : History) (rest : List Entered) (a : IsLegal h) (b : IsLegal g) (grown : log g ≡ log h ++ rest) where
  -- a call stays lawful as the log grows
  pub call_grows : (call : CallView) → IsCallOver h.entries call → IsCallOver g.entries call
  call_grows call c =
      let x : Extends h.entries g.entries = log_grown h g rest a b grown in
      subst (λ (l : List FormView). IsCallOver l call) (sym x.1) (call_stays h a x.0 call c)

  -- and a hierarchy an elaboration
  pub elaboration_grows : (x : Hier) → IsElaboration h.entries x → IsElaboration g.entries x
  elaboration_grows x e = record { levels = e.levels; calls = λ call m. call_grows call (e.calls call m) }
