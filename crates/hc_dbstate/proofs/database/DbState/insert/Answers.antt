use Rattle.std.proofs.Common.{rules, ◌≡◌, ◌<◌, ℕ, List, [], ◌∷◌, ◌++◌, Some, ◌≢◌, true, false, length, subst, sym, ap, ◌∙◌}
use Rattle.std.specs.Prelude.{slice_get}
use Rattle.hc_signal.specs.Member.{Has}
use Rattle.hc_canon.specs.declared.form.EntryId.{EntryId}
use Rattle.hc_canon.specs.FormView.{FormView}
use Rattle.hc_dbstate.specs.History.{History, turn}
use Rattle.hc_dbstate.specs.Insertion.{IsInserted}
use Rattle.hc_dbstate.specs.Places.{low_bits, places_from}
use Rattle.hc_dbstate.proofs.Indexed.{places_after}
use Rattle.hc_dbstate.proofs.Grows.{again_inserted, fresh_inserted}
use Rattle.hc_dbstate.proofs.database.DbState.insert.Goals as goal

pub invariant_of-self-in-Some-1 : goal.invariant_of-self-in-Some-1
invariant_of-self-in-Some-1 c =
    let old : History = record { entries = c.self.inside.entries.items; turns = c.self.inside.turns.items } in
    let ts : c.push_reserved.new.self.items ≡ old.turns ++ turn (record { 0 = c.in-Some.k }) false ∷ [] = search rules in
    let here : slice_get c.reserve-else-is_err.new.self.items c.in-Some.k ≡ Some c.args.form = search rules in (
      (again_inserted old _ _ c.args.form (record { 0 = c.in-Some.k }) c.self.invariant.0 c.reserve-else-is_err.ensures.items ts here).0,
      (λ h. c.self.invariant.1 h ∙ ap (places_from c.self.inside.bits 0 h) (sym c.reserve-else-is_err.ensures.items)),
      c.self.invariant.2,
    )

pub returns-in-Some-clause-ok : goal.returns-in-Some-clause-ok
returns-in-Some-clause-ok c =
    let old : History = record { entries = c.self.inside.entries.items; turns = c.self.inside.turns.items } in
    let ts : c.push_reserved.new.self.items ≡ old.turns ++ turn (record { 0 = c.in-Some.k }) false ∷ [] = search rules in
    let here : slice_get c.reserve-else-is_err.new.self.items c.in-Some.k ≡ Some c.args.form = search rules in
    subst (λ h. IsInserted h (record { entries = c.reserve-else-is_err.new.self.items; turns = c.push_reserved.new.self.items }) c.args.form (record { 0 = c.in-Some.k })) c.self.view_is
    (again_inserted old _ _ c.args.form (record { 0 = c.in-Some.k }) c.self.invariant.0 c.reserve-else-is_err.ensures.items ts here).1

pub invariant_of-self-in-None : goal.invariant_of-self-in-None
invariant_of-self-in-None c =
    let old : History = record { entries = c.self.inside.entries.items; turns = c.self.inside.turns.items } in
    let ts : c.push_reserved-in-None-2.new.self.items ≡ old.turns ++ turn (record { 0 = c.len-place.result }) true ∷ [] = search rules in
    let es : c.push_reserved-in-None.new.self.items ≡ old.entries ++ c.args.form ∷ [] = search rules in
    let at : c.len-place.result ≡ length old.entries = search rules in
    let items : c.as_slice.result.now ≡ old.entries = search rules in
    let kids : (k : EntryId) → Has c.args.form.kids k → k.0 < length old.entries = subst (λ (h : History). (k : EntryId) → Has c.args.form.kids k → k.0 < length h.entries)
    (sym c.self.view_is) c.requires.kids in
    let new : (j : ℕ) → slice_get old.entries j ≢ Some c.args.form = subst (λ (l : List FormView). (j : ℕ) → slice_get l j ≢ Some c.args.form) items c.in-None.ensures in (
      (fresh_inserted old _ _ c.args.form (record { 0 = c.len-place.result }) c.self.invariant.0 es ts at c.canonical.ensures kids new).0,
      (λ h. places_after c.self.inside.bits h old.entries _ c.args.form c.low_bits.result c.len-place.result _ _ es
          (c.low_bits.ensures ∙ ap (low_bits c.self.inside.bits) c.hash-hash.ensures) at (c.self.invariant.1 h) (c.in-Ok.ensures.ok h)),
      c.self.invariant.2,
    )

pub returns-in-Ok-clause-ok : goal.returns-in-Ok-clause-ok
returns-in-Ok-clause-ok c =
    let old : History = record { entries = c.self.inside.entries.items; turns = c.self.inside.turns.items } in
    let ts : c.push_reserved-in-None-2.new.self.items ≡ old.turns ++ turn (record { 0 = c.len-place.result }) true ∷ [] = search rules in
    let es : c.push_reserved-in-None.new.self.items ≡ old.entries ++ c.args.form ∷ [] = search rules in
    let at : c.len-place.result ≡ length old.entries = search rules in
    let items : c.as_slice.result.now ≡ old.entries = search rules in
    let kids : (k : EntryId) → Has c.args.form.kids k → k.0 < length old.entries = subst (λ (h : History). (k : EntryId) → Has c.args.form.kids k → k.0 < length h.entries)
    (sym c.self.view_is) c.requires.kids in
    let new : (j : ℕ) → slice_get old.entries j ≢ Some c.args.form = subst (λ (l : List FormView). (j : ℕ) → slice_get l j ≢ Some c.args.form) items c.in-None.ensures in
    subst (λ h. IsInserted h (record { entries = c.push_reserved-in-None.new.self.items; turns = c.push_reserved-in-None-2.new.self.items }) c.args.form
    (record { 0 = c.len-place.result })) c.self.view_is
    (fresh_inserted old _ _ c.args.form (record { 0 = c.len-place.result }) c.self.invariant.0 es ts at c.canonical.ensures kids new).1
