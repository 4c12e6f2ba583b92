-- Each call of a hierarchy has a name, and its calls are named as those of the elaborated design.
use Rattle.std.proofs.Common.{◌≡◌, ℕ, Bool, true, false, cond, ◌||◌, nat_eq, List, [], ◌∷◌, map, refl, ap, ◌∙◌}
use Rattle.std.proofs.lemmas.Bool.Decides.{Decides-eqb}
use Rattle.std.specs.Prelude.{IsSome, Some, is_some}
use Rattle.std.specs.List.{zip}
use Rattle.hc_signal.specs.Member.{Has, first, later}
use Rattle.hc_canon.specs.declared.form.EntryId.{EntryId}
use Rattle.hc_canon.specs.FormView.{FormView}
use Rattle.hc_dbstate.specs.declared.hier.Hier.{Hier}
use Rattle.hc_dbstate.specs.Elaboration.{CallView, walk}
use Rattle.hc_plan.specs.Elaborates.{ElaboratedCall}
use Rattle.hc_plan.specs.Hierarchies.{AreCallsFor}
use Rattle.hc_modules.specs.VerilogText.{AreAlike}
use Rattle.hc_names.specs.NameRows.{name_of_entry}
use Rattle.hc_names.specs.Naming.{AreNameRows, AreNamesAfter, Given, NameRow, first_rows, is_among, named_tree}
use Rattle.hc_output.specs.Output.{named_calls}

-- each call has a name
has_name : (entries : List FormView) (given : Given) (cs : List CallView) (names : List (List ℕ)) → AreNamesAfter given (map (named_tree entries) cs) names
    → (c : CallView) → Has cs c → (name : List ℕ) × Has (zip (map (λ (x : CallView). x.own.entry) cs) names) (c.own.entry, name)
has_name entries given [] names are c h = elim h [ ]
has_name entries given (x ∷ cs) [] are c h = absurd are
has_name entries given (x ∷ cs) (n ∷ names) are c first = (n, first)
has_name entries given (x ∷ cs) (n ∷ names) are c (later h) = let rest = has_name entries _ cs names are.1 c h in (rest.0, later rest.1)

-- the first row of an entry is kept
keeps_name : (seen : List EntryId) (rows : List NameRow) (row : NameRow) → Has rows row → is_among row.0 seen ≡ false → IsSome (name_of_entry (first_rows seen rows) row.0)
keeps_name seen [] row h free = elim h [ ]
keeps_name seen (r ∷ rows) row first free =
    ap (λ b. is_some (name_of_entry (cond b (first_rows seen rows) (r ∷ first_rows (r.0 ∷ seen) rows)) r.0)) free
    ∙ ap (λ b. is_some (cond b (Some r.1) (name_of_entry (first_rows (r.0 ∷ seen) rows) r.0))) ((Decides-eqb r.0.0 r.0.0).1 refl)
keeps_name seen (r ∷ rows) row (later h) free = by (λ more. keeps_name seen rows row h more) (λ more. keeps_name (r.0 ∷ seen) rows row h more) (is_among r.0 seen) refl
  where
    other : (b : Bool) → nat_eq row.0.0 r.0.0 ≡ b → (nat_eq row.0.0 r.0.0 ≡ false → IsSome (name_of_entry (first_rows (r.0 ∷ seen) rows) row.0))
        → IsSome (cond (nat_eq row.0.0 r.0.0) (Some r.1) (name_of_entry (first_rows (r.0 ∷ seen) rows) row.0))
    other true e more = ap (λ b. is_some (cond b (Some r.1) (name_of_entry (first_rows (r.0 ∷ seen) rows) row.0))) e
    other false e more = ap (λ b. is_some (cond b (Some r.1) (name_of_entry (first_rows (r.0 ∷ seen) rows) row.0))) e ∙ more e

    by : (is_among row.0 seen ≡ false → IsSome (name_of_entry (first_rows seen rows) row.0)) → (is_among row.0 (r.0 ∷ seen) ≡ false → IsSome (name_of_entry (first_rows (r.0 ∷ seen) rows) row.0))
        → (b : Bool) → is_among r.0 seen ≡ b → IsSome (name_of_entry (first_rows seen (r ∷ rows)) row.0)
    by old new true e = ap (λ b. is_some (name_of_entry (cond b (first_rows seen rows) (r ∷ first_rows (r.0 ∷ seen) rows)) row.0)) e ∙ old free
    by old new false e =
        ap (λ b. is_some (name_of_entry (cond b (first_rows seen rows) (r ∷ first_rows (r.0 ∷ seen) rows)) row.0)) e
        ∙ other (nat_eq row.0.0 r.0.0) refl (λ apart. new (ap (λ b. b || is_among row.0 seen) apart ∙ free))

pub all_named : (entries : List FormView) (h : Hier) (rows : List NameRow) → AreNameRows entries h rows → (c : CallView) → Has (walk h) c → IsSome (name_of_entry rows c.own.entry)
all_named entries h rows are c has =
    let name = has_name entries [] (walk h) are.names are.right c has in
    ap (λ (r : List NameRow). is_some (name_of_entry r c.own.entry)) are.first ∙ keeps_name [] (zip (map (λ (x : CallView). x.own.entry) (walk h)) are.names) (c.own.entry, name.0) name.1 refl

-- the calls of a hierarchy are alike those that it stands for
pub are_alike : (entries : List FormView) (cs : List CallView) (es : List ElaboratedCall) → AreCallsFor entries cs es → AreAlike (map (named_tree entries) cs) (named_calls es)
are_alike entries [] [] are = tt
are_alike entries [] (e ∷ es) are = absurd are
are_alike entries (c ∷ cs) [] are = absurd are
are_alike entries (c ∷ cs) (e ∷ es) are = (are.0.name, are.0.tree, are_alike entries cs es are.1)
