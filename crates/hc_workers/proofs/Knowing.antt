-- What a pass knows and owns after it finished rows.
use Rattle.std.proofs.Common.{◌≡◌, ℕ, zero, suc, inl, inr, List, [], ◌∷◌, ◌++◌, map, refl, sym, ap, subst, ◌∙◌, append_assoc, append-nil}
use Rattle.std.specs.Prelude.{slice_get, Option, Some, None, unwrap_or}
use mathlib.Core.List.{IsPrefix}
use Rattle.hc_signal.specs.Member.{Has, first, later}
use Rattle.hc_paths.specs.declared.kinds.Paths.{Paths}
use Rattle.hc_canon.specs.declared.form.EntryId.{EntryId}
use Rattle.hc_canon.specs.FormView.{FormView}
use Rattle.hc_dbstate.specs.declared.turns.Entered.{Entered}
use Rattle.hc_turn.specs.declared.view.View.{View}
use Rattle.hc_db.specs.Inserting.{KnowsEntry, KnowsKids}
use Rattle.hc_db.specs.OwnTurns.{KnowsForm, KnowsTurn, OwnsTurn}
use Rattle.hc_plan.specs.Finishing.{IsOutcome, Outcome, all_done, looped, outcome_in, passed_over, put_first}
use Rattle.hc_plan.specs.Finishing as outcome
use Rattle.hc_plan.specs.Hierarchies.{Done}
use Rattle.hc_plan.specs.Stepping.{IsLooped, IsReady, outcome_of, outs_of}
use Rattle.hc_plan.specs.declared.kinds.PlanRow.{PlanRow}
use Rattle.hc_workers.specs.Finished.{FinishesOne, FinishesRow}
use Rattle.hc_workers.specs.Working.{AreFinishedAt, AreOutcomesAt, AreReadyAt, AreTurnsOf, IsReadyRow, Keeps, KnowsOuts, finished, none_left, unfinished}

-- ---- lists

pub has_at : {X : Type 0} (xs : List X) (k : ℕ) (x : X) → slice_get xs k ≡ Some x → Has xs x
has_at [] k x e = absurd cc
has_at (y ∷ xs) zero x e = (let same : y ≡ x = ap (λ o. unwrap_or o y) e in subst (λ z. Has (y ∷ xs) z) same first)
has_at (y ∷ xs) (suc k) x e = later (has_at xs k x e)

has_from_map : {X Y : Type 0} (f : X → Y) (xs : List X) (y : Y) → Has (map f xs) y → (x : X) × Has xs x × (f x ≡ y)
has_from_map f [] y h = elim h [ ]
has_from_map f (x ∷ xs) y first = (x, first, refl)
has_from_map f (x ∷ xs) y (later h) = let r : _ = has_from_map f xs y h in (r.0, later r.1, r.2)

-- a list that begins with one that begins with a third begins with that
pub prefix_through : {X : Type 0} (xs ys zs : List X) → IsPrefix xs ys → IsPrefix ys zs → IsPrefix xs zs
prefix_through xs ys zs p q = (p.0 ++ q.0, sym (append_assoc xs p.0 q.0) ∙ (ap (λ l. l ++ q.0) p.1 ∙ q.1))

pub prefix_itself : {X : Type 0} (xs : List X) → IsPrefix xs xs
prefix_itself xs = ([], append-nil xs)

-- ---- what a pass knows

-- what is kept twice is kept
pub keeps_through : (u v w : View Entered) → Keeps u v → Keeps v w → Keeps u w
keeps_through u v w a b p t knows = b p t (a p t knows)

-- a form that the pass knew, it knows still
pub form_still : (v w : View Entered) → Keeps v w → (id : EntryId) (form : FormView) → KnowsForm v id form → KnowsForm w id form
form_still v w keeps id form k = (k.0, k.1, keeps k.0 k.1 k.2, k.3, k.4)

-- the rows that the pass knew, it knows still
pub knows_still : (v w : View Entered) (outs : List Outcome) → Keeps v w → KnowsOuts v outs → KnowsOuts w outs
knows_still v w outs keeps knows k x at = let f : _ = knows k x at in (f.0, form_still v w keeps x.0 f.0 f.1)

turn_names : (v : View Entered) (p : ℕ) (t : Entered) (id : EntryId) → t.entry ≡ id → KnowsTurn v p t → KnowsEntry v id
turn_names v p t id e (inl at) = inl (t, has_at v.seen p t at, e)
turn_names v p t id e (inr list) = inr (list.0, list.1, (t, has_at list.0 p t list.2, e))

-- ---- the children of a row

put_cases : (o : Outcome) (rest : Option (List Done)) (xs : List Done) → put_first o rest ≡ Some xs → (x : Done) × (ys : List Done) × (o ≡ Some x) × (rest ≡ Some ys) × (xs ≡ x ∷ ys)
put_cases None rest xs e = absurd cc
put_cases (Some x) None xs e = absurd cc
put_cases (Some x) (Some ys) xs e = (x, ys, refl, refl, sym (ap (λ o. unwrap_or o xs) e))

out_there : (o : Option Outcome) (x : Done) → outcome_in o ≡ Some x → o ≡ Some (Some x)
out_there None x e = absurd cc
out_there (Some o) x e = ap Some e

-- what is done of a child is the outcome of a row
done_there : (outs : List Outcome) (ks : List ℕ) (kids : List Done) → all_done outs ks ≡ Some kids → (x : Done) → Has kids x → (k : ℕ) × (slice_get outs k ≡ Some (Some x))
done_there outs [] kids e x m = (let same : kids ≡ [] = ap (λ o. unwrap_or o kids) (sym e) in elim (subst (λ l. Has l x) same m) [ ])
done_there outs (k ∷ ks) kids e x m =
    let c : _ = put_cases (outcome_in (slice_get outs k)) (all_done outs ks) kids e in
    by c.0 c.1 (out_there (slice_get outs k) c.0 c.2) (done_there outs ks c.1 c.3 x) (subst (λ l. Has l x) c.4 m)
  where
    by : (y : Done) (ys : List Done) → slice_get outs k ≡ Some (Some y) → (Has ys x → (j : ℕ) × (slice_get outs j ≡ Some (Some x))) → Has (y ∷ ys) x → (j : ℕ) × (slice_get outs j ≡ Some (Some x))
    by y ys own more first = (k, own)
    by y ys own more (later h) = more h

-- the pass knows the entries of the children
pub kids_known : (v : View Entered) (outs : List Outcome) (row : PlanRow) (form : FormView) (masks : List ℕ) → KnowsOuts v outs → IsReady outs row form masks → KnowsKids v form
kids_known v outs row form masks knows ready id m =
    let kid : (x : Done) × Has ready.kids x × (x.0 ≡ id) = has_from_map (λ (x : Done). x.0) ready.kids id (ready.canon.known id m) in
    let at : (k : ℕ) × (slice_get outs k ≡ Some (Some kid.0)) = done_there outs row.kids ready.kids ready.done kid.0 kid.1 in
    let f : _ = knows at.0 kid.0 at.1 in
    turn_names v f.1.0 f.1.1 id (f.1.3 ∙ kid.2) f.1.2

-- ---- one row

-- a row whose form was inserted is finished
pub is_inserted : (v w : View Entered) (outs : List Outcome) (row : PlanRow) (form : FormView) (masks : List ℕ) (id : EntryId) → IsReady outs row form masks
    → OwnsTurn v w id form → FinishesRow v w outs row (Some (id, masks))
is_inserted v w outs row form masks id r own = record {
  outcome = outcome.finished r.kids id masks form r.done (own.0, own.1, own.3, own.4, own.5) r.canon r.right r.free;
  owns = record { places = own.0 ∷ []; mine = own.2; turns = finished own.1 own.3 own.4 none_left };
}

-- a row that takes no turn
no_turn : (v : View Entered) (outs : List Outcome) (row : PlanRow) → IsOutcome (KnowsForm v) outs row None → FinishesRow v v outs row None
no_turn v outs row o = record { outcome = o; owns = record { places = []; mine = sym (append-nil v.mine); turns = unfinished none_left } }

pub is_looped : (v : View Entered) (outs : List Outcome) (row : PlanRow) → IsLooped outs row → FinishesRow v v outs row None
is_looped v outs row l = no_turn v outs row (looped l.kids l.done l.loop)

pub is_passed_over : (v : View Entered) (outs : List Outcome) (row : PlanRow) → all_done outs row.kids ≡ None → FinishesRow v v outs row None
is_passed_over v outs row none = no_turn v outs row (passed_over none)

-- ---- rows one after another

-- An outcome stays as the pass learns more, where what is done of the children is the same.
pub outcome_stays : (K L : EntryId → FormView → Type 0) → ((id : EntryId) (form : FormView) → K id form → L id form)
    → (outs more : List Outcome) (row : PlanRow) (o : Outcome) → all_done more row.kids ≡ all_done outs row.kids → IsOutcome K outs row o → IsOutcome L more row o
outcome_stays K L kept outs more row o same (outcome.finished kids id masks form all known canon right free) = outcome.finished kids id masks form (same ∙ all) (kept id form known) canon right free
outcome_stays K L kept outs more row o same (looped kids all loop) = looped kids (same ∙ all) loop
outcome_stays K L kept outs more row o same (passed_over none) = passed_over (same ∙ none)

outcomes_stay : (v w : View Entered) (rows : List PlanRow) (outs : List Outcome) → Keeps v w → (places : List ℕ) (list : List Outcome)
    → AreOutcomesAt (KnowsForm v) rows outs places list → AreOutcomesAt (KnowsForm w) rows outs places list
outcomes_stay v w rows outs keeps [] [] are = tt
outcomes_stay v w rows outs keeps [] (o ∷ list) are = are
outcomes_stay v w rows outs keeps (k ∷ places) [] are = are
outcomes_stay v w rows outs keeps (k ∷ places) (o ∷ list) are =
    (λ row at. outcome_stays (KnowsForm v) (KnowsForm w) (form_still v w keeps) outs outs row o refl (are.0 row at), outcomes_stay v w rows outs keeps places list are.1)

outcomes_both : (K : EntryId → FormView → Type 0) (rows : List PlanRow) (outs : List Outcome) (front back : List ℕ) (a b : List Outcome)
    → AreOutcomesAt K rows outs front a → AreOutcomesAt K rows outs back b → AreOutcomesAt K rows outs (front ++ back) (a ++ b)
outcomes_both K rows outs [] back [] b x y = y
outcomes_both K rows outs [] back (o ∷ a) b x y = absurd x
outcomes_both K rows outs (k ∷ front) back [] b x y = absurd x
outcomes_both K rows outs (k ∷ front) back (o ∷ a) b x y = (x.0, outcomes_both K rows outs front back a b x.1 y)

-- turns stay those of the rows as the pass learns more
pub turns_stay : (v w : View Entered) → Keeps v w → {list : List Outcome} {places : List ℕ} → AreTurnsOf v list places → AreTurnsOf w list places
turns_stay v w keeps none_left = none_left
turns_stay v w keeps (unfinished rest) = unfinished (turns_stay v w keeps rest)
turns_stay v w keeps (finished {p = p} t knows e rest) = finished t (keeps p t knows) e (turns_stay v w keeps rest)

pub turns_both : (w : View Entered) {a b : List Outcome} {ps qs : List ℕ} → AreTurnsOf w a ps → AreTurnsOf w b qs → AreTurnsOf w (a ++ b) (ps ++ qs)
turns_both w none_left y = y
turns_both w (unfinished rest) y = unfinished (turns_both w rest y)
turns_both w (finished t knows e rest) y = finished t knows e (turns_both w rest y)

-- Two parts of the rows are finished, each by what the pass knew then; now it knows what it knew after each, and owns the turns of both.
pub both_finished : (v u x y w : View Entered) (rows : List PlanRow) (outs : List Outcome) (front back : List ℕ) (a b : List Outcome)
    → AreFinishedAt v x rows outs front a → AreFinishedAt u y rows outs back b → Keeps x w → Keeps y w
    → ((ps qs : List ℕ) → x.mine ≡ v.mine ++ ps → y.mine ≡ u.mine ++ qs → w.mine ≡ v.mine ++ (ps ++ qs)) → AreFinishedAt v w rows outs (front ++ back) (a ++ b)
both_finished v u x y w rows outs front back a b one two left right mine = record {
  outcomes = outcomes_both (KnowsForm w) rows outs front back a b (outcomes_stay x w rows outs left front a one.outcomes) (outcomes_stay y w rows outs right back b two.outcomes);
  owns = record {
    places = one.owns.places ++ two.owns.places;
    mine = mine one.owns.places two.owns.places one.owns.mine two.owns.mine;
    turns = turns_both w (turns_stay x w left one.owns.turns) (turns_stay y w right two.owns.turns);
  };
}

-- no row is finished yet
pub none_finished : (v : View Entered) (rows : List PlanRow) (outs : List Outcome) → AreFinishedAt v v rows outs [] []
none_finished v rows outs = record { outcomes = tt; owns = record { places = []; mine = sym (append-nil v.mine); turns = none_left } }

-- one part after another, by one pass
pub then_finished : (v x w : View Entered) (rows : List PlanRow) (outs : List Outcome) (front back : List ℕ) (a b : List Outcome) → AreFinishedAt v x rows outs front a
    → AreFinishedAt x w rows outs back b → Keeps x w → AreFinishedAt v w rows outs (front ++ back) (a ++ b)
then_finished v x w rows outs front back a b one two keeps =
    both_finished v x x w w rows outs front back a b one two keeps (λ p t k. k)
    (λ ps qs m n. n ∙ ap (λ l. l ++ qs) m ∙ append_assoc v.mine ps qs)

outs_more : (xs : List (Option (EntryId × Paths))) (x : Option (EntryId × Paths)) → outs_of (xs ++ x ∷ []) ≡ outs_of xs ++ outcome_of x ∷ []
outs_more [] x = refl
outs_more (y ∷ xs) x = ap (λ l. outcome_of y ∷ l) (outs_more xs x)

-- the row at a place, where it is ready
pub ready_at : (rows : List PlanRow) (place : ℕ) (row : PlanRow) → AreReadyAt rows (place ∷ []) → slice_get rows place ≡ Some row → IsReadyRow row
ready_at rows place row ready at =
    let r : _ = ready place first in
    let same : r.0 ≡ row = ap (λ o. unwrap_or o row) (sym r.1 ∙ at) in
    subst (λ (x : PlanRow). IsReadyRow x) same r.2

-- one row is finished
pub one_finished : (v w : View Entered) (rows : List PlanRow) (outs : List Outcome) (place : ℕ) (row : PlanRow) (old new : List (Option (EntryId × Paths))) (out : Option (EntryId × Paths))
    → slice_get rows place ≡ Some row → FinishesRow v w outs row (outcome_of out) → new ≡ old ++ out ∷ [] → FinishesOne v w rows outs place old new
one_finished v w rows outs place row old new out at f is = record { out = out; is = is; finished = record { outcomes = (here, tt); owns = f.owns } }
  where
    here : (r : PlanRow) → slice_get rows place ≡ Some r → IsOutcome (KnowsForm w) outs r (outcome_of out)
    here r there = (let same : row ≡ r = ap (λ o. unwrap_or o row) (sym at ∙ there) in subst (λ (x : PlanRow). IsOutcome (KnowsForm w) outs x (outcome_of out)) same f.outcome)

-- one row more is finished
pub one_more : (v x w : View Entered) (rows : List PlanRow) (outs : List Outcome) (front : List ℕ) (place : ℕ) (old new : List (Option (EntryId × Paths)))
    → AreFinishedAt v x rows outs front (outs_of old) → FinishesOne x w rows outs place old new → Keeps x w
    → AreFinishedAt v w rows outs (front ++ place ∷ []) (outs_of new)
one_more v x w rows outs front place old new are one keeps =
    subst (λ l. AreFinishedAt v w rows outs (front ++ place ∷ []) l) (sym (outs_more old one.out) ∙ ap outs_of (sym one.is))
    (then_finished v x w rows outs front (place ∷ []) (outs_of old) (outcome_of one.out ∷ []) are one.finished keeps)
