-- Rows of a plan that are finished level by level.
use Rattle.std.proofs.Common.{◌≡◌, ℕ, zero, suc, ◌+◌, ◌<◌, ◌≤◌, ◌⊎◌, inl, inr, Bool, true, false, List, [], ◌∷◌, ◌++◌, length, map, take, drop, get_or, refl, sym, ap, ap₂, subst, ◌∙◌, append_assoc, arith}
use Rattle.std.proofs.lemmas.Bool.{cases_lt, eqb-true, eq-eqb}
use Rattle.std.proofs.lemmas.List.{map-append, take_more}
use Rattle.std.proofs.lemmas.Option.{slice_get_within}
use Rattle.std.specs.Prelude.{slice_get, ◌==◌, if◌then◌else◌, replicate, Option, Some, None, unwrap_or}
use Rattle.hc_signal.specs.Member.{Has, first, later}
use Rattle.hc_paths.specs.declared.kinds.Paths.{Paths}
use Rattle.hc_canon.specs.declared.form.EntryId.{EntryId}
use Rattle.hc_canon.specs.FormView.{FormView}
use Rattle.hc_dbstate.specs.declared.turns.Entered.{Entered}
use Rattle.hc_turn.specs.declared.view.View.{View}
use Rattle.hc_db.specs.OwnTurns.{KnowsForm}
use Rattle.hc_plan.specs.Finishing.{IsOutcome, AreOutcomes, Outcome, all_done, outcome_in, put_first}
use Rattle.hc_plan.specs.Finishing as outcome
use Rattle.hc_plan.specs.Hierarchies.{Done}
use Rattle.hc_plan.specs.Stepping.{outs_of}
use Rattle.hc_plan.specs.declared.kinds.PlanRow.{PlanRow}
use Rattle.hc_workers.specs.Levels.{AreByHeight, AreFinishedTo, IsHighest, IsLevelDone, outcome_at, places_from, places_to, written}
use Rattle.hc_workers.specs.Working.{AreFinishedAt, AreOutcomesAt, AreReadyAt, AreTurnsOf, Keeps, KnowsOuts}
use Rattle.hc_workers.proofs.Knowing.{form_still, has_at, outcome_stays, turns_both, turns_stay}
use Rattle.hc_workers.proofs.Writing.{AllAt, AreRising, written_at, written_each, written_length, written_other, written_outs, whole_back}

pub item_at : {X : Type 0} (xs : List X) (k : ℕ) → k < length xs → (x : X) × (slice_get xs k ≡ Some x)
item_at [] k l = absurd (omega (arith, l))
item_at (x ∷ xs) zero l = (x, refl)
item_at (x ∷ xs) (suc k) l = item_at xs k (omega (arith, l))

index_of : {X : Type 0} (xs : List X) (x : X) → Has xs x → (k : ℕ) × (slice_get xs k ≡ Some x)
index_of [] x h = elim h [ ]
index_of (y ∷ xs) x first = (zero, refl)
index_of (y ∷ xs) x (later h) = (let r : _ = index_of xs x h in (suc r.0, r.1))

first_or_later : {X : Type 0} {x y : X} {xs : List X} → Has (x ∷ xs) y → (y ≡ x) ⊎ Has xs y
first_or_later first = inl refl
first_or_later (later h) = inr h

has_cases : {X : Type 0} (xs ys : List X) (x : X) → Has (xs ++ ys) x → Has xs x ⊎ Has ys x
has_cases [] ys x h = inr h
has_cases (y ∷ xs) ys x first = inl first
has_cases (y ∷ xs) ys x (later h) = by (has_cases xs ys x h)
  where
    by : Has xs x ⊎ Has ys x → Has (y ∷ xs) x ⊎ Has ys x
    by (inl l) = inl (later l)
    by (inr r) = inr r

-- ---- the places of a height

rising_less : (s t : ℕ) (places : List ℕ) → t ≤ s → AreRising s places → AreRising t places
rising_less s t [] l up = tt
rising_less s t (k ∷ places) l up = (let m : s ≤ k = up.0 in omega (arith, l, m), up.1)

-- the places of a height rise
places_rise : (height s : ℕ) (rows : List PlanRow) → AreRising s (places_from height s rows)
places_rise height s [] = tt
places_rise height s (row ∷ rows) = (let e : s + 1 ≡ suc s = omega arith in by (row.height == height) (subst (λ n. AreRising n (places_from height (s + 1) rows)) e (places_rise height (s + 1) rows)))
  where
    by : (b : Bool) → AreRising (suc s) (places_from height (s + 1) rows) → AreRising s (if b then s ∷ places_from height (s + 1) rows else places_from height (s + 1) rows)
    by true rest = (let l : s ≤ s = omega arith in l, rest)
    by false rest = rising_less (suc s) s (places_from height (s + 1) rows) (omega arith) rest

-- a row of a height, by its place
pub record RowOf (height s : ℕ) (rows : List PlanRow) (k : ℕ) : Type 0 where
  pub index : ℕ
  pub row : PlanRow
  pub at : k ≡ s + index
  pub there : slice_get rows index ≡ Some row
  pub has : row.height ≡ height

place_is : (height s : ℕ) (rows : List PlanRow) (k : ℕ) → Has (places_from height s rows) k → RowOf height s rows k
place_is height s [] k h = elim h [ ]
place_is height s (row ∷ rows) k h = by (row.height == height) refl (place_is height (s + 1) rows k) h
  where
    rest : RowOf height (s + 1) rows k → RowOf height s (row ∷ rows) k
    rest r = (let e : k ≡ (s + 1) + r.index = r.at in record { index = suc r.index; row = r.row; at = omega (arith, e); there = r.there; has = r.has })

    cases : (row.height == height) ≡ true → (Has (places_from height (s + 1) rows) k → RowOf height (s + 1) rows k) → (k ≡ s) ⊎ Has (places_from height (s + 1) rows) k → RowOf height s (row ∷ rows) k
    cases t more (inl here) = (let e : k ≡ s + 0 = omega (arith, here) in record { index = zero; row = row; at = e; there = refl; has = eqb-true row.height height t })
    cases t more (inr m) = rest (more m)

    by : (b : Bool) → (row.height == height) ≡ b → (Has (places_from height (s + 1) rows) k → RowOf height (s + 1) rows k)
        → Has (if b then s ∷ places_from height (s + 1) rows else places_from height (s + 1) rows) k → RowOf height s (row ∷ rows) k
    by true t more m = cases t more (first_or_later m)
    by false t more m = rest (more m)

-- a row of the height has its place
has_place : (height s : ℕ) (rows : List PlanRow) (i : ℕ) (row : PlanRow) → slice_get rows i ≡ Some row → row.height ≡ height → Has (places_from height s rows) (s + i)
has_place height s [] i row at is = absurd cc
has_place height s (own ∷ rows) zero row at is =
    let same : own ≡ row = ap (λ o. unwrap_or o own) at in
    let t : (own.height == height) ≡ true = eq-eqb own.height height (ap (λ (r : PlanRow). r.height) same ∙ is) in
    let e : s ≡ s + 0 = omega arith in
    subst (λ n. Has (places_from height s (own ∷ rows)) n) e (subst (λ b. Has (if b then s ∷ places_from height (s + 1) rows else places_from height (s + 1) rows) s) (sym t) first)
has_place height s (own ∷ rows) (suc i) row at is =
    let e : (s + 1) + i ≡ s + suc i = omega arith in
    by (own.height == height) (subst (λ n. Has (places_from height (s + 1) rows) n) e (has_place height (s + 1) rows i row at is))
  where
    by : (b : Bool) → Has (places_from height (s + 1) rows) (s + suc i) → Has (if b then s ∷ places_from height (s + 1) rows else places_from height (s + 1) rows) (s + suc i)
    by true h = later h
    by false h = h

-- the row at a place of a height
pub row_of_place : (height : ℕ) (rows : List PlanRow) (k : ℕ) → Has (places_from height 0 rows) k → (row : PlanRow) × (slice_get rows k ≡ Some row) × (row.height ≡ height)
row_of_place height rows k h =
    let r : RowOf height 0 rows k = place_is height 0 rows k h in
    let e : k ≡ 0 + r.index = r.at in
    let same : r.index ≡ k = omega (arith, e) in
    (r.row, subst (λ n. slice_get rows n ≡ Some r.row) same r.there, r.has)

pub place_of_row : (height : ℕ) (rows : List PlanRow) (k : ℕ) (row : PlanRow) → slice_get rows k ≡ Some row → row.height ≡ height → Has (places_from height 0 rows) k
place_of_row height rows k row at is = (let e : 0 + k ≡ k = omega arith in subst (λ n. Has (places_from height 0 rows) n) e (has_place height 0 rows k row at is))

-- a row of another height is at none of these places
not_there : (height : ℕ) (rows : List PlanRow) (k : ℕ) (row : PlanRow) → slice_get rows k ≡ Some row → (row.height ≡ height → ⊥) → Has (places_from height 0 rows) k → ⊥
not_there height rows k row at ne h =
    let r : _ = row_of_place height rows k h in
    let same : r.0 ≡ row = ap (λ o. unwrap_or o row) (sym r.1 ∙ at) in
    ne (ap (λ (x : PlanRow). x.height) (sym same) ∙ r.2)

-- the rows at the places up to a height are no higher
pub row_below : (height : ℕ) (rows : List PlanRow) (k : ℕ) → Has (places_to height rows) k → (row : PlanRow) × (slice_get rows k ≡ Some row) × (row.height ≤ height)
row_below zero rows k h = elim h [ ]
row_below (suc height) rows k h = by (row_below height rows k) (has_cases (places_to height rows) (places_from (suc height) 0 rows) k h)
  where
    by : (Has (places_to height rows) k → (row : PlanRow) × (slice_get rows k ≡ Some row) × (row.height ≤ height))
        → Has (places_to height rows) k ⊎ Has (places_from (suc height) 0 rows) k → (row : PlanRow) × (slice_get rows k ≡ Some row) × (row.height ≤ suc height)
    by below (inl l) = (let r : _ = below l in let e : r.0.height ≤ height = r.2 in (r.0, r.1, omega (arith, e)))
    by below (inr m) = (let r : _ = row_of_place (suc height) rows k m in let e : r.0.height ≡ suc height = r.2 in (r.0, r.1, omega (arith, e)))

-- the rows of a height are ready
pub level_ready : (rows : List PlanRow) (height : ℕ) → AreByHeight rows → AreReadyAt rows (places_from height 0 rows)
level_ready rows height by k h = (let r : _ = row_of_place height rows k h in (r.0, r.1, by.ready k r.0 r.1))

-- ---- what is done of children stays

done_same : (outs more : List Outcome) (ks : List ℕ) → ((k : ℕ) → Has ks k → slice_get more k ≡ slice_get outs k) → all_done more ks ≡ all_done outs ks
done_same outs more [] same = refl
done_same outs more (k ∷ ks) same =
    ap (λ x. put_first (outcome_in x) (all_done more ks)) (same k first) ∙ ap (put_first (outcome_in (slice_get outs k))) (done_same outs more ks (λ j m. same j (later m)))

-- ---- levels

-- before the first level
pub none_done : (v : View Entered) (rows : List PlanRow) → AreByHeight rows → AreFinishedTo v v rows (replicate (length rows) None) 0
none_done v rows heights = record {
  many = replicated rows;
  low = λ k row o at out l. (let m : 1 ≤ row.height = heights.some k row at in absurd (omega (arith, l, m)));
  high = λ k row at l. none_at rows k row at;
  owns = record { places = []; mine = sym (nil_right v.mine); turns = AreTurnsOf.none_left };
}
  where
    replicated : (xs : List PlanRow) → length (replicate {A = Outcome} (length xs) None) ≡ length xs
    replicated [] = refl
    replicated (x ∷ xs) = ap suc (replicated xs)

    none_at : (xs : List PlanRow) (k : ℕ) (row : PlanRow) → slice_get xs k ≡ Some row → slice_get (replicate {A = Outcome} (length xs) None) k ≡ Some None
    none_at [] k row e = absurd cc
    none_at (x ∷ xs) zero row e = refl
    none_at (x ∷ xs) (suc k) row e = none_at xs k row e

    nil_right : (xs : List ℕ) → xs ++ [] ≡ xs
    nil_right [] = refl
    nil_right (x ∷ xs) = ap (λ l. x ∷ l) (nil_right xs)

-- the pass knows the entries of the rows that are finished
pub knows_low : (v w : View Entered) (rows : List PlanRow) (outs : List Outcome) (height : ℕ) → AreFinishedTo v w rows outs height → KnowsOuts w outs
knows_low v w rows outs height done k x at =
    let row : (row : PlanRow) × (slice_get rows k ≡ Some row) = item_at rows k (subst (λ n. k < n) done.many (slice_get_within outs k (Some x) at)) in
    by row.0 row.1 (cases_lt height row.0.height)
  where
    known : (row : PlanRow) (y : Done) → IsOutcome (KnowsForm w) outs row (Some y) → (form : FormView) × KnowsForm w y.0 form
    known row y (outcome.finished kids id masks form all knows canon right free) = (form, knows)

    by : (row : PlanRow) → slice_get rows k ≡ Some row → (height < row.height) ⊎ (row.height ≤ height) → (form : FormView) × KnowsForm w x.0 form
    by row there (inl l) = (let e : Some (Some x) ≡ Some None = sym at ∙ done.high k row there l in absurd cc)
    by row there (inr l) = known row x (done.low k row (Some x) there at l)

all_at : (K : EntryId → FormView → Type 0) (rows : List PlanRow) (outs : List Outcome) (places : List ℕ) (list : List Outcome) → AreOutcomesAt K rows outs places list
    → AllAt (λ k o. (row : PlanRow) → slice_get rows k ≡ Some row → IsOutcome K outs row o) places list
all_at K rows outs [] [] are = are
all_at K rows outs [] (o ∷ list) are = are
all_at K rows outs (k ∷ places) [] are = are
all_at K rows outs (k ∷ places) (o ∷ list) are = (are.0, all_at K rows outs places list are.1)

as_many : (K : EntryId → FormView → Type 0) (rows : List PlanRow) (outs : List Outcome) (places : List ℕ) (list : List Outcome) → AreOutcomesAt K rows outs places list → length list ≡ length places
as_many K rows outs [] [] are = refl
as_many K rows outs [] (o ∷ list) are = absurd are
as_many K rows outs (k ∷ places) [] are = absurd are
as_many K rows outs (k ∷ places) (o ∷ list) are = ap suc (as_many K rows outs places list are.1)

map_same : {X : Type 0} (f g : ℕ → X) (ks : List ℕ) → ((k : ℕ) → Has ks k → f k ≡ g k) → map f ks ≡ map g ks
map_same f g [] same = refl
map_same {X} f g (k ∷ ks) same = ap₂ (λ (x : X) (l : List X). x ∷ l) (same k first) (map_same f g ks (λ j m. same j (later m)))

-- one level more is finished
module _ (v x w : View Entered) (rows : List PlanRow) (old list : List Outcome) (height : ℕ) (heights : AreByHeight rows) (done : AreFinishedTo v x rows old height)
    (level : AreFinishedAt x w rows old (places_from (suc height) 0 rows) list) (keeps : Keeps x w) where
  abbrev spots : List ℕ
  spots = places_from (suc height) 0 rows

  abbrev after : List Outcome
  after = written old spots list

  within : (k : ℕ) → Has spots k → k < length old
  within k h = (let r : _ = row_of_place (suc height) rows k h in subst (λ n. k < n) (sym done.many) (slice_get_within rows k r.0 r.1))

  same_at : (k : ℕ) (row : PlanRow) → slice_get rows k ≡ Some row → (row.height ≡ suc height → ⊥) → slice_get after k ≡ slice_get old k
  same_at k row at ne = written_other old spots list k (not_there (suc height) rows k row at ne)

  -- children of rows up to the new level
  kids_same : (k : ℕ) (row : PlanRow) → slice_get rows k ≡ Some row → row.height ≤ suc height → all_done after row.kids ≡ all_done old row.kids
  kids_same k row at l = done_same old after row.kids (λ j m. written_other old spots list j (λ h. (
      let kid : _ = row_of_place (suc height) rows j h in
      let low : kid.0.height < row.height = heights.lower k j row kid.0 at m kid.1 in
      let is : kid.0.height ≡ suc height = kid.2 in
      omega (arith, low, is, l))))

  low_now : (k : ℕ) (row : PlanRow) (o : Outcome) → slice_get rows k ≡ Some row → slice_get after k ≡ Some o → row.height ≤ suc height → IsOutcome (KnowsForm w) after row o
  low_now k row o at out l = by (cases_lt height row.height)
    where
      by : (height < row.height) ⊎ (row.height ≤ height) → IsOutcome (KnowsForm w) after row o
      by (inl above) =
          outcome_stays (KnowsForm w) (KnowsForm w) (λ id form e. e) old after row o (kids_same k row at l)
          (written_each (λ j p. (r : PlanRow) → slice_get rows j ≡ Some r → IsOutcome (KnowsForm w) old r p) old 0 spots list (places_rise (suc height) 0 rows) within
          (all_at (KnowsForm w) rows old spots list level.outcomes) k o (place_of_row (suc height) rows k row at (omega (arith, above, l))) out row at)
      by (inr below) =
          outcome_stays (KnowsForm x) (KnowsForm w) (form_still x w keeps) old after row o (kids_same k row at l)
          (done.low k row o at (sym (same_at k row at (λ e. omega (arith, e, below))) ∙ out) below)

  turns_now : AreTurnsOf w (map (outcome_at after) (places_to (suc height) rows)) (done.owns.places ++ level.owns.places)
  turns_now =
      let before : map (outcome_at after) (places_to height rows) ≡ map (outcome_at old) (places_to height rows) =
      map_same (outcome_at after) (outcome_at old) (places_to height rows)
      (λ k h. (let r : _ = row_below height rows k h in let l : r.0.height ≤ height = r.2 in ap outcome_in (same_at k r.0 r.1 (λ e. omega (arith, e, l))))) in
      let now : map (outcome_at after) spots ≡ list = written_at old 0 spots list (places_rise (suc height) 0 rows) within (as_many (KnowsForm w) rows old spots list level.outcomes) in
      let both : map (outcome_at after) (places_to height rows ++ spots) ≡ map (outcome_at old) (places_to height rows) ++ list =
      map-append (outcome_at after) (places_to height rows) spots ∙ ap₂ (λ (a b : List Outcome). a ++ b) before now in
      subst (λ l. AreTurnsOf w l (done.owns.places ++ level.owns.places)) (sym both) (turns_both w (turns_stay x w keeps done.owns.turns) level.owns.turns)

  pub level_done : AreFinishedTo v w rows (written old (places_from (suc height) 0 rows) list) (suc height)
  level_done = record {
    many = written_length old spots list ∙ done.many;
    low = low_now;
    high = λ k row at l. same_at k row at (λ e. omega (arith, e, l)) ∙ done.high k row at (omega (arith, l));
    owns = record {
      places = done.owns.places ++ level.owns.places;
      mine = level.owns.mine ∙ ap (λ l. l ++ level.owns.places) done.owns.mine
          ∙ append_assoc v.mine done.owns.places level.owns.places;
      turns = turns_now;
    };
  }

-- the next level is finished
pub next_level : (v x w : View Entered) (rows : List PlanRow) (old new : List (Option (EntryId × Paths))) (height : ℕ) → AreByHeight rows
    → AreFinishedTo v x rows (outs_of old) height → IsLevelDone x w rows (height + 1) old new → Keeps x w → AreFinishedTo v w rows (outs_of new) (height + 1)
next_level v x w rows old new height heights done level keeps =
    let one : height + 1 ≡ suc height = omega arith in
    let finished : AreFinishedAt x w rows (outs_of old) (places_from (suc height) 0 rows) (outs_of level.list) = subst
    (λ h. AreFinishedAt x w rows (outs_of old) (places_from h 0 rows) (outs_of level.list)) one level.finished in
    let is : outs_of new ≡ written (outs_of old) (places_from (suc height) 0 rows) (outs_of level.list) = ap outs_of level.is
    ∙ written_outs old (places_from (height + 1) 0 rows) level.list ∙ ap (λ h. written (outs_of old) (places_from h 0 rows) (outs_of level.list)) one in
    subst (λ h. AreFinishedTo v w rows (outs_of new) h) (sym one)
    (subst (λ l. AreFinishedTo v w rows l (suc height)) (sym is) (level_done v x w rows (outs_of old) (outs_of level.list) height heights done finished keeps))

-- ---- the steps of the loops

only : {X : Type 0} {x y : X} → Has (x ∷ []) y → y ≡ x
only first = refl
only (later h) = elim h [ ]

-- one row more is no higher
pub highest_more : (rows : List PlanRow) (i : ℕ) (row : PlanRow) (old new : ℕ) → i < length rows → row ≡ get_or rows i row → IsHighest (take i rows) old → old ≤ new
    → row.height ≤ new → IsHighest (take (i + 1) rows) new
highest_more rows i row old new l is highest up here k r at = by
    (has_cases (take i rows) (get_or rows i row ∷ []) r (has_at (take i rows ++ get_or rows i row ∷ []) k r (ap (λ xs. slice_get xs k) (sym (take_more rows i row l)) ∙ at)))
  where
    by : Has (take i rows) r ⊎ Has (get_or rows i row ∷ []) r → r.height ≤ new
    by (inl h) = (let at : _ = index_of (take i rows) r h in let m : r.height ≤ old = highest at.0 r at.1 in omega (arith, m, up))
    by (inr h) = subst (λ (x : PlanRow). x.height ≤ new) (is ∙ sym (only h)) here

pub highest_all : (rows : List PlanRow) (i height : ℕ) → length rows ≤ i → IsHighest (take i rows) height → IsHighest rows height
highest_all rows i height l highest = subst (λ xs. IsHighest xs height) (taken i rows l) highest
  where
    taken : (m : ℕ) (xs : List PlanRow) → length xs ≤ m → take m xs ≡ xs
    taken zero [] k = refl
    taken (suc m) [] k = refl
    taken zero (x ∷ xs) k = absurd (omega (arith, k))
    taken (suc m) (x ∷ xs) k = ap (λ l. x ∷ l) (taken m xs (omega (arith, k)))

-- the places of a height are within the outcomes
pub level_within : (rows : List PlanRow) (height n : ℕ) (places : List ℕ) → places ≡ places_from height 0 rows → n ≡ length rows → (k : ℕ) → Has places k → k < n
level_within rows height n places is many k h =
    let r : _ = row_of_place height rows k (subst (λ l. Has l k) is h) in
    subst (λ m. k < m) (sym many) (slice_get_within rows k r.0 r.1)

outs_length : (xs : List (Option (EntryId × Paths))) → length (outs_of xs) ≡ length xs
outs_length [] = refl
outs_length (x ∷ xs) = ap suc (outs_length xs)

-- as many outcomes as places
pub level_many : (v w : View Entered) (rows : List PlanRow) (outs : List Outcome) (places : List ℕ) (list : List (Option (EntryId × Paths)))
    → AreFinishedAt v w rows outs places (outs_of list) → length list ≡ length places
level_many v w rows outs places list f = sym (outs_length list) ∙ as_many (KnowsForm w) rows outs places (outs_of list) f.outcomes

-- no outcome before the first level
pub none_before : (v : View Entered) (rows : List PlanRow) (outs : List (Option (EntryId × Paths))) → AreByHeight rows → outs ≡ replicate (length rows) None → AreFinishedTo v v rows (outs_of outs) 0
none_before v rows outs heights is = subst (λ l. AreFinishedTo v v rows l 0) (sym (ap outs_of is ∙ none_outs (length rows))) (none_done v rows heights)
  where
    none_outs : (n : ℕ) → outs_of (replicate n None) ≡ replicate n None
    none_outs zero = refl
    none_outs (suc n) = ap (λ (l : List Outcome). None ∷ l) (none_outs n)

-- what a level leaves in the list
pub level_back : (v x w : View Entered) (rows : List PlanRow) (old new : List (Option (EntryId × Paths))) (n height : ℕ) → AreByHeight rows → n ≡ length old
    → AreFinishedTo v x rows (outs_of old) height → IsLevelDone x w rows (height + 1) old new → Keeps x w
    → AreFinishedTo v w rows (outs_of (take n (new ++ drop (length new) old))) (height + 1)
level_back v x w rows old new n height heights many done level keeps =
    let e : length new ≡ length old = ap length level.is ∙ written_length old (places_from (height + 1) 0 rows) level.list in
    subst (λ l. AreFinishedTo v w rows (outs_of l) (height + 1)) (sym (ap (λ m. take m (new ++ drop (length new) old)) many ∙ whole_back new old e))
    (next_level v x w rows old new height heights done level keeps)

-- the rows up to a height that none passes have their outcomes
pub all_low : (v w : View Entered) (rows : List PlanRow) (outs : List Outcome) (height : ℕ) → IsHighest rows height → AreFinishedTo v w rows outs height → AreOutcomes (KnowsForm w) rows outs
all_low v w rows outs height highest done = record { many = done.many; each = λ k row o at out. done.low k row o at out (highest k row at) }
