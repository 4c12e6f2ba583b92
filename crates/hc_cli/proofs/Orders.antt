-- Lists of entries and of calls in other orders.
use Rattle.std.proofs.Common.{◌≡◌, ◌<◌, ◌∙◌, ℕ, zero, suc, List, [], ◌∷◌, length, map, get_or, set, refl, sym, ap, ap₂, subst, arith, IsPermutation, All}
use Rattle.std.proofs.lemmas.List.{length-map, map-set}
use Rattle.std.proofs.lemmas.List.Elements.{All-from_get_or, All-from_recursion, recursion_from_All}
use Rattle.std.proofs.lemmas.List.FromFn.{fill_by_all, get_or-range_with_len, length-range_with_len}
use Rattle.std.proofs.lemmas.List.Sorted.{All-permutation, IsPermutation-keeps, IsPermutation-map, IsPermutation-refl, IsPermutation-swap, IsPermutation-trans}
use Rattle.std.specs.List.{AllByRecursion, cons_option, swap}
use Rattle.std.specs.Prelude.{Option, Some, None, option_map, slice_get}
use Rattle.hc_canon.specs.declared.form.EntryId.{EntryId}
use Rattle.hc_canon.specs.FormView.{FormView}
use Rattle.hc_dbstate.specs.declared.turns.Entered.{Entered}
use Rattle.hc_plan.specs.Elaborates.{ElaboratedCall}
use Rattle.hc_plan.specs.Hierarchies.{AreEntriesOf, IsEntryOf}
use Rattle.hc_turn.specs.Views.{places_of}
use Rattle.hc_workers.specs.Owning.{entries_at}
use lib.ListN.{get_or-map}

-- ---- a list is shuffled where its images are

map_swap : {P X : Type 0} (f : P → X) (ps : List P) (i j : ℕ) → map f (swap ps i j) ≡ swap (map f ps) i j
map_swap f [] i j = refl
map_swap f (d ∷ ps) i j =
    let l = d ∷ ps in
    map-set f (set l i (get_or l j d)) j (get_or l i d)
    ∙ ap₂ (λ xs x. set xs j x) (map-set f l i (get_or l j d) ∙ ap (set (map f l) i) (sym (get_or-map f l j d))) (sym (get_or-map f l i d))

shuffled_back : {P X : Type 0} (f : P → X) (ps : List P) (xs : List X) → IsPermutation (map f ps) xs → (qs : List P) × (map f qs ≡ xs) × IsPermutation ps qs
shuffled_back {P} {X} f ps = IsPermutation-keeps (map f ps) (λ l. (qs : List P) × (map f qs ≡ l) × IsPermutation ps qs) (ps, refl, IsPermutation-refl ps) (
    λ l i j a b h.
    let same : length h.0 ≡ length l = sym (length-map h.0 f) ∙ ap length h.1 in (
      swap h.0 i j,
      map_swap f h.0 i j ∙ ap (λ (m : List X). swap m i j) h.1,
      IsPermutation-trans ps h.0 (swap h.0 i j) h.2
          (IsPermutation-swap h.0 (swap h.0 i j) i j (omega (arith, a, same)) (omega (arith, b, same)) refl),
    )
    )

-- ---- entries beside their calls

abbrev Pair : Type 0
Pair = EntryId × ElaboratedCall

abbrev id_in : Pair → EntryId
id_in p = p.0

abbrev call_in : Pair → ElaboratedCall
call_in p = p.1

module _ (entries : List FormView) where
  abbrev IsPair : Pair → Type 0
  IsPair p = IsEntryOf entries p.0 p.1.tree

  record ArePairs (ids : List EntryId) (calls : List ElaboratedCall) : Type 0 where
    pairs : List Pair
    ids_are : map id_in pairs ≡ ids
    calls_are : map call_in pairs ≡ calls
    all : AllByRecursion IsPair pairs

  paired : (ids : List EntryId) (calls : List ElaboratedCall) → AreEntriesOf entries ids calls → ArePairs ids calls
  paired [] [] are = record { pairs = []; ids_are = refl; calls_are = refl; all = tt }
  paired [] (c ∷ cs) are = absurd are
  paired (id ∷ ids) [] are = absurd are
  paired (id ∷ ids) (c ∷ cs) are =
      let rest = paired ids cs are.1 in
      record { pairs = (id, c) ∷ rest.pairs; ids_are = ap (λ l. id ∷ l) rest.ids_are; calls_are = ap (λ l. c ∷ l) rest.calls_are; all = (are.0, rest.all) }

  unpaired : (ps : List Pair) → AllByRecursion IsPair ps → AreEntriesOf entries (map id_in ps) (map call_in ps)
  unpaired [] all = tt
  unpaired (p ∷ ps) all = (all.0, unpaired ps all.1)

  still_pairs : (ps qs : List Pair) → IsPermutation ps qs → AllByRecursion IsPair ps → AreEntriesOf entries (map id_in qs) (map call_in qs)
  still_pairs ps qs moved all = unpaired qs (recursion_from_All IsPair qs (All-permutation IsPair ps qs moved (All-from_recursion IsPair ps all)))

  -- Calls in another order have their entries in another order.
  pub entries_follow : (ids : List EntryId) (calls others : List ElaboratedCall) → AreEntriesOf entries ids calls → IsPermutation calls others
      → (moved : List EntryId) × IsPermutation ids moved × AreEntriesOf entries moved others
  entries_follow ids calls others are order =
      let p = paired ids calls are in
      let s = shuffled_back call_in p.pairs others (subst (λ (l : List ElaboratedCall). IsPermutation l others) (sym p.calls_are) order) in (
        map id_in s.0,
        subst (λ (l : List EntryId). IsPermutation l (map id_in s.0)) p.ids_are (IsPermutation-map id_in p.pairs s.0 s.2),
        subst (λ (l : List ElaboratedCall). AreEntriesOf entries (map id_in s.0) l) s.1 (still_pairs p.pairs s.0 s.2 p.all),
      )

  -- Entries in another order have their calls in another order.
  pub calls_follow : (ids others : List EntryId) (calls : List ElaboratedCall) → AreEntriesOf entries ids calls → IsPermutation ids others
      → (moved : List ElaboratedCall) × IsPermutation calls moved × AreEntriesOf entries others moved
  calls_follow ids others calls are order =
      let p = paired ids calls are in
      let s = shuffled_back id_in p.pairs others (subst (λ (l : List EntryId). IsPermutation l others) (sym p.ids_are) order) in (
        map call_in s.0,
        subst (λ (l : List ElaboratedCall). IsPermutation l (map call_in s.0)) p.calls_are (IsPermutation-map call_in p.pairs s.0 s.2),
        subst (λ (l : List EntryId). AreEntriesOf entries l (map call_in s.0)) s.1 (still_pairs p.pairs s.0 s.2 p.all),
      )

-- ---- the entries at the places of a log

abbrev entry_of : Entered → EntryId
entry_of t = t.entry

abbrev or_first : Option Entered → EntryId
or_first None = record { 0 = 0 }
or_first (Some t) = t.entry

entry_there : (turns : List Entered) (k : ℕ) (d : EntryId) → k < length turns → get_or (map entry_of turns) k d ≡ or_first (slice_get turns k)
entry_there [] k d lt = absurd (omega (arith, lt))
entry_there (t ∷ turns) zero d lt = refl
entry_there (t ∷ turns) (suc k) d lt = entry_there turns k d (omega (arith, lt))

all_there : (turns : List Entered) → map entry_of turns ≡ map (λ (p : ℕ). or_first (slice_get turns p)) (places_of turns)
all_there turns = fill_by_all (λ (p : ℕ). or_first (slice_get turns p)) (map entry_of turns) (length turns) (record { 0 = 0 }) (length-map turns entry_of)
    (λ k lt. entry_there turns k (record { 0 = 0 }) lt)

cons_there : (turns : List Entered) (p : ℕ) (ids : List EntryId) → p < length turns → cons_option (option_map entry_of (slice_get turns p)) ids ≡ or_first (slice_get turns p) ∷ ids
cons_there [] p ids lt = absurd (omega (arith, lt))
cons_there (t ∷ turns) zero ids lt = refl
cons_there (t ∷ turns) (suc p) ids lt = cons_there turns p ids (omega (arith, lt))

these_there : (turns : List Entered) (places : List ℕ) → AllByRecursion (λ p. p < length turns) places → map (λ (p : ℕ). or_first (slice_get turns p)) places ≡ entries_at turns places
these_there turns [] all = refl
these_there turns (p ∷ places) all = ap (λ (l : List EntryId). or_first (slice_get turns p) ∷ l) (these_there turns places all.1) ∙ sym (cons_there turns p (entries_at turns places) all.0)

all_within : (turns : List Entered) → All (λ p. p < length turns) (places_of turns)
all_within turns = All-from_get_or (λ p. p < length turns) (places_of turns) 0 (
    λ i lt.
    let long = length-range_with_len 0 (length turns) in
    let within : i < length turns = omega (arith, lt, long) in
    let is = get_or-range_with_len 0 (length turns) i 0 within in
    omega (arith, within, is)
    )

-- The entries at all places, in another order.
pub entries_at_all : (turns : List Entered) (places : List ℕ) → IsPermutation (places_of turns) places → IsPermutation (map (λ (t : Entered). t.entry) turns) (entries_at turns places)
entries_at_all turns places order =
    let within = recursion_from_All (λ p. p < length turns) places (All-permutation (λ p. p < length turns) (places_of turns) places order (all_within turns)) in
    let f : ℕ → EntryId = λ p. or_first (slice_get turns p) in
    subst (λ (l : List EntryId). IsPermutation (map entry_of turns) l) (these_there turns places within)
    (subst (λ (l : List EntryId). IsPermutation l (map f places)) (sym (all_there turns)) (IsPermutation-map f (places_of turns) places order))
