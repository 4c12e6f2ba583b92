-- What a pass owns of an elaborated design, and the hierarchy in each history that it finds.
use Rattle.std.proofs.Common.{◌≡◌, ℕ, zero, suc, ◌<◌, List, [], ◌∷◌, ◌++◌, length, map, get_or, refl, sym, ap, subst, ◌∙◌, arith}
use Rattle.std.proofs.lemmas.List.{length_push, length-map}
use Rattle.std.proofs.lemmas.List.FromFn.{fill_by_all}
use Rattle.std.proofs.lemmas.List.Sorted.{IsPermutation-map}
use Rattle.std.proofs.lemmas.Option.{slice_get-get_or}
use Rattle.std.specs.List.{range_with_len, cons_option}
use Rattle.std.specs.Prelude.{slice_get, option_map, Option, Some, None, unwrap_or, Result, Ok, Err, IsPermutation}
use Rattle.hc_fault.specs.declared.fault.Fault.{Fault}
use Rattle.hc_fault.specs.declared.fault.Refused.{Refused}
use Rattle.hc_fault.specs.declared.fault.Refused.TheVariants as refused
use Rattle.hc_lang.specs.declared.tree.Design.{Design}
use Rattle.hc_signal.specs.Member.{Has, first, later}
use Rattle.hc_paths.specs.declared.kinds.Paths.{Paths}
use Rattle.hc_canon.specs.declared.form.EntryId.{EntryId}
use Rattle.hc_canon.specs.FormView.{FormView}
use Rattle.hc_dbstate.specs.declared.hier.Hier.{Hier}
use Rattle.hc_dbstate.specs.declared.turns.Entered.{Entered}
use Rattle.hc_dbstate.specs.Elaboration.{hier_view}
use Rattle.hc_dbstate.specs.History.{History, IsLegal, log}
use Rattle.hc_turn.specs.declared.view.View.{View}
use Rattle.hc_db.specs.Inserting.{Finds}
use Rattle.hc_db.specs.OwnTurns.{KnowsForm, KnowsTurn}
use Rattle.hc_body.specs.TopCall.{top_call}
use Rattle.hc_statements.specs.declared.kinds.Call.{Call}
use Rattle.hc_plan.specs.Concluded.{IsConcluded}
use Rattle.hc_plan.specs.Distinct.{AreDistinct, AreFirstFinishes, AreFirsts, again, anew, call_of, none_left}
use Rattle.hc_plan.specs.Elaborates.{DesignElaborates, Elaborated, ElaboratedCall, FinishedCall, TreeFinishes, no_call, stop_of}
use Rattle.hc_plan.specs.Finishing.{AreOutcomes, Outcome, any_form, ids_of, outcome_in}
use Rattle.hc_plan.specs.Hierarchies.{AreEntriesOf, Done, ElaboratesIn, IsEntryOf, IsHierAt, IsHierarchyFor}
use Rattle.hc_plan.specs.Plan.{IsPlanOf}
use Rattle.hc_plan.specs.Planning.{FaultIs}
use Rattle.hc_plan.specs.Stepping.{outs_of}
use Rattle.hc_plan.specs.declared.kinds.Plan.{Plan}
use Rattle.hc_plan.specs.declared.kinds.PlanRow.{PlanRow}
use Rattle.hc_workers.specs.Levels.{AreAllFinished, outcome_at}
use Rattle.hc_workers.specs.Owning.{OwnsDistinct, entries_at}
use Rattle.hc_workers.specs.Working.{AreTurnsOf}
use Rattle.hc_workers.specs.Working as working
use Rattle.hc_workers.proofs.Heights.{item_at}
use Rattle.hc_workers.proofs.Knowing.{outcome_stays}

-- the fault of the `top` line is that of the design
pub top_fails : (d : Design) (r : Refused) → FaultIs (λ f. top_call d ≡ Err f) r → FaultIs (λ f. DesignElaborates d (Err f)) r
top_fails d (refused.Fault f) e = ([], no_call f e)
top_fails d refused.NoMemory e = tt

-- the outcomes, by another word for forms
outcomes_by : (K L : EntryId → FormView → Type 0) → ((id : EntryId) (form : FormView) → K id form → L id form) → (rows : List PlanRow) (outs : List Outcome)
    → AreOutcomes K rows outs → AreOutcomes L rows outs
outcomes_by K L kept rows outs are = record { many = are.many; each = λ k row o at out. outcome_stays K L kept outs outs row o refl (are.each k row o at out) }

-- the outcomes, whatever the forms
pub of_any_form : (v w : View Entered) (rows : List PlanRow) (outs : List Outcome) → AreAllFinished v w rows outs → AreOutcomes any_form rows outs
of_any_form v w rows outs done = outcomes_by (KnowsForm w) any_form (λ id form e. tt) rows outs done.outcomes

-- ---- distinct calls are single

firsts_once : {X : Type 0} (f : X → Call) {met : List Call} {xs ys : List X} → AreFirsts f met xs ys → (zs : List X) → AreFirsts f met xs zs → ys ≡ zs
firsts_once f none_left zs none_left = refl
firsts_once f (again h a) zs (again k b) = firsts_once f a zs b
firsts_once f (again h a) zs (anew k b) = absurd (k h)
firsts_once f (anew h a) zs (again k b) = absurd (h k)
firsts_once {X} f (anew {x = x} h a) zs (anew {ys = more} k b) = ap (λ (l : List X). x ∷ l) (firsts_once f a more b)

-- ---- turns and entries, in an order

-- the turn of the next row that is finished
record NextTurn (w : View Entered) (x : Done) (os : List Outcome) (ps : List ℕ) : Type 0 where
  place : ℕ
  turn : Entered
  rest : List ℕ
  knows : KnowsTurn w place turn
  entry : turn.entry ≡ x.0
  is : ps ≡ place ∷ rest
  more : AreTurnsOf w os rest

next_turn : (w : View Entered) (x : Done) (os all : List Outcome) (ps : List ℕ) → AreTurnsOf w all ps → all ≡ Some x ∷ os → NextTurn w x os ps
next_turn w x os all ps working.none_left e = absurd cc
next_turn w x os all ps (working.unfinished more) e = absurd cc
next_turn w x os all ps (working.finished {os = others} {ps = rest} {x = y} {p = p} t knows entry more) e =
    let same : Some y ≡ Some x = cc in
    let is : y ≡ x = ap (λ o. unwrap_or o y) same in
    let left : others ≡ os = cc in
    record { place = p; turn = t; rest = rest; knows = knows; entry = entry ∙ ap (λ (z : Done). z.0) is; is = refl; more = subst (λ l. AreTurnsOf w l rest) left more }

no_turns : (w : View Entered) (all : List Outcome) (ps : List ℕ) → AreTurnsOf w all ps → all ≡ [] → ps ≡ []
no_turns w all ps working.none_left e = refl
no_turns w all ps (working.unfinished more) e = absurd cc
no_turns w all ps (working.finished t knows entry more) e = absurd cc

module _ (w : View Entered) (outs : List Outcome) (call_at : ℕ → ElaboratedCall) where
  -- as many turns as rows
  turns_many : (ks ps : List ℕ) → AreTurnsOf w (map (outcome_at outs) ks) ps → ((k : ℕ) → Has ks k → (x : Done) × (outcome_at outs k ≡ Some x)) → length ps ≡ length (map call_at ks)
  turns_many [] ps turns done = ap length (no_turns w [] ps turns refl)
  turns_many (k ∷ ks) ps turns done =
      let x : (x : Done) × (outcome_at outs k ≡ Some x) = done k first in
      let n : NextTurn w x.0 (map (outcome_at outs) ks) ps = next_turn w x.0 (map (outcome_at outs) ks) (outcome_at outs k ∷ map (outcome_at outs) ks) ps turns
      (ap (λ o. o ∷ map (outcome_at outs) ks) x.1) in
      ap length n.is ∙ ap suc (turns_many ks n.rest n.more (λ j h. done j (later h)))

  -- the entries of the turns are those of the rows' calls
  entries_in_order : (g : History) → ((p : ℕ) (t : Entered) → KnowsTurn w p t → slice_get (log g) p ≡ Some t) → (ks ps : List ℕ)
      → AreTurnsOf w (map (outcome_at outs) ks) ps → ((k : ℕ) → Has ks k → (x : Done) × (outcome_at outs k ≡ Some x) × IsEntryOf g.entries x.0 (call_at k).tree)
      → AreEntriesOf g.entries (entries_at (log g) ps) (map call_at ks)
  entries_in_order g there [] ps turns right = subst (λ l. AreEntriesOf g.entries (entries_at (log g) l) []) (sym (no_turns w [] ps turns refl)) tt
  entries_in_order g there (k ∷ ks) ps turns right =
      let x : (x : Done) × (outcome_at outs k ≡ Some x) × IsEntryOf g.entries x.0 (call_at k).tree = right k first in
      let n : NextTurn w x.0 (map (outcome_at outs) ks) ps = next_turn w x.0 (map (outcome_at outs) ks) (outcome_at outs k ∷ map (outcome_at outs) ks) ps turns
      (ap (λ o. o ∷ map (outcome_at outs) ks) x.1) in
      let own : IsEntryOf g.entries n.turn.entry (call_at k).tree = subst (λ (id : EntryId). IsEntryOf g.entries id (call_at k).tree) (sym n.entry) x.2 in
      let others : AreEntriesOf g.entries (entries_at (log g) n.rest) (map call_at ks) = entries_in_order g there ks n.rest n.more (λ j h. right j (later h)) in
      let is : entries_at (log g) ps ≡ n.turn.entry ∷ entries_at (log g) n.rest =
      ap (entries_at (log g)) n.is ∙ ap (λ o. cons_option (option_map (λ (t : Entered). t.entry) o) (entries_at (log g) n.rest)) (there n.place n.turn n.knows) in
      subst (λ l. AreEntriesOf g.entries l (call_at k ∷ map call_at ks)) (sym is) (own, others)

-- the entry of what is done of a row is that of its call
entry_each : (entries : List FormView) (done : List Done) (firsts : List ElaboratedCall) (k : ℕ) (x : Done) (c : ElaboratedCall)
    → AreEntriesOf entries (ids_of done) firsts → slice_get done k ≡ Some x → slice_get firsts k ≡ Some c → IsEntryOf entries x.0 c.tree
entry_each entries [] firsts k x c are at there = absurd cc
entry_each entries (y ∷ done) [] k x c are at there = absurd are
entry_each entries (y ∷ done) (b ∷ firsts) zero x c are at there =
    let p : y ≡ x = ap (λ o. unwrap_or o y) at in
    let q : b ≡ c = ap (λ o. unwrap_or o b) there in
    subst (λ (z : ElaboratedCall). IsEntryOf entries x.0 z.tree) q (subst (λ (z : Done). IsEntryOf entries z.0 b.tree) p are.0)
entry_each entries (y ∷ done) (b ∷ firsts) (suc k) x c are at there = entry_each entries done firsts k x c are.1 at there

-- ---- the laws of plans, as premises

abbrev pub IsOnlyOne : Design → Type 0
IsOnlyOne d = (r s : Result Elaborated Fault) → DesignElaborates d r → DesignElaborates d s → r ≡ s

abbrev pub Decides : Design → Type 0
Decides d = (rows : List PlanRow) (stop : Option Fault) (outs : List Outcome) (plan : IsPlanOf d rows stop) → AreOutcomes any_form rows outs
    → ((j : ℕ) → j < length rows → (y : Done) × (slice_get outs j ≡ Some (Some y))) → DesignElaborates d plan.result

abbrev pub WalksAre : Design → Type 0
WalksAre d = (done firsts : List FinishedCall) (e : Elaborated) → TreeFinishes d done (Ok e) → AreFirstFinishes done firsts → (e.calls ≡ map (λ (x : FinishedCall). x.own) done)
    × AreDistinct e.calls (map (λ (x : FinishedCall). x.own) firsts)

abbrev pub HasForm : History → EntryId → FormView → Type 0
HasForm h id form = slice_get h.entries id.0 ≡ Some form

abbrev pub HierarchiesStand : Design → Type 0
HierarchiesStand d =
    (h : History) (rows : List PlanRow) (outs : List Outcome) (done : List Done) (hier : Hier) (k : ℕ) → IsLegal h → IsPlanOf d rows None → AreOutcomes (HasForm h) rows outs
    → ((j : ℕ) → j < length rows → (y : Done) × (slice_get outs j ≡ Some (Some y))) → ((j : ℕ) (x : Done) → slice_get done j ≡ Some x → slice_get outs j ≡ Some (Some x))
    → suc k ≡ length rows → IsHierAt d rows done k (hier_view hier) → ElaboratesIn d h.entries hier

abbrev pub TurnsStand : Design → Type 0
TurnsStand d =
    (h : History) (rows : List PlanRow) (outs : List Outcome) (done : List Done) → IsLegal h → IsPlanOf d rows None → AreOutcomes (HasForm h) rows outs
    → ((j : ℕ) → j < length rows → (y : Done) × (slice_get outs j ≡ Some (Some y))) → ((j : ℕ) (x : Done) → slice_get done j ≡ Some x → slice_get outs j ≡ Some (Some x)) → length done ≡ length rows
    → (e : Elaborated) × DesignElaborates d (Ok e) × (firsts : List ElaboratedCall) × AreDistinct e.calls firsts × AreEntriesOf h.entries (ids_of done) firsts

abbrev pub TurnsAreThere : Type 0
TurnsAreThere = (v : View Entered) (h : History) (p : ℕ) (t : Entered) → Finds v h → KnowsTurn v p t → slice_get (log h) p ≡ Some t

abbrev pub FormsAreThere : Type 0
FormsAreThere = (v : View Entered) (h : History) (p : ℕ) (t : Entered) → Finds v h → KnowsTurn v p t → slice_get h.entries t.entry.0 ≡ Some t.form

-- ---- the whole

no_stop : (r : Result Elaborated Fault) → None ≡ stop_of r → (e : Elaborated) × (r ≡ Ok e)
no_stop (Ok e) q = (e, refl)
no_stop (Err f) q = absurd cc

last_place : (rows before : List PlanRow) (row : PlanRow) → rows ≡ before ++ row ∷ [] → suc (length before) ≡ length rows
last_place rows before row e = (let a : _ = length_push before row in let b : length rows ≡ length (before ++ row ∷ []) = ap length e in omega (arith, a, b))

finished_at : (outs : List Outcome) (k : ℕ) (x : Done) → slice_get outs k ≡ Some (Some x) → outcome_at outs k ≡ Some x
finished_at outs k x e = ap outcome_in e

module _ (d : Design) (v w : View Entered) (plan : Plan) (xs : List (Option (EntryId × Paths))) (hier : Hier) (once : IsOnlyOne d) (decides : Decides d) (walks : WalksAre d)
    (stand : HierarchiesStand d) (turns_stand : TurnsStand d) (there : TurnsAreThere) (forms : FormsAreThere)
    (of : IsPlanOf d plan.rows plan.stop) (done : AreAllFinished v w plan.rows (outs_of xs)) (is : IsConcluded d plan xs hier) where
  whole : IsPlanOf d plan.rows None
  whole = subst (IsPlanOf d plan.rows) is.whole of

  result : (e : Elaborated) × (whole.result ≡ Ok e)
  result = no_stop whole.result whole.stops

  elaborates : DesignElaborates d (Ok result.0)
  elaborates = subst (DesignElaborates d) result.1 (decides plan.rows None (outs_of xs) whole (of_any_form v w plan.rows (outs_of xs) done) is.all)

  firsts : List ElaboratedCall
  firsts = map (λ (x : FinishedCall). x.own) whole.firsts

  distinct : AreDistinct result.0.calls firsts
  unfolding firsts
  distinct = (walks whole.done whole.firsts result.0 (subst (λ r. TreeFinishes d whole.done r) result.1 whole.finishes) whole.distinct).1

  many_firsts : length firsts ≡ length plan.rows
  unfolding firsts
  many_firsts = length-map whole.firsts (λ (x : FinishedCall). x.own) ∙ sym whole.are.many

  last : (before : List PlanRow) × (row : PlanRow) × (plan.rows ≡ before ++ row ∷ []) × (row.call ≡ whole.call)
  last = whole.last refl

  place : suc (length last.0) ≡ length plan.rows
  place = last_place plan.rows last.0 last.1 last.2

  some : (c : ElaboratedCall) × (slice_get firsts 0 ≡ Some c)
  some = item_at firsts 0 (let p : _ = place in let m : _ = many_firsts in omega (arith, p, m))

  abbrev call_at : ℕ → ElaboratedCall
  call_at k = get_or firsts k some.0

  all_calls : firsts ≡ map call_at (range_with_len 0 (length plan.rows))
  all_calls = fill_by_all call_at firsts (length plan.rows) some.0 many_firsts (λ k l. refl)

  same : IsPermutation (map call_at done.order) firsts
  same = subst (λ l. IsPermutation (map call_at done.order) l) (sym all_calls) (IsPermutation-map call_at done.order (range_with_len 0 (length plan.rows)) done.all)

  row_done : (k : ℕ) → Has done.order k → (x : Done) × (outcome_at (outs_of xs) k ≡ Some x)
  row_done k h = (let x : _ = is.all k (done.within k h) in (x.0, finished_at (outs_of xs) k x.0 x.1))

  outcomes_in : (g : History) → Finds w g → AreOutcomes (HasForm g) plan.rows (outs_of xs)
  outcomes_in g found =
      outcomes_by (KnowsForm w) (HasForm g)
      (λ id form knows. (let f : slice_get g.entries knows.1.entry.0 ≡ Some knows.1.form = forms w g knows.0 knows.1 found knows.2 in ap (λ (i : EntryId). slice_get g.entries i.0)
      (sym knows.3) ∙ f ∙ ap Some knows.4))
      plan.rows (outs_of xs) done.outcomes

  hierarchy_in : (g : History) → Finds w g → IsHierarchyFor g.entries hier result.0
  hierarchy_in g found =
      let r : ElaboratesIn d g.entries hier = stand g plan.rows (outs_of xs) is.done hier (length last.0) found.legal whole (outcomes_in g found) is.all is.same place (is.at (length last.0) place) in
      let alike : Ok r.0 ≡ Ok result.0 = once (Ok r.0) (Ok result.0) r.1 elaborates in
      let e_is : r.0 ≡ result.0 = cc in
      subst (λ (e : Elaborated). IsHierarchyFor g.entries hier e) e_is r.2

  entries_in : (g : History) → Finds w g → AreEntriesOf g.entries (ids_of is.done) firsts
  entries_in g found =
      let r : _ = turns_stand g plan.rows (outs_of xs) is.done found.legal whole (outcomes_in g found) is.all is.same is.many in
      let alike : Ok r.0 ≡ Ok result.0 = once (Ok r.0) (Ok result.0) r.1 elaborates in
      let e_is : r.0 ≡ result.0 = cc in
      let firsts_are : r.2 ≡ firsts = firsts_once call_of (subst (λ (e : Elaborated). AreDistinct e.calls r.2) e_is r.3) firsts distinct in
      subst (λ l. AreEntriesOf g.entries (ids_of is.done) l) firsts_are r.4

  entry_in : (g : History) → Finds w g → (k : ℕ) → Has done.order k → (x : Done) × (outcome_at (outs_of xs) k ≡ Some x) × IsEntryOf g.entries x.0 (call_at k).tree
  entry_in g found k h =
      let l : k < length plan.rows = done.within k h in
      let y : (y : Done) × (slice_get is.done k ≡ Some y) = item_at is.done k (subst (λ n. k < n) (sym is.many) l) in (
        y.0,
        finished_at (outs_of xs) k y.0 (is.same k y.0 y.1),
        entry_each g.entries is.done firsts k y.0 (call_at k) (entries_in g found) y.1
            (slice_get-get_or firsts k some.0 (subst (λ n. k < n) (sym many_firsts) l)),
      )

  pub owns_distinct : OwnsDistinct d v w hier
  owns_distinct = record {
    e = result.0;
    elaborates = elaborates;
    firsts = firsts;
    distinct = distinct;
    order = map call_at done.order;
    same = same;
    places = done.owns.places;
    mine = done.owns.mine;
    many = turns_many w (outs_of xs) call_at done.order done.owns.places done.owns.turns row_done;
    hierarchy = hierarchy_in;
    turns = λ g found. entries_in_order w (outs_of xs) call_at g (λ p t knows. there w g p t found knows) done.order done.owns.places done.owns.turns (entry_in g found);
  }
