-- Rows of a plan that are finished one after another.
use Rattle.std.proofs.Common.{◌≡◌, ℕ, zero, suc, ◌+◌, ◌<◌, ◌≤◌, ◌⊎◌, inl, inr, List, [], ◌∷◌, ◌++◌, length, map, take, get_or, refl, sym, ap, subst, ◌∙◌, append_assoc, append-nil, arith}
use Rattle.std.proofs.lemmas.Bool.{cases_lt}
use Rattle.std.proofs.lemmas.List.{length_push, map-append, take_more, length-map}
use Rattle.std.proofs.lemmas.Option.{get_or_from_slice_get, slice_get-get_or, slice_get_within}
use Rattle.std.specs.Prelude.{slice_get, Option, Some, None, unwrap_or, Ok, ℤ}
use Rattle.hc_fault.specs.declared.fault.Fault.{Fault}
use Rattle.hc_fault.specs.declared.fault.Path.{Path}
use Rattle.hc_lang.specs.declared.tree.CircuitText.{CircuitText}
use Rattle.hc_lang.specs.declared.tree.Design.{Design}
use Rattle.hc_signal.specs.Checked.{IsChecked}
use Rattle.hc_signal.specs.Member.{Has, first, later}
use Rattle.hc_paths.specs.declared.kinds.Paths.{Paths}
use Rattle.hc_canon.specs.declared.form.EntryId.{EntryId}
use Rattle.hc_canon.specs.FormView.{FormView}
use Rattle.hc_dbstate.specs.declared.turns.Entered.{Entered}
use Rattle.hc_dbstate.specs.History.{History, entered, log}
use Rattle.hc_dbstate.specs.Insertion.{IsInserted}
use Rattle.hc_body.specs.declared.kinds.Body.{Body}
use Rattle.hc_body.specs.BodyOf.{BodyOf}
use Rattle.hc_body.specs.BodyOf as body_of
use Rattle.hc_body.specs.Children.{AreChildrenOf}
use Rattle.hc_statements.specs.declared.kinds.Child.{Child}
use Rattle.hc_plan.specs.Elaborates.{FinishedCall}
use Rattle.hc_plan.specs.Finishing.{AreOutcomes, IsOutcome, Outcome, all_done, finished, looped, outcome_in, passed_over, put_first}
use Rattle.hc_plan.specs.Hierarchies.{Done, LogGrew}
use Rattle.hc_plan.specs.Plan.{IsPlanOf, IsRowOf, call_at}
use Rattle.hc_plan.specs.Stepping.{IsLooped, IsReady, outcome_of, outs_of}
use Rattle.hc_plan.specs.declared.kinds.PlanRow.{PlanRow}
use Rattle.hc_elab.specs.Rows.{AreFinished, AreThere, HasForm, IsFinished, LogsRows, entries_of}

-- ---- lists

-- earlier items of a list with one item more
left_same : {X : Type 0} (xs : List X) (x : X) (k : ℕ) → k < length xs → slice_get (xs ++ x ∷ []) k ≡ slice_get xs k
left_same [] x k l = absurd (omega (arith, l))
left_same (y ∷ xs) x zero l = refl
left_same (y ∷ xs) x (suc k) l = left_same xs x k (omega (arith, l))

-- the last item of a list with one item more
last_is : {X : Type 0} (xs : List X) (x : X) → slice_get (xs ++ x ∷ []) (length xs) ≡ Some x
last_is [] x = refl
last_is (y ∷ xs) x = last_is xs x

item_at : {X : Type 0} (xs : List X) (k : ℕ) → k < length xs → (x : X) × (slice_get xs k ≡ Some x)
item_at [] k l = absurd (omega (arith, l))
item_at (x ∷ xs) zero l = (x, refl)
item_at (x ∷ xs) (suc k) l = item_at xs k (omega (arith, l))

has_from_map : {X Y : Type 0} (f : X → Y) (xs : List X) (y : Y) → Has (map f xs) y → (x : X) × Has xs x × (f x ≡ y)
has_from_map f [] y h = elim h [ ]
has_from_map f (x ∷ xs) y first = (x, first, refl)
has_from_map f (x ∷ xs) y (later h) = let r : _ = has_from_map f xs y h in (r.0, later r.1, r.2)

-- ---- what is done of the children of a row

put_cases : (o : Outcome) (rest : Option (List Done)) (xs : List Done) → put_first o rest ≡ Some xs → (x : Done) × (ys : List Done) × (o ≡ Some x) × (rest ≡ Some ys) × (xs ≡ x ∷ ys)
put_cases None rest xs e = absurd cc
put_cases (Some x) None xs e = absurd cc
put_cases (Some x) (Some ys) xs e = (x, ys, refl, refl, sym (ap (λ o. unwrap_or o xs) e))

out_there : (o : Option Outcome) (x : Done) → outcome_in o ≡ Some x → o ≡ Some (Some x)
out_there None x e = absurd cc
out_there (Some o) x e = ap Some e

-- what is done of a child is the outcome of a row
done_there : (outs : List Outcome) (ks : List ℕ) (kids : List Done) → all_done outs ks ≡ Some kids → (x : Done) → Has kids x → (k : ℕ) × (slice_get outs k ≡ Some (Some x))
done_there outs [] kids e x m = (let same : kids ≡ [] = ap (λ o. unwrap_or o kids) (sym e) in elim (subst (λ l. Has l x) same m) [ ])
done_there outs (k ∷ ks) kids e x m =
    let c : _ = put_cases (outcome_in (slice_get outs k)) (all_done outs ks) kids e in
    by c.0 c.1 (out_there (slice_get outs k) c.0 c.2) (done_there outs ks c.1 c.3 x) (subst (λ l. Has l x) c.4 m)
  where
    by : (y : Done) (ys : List Done) → slice_get outs k ≡ Some (Some y) → (Has ys x → (j : ℕ) × (slice_get outs j ≡ Some (Some x))) → Has (y ∷ ys) x → (j : ℕ) × (slice_get outs j ≡ Some (Some x))
    by y ys own more first = (k, own)
    by y ys own more (later h) = more h

-- one outcome more changes nothing for rows whose children stand below
done_same : (outs : List Outcome) (o : Outcome) (ks : List ℕ) → ((k : ℕ) → Has ks k → k < length outs) → all_done (outs ++ o ∷ []) ks ≡ all_done outs ks
done_same outs o [] below = refl
done_same outs o (k ∷ ks) below =
    ap (λ x. put_first (outcome_in x) (all_done (outs ++ o ∷ []) ks)) (left_same outs o k (below k first)) ∙ ap (put_first (outcome_in (slice_get outs k)))
    (done_same outs o ks (λ j m. below j (later m)))

-- the entries of the children are there
pub kids_there : (h : History) (outs : List Outcome) (row : PlanRow) (form : FormView) (masks : List ℕ) → AreThere h outs → IsReady outs row form masks → (id : EntryId)
    → Has form.kids id → id.0 < length h.entries
kids_there h outs row form masks there ready id m =
    let kid : (x : Done) × Has ready.kids x × (x.0 ≡ id) = has_from_map (λ (x : Done). x.0) ready.kids id (ready.canon.known id m) in
    let at : (k : ℕ) × (slice_get outs k ≡ Some (Some kid.0)) = done_there outs row.kids ready.kids ready.done kid.0 kid.1 in
    subst (λ (i : EntryId). i.0 < length h.entries) kid.2 (there at.0 kid.0 at.1)

-- ---- one row

-- a row whose form was inserted is finished
pub is_inserted : (old new : History) (outs : List Outcome) (row : PlanRow) (form : FormView) (masks : List ℕ) (id : EntryId) → IsReady outs row form masks
    → IsInserted old new form id → ((entry : EntryId) (kept : FormView) → HasForm old entry kept → HasForm new entry kept)
    → IsFinished old new outs row (Some (id, masks))
is_inserted old new outs row form masks id r i kept = record {
  outcome = finished r.kids id masks form r.done i.found r.canon r.right r.free;
  logs = record { added = entered id i.fresh form ∷ []; log = i.log; turns = refl };
  kept = kept;
}

-- a row that takes no turn
no_turn : (h : History) (outs : List Outcome) (row : PlanRow) → IsOutcome (HasForm h) outs row None → IsFinished h h outs row None
no_turn h outs row o = record { outcome = o; logs = record { added = []; log = sym (append-nil (log h)); turns = refl }; kept = λ id form e. e }

pub is_looped : (h : History) (outs : List Outcome) (row : PlanRow) → IsLooped outs row → IsFinished h h outs row None
is_looped h outs row l = no_turn h outs row (looped l.kids l.done l.loop)

pub is_passed_over : (h : History) (outs : List Outcome) (row : PlanRow) → all_done outs row.kids ≡ None → IsFinished h h outs row None
is_passed_over h outs row none = no_turn h outs row (passed_over none)

-- ---- the rows of a plan

row_is : (d : Design) (rows : List PlanRow) (stop : Option Fault) → IsPlanOf d rows stop → (k : ℕ) (row : PlanRow) → slice_get rows k ≡ Some row → (x : FinishedCall) × IsRowOf d rows k row x
row_is d rows stop plan k row at =
    let x : (x : FinishedCall) × (slice_get plan.firsts k ≡ Some x) = item_at plan.firsts k (subst (λ n. k < n) plan.are.many (slice_get_within rows k row at)) in
    (x.0, plan.are.each k row x.0 at x.1)

body_checked : (d : Design) (c : CircuitText) (args : List ℤ) (path : Path) (b : Body) → BodyOf d c args path (Ok b) → IsChecked b.circuit
body_checked d c args path b (body_of.whole e done checked) = checked

-- the circuit of a row is checked
pub row_checked : (d : Design) (rows : List PlanRow) (stop : Option Fault) → IsPlanOf d rows stop → (k : ℕ) (row : PlanRow) → slice_get rows k ≡ Some row → IsChecked row.body.circuit
row_checked d rows stop plan k row at = (let is : _ = (row_is d rows stop plan k row at).1 in body_checked d is.circuit row.call.args row.first row.body is.body)

-- a row has a child for each instance of its circuit
pub row_many : (d : Design) (rows : List PlanRow) (stop : Option Fault) → IsPlanOf d rows stop
    → ((c : CircuitText) (args : List ℤ) (path : Path) (b : Body) → BodyOf d c args path (Ok b) → AreChildrenOf d b) → (k : ℕ) (row : PlanRow)
    → slice_get rows k ≡ Some row → length row.kids ≡ length row.body.circuit.instances
row_many d rows stop plan children k row at =
    let is : _ = (row_is d rows stop plan k row at).1 in
    sym (length-map row.kids (call_at rows)) ∙ ap length is.kids ∙ length-map row.body.children (λ (c : Child). Some c.call) ∙ (children is.circuit row.call.args row.first row.body is.body).many

-- ---- one row after another

-- An outcome stays as the entries grow, where what is done of the children is the same.
pub outcome_stays : (K L : EntryId → FormView → Type 0) → ((id : EntryId) (form : FormView) → K id form → L id form)
    → (outs more : List Outcome) (row : PlanRow) (o : Outcome) → all_done more row.kids ≡ all_done outs row.kids → IsOutcome K outs row o → IsOutcome L more row o
outcome_stays K L kept outs more row o same (finished kids id masks form all known canon right free) = finished kids id masks form (same ∙ all) (kept id form known) canon right free
outcome_stays K L kept outs more row o same (looped kids all loop) = looped kids (same ∙ all) loop
outcome_stays K L kept outs more row o same (passed_over none) = passed_over (same ∙ none)

-- each child stands below its row
abbrev pub AreBelow : List PlanRow → Type 0
AreBelow rows = (j : ℕ) (row : PlanRow) → slice_get rows j ≡ Some row → (k : ℕ) → Has row.kids k → k < j

outcomes_more : (K L : EntryId → FormView → Type 0) → ((id : EntryId) (form : FormView) → K id form → L id form)
    → (rows : List PlanRow) (outs : List Outcome) (row : PlanRow) (o : Outcome) → AreBelow (rows ++ row ∷ []) → AreOutcomes K rows outs → IsOutcome L outs row o
    → AreOutcomes L (rows ++ row ∷ []) (outs ++ o ∷ [])
outcomes_more K L kept rows outs row o below are last = record { many = many; each = λ j r p at out. by j r p at out (cases_lt j (length rows)) }
  where
    many : length (outs ++ o ∷ []) ≡ length (rows ++ row ∷ [])
    many = (let a : _ = length_push outs o in let b : _ = length_push rows row in let m : length outs ≡ length rows = are.many in omega (arith, a, b, m))

    stays : (j : ℕ) (r : PlanRow) (p : Outcome) → slice_get (rows ++ row ∷ []) j ≡ Some r → j ≤ length rows → IsOutcome L outs r p → IsOutcome L (outs ++ o ∷ []) r p
    stays j r p at l own =
        let m : length outs ≡ length rows = are.many in
        outcome_stays L L (λ id form e. e) outs (outs ++ o ∷ []) r p (done_same outs o r.kids (λ k h. (let b : k < j = below j r at k h in omega (arith, b, l, m)))) own

    by : (j : ℕ) (r : PlanRow) (p : Outcome) → slice_get (rows ++ row ∷ []) j ≡ Some r → slice_get (outs ++ o ∷ []) j ≡ Some p → (j < length rows) ⊎ (length rows ≤ j)
        → IsOutcome L (outs ++ o ∷ []) r p
    by j r p at out (inl l) =
        let m : length outs ≡ length rows = are.many in
        let row_at : slice_get rows j ≡ Some r = sym (left_same rows row j l) ∙ at in
        let out_at : slice_get outs j ≡ Some p = sym (left_same outs o j (omega (arith, l, m))) ∙ out in
        stays j r p at (omega (arith, l)) (outcome_stays K L kept outs outs r p refl (are.each j r p row_at out_at))
    by j r p at out (inr l) =
        let m : length outs ≡ length rows = are.many in
        let a : _ = length_push rows row in
        let w : j < length (rows ++ row ∷ []) = slice_get_within (rows ++ row ∷ []) j r at in
        let here : j ≡ length rows = omega (arith, l, w, a) in
        let there : j ≡ length outs = omega (arith, here, m) in
        let r_is : row ≡ r = ap (λ x. unwrap_or x row) (sym (last_is rows row) ∙ ap (slice_get (rows ++ row ∷ [])) (sym here) ∙ at) in
        let o_is : o ≡ p = ap (λ x. unwrap_or x o) (sym (last_is outs o) ∙ ap (slice_get (outs ++ o ∷ [])) (sym there) ∙ out) in
        stays j r p at (omega (arith, here)) (subst (λ x. IsOutcome L outs r x) o_is (subst (λ x. IsOutcome L outs x o) r_is last))

entries_more : (outs more : List Outcome) → entries_of (outs ++ more) ≡ entries_of outs ++ entries_of more
entries_more [] more = refl
entries_more (None ∷ outs) more = entries_more outs more
entries_more (Some x ∷ outs) more = ap (λ l. x.0 ∷ l) (entries_more outs more)

logs_more : (old mid new : History) (outs more : List Outcome) → LogsRows old mid outs → LogsRows mid new more → LogsRows old new (outs ++ more)
logs_more old mid new outs more a b = record {
  added = a.added ++ b.added;
  log = b.log ∙ ap (λ l. l ++ b.added) a.log ∙ append_assoc (log old) a.added b.added;
  turns = map-append (λ (x : Entered). x.entry) a.added b.added ∙ ap (λ l. l ++ map (λ (x : Entered). x.entry) b.added) a.turns ∙ ap (λ l. entries_of outs ++ l) b.turns ∙ sym (entries_more outs more);
}

outs_more : (xs : List (Option (EntryId × Paths))) (x : Option (EntryId × Paths)) → outs_of (xs ++ x ∷ []) ≡ outs_of xs ++ outcome_of x ∷ []
outs_more [] x = refl
outs_more (y ∷ xs) x = ap (λ l. outcome_of y ∷ l) (outs_more xs x)

-- no row is finished yet
pub none_yet : (h : History) (rows : List PlanRow) (xs : List (Option (EntryId × Paths))) → xs ≡ [] → AreFinished h h (take 0 rows) (outs_of xs)
none_yet h rows xs e = subst (λ l. AreFinished h h (take 0 rows) (outs_of l)) (sym e)
    (record { outcomes = record { many = refl; each = λ k row o at out. cc }; logs = record { added = []; log = sym (append-nil (log h)); turns = refl } })

-- the entries of rows that are finished are there
pub are_there : (old h : History) (rows : List PlanRow) (outs : List Outcome) → AreFinished old h rows outs → AreThere h outs
are_there old h rows outs are k x out =
    let row : (row : PlanRow) × (slice_get rows k ≡ Some row) = item_at rows k (subst (λ n. k < n) are.outcomes.many (slice_get_within outs k (Some x) out)) in
    by x (are.outcomes.each k row.0 (Some x) row.1 out)
  where
    by : {row : PlanRow} (y : Done) → IsOutcome (HasForm h) outs row (Some y) → y.0.0 < length h.entries
    by y (finished kids id masks form all known canon right free) = slice_get_within h.entries id.0 form known

-- ---- a step of the loop

-- the row of a turn of the loop
pub row_at : (rows items : List PlanRow) (i : ℕ) (row : PlanRow) → items ≡ rows → i < length items → row ≡ get_or items i row → slice_get rows i ≡ Some row
row_at rows items i row same l e = ap (λ xs. slice_get xs i) (sym same) ∙ slice_get-get_or items i row l ∙ ap Some (sym e)

taken_at : {X : Type 0} (n : ℕ) (xs : List X) (j : ℕ) (x : X) → slice_get (take n xs) j ≡ Some x → slice_get xs j ≡ Some x
taken_at zero xs j x e = cc
taken_at (suc n) [] j x e = cc
taken_at (suc n) (y ∷ xs) zero x e = e
taken_at (suc n) (y ∷ xs) (suc j) x e = taken_at n xs j x e

-- one row more is finished
pub one_more : (d : Design) (rows : List PlanRow) (stop : Option Fault) → IsPlanOf d rows stop → (i : ℕ) (row : PlanRow) → slice_get rows i ≡ Some row
    → (old mid new : History) (xs ls ys : List (Option (EntryId × Paths))) (x : Option (EntryId × Paths))
    → AreFinished old mid (take i rows) (outs_of xs) → ls ≡ xs → IsFinished mid new (outs_of ls) row (outcome_of x) → ys ≡ xs ++ x ∷ [] → AreFinished old new (take (i + 1) rows) (outs_of ys)
one_more d rows stop plan i row at old mid new xs ls ys x are same finish q = subst (λ t. AreFinished old new t (outs_of ys)) (sym taken)
    (subst (λ t. AreFinished old new (take i rows ++ row ∷ []) t) (sym outs) both)
  where
    taken : take (i + 1) rows ≡ take i rows ++ row ∷ []
    taken = take_more rows i row (slice_get_within rows i row at) ∙ ap (λ r. take i rows ++ r ∷ []) (get_or_from_slice_get rows i row row at)

    is : IsFinished mid new (outs_of xs) row (outcome_of x)
    is = subst (λ l. IsFinished mid new (outs_of l) row (outcome_of x)) same finish

    outs : outs_of ys ≡ outs_of xs ++ outcome_of x ∷ []
    outs = ap outs_of q ∙ outs_more xs x

    below : AreBelow (take i rows ++ row ∷ [])
    below = subst AreBelow taken (λ j r e k h. ((row_is d rows stop plan j r (taken_at (i + 1) rows j r e)).1).below k h)

    both : AreFinished old new (take i rows ++ row ∷ []) (outs_of xs ++ outcome_of x ∷ [])
    both = record {
      outcomes = outcomes_more (HasForm mid) (HasForm new) is.kept (take i rows) (outs_of xs) row (outcome_of x) below are.outcomes is.outcome;
      logs = logs_more old mid new (outs_of xs) (outcome_of x ∷ []) are.logs is.logs;
    }

-- ---- the log only grew

pub grew : (old new : History) (outs : List Outcome) → LogsRows old new outs → LogGrew old new
grew old new outs l = (l.added, l.log)

pub grew_on : (old mid new : History) → LogGrew old mid → LogGrew mid new → LogGrew old new
grew_on old mid new a b = (a.0 ++ b.0, b.1 ∙ ap (λ xs. xs ++ b.0) a.1 ∙ append_assoc (log old) a.0 b.0)
