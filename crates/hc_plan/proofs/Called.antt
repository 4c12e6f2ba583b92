-- Entries whose turns are those of distinct calls are entries of calls.
use Rattle.std.proofs.Common.{◌≡◌, ◌<◌, ◌∙◌, ℕ, zero, suc, true, List, [], ◌∷◌, length, map, get_or, arith, IsPermutation, All}
use Rattle.std.proofs.lemmas.List.Sorted.{All-permutation, IsPermutation-sym}
use Rattle.std.proofs.lemmas.Option.{slice_get_within}
use Rattle.hc_signal.specs.Member.{Has, first, later}
use Rattle.hc_signal.specs.Tree.{Tree}
use Rattle.hc_canon.specs.declared.form.EntryId.{EntryId}
use Rattle.hc_canon.specs.FormView.{FormView}
use Rattle.hc_dbstate.specs.declared.hier.Hier.{Hier}
use Rattle.hc_dbstate.specs.declared.turns.Turn.{Turn}
use Rattle.hc_dbstate.specs.Elaboration.{CallView, walk}
use Rattle.hc_dbstate.specs.History.{History, IsLegal}
use Rattle.hc_dbstate.specs.Unfolding.{Denotes}
use Rattle.hc_statements.specs.declared.kinds.Call.{Call}
use Rattle.hc_plan.specs.Distinct.{AreDistinct, AreFirsts, none_left, again, anew}
use Rattle.hc_plan.specs.Elaborates.{Elaborated, ElaboratedCall}
use Rattle.hc_plan.specs.Hierarchies.{AreCalled, AreCallsFor, AreEntriesOf, IsCallFor, IsEntryOf, IsHierarchyFor}

-- the first items are items
firsts_among : {X : Type 0} {f : X → Call} {met : List Call} {xs ys : List X} → AreFirsts f met xs ys → (y : X) → Has ys y → Has xs y
firsts_among none_left y h = h
firsts_among (again m rest) y h = later (firsts_among rest y h)
firsts_among (anew m rest) y first = first
firsts_among (anew m rest) y (later h) = later (firsts_among rest y h)

-- ---- members of lists in another order

has_of_all : {X : Type 0} (P : X → Type 0) (xs : List X) → All P xs → (x : X) → Has xs x → P x
has_of_all P [] all x h = elim h [ ]
has_of_all P (y ∷ xs) all x first = all zero y (omega arith)
has_of_all P (y ∷ xs) all x (later h) = has_of_all P xs (λ k d lt. all (suc k) d (omega (arith, lt))) x h

has_at : {X : Type 0} (xs : List X) (k : ℕ) (d : X) → k < length xs → Has xs (get_or xs k d)
has_at [] k d lt = absurd (omega (arith, lt))
has_at (x ∷ xs) zero d lt = first
has_at (x ∷ xs) (suc k) d lt = later (has_at xs k d (omega (arith, lt)))

has_shuffled : {X : Type 0} (xs ys : List X) → IsPermutation xs ys → (x : X) → Has xs x → Has ys x
has_shuffled xs ys shuffled = has_of_all (Has ys) xs (All-permutation (Has ys) ys xs (IsPermutation-sym xs ys shuffled) (has_at ys))

-- ---- entries and calls

-- the entry of a turn denotes the tree of a call
call_of_turn : (entries : List FormView) (ts : List Turn) (cs : List ElaboratedCall) → AreEntriesOf entries (map (λ (t : Turn). t.entry) ts) cs → (t : Turn) → Has ts t
    → (c : ElaboratedCall) × Has cs c × IsEntryOf entries t.entry c.tree
call_of_turn entries [] cs are t h = elim h [ ]
call_of_turn entries (u ∷ ts) [] are t h = absurd are
call_of_turn entries (u ∷ ts) (c ∷ cs) are t first = (c, first, are.0)
call_of_turn entries (u ∷ ts) (c ∷ cs) are t (later h) = let d = call_of_turn entries ts cs are.1 t h in (d.0, later d.1, d.2)

-- the elaborated call that a call of a hierarchy stands for
pub call_of_view : (entries : List FormView) (cs : List CallView) (es : List ElaboratedCall) → AreCallsFor entries cs es → (c : CallView) → Has cs c
    → (e : ElaboratedCall) × Has es e × IsCallFor entries c e
call_of_view entries [] es are c h = elim h [ ]
call_of_view entries (d ∷ cs) [] are c h = absurd are
call_of_view entries (d ∷ cs) (x ∷ es) are c first = (x, first, are.0)
call_of_view entries (d ∷ cs) (x ∷ es) are c (later h) = let e = call_of_view entries cs es are.1 c h in (e.0, later e.1, e.2)

-- the call of a hierarchy that stands for an elaborated one
pub view_of_call : (entries : List FormView) (cs : List CallView) (es : List ElaboratedCall) → AreCallsFor entries cs es → (e : ElaboratedCall) → Has es e
    → (c : CallView) × Has cs c × IsCallFor entries c e
view_of_call entries [] [] are e h = elim h [ ]
view_of_call entries [] (x ∷ es) are e h = absurd are
view_of_call entries (c ∷ cs) [] are e h = absurd are
view_of_call entries (c ∷ cs) (x ∷ es) are e first = (c, first, are.0)
view_of_call entries (c ∷ cs) (x ∷ es) are e (later h) = let d = view_of_call entries cs es are.1 e h in (d.0, later d.1, d.2)

abbrev AreNamed : Type 0
AreNamed = (h : History) (id : EntryId) → IsLegal h → id.0 < length h.entries → (t : Turn) × Has h.turns t × (t.fresh ≡ true) × (t.entry ≡ id)

abbrev HaveOneEntry : Type 0
HaveOneEntry = (h : History) (i j : EntryId) (t : Tree) → IsLegal h → i.0 < length h.entries → j.0 < length h.entries → Denotes h.entries i t → Denotes h.entries j t → i ≡ j

pub called : AreNamed → HaveOneEntry → (h : History) (hier : Hier) (e : Elaborated) (firsts order : List ElaboratedCall) → IsLegal h → IsHierarchyFor h.entries hier e
    → AreDistinct e.calls firsts → IsPermutation order firsts
    → AreEntriesOf h.entries (map (λ (t : Turn). t.entry) h.turns) order → AreCalled h.entries hier
called named once h hier e firsts order legal for distinct shuffled are id within =
    let turn = named h id legal within in
    let own = call_of_turn h.entries h.turns order are turn.0 turn.1 in
    let among : Has e.calls own.0 = firsts_among distinct own.0 (has_shuffled order firsts shuffled own.0 own.1) in
    let view = view_of_call h.entries (walk hier) e.calls for.calls own.0 among in
    let over = for.elaboration.calls view.0 view.1 in
    let there = slice_get_within h.entries view.0.own.entry.0 over.form over.found in
    (view.0, view.1, once h view.0.own.entry turn.0.entry own.0.tree legal there own.2.0 view.2.tree own.2.1 ∙ turn.3)
