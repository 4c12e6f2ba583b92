-- The steps of a part, one after another, and the parts of the top.
use Rattle.std.proofs.Common.{◌≡◌, ℕ, zero, suc, ◌+◌, ◌<◌, ◌≤◌, Bool, true, false, List, [], ◌∷◌, ◌++◌, length, drop, map, refl, sym, ap, subst, ◌∙◌, arith}
use Rattle.std.specs.Prelude.{Option, Some, None, slice_get, slice_index_or}
use Rattle.hc_bits.specs.BitVector.{BitVector}
use Rattle.hc_values.specs.Rows.{widths}
use Rattle.hc_signal.specs.Member.{Has, first, later}
use Rattle.hc_canon.specs.declared.form.EntryId.{EntryId}
use Rattle.hc_canon.specs.FormView.{FormView}
use Rattle.hc_rows.specs.Rows.{row_at, flat}
use Rattle.hc_steps.specs.declared.step.Step.{Step as CodeStep}
use Rattle.hc_steps.specs.Plan.{Step, run, Part, steps_of, steps_at}
use Rattle.hc_steps.specs.Views.{step_view}
use Rattle.hc_steps.specs.Compiled.{PlanView}
use Rattle.hc_settling.specs.Settling.{Board, stop, Settles, over, rests, works}
use Rattle.hc_store.specs.declared.store.Store.{Store}
use Rattle.hc_store.specs.Given.{Given, IsInstance, IsFit, IsStepAt}
use Rattle.hc_store.specs.Marks.{IsOn}
use Rattle.hc_store.specs.Scene.{Scene, Shows, TakesStep, RunsPart, IsBegun, WalksIn, SettlesPart, SettlesTop, SettlesAll, flag_of, row_for, mark, number, board}
use Rattle.hc_store.specs.Stored.{IsStoreOf, Advances, WakesTakers}
use Rattle.hc_store.proofs.Boards.{mark_at_path}
use Rattle.hc_store.proofs.Sites.{step_fits, kid_within, kid_entry, kid_lower, one_entry, entry_number, number_in}
use Rattle.hc_store.proofs.Taken.{run_taken, skip_taken, advances_then}

-- ---- a part of an instance

module _ (g : Given) (fit : IsFit g) (p part i b : ℕ) (at : IsStepAt g p part (run i b)) (q : ℕ) (place : (first : ℕ) → slice_get g.first p ≡ Some first → q ≡ first + i) where
  pub begun : (old mid : Store) → IsStoreOf g old → flag_of (slice_get (row_at old.stale q) b) ≡ true → WakesTakers g p part old mid → IsBegun g p part (run i b) q b old mid
  begun old mid store stale wakes =
      let s = step_fits g p fit part (run i b) at in
      record {
        there = kid_within g fit p i q at.0 at.1 at.2 at.3 s.0 s.1 place;
        lower = λ id kid e f. lower s.0 s.1 id kid e f;
        runs = λ new walked. run_taken g fit p at.0 at.1 at.2 at.3 i q place s.0 s.1 part b old mid new store stale wakes walked;
      }
    where
      lower : (k : EntryId) → slice_get at.1.kids i ≡ Some k → (id kid : EntryId) → slice_get g.entries p ≡ Some id → slice_get g.entries q ≡ Some kid → kid.0 < id.0
      lower k entry id kid e f =
          let l = kid_lower g fit p i q at.0 at.1 at.2 at.3 k entry place in
          let same : k.0 ≡ kid.0 = ap (λ (x : EntryId). x.0) (one_entry g q k kid (kid_entry g fit p i q at.0 at.1 at.2 at.3 k entry place) f) in
          let own : at.0.0 ≡ id.0 = ap (λ (x : EntryId). x.0) (one_entry g p at.0 id at.3.entry e) in
          omega (arith, l, same, own)

  pub skipped : (old : Store) → flag_of (slice_get (row_at old.stale q) b) ≡ false → TakesStep g p part (run i b) old old
  skipped old rest = let s = step_fits g p fit part (run i b) at in skip_taken g fit p at.0 at.1 at.2 at.3 i q place s.0 s.1 part b old rest

some_number : (entries : List EntryId) (p : ℕ) (id : EntryId) → slice_get entries p ≡ Some id → entry_number entries p ≡ id.0
some_number entries p id e = ap number_in e

pub call_lower : (g : Given) (fit : IsFit g) (p part : ℕ) (step : Step) (q below : ℕ) (old mid : Store) → p < length g.entries → IsBegun g p part step q below old mid
    → entry_number g.entries q < entry_number g.entries p
call_lower g fit p part step q below old mid within b =
    let i = fit.instances p within in
    let k = fit.instances q b.there in
    let l = b.lower i.0 k.0 i.3.entry k.3.entry in
    let x = some_number g.entries p i.0 i.3.entry in
    let y = some_number g.entries q k.0 k.3.entry in
    omega (arith, l, x, y)

-- ---- the steps of a part

has_step : (steps : List CodeStep) (k : ℕ) (d : CodeStep) → k < length steps → Has (map step_view steps) (step_view (slice_index_or steps k d))
has_step [] k d l = absurd (omega (arith, l))
has_step (x ∷ steps) zero d l = first
has_step (x ∷ steps) (suc k) d l = later (has_step steps k d (omega (arith, l)))

drop_step : (steps : List CodeStep) (k : ℕ) (d : CodeStep) → k < length steps → drop k (map step_view steps) ≡ step_view (slice_index_or steps k d) ∷ drop (suc k) (map step_view steps)
drop_step [] k d l = absurd (omega (arith, l))
drop_step (x ∷ steps) zero d l = refl
drop_step (x ∷ steps) (suc k) d l = drop_step steps k d (omega (arith, l))

drop_end : (steps : List CodeStep) (k : ℕ) → length steps ≤ k → drop k (map step_view steps) ≡ []
drop_end [] zero l = refl
drop_end [] (suc k) l = refl
drop_end (x ∷ steps) zero l = absurd (omega (arith, l))
drop_end (x ∷ steps) (suc k) l = drop_end steps k (omega (arith, l))

module _ (g : Given) (fit : IsFit g) (p part : ℕ) (within : p < length g.entries) (steps : List CodeStep)
    (steps_are : (id : EntryId) (form : FormView) (plan : PlanView) → IsInstance g p id form plan → map step_view steps ≡ steps_at plan.parts part) where
  pub step_here : (k : ℕ) (d : CodeStep) → k < length steps → IsStepAt g p part (step_view (slice_index_or steps k d))
  step_here k d l =
      let i = fit.instances p within in
      (i.0, i.1, i.2, i.3, subst (λ (ss : List Step). Has ss (step_view (slice_index_or steps k d))) (steps_are i.0 i.1 i.2 i.3) (has_step steps k d l))

  -- what is walked from step k on is walked from the start
  abbrev pub Walked : ℕ → Store → Store → Type 0
  Walked k start now = (s : Scene) (path : List ℕ) (last : Board) → Shows s g → s.place path ≡ Some p → WalksIn s path part (drop k (map step_view steps)) (board s now) last
      → WalksIn s path part (map step_view steps) (board s start) last

  pub walks_on : (start old new : Store) (k : ℕ) (d : CodeStep) → k < length steps → Walked k start old → TakesStep g p part (step_view (slice_index_or steps k d)) old new → Walked (k + 1) start new
  walks_on start old new k d l before taken s path last shows here walk =
      let e : k + 1 ≡ suc k = omega arith in
      let rest : WalksIn s path part (drop (suc k) (map step_view steps)) (board s new) last = subst (λ (n : ℕ). WalksIn s path part (drop n (map step_view steps)) (board s new) last) e walk in
      let own : WalksIn s path part (step_view (slice_index_or steps k d) ∷ drop (suc k) (map step_view steps)) (board s old) last = taken s path
      (drop (suc k) (map step_view steps)) last shows here rest in
      before s path last shows here (subst (λ (ss : List Step). WalksIn s path part ss (board s old) last) (sym (drop_step steps k d l)) own)

  -- one step more, taken whole
  pub goes_on : (start old new now : Store) (k : ℕ) (d : CodeStep) → k < length steps → Advances g start old → Walked k start old → Advances g old new
      → TakesStep g p part (step_view (slice_index_or steps k d)) old new → now ≡ new
      → Advances g start now × Walked (k + 1) start now
  goes_on start old new now k d l a w b taken is =
      (subst (λ (st : Store). Advances g start st) (sym is) (advances_then g start old new a b), subst (λ (st : Store). Walked (k + 1) start st) (sym is) (walks_on start old new k d l w taken))

  -- one step more, which runs a part of an instance
  pub goes_into : (start old mid new now : Store) (k : ℕ) (d : CodeStep) (q below : ℕ) → k < length steps → Advances g start old → Walked k start old → Advances g old mid
      → IsBegun g p part (step_view (slice_index_or steps k d)) q below old mid → Advances g mid new → RunsPart g q below mid new → now ≡ new → Advances g start now × Walked (k + 1) start now
  goes_into start old mid new now k d q below l a w b begun c walked is =
      goes_on start old new now k d l a w (advances_then g old mid new b c) (begun.runs new walked) is

  pub walks_end : (start now : Store) (k : ℕ) → length steps ≤ k → Walked k start now → RunsPart g p part start now
  walks_end start now k l before s path shows here =
      let i = fit.instances p within in
      let shown = shows.instances p path i.0 i.1 i.2 here i.3 in
      let own : WalksIn s path part (map step_view steps) (board s start) (board s now) = before s path (board s now) shows here
      (subst (λ (ss : List Step). WalksIn s path part ss (board s now) (board s now)) (sym (drop_end steps k l)) stop) in
      subst (λ (ss : List Step). WalksIn s path part ss (board s start) (board s now)) (steps_are i.0 i.1 i.2 i.3 ∙ ap (λ (parts : List Part). steps_at parts part) (sym shown.parts)) own

-- ---- the top

abbrev pub SettledFrom : Given → ℕ → Store → Store → Type 0
SettledFrom g part start now = (s : Scene) (last : Board) → Shows s g → s.place [] ≡ Some 0 → Settles s.tree s.plans s.tables s.state s.inputs part (board s now) last
    → Settles s.tree s.plans s.tables s.state s.inputs 0 (board s start) last

pub part_works : (g : Given) (part : ℕ) (old new : Store) → flag_of (slice_get (row_at old.stale 0) part) ≡ true → RunsPart g 0 part old new → SettlesPart g part old new
part_works g part old new stale walked s last shows top more = works (mark_at_path s g shows old.stale 0 [] part top ∙ stale) (walked s [] shows top) more

pub part_rests : (g : Given) (part : ℕ) (old : Store) → flag_of (slice_get (row_at old.stale 0) part) ≡ false → SettlesPart g part old old
part_rests g part old rest s last shows top more = rests (mark_at_path s g shows old.stale 0 [] part top ∙ rest) more

pub settles_on : (g : Given) (part : ℕ) (start old new : Store) → SettledFrom g part start old → SettlesPart g part old new → SettledFrom g (part + 1) start new
settles_on g part start old new before own s last shows top more =
    let e : part + 1 ≡ suc part = omega arith in
    before s last shows top (own s last shows top (subst (λ (n : ℕ). Settles s.tree s.plans s.tables s.state s.inputs n (board s new) last) e more))

none_past : {X : Type 0} (xs : List X) (j : ℕ) → length xs ≤ j → slice_get xs j ≡ None
none_past [] j l = refl
none_past (x ∷ xs) zero l = absurd (omega (arith, l))
none_past (x ∷ xs) (suc j) l = none_past xs j (omega (arith, l))

pub settles_end : (g : Given) (fit : IsFit g) → 0 < length g.entries → (many part : ℕ)
    → ((id : EntryId) (form : FormView) (plan : PlanView) → IsInstance g 0 id form plan → many ≡ length plan.parts) → many ≤ part → (start now : Store)
    → SettledFrom g part start now → SettlesTop g start now
settles_end g fit within many part count l start now before s shows top =
    let i = fit.instances 0 within in
    let shown = shows.instances 0 [] i.0 i.1 i.2 top i.3 in
    let n = count i.0 i.1 i.2 i.3 in
    before s (board s now) shows top (over (λ j m. ap (λ (parts : List Part). steps_at parts j) shown.parts ∙ ap steps_of (none_past i.2.parts j (omega (arith, l, m, n)))))

-- ---- no mark is left

flag_off : (row : List Bool) (k : ℕ) → flag_of (slice_get (map (λ _. false) row) k) ≡ false
flag_off [] k = refl
flag_off (b ∷ row) zero = refl
flag_off (b ∷ row) (suc k) = flag_off row k

row_off : (rows : List (List Bool)) (p k : ℕ) → flag_of (slice_get (row_at (map (map (λ _. false)) rows) p) k) ≡ false
row_off [] p k = refl
row_off (row ∷ rows) zero k = flag_off row k
row_off (row ∷ rows) (suc p) k = row_off rows p k

mark_off : (rows : List (List Bool)) (o : Option ℕ) (k : ℕ) → flag_of (slice_get (row_for (map (map (λ _. false)) rows) o) k) ≡ false
mark_off rows None k = refl
mark_off rows (Some p) k = row_off rows p k

size_off : (row : List Bool) → length (map (λ _. false) row) ≡ length row
size_off [] = refl
size_off (b ∷ row) = ap suc (size_off row)

shape_off : (rows : List (List Bool)) → map length (map (map (λ _. false)) rows) ≡ map length rows
shape_off [] = refl
shape_off (row ∷ rows) = ap (λ (n : ℕ). n ∷ map length (map (map (λ _. false)) rows)) (size_off row) ∙ ap (λ (ns : List ℕ). length row ∷ ns) (shape_off rows)

in_append : (xs ys : List Bool) (k : ℕ) → IsOn (xs ++ ys) k → ((j : ℕ) → IsOn xs j → ⊥) → ((j : ℕ) → IsOn ys j → ⊥) → ⊥
in_append [] ys k h a b = b k h
in_append (x ∷ xs) ys zero h a b = a 0 h
in_append (x ∷ xs) ys (suc k) h a b = in_append xs ys k h (λ j. a (suc j)) b

none_in_row : (row : List Bool) (k : ℕ) → IsOn (map (λ _. false) row) k → ⊥
none_in_row [] k h = absurd cc
none_in_row (b ∷ row) zero h = absurd cc
none_in_row (b ∷ row) (suc k) h = none_in_row row k h

none_on : (rows : List (List Bool)) (k : ℕ) → IsOn (flat (map (map (λ _. false)) rows)) k → ⊥
none_on [] k h = absurd cc
none_on (row ∷ rows) k h = in_append (map (λ _. false) row) (flat (map (map (λ _. false)) rows)) k h (none_in_row row) (none_on rows)

module _ (g : Given) (old mid : Store) (new : Store) (values : new.values ≡ mid.values) (moved : new.moved.items ≡ mid.moved.items) (stale : new.stale ≡ map (map (λ _. false)) mid.stale) where
  pub cleared_advances : Advances g mid new
  cleared_advances = record {
    fit = λ f. record {
      values = λ p id form plan is. ap (λ (rows : List (List BitVector)). widths (row_at rows p)) values ∙ f.values p id form plan is;
      marks = ap (map length) stale ∙ shape_off mid.stale ∙ f.marks;
      moved = ap length moved ∙ f.moved;
      closed = λ k u e h. absurd (none_on mid.stale k (subst (λ (rows : List (List Bool)). IsOn (flat rows) k) stale h));
    };
    quiet = λ q e. (ap (λ (marks : List Bool). slice_get marks q) (sym moved) ∙ e, ap (λ (rows : List (List BitVector)). row_at rows q) values);
  }

  pub all_settled : SettlesTop g old mid → SettlesAll g old new
  all_settled settled s shows top = (
    (board s mid, settled s shows top, ap (λ (rows : List (List BitVector)). number s rows) (sym values)),
    λ path k. ap (λ (rows : List (List Bool)). mark s rows path k) stale
        ∙ mark_off mid.stale (s.place path) k,
  )
