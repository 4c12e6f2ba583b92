-- Marks stay right where contents change and what reads them is woken.
use Rattle.std.proofs.Common.{◌≡◌, ℕ, ◌<◌, Bool, true, false, inl, inr, List, [], ◌∷◌, length, refl, sym, ap, ◌∙◌, arith}
use Rattle.std.specs.Prelude.{slice_get}
use Rattle.hc_bits.specs.BitVector.{BitVector}
use Rattle.hc_signal.specs.Member.{Has}
use Rattle.hc_signal.specs.declared.signal.Node.{Node}
use Rattle.hc_signal.specs.declared.signal.Node.TheVariants.{Input, Wire, Const, Two, Not, Mux, Cat, Select, Reg, Read, InstOut, Op}
use Rattle.hc_signal.specs.Graph.{Graph}
use Rattle.hc_signal.specs.Lawful.{NodeAt}
use Rattle.hc_signal.specs.Occurrences.{IsReachedPath, NodeIs}
use Rattle.hc_bench.specs.Simulation.{State}
use Rattle.hc_canon.specs.declared.form.EntryId.{EntryId}
use Rattle.hc_canon.specs.FormView.{FormView}
use Rattle.hc_rows.specs.Rows.{row_at}
use Rattle.hc_steps.specs.Plan.{make, run, steps_at}
use Rattle.hc_steps.specs.Compiled.{PlanView}
use Rattle.hc_settling.specs.Settling.{IsClosed, IsWoken}
use Rattle.hc_settling.specs.Tables.{IsSameState}
use Rattle.hc_values.specs.Rows.{number_at, numbers, words_at}
use Rattle.hc_store.specs.declared.store.Store.{Store}
use Rattle.hc_store.specs.Given.{IsFit}
use Rattle.hc_store.specs.Marks.{AreMoreMarked}
use Rattle.hc_store.specs.Scene.{IsShown, Scene, Shows, flag_of, mark, number}
use Rattle.hc_store.specs.Stored.{IsStoreOf}
use Rattle.hc_store.proofs.Boards.{closed_by_path, mark_at_path, woken}
use Rattle.hc_store.proofs.FlatRows.{flat_get, same_size}
use Rattle.hc_store.proofs.Sites.{fits_here}
use Rattle.hc_edges.specs.declared.contents.Contents.{Contents}
use Rattle.hc_edges.specs.Clocked.{ClockedView, given}
use Rattle.hc_edges.specs.Edges.{AreOn, IsSameAt, WakesReaders}
use Rattle.hc_edges.specs.Showing.{ShowsAll, StandsFor, with_state}
use Rattle.hc_edges.proofs.Instances.{instance_of}

both : {b : Bool} → b ≡ true → b ≡ false → ⊥
both t f = cc

-- a mark is false where it cannot be true
off : (b : Bool) → (b ≡ true → ⊥) → b ≡ false
off true n = absurd (n refl)
off false n = refl

module _ (c : ClockedView) (old new : Contents) (store next : Store) (s : Scene) (state : State) (all : ShowsAll s (given c old)) (after : Shows (with_state s state) (given c new)) (fits : IsFit (given c old)) (fit : IsStoreOf (given c old) store) (wakes : WakesReaders c old new store next) where
  more : AreMoreMarked c.up 0 [] store.stale next.stale
  more = record { shape = wakes.shape; grown = wakes.grown; there = λ k h l. elim h [ ]; closed = wakes.closed }

  is_woken : IsWoken s.tree s.plans [] [] (mark s store.stale) (mark s next.stale)
  is_woken = woken s (given c old) all.shows 0 [] all.top [] [] (length (row_at c.up 0)) store.stale next.stale (λ k h. elim h [ ]) refl fit.marks fit.closed more

  is_closed : IsClosed s.tree s.plans (mark s next.stale)
  is_closed = closed_by_path s (given c old) all.shows next.stale (wakes.shape ∙ fit.marks) (wakes.closed fit.closed)

  -- no mark has gone
  pub still_off : (p : List ℕ) (part : ℕ) → mark s next.stale p part ≡ false → mark s store.stale p part ≡ false
  still_off p part e = off (mark s store.stale p part) (λ t. both (is_woken.grown p part t) e)

  -- what an unmarked part runs is not marked
  pub off_below : (p : List ℕ) (part i b : ℕ) → IsReachedPath s.tree p → mark s next.stale p part ≡ false → Has (steps_at (s.plans p) part) (run i b) → mark s next.stale (i ∷ p) b ≡ false
  off_below p part i b reached e h = off (mark s next.stale (i ∷ p) b) (λ t. both (is_closed p part i b reached h t) e)

  -- ---- what an unmarked part reads of the state is as it was

  module _ (q : List ℕ) (p : ℕ) (id : EntryId) (form : FormView) (plan : PlanView) (stands : StandsFor s (given c old) q p id form plan) (m : ℕ) where
    before : IsShown s (given c old) p q form plan
    before = all.shows.instances p q id form plan stands.place stands.is

    now : IsShown (with_state s state) (given c new) p q form plan
    now = after.instances p q id form plan stands.place (instance_of c old new p id form plan stands.is)

    node_at : (x : Node) → NodeIs s.tree q m x → NodeAt form.circuit m x
    node_at x n = (n.0, sym (ap (λ (g : Graph). slice_get g.nodes m) before.circuit) ∙ n.1, n.2)

    same_rows : (x : Node) → NodeIs s.tree q m x → IsSameAt p old new → IsSameState s.state state q m x
    same_rows (Reg next' enable clear init) n same =
        before.state m (Reg next' enable clear init) (node_at (Reg next' enable clear init) n) tt ∙ ap (λ (r : List BitVector). number_at r m) (sym same.registers) ∙ sym (now.state m (Reg next' enable clear init) (node_at (Reg next' enable clear init) n) tt)
    same_rows (Read mem addr) n same =
        before.state m (Read mem addr) (node_at (Read mem addr) n) tt ∙ ap (λ (r : List (List BitVector)). numbers (words_at r mem.0)) (sym same.words) ∙ sym (now.state m (Read mem addr) (node_at (Read mem addr) n) tt)
    same_rows (Input port) n same = tt
    same_rows (Wire driver) n same = tt
    same_rows (Const k) n same = tt
    same_rows (Two op a b) n same = tt
    same_rows (Not a) n same = tt
    same_rows (Mux sel cases) n same = tt
    same_rows (Cat parts) n same = tt
    same_rows (Select a hi lo) n same = tt
    same_rows (InstOut i port) n same = tt
    same_rows (Op kind args) n same = tt

    module _ (j : ℕ) (reached : IsReachedPath s.tree q) (step : Has (steps_at (s.plans q) j) (make m)) (quiet : mark s next.stale q j ≡ false) (on : AreOn next.stale p plan.state_parts) where
      -- a part that reads the state is marked
      state_part_on : Has (s.tables q).state_parts j → ⊥
      state_part_on h =
          let a = all.state_parts q p id form plan stands j h in
          let f = fits_here (given c old) p fits id form plan stands.is in
          let parts : length (row_at c.up p) ≡ length plan.parts = f.parts in
          let size : length (row_at next.stale p) ≡ length (row_at c.up p) = same_size next.stale c.up p (wakes.shape ∙ fit.marks) in
          let few = a.1 in
          let inside : j < length (row_at next.stale p) = omega (arith, few, parts, size) in
          both (mark_at_path s (given c old) all.shows next.stale p q j stands.place ∙ ap flag_of (sym (flat_get next.stale p j inside) ∙ on j a.0 inside)) quiet

      marked_rows : (x : Node) → NodeIs s.tree q m x → IsSameState s.state state q m x
      marked_rows (Reg next' enable clear init) n = absurd (state_part_on ((all.tables q reached).state j m (Reg next' enable clear init) step n tt))
      marked_rows (Read mem addr) n = absurd (state_part_on ((all.tables q reached).state j m (Read mem addr) step n tt))
      marked_rows (Input port) n = tt
      marked_rows (Wire driver) n = tt
      marked_rows (Const k) n = tt
      marked_rows (Two op a b) n = tt
      marked_rows (Not a) n = tt
      marked_rows (Mux sel cases) n = tt
      marked_rows (Cat parts) n = tt
      marked_rows (Select a hi lo) n = tt
      marked_rows (InstOut i port) n = tt
      marked_rows (Op kind args) n = tt

  pub same_state : (q : List ℕ) (j m : ℕ) (x : Node) → IsReachedPath s.tree q → mark s next.stale q j ≡ false → Has (steps_at (s.plans q) j) (make m) → NodeIs s.tree q m x → IsSameState s.state state q m x
  same_state q j m x reached quiet step n =
      let i = all.places q reached in
      elim (wakes.readers i.0 i.1 i.2 i.3 i.4.is) [
        | inl same ↦ same_rows q i.0 i.1 i.2 i.3 i.4 m x n same
        | inr on ↦ marked_rows q i.0 i.1 i.2 i.3 i.4 m j reached step quiet on x n
      ]

  pub same_numbers_now : number s store.values ≡ number s next.values
  same_numbers_now = ap (λ (rows : List (List BitVector)). number s rows) (sym wakes.values)

-- the rows stand for the whole tree with the new state
pub all_shown : (c : ClockedView) (old new : Contents) (s : Scene) (state : State) → ShowsAll s (given c old) → Shows (with_state s state) (given c new) → ShowsAll (with_state s state) (given c new)
all_shown c old new s state all after = record {
  shows = after;
  top = all.top;
  plans = all.plans;
  tables = all.tables;
  places = λ path reached. let i = all.places path reached in (i.0, i.1, i.2, i.3, record { place = i.4.place; is = instance_of c old new i.0 i.1 i.2 i.3 i.4.is });
  state_parts = λ path p id form plan stands. all.state_parts path p id form plan (record { place = stands.place; is = instance_of c new old p id form plan stands.is });
}
