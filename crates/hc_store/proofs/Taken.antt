-- A step that puts a number is a step of a walk.
use Rattle.std.proofs.Common.{◌≡◌, ◌≢◌, ℕ, ◌+◌, ◌<◌, Bool, true, false, ◌⊎◌, inl, inr, List, [], ◌∷◌, length, refl, sym, ap, subst, ◌∙◌, arith}
use Rattle.std.specs.Prelude.{Option, Some, slice_get, slice_set}
use Rattle.hc_bits.specs.BitVector.{BitVector}
use Rattle.hc_signal.specs.declared.signal.NodeId.{NodeId}
use Rattle.hc_signal.specs.declared.signal.NodeRow.{NodeRow}
use Rattle.hc_signal.specs.declared.signal.Node.{Node}
use Rattle.hc_signal.specs.declared.signal.Node.TheVariants.{Input, Wire, Const, Two, Not, Mux, Cat, Select, Reg, Read, InstOut, Op}
use Rattle.hc_signal.specs.Graph.{Graph}
use Rattle.hc_signal.specs.Lawful.{HasWidth}
use Rattle.hc_signal.specs.Occurrences.{graph_at}
use Rattle.hc_canon.specs.declared.form.EntryId.{EntryId}
use Rattle.hc_canon.specs.FormView.{FormView}
use Rattle.hc_bench.specs.Simulation.{State, value, optional_value}
use Rattle.hc_rows.specs.Rows.{row_at}
use Rattle.hc_steps.specs.Plan.{make, take, pass, run, steps_at, id_of}
use Rattle.hc_steps.specs.Tables.{row}
use Rattle.hc_steps.specs.Compiled.{PlanView}
use Rattle.hc_settling.specs.Known.{at_path}
use Rattle.hc_settling.specs.Settling.{IsPut, Walks, computed, makes, takes, passes, skips, runs}
use Rattle.hc_values.specs.Rows.{widths, number_of as value_of}
use Rattle.hc_values.specs.Values.{IsValue, HasStateFor}
use Rattle.hc_store.specs.declared.store.Store.{Store}
use Rattle.hc_store.specs.Given.{Given, IsInstance, IsFit, FitsStep, IsKidForm}
use Rattle.hc_store.specs.Scene.{Scene, Shows, TakesStep, RunsPart, flag_of, number, mark, board}
use Rattle.hc_store.specs.Stored.{IsStoreOf, IsRowPut, kept as row_kept, put as row_put, Advances, WakesTakers, kept_of}
use Rattle.hc_store.proofs.Sites.{fits_here, first_of, kid_is}
use Rattle.hc_store.proofs.Boards.{is_put, number_at_path, mark_at_path, woken}
use Rattle.hc_store.proofs.Wakes.{equal_or_not, set_here, set_other, set_length}
use Rattle.hc_store.proofs.Widths.{same_width, there, widths_set, row_set_here, row_set_other, row_there}

-- what a node reads of the state does not depend on the numbers
state_any : (state : State) (path : List ℕ) (g : Given) (p n : ℕ) (values : List BitVector) (x : Node) → HasStateFor state path (kept_of g [] p) n x → HasStateFor state path (kept_of g values p) n x
state_any state path g p n values (Input port) h = h
state_any state path g p n values (InstOut i port) h = h
state_any state path g p n values (Wire driver) h = h
state_any state path g p n values (Const c) h = h
state_any state path g p n values (Two op a b) h = h
state_any state path g p n values (Not a) h = h
state_any state path g p n values (Mux sel cases) h = h
state_any state path g p n values (Cat parts) h = h
state_any state path g p n values (Select a hi lo) h = h
state_any state path g p n values (Reg next enable clear init) h = h
state_any state path g p n values (Read m addr) h = h
state_any state path g p n values (Op kind args) h = h

module _ (g : Given) (fit : IsFit g) (p : ℕ) (id : EntryId) (form : FormView) (plan : PlanView) (is : IsInstance g p id form plan) (old new : Store) (store : IsStoreOf g old) where
  count : length plan.parts ≡ length (row_at g.up p)
  count = let f = fits_here g p fit id form plan is in sym f.parts

  pub node_there : (n : ℕ) (row : NodeRow) → slice_get form.circuit.nodes n ≡ Some row → n < length (row_at old.values p)
  node_there n row e = there (row_at old.values p) form.circuit.nodes n row (store.values p id form plan is) e

  pub width_there : (n : ℕ) (row : NodeRow) (y : BitVector) → slice_get form.circuit.nodes n ≡ Some row → slice_get (row_at old.values p) n ≡ Some y → y.width ≡ row.width
  width_there n row y e a = same_width (row_at old.values p) form.circuit.nodes n y row (store.values p id form plan is) a e

  -- ---- a node of the circuit itself

  one_row : (a b : NodeRow) → ◌≡◌ {A = Option NodeRow} (Some a) (Some b) → a ≡ b
  one_row a b e = cc

  pub width_of : (n : ℕ) (row : NodeRow) (w : ℕ) → slice_get form.circuit.nodes n ≡ Some row → HasWidth form.circuit (id_of n) w → row.width ≡ w
  width_of n row w e h = ap (λ (r : NodeRow). r.width) (one_row row h.0 (sym e ∙ h.1)) ∙ h.2

  pub make_taken : (part n : ℕ) (x : BitVector) → FitsStep g.forms form (make n) → HasWidth form.circuit (id_of n) x.width → IsValue form.circuit (kept_of g (row_at old.values p) p) n x.value
      → IsRowPut g.up p n x (row plan.readers part) old new → TakesStep g p part (make n) old new
  make_taken part n x fits wide right w s path rest last shows here walk =
      let shown = shows.instances p path id form plan here is in
      let r = fits.0 in
      let at : slice_get (graph_at s.tree path).nodes n ≡ Some r = ap (λ (c : Graph). slice_get c.nodes n) shown.circuit ∙ fits.1 in
      let state = state_any s.state path g p n (row_at old.values p) r.node (shown.state n r.node (r, fits.1, refl) fits.2) in
      let own = right s.tree path s.state s.inputs (number s old.values) r (record { circuit = shown.circuit; numbers = λ m. number_at_path s g shows old.values p path m here }) fits.1 state in
      let moved = is_put s g shows p path here n x (row plan.readers part) (row (s.tables path).readers part) (length plan.parts) old new (shown.readers part) count store
      (node_there n r fits.1) (λ y a. width_there n r y fits.1 a ∙ width_of n r x.width fits.1 wide) w in
      makes r at (subst (λ (v : ℕ). IsPut s.tree s.plans path n v (row (s.tables path).readers part) (board s old) (board s new)) own moved) walk

  -- ---- an output of an instance

  module _ (i q : ℕ) (place : (first : ℕ) → slice_get g.first p ≡ Some first → q ≡ first + i) (kid : EntryId) (inner : FormView) (kid_form : IsKidForm g.forms form i kid inner) where
    below : (under : PlanView) × IsInstance g q kid inner under
    below = kid_is g fit p i q id form plan is kid kid_form.entry place inner kid_form.found

    kid_here : (s : Scene) (path : List ℕ) → Shows s g → s.place path ≡ Some p → s.place (i ∷ path) ≡ Some q
    kid_here s path shows here =
        let shown = shows.instances p path id form plan here is in
        let f = first_of g fit p i q id form plan is kid kid_form.entry place in
        shown.kids i f.0 kid kid_form.entry f.1 ∙ ap (λ (k : ℕ). Some k) (sym (place f.0 f.1))

    pub take_taken : (part n port : ℕ) (r : NodeRow) (w : NodeId) (x : BitVector) → slice_get form.circuit.nodes n ≡ Some r → r.node ≡ InstOut (record { 0 = i }) port
        → slice_get inner.circuit.outputs port ≡ Some w → HasWidth inner.circuit w r.width → slice_get (row_at old.values q) w.0 ≡ Some x
        → IsRowPut g.up p n x (row plan.readers part) old new → TakesStep g p part (take n i port) old new
    take_taken part n port r w x e out wire wide has written s path rest last shows here walk =
        let shown = shows.instances p path id form plan here is in
        let there_q = kid_here s path shows here in
        let shown_q = shows.instances q (i ∷ path) kid inner below.0 there_q below.1 in
        let at : slice_get (graph_at s.tree path).nodes n ≡ Some r = ap (λ (c : Graph). slice_get c.nodes n) shown.circuit ∙ e in
        let inside : slice_get (graph_at s.tree (i ∷ path)).outputs port ≡ Some w = ap (λ (c : Graph). slice_get c.outputs port) shown_q.circuit ∙ wire in
        let number_w : number s old.values (at_path (i ∷ path) w.0) ≡ x.value = number_at_path s g shows old.values q (i ∷ path) w.0 there_q ∙ ap value_of has in
        let own : computed s.tree s.state s.inputs (number s old.values) path n r ≡ x.value =
        ap (λ (z : Node). value s.tree s.state s.inputs (number s old.values) path n z) out ∙ ap (λ (o : Option NodeId). optional_value (number s old.values) (i ∷ path) o) inside ∙ number_w in
        let x_wide : x.width ≡ r.width = same_width (row_at old.values q) inner.circuit.nodes w.0 x wide.0 (store.values q kid inner below.0 below.1) has wide.1 ∙ wide.2 in
        let moved = is_put s g shows p path here n x (row plan.readers part) (row (s.tables path).readers part) (length plan.parts) old new (shown.readers part) count store
        (node_there n r e) (λ y a. width_there n r y e a ∙ sym x_wide) written in
        takes r at (subst (λ (v : ℕ). IsPut s.tree s.plans path n v (row (s.tables path).readers part) (board s old) (board s new)) (sym own) moved) walk

    -- ---- an input of an instance

    pub pass_taken : (under : PlanView) → IsInstance g q kid inner under → (part n port : ℕ) (r input : NodeRow) (x : BitVector) → slice_get form.circuit.nodes n ≡ Some r
        → slice_get inner.circuit.nodes port ≡ Some input → input.node ≡ Input port → input.width ≡ r.width → slice_get (row_at old.values p) n ≡ Some x
        → IsRowPut g.up q port x (row under.input_readers port) old new → TakesStep g p part (pass n i port) old new
    pass_taken under is_q part n port r input x e at_input is_input wide has w s path rest last shows here walk =
        let there_q = kid_here s path shows here in
        let shown_q = shows.instances q (i ∷ path) kid inner under there_q is_q in
        let f = fits_here g q fit kid inner under is_q in
        let at : slice_get (graph_at s.tree (i ∷ path)).nodes port ≡ Some input = ap (λ (c : Graph). slice_get c.nodes port) shown_q.circuit ∙ at_input in
        let own : x.value ≡ number s old.values (at_path path n) = sym (number_at_path s g shows old.values p path n here ∙ ap value_of has) in
        let x_wide : x.width ≡ r.width = width_there n r x e has in
        let widths_q = store.values q kid inner under is_q in
        let moved = is_put s g shows q (i ∷ path) there_q port x (row under.input_readers port) (row (s.tables (i ∷ path)).input_readers port) (length under.parts) old new
        (shown_q.input_readers port) (sym f.parts) store
        (there (row_at old.values q) inner.circuit.nodes port input widths_q at_input)
        (λ y a. same_width (row_at old.values q) inner.circuit.nodes port y input widths_q a at_input ∙ wide ∙ sym x_wide) w in
        passes port (input, at, is_input) (subst (λ (v : ℕ). IsPut s.tree s.plans (i ∷ path) port v (row (s.tables (i ∷ path)).input_readers port) (board s old) (board s new)) own moved) walk

-- ---- a part of an instance

module _ (g : Given) (fit : IsFit g) (p : ℕ) (id : EntryId) (form : FormView) (plan : PlanView) (is : IsInstance g p id form plan) (i q : ℕ)
    (place : (first : ℕ) → slice_get g.first p ≡ Some first → q ≡ first + i) (kid : EntryId) (entry : slice_get form.kids i ≡ Some kid) where
  kid_path : (s : Scene) (path : List ℕ) → Shows s g → s.place path ≡ Some p → s.place (i ∷ path) ≡ Some q
  kid_path s path shows here =
      let shown = shows.instances p path id form plan here is in
      let f = first_of g fit p i q id form plan is kid entry place in
      shown.kids i f.0 kid entry f.1 ∙ ap (λ (k : ℕ). Some k) (sym (place f.0 f.1))

  pub skip_taken : (part b : ℕ) (old : Store) → flag_of (slice_get (row_at old.stale q) b) ≡ false → TakesStep g p part (run i b) old old
  skip_taken part b old rests s path rest last shows here walk = skips (mark_at_path s g shows old.stale q (i ∷ path) b (kid_path s path shows here) ∙ rests) walk

  pub run_taken : (part b : ℕ) (old mid new : Store) → IsStoreOf g old → flag_of (slice_get (row_at old.stale q) b) ≡ true → WakesTakers g p part old mid
      → RunsPart g q b mid new → TakesStep g p part (run i b) old new
  run_taken part b old mid new store stale wakes walked s path rest last shows here walk =
      let shown = shows.instances p path id form plan here is in
      let there_q = kid_path s path shows here in
      let f = fits_here g p fit id form plan is in
      let more = wakes.marks id form plan is in
      let inner = walked s (i ∷ path) shows there_q in
      runs (mark s mid.stale) (mark_at_path s g shows old.stale q (i ∷ path) b there_q ∙ stale)
      (woken s g shows p path here (row plan.takers part) (row (s.tables path).takers part) (length plan.parts) old.stale mid.stale (shown.takers part) (sym f.parts) store.marks store.closed more)
      (subst (λ (rows : List (List BitVector)). Walks s.tree s.plans s.tables s.state s.inputs (i ∷ path) b (steps_at (s.plans (i ∷ path)) b)
      (record { vals = number s rows; stale = mark s mid.stale }) (board s new)) wakes.values inner) walk

-- ---- what stays

pub advances_none : (g : Given) (old : Store) → Advances g old old
advances_none g old = record { fit = λ f. f; quiet = λ q e. (e, refl) }

pub advances_then : (g : Given) (old mid new : Store) → Advances g old mid → Advances g mid new → Advances g old new
advances_then g old mid new a b = record { fit = λ f. b.fit (a.fit f); quiet = λ q e. let m = b.quiet q e in let o = a.quiet q m.0 in (o.0, m.1 ∙ o.1) }

module _ (g : Given) (p n : ℕ) (x : BitVector) (parts : List ℕ) where
  pub advances_put : (old new : Store) → IsStoreOf g old → p < length g.entries → n < length (row_at old.values p)
      → ((y : BitVector) → slice_get (row_at old.values p) n ≡ Some y → y.width ≡ x.width) → IsRowPut g.up p n x parts old new → Advances g old new
  advances_put old _ store within l width (row_kept e) = advances_none g old
  advances_put old new store within l width (row_put other more values moved) = record {
    fit = λ f. record {
      values = λ q id form plan is. ap (λ (rows : List (List BitVector)). widths (row_at rows q)) values ∙ by q (equal_or_not p q) ∙ f.values q id form plan is;
      marks = more.shape ∙ f.marks;
      moved = ap length moved ∙ set_length old.moved.items p true ∙ f.moved;
      closed = more.closed f.closed;
    };
    quiet = λ q e. calm q e (equal_or_not p q);
  }
    where
      two : ◌≡◌ {A = Option Bool} (Some true) (Some false) → ⊥
      two e = cc

      by : (q : ℕ) → (p ≡ q) ⊎ (p ≢ q) → widths (row_at (slice_set old.values p (slice_set (row_at old.values p) n x)) q) ≡ widths (row_at old.values q)
      by q (inl same) = subst (λ (k : ℕ). widths (row_at (slice_set old.values p (slice_set (row_at old.values p) n x)) k) ≡ widths (row_at old.values k)) same
          (ap widths (row_set_here old.values p (slice_set (row_at old.values p) n x) (row_there old.values p n l)) ∙ widths_set (row_at old.values p) n x width)
      by q (inr other) = ap widths (row_set_other old.values p q (slice_set (row_at old.values p) n x) other)

      calm : (q : ℕ) → slice_get new.moved.items q ≡ Some false → (p ≡ q) ⊎ (p ≢ q) → (slice_get old.moved.items q ≡ Some false) × (row_at new.values q ≡ row_at old.values q)
      calm q e (inl same) =
          let m = store.moved in
          let on : slice_get new.moved.items q ≡ Some true = ap (λ (marks : List Bool). slice_get marks q) moved ∙ ap (slice_get (slice_set old.moved.items p true)) (sym same)
          ∙ set_here old.moved.items p true (omega (arith, m, within)) in
          absurd (two (sym on ∙ e))
      calm q e (inr other) = (
        sym (set_other old.moved.items p q true other) ∙ ap (λ (marks : List Bool). slice_get marks q) (sym moved)
            ∙ e,
        ap (λ (rows : List (List BitVector)). row_at rows q) values ∙ row_set_other old.values p q (slice_set (row_at old.values p) n x) other,
      )

module _ (g : Given) (fit : IsFit g) (p : ℕ) (id : EntryId) (form : FormView) (plan : PlanView) (is : IsInstance g p id form plan) where
  pub advances_wakes : (part : ℕ) (old new : Store) → WakesTakers g p part old new → Advances g old new
  advances_wakes part old new w =
      let more = w.marks id form plan is in
      record {
        fit = λ f. record {
          values = λ q e inner under at. ap (λ (rows : List (List BitVector)). widths (row_at rows q)) w.values ∙ f.values q e inner under at;
          marks = more.shape ∙ f.marks;
          moved = ap length w.moved ∙ f.moved;
          closed = more.closed f.closed;
        };
        quiet = λ q e. (ap (λ (marks : List Bool). slice_get marks q) (sym w.moved) ∙ e, ap (λ (rows : List (List BitVector)). row_at rows q) w.values);
      }
