-- What is made for an entry stands for the entry's unfolding.
use Rattle.std.proofs.Common.{◌≡◌, ℕ, ◌<◌, List, ◌∷◌, length, map, sym, ap, subst, ◌∙◌, arith}
use Rattle.std.specs.Prelude.{Option, Some, slice_get}
use Rattle.std.proofs.lemmas.Option.{slice_get_within}
use Rattle.hc_signal.specs.Member.{Has}
use Rattle.hc_signal.specs.Occurrences.{graph_at}
use Rattle.hc_canon.specs.declared.form.EntryId.{EntryId}
use Rattle.hc_canon.specs.FormView.{FormView}
use Rattle.hc_bench.specs.Simulation.{State}
use Rattle.hc_dbstate.specs.History.{History}
use Rattle.hc_dbstate.specs.Unfolding.{unfolding_of}
use Rattle.hc_dbstate.proofs.Triples.{some_once, some_at}
use Rattle.hc_layout.specs.Layout.{Layout, place}
use Rattle.hc_layout.proofs.Placed.{apart, below, step, within}
use Rattle.hc_layout.proofs.RunnerRows.{leads_up}
use Rattle.hc_rows.specs.Rows.{row_at, number_of}
use Rattle.hc_settling.specs.Compiled.{parts_at, tables_at, tables_in, present, present_tables}
use Rattle.hc_settling.proofs.Entries.{circuit_by_path}
use Rattle.hc_settling.proofs.Present.{row_present, present_has}
use Rattle.hc_steps.specs.Plan.{run, Part, steps_at}
use Rattle.hc_steps.specs.Tables.{Tables, row}
use Rattle.hc_steps.specs.Compiled.{PlanView, IsPlanned, tables_of, entry_in, circuit_in, plan_in, parts_in}
use Rattle.hc_store.specs.Given.{Given, IsInstance}
use Rattle.hc_store.specs.Scene.{IsShown, Shows, AreAmong}
use Rattle.hc_hiersite.specs.Made.{IsMade, HasState, scene_of}
use Rattle.hc_hiersite.proofs.Standing.{IsStanding}
use Rattle.hc_hiersite.proofs.Steps.{step_there}
use Rattle.hc_hiersite.proofs.Fits.{entry_of, form_of, first_of, kid_in, stands, parts_up}

-- what a table without parts that are not there has, the table has
among : (many : ℕ) (table : List (List ℕ)) (a : ℕ) → AreAmong (row (map (present many) table) a) (row table a) many
among many table a k c = present_has many (row table a) k (subst (λ (xs : List ℕ). Has xs k) (row_present many table a) c)

module _ (h : History) (top : EntryId) (g : Given) (l : Layout) (made : IsMade h top g l) where
  circuit_here : (path : List ℕ) (id : EntryId) (form : FormView) → IsStanding h top path id → slice_get g.forms id.0 ≡ Some form → graph_at (unfolding_of h.entries top) path ≡ form.circuit
  circuit_here path id form s found =
      circuit_by_path h made.legal top path
      ∙ ap (λ (o : Option EntryId). circuit_in (entry_in h.entries o)) s.entry
      ∙ ap circuit_in (form_of h top g l made id form found)

  parts_here : (path : List ℕ) (id : EntryId) (plan : PlanView) → IsStanding h top path id → slice_get g.plans id.0 ≡ Some plan → parts_at h.entries g.plans top path ≡ plan.parts
  parts_here path id plan s planned = ap (λ (o : Option EntryId). parts_in (plan_in g.plans o)) s.entry ∙ ap parts_in planned

  tables_here : (path : List ℕ) (id : EntryId) (plan : PlanView) → IsStanding h top path id → slice_get g.plans id.0 ≡ Some plan
      → tables_at h.entries g.plans top path ≡ present_tables (length plan.parts) (tables_of plan)
  tables_here path id plan s planned = ap (λ (o : Option EntryId). tables_in (plan_in g.plans o)) s.entry ∙ ap tables_in planned

  -- the part that runs a part of an instance
  abbrev Runs : (q : ℕ) (path : List ℕ) (part u : ℕ) → Type 0
  Runs q path part u = (p : ℕ) × (place h.entries l path ≡ Some p) × (part < length (row_at g.up p)) × (u ≡ number_of g.up p part)

  runs_up : (q i : ℕ) (path : List ℕ) (part j u : ℕ) → place h.entries l (i ∷ path) ≡ Some q → Has (steps_at (parts_at h.entries g.plans top path) part) (run i j)
      → slice_get (row_at g.up q) j ≡ Some u → Runs q path part u
  runs_up q i path part j u e c f =
      let b = below h.entries l path i q e in
      let w : b.p < length l.entries = within h.entries top l made.layout path b.p b.above in
      let id = b.own.id in
      let entry : slice_get g.entries b.p ≡ Some b.own.id = ap (λ (xs : List EntryId). slice_get xs b.p) made.entries ∙ b.own.entry_is in
      let form = some_at h.entries b.own.id.0 (made.layout.laid.known b.p b.own.id b.own.entry_is) in
      let s : IsStanding h top path b.own.id = stands h top g l made path b.p b.own.id b.above entry in
      let own : IsPlanned h.entries g.plans b.own.id form.0 = made.compiled b.own.id form.0 s.used form.1 in
      let found : slice_get g.forms b.own.id.0 ≡ Some form.0 = ap (λ (xs : List FormView). slice_get xs b.own.id.0) made.forms ∙ form.1 in
      let is : IsInstance g b.p b.own.id form.0 own.0 = record { entry = entry; found = found; planned = own.1 } in
      let has : Has (steps_at own.0.parts part) (run i j) = subst (λ (ps : List Part). Has (steps_at ps part) (run i j)) (parts_here path b.own.id own.0 s own.1) c in
      let there : part < length own.0.parts = step_there own.0.parts part (run i j) has in
      let many : length (row_at g.up b.p) ≡ length own.0.parts = parts_up h top g l made b.p b.own.id form.0 own.0 w is in
      let inside : j < length (row_at g.up q) = slice_get_within (row_at g.up q) j u f in
      let by = own.2.tables.one_run part i j has in
      let led = leads_up h.entries g.plans l g.up path b.p i q part j b.own.id own.0 made.up b.above e b.own.entry_is own.1 inside there by in
      (b.p, b.above, omega (arith, there, many), some_once (sym f ∙ led))

  module _ (state : State) (inputs : List ℕ) (has_state : HasState h g l state) where
    shown_at : (p : ℕ) (path : List ℕ) (id : EntryId) (form : FormView) (plan : PlanView) → place h.entries l path ≡ Some p → IsInstance g p id form plan
        → IsShown (scene_of h top g l state inputs) g p path form plan
    shown_at p path id form plan e is =
        let s : IsStanding h top path id = stands h top g l made path p id e is.entry in
        let tables = tables_here path id plan s is.planned in
        record {
          circuit = circuit_here path id form s is.found;
          parts = parts_here path id plan s is.planned;
          readers = λ a k c. among (length plan.parts) plan.readers a k (subst (λ (t : Tables). Has (row t.readers a) k) tables c);
          takers = λ a k c. among (length plan.parts) plan.takers a k (subst (λ (t : Tables). Has (row t.takers a) k) tables c);
          input_readers = λ a k c. among (length plan.parts) plan.input_readers a k (subst (λ (t : Tables). Has (row t.input_readers a) k) tables c);
          kids = λ i begin kid k f. step h.entries top l made.layout path p i begin id kid e (entry_of h top g l made p id is.entry) (first_of h top g l made p begin f)
              (kid_in h top g l made id kid form i is.found k);
          state = λ n x at plain. has_state p path form n x e (id, is.entry, is.found) at plain;
        }

    pub made_shown : Shows (scene_of h top g l state inputs) g
    made_shown = record {
      apart = λ p path other e f. apart h.entries top l made.layout path other p e f;
      instances = shown_at;
      up = runs_up;
    }
