-- The instances of an unfolding are of entries, and their plans those of the entries.
use Rattle.std.proofs.Common.{◌≡◌, ℕ, ◌<◌, List, [], ◌∷◌, length, refl, sym, ap, subst, ◌∙◌, arith}
use Rattle.std.specs.Prelude.{Option, Some, None, slice_get}
use Rattle.std.proofs.lemmas.Option.{slice_get_within}
use Rattle.hc_signal.specs.Graph.{Graph, inst, Reached}
use Rattle.hc_signal.specs.Tree.{Tree, graph, kid}
use Rattle.hc_signal.specs.Occurrences.{tree_at, graph_at, IsReachedPath}
use Rattle.hc_walk.proofs.InRange.{HasRow, reached_row}
use Rattle.hc_walk.proofs.Members.{has_slice}
use Rattle.hc_canon.specs.declared.form.EntryId.{EntryId}
use Rattle.hc_canon.specs.FormView.{FormView}
use Rattle.hc_dbstate.specs.History.{History, IsLegal}
use Rattle.hc_dbstate.specs.Unfolding.{kid_tree, form_tree, tree_down_to, unfolding_of}
use Rattle.hc_dbstate.specs.Uses.{itself, kid as uses_kid}
use Rattle.hc_dbstate.proofs.Triples.{some_at}
use Rattle.hc_dbstate.proofs.Unfolded.{unfolds}
use Rattle.hc_steps.specs.Plan.{Part, IsPlan}
use Rattle.hc_steps.specs.Tables.{Tables, AreTables}
use Rattle.hc_steps.specs.Compiled.{PlanView, AreCompiled, entry_in, circuit_in, graph_of_kid, plan_in, parts_in, parts_of_kid, tables_of}
use Rattle.hc_settling.specs.Compiled.{IsEntryAt, kid_of, entry_at, parts_at, tables_at, tables_in, present_tables}
use Rattle.hc_settling.proofs.Present.{are_present}
use Rattle.hc_settling.specs.Known.{ArePlans}
use Rattle.hc_settling.specs.Tables.{AreTablesOf}

module _ (h : History) (legal : IsLegal h) where
  abbrev unfolded : ℕ → Tree
  unfolded k = unfolding_of h.entries (record { 0 = k })

  -- the tree of an entry's instance is that of the instance's entry
  kid_by_form : (id : EntryId) (i : ℕ) (o : Option FormView) → slice_get h.entries id.0 ≡ o → kid (unfolding_of h.entries id) i ≡ kid_tree unfolded (kid_of o i)
  kid_by_form id i None e = ap (λ (x : Option FormView). kid (form_tree (tree_down_to id.0 h.entries) x) i) e
  kid_by_form id i (Some form) e = ap (λ (x : Tree). kid x i) (unfolds h legal id form e)

  kid_by_entry : (o : Option EntryId) (i : ℕ) → kid (kid_tree unfolded o) i ≡ kid_tree unfolded (kid_of (entry_in h.entries o) i)
  kid_by_entry None i = refl
  kid_by_entry (Some id) i = kid_by_form id i (slice_get h.entries id.0) refl

  circuit_by_form : (id : EntryId) (o : Option FormView) → slice_get h.entries id.0 ≡ o → graph (unfolding_of h.entries id) ≡ circuit_in o
  circuit_by_form id None e = ap (λ (x : Option FormView). graph (form_tree (tree_down_to id.0 h.entries) x)) e
  circuit_by_form id (Some form) e = ap (λ (x : Tree). graph x) (unfolds h legal id form e)

  circuit_by_entry : (o : Option EntryId) → graph (kid_tree unfolded o) ≡ circuit_in (entry_in h.entries o)
  circuit_by_entry None = refl
  circuit_by_entry (Some id) = circuit_by_form id (slice_get h.entries id.0) refl

  module _ (top : EntryId) where
    abbrev T : Tree
    T = unfolding_of h.entries top

    abbrev at : List ℕ → Option EntryId
    at path = entry_at h.entries top path

    tree_by_entry : (path : List ℕ) → tree_at T path ≡ kid_tree unfolded (at path)
    tree_by_entry [] = refl
    tree_by_entry (i ∷ path) = ap (λ (x : Tree). kid x i) (tree_by_entry path) ∙ kid_by_entry (at path) i

    pub circuit_by_path : (path : List ℕ) → graph_at T path ≡ circuit_in (entry_in h.entries (at path))
    circuit_by_path path = ap (λ (x : Tree). graph x) (tree_by_entry path) ∙ circuit_by_entry (at path)

    module _ (within : top.0 < length h.entries) where
      abbrev Entered : List ℕ → Type 0
      Entered path = (id : EntryId) × (form : FormView) × IsEntryAt h.entries top path id form

      found : (path : List ℕ) (id : EntryId) (form : FormView) → IsEntryAt h.entries top path id form → entry_in h.entries (at path) ≡ Some form
      found path id form is = ap (entry_in h.entries) is.entry ∙ is.found

      circuit_is : (path : List ℕ) (id : EntryId) (form : FormView) → IsEntryAt h.entries top path id form → graph_at T path ≡ form.circuit
      circuit_is path id form is = circuit_by_path path ∙ ap circuit_in (found path id form is)

      kid_entered : (path : List ℕ) (i : ℕ) → Entered path → Reached (graph_at T path) (inst i) → Entered (i ∷ path)
      kid_entered path i p r =
          let id = p.0 in let form = p.1 in let is = p.2 in
          let lawful = legal.forms id.0 form is.found in
          let row : HasRow form.circuit (inst i) = reached_row form.circuit lawful.lawful (subst (λ (g : Graph). Reached g (inst i)) (circuit_is path id form is) r) in
          let lt = slice_get_within form.circuit.instances i row.0 row.1 in
          let many = lawful.kids in
          let k : (k : EntryId) × (slice_get form.kids i ≡ Some k) = some_at form.kids i (omega (arith, lt, many)) in
          let below = legal.kids id.0 form k.0 is.found (has_slice form.kids i k.0 k.1) in
          let inside = slice_get_within h.entries id.0 form is.found in
          let f : (f : FormView) × (slice_get h.entries k.0.0 ≡ Some f) = some_at h.entries k.0.0 (omega (arith, below, inside)) in (
            k.0,
            f.0,
            record {
              entry = ap (λ (o : Option FormView). kid_of o i) (found path id form is) ∙ k.1;
              found = f.1;
              used = uses_kid form is.used is.found (has_slice form.kids i k.0 k.1);
            },
          )

      pub entered_at : (path : List ℕ) → IsReachedPath T path → Entered path
      entered_at [] r = let f : (f : FormView) × (slice_get h.entries top.0 ≡ Some f) = some_at h.entries top.0 within in (top, f.0, record { entry = refl; found = f.1; used = itself })
      entered_at (i ∷ path) r = kid_entered path i (entered_at path r.0) r.1

      -- ---- plans

      module _ (plans : List PlanView) (are : AreCompiled h.entries top plans) where
        abbrev parts : List ℕ → List Part
        parts path = parts_at h.entries plans top path

        module _ (path : List ℕ) (id : EntryId) (form : FormView) (is : IsEntryAt h.entries top path id form) where
          kid_graphs : (i : ℕ) → graph_of_kid h.entries form i ≡ graph_at T (i ∷ path)
          kid_graphs i = sym (circuit_by_path (i ∷ path) ∙ ap (λ (o : Option FormView). circuit_in (entry_in h.entries (kid_of o i))) (found path id form is))

          kid_plans : (i : ℕ) → parts_of_kid plans form i ≡ parts (i ∷ path)
          kid_plans i = sym (ap (λ (o : Option FormView). parts_in (plan_in plans (kid_of o i))) (found path id form is))

          graphs_are : ◌≡◌ {A = ℕ → Graph} (graph_of_kid h.entries form) (λ i. graph_at T (i ∷ path))
          graphs_are = λ n i. kid_graphs i n

          plans_are : ◌≡◌ {A = ℕ → List Part} (parts_of_kid plans form) (λ i. parts (i ∷ path))
          plans_are = λ n i. kid_plans i n

          plan_is : (plan : PlanView) → slice_get plans id.0 ≡ Some plan → plan_in plans (at path) ≡ Some plan
          plan_is plan e = ap (plan_in plans) is.entry ∙ e

          pub plan_here : IsPlan (graph_at T path) (λ i. graph_at T (i ∷ path)) (λ i. parts (i ∷ path)) (parts path)
          plan_here =
              let own = are id form is.used is.found in
              let a : IsPlan form.circuit (graph_of_kid h.entries form) (parts_of_kid plans form) own.0.parts = own.2.is_plan in
              let b = subst (λ (gs : ℕ → Graph). IsPlan form.circuit gs (parts_of_kid plans form) own.0.parts) graphs_are a in
              let c = subst (λ (ps : ℕ → List Part). IsPlan form.circuit (λ i. graph_at T (i ∷ path)) ps own.0.parts) plans_are b in
              let d = subst (λ (g : Graph). IsPlan g (λ i. graph_at T (i ∷ path)) (λ i. parts (i ∷ path)) own.0.parts) (sym (circuit_is path id form is)) c in
              subst (λ (o : Option PlanView). IsPlan (graph_at T path) (λ i. graph_at T (i ∷ path)) (λ i. parts (i ∷ path)) (parts_in o)) (sym (plan_is own.0 own.1)) d

          pub tables_here : AreTables (graph_at T path) (λ i. graph_at T (i ∷ path)) (λ i. parts (i ∷ path)) (parts path) (tables_at h.entries plans top path)
          tables_here =
              let own = are id form is.used is.found in
              let own_tables : Tables = present_tables (length own.0.parts) (tables_of own.0) in
              let a : AreTables form.circuit (graph_of_kid h.entries form) (parts_of_kid plans form) own.0.parts own_tables = are_present own.2.tables in
              let b = subst (λ (gs : ℕ → Graph). AreTables form.circuit gs (parts_of_kid plans form) own.0.parts own_tables) graphs_are a in
              let c = subst (λ (ps : ℕ → List Part). AreTables form.circuit (λ i. graph_at T (i ∷ path)) ps own.0.parts own_tables) plans_are b in
              let d = subst (λ (g : Graph). AreTables g (λ i. graph_at T (i ∷ path)) (λ i. parts (i ∷ path)) own.0.parts own_tables) (sym (circuit_is path id form is)) c in
              subst (λ (o : Option PlanView). AreTables (graph_at T path) (λ i. graph_at T (i ∷ path)) (λ i. parts (i ∷ path)) (parts_in o) (tables_in o)) (sym (plan_is own.0 own.1)) d

        pub all_planned : ArePlans T (λ path. parts path)
        all_planned path r = let e = entered_at path r in plan_here path e.0 e.1 e.2

        pub all_tabled : AreTablesOf T (λ path. parts path) (λ path. tables_at h.entries plans top path)
        all_tabled path r = let e = entered_at path r in tables_here path e.0 e.1 e.2
