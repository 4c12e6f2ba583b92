-- What the functions of steps find where a step stands.
use Rattle.std.proofs.Common.{◌≡◌, ℕ, zero, suc, ◌+◌, ◌<◌, List, [], ◌∷◌, length, sym, ap, subst, ◌∙◌, arith}
use Rattle.std.specs.Prelude.{Some, slice_get, slice_index_or}
use Rattle.std.proofs.lemmas.Option.{slice_get_within}
use Rattle.hc_bits.specs.BitVector.{BitVector}
use Rattle.hc_signal.specs.declared.signal.NodeId.{NodeId}
use Rattle.hc_signal.specs.Graph.{Graph}
use Rattle.hc_signal.specs.Lawful.{HasWidth}
use Rattle.hc_canon.specs.declared.form.EntryId.{EntryId}
use Rattle.hc_canon.specs.FormView.{FormView}
use Rattle.hc_rows.specs.Rows.{row_at}
use Rattle.hc_steps.specs.Plan.{make, take, pass, id_of}
use Rattle.hc_steps.specs.Tables.{row}
use Rattle.hc_steps.specs.Compiled.{PlanView}
use Rattle.hc_values.specs.Rows.{Kept, AreRowsOf, widths, node_widths}
use Rattle.hc_values.specs.Values.{IsValue}
use Rattle.hc_store.specs.declared.store.Store.{Store}
use Rattle.hc_store.specs.Given.{Given, IsInstance, IsFit, IsStepAt}
use Rattle.hc_store.specs.Scene.{TakesStep}
use Rattle.hc_store.specs.Stored.{IsStoreOf, IsRowPut, Advances, kept_of}
use Rattle.hc_store.proofs.Sites.{fits_here, step_fits, within_entries, kid_within, kid_is}
use Rattle.hc_store.proofs.Taken.{make_taken, take_taken, pass_taken, node_there, width_there, advances_put, width_of}
use Rattle.hc_store.proofs.Widths.{there, same_width}

-- what is found of an instance is its own
abbrev pub IsFormOf : Given → ℕ → FormView → Type 0
IsFormOf g p f = (id : EntryId) (form : FormView) (plan : PlanView) → IsInstance g p id form plan → form ≡ f

abbrev pub IsPlanOf : Given → ℕ → PlanView → Type 0
IsPlanOf g p found = (id : EntryId) (form : FormView) (plan : PlanView) → IsInstance g p id form plan → plan ≡ found

module _ (g : Given) (fit : IsFit g) (p part n : ℕ) (at : IsStepAt g p part (make n)) where
  -- ---- the number of a node

  module _ (values : List BitVector) (wide : (id : EntryId) (form : FormView) (plan : PlanView) → IsInstance g p id form plan → widths values ≡ node_widths form.circuit.nodes)
      (f : FormView) (found : IsFormOf g p f) (circuit : Graph) (circuit_is : circuit ≡ f.circuit) where
    same_circuit : (id : EntryId) (form : FormView) (plan : PlanView) → IsInstance g p id form plan → circuit ≡ form.circuit
    same_circuit id form plan is = circuit_is ∙ ap (λ (x : FormView). x.circuit) (sym (found id form plan is))

    pub node_within : n < length circuit.nodes
    node_within = let s = step_fits g p fit part (make n) at in let l = slice_get_within at.1.circuit.nodes n s.0 s.1
        in let e : length circuit.nodes ≡ length at.1.circuit.nodes = ap (λ (x : Graph). length x.nodes) (same_circuit at.0 at.1 at.2 at.3) in omega (arith, l, e)

    pub rows_there : (registers : List BitVector) (words : List (List BitVector)) → registers ≡ row_at g.registers p → words ≡ row_at g.words p
        → AreRowsOf circuit (record { values = values; registers = registers; memories = words })
    rows_there registers words r w =
        let f = fits_here g p fit at.0 at.1 at.2 at.3 in
        let e : at.1.circuit ≡ circuit = sym (same_circuit at.0 at.1 at.2 at.3) in
        let a : AreRowsOf at.1.circuit (kept_of g values p) = record { values = wide at.0 at.1 at.2 at.3; registers = f.registers; memories = f.words } in
        let b : AreRowsOf circuit (kept_of g values p) = subst (λ (x : Graph). AreRowsOf x (kept_of g values p)) e a in
        subst (λ (k : Kept). AreRowsOf circuit k) (same_kept registers words r w) b
      where
        same_kept : (registers : List BitVector) (words : List (List BitVector)) → registers ≡ row_at g.registers p → words ≡ row_at g.words p
            → kept_of g values p ≡ record { values = values; registers = registers; memories = words }
        same_kept registers words r w = cc

    pub width_found : (id : EntryId) (form : FormView) (plan : PlanView) → IsInstance g p id form plan → (node step : NodeId) (w : ℕ) → step ≡ node
        → HasWidth circuit step w → HasWidth form.circuit node w
    width_found id form plan is node step w same h = subst (λ (x : Graph). HasWidth x node w) (same_circuit id form plan is) (subst (λ (k : NodeId). HasWidth circuit k w) same h)

    pub value_found : (id : EntryId) (form : FormView) (plan : PlanView) → IsInstance g p id form plan → (registers : List BitVector) (words : List (List BitVector))
        → registers ≡ row_at g.registers p → words ≡ row_at g.words p
        → (node step : NodeId) (x : ℕ) → step ≡ node → IsValue circuit (record { values = values; registers = registers; memories = words }) step.0 x
        → IsValue form.circuit (kept_of g values p) node.0 x
    value_found id form plan is registers words r w node step x same v =
        let a : IsValue circuit (kept_of g values p) step.0 x = subst (λ (k : Kept). IsValue circuit k step.0 x) (same_kept r w) v in
        let b : IsValue circuit (kept_of g values p) node.0 x = subst (λ (k : NodeId). IsValue circuit (kept_of g values p) k.0 x) same a in
        subst (λ (c : Graph). IsValue c (kept_of g values p) node.0 x) (same_circuit id form plan is) b
      where
        same_kept : registers ≡ row_at g.registers p → words ≡ row_at g.words p → record { values = values; registers = registers; memories = words } ≡ kept_of g values p
        same_kept r w = cc

  -- ---- the number is put

  module _ (old new : Store) (store : IsStoreOf g old) where
    pub make_there : n < length (row_at old.values p)
    make_there = let s = step_fits g p fit part (make n) at in node_there g fit p at.0 at.1 at.2 at.3 old new store n s.0 s.1

    pub make_within : p < length g.entries
    make_within = within_entries g p at.0 at.1 at.2 at.3

    module _ (values : List BitVector) (values_are : values ≡ row_at old.values p) (x : BitVector)
        (wide : (id : EntryId) (form : FormView) (plan : PlanView) → IsInstance g p id form plan → HasWidth form.circuit (id_of n) x.width)
        (right : (id : EntryId) (form : FormView) (plan : PlanView) → IsInstance g p id form plan → IsValue form.circuit (kept_of g values p) n x.value)
        (the_plan : PlanView) (found : IsPlanOf g p the_plan) (readers : List ℕ) (readers_are : readers ≡ row the_plan.readers part) (put : IsRowPut g.up p n x readers old new) where
      own_put : IsRowPut g.up p n x (row at.2.readers part) old new
      own_put = subst (λ (ks : List ℕ). IsRowPut g.up p n x ks old new) (readers_are ∙ ap (λ (q : PlanView). row q.readers part) (sym (found at.0 at.1 at.2 at.3))) put

      pub make_takes : TakesStep g p part (make n) old new
      make_takes =
          make_taken g fit p at.0 at.1 at.2 at.3 old new store part n x (step_fits g p fit part (make n) at) (wide at.0 at.1 at.2 at.3)
          (subst (λ (v : List BitVector). IsValue at.1.circuit (kept_of g v p) n x.value) values_are (right at.0 at.1 at.2 at.3)) own_put

      pub make_advances : Advances g old new
      make_advances =
          let s = step_fits g p fit part (make n) at in
          advances_put g p n x (row at.2.readers part) old new store make_within make_there
          (λ y e. width_there g fit p at.0 at.1 at.2 at.3 old new store n s.0 y s.1 e ∙ width_of g fit p at.0 at.1 at.2 at.3 old new store n s.0 x.width s.1 (wide at.0 at.1 at.2 at.3)) own_put

module _ (g : Given) (fit : IsFit g) (p part n i port : ℕ) (at : IsStepAt g p part (take n i port)) (old new : Store) (store : IsStoreOf g old) where
  pub take_first : p < length g.first
  take_first = let f = fits_here g p fit at.0 at.1 at.2 at.3 in f.first

  pub take_there : n < length (row_at old.values p)
  take_there = let s = step_fits g p fit part (take n i port) at in node_there g fit p at.0 at.1 at.2 at.3 old new store n s.0 s.4

  pub take_within : p < length g.entries
  take_within = within_entries g p at.0 at.1 at.2 at.3

  module _ (q : ℕ) (place : (first : ℕ) → slice_get g.first p ≡ Some first → q ≡ first + i) where
    pub take_kid : q < length g.entries
    take_kid = let s = step_fits g p fit part (take n i port) at in kid_within g fit p i q at.0 at.1 at.2 at.3 s.1 s.6.entry place

    module _ (f : FormView) (found : IsFormOf g q f) (circuit : Graph) (circuit_is : circuit ≡ f.circuit) (outputs : List NodeId) (outputs_are : outputs ≡ circuit.outputs) where
      inner_outputs : outputs ≡ (let s = step_fits g p fit part (take n i port) at in s.2.circuit.outputs)
      inner_outputs =
          let s = step_fits g p fit part (take n i port) at in
          let k = kid_is g fit p i q at.0 at.1 at.2 at.3 s.1 s.6.entry place s.2 s.6.found in
          outputs_are ∙ ap (λ (c : Graph). c.outputs) (circuit_is ∙ ap (λ (h : FormView). h.circuit) (sym (found s.1 s.2 k.0 k.1)))

      pub take_port : port < length outputs
      take_port = let s = step_fits g p fit part (take n i port) at in let l = slice_get_within s.2.circuit.outputs port s.3 s.7 in let e = ap length inner_outputs in omega (arith, l, e)

      pub take_wire : (d wire : NodeId) → wire ≡ slice_index_or outputs port d → (let s = step_fits g p fit part (take n i port) at in wire ≡ s.3)
      take_wire d wire is = let s = step_fits g p fit part (take n i port) at in is ∙ ap (λ (ws : List NodeId). slice_index_or ws port d) inner_outputs ∙ some_item s.2.circuit.outputs port s.3 d s.7
        where
          some_item : (ws : List NodeId) (k : ℕ) (w d : NodeId) → slice_get ws k ≡ Some w → slice_index_or ws k d ≡ w
          some_item [] k w d e = absurd cc
          some_item (x ∷ ws) zero w d e = cc
          some_item (x ∷ ws) (suc k) w d e = some_item ws k w d e

      module _ (d wire : NodeId) (wire_is : wire ≡ slice_index_or outputs port d) where
        pub take_place : wire.0 < length (row_at old.values q)
        take_place =
            let s = step_fits g p fit part (take n i port) at in
            let k = kid_is g fit p i q at.0 at.1 at.2 at.3 s.1 s.6.entry place s.2 s.6.found in
            let l = there (row_at old.values q) s.2.circuit.nodes s.3.0 s.8.0 (store.values q s.1 s.2 k.0 k.1) s.8.1 in
            let e : wire.0 ≡ s.3.0 = ap (λ (w : NodeId). w.0) (take_wire d wire wire_is) in
            omega (arith, l, e)

        module _ (x : BitVector) (has : slice_get (row_at old.values q) wire.0 ≡ Some x) (the_plan : PlanView) (planned : IsPlanOf g p the_plan) (readers : List ℕ)
            (readers_are : readers ≡ row the_plan.readers part) (put : IsRowPut g.up p n x readers old new) where
          take_put : IsRowPut g.up p n x (row at.2.readers part) old new
          take_put = subst (λ (ks : List ℕ). IsRowPut g.up p n x ks old new) (readers_are ∙ ap (λ (r : PlanView). row r.readers part) (sym (planned at.0 at.1 at.2 at.3))) put

          at_wire : let s = step_fits g p fit part (take n i port) at in slice_get (row_at old.values q) s.3.0 ≡ Some x
          at_wire = let s = step_fits g p fit part (take n i port) at in ap (λ (w : NodeId). slice_get (row_at old.values q) w.0) (sym (take_wire d wire wire_is)) ∙ has

          pub take_takes : TakesStep g p part (take n i port) old new
          take_takes =
              let s = step_fits g p fit part (take n i port) at in
              take_taken g fit p at.0 at.1 at.2 at.3 old new store i q place s.1 s.2 s.6 part n port s.0 s.3 x s.4 s.5 s.7 s.8 at_wire take_put

          pub take_advances : Advances g old new
          take_advances =
              let s = step_fits g p fit part (take n i port) at in
              let k = kid_is g fit p i q at.0 at.1 at.2 at.3 s.1 s.6.entry place s.2 s.6.found in
              advances_put g p n x (row at.2.readers part) old new store take_within take_there
              (λ y e. width_there g fit p at.0 at.1 at.2 at.3 old new store n s.0 y s.4 e
              ∙ sym (same_width (row_at old.values q) s.2.circuit.nodes s.3.0 x s.8.0 (store.values q s.1 s.2 k.0 k.1) at_wire s.8.1 ∙ s.8.2)) take_put

module _ (g : Given) (fit : IsFit g) (p part n i port : ℕ) (at : IsStepAt g p part (pass n i port)) (old new : Store) (store : IsStoreOf g old) where
  pub pass_first : p < length g.first
  pass_first = let f = fits_here g p fit at.0 at.1 at.2 at.3 in f.first

  pub pass_place : n < length (row_at old.values p)
  pass_place = let s = step_fits g p fit part (pass n i port) at in node_there g fit p at.0 at.1 at.2 at.3 old new store n s.0 s.4

  module _ (q : ℕ) (place : (first : ℕ) → slice_get g.first p ≡ Some first → q ≡ first + i) where
    pub pass_kid : q < length g.entries
    pass_kid = let s = step_fits g p fit part (pass n i port) at in kid_within g fit p i q at.0 at.1 at.2 at.3 s.1 s.5.entry place

    pub pass_there : port < length (row_at old.values q)
    pass_there =
        let s = step_fits g p fit part (pass n i port) at in
        let k = kid_is g fit p i q at.0 at.1 at.2 at.3 s.1 s.5.entry place s.2 s.5.found in
        there (row_at old.values q) s.2.circuit.nodes port s.3 (store.values q s.1 s.2 k.0 k.1) s.6

    module _ (x : BitVector) (has : slice_get (row_at old.values p) n ≡ Some x) (the_plan : PlanView) (planned : IsPlanOf g q the_plan) (readers : List ℕ)
        (readers_are : readers ≡ row the_plan.input_readers port) (put : IsRowPut g.up q port x readers old new) where
      pub pass_takes : TakesStep g p part (pass n i port) old new
      pass_takes =
          let s = step_fits g p fit part (pass n i port) at in
          let k = kid_is g fit p i q at.0 at.1 at.2 at.3 s.1 s.5.entry place s.2 s.5.found in
          let own : IsRowPut g.up q port x (row k.0.input_readers port) old new = subst (λ (ks : List ℕ). IsRowPut g.up q port x ks old new)
          (readers_are ∙ ap (λ (r : PlanView). row r.input_readers port) (sym (planned s.1 s.2 k.0 k.1))) put in
          pass_taken g fit p at.0 at.1 at.2 at.3 old new store i q place s.1 s.2 s.5 k.0 k.1 part n port s.0 s.3 x s.4 s.6 s.7 s.8 has own

      pub pass_advances : Advances g old new
      pass_advances =
          let s = step_fits g p fit part (pass n i port) at in
          let k = kid_is g fit p i q at.0 at.1 at.2 at.3 s.1 s.5.entry place s.2 s.5.found in
          let w = width_there g fit p at.0 at.1 at.2 at.3 old new store n s.0 x s.4 has in
          advances_put g q port x readers old new store pass_kid pass_there
          (λ y e. same_width (row_at old.values q) s.2.circuit.nodes port y s.3 (store.values q s.1 s.2 k.0 k.1) e s.6 ∙ s.8 ∙ sym w) put
