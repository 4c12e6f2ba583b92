-- The state of rows has what each plain node reads of it.
use Rattle.std.proofs.Common.{◌≡◌, ℕ, ◌<◌, true, List, length, sym, subst, ◌∙◌, ap}
use Rattle.std.specs.Prelude.{slice_get, Some}
use Rattle.std.proofs.lemmas.Option.{slice_get_within}
use Rattle.hc_bits.specs.BitVector.{BitVector}
use Rattle.hc_signal.specs.declared.signal.NodeId.{NodeId}
use Rattle.hc_signal.specs.declared.signal.MemId.{MemId}
use Rattle.hc_signal.specs.declared.signal.Node.{Node}
use Rattle.hc_signal.specs.declared.signal.Node.TheVariants.{Input, Wire, Const, Two, Not, Mux, Cat, Select, Reg, Read, InstOut, Op}
use Rattle.hc_signal.specs.Graph.{Graph}
use Rattle.hc_signal.specs.Lawful.{IsLawful, IsLawfulNode, NodeAt}
use Rattle.hc_canon.specs.declared.form.EntryId.{EntryId}
use Rattle.hc_canon.specs.FormView.{FormView}
use Rattle.hc_steps.specs.Plan.{IsPlain}
use Rattle.hc_rows.specs.Rows.{row_at}
use Rattle.hc_values.specs.Edges.{is_register, is_register_row}
use Rattle.hc_values.specs.Values.{HasStateFor}
use Rattle.hc_layout.specs.Layout.{Layout, place, IsLayout}
use Rattle.hc_hierstate.specs.States.{circuit_in, circuit_of, node_id, state_of}
use Rattle.hc_hierstate.proofs.Own.{memory_listed, register_listed}
use Rattle.hc_hierstate.proofs.Held.{memory_held, register_held}

-- the memory of a read is there
read_there : (g : Graph) (n : ℕ) (m : MemId) (addr : NodeId) → IsLawful g → NodeAt g n (Read m addr) → m.0 < length g.memories
read_there g n m addr lawful y =
    let law : IsLawfulNode g y.0.width (Read m addr) = subst (λ (x : Node). IsLawfulNode g y.0.width x) y.2 (lawful.nodes n y.0 y.1).1 in
    slice_get_within g.memories m.0 law.2.0 law.2.1

module _ (forms : List FormView) (top : EntryId) (l : Layout) (lay : IsLayout forms top l) (registers : List (List BitVector)) (words : List (List (List BitVector))) (values : List BitVector)
    (path : List ℕ) (p n : ℕ) (entry : EntryId) (form : FormView) (placed : place forms l path ≡ Some p) (at : slice_get l.entries p ≡ Some entry) (found : slice_get forms entry.0 ≡ Some form)
    (lawful : IsLawful form.circuit) where
  same : circuit_of forms entry ≡ form.circuit
  same = ap circuit_in found

  pub plain_held : (x : Node) → NodeAt form.circuit n x → IsPlain x
      → HasStateFor (state_of forms l registers words) path (record { values = values; registers = row_at registers p; memories = row_at words p }) n x
  plain_held (Input port) y plain = absurd plain
  plain_held (InstOut i port) y plain = absurd plain
  plain_held (Wire driver) y plain = tt
  plain_held (Const c) y plain = tt
  plain_held (Two op a b) y plain = tt
  plain_held (Not a) y plain = tt
  plain_held (Mux sel cases) y plain = tt
  plain_held (Cat parts) y plain = tt
  plain_held (Select a hi lo) y plain = tt
  plain_held (Op kind args) y plain = tt
  plain_held (Reg next enable clear init) y plain =
      let is : is_register_row (slice_get (circuit_of forms entry).nodes n) ≡ true =
      ap (λ (g : Graph). is_register_row (slice_get g.nodes n)) same ∙ ap is_register_row y.1 ∙ ap is_register y.2 in
      register_held forms top l lay registers words path p entry placed at (node_id n) ((register_listed (circuit_of forms entry) (node_id n)).1 is)
  plain_held (Read m addr) y plain =
      let there : m.0 < length (circuit_of forms entry).memories = subst (λ (g : Graph). m.0 < length g.memories) (sym same) (read_there form.circuit n m addr lawful y) in
      memory_held forms top l lay registers words path p entry placed at m ((memory_listed (circuit_of forms entry) m).1 there)
