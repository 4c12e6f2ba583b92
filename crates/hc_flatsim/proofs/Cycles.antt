-- The values of a schedule settle, and outputs are those of the values.
use Rattle.std.proofs.Common.{◌≡◌, ℕ, List, [], ◌∷◌, map, length, refl, sym, ◌∙◌, ap}
use Rattle.std.specs.Prelude.{slice_get, slice_index, Some, None}
use Rattle.std.proofs.lemmas.List.{length-map}
use Rattle.hc_bits.specs.BitVector.{BitVector}
use Rattle.hc_signal.specs.Member.{first, later}
use Rattle.hc_signal.specs.declared.signal.NodeId.{NodeId}
use Rattle.hc_signal.specs.declared.signal.MemId.{MemId}
use Rattle.hc_signal.specs.declared.signal.NodeRow.{NodeRow}
use Rattle.hc_signal.specs.declared.signal.Port.{Port}
use Rattle.hc_signal.specs.declared.signal.Instance.{Instance}
use Rattle.hc_signal.specs.declared.signal.Node.{Node}
use Rattle.hc_signal.specs.declared.signal.Node.TheVariants.{Input, Wire, Const, Two, Not, Mux, Cat, Select, Reg, Read, InstOut, Op}
use Rattle.hc_signal.specs.Graph.{Graph, node, mem, Reached}
use Rattle.hc_signal.specs.Tree.{leaf}
use Rattle.hc_signal.specs.Occurrences.{IsReachedPath, graph_at}
use Rattle.hc_paths.proofs.Composed.{reached_fanin}
use Rattle.hc_bench.specs.Simulation.{value, IsSettled}
use Rattle.hc_bench.specs.Trace.{IsSimulation}
use Rattle.hc_flatsim.specs.Machine.{Machine, IsMachine, is_register, is_register_row, state_of, simulation_of, number_at, numbers, words_at, port_widths, valuation}
use Rattle.hc_flatsim.specs.Settling.{given_of, own_value, operand, settled}
use Rattle.hc_flatsim.proofs.Settled.{computed}
use Rattle.hc_flatsim.proofs.Shapes.{many}
use Rattle.hc_flatsim.proofs.Held.{held, no_path, among_has, is_state}

-- outputs by their values
pub outputs_are : (g : Graph) (values : List BitVector) (ids : List NodeId) → numbers (map (operand g values) ids) ≡ map (λ (id : NodeId). number_at values id.0) ids
outputs_are g values [] = refl
outputs_are g values (id ∷ ids) = ap (λ l. number_at values id.0 ∷ l) (outputs_are g values ids)

module _ (m : Machine) (is : IsMachine m) where
  abbrev own : List BitVector → ℕ → Node → ℕ
  own values n x = own_value m.graph (given_of m) values n x

  abbrev its : List BitVector → ℕ → Node → ℕ
  its values n x = value (leaf m.graph) (state_of m) (numbers m.inputs) (valuation values) [] n x

  -- the value by the lists is that by the state
  own_is : (values : List BitVector) (n : ℕ) (row : NodeRow) (x : Node) → slice_get m.graph.nodes n ≡ Some row → row.node ≡ x → Reached m.graph (node n) → own values n x ≡ its values n x
  own_is values n row (Reg next enable clear init) at e r =
      sym (held (λ (id : NodeId). id.0) 0 (number_at m.registers) _ (record { 0 = n })
      (among_has m.graph m.order (record { 0 = n }) ((is.schedule.all (record { 0 = n })).1 r) (ap is_register_row at ∙ ap is_register e)))
  own_is values n row (Read k addr) at e r =
      ap (λ (l : List ℕ). slice_index l (number_at values addr.0))
      (sym (held (λ (id : MemId). id.0) [] (λ j. numbers (words_at m.memories j)) m.used k ((is.used k).1 (reached_fanin m.graph n (Read k addr) (mem k.0) row at e r (later first)))))
  own_is values n row (Input port) at e r = refl
  own_is values n row (Wire driver) at e r = refl
  own_is values n row (Const c) at e r = refl
  own_is values n row (Two op a b) at e r = refl
  own_is values n row (Not a) at e r = refl
  own_is values n row (Mux sel cases) at e r = refl
  own_is values n row (Cat parts) at e r = refl
  own_is values n row (Select a hi lo) at e r = refl
  own_is values n row (InstOut i port) at e r = refl
  own_is values n row (Op kind args) at e r = refl

  abbrev settled_values : List BitVector
  settled_values = settled m.graph (given_of m) m.order m.values

  abbrev rows_many : length m.values ≡ length m.graph.nodes
  rows_many = many (λ (x : BitVector). x.width) (λ (row : NodeRow). row.width) m.values m.graph.nodes is.values

  settles_at : (p : List ℕ) (n : ℕ) (row : NodeRow) → IsReachedPath (leaf m.graph) p → Reached (graph_at (leaf m.graph) p) (node n)
      → slice_get (graph_at (leaf m.graph) p).nodes n ≡ Some row
      → number_at settled_values n ≡ value (leaf m.graph) (state_of m) (numbers m.inputs) (valuation settled_values) p n row.node
  settles_at [] n row r reached at =
      computed m.graph (given_of m) m.order m.values is.schedule rows_many (record { 0 = n }) row ((is.schedule.all (record { 0 = n })).1 reached) at
      ∙ own_is settled_values n row row.node at refl reached
  settles_at (i ∷ p) n row r reached at = absurd (no_path m.graph is.lawful is.flat.instances i p r)

  pub settles : IsSettled (leaf m.graph) (state_of m) (numbers m.inputs) (valuation settled_values)
  settles s row r at = settles_at s.path s.node row r.0 r.1 at

  no_instance : (i : ℕ) (it : Instance) → slice_get m.graph.instances i ≡ Some it → ⊥
  no_instance i it e = let h : None ≡ Some it = sym (ap (λ l. slice_get l i) is.flat.instances) ∙ e in absurd (cc)

  as_many : (xs : List BitVector) (ports : List Port) → map (λ (x : BitVector). x.width) xs ≡ port_widths ports → length (numbers xs) ≡ length ports
  as_many xs ports e = length-map xs (λ (x : BitVector). x.value) ∙ many (λ (x : BitVector). x.width) (λ (p : Port). p.width) xs ports e

  pub is_simulation : IsSimulation (simulation_of m)
  is_simulation = record {
    whole = (is.lawful, λ i it e. absurd (no_instance i it e));
    checked = is.flat.checked;
    no_loop = is.flat.no_loop;
    state = is_state m is;
    inputs = as_many m.inputs m.graph.ports.inputs is.inputs;
    before = as_many m.before m.graph.ports.outputs is.before;
    after = as_many m.after m.graph.ports.outputs is.after;
  }
