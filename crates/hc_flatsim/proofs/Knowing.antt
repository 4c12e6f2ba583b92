-- What a simulator knows of its values, and a whole cycle.
use Rattle.std.proofs.Common.{◌≡◌, ℕ, List, map, refl, sym, subst, ◌∙◌, ap, ap₂}
use Rattle.hc_bits.specs.BitVector.{BitVector}
use Rattle.hc_signal.specs.Tree.{leaf}
use Rattle.hc_signal.specs.Occurrences.{Occurrence}
use Rattle.hc_bench.specs.Simulation.{State, IsSettled, clock_edge, outputs_of}
use Rattle.hc_bench.specs.Trace.{Simulation, RunsCycle}
use Rattle.hc_flatsim.specs.declared.known.Known.{Known}
use Rattle.hc_flatsim.specs.declared.known.Known.TheVariants.{Nothing, Settled, Rest}
use Rattle.hc_flatsim.specs.Machine.{Machine, IsMachine, IsKnown, AreSettled, IsAtRest, numbers, state_of, simulation_of, valuation}
use Rattle.hc_flatsim.specs.Settling.{given_of, operand, settled}
use Rattle.hc_flatsim.specs.Edges.{next_memories, next_registers}
use Rattle.hc_flatsim.proofs.Cycles.{outputs_are, settles}
use Rattle.hc_flatsim.proofs.Stepped.{edge_state}

-- ---- the values settle

pub known_is : (m : Machine) (k : Known) → IsMachine m → m.known ≡ k → IsKnown k (leaf m.graph) (state_of m) (numbers m.inputs) (valuation m.values)
known_is m k is e = subst (λ (z : Known). IsKnown z (leaf m.graph) (state_of m) (numbers m.inputs) (valuation m.values)) e is.known

abbrev pub computed_of : Machine → Machine
computed_of m = record m { values = settled m.graph (given_of m) m.order m.values; known = Nothing }

abbrev pub known_as : Known → Machine → Machine
known_as k m = record m { known = k }

pub computed_same : (m new last : Machine) → new ≡ computed_of m → last ≡ known_as Settled new → simulation_of last ≡ simulation_of m
computed_same m new last e f = ap simulation_of f ∙ ap simulation_of e

pub computed_settled : (m new : Machine) → IsMachine m → new ≡ computed_of m → AreSettled new
computed_settled m new is e = subst AreSettled (sym e) (settles m is)

pub noted_settled : (m new last : Machine) → IsMachine m → new ≡ computed_of m → last ≡ known_as Settled new → AreSettled last
noted_settled m new last is e f = subst AreSettled (sym f) (computed_settled m new is e)

-- ---- the clock edge

abbrev pub stepped_of : Machine → Machine
stepped_of m = record m { registers = next_registers m.graph m.values m.clocked m.registers; memories = next_memories m.graph m.values m.used m.memories; known = Nothing }

abbrev pub after_edge : Machine → Simulation
after_edge m = record (simulation_of m) { state = clock_edge (leaf m.graph) (valuation m.values) (state_of m) }

abbrev with_state : Machine → State → Simulation
with_state m s = record (simulation_of m) { state = s }

pub edge_steps : (m new : Machine) → IsMachine m → new ≡ stepped_of m → simulation_of new ≡ after_edge m
edge_steps m new is e = ap simulation_of e ∙ sym (ap (with_state m) (edge_state m is))

pub edge_rests : (m : Machine) → IsMachine m → m.known ≡ Rest → simulation_of m ≡ after_edge m
edge_rests m is e = sym (ap (with_state m) (known_is m Rest is e).1)

pub edge_stands : (m new last : Machine) → IsMachine m → new ≡ stepped_of m → last ≡ known_as Rest new → simulation_of last ≡ after_edge m
edge_stands m new last is e f = ap simulation_of f ∙ edge_steps m new is e

module _ (m new : Machine) (is : IsMachine m) (e : new ≡ stepped_of m) (registers : new.registers ≡ m.registers) (memories : new.memories ≡ m.memories) where
  same_state : state_of (stepped_of m) ≡ state_of m
  same_state =
      ap₂ (λ (r : List BitVector) (w : List (List BitVector)). state_of (record m { registers = r; memories = w }))
      (sym (ap (λ (x : Machine). x.registers) e) ∙ registers) (sym (ap (λ (x : Machine). x.memories) e) ∙ memories)

  pub still_settled : m.known ≡ Settled → AreSettled new
  still_settled k = subst AreSettled (sym e) (subst (λ (s : State). IsSettled (leaf m.graph) s (numbers m.inputs) (valuation m.values)) (sym same_state) (known_is m Settled is k))

  pub at_rest : IsAtRest new
  at_rest = subst IsAtRest (sym e) (ap (clock_edge (leaf m.graph) (valuation m.values)) same_state ∙ edge_state m is)

-- ---- a whole cycle

abbrev with_before : (Occurrence → ℕ) → Simulation → Simulation
with_before v s = record s { before = outputs_of s.tree v }

abbrev with_after : (Occurrence → ℕ) → Simulation → Simulation
with_after w s = record s { after = outputs_of s.tree w }

abbrev with_edge : (Occurrence → ℕ) → Simulation → Simulation
with_edge v s = record s { state = clock_edge s.tree v s.state }

abbrev SettlesTo : (Occurrence → ℕ) → Simulation → Type 0
SettlesTo v s = IsSettled s.tree s.state s.inputs v

cycle_of : (s a b c d e : Simulation) (v w : Occurrence → ℕ) → a ≡ s → SettlesTo v a → b ≡ with_before v a → c ≡ with_edge v b → d ≡ c → SettlesTo w d → e ≡ with_after w d → RunsCycle s e
cycle_of s a b c d e v w a_is first b_is c_is d_is second e_is =
    let last : d ≡ with_edge v (with_before v s) = d_is ∙ c_is ∙ ap (with_edge v) (b_is ∙ ap (with_before v) a_is) in
    subst (λ (z : Simulation). RunsCycle s z) (sym (e_is ∙ ap (with_after w) last))
    (record {
      cycle = record { v = v; w = w; settled = subst (SettlesTo v) a_is first; edge = refl; settled_again = subst (SettlesTo w) last second; before_is = refl; after_is = refl };
      tree = refl;
      inputs = refl;
    })

abbrev pub note_before_of : Machine → Machine
note_before_of m = record m { before = map (operand m.graph m.values) m.graph.outputs }

abbrev pub note_after_of : Machine → Machine
note_after_of m = record m { after = map (operand m.graph m.values) m.graph.outputs }

pub runs_cycle : (m a b c d e : Machine) → simulation_of a ≡ simulation_of m → AreSettled a → b ≡ note_before_of a → simulation_of c ≡ after_edge b
    → simulation_of d ≡ simulation_of c → AreSettled d → e ≡ note_after_of d → RunsCycle (simulation_of m) (simulation_of e)
runs_cycle m a b c d e p first q r s second t =
    cycle_of (simulation_of m) (simulation_of a) (simulation_of (note_before_of a)) (simulation_of c) (simulation_of d) (simulation_of e) (valuation a.values) (valuation d.values) p first
    (ap (λ (l : List ℕ). let z : Simulation = record (simulation_of a) { before = l } in z) (outputs_are a.graph a.values a.graph.outputs))
    (r ∙ ap after_edge q) s second
    (ap simulation_of t ∙ ap (λ (l : List ℕ). let z : Simulation = record (simulation_of d) { after = l } in z) (outputs_are d.graph d.values d.graph.outputs))
