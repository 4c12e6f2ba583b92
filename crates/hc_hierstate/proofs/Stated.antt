-- The state of rows is one of the unfolding.
use Rattle.std.proofs.Common.{◌≡◌, ℕ, ◌<◌, ◌≤◌, inl, inr, true, false, List, length, refl, sym, subst, ◌∙◌, ap}
use Rattle.std.specs.Prelude.{slice_get, Option, Some, None}
use Rattle.std.proofs.lemmas.Option.{slice_get_within}
use Rattle.std.proofs.lemmas.List.{length-map, length-replicate}
use Rattle.std.proofs.lemmas.Bool.{cases_lt}
use Rattle.hc_bits.specs.BitVector.{BitVector}
use Rattle.hc_signal.specs.Member.{Has}
use Rattle.hc_signal.specs.declared.signal.NodeId.{NodeId}
use Rattle.hc_signal.specs.declared.signal.NodeRow.{NodeRow}
use Rattle.hc_signal.specs.declared.signal.Memory.{Memory}
use Rattle.hc_signal.specs.declared.signal.Node.{Node}
use Rattle.hc_signal.specs.declared.signal.Node.TheVariants.{Input, Wire, Const, Two, Not, Mux, Cat, Select, Reg, Read, InstOut, Op}
use Rattle.hc_signal.specs.Graph.{Graph, node, mem, Reached}
use Rattle.hc_signal.specs.Tree.{Tree}
use Rattle.hc_signal.specs.Occurrences.{Occurrence, IsReachedPath, graph_at}
use Rattle.hc_canon.specs.declared.form.EntryId.{EntryId}
use Rattle.hc_canon.specs.FormView.{FormView, IsForm}
use Rattle.hc_canon.specs.Numbering.{IsCanonical}
use Rattle.hc_dbstate.specs.History.{History, IsLegal}
use Rattle.hc_dbstate.specs.Unfolding.{unfolding_of}
use Rattle.hc_dbstate.proofs.Triples.{some_once, some_at}
use Rattle.hc_bench.specs.Simulation.{State, IsMemory, IsRegister, IsStateOf}
use Rattle.hc_rows.specs.Rows.{row_at}
use Rattle.hc_values.specs.Rows.{memory_widths, numbers, widths, words_at, words_of}
use Rattle.hc_values.specs.Edges.{is_register, is_register_row}
use Rattle.hc_values.proofs.Shapes.{found}
use Rattle.hc_layout.specs.Layout.{Layout, place, IsLayout}
use Rattle.hc_hierstate.specs.States.{AreStateRows, circuit_in, circuit_of, memory_id, node_id, state_of}
use Rattle.hc_hierstate.proofs.Differ.{key_once}
use Rattle.hc_hierstate.proofs.Own.{memory_listed, register_listed}
use Rattle.hc_hierstate.proofs.Held.{has_memory, has_register, memory_keys, memory_of, register_keys, register_of}

abbrev IsReg : Node → Type 0
IsReg x = (next : NodeId) × (enable : Option NodeId) × (clear : Option (NodeId × BitVector)) × (init : BitVector) × (x ≡ Reg next enable clear init)

is_reg : (x : Node) → is_register x ≡ true → IsReg x
is_reg (Reg next enable clear init) e = (next, enable, clear, init, refl)
is_reg (Input port) e = absurd (cc)
is_reg (Wire driver) e = absurd (cc)
is_reg (Const value) e = absurd (cc)
is_reg (Two op i j) e = absurd (cc)
is_reg (Not i) e = absurd (cc)
is_reg (Mux sel cases) e = absurd (cc)
is_reg (Cat parts) e = absurd (cc)
is_reg (Select i hi lo) e = absurd (cc)
is_reg (Read m addr) e = absurd (cc)
is_reg (InstOut i port) e = absurd (cc)
is_reg (Op kind args) e = absurd (cc)

row_of : (o : Option NodeRow) → is_register_row o ≡ true → (row : NodeRow) × (o ≡ Some row) × IsReg row.node
row_of None e = absurd (cc)
row_of (Some row) e = (row, refl, is_reg row.node e)

-- a register stands behind the inputs
behind_inputs : (g : Graph) (n : ℕ) → IsCanonical g → is_register_row (slice_get g.nodes n) ≡ true → length g.ports.inputs ≤ n
behind_inputs g n canonical e = elim (cases_lt n (length g.ports.inputs)) [
  | inl a ↦ (let port = some_at g.ports.inputs n a in
      let is : is_register_row (slice_get g.nodes n) ≡ false = ap is_register_row (canonical.inputs n port.0 port.1) in absurd (cc))
  | inr b ↦ b
]

module _ (h : History) (top : EntryId) (l : Layout) (registers : List (List BitVector)) (words : List (List (List BitVector))) (legal : IsLegal h) (lay : IsLayout h.entries top l)
    (reached : (path : List ℕ) → IsReachedPath (unfolding_of h.entries top) path → (p : ℕ) × (place h.entries l path ≡ Some p))
    (only : (path : List ℕ) (p : ℕ) → place h.entries l path ≡ Some p → IsReachedPath (unfolding_of h.entries top) path)
    (graphs : (path : List ℕ) (p : ℕ) → place h.entries l path ≡ Some p
    → (id : EntryId) × (form : FormView) × (slice_get l.entries p ≡ Some id) × (slice_get h.entries id.0 ≡ Some form) × (graph_at (unfolding_of h.entries top) path ≡ form.circuit))
    (nodes : (g : Graph) (n : ℕ) → IsCanonical g → length g.ports.inputs ≤ n → n < length g.nodes → Reached g (node n))
    (memories : (g : Graph) (m : ℕ) → IsCanonical g → m < length g.memories → Reached g (mem m)) where
  abbrev t : Tree
  t = unfolding_of h.entries top

  abbrev state : State
  state = state_of h.entries l registers words

  -- an instance of the layout, and its circuit
  record IsInstance (path : List ℕ) (p : ℕ) : Type 0 where
    pub entry : EntryId
    pub form : FormView
    pub entry_is : slice_get l.entries p ≡ Some entry
    pub found_at : slice_get h.entries entry.0 ≡ Some form
    pub graph_is : graph_at (unfolding_of h.entries top) path ≡ circuit_of h.entries entry
    pub canonical : IsCanonical (circuit_of h.entries entry)

  instance_at : (path : List ℕ) (p : ℕ) → place h.entries l path ≡ Some p → IsInstance path p
  instance_at path p e =
      let x = graphs path p e in
      let is : IsForm x.1 = legal.forms x.0.0 x.1 x.3 in
      let same : circuit_of h.entries x.0 ≡ x.1.circuit = ap circuit_in x.3 in
      record { entry = x.0; form = x.1; entry_is = x.2; found_at = x.3; graph_is = x.4 ∙ sym same; canonical = subst IsCanonical (sym same) is.canonical }

  -- ---- registers

  reg_to : (s : Occurrence) → IsRegister (unfolding_of h.entries top) s → (x : ℕ) × Has state.registers (s, x)
  reg_to s r =
      let p = reached s.path r.5.0 in
      let it = instance_at s.path p.0 p.1 in
      let row : slice_get (circuit_of h.entries it.entry).nodes s.node ≡ Some r.0 = ap (λ (g : Graph). slice_get g.nodes s.node) (sym it.graph_is) ∙ r.6 in
      let is : is_register_row (slice_get (circuit_of h.entries it.entry).nodes s.node) ≡ true = ap is_register_row row ∙ ap is_register r.7 in
      (_, has_register h.entries top l lay registers words s.path p.0 it.entry p.1 it.entry_is (node_id s.node) ((register_listed (circuit_of h.entries it.entry) (node_id s.node)).1 is))

  reg_from : (s : Occurrence) (x : ℕ) → Has state.registers (s, x) → IsRegister (unfolding_of h.entries top) s
  reg_from s x k =
      let at = (register_of h.entries top l lay registers words s x k).0 in
      let it = instance_at s.path at.p at.placed in
      let g : Graph = circuit_of h.entries it.entry in
      let same : at.entry ≡ it.entry = some_once (sym at.entry_is ∙ it.entry_is) in
      let own : is_register_row (slice_get (circuit_of h.entries at.entry).nodes at.id.0) ≡ true = (register_listed (circuit_of h.entries at.entry) at.id).0 at.has in
      let is : is_register_row (slice_get (circuit_of h.entries it.entry).nodes s.node) ≡ true =
      ap (λ (e : EntryId). is_register_row (slice_get (circuit_of h.entries e).nodes s.node)) (sym same)
      ∙ ap (λ (n : ℕ). is_register_row (slice_get (circuit_of h.entries at.entry).nodes n)) (sym at.node) ∙ own in
      let row = row_of (slice_get (circuit_of h.entries it.entry).nodes s.node) is in
      let there : s.node < length (circuit_of h.entries it.entry).nodes = slice_get_within (circuit_of h.entries it.entry).nodes s.node row.0 row.1 in
      let seen : Reached (circuit_of h.entries it.entry) (node s.node) =
      nodes (circuit_of h.entries it.entry) s.node it.canonical (behind_inputs (circuit_of h.entries it.entry) s.node it.canonical is) there in (
        row.0,
        row.2.0,
        row.2.1,
        row.2.2,
        row.2.3,
        (only s.path at.p at.placed, subst (λ (g : Graph). Reached g (node s.node)) (sym it.graph_is) seen),
        ap (λ (g : Graph). slice_get g.nodes s.node) it.graph_is ∙ row.1,
        row.2.4,
      )

  -- ---- memories

  module _ (are : AreStateRows h.entries l registers words) where
    words_many : (p : ℕ) (entry : EntryId) (n : ℕ) (m : Memory) → slice_get l.entries p ≡ Some entry → slice_get (circuit_of h.entries entry).memories n ≡ Some m
        → length (numbers (words_at (row_at words p) n)) ≡ m.size
    words_many p entry n m e at =
        let w : (ws : List BitVector) × (slice_get (row_at words p) n ≡ Some ws) × (widths ws ≡ memory_widths m) =
        found widths memory_widths (row_at words p) (circuit_of h.entries entry).memories n m (are.word_rows p entry e) at in
        ap (λ o. length (numbers (words_of o))) w.1 ∙ length-map w.0 (λ (x : BitVector). x.value) ∙ sym (length-map w.0 (λ (x : BitVector). x.width)) ∙ ap length w.2 ∙ length-replicate m.size m.width

    mem_to : (s : Occurrence) (size : ℕ) → IsMemory (unfolding_of h.entries top) s size → (ws : List ℕ) × Has state.memories (s, ws) × (length ws ≡ size)
    mem_to s size r =
        let p = reached s.path r.1 in
        let it = instance_at s.path p.0 p.1 in
        let row : slice_get (circuit_of h.entries it.entry).memories s.node ≡ Some r.0 = ap (λ (g : Graph). slice_get g.memories s.node) (sym it.graph_is) ∙ r.3 in
        let there : s.node < length (circuit_of h.entries it.entry).memories = slice_get_within (circuit_of h.entries it.entry).memories s.node r.0 row in (
          numbers (words_at (row_at words p.0) s.node),
          has_memory h.entries top l lay registers words s.path p.0 it.entry p.1 it.entry_is (memory_id s.node) ((memory_listed (circuit_of h.entries it.entry) (memory_id s.node)).1 there),
          words_many p.0 it.entry s.node r.0 it.entry_is row ∙ r.4,
        )

    mem_from : (s : Occurrence) (size : ℕ) → (ws : List ℕ) × Has state.memories (s, ws) × (length ws ≡ size) → IsMemory (unfolding_of h.entries top) s size
    mem_from s size k =
        let u = memory_of h.entries top l lay registers words s k.0 k.1 in
        let at = u.0 in
        let it = instance_at s.path at.p at.placed in
        let same : at.entry ≡ it.entry = some_once (sym at.entry_is ∙ it.entry_is) in
        let own : at.id.0 < length (circuit_of h.entries at.entry).memories = (memory_listed (circuit_of h.entries at.entry) at.id).0 at.has in
        let there : s.node < length (circuit_of h.entries it.entry).memories =
        subst (λ (e : EntryId). s.node < length (circuit_of h.entries e).memories) same (subst (λ (n : ℕ). n < length (circuit_of h.entries at.entry).memories) at.node own) in
        let row = some_at (circuit_of h.entries it.entry).memories s.node there in (
          row.0,
          only s.path at.p at.placed,
          subst (λ (g : Graph). Reached g (mem s.node)) (sym it.graph_is) (memories (circuit_of h.entries it.entry) s.node it.canonical there),
          ap (λ (g : Graph). slice_get g.memories s.node) it.graph_is ∙ row.1,
          sym (words_many at.p it.entry s.node row.0 it.entry_is row.1) ∙ sym (ap length (u.1 at.p at.placed)) ∙ k.2,
        )

    pub is_state : IsStateOf (unfolding_of h.entries top) (state_of h.entries l registers words)
    is_state = record {
      registers = λ s. (λ r. reg_to s r, λ k. reg_from s k.0 k.1);
      register_once = key_once state.registers (register_keys h.entries top l lay registers words);
      memories = λ s size. (λ r. mem_to s size r, λ k. mem_from s size k);
      memory_once = key_once state.memories (memory_keys h.entries top l lay registers words);
    }
