-- The rows at the start.
use Rattle.std.proofs.Common.{◌≡◌, ℕ, zero, suc, ◌<◌, List, [], ◌∷◌, map, length, refl, sym, subst, ◌∙◌, ap, ap₂}
use Rattle.std.specs.Prelude.{replicate, slice_get, Option, Some, None, option_map}
use Rattle.std.proofs.lemmas.Option.{get_or_from_slice_get, slice_get-map}
use Rattle.std.proofs.lemmas.List.{length-map, length-replicate}
use Rattle.hc_bits.specs.BitVector.{BitVector}
use Rattle.hc_signal.specs.Member.{Has, first, later}
use Rattle.hc_signal.specs.declared.signal.NodeRow.{NodeRow}
use Rattle.hc_signal.specs.declared.signal.Memory.{Memory}
use Rattle.hc_signal.specs.declared.signal.Node.{Node}
use Rattle.hc_signal.specs.declared.signal.Node.TheVariants.{Input, Wire, Const, Two, Not, Mux, Cat, Select, Reg, Read, InstOut, Op}
use Rattle.hc_signal.specs.Graph.{Graph}
use Rattle.hc_signal.specs.Lawful.{IsLawful, IsLawfulNode}
use Rattle.hc_signal.specs.Occurrences.{Occurrence, graph_at}
use Rattle.hc_canon.specs.declared.form.EntryId.{EntryId}
use Rattle.hc_canon.specs.FormView.{FormView, IsForm}
use Rattle.hc_dbstate.specs.History.{History, IsLegal}
use Rattle.hc_dbstate.specs.Unfolding.{unfolding_of}
use Rattle.hc_dbstate.proofs.Triples.{some_at}
use Rattle.hc_bench.specs.Simulation.{State, IsInitialState, IsStateOf}
use Rattle.hc_rows.specs.Rows.{row_at}
use Rattle.hc_values.specs.Rows.{at_path, memory_widths, node_widths, number_at, number_of, numbers, widths, words_at, words_of, zero_of, zeros_of_memory}
use Rattle.hc_values.specs.Edges.{initial_of}
use Rattle.hc_layout.specs.Layout.{Layout, place, IsLayout}
use Rattle.hc_hierstate.specs.States.{AreStateRows, circuit_in, circuit_of, state_of}
use Rattle.hc_hierstate.specs.Changes.{ResetAllRegisters, initial_row, initial_rows, zero_row, zero_rows}
use Rattle.hc_hierstate.proofs.Changed.{reset_is}
use Rattle.hc_hierstate.proofs.Differ.{place_in}
use Rattle.hc_hierstate.proofs.Held.{memory_of}
use Rattle.hc_hierstate.proofs.Stepped.{have_circuits}
use Rattle.hc_hierstate.proofs.Own.{memory_listed}

-- ---- one circuit

initial_width : (g : Graph) (w : ℕ) (x : Node) → IsLawfulNode g w x → (initial_of x (zero_of w)).width ≡ w
initial_width g w (Reg next enable clear init) law = law.3.1
initial_width g w (Input port) law = refl
initial_width g w (Wire driver) law = refl
initial_width g w (Const c) law = refl
initial_width g w (Two op a b) law = refl
initial_width g w (Not a) law = refl
initial_width g w (Mux sel cases) law = refl
initial_width g w (Cat parts) law = refl
initial_width g w (Select a hi lo) law = refl
initial_width g w (Read m addr) law = refl
initial_width g w (InstOut i port) law = refl
initial_width g w (Op kind args) law = refl

each_width : (g : Graph) (rows : List NodeRow) → ((row : NodeRow) → Has rows row → IsLawfulNode g row.width row.node)
    → widths (map (λ (row : NodeRow). initial_of row.node (zero_of row.width)) rows) ≡ node_widths rows
each_width g [] law = refl
each_width g (row ∷ rows) law = ap₂ (λ w ws. w ∷ ws) (initial_width g row.width row.node (law row first)) (each_width g rows (λ r h. law r (later h)))

initial_widths : (g : Graph) → IsLawful g → widths (initial_row g) ≡ node_widths g.nodes
initial_widths g lawful = each_width g g.nodes (λ row h. let at : (k : ℕ) × (slice_get g.nodes k ≡ Some row) = place_in g.nodes row h in (lawful.nodes at.0 row at.1).1)

map_replicate : {X Y : Type 0} (f : X → Y) (n : ℕ) (x : X) → map f (replicate n x) ≡ replicate n (f x)
map_replicate f zero x = refl
map_replicate f (suc n) x = ap (λ l. f x ∷ l) (map_replicate f n x)

zero_widths : (memories : List Memory) → map widths (map zeros_of_memory memories) ≡ map memory_widths memories
zero_widths [] = refl
zero_widths (m ∷ memories) = ap₂ (λ (x : List ℕ) (l : List (List ℕ)). x ∷ l) (map_replicate (λ (b : BitVector). b.width) m.size (zero_of m.width)) (zero_widths memories)

abbrev initial_node : Node → ℕ
initial_node (Reg next enable clear init) = init.value
initial_node other = 0

abbrev initial_by : Option NodeRow → ℕ
initial_by None = 0
initial_by (Some row) = initial_node row.node

node_starts : (x : Node) (w : ℕ) → (initial_of x (zero_of w)).value ≡ initial_node x
node_starts (Reg next enable clear init) w = refl
node_starts (Input port) w = refl
node_starts (Wire driver) w = refl
node_starts (Const c) w = refl
node_starts (Two op i j) w = refl
node_starts (Not i) w = refl
node_starts (Mux sel cases) w = refl
node_starts (Cat parts) w = refl
node_starts (Select i hi lo) w = refl
node_starts (Read m addr) w = refl
node_starts (InstOut i port) w = refl
node_starts (Op kind args) w = refl

row_starts : (o : Option NodeRow) → number_of (option_map (λ (row : NodeRow). initial_of row.node (zero_of row.width)) o) ≡ initial_by o
row_starts None = refl
row_starts (Some row) = node_starts row.node row.width

-- each number of the row at the start is the initial one
number_starts : (g : Graph) (n : ℕ) → number_at (initial_row g) n ≡ initial_by (slice_get g.nodes n)
number_starts g n = ap number_of (slice_get-map (λ (row : NodeRow). initial_of row.node (zero_of row.width)) g.nodes n) ∙ row_starts (slice_get g.nodes n)

words_start : (g : Graph) (n : ℕ) (m : Memory) → slice_get g.memories n ≡ Some m → numbers (words_at (zero_row g) n) ≡ replicate m.size 0
words_start g n m at =
    ap (λ o. numbers (words_of o)) (slice_get-map zeros_of_memory g.memories n ∙ ap (option_map zeros_of_memory) at)
    ∙ map_replicate (λ (b : BitVector). b.value) m.size (zero_of m.width)

all_zero : (xs : List ℕ) (n : ℕ) → xs ≡ replicate n 0 → xs ≡ replicate (length xs) 0
all_zero xs n e = e ∙ ap (λ k. replicate k 0) (sym (ap length e ∙ length-replicate n 0))

-- ---- all instances

row_is : {X : Type 0} (f : EntryId → List X) (ids : List EntryId) (p : ℕ) (id : EntryId) → slice_get ids p ≡ Some id → row_at (map f ids) p ≡ f id
row_is f ids p id e = get_or_from_slice_get (map f ids) p (f id) [] (slice_get-map f ids p ∙ ap (option_map f) e)

module _ (h : History) (top : EntryId) (l : Layout) (legal : IsLegal h) (lay : IsLayout h.entries top l) where
  circuit_lawful : (p : ℕ) (id : EntryId) → slice_get l.entries p ≡ Some id → IsLawful (circuit_of h.entries id)
  circuit_lawful p id e =
      let form = some_at h.entries id.0 (lay.laid.known p id e) in
      let is : IsForm form.0 = legal.forms id.0 form.0 form.1 in
      subst IsLawful (sym (ap circuit_in form.1)) is.lawful

  register_row : (p : ℕ) (id : EntryId) → slice_get l.entries p ≡ Some id → row_at (initial_rows h.entries l) p ≡ initial_row (circuit_of h.entries id)
  register_row p id e = row_is (λ (id : EntryId). initial_row (circuit_of h.entries id)) l.entries p id e

  word_row : (p : ℕ) (id : EntryId) → slice_get l.entries p ≡ Some id → row_at (zero_rows h.entries l) p ≡ zero_row (circuit_of h.entries id)
  word_row p id e = row_is (λ (id : EntryId). zero_row (circuit_of h.entries id)) l.entries p id e

  pub start_rows : AreStateRows h.entries l (initial_rows h.entries l) (zero_rows h.entries l)
  start_rows = record {
    many_registers = length-map l.entries (λ (id : EntryId). initial_row (circuit_of h.entries id));
    many_words = length-map l.entries (λ (id : EntryId). zero_row (circuit_of h.entries id));
    register_rows = λ p id e. ap widths (register_row p id e) ∙ initial_widths (circuit_of h.entries id) (circuit_lawful p id e);
    word_rows = λ p id e. ap (map widths) (word_row p id e) ∙ zero_widths (circuit_of h.entries id).memories;
  }

  module _ (graphs : (path : List ℕ) (p : ℕ) → place h.entries l path ≡ Some p
      → (id : EntryId) × (form : FormView) × (slice_get l.entries p ≡ Some id) × (slice_get h.entries id.0 ≡ Some form) × (graph_at (unfolding_of h.entries top) path ≡ form.circuit)) where
    resets : ResetAllRegisters h.entries l (unfolding_of h.entries top) (initial_rows h.entries l) (initial_rows h.entries l)
    resets path p entry id placed e k =
        ap (λ (g : Graph). (at_path path id.0, initial_by (slice_get g.nodes id.0))) (have_circuits h.entries top l graphs path p entry placed e)
        ∙ ap (λ (x : ℕ). (at_path path id.0, x)) (sym (ap (λ row. number_at row id.0) (register_row p entry e) ∙ number_starts (circuit_of h.entries entry) id.0))

    zero_words : (s : Occurrence) (words : List ℕ) → Has (state_of h.entries l (initial_rows h.entries l) (zero_rows h.entries l)).memories (s, words) → words ≡ replicate (length words) 0
    zero_words s words k =
        let u = memory_of h.entries top l lay (initial_rows h.entries l) (zero_rows h.entries l) s words k in
        let there : u.0.id.0 < length (circuit_of h.entries u.0.entry).memories = (memory_listed (circuit_of h.entries u.0.entry) u.0.id).0 u.0.has in
        let m = some_at (circuit_of h.entries u.0.entry).memories u.0.id.0 there in
        let at : slice_get (circuit_of h.entries u.0.entry).memories s.node ≡ Some m.0 = ap (slice_get (circuit_of h.entries u.0.entry).memories) (sym u.0.node) ∙ m.1 in
        all_zero words m.0.size
        (u.1 u.0.p u.0.placed ∙ ap (λ row. numbers (words_at row s.node)) (word_row u.0.p u.0.entry u.0.entry_is) ∙ words_start (circuit_of h.entries u.0.entry) s.node m.0 at)

    pub start_state : IsStateOf (unfolding_of h.entries top) (state_of h.entries l (initial_rows h.entries l) (zero_rows h.entries l))
        → IsInitialState (unfolding_of h.entries top) (state_of h.entries l (initial_rows h.entries l) (zero_rows h.entries l))
    start_state whole = record {
      whole = whole;
      registers = sym (ap (λ (s : State). s.registers)
          (reset_is h.entries top l lay (unfolding_of h.entries top) (initial_rows h.entries l) (initial_rows h.entries l) (zero_rows h.entries l) resets));
      words = zero_words;
    }
