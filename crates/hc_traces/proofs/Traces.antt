-- A tree without a loop gives the steps of a bench one list of rows.
use Rattle.std.proofs.Common.{◌≡◌, ℕ, zero, suc, ◌&&◌, ◌==◌, List, [], ◌∷◌, map, length, refl, sym, subst, ◌∙◌, ap, ap₂, map-id}
use Rattle.std.proofs.lemmas.List.FromFn.{length-enumerate_from}
use Rattle.std.proofs.lemmas.List.{length-map}
use Rattle.std.specs.Prelude.{slice_get, unwrap_or, if◌then◌else◌, Option, Some, None}
use Rattle.std.specs.List.{enumerate_from}
use Rattle.hc_signal.specs.Member.{Has, first, later}
use Rattle.hc_walk.proofs.Members.{has_map, has_from_map, has_left, has_right}
use Rattle.hc_bench.specs.declared.kinds.Step.{Step}
use Rattle.hc_bench.specs.declared.kinds.Step.TheVariants.{Cycle}
use Rattle.hc_signal.specs.declared.signal.NodeId.{NodeId}
use Rattle.hc_signal.specs.declared.signal.NodeRow.{NodeRow}
use Rattle.hc_signal.specs.declared.signal.Memory.{Memory}
use Rattle.hc_signal.specs.declared.signal.WritePort.{WritePort}
use Rattle.hc_signal.specs.declared.signal.Node.{Node}
use Rattle.hc_signal.specs.declared.signal.Node.TheVariants.{Input, Wire, Const, Two, Not, Mux, Cat, Select, Reg, Read, InstOut, Op}
use Rattle.hc_bits.specs.BitVector.{BitVector}
use Rattle.hc_signal.specs.Graph.{Vertex, node, mem, Reached, output, further, fanin_of_writes, fanin_of_memory, node_of, optional_node, clear_node}
use Rattle.hc_signal.specs.Tree.{Tree, graph, IsWhole}
use Rattle.hc_signal.specs.Occurrences.{Occurrence, graph_at, IsReachedPath, IsReachedOccurrence, HasCombLoop}
use Rattle.hc_bench.specs.Simulation.{State, IsStateOf, IsRegister, IsMemory, IsSettled, value_at, is_enabled, cleared, next_value, next_register, word_after, next_memory, clock_edge, outputs_of, reset, initial_register}
use Rattle.hc_bench.specs.Listing.{CycleRow}
use Rattle.hc_bench.specs.Trace.{IsCycle, Trace, stop, set, start, past, cycle}
use Rattle.hc_paths.proofs.Composed.{reached_fanin}
use Rattle.hc_traces.proofs.Settling.{settled_once}

map_agrees : {X Y : Type 0} (f g : X → Y) (xs : List X) → ((x : X) → Has xs x → f x ≡ g x) → map f xs ≡ map g xs
map_agrees f g [] h = refl
map_agrees f g (x ∷ xs) h = ap₂ (λ a b. a ∷ b) (h x first) (map_agrees f g xs (λ y k. h y (later k)))

abbrev AgreeAtReached : Tree → (Occurrence → ℕ) → (Occurrence → ℕ) → Type 0
AgreeAtReached t v w = (s : Occurrence) → IsReachedOccurrence t s → v s ≡ w s

module _ (t : Tree) (v w : Occurrence → ℕ) (a : AgreeAtReached t v w) where
  at_id : (p : List ℕ) (id : NodeId) → IsReachedPath t p → Reached (graph_at t p) (node id.0) → value_at v p id ≡ value_at w p id
  at_id p id r c = a (record { path = p; node = id.0 }) (r, c)

  enabled_agrees : (p : List ℕ) (o : Option NodeId) → ((id : NodeId) → o ≡ Some id → value_at v p id ≡ value_at w p id) → is_enabled v p o ≡ is_enabled w p o
  enabled_agrees p None h = refl
  enabled_agrees p (Some id) h = ap (λ x. x == 1) (h id refl)

  cleared_agrees : (p : List ℕ) (o : Option (NodeId × BitVector)) (x y : ℕ) → x ≡ y → ((c : NodeId × BitVector) → o ≡ Some c → value_at v p c.0 ≡ value_at w p c.0) → cleared v p o x ≡ cleared w p o y
  cleared_agrees p None x y e h = e
  cleared_agrees p (Some c) x y e h = ap₂ (λ k z. if k == 1 then c.1.value else z) (h c refl) e

  next_agrees : (p : List ℕ) (n : ℕ) (row : NodeRow) (x : Node) (old : ℕ) → IsReachedPath t p → Reached (graph_at t p) (node n)
      → slice_get (graph_at t p).nodes n ≡ Some row → row.node ≡ x → next_value v p x old ≡ next_value w p x old
  next_agrees p n row (Reg next enable clear init) old r c e q =
      cleared_agrees p clear _ _
      (ap₂ (λ b k. if b then k else old)
      (enabled_agrees p enable (λ id o. at_id p id r (reached_fanin (graph_at t p) n (Reg next enable clear init) (node id.0) row e q c
      (later (has_left (clear_node clear) (subst (λ z. Has (optional_node z) (node id.0)) (sym o) first))))))
      (at_id p next r (reached_fanin (graph_at t p) n (Reg next enable clear init) (node next.0) row e q c first)))
      (λ d o. at_id p d.0 r (reached_fanin (graph_at t p) n (Reg next enable clear init) (node d.0.0) row e q c
      (later (has_right (optional_node enable) (subst (λ z. Has (clear_node z) (node d.0.0)) (sym o) first)))))
  next_agrees p n row (Input port) old r c e q = refl
  next_agrees p n row (Wire driver) old r c e q = refl
  next_agrees p n row (Const value) old r c e q = refl
  next_agrees p n row (Two op i j) old r c e q = refl
  next_agrees p n row (Not i) old r c e q = refl
  next_agrees p n row (Mux sel cases) old r c e q = refl
  next_agrees p n row (Cat parts) old r c e q = refl
  next_agrees p n row (Select i hi lo) old r c e q = refl
  next_agrees p n row (Read m addr) old r c e q = refl
  next_agrees p n row (InstOut i port) old r c e q = refl
  next_agrees p n row (Op kind args) old r c e q = refl

  register_agrees : (state : State) → IsStateOf t state → (e : Occurrence × ℕ) → Has state.registers e → next_register t v e ≡ next_register t w e
  register_agrees state k e h =
      let x : IsRegister t e.0 = (k.registers e.0).1 (e.1, h) in
      ap (λ o. (e.0, by v o)) x.6 ∙ ap (λ z. (e.0, z)) (next_agrees e.0.path e.0.node x.0 x.0.node e.1 x.5.0 x.5.1 x.6 refl) ∙ sym (ap (λ o. (e.0, by w o)) x.6)
    where
      by : (Occurrence → ℕ) → Option NodeRow → ℕ
      by u None = e.1
      by u (Some row) = next_value u e.0.path row.node e.1

  written_agrees : (p : List ℕ) (ws : List WritePort) (place old : ℕ) → IsReachedPath t p → ((q : Vertex) → Has (fanin_of_writes ws) q → Reached (graph_at t p) q)
      → word_after v p ws place old ≡ word_after w p ws place old
  written_agrees p [] place old r h = refl
  written_agrees p (x ∷ ws) place old r h =
      let en : value_at v p x.enable ≡ value_at w p x.enable = at_id p x.enable r (h _ first) in
      let ad : value_at v p x.addr ≡ value_at w p x.addr = at_id p x.addr r (h _ (later first)) in
      let va : value_at v p x.value ≡ value_at w p x.value = at_id p x.value r (h _ (later (later first))) in
      ap (λ o. word_after v p ws place o) (λ i. if ((en i == 1) && (ad i == place)) then va i else old)
      ∙ written_agrees p ws place _ r (λ q k. h q (later (later (later k))))

  words_agree : (state : State) → IsStateOf t state → (e : Occurrence × List ℕ) → Has state.memories e → next_memory t v e ≡ next_memory t w e
  words_agree state k e h =
      let x : IsMemory t e.0 (length e.1) = (k.memories e.0 (length e.1)).1 (e.1, h, refl) in
      ap (λ o. (e.0, by v o)) x.3
      ∙ ap (λ z. (e.0, z))
      (map_agrees (λ (p : ℕ × ℕ). word_after v e.0.path x.0.writes p.0 p.1) (λ (p : ℕ × ℕ). word_after w e.0.path x.0.writes p.0 p.1) (enumerate_from 0 e.1)
      (λ p _. written_agrees e.0.path x.0.writes p.0 p.1 x.1
      (λ q c. further (mem e.0.node) q x.2 (subst (λ l. Has l q) (sym (ap fanin_of_memory x.3)) c))))
      ∙ sym (ap (λ o. (e.0, by w o)) x.3)
    where
      by : (Occurrence → ℕ) → Option Memory → List ℕ
      by u None = e.1
      by u (Some m) = map (λ (p : ℕ × ℕ). word_after u e.0.path m.writes p.0 p.1) (enumerate_from 0 e.1)

  pub edge_agrees : (state : State) → IsStateOf t state → clock_edge t v state ≡ clock_edge t w state
  edge_agrees state k = λ i. record {
    registers = map_agrees (next_register t v) (next_register t w) state.registers (register_agrees state k) i;
    memories = map_agrees (next_memory t v) (next_memory t w) state.memories (words_agree state k) i;
  }

  pub outputs_agree : outputs_of t v ≡ outputs_of t w
  outputs_agree = map_agrees (value_at v []) (value_at w []) (graph t).outputs (λ id h. at_id [] id tt (output (node id.0) (has_map node_of h)))

-- A change of the numbers alone leaves a state a state.
mapped_from : {X Y : Type 0} (f : X → Y) (xs : List X) (i : ℕ) (y : Y) → slice_get (map f xs) i ≡ Some y → (x : X) × (slice_get xs i ≡ Some x) × (f x ≡ y)
mapped_from f [] i y e = cc
mapped_from f (x ∷ xs) zero y e = (x, refl, ap (λ o. unwrap_or o (f x)) e)
mapped_from f (x ∷ xs) (suc i) y e = mapped_from f xs i y e

module _ (t : Tree) (state : State) (k : IsStateOf t state) (f : Occurrence × ℕ → Occurrence × ℕ) (g : Occurrence × List ℕ → Occurrence × List ℕ)
    (key : (e : Occurrence × ℕ) → (f e).0 ≡ e.0) (mem_key : (e : Occurrence × List ℕ) → (g e).0 ≡ e.0) (long : (e : Occurrence × List ℕ) → length (g e).1 ≡ length e.1) where
  abbrev pub changed : State
  changed = record { registers = map f state.registers; memories = map g state.memories }

  kept_register : (s : Occurrence) → IsRegister t s → (x : ℕ) × Has (map f state.registers) (s, x)
  kept_register s r =
      let h : (x : ℕ) × Has state.registers (s, x) = (k.registers s).0 r in
      ((f (s, h.0)).1, subst (λ z. Has (map f state.registers) (z, (f (s, h.0)).1)) (key (s, h.0)) (has_map f h.1))

  old_register : (s : Occurrence) → (x : ℕ) × Has (map f state.registers) (s, x) → IsRegister t s
  old_register s h =
      let e : _ = has_from_map f state.registers (s, h.0) h.1 in
      subst (IsRegister t) (sym (key e.0) ∙ ap (λ z. z.0) e.2) ((k.registers e.0.0).1 (e.0.1, e.1))

  kept_memory : (s : Occurrence) (size : ℕ) → IsMemory t s size → (ws : List ℕ) × Has (map g state.memories) (s, ws) × (length ws ≡ size)
  kept_memory s size r =
      let h : (ws : List ℕ) × Has state.memories (s, ws) × (length ws ≡ size) = (k.memories s size).0 r in
      ((g (s, h.0)).1, subst (λ z. Has (map g state.memories) (z, (g (s, h.0)).1)) (mem_key (s, h.0)) (has_map g h.1), long (s, h.0) ∙ h.2)

  old_memory : (s : Occurrence) (size : ℕ) → (ws : List ℕ) × Has (map g state.memories) (s, ws) × (length ws ≡ size) → IsMemory t s size
  old_memory s size h =
      let e : _ = has_from_map g state.memories (s, h.0) h.1 in
      subst (λ z. IsMemory t z size) (sym (mem_key e.0) ∙ ap (λ z. z.0) e.2)
      ((k.memories e.0.0 size).1 (e.0.1, e.1, sym (long e.0) ∙ ap (λ z. length z.1) e.2 ∙ h.2))

  once_register : (i j : ℕ) (s : Occurrence) (x y : ℕ) → slice_get (map f state.registers) i ≡ Some (s, x) → slice_get (map f state.registers) j ≡ Some (s, y) → i ≡ j
  once_register i j s x y p q =
      let a : _ = mapped_from f state.registers i (s, x) p in let b : _ = mapped_from f state.registers j (s, y) q in
      let ka : a.0.0 ≡ s = sym (key a.0) ∙ ap (λ z. z.0) a.2 in let kb : b.0.0 ≡ s = sym (key b.0) ∙ ap (λ z. z.0) b.2 in
      k.register_once i j s a.0.1 b.0.1 (a.1 ∙ ap (λ z. Some (z, a.0.1)) ka) (b.1 ∙ ap (λ z. Some (z, b.0.1)) kb)

  once_memory : (i j : ℕ) (s : Occurrence) (x y : List ℕ) → slice_get (map g state.memories) i ≡ Some (s, x) → slice_get (map g state.memories) j ≡ Some (s, y) → i ≡ j
  once_memory i j s x y p q =
      let a : _ = mapped_from g state.memories i (s, x) p in let b : _ = mapped_from g state.memories j (s, y) q in
      let ka : a.0.0 ≡ s = sym (mem_key a.0) ∙ ap (λ z. z.0) a.2 in let kb : b.0.0 ≡ s = sym (mem_key b.0) ∙ ap (λ z. z.0) b.2 in
      k.memory_once i j s a.0.1 b.0.1 (a.1 ∙ ap (λ z. Some (z, a.0.1)) ka) (b.1 ∙ ap (λ z. Some (z, b.0.1)) kb)

  pub still_state : IsStateOf t changed
  still_state = record { registers = λ s. (kept_register s, old_register s); register_once = once_register; memories = λ s size. (kept_memory s size, old_memory s size); memory_once = once_memory }

words_by : (Occurrence → ℕ) → Occurrence × List ℕ → Option Memory → List ℕ
words_by v e None = e.1
words_by v e (Some m) = map (λ (p : ℕ × ℕ). word_after v e.0.path m.writes p.0 p.1) (enumerate_from 0 e.1)

long_by : (v : Occurrence → ℕ) (e : Occurrence × List ℕ) (o : Option Memory) → length (words_by v e o) ≡ length e.1
unfolding words_by
long_by v e None = refl
long_by v e (Some m) = length-map (enumerate_from 0 e.1) (λ (p : ℕ × ℕ). word_after v e.0.path m.writes p.0 p.1) ∙ length-enumerate_from 0 e.1

long_words : (t : Tree) (v : Occurrence → ℕ) (e : Occurrence × List ℕ) → length (next_memory t v e).1 ≡ length e.1
unfolding words_by
long_words t v e = long_by v e (slice_get (graph_at t e.0.path).memories e.0.node)

pub edge_state : (t : Tree) (v : Occurrence → ℕ) (state : State) → IsStateOf t state → IsStateOf t (clock_edge t v state)
edge_state t v state k = still_state t state k (next_register t v) (next_memory t v) (λ e. refl) (λ e. refl) (long_words t v)

pub reset_state : (t : Tree) (state : State) → IsStateOf t state → IsStateOf t (reset t state)
reset_state t state k =
    let s : IsStateOf t (changed t state k (initial_register t) (λ e. e) (λ e. refl) (λ e. refl) (λ e. refl)) = still_state t state k (initial_register t) (λ e. e) (λ e. refl)
    (λ e. refl) (λ e. refl) in
    subst (λ ms. IsStateOf t (record { registers = map (initial_register t) state.registers; memories = ms })) (map-id state.memories) s

-- one list of rows
module _ (t : Tree) (whole : IsWhole t) (free : ¬ HasCombLoop t) where
  pub cycle_keeps : (s : State) (ins : List ℕ) (state : State) (b o : List ℕ) → IsStateOf t s → IsCycle t s ins state b o → IsStateOf t state
  cycle_keeps s ins state b o k x = subst (IsStateOf t) (sym x.edge) (edge_state t x.v s k)

  pub cycle_state : (s : State) (ins : List ℕ) (state other : State) (b o c q : List ℕ) → IsStateOf t s → IsCycle t s ins state b o → IsCycle t s ins other c q → other ≡ state
  cycle_state s ins state other b o c q k x y = y.edge ∙ edge_agrees t y.v x.v (settled_once t whole free s ins y.v x.v y.settled x.settled) s k ∙ sym x.edge

  pub cycle_before : (s : State) (ins : List ℕ) (state other : State) (b o c q : List ℕ) → IsCycle t s ins state b o → IsCycle t s ins other c q → b ≡ c
  cycle_before s ins state other b o c q x y = x.before_is ∙ outputs_agree t x.v y.v (settled_once t whole free s ins x.v y.v x.settled y.settled) ∙ sym y.before_is

  pub cycle_after : (s : State) (ins : List ℕ) (state other : State) (b o c q : List ℕ) → IsStateOf t s → IsCycle t s ins state b o → IsCycle t s ins other c q → o ≡ q
  cycle_after s ins state other b o c q k x y =
      let settled : IsSettled t state ins y.w = subst (λ z. IsSettled t z ins y.w) (cycle_state s ins state other b o c q k x y) y.settled_again in
      x.after_is ∙ outputs_agree t x.w y.w (settled_once t whole free state ins x.w y.w x.settled_again settled) ∙ sym y.after_is

  pub trace_once : {state : State} {inputs : List ℕ} {count : ℕ} {steps : List Step} {rows others : List CycleRow} → IsStateOf t state
      → Trace t state inputs count steps rows → Trace t state inputs count steps others → rows ≡ others
  trace_once k stop stop = refl
  trace_once k (set _ a) (set _ b) = trace_once k a b
  trace_once {state = s} k (start a) (start b) = trace_once (reset_state t s k) a b
  trace_once k (past a) (past b) = trace_once k a b
  trace_once {state = s} {inputs = ins} {count = n} k (cycle {next = state} {before = b} {after = o} {times = times} {steps = steps} x run)
      (cycle {next = other} {before = c} {after = q} {rows = rest} y run_too) =
      let same : other ≡ state = cycle_state s ins state other b o c q k x y in
      let u : Trace t state ins (suc n) (Cycle times ∷ steps) rest = subst (λ z. Trace t z ins (suc n) (Cycle times ∷ steps) rest) same run_too in
      ap₂ (λ z l. z ∷ l)
      (ap₂ (λ i j. record { cycle = n; before = i; after = j }) (cycle_before s ins state other b o c q x y) (cycle_after s ins state other b o c q k x y))
      (trace_once (cycle_keeps s ins state b o k x) run u)
