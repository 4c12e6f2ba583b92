-- A whole tree has an initial state.
use Rattle.std.proofs.Common.{◌≡◌, ℕ, Bool, true, false, true≢false, List, [], ◌∷◌, map, length, refl, sym, subst, ◌∙◌, ap, ap₂}
use Rattle.std.specs.Prelude.{replicate, slice_get, Option, Some, None}
use Rattle.std.proofs.lemmas.List.{length-replicate}
use Rattle.hc_signal.specs.Member.{Has, first, later}
use Rattle.hc_signal.specs.declared.signal.NodeId.{NodeId}
use Rattle.hc_signal.specs.declared.signal.NodeRow.{NodeRow}
use Rattle.hc_signal.specs.declared.signal.Node.{Node}
use Rattle.hc_signal.specs.declared.signal.Node.TheVariants.{Reg}
use Rattle.hc_signal.specs.declared.signal.Memory.{Memory}
use Rattle.hc_bits.specs.BitVector.{BitVector}
use Rattle.hc_signal.specs.Graph.{node, mem}
use Rattle.hc_signal.specs.Tree.{Tree, IsWhole}
use Rattle.hc_signal.specs.Occurrences.{Occurrence, tree_at, graph_at, row_at}
use Rattle.hc_walk.proofs.Members.{has_slice}
use Rattle.hc_walk.proofs.Walks.{one_place}
use Rattle.hc_walk.proofs.InRange.{HasRow}
use Rattle.hc_bench.specs.Simulation.{State, IsRegister, IsMemory, IsStateOf, IsInitialState, initial_register}
use Rattle.hc_traces.proofs.Settling.{row_in, whole_at}
use Rattle.hc_traces.proofs.StartsListed.{Listed, listed_as, listed_where, listed_with}
use Rattle.hc_traces.proofs.StartsPaths.{as_node, as_memory, IsReachedAs, all_occurrences}

-- ---- lists of pairs

abbrev HasValues : {X Y : Type 0} → (X → Type 0) → (X → Y) → X × Y → Type 0
HasValues P f e = P e.0 × (f e.0 ≡ e.1)

module _ {X Y : Type 0} (P : X → Type 0) (f : X → Y) (l : Listed (HasValues P f)) where
  -- with the value that f gives it, and so once
  pub value_held : (x : X) (y : Y) → Has l.list (x, y) → f x ≡ y
  value_held x y h = (l.sound (x, y) h).1

  pub key_once : (i j : ℕ) (x : X) (y z : Y) → slice_get l.list i ≡ Some (x, y) → slice_get l.list j ≡ Some (x, z) → i ≡ j
  key_once i j x y z a b =
      let same : z ≡ y = sym (value_held x z (has_slice l.list j (x, z) b)) ∙ value_held x y (has_slice l.list i (x, y) a) in
      one_place l.list l.once i j (x, y) a (subst (λ (u : Y). slice_get l.list j ≡ Some (x, u)) same b)

map_fixed : {X : Type 0} (f : X → X) (xs : List X) → ((x : X) → Has xs x → f x ≡ x) → map f xs ≡ xs
map_fixed f [] h = refl
map_fixed f (x ∷ xs) h = ap₂ (λ a b. a ∷ b) (h x first) (map_fixed f xs (λ y k. h y (later k)))

-- ---- registers

abbrev is_register : Node → Bool
is_register (Reg next enable clear init) = true
is_register other = false

abbrev has_register : Option NodeRow → Bool
has_register None = false
has_register (Some row) = is_register row.node

abbrev IsReg : Node → Type 0
IsReg x = (next : NodeId) × (enable : Option NodeId) × (clear : Option (NodeId × BitVector)) × (init : BitVector) × (x ≡ Reg next enable clear init)

register_parts : (x : Node) → is_register x ≡ true → IsReg x
register_parts (Reg next enable clear init) e = (next, enable, clear, init, refl)
register_parts other e = absurd (true≢false (sym e))

register_row : (o : Option NodeRow) → has_register o ≡ true → (row : NodeRow) × (o ≡ Some row) × IsReg row.node
register_row None e = absurd (true≢false (sym e))
register_row (Some row) e = (row, refl, register_parts row.node e)

module _ (t : Tree) (whole : IsWhole t) where
  is_register_at : (s : Occurrence) → IsReachedAs node t s × (has_register (row_at t s) ≡ true) → IsRegister t s
  is_register_at s (r, e) = let x : _ = register_row (row_at t s) e in (x.0, x.2.0, x.2.1, x.2.2, x.2.3, r, x.1, x.2.4)

  passes : (s : Occurrence) → IsRegister t s → IsReachedAs node t s × (has_register (row_at t s) ≡ true)
  passes s (row, next, enable, clear, init, r, at, is) = (r, ap has_register at ∙ ap is_register is)

  all_registers : Listed (IsRegister t)
  all_registers = listed_as is_register_at passes (listed_where (λ (s : Occurrence). has_register (row_at t s)) (all_occurrences node as_node t whole))

  abbrev initial_value : Occurrence → ℕ
  initial_value s = (initial_register t (s, 0)).1

  registers : Listed (HasValues (IsRegister t) initial_value)
  registers = listed_with initial_value all_registers

  -- ---- memories

  abbrev size_of : Option Memory → ℕ
  size_of None = 0
  size_of (Some m) = m.size

  abbrev size_at : Occurrence → ℕ
  size_at s = size_of (slice_get (graph_at t s.path).memories s.node)

  abbrev initial_words : Occurrence → List ℕ
  initial_words s = replicate (size_at s) 0

  memories : Listed (HasValues (IsReachedAs mem t) initial_words)
  memories = listed_with initial_words (all_occurrences mem as_memory t whole)

  many_words : (s : Occurrence) (words : List ℕ) → Has memories.list (s, words) → length words ≡ size_at s
  many_words s words h = sym (ap length (value_held (IsReachedAs mem t) initial_words memories s words h)) ∙ length-replicate (size_at s) 0

  memory_held : (s : Occurrence) (size : ℕ) → IsMemory t s size → (words : List ℕ) × Has memories.list (s, words) × (length words ≡ size)
  memory_held s size (m, path, r, at, is) = (initial_words s, memories.complete (s, initial_words s) ((path, r), refl), length-replicate (size_at s) 0 ∙ ap size_of at ∙ is)

  memory_there : (s : Occurrence) (size : ℕ) → (words : List ℕ) × Has memories.list (s, words) × (length words ≡ size) → IsMemory t s size
  memory_there s size (words, h, many) =
      let r : IsReachedAs mem t s = (memories.sound (s, words) h).0 in
      let x : HasRow (graph_at t s.path) (mem s.node) = row_in (tree_at t s.path) (whole_at t whole s.path r.0) r.1 in
      (x.0, r.0, r.1, x.1, sym (ap size_of x.1) ∙ sym (many_words s words h) ∙ many)

  -- ---- the state

  abbrev initial_state : State
  initial_state = record { registers = registers.list; memories = memories.list }

  is_state : IsStateOf t initial_state
  is_state = record {
    registers = λ s. ((λ r. (initial_value s, registers.complete (s, initial_value s) (r, refl))), (λ u. (registers.sound (s, u.0) u.1).0));
    register_once = key_once (IsRegister t) initial_value registers;
    memories = λ s size. (memory_held s size, memory_there s size);
    memory_once = key_once (IsReachedAs mem t) initial_words memories;
  }

  register_starts : (e : Occurrence × ℕ) → Has registers.list e → initial_register t e ≡ e
  register_starts e h = ap (λ (x : ℕ). (e.0, x)) (registers.sound e h).1

  words_start : (s : Occurrence) (words : List ℕ) → Has memories.list (s, words) → words ≡ replicate (length words) 0
  words_start s words h = sym (value_held (IsReachedAs mem t) initial_words memories s words h) ∙ ap (λ n. replicate n 0) (sym (many_words s words h))

  pub some_initial : (state : State) × IsInitialState t state
  some_initial = (initial_state, record { whole = is_state; registers = map_fixed (initial_register t) registers.list register_starts; words = words_start })
