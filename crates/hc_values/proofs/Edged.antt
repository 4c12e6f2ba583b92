-- The registers and memories of a circuit after a clock edge and a reset, wherever it stands.
use Rattle.std.proofs.Common.{◌≡◌, ℕ, ◌⊎◌, inl, inr, List, [], ◌∷◌, map, refl, sym, ◌∙◌, ap, ap₂, Bool, true, false}
use Rattle.std.specs.Prelude.{◌==◌, ◌&&◌, if◌then◌else◌, slice_get, Option, Some, None}
use Rattle.std.specs.List.{enumerate_from}
use Rattle.hc_bits.specs.BitVector.{BitVector}
use Rattle.hc_signal.specs.Member.{Has}
use Rattle.hc_signal.specs.declared.signal.NodeId.{NodeId}
use Rattle.hc_signal.specs.declared.signal.MemId.{MemId}
use Rattle.hc_signal.specs.declared.signal.NodeRow.{NodeRow}
use Rattle.hc_signal.specs.declared.signal.Memory.{Memory}
use Rattle.hc_signal.specs.declared.signal.WritePort.{WritePort}
use Rattle.hc_signal.specs.declared.signal.Node.{Node}
use Rattle.hc_signal.specs.declared.signal.Node.TheVariants.{Input, Wire, Const, Two, Not, Mux, Cat, Select, Reg, Read, InstOut, Op}
use Rattle.hc_signal.specs.Graph.{Graph}
use Rattle.hc_signal.specs.Tree.{Tree}
use Rattle.hc_signal.specs.Occurrences.{Occurrence}
use Rattle.hc_walk.proofs.Members.{has_map}
use Rattle.hc_bench.specs.Simulation.{cleared, is_enabled, next_value, value_at, word_after}
use Rattle.hc_values.specs.Rows.{StandsAt, at_path, memory_widths, node_widths, number_at, number_of, numbers, widths, words_at, words_of}
use Rattle.hc_values.specs.Values.{valuation}
use Rattle.hc_values.specs.Updates.{updated}
use Rattle.hc_values.specs.Edges.{initial_of, initial_of_row, initial_register_at, initial_registers, is_register, is_register_row, memory_places, next_memories, next_of_memory, next_of_row, next_register_at, next_registers, next_words_at, places, KeepsOthers, ResetsRegisters, StepsMemories, StepsRegisters}
use Rattle.hc_values.proofs.Changes.{HasItem, updated_makes, updated_other}
use Rattle.hc_values.proofs.Shapes.{found, none_alike}
use Rattle.hc_values.proofs.Standing.{next_is, word_is}
use Rattle.hc_values.proofs.Written.{composed, each_same, words_written}

-- ---- a second edge with the same values changes nothing more

once_more : (b : Bool) (x y : ℕ) → (if b then x else (if b then x else y)) ≡ (if b then x else y)
once_more true x y = refl
once_more false x y = refl

cleared_again : (v : Occurrence → ℕ) (p : List ℕ) (clear : Option (NodeId × BitVector)) (b : Bool) (x old : ℕ)
    → cleared v p clear (if b then x else cleared v p clear (if b then x else old)) ≡ cleared v p clear (if b then x else old)
cleared_again v p None b x old = once_more b x old
cleared_again v p (Some c) b x old = go b (value_at v p c.0 == 1)
  where
    go : (b d : Bool) → (if d then c.1.value else (if b then x else (if d then c.1.value else (if b then x else old)))) ≡ (if d then c.1.value else (if b then x else old))
    go b true = refl
    go true false = refl
    go false false = refl

next_again : (v : Occurrence → ℕ) (p : List ℕ) (x : Node) (old : ℕ) → next_value v p x (next_value v p x old) ≡ next_value v p x old
next_again v p (Reg next enable clear init) old = cleared_again v p clear (is_enabled v p enable) (value_at v p next) old
next_again v p (Input port) old = refl
next_again v p (Wire driver) old = refl
next_again v p (Const c) old = refl
next_again v p (Two op a b) old = refl
next_again v p (Not a) old = refl
next_again v p (Mux sel cases) old = refl
next_again v p (Cat parts) old = refl
next_again v p (Select a hi lo) old = refl
next_again v p (Read m addr) old = refl
next_again v p (InstOut i port) old = refl
next_again v p (Op kind args) old = refl

-- write ports give a word that does not depend on the old one, or keep it
ports_settle : (v : Occurrence → ℕ) (p : List ℕ) (ws : List WritePort) (place : ℕ)
    → ((x : ℕ) → word_after v p ws place x ≡ x) ⊎ ((y : ℕ) × ((x : ℕ) → word_after v p ws place x ≡ y))
ports_settle v p [] place = inl (λ x. refl)
ports_settle v p (w ∷ ws) place = go (ports_settle v p ws place)
  where
    port : (b : Bool) → ((x : ℕ) → word_after v p ws place x ≡ x)
        → ((x : ℕ) → word_after v p ws place (if b then value_at v p w.value else x) ≡ x) ⊎ ((y : ℕ) × ((x : ℕ) → word_after v p ws place (if b then value_at v p w.value else x) ≡ y))
    port true same = inr (value_at v p w.value, λ x. same (value_at v p w.value))
    port false same = inl same

    go : ((x : ℕ) → word_after v p ws place x ≡ x) ⊎ ((y : ℕ) × ((x : ℕ) → word_after v p ws place x ≡ y))
        → ((x : ℕ) → word_after v p (w ∷ ws) place x ≡ x) ⊎ ((y : ℕ) × ((x : ℕ) → word_after v p (w ∷ ws) place x ≡ y))
    go (inl same) = port ((value_at v p w.enable == 1) && (value_at v p w.addr == place)) same
    go (inr c) = inr (c.0, λ x. c.1 (if ((value_at v p w.enable == 1) && (value_at v p w.addr == place)) then value_at v p w.value else x))

word_again : (v : Occurrence → ℕ) (p : List ℕ) (ws : List WritePort) (place old : ℕ) → word_after v p ws place (word_after v p ws place old) ≡ word_after v p ws place old
word_again v p ws place old = go (ports_settle v p ws place)
  where
    go : ((x : ℕ) → word_after v p ws place x ≡ x) ⊎ ((y : ℕ) × ((x : ℕ) → word_after v p ws place x ≡ y)) → word_after v p ws place (word_after v p ws place old) ≡ word_after v p ws place old
    go (inl same) = same (word_after v p ws place old)
    go (inr c) = c.1 (word_after v p ws place old) ∙ sym (c.1 old)

-- ---- registers

abbrev next_by : (Occurrence → ℕ) → List ℕ → ℕ → Option NodeRow → ℕ
next_by v p old None = old
next_by v p old (Some row) = next_value v p row.node old

next_by_again : (v : Occurrence → ℕ) (p : List ℕ) (o : Option NodeRow) (old : ℕ) → next_by v p (next_by v p old o) o ≡ next_by v p old o
next_by_again v p None old = refl
next_by_again v p (Some row) old = next_again v p row.node old

next_here : (t : Tree) (p : List ℕ) (v : Occurrence → ℕ) (g : Graph) (values : List BitVector) → StandsAt t p v g values → (o : Option NodeRow) (x : BitVector)
    → (next_of_row values o x).value ≡ next_by v p x.value o
next_here t p v g values at None x = refl
next_here t p v g values at (Some row) x = next_is t p v g values at row.node x.value

module _ (t : Tree) (p : List ℕ) (v : Occurrence → ℕ) (g : Graph) (values : List BitVector) (at : StandsAt t p v g values) (ids : List NodeId) (old new : List BitVector)
    (before : widths old ≡ node_widths g.nodes) (after : widths new ≡ node_widths g.nodes) (is : new ≡ next_registers g values ids old) (id : NodeId) (has : Has ids id) where
  abbrev row : Option NodeRow
  row = slice_get g.nodes id.0

  -- what stands in the place has the number of the first edge
  abbrev Stepped : BitVector → BitVector → Type 0
  Stepped x y = y.value ≡ next_by v p x.value row

  stepped_again : (x y : BitVector) → Stepped x y → Stepped x (next_register_at g values id.0 y)
  stepped_again x y h = next_here t p v g values at row y ∙ ap (λ (k : ℕ). next_by v p k row) h ∙ next_by_again v p row x.value

  stepped : (o : Option BitVector) → slice_get old id.0 ≡ o → next_by v p (number_at old id.0) row ≡ number_at new id.0
  stepped None q =
      let none : row ≡ None = none_alike (λ (b : BitVector). b.width) (λ (r : NodeRow). r.width) old g.nodes id.0 before q in
      let past : slice_get new id.0 ≡ None = none_alike (λ (r : NodeRow). r.width) (λ (b : BitVector). b.width) g.nodes new id.0 (sym after) none in
      ap₂ (λ (k : ℕ) (r : Option NodeRow). next_by v p k r) (ap number_of q) none ∙ sym (ap number_of past)
  stepped (Some x) q =
      let made : HasItem (next_register_at g values) id.0 (Stepped x) (stepped_again x) (updated (next_register_at g values) (places ids) old) =
      updated_makes (next_register_at g values) id.0 (Stepped x) (stepped_again x) (places ids) old x q (has_map (λ (i : NodeId). i.0) has) (next_here t p v g values at row x) in
      ap (λ (o : Option BitVector). next_by v p (number_of o) row) q ∙ sym made.2 ∙ sym (ap number_of (ap (λ (l : List BitVector). slice_get l id.0) is ∙ made.1))

pub registers_stepped : (g : Graph) (values : List BitVector) (ids : List NodeId) (old new : List BitVector)
    → widths old ≡ node_widths g.nodes → widths new ≡ node_widths g.nodes → new ≡ next_registers g values ids old → StepsRegisters g values ids old new
registers_stepped g values ids old new before after is t p v at id has =
    ap (λ (h : Graph). (at_path p id.0, next_by v p (number_at old id.0) (slice_get h.nodes id.0))) at.circuit
    ∙ ap (λ (k : ℕ). (at_path p id.0, k)) (stepped t p v g values at ids old new before after is id has (slice_get old id.0) refl)

-- ---- memories

abbrev words_by : (Occurrence → ℕ) → List ℕ → List ℕ → Option Memory → List ℕ
words_by v p old None = old
words_by v p old (Some m) = map (λ (q : ℕ × ℕ). word_after v p m.writes q.0 q.1) (enumerate_from 0 old)

words_by_again : (v : Occurrence → ℕ) (p : List ℕ) (o : Option Memory) (old : List ℕ) → words_by v p (words_by v p old o) o ≡ words_by v p old o
words_by_again v p None old = refl
words_by_again v p (Some m) old =
    composed (word_after v p m.writes) (word_after v p m.writes) 0 old
    ∙ each_same (λ place x. word_after v p m.writes place (word_after v p m.writes place x)) (word_after v p m.writes) (word_again v p m.writes) 0 old

words_here : (t : Tree) (p : List ℕ) (v : Occurrence → ℕ) (g : Graph) (values : List BitVector) → StandsAt t p v g values → (o : Option Memory) (words : List BitVector)
    → numbers (next_of_memory g values o words) ≡ words_by v p (numbers words) o
words_here t p v g values at None words = refl
words_here t p v g values at (Some m) words =
    sym (words_written g values m.writes words) ∙ each_same (word_after (valuation values) [] m.writes) (word_after v p m.writes) (word_is t p v g values at m.writes) 0 (numbers words)

module _ (t : Tree) (p : List ℕ) (v : Occurrence → ℕ) (g : Graph) (values : List BitVector) (at : StandsAt t p v g values) (ids : List MemId) (old new : List (List BitVector))
    (before : map widths old ≡ map memory_widths g.memories) (after : map widths new ≡ map memory_widths g.memories) (is : new ≡ next_memories g values ids old) (id : MemId) (has : Has ids id) where
  abbrev memory : Option Memory
  memory = slice_get g.memories id.0

  abbrev Written : List BitVector → List BitVector → Type 0
  Written x y = numbers y ≡ words_by v p (numbers x) memory

  written_again : (x y : List BitVector) → Written x y → Written x (next_words_at g values id.0 y)
  written_again x y h = words_here t p v g values at memory y ∙ ap (λ (l : List ℕ). words_by v p l memory) h ∙ words_by_again v p memory (numbers x)

  all_written : (o : Option (List BitVector)) → slice_get old id.0 ≡ o → words_by v p (numbers (words_at old id.0)) memory ≡ numbers (words_at new id.0)
  all_written None q =
      let none : memory ≡ None = none_alike widths memory_widths old g.memories id.0 before q in
      let past : slice_get new id.0 ≡ None = none_alike memory_widths widths g.memories new id.0 (sym after) none in
      ap₂ (λ (l : List ℕ) (r : Option Memory). words_by v p l r) (ap (λ (o : Option (List BitVector)). numbers (words_of o)) q) none
      ∙ sym (ap (λ (o : Option (List BitVector)). numbers (words_of o)) past)
  all_written (Some x) q =
      let made : HasItem (next_words_at g values) id.0 (Written x) (written_again x) (updated (next_words_at g values) (memory_places ids) old) =
      updated_makes (next_words_at g values) id.0 (Written x) (written_again x) (memory_places ids) old x q (has_map (λ (i : MemId). i.0) has) (words_here t p v g values at memory x) in
      ap (λ (o : Option (List BitVector)). words_by v p (numbers (words_of o)) memory) q ∙ sym made.2
      ∙ sym (ap (λ (o : Option (List BitVector)). numbers (words_of o)) (ap (λ (l : List (List BitVector)). slice_get l id.0) is ∙ made.1))

pub memories_stepped : (g : Graph) (values : List BitVector) (ids : List MemId) (old new : List (List BitVector))
    → map widths old ≡ map memory_widths g.memories → map widths new ≡ map memory_widths g.memories → new ≡ next_memories g values ids old → StepsMemories g values ids old new
memories_stepped g values ids old new before after is t p v at id has =
    ap (λ (h : Graph). (at_path p id.0, words_by v p (numbers (words_at old id.0)) (slice_get h.memories id.0))) at.circuit
    ∙ ap (λ (l : List ℕ). (at_path p id.0, l)) (all_written t p v g values at ids old new before after is id has (slice_get old id.0) refl)

-- ---- resets

abbrev initial_node : Node → ℕ
initial_node (Reg next enable clear init) = init.value
initial_node other = 0

abbrev initial_by : Option NodeRow → ℕ
initial_by None = 0
initial_by (Some row) = initial_node row.node

node_starts : (x : Node) (y : BitVector) → is_register x ≡ true → (initial_of x y).value ≡ initial_node x
node_starts (Reg next enable clear init) y r = refl
node_starts (Input port) y r = absurd (cc)
node_starts (Wire driver) y r = absurd (cc)
node_starts (Const c) y r = absurd (cc)
node_starts (Two op i j) y r = absurd (cc)
node_starts (Not i) y r = absurd (cc)
node_starts (Mux sel cases) y r = absurd (cc)
node_starts (Cat parts) y r = absurd (cc)
node_starts (Select i hi lo) y r = absurd (cc)
node_starts (Read m addr) y r = absurd (cc)
node_starts (InstOut i port) y r = absurd (cc)
node_starts (Op kind args) y r = absurd (cc)

row_starts : (o : Option NodeRow) (y : BitVector) → is_register_row o ≡ true → (initial_of_row o y).value ≡ initial_by o
row_starts None y r = absurd (cc)
row_starts (Some row) y r = node_starts row.node y r

has_register : (o : Option NodeRow) → is_register_row o ≡ true → (row : NodeRow) × (o ≡ Some row)
has_register None r = absurd (cc)
has_register (Some row) r = (row, refl)

pub registers_reset : (g : Graph) (ids : List NodeId) (old new : List BitVector) → widths old ≡ node_widths g.nodes → new ≡ initial_registers g ids old → ResetsRegisters g ids old new
registers_reset g ids old new before is t p at id has register =
    let row : (row : NodeRow) × (slice_get g.nodes id.0 ≡ Some row) = has_register (slice_get g.nodes id.0) register in
    let x : (x : BitVector) × (slice_get old id.0 ≡ Some x) × (x.width ≡ row.0.width) = found (λ (b : BitVector). b.width) (λ (r : NodeRow). r.width) old g.nodes id.0 row.0 before row.1 in
    let made : HasItem (initial_register_at g) id.0 (λ (y : BitVector). y.value ≡ initial_by (slice_get g.nodes id.0))
    (λ (y : BitVector) _. row_starts (slice_get g.nodes id.0) y register) (updated (initial_register_at g) (places ids) old) =
    updated_makes (initial_register_at g) id.0 (λ (y : BitVector). y.value ≡ initial_by (slice_get g.nodes id.0))
    (λ (y : BitVector) _. row_starts (slice_get g.nodes id.0) y register) (places ids) old x.0 x.1
    (has_map (λ (i : NodeId). i.0) has) (row_starts (slice_get g.nodes id.0) x.0 register) in
    ap (λ (h : Graph). (at_path p id.0, initial_by (slice_get h.nodes id.0))) at
    ∙ ap (λ (k : ℕ). (at_path p id.0, k)) (sym made.2 ∙ sym (ap number_of (ap (λ (l : List BitVector). slice_get l id.0) is ∙ made.1)))

-- ---- what is not named

pub registers_kept : (g : Graph) (values : List BitVector) (ids : List NodeId) (old new : List BitVector) → new ≡ next_registers g values ids old → KeepsOthers (places ids) old new
registers_kept g values ids old new is n d = ap (λ (l : List BitVector). slice_get l n) is ∙ updated_other (next_register_at g values) (places ids) old n d

pub resets_kept : (g : Graph) (ids : List NodeId) (old new : List BitVector) → new ≡ initial_registers g ids old → KeepsOthers (places ids) old new
resets_kept g ids old new is n d = ap (λ (l : List BitVector). slice_get l n) is ∙ updated_other (initial_register_at g) (places ids) old n d

pub memories_kept : (g : Graph) (values : List BitVector) (ids : List MemId) (old new : List (List BitVector)) → new ≡ next_memories g values ids old → KeepsOthers (memory_places ids) old new
memories_kept g values ids old new is n d = ap (λ (l : List (List BitVector)). slice_get l n) is ∙ updated_other (next_words_at g values) (memory_places ids) old n d
