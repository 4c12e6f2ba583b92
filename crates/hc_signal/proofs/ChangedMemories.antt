-- A builder with a changed memory is kept.
use Rattle.std.proofs.Common.{◌≡◌, ◌≢◌, ℕ, ◌+◌, ◌*◌, ◌<◌, ◌≤◌, ◌⊎◌, Bool, List, [], ◌∷◌, ◌++◌, length, get_or, refl, sym, subst, ◌∙◌, ap, inl, inr, arith}
use Rattle.std.specs.Prelude.{slice_get, slice_set, Option, Some, None}
use Rattle.std.proofs.lemmas.Option.{slice_get_read, same_Some}
use Rattle.std.proofs.lemmas.Bool.{cases_eq, eqb-true, and_parts}
use Rattle.std.proofs.lemmas.List.{length_push}
use Rattle.hc_fault.specs.declared.fault.FaultKind.TheVariants as fault
use Rattle.hc_fault.specs.declared.name.Name.{Name}
use Rattle.hc_signal.specs.Member.{Has}
use Rattle.hc_signal.specs.declared.signal.Memory.{Memory}
use Rattle.hc_signal.specs.declared.signal.MemId.{MemId}
use Rattle.hc_signal.specs.declared.signal.NodeId.{NodeId}
use Rattle.hc_signal.specs.declared.signal.WritePort.{WritePort}
use Rattle.hc_signal.specs.Graph.{Graph}
use Rattle.hc_bits.specs.BitVector.{IsWidth}
use Rattle.hc_signal.specs.Lawful.{IsLawful, IsLawfulMemory, IsLawfulWrite, HasWidth}
use Rattle.hc_signal.specs.Rules.{write_rule}
use Rattle.hc_signal.specs.Weight.{graph_weight, memory_weight}
use Rattle.hc_signal.specs.Builds.{IsNode, IsMemory, memory_width, memory_width_at, width_at, change_at, written, labelled_memory}
use Rattle.hc_signal.specs.Kept.{IsKept}
use Rattle.hc_signal.proofs.Places.{has_place, has_from_place, has_pushed, changed_there, same_elsewhere, length-change_at, sum_by-change_at, set_changes}
use Rattle.hc_signal.proofs.Grows.{Extends, lawful_node, lawful_memory, lawful_instance, have_widths}
use Rattle.hc_signal.proofs.Follows.{test_holds, has_its_width, some_at}

-- the memory that was read
pub memory_read : (g : Graph) (n : ℕ) (x : Memory) → n < length g.memories → x ≡ get_or g.memories n x → slice_get g.memories n ≡ Some x
memory_read g n x b e = slice_get_read g.memories (length g.memories) n x refl b e

pub memory_there : (g old : Graph) (n : ℕ) (x : Memory) → g ≡ old → n < length old.memories → x ≡ get_or g.memories n x → slice_get g.memories n ≡ Some x
memory_there g old n x same b e = memory_read g n x (subst (λ (h : Graph). n < length h.memories) (sym same) b) e

-- the width of a memory is one
pub width_of_memory : (g old : Graph) (n : ℕ) (x : Memory) → g ≡ old → IsLawful g → n < length old.memories → x ≡ get_or g.memories n x → IsWidth x.width
width_of_memory g old n x same l b e =
    let within : n < length g.memories = subst (λ (h : Graph). n < length h.memories) (sym same) b in
    (l.memories x (has_from_place g.memories n x (memory_read g n x within e))).width

-- a memory has its width
pub has_memory_width : (g : Graph) (id : MemId) (w : ℕ) → IsMemory g id → w ≡ memory_width_at g id → (m : Memory) × (slice_get g.memories id.0 ≡ Some m) × (m.width ≡ w)
has_memory_width g id w b e = let r : _ = some_at g.memories id.0 b in (r.0, r.1, sym (ap memory_width r.1) ∙ sym e)

module _ (g : Graph) (n : ℕ) (f : Memory → Memory) (old : Memory) (there : slice_get g.memories n ≡ Some old) (width : (f old).width ≡ old.width) (lawful : IsLawfulMemory g (f old)) where
  abbrev changed : Graph
  changed = record g { memories = change_at f n g.memories }

  memory_kept : (m : ℕ) (mem : Memory) → slice_get g.memories m ≡ Some mem → ((m ≡ n) × (old ≡ mem) × (slice_get changed.memories m ≡ Some (f old))) ⊎ ((m ≢ n) × (slice_get changed.memories m ≡ Some mem))
  memory_kept m mem e = elim (cases_eq m n) [
    | inl same ↦ inl (same, same_Some old mem (sym there ∙ (ap (slice_get g.memories) (sym same) ∙ e)), ap (slice_get changed.memories) same ∙ changed_there f n g.memories old there)
    | inr other ↦ inr (other, same_elsewhere f n g.memories m other ∙ e)
  ]

  grown : Extends g changed
  grown = record {
    nodes = λ m row e. (row, e, refl);
    memories = λ m mem e. elim (memory_kept m mem e) [
      | inl p ↦ (f old, p.2, width ∙ ap (λ (m' : Memory). m'.width) p.1)
      | inr p ↦ (mem, p.1, refl)
    ];
    instances = λ i it e. (it, e, refl);
    inputs = λ k p e. e;
  }

  memory_cases : (mem : Memory) → Has changed.memories mem → (f old ≡ mem) ⊎ Has g.memories mem
  memory_cases mem k =
      let at : _ = has_place k in
      elim (cases_eq at.0 n) [
        | inl same ↦ inl (same_Some (f old) mem (sym (changed_there f n g.memories old there) ∙ (ap (slice_get changed.memories) (sym same) ∙ at.1)))
        | inr other ↦ inr (has_from_place g.memories at.0 mem (sym (same_elsewhere f n g.memories at.0 other) ∙ at.1))
      ]

  lawful_changed : IsLawful g → IsLawful changed
  lawful_changed l = record {
    ports = l.ports;
    nodes = λ m row e. (let was : _ = l.nodes m row e in (was.0, lawful_node g changed grown row.width row.node was.1));
    memories = λ m k. elim (memory_cases m k) [
      | inl is ↦ subst (IsLawfulMemory changed) is (lawful_memory g changed grown (f old) lawful)
      | inr h ↦ lawful_memory g changed grown m (l.memories m h)
    ];
    instances = λ i k. lawful_instance g changed grown i (l.instances i k);
    outputs = have_widths g changed grown g.outputs _ l.outputs;
    wires = l.wires;
    own_wire = l.own_wire;
    inputs = l.inputs;
    one_input = l.one_input;
    no_label = l.no_label;
    one_output = l.one_output;
    few = (l.few.0, (let many : _ = length-change_at f n g.memories in let few : _ = l.few.1 in omega arith), l.few.2);
  }

  kept_changed : (weight total : ℕ) (marks : List Bool) (firsts : List ℕ) → IsKept g weight marks firsts → total + memory_weight old ≡ weight + memory_weight (f old) → IsKept changed total marks firsts
  kept_changed weight total marks firsts kept more = record {
    lawful = lawful_changed kept.lawful;
    total = (let e : _ = sum_by-change_at memory_weight f n g.memories old there in let t : _ = kept.total in omega arith);
    marked = kept.marked;
    wires = kept.wires;
    counted = kept.counted;
    first_nodes = kept.first_nodes;
    few_ports = kept.few_ports;
  }

-- the list with one memory written is the list with that memory changed
pub changed_memories : (g old : Graph) (n : ℕ) (f : Memory → Memory) (x new : Memory) (mems : List Memory) → g ≡ old → slice_get g.memories n ≡ Some x → new ≡ f x → mems ≡ slice_set g.memories n new
    → (let made : Graph = record g { memories = mems } in made) ≡ record old { memories = change_at f n old.memories }
changed_memories g old n f x new mems same there is e =
    ap (λ mems'. (let made : Graph = record g { memories = mems' } in made)) (e ∙ (ap (slice_set g.memories n) is ∙ set_changes f n g.memories x there))
    ∙ ap (λ (h : Graph). (let made : Graph = record h { memories = change_at f n h.memories } in made)) same

kept_set : (g : Graph) (n : ℕ) (f : Memory → Memory) (x new : Memory) (mems : List Memory) (weight : ℕ) (marks : List Bool) (firsts : List ℕ) → IsKept (record g { memories = change_at f n g.memories }) weight marks firsts
    → slice_get g.memories n ≡ Some x → new ≡ f x → mems ≡ slice_set g.memories n new → IsKept (record g { memories = mems }) weight marks firsts
kept_set g n f x new mems weight marks firsts kept there is e =
    subst (λ mems'. IsKept (record g { memories = mems' }) weight marks firsts) (sym (e ∙ (ap (slice_set g.memories n) is ∙ set_changes f n g.memories x there))) kept

-- ---- one write port more

pub kept_write : (g old : Graph) (id : MemId) (w : WritePort) (x new : Memory) (mems : List Memory) (weight u v m : ℕ) (marks : List Bool) (firsts : List ℕ)
    → IsKept g weight marks firsts → g ≡ old → IsMemory old id → IsNode old w.enable → IsNode old w.addr → IsNode old w.value → x ≡ get_or g.memories id.0 x
    → u ≡ width_at old w.enable → v ≡ width_at old w.value → m ≡ memory_width_at old id → write_rule u v m ≡ None
    → new ≡ written w x → mems ≡ slice_set g.memories id.0 new → IsKept (record g { memories = mems }) (weight + 4) marks firsts
kept_write g old id w x new mems weight u v m marks firsts kept same b enable addr value read eu ev em holds is e =
    let l : IsLawful g = kept.lawful in
    let within : id.0 < length g.memories = subst (λ (h : Graph). IsMemory h id) (sym same) b in
    let there : slice_get g.memories id.0 ≡ Some x = memory_read g id.0 x within read in
    let was : IsLawfulMemory g x = l.memories x (has_from_place g.memories id.0 x there) in
    let tests : _ = and_parts _ _ (test_holds fault.WidthMismatch _ holds) in
    let one : u ≡ 1 = eqb-true u 1 tests.0 in
    let fits : v ≡ m = eqb-true v m tests.1 in
    let has : (n : NodeId) → IsNode old n → HasWidth g n (width_at old n)
    = (λ n k. subst (λ (h : Graph). HasWidth h n (width_at old n)) (sym same) (has_its_width old n k)) in
    let of_mem : m ≡ x.width = em ∙ (ap (λ (h : Graph). memory_width_at h id) (sym same) ∙ ap memory_width there) in
    let lawful : IsLawfulMemory g (written w x) = record {
      width = was.width;
      size = was.size;
      writes = λ p k. elim (has_pushed x.writes w p k) [
        | inl h ↦ (let before : _ = was.writes p h in record { enable = before.enable; addr = before.addr; value = before.value })
        | inr now ↦ subst (IsLawfulWrite g (written w x)) now (record {
          enable = subst (λ n. HasWidth g w.enable n) (sym eu ∙ one) (has w.enable enable);
          addr = (width_at old w.addr, has w.addr addr);
          value = subst (λ n. HasWidth g w.value n) (sym ev ∙ (fits ∙ of_mem)) (has w.value value);
        })
      ];
    } in
    let longer : _ = length_push x.writes w in
    kept_set g id.0 (written w) x new mems (weight + 4) marks firsts (kept_changed g id.0 (written w) x there refl lawful weight (weight + 4) marks firsts kept (omega arith)) there is e

-- ---- a label

pub memory_labelled : (x : Memory) (o : Option Name) (label : Name) → o ≡ Some label → (let new : Memory = record { size = x.size; width = x.width; writes = x.writes; label = o } in new) ≡ labelled_memory label x
memory_labelled x o label e = ap (λ o'. (let new : Memory = record x { label = o' } in new)) e

pub kept_memory_label : (g old : Graph) (id : MemId) (label : Name) (x new : Memory) (mems : List Memory) (weight : ℕ) (marks : List Bool) (firsts : List ℕ)
    → IsKept g weight marks firsts → g ≡ old → IsMemory old id → x ≡ get_or g.memories id.0 x → new ≡ labelled_memory label x → mems ≡ slice_set g.memories id.0 new → IsKept (record g { memories = mems }) weight marks firsts
kept_memory_label g old id label x new mems weight marks firsts kept same b read is e =
    let within : id.0 < length g.memories = subst (λ (h : Graph). IsMemory h id) (sym same) b in
    let there : slice_get g.memories id.0 ≡ Some x = memory_read g id.0 x within read in
    let was : IsLawfulMemory g x = kept.lawful.memories x (has_from_place g.memories id.0 x there) in
    let lawful : IsLawfulMemory g (labelled_memory label x) = record { width = was.width; size = was.size; writes = λ p k. (let before : _ = was.writes p k in record { enable = before.enable; addr = before.addr; value = before.value }) } in
    kept_set g id.0 (labelled_memory label) x new mems weight marks firsts (kept_changed g id.0 (labelled_memory label) x there refl lawful weight weight marks firsts kept refl) there is e
