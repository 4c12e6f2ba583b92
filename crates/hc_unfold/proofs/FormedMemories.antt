-- A graph with one memory more, or a changed one, is formed.
use Rattle.std.proofs.Common.{◌≡◌, ◌≢◌, ℕ, ◌≤◌, ◌⊎◌, [], ◌∷◌, ◌++◌, refl, sym, subst, ◌∙◌, ap, inl, inr}
use Rattle.std.specs.Prelude.{slice_get, Some, None}
use Rattle.std.proofs.lemmas.Option.{same_Some}
use Rattle.std.proofs.lemmas.Bool.{cases_eq}
use Rattle.hc_bits.specs.BitVector.{IsWidth}
use Rattle.hc_signal.specs.Member.{Has}
use Rattle.hc_signal.specs.declared.signal.Memory.{Memory}
use Rattle.hc_signal.specs.Graph.{Graph}
use Rattle.hc_signal.specs.Lawful.{IsLawfulMemory}
use Rattle.hc_signal.specs.Builds.{change_at}
use Rattle.hc_unfold.specs.Formed.{IsFormed}
use Rattle.hc_unfold.proofs.RowPlaces.{has_pushed, has_place, has_from_place, place_left, changed_there, same_elsewhere}
use Rattle.hc_unfold.proofs.Extended.{Extends, lawful_node, lawful_memory, lawful_instance, have_widths}

module _ (g : Graph) (size w : ℕ) (width : IsWidth w) (some : 1 ≤ size) (few : size ≤ 65536) where
  abbrev new : Memory
  new = record { size = size; width = w; writes = []; label = None }

  abbrev h : Graph
  h = record g { memories = g.memories ++ new ∷ [] }

  grown : Extends g h
  grown = record {
    nodes = λ n row e. (row, e, refl);
    memories = λ m old e. (old, place_left g.memories _ m old e, refl);
    instances = λ i it e. (it, e, refl);
    inputs = λ k p e. e;
  }

  pub formed_with_memory : IsFormed g → IsFormed h
  formed_with_memory l = record {
    ports = l.ports;
    nodes = λ n row e. (let was : _ = l.nodes n row e in (was.0, lawful_node g h grown row.width row.node was.1));
    memories = λ m k. elim (has_pushed g.memories new m k) [
      | inl old ↦ lawful_memory g h grown m (l.memories m old)
      | inr is ↦ subst (IsLawfulMemory h) is (record { width = width; size = (some, few); writes = λ p q. elim q [ ] })
    ];
    instances = λ i k. lawful_instance g h grown i (l.instances i k);
    outputs = have_widths g h grown g.outputs _ l.outputs;
    wires = l.wires;
    own_wire = l.own_wire;
    inputs = l.inputs;
    one_input = l.one_input;
    no_label = l.no_label;
    one_output = l.one_output;
  }

module _ (g : Graph) (n : ℕ) (f : Memory → Memory) (old : Memory) (there : slice_get g.memories n ≡ Some old) (width : (f old).width ≡ old.width) (lawful : IsLawfulMemory g (f old)) where
  abbrev changed : Graph
  changed = record g { memories = change_at f n g.memories }

  memory_kept : (m : ℕ) (mem : Memory) → slice_get g.memories m ≡ Some mem
      → ((m ≡ n) × (old ≡ mem) × (slice_get changed.memories m ≡ Some (f old))) ⊎ ((m ≢ n) × (slice_get changed.memories m ≡ Some mem))
  memory_kept m mem e = elim (cases_eq m n) [
    | inl same ↦ inl (same, same_Some old mem (sym there ∙ (ap (slice_get g.memories) (sym same) ∙ e)), ap (slice_get changed.memories) same ∙ changed_there f n g.memories old there)
    | inr other ↦ inr (other, same_elsewhere f n g.memories m other ∙ e)
  ]

  with_change : Extends g changed
  with_change = record {
    nodes = λ m row e. (row, e, refl);
    memories = λ m mem e. elim (memory_kept m mem e) [
      | inl p ↦ (f old, p.2, width ∙ ap (λ (m' : Memory). m'.width) p.1)
      | inr p ↦ (mem, p.1, refl)
    ];
    instances = λ i it e. (it, e, refl);
    inputs = λ k p e. e;
  }

  memory_cases : (mem : Memory) → Has changed.memories mem → (f old ≡ mem) ⊎ Has g.memories mem
  memory_cases mem k =
      let at : _ = has_place k in
      elim (cases_eq at.0 n) [
        | inl same ↦ inl (same_Some (f old) mem (sym (changed_there f n g.memories old there) ∙ (ap (slice_get changed.memories) (sym same) ∙ at.1)))
        | inr other ↦ inr (has_from_place g.memories at.0 mem (sym (same_elsewhere f n g.memories at.0 other) ∙ at.1))
      ]

  pub formed_memory : IsFormed g → IsFormed changed
  formed_memory l = record {
    ports = l.ports;
    nodes = λ m row e. (let was : _ = l.nodes m row e in (was.0, lawful_node g changed with_change row.width row.node was.1));
    memories = λ m k. elim (memory_cases m k) [
      | inl is ↦ subst (IsLawfulMemory changed) is (lawful_memory g changed with_change (f old) lawful)
      | inr h ↦ lawful_memory g changed with_change m (l.memories m h)
    ];
    instances = λ i k. lawful_instance g changed with_change i (l.instances i k);
    outputs = have_widths g changed with_change g.outputs _ l.outputs;
    wires = l.wires;
    own_wire = l.own_wire;
    inputs = l.inputs;
    one_input = l.one_input;
    no_label = l.no_label;
    one_output = l.one_output;
  }
