-- A builder with one memory more is kept.
use Rattle.std.proofs.Common.{◌≡◌, ℕ, ◌+◌, ◌<◌, ◌≤◌, Bool, List, [], ◌∷◌, ◌++◌, length, refl, sym, subst, ◌∙◌, ap, inl, inr, arith}
use Rattle.std.specs.Prelude.{slice_get, Some, None}
use Rattle.std.proofs.lemmas.List.{length_push}
use Rattle.std.proofs.lemmas.List.Sums.{sum_by_push}
use Rattle.hc_signal.specs.declared.signal.Memory.{Memory}
use Rattle.hc_signal.specs.declared.signal.WritePort.{WritePort}
use Rattle.hc_bits.specs.BitVector.{IsWidth}
use Rattle.hc_signal.specs.Graph.{Graph}
use Rattle.hc_signal.specs.Lawful.{IsLawful, IsLawfulMemory}
use Rattle.hc_signal.specs.Weight.{graph_weight, memory_weight}
use Rattle.hc_signal.specs.Builds.{HasRoomForMemory}
use Rattle.hc_signal.specs.Kept.{IsKept}
use Rattle.hc_signal.proofs.Places.{has_pushed, place_left}
use Rattle.hc_signal.proofs.Grows.{Extends, lawful_node, lawful_memory, lawful_instance, have_widths}

module _ (g : Graph) (size w : ℕ) (width : IsWidth w) (some : 1 ≤ size) (few : size ≤ 65536) (room : HasRoomForMemory g) where
  abbrev new : Memory
  new = record { size = size; width = w; writes = []; label = None }

  abbrev h : Graph
  h = record g { memories = g.memories ++ new ∷ [] }

  grown : Extends g h
  grown = record {
    nodes = λ n row e. (row, e, refl);
    memories = λ m old e. (old, place_left g.memories _ m old e, refl);
    instances = λ i it e. (it, e, refl);
    inputs = λ k p e. e;
  }

  lawful_with_memory : IsLawful g → IsLawful h
  lawful_with_memory l = record {
    ports = l.ports;
    nodes = λ n row e. (let was : _ = l.nodes n row e in (was.0, lawful_node g h grown row.width row.node was.1));
    memories = λ m k. elim (has_pushed g.memories new m k) [
      | inl old ↦ lawful_memory g h grown m (l.memories m old)
      | inr is ↦ subst (IsLawfulMemory h) is (record { width = width; size = (some, few); writes = λ p q. elim q [ ] })
    ];
    instances = λ i k. lawful_instance g h grown i (l.instances i k);
    outputs = have_widths g h grown g.outputs _ l.outputs;
    wires = l.wires;
    own_wire = l.own_wire;
    inputs = l.inputs;
    one_input = l.one_input;
    no_label = l.no_label;
    one_output = l.one_output;
    few = (l.few.0, (let n : _ = length_push g.memories new in omega arith), l.few.2);
  }

  kept_with_memory : (weight : ℕ) (marks : List Bool) (firsts : List ℕ) → IsKept g weight marks firsts → IsKept h (weight + 1) marks firsts
  kept_with_memory weight marks firsts kept = record {
    lawful = lawful_with_memory kept.lawful;
    total = (let e : _ = sum_by_push memory_weight g.memories new in let t : _ = kept.total in omega arith);
    marked = kept.marked;
    wires = kept.wires;
    counted = kept.counted;
    first_nodes = kept.first_nodes;
    few_ports = kept.few_ports;
  }

pub kept_memory : (g old : Graph) (size w : ℕ) (none : List WritePort) (mems mems' : List Memory) (weight : ℕ) (marks : List Bool) (firsts : List ℕ) → IsKept g weight marks firsts → g ≡ old → HasRoomForMemory old → IsWidth w → 1 ≤ size → size ≤ 65536
    → none ≡ [] → mems' ≡ mems ++ record { size = size; width = w; writes = none; label = None } ∷ [] → mems ≡ g.memories → IsKept (record g { memories = mems' }) (weight + 1) marks firsts
kept_memory g old size w none mems mems' weight marks firsts kept same room width some few empty a b =
    let it : List WritePort → Memory = λ ws. record { size = size; width = w; writes = ws; label = None } in
    subst (λ xs. IsKept (record g { memories = xs }) (weight + 1) marks firsts) (sym (a ∙ (ap (λ xs. xs ++ it none ∷ []) b ∙ ap (λ ws. g.memories ++ it ws ∷ []) empty)))
    (kept_with_memory g size w width some few (subst HasRoomForMemory (sym same) room) weight marks firsts kept)
