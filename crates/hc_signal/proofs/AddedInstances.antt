-- A builder with one instance more, and the nodes of its outputs, is kept.
use Rattle.std.proofs.Common.{◌≡◌, ℕ, zero, suc, ◌+◌, ◌*◌, ◌<◌, ◌≤◌, ◌⊎◌, Bool, true, false, List, [], ◌∷◌, ◌++◌, map, length, get_or, ◌-◌, replicate, refl, sym, subst, ◌∙◌, ap, ap₂, inl, inr, arith, append_assoc, append-nil, length-append}
use Rattle.std.specs.Prelude.{slice_get, sum_by, Option, Some, None}
use Rattle.std.proofs.lemmas.Option.{slice_get_within, same_Some, get_or_from_slice_get}
use Rattle.std.proofs.lemmas.Bool.{cases_lt, cases_eq}
use Rattle.std.proofs.lemmas.List.{length_push, length-replicate}
use Rattle.std.proofs.lemmas.List.Sums.{sum_by-append, sum_by-cons, sum_by_push}
use Rattle.hc_signal.specs.Member.{Has, first, later}
use Rattle.hc_signal.specs.declared.signal.Port.{Port}
use Rattle.hc_signal.specs.declared.signal.Ports.{Ports}
use Rattle.hc_signal.specs.declared.signal.NodeId.{NodeId}
use Rattle.hc_signal.specs.declared.signal.InstId.{InstId}
use Rattle.hc_signal.specs.declared.signal.Instance.{Instance}
use Rattle.hc_signal.specs.declared.signal.NodeRow.{NodeRow}
use Rattle.hc_signal.specs.declared.signal.Node.{Node}
use Rattle.hc_signal.specs.declared.signal.Node.TheVariants.{Input, InstOut}
use Rattle.hc_bits.specs.BitVector.{IsWidth}
use Rattle.hc_signal.specs.Graph.{Graph}
use Rattle.hc_signal.specs.Lawful.{IsLawful, IsLawfulNode, NodeAt, ArePorts, HaveWidthsOf, IsLawfulInstance}
use Rattle.hc_signal.specs.Weight.{graph_weight, node_weight, memory_weight, instance_weight}
use Rattle.hc_signal.specs.Builds.{with_row, unlabelled, output_rows, HasRoomForInstance, is_output}
use Rattle.hc_signal.specs.Kept.{IsKept, HasOutputsFrom}
use Rattle.hc_signal.proofs.Places.{has_pushed, place_left, place_last, place_cases, place_right}
use Rattle.hc_signal.proofs.Grows.{Extends, lawful_node, lawful_memory, lawful_instance, have_widths}
use Rattle.hc_signal.proofs.Added.{RowAt, row_left, lawful_with_row, no_output_past, outputs_left}

abbrev at : ℕ → InstId
at i = record { 0 = i }

-- ---- the rows of outputs

pub length-output_rows : (i k : ℕ) (ps : List Port) → length (output_rows i k ps) ≡ length ps
length-output_rows i k [] = refl
length-output_rows i k (p ∷ ps) = ap suc (length-output_rows i (k + 1) ps)

weight-output_rows : (i k : ℕ) (ps : List Port) → sum_by node_weight (output_rows i k ps) ≡ length ps
weight-output_rows i k [] = refl
weight-output_rows i k (p ∷ ps) =
    let more : _ = weight-output_rows i (k + 1) ps in
    let one : _ = sum_by-cons node_weight (unlabelled p.width (InstOut (at i) k)) (output_rows i (k + 1) ps) in
    omega arith

output_there : (i k : ℕ) (ps : List Port) (j : ℕ) → j < length ps → RowAt (output_rows i k ps) j (InstOut (at i) (k + j))
output_there i k [] j b = absurd (omega arith)
output_there i k (p ∷ ps) zero b = (unlabelled p.width (InstOut (at i) k), refl, ap (λ n. InstOut (at i) n) (omega arith))
output_there i k (p ∷ ps) (suc j) b =
    let r : _ = output_there i (k + 1) ps j (omega arith) in
    (r.0, r.1, r.2 ∙ ap (λ n. InstOut (at i) n) (omega arith))

-- the nodes of the outputs from the k-th on are lawful, where no node stands for them yet
pub lawful_outputs : (g : Graph) (i : ℕ) (it : Instance) (k : ℕ) (ps : List Port) → IsLawful g → slice_get g.instances i ≡ Some it
    → ((j : ℕ) (p : Port) → slice_get ps j ≡ Some p → slice_get it.ports.outputs (k + j) ≡ Some p) → ((p : Port) → Has ps p → IsWidth p.width)
    → ((j n : ℕ) → k ≤ j → ¬ NodeAt g n (InstOut (at i) j)) → length g.nodes + length ps < 4294967296
    → IsLawful (record g { nodes = g.nodes ++ output_rows i k ps })
lawful_outputs g i it k [] l there ports widths is_new room =
    subst (λ rows. IsLawful (record g { nodes = rows })) (sym (append-nil g.nodes)) l
lawful_outputs g i it k (p ∷ ps) l there ports widths is_new room =
    let x : Node = InstOut (at i) k in
    let row : NodeRow = unlabelled p.width x in
    let h : Graph = with_row g row in
    let many : length (g.nodes ++ row ∷ []) ≡ length g.nodes + 1 = length_push g.nodes row in
    let here : slice_get it.ports.outputs k ≡ Some p = subst (λ n. slice_get it.ports.outputs n ≡ Some p) (omega arith) (ports zero p refl) in
    let l' : IsLawful h = lawful_with_row g p.width x l (widths p first) (it, p, there, here, refl)
    (λ j e n _. cc)
    (λ (o : InstId) j e n a. (let same : o ≡ at i = cc in let at_k : k ≡ j = cc in
    is_new j n (omega arith) (subst (λ (o' : InstId). NodeAt g n (InstOut o' j)) same a)))
    (omega arith) in
    let rest : IsLawful (record h { nodes = h.nodes ++ output_rows i (k + 1) ps })
    = lawful_outputs h i it (k + 1) ps l' there
    (λ j q e. subst (λ n. slice_get it.ports.outputs n ≡ Some q) (omega arith) (ports (suc j) q e))
    (λ q m. widths q (later m))
    (λ j n le a. elim (place_cases g.nodes row n a.0 a.1) [
      | inl old ↦ is_new j n (omega arith) (a.0, old, a.2)
      | inr new ↦ (let e : InstOut (at i) k ≡ InstOut (at i) j = ap (λ (r : NodeRow). r.node) new.1 ∙ a.2 in let same : k ≡ j = cc in absurd (omega arith))
    ])
    (omega arith) in
    subst (λ rows. IsLawful (record g { nodes = rows })) (append_assoc g.nodes (row ∷ []) (output_rows i (k + 1) ps)) rest

-- ---- one instance more

module _ (g : Graph) (ports : Ports) (conns : List NodeId) (l : IsLawful g) (are : ArePorts ports) (have : HaveWidthsOf g conns ports.inputs) (few : length g.instances + 1 < 4294967296) (room : length g.nodes + length ports.outputs < 4294967296) where
  abbrev it : Instance
  it = record { ports = ports; conns = conns; label = None }

  abbrev i : ℕ
  i = length g.instances

  abbrev alone : Graph
  alone = record g { instances = g.instances ++ it ∷ [] }

  grown : Extends g alone
  grown = record {
    nodes = λ n row e. (row, e, refl);
    memories = λ m mem e. (mem, e, refl);
    instances = λ j old e. (old, place_left g.instances _ j old e, refl);
    inputs = λ k p e. e;
  }

  lawful_alone : IsLawful alone
  lawful_alone = record {
    ports = l.ports;
    nodes = λ n row e. (let was : _ = l.nodes n row e in (was.0, lawful_node g alone grown row.width row.node was.1));
    memories = λ m k. lawful_memory g alone grown m (l.memories m k);
    instances = λ j k. elim (has_pushed g.instances it j k) [
      | inl old ↦ lawful_instance g alone grown j (l.instances j old)
      | inr new ↦ subst (IsLawfulInstance alone) new (record { ports = are; conns = have_widths g alone grown conns _ have })
    ];
    outputs = have_widths g alone grown g.outputs _ l.outputs;
    wires = l.wires;
    own_wire = l.own_wire;
    inputs = l.inputs;
    one_input = l.one_input;
    no_label = l.no_label;
    one_output = l.one_output;
    few = (l.few.0, l.few.1, (let n : _ = length_push g.instances it in omega arith));
  }

  -- no node stood for an output of the new instance
  none_yet : (j n : ℕ) → ¬ NodeAt g n (InstOut (at i) j)
  none_yet j n a =
      let was : _ = l.nodes n a.0 a.1 in
      let own : IsLawfulNode g a.0.width (InstOut (at i) j) = subst (λ x. IsLawfulNode g a.0.width x) a.2 was.1 in
      let within : i < length g.instances = slice_get_within g.instances i own.0 own.2 in
      absurd (omega arith)

  abbrev rows : List NodeRow
  rows = output_rows i 0 ports.outputs

  abbrev whole : Graph
  whole = record alone { nodes = g.nodes ++ rows }

  lawful_whole : IsLawful whole
  lawful_whole = lawful_outputs alone i it 0 ports.outputs lawful_alone (place_last g.instances it)
      (λ j p e. subst (λ n. slice_get ports.outputs n ≡ Some p) (omega arith) e) are.outputs (λ j n le. none_yet j n) room

  weight_whole : graph_weight whole ≡ graph_weight g + (1 + 2 * length conns + length ports.outputs)
  weight_whole =
      let a : _ = sum_by-append node_weight g.nodes rows in
      let b : _ = weight-output_rows i 0 ports.outputs in
      let c : _ = sum_by_push instance_weight g.instances it in
      omega arith

  -- marks of rows that are no outputs
  marks_left : (marks : List Bool) → length marks ≡ length g.nodes → ((n : ℕ) → n < length g.nodes → slice_get marks n ≡ Some (is_output g n)) → (m n : ℕ) → n < length g.nodes + m → slice_get (marks ++ replicate m false) n ≡ Some (is_output g n)
  marks_left marks many old m n b = elim (cases_lt n (length g.nodes)) [
    | inl lt ↦ place_left marks _ n (is_output g n) (old n lt)
    | inr ge ↦ (let e : length marks + (n - length g.nodes) ≡ n = omega arith in
        subst (λ k. slice_get (marks ++ replicate m false) k ≡ Some (is_output g n)) e (place_right marks (replicate m false) (n - length g.nodes) ∙ (replicate_there m (n - length g.nodes) (omega arith) ∙ ap Some (sym (no_output_past g l n ge)))))
  ]
    where
      replicate_there : (m j : ℕ) → j < m → slice_get (replicate m false) j ≡ Some false
      replicate_there zero j b = absurd (omega arith)
      replicate_there (suc m) zero b = refl
      replicate_there (suc m) (suc j) b = replicate_there m j (omega arith)

  kept_whole : (weight : ℕ) (marks : List Bool) (firsts : List ℕ) → IsKept g weight marks firsts → IsKept whole (weight + (1 + 2 * length conns + length ports.outputs)) (marks ++ replicate (length ports.outputs) false) (firsts ++ length g.nodes ∷ [])
  kept_whole weight marks firsts kept =
      let many : _ = length-append g.nodes rows in
      let of_rows : _ = length-output_rows i 0 ports.outputs in
      record {
        lawful = lawful_whole;
        total = (let e : _ = weight_whole in let t : _ = kept.total in omega arith);
        marked = (let m : _ = length-append marks (replicate (length ports.outputs) false) in let r : _ = length-replicate (length ports.outputs) false in let n : _ = kept.marked in omega arith);
        wires = λ n b. marks_left marks kept.marked kept.wires (length ports.outputs) n (omega arith);
        counted = (let a : _ = length_push firsts (length g.nodes) in let b : _ = length_push g.instances it in let c : _ = kept.counted in omega arith);
        first_nodes = λ j old e. elim (place_cases g.instances it j old e) [
          | inl p ↦ (let was : _ = kept.first_nodes j old p in (was.0, place_left firsts _ j was.0 was.1, outputs_left g.nodes _ j was.0 (length old.ports.outputs) was.2))
          | inr p ↦ (let own : slice_get (firsts ++ length g.nodes ∷ []) i ≡ Some (length g.nodes) = subst (λ n. slice_get (firsts ++ length g.nodes ∷ []) n ≡ Some (length g.nodes)) kept.counted (place_last firsts (length g.nodes)) in (
            length g.nodes,
            subst (λ n. slice_get (firsts ++ length g.nodes ∷ []) n ≡ Some (length g.nodes)) (sym p.0) own,
            subst (λ n. HasOutputsFrom whole n old (length g.nodes)) (sym p.0) (subst (λ (o : Instance). HasOutputsFrom whole i o (length g.nodes)) p.1 new_outputs),
          ))
        ];
        few_ports = (let f : _ = kept.few_ports in omega arith);
      }
    where
      new_outputs : HasOutputsFrom whole i it (length g.nodes)
      new_outputs k b = (let r : _ = output_there i 0 ports.outputs k b in
          (r.0, place_right g.nodes rows k ∙ r.1, r.2 ∙ ap (λ n. InstOut (at i) n) (omega arith)))

pub kept_instance : (g old : Graph) (ports : Ports) (conns : List NodeId) (id : InstId) (its its' : List Instance) (mine mine' : List NodeRow) (weight total base : ℕ) (marks marks' marks'' : List Bool) (firsts firsts' firsts'' : List ℕ)
    → IsKept g weight marks firsts → g ≡ old → HasRoomForInstance old ports.outputs conns → ArePorts ports → HaveWidthsOf old conns ports.inputs
    → id.0 ≡ length g.instances → base ≡ length g.nodes → total ≡ weight + (1 + 2 * length conns + length ports.outputs)
    → its' ≡ its ++ record { ports = ports; conns = conns; label = None } ∷ [] → its ≡ g.instances → mine' ≡ mine ++ output_rows id.0 0 ports.outputs → mine ≡ g.nodes
    → marks'' ≡ marks' ++ replicate (length ports.outputs) false → marks' ≡ marks → firsts'' ≡ firsts' ++ base ∷ [] → firsts' ≡ firsts
    → IsKept (record g { nodes = mine'; instances = its' }) total marks'' firsts''
kept_instance g old ports conns id its its' mine mine' weight total base marks marks' marks'' firsts firsts' firsts'' kept same room are have is_id is_base is_total a b c d e f h j =
    let it : Instance = record { ports = ports; conns = conns; label = None } in
    let is_its : its' ≡ g.instances ++ it ∷ [] = a ∙ ap (λ xs. xs ++ it ∷ []) b in
    let is_rows : mine' ≡ g.nodes ++ output_rows (length g.instances) 0 ports.outputs = c ∙ (ap (λ xs. xs ++ output_rows id.0 0 ports.outputs) d ∙ ap (λ n. g.nodes ++ output_rows n 0 ports.outputs) is_id) in
    let is_marks : marks'' ≡ marks ++ replicate (length ports.outputs) false = e ∙ ap (λ xs. xs ++ replicate (length ports.outputs) false) f in
    let is_firsts : firsts'' ≡ firsts ++ length g.nodes ∷ [] = h ∙ (ap (λ xs. xs ++ base ∷ []) j ∙ ap (λ n. firsts ++ n ∷ []) is_base) in
    let room' : HasRoomForInstance g ports.outputs conns = subst (λ h'. HasRoomForInstance h' ports.outputs conns) (sym same) room in
    let have' : HaveWidthsOf g conns ports.inputs = subst (λ h'. HaveWidthsOf h' conns ports.inputs) (sym same) have in
    subst (λ xs. IsKept (record g { nodes = mine'; instances = xs }) total marks'' firsts'') (sym is_its)
    (subst (λ xs. IsKept (record g { nodes = xs; instances = g.instances ++ it ∷ [] }) total marks'' firsts'') (sym is_rows)
    (subst (λ n. IsKept (record g { nodes = g.nodes ++ output_rows (length g.instances) 0 ports.outputs; instances = g.instances ++ it ∷ [] }) n marks'' firsts'') (sym is_total)
    (subst (λ xs. IsKept (record g { nodes = g.nodes ++ output_rows (length g.instances) 0 ports.outputs; instances = g.instances ++ it ∷ [] }) (weight + (1 + 2 * length conns + length ports.outputs)) xs firsts'') (sym is_marks)
    (subst (λ xs. IsKept (record g { nodes = g.nodes ++ output_rows (length g.instances) 0 ports.outputs; instances = g.instances ++ it ∷ [] }) (weight + (1 + 2 * length conns + length ports.outputs)) (marks ++ replicate (length ports.outputs) false) xs) (sym is_firsts)
    (kept_whole g ports conns kept.lawful are have' room'.0 room'.1 weight marks firsts kept)))))

-- ---- the node of an output

pub output_node : (g old : Graph) (weight : ℕ) (marks : List Bool) (firsts : List ℕ) (inst : InstId) (port base : ℕ) → IsKept g weight marks firsts → g ≡ old → (it : Instance) → slice_get old.instances inst.0 ≡ Some it → port < length it.ports.outputs
    → base ≡ get_or firsts inst.0 base → NodeAt old (base + port) (InstOut inst port)
output_node g old weight marks firsts inst port base kept same it there b read =
    let was : _ = kept.first_nodes inst.0 it (ap (λ (h : Graph). slice_get h.instances inst.0) same ∙ there) in
    let e : was.0 ≡ base = sym (get_or_from_slice_get firsts inst.0 was.0 base was.1) ∙ sym read in
    subst (λ (h : Graph). NodeAt h (base + port) (InstOut inst port)) same (subst (λ n. NodeAt g (n + port) (InstOut inst port)) e (was.2 port b))

-- a copy of an instance is the instance
pub same_instance : (its : List Instance) (ports ports' : Ports) (conns conns' : List NodeId) → ports ≡ ports' → conns ≡ conns'
    → its ++ record { ports = ports; conns = conns; label = None } ∷ [] ≡ its ++ record { ports = ports'; conns = conns'; label = None } ∷ []
same_instance its ports ports' conns conns' p q =
    ap₂ (λ a b. (let new : Instance = record { ports = a; conns = b; label = None } in its ++ new ∷ [])) p q
