-- The tables hold the numbers of the walk.
use Rattle.std.proofs.Common.{◌≡◌, ◌≢◌, ℕ, zero, suc, ◌+◌, ◌<◌, List, [], ◌∷◌, ◌++◌, map, length, get_or, refl, sym, subst, ◌∙◌, ap, arith, inl, inr}
use Rattle.std.proofs.lemmas.List.{length-map, length-set, get_or-set_same, get_or-set_other}
use Rattle.std.specs.Prelude.{slice_get, Option, Some, None, option_map, replicate}
use Rattle.std.proofs.Math.ListN.{set}
use Rattle.std.proofs.lemmas.Option.{slice_get_within, slice_get-map, get_or_from_slice_get}
use Rattle.hc_signal.specs.Member.{Has, first, later}
use Rattle.hc_walk.proofs.Members.{has_cases}
use Rattle.hc_signal.specs.declared.signal.NodeRow.{NodeRow}
use Rattle.hc_signal.specs.declared.signal.Node.{Node}
use Rattle.hc_signal.specs.declared.signal.Node.TheVariants.{Input, Wire, Const, Two, Not, Mux, Cat, Select, Reg, Read, InstOut, Op}
use Rattle.hc_signal.specs.Graph.{Graph, Vertex, node, mem, inst}
use Rattle.hc_signal.specs.Lawful.{IsLawful, NodeAt}
use Rattle.hc_walk.specs.DepthFirst.{NumbersTo}
use Rattle.hc_canon.specs.Numbering.{counted, nodes_met, memories_met, instances_met}
use Rattle.hc_canon.specs.Numbers.{port_of, input_number, numbered, by_tables}
use Rattle.hc_canon.specs.Layout.{AreNumbers}
use Rattle.hc_walk.proofs.Walks.{AllDifferent, ends_differ}
use Rattle.hc_canon.proofs.Canonical.{counted_only, met_from_nodes, met_from_memories, met_from_instances}
use Rattle.hc_canon.proofs.LaidOut.{AllIn, all_nodes_of, all_memories_of, all_instances_of}

counted_differ : (o : Option NodeRow) (n : ℕ) (ns : List ℕ) → AllDifferent ns → ¬ Has ns n → AllDifferent (counted o n ++ ns)
counted_differ None n ns d h = (h, d)
counted_differ (Some row) n ns d h = go row.node
  where
    go : (x : Node) → AllDifferent (counted (Some (record { width = row.width; node = x; label = row.label })) n ++ ns)
    go (Input port) = d
    go (Wire driver) = (h, d)
    go (Const value) = (h, d)
    go (Two op a b) = (h, d)
    go (Not a) = (h, d)
    go (Mux sel cases) = (h, d)
    go (Cat ps) = (h, d)
    go (Select a hi lo) = (h, d)
    go (Reg next enable clear init) = (h, d)
    go (Read m addr) = (h, d)
    go (InstOut i port) = (h, d)
    go (Op kind args) = (h, d)

pub nodes_differ : (g : Graph) (ps : List Vertex) → AllDifferent ps → AllDifferent (nodes_met g ps)
nodes_differ g [] d = tt
nodes_differ g (node n ∷ ps) d = counted_differ (slice_get g.nodes n) n (nodes_met g ps) (nodes_differ g ps d.1) (λ h. d.0 (met_from_nodes g ps n h))
nodes_differ g (mem n ∷ ps) d = nodes_differ g ps d.1
nodes_differ g (inst n ∷ ps) d = nodes_differ g ps d.1

pub memories_differ : (ps : List Vertex) → AllDifferent ps → AllDifferent (memories_met ps)
memories_differ [] d = tt
memories_differ (mem n ∷ ps) d = ((λ h. d.0 (met_from_memories ps n h)), memories_differ ps d.1)
memories_differ (node n ∷ ps) d = memories_differ ps d.1
memories_differ (inst n ∷ ps) d = memories_differ ps d.1

pub instances_differ : (ps : List Vertex) → AllDifferent ps → AllDifferent (instances_met ps)
instances_differ [] d = tt
instances_differ (inst n ∷ ps) d = ((λ h. d.0 (met_from_instances ps n h)), instances_differ ps d.1)
instances_differ (node n ∷ ps) d = instances_differ ps d.1
instances_differ (mem n ∷ ps) d = instances_differ ps d.1

-- what a table holds
numbered_other : (table : List ℕ) (a : ℕ) (ns : List ℕ) (n : ℕ) → ¬ Has ns n → get_or (numbered table a ns) n 0 ≡ get_or table n 0
numbered_other table a [] n h = refl
numbered_other table a (m ∷ ns) n h =
    let q : n ≢ m = λ e. h (subst (λ z. Has (m ∷ ns) z) (sym e) first) in
    numbered_other (set table m a) (suc a) ns n (λ k. h (later k)) ∙ get_or-set_other table m n a 0 q

abbrev pub Below : List ℕ → ℕ → Type 0
Below ns k = (n : ℕ) → Has ns n → n < k

numbered_at : (table : List ℕ) (a : ℕ) (ns : List ℕ) → AllDifferent ns → Below ns (length table) → (i n : ℕ) → slice_get ns i ≡ Some n → get_or (numbered table a ns) n 0 ≡ a + i
numbered_at table a [] d b i n e = cc
numbered_at table a (m ∷ ns) d b zero n e =
    let q : m ≡ n = has_first e in
    subst (λ z. get_or (numbered (set table m a) (suc a) ns) z 0 ≡ a + 0) q (numbered_other (set table m a) (suc a) ns m d.0 ∙ get_or-set_same table m a 0 (b m first) ∙ omega arith)
  where
    has_first : Some m ≡ Some n → m ≡ n
    has_first e = cc
numbered_at table a (m ∷ ns) d b (suc i) n e =
    numbered_at (set table m a) (suc a) ns d.1 (λ k h. subst (λ z. k < z) (sym (length-set table m a)) (b k (later h))) i n e ∙ omega arith

-- an input is not counted
input_uncounted : (g : Graph) (n k : ℕ) → NodeAt g n (Input k) → (ps : List Vertex) → ¬ Has (nodes_met g ps) n
input_uncounted g n k a [] h = elim h [ ]
input_uncounted g n k a (node m ∷ ps) h =
    elim (has_cases (counted (slice_get g.nodes m) m) (nodes_met g ps) h) [
      | inl l ↦ (let e : m ≡ n = counted_only (slice_get g.nodes m) m n l in
          none (subst (λ o. Has (counted o n) n) a.1 (subst (λ z. Has (counted (slice_get g.nodes z) z) n) e l)))
      | inr r ↦ input_uncounted g n k a ps r
    ]
  where
    none : Has (counted (Some a.0) n) n → ⊥
    none c = absurd_of (subst (λ x. Has (counted (Some (record { width = a.0.width; node = x; label = a.0.label })) n) n) a.2 c)
      where
        absurd_of : Has [] n → ⊥
        absurd_of c = elim c [ ]
input_uncounted g n k a (mem m ∷ ps) h = input_uncounted g n k a ps h
input_uncounted g n k a (inst m ∷ ps) h = input_uncounted g n k a ps h

pub in_below : {X : Type 0} (xs : List X) (ns : List ℕ) → AllIn xs ns → Below ns (length xs)
in_below xs ns a n h = let r : _ = a n h in slice_get_within xs n r.0 r.1

replicate_long : (n : ℕ) → length {A = ℕ} (replicate n 0) ≡ n
replicate_long zero = refl
replicate_long (suc n) = ap suc (replicate_long n)

module _ (g : Graph) (l : IsLawful g) (end : List Vertex) (w : NumbersTo g end) (ns ms is : List ℕ)
    (a : ns ≡ numbered (map input_number g.nodes) (length g.ports.inputs) (nodes_met g end))
    (b : ms ≡ numbered (replicate (length g.memories) 0) 0 (memories_met end))
    (c : is ≡ numbered (replicate (length g.instances) 0) 0 (instances_met end)) where
  input_numbered : (n k : ℕ) → NodeAt g n (Input k) → get_or ns n 0 ≡ k
  input_numbered n k x =
      ap (λ t. get_or t n 0) a ∙ numbered_other (map input_number g.nodes) (length g.ports.inputs) (nodes_met g end) n (input_uncounted g n k x end)
      ∙ get_or_from_slice_get (map input_number g.nodes) n k 0 (slice_get-map input_number g.nodes n ∙ ap (option_map input_number) x.1 ∙ ap (λ y. Some (port_of y)) x.2)

  pub are_numbers : AreNumbers g end (by_tables ns ms is)
  are_numbers = record {
    inputs = input_numbered;
    nodes = λ i n e. ap (λ t. get_or t n 0) a ∙ numbered_at (map input_number g.nodes) (length g.ports.inputs) (nodes_met g end) (nodes_differ g end (ends_differ g w))
        (λ k h. subst (λ z. k < z) (sym (length-map g.nodes input_number)) (in_below g.nodes (nodes_met g end) (all_nodes_of g l end w) k h)) i n e;
    memories = λ i n e. ap (λ t. get_or t n 0) b ∙ numbered_at (replicate (length g.memories) 0) 0 (memories_met end) (memories_differ end (ends_differ g w))
        (λ k h. subst (λ z. k < z) (sym (replicate_long (length g.memories))) (in_below g.memories (memories_met end) (all_memories_of g l end w) k h)) i n e ∙ omega arith;
    instances = λ i n e. ap (λ t. get_or t n 0) c ∙ numbered_at (replicate (length g.instances) 0) 0 (instances_met end) (instances_differ end (ends_differ g w))
        (λ k h. subst (λ z. k < z) (sym (replicate_long (length g.instances))) (in_below g.instances (instances_met end) (all_instances_of g l end w) k h)) i n e ∙ omega arith;
  }
