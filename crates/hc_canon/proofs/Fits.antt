-- What a walk meets is no more than what is there.
use Rattle.std.proofs.Common.{◌≡◌, ℕ, zero, suc, ◌+◌, ◌<◌, ◌≤◌, List, map, length, refl, sym, subst, ◌∙◌, ap, arith}
use Rattle.std.specs.Prelude.{replicate}
use Rattle.std.proofs.lemmas.List.{length-map}
use Rattle.hc_signal.specs.Member.{Has, first, later}
use Rattle.hc_walk.proofs.Members.{has_from_map}
use Rattle.hc_walk.proofs.Walks.{AllDifferent, ends_differ}
use Rattle.hc_signal.specs.Graph.{Graph, Vertex}
use Rattle.hc_signal.specs.Lawful.{IsLawful}
use Rattle.hc_signal.specs.Renumber.{Renumbering}
use Rattle.hc_walk.specs.DepthFirst.{NumbersTo}
use Rattle.hc_canon.specs.Numbering.{count_from, nodes_met, memories_met, instances_met}
use Rattle.hc_canon.specs.Numbers.{input_number, numbered, by_tables}
use Rattle.hc_canon.specs.Layout.{AreNumbers}
use Rattle.hc_canon.proofs.Canonical.{count_has}
use Rattle.hc_canon.proofs.Finite.{no_more}
use Rattle.hc_canon.proofs.Counting.{Below, are_numbers, memories_differ, instances_differ, in_below}
use Rattle.hc_canon.proofs.LaidOut.{all_memories_of, all_instances_of, back, node_there}

has_count : (n a k : ℕ) → Has (count_from a n) k → (a ≤ k) × (k < a + n)
has_count zero a k h = elim h [ ]
has_count (suc n) a _ first = (omega arith, omega arith)
has_count (suc n) a k (later h) = let r : (suc a ≤ k) × (k < suc a + n) = has_count n (suc a) k h in (let b : suc a ≤ k = r.0 in omega (arith, b), let b : k < suc a + n = r.1 in omega (arith, b))

count_length : (n a : ℕ) → length (count_from a n) ≡ n
count_length zero a = refl
count_length (suc n) a = ap suc (count_length n (suc a))

below_many : (xs : List ℕ) (n : ℕ) → AllDifferent xs → Below xs n → length xs ≤ n
below_many xs n d b =
    let r : length xs ≤ length (count_from 0 n) = no_more xs (count_from 0 n) d
    (λ z h. (let c : z < n = b z h in let e : z < 0 + n = omega (arith, c) in let f : 0 ≤ z = omega arith in count_has n 0 z f e)) in
    subst (λ m. length xs ≤ m) (count_length n 0) r

map_differs : (f g : ℕ → ℕ) (n a : ℕ) → ((k : ℕ) → k < a + n → g (f k) ≡ k) → AllDifferent (map f (count_from a n))
map_differs f g zero a h = tt
map_differs f g (suc n) a h = (
  (λ m. (let r : _ = has_from_map f (count_from (suc a) n) (f a) m in
      let b : (suc a ≤ r.0) × (r.0 < suc a + n) = has_count n (suc a) r.0 r.1 in
      let low : suc a ≤ r.0 = b.0 in
      let high : r.0 < suc a + n = b.1 in
      let x : g (f r.0) ≡ r.0 = h r.0 (omega (arith, high)) in
      let y : g (f a) ≡ a = h a (omega arith) in
      let z : r.0 ≡ a = sym x ∙ ap g r.2 ∙ y in
      omega (arith, low, z))),
  map_differs f g n (suc a) (λ k b. h k (omega (arith, b))),
)

module _ (g : Graph) (l : IsLawful g) (end : List Vertex) (w : NumbersTo g end) where
  abbrev pub to : Renumbering
  to = by_tables (numbered (map input_number g.nodes) (length g.ports.inputs) (nodes_met g end)) (numbered (replicate (length g.memories) 0) 0 (memories_met end))
      (numbered (replicate (length g.instances) 0) 0 (instances_met end))

  pub are : AreNumbers g end to
  are = are_numbers g l end w _ _ _ refl refl refl

  abbrev total : ℕ
  total = length g.ports.inputs + length (nodes_met g end)

  from : ℕ → ℕ
  from k = (back g l end w to are).node k

  pub nodes_fit : length g.ports.inputs + length (nodes_met g end) ≤ length g.nodes
  unfolding from
  nodes_fit =
      let many : length (map from (count_from 0 total)) ≤ length g.nodes =
      below_many (map from (count_from 0 total)) (length g.nodes) (map_differs from to.node total 0 (λ k b. (let c : k < total = omega (arith, b) in (node_there g l end w to are k c).0)))
      (λ z h. (let r : _ = has_from_map from (count_from 0 total) z h in
      let b : (0 ≤ r.0) × (r.0 < 0 + total) = has_count total 0 r.0 r.1 in
      let low : r.0 < 0 + total = b.1 in
      let c : r.0 < total = omega (arith, low) in
      subst (λ m. m < length g.nodes) r.2 (node_there g l end w to are r.0 c).1)) in
      subst (λ m. m ≤ length g.nodes) (length-map (count_from 0 total) from ∙ count_length total 0) many

  pub memories_fit : length (memories_met end) ≤ length g.memories
  memories_fit = below_many (memories_met end) (length g.memories) (memories_differ end (ends_differ g w)) (in_below g.memories (memories_met end) (all_memories_of g l end w))

  pub instances_fit : length (instances_met end) ≤ length g.instances
  instances_fit = below_many (instances_met end) (length g.instances) (instances_differ end (ends_differ g w)) (in_below g.instances (instances_met end) (all_instances_of g l end w))
