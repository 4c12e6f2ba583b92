-- A walk keeps what it keeps, comes nearer to its end, and has one.
use Rattle.std.proofs.Common.{◌≡◌, ◌≢◌, ℕ, zero, suc, ◌+◌, ◌<◌, ◌⊎◌, Bool, true, false, true≢false, List, [], ◌∷◌, ◌++◌, length, get_or, refl, sym, subst, ◌∙◌, ap, inl, inr, arith, length-append}
use Rattle.std.specs.Prelude.{replicate, Result, Ok, Err, OnOk}
use Rattle.std.proofs.lemmas.List.{map-append}
use Rattle.std.proofs.Math.ListN.{set}
use Rattle.std.proofs.lemmas.List.{length-set, get_or-set_same, get_or-set_other}
use Rattle.std.proofs.lemmas.Option.{slice_get_within}
use Rattle.hc_signal.specs.Member.{Has, first, later}
use Rattle.hc_signal.specs.Graph.{Graph, Vertex, node, mem, inst, fanin, nodes_of, Reached, output, further}
use Rattle.hc_signal.specs.Lawful.{IsLawful}
use Rattle.hc_walk.specs.declared.vertex.VertexId.{VertexId}
use Rattle.hc_walk.specs.VertexId.{vertex_of, vertices_of}
use Rattle.hc_walk.specs.DepthFirst.{DepthFirst, over, again, NumbersTo}
use Rattle.hc_walk.specs.Walking.{Marking, no_marks, is_marked, with_mark, IsWalking, steps_of, steps_left}
use Rattle.hc_walk.proofs.Members.{has_left, has_right, has_cases}
use Rattle.hc_walk.proofs.InRange.{reached_row}
use Rattle.hc_walk.proofs.Walks.{walk_new}

equal_or : (m n : ℕ) → (m ≡ n) ⊎ (m ≢ n)
equal_or m n = grind arith

set_from : (bs : List Bool) (n m : ℕ) → get_or (set bs n true) m false ≡ true → (m ≡ n) ⊎ (get_or bs m false ≡ true)
set_from bs n m e = elim (equal_or m n) [ inl q ↦ inl q | inr q ↦ inr (sym (get_or-set_other bs n m true false q) ∙ e) ]

set_keeps : (bs : List Bool) (n m : ℕ) → n < length bs → get_or bs m false ≡ true → get_or (set bs n true) m false ≡ true
set_keeps bs n m b e = elim (equal_or m n) [ inl q ↦ ap (λ k. get_or (set bs n true) k false) q ∙ get_or-set_same bs n true false b | inr q ↦ get_or-set_other bs n m true false q ∙ e ]

replicate_false : (n k : ℕ) → get_or (replicate n false) k false ≡ false
replicate_false zero k = refl
replicate_false (suc n) zero = refl
replicate_false (suc n) (suc k) = replicate_false n k

replicate_length : (n : ℕ) → length (replicate n false) ≡ n
replicate_length zero = refl
replicate_length (suc n) = ap suc (replicate_length n)

-- at the start
none_marked : (g : Graph) (v : Vertex) → is_marked (no_marks g) v ≡ false
none_marked g (node n) = replicate_false (length g.nodes) n
none_marked g (mem n) = replicate_false (length g.memories) n
none_marked g (inst n) = replicate_false (length g.instances) n

walking_from : (g : Graph) → IsWalking g (no_marks g) [] (nodes_of g.outputs)
walking_from g = record {
  to_end = λ end w. w;
  marked_met = λ v m. absurd (true≢false (sym m ∙ none_marked g v));
  met_marked = λ v h. elim h [ ];
  reached = λ v h. output v h;
  nodes = replicate_length (length g.nodes);
  memories = replicate_length (length g.memories);
  instances = replicate_length (length g.instances);
}

pub walking_starts : (g : Graph) (marks : Marking) (met waiting : List Vertex) → marks ≡ no_marks g → met ≡ [] → waiting ≡ nodes_of g.outputs → IsWalking g marks met waiting
walking_starts g marks met waiting a b c =
    subst (λ m. IsWalking g m met waiting) (sym a) (subst (λ l. IsWalking g (no_marks g) l waiting) (sym b) (subst (IsWalking g (no_marks g) []) (sym c) (walking_from g)))

-- at the end
pub walking_ends : (g : Graph) (marks : Marking) (met waiting : List Vertex) → waiting ≡ [] → IsWalking g marks met waiting → NumbersTo g met
walking_ends g marks met waiting e k = k.to_end met (subst (λ l. DepthFirst g met l met) (sym e) over)

-- a vertex that was met
pub walking_again : (g : Graph) (marks : Marking) (met waiting : List Vertex) (v : Vertex) → IsWalking g marks met (v ∷ waiting) → is_marked marks v ≡ true → IsWalking g marks met waiting
walking_again g marks met waiting v k m = record {
  to_end = λ end w. k.to_end end (again (k.marked_met v m) w);
  marked_met = k.marked_met;
  met_marked = k.met_marked;
  reached = λ x h. k.reached x (later h);
  nodes = k.nodes;
  memories = k.memories;
  instances = k.instances;
}

abbrev Within : Marking → Vertex → Type 0
Within marks (node n) = n < length marks.nodes
Within marks (mem n) = n < length marks.memories
Within marks (inst n) = n < length marks.instances

within : (g : Graph) → IsLawful g → (marks : Marking) (met waiting : List Vertex) → IsWalking g marks met waiting → (v : Vertex) → Reached g v → Within marks v
within g l marks met waiting k (node n) r = let x : _ = reached_row g l r in subst (λ m. n < m) (sym k.nodes) (slice_get_within g.nodes n x.0 x.1)
within g l marks met waiting k (mem n) r = let x : _ = reached_row g l r in subst (λ m. n < m) (sym k.memories) (slice_get_within g.memories n x.0 x.1)
within g l marks met waiting k (inst n) r = let x : _ = reached_row g l r in subst (λ m. n < m) (sym k.instances) (slice_get_within g.instances n x.0 x.1)

marked_from : (marks : Marking) (v x : Vertex) → is_marked (with_mark marks v) x ≡ true → (x ≡ v) ⊎ (is_marked marks x ≡ true)
marked_from marks (node n) (node m) e = elim (set_from marks.nodes n m e) [ inl a ↦ inl (ap node a) | inr b ↦ inr b ]
marked_from marks (node n) (mem m) e = inr e
marked_from marks (node n) (inst m) e = inr e
marked_from marks (mem n) (mem m) e = elim (set_from marks.memories n m e) [ inl a ↦ inl (ap mem a) | inr b ↦ inr b ]
marked_from marks (mem n) (node m) e = inr e
marked_from marks (mem n) (inst m) e = inr e
marked_from marks (inst n) (inst m) e = elim (set_from marks.instances n m e) [ inl a ↦ inl (ap inst a) | inr b ↦ inr b ]
marked_from marks (inst n) (node m) e = inr e
marked_from marks (inst n) (mem m) e = inr e

marked_keeps : (marks : Marking) (v x : Vertex) → Within marks v → is_marked marks x ≡ true → is_marked (with_mark marks v) x ≡ true
marked_keeps marks (node n) (node m) b e = set_keeps marks.nodes n m b e
marked_keeps marks (node n) (mem m) b e = e
marked_keeps marks (node n) (inst m) b e = e
marked_keeps marks (mem n) (mem m) b e = set_keeps marks.memories n m b e
marked_keeps marks (mem n) (node m) b e = e
marked_keeps marks (mem n) (inst m) b e = e
marked_keeps marks (inst n) (inst m) b e = set_keeps marks.instances n m b e
marked_keeps marks (inst n) (node m) b e = e
marked_keeps marks (inst n) (mem m) b e = e

marked_now : (marks : Marking) (v : Vertex) → Within marks v → is_marked (with_mark marks v) v ≡ true
marked_now marks (node n) b = get_or-set_same marks.nodes n true false b
marked_now marks (mem n) b = get_or-set_same marks.memories n true false b
marked_now marks (inst n) b = get_or-set_same marks.instances n true false b

nodes_kept : (marks : Marking) (v : Vertex) → length (with_mark marks v).nodes ≡ length marks.nodes
nodes_kept marks (node n) = length-set marks.nodes n true
nodes_kept marks (mem n) = refl
nodes_kept marks (inst n) = refl

memories_kept : (marks : Marking) (v : Vertex) → length (with_mark marks v).memories ≡ length marks.memories
memories_kept marks (mem n) = length-set marks.memories n true
memories_kept marks (node n) = refl
memories_kept marks (inst n) = refl

instances_kept : (marks : Marking) (v : Vertex) → length (with_mark marks v).instances ≡ length marks.instances
instances_kept marks (inst n) = length-set marks.instances n true
instances_kept marks (mem n) = refl
instances_kept marks (node n) = refl

-- the steps that a mark saves
steps_set : (vertex : ℕ → Vertex) (g : Graph) (a : ℕ) (bs : List Bool) (k : ℕ) → k < length bs → get_or bs k false ≡ false → steps_of vertex g a bs ≡ suc (length (fanin g (vertex (a + k))) + steps_of vertex g a (set bs k true))
steps_set vertex g a [] k b e = absurd (omega (arith, b))
steps_set vertex g a (true ∷ bs) zero b e = cc
steps_set vertex g a (false ∷ bs) zero b e = (let z : a ≡ a + 0 = omega arith in ap (λ n. suc (length (fanin g (vertex n)) + steps_of vertex g (suc a) bs)) z)
steps_set vertex g a (true ∷ bs) (suc k) b e =
    let c : k < length bs = omega (arith, b) in
    steps_set vertex g (suc a) bs k c e ∙ (let z : suc a + k ≡ a + suc k = omega arith in ap (λ n. suc (length (fanin g (vertex n)) + steps_of vertex g (suc a) (set bs k true))) z)
steps_set vertex g a (false ∷ bs) (suc k) b e =
    let c : k < length bs = omega (arith, b) in
    let r : steps_of vertex g (suc a) bs ≡ suc (length (fanin g (vertex (suc a + k))) + steps_of vertex g (suc a) (set bs k true)) = steps_set vertex g (suc a) bs k c e in
    let z : length (fanin g (vertex (suc a + k))) ≡ length (fanin g (vertex (a + suc k))) = (let y : suc a + k ≡ a + suc k = omega arith in ap (λ n. length (fanin g (vertex n))) y) in
    omega (arith, r, z)

steps_at : (vertex : ℕ → Vertex) (g : Graph) (bs : List Bool) (n : ℕ) → n < length bs → get_or bs n false ≡ false → steps_of vertex g 0 bs ≡ suc (length (fanin g (vertex n)) + steps_of vertex g 0 (set bs n true))
steps_at vertex g bs n b e =
    steps_set vertex g 0 bs n b e ∙ (let y : 0 + n ≡ n = omega arith in ap (λ k. suc (length (fanin g (vertex k)) + steps_of vertex g 0 (set bs n true))) y)

fewer_steps : (g : Graph) (marks : Marking) (v : Vertex) (waiting : List Vertex) → Within marks v → is_marked marks v ≡ false → steps_left g (with_mark marks v) (fanin g v ++ waiting) < steps_left g marks (v ∷ waiting)
unfolding steps_left
fewer_steps g marks (node n) waiting b e = omega (arith, steps_at node g marks.nodes n b e, length-append (fanin g (node n)) waiting)
fewer_steps g marks (mem n) waiting b e = omega (arith, steps_at mem g marks.memories n b e, length-append (fanin g (mem n)) waiting)
fewer_steps g marks (inst n) waiting b e = omega (arith, steps_at inst g marks.instances n b e, length-append (fanin g (inst n)) waiting)

pub passing_nearer : (g : Graph) (marks : Marking) (v : Vertex) (waiting : List Vertex) → steps_left g marks waiting < steps_left g marks (v ∷ waiting)
unfolding steps_left
passing_nearer g marks v waiting = omega arith

-- a vertex that was not met
module _ (g : Graph) (l : IsLawful g) (marks : Marking) (met waiting : List Vertex) (v : Vertex) (k : IsWalking g marks met (v ∷ waiting)) (m : is_marked marks v ≡ false) where
  here : Within marks v
  here = within g l marks met (v ∷ waiting) k v (k.reached v first)

  is_new : ¬ Has met v
  is_new h = true≢false (sym (k.met_marked v h) ∙ m)

  now_met : (x : Vertex) → is_marked (with_mark marks v) x ≡ true → Has (met ++ v ∷ []) x
  now_met x e = elim (marked_from marks v x e) [ inl a ↦ subst (Has (met ++ v ∷ [])) (sym a) (has_right met first) | inr b ↦ has_left (v ∷ []) (k.marked_met x b) ]

  only : (x : Vertex) → Has (v ∷ []) x → is_marked (with_mark marks v) x ≡ true
  only x first = marked_now marks v here
  only x (later h) = elim h [ ]

  now_marked : (x : Vertex) → Has (met ++ v ∷ []) x → is_marked (with_mark marks v) x ≡ true
  now_marked x h = elim (has_cases met (v ∷ []) h) [ inl a ↦ marked_keeps marks v x here (k.met_marked x a) | inr b ↦ only x b ]

  still_reached : (x : Vertex) → Has (fanin g v ++ waiting) x → Reached g x
  still_reached x h = elim (has_cases (fanin g v) waiting h) [ inl a ↦ further v x (k.reached v first) a | inr b ↦ k.reached x (later b) ]

  pub walking_new : IsWalking g (with_mark marks v) (met ++ v ∷ []) (fanin g v ++ waiting)
  walking_new = record {
    to_end = λ end w. k.to_end end (walk_new g is_new w);
    marked_met = now_met;
    met_marked = now_marked;
    reached = still_reached;
    nodes = nodes_kept marks v ∙ k.nodes;
    memories = memories_kept marks v ∙ k.memories;
    instances = instances_kept marks v ∙ k.instances;
  }

  pub meeting_nearer : steps_left g (with_mark marks v) (fanin g v ++ waiting) < steps_left g marks (v ∷ waiting)
  meeting_nearer = fewer_steps g marks v waiting here m

-- the same, at the values of the code
module _ (g : Graph) (l : IsLawful g) (marks new_marks : Marking) (met new_met : List VertexId) (waiting : List Vertex) (v : VertexId)
    (k : IsWalking g marks (vertices_of met) (vertex_of v ∷ waiting)) (m : is_marked marks (vertex_of v) ≡ false)
    (a : new_marks ≡ with_mark marks (vertex_of v)) (b : new_met ≡ met ++ v ∷ []) where
  pub step_walks : (new_waiting : List Vertex) → new_waiting ≡ fanin g (vertex_of v) ++ waiting → IsWalking g new_marks (vertices_of new_met) new_waiting
  step_walks new_waiting c =
      let e : vertices_of new_met ≡ vertices_of met ++ vertex_of v ∷ [] = ap vertices_of b ∙ map-append vertex_of met (v ∷ []) in
      subst (λ z. IsWalking g z (vertices_of new_met) new_waiting) (sym a)
      (subst (λ z. IsWalking g (with_mark marks (vertex_of v)) z new_waiting) (sym e)
      (subst (IsWalking g (with_mark marks (vertex_of v)) (vertices_of met ++ vertex_of v ∷ [])) (sym c) (walking_new g l marks (vertices_of met) waiting (vertex_of v) k m)))

  pub step_nearer : (new_waiting : List Vertex) → new_waiting ≡ fanin g (vertex_of v) ++ waiting → steps_left g new_marks new_waiting < steps_left g marks (vertex_of v ∷ waiting)
  step_nearer new_waiting c =
      subst (λ z. steps_left g z new_waiting < steps_left g marks (vertex_of v ∷ waiting)) (sym a)
      (subst (λ z. steps_left g (with_mark marks (vertex_of v)) z < steps_left g marks (vertex_of v ∷ waiting)) (sym c) (meeting_nearer g l marks (vertices_of met) waiting (vertex_of v) k m))

pub on_ok : {A E : Type 0} (P Q : Type 0) → (P → Q) → (r : Result A E) → OnOk r P → OnOk r Q
on_ok P Q f (Ok a) h = f h
on_ok P Q f (Err e) h = h

-- each walk has an end
walk_on : (g : Graph) → IsLawful g → (fuel : ℕ) (marks : Marking) (met waiting : List Vertex) → IsWalking g marks met waiting → steps_left g marks waiting < fuel → (end : List Vertex) × NumbersTo g end
walk_on g l zero marks met waiting k b = absurd (omega (arith, b))
walk_on g l (suc fuel) marks met [] k b = (met, walking_ends g marks met [] refl k)
walk_on g l (suc fuel) marks met (v ∷ waiting) k b =
    either (is_marked marks v) refl
    (λ m. walk_on g l fuel marks met waiting (walking_again g marks met waiting v k m) (let n : _ = passing_nearer g marks v waiting in omega (arith, b, n)))
    (λ m. walk_on g l fuel (with_mark marks v) (met ++ v ∷ []) (fanin g v ++ waiting) (walking_new g l marks met waiting v k m) (let n : _ = meeting_nearer g l marks met waiting v k m in omega (arith, b, n)))
  where
    either : (b : Bool) → is_marked marks v ≡ b → (is_marked marks v ≡ true → (end : List Vertex) × NumbersTo g end) → (is_marked marks v ≡ false → (end : List Vertex) × NumbersTo g end) → (end : List Vertex) × NumbersTo g end
    either true e f h = f e
    either false e f h = h e

pub walk_exists : (g : Graph) → IsLawful g → (end : List Vertex) × NumbersTo g end
walk_exists g l = walk_on g l (suc (steps_left g (no_marks g) (nodes_of g.outputs))) (no_marks g) [] (nodes_of g.outputs) (walking_from g) (omega arith)
