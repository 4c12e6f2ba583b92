-- From orders to the loops, masks and schedules of a circuit.
use Rattle.std.proofs.Common.{◌≡◌, ℕ, zero, suc, ◌+◌, ◌<◌, ◌↔◌, ◌⊎◌, inl, inr, List, [], ◌∷◌, ◌++◌, map, length, reverse, refl, sym, subst, ◌∙◌, ap, arith}
use Rattle.std.specs.Prelude.{slice_get, slice_index_or, Option, Some, None}
use Rattle.std.proofs.lemmas.Option.{slice_get_within}
use Rattle.std.proofs.lemmas.List.{reverse-append, reverse-reverse}
use Rattle.hc_signal.specs.Member.{Has, first, later}
use Rattle.hc_signal.specs.declared.signal.NodeId.{NodeId}
use Rattle.hc_signal.specs.declared.signal.Node.{Node}
use Rattle.hc_signal.specs.Graph.{Graph, Vertex, node, Reached, output}
use Rattle.hc_signal.specs.Lawful.{IsLawful, NodeAt}
use Rattle.hc_signal.specs.Occurrences.{comb_fanin}
use Rattle.hc_walk.specs.declared.vertex.VertexId.{VertexId}
use Rattle.hc_walk.specs.declared.vertex.VertexId.TheVariants.{Node as AtNode, Memory as AtMemory, Instance as AtInstance}
use Rattle.hc_walk.specs.VertexId.{vertex_of, vertices_of}
use Rattle.hc_walk.proofs.Members.{has_map, has_left, has_right, has_cases}
use Rattle.hc_walk.proofs.InRange.{HasRow, reached_row}
use Rattle.hc_walk.proofs.Walks.{one_place, AllDifferent as AllDiffer}
use Rattle.hc_paths.specs.Local.{inside, HasLocalLoop, AreLocalMasks}
use Rattle.hc_paths.specs.Digraph.{HasCycle, AreWithin, AllDifferent, IsSorted, IsOrder}
use Rattle.hc_paths.specs.Fanin.{local_fanin, filled}
use Rattle.hc_paths.specs.Order.{nodes_among, IsLocalOrder}
use Rattle.hc_paths.specs.Schedule.{IsSchedule}
use Rattle.hc_paths.proofs.LocalSteps.{step_fanin, within_rows, local_loop, order_all, no_local_loop}
use Rattle.hc_paths.proofs.LocalMasks.{local_masks}

-- the nodes among vertices
among_has : (vertices : List VertexId) (n : NodeId) → Has (vertices_of vertices) (node n.0) → Has (nodes_among vertices) n
among_has [] n h = elim h [ ]
among_has (AtNode id ∷ vertices) n first = first
among_has (AtNode id ∷ vertices) n (later h) = later (among_has vertices n h)
among_has (AtMemory id ∷ vertices) n (later h) = among_has vertices n h
among_has (AtInstance id ∷ vertices) n (later h) = among_has vertices n h

has_among : (vertices : List VertexId) (n : NodeId) → Has (nodes_among vertices) n → Has (vertices_of vertices) (node n.0)
has_among [] n h = elim h [ ]
has_among (AtNode id ∷ vertices) _ first = first
has_among (AtNode id ∷ vertices) n (later h) = later (has_among vertices n h)
has_among (AtMemory id ∷ vertices) n h = later (has_among vertices n h)
has_among (AtInstance id ∷ vertices) n h = later (has_among vertices n h)

pub among_reached : (g : Graph) (vertices given : List VertexId) (ids : List NodeId) → given ≡ vertices → ids ≡ nodes_among given → ((v : Vertex) → Has (vertices_of vertices) v ↔ Reached g v) → (n : NodeId) → Has ids n ↔ Reached g (node n.0)
among_reached g vertices given ids e f r n =
    let k : ids ≡ nodes_among vertices = f ∙ ap nodes_among e in (
      λ h. (r (node n.0)).0 (has_among vertices n (subst (λ l. Has l n) k h)),
      λ h. subst (λ l. Has l n) (sym k) (among_has vertices n ((r (node n.0)).1 h)),
    )

-- lists back to front
reverse_cons : {X : Type 0} (x : X) (xs : List X) → reverse (x ∷ xs) ≡ reverse xs ++ x ∷ []
reverse_cons x xs = reverse-append (x ∷ []) xs

has_reverse : {X : Type 0} (xs : List X) (x : X) → Has xs x → Has (reverse xs) x
has_reverse [] x h = elim h [ ]
has_reverse (y ∷ ys) _ first = subst (λ l. Has l y) (sym (reverse_cons y ys)) (has_right (reverse ys) first)
has_reverse (y ∷ ys) x (later h) = subst (λ l. Has l x) (sym (reverse_cons y ys)) (has_left (y ∷ []) (has_reverse ys x h))

has_unreverse : {X : Type 0} (xs : List X) (x : X) → Has (reverse xs) x → Has xs x
has_unreverse xs x h = subst (λ l. Has l x) (reverse-reverse xs) (has_reverse (reverse xs) x h)

one_only : {X : Type 0} (x y : X) → Has (x ∷ []) y → x ≡ y
one_only x _ first = refl
one_only x y (later h) = elim h [ ]

different_snoc : {X : Type 0} (xs : List X) (x : X) → AllDifferent xs → ¬ Has xs x → AllDifferent (xs ++ x ∷ [])
different_snoc [] x d n = (λ h. elim h [ ], tt)
different_snoc (y ∷ ys) x d n = (
  λ h. elim (has_cases ys (x ∷ []) h) [ inl a ↦ d.0 a | inr b ↦ n (subst (λ z. Has (y ∷ ys) z) (sym (one_only x y b)) first) ],
  different_snoc ys x d.1 (λ h. n (later h)),
)

different_reverse : {X : Type 0} (xs : List X) → AllDifferent xs → AllDifferent (reverse xs)
different_reverse [] d = tt
different_reverse (x ∷ xs) d = subst (λ l. AllDifferent l) (sym (reverse_cons x xs)) (different_snoc (reverse xs) x (different_reverse xs d.1) (λ h. d.0 (has_unreverse xs x h)))

-- an order of a circuit
module _ (g : Graph) (masks : List (List ℕ)) (l : IsLawful g) (roots given : List NodeId) (e : given ≡ roots) (all : (n : NodeId) → Has roots n ↔ Reached g (node n.0)) where
  all_given : (n : NodeId) → Has given n ↔ Reached g (node n.0)
  all_given n = subst (λ k. Has k n ↔ Reached g (node n.0)) (sym e) (all n)

  pub roots_right : AreWithin (length g.nodes) (local_fanin g masks) given
  roots_right = within_rows g masks given all_given l

  pub order_local : (order : List NodeId) → IsOrder (local_fanin g masks) given order → IsLocalOrder g masks order
  order_local order o = record { all = order_all g masks given all_given order o; different = o.different; sorted = o.sorted }

  pub order_free : (order : List NodeId) → IsOrder (local_fanin g masks) given order → ¬ HasLocalLoop g masks
  order_free order o = no_local_loop g masks given order all_given o

  pub cycle_local : HasCycle (local_fanin g masks) given → HasLocalLoop g masks
  cycle_local c = local_loop g masks given all_given c

-- the masks along an order
pub masks_right : (g : Graph) (masks : List (List ℕ)) (order : List NodeId) (list given : List ℕ) (ids : List NodeId) (result : List ℕ) → IsLawful g → IsLocalOrder g masks order → list ≡ filled g masks order → given ≡ list → ids ≡ g.outputs → result ≡ map (λ (id : NodeId). slice_index_or given id.0 0) ids → AreLocalMasks g masks result
masks_right g masks order list given ids result l o k v e r =
    local_masks g masks l order o.sorted
    (λ n h. let x : HasRow g (node n.0) = reached_row g l ((o.all n).0 h) in slice_get_within g.nodes n.0 x.0 x.1)
    o.different
    (λ id h. (o.all id).1 (output (node id.0) (has_map (λ (i : NodeId). node i.0) h)))
    result
    (r ∙ ap (λ z. map (λ (id : NodeId). slice_index_or z id.0 0) ids) (v ∙ k) ∙ ap (λ i. map (λ (id : NodeId). slice_index_or (filled g masks order) id.0 0) i) e)

-- an order from its first node on
sorted_rest : (t : ℕ → List NodeId) (xs ys : List NodeId) (n m : NodeId) → IsSorted t (xs ++ n ∷ ys) → Has (t n.0) m → Has ys m
sorted_rest t [] ys n m s a = s.0 m a
sorted_rest t (x ∷ xs) ys n m s a = sorted_rest t xs ys n m s.1 a

reverse_split : (before rest : List NodeId) (n : NodeId) → reverse (before ++ n ∷ rest) ≡ reverse rest ++ n ∷ reverse before
reverse_split before rest n =
    reverse-append before (n ∷ rest) ∙ ap (λ l. l ++ reverse before) (reverse_cons n rest) ∙ onto (reverse rest) (reverse before)
  where
    onto : (xs ys : List NodeId) → (xs ++ n ∷ []) ++ ys ≡ xs ++ n ∷ ys
    onto [] ys = refl
    onto (x ∷ xs) ys = ap (λ l. x ∷ l) (onto xs ys)

-- what stands before a place
abbrev Split : List NodeId → ℕ → NodeId → Type 0
Split ids i n = (before : List NodeId) × (rest : List NodeId) × (ids ≡ before ++ n ∷ rest) × (length before ≡ i)

split_at : (ids : List NodeId) (i : ℕ) (n : NodeId) → slice_get ids i ≡ Some n → Split ids i n
split_at [] i n e = cc
split_at (x ∷ ids) zero n e = ([], ids, ap (λ z. z ∷ ids) (cc), refl)
split_at (x ∷ ids) (suc i) n e = let s : Split ids i n = split_at ids i n e in (x ∷ s.0, s.1, ap (λ l. x ∷ l) s.2, ap suc s.3)

place_of : (before rest : List NodeId) (m : NodeId) → Has before m → (j : ℕ) × (j < length before) × (slice_get (before ++ rest) j ≡ Some m)
place_of [] rest m h = elim h [ ]
place_of (m ∷ before) rest _ first = (0, omega arith, refl)
place_of (x ∷ before) rest m (later h) = let p : (j : ℕ) × (j < length before) × (slice_get (before ++ rest) j ≡ Some m) = place_of before rest m h in (suc p.0, omega (arith, p.1), p.2)

pub schedule_right : (g : Graph) (masks : List (List ℕ)) (ids order : List NodeId) → reverse ids ≡ order → IsLocalOrder g masks order → IsSchedule g ids
schedule_right g masks ids order e o = record {
  all = λ n. (λ h. (o.all n).0 (subst (λ l. Has l n) e (has_reverse ids n h)), λ r. has_unreverse ids n (subst (λ l. Has l n) (sym e) ((o.all n).1 r)));
  once = one_place ids (walk_different ids (subst (λ l. AllDifferent l) (ap reverse (sym e) ∙ reverse-reverse ids) (different_reverse order o.different)));
  after = λ i n m x f y h.
      let s : Split ids i n = split_at ids i n f in
      let b : Has s.0 m = has_unreverse s.0 m (sorted_rest (local_fanin g masks) (reverse s.1) (reverse s.0) n m
      (subst (λ l. IsSorted (local_fanin g masks) l) (sym e ∙ ap reverse s.2 ∙ reverse_split s.0 s.1 n) o.sorted)
      (step_fanin g masks n.0 m.0 (inside x y h))) in
      let p : (j : ℕ) × (j < length s.0) × (slice_get (s.0 ++ n ∷ s.1) j ≡ Some m) = place_of s.0 (n ∷ s.1) m b in
      (p.0, subst (λ z. p.0 < z) s.3 p.1, subst (λ l. slice_get l p.0 ≡ Some m) (sym s.2) p.2);
}
  where
    walk_different : (xs : List NodeId) → AllDifferent xs → AllDiffer xs
    walk_different [] d = tt
    walk_different (x ∷ xs) d = (d.0, walk_different xs d.1)
