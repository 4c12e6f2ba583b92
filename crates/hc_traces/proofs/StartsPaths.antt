-- All reached paths and occurrences of a whole tree.
use Rattle.std.proofs.Common.{◌≡◌, ℕ, ◌⊎◌, List, [], ◌∷◌, ◌++◌, refl, sym, subst, ◌∙◌, ap, inl, inr}
use Rattle.hc_signal.specs.Graph.{Graph, Vertex, node, mem, inst, Reached}
use Rattle.hc_signal.specs.Lawful.{IsLawful}
use Rattle.hc_signal.specs.Tree.{Tree, none, tree, graph, kid, IsWhole}
use Rattle.hc_signal.specs.Occurrences.{Occurrence, tree_at, graph_at, IsReachedPath}
use Rattle.hc_walk.proofs.Walks.{walk_meets, ends_differ}
use Rattle.hc_walk.proofs.Walking.{walk_exists}
use Rattle.hc_walk.proofs.InRange.{HasRow, reached_row}
use Rattle.hc_traces.proofs.Settling.{whole_at}
use Rattle.hc_traces.proofs.StartsListed.{Listed, listed_as, listed_none, listed_one, listed_both, listed_for_each}

-- ---- one graph

all_vertices : (g : Graph) → IsLawful g → Listed (Reached g)
all_vertices g l =
    let walk : _ = walk_exists g l in
    record { list = walk.0; sound = λ v h. (walk_meets g walk.0 v walk.1).0 h; complete = λ v r. (walk_meets g walk.0 v walk.1).1 r; once = ends_differ g walk.1 }

-- the numbers that a vertex has as one of this kind
abbrev pub Numbered : (ℕ → Vertex) → Type 0
Numbered kind = (v : Vertex) → Listed (λ (n : ℕ). kind n ≡ v)

pub as_node : Numbered node
as_node (node n) = listed_as (λ m e. ap node (sym e)) (λ m e. cc) (listed_one n)
as_node (mem n) = listed_none (λ m e. cc)
as_node (inst n) = listed_none (λ m e. cc)

pub as_memory : Numbered mem
as_memory (node n) = listed_none (λ m e. cc)
as_memory (mem n) = listed_as (λ m e. ap mem (sym e)) (λ m e. cc) (listed_one n)
as_memory (inst n) = listed_none (λ m e. cc)

as_instance : Numbered inst
as_instance (node n) = listed_none (λ m e. cc)
as_instance (mem n) = listed_none (λ m e. cc)
as_instance (inst n) = listed_as (λ m e. ap inst (sym e)) (λ m e. cc) (listed_one n)

all_numbers : (kind : ℕ → Vertex) → Numbered kind → (g : Graph) → IsLawful g → Listed (λ (n : ℕ). Reached g (kind n))
all_numbers kind numbers g l = listed_as (λ n u. subst (Reached g) (sym u.2) u.1) (λ n r. (kind n, r, refl))
    (listed_for_each (λ (v : Vertex) (n : ℕ). kind n ≡ v) (λ v w n a b. sym a ∙ b) (all_vertices g l) (λ v r. numbers v))

-- ---- paths

-- the last elements of lists
same_last : {X : Type 0} (xs ys : List X) (x y : X) → xs ++ x ∷ [] ≡ ys ++ y ∷ [] → (xs ≡ ys) × (x ≡ y)
same_last [] [] x y e = (refl, cc)
same_last [] (z ∷ []) x y e = cc
same_last [] (z ∷ u ∷ ys) x y e = cc
same_last (z ∷ []) [] x y e = cc
same_last (z ∷ u ∷ xs) [] x y e = cc
same_last (z ∷ xs) (u ∷ ys) x y e = let r : (xs ≡ ys) × (x ≡ y) = same_last xs ys x y cc in let same : z ≡ u = cc in (cc, r.1)

module _ (g : Graph) (kids : ℕ → Tree) where
  tree_within : (i : ℕ) (p : List ℕ) → tree_at (tree g kids) (p ++ i ∷ []) ≡ tree_at (kids i) p
  tree_within i [] = refl
  tree_within i (j ∷ p) = ap (λ s. kid s j) (tree_within i p)

  -- a path of the tree of an instance, from the top
  abbrev IsWithin : ℕ → List ℕ → Type 0
  IsWithin i q = (p : List ℕ) × IsReachedPath (kids i) p × (p ++ i ∷ [] ≡ q)

  abbrev IsBelow : List ℕ → Type 0
  IsBelow q = (i : ℕ) × Reached g (inst i) × IsWithin i q

  reached_from_top : (i : ℕ) → Reached g (inst i) → (p : List ℕ) → IsReachedPath (kids i) p → IsReachedPath (tree g kids) (p ++ i ∷ [])
  reached_from_top i r [] x = (tt, r)
  reached_from_top i r (j ∷ p) x = (reached_from_top i r p x.0, subst (λ s. Reached (graph s) (inst j)) (sym (tree_within i p)) x.1)

  reached_of : (q : List ℕ) → ([] ≡ q) ⊎ IsBelow q → IsReachedPath (tree g kids) q
  reached_of q (inl e) = subst (IsReachedPath (tree g kids)) e tt
  reached_of q (inr u) = subst (IsReachedPath (tree g kids)) u.2.2 (reached_from_top u.0 u.1 u.2.0 u.2.1)

  is_below : (j : ℕ) (q : List ℕ) → IsReachedPath (tree g kids) (j ∷ q) → IsBelow (j ∷ q)
  is_below j [] r = (j, r.1, ([], tt, refl))
  is_below j (k ∷ q) r =
      let u : IsBelow (k ∷ q) = is_below k q r.0 in
      let same : tree_at (tree g kids) (k ∷ q) ≡ tree_at (kids u.0) u.2.0 = sym (ap (tree_at (tree g kids)) u.2.2) ∙ tree_within u.0 u.2.0 in
      (u.0, u.1, (j ∷ u.2.0, (u.2.1, subst (λ s. Reached (graph s) (inst j)) same r.1), ap (λ l. j ∷ l) u.2.2))

  top_or_below : (q : List ℕ) → IsReachedPath (tree g kids) q → ([] ≡ q) ⊎ IsBelow q
  top_or_below [] r = inl refl
  top_or_below (j ∷ q) r = inr (is_below j q r)

  within_kid : (i : ℕ) → Listed (IsReachedPath (kids i)) → Listed (IsWithin i)
  within_kid i l = listed_for_each (λ (p q : List ℕ). p ++ i ∷ [] ≡ q) (λ p r q a b. (same_last p r i i (a ∙ sym b)).0) l (λ p x. listed_one (p ++ i ∷ []))

  not_top : (p : List ℕ) (i : ℕ) → p ++ i ∷ [] ≡ [] → ⊥
  not_top [] i e = cc
  not_top (j ∷ p) i e = cc

  below_top : IsLawful g → ((i : ℕ) → Reached g (inst i) → Listed (IsReachedPath (kids i))) → Listed (IsReachedPath (tree g kids))
  below_top l f = listed_as reached_of top_or_below
      (listed_both (listed_one [])
      (listed_for_each IsWithin (λ i j q a b. (same_last a.0 b.0 i j (a.2 ∙ sym b.2)).1) (all_numbers inst as_instance g l) (λ i r. within_kid i (f i r)))
      (λ q e u. not_top u.2.0 u.0 (u.2.2 ∙ sym e)))

pub all_paths : (t : Tree) → IsWhole t → Listed (IsReachedPath t)
all_paths none w = absurd w
all_paths (tree g kids) w = below_top g kids w.0 (λ i r. let x : HasRow g (inst i) = reached_row g w.0 r in all_paths (kids i) (w.1 i x.0 x.1).1)

-- ---- occurrences

lawful : (t : Tree) → IsWhole t → IsLawful (graph t)
lawful none w = absurd w
lawful (tree g kids) w = w.0

-- a reached vertex of one kind, by the path of its graph and its number there
abbrev pub IsReachedAs : (ℕ → Vertex) → Tree → Occurrence → Type 0
IsReachedAs kind t s = IsReachedPath t s.path × Reached (graph_at t s.path) (kind s.node)

module _ (kind : ℕ → Vertex) (numbers : Numbered kind) (t : Tree) (whole : IsWhole t) where
  abbrev IsIn : List ℕ → Occurrence → Type 0
  IsIn p s = (n : ℕ) × Reached (graph_at t p) (kind n) × (◌≡◌ {A = Occurrence} (record { path = p; node = n }) s)

  all_in : (p : List ℕ) → IsReachedPath t p → Listed (IsIn p)
  all_in p r = listed_for_each (λ (n : ℕ) (s : Occurrence). ◌≡◌ {A = Occurrence} (record { path = p; node = n }) s) (λ n m s a b. ap (λ (z : Occurrence). z.node) (a ∙ sym b))
      (all_numbers kind numbers (graph_at t p) (lawful (tree_at t p) (whole_at t whole p r))) (λ n x. listed_one (record { path = p; node = n }))

  pub all_occurrences : Listed (IsReachedAs kind t)
  all_occurrences = listed_as (λ s u. subst (IsReachedAs kind t) u.2.2 (u.1, u.2.1)) (λ s r. (s.path, r.0, (s.node, r.1, refl)))
      (listed_for_each IsIn (λ p q s a b. ap (λ (z : Occurrence). z.path) (a.2 ∙ sym b.2)) (all_paths t whole) all_in)
