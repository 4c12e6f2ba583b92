-- Lists laid out over a tree, a block for each occurrence, and where each block stands.
use Rattle.std.proofs.Common.{◌≡◌, ℕ, zero, suc, ◌+◌, ◌<◌, ◌⊎◌, inl, inr, List, [], ◌∷◌, ◌++◌, length, refl, sym, ◌∙◌, ap, ap₂, subst, arith, length-append}
use Rattle.std.proofs.lemmas.Option.{slice_get_within}
use Rattle.std.specs.Prelude.{slice_get, Some}
use Rattle.hc_signal.specs.Graph.{Graph}
use Rattle.hc_signal.specs.Tree.{Tree, none, tree, empty, graph, kid}
use Rattle.hc_signal.specs.Occurrences.{tree_at, graph_at}
use Rattle.hc_canon.proofs.LaidOut.{slice_left, slice_right, slice_cases}
use Rattle.hc_flatten.specs.declared.place.Place.{Place}
use Rattle.hc_flatten.specs.Sizes.{sum_to, total}
use Rattle.hc_flatten.specs.Flattened.{joined, kid_place, top, own_nodes, own_memories, flat_nodes, flat_memories}
use Rattle.hc_flatten.proofs.Laying.{joined_same}

-- where the occurrence of a path is laid
abbrev pub place_at : Tree → List ℕ → Place
place_at t [] = top
place_at t (i ∷ path) = kid_place (place_at t path) (graph_at t path) (λ j. kid (tree_at t path) j) i

-- each step of the path is an instance
abbrev pub IsThere : Tree → List ℕ → Type 0
IsThere t [] = Unit {0}
IsThere t (i ∷ path) = IsThere t path × (i < length (graph_at t path).instances)

abbrev pub Block : Type 0 → Type 0
Block X = List ℕ → Place → Graph → (ℕ → Tree) → List X

abbrev pub laid : {X : Type 0} → Block X → List ℕ → Place → Tree → List X
laid own path p none = []
laid own path p (tree g kids) = own path p g kids ++ joined (λ i. laid own (i ∷ path) (kid_place p g kids i) (kids i)) (length g.instances)

pub joined_length : {X : Type 0} (f : ℕ → List X) (n : ℕ) → length (joined f n) ≡ sum_to (λ i. length (f i)) n
joined_length f zero = refl
joined_length f (suc n) = length-append (joined f n) (f n) ∙ ap (λ k. k + length (f n)) (joined_length f n)

pub sum_same : (f g : ℕ → ℕ) (n : ℕ) → ((i : ℕ) → f i ≡ g i) → sum_to f n ≡ sum_to g n
sum_same f g zero e = refl
sum_same f g (suc n) e = ap₂ (λ a b. a + b) (sum_same f g n e) (e n)

pub joined_at : {X : Type 0} (f : ℕ → List X) (n i k : ℕ) (x : X) → i < n → slice_get (f i) k ≡ Some x → slice_get (joined f n) (sum_to (λ j. length (f j)) i + k) ≡ Some x
joined_at f zero i k x b e = absurd (omega (arith, b))
joined_at f (suc n) i k x b e = elim (last_or_before i n b) [
  | inl l ↦ slice_left (joined f n) (f n) _ x (joined_at f n i k x l e)
  | inr r ↦ ap (λ m. slice_get (joined f n ++ f n) (m + k)) (ap (sum_to (λ j. length (f j))) r ∙ sym (joined_length f n)) ∙ slice_right (joined f n) (f n) k ∙ ap (λ j. slice_get (f j) k) (sym r) ∙ e
]
  where
    last_or_before : (i n : ℕ) → i < suc n → (i < n) ⊎ (i ≡ n)
    last_or_before i n b = grind (arith, b)

pub joined_from : {X : Type 0} (f : ℕ → List X) (n k : ℕ) (x : X) → slice_get (joined f n) k ≡ Some x
    → (i : ℕ) × (j : ℕ) × (i < n) × (k ≡ sum_to (λ j. length (f j)) i + j) × (slice_get (f i) j ≡ Some x)
joined_from f zero k x e = cc
joined_from f (suc n) k x e = elim (slice_cases (joined f n) (f n) k x e) [
  | inl l ↦ (let r : _ = joined_from f n k x l in (r.0, r.1, (let b : r.0 < n = r.2 in omega (arith, b)), r.3, r.4))
  | inr r ↦ (n, r.0, omega arith, r.1 ∙ ap (λ m. m + r.0) (joined_length f n), r.2)
]

module _ {X : Type 0} (own : Block X) (count : Graph → ℕ) (long : (path : List ℕ) (p : Place) (g : Graph) (kids : ℕ → Tree) → length (own path p g kids) ≡ count g) (base : Place → ℕ)
    (bases : (p : Place) (g : Graph) (kids : ℕ → Tree) (i : ℕ) → base (kid_place p g kids i) ≡ base p + count g + sum_to (λ j. total count (kids j)) i) (zeros : base top ≡ 0)
    (nothing : count empty ≡ 0) where
  pub laid_length : (t : Tree) (path : List ℕ) (p : Place) → length (laid own path p t) ≡ total count t
  laid_length none path p = refl
  laid_length (tree g kids) path p =
      length-append (own path p g kids) _
      ∙ ap₂ (λ a b. a + b) (long path p g kids) (joined_length (λ i. laid own (i ∷ path) (kid_place p g kids i) (kids i)) (length g.instances) ∙ sum_same _ _ (length g.instances)
      (λ i. laid_length (kids i) (i ∷ path) (kid_place p g kids i)))

  -- what the block of a kid has
  kid_block : (t : Tree) (path : List ℕ) (p : Place) (i k : ℕ) (x : X) → i < length (graph t).instances → slice_get (laid own (i ∷ path) (kid_place p (graph t) (λ j. kid t j) i) (kid t i)) k ≡ Some x
      → slice_get (laid own path p t) (count (graph t) + sum_to (λ j. total count (kid t j)) i + k) ≡ Some x
  kid_block none path p i k x b e = absurd (omega (arith, b))
  kid_block (tree g kids) path p i k x b e =
      let s : sum_to (λ j. length (laid own (j ∷ path) (kid_place p g kids j) (kids j))) i ≡ sum_to (λ j. total count (kids j)) i = sum_same _ _ i
      (λ j. laid_length (kids j) (j ∷ path) (kid_place p g kids j)) in
      let l : length (own path p g kids) ≡ count g = long path p g kids in
      let q : count g + sum_to (λ j. total count (kids j)) i + k ≡ length (own path p g kids) + (sum_to (λ j. length (laid own (j ∷ path) (kid_place p g kids j) (kids j))) i + k) =
      omega (arith, s, l) in
      ap (slice_get (laid own path p (tree g kids))) q ∙ slice_right (own path p g kids) _ _ ∙ joined_at (λ j. laid own (j ∷ path) (kid_place p g kids j) (kids j)) (length g.instances) i k x b e

  pub inner_at : (t : Tree) (path : List ℕ) (k : ℕ) (x : X) → IsThere t path → slice_get (laid own path (place_at t path) (tree_at t path)) k ≡ Some x
      → slice_get (laid own [] top t) (base (place_at t path) + k) ≡ Some x
  inner_at t [] k x there e = (let z : base top ≡ 0 = zeros in let q : base top + k ≡ k = omega (arith, z) in ap (slice_get (laid own [] top t)) q) ∙ e
  inner_at t (i ∷ path) k x there e =
      let b : base (place_at t (i ∷ path)) ≡ base (place_at t path) + count (graph_at t path) + sum_to (λ j. total count (kid (tree_at t path) j)) i = bases (place_at t path)
      (graph_at t path) (λ j. kid (tree_at t path) j) i in
      let q : base (place_at t (i ∷ path)) + k ≡ base (place_at t path) + (count (graph_at t path) + sum_to (λ j. total count (kid (tree_at t path) j)) i + k) = omega (arith, b) in
      ap (slice_get (laid own [] top t)) q ∙ inner_at t path (count (graph_at t path) + sum_to (λ j. total count (kid (tree_at t path) j)) i + k) x there.0
      (kid_block (tree_at t path) path (place_at t path) i k x there.1 e)

  own_block : (t : Tree) (path : List ℕ) (p : Place) (k : ℕ) (x : X) → slice_get (own path p (graph t) (λ j. kid t j)) k ≡ Some x → slice_get (laid own path p t) k ≡ Some x
  own_block none path p k x e =
      let b : k < length (own path p (graph none) (λ j. kid none j)) = slice_get_within _ k x e in
      let l : length (own path p (graph none) (λ j. kid none j)) ≡ count empty = long path p empty (λ j. kid none j) in
      let z : count empty ≡ 0 = nothing in
      absurd (omega (arith, b, l, z))
  own_block (tree g kids) path p k x e = slice_left (own path p g kids) _ k x e

  -- the block of an occurrence
  abbrev pub own_at : Tree → List ℕ → List X
  own_at t path = own path (place_at t path) (graph_at t path) (λ j. kid (tree_at t path) j)

  pub block_at : (t : Tree) (path : List ℕ) (k : ℕ) (x : X) → IsThere t path → slice_get (own_at t path) k ≡ Some x → slice_get (laid own [] top t) (base (place_at t path) + k) ≡ Some x
  block_at t path k x there e = inner_at t path k x there (own_block (tree_at t path) path (place_at t path) k x e)

  -- each element stands in a block
  pub record IsFrom (t : Tree) (k : ℕ) (x : X) : Type 0 where
    pub path : List ℕ
    pub place : ℕ
    pub there : IsThere t path
    pub found : slice_get (own_at t path) place ≡ Some x
    pub number : k ≡ base (place_at t path) + place

  from : (t : Tree) (s : Tree) (path : List ℕ) → tree_at t path ≡ s → IsThere t path → (k : ℕ) (x : X) → slice_get (laid own path (place_at t path) s) k ≡ Some x
      → IsFrom t (base (place_at t path) + k) x
  from t none path q there k x e = cc
  from t (tree g kids) path q there k x e =
      elim (slice_cases (own path (place_at t path) g kids) (joined (λ i. laid own (i ∷ path) (kid_place (place_at t path) g kids i) (kids i)) (length g.instances)) k x e) [
        | inl l ↦ record {
          path = path;
          place = k;
          there = there;
          found = subst (λ z. slice_get (own path (place_at t path) (graph z) (λ j. kid z j)) k ≡ Some x) (sym q) l;
          number = refl;
        }
        | inr r ↦ (let f : _ = joined_from (λ i. laid own (i ∷ path) (kid_place (place_at t path) g kids i) (kids i)) (length g.instances) r.0 x r.2 in
            let in_range : f.0 < length (graph_at t path).instances = subst (λ z. f.0 < length (graph z).instances) (sym q) f.2 in
            let at : slice_get (laid own (f.0 ∷ path) (place_at t (f.0 ∷ path)) (kids f.0)) f.1 ≡ Some x = subst
            (λ z. slice_get (laid own (f.0 ∷ path) (kid_place (place_at t path) (graph z) (λ j. kid z j) f.0) (kids f.0)) f.1 ≡ Some x) (sym q) f.4 in
            let w : IsFrom t (base (place_at t (f.0 ∷ path)) + f.1) x = from t (kids f.0) (f.0 ∷ path) (ap (λ z. kid z f.0) q) (there, in_range) f.1 x at in
            let b : base (place_at t (f.0 ∷ path)) ≡ base (place_at t path) + count g + sum_to (λ j. total count (kids j)) f.0 = bases (place_at t path) (graph_at t path)
            (λ j. kid (tree_at t path) j) f.0 ∙ ap (λ z. base (place_at t path) + count (graph z) + sum_to (λ j. total count (kid z j)) f.0) q in
            let s : sum_to (λ j. length (laid own (j ∷ path) (kid_place (place_at t path) g kids j) (kids j))) f.0 ≡ sum_to (λ j. total count (kids j)) f.0 = sum_same _ _ f.0
            (λ j. laid_length (kids j) (j ∷ path) (kid_place (place_at t path) g kids j)) in
            let l : length (own path (place_at t path) g kids) ≡ count g = long path (place_at t path) g kids in
            let m : k ≡ length (own path (place_at t path) g kids) + r.0 = r.1 in
            let n : r.0 ≡ sum_to (λ j. length (laid own (j ∷ path) (kid_place (place_at t path) g kids j) (kids j))) f.0 + f.1 = f.3 in
            let v : base (place_at t (f.0 ∷ path)) + f.1 ≡ base (place_at t path) + k = omega (arith, b, s, l, m, n) in
            subst (λ y. IsFrom t y x) v w)
      ]

  pub laid_from : (t : Tree) (k : ℕ) (x : X) → slice_get (laid own [] top t) k ≡ Some x → IsFrom t k x
  laid_from t k x e =
      let z : base top ≡ 0 = zeros in
      let v : base top + k ≡ k = omega (arith, z) in
      subst (λ y. IsFrom t y x) v (from t t [] refl tt k x e)

-- what is laid is laid by blocks
pub nodes_are_laid : (t : Tree) (path : List ℕ) (p : Place) → flat_nodes p t ≡ laid (λ path. own_nodes) path p t
nodes_are_laid none path p = refl
nodes_are_laid (tree g kids) path p = ap (λ l. own_nodes p g kids ++ l) (joined_same _ _ (length g.instances) (λ i b. nodes_are_laid (kids i) (i ∷ path) (kid_place p g kids i)))

pub memories_are_laid : (t : Tree) (path : List ℕ) (p : Place) → flat_memories p t ≡ laid (λ path. own_memories) path p t
memories_are_laid none path p = refl
memories_are_laid (tree g kids) path p = ap (λ l. own_memories p g kids ++ l) (joined_same _ _ (length g.instances) (λ i b. memories_are_laid (kids i) (i ∷ path) (kid_place p g kids i)))
