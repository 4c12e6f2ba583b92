-- For each path of a tree its partner in a tree that is the same.
use Rattle.std.proofs.Common.{◌≡◌, ℕ, ◌⊎◌, inl, inr, List, [], ◌∷◌, refl, sym, subst, ◌∙◌, ap, ap₂}
use Rattle.std.proofs.lemmas.Bool.{cases_eq}
use Rattle.hc_signal.specs.Member.{Has, first, later}
use Rattle.hc_signal.specs.Graph.{Vertex, node, mem, inst, Reached}
use Rattle.hc_signal.specs.Tree.{Tree, none, tree, graph, IsWhole}
use Rattle.hc_signal.specs.Renumber.{Renumbering, renumber}
use Rattle.hc_signal.specs.Occurrences.{tree_at, graph_at, IsReachedPath}
use Rattle.hc_walk.specs.DepthFirst.{NumbersTo}
use Rattle.hc_walk.proofs.Walks.{walk_meets}
use Rattle.hc_walk.proofs.Walking.{walk_exists}
use Rattle.hc_canon.specs.Same.{IsIsomorphism, Same}
use Rattle.hc_canon.proofs.Renumbered.{number, same_numbers}
use Rattle.hc_canon.proofs.Isomorphisms.{isomorphism_back, reached_to}
use Rattle.hc_traces.proofs.Settling.{whole_at}
use Rattle.hc_trees.specs.Twins.{Partners, top, below, SomePairs}
use Rattle.hc_trees.proofs.Twins.{pairs_of, same_at, pairing_once}

-- Whether a path is reached.
is_instance : (p : Vertex) (i : ℕ) → (p ≡ inst i) ⊎ (p ≡ inst i → ⊥)
is_instance (node n) i = inr (λ e. cc)
is_instance (mem m) i = inr (λ e. cc)
is_instance (inst j) i = elim (cases_eq j i) [ inl e ↦ inl (ap inst e) | inr f ↦ inr (λ e. f (ap number e)) ]

nowhere : (p : Vertex) (ps : List Vertex) (q : Vertex) → (p ≡ q → ⊥) → (Has ps q → ⊥) → Has (p ∷ ps) q → ⊥
nowhere p ps _ f n first = f refl
nowhere p ps q f n (later h) = n h

is_listed : (ps : List Vertex) (i : ℕ) → Has ps (inst i) ⊎ (Has ps (inst i) → ⊥)
is_listed [] i = inr (λ h. elim h [ ])
is_listed (p ∷ ps) i =
    elim (is_instance p i) [
      | inl e ↦ inl (subst (λ q. Has (p ∷ ps) q) e first)
      | inr f ↦ elim (is_listed ps i) [ inl h ↦ inl (later h) | inr n ↦ inr (nowhere p ps (inst i) f n) ]
    ]

instance_cases : (t : Tree) → IsWhole t → (i : ℕ) → Reached (graph t) (inst i) ⊎ (Reached (graph t) (inst i) → ⊥)
instance_cases none w i = absurd w
instance_cases (tree g kids) w i =
    let x : (end : List Vertex) × NumbersTo g end = walk_exists g w.0 in
    elim (is_listed x.0 i) [ inl h ↦ inl ((walk_meets g x.0 (inst i) x.1).0 h) | inr n ↦ inr (λ r. n ((walk_meets g x.0 (inst i) x.1).1 r)) ]

path_cases : (t : Tree) → IsWhole t → (path : List ℕ) → IsReachedPath t path ⊎ (IsReachedPath t path → ⊥)
path_cases t w [] = inl tt
path_cases t w (i ∷ path) =
    elim (path_cases t w path) [
      | inl r ↦ elim (instance_cases (tree_at t path) (whole_at t w path r) i) [ inl c ↦ inl (r, c) | inr f ↦ inr (λ x. f x.1) ]
      | inr f ↦ inr (λ x. f x.0)
    ]

-- A path of s, and a pairing of the graphs there where the path of t is reached.
pub record Partner (t s : Tree) (path : List ℕ) : Type 0 where
  pub other : List ℕ
  pub to : Renumbering
  pub back : Renumbering
  pub paths : IsReachedPath t path → Partners t s path other
  pub pairs : IsReachedPath t path → IsIsomorphism to back (graph_at t path) (graph_at s other)

module _ (t s : Tree) (e : Same t s) where
  -- the pairing below a pair of instances
  abbrev pub PairedBelow : List ℕ → List ℕ → Type 0
  PairedBelow path other = (to : Renumbering) × (back : Renumbering) × Partners t s path other × IsIsomorphism to back (graph_at t path) (graph_at s other)

  pub paired_below : {path other : List ℕ} (to back : Renumbering) (i : ℕ) → Partners t s path other → IsIsomorphism to back (graph_at t path) (graph_at s other)
      → Reached (graph_at t path) (inst i) → PairedBelow (i ∷ path) (to.inst i ∷ other)
  paired_below {path} {other} to back i u x r =
      let v : Partners t s (i ∷ path) (to.inst i ∷ other) = below to back u x r refl in
      let z : SomePairs (graph_at t (i ∷ path)) (graph_at s (to.inst i ∷ other)) = pairs_of (tree_at t (i ∷ path)) (tree_at s (to.inst i ∷ other)) (same_at t s e v) in
      (z.0, z.1, v, z.2)

  partner_below : (i : ℕ) (path : List ℕ) → Partner t s path → IsReachedPath t (i ∷ path) → Partner t s (i ∷ path)
  partner_below i path p r =
      let z : PairedBelow (i ∷ path) (p.to.inst i ∷ p.other) = paired_below p.to p.back i (p.paths r.0) (p.pairs r.0) r.1 in
      record { other = p.to.inst i ∷ p.other; to = z.0; back = z.1; paths = λ _. z.2; pairs = λ _. z.3 }

  pub partner : IsWhole t → (path : List ℕ) → Partner t s path
  partner w [] = (let z : SomePairs (graph t) (graph s) = pairs_of t s e in record { other = []; to = z.0; back = z.1; paths = λ _. top; pairs = λ _. z.2 })
  partner w (i ∷ path) =
      elim (path_cases t w (i ∷ path)) [
        | inl r ↦ partner_below i path (partner w path) r
        | inr f ↦ record { other = []; to = same_numbers; back = same_numbers; paths = λ r. absurd (f r); pairs = λ r. absurd (f r) }
      ]

-- A path has one partner, and what is reached there one partner too.
pub partners_once : (t s : Tree) {path p q : List ℕ} → Partners t s path p → Partners t s path q → p ≡ q
partners_once t s top top = refl
partners_once t s (below {p = path} {q = p} {i = i} to back u x r k) (below {q = q} out home v y c l) =
    let e : p ≡ q = partners_once t s u v in
    let z : IsIsomorphism out home (graph_at t path) (graph_at s p) = subst (λ o. IsIsomorphism out home (graph_at t path) (graph_at s o)) (sym e) y in
    ap₂ (λ m ms. m ∷ ms) (sym k ∙ ap number (pairing_once to back out home (graph_at t path) (graph_at s p) x z r) ∙ l) e

pub vertex_once : (t s : Tree) {path p q : List ℕ} {v : Vertex} (to back out home : Renumbering) → Partners t s path p
    → IsIsomorphism to back (graph_at t path) (graph_at s p) → Partners t s path q → IsIsomorphism out home (graph_at t path) (graph_at s q) → Reached (graph_at t path) v
    → (p ≡ q) × (renumber to v ≡ renumber out v)
vertex_once t s {path} {p} {q} to back out home a x b y r =
    let e : p ≡ q = partners_once t s a b in
    let z : IsIsomorphism out home (graph_at t path) (graph_at s p) = subst (λ o. IsIsomorphism out home (graph_at t path) (graph_at s o)) (sym e) y in
    (e, pairing_once to back out home (graph_at t path) (graph_at s p) x z r)

-- partners turn round
pub partners_back : (t s : Tree) {p q : List ℕ} → Partners t s p q → Partners s t q p
partners_back t s top = top
partners_back t s (below {p = p} {q = q} {i = i} to back u x r k) =
    below back to (partners_back t s u) (isomorphism_back to back (graph_at t p) (graph_at s q) x)
    (subst (λ j. Reached (graph_at s q) (inst j)) k (reached_to to back (graph_at t p) (graph_at s q) x r))
    (ap back.inst (sym k) ∙ ap number (x.one_to_one (inst i) r))
