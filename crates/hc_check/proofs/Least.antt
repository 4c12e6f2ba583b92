-- The least of the numbers that some items of a list have, and the least undriven wire that the outputs reach.
use Rattle.std.proofs.Common.{◌≡◌, ◌≢◌, ◌⊎◌, ◌≤◌, ◌<◌, ℕ, List, [], ◌∷◌, refl, sym, subst, ◌∙◌, ap, inl, inr, arith}
use Rattle.std.specs.Prelude.{◌↔◌, fold, min, slice_get, Option, Some, None}
use Rattle.hc_signal.specs.Member.{Has, first, later}
use Rattle.hc_signal.specs.declared.signal.NodeRow.{NodeRow}
use Rattle.hc_signal.specs.declared.signal.Node.{Node}
use Rattle.hc_signal.specs.declared.signal.Node.TheVariants.{Input, Wire, Const, Two, Not, Mux, Cat, Select, Reg, Read, InstOut, Op}
use Rattle.hc_signal.specs.Graph.{Graph, Vertex, node, mem, inst, Reached}
use Rattle.hc_signal.specs.Lawful.{NodeAt}
use Rattle.hc_signal.specs.Checked.{IsUndriven}
use Rattle.hc_walk.specs.declared.vertex.VertexId.{VertexId}
use Rattle.hc_walk.specs.declared.vertex.VertexId.TheVariants.{Node as AtNode, Memory, Instance}
use Rattle.hc_walk.specs.VertexId.{vertex_of, vertices_of}
use Rattle.hc_walk.proofs.Members.{has_map, has_from_map}
use Rattle.hc_check.specs.Undriven.{undriven_row, undriven_node, lesser, least_undriven}

abbrev AtMost : ℕ → Option ℕ → Type 0
AtMost n None = Unit {0}
AtMost n (Some m) = n ≤ m

lesser_is : (a b : Option ℕ) (n : ℕ) → lesser a b ≡ Some n → (a ≡ Some n) ⊎ (b ≡ Some n)
lesser_is None b n e = inr e
lesser_is (Some a) None n e = inl e
lesser_is (Some a) (Some b) n e = grind arith

lesser_at_most : (a b : Option ℕ) (n : ℕ) → AtMost n (lesser a b) → AtMost n a × AtMost n b
lesser_at_most None b n h = (tt, h)
lesser_at_most (Some a) None n h = (h, tt)
lesser_at_most (Some a) (Some b) n h = (omega (arith, h), omega (arith, h))

lesser_none : (a b : Option ℕ) → lesser a b ≡ None → (a ≡ None) × (b ≡ None)
lesser_none None b e = (refl, e)
lesser_none (Some a) None e = cc
lesser_none (Some a) (Some b) e = cc

module _ {X : Type 0} (f : X → Option ℕ) where
  abbrev least_from : Option ℕ → List X → Option ℕ
  least_from best xs = fold (λ least x. lesser least (f x)) best xs

  least_is : (best : Option ℕ) (xs : List X) (n : ℕ) → least_from best xs ≡ Some n → (best ≡ Some n) ⊎ ((x : X) × Has xs x × (f x ≡ Some n))
  least_is best [] n e = inl e
  least_is best (x ∷ xs) n e =
      elim (least_is (lesser best (f x)) xs n e) [
        | inl a ↦ (elim (lesser_is best (f x) n a) [ inl b ↦ inl b | inr b ↦ inr (x, first, b) ])
        | inr a ↦ inr (a.0, later a.1, a.2)
      ]

  least_at_most : (best : Option ℕ) (xs : List X) (n : ℕ) → AtMost n (least_from best xs) → AtMost n best × ((x : X) → Has xs x → AtMost n (f x))
  least_at_most best [] n h = (h, λ x k. elim k [ ])
  least_at_most best (x ∷ xs) n h =
      let r : _ = least_at_most (lesser best (f x)) xs n h in
      let l : _ = lesser_at_most best (f x) n r.0 in (l.0, at_each l.1 r.1)
    where
      at_each : AtMost n (f x) → ((y : X) → Has xs y → AtMost n (f y)) → (y : X) → Has (x ∷ xs) y → AtMost n (f y)
      at_each a b y first = a
      at_each a b y (later k) = b y k

  least_none : (best : Option ℕ) (xs : List X) → least_from best xs ≡ None → (best ≡ None) × ((x : X) → Has xs x → f x ≡ None)
  least_none best [] e = (e, λ x k. elim k [ ])
  least_none best (x ∷ xs) e =
      let r : _ = least_none (lesser best (f x)) xs e in
      let l : _ = lesser_none best (f x) r.0 in (l.0, at_each l.1 r.1)
    where
      at_each : f x ≡ None → ((y : X) → Has xs y → f y ≡ None) → (y : X) → Has (x ∷ xs) y → f y ≡ None
      at_each a b y first = a
      at_each a b y (later k) = b y k

-- a row of a wire without a driver, and the number that it has
undriven_at : (o : Option NodeRow) (n m : ℕ) → undriven_row o n ≡ Some m → (n ≡ m) × ((row : NodeRow) × (o ≡ Some row) × (row.node ≡ Wire None))
undriven_at None n m e = cc
undriven_at (Some row) n m e = let r : _ = at row.node e in (r.0, (row, refl, r.1))
  where
    at : (x : Node) → undriven_row (Some (record { width = row.width; node = x; label = row.label })) n ≡ Some m → (n ≡ m) × (x ≡ Wire None)
    at (Wire None) e = (same e, refl)
      where
        same : Some n ≡ Some m → n ≡ m
        same e = cc
    at (Wire (Some d)) e = cc
    at (Input port) e = cc
    at (Const value) e = cc
    at (Two op a b) e = cc
    at (Not a) e = cc
    at (Mux sel cases) e = cc
    at (Cat parts) e = cc
    at (Select a hi lo) e = cc
    at (Reg next enable clear init) e = cc
    at (Read m addr) e = cc
    at (InstOut i port) e = cc
    at (Op kind args) e = cc

undriven_found : (g : Graph) (v : VertexId) (n : ℕ) → undriven_node g v ≡ Some n → (vertex_of v ≡ node n) × NodeAt g n (Wire None)
undriven_found g (AtNode id) n e = let r : _ = undriven_at (slice_get g.nodes id.0) id.0 n e in (ap node r.0, subst (λ k. NodeAt g k (Wire None)) r.0 r.1)
undriven_found g (Memory id) n e = cc
undriven_found g (Instance id) n e = cc

undriven_told : (g : Graph) (n : ℕ) → NodeAt g n (Wire None) → (v : VertexId) → vertex_of v ≡ node n → undriven_node g v ≡ Some n
undriven_told g n w (AtNode id) e = subst (λ k. undriven_row (slice_get g.nodes k) k ≡ Some n) (sym (same e)) (ap (λ o. undriven_row o n) w.1 ∙ at)
  where
    same : node id.0 ≡ node n → id.0 ≡ n
    same e = cc

    at : undriven_row (Some w.0) n ≡ Some n
    at = ap (λ x. undriven_row (Some (record { width = w.0.width; node = x; label = w.0.label })) n) w.2
undriven_told g n w (Memory id) e = cc
undriven_told g n w (Instance id) e = cc

module _ (g : Graph) (met : List VertexId) (reached : (v : Vertex) → Has (vertices_of met) v ↔ Reached g v) where
  is_met : (n : ℕ) → IsUndriven g n → (v : VertexId) × Has met v × (undriven_node g v ≡ Some n)
  is_met n u =
      let h : _ = has_from_map vertex_of met (node n) ((reached (node n)).1 u.0) in
      (h.0, h.1, undriven_told g n u.1 h.0 h.2)

  -- none is undriven
  pub none_undriven : least_undriven g met ≡ None → (n : ℕ) → ¬ IsUndriven g n
  none_undriven e n u =
      let m : _ = is_met n u in
      let r : undriven_node g m.0 ≡ None = (least_none (undriven_node g) None met e).1 m.0 m.1 in
      differ (sym m.2 ∙ r)
    where
      differ : Some n ≡ None → ⊥
      differ e = cc

  -- the least that is undriven
  pub least_is_undriven : (n : ℕ) → least_undriven g met ≡ Some n → IsUndriven g n × ((j : ℕ) → j < n → ¬ IsUndriven g j)
  least_is_undriven n e = (found (least_is (undriven_node g) None met n e), below)
    where
      found : (None ≡ Some n) ⊎ ((v : VertexId) × Has met v × (undriven_node g v ≡ Some n)) → IsUndriven g n
      found (inl a) = cc
      found (inr a) =
          let f : _ = undriven_found g a.0 n a.2 in
          (subst (Reached g) f.0 ((reached (vertex_of a.0)).0 (has_map vertex_of a.1)), f.1)

      below : (j : ℕ) → j < n → ¬ IsUndriven g j
      below j h u =
          let m : _ = is_met j u in
          let start : AtMost n (least_undriven g met) = subst (AtMost n) (sym e) (let l : n ≤ n = omega arith in l) in
          let a : AtMost n (undriven_node g m.0) = (least_at_most (undriven_node g) None met n start).1 m.0 m.1 in
          let b : n ≤ j = subst (AtMost n) m.2 a in
          omega (arith, h, b)
