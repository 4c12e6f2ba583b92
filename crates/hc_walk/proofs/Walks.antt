-- The walk has one end, which holds each vertex that is reached, once, and no other.
use Rattle.std.proofs.Common.{◌≡◌, ◌⊎◌, ℕ, zero, suc, List, [], ◌∷◌, ◌++◌, refl, sym, subst, ap, inl, inr}
use Rattle.std.specs.Prelude.{◌↔◌, slice_get, Some}
use Rattle.hc_signal.specs.Member.{Has, first, later}
use Rattle.hc_signal.specs.Graph.{Graph, Vertex, Reached, output, further, fanin, nodes_of}
use Rattle.hc_walk.specs.DepthFirst.{DepthFirst, over, again, new, NumbersTo}
use Rattle.hc_walk.proofs.Members.{has_left, has_right, has_cases, has_slice}

module _ (g : Graph) where
  -- a walk over two lists, one after the other
  pub walk_split : {met end : List Vertex} (xs ys : List Vertex) → DepthFirst g met (xs ++ ys) end → (mid : List Vertex) × DepthFirst g met xs mid × DepthFirst g mid ys end
  walk_split {met} [] ys w = (met, over, w)
  walk_split (x ∷ xs) ys (again h w) = let r : _ = walk_split xs ys w in (r.0, again h r.1, r.2)
  walk_split (x ∷ xs) ys (new n v w) = let r : _ = walk_split xs ys w in (r.0, new n v r.1, r.2)

  -- what waits after the fan-in of a new vertex
  pub walk_new : {met waiting end : List Vertex} {v : Vertex} → ¬ Has met v → DepthFirst g (met ++ v ∷ []) (fanin g v ++ waiting) end → DepthFirst g met (v ∷ waiting) end
  walk_new {waiting = ws} {v = v} n w = let r : _ = walk_split (fanin g v) ws w in new n r.1 r.2

  -- one end
  pub walk_once : {met list end other : List Vertex} → DepthFirst g met list end → DepthFirst g met list other → end ≡ other
  walk_once over over = refl
  walk_once (again h w) (again k v) = walk_once w v
  walk_once (again h w) (new n u v) = absurd (n h)
  walk_once (new n u w) (again k v) = absurd (n k)
  walk_once {other = other} (new {rest = rest} n u w) (new k t v) = walk_once w (subst (λ m. DepthFirst g m rest other) (sym (walk_once u t)) v)

  abbrev pub AllReached : List Vertex → Type 0
  AllReached vs = (v : Vertex) → Has vs v → Reached g v

  pub all_reached_append : (vs ws : List Vertex) → AllReached vs → AllReached ws → AllReached (vs ++ ws)
  all_reached_append vs ws a b v h = elim (has_cases vs ws h) [ inl l ↦ a v l | inr r ↦ b v r ]

  pub all_reached_one : (v : Vertex) → Reached g v → AllReached (v ∷ [])
  all_reached_one v r w first = r
  all_reached_one v r w (later h) = elim h [ ]

  -- nothing else
  pub walk_reaches : {met list end : List Vertex} → DepthFirst g met list end → AllReached met → AllReached list → AllReached end
  walk_reaches over a b = a
  walk_reaches (again h w) a b = walk_reaches w a (λ v k. b v (later k))
  walk_reaches (new {met = ms} {v = v} n u w) a b =
      walk_reaches w (walk_reaches u (all_reached_append ms (v ∷ []) a (all_reached_one v (b v first))) (λ x k. further v x (b v first) k)) (λ x k. b x (later k))

  -- all that was met, and the list, is in the end
  pub met_kept : {met list end : List Vertex} → DepthFirst g met list end → (v : Vertex) → Has met v → Has end v
  met_kept over v h = h
  met_kept (again k w) v h = met_kept w v h
  met_kept (new {v = x} n u w) v h = met_kept w v (met_kept u v (has_left (x ∷ []) h))

  pub list_met : {met list end : List Vertex} → DepthFirst g met list end → (v : Vertex) → Has list v → Has end v
  list_met over v h = elim h [ ]
  list_met (again k w) v first = met_kept w v k
  list_met (again k w) v (later h) = list_met w v h
  list_met (new {met = ms} n u w) v first = met_kept w v (met_kept u v (has_right ms first))
  list_met (new n u w) v (later h) = list_met w v h

  -- of what the walk met newly, the fan-in is in the end
  abbrev IsClosed : List Vertex → List Vertex → Vertex → Type 0
  IsClosed met end v = Has met v ⊎ ((x : Vertex) → Has (fanin g v) x → Has end x)

  closed_on : {met list end : List Vertex} (before : List Vertex) (v : Vertex) → DepthFirst g met list end → IsClosed before met v → IsClosed before end v
  closed_on before v w (inl h) = inl h
  closed_on before v w (inr f) = inr (λ x c. met_kept w x (f x c))

  fanin_met : {met list end : List Vertex} → DepthFirst g met list end → (v : Vertex) → Has end v → IsClosed met end v
  fanin_met over v h = inl h
  fanin_met (again k w) v h = fanin_met w v h
  fanin_met (new {met = ms} {inner = ns} {end = es} {v = r} n u w) v h = from_rest (λ m. fanin_met u v m) (fanin_met w v h)
    where
      only : {x : Vertex} → Has (r ∷ []) x → (y : Vertex) → Has (fanin g x) y → Has ns y
      only first y c = list_met u y c
      only (later c) y d = elim c [ ]

      from_inner : IsClosed (ms ++ r ∷ []) ns v → IsClosed ms ns v
      from_inner (inl m) = elim (has_cases ms (r ∷ []) m) [ inl l ↦ inl l | inr o ↦ inr (only o) ]
      from_inner (inr f) = inr f

      from_rest : (Has ns v → IsClosed (ms ++ r ∷ []) ns v) → IsClosed ns es v → IsClosed ms es v
      from_rest inner (inl m) = closed_on ms v w (from_inner (inner m))
      from_rest inner (inr f) = inr f

  fanin_of_met : {end : List Vertex} → NumbersTo g end → (v x : Vertex) → Has end v → Has (fanin g v) x → Has end x
  fanin_of_met {end} w v x h c = go (fanin_met w v h)
    where
      go : IsClosed [] end v → Has end x
      go (inl m) = elim m [ ]
      go (inr f) = f x c

  -- all that is reached
  pub walk_complete : {end : List Vertex} → NumbersTo g end → {v : Vertex} → Reached g v → Has end v
  walk_complete w (output v c) = list_met w v c
  walk_complete w (further v x r c) = fanin_of_met w v x (walk_complete w r) c

  pub walk_sound : {end : List Vertex} → NumbersTo g end → AllReached end
  walk_sound w = walk_reaches w (λ v h. elim h [ ]) (λ v h. output v h)

  pub walk_meets : (end : List Vertex) (v : Vertex) → NumbersTo g end → (Has end v ↔ Reached g v)
  walk_meets end v w = (walk_sound w v, walk_complete w)

-- no element stands twice
abbrev pub AllDifferent : {X : Type 0} → List X → Type 0
AllDifferent [] = Unit {0}
AllDifferent (x ∷ xs) = ¬ Has xs x × AllDifferent xs

one_of : {X : Type 0} {x y : X} → Has (x ∷ []) y → x ≡ y
one_of first = refl
one_of (later h) = elim h [ ]

differ_more : {X : Type 0} (xs : List X) (x : X) → AllDifferent xs → ¬ Has xs x → AllDifferent (xs ++ x ∷ [])
differ_more [] x d n = ((λ h. elim h [ ]), tt)
differ_more (y ∷ xs) x d n = (
  (λ h. elim (has_cases xs (x ∷ []) h) [ inl a ↦ d.0 a | inr b ↦ n (subst (λ z. Has (y ∷ xs) z) (sym (one_of b)) first) ]),
  differ_more xs x d.1 (λ h. n (later h)),
)

walk_differs : (g : Graph) {met list end : List Vertex} → DepthFirst g met list end → AllDifferent met → AllDifferent end
walk_differs g over d = d
walk_differs g (again h w) d = walk_differs g w d
walk_differs g (new {met = ms} {v = v} n u w) d = walk_differs g w (walk_differs g u (differ_more ms v d n))

pub ends_differ : (g : Graph) {end : List Vertex} → NumbersTo g end → AllDifferent end
ends_differ g w = walk_differs g w tt

-- an element stands at one place
pub one_place : {X : Type 0} (xs : List X) → AllDifferent xs → (i j : ℕ) (x : X) → slice_get xs i ≡ Some x → slice_get xs j ≡ Some x → i ≡ j
one_place [] d i j x a b = cc
one_place (y ∷ xs) d zero zero x a b = refl
one_place (y ∷ xs) d zero (suc j) x a b = absurd (d.0 (subst (Has xs) (same a) (has_slice xs j x b)))
  where
    same : Some y ≡ Some x → x ≡ y
    same e = cc
one_place (y ∷ xs) d (suc i) zero x a b = absurd (d.0 (subst (Has xs) (same b) (has_slice xs i x a)))
  where
    same : Some y ≡ Some x → x ≡ y
    same e = cc
one_place (y ∷ xs) d (suc i) (suc j) x a b = ap suc (one_place xs d.1 i j x a b)
