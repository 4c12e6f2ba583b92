-- Lists of values, read one after another.
use Rattle.std.proofs.Common.{◌≡◌, ℕ, zero, suc, ◌≤◌, ◌<◌, List, [], ◌∷◌, ◌++◌, length, take, drop, replicate, refl, ap, sym, subst, ◌⊎◌, inl, inr, append_assoc, arith}
use Rattle.std.proofs.lemmas.List.{take-replicate}
use Rattle.std.specs.Prelude.{Result, Ok, Err, ℤ, slice_index_or}
use Rattle.hc_fault.specs.declared.fault.FaultKind.{FaultKind}
use Rattle.hc_signal.specs.declared.signal.NodeId.{NodeId}
use Rattle.hc_signal.specs.Member.{Has, first, later}
use Rattle.hc_signal.specs.Graph.{Graph}
use Rattle.hc_signal.specs.Builds.{AreNodes, IsNode}
use Rattle.hc_unfold.specs.Gives.{Grows}
use Rattle.hc_unfold.specs.Drawing.{go_on, answer}
use Rattle.hc_unfold.specs.Places.{before}

-- values that were read, and those that are still to be read
abbrev pub onto : List ℤ → Result (List ℤ) FaultKind → Result (List ℤ) FaultKind
onto zs (Ok more) = Ok (zs ++ more)
onto zs (Err kind) = Err kind

pub onto_none : (rest : Result (List ℤ) FaultKind) → onto [] rest ≡ rest
onto_none (Ok zs) = refl
onto_none (Err kind) = refl

pub onto_more : (zs : List ℤ) (z : ℤ) (rest : Result (List ℤ) FaultKind) → onto (zs ++ z ∷ []) rest ≡ onto zs (before (Ok z) rest)
onto_more zs z (Ok more) = ap Ok (append_assoc zs (z ∷ []) more)
onto_more zs z (Err kind) = refl

-- each of some nodes is one
pub node_at : (g : Graph) (ids : List NodeId) (i : ℕ) (other : NodeId) → AreNodes g ids → i < length ids → (slice_index_or ids i other).0 < length g.nodes
node_at g [] i other nodes within = absurd (omega (arith, within))
node_at g (id ∷ ids) zero other nodes within = nodes id first
node_at g (id ∷ ids) (suc i) other nodes within = node_at g ids i other (λ x has. nodes x (later has)) (omega (arith, within))

has_taken : (m : ℕ) (ids : List NodeId) (id : NodeId) → Has (take m ids) id → Has ids id
has_taken zero ids id has = elim has [ ]
has_taken (suc m) [] id has = elim has [ ]
has_taken (suc m) (x ∷ ids) id first = first
has_taken (suc m) (x ∷ ids) id (later has) = later (has_taken m ids id has)

-- those past the first
pub nodes_past : (g : Graph) (ids : List NodeId) (m : ℕ) → AreNodes g ids → AreNodes g (take m (drop 1 ids))
nodes_past g [] m nodes id has = elim (has_taken m [] id has) [ ]
nodes_past g (x ∷ ids) m nodes id has = nodes id (later (has_taken m ids id has))

pub two_nodes : (g : Graph) (a b : NodeId) → IsNode g a → IsNode g b → AreNodes g (a ∷ b ∷ [])
two_nodes g a b na nb id first = na
two_nodes g a b na nb id (later first) = nb
two_nodes g a b na nb id (later (later h)) = elim h [ ]

-- the front of many copies
pub front_of_copies : (m n : ℕ) (x : NodeId) → m ≤ n → take m (replicate n x) ≡ replicate m x
front_of_copies m n x few = take-replicate m n x few

copies_are_nodes : (g : Graph) (x : NodeId) (n : ℕ) → IsNode g x → AreNodes g (replicate n x)
copies_are_nodes g x zero node id has = elim has [ ]
copies_are_nodes g x (suc n) node id first = node
copies_are_nodes g x (suc n) node id (later h) = copies_are_nodes g x n node id h

pub same_nodes : (g : Graph) (x : NodeId) (n : ℕ) (ids : List NodeId) → ids ≡ replicate n x → IsNode g x → AreNodes g ids
same_nodes g x n ids e node = subst (λ (l : List NodeId). AreNodes g l) (sym e) (copies_are_nodes g x n node)

-- nodes that were drawn, and those that are still to be drawn
abbrev pub nodes_onto : List NodeId → Result (Graph × List NodeId) FaultKind → Result (Graph × List NodeId) FaultKind
nodes_onto xs (Ok drawn) = Ok (drawn.0, xs ++ drawn.1)
nodes_onto xs (Err kind) = Err kind

pub nodes_onto_none : (rest : Result (Graph × List NodeId) FaultKind) → nodes_onto [] rest ≡ rest
nodes_onto_none (Ok drawn) = refl
nodes_onto_none (Err kind) = refl

pub nodes_onto_more : (xs : List NodeId) (x : NodeId) (rest : Result (Graph × List NodeId) FaultKind) → nodes_onto (xs ++ x ∷ []) rest ≡ nodes_onto xs (go_on rest (λ ys. answer (x ∷ ys)))
nodes_onto_more xs x (Ok drawn) = ap (λ (l : List NodeId). let r : Result (Graph × List NodeId) FaultKind = Ok (drawn.0, l) in r) (append_assoc xs (x ∷ []) drawn.1)
nodes_onto_more xs x (Err kind) = refl

last_or : (xs : List NodeId) (x y : NodeId) → Has (xs ++ x ∷ []) y → Has xs y ⊎ (y ≡ x)
last_or [] x y first = inr refl
last_or [] x y (later h) = elim h [ ]
last_or (z ∷ xs) x y first = inl first
last_or (z ∷ xs) x y (later h) = elim (last_or xs x y h) [ inl g ↦ inl (later g) | inr e ↦ inr e ]

-- nodes stay nodes while the graph grows, and one more comes
pub nodes_more : (g h : Graph) (xs ys : List NodeId) (x : NodeId) → AreNodes g xs → Grows g h → IsNode h x → ys ≡ xs ++ x ∷ [] → AreNodes h ys
nodes_more g h xs ys x nodes grows node e id has =
    elim (last_or xs x id (subst (λ (l : List NodeId). Has l id) e has)) [
      | inl old ↦ let a = nodes id old in let b = grows.nodes in omega (arith, a, b)
      | inr new ↦ subst (λ (i : NodeId). IsNode h i) (sym new) node
    ]

pub no_nodes : (g : Graph) → AreNodes g []
no_nodes g id has = elim has [ ]
