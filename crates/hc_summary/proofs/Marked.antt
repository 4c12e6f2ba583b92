-- The kinds of the trees that marks stand for.
use Rattle.std.proofs.Common.{◌≡◌, ℕ, zero, suc, Bool, true, false, cond, List, [], ◌∷◌, length, refl, sym, ap, subst, arith}
use Rattle.std.specs.Prelude.{slice_get, Some, count_by}
use Rattle.std.proofs.lemmas.List.Sums.{sum_by-cons}
use Rattle.hc_signal.specs.Member.{Has, first, later}
use Rattle.hc_signal.specs.Tree.{Tree}
use Rattle.hc_walk.proofs.Members.{has_slice}
use Rattle.hc_canon.specs.Same.{Same}
use Rattle.hc_canon.proofs.Isomorphisms.{same-sym, same-trans}
use Rattle.hc_summary.specs.Kinds.{AreApart, IsNumberOfKinds}

abbrev pub marked : List Bool → ℕ
marked marks = count_by (λ (b : Bool). b) marks

-- the place is marked
abbrev pub IsOn : List Bool → ℕ → Type 0
IsOn marks k = slice_get marks k ≡ Some true

-- for each marked place a tree that P holds of and that is the same as the tree of the place
abbrev pub HaveTrees : (Tree → Type 0) → (ℕ → Tree) → List Bool → Type 0
HaveTrees P trees marks = (k : ℕ) → IsOn marks k → (t : Tree) × P t × Same t (trees k)

-- the trees of two marked places are not the same
abbrev pub AreOnce : (ℕ → Tree) → List Bool → Type 0
AreOnce trees marks = (i j : ℕ) → IsOn marks i → IsOn marks j → Same (trees i) (trees j) → i ≡ j

record AreKinds (P : Tree → Type 0) (trees : ℕ → Tree) (marks : List Bool) : Type 0 where
  kinds : List Tree
  many : length kinds ≡ marked marks
  some : (t : Tree) → Has kinds t → P t × ((k : ℕ) × IsOn marks k × Same t (trees k))
  apart : AreApart kinds
  all : (k : ℕ) → IsOn marks k → (t : Tree) × Has kinds t × Same t (trees k)

nothing : (P : Tree → Type 0) (trees : ℕ → Tree) → AreKinds P trees []
nothing P trees = record {
  kinds = [];
  many = refl;
  some = λ t h. elim h [ ];
  apart = λ i j s t a b same. cc;
  all = λ k e. absurd (let f : slice_get [] k ≡ Some true = e in cc);
}

module _ (P : Tree → Type 0) (trees : ℕ → Tree) (marks : List Bool) where
  abbrev after : ℕ → Tree
  after k = trees (suc k)

  passed : AreKinds P after marks → AreKinds P trees (false ∷ marks)
  passed a = record {
    kinds = a.kinds;
    many = let n = a.many in let m = sum_by-cons (λ (b : Bool). cond b 1 0) false marks in omega (arith, n, m);
    some = λ t h. (let s = a.some t h in (s.0, (suc s.1.0, s.1.1, s.1.2)));
    apart = a.apart;
    all = all;
  }
    where
      all : (k : ℕ) → IsOn (false ∷ marks) k → (t : Tree) × Has a.kinds t × Same t (trees k)
      all zero e = absurd cc
      all (suc k) e = a.all k e

  module _ (own : (t : Tree) × P t × Same t (trees 0)) (once : AreOnce trees (true ∷ marks)) where
    alone : (a : AreKinds P after marks) (t : Tree) → Has a.kinds t → Same own.0 t → ⊥
    alone a t h same =
        let s = a.some t h in
        let e : 0 ≡ suc s.1.0 = once zero (suc s.1.0) refl s.1.1 (same-trans (trees 0) own.0 (trees (suc s.1.0)) (same-sym own.0 (trees 0) own.2)
        (same-trans own.0 t (trees (suc s.1.0)) same s.1.2)) in
        omega (arith, e)

    taken : AreKinds P after marks → AreKinds P trees (true ∷ marks)
    taken a = record {
      kinds = own.0 ∷ a.kinds;
      many = let n = a.many in let m = sum_by-cons (λ (b : Bool). cond b 1 0) true marks in omega (arith, n, m);
      some = some;
      apart = apart;
      all = all;
    }
      where
        some : (t : Tree) → Has (own.0 ∷ a.kinds) t → P t × ((k : ℕ) × IsOn (true ∷ marks) k × Same t (trees k))
        some t first = (own.1, (zero, refl, own.2))
        some t (later h) = let s = a.some t h in (s.0, (suc s.1.0, s.1.1, s.1.2))

        apart : AreApart (own.0 ∷ a.kinds)
        apart zero zero s t x y same = refl
        apart zero (suc j) s t x y same =
            let is : own.0 ≡ s = cc in
            absurd (alone a t (has_slice a.kinds j t y) (subst (λ (u : Tree). Same u t) (sym is) same))
        apart (suc i) zero s t x y same =
            let is : own.0 ≡ t = cc in
            absurd (alone a s (has_slice a.kinds i s x) (same-sym s own.0 (subst (λ (u : Tree). Same s u) (sym is) same)))
        apart (suc i) (suc j) s t x y same = ap suc (a.apart i j s t x y same)

        all : (k : ℕ) → IsOn (true ∷ marks) k → (t : Tree) × Has (own.0 ∷ a.kinds) t × Same t (trees k)
        all zero e = (own.0, first, own.2)
        all (suc k) e = let s = a.all k e in (s.0, later s.1, s.2)

kinds_of : (P : Tree → Type 0) (marks : List Bool) (trees : ℕ → Tree) → HaveTrees P trees marks → AreOnce trees marks → AreKinds P trees marks
kinds_of P [] trees have once = nothing P trees
kinds_of P (false ∷ marks) trees have once = passed P trees marks
    (kinds_of P marks (λ k. trees (suc k)) (λ k e. have (suc k) e) (λ i j x y same. (let e : suc i ≡ suc j = once (suc i) (suc j) x y same in omega (arith, e))))
kinds_of P (true ∷ marks) trees have once = taken P trees marks (have zero refl) once
    (kinds_of P marks (λ k. trees (suc k)) (λ k e. have (suc k) e) (λ i j x y same. (let e : suc i ≡ suc j = once (suc i) (suc j) x y same in omega (arith, e))))

-- Where each marked place has a tree that P holds of, no two marked places have the same tree, and each tree that P holds of is
-- that of a marked place, there are as many kinds as marks.
pub marks_number : (P : Tree → Type 0) (marks : List Bool) (trees : ℕ → Tree) → HaveTrees P trees marks → AreOnce trees marks
    → ((t : Tree) → P t → (k : ℕ) × IsOn marks k × Same (trees k) t) → IsNumberOfKinds P (marked marks)
marks_number P marks trees have once each =
    let a = kinds_of P marks trees have once in record {
      kinds = a.kinds;
      many = a.many;
      some = λ t h. (a.some t h).0;
      apart = a.apart;
      all = λ t p. (let k = each t p in let s = a.all k.0 k.1 in (s.0, s.1, same-trans s.0 (trees k.0) t s.2 k.2));
    }
