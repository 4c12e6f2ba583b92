-- Each primitive keeps the form of a graph.
use Rattle.std.proofs.Common.{◌≡◌, ℕ, ◌+◌, ◌-◌, ◌^◌, ◌<◌, ◌≤◌, Bool, true, false, ◌&&◌, nat_le, List, [], ◌∷◌, length, refl, sym, subst, arith, cond}
use Rattle.std.specs.Prelude.{slice_get, sum, nat_lt, Option, Some, None, Result, Ok, Err, ℤ, pos, negsuc, nat_abs}
use Rattle.std.proofs.lemmas.Bool.{and_parts, leb-true, ltb-true}
use Rattle.std.proofs.lemmas.List.Sums.{sum_by-cons}
use Rattle.std.proofs.lemmas.Nat.{pow_below}
use Rattle.hc_fault.specs.declared.fault.FaultKind.{FaultKind}
use Rattle.hc_fault.specs.declared.fault.FaultKind.TheVariants as fault
use Rattle.hc_bits.specs.BitVector.{BitVector, IsVector, IsWidth, from_i64}
use Rattle.hc_bits.specs.Catalogue.{arity}
use Rattle.hc_bits.specs.declared.kind.OpKind.{OpKind}
use Rattle.hc_signal.specs.Member.{first}
use Rattle.hc_signal.specs.declared.signal.MemId.{MemId}
use Rattle.hc_signal.specs.declared.signal.Memory.{Memory}
use Rattle.hc_signal.specs.declared.signal.Node.TheVariants as node
use Rattle.hc_signal.specs.declared.signal.NodeId.{NodeId}
use Rattle.hc_signal.specs.declared.signal.Op2.{Op2}
use Rattle.hc_signal.specs.Graph.{Graph}
use Rattle.hc_signal.specs.Lawful.{IsLawfulNode}
use Rattle.hc_signal.specs.Rules.{are_equal, cat_rule, first_width, is_width, mux_rule, op_rule, op_width, rule, select_rule, select_width, two_rule, two_width}
use Rattle.hc_signal.specs.Builds.{AreNodes, IsMemory, IsNode, memory_width, memory_width_at, width_at, widths_at}
use Rattle.hc_unfold.specs.Formed.{IsFormed}
use Rattle.hc_unfold.specs.Drawing.{and_then, as_width, cat, constant, found, invert, literal, mux, number_bits, operation, read, select, two, unless}
use Rattle.hc_unfold.proofs.RowPlaces.{has_from_place}
use Rattle.hc_unfold.proofs.Follows.{cat_follows, has_its_width, mux_follows, op_follows, result_has_width, some_at, takes_some, test_holds, two_fits}
use Rattle.hc_unfold.proofs.Keeping.{Keeps, kept_adds, kept_answer, width_is}

-- ---- values

one_below : (w : ℕ) → 1 ≤ w → 0 < 2 ^ w
one_below w some = let less : 2 ^ 0 < 2 ^ w = pow_below 0 w some in omega arith

pub zero_vector : (w : ℕ) → IsWidth w → IsVector (record { width = w; value = 0 }) w
zero_vector w b = (record { some = b.0; few = b.1; fits = one_below w b.0 }, refl)

pub width_of_number : (z : ℤ) (w : ℕ) → as_width z ≡ Ok w → IsWidth w
width_of_number (pos n) w e = by (is_width n) refl e
  where
    by : (b : Bool) → is_width n ≡ b → unless (rule fault.Width b) n ≡ Ok w → IsWidth w
    by true is e' =
        let same : n ≡ w = cc in
        let parts : _ = and_parts (nat_le 1 n) (nat_le n 128) is in
        subst IsWidth same (leb-true 1 n parts.0, leb-true n 128 parts.1)
    by false is e' = absurd cc
width_of_number (negsuc n) w e = absurd cc

pub vector_of_number : (w : ℕ) (z : ℤ) (v : BitVector) → IsWidth w → from_i64 w z ≡ Some v → IsVector v w
vector_of_number w (pos n) v b e = by (nat_lt n (2 ^ w)) refl e
  where
    by : (t : Bool) → nat_lt n (2 ^ w) ≡ t → cond t (Some (record { width = w; value = n })) None ≡ Some v → IsVector v w
    by true is e' =
        let same : ◌≡◌ {A = BitVector} (record { width = w; value = n }) v = cc in
        subst (λ x. IsVector x w) same (record { some = b.0; few = b.1; fits = ltb-true n (2 ^ w) is }, refl)
    by false is e' = absurd cc
vector_of_number w (negsuc n) v b e = by (nat_le (n + 1) (2 ^ (w - 1))) e
  where
    by : (t : Bool) → cond t (Some (record { width = w; value = 2 ^ w - (n + 1) })) None ≡ Some v → IsVector v w
    by true e' =
        let same : ◌≡◌ {A = BitVector} (record { width = w; value = 2 ^ w - (n + 1) }) v = cc in
        let some : 0 < 2 ^ w = one_below w b.0 in
        subst (λ x. IsVector x w) same (record { some = b.0; few = b.1; fits = omega arith }, refl)
    by false e' = absurd cc

pub vector_found : (w : ℕ) (z : ℤ) (v : BitVector) → IsWidth w → found fault.ConstRange (from_i64 w z) ≡ Ok v → IsVector v w
vector_found w z v b e = by (from_i64 w z) refl e
  where
    by : (o : Option BitVector) → from_i64 w z ≡ o → found fault.ConstRange o ≡ Ok v → IsVector v w
    by (Some x) is e' = let same : x ≡ v = cc in subst (λ y. IsVector y w) same (vector_of_number w z x b is)
    by None is e' = absurd cc

-- a vector of some width
abbrev pub IsOfWidth : BitVector → Type 0
IsOfWidth v = IsVector v v.width

own_width : (w : ℕ) (v : BitVector) → IsVector v w → IsOfWidth v
own_width w v is = (is.0, refl)

pub bits_of_numbers : (z n : ℤ) (v : BitVector) → number_bits z n ≡ Ok v → IsOfWidth v
bits_of_numbers z n v e = by (as_width z) refl e
  where
    by : (r : Result ℕ FaultKind) → as_width z ≡ r → and_then r (λ w. found fault.ConstRange (from_i64 w n)) ≡ Ok v → IsOfWidth v
    by (Ok w) is e' = own_width w v (vector_found w n v (width_of_number z w is) e')
    by (Err kind) is e' = absurd cc

pub bits_of_literal : (z : ℤ) (n : ℕ) (v : BitVector) → literal z n ≡ Ok v → IsOfWidth v
bits_of_literal z n v e = by (as_width z) refl e
  where
    fitting : (w : ℕ) → IsWidth w → (t : Bool) → nat_lt n (2 ^ w) ≡ t → ◌≡◌ {A = Result BitVector FaultKind} (cond t (Ok (record { width = w; value = n })) (Err fault.ConstRange)) (Ok v) → IsOfWidth v
    fitting w b true is e' =
        let same : ◌≡◌ {A = BitVector} (record { width = w; value = n }) v = cc in
        subst IsOfWidth same (record { some = b.0; few = b.1; fits = ltb-true n (2 ^ w) is }, refl)
    fitting w b false is e' = absurd cc

    by : (r : Result ℕ FaultKind) → as_width z ≡ r → and_then r (λ w. cond (nat_lt n (2 ^ w)) (Ok (record { width = w; value = n })) (Err fault.ConstRange)) ≡ Ok v → IsOfWidth v
    by (Ok w) is e' = fitting w (width_of_number z w is) (nat_lt n (2 ^ w)) refl e'
    by (Err kind) is e' = absurd cc

-- ---- nodes

module _ (g : Graph) (l : IsFormed g) where
  pub kept_constant : (v : BitVector) → IsOfWidth v → Keeps g IsNode (constant v g)
  kept_constant v is = kept_adds g None v.width (node.Const v) l (λ _. ((is.0.some, is.0.few), is)) refl

  pub kept_two : (op : Op2) (a b : NodeId) → IsNode g a → IsNode g b → Keeps g IsNode (two op a b g)
  kept_two op a b na nb = kept_adds g (two_rule op (width_at g a) (width_at g b)) (two_width op (width_at g a) (width_at g b)) (node.Two op a b) l
      (λ holds. (let fits : _ = two_fits op (width_at g a) (width_at g b) (width_is g a l na) (width_is g b l nb) holds in
      (fits.1, (width_at g a, width_at g b, has_its_width g a na, has_its_width g b nb, fits.0)))) refl

  pub kept_invert : (a : NodeId) → IsNode g a → Keeps g IsNode (invert a g)
  kept_invert a na = kept_adds g None (width_at g a) (node.Not a) l (λ _. (width_is g a l na, has_its_width g a na)) refl

  -- the first of some nodes
  first_is_width : (ids : List NodeId) → AreNodes g ids → 1 ≤ length ids → IsWidth (first_width (widths_at g ids))
  first_is_width [] nodes some = absurd (omega (arith, some))
  first_is_width (x ∷ ids) nodes some = width_is g x l (nodes x first)

  pub kept_mux : (s : NodeId) (cases : List NodeId) → IsNode g s → AreNodes g cases → 2 ≤ length cases → Keeps g IsNode (mux s cases g)
  kept_mux s cases ns nodes some = kept_adds g (mux_rule (width_at g s) (widths_at g cases)) (first_width (widths_at g cases)) (node.Mux s cases) l
      (λ holds. (first_is_width cases nodes (omega (arith, some)), mux_follows g s cases (first_width (widths_at g cases)) ns nodes some refl holds)) refl

  pub kept_cat : (parts : List NodeId) → AreNodes g parts → 1 ≤ length parts → Keeps g IsNode (cat parts g)
  kept_cat [] nodes some = absurd (omega (arith, some))
  kept_cat (a ∷ []) nodes some = kept_answer g IsNode a l (nodes a first)
  kept_cat (a ∷ b ∷ ids) nodes some =
      let parts : List NodeId = a ∷ b ∷ ids in
      kept_adds g (cat_rule (widths_at g parts)) (sum (widths_at g parts)) (node.Cat parts) l
      (λ holds. (let few : sum (widths_at g parts) ≤ 128 = leb-true (sum (widths_at g parts)) 128 (test_holds fault.Width (nat_le (sum (widths_at g parts)) 128) holds) in
      let one : IsWidth (width_at g a) = width_is g a l (nodes a first) in
      let more : sum (widths_at g parts) ≡ width_at g a + sum (widths_at g (b ∷ ids)) = sum_by-cons (λ x. x) (width_at g a) (widths_at g (b ∷ ids)) in
      let at_least : 1 ≤ sum (widths_at g parts) = (let o : 1 ≤ width_at g a = one.0 in omega (arith, o, more)) in
      ((at_least, few), cat_follows g parts (sum (widths_at g parts)) nodes (omega arith) refl))) refl

  pub kept_select : (a : NodeId) (hi lo : ℤ) → IsNode g a → Keeps g IsNode (select a hi lo g)
  kept_select a hi lo na = kept_adds g (select_rule (width_at g a) hi lo) (select_width (nat_abs hi) (nat_abs lo)) (node.Select a (nat_abs hi) (nat_abs lo)) l (λ holds. follows hi lo holds) refl
    where
      follows : (hi lo : ℤ) → select_rule (width_at g a) hi lo ≡ None
          → IsWidth (select_width (nat_abs hi) (nat_abs lo)) × IsLawfulNode g (select_width (nat_abs hi) (nat_abs lo)) (node.Select a (nat_abs hi) (nat_abs lo))
      follows (pos h) (pos n) holds =
          let parts : _ = and_parts (nat_le n h) (nat_lt h (width_at g a)) (test_holds fault.SelectRange (nat_le n h && nat_lt h (width_at g a)) holds) in
          let order : n ≤ h = leb-true n h parts.0 in
          let inside : h < width_at g a = ltb-true h (width_at g a) parts.1 in
          let few : IsWidth (width_at g a) = width_is g a l na in
          let at_most : width_at g a ≤ 128 = few.1 in
          ((omega (arith, order), omega (arith, order, inside, at_most)), (width_at g a, has_its_width g a na, order, inside, refl))
      follows (pos h) (negsuc n) holds = absurd cc
      follows (negsuc h) n holds = absurd cc

  pub kept_read : (m : MemId) (a : NodeId) → IsMemory g m → IsNode g a → Keeps g IsNode (read m a g)
  kept_read m a there na =
      let at : (mem : Memory) × (slice_get g.memories m.0 ≡ Some mem) = some_at g.memories m.0 there in
      let e : memory_width_at g m ≡ at.0.width = λ i. memory_width (at.1 i) in
      let is : IsWidth at.0.width = (l.memories at.0 (has_from_place g.memories m.0 at.0 at.1)).width in
      kept_adds g None (memory_width_at g m) (node.Read m a) l
      (λ _. (subst IsWidth (sym e) is, (width_at g a, has_its_width g a na, (at.0, at.1, sym e)))) refl

  pub kept_operation : (kind : OpKind) (args : List NodeId) → AreNodes g args → length args ≡ arity kind → Keeps g IsNode (operation kind args g)
  kept_operation kind args nodes many =
      let some : 1 ≤ length args = (let t : 1 ≤ arity kind = takes_some kind in omega (arith, t, many)) in
      let ws : List ℕ = widths_at g args in
      kept_adds g (op_rule ws) (op_width kind ws) (node.Op kind args) l
      (λ holds. (
        result_has_width kind (first_width ws) (first_is_width args nodes some),
        op_follows g kind args (first_width ws) nodes many (test_holds fault.WidthMismatch (are_equal ws) holds),
      )) refl
