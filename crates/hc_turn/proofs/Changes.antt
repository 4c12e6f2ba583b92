-- What is summed up, listed and true over all passes, when one of them changes.
use Rattle.std.proofs.Common.{◌≡◌, ◌≢◌, ℕ, zero, suc, ◌+◌, ◌<◌, ◌≤◌, List, [], ◌∷◌, ◌++◌, length, get_or, set, refl, sym, ap, ◌∙◌, subst, append-nil, append_assoc, IsPermutation, arith}
use Rattle.std.specs.List.{All, sum_by, flat_map}
use Rattle.std.proofs.lemmas.List.{set-set, set_comm}
use Rattle.std.proofs.lemmas.List.Sums.{sum_by-cons, sum_by-set, get_or-le-sum_by}
use Rattle.std.proofs.lemmas.List.Elements.{All-head, All-tail}
use Rattle.std.proofs.lemmas.List.Sorted.{IsPermutation-sym, IsPermutation-trans, IsPermutation-append_right, IsPermutation-append_comm}
use mathlib.Core.Option.{some, some-injective, some-ne-none}
use lib.ListN.{get_elem?}
use Rattle.crossbeam_queue.proofs.Lists.{set_here, set_else, set_again}

module _ {V : Type 0} where
  pub there : (views : List V) (k : ℕ) (v : V) → get_elem? views k ≡ some v → (k < length views) × (get_or views k v ≡ v)
  there [] k v at = absurd (some-ne-none v (sym at))
  there (x ∷ xs) zero v at = (omega arith, some-injective x v at)
  there (x ∷ xs) (suc k) v at = let t = there xs k v at in (omega arith, t.1)

  pub All-there : (P : V → Type 0) (views : List V) (k : ℕ) (v : V) → get_elem? views k ≡ some v → All P views → P v
  All-there P views k v at all = let t = there views k v at in subst P t.1 (all k v t.0)

  pub sum_at : (f : V → ℕ) (views : List V) (k : ℕ) (v w : V) → get_elem? views k ≡ some v → sum_by f (set views k w) + f v ≡ sum_by f views + f w
  sum_at f views k v w at =
      let t = there views k v at in
      let same : f (get_or views k v) ≡ f v = ap f t.1 in
      let s = sum_by-set f views k w v t.0 in omega arith

  pub part_at : (f : V → ℕ) (views : List V) (k : ℕ) (v : V) → get_elem? views k ≡ some v → f v ≤ sum_by f views
  part_at f views k v at =
      let t = there views k v at in
      let same : f (get_or views k v) ≡ f v = ap f t.1 in
      let s = get_or-le-sum_by f views k v t.0 in omega arith

  module _ {A : Type 0} where
    -- where the lists are empty wherever f is 0, and f is 0 everywhere, there is nothing in them
    nothing : (f : V → ℕ) (g : V → List A) (views : List V) → All (λ u. f u ≡ 0 → g u ≡ []) views → sum_by f views ≡ 0 → flat_map g views ≡ []
    nothing f g [] idle none = refl
    nothing f g (x ∷ xs) idle none =
        let s = sum_by-cons f x xs in
        let P : V → Type 0 = λ u. f u ≡ 0 → g u ≡ [] in
        let here : g x ≡ [] = All-head P x xs idle (omega arith) in
        ap (λ l. l ++ flat_map g xs) here ∙ nothing f g xs (All-tail P x xs idle) (omega arith)

    -- where one has all of f, it has all that is in the lists
    pub alone : (f : V → ℕ) (g : V → List A) (views : List V) (k : ℕ) (v : V) → get_elem? views k ≡ some v → All (λ u. f u ≡ 0 → g u ≡ []) views → sum_by f views ≡ f v → flat_map g views ≡ g v
    alone f g [] k v at idle all = absurd (some-ne-none v (sym at))
    alone f g (x ∷ xs) zero v at idle all =
        let s = sum_by-cons f x xs in
        let P : V → Type 0 = λ u. f u ≡ 0 → g u ≡ [] in
        let same : x ≡ v = some-injective x v at in
        let e : f x ≡ f v = ap f same in
        let rest : flat_map g xs ≡ [] = nothing f g xs (All-tail P x xs idle) (omega arith) in
        ap (λ l. g x ++ l) rest ∙ append-nil (g x) ∙ ap g same
    alone f g (x ∷ xs) (suc k) v at idle all =
        let s = sum_by-cons f x xs in
        let p = part_at f xs k v at in
        let P : V → Type 0 = λ u. f u ≡ 0 → g u ≡ [] in
        let here : g x ≡ [] = All-head P x xs idle (omega arith) in
        ap (λ l. l ++ flat_map g xs) here ∙ alone f g xs k v at (All-tail P x xs idle) (omega arith)

    -- one list grows at its end
    pub grown : (g : V → List A) (views : List V) (k : ℕ) (v w : V) (new : List A) → get_elem? views k ≡ some v → g w ≡ g v ++ new → IsPermutation (flat_map g views ++ new) (flat_map g (set views k w))
    grown g [] k v w new at more = absurd (some-ne-none v (sym at))
    grown g (x ∷ xs) zero v w new at more =
        let rest = flat_map g xs in
        let here : g x ≡ g v = ap g (some-injective x v at) in
        let old : (g x ++ rest) ++ new ≡ g x ++ (rest ++ new) = append_assoc (g x) rest new in
        let is : g x ++ (new ++ rest) ≡ g w ++ rest = sym (append_assoc (g x) new rest) ∙ ap (λ l. (l ++ new) ++ rest) here ∙ ap (λ l. l ++ rest) (sym more) in
        subst (λ l. IsPermutation l (g w ++ rest)) (sym old) (subst (λ l. IsPermutation (g x ++ (rest ++ new)) l) is (IsPermutation-append_right (g x) (rest ++ new) (new ++ rest) (IsPermutation-append_comm rest new)))
    grown g (x ∷ xs) (suc k) v w new at more =
        let old : (g x ++ flat_map g xs) ++ new ≡ g x ++ (flat_map g xs ++ new) = append_assoc (g x) (flat_map g xs) new in
        subst (λ l. IsPermutation l (g x ++ flat_map g (set xs k w))) (sym old) (IsPermutation-append_right (g x) (flat_map g xs ++ new) (flat_map g (set xs k w)) (grown g xs k v w new at more))

    -- one list stays
    pub kept_at : (g : V → List A) (views : List V) (k : ℕ) (v w : V) → get_elem? views k ≡ some v → g w ≡ g v → flat_map g (set views k w) ≡ flat_map g views
    kept_at g [] k v w at same = refl
    kept_at g (x ∷ xs) zero v w at same = ap (λ l. l ++ flat_map g xs) (same ∙ sym (ap g (some-injective x v at)))
    kept_at g (x ∷ xs) (suc k) v w at same = ap (λ l. g x ++ l) (kept_at g xs k v w at same)

    -- one list takes in another
    pub moved : (g : V → List A) (views : List V) (k j : ℕ) (v u both left : V) → get_elem? views k ≡ some v → get_elem? views j ≡ some u → j ≢ k → g both ≡ g v ++ g u → g left ≡ []
        → IsPermutation (flat_map g views) (flat_map g (set (set views k both) j left))
    moved g views k j v u both left at at' apart more none =
        let without : List V = set views j left in
        let back : set without j u ≡ views = set-set views j left u ∙ set_again views j u at' in
        let whole : IsPermutation (flat_map g without ++ g u) (flat_map g views) =
        subst (λ l. IsPermutation (flat_map g without ++ g u) (flat_map g l)) back (grown g without j left u (g u) (set_here views j left (there views j u at').0) (ap (λ l. l ++ g u) (sym none))) in
        let after : IsPermutation (flat_map g without ++ g u) (flat_map g (set without k both)) = grown g without k v both (g u) (set_else views j k left (λ e. apart (sym e)) ∙ at) more in
        subst (λ l. IsPermutation (flat_map g views) (flat_map g l)) (set_comm views j k left both apart) (IsPermutation-trans (flat_map g views) (flat_map g without ++ g u) (flat_map g (set without k both)) (IsPermutation-sym (flat_map g without ++ g u) (flat_map g views) whole) after)
