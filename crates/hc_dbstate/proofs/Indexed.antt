-- The index lists the places of the entries by the low bits of their hash.
use Rattle.std.proofs.Common.{◌≡◌, ◌≢◌, ◌+◌, ◌++◌, ℕ, zero, suc, Bool, true, false, cond, List, [], ◌∷◌, nat_eq, length, ap, ap₂, sym, subst, ◌∙◌, arith, zero-add}
use Rattle.std.specs.Prelude.{All, slice_get, Option, Some, None, MatchOption}
use Rattle.std.specs.List.{AllByRecursion}
use Rattle.std.proofs.lemmas.List.Elements.{recursion_from_All}
use Rattle.std.specs.Cmp.{unsigned_Decides}
use Rattle.hc_signal.specs.Member.{Has, first, later}
use Rattle.hc_canon.specs.FormView.{FormView}
use Rattle.hc_dbstate.specs.Places.{key_of, places_from}
use Rattle.hc_dbstate.proofs.Triples.{some_once}

-- each entry is listed by its key
listed_there : (bits : ℕ) (h i : ℕ) (xs : List FormView) (j : ℕ) (x : FormView) → slice_get xs j ≡ Some x → key_of bits x ≡ h → Has (places_from bits i h xs) (i + j)
listed_there bits h i [] j x e q = cc
listed_there bits h i (y ∷ xs) zero x e q =
    let yes : nat_eq (key_of bits y) h ≡ true = (unsigned_Decides (key_of bits y) h).1 (ap (key_of bits) (some_once e) ∙ q) in
    let z : i ≡ i + 0 = omega arith in
    subst (λ b. Has (cond b (i ∷ places_from bits (i + 1) h xs) (places_from bits (i + 1) h xs)) (i + 0)) (sym yes) (subst (λ n. Has (i ∷ places_from bits (i + 1) h xs) n) z first)
listed_there bits h i (y ∷ xs) (suc j) x e q =
    let z : i + 1 + j ≡ i + suc j = omega arith in
    go (nat_eq (key_of bits y) h) (subst (λ n. Has (places_from bits (i + 1) h xs) n) z (listed_there bits h (i + 1) xs j x e q))
  where
    go : (b : Bool) → Has (places_from bits (i + 1) h xs) (i + suc j) → Has (cond b (i ∷ places_from bits (i + 1) h xs) (places_from bits (i + 1) h xs)) (i + suc j)
    go true k = later k
    go false k = k

of_all : {X : Type 0} (P : X → Type 0) (xs : List X) (x : X) → AllByRecursion P xs → Has xs x → P x
of_all P [] x a h = elim h [ ]
of_all P (y ∷ xs) x a first = a.0
of_all P (y ∷ xs) x a (later h) = of_all P xs x a.1 h

-- a form that stands at none of the places of its key stands nowhere
pub none_elsewhere : (bits : ℕ) (h : ℕ) (xs : List FormView) (ps : List ℕ) (x : FormView) → ps ≡ places_from bits 0 h xs → h ≡ key_of bits x
    → All (λ p. slice_get xs p ≢ Some x) ps → (j : ℕ) → slice_get xs j ≢ Some x
none_elsewhere bits h xs ps x e q a j k =
    let z : 0 + j ≡ j = omega arith in
    let listed : Has ps j = subst (λ l. Has l j) (sym e) (subst (λ m. Has (places_from bits 0 h xs) m) z (listed_there bits h 0 xs j x k (sym q))) in
    of_all (λ p. slice_get xs p ≢ Some x) ps j (recursion_from_All (λ p. slice_get xs p ≢ Some x) ps a) listed k

pub on_none : {X : Type 0} (P Q : Type 0) (R : X → Type 0) → (P → Q) → (o : Option X) → MatchOption o P R → MatchOption o Q R
on_none P Q R f None h = f h
on_none P Q R f (Some x) h = h

places_push : (bits : ℕ) (h i : ℕ) (xs : List FormView) (e : FormView)
    → places_from bits i h (xs ++ e ∷ []) ≡ cond (nat_eq (key_of bits e) h) (places_from bits i h xs ++ (i + length xs) ∷ []) (places_from bits i h xs)
places_push bits h i [] e = ap (λ n. cond (nat_eq (key_of bits e) h) (n ∷ []) []) (omega arith)
places_push bits h i (x ∷ xs) e = go (nat_eq (key_of bits x) h) (nat_eq (key_of bits e) h) (places_push bits h (i + 1) xs e) (omega arith)
  where
    go : (a b : Bool) → places_from bits (i + 1) h (xs ++ e ∷ []) ≡ cond b (places_from bits (i + 1) h xs ++ (i + 1 + length xs) ∷ []) (places_from bits (i + 1) h xs)
        → i + 1 + length xs ≡ i + length (x ∷ xs)
        → cond a (i ∷ places_from bits (i + 1) h (xs ++ e ∷ [])) (places_from bits (i + 1) h (xs ++ e ∷ []))
        ≡ cond b (cond a (i ∷ places_from bits (i + 1) h xs) (places_from bits (i + 1) h xs) ++ (i + length (x ∷ xs)) ∷ []) (cond a (i ∷ places_from bits (i + 1) h xs) (places_from bits (i + 1) h xs))
    go true true more n = ap (λ ps. i ∷ ps) (more ∙ ap (λ k. places_from bits (i + 1) h xs ++ k ∷ []) n)
    go true false more n = ap (λ ps. i ∷ ps) more
    go false true more n = more ∙ ap (λ k. places_from bits (i + 1) h xs ++ k ∷ []) n
    go false false more n = more

-- one entry more
pub places_after : (bits : ℕ) (h : ℕ) (xs ys : List FormView) (x : FormView) (key k : ℕ) (now old : List ℕ) → ys ≡ xs ++ x ∷ [] → key ≡ key_of bits x → k ≡ length xs
    → old ≡ places_from bits 0 h xs → now ≡ cond (nat_eq key h) (old ++ k ∷ []) old → now ≡ places_from bits 0 h ys
places_after bits h xs ys x key k now old a b c d e =
    e ∙ ap (λ n. cond (nat_eq n h) (old ++ k ∷ []) old) b ∙ ap₂ (λ ps n. cond (nat_eq (key_of bits x) h) (ps ++ n ∷ []) ps) d c
    ∙ sym (places_push bits h 0 xs x ∙ ap (λ n. cond (nat_eq (key_of bits x) h) (places_from bits 0 h xs ++ n ∷ []) (places_from bits 0 h xs)) (zero-add (length xs)))
    ∙ ap (places_from bits 0 h) (sym a)
