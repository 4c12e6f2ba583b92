-- Lists without a repeated item, and what a list of pairs has for a key.
use Rattle.std.proofs.Common.{◌≡◌, ℕ, zero, suc, ◌+◌, ◌<◌, ◌≤◌, inl, inr, Bool, true, false, true≢false, cond, eqb-true, eq-eqb, List, [], ◌∷◌, ◌++◌, map, refl, sym, subst, ◌∙◌, ap, ap₂, arith}
use Rattle.std.specs.Prelude.{◌&&◌, ◌==◌, if◌then◌else◌, nat_eq, slice_get, Some, option_map}
use Rattle.std.specs.List.{filter, range_with_len}
use Rattle.std.specs.Cmp.Lexicographic.{pointwise}
use Rattle.std.proofs.lemmas.Option.{slice_get-map}
use Rattle.hc_signal.specs.Member.{Has, first, later}
use Rattle.hc_signal.specs.Occurrences.{Occurrence}
use Rattle.hc_walk.proofs.Members.{has_cases, has_from_map, has_map}
use Rattle.hc_walk.proofs.Walks.{AllDifferent, one_place}
use Rattle.hc_bench.specs.Simulation.{look_up, same_occurrence}

-- ---- lists without a repeated item

pub differ_both : {X : Type 0} (xs ys : List X) → AllDifferent xs → AllDifferent ys → ((x : X) → Has xs x → Has ys x → ⊥) → AllDifferent (xs ++ ys)
differ_both [] ys d e apart = e
differ_both (x ∷ xs) ys d e apart = ((λ h. elim (has_cases xs ys h) [ inl a ↦ d.0 a | inr b ↦ apart x first b ]), differ_both xs ys d.1 e (λ z a b. apart z (later a) b))

pub differ_map : {X Y : Type 0} (f : X → Y) → ((a b : X) → f a ≡ f b → a ≡ b) → (xs : List X) → AllDifferent xs → AllDifferent (map f xs)
differ_map f one [] d = tt
differ_map {X} {Y} f one (x ∷ xs) d = (alone, differ_map f one xs d.1)
  where
    alone : ¬ Has (map f xs) (f x)
    alone h = let u : (z : X) × Has xs z × (f z ≡ f x) = has_from_map f xs (f x) h in d.0 (subst (λ z. Has xs z) (one u.0 x u.2) u.1)

module _ {X : Type 0} (test : X → Bool) where
  passed : (b : Bool) (y : X) (kept xs : List X) (x : X) → test y ≡ b → ((z : X) → Has kept z → Has xs z × (test z ≡ true)) → Has (cond b (y ∷ kept) kept) x → Has (y ∷ xs) x × (test x ≡ true)
  passed true y kept xs _ e more first = (first, e)
  passed true y kept xs x e more (later h) = (later (more x h).0, (more x h).1)
  passed false y kept xs x e more h = (later (more x h).0, (more x h).1)

  pub has_filter : (xs : List X) (x : X) → Has (filter test xs) x → Has xs x × (test x ≡ true)
  has_filter [] x h = elim h [ ]
  has_filter (y ∷ xs) x h = passed (test y) y (filter test xs) xs x refl (λ z k. has_filter xs z k) h

  passes : (b : Bool) (y : X) (kept : List X) (x : X) → Has kept x → Has (cond b (y ∷ kept) kept) x
  passes true y kept x h = later h
  passes false y kept x h = h

  pub filter_has : (xs : List X) (x : X) → Has xs x → test x ≡ true → Has (filter test xs) x
  filter_has [] x h t = elim h [ ]
  filter_has (y ∷ xs) _ first t = subst (λ b. Has (cond b (y ∷ filter test xs) (filter test xs)) y) (sym t) first
  filter_has (y ∷ xs) x (later h) t = passes (test y) y (filter test xs) x (filter_has xs x h t)

  differ_if : (b : Bool) (y : X) (kept : List X) → ¬ Has kept y → AllDifferent kept → AllDifferent (cond b (y ∷ kept) kept)
  differ_if true y kept n d = (n, d)
  differ_if false y kept n d = d

  pub differ_filter : (xs : List X) → AllDifferent xs → AllDifferent (filter test xs)
  differ_filter [] d = tt
  differ_filter (y ∷ xs) d = differ_if (test y) y (filter test xs) (λ h. d.0 (has_filter xs y h).0) (differ_filter xs d.1)

-- ---- ranges

pub has_range : (a n k : ℕ) → Has (range_with_len a n) k → (a ≤ k) × (k < a + n)
has_range a zero k h = elim h [ ]
has_range a (suc n) _ first = (omega arith, omega arith)
has_range a (suc n) k (later h) = let r : (a + 1 ≤ k) × (k < a + 1 + n) = has_range (a + 1) n k h in (omega (arith, r.0), omega (arith, r.1))

pub range_has : (a n i : ℕ) → i < n → Has (range_with_len a n) (a + i)
range_has a zero i h = absurd (omega (arith, h))
range_has a (suc n) zero h = let z : a ≡ a + 0 = omega arith in subst (λ (k : ℕ). Has (a ∷ range_with_len (a + 1) n) k) z first
range_has a (suc n) (suc i) h =
    let lower : i < n = omega (arith, h) in
    let z : a + 1 + i ≡ a + suc i = omega arith in
    subst (λ (k : ℕ). Has (a ∷ range_with_len (a + 1) n) k) z (later (range_has (a + 1) n i lower))

pub differ_range : (a n : ℕ) → AllDifferent (range_with_len a n)
differ_range a zero = tt
differ_range a (suc n) = ((λ h. (let r : a + 1 ≤ a = (has_range (a + 1) n a h).0 in omega (arith, r))), differ_range (a + 1) n)

-- the place of an item
pub place_in : {X : Type 0} (xs : List X) (x : X) → Has xs x → (k : ℕ) × (slice_get xs k ≡ Some x)
place_in _ x first = (0, refl)
place_in (y ∷ xs) x (later h) = let r : (k : ℕ) × (slice_get xs k ≡ Some x) = place_in xs x h in (suc r.0, r.1)

-- a list that has each item at one place only
pub once_differ : {X : Type 0} (xs : List X) → ((i j : ℕ) (x : X) → slice_get xs i ≡ Some x → slice_get xs j ≡ Some x → i ≡ j) → AllDifferent xs
once_differ [] once = tt
once_differ {X} (x ∷ xs) once = (alone, once_differ xs (λ i j y a b. let e : suc i ≡ suc j = once (suc i) (suc j) y a b in omega (arith, e)))
  where
    alone : ¬ Has xs x
    alone h =
        let k : (k : ℕ) × (slice_get xs k ≡ Some x) = place_in xs x h in
        let e : 0 ≡ suc k.0 = once 0 (suc k.0) x refl k.1 in absurd (omega (arith, e))

-- ---- what a list of pairs has for a key

and_left : (a b : Bool) → (a && b) ≡ true → a ≡ true
and_left true b e = refl
and_left false b e = e

and_right : (a b : Bool) → (a && b) ≡ true → b ≡ true
and_right true b e = e
and_right false b e = absurd (true≢false (sym e))

path_equal : (xs ys : List ℕ) → pointwise nat_eq xs ys ≡ true → xs ≡ ys
path_equal [] [] e = refl
path_equal [] (y ∷ ys) e = absurd (true≢false (sym e))
path_equal (x ∷ xs) [] e = absurd (true≢false (sym e))
path_equal (x ∷ xs) (y ∷ ys) e = ap₂ (λ a b. a ∷ b) (eqb-true x y (and_left (nat_eq x y) (pointwise nat_eq xs ys) e)) (path_equal xs ys (and_right (nat_eq x y) (pointwise nat_eq xs ys) e))

path_itself : (xs : List ℕ) → pointwise nat_eq xs xs ≡ true
path_itself [] = refl
path_itself (x ∷ xs) = ap₂ (λ a b. a && b) (eq-eqb x x refl) (path_itself xs)

same_equal : (s r : Occurrence) → same_occurrence s r ≡ true → s ≡ r
same_equal s r e =
    ap₂ (λ a b. record { path = a; node = b }) (path_equal s.path r.path (and_left (pointwise nat_eq s.path r.path) (s.node == r.node) e))
    (eqb-true s.node r.node (and_right (pointwise nat_eq s.path r.path) (s.node == r.node) e))

same_itself : (s : Occurrence) → same_occurrence s s ≡ true
same_itself s = ap₂ (λ a b. a && b) (path_itself s.path) (eq-eqb s.node s.node refl)

abbrev pub key : {X : Type 0} → Occurrence × X → Occurrence
key e = e.0

module _ {X : Type 0} (d : X) where
  held_later : (b : Bool) (f e : Occurrence × X) (es : List (Occurrence × X)) → same_occurrence f.0 e.0 ≡ b → ¬ Has (map key es) (key f) → Has es e → look_up d es e.0 ≡ e.1
      → (if b then f.1 else look_up d es e.0) ≡ e.1
  held_later true f e es t n h rest = absurd (n (subst (λ (s : Occurrence). Has (map key es) s) (sym (same_equal f.0 e.0 t)) (has_map key h)))
  held_later false f e es t n h rest = rest

  pub held : (es : List (Occurrence × X)) (e : Occurrence × X) → AllDifferent (map key es) → Has es e → look_up d es e.0 ≡ e.1
  held [] e k h = elim h [ ]
  held (e ∷ es) _ k first = ap (λ (b : Bool). if b then e.1 else look_up d es e.0) (same_itself e.0)
  held (f ∷ es) e k (later h) = held_later (same_occurrence f.0 e.0) f e es refl k.0 h (held es e k.1 h)

pub key_once : {X : Type 0} (es : List (Occurrence × X)) → AllDifferent (map key es) → (i j : ℕ) (s : Occurrence) (x y : X) → slice_get es i ≡ Some (s, x) → slice_get es j ≡ Some (s, y) → i ≡ j
key_once {X} es d i j s x y a b = one_place (map key es) d i j s (slice_get-map key es i ∙ ap (option_map key) a) (slice_get-map key es j ∙ ap (option_map key) b)
