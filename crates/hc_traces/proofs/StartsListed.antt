-- Lists of all that fits a description, each once.
use Rattle.std.proofs.Common.{◌≡◌, Bool, true, false, true≢false, ◌⊎◌, List, [], ◌∷◌, ◌++◌, refl, sym, subst, ◌∙◌, ap, inl, inr}
use Rattle.hc_signal.specs.Member.{Has, first, later}
use Rattle.hc_walk.proofs.Members.{has_left, has_right, has_cases}
use Rattle.hc_walk.proofs.Walks.{AllDifferent}

pub record Listed {X : Type 0} (P : X → Type 0) : Type 0 where
  pub list : List X
  pub sound : (x : X) → Has list x → P x
  pub complete : (x : X) → P x → Has list x
  pub once : AllDifferent list

-- the same, described in another way
pub listed_as : {X : Type 0} {P Q : X → Type 0} → ((x : X) → P x → Q x) → ((x : X) → Q x → P x) → Listed P → Listed Q
listed_as f h l = record { list = l.list; sound = λ x k. f x (l.sound x k); complete = λ x q. l.complete x (h x q); once = l.once }

pub listed_none : {X : Type 0} {P : X → Type 0} → ((x : X) → P x → ⊥) → Listed P
listed_none never = record { list = []; sound = λ x h. elim h [ ]; complete = λ x p. absurd (never x p); once = tt }

is_one : {X : Type 0} (a x : X) → Has (a ∷ []) x → a ≡ x
is_one a _ first = refl
is_one a x (later h) = elim h [ ]

pub listed_one : {X : Type 0} (a : X) → Listed (λ (x : X). a ≡ x)
listed_one a = record { list = a ∷ []; sound = is_one a; complete = λ x e. subst (Has (a ∷ [])) e first; once = ((λ h. elim h [ ]), tt) }

-- two lists without a common element
all_different : {X : Type 0} (xs ys : List X) → AllDifferent xs → AllDifferent ys → ((x : X) → Has xs x → Has ys x → ⊥) → AllDifferent (xs ++ ys)
all_different [] ys d e apart = e
all_different (x ∷ xs) ys d e apart = ((λ h. elim (has_cases xs ys h) [ inl a ↦ d.0 a | inr b ↦ apart x first b ]), all_different xs ys d.1 e (λ z a b. apart z (later a) b))

pub listed_both : {X : Type 0} {P Q : X → Type 0} → Listed P → Listed Q → ((x : X) → P x → Q x → ⊥) → Listed (λ (x : X). P x ⊎ Q x)
listed_both {X} {P} {Q} l m apart = record {
  list = l.list ++ m.list;
  sound = λ x h. elim (has_cases l.list m.list h) [ inl a ↦ inl (l.sound x a) | inr b ↦ inr (m.sound x b) ];
  complete = complete;
  once = all_different l.list m.list l.once m.once (λ x a b. apart x (l.sound x a) (m.sound x b));
}
  where
    complete : (x : X) → P x ⊎ Q x → Has (l.list ++ m.list) x
    complete x (inl p) = has_left m.list (l.complete x p)
    complete x (inr q) = has_right l.list (m.complete x q)

-- for each of a list, all that belong to it
module _ {X Y : Type 0} (Q : X → Y → Type 0) (apart : (x z : X) (y : Y) → Q x y → Q z y → x ≡ z) where
  abbrev OfSome : List X → Y → Type 0
  OfSome xs y = (x : X) × Has xs x × Q x y

  of_first : (x : X) (xs : List X) (y : Y) → Q x y ⊎ OfSome xs y → OfSome (x ∷ xs) y
  of_first x xs y (inl q) = (x, first, q)
  of_first x xs y (inr u) = (u.0, later u.1, u.2)

  of_rest : (x : X) (xs : List X) (y : Y) (z : X) → Has (x ∷ xs) z → Q z y → Q x y ⊎ OfSome xs y
  of_rest x xs y _ first q = inl q
  of_rest x xs y z (later h) q = inr (z, h, q)

  gathered : (xs : List X) → AllDifferent xs → ((x : X) → Has xs x → Listed (Q x)) → Listed (OfSome xs)
  gathered [] d f = listed_none (λ y u. elim u.1 [ ])
  gathered (x ∷ xs) d f = listed_as (of_first x xs) (λ y u. of_rest x xs y u.0 u.1 u.2)
      (listed_both (f x first) (gathered xs d.1 (λ z h. f z (later h))) (λ y a b. d.0 (subst (Has xs) (sym (apart x b.0 y a b.2)) b.1)))

  pub listed_for_each : {P : X → Type 0} → Listed P → ((x : X) → P x → Listed (Q x)) → Listed (λ (y : Y). (x : X) × P x × Q x y)
  listed_for_each l f = listed_as (λ y u. (u.0, l.sound u.0 u.1, u.2)) (λ y u. (u.0, l.complete u.0 u.1, u.2)) (gathered l.list l.once (λ x h. f x (l.sound x h)))

-- those that pass a test
passing : {X : Type 0} (test : X → Bool) (x : X) (b : Bool) → test x ≡ b → Listed (λ (y : X). (x ≡ y) × (test y ≡ true))
passing test x true e = listed_as (λ y q. (q, ap test (sym q) ∙ e)) (λ y u. u.0) (listed_one x)
passing test x false e = listed_none (λ y u. true≢false (sym u.1 ∙ ap test (sym u.0) ∙ e))

pub listed_where : {X : Type 0} {P : X → Type 0} (test : X → Bool) → Listed P → Listed (λ (x : X). P x × (test x ≡ true))
listed_where {X} {P} test l = listed_as (λ y u. (subst P u.2.0 u.1, u.2.1)) (λ y p. (y, p.0, (refl, p.1)))
    (listed_for_each (λ (x y : X). (x ≡ y) × (test y ≡ true)) (λ x z y a b. a.0 ∙ sym b.0) l (λ x p. passing test x (test x) refl))

-- each with its value
pub listed_with : {X Y : Type 0} {P : X → Type 0} (f : X → Y) → Listed P → Listed (λ (e : X × Y). P e.0 × (f e.0 ≡ e.1))
listed_with {X} {Y} {P} f l = listed_as (λ e u. subst (λ (z : X × Y). P z.0 × (f z.0 ≡ z.1)) u.2 (u.1, refl)) (λ e p. (e.0, p.0, ap (λ (y : Y). (e.0, y)) p.1))
    (listed_for_each (λ (x : X) (e : X × Y). (x, f x) ≡ e) (λ x z e a b. ap (λ (u : X × Y). u.0) (a ∙ sym b)) l (λ x p. listed_one (x, f x)))
