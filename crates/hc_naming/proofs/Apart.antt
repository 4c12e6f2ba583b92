-- Lists whose elements are all different.
use Rattle.std.proofs.Common.{◌≡◌, ℕ, ◌+◌, ◌≤◌, Bool, true, List, [], ◌∷◌, ◌++◌, map, filter, refl, sym, ◌∙◌, inl, inr, arith, ◌⊎◌}
use Rattle.std.specs.List.{enumerate_from}
use Rattle.hc_signal.specs.Member.{Has, first, later}
use Rattle.hc_names.proofs.Members.{has_right}
use Rattle.hc_naming.specs.ModuleNames.{Named, Wants}
use Rattle.hc_naming.proofs.Named.{Given, keys, choice}

abbrev pub AllDifferent : {X : Type 0} → List X → Type 0
AllDifferent [] = Unit {0}
AllDifferent (x ∷ xs) = ¬ Has xs x × AllDifferent xs

pub different_at : {X : Type 0} (xs : List X) (x : X) (ys : List X) → AllDifferent (xs ++ x ∷ ys) → ¬ Has xs x
different_at [] x ys d h = elim h [ ]
different_at (y ∷ xs) _ ys d first = d.0 (has_right xs first)
different_at (y ∷ xs) x ys d (later h) = different_at xs x ys d.1 h

pub has_keys : (xs ys : Wants) {z : Named} → Has (keys (xs ++ ys)) z → Has (keys xs) z ⊎ Has (keys ys) z
has_keys [] ys h = inr h
has_keys (x ∷ xs) ys first = inl first
has_keys (x ∷ xs) ys (later h) = elim (has_keys xs ys h) [ inl l ↦ inl (later l) | inr r ↦ inr r ]

pub different_append : (xs ys : Wants) → AllDifferent (keys xs) → AllDifferent (keys ys) → ((z : Named) → Has (keys xs) z → Has (keys ys) z → ⊥) → AllDifferent (keys (xs ++ ys))
different_append [] ys a b c = b
different_append (x ∷ xs) ys a b c =
    (λ h. elim (has_keys xs ys h) [ inl l ↦ a.0 l | inr r ↦ c x.0 first r ], different_append xs ys a.1 b (λ z l r. c z (later l) r))

kept : {X : Type 0} (p : X → Bool) (y : X) (xs : List X) (x : X) → p y ≡ true → (Has (filter p xs) x → Has xs x × (p x ≡ true)) → Has (y ∷ filter p xs) x → Has (y ∷ xs) x × (p x ≡ true)
kept p y xs _ e rest first = (first, e)
kept p y xs x e rest (later h) = let r : Has xs x × (p x ≡ true) = rest h in (later r.0, r.1)

-- what a filter leaves was there, and passes
pub has_filter : {X : Type 0} (p : X → Bool) (xs : List X) (x : X) → Has (filter p xs) x → Has xs x × (p x ≡ true)
has_filter p [] x h = elim h [ ]
has_filter p (y ∷ xs) x h =
    elim (choice (p y)) [
      | inl e ↦ kept p y xs x e (has_filter p xs x) (rw e at h)
      | inr e ↦ let r : Has xs x × (p x ≡ true) = has_filter p xs x (rw e at h) in (later r.0, r.1)
    ]

-- ---- pairs with rising numbers

abbrev pub IsRising : {X : Type 0} → ℕ → List (ℕ × X) → Type 0
IsRising a [] = Unit {0}
IsRising a (p ∷ ps) = (a ≤ p.0) × IsRising (p.0 + 1) ps

rising_from : {X : Type 0} (a b : ℕ) (ps : List (ℕ × X)) → a ≤ b → IsRising b ps → IsRising a ps
rising_from a b [] le r = tt
rising_from a b (p ∷ ps) le r = (omega (arith, r.0), r.1)

pub rising_enumerate : {X : Type 0} (a : ℕ) (xs : List X) → IsRising a (enumerate_from a xs)
rising_enumerate a [] = tt
rising_enumerate a (x ∷ xs) = (omega arith, rising_enumerate (a + 1) xs)

pub rising_filter : {X : Type 0} (q : ℕ × X → Bool) (a : ℕ) (ps : List (ℕ × X)) → IsRising a ps → IsRising a (filter q ps)
rising_filter q a [] r = tt
rising_filter q a (p ∷ ps) r =
    let rest : IsRising (p.0 + 1) (filter q ps) = rising_filter q (p.0 + 1) ps r.1 in
    elim (choice (q p)) [
      | inl e ↦ rw e (r.0, rest)
      | inr e ↦ rw e (rising_from a (p.0 + 1) (filter q ps) (omega (arith, r.0)) rest)
    ]

module _ {X : Type 0} (F : ℕ × X → Given) (h : ℕ → Named) (each : (p : ℕ × X) → (F p).0 ≡ h p.0) where
  pub rising_key : (a : ℕ) (ps : List (ℕ × X)) (z : Named) → IsRising a ps → Has (keys (map F ps)) z → (n : ℕ) × (a ≤ n) × (z ≡ h n)
  rising_key a [] z r k = elim k [ ]
  rising_key a (p ∷ ps) _ r first = (p.0, r.0, each p)
  rising_key a (p ∷ ps) z r (later k) = let more : (n : ℕ) × (p.0 + 1 ≤ n) × (z ≡ h n) = rising_key (p.0 + 1) ps z r.1 k in (more.0, omega (arith, r.0, more.1), more.2)

  pub rising_different : ((m n : ℕ) → h m ≡ h n → m ≡ n) → (a : ℕ) (ps : List (ℕ × X)) → IsRising a ps → AllDifferent (keys (map F ps))
  rising_different own a [] r = tt
  rising_different own a (p ∷ ps) r = (
    λ k. let more : (n : ℕ) × (p.0 + 1 ≤ n) × ((F p).0 ≡ h n) = rising_key (p.0 + 1) ps (F p).0 r.1 k in
        let e : p.0 ≡ more.0 = own p.0 more.0 (sym (each p) ∙ more.2) in omega (arith, more.1),
    rising_different own (p.0 + 1) ps r.1,
  )

-- ---- where a key comes from

pub has_mapped : {X : Type 0} (F : X → Given) (xs : List X) (z : Named) → Has (keys (map F xs)) z → (x : X) × Has xs x × (z ≡ (F x).0)
has_mapped F [] z h = elim h [ ]
has_mapped F (x ∷ xs) _ first = (x, first, refl)
has_mapped {X} F (x ∷ xs) z (later h) = let r : (y : X) × Has xs y × (z ≡ (F y).0) = has_mapped F xs z h in (r.0, later r.1, r.2)

pub rising_number : {X : Type 0} (a : ℕ) (ps : List (ℕ × X)) (p : ℕ × X) → IsRising a ps → Has ps p → a ≤ p.0
rising_number a [] p r h = elim h [ ]
rising_number a (q ∷ ps) _ r first = r.0
rising_number a (q ∷ ps) p r (later h) = let more : q.0 + 1 ≤ p.0 = rising_number (q.0 + 1) ps p r.1 h in omega (arith, r.0)
