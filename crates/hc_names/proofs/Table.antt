-- The table of the names given so far.
use Rattle.std.proofs.Common.{◌≡◌, ℕ, ◌+◌, ◌<◌, Bool, true, false, ◌⊎◌, List, [], ◌∷◌, ◌++◌, refl, sym, ap, ap₂, subst, ◌∙◌, inl, inr, arith, below_more}
use Rattle.std.specs.Prelude.{Option, Some, None, is_some, unwrap_or}
use Rattle.std.specs.Str.{bytes_eq}
use Rattle.std.specs.Map.{keys_of, lookup, set_value}
use Rattle.std.proofs.lemmas.Slice.Eq.{bytes_eq-Decides}
use Rattle.indexmap.specs.IndexMap.{insert_entry}
use Rattle.hc_signal.specs.Member.{Has, first, later}
use Rattle.hc_names.specs.Mangling.{numbered, IsMangled}
use Rattle.hc_names.specs.Numbers.{AreGivenBelow, AreNumbered}
use Rattle.hc_names.proofs.Members.{has_map, has_left, has_right, has_cases}

abbrev pub Entry : Type 0
Entry = List ℕ × ℕ

abbrev pub Entries : Type 0
Entries = List Entry

-- two names are equal or not
tested : (a b : List ℕ) → ((bytes_eq a b ≡ true) × (a ≡ b)) ⊎ (bytes_eq a b ≡ false)
tested a b = by (bytes_eq a b) refl
  where
    by : (t : Bool) → bytes_eq a b ≡ t → ((bytes_eq a b ≡ true) × (a ≡ b)) ⊎ (bytes_eq a b ≡ false)
    by true e = inl (e, (bytes_eq-Decides a b).0 e)
    by false e = inr e

-- a name that is found stands in the table with its number
pub found : (es : Entries) (name : List ℕ) (n : ℕ) → lookup (bytes_eq name) es ≡ Some n → Has es (name, n)
found [] name n e = absurd (cc)
found (x ∷ es) name n e =
    elim (tested name x.0) [
      | inl t ↦ let value : Some x.1 ≡ Some n = rw t.0 at e in let n_is : x.1 ≡ n = cc in let P : Entry → Type 0 = Has (x ∷ es) in subst P (ap₂ {C = Entry} (λ k v. (k, v)) (sym t.1) n_is) first
      | inr t ↦ let rest : lookup (bytes_eq name) es ≡ Some n = rw t at e in later (found es name n rest)
    ]

-- a name that is not found is no name of the table
pub not_found : (es : Entries) (name : List ℕ) → lookup (bytes_eq name) es ≡ None → ¬ Has (keys_of es) name
not_found [] name e h = elim h [ ]
not_found (x ∷ es) name e h =
    elim (tested name x.0) [
      | inl t ↦ let value : Some x.1 ≡ None = rw t.0 at e in absurd (cc)
      | inr t ↦ let rest : lookup (bytes_eq name) es ≡ None = rw t at e in unfound x es name t (not_found es name rest) h
    ]
  where
    unfound : (x : Entry) (es : Entries) (name : List ℕ) → bytes_eq name x.0 ≡ false → (Has (keys_of es) name → ⊥) → Has (x.0 ∷ keys_of es) name → ⊥
    unfound x es _ t rest first = let yes : bytes_eq x.0 x.0 ≡ true = (bytes_eq-Decides x.0 x.0).1 refl in let no : true ≡ false = sym yes ∙ t in cc
    unfound x es name t rest (later h) = rest h

-- a new name goes to the end
pub insert_new : (es : Entries) (name : List ℕ) (n : ℕ) → lookup (bytes_eq name) es ≡ None → insert_entry bytes_eq es name n ≡ es ++ (name, n) ∷ []
insert_new [] name n e = refl
insert_new (x ∷ es) name n e =
    elim (tested name x.0) [
      | inl t ↦ let value : Some x.1 ≡ None = rw t.0 at e in absurd (cc)
      | inr t ↦ let rest : lookup (bytes_eq name) es ≡ None = rw t at e in rw t (ap (λ l. x ∷ l) (insert_new es name n rest))
    ]

-- a number for a name that is not there changes nothing
pub set_unfound : (es : Entries) (name : List ℕ) (n : ℕ) → lookup (bytes_eq name) es ≡ None → es ≡ set_value (bytes_eq name) es n
set_unfound [] name n e = refl
set_unfound (x ∷ es) name n e =
    elim (tested name x.0) [
      | inl t ↦ let value : Some x.1 ≡ None = rw t.0 at e in absurd (cc)
      | inr t ↦ let rest : lookup (bytes_eq name) es ≡ None = rw t at e in rw t (ap (λ l. x ∷ l) (set_unfound es name n rest))
    ]

pub keys_added : (es : Entries) (name : List ℕ) (n : ℕ) → keys_of (es ++ (name, n) ∷ []) ≡ keys_of es ++ name ∷ []
keys_added [] name n = refl
keys_added (x ∷ es) name n = ap (λ l. x.0 ∷ l) (keys_added es name n)

-- a new number leaves the names as they are
pub keys_set : (es : Entries) (name : List ℕ) (n : ℕ) → keys_of (set_value (bytes_eq name) es n) ≡ keys_of es
keys_set [] name n = refl
keys_set (x ∷ es) name n =
    elim (tested name x.0) [
      | inl t ↦ rw t.0 refl
      | inr t ↦ rw t (ap (λ l. x.0 ∷ l) (keys_set es name n))
    ]

-- What stands in the table after a new number stood there before, or is the name with that number.
set_cases : (es : Entries) (name : List ℕ) (n : ℕ) (e : Entry) → Has (set_value (bytes_eq name) es n) e → Has es e ⊎ (e ≡ (name, n))
set_cases [] name n e h = elim h [ ]
set_cases (x ∷ es) name n e h =
    elim (tested name x.0) [
      | inl t ↦ let k : Has ((x.0, n) ∷ es) e = rw t.0 at h in head x es name n e t.1 k
      | inr t ↦ let k : Has (x ∷ set_value (bytes_eq name) es n) e = rw t at h in tail x es name n e (set_cases es name n e) k
    ]
  where
    head : (x : Entry) (es : Entries) (name : List ℕ) (n : ℕ) (e : Entry) → name ≡ x.0 → Has ((x.0, n) ∷ es) e → Has (x ∷ es) e ⊎ (e ≡ (name, n))
    head x es name n _ same first = inr (ap (λ (k : List ℕ). (k, n)) (sym same))
    head x es name n e same (later k) = inl (later k)

    tail : (x : Entry) (es : Entries) (name : List ℕ) (n : ℕ) (e : Entry) → (Has (set_value (bytes_eq name) es n) e → Has es e ⊎ (e ≡ (name, n)))
        → Has (x ∷ set_value (bytes_eq name) es n) e → Has (x ∷ es) e ⊎ (e ≡ (name, n))
    tail x es name n _ rest first = inl first
    tail x es name n e rest (later k) = elim (rest k) [ inl l ↦ inl (later l) | inr r ↦ inr r ]

-- the numbers stay right when a name is added
pub numbered_added : (es : Entries) (name : List ℕ) → AreNumbered es → AreNumbered (es ++ (name, 0) ∷ [])
numbered_added es name right other n h j lt = elim (has_cases es ((name, 0) ∷ []) h) [
  | inl k ↦ subst (λ ks. Has ks (numbered other j)) (sym (keys_added es name 0)) (has_left (name ∷ []) (right other n k j lt))
  | inr k ↦ absurd (no_number other n j k lt)
]
  where
    no_number : (other : List ℕ) (n j : ℕ) → Has {X = Entry} ((name, 0) ∷ []) (other, n) → j < n → ⊥
    no_number _ _ j first lt = omega (arith, lt)
    no_number other n j (later k) lt = elim k [ ]

-- The numbers stay right when the name with the first free number is added, and the next number set.
pub numbered_next : (es : Entries) (name given : List ℕ) (k : ℕ) → AreNumbered es → given ≡ numbered name k → AreGivenBelow (keys_of es) name k
    → AreNumbered (set_value (bytes_eq name) (es ++ (given, 0) ∷ []) (k + 1))
numbered_next es name given k right named below other n h j lt =
    subst (λ ks. Has ks (numbered other j)) (sym (keys_set (es ++ (given, 0) ∷ []) name (k + 1)))
    (elim (set_cases (es ++ (given, 0) ∷ []) name (k + 1) (other, n) h) [
      | inl old ↦ numbered_added es given right other n old j lt
      | inr new ↦ subst (λ ks. Has ks (numbered other j)) (sym (keys_added es given 0)) (at_name new)
    ])
  where
    at_name : ◌≡◌ {A = Entry} (other, n) (name, k + 1) → Has (keys_of es ++ given ∷ []) (numbered other j)
    at_name new =
        let same : other ≡ name = ap (λ (e : Entry). e.0) new in
        let number : n ≡ k + 1 = ap (λ (e : Entry). e.1) new in
        let there : (i : ℕ) → i < k + 1 → Has (keys_of es ++ given ∷ []) (numbered name i) =
        below_more (λ i. Has (keys_of es ++ given ∷ []) (numbered name i)) k (λ i l. has_left (given ∷ []) (below i l))
        (subst (λ (g : List ℕ). Has (keys_of es ++ given ∷ []) g) named (has_right (keys_of es) first)) in
        subst (λ (o : List ℕ). Has (keys_of es ++ given ∷ []) (numbered o j)) (sym same) (there j (omega arith))

-- ---- what is given

pub mangled_free : (es : Entries) (name given : List ℕ) → lookup (bytes_eq name) es ≡ None → given ≡ name → IsMangled name (keys_of es) given
mangled_free es name given free e = inl (not_found es name free, e)

pub mangled_numbered : (es : Entries) (name given : List ℕ) (from k : ℕ) → lookup (bytes_eq name) es ≡ Some from → lookup (bytes_eq given) es ≡ None
    → given ≡ numbered name k → AreGivenBelow (keys_of es) name k → IsMangled name (keys_of es) given
mangled_numbered es name given from k there free named below =
    inr (has_map (λ (e : Entry). e.0) (found es name from there), (k, named, not_found es given free, below))

-- the numbers of a name in the table
pub given_below : (es : Entries) (name : List ℕ) (from : ℕ) → AreNumbered es → lookup (bytes_eq name) es ≡ Some from → AreGivenBelow (keys_of es) name from
given_below es name from right there = right name from (found es name from there)

-- one number more
pub given_one_more : (es : Entries) (name given : List ℕ) (k : ℕ) → is_some (lookup (bytes_eq given) es) ≡ true → given ≡ numbered name k
    → AreGivenBelow (keys_of es) name k → AreGivenBelow (keys_of es) name (k + 1)
given_one_more es name given k there named below =
    below_more (λ j. Has (keys_of es) (numbered name j)) k below (subst (λ (g : List ℕ). Has (keys_of es) g) named (has_map (λ (x : Entry). x.0) (some_found (lookup (bytes_eq given) es) refl there)))
  where
    some_found : (r : Option ℕ) → lookup (bytes_eq given) es ≡ r → is_some r ≡ true → Has es (given, unwrap_or r 0)
    some_found None e n = absurd (cc)
    some_found (Some number) e n = found es given number e
