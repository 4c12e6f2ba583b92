-- Names exist: each name has a mangled form, and calls have names.
use Rattle.std.proofs.Common.{◌≡◌, ◌⊎◌, inl, inr, ℕ, zero, suc, ◌+◌, ◌<◌, ◌≤◌, ◌^◌, Bool, true, false, List, [], ◌∷◌, ◌++◌, map, length, refl, sym, subst, ◌∙◌, arith, true≢false}
use Rattle.std.proofs.lemmas.Bool.{cases_eq}
use Rattle.std.proofs.lemmas.List.{length-map, length_push}
use Rattle.std.proofs.lemmas.Slice.Eq.{bytes_eq-Decides}
use Rattle.std.specs.Str.{bytes_eq}
use Rattle.hc_signal.specs.Member.{Has, first, later}
use Rattle.hc_canon.specs.Same.{Same}
use Rattle.hc_names.specs.Mangling.{IsMangled, numbered}
use Rattle.hc_names.specs.Naming.{AreNamesAfter, Given, IsNameAfter, NamedTree}
use Rattle.hc_names.specs.Numbers.{AreGivenBelow}
use Rattle.hc_names.proofs.Numbered.{given_below_fit}

-- ---- membership is decided

has_cons : {X : Type 0} {y : X} {xs : List X} {x : X} → Has (y ∷ xs) x → (y ≡ x) ⊎ Has xs x
has_cons first = inl refl
has_cons (later h) = inr h

has_or_not : (xs : List (List ℕ)) (x : List ℕ) → Has xs x ⊎ (Has xs x → ⊥)
has_or_not [] x = inr (λ h. elim h [ ])
has_or_not (y ∷ xs) x = by (bytes_eq y x) refl (has_or_not xs x)
  where
    by : (b : Bool) → bytes_eq y x ≡ b → Has xs x ⊎ (Has xs x → ⊥) → Has (y ∷ xs) x ⊎ (Has (y ∷ xs) x → ⊥)
    by true is rest = inl (subst (λ z. Has (y ∷ xs) z) ((bytes_eq-Decides y x).0 is) first)
    by false is (inl h) = inl (later h)
    by false is (inr lacks) = inr (λ h. elim (has_cons h) [ inl same ↦ true≢false (sym ((bytes_eq-Decides y x).1 same) ∙ is) | inr more ↦ lacks more ])

-- ---- the first free number

abbrev FirstFree : List ℕ → List (List ℕ) → Type 0
FirstFree name used = (k : ℕ) × (Has used (numbered name k) → ⊥) × ((j : ℕ) → j < k → Has used (numbered name j))

search : (name : List ℕ) (used : List (List ℕ)) (n : ℕ) → FirstFree name used ⊎ AreGivenBelow used name n
search name used zero = inr (λ j b. absurd (omega (arith, b)))
search name used (suc n) = by (search name used n)
  where
    by : FirstFree name used ⊎ AreGivenBelow used name n → FirstFree name used ⊎ AreGivenBelow used name (suc n)
    by (inl free) = inl free
    by (inr below) = elim (has_or_not used (numbered name n)) [
      | inl here ↦ inr (λ j b. elim (cases_eq j n) [ inl same ↦ subst (λ i. Has used (numbered name i)) (sym same) here | inr other ↦ below j (grind arith) ])
      | inr free ↦ inl (n, free, below)
    ]

first_free : (name : List ℕ) (used : List (List ℕ)) → length used < 2 ^ 64 → FirstFree name used
first_free name used few = elim (search name used (suc (length used))) [
  | inl free ↦ free
  | inr all ↦ (let fit : suc (length used) ≤ length used = given_below_fit name (suc (length used)) used (omega (arith, few)) all in absurd (omega (arith, fit)))
]

pub mangled : (name : List ℕ) (used : List (List ℕ)) → length used < 2 ^ 64 → (result : List ℕ) × IsMangled name used result
mangled name used few = elim (has_or_not used name) [
  | inl has ↦ (let f : FirstFree name used = first_free name used few in (numbered name f.0, inr (has, (f.0, refl, f.1, f.2))))
  | inr free ↦ (name, inl (free, refl))
]

-- ---- calls

abbrev Named : Given → List NamedTree → Type 0
Named given calls = (names : List (List ℕ)) × AreNamesAfter given calls names

abbrev HasName : Given → NamedTree → Type 0
HasName given call = (name : List ℕ) × IsNameAfter given call name

abbrev IsEarlier : Given → NamedTree → Type 0
IsEarlier given call = (earlier : NamedTree × List ℕ) × Has given earlier × Same earlier.0.tree call.tree

-- whether an earlier call has the same tree is decided by contradiction
named_call : (given : Given) (call : NamedTree) → length given < 2 ^ 64 → (HasName given call → ⊥) → ⊥
named_call given call few none =
    let many : length (map (λ (g : NamedTree × List ℕ). g.1) given) ≡ length given = length-map given (λ (g : NamedTree × List ℕ). g.1) in
    let new : (result : List ℕ) × IsMangled call.name (map (λ (g : NamedTree × List ℕ). g.1) given) result = mangled call.name (map (λ (g : NamedTree × List ℕ). g.1) given)
    (omega (arith, many, few)) in
    let apart : IsEarlier given call → ⊥ = (λ (x : IsEarlier given call). none (x.0.1, inl (x.0, x.1, x.2, refl))) in
    none (new.0, inr (λ earlier has same. apart (earlier, has, same), new.1))

pub named_calls : (calls : List NamedTree) (given : Given) → length given + length calls < 2 ^ 64 → (Named given calls → ⊥) → ⊥
named_calls [] given few none = none ([], refl)
named_calls (call ∷ calls) given few none =
    named_call given call (omega (arith, few)) (λ (x : HasName given call).
    (let many : length (given ++ (call, x.0) ∷ []) ≡ length given + 1 = length_push given (call, x.0) in
    named_calls calls (given ++ (call, x.0) ∷ []) (omega (arith, few, many)) (λ (rest : Named (given ++ (call, x.0) ∷ []) calls). none (x.0 ∷ rest.0, (x.1, rest.1)))))
