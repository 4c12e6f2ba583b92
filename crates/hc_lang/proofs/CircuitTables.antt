-- A table of places is built from the first circuit on.
use Rattle.std.proofs.Common.{◌≡◌, ℕ, ◌+◌, ◌<◌, Bool, true, false, cond, ◌⊎◌, inl, inr, List, [], ◌∷◌, ◌++◌, length, refl, sym, ap, subst, ◌∙◌, arith}
use Rattle.std.specs.Prelude.{Option, Some, None, is_some, if◌then◌else◌}
use Rattle.std.specs.Option.{option_or}
use Rattle.std.specs.List.{position_from, position}
use Rattle.std.specs.Map.{lookup}
use Rattle.std.specs.Str.{bytes_eq}
use Rattle.std.proofs.lemmas.Iterator.Adapters.{position_from-zero}
use Rattle.std.proofs.lemmas.List.Quantifiers.{position-Some}
use Rattle.std.proofs.lemmas.Slice.Eq.{bytes_eq-Decides}
use Rattle.indexmap.specs.IndexMap.{insert_entry}
use Rattle.hc_lang.specs.declared.tree.CircuitText.{CircuitText}
use Rattle.hc_lang.specs.CircuitPlaces.{ArePlaces, IsWith, Table, circuit_place}

flipped : (a b : List ℕ) → bytes_eq a b ≡ bytes_eq b a
flipped a b = by (bytes_eq a b) (bytes_eq b a) refl refl
  where
    by : (t u : Bool) → bytes_eq a b ≡ t → bytes_eq b a ≡ u → t ≡ u
    by true true e f = refl
    by false false e f = refl
    by true false e f = let same : a ≡ b = (bytes_eq-Decides a b).0 e in let yes : bytes_eq b a ≡ true = (bytes_eq-Decides b a).1 (sym same) in sym yes ∙ f
    by false true e f = let same : b ≡ a = (bytes_eq-Decides b a).0 f in let yes : bytes_eq a b ≡ true = (bytes_eq-Decides a b).1 (sym same) in sym e ∙ yes

pub or_none : (o : Option ℕ) → option_or o None ≡ o
or_none None = refl
or_none (Some k) = refl

-- one name more
pub place_added : (es : Table) (name : List ℕ) (at : ℕ) → lookup (bytes_eq name) es ≡ None → IsWith name at es (insert_entry bytes_eq es name at)
place_added [] name at none other = by (bytes_eq other name) (bytes_eq name other) (flipped other name)
  where
    by : (t u : Bool) → t ≡ u → cond t (Some at) None ≡ (if u then Some at else None)
    by true true same = refl
    by false false same = refl
    by true false same = absurd cc
    by false true same = absurd cc
place_added (e ∷ es) name at none other = by (bytes_eq name e.0) refl (λ rest. place_added es name at rest other)
  where
    by : (t : Bool) → bytes_eq name e.0 ≡ t
        → (lookup (bytes_eq name) es ≡ None → lookup (bytes_eq other) (insert_entry bytes_eq es name at) ≡ option_or (lookup (bytes_eq other) es) (if bytes_eq name other then Some at else None))
        → lookup (bytes_eq other) (insert_entry bytes_eq (e ∷ es) name at) ≡ option_or (lookup (bytes_eq other) (e ∷ es)) (if bytes_eq name other then Some at else None)
    by true t rest = let is : Some e.1 ≡ None = rw t at none in absurd (cc)
    by false t rest = rw t (head (bytes_eq other e.0) (rest (rw t at none)))
      where
        head : (u : Bool) → lookup (bytes_eq other) (insert_entry bytes_eq es name at) ≡ option_or (lookup (bytes_eq other) es) (if bytes_eq name other then Some at else None)
            → cond u (Some e.1) (lookup (bytes_eq other) (insert_entry bytes_eq es name at)) ≡ option_or (cond u (Some e.1) (lookup (bytes_eq other) es))
            (if bytes_eq name other then Some at else None)
        head true more = refl
        head false more = more

-- a name that is there
pub place_there : (es : Table) (name : List ℕ) (at : ℕ) → is_some (lookup (bytes_eq name) es) ≡ true → IsWith name at es es
place_there es name at there other = by (bytes_eq name other) refl
  where
    present : (o : Option ℕ) (p : Option ℕ) → is_some o ≡ true → o ≡ option_or o p
    present None p t = absurd cc
    present (Some k) p t = refl

    by : (t : Bool) → bytes_eq name other ≡ t → lookup (bytes_eq other) es ≡ option_or (lookup (bytes_eq other) es) (if bytes_eq name other then Some at else None)
    by true t = let same : name ≡ other = (bytes_eq-Decides name other).0 t in present (lookup (bytes_eq other) es) _ (subst (λ (n : List ℕ). is_some (lookup (bytes_eq n) es) ≡ true) same there)
    by false t = rw t (sym (or_none (lookup (bytes_eq other) es)))

-- the places so far, and those of the circuits that are left
abbrev pub ArePlacesBefore : Table → ℕ → List CircuitText → List CircuitText → Type 0
ArePlacesBefore table at rest cs = (name : List ℕ) → option_or (lookup (bytes_eq name) table) (position_from (λ (p : CircuitText). bytes_eq p.name name) at rest) ≡ circuit_place name cs

pub before_more : (old new : Table) (p : CircuitText) (at : ℕ) (rest cs : List CircuitText) → IsWith p.name at old new → ArePlacesBefore old at (p ∷ rest) cs → ArePlacesBefore new (at + 1) rest cs
before_more old new p at rest cs with so_far name = ap (λ (o : Option ℕ). option_or o (position_from (λ (q : CircuitText). bytes_eq q.name name) (at + 1) rest)) (with name)
    ∙ by (lookup (bytes_eq name) old) (bytes_eq p.name name) (position_from (λ (q : CircuitText). bytes_eq q.name name) (at + 1) rest) ∙ so_far name
  where
    by : (o : Option ℕ) (t : Bool) (q : Option ℕ) → option_or (option_or o (if t then Some at else None)) q ≡ option_or o (cond t (Some at) q)
    by None true q = refl
    by None false q = refl
    by (Some k) t q = refl

pub none_yet : (table : Table) (cs : List CircuitText) → table ≡ [] → ArePlacesBefore table 0 cs cs
none_yet table cs none = subst (λ (t : Table). ArePlacesBefore t 0 cs cs) (sym none) (λ name. sym (position_from-zero (λ (p : CircuitText). bytes_eq p.name name) cs))

pub all_placed : (table : Table) (at : ℕ) (cs : List CircuitText) → ArePlacesBefore table at [] cs → ArePlaces cs table
all_placed table at cs so_far name = sym (or_none (lookup (bytes_eq name) table)) ∙ so_far name

pub place_within : (cs : List CircuitText) (name : List ℕ) (k : ℕ) → circuit_place name cs ≡ Some k → k < length cs
place_within [] name k e = absurd cc
place_within (p ∷ cs) name k e = (position-Some (λ (q : CircuitText). bytes_eq q.name name) (p ∷ cs) k p e).0
