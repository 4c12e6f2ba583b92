-- A table of places is built from the first port on.
use Rattle.std.proofs.Common.{◌≡◌, ℕ, ◌+◌, ◌<◌, Bool, true, false, cond, ◌⊎◌, inl, inr, List, [], ◌∷◌, ◌++◌, length, refl, sym, ap, subst, ◌∙◌, arith}
use Rattle.std.specs.Prelude.{Option, Some, None, is_some, if◌then◌else◌}
use Rattle.std.specs.Option.{option_or}
use Rattle.std.specs.List.{position_from, position}
use Rattle.std.specs.Map.{lookup}
use Rattle.std.specs.Str.{bytes_eq}
use Rattle.std.proofs.lemmas.Iterator.Adapters.{position_from-zero}
use Rattle.std.proofs.lemmas.List.Quantifiers.{position-Some}
use Rattle.std.proofs.lemmas.Slice.Eq.{bytes_eq-Decides}
use Rattle.indexmap.specs.IndexMap.{insert_entry}
use Rattle.hc_signal.specs.declared.signal.Port.{Port}
use Rattle.hc_statements.specs.PortPlaces.{ArePlaces, IsWith, Table}
use Rattle.hc_unfold.specs.Outputs.{port_place}

flipped : (a b : List ℕ) → bytes_eq a b ≡ bytes_eq b a
flipped a b = by (bytes_eq a b) (bytes_eq b a) refl refl
  where
    by : (t u : Bool) → bytes_eq a b ≡ t → bytes_eq b a ≡ u → t ≡ u
    by true true e f = refl
    by false false e f = refl
    by true false e f = let same : a ≡ b = (bytes_eq-Decides a b).0 e in let yes : bytes_eq b a ≡ true = (bytes_eq-Decides b a).1 (sym same) in sym yes ∙ f
    by false true e f = let same : b ≡ a = (bytes_eq-Decides b a).0 f in let yes : bytes_eq a b ≡ true = (bytes_eq-Decides a b).1 (sym same) in sym e ∙ yes

pub or_none : (o : Option ℕ) → option_or o None ≡ o
or_none None = refl
or_none (Some k) = refl

-- one name more
pub place_added : (es : Table) (name : List ℕ) (at : ℕ) → lookup (bytes_eq name) es ≡ None → IsWith name at es (insert_entry bytes_eq es name at)
place_added [] name at none other = by (bytes_eq other name) (bytes_eq name other) (flipped other name)
  where
    by : (t u : Bool) → t ≡ u → cond t (Some at) None ≡ (if u then Some at else None)
    by true true same = refl
    by false false same = refl
    by true false same = absurd cc
    by false true same = absurd cc
place_added (e ∷ es) name at none other = by (bytes_eq name e.0) refl (λ rest. place_added es name at rest other)
  where
    by : (t : Bool) → bytes_eq name e.0 ≡ t
        → (lookup (bytes_eq name) es ≡ None → lookup (bytes_eq other) (insert_entry bytes_eq es name at) ≡ option_or (lookup (bytes_eq other) es) (if bytes_eq name other then Some at else None))
        → lookup (bytes_eq other) (insert_entry bytes_eq (e ∷ es) name at) ≡ option_or (lookup (bytes_eq other) (e ∷ es)) (if bytes_eq name other then Some at else None)
    by true t rest = let is : Some e.1 ≡ None = rw t at none in absurd (cc)
    by false t rest = rw t (head (bytes_eq other e.0) (rest (rw t at none)))
      where
        head : (u : Bool) → lookup (bytes_eq other) (insert_entry bytes_eq es name at) ≡ option_or (lookup (bytes_eq other) es) (if bytes_eq name other then Some at else None)
            → cond u (Some e.1) (lookup (bytes_eq other) (insert_entry bytes_eq es name at)) ≡ option_or (cond u (Some e.1) (lookup (bytes_eq other) es))
            (if bytes_eq name other then Some at else None)
        head true more = refl
        head false more = more

-- a name that is there
pub place_there : (es : Table) (name : List ℕ) (at : ℕ) → is_some (lookup (bytes_eq name) es) ≡ true → IsWith name at es es
place_there es name at there other = by (bytes_eq name other) refl
  where
    present : (o : Option ℕ) (p : Option ℕ) → is_some o ≡ true → o ≡ option_or o p
    present None p t = absurd cc
    present (Some k) p t = refl

    by : (t : Bool) → bytes_eq name other ≡ t → lookup (bytes_eq other) es ≡ option_or (lookup (bytes_eq other) es) (if bytes_eq name other then Some at else None)
    by true t = let same : name ≡ other = (bytes_eq-Decides name other).0 t in present (lookup (bytes_eq other) es) _ (subst (λ (n : List ℕ). is_some (lookup (bytes_eq n) es) ≡ true) same there)
    by false t = rw t (sym (or_none (lookup (bytes_eq other) es)))

-- the places so far, and those of the ports that are left
abbrev pub ArePlacesBefore : Table → ℕ → List Port → List Port → Type 0
ArePlacesBefore table at rest ports = (name : List ℕ) → option_or (lookup (bytes_eq name) table) (position_from (λ (p : Port). bytes_eq p.name name) at rest) ≡ port_place name ports

pub before_more : (old new : Table) (p : Port) (at : ℕ) (rest ports : List Port) → IsWith p.name at old new → ArePlacesBefore old at (p ∷ rest) ports → ArePlacesBefore new (at + 1) rest ports
before_more old new p at rest ports with so_far name = ap (λ (o : Option ℕ). option_or o (position_from (λ (q : Port). bytes_eq q.name name) (at + 1) rest)) (with name)
    ∙ by (lookup (bytes_eq name) old) (bytes_eq p.name name) (position_from (λ (q : Port). bytes_eq q.name name) (at + 1) rest) ∙ so_far name
  where
    by : (o : Option ℕ) (t : Bool) (q : Option ℕ) → option_or (option_or o (if t then Some at else None)) q ≡ option_or o (cond t (Some at) q)
    by None true q = refl
    by None false q = refl
    by (Some k) t q = refl

pub none_yet : (table : Table) (ports : List Port) → table ≡ [] → ArePlacesBefore table 0 ports ports
none_yet table ports none = subst (λ (t : Table). ArePlacesBefore t 0 ports ports) (sym none) (λ name. sym (position_from-zero (λ (p : Port). bytes_eq p.name name) ports))

pub all_placed : (table : Table) (at : ℕ) (ports : List Port) → ArePlacesBefore table at [] ports → ArePlaces ports table
all_placed table at ports so_far name = sym (or_none (lookup (bytes_eq name) table)) ∙ so_far name

pub place_within : (ports : List Port) (name : List ℕ) (k : ℕ) → port_place name ports ≡ Some k → k < length ports
place_within [] name k e = absurd cc
place_within (p ∷ ports) name k e = (position-Some (λ (q : Port). bytes_eq q.name name) (p ∷ ports) k p e).0
