-- The places of the entries by the low bits of their hash.
use Rattle.std.specs.Prelude.{◌≡◌, ◌+◌, ◌%◌, ◌^◌, ℕ, List, [], ◌∷◌, Vec, nat_eq, if◌then◌else◌}
use Rattle.std.specs.Option.{option_map_or}
use Rattle.indexmap.specs.IndexMap.{IndexMap, get}
use Rattle.hc_canon.specs.FormView.{FormView}
use Rattle.hc_canon.specs.Hashing.{hash_of}

-- so many low bits of a hash
abbrev pub low_bits : ℕ → ℕ → ℕ
low_bits bits hash = hash % 2 ^ bits

-- the key of a form in an index of so many bits
abbrev pub key_of : ℕ → FormView → ℕ
key_of bits form = low_bits bits (hash_of form)

-- the places that the index lists for a key
abbrev pub places_at : {S Z : Type 0} → IndexMap ℕ (Vec ℕ Z) S → ℕ → List ℕ
places_at index key = option_map_or (λ v. v.items) (get nat_eq index key) []

-- the places of the entries with this key, where the first of them stands at i
abbrev pub places_from : ℕ → ℕ → ℕ → List FormView → List ℕ
places_from bits i key [] = []
places_from bits i key (x ∷ xs) = if nat_eq (key_of bits x) key then i ∷ places_from bits (i + 1) key xs else places_from bits (i + 1) key xs

-- the index lists exactly these
abbrev pub IsIndexOf : {S Z : Type 0} → ℕ → IndexMap ℕ (Vec ℕ Z) S → List FormView → Type 0
IsIndexOf bits index entries = (key : ℕ) → places_at index key ≡ places_from bits 0 key entries
