-- Marks of parts in rows, with the part that runs each part by its number among all.
use Rattle.std.specs.Prelude.{◌≡◌, ℕ, ◌<◌, ◌≤◌, Bool, true, List, length, map, slice_get, Some}
use Rattle.hc_signal.specs.Member.{Has}
use Rattle.hc_rows.specs.Rows.{row_at, flat, number_of}

-- the part with this number is marked
abbrev pub IsOn : List Bool → ℕ → Type 0
IsOn marks k = slice_get marks k ≡ Some true

-- what runs a part stands at its place or before it
abbrev pub AreUp : List ℕ → Type 0
AreUp up = (k u : ℕ) → slice_get up k ≡ Some u → u ≤ k

-- what runs a marked part is marked
abbrev pub AreClosed : List ℕ → List Bool → Type 0
AreClosed up marks = (k u : ℕ) → slice_get up k ≡ Some u → IsOn marks k → IsOn marks u

-- More parts are marked: these parts of row p among them, as far as they are there.
pub record AreMoreMarked (up : List (List ℕ)) (p : ℕ) (parts : List ℕ) (old new : List (List Bool)) : Type 0 where
  pub shape : map length new ≡ map length old
  pub grown : (k : ℕ) → IsOn (flat old) k → IsOn (flat new) k
  pub there : (k : ℕ) → Has parts k → k < length (row_at old p) → IsOn (flat new) (number_of old p k)
  pub closed : AreClosed (flat up) (flat old) → AreClosed (flat up) (flat new)
