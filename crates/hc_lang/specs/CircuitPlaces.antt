-- Tables of the places of circuits by their names.
use Rattle.std.specs.Prelude.{◌≡◌, ℕ, List, Option, None, Some, if◌then◌else◌, position}
use Rattle.std.specs.Option.{option_or}
use Rattle.std.specs.Map.{lookup}
use Rattle.std.specs.Str.{bytes_eq}
use Rattle.hc_lines.specs.Grammar.{Text}
use Rattle.hc_lang.specs.declared.tree.CircuitText.{CircuitText}

-- the place of the circuit of this name
abbrev pub circuit_place : Text → List CircuitText → Option ℕ
circuit_place name cs = position (λ (c : CircuitText). bytes_eq c.name name) cs

-- names with places
abbrev pub Table : Type 0
Table = List (Text × ℕ)

-- a name has its place in the table where it has one among the circuits
abbrev pub ArePlaces : List CircuitText → Table → Type 0
ArePlaces cs table = (name : Text) → lookup (bytes_eq name) table ≡ circuit_place name cs

-- the table with the place of a name, where it had none
abbrev pub IsWith : Text → ℕ → Table → Table → Type 0
IsWith name at old new = (other : Text) → lookup (bytes_eq other) new ≡ option_or (lookup (bytes_eq other) old) (if bytes_eq name other then Some at else None)
