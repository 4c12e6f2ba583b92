-- Tables of the places of ports by their names.
use Rattle.std.specs.Prelude.{◌≡◌, ℕ, List, Option, None, Some, if◌then◌else◌}
use Rattle.std.specs.Option.{option_or}
use Rattle.std.specs.Map.{lookup}
use Rattle.std.specs.Str.{bytes_eq}
use Rattle.hc_signal.specs.declared.signal.Port.{Port}
use Rattle.hc_unfold.specs.Outputs.{port_place}
use Rattle.hc_statements.specs.Unrolled.{Text}

-- names with places
abbrev pub Table : Type 0
Table = List (Text × ℕ)

-- a name has its place in the table where it has one among the ports
abbrev pub ArePlaces : List Port → Table → Type 0
ArePlaces ports table = (name : Text) → lookup (bytes_eq name) table ≡ port_place name ports

-- the table with the place of a name, where it had none
abbrev pub IsWith : Text → ℕ → Table → Table → Type 0
IsWith name at old new = (other : Text) → lookup (bytes_eq other) new ≡ option_or (lookup (bytes_eq other) old) (if bytes_eq name other then Some at else None)
