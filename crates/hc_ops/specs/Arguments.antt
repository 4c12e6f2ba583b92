-- The arguments that an operation takes.
use Rattle.std.specs.Prelude.{◌≡◌, List, [], ◌∷◌, length}
use Rattle.hc_bits.specs.BitVector.{BitVector}
use Rattle.hc_bits.specs.Catalogue.{arity}
use Rattle.hc_bits.specs.declared.kind.OpKind.{OpKind}

-- each is as wide as the next one
abbrev pub HaveOneWidth : List BitVector → Type 0
HaveOneWidth [] = Unit {0}
HaveOneWidth (x ∷ []) = Unit {0}
HaveOneWidth (x ∷ y ∷ rest) = (x.width ≡ y.width) × HaveOneWidth (y ∷ rest)

-- as many arguments as the operation takes, all of one width
abbrev pub AreLawful : OpKind → List BitVector → Type 0
AreLawful kind args = (length args ≡ arity kind) × HaveOneWidth args
