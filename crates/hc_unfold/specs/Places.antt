-- Numbers in order, and what names stand for.
use Rattle.std.specs.Prelude.{List, [], ◌∷◌, Option, Some, None, Result, Ok, Err, ℤ, ℕ}
use Rattle.hc_fault.specs.declared.fault.FaultKind.{FaultKind}
use Rattle.hc_fault.specs.declared.fault.FaultKind.TheVariants.{UnknownName}
use Rattle.hc_num.specs.Value.{Outcome}
use Rattle.hc_unfold.specs.Signals.{Place}
use Rattle.hc_unfold.specs.Names.{Names, Key, Target, meaning}
use Rattle.hc_unfold.specs.Drawing.{and_then, found}

abbrev pub index : Option Outcome → Result (Option ℤ) FaultKind
index None = Ok None
index (Some (Ok z)) = Ok (Some z)
index (Some (Err kind)) = Err kind

abbrev pub indexed : List ℕ → Option ℤ → Result Key FaultKind
indexed name i = Ok (name, i)

-- the name that is meant, or the fault of its index
abbrev pub key : Place → Result Key FaultKind
key p = and_then (index p.index) (indexed p.name)

abbrev pub before : Outcome → Result (List ℤ) FaultKind → Result (List ℤ) FaultKind
before (Err kind) rest = Err kind
before (Ok z) (Err kind) = Err kind
before (Ok z) (Ok zs) = Ok (z ∷ zs)

-- the numbers, or the first fault
abbrev pub numbers : List Outcome → Result (List ℤ) FaultKind
numbers [] = Ok []
numbers (n ∷ ns) = before n (numbers ns)

-- what a place means, of one kind, else the fault of a name that is unknown
abbrev pub meant : {A : Type 0} → Names → (Option Target → Option A) → Place → Result A FaultKind
meant names as_kind p = and_then (key p) (λ k. found UnknownName (as_kind (meaning names k)))
