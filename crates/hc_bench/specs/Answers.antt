-- What a function of the program answered, against what the definition gives.
use Rattle.std.specs.Prelude.{◌≡◌, Result, Ok, Err}
use Rattle.hc_fault.specs.declared.fault.Fault.{Fault}
use Rattle.hc_fault.specs.declared.fault.Refused.{Refused}
use Rattle.hc_fault.specs.declared.fault.Refused.TheVariants as refused

-- the fault is the one that the definition gives; want of memory says nothing
abbrev pub Refuses : {Y : Type 0} → Refused → Result Y Fault → Type 0
Refuses (refused.Fault fault) given = given ≡ Err fault
Refuses refused.NoMemory given = Unit {0}

-- the answer, seen by view, is what the definition gives, unless memory ran out
abbrev pub Answers : {X Y : Type 0} → (X → Y) → Result X Refused → Result Y Fault → Type 0
Answers view (Ok x) given = given ≡ Ok (view x)
Answers view (Err stop) given = Refuses stop given
