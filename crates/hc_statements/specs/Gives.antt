-- What a function of the program answered, against what the definition gives.
use Rattle.std.specs.Prelude.{◌≡◌, ℕ, List, Result, Ok, Err}
use Rattle.hc_bits.specs.BitVector.{IsWidth}
use Rattle.hc_signal.specs.Member.{Has}
use Rattle.hc_fault.specs.declared.fault.Fault.{Fault}
use Rattle.hc_fault.specs.declared.fault.Ident.{Ident}
use Rattle.hc_signal.specs.declared.stop.BuildStop.{BuildStop}
use Rattle.hc_signal.specs.declared.stop.BuildStop.TheVariants as stop
use Rattle.hc_statements.specs.Steps.{Broken, Here, Inside}
use Rattle.hc_statements.specs.declared.instances.InstStop.{InstStop}
use Rattle.hc_statements.specs.declared.instances.InstStop.TheVariants as inst
use Rattle.hc_statements.specs.declared.heads.HeadStop.{HeadStop}
use Rattle.hc_statements.specs.declared.heads.HeadStop.TheVariants as head
use Rattle.hc_fault.specs.declared.fault.FaultKind.{FaultKind}
use Rattle.hc_fault.specs.declared.fault.Refused.{Refused}
use Rattle.hc_fault.specs.declared.fault.Refused.TheVariants as refused

-- the fault is the one that the definition gives; want of memory says nothing
abbrev pub Refuses : {Y : Type 0} → Refused → Result Y Fault → Type 0
Refuses (refused.Fault fault) given = given ≡ Err fault
Refuses refused.NoMemory given = Unit {0}

-- it is this fault, or want of memory
abbrev pub Tells : Refused → Fault → Type 0
Tells (refused.Fault f) fault = f ≡ fault
Tells refused.NoMemory fault = Unit {0}

-- the answer, seen by view, is what the definition gives, unless memory ran out
abbrev pub Answers : {X Y : Type 0} → (X → Y) → Result X Refused → Result Y Fault → Type 0
Answers view (Ok x) given = given ≡ Ok (view x)
Answers view (Err stop) given = Refuses stop given

-- the answer is one that the definition has, unless memory ran out
abbrev pub IsAnswer : {X Y : Type 0} → (X → Y) → (Result Y Fault → Type 0) → Result X Refused → Type 0
IsAnswer view Has (Ok x) = Has (Ok (view x))
IsAnswer view Has (Err (refused.Fault fault)) = Has (Err fault)
IsAnswer view Has (Err refused.NoMemory) = Unit {0}

-- a step that broke a rule of its own line
abbrev pub Halts : {Y : Type 0} → BuildStop → Result Y Broken → Type 0
Halts (stop.Fault kind) given = given ≡ Err (Here kind)
Halts stop.NoMemory given = Unit {0}

-- what a step answered, seen by view, is what the definition gives, unless memory ran out
abbrev pub Performs : {X Y : Type 0} → (X → Y) → Result X BuildStop → Result Y Broken → Type 0
Performs view (Ok x) given = given ≡ Ok (view x)
Performs view (Err stop) given = Halts stop given

-- a fault of heads, with its line
abbrev pub StopsHeads : {Y : Type 0} → HeadStop → Result Y (ℕ × FaultKind) → Type 0
StopsHeads (head.Fault kind line) given = given ≡ Err (line, kind)
StopsHeads head.NoMemory given = Unit {0}

-- what heads give, unless memory ran out
abbrev pub GivesHeads : {X Y : Type 0} → (X → Y) → Result X HeadStop → Result Y (ℕ × FaultKind) → Type 0
GivesHeads view (Ok x) given = given ≡ Ok (view x)
GivesHeads view (Err stop) given = StopsHeads stop given

-- each is a width from 1 to 128
abbrev pub AreWidths : List ℕ → Type 0
AreWidths ws = (w : ℕ) → Has ws w → IsWidth w

-- an instance that broke a rule of its own line, or of its circuit's heads
abbrev pub HaltsInst : {Y : Type 0} → InstStop → Result Y Broken → Type 0
HaltsInst (inst.Here kind) given = given ≡ Err (Here kind)
HaltsInst (inst.Inside ident line kind) given = given ≡ Err (Inside ident line kind)
HaltsInst inst.NoMemory given = Unit {0}

abbrev pub PerformsInst : {X Y : Type 0} → (X → Y) → Result X InstStop → Result Y Broken → Type 0
PerformsInst view (Ok x) given = given ≡ Ok (view x)
PerformsInst view (Err stop) given = HaltsInst stop given

-- this fault in the heads of an instance's circuit, or want of memory
abbrev pub IsInside : InstStop → Ident → ℕ → FaultKind → Type 0
IsInside (inst.Inside i l k) ident line kind = (i ≡ ident) × (l ≡ line) × (k ≡ kind)
IsInside inst.NoMemory ident line kind = Unit {0}
IsInside (inst.Here k) ident line kind = ⊥
