-- What was found in a text, or its first fault with the line. A function of the program gives what is found, unless memory ran out.
use Rattle.std.specs.Prelude.{◌≡◌, ℕ, Result, Ok, Err, Option, Some, None}
use Rattle.hc_fault.specs.declared.fault.FaultKind.{FaultKind}
use Rattle.hc_lang.specs.declared.text_stop.TextStop.{TextStop}
use Rattle.hc_lang.specs.declared.text_stop.TextStop.TheVariants.{Fault, Memory}

abbrev pub Found : Type 0 → Type 0
Found A = Result A (FaultKind × ℕ)

abbrev pub found : {A : Type 0} → A → Found A
found a = Ok a

abbrev pub and_then : {A B : Type 0} → Found A → (A → Found B) → Found B
and_then (Ok a) f = f a
and_then (Err e) f = Err e

abbrev pub found_map : {A B : Type 0} → (A → B) → Found A → Found B
found_map f (Ok a) = Ok (f a)
found_map f (Err e) = Err e

-- a fault of this kind, where there is a line for it
abbrev pub pass : FaultKind → Option ℕ → Found (Unit {0})
pass k None = Ok tt
pass k (Some n) = Err (k, n)

abbrev pub Fails : {Y : Type 0} → TextStop → Found Y → Type 0
Fails Memory found = Unit {0}
Fails (Fault k n) found = found ≡ Err (k, n)

abbrev pub Gives : {X Y : Type 0} → (X → Y) → Result X TextStop → Found Y → Type 0
Gives view (Ok x) found = found ≡ Ok (view x)
Gives view (Err e) found = Fails e found
