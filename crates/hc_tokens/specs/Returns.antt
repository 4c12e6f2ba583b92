-- What a function of the program returned, seen by view, is what reading gives, unless memory ran out.
use Rattle.std.specs.Prelude.{◌≡◌, Result, Ok, Err, Option, Some, None}
use Rattle.hc_tokens.specs.declared.stop.Stop.{Stop}
use Rattle.hc_tokens.specs.declared.stop.Stop.TheVariants.{Syntax, Memory}

abbrev pub Stops : {Y : Type 0} → Stop → Option Y → Type 0
Stops Memory read = Unit {0}
Stops Syntax read = read ≡ None

abbrev pub Returns : {X Y : Type 0} → (X → Y) → Result X Stop → Option Y → Type 0
Returns view (Ok x) read = read ≡ Some (view x)
Returns view (Err e) read = Stops e read
