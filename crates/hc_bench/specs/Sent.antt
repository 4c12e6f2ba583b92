-- What a sink took of bytes that were to be written.
use Rattle.std.specs.Prelude.{ℕ, List, Option, Result, OnOk, OnErr}
use Rattle.std.specs.Io.KnownBytes.{Appends}
use Rattle.hc_outside.specs.Causes.{HasCause}
use Rattle.hc_outside.specs.Moves.{AppendsFront}

-- all was taken, or the write failed because the count of faults rose, and a front was taken
pub record IsSent {T E : Type 0} (old new : Option (List ℕ)) (before now : ℕ) (result : Result T E) (bytes : List ℕ) : Type 0 where
  pub all : OnOk result (Appends old new bytes)
  pub front : OnErr result (AppendsFront old new bytes)
  pub cause : HasCause before now result
