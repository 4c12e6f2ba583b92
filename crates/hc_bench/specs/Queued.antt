-- What a sink took, and what waits for it, as bytes were handed on.
use Rattle.std.specs.Prelude.{ℕ, List, ◌++◌, Option, Result, OnOk, OnErr}
use Rattle.hc_outside.specs.Causes.{HasCause}
use Rattle.hc_outside.specs.Moves.{AppendsFront, AppendsUpTo}

-- Of the bytes that waited and these, all were taken but those that are left waiting; or a write failed because the count of
-- faults rose, and a front was taken.
pub record IsQueued {T E : Type 0} (old new : Option (List ℕ)) (before now : ℕ) (waiting left : List ℕ) (result : Result T E) (bytes : List ℕ) : Type 0 where
  pub all : OnOk result (AppendsUpTo old new (waiting ++ bytes) left)
  pub front : OnErr result (AppendsFront old new (waiting ++ bytes))
  pub cause : HasCause before now result
