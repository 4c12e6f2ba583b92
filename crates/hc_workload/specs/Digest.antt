-- The digest of bytes.
use Rattle.std.specs.Prelude.{ℕ, ◌+◌, ◌*◌, ◌%◌, ◌^◌, List, fold}

-- one more byte
abbrev pub digest_step : ℕ → ℕ → ℕ
digest_step d byte = (31 * d + byte) % 2 ^ 64

abbrev pub digest : List ℕ → ℕ
digest bytes = fold digest_step 0 bytes
