-- The pseudo-random numbers of a workload: a linear congruential generator of 64 bits.
use Rattle.std.specs.Prelude.{ℕ, ◌+◌, ◌*◌, ◌/◌, ◌%◌, ◌^◌}

-- the state after one more draw
unfoldable pub next_state : ℕ → ℕ
next_state s = (s * 6364136223846793005 + 1442695040888963407) % 2 ^ 64

-- the number below a limit that is drawn by coming to this state, from its upper 31 bits
unfoldable pub number_below : ℕ → ℕ → ℕ
number_below limit s = (s / 2 ^ 33) % limit
