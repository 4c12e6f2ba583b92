-- Lines that stand for bytes: how many there are, and their digest.
use Rattle.std.specs.Prelude.{ℕ, List, [], ◌∷◌, ◌++◌, length, codes, decimal}
use Rattle.hc_bits.specs.Digits.{lines_text}
use Rattle.hc_workload.specs.Digest.{digest}

-- a title, how many bytes there are, and their digest, in decimal
unfoldable pub digest_line : List ℕ → List ℕ → List ℕ
digest_line title bytes = title ++ decimal (length bytes) ++ codes " " ++ decimal (digest bytes)

-- the line, ended by a line feed
abbrev pub ended_line : List ℕ → List ℕ → List ℕ
ended_line title bytes = digest_line title bytes ++ 10 ∷ []

-- the lines for a Verilog text and for a listing, each ended by a line feed
abbrev pub digest_lines : List ℕ → List ℕ → List ℕ
digest_lines verilog rows = lines_text (digest_line (codes "verilog ") verilog ∷ digest_line (codes "rows ") rows ∷ [])
