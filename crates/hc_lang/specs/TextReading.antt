-- A design read from a text, and the faults of a text in their order. At most `d` brackets and `most` blocks are open.
use Rattle.std.specs.Prelude.{ℕ, suc, ◌==◌, if◌then◌else◌, List, [], ◌∷◌, Option, Some, None, Ok, Err}
use Rattle.hc_fault.specs.declared.fault.FaultKind.TheVariants as fault
use Rattle.hc_tokens.specs.Tokens.{lines, is_allowed}
use Rattle.hc_lang.specs.declared.tree.Design.{Design}
use Rattle.hc_lang.specs.Reads.{Row, first_repeated, first_reserved}
use Rattle.hc_lang.specs.Found.{Found, and_then, pass}
use Rattle.hc_lang.specs.RowReading.{rows_from}
use Rattle.hc_lang.specs.Structure.{steps, start, open_line, design_of}

-- the line of the first byte that is not allowed; the first byte stands in line n
abbrev pub bad_line : ℕ → List ℕ → Option ℕ
bad_line n [] = None
bad_line n (b ∷ text) = if is_allowed b then bad_line (if b == 10 then suc n else n) text else Some n

abbrev pub finished : Option Design → Found Design
finished None = Err (fault.NoTop, 0)
finished (Some d) = Ok d

unfoldable pub of_rows : ℕ → List Row → Found Design
of_rows most rows = and_then (steps most start rows) (λ o. and_then (pass fault.Unclosed (open_line o.place))
    (λ u. and_then (pass fault.RepeatedCircuit (first_repeated [] rows)) (λ v. and_then (pass fault.ReservedName (first_reserved rows)) (λ w. finished (design_of o)))))

unfoldable pub parsed : ℕ → ℕ → List ℕ → Found Design
parsed d most text = and_then (pass fault.NotAscii (bad_line 1 text)) (λ u. and_then (rows_from d 1 (lines text)) (λ rows. of_rows most rows))
