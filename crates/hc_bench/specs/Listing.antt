-- The listing of a run: one line for each cycle.
use Rattle.std.specs.Prelude.{ℕ, List, ◌++◌, map, flat_map, codes, decimal}
use Rattle.std.specs.List.{zip}
use Rattle.hc_bits.specs.Digits.{hex_of, lines_text}
use Rattle.hc_signal.specs.declared.signal.Port.{Port}

-- a cycle by its number, with the outputs before its clock edge and after it
pub record CycleRow : Type 0 where
  pub cycle : ℕ
  pub before : List ℕ
  pub after : List ℕ

abbrev pub value_text : Port × ℕ → List ℕ
value_text p = codes " " ++ p.0.name ++ codes "=" ++ hex_of p.0.width p.1

abbrev pub values_text : List Port → List ℕ → List ℕ
values_text outputs values = flat_map value_text (zip outputs values)

abbrev pub row_text : List Port → CycleRow → List ℕ
row_text outputs row = decimal row.cycle ++ values_text outputs row.before ++ codes " |" ++ values_text outputs row.after

abbrev pub listing : List Port → List CycleRow → List ℕ
listing outputs rows = lines_text (map (row_text outputs) rows)
