-- The line that tells a fault: its number and name, the line of the text, and the path of the call.
use Rattle.std.specs.Prelude.{ℕ, ℤ, List, [], ◌∷◌, ◌++◌, flat_map, Option, Some, None, codes, decimal}
use Rattle.std.specs.Fmt.{signed_decimal}
use Rattle.hc_fault.specs.declared.fault.FaultKind.{FaultKind}
use Rattle.hc_fault.specs.declared.fault.FaultKind.TheVariants as fault
use Rattle.hc_fault.specs.declared.fault.Fault.{Fault}
use Rattle.hc_fault.specs.declared.fault.Ident.{Ident}
use Rattle.hc_fault.specs.declared.fault.Path.{Path}

-- the number and the name of a kind
abbrev pub kind_text : FaultKind → List ℕ
kind_text fault.TooLong = codes "F1 TooLong"
kind_text fault.NotAscii = codes "F2 NotAscii"
kind_text fault.Syntax = codes "F3 Syntax"
kind_text fault.Misplaced = codes "F4 Misplaced"
kind_text fault.Unclosed = codes "F5 Unclosed"
kind_text fault.RepeatedCircuit = codes "F6 RepeatedCircuit"
kind_text fault.ReservedName = codes "F7 ReservedName"
kind_text fault.NoTop = codes "F8 NoTop"
kind_text fault.UnknownCircuit = codes "F9 UnknownCircuit"
kind_text fault.ArgCount = codes "F10 ArgCount"
kind_text fault.Number = codes "F11 Number"
kind_text fault.Width = codes "F12 Width"
kind_text fault.UnknownName = codes "F13 UnknownName"
kind_text fault.RepeatedName = codes "F14 RepeatedName"
kind_text fault.WidthMismatch = codes "F15 WidthMismatch"
kind_text fault.SelectRange = codes "F16 SelectRange"
kind_text fault.MuxCount = codes "F17 MuxCount"
kind_text fault.ConstRange = codes "F18 ConstRange"
kind_text fault.MemorySize = codes "F19 MemorySize"
kind_text fault.DrivenTwice = codes "F20 DrivenTwice"
kind_text fault.UnknownPort = codes "F21 UnknownPort"
kind_text fault.RepeatedPort = codes "F22 RepeatedPort"
kind_text fault.MissingPort = codes "F23 MissingPort"
kind_text fault.NoOutputs = codes "F24 NoOutputs"
kind_text fault.PortCount = codes "F25 PortCount"
kind_text fault.TooManyStatements = codes "F26 TooManyStatements"
kind_text fault.CircuitWeight = codes "F27 CircuitWeight"
kind_text fault.Undriven = codes "F28 Undriven"
kind_text fault.TooDeep = codes "F29 TooDeep"
kind_text fault.TooManyInstances = codes "F30 TooManyInstances"
kind_text fault.DesignWeight = codes "F31 DesignWeight"
kind_text fault.DesignWords = codes "F32 DesignWords"
kind_text fault.CombLoop = codes "F33 CombLoop"
kind_text fault.BenchPort = codes "F34 BenchPort"
kind_text fault.BenchValue = codes "F35 BenchValue"
kind_text fault.TooManyCycles = codes "F36 TooManyCycles"
kind_text fault.UnknownOp = codes "F37 UnknownOp"

-- an instance on a path, with its index where it has one
abbrev pub index_text : Option ℤ → List ℕ
index_text None = []
index_text (Some i) = codes "[" ++ signed_decimal i ++ codes "]"

abbrev pub step_text : Ident → List ℕ
step_text step = codes "/" ++ step.name ++ index_text step.index

-- the top is `/`, each other call the instances that lead to it
abbrev pub steps_text : List Ident → List ℕ
steps_text [] = codes "/"
steps_text (step ∷ steps) = flat_map step_text (step ∷ steps)

-- a fault that is not a call's has no path
abbrev pub path_text : Option Path → List ℕ
path_text None = codes "-"
path_text (Some path) = steps_text path.steps

abbrev pub fault_line : Fault → List ℕ
fault_line f = kind_text f.kind ++ codes " line " ++ decimal f.line ++ codes " path " ++ path_text f.path ++ codes "\n"
