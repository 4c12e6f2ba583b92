-- What a stop of the check tells.
use Rattle.std.specs.Prelude.{◌≡◌, ℕ}
use Rattle.hc_fault.specs.declared.fault.FaultKind.{FaultKind}
use Rattle.hc_fault.specs.declared.fault.FaultKind.TheVariants.{NoOutputs, PortCount, Undriven}
use Rattle.hc_signal.specs.Graph.{Graph}
use Rattle.hc_signal.specs.Checked.{Rule, some_output, few_ports, all_driven, Breaks}
use Rattle.hc_check.specs.declared.rules.CheckStop.{CheckStop}
use Rattle.hc_check.specs.declared.rules.CheckStop.TheVariants.{Broken, NoMemory}

abbrev pub kind_of : Rule → FaultKind
kind_of some_output = NoOutputs
kind_of few_ports = PortCount
kind_of all_driven = Undriven

-- the first rule that the graph breaks, and where, or want of memory
abbrev pub IsStop : Graph → CheckStop → Type 0
IsStop g (Broken kind which) = (rule : Rule) × (kind ≡ kind_of rule) × Breaks g rule which
IsStop g NoMemory = Unit {0}

-- this rule, broken at this place, or want of memory
abbrev pub Tells : Rule → ℕ → CheckStop → Type 0
Tells rule place (Broken kind which) = (kind ≡ kind_of rule) × (which ≡ place)
Tells rule place NoMemory = Unit {0}
