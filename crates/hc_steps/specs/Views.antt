-- Steps and facts of the code as those of the definitions.
use Rattle.std.specs.Prelude.{ℕ, ◌+◌, List, [], ◌∷◌, length, take, ◌⊎◌, slice_get, Option, Some, None}
use Rattle.hc_signal.specs.Member.{Has}
use Rattle.hc_signal.specs.Graph.{Graph}
use Rattle.hc_signal.specs.declared.signal.Instance.{Instance}
use Rattle.hc_steps.specs.declared.step.Step.{Step as CodeStep}
use Rattle.hc_steps.specs.declared.step.Step.TheVariants.{Make, Take, Pass, Run}
use Rattle.hc_steps.specs.declared.step.Fact.{Fact as CodeFact}
use Rattle.hc_steps.specs.declared.step.Fact.TheVariants.{Made, Passed, Ran}
use Rattle.hc_steps.specs.declared.spot.Spot.{Spot}
use Rattle.hc_signal.specs.declared.signal.NodeId.{NodeId}
use Rattle.hc_steps.specs.Plan.{Step, make, take as takes, pass, run, Part, steps_at, Fact, made, passed, ran, facts, Begins}

abbrev pub step_view : CodeStep → Step
step_view (Make node) = make node.0
step_view (Take node i port) = takes node.0 i.0 port
step_view (Pass node i port) = pass node.0 i.0 port
step_view (Run i part) = run i.0 part

abbrev pub fact_view : CodeFact → Fact
fact_view (Made node) = made node.0
fact_view (Passed i port) = passed i.0 port
fact_view (Ran i part) = ran i.0 part

-- what is known before step s of part j
abbrev pub IsKnownAt : Graph → List Part → ℕ → ℕ → Fact → Type 0
IsKnownAt g plan j s f = Begins g plan j f ⊎ Has (facts (take s (steps_at plan j))) f

abbrev pub AreKnownAt : Graph → List Part → ℕ → ℕ → List NodeId → Type 0
AreKnownAt g plan j s ids = (m : NodeId) → Has ids m → IsKnownAt g plan j s (made m.0)

-- a place that is none
abbrev pub nowhere : ℕ
nowhere = 4294967295

-- the part in the spot of a node, nowhere if the list has no spot of it
abbrev pub part_in : Option Spot → ℕ
part_in None = nowhere
part_in (Some spot) = spot.part

abbrev pub part_of : List Spot → ℕ → ℕ
part_of spots n = part_in (slice_get spots n)

-- a number of flat rows, by where each row starts
abbrev pub number_in : Option ℕ → ℕ
number_in None = nowhere
number_in (Some n) = n

abbrev pub in_row : Option ℕ → List ℕ → ℕ → ℕ
in_row None list b = nowhere
in_row (Some start) list b = number_in (slice_get list (start + b))

abbrev pub ran_at : List ℕ → List ℕ → ℕ → ℕ → ℕ
ran_at starts list i b = in_row (slice_get starts i) list b

-- where the connections of each instance begin in one list of all, from a place on, and where they end
abbrev pub conns_start : ℕ → List Instance → List ℕ
conns_start at [] = []
conns_start at (it ∷ its) = at ∷ conns_start (at + length it.conns) its

abbrev pub conns_end : ℕ → List Instance → ℕ
conns_end at [] = at
conns_end at (it ∷ its) = conns_end (at + length it.conns) its
