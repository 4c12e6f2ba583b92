-- The plan of an entry: how the numbers of its circuit are computed, part by part.
use Rattle.std.specs.Prelude.{◌≡◌, ℕ, ◌<◌, ◌⊎◌, List, [], ◌∷◌, length, map, slice_get, Option, Some, None, IsBitSet}
use Rattle.hc_signal.specs.Member.{Has}
use Rattle.hc_signal.specs.declared.signal.NodeId.{NodeId}
use Rattle.hc_signal.specs.declared.signal.Node.{Node}
use Rattle.hc_signal.specs.declared.signal.Node.TheVariants.{Input, Wire, Const, Two, Not, Mux, Cat, Select, Reg, Read, InstOut, Op}
use Rattle.hc_signal.specs.Graph.{Graph, node, inst, Reached}
use Rattle.hc_signal.specs.Lawful.{NodeAt}
use Rattle.hc_signal.specs.Occurrences.{comb_fanin, connection}
use Rattle.hc_bits.specs.BitVector.{BitVector}

-- A step: the number of a node of the circuit itself; the number of an instance's output; the number of a connection, to
-- the input of its instance; a part of an instance.
pub data Step : Type 0 where
  make : (n : ℕ) → Step
  take : (n i port : ℕ) → Step
  pass : (n i port : ℕ) → Step
  run : (i part : ℕ) → Step

-- Steps that need these inputs of the circuit, bit k for input k.
pub record Part : Type 0 where
  pub needs : ℕ
  pub steps : List Step

abbrev pub steps_of : Option Part → List Step
steps_of None = []
steps_of (Some part) = part.steps

abbrev pub steps_at : List Part → ℕ → List Step
steps_at plan j = steps_of (slice_get plan j)

abbrev pub NeedsIn : Option Part → ℕ → Type 0
NeedsIn None k = ⊥
NeedsIn (Some part) k = IsBitSet part.needs k

-- part j needs input k
abbrev pub NeedsInput : List Part → ℕ → ℕ → Type 0
NeedsInput plan j k = NeedsIn (slice_get plan j) k

-- part b comes before part j wherever j is run: it stands before it, and j needs its inputs
abbrev pub IsBefore : List Part → ℕ → ℕ → Type 0
IsBefore plan j b = (b < j) × ((k : ℕ) → NeedsInput plan b k → NeedsInput plan j k)

-- what a step makes known: a node's number, an input of an instance, a part of an instance
pub data Fact : Type 0 where
  made : (n : ℕ) → Fact
  passed : (i port : ℕ) → Fact
  ran : (i part : ℕ) → Fact

abbrev pub fact : Step → Fact
fact (make n) = made n
fact (take n i port) = made n
fact (pass n i port) = passed i port
fact (run i part) = ran i part

abbrev pub facts : List Step → List Fact
facts steps = map fact steps

-- what is known where part j begins
pub data Begins (g : Graph) (plan : List Part) (j : ℕ) : Fact → Type 0 where
  constant : {n : ℕ} (c : BitVector) → NodeAt g n (Const c) → Begins g plan j (made n)
  input : {n : ℕ} (k : ℕ) → NodeAt g n (Input k) → NeedsInput plan j k → Begins g plan j (made n)
  before : {f : Fact} (b : ℕ) → IsBefore plan j b → Has (facts (steps_at plan b)) f → Begins g plan j f

-- a node whose number is computed from those of its own circuit, and from its register or memory
abbrev pub IsPlain : Node → Type 0
IsPlain (Input port) = ⊥
IsPlain (InstOut i port) = ⊥
IsPlain (Wire driver) = Unit {0}
IsPlain (Const c) = Unit {0}
IsPlain (Two op a b) = Unit {0}
IsPlain (Not a) = Unit {0}
IsPlain (Mux sel cases) = Unit {0}
IsPlain (Cat parts) = Unit {0}
IsPlain (Select a hi lo) = Unit {0}
IsPlain (Reg next enable clear init) = Unit {0}
IsPlain (Read m addr) = Unit {0}
IsPlain (Op kind args) = Unit {0}

-- a node that has a step
abbrev pub HasStep : Node → Type 0
HasStep (Input port) = ⊥
HasStep (Const c) = ⊥
HasStep (Wire driver) = Unit {0}
HasStep (Two op a b) = Unit {0}
HasStep (Not a) = Unit {0}
HasStep (Mux sel cases) = Unit {0}
HasStep (Cat parts) = Unit {0}
HasStep (Select a hi lo) = Unit {0}
HasStep (Reg next enable clear init) = Unit {0}
HasStep (Read m addr) = Unit {0}
HasStep (InstOut i port) = Unit {0}
HasStep (Op kind args) = Unit {0}

abbrev pub id_of : ℕ → NodeId
id_of n = record { 0 = n }

-- The step may come where these facts are known. `graphs` and `plans` are those of the instances.
abbrev pub IsReady : Graph → (ℕ → Graph) → (ℕ → List Part) → (Fact → Type 0) → Step → Type 0
IsReady g graphs plans known (make n) = Reached g (node n) × ((x : Node) × NodeAt g n x × IsPlain x × ((m : NodeId) → Has (comb_fanin x) m → known (made m.0)))
IsReady g graphs plans known (take n i port) = Reached g (node n) × NodeAt g n (InstOut (record { 0 = i }) port)
    × ((w : NodeId) × (part : ℕ) × (slice_get (graphs i).outputs port ≡ Some w) × Has (facts (steps_at (plans i) part)) (made w.0) × known (ran i part))
IsReady g graphs plans known (pass n i port) = Reached g (inst i) × (connection g i port ≡ Some (id_of n)) × known (made n)
IsReady g graphs plans known (run i part) = Reached g (inst i) × ((k : ℕ) → NeedsInput (plans i) part k → known (passed i k))
    × ((b : ℕ) → IsBefore (plans i) part b → known (ran i b)) × (part < length (plans i))

-- Each step may come after those before it.
abbrev pub AreReady : Graph → (ℕ → Graph) → (ℕ → List Part) → (Fact → Type 0) → List Fact → List Step → Type 0
AreReady g graphs plans known so_far [] = Unit {0}
AreReady g graphs plans known so_far (s ∷ steps) = IsReady g graphs plans (λ f. known f ⊎ Has so_far f) s × AreReady g graphs plans known (fact s ∷ so_far) steps

-- some part has a step for this
abbrev pub IsGiven : List Part → Fact → Type 0
IsGiven plan f = (j : ℕ) × Has (facts (steps_at plan j)) f

-- The plan of a circuit over those of its instances: each part can be run where its inputs are known and the parts before
-- it have run, and all parts together compute all that is reached.
pub record IsPlan (g : Graph) (graphs : ℕ → Graph) (plans : ℕ → List Part) (plan : List Part) : Type 0 where
  pub parts : (j : ℕ) → AreReady g graphs plans (Begins g plan j) [] (steps_at plan j)
  pub nodes : (n : ℕ) (x : Node) → Reached g (node n) → NodeAt g n x → HasStep x → IsGiven plan (made n)
  pub inputs : (i port n : ℕ) → Reached g (inst i) → NodeAt (graphs i) n (Input port) → IsGiven plan (passed i port)
  pub instances : (i part : ℕ) (f : Fact) → Reached g (inst i) → Has (facts (steps_at (plans i) part)) f → IsGiven plan (ran i part)
