-- A part under way: what its steps make of the kept numbers and of the marks.
use Rattle.std.specs.Prelude.{◌≡◌, ℕ, suc, ◌≤◌, Bool, true, false, ◌⊎◌, List, [], ◌∷◌, slice_get, Some}
use Rattle.hc_signal.specs.Member.{Has}
use Rattle.hc_signal.specs.declared.signal.NodeRow.{NodeRow}
use Rattle.hc_signal.specs.declared.signal.Node.TheVariants.{Input}
use Rattle.hc_signal.specs.Tree.{Tree}
use Rattle.hc_signal.specs.Occurrences.{Occurrence, graph_at, NodeIs, IsReachedPath}
use Rattle.hc_bench.specs.Simulation.{State, value}
use Rattle.hc_steps.specs.Plan.{Step, make, take, pass, run, Part, steps_at, Fact}
use Rattle.hc_settling.specs.Known.{at_path, IsRight, IsKnown, AreMarked, KeepsConstants}
use Rattle.hc_steps.specs.Tables.{Tables, row}

-- the kept numbers and the marks
pub record Board : Type 0 where
  pub vals : Occurrence → ℕ
  pub stale : List ℕ → ℕ → Bool

-- a part that runs a stale one is stale
abbrev pub IsClosed : Tree → (List ℕ → List Part) → (List ℕ → ℕ → Bool) → Type 0
IsClosed t plans stale = (p : List ℕ) (part i b : ℕ) → IsReachedPath t p → Has (steps_at (plans p) part) (run i b) → stale (i ∷ p) b ≡ true → stale p part ≡ true

-- More parts are stale: these parts of the instance at a path among them.
pub record IsWoken (t : Tree) (plans : List ℕ → List Part) (p : List ℕ) (parts : List ℕ) (old new : List ℕ → ℕ → Bool) : Type 0 where
  pub grown : (q : List ℕ) (j : ℕ) → old q j ≡ true → new q j ≡ true
  pub there : (k : ℕ) → Has parts k → new p k ≡ true
  pub closed : IsClosed t plans old → IsClosed t plans new

-- A number is put at a place of the instance at a path: nothing where it is there; else these parts are woken first.
pub data IsPut (t : Tree) (plans : List ℕ → List Part) (p : List ℕ) (n x : ℕ) (parts : List ℕ) : (old new : Board) → Type 0 where
  kept : {old : Board} → old.vals (at_path p n) ≡ x → IsPut t plans p n x parts old old
  put : {old new : Board} → ¬ (old.vals (at_path p n) ≡ x) → IsWoken t plans p parts old.stale new.stale → new.vals (at_path p n) ≡ x
      → ((s : Occurrence) → (s ≡ at_path p n) ⊎ (new.vals s ≡ old.vals s)) → IsPut t plans p n x parts old new

abbrev pub computed : Tree → State → List ℕ → (Occurrence → ℕ) → List ℕ → ℕ → NodeRow → ℕ
computed t state inputs vals p n r = value t state inputs vals p n r.node

-- The steps of a part, one after another.
pub data Walks (t : Tree) (plans : List ℕ → List Part) (tables : List ℕ → Tables) (state : State) (inputs : List ℕ) : (p : List ℕ) (part : ℕ) → List Step → (old new : Board) → Type 0 where
  stop : {p : List ℕ} {part : ℕ} {b : Board} → Walks t plans tables state inputs p part [] b b
  makes : {p : List ℕ} {part n : ℕ} {steps : List Step} {old mid new : Board} (r : NodeRow) → slice_get (graph_at t p).nodes n ≡ Some r
      → IsPut t plans p n (computed t state inputs old.vals p n r) (row (tables p).readers part) old mid
      → Walks t plans tables state inputs p part steps mid new → Walks t plans tables state inputs p part (make n ∷ steps) old new
  takes : {p : List ℕ} {part n i port : ℕ} {steps : List Step} {old mid new : Board} (r : NodeRow) → slice_get (graph_at t p).nodes n ≡ Some r
      → IsPut t plans p n (computed t state inputs old.vals p n r) (row (tables p).readers part) old mid
      → Walks t plans tables state inputs p part steps mid new → Walks t plans tables state inputs p part (take n i port ∷ steps) old new
  passes : {p : List ℕ} {part n i port : ℕ} {steps : List Step} {old mid new : Board} (m : ℕ) → NodeIs t (i ∷ p) m (Input port)
      → IsPut t plans (i ∷ p) m (old.vals (at_path p n)) (row (tables (i ∷ p)).input_readers port) old mid
      → Walks t plans tables state inputs p part steps mid new → Walks t plans tables state inputs p part (pass n i port ∷ steps) old new
  skips : {p : List ℕ} {part i b : ℕ} {steps : List Step} {old new : Board} → old.stale (i ∷ p) b ≡ false
      → Walks t plans tables state inputs p part steps old new → Walks t plans tables state inputs p part (run i b ∷ steps) old new
  runs : {p : List ℕ} {part i b : ℕ} {steps : List Step} {old mid new : Board} (woken : List ℕ → ℕ → Bool) → old.stale (i ∷ p) b ≡ true
      → IsWoken t plans p (row (tables p).takers part) old.stale woken
      → Walks t plans tables state inputs (i ∷ p) b (steps_at (plans (i ∷ p)) b) (record { vals = old.vals; stale = woken }) mid
      → Walks t plans tables state inputs p part steps mid new → Walks t plans tables state inputs p part (run i b ∷ steps) old new

-- A part of an instance is run from a part of its parent that is stale, as are those that take from that.
abbrev pub IsCalled : (List ℕ → List Part) → (List ℕ → Tables) → (List ℕ → ℕ → Bool) → List ℕ → ℕ → Type 0
IsCalled plans tables stale p part = (i : ℕ) (q : List ℕ) → p ≡ i ∷ q → (a : ℕ) × Has (steps_at (plans q) a) (run i part) × (stale q a ≡ true)
    × ((k : ℕ) → Has (row (tables q).takers a) k → stale q k ≡ true)

-- What comes of a walk: the marks are right, right numbers stay right, and these facts are known.
pub record IsSound (t : Tree) (plans : List ℕ → List Part) (state : State) (inputs : List ℕ) (v : Occurrence → ℕ) (old new : Board) (p : List ℕ) (fs : List Fact) : Type 0 where
  pub marks : AreMarked t plans state inputs new.vals new.stale
  pub constants : KeepsConstants t new.vals
  pub grown : (q : List ℕ) (j : ℕ) → old.stale q j ≡ true → new.stale q j ≡ true
  pub right : (s : Occurrence) → IsRight old.vals v t s → IsRight new.vals v t s
  pub known : (f : Fact) → Has fs f → IsKnown t plans new.vals v p f

-- The parts of the top from this one on, in order: each that is stale is run.
pub data Settles (t : Tree) (plans : List ℕ → List Part) (tables : List ℕ → Tables) (state : State) (inputs : List ℕ) : (part : ℕ) (old new : Board) → Type 0 where
  over : {part : ℕ} {b : Board} → ((j : ℕ) → part ≤ j → steps_at (plans []) j ≡ []) → Settles t plans tables state inputs part b b
  rests : {part : ℕ} {old new : Board} → old.stale [] part ≡ false → Settles t plans tables state inputs (suc part) old new → Settles t plans tables state inputs part old new
  works : {part : ℕ} {old mid new : Board} → old.stale [] part ≡ true → Walks t plans tables state inputs [] part (steps_at (plans []) part) old mid
      → Settles t plans tables state inputs (suc part) mid new → Settles t plans tables state inputs part old new
