-- A part of a still instance is right where its inputs are, and the parts before it.
use Rattle.std.proofs.Common.{◌≡◌, ℕ, ◌⊎◌, inl, inr, List, [], ◌∷◌, sym, ◌∙◌, ap}
use Rattle.std.specs.Prelude.{slice_get, Option, Some, None}
use Rattle.hc_signal.specs.Member.{Has, first, later}
use Rattle.hc_signal.specs.declared.signal.NodeId.{NodeId}
use Rattle.hc_signal.specs.declared.signal.NodeRow.{NodeRow}
use Rattle.hc_signal.specs.declared.signal.Instance.{Instance}
use Rattle.hc_signal.specs.declared.signal.Node.{Node}
use Rattle.hc_signal.specs.declared.signal.Node.TheVariants.{Input, Const, InstOut}
use Rattle.hc_signal.specs.Graph.{node, inst, Reached, further, node_of, fanin_of_instance}
use Rattle.hc_signal.specs.Lawful.{NodeAt}
use Rattle.hc_signal.specs.Tree.{Tree}
use Rattle.hc_signal.specs.Occurrences.{Occurrence, graph_at, NodeIs, IsReachedPath, IsReachedOccurrence, comb_fanin, connection, connection_of, inside, down}
use Rattle.hc_bits.specs.BitVector.{BitVector}
use Rattle.hc_bench.specs.Simulation.{State, value, IsSettled}
use Rattle.hc_paths.proofs.Composed.{step_reached}
use Rattle.hc_walk.proofs.Members.{has_map, has_slice}
use Rattle.hc_steps.specs.Plan.{Step, make, take, pass, run, Part, steps_at, Fact, made, passed, ran, fact, facts, Begins, constant, input, before, NeedsInput, IsBefore, IsPlain, IsReady, AreReady, id_of}
use Rattle.hc_settling.specs.Known.{at_path, ArePlans, IsRight, IsKnown, is_made, is_passed, is_run, IsBalanced, IsStill, still, KeepsConstants}
use Rattle.hc_settling.proofs.Steps.{make_right, take_right, pass_right}

-- what is known says
pub known_made : {t : Tree} {plans : List ℕ → List Part} {vals v : Occurrence → ℕ} {p : List ℕ} {n : ℕ} → IsKnown t plans vals v p (made n) → IsRight vals v t (at_path p n)
known_made (is_made h) = h

pub known_passed : {t : Tree} {plans : List ℕ → List Part} {vals v : Occurrence → ℕ} {p : List ℕ} {i port : ℕ} → IsKnown t plans vals v p (passed i port) → (n : ℕ)
    → NodeIs t (i ∷ p) n (Input port) → IsRight vals v t (at_path (i ∷ p) n)
known_passed (is_passed h) = h

pub known_run : {t : Tree} {plans : List ℕ → List Part} {vals v : Occurrence → ℕ} {p : List ℕ} {i part : ℕ} → IsKnown t plans vals v p (ran i part) → (f : Fact)
    → Has (facts (steps_at (plans (i ∷ p)) part)) f → IsKnown t plans vals v (i ∷ p) f
known_run (is_run h) = h

-- What is known stays known where right numbers stay right.
pub known_stays : {t : Tree} {plans : List ℕ → List Part} {old new v : Occurrence → ℕ} → ((s : Occurrence) → IsRight old v t s → IsRight new v t s)
    → {p : List ℕ} {f : Fact} → IsKnown t plans old v p f → IsKnown t plans new v p f
known_stays keep (is_made h) = is_made (keep _ h)
known_stays keep (is_passed h) = is_passed (λ n y. keep _ (h n y))
known_stays keep (is_run h) = is_run (λ f c. known_stays keep (h f c))

module _ (t : Tree) (plans : List ℕ → List Part) (state : State) (inputs : List ℕ) (vals v : Occurrence → ℕ) (settled : IsSettled t state inputs v) (constants : KeepsConstants t vals) where
  abbrev Known : List ℕ → Fact → Type 0
  Known p f = IsKnown t plans vals v p f

  abbrev pub BeginsKnown : List ℕ → ℕ → Type 0
  BeginsKnown p part = (f : Fact) → Begins (graph_at t p) (plans p) part f → Known p f

  -- a constant is right
  pub constant_right : (p : List ℕ) (n : ℕ) (c : BitVector) → NodeIs t p n (Const c) → IsRight vals v t (at_path p n)
  constant_right p n c y r = constants p n c y r ∙ sym (ap (λ (z : Node). value t state inputs v p n z) y.2) ∙ sym (settled (at_path p n) y.0 r y.1)

  -- Where a part of an instance may run, what it needs is known there.
  pub begins : (p : List ℕ) (i part : ℕ) → ((k : ℕ) → NeedsInput (plans (i ∷ p)) part k → Known p (passed i k))
      → ((b : ℕ) → IsBefore (plans (i ∷ p)) part b → Known p (ran i b)) → BeginsKnown (i ∷ p) part
  begins p i part ins runs _ (constant {n = n} c y) = is_made (constant_right (i ∷ p) n c y)
  begins p i part ins runs _ (input {n = n} k y need) = is_made (known_passed (ins k need) n y)
  begins p i part ins runs f (before b is h) = known_run (runs b is) f h

  -- an operand of a reached node is reached
  operand_reached : (p : List ℕ) (n : ℕ) (x : Node) → IsReachedOccurrence t (at_path p n) → NodeIs t p n x → (m : NodeId) → Has (comb_fanin x) m → IsReachedOccurrence t (at_path p m.0)
  operand_reached p n x r y m h = step_reached t (inside x y h) r

  -- the number of a node as its operands give it is the right one
  pub made_right : (p : List ℕ) → IsReachedPath t p → (n : ℕ) → Reached (graph_at t p) (node n) → (x : Node) → NodeAt (graph_at t p) n x → IsPlain x
      → ((m : NodeId) → Has (comb_fanin x) m → Known p (made m.0))
      → (row : NodeRow) → slice_get (graph_at t p).nodes n ≡ Some row → value t state inputs vals p n row.node ≡ v (at_path p n)
  made_right p r n c x y plain k row e = make_right t state inputs vals v settled p n x row (r, c) y plain e (λ m h. known_made (k m h) (operand_reached p n x (r, c) y m h))

  -- the right number of an output, and of an input, of an instance
  pub taken_right : (p : List ℕ) → IsReachedPath t p → (n i port part : ℕ) → Reached (graph_at t p) (node n) → NodeAt (graph_at t p) n (InstOut (record { 0 = i }) port)
      → (w : NodeId) → slice_get (graph_at t (i ∷ p)).outputs port ≡ Some w
      → Has (facts (steps_at (plans (i ∷ p)) part)) (made w.0) → Known p (ran i part) → (row : NodeRow) → slice_get (graph_at t p).nodes n ≡ Some row
      → value t state inputs vals p n row.node ≡ v (at_path p n)
  taken_right p r n i port part c y w o h k row e =
      take_right t state inputs vals v settled p n i port row w (r, c) y e o (known_made (known_run k (made w.0) h) (step_reached t (down port y o) (r, c)))

  -- a connection is a node that is reached
  connection_reached : (p : List ℕ) → IsReachedPath t p → (i port n : ℕ) → Reached (graph_at t p) (inst i) → connection (graph_at t p) i port ≡ Some (id_of n) → Reached (graph_at t p) (node n)
  connection_reached p r i port n c e = further (inst i) (node n) c (connected (slice_get (graph_at t p).instances i) e)
    where
      connected : (o : Option Instance) → connection_of o port ≡ Some (id_of n) → Has (fanin_of_instance o) (node n)
      connected None e = cc
      connected (Some it) e = has_map node_of (has_slice it.conns port (id_of n) e)

  pub passed_right : (p : List ℕ) → IsReachedPath t p → (n i port : ℕ) → Reached (graph_at t p) (inst i) → connection (graph_at t p) i port ≡ Some (id_of n) → Known p (made n)
      → (m : ℕ) → NodeIs t (i ∷ p) m (Input port) → IsReachedOccurrence t (at_path (i ∷ p) m) → vals (at_path p n) ≡ v (at_path (i ∷ p) m)
  passed_right p r n i port c e k m y q =
      known_made k (r, connection_reached p r i port n c e) ∙ pass_right t state inputs vals v settled p n i port m y q e

  -- what a part of an instance makes known where what it needs is known
  abbrev Runs : List ℕ → ℕ → ℕ → Type 0
  Runs p i part = Reached (graph_at t p) (inst i) → BeginsKnown (i ∷ p) part → (f : Fact) → Has (facts (steps_at (plans (i ∷ p)) part)) f → Known (i ∷ p) f

  -- the step, where it is one that runs a part of an instance, makes its facts known
  abbrev RunsKnown : List ℕ → Step → Type 0
  RunsKnown p (make n) = Unit {0}
  RunsKnown p (take n i port) = Unit {0}
  RunsKnown p (pass n i port) = Unit {0}
  RunsKnown p (run i part) = Runs p i part

  -- a step that would change nothing has done its work
  step_known : (p : List ℕ) → IsReachedPath t p → (known : Fact → Type 0) → ((f : Fact) → known f → Known p f) → (s : Step) → RunsKnown p s
      → IsReady (graph_at t p) (λ i. graph_at t (i ∷ p)) (λ i. plans (i ∷ p)) known s → IsBalanced t state inputs vals p s → Known p (fact s)
  step_known p r known k (make n) kid ready b =
      let y = ready.1.1 in
      is_made (λ q. b y.0 y.1 ∙ made_right p r n ready.0 ready.1.0 y ready.1.2 (λ m h. k (made m.0) (ready.1.3 m h)) y.0 y.1)
  step_known p r known k (take n i port) kid ready b =
      let y = ready.1 in let o = ready.2 in
      is_made (λ q. b y.0 y.1 ∙ taken_right p r n i port o.1 ready.0 y o.0 o.2 o.3 (k (ran i o.1) o.4) y.0 y.1)
  step_known p r known k (pass n i port) kid ready b =
      is_passed (λ m y q. b m y q ∙ passed_right p r n i port ready.0 ready.1 (k (made n) ready.2) m y q)
  step_known p r known k (run i part) kid ready b =
      is_run (kid ready.0 (begins p i part (λ j need. k (passed i j) (ready.1 j need)) (λ c is. k (ran i c) (ready.2 c is))))

  known_so_far : (p : List ℕ) (known : Fact → Type 0) (so_far : List Fact) → ((f : Fact) → known f → Known p f) → ((f : Fact) → Has so_far f → Known p f) → (f : Fact)
      → known f ⊎ Has so_far f → Known p f
  known_so_far p known so_far a b f (inl h) = a f h
  known_so_far p known so_far a b f (inr h) = b f h

  one_more : (p : List ℕ) (s : Fact) (so_far : List Fact) → Known p s → ((f : Fact) → Has so_far f → Known p f) → (f : Fact) → Has (s ∷ so_far) f → Known p f
  one_more p s so_far k a _ first = k
  one_more p s so_far k a f (later h) = a f h

  steps_known : (p : List ℕ) → IsReachedPath t p → (known : Fact → Type 0) → ((f : Fact) → known f → Known p f) → (so_far : List Fact)
      → ((f : Fact) → Has so_far f → Known p f) → (steps : List Step) → ((s : Step) → Has steps s → RunsKnown p s)
      → AreReady (graph_at t p) (λ i. graph_at t (i ∷ p)) (λ i. plans (i ∷ p)) known so_far steps → ((s : Step) → Has steps s → IsBalanced t state inputs vals p s) → (f : Fact)
      → Has (facts steps) f → Known p f
  steps_known p r known k so_far a [] kids ready b f h = elim h [ ]
  steps_known p r known k so_far a (s ∷ steps) kids ready b f h =
      let now : Known p (fact s) = step_known p r (λ g. known g ⊎ Has so_far g) (known_so_far p known so_far k a) s (kids s first) ready.0 (b s first) in
      rest h now (steps_known p r known k (fact s ∷ so_far) (one_more p (fact s) so_far now a) steps (λ z c. kids z (later c)) ready.1 (λ z c. b z (later c)))
    where
      rest : {f : Fact} → Has (fact s ∷ facts steps) f → Known p (fact s) → ((g : Fact) → Has (facts steps) g → Known p g) → Known p f
      rest first now more = now
      rest (later c) now more = more _ c

  runs_known : (p : List ℕ) (part : ℕ) → ((i b : ℕ) → Has (steps_at (plans p) part) (run i b) → Runs p i b) → (s : Step) → Has (steps_at (plans p) part) s → RunsKnown p s
  runs_known p part a (make n) h = tt
  runs_known p part a (take n i port) h = tt
  runs_known p part a (pass n i port) h = tt
  runs_known p part a (run i b) h = a i b h

  -- A still part is right where what it needs is known.
  module _ (are : ArePlans t plans) where
    pub still_known : {p : List ℕ} {part : ℕ} → IsStill t plans state inputs vals p part → IsReachedPath t p → BeginsKnown p part → (f : Fact) → Has (facts (steps_at (plans p) part)) f → Known p f
    still_known (still {p = p} {part = part} steps kids) r k =
        steps_known p r (Begins (graph_at t p) (plans p) part) k [] (λ g c. elim c [ ]) (steps_at (plans p) part) (runs_known p part (λ i b h c. still_known (kids i b h) (r, c)))
        ((are p r).parts part) steps
