-- A number that is put where all parts that read it are stale keeps the marks right.
use Rattle.std.proofs.Common.{◌≡◌, ℕ, Bool, true, false, true≢false, List, ◌∷◌, refl, sym, subst, ◌∙◌, ap}
use Rattle.std.specs.Prelude.{Option, Some}
use Rattle.hc_signal.specs.Member.{Has}
use Rattle.hc_walk.proofs.Members.{has_map}
use Rattle.hc_signal.specs.declared.signal.NodeId.{NodeId}
use Rattle.hc_signal.specs.declared.signal.Node.{Node}
use Rattle.hc_signal.specs.declared.signal.Node.TheVariants.{Input, InstOut}
use Rattle.hc_signal.specs.Tree.{Tree}
use Rattle.hc_signal.specs.Occurrences.{Occurrence, graph_at, NodeIs, IsReachedPath, IsReachedOccurrence, connection, CombStep, inside, down, up}
use Rattle.hc_bench.specs.Simulation.{State, value, optional_value}
use Rattle.hc_settling.proofs.Agrees.{value_agrees}
use Rattle.hc_steps.specs.Plan.{Step, make, take, pass, run, Part, steps_at, made, fact, facts, IsPlain, id_of}
use Rattle.hc_settling.specs.Known.{at_path, ArePlans, IsBalanced, AreMarked}
use Rattle.hc_steps.specs.Tables.{Reads, by_make, by_pass, Takes, by_take}
use Rattle.hc_settling.proofs.Steps.{same_node}
use Rattle.hc_settling.proofs.Meant.{IsMeant, meant_at}

module _ (t : Tree) (plans : List ℕ → List Part) (are : ArePlans t plans) (state : State) (inputs : List ℕ) (vals new : Occurrence → ℕ) (stale : List ℕ → ℕ → Bool) (put : Occurrence)
    (same : (s : Occurrence) → (s ≡ put → ⊥) → new s ≡ vals s)
    (own : (j : ℕ) → Has (facts (steps_at (plans put.path) j)) (made put.node) → stale put.path j ≡ true)
    (readers : (j : ℕ) → Reads (graph_at t put.path) (plans put.path) j put.node → stale put.path j ≡ true)
    (takers : (i j : ℕ) (q : List ℕ) → put.path ≡ i ∷ q → Takes (λ k. graph_at t (k ∷ q)) (plans q) j i put.node → stale q j ≡ true)
    (passers : (i j m port : ℕ) (q : List ℕ) → put.path ≡ i ∷ q → NodeIs t put.path put.node (Input port) → IsReachedOccurrence t put → Has (steps_at (plans q) j) (pass m i port)
    → stale q j ≡ true) where
  awake : (q : List ℕ) (j : ℕ) → stale q j ≡ false → stale q j ≡ true → ⊥
  awake q j u v = true≢false (sym v ∙ u)

  own_at : (s : Occurrence) → s ≡ put → (j : ℕ) → Has (facts (steps_at (plans s.path) j)) (made s.node) → stale s.path j ≡ true
  own_at s e = subst (λ (z : Occurrence). (j : ℕ) → Has (facts (steps_at (plans z.path) j)) (made z.node) → stale z.path j ≡ true) (sym e) own

  readers_at : (s : Occurrence) → s ≡ put → (j : ℕ) → Reads (graph_at t s.path) (plans s.path) j s.node → stale s.path j ≡ true
  readers_at s e = subst (λ (z : Occurrence). (j : ℕ) → Reads (graph_at t z.path) (plans z.path) j z.node → stale z.path j ≡ true) (sym e) readers

  takers_at : (s : Occurrence) → s ≡ put → (i j : ℕ) (q : List ℕ) → s.path ≡ i ∷ q → Takes (λ k. graph_at t (k ∷ q)) (plans q) j i s.node → stale q j ≡ true
  takers_at s e = subst (λ (z : Occurrence). (i j : ℕ) (q : List ℕ) → z.path ≡ i ∷ q → Takes (λ k. graph_at t (k ∷ q)) (plans q) j i z.node → stale q j ≡ true) (sym e) takers

  passers_at : (s : Occurrence) → s ≡ put → (i j m port : ℕ) (q : List ℕ) → s.path ≡ i ∷ q → NodeIs t s.path s.node (Input port) → IsReachedOccurrence t s
      → Has (steps_at (plans q) j) (pass m i port) → stale q j ≡ true
  passers_at s e = subst (λ (z : Occurrence). (i j m port : ℕ) (q : List ℕ) → z.path ≡ i ∷ q → NodeIs t z.path z.node (Input port) → IsReachedOccurrence t z
      → Has (steps_at (plans q) j) (pass m i port) → stale q j ≡ true) (sym e) passers

  made_same : (q : List ℕ) (j m : ℕ) → stale q j ≡ false → Has (facts (steps_at (plans q) j)) (made m) → new (at_path q m) ≡ vals (at_path q m)
  made_same q j m u h = same (at_path q m) (λ e. awake q j u (own_at (at_path q m) e j h))

  read_same : (q : List ℕ) (j m : ℕ) → stale q j ≡ false → Reads (graph_at t q) (plans q) j m → new (at_path q m) ≡ vals (at_path q m)
  read_same q j m u h = same (at_path q m) (λ e. awake q j u (readers_at (at_path q m) e j h))

  -- what a node of the circuit itself is computed from
  operands_same : (q : List ℕ) (j m : ℕ) (x : Node) → stale q j ≡ false → Has (steps_at (plans q) j) (make m) → NodeIs t q m x → IsPlain x
      → (to : List ℕ) (k : ℕ) → CombStep t q m to k → vals (at_path to k) ≡ new (at_path to k)
  operands_same q j m x u h y plain to k (inside z w c) = sym (read_same q j k u (by_make z h w c))
  operands_same q j m x u h y plain _ k (down port w o) = absurd (subst IsPlain (same_node (graph_at t q) m x (InstOut _ port) y w) plain)
  operands_same _ j m x u h y plain to k (up {path = q'} {i = i} port w o) = absurd (subst IsPlain (same_node (graph_at t (i ∷ q')) m x (Input port) y w) plain)

  step_same : (q : List ℕ) (j : ℕ) → IsReachedPath t q → stale q j ≡ false → (s : Step) → Has (steps_at (plans q) j) s
      → IsMeant (graph_at t q) (λ i. graph_at t (i ∷ q)) s → IsBalanced t state inputs vals q s → IsBalanced t state inputs new q s
  step_same q j r u (make m) h c b = λ row e.
      made_same q j m u (has_map fact h)
      ∙ b row e
      ∙ value_agrees t state inputs vals new q m row.node (row, e, refl) (operands_same q j m c.1.0 u h c.1.1 c.1.2)
  step_same q j r u (take m i port) h c b = λ row e.
      let is : row.node ≡ InstOut (record { 0 = i }) port = same_node (graph_at t q) m row.node (InstOut (record { 0 = i }) port) (row, e, refl) c.1 in
      let w : NodeId = c.2.0 in
      let wire : new (at_path (i ∷ q) w.0) ≡ vals (at_path (i ∷ q) w.0) = same (at_path (i ∷ q) w.0) (λ f. awake q j u (takers_at (at_path (i ∷ q) w.0) f i j q refl (by_take h c.2.1))) in
      made_same q j m u (has_map fact h)
      ∙ b row e
      ∙ ap (λ (z : Node). value t state inputs vals q m z) is
      ∙ ap (λ (o : Option NodeId). optional_value vals (i ∷ q) o) c.2.1
      ∙ sym wire
      ∙ sym (ap (λ (o : Option NodeId). optional_value new (i ∷ q) o) c.2.1)
      ∙ sym (ap (λ (z : Node). value t state inputs new q m z) is)
  step_same q j r u (pass m i port) h c b = λ k y z.
      same (at_path (i ∷ q) k) (λ f. awake q j u (passers_at (at_path (i ∷ q) k) f i j m port q refl y z h))
      ∙ b k y z
      ∙ sym (read_same q j m u (by_pass h))
  step_same q j r u (run i part) h c b = tt

  pub marks_stay : AreMarked t plans state inputs vals stale → AreMarked t plans state inputs new stale
  marks_stay marked q j r u = ((λ s h. step_same q j r u s h (meant_at t plans are q r j s h) ((marked q j r u).0 s h)), (marked q j r u).1)

-- More parts may be marked, if each part that runs one of them is.
pub more_marks : (t : Tree) (plans : List ℕ → List Part) (state : State) (inputs : List ℕ) (vals : Occurrence → ℕ) (stale more : List ℕ → ℕ → Bool)
    → ((p : List ℕ) (part : ℕ) → more p part ≡ false → stale p part ≡ false)
    → ((p : List ℕ) (part i b : ℕ) → IsReachedPath t p → more p part ≡ false → Has (steps_at (plans p) part) (run i b) → more (i ∷ p) b ≡ false)
    → AreMarked t plans state inputs vals stale → AreMarked t plans state inputs vals more
more_marks t plans state inputs vals stale more grown closed marked p part r u = ((marked p part r (grown p part u)).0, (λ i b h. closed p part i b r u h))

-- Where an input of an instance is not its connection, each part that passes it is stale.
module _ (t : Tree) (plans : List ℕ → List Part) (are : ArePlans t plans) (state : State) (inputs : List ℕ) (vals : Occurrence → ℕ) (stale : List ℕ → ℕ → Bool)
    (marked : AreMarked t plans state inputs vals stale) where
  same_id : (a b : NodeId) → ◌≡◌ {A = Option NodeId} (Some a) (Some b) → a ≡ b
  same_id a b e = cc

  pub passers_stale : (q : List ℕ) (i port n : ℕ) (c : NodeId) → IsReachedPath t q → NodeIs t (i ∷ q) n (Input port) → IsReachedOccurrence t (at_path (i ∷ q) n)
      → connection (graph_at t q) i port ≡ Some c
      → ¬ (vals (at_path (i ∷ q) n) ≡ vals (at_path q c.0)) → (j m : ℕ) → Has (steps_at (plans q) j) (pass m i port) → stale q j ≡ true
  passers_stale q i port n c r y z e changed j m h = by (stale q j) refl
    where
      by : (b : Bool) → stale q j ≡ b → stale q j ≡ true
      by true u = u
      by false u =
          let is : id_of m ≡ c = same_id (id_of m) c (sym (meant_at t plans are q r j (pass m i port) h).1 ∙ e) in
          absurd (changed ((marked q j r u).0 (pass m i port) h n y z ∙ ap (λ (k : NodeId). vals (at_path q k.0)) is))
