-- What a step of a plan says of the circuit.
use Rattle.std.proofs.Common.{◌≡◌, ℕ, ◌⊎◌, List, [], ◌∷◌}
use Rattle.std.specs.Prelude.{slice_get, Some}
use Rattle.hc_signal.specs.Member.{Has, first, later}
use Rattle.hc_signal.specs.declared.signal.NodeId.{NodeId}
use Rattle.hc_signal.specs.declared.signal.Node.{Node}
use Rattle.hc_signal.specs.declared.signal.Node.TheVariants.{InstOut}
use Rattle.hc_signal.specs.Graph.{Graph, node, inst, Reached}
use Rattle.hc_signal.specs.Lawful.{NodeAt}
use Rattle.hc_signal.specs.Tree.{Tree}
use Rattle.hc_signal.specs.Occurrences.{graph_at, IsReachedPath, connection}
use Rattle.hc_steps.specs.Plan.{Step, make, take, pass, run, Part, steps_at, Fact, fact, Begins, IsPlain, IsReady, AreReady, id_of}
use Rattle.hc_settling.specs.Known.{ArePlans}

abbrev pub IsMeant : Graph → (ℕ → Graph) → Step → Type 0
IsMeant g graphs (make n) = Reached g (node n) × ((x : Node) × NodeAt g n x × IsPlain x)
IsMeant g graphs (take n i port) = Reached g (node n) × NodeAt g n (InstOut (record { 0 = i }) port) × ((w : NodeId) × (slice_get (graphs i).outputs port ≡ Some w))
IsMeant g graphs (pass n i port) = Reached g (inst i) × (connection g i port ≡ Some (id_of n))
IsMeant g graphs (run i part) = Reached g (inst i)

meant_one : (g : Graph) (graphs : ℕ → Graph) (plans : ℕ → List Part) (known : Fact → Type 0) (s : Step) → IsReady g graphs plans known s → IsMeant g graphs s
meant_one g graphs plans known (make n) ready = (ready.0, (ready.1.0, ready.1.1, ready.1.2))
meant_one g graphs plans known (take n i port) ready = (ready.0, ready.1, (ready.2.0, ready.2.2))
meant_one g graphs plans known (pass n i port) ready = (ready.0, ready.1)
meant_one g graphs plans known (run i part) ready = ready.0

meant : (g : Graph) (graphs : ℕ → Graph) (plans : ℕ → List Part) (known : Fact → Type 0) (so_far : List Fact) (steps : List Step) (s : Step)
    → AreReady g graphs plans known so_far steps → Has steps s → IsMeant g graphs s
meant g graphs plans known so_far [] s a h = elim h [ ]
meant g graphs plans known so_far (z ∷ steps) _ a first = meant_one g graphs plans (λ f. known f ⊎ Has so_far f) z a.0
meant g graphs plans known so_far (z ∷ steps) s a (later h) = meant g graphs plans known (fact z ∷ so_far) steps s a.1 h

module _ (t : Tree) (plans : List ℕ → List Part) (are : ArePlans t plans) where
  pub meant_at : (p : List ℕ) → IsReachedPath t p → (part : ℕ) (s : Step) → Has (steps_at (plans p) part) s → IsMeant (graph_at t p) (λ i. graph_at t (i ∷ p)) s
  meant_at p r part s h = meant (graph_at t p) (λ i. graph_at t (i ∷ p)) (λ i. plans (i ∷ p)) (Begins (graph_at t p) (plans p) part) [] (steps_at (plans p) part) s ((are p r).parts part) h
