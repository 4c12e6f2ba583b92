-- Where the parts that the tables name are stale, a number may be put.
use Rattle.std.proofs.Common.{◌≡◌, ℕ, Bool, true, inl, inr, List, [], ◌∷◌, sym, subst, ap}
use Rattle.std.specs.Prelude.{slice_get, Some}
use Rattle.hc_signal.specs.Member.{Has}
use Rattle.hc_walk.proofs.Members.{has_from_map, has_slice}
use Rattle.hc_signal.specs.declared.signal.NodeId.{NodeId}
use Rattle.hc_signal.specs.declared.signal.Node.{Node}
use Rattle.hc_signal.specs.declared.signal.Node.TheVariants.{Input, Wire, InstOut}
use Rattle.hc_signal.specs.Lawful.{IsLawful}
use Rattle.hc_signal.specs.Tree.{Tree, none, tree, graph, IsWhole}
use Rattle.hc_signal.specs.Occurrences.{Occurrence, tree_at, graph_at, NodeIs, IsReachedPath, IsReachedOccurrence, connection}
use Rattle.hc_bench.specs.Simulation.{State}
use Rattle.hc_paths.proofs.Searching.{same_or_not}
use Rattle.hc_steps.specs.Plan.{Step, make, take, pass, run, Part, steps_at, Fact, made, passed, ran, fact, facts, IsPlain, id_of}
use Rattle.hc_settling.specs.Known.{at_path, ArePlans, AreMarked}
use Rattle.hc_steps.specs.Tables.{Reads, Takes, by_take, Tables, row}
use Rattle.hc_settling.specs.Tables.{AreTablesOf}
use Rattle.hc_settling.proofs.Agrees.{whole_at}
use Rattle.hc_settling.proofs.Steps.{same_node}
use Rattle.hc_settling.proofs.Meant.{meant_at}
use Rattle.hc_settling.proofs.Marks.{passers_stale}

abbrev number : Fact → ℕ
number (made n) = n
number (passed i port) = 0
number (ran i part) = 0

lawful_in : (s : Tree) → IsWhole s → IsLawful (graph s)
lawful_in none w = absurd w
lawful_in (tree g kids) w = w.0

module _ (t : Tree) (plans : List ℕ → List Part) (are : ArePlans t plans) where
  -- no step makes the number of an input
  step_no_input : (p : List ℕ) → IsReachedPath t p → (part : ℕ) (s : Step) (n port : ℕ) → Has (steps_at (plans p) part) s → fact s ≡ made n → NodeIs t p n (Input port) → ⊥
  step_no_input p r part (make m) n port h e y =
      let c = meant_at t plans are p r part (make m) h in
      let x : NodeIs t p m (Input port) = subst (λ (k : ℕ). NodeIs t p k (Input port)) (sym (ap number e)) y in
      subst IsPlain (same_node (graph_at t p) m c.1.0 (Input port) c.1.1 x) c.1.2
  step_no_input p r part (take m i o) n port h e y =
      let c = meant_at t plans are p r part (take m i o) h in
      let x : NodeIs t p m (Input port) = subst (λ (k : ℕ). NodeIs t p k (Input port)) (sym (ap number e)) y in
      let z : InstOut (record { 0 = i }) o ≡ Input port = same_node (graph_at t p) m (InstOut (record { 0 = i }) o) (Input port) c.1 x in
      absurd (cc)
  step_no_input p r part (pass m i o) n port h e y = absurd (cc)
  step_no_input p r part (run i b) n port h e y = absurd (cc)

  pub made_no_input : (p : List ℕ) → IsReachedPath t p → (part n port : ℕ) → Has (facts (steps_at (plans p) part)) (made n) → NodeIs t p n (Input port) → ⊥
  made_no_input p r part n port h y = let m : _ = has_from_map fact (steps_at (plans p) part) (made n) h in step_no_input p r part m.0 n port m.1 m.2 y

  module _ (tables : List ℕ → Tables) (told : AreTablesOf t plans tables) (stale : List ℕ → ℕ → Bool) where
    -- where the readers of a part are stale, and it itself
    pub told_own : (p : List ℕ) → IsReachedPath t p → (part n j : ℕ) → Has (facts (steps_at (plans p) part)) (made n) → stale p part ≡ true
        → Has (facts (steps_at (plans p) j)) (made n) → stale p j ≡ true
    told_own p r part n j h u g = subst (λ (k : ℕ). stale p k ≡ true) ((told p r).one_step part j n h g) u

    pub told_readers : (p : List ℕ) → IsReachedPath t p → (part n j : ℕ) → Has (facts (steps_at (plans p) part)) (made n) → stale p part ≡ true
        → ((k : ℕ) → Has (row (tables p).readers part) k → stale p k ≡ true) → Reads (graph_at t p) (plans p) j n → stale p j ≡ true
    told_readers p r part n j h u a g = elim (same_or_not part j) [ inl e ↦ subst (λ (k : ℕ). stale p k ≡ true) e u | inr d ↦ a j ((told p r).readers part j n h g d) ]

    -- where the part of the parent that runs it is stale, and those that take from that
    pub told_takers : (q : List ℕ) (i : ℕ) → IsReachedPath t q → (part n a j : ℕ) → Has (facts (steps_at (plans (i ∷ q)) part)) (made n) → Has (steps_at (plans q) a) (run i part) → stale q a ≡ true
        → ((k : ℕ) → Has (row (tables q).takers a) k → stale q k ≡ true) → Takes (λ k. graph_at t (k ∷ q)) (plans q) j i n → stale q j ≡ true
    told_takers q i r part n a j h c u b g = elim (same_or_not a j) [ inl e ↦ subst (λ (k : ℕ). stale q k ≡ true) e u | inr d ↦ b j ((told q r).takers a j i part n c h g d) ]

    pub told_inputs : (p : List ℕ) → IsReachedPath t p → (n port j : ℕ) → NodeIs t p n (Input port)
        → ((k : ℕ) → Has (row (tables p).input_readers port) k → stale p k ≡ true) → Reads (graph_at t p) (plans p) j n → stale p j ≡ true
    told_inputs p r n port j y a g = a j ((told p r).inputs port j n y g)

    -- an input is no output wire
    pub input_not_taken : IsWhole t → (p : List ℕ) → IsReachedPath t p → (n port i j : ℕ) (q : List ℕ) → NodeIs t p n (Input port) → p ≡ i ∷ q → Takes (λ k. graph_at t (k ∷ q)) (plans q) j i n → ⊥
    input_not_taken whole p r n port i j q y e (by_take {port = o} h w) =
        let z : slice_get (graph_at t p).outputs o ≡ Some (id_of n) = subst (λ (l : List ℕ). slice_get (graph_at t l).outputs o ≡ Some (id_of n)) (sym e) w in
        let l = (lawful_in (tree_at t p) (whole_at t whole p r)).wires (id_of n) (has_slice (graph_at t p).outputs o (id_of n) z) in
        subst IsPlain (same_node (graph_at t p) n (Wire l.1) (Input port) (l.0, l.2, l.3) y) tt

abbrev head_of : List ℕ → ℕ
head_of [] = 0
head_of (x ∷ xs) = x

abbrev tail_of : List ℕ → List ℕ
tail_of [] = []
tail_of (x ∷ xs) = xs

abbrev port_of : Node → ℕ
port_of (Input port) = port
port_of other = 0

-- a part that passes an input which is not its connection is stale, however it is named
module _ (t : Tree) (plans : List ℕ → List Part) (are : ArePlans t plans) (state : State) (inputs : List ℕ) (vals : Occurrence → ℕ) (stale : List ℕ → ℕ → Bool)
    (marked : AreMarked t plans state inputs vals stale) where
  pub passers_of : (q : List ℕ) (i port n : ℕ) (c : NodeId) → IsReachedPath t (i ∷ q) → NodeIs t (i ∷ q) n (Input port) → connection (graph_at t q) i port ≡ Some c
      → ¬ (vals (at_path (i ∷ q) n) ≡ vals (at_path q c.0))
      → (a j m o : ℕ) (l : List ℕ) → i ∷ q ≡ a ∷ l → NodeIs t (i ∷ q) n (Input o) → IsReachedOccurrence t (at_path (i ∷ q) n) → Has (steps_at (plans l) j) (pass m a o) → stale l j ≡ true
  passers_of q i port n c r y e changed a j m o l same z reached h =
      let path : q ≡ l = ap tail_of same in
      let inst : i ≡ a = ap head_of same in
      let one : port ≡ o = ap port_of (same_node (graph_at t (i ∷ q)) n (Input port) (Input o) y z) in
      let at_q : Has (steps_at (plans q) j) (pass m a o) = subst (λ (k : List ℕ). Has (steps_at (plans k) j) (pass m a o)) (sym path) h in
      let at_i : Has (steps_at (plans q) j) (pass m i o) = subst (λ (k : ℕ). Has (steps_at (plans q) j) (pass m k o)) (sym inst) at_q in
      let at_port : Has (steps_at (plans q) j) (pass m i port) = subst (λ (k : ℕ). Has (steps_at (plans q) j) (pass m i k)) (sym one) at_i in
      subst (λ (k : List ℕ). stale k j ≡ true) path (passers_stale t plans are state inputs vals stale marked q i port n c r.0 y reached e changed j m at_port)
