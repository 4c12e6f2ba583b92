-- The plans of the example are plans.
use Rattle.std.proofs.Common.{◌≡◌, ℕ, zero, suc, ◌^◌, ◌<◌, ◌⊎◌, inl, inr, List, [], ◌∷◌, refl, sym, subst, ap, arith}
use Rattle.std.specs.Prelude.{slice_get, Option, Some, None, IsBitSet}
use Rattle.std.specs.Int.{bit_at}
use Rattle.std.proofs.lemmas.Nat.Bits.{bit_at-pow_other}
use Rattle.hc_signal.specs.Member.{Has, first, later}
use Rattle.hc_signal.specs.declared.signal.NodeId.{NodeId}
use Rattle.hc_signal.specs.declared.signal.NodeRow.{NodeRow}
use Rattle.hc_signal.specs.declared.signal.Node.{Node}
use Rattle.hc_signal.specs.declared.signal.Node.TheVariants.{Input, Wire, Not, InstOut}
use Rattle.hc_signal.specs.Graph.{Graph, Vertex, node, mem, inst, Reached, output, further, fanin, nodes_of}
use Rattle.hc_signal.specs.Lawful.{NodeAt}
use Rattle.hc_paths.proofs.Picked.{to_bit, from_bit}
use Rattle.hc_steps.specs.Plan.{steps_at, Fact, made, passed, ran, facts, Begins, input, NeedsInput, IsBefore, IsPlain, HasStep, AreReady, IsGiven, IsPlan, id_of}
use Rattle.hc_steps.specs.Crossing.{bit_row, child, parent, child_plan, parent_plan}
use Rattle.hc_steps.proofs.Lists.{same_node}

-- only bit k of 2 ^ k is set
one_bit : (b k : ℕ) → IsBitSet (2 ^ b) k → (k ≡ b → ⊥) → ⊥
one_bit b k h d = let z : bit_at (2 ^ b) k ≡ 0 = bit_at-pow_other b k d in let q : bit_at (2 ^ b) k ≡ 1 = to_bit (2 ^ b) k h in omega (arith, z, q)

at : (g : Graph) (n : ℕ) (x : Node) → slice_get g.nodes n ≡ Some (bit_row x) → NodeAt g n x
at g n x e = (bit_row x, e, refl)

-- ---- the child

child_0 : Reached child (node 0)
child_0 = output (node 0) first

child_1 : Reached child (node 1)
child_1 = further (node 0) (node 1) child_0 first

child_3 : Reached child (node 3)
child_3 = output (node 3) (later first)

child_4 : Reached child (node 4)
child_4 = further (node 3) (node 4) child_3 first

abbrev NoInst : Vertex → Type 0
NoInst (node n) = Unit {0}
NoInst (mem m) = Unit {0}
NoInst (inst i) = ⊥

child_from : (p q : Vertex) → Has (fanin child p) q → NoInst q
child_from (node zero) _ first = tt
child_from (node zero) q (later h) = elim h [ ]
child_from (node (suc zero)) _ first = tt
child_from (node (suc zero)) q (later h) = elim h [ ]
child_from (node (suc (suc zero))) q h = elim h [ ]
child_from (node (suc (suc (suc zero)))) _ first = tt
child_from (node (suc (suc (suc zero)))) q (later h) = elim h [ ]
child_from (node (suc (suc (suc (suc zero))))) _ first = tt
child_from (node (suc (suc (suc (suc zero))))) q (later h) = elim h [ ]
child_from (node (suc (suc (suc (suc (suc zero)))))) q h = elim h [ ]
child_from (node (suc (suc (suc (suc (suc (suc n))))))) q h = elim h [ ]
child_from (mem m) q h = elim h [ ]
child_from (inst i) q h = elim h [ ]

child_outputs : (p : Vertex) → Has (nodes_of child.outputs) p → NoInst p
child_outputs _ first = tt
child_outputs _ (later first) = tt
child_outputs p (later (later h)) = elim h [ ]

no_instance : {p : Vertex} → Reached child p → NoInst p
no_instance (output p c) = child_outputs p c
no_instance (further p q r c) = child_from p q c

abbrev known_in : ℕ → Fact → Type 0
known_in j f = Begins child child_plan j f

child_parts : (j : ℕ) → AreReady child (λ i. child) (λ i. []) (Begins child child_plan j) [] (steps_at child_plan j)
child_parts zero = ((child_1, (Not (id_of 2), at child 1 (Not (id_of 2)) refl, tt, operand_2)), ((child_0, (Wire (Some (id_of 1)), at child 0 (Wire (Some (id_of 1))) refl, tt, operand_1)), tt))
  where
    operand_2 : (m : NodeId) → Has (id_of 2 ∷ []) m → Begins child child_plan 0 (made m.0) ⊎ Has [] (made m.0)
    operand_2 _ first = inl (input 0 (at child 2 (Input 0) refl) (from_bit 1 0 refl))
    operand_2 m (later h) = elim h [ ]

    operand_1 : (m : NodeId) → Has (id_of 1 ∷ []) m → Begins child child_plan 0 (made m.0) ⊎ Has (made 1 ∷ []) (made m.0)
    operand_1 _ first = inr first
    operand_1 m (later h) = elim h [ ]
child_parts (suc zero) = ((child_4, (Not (id_of 5), at child 4 (Not (id_of 5)) refl, tt, operand_5)), ((child_3, (Wire (Some (id_of 4)), at child 3 (Wire (Some (id_of 4))) refl, tt, operand_4)), tt))
  where
    operand_5 : (m : NodeId) → Has (id_of 5 ∷ []) m → Begins child child_plan 1 (made m.0) ⊎ Has [] (made m.0)
    operand_5 _ first = inl (input 1 (at child 5 (Input 1) refl) (from_bit 2 1 refl))
    operand_5 m (later h) = elim h [ ]

    operand_4 : (m : NodeId) → Has (id_of 4 ∷ []) m → Begins child child_plan 1 (made m.0) ⊎ Has (made 4 ∷ []) (made m.0)
    operand_4 _ first = inr first
    operand_4 m (later h) = elim h [ ]
child_parts (suc (suc j)) = tt

no_step : (g : Graph) (n k : ℕ) (x : Node) → NodeAt g n x → NodeAt g n (Input k) → HasStep x → ⊥
no_step g n k x y z s = subst HasStep (same_node g n x (Input k) y z) s

child_nodes : (n : ℕ) (x : Node) → Reached child (node n) → NodeAt child n x → HasStep x → IsGiven child_plan (made n)
child_nodes zero x r y s = (0, later first)
child_nodes (suc zero) x r y s = (0, first)
child_nodes (suc (suc zero)) x r y s = absurd (no_step child 2 0 x y (at child 2 (Input 0) refl) s)
child_nodes (suc (suc (suc zero))) x r y s = (1, later first)
child_nodes (suc (suc (suc (suc zero)))) x r y s = (1, first)
child_nodes (suc (suc (suc (suc (suc zero))))) x r y s = absurd (no_step child 5 1 x y (at child 5 (Input 1) refl) s)
child_nodes (suc (suc (suc (suc (suc (suc n)))))) x r y s = absurd (nothing_at y.0 y.1)
  where
    nothing_at : (row : NodeRow) → ◌≡◌ {A = Option NodeRow} None (Some row) → ⊥
    nothing_at row e = cc

pub child_is : IsPlan child (λ i. child) (λ i. []) child_plan
child_is = record {
  parts = child_parts;
  nodes = child_nodes;
  inputs = λ i port n r y. absurd (no_instance r);
  instances = λ i part f r h. absurd (no_instance r);
}

-- ---- the parent

parent_0 : Reached parent (node 0)
parent_0 = output (node 0) first

parent_1 : Reached parent (node 1)
parent_1 = further (node 0) (node 1) parent_0 first

parent_inst : Reached parent (inst 0)
parent_inst = further (node 1) (inst 0) parent_1 first

parent_3 : Reached parent (node 3)
parent_3 = further (inst 0) (node 3) parent_inst (later first)

parent_4 : Reached parent (node 4)
parent_4 = further (node 3) (node 4) parent_3 first

abbrev OneInst : Vertex → Type 0
OneInst (node n) = Unit {0}
OneInst (mem m) = Unit {0}
OneInst (inst i) = i ≡ 0

parent_from : (p q : Vertex) → Has (fanin parent p) q → OneInst q
parent_from (node zero) _ first = tt
parent_from (node zero) q (later h) = elim h [ ]
parent_from (node (suc zero)) _ first = refl
parent_from (node (suc zero)) q (later h) = elim h [ ]
parent_from (node (suc (suc zero))) q h = elim h [ ]
parent_from (node (suc (suc (suc zero)))) _ first = tt
parent_from (node (suc (suc (suc zero)))) q (later h) = elim h [ ]
parent_from (node (suc (suc (suc (suc zero))))) _ first = refl
parent_from (node (suc (suc (suc (suc zero))))) q (later h) = elim h [ ]
parent_from (node (suc (suc (suc (suc (suc n)))))) q h = elim h [ ]
parent_from (mem m) q h = elim h [ ]
parent_from (inst zero) _ first = tt
parent_from (inst zero) _ (later first) = tt
parent_from (inst zero) q (later (later h)) = elim h [ ]
parent_from (inst (suc i)) q h = elim h [ ]

parent_outputs : (p : Vertex) → Has (nodes_of parent.outputs) p → OneInst p
parent_outputs _ first = tt
parent_outputs p (later h) = elim h [ ]

one_instance : {p : Vertex} → Reached parent p → OneInst p
one_instance (output p c) = parent_outputs p c
one_instance (further p q r c) = parent_from p q c

abbrev Here : List Fact → Fact → Type 0
Here so_far f = Begins parent parent_plan 0 f ⊎ Has so_far f

-- the inputs of the two parts of the instance
needs_0 : (so_far : List Fact) → Here so_far (passed 0 0) → (k : ℕ) → NeedsInput child_plan 0 k → Here so_far (passed 0 k)
needs_0 so_far a zero h = a
needs_0 so_far a (suc k) h = absurd (one_bit 0 (suc k) h (λ e. cc))

needs_1 : (so_far : List Fact) → Here so_far (passed 0 1) → (k : ℕ) → NeedsInput child_plan 1 k → Here so_far (passed 0 k)
needs_1 so_far a zero h = absurd (one_bit 1 0 h (λ e. cc))
needs_1 so_far a (suc zero) h = a
needs_1 so_far a (suc (suc k)) h = absurd (one_bit 1 (suc (suc k)) h (λ e. let f : suc (suc k) ≡ 1 = e in omega (arith, f)))

before_0 : (so_far : List Fact) (b : ℕ) → IsBefore child_plan 0 b → Here so_far (ran 0 b)
before_0 so_far b is = let l : b < 0 = is.0 in absurd (omega (arith, l))

before_1 : (so_far : List Fact) → Here so_far (ran 0 0) → (b : ℕ) → IsBefore child_plan 1 b → Here so_far (ran 0 b)
before_1 so_far a zero is = a
before_1 so_far a (suc b) is = let l : suc b < 1 = is.0 in absurd (omega (arith, l))

parent_parts : (j : ℕ) → AreReady parent (λ i. child) (λ i. child_plan) (Begins parent parent_plan j) [] (steps_at parent_plan j)
parent_parts zero = (
  (parent_inst, refl, inl (input 0 (at parent 2 (Input 0) refl) (from_bit 1 0 refl))),
  (
    (parent_inst, needs_0 (passed 0 0 ∷ []) (inr first), before_0 (passed 0 0 ∷ []), omega arith),
    (
      (parent_4, at parent 4 (InstOut (record { 0 = 0 }) 0) refl, (id_of 0, 0, refl, later first, inr first)),
      (
        (parent_3, (Wire (Some (id_of 4)), at parent 3 (Wire (Some (id_of 4))) refl, tt, operand_4)),
        (
          (parent_inst, refl, inr first),
          (
            (
              parent_inst,
              needs_1 (passed 0 1 ∷ made 3 ∷ made 4 ∷ ran 0 0 ∷ passed 0 0 ∷ []) (inr first),
              before_1 (passed 0 1 ∷ made 3 ∷ made 4 ∷ ran 0 0 ∷ passed 0 0 ∷ [])
                  (inr (later (later (later first)))),
              omega arith,
            ),
            (
              (parent_1, at parent 1 (InstOut (record { 0 = 0 }) 1) refl, (id_of 3, 1, refl, later first, inr first)),
              (
                (parent_0, (Wire (Some (id_of 1)), at parent 0 (Wire (Some (id_of 1))) refl, tt, operand_1)),
                tt,
              ),
            ),
          ),
        ),
      ),
    ),
  ),
)
  where
    operand_4 : (m : NodeId) → Has (id_of 4 ∷ []) m → Here (made 4 ∷ ran 0 0 ∷ passed 0 0 ∷ []) (made m.0)
    operand_4 _ first = inr first
    operand_4 m (later h) = elim h [ ]

    operand_1 : (m : NodeId) → Has (id_of 1 ∷ []) m → Here (made 1 ∷ ran 0 1 ∷ passed 0 1 ∷ made 3 ∷ made 4 ∷ ran 0 0 ∷ passed 0 0 ∷ []) (made m.0)
    operand_1 _ first = inr first
    operand_1 m (later h) = elim h [ ]
parent_parts (suc j) = tt

parent_nodes : (n : ℕ) (x : Node) → Reached parent (node n) → NodeAt parent n x → HasStep x → IsGiven parent_plan (made n)
parent_nodes zero x r y s = (0, later (later (later (later (later (later (later first)))))))
parent_nodes (suc zero) x r y s = (0, later (later (later (later (later (later first))))))
parent_nodes (suc (suc zero)) x r y s = absurd (no_step parent 2 0 x y (at parent 2 (Input 0) refl) s)
parent_nodes (suc (suc (suc zero))) x r y s = (0, later (later (later first)))
parent_nodes (suc (suc (suc (suc zero)))) x r y s = (0, later (later first))
parent_nodes (suc (suc (suc (suc (suc n))))) x r y s = absurd (nothing_at y.0 y.1)
  where
    nothing_at : (row : NodeRow) → ◌≡◌ {A = Option NodeRow} None (Some row) → ⊥
    nothing_at row e = cc

abbrev port_of : Node → ℕ
port_of (Input port) = port
port_of other = 0

-- an input of the child is the first or the second
child_input : (n port : ℕ) → NodeAt child n (Input port) → (port ≡ 0) ⊎ (port ≡ 1)
child_input zero port y = absurd (subst IsPlain (same_node child 0 (Wire (Some (id_of 1))) (Input port) (at child 0 (Wire (Some (id_of 1))) refl) y) tt)
child_input (suc zero) port y = absurd (subst IsPlain (same_node child 1 (Not (id_of 2)) (Input port) (at child 1 (Not (id_of 2)) refl) y) tt)
child_input (suc (suc zero)) port y = inl (ap port_of (same_node child 2 (Input port) (Input 0) y (at child 2 (Input 0) refl)))
child_input (suc (suc (suc zero))) port y = absurd (subst IsPlain (same_node child 3 (Wire (Some (id_of 4))) (Input port) (at child 3 (Wire (Some (id_of 4))) refl) y) tt)
child_input (suc (suc (suc (suc zero)))) port y = absurd (subst IsPlain (same_node child 4 (Not (id_of 5)) (Input port) (at child 4 (Not (id_of 5)) refl) y) tt)
child_input (suc (suc (suc (suc (suc zero))))) port y = inr (ap port_of (same_node child 5 (Input port) (Input 1) y (at child 5 (Input 1) refl)))
child_input (suc (suc (suc (suc (suc (suc n)))))) port y = absurd (nothing_at y.0 y.1)
  where
    nothing_at : (row : NodeRow) → ◌≡◌ {A = Option NodeRow} None (Some row) → ⊥
    nothing_at row e = cc

passed_given : (port : ℕ) → (port ≡ 0) ⊎ (port ≡ 1) → IsGiven parent_plan (passed 0 port)
passed_given port (inl e) = subst (λ k. IsGiven parent_plan (passed 0 k)) (sym e) (0, first)
passed_given port (inr e) = subst (λ k. IsGiven parent_plan (passed 0 k)) (sym e) (0, later (later (later (later first))))

ran_given : (part : ℕ) (f : Fact) → Has (facts (steps_at child_plan part)) f → IsGiven parent_plan (ran 0 part)
ran_given zero f h = (0, later first)
ran_given (suc zero) f h = (0, later (later (later (later (later first)))))
ran_given (suc (suc part)) f h = elim h [ ]

pub parent_is : IsPlan parent (λ i. child) (λ i. child_plan) parent_plan
parent_is = record {
  parts = parent_parts;
  nodes = parent_nodes;
  inputs = λ i port n r y. subst (λ k. IsGiven parent_plan (passed k port)) (sym (one_instance r)) (passed_given port (child_input n port y));
  instances = λ i part f r h. subst (λ k. IsGiven parent_plan (ran k part)) (sym (one_instance r)) (ran_given part f h);
}
