-- The circuit of a body is lawful: its heads and statements keep it formed, and its rows are few.
use Rattle.std.proofs.Common.{◌≡◌, ℕ, suc, ◌+◌, ◌≤◌, ◌⊎◌, inl, inr, Bool, true, false, List, [], ◌∷◌, length, refl, subst, ap, arith}
use Rattle.std.specs.Prelude.{if◌then◌else◌, nat_le, None, sum_by, Result, Ok, Err, ℤ}
use Rattle.std.proofs.lemmas.Bool.{cases_lt, leb-true}
use Rattle.std.proofs.lemmas.List.{length_push}
use Rattle.std.proofs.lemmas.List.Sums.{sum_by-cons}
use Rattle.hc_fault.specs.declared.fault.Fault.{Fault}
use Rattle.hc_fault.specs.declared.fault.FaultKind.TheVariants.{CircuitWeight, NoOutputs, PortCount, Undriven}
use Rattle.hc_fault.specs.declared.fault.Path.{Path}
use Rattle.hc_lang.specs.declared.tree.CircuitText.{CircuitText}
use Rattle.hc_lang.specs.declared.tree.Design.{Design}
use Rattle.hc_lang.specs.declared.tree.Head.{Head}
use Rattle.hc_signal.specs.declared.signal.Node.TheVariants.{Input, Wire}
use Rattle.hc_signal.specs.declared.signal.Port.{Port}
use Rattle.hc_signal.specs.Builds.{port, unlabelled}
use Rattle.hc_signal.specs.Checked.{Breaks, IsChecked, Rule, all_driven, few_ports, some_output}
use Rattle.hc_signal.specs.Graph.{Graph}
use Rattle.hc_signal.specs.Lawful.{IsLawful}
use Rattle.hc_signal.specs.Weight.{graph_weight, instance_weight, memory_weight, node_weight}
use Rattle.hc_unfold.specs.Formed.{AreFew, IsFormed}
use Rattle.hc_statements.specs.Elaborated.{after_heads, call_elaborated, elaborated, fault_at, go_on, most_weight, statement, statement_step, weighed}
use Rattle.hc_statements.specs.Formed.{IsFormedBody}
use Rattle.hc_statements.specs.PortWidths.{PortWidths, parameters, port_widths}
use Rattle.hc_statements.specs.Statements.{open_head, open_heads, open_input, open_output}
use Rattle.hc_statements.specs.Steps.{Broken, nothing}
use Rattle.hc_statements.specs.Unrolled.{Do, Item, Statement, Stop, unrolled}
use Rattle.hc_statements.specs.declared.state.Elaborating.{Elaborating}
use Rattle.hc_body.specs.BodyOf.{BodyOf, body_of, broken, line_of, line_past, many_ports, no_outputs, undriven, whole}
use Rattle.hc_body.specs.declared.kinds.Body.{Body}

-- ---- few rows

fewer : {X : Type 0} (f : X → ℕ) (xs : List X) → ((x : X) → 1 ≤ f x) → length xs ≤ sum_by f xs
fewer f [] h = omega arith
fewer f (x ∷ xs) h = let e : _ = sum_by-cons f x xs in let one : _ = h x in let more : _ = fewer f xs h in omega arith

few_of_weight : (g : Graph) → graph_weight g ≤ 262144 → AreFew g
few_of_weight g light =
    let a : _ = fewer node_weight g.nodes (λ row. omega arith) in
    let b : _ = fewer memory_weight g.memories (λ m. omega arith) in
    let c : _ = fewer instance_weight g.instances (λ i. omega arith) in
    record { nodes = omega arith; memories = omega arith; instances = omega arith }

-- the heads alone: a node for each port
record IsOfHeads (g : Graph) : Type 0 where
  nodes : length g.nodes ≡ length g.ports.inputs + length g.ports.outputs
  memories : g.memories ≡ []
  instances : g.instances ≡ []

of_head : (h : Head) (w : ℕ) (b : Bool) (e : Elaborating) → IsOfHeads e.graph → IsOfHeads (if b then open_input e h.name w else open_output e h.line h.name w).graph
of_head h w true e are = record {
  nodes = let n : _ = length_push e.graph.nodes (unlabelled w (Input (length e.graph.ports.inputs))) in let p : _ = length_push e.graph.ports.inputs (port h.name w)
      in let was : _ = are.nodes in omega (arith, n, p, was);
  memories = are.memories;
  instances = are.instances;
}
of_head h w false e are = record {
  nodes = let n : _ = length_push e.graph.nodes (unlabelled w (Wire None)) in let p : _ = length_push e.graph.ports.outputs (port h.name w) in let was : _ = are.nodes in omega (arith, n, p, was);
  memories = are.memories;
  instances = are.instances;
}

of_heads : (hs : List Head) (ws : List ℕ) (e : Elaborating) → IsOfHeads e.graph → IsOfHeads (open_heads hs ws e).graph
of_heads [] ws e are = are
of_heads (h ∷ hs) [] e are = are
of_heads (h ∷ hs) (w ∷ ws) e are = of_heads hs ws (open_head h w e) (of_head h w h.is_input e are)

few_of_heads : (g : Graph) → IsOfHeads g → length g.ports.inputs ≤ 128 → length g.ports.outputs ≤ 128 → AreFew g
few_of_heads g are i o =
    let n : length g.nodes ≡ length g.ports.inputs + length g.ports.outputs = are.nodes in
    let m : length g.memories ≡ 0 = ap length are.memories in
    let k : length g.instances ≡ 0 = ap length are.instances in
    record { nodes = omega (arith, n, i, o); memories = omega (arith, m); instances = omega (arith, k) }

-- ---- bodies

-- formed, and light or of heads alone
record IsSmall (e : Elaborating) : Type 0 where
  formed : IsFormedBody e
  small : (graph_weight e.graph ≤ 262144) ⊎ IsOfHeads e.graph

abbrev StatementsForm : Design → Type 0
StatementsForm d = (line : ℕ) (s : Statement) (e f : Elaborating) → IsFormedBody e → statement_step d line s e ≡ Ok (f, tt) → IsFormedBody f

abbrev HeadsForm : Type 0
HeadsForm = (c : CircuitText) (args : List ℤ) (widths : List ℕ) → port_widths c args ≡ Ok widths → IsFormedBody (open_heads c.heads widths nothing)

module _ (d : Design) (statements : StatementsForm d) (heads : HeadsForm) (path : Path) where
  weighed_small : (count line : ℕ) (r : Result (Elaborating × Unit {0}) Broken) (f : Elaborating) → ((g : Elaborating) → r ≡ Ok (g, tt) → IsFormedBody g)
      → weighed d path count line r ≡ Ok f → IsSmall f
  weighed_small count line (Err fault) f formed is = absurd cc
  weighed_small count line (Ok done) f formed is = by (nat_le (count + graph_weight done.0.graph) most_weight) refl is
    where
      by : (b : Bool) → nat_le (count + graph_weight done.0.graph) most_weight ≡ b → (if b then Ok done.0 else Err (fault_at path CircuitWeight line)) ≡ Ok f → IsSmall f
      by false light e = absurd cc
      by true light e =
          let same : done.0 ≡ f = cc in
          let at_most : count + graph_weight done.0.graph ≤ 262144 = leb-true (count + graph_weight done.0.graph) most_weight light in
          subst IsSmall same (record { formed = formed done.0 refl; small = inl (omega (arith, at_most)) })

  items_small : (items : List Item) (e f : Elaborating) → IsSmall e → elaborated d path items e ≡ Ok f → IsSmall f
  items_small [] e f s is = let same : e ≡ f = cc in subst IsSmall same s
  items_small (Stop line kind ∷ items) e f s is = absurd cc
  items_small (Do count line st ∷ items) e f s is = by (statement d path count line st e) refl is (λ g t more. items_small items g f t more)
    where
      by : (r : Result Elaborating Fault) → statement d path count line st e ≡ r → go_on d path r (elaborated d path items) ≡ Ok f
          → ((g : Elaborating) → IsSmall g → elaborated d path items g ≡ Ok f → IsSmall f) → IsSmall f
      by (Err fault) was last more = absurd cc
      by (Ok g) was last more = more g (weighed_small count line (statement_step d line st e) g (λ h done. statements line st e h s.formed done) was) last

  call_small : (c : CircuitText) (args : List ℤ) (e : Elaborating) → call_elaborated d path c args ≡ Ok e → IsSmall e
  call_small c args e is = by (port_widths c args) refl is
    where
      by : (r : PortWidths) → port_widths c args ≡ r → after_heads d path c args r ≡ Ok e → IsSmall e
      by (Err f) have last = absurd cc
      by (Ok widths) have last =
          items_small (unrolled c.body (parameters c args)).items (open_heads c.heads widths nothing) e
          (record { formed = heads c args widths have; small = inr (of_heads c.heads widths nothing (record { nodes = refl; memories = refl; instances = refl })) }) last

  module _ (lawful : (g : Graph) → IsFormed g → AreFew g → IsLawful g) where
    -- a body with few ports
    small_lawful : (e : Elaborating) → IsSmall e → length e.graph.ports.inputs ≤ 128 → length e.graph.ports.outputs ≤ 128 → IsLawful e.graph
    small_lawful e s inputs outputs = lawful e.graph s.formed.graph (elim s.small [ inl light ↦ few_of_weight e.graph light | inr are ↦ few_of_heads e.graph are inputs outputs ])

    made_lawful : (c : CircuitText) (args : List ℤ) (r : Result Body Fault) → BodyOf d c args path r → (b : Body) → r ≡ Ok b → IsLawful b.circuit
    made_lawful c args r (broken fault is) b e = absurd cc
    made_lawful c args r (no_outputs f is breaks) b e = absurd cc
    made_lawful c args r (many_ports f is breaks) b e = absurd cc
    made_lawful c args r (undriven f n is breaks) b e = absurd cc
    made_lawful c args r (whole f is checked) b e = let same : body_of c args f ≡ b = cc in subst (λ (x : Body). IsLawful x.circuit) same
        (small_lawful f (call_small c args f is) checked.few_inputs checked.few_outputs)

    pub body_lawful : (c : CircuitText) (args : List ℤ) (b : Body) → BodyOf d c args path (Ok b) → IsLawful b.circuit
    body_lawful c args b of = made_lawful c args (Ok b) of b refl

    -- ---- each call has an answer

    module _ (verdict : (g : Graph) → IsLawful g → IsChecked g ⊎ ((rule : Rule) × (place : ℕ) × Breaks g rule place)) (c : CircuitText) (args : List ℤ) where
      abbrev IsAnswered : Type 0
      IsAnswered = (r : Result Body Fault) × BodyOf d c args path r

      breaks_so : (e : Elaborating) → call_elaborated d path c args ≡ Ok e → (rule : Rule) (place : ℕ) → Breaks e.graph rule place → IsAnswered
      breaks_so e is some_output place breaks = (Err (fault_at path NoOutputs c.line), no_outputs e is (breaks.0, refl))
      breaks_so e is few_ports place breaks = (Err (fault_at path PortCount (line_past c.heads)), many_ports e is (breaks.0, breaks.1, refl))
      breaks_so e is all_driven place breaks = (Err (fault_at path Undriven (line_of place e.declared)), undriven e place is breaks)

      with_few_ports : (e : Elaborating) → call_elaborated d path c args ≡ Ok e → length e.graph.ports.inputs ≤ 128 → length e.graph.ports.outputs ≤ 128 → IsAnswered
      with_few_ports e is inputs outputs = elim (verdict e.graph (small_lawful e (call_small c args e is) inputs outputs)) [
        | inl checked ↦ (Ok (body_of c args e), whole e is checked)
        | inr first ↦ breaks_so e is first.0 first.1 first.2
      ]

      with_ports : (e : Elaborating) → call_elaborated d path c args ≡ Ok e → 1 ≤ length e.graph.ports.outputs → IsAnswered
      with_ports e is some = elim (cases_lt 128 (length e.graph.ports.inputs)) [
        | inl many ↦ (Err (fault_at path PortCount (line_past c.heads)), many_ports e is (some, inl many, refl))
        | inr few ↦ elim (cases_lt 128 (length e.graph.ports.outputs)) [
          | inl many ↦ (Err (fault_at path PortCount (line_past c.heads)), many_ports e is (some, inr many, refl))
          | inr less ↦ with_few_ports e is few less
        ]
      ]

      elaborates_so : (e : Elaborating) → call_elaborated d path c args ≡ Ok e → (ps : List Port) → e.graph.ports.outputs ≡ ps → IsAnswered
      elaborates_so e is [] none = (Err (fault_at path NoOutputs c.line), no_outputs e is (none, refl))
      elaborates_so e is (p ∷ ps) some = with_ports e is (let n : length e.graph.ports.outputs ≡ suc (length ps) = ap length some in omega (arith, n))

      pub call_answered : IsAnswered
      call_answered = by (call_elaborated d path c args) refl
        where
          by : (x : Result Elaborating Fault) → call_elaborated d path c args ≡ x → IsAnswered
          by (Ok e) is = elaborates_so e is e.graph.ports.outputs refl
          by (Err fault) is = (Err fault, broken fault is)
