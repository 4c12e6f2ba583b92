-- The body of a call does not depend on where the call stands, and neither does its fault but for the path.
use Rattle.std.proofs.Common.{◌≡◌, ℕ, ◌+◌, Bool, true, false, List, [], ◌∷◌, append-nil, refl, sym, ap, subst, ◌∙◌}
use Rattle.std.specs.Prelude.{Some, Result, Ok, Err, ℤ, nat_le, if◌then◌else◌}
use Rattle.hc_fault.specs.declared.fault.Fault.{Fault}
use Rattle.hc_fault.specs.declared.fault.FaultKind.{FaultKind}
use Rattle.hc_fault.specs.declared.fault.FaultKind.TheVariants.{CircuitWeight, NoOutputs, PortCount, Undriven}
use Rattle.hc_fault.specs.declared.fault.Ident.{Ident}
use Rattle.hc_fault.specs.declared.fault.Path.{Path}
use Rattle.hc_lang.specs.declared.tree.CircuitText.{CircuitText}
use Rattle.hc_lang.specs.declared.tree.Design.{Design}
use Rattle.hc_signal.specs.Weight.{graph_weight}
use Rattle.hc_statements.specs.Unrolled.{Item, Do, Stop, unrolled}
use Rattle.hc_statements.specs.PortWidths.{PortWidths, port_widths, parameters}
use Rattle.hc_statements.specs.Steps.{Broken, Here, Inside, nothing}
use Rattle.hc_statements.specs.declared.state.Elaborating.{Elaborating}
use Rattle.hc_statements.specs.Statements.{open_heads}
use Rattle.hc_statements.specs.Elaborated.{fault_at, most_weight, weighed, statement, statement_step, elaborated, go_on, after_heads, call_elaborated}
use Rattle.hc_body.specs.declared.kinds.Body.{Body}
use Rattle.hc_body.specs.BodyOf.{BodyOf, broken, no_outputs, many_ports, undriven, whole, body_of, line_past, line_of}
use Rattle.hc_body.specs.Moved.{IsMoved, AreMoved, below}

module _ (d : Design) (p q : Path) where
  own_path : (at : Path) → at ≡ below at []
  own_path at = ap (λ (steps : List Ident). let moved : Path = record { steps = steps } in moved) (sym (append-nil at.steps))

  own_moved : (kind : FaultKind) (line : ℕ) → IsMoved p q (fault_at p kind line) (fault_at q kind line)
  own_moved kind line = record { kind = refl; line = refl; steps = []; from = ap Some (own_path p); to = ap Some (own_path q) }

  weighed_moved : (count line : ℕ) (r : Result (Elaborating × Unit {0}) Broken) → AreMoved p q (weighed d p count line r) (weighed d q count line r)
  weighed_moved count line (Err (Here kind)) = own_moved kind line
  weighed_moved count line (Err (Inside step inner kind)) = record { kind = refl; line = refl; steps = step ∷ []; from = refl; to = refl }
  weighed_moved count line (Ok done) = by (nat_le (count + graph_weight done.0.graph) most_weight)
    where
      by : (b : Bool) → AreMoved {X = Elaborating} p q (if b then Ok done.0 else Err (fault_at p CircuitWeight line)) (if b then Ok done.0 else Err (fault_at q CircuitWeight line))
      by false = own_moved CircuitWeight line
      by true = refl

  after_statement : (items : List Item) (r s : Result Elaborating Fault) → AreMoved p q r s
      → ((e : Elaborating) → AreMoved p q (elaborated d p items e) (elaborated d q items e))
      → AreMoved p q (go_on d p r (elaborated d p items)) (go_on d q s (elaborated d q items))
  after_statement items (Ok x) (Ok y) same more = subst (λ (z : Elaborating). AreMoved p q (elaborated d p items x) (elaborated d q items z)) same (more x)
  after_statement items (Ok x) (Err g) same more = absurd same
  after_statement items (Err f) (Ok y) same more = absurd same
  after_statement items (Err f) (Err g) same more = same

  items_moved : (items : List Item) (e : Elaborating) → AreMoved p q (elaborated d p items e) (elaborated d q items e)
  items_moved [] e = refl
  items_moved (Stop line kind ∷ items) e = own_moved kind line
  items_moved (Do count line st ∷ items) e =
      after_statement items (statement d p count line st e) (statement d q count line st e) (weighed_moved count line (statement_step d line st e)) (items_moved items)

  heads_moved : (c : CircuitText) (args : List ℤ) (r : PortWidths) → AreMoved p q (after_heads d p c args r) (after_heads d q c args r)
  heads_moved c args (Err f) = own_moved f.1 f.0
  heads_moved c args (Ok widths) = items_moved (unrolled c.body (parameters c args)).items (open_heads c.heads widths nothing)

  call_moved : (c : CircuitText) (args : List ℤ) → AreMoved p q (call_elaborated d p c args) (call_elaborated d q c args)
  call_moved c args = heads_moved c args (port_widths c args)

  -- ---- the answer

  -- what the call gives at the other path
  pub record GivesMoved (c : CircuitText) (args : List ℤ) (r : Result Body Fault) : Type 0 where
    pub other : Result Body Fault
    pub body : BodyOf d c args q other
    pub moved : AreMoved p q r other

  module _ (c : CircuitText) (args : List ℤ) where
    from_ok : (r s : Result Elaborating Fault) → AreMoved p q r s → (e : Elaborating) → r ≡ Ok e → s ≡ Ok e
    from_ok (Ok x) (Ok y) same e is = ap Ok (sym same) ∙ is
    from_ok (Ok x) (Err g) same e is = absurd same
    from_ok (Err f) (Ok y) same e is = absurd same
    from_ok (Err f) (Err g) same e is = absurd cc

    ok_moved : (e : Elaborating) → call_elaborated d p c args ≡ Ok e → call_elaborated d q c args ≡ Ok e
    ok_moved e is = from_ok (call_elaborated d p c args) (call_elaborated d q c args) (call_moved c args) e is

    broken_moved : (fault : Fault) (s : Result Elaborating Fault) → call_elaborated d q c args ≡ s → AreMoved p q (Err fault) s → GivesMoved c args (Err fault)
    broken_moved fault (Ok e) is same = absurd same
    broken_moved fault (Err g) is same = record { other = Err g; body = broken g is; moved = same }

    pub body_moved : (r : Result Body Fault) → BodyOf d c args p r → GivesMoved c args r
    body_moved r (broken fault is) = broken_moved fault (call_elaborated d q c args) refl (subst (λ t. AreMoved p q t (call_elaborated d q c args)) is (call_moved c args))
    body_moved r (no_outputs e is breaks) = record { other = Err (fault_at q NoOutputs c.line); body = no_outputs e (ok_moved e is) breaks; moved = own_moved NoOutputs c.line }
    body_moved r (many_ports e is breaks) = record {
      other = Err (fault_at q PortCount (line_past c.heads));
      body = many_ports e (ok_moved e is) breaks;
      moved = own_moved PortCount
          (line_past c.heads);
    }
    body_moved r (undriven e n is breaks) = record {
      other = Err (fault_at q Undriven (line_of n e.declared));
      body = undriven e n
          (ok_moved e is) breaks;
      moved = own_moved Undriven (line_of n e.declared);
    }
    body_moved r (whole e is checked) = record { other = Ok (body_of c args e); body = whole e (ok_moved e is) checked; moved = refl }

    pub body_stays : (b : Body) → BodyOf d c args p (Ok b) → BodyOf d c args q (Ok b)
    body_stays b of = by (body_moved (Ok b) of)
      where
        by : GivesMoved c args (Ok b) → BodyOf d c args q (Ok b)
        by g = at g.other g.body g.moved
          where
            at : (r : Result Body Fault) → BodyOf d c args q r → AreMoved p q (Ok b) r → BodyOf d c args q (Ok b)
            at (Ok y) body same = subst (λ (z : Body). BodyOf d c args q (Ok z)) (sym same) body
            at (Err g) body same = absurd same
