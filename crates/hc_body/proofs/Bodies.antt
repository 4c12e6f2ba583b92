-- A whole body: its ports, and a child for each instance.
use Rattle.std.proofs.Common.{◌≡◌, ℕ, ◌+◌, Bool, true, false, List, [], ◌∷◌, ◌++◌, append_assoc, append-nil, refl, sym, ap, subst, ◌∙◌}
use Rattle.std.specs.Prelude.{Some, slice_get, Result, Ok, Err, ℤ, nat_le, if◌then◌else◌}
use Rattle.hc_fault.specs.declared.fault.FaultKind.TheVariants.{CircuitWeight}
use Rattle.hc_fault.specs.declared.fault.Fault.{Fault}
use Rattle.hc_fault.specs.declared.fault.Path.{Path}
use Rattle.hc_lang.specs.declared.tree.Head.{Head}
use Rattle.hc_lang.specs.declared.tree.CircuitText.{CircuitText}
use Rattle.hc_lang.specs.declared.tree.Design.{Design}
use Rattle.hc_signal.specs.declared.signal.Port.{Port}
use Rattle.hc_signal.specs.declared.signal.Ports.{Ports}
use Rattle.hc_signal.specs.declared.signal.Instance.{Instance}
use Rattle.hc_signal.specs.Builds.{port}
use Rattle.hc_signal.specs.Weight.{graph_weight}
use Rattle.hc_statements.specs.declared.kinds.Child.{Child}
use Rattle.hc_body.specs.declared.kinds.Body.{Body}
use Rattle.hc_statements.specs.Unrolled.{Item, Do, Stop, unrolled}
use Rattle.hc_statements.specs.PortWidths.{PortWidths, port_widths, parameters, inputs_of, outputs_of, ports_of}
use Rattle.hc_statements.specs.Steps.{Broken, nothing}
use Rattle.hc_statements.specs.declared.state.Elaborating.{Elaborating}
use Rattle.hc_statements.specs.Statements.{open_input, open_output, open_head, open_heads}
use Rattle.hc_statements.specs.Elaborated.{fault_at, most_weight, weighed, statement_step, statement, elaborated, go_on, after_heads, call_elaborated}
use Rattle.hc_body.specs.BodyOf.{BodyOf, broken, no_outputs, many_ports, undriven, whole, body_of, IsCallOf}
use Rattle.hc_body.specs.Children.{AreChildrenOf}
use Rattle.hc_body.proofs.Matched.{Fits, matched_none, matched_many, matched_call, matched_fits}
use Rattle.hc_body.proofs.Sound.{Sound, statement_keeps}

-- ---- heads

-- the state after heads has their ports after the ones before, and nothing else that counts
record Opened (e f : Elaborating) (ins outs : List Port) : Type 0 where
  inputs : f.graph.ports.inputs ≡ e.graph.ports.inputs ++ ins
  outputs : f.graph.ports.outputs ≡ e.graph.ports.outputs ++ outs
  instances : f.graph.instances ≡ e.graph.instances
  children : f.children ≡ e.children

opened_none : (e : Elaborating) → Opened e e [] []
opened_none e = record { inputs = sym (append-nil e.graph.ports.inputs); outputs = sym (append-nil e.graph.ports.outputs); instances = refl; children = refl }

opened_head : (hs : List Head) (ws : List ℕ) (h : Head) (w : ℕ) (b : Bool) (e f : Elaborating)
    → Opened (if b then open_input e h.name w else open_output e h.line h.name w) f (inputs_of hs ws) (outputs_of hs ws)
    → Opened e f (if b then port h.name w ∷ inputs_of hs ws else inputs_of hs ws) (if b then outputs_of hs ws else port h.name w ∷ outputs_of hs ws)
opened_head hs ws h w true e f o = record {
  inputs = o.inputs ∙ append_assoc e.graph.ports.inputs (port h.name w ∷ [])
      (inputs_of hs ws);
  outputs = o.outputs;
  instances = o.instances;
  children = o.children;
}
opened_head hs ws h w false e f o = record {
  inputs = o.inputs;
  outputs = o.outputs ∙ append_assoc e.graph.ports.outputs (port h.name w ∷ [])
      (outputs_of hs ws);
  instances = o.instances;
  children = o.children;
}

opened : (hs : List Head) (ws : List ℕ) (e : Elaborating) → Opened e (open_heads hs ws e) (inputs_of hs ws) (outputs_of hs ws)
opened [] ws e = opened_none e
opened (h ∷ hs) [] e = opened_none e
opened (h ∷ hs) (w ∷ ws) e = opened_head hs ws h w h.is_input e (open_heads hs ws (open_head h w e)) (opened hs ws (open_head h w e))

same_ports : (p q : Ports) → p.inputs ≡ q.inputs → p.outputs ≡ q.outputs → p ≡ q
same_ports p q i o = ap (λ (is : List Port). let r : Ports = record { inputs = is; outputs = p.outputs } in r) i
    ∙ ap (λ (os : List Port). let r : Ports = record { inputs = q.inputs; outputs = os } in r) o

module _ (d : Design) where
  open_sound : (hs : List Head) (ws : List ℕ) → Sound d (ports_of hs ws) (open_heads hs ws nothing)
  open_sound hs ws = sound (open_heads hs ws nothing) (opened hs ws nothing)
    where
      sound : (f : Elaborating) → Opened nothing f (inputs_of hs ws) (outputs_of hs ws) → Sound d (ports_of hs ws) f
      sound f o =
          record { has_ports = same_ports f.graph.ports (ports_of hs ws) o.inputs o.outputs; matched = rw (o.children, o.instances) matched_none }

  module _ (path : Path) (ports : Ports) where
    -- ---- the items of the body

    weighed_sound : (count line : ℕ) (r : Result (Elaborating × Unit {0}) Broken) (f : Elaborating) → ((g : Elaborating) (x : Unit {0}) → r ≡ Ok (g, x) → Sound d ports g)
        → weighed d path count line r ≡ Ok f → Sound d ports f
    weighed_sound count line (Err fault) f sound is = absurd cc
    weighed_sound count line (Ok done) f sound is = by (nat_le (count + graph_weight done.0.graph) most_weight) is
      where
        by : (b : Bool) → (if b then Ok done.0 else Err (fault_at path CircuitWeight line)) ≡ Ok f → Sound d ports f
        by false e = absurd cc
        by true e = let same : done.0 ≡ f = cc in subst (Sound d ports) same (sound done.0 done.1 refl)

    items_sound : (items : List Item) (e f : Elaborating) → Sound d ports e → elaborated d path items e ≡ Ok f → Sound d ports f
    items_sound [] e f s is = let same : e ≡ f = cc in subst (Sound d ports) same s
    items_sound (Stop line kind ∷ items) e f s is = absurd cc
    items_sound (Do count line st ∷ items) e f s is = by (statement d path count line st e) refl is (λ g t more. items_sound items g f t more)
      where
        by : (r : Result Elaborating Fault) → statement d path count line st e ≡ r → go_on d path r (elaborated d path items) ≡ Ok f
            → ((g : Elaborating) → Sound d ports g → elaborated d path items g ≡ Ok f → Sound d ports f) → Sound d ports f
        by (Err fault) was last more = absurd cc
        by (Ok g) was last more = more g (weighed_sound count line (statement_step d line st e) g (λ h x done. (statement_keeps d ports line st).kept e h x s done) was) last

  -- ---- the body

  abbrev HasPorts : CircuitText → List ℤ → Elaborating → Type 0
  HasPorts c args e = (widths : List ℕ) × (port_widths c args ≡ Ok widths) × Sound d (ports_of c.heads widths) e

  body_sound : (path : Path) (c : CircuitText) (args : List ℤ) (e : Elaborating) → call_elaborated d path c args ≡ Ok e → HasPorts c args e
  body_sound path c args e is = by (port_widths c args) refl is
    where
      by : (r : PortWidths) → port_widths c args ≡ r → after_heads d path c args r ≡ Ok e → HasPorts c args e
      by (Err f) have last = absurd cc
      by (Ok widths) have last = (
        widths,
        have,
        items_sound path (ports_of c.heads widths) (unrolled c.body (parameters c args)).items (open_heads c.heads widths nothing) e
            (open_sound c.heads widths) last,
      )

  abbrev IsBody : CircuitText → List ℤ → Body → Type 0
  IsBody c args b = (e : Elaborating) × HasPorts c args e × (body_of c args e ≡ b)

  made : (path : Path) (c : CircuitText) (args : List ℤ) (r : Result Body Fault) → BodyOf d c args path r → (b : Body) → r ≡ Ok b → IsBody c args b
  made path c args r (broken fault is) b e = absurd cc
  made path c args r (no_outputs f is breaks) b e = absurd cc
  made path c args r (many_ports f is breaks) b e = absurd cc
  made path c args r (undriven f n is breaks) b e = absurd cc
  made path c args r (whole f is checked) b e = let same : body_of c args f ≡ b = cc in (f, body_sound path c args f is, same)

  pub body_ports : (c : CircuitText) (args : List ℤ) (path : Path) (b : Body) → BodyOf d c args path (Ok b)
      → (widths : List ℕ) × (port_widths c args ≡ Ok widths) × (b.circuit.ports ≡ ports_of c.heads widths)
  body_ports c args path b of = by (made path c args (Ok b) of b refl)
    where
      by : IsBody c args b → (widths : List ℕ) × (port_widths c args ≡ Ok widths) × (b.circuit.ports ≡ ports_of c.heads widths)
      by (e, (widths, have, sound), same) = (widths, have, ap (λ (x : Body). x.circuit.ports) (sym same) ∙ sound.has_ports)

  children_of : (e : Elaborating) (ports : Ports) (c : CircuitText) (args : List ℤ) → Sound d ports e → AreChildrenOf d (body_of c args e)
  children_of e ports c args s = record {
    many = matched_many d e.children e.graph.instances s.matched;
    calls = λ i child at. matched_call d e.children e.graph.instances i child s.matched at;
    ports = λ i child it k at stands is. fit child it k is (matched_fits d e.children e.graph.instances i child it s.matched at stands);
  }
    where
      fit : (child : Child) (it : Instance) (k : CircuitText) → IsCallOf d child.call k → Fits d child it
          → (widths : List ℕ) × (port_widths k child.call.args ≡ Ok widths) × (it.ports ≡ ports_of k.heads widths)
      fit child it k is fits =
          let one : slice_get d.circuits child.call.circuit ≡ Some fits.circuit = fits.is_call.there in
          let two : slice_get d.circuits child.call.circuit ≡ Some k = is.there in
          let same : fits.circuit ≡ k = cc in
          subst (λ (x : CircuitText). (widths : List ℕ) × (port_widths x child.call.args ≡ Ok widths) × (it.ports ≡ ports_of x.heads widths)) same (fits.widths, fits.have, fits.ports)

  pub body_children : (c : CircuitText) (args : List ℤ) (path : Path) (b : Body) → BodyOf d c args path (Ok b) → AreChildrenOf d b
  body_children c args path b of = by (made path c args (Ok b) of b refl)
    where
      by : IsBody c args b → AreChildrenOf d b
      by (e, (widths, have, sound), same) = subst (AreChildrenOf d) same (children_of e (ports_of c.heads widths) c args sound)
