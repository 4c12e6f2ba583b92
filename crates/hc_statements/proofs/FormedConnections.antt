-- An instance keeps a body formed.
use Rattle.std.proofs.Common.{◌≡◌, ℕ, ◌+◌, ◌<◌, Bool, true, false, not, List, [], ◌∷◌, ◌++◌, length, refl, subst, arith, length-append}
use Rattle.std.specs.Prelude.{Option, Some, None, if◌then◌else◌, is_some, slice_get, slice_set, Result, Ok, Err, ℤ}
use Rattle.std.specs.Str.{bytes_eq}
use Rattle.std.proofs.lemmas.List.{length_push}
use Rattle.std.proofs.lemmas.List.Quantifiers.{position-Some}
use Rattle.hc_fault.specs.declared.fault.FaultKind.{FaultKind}
use Rattle.hc_fault.specs.declared.fault.FaultKind.TheVariants.{UnknownPort, RepeatedName, RepeatedPort, WidthMismatch}
use Rattle.hc_lang.specs.declared.tree.CircuitText.{CircuitText}
use Rattle.hc_lang.specs.declared.tree.Design.{Design}
use Rattle.hc_num.specs.Value.{Outcome}
use Rattle.hc_signal.specs.declared.signal.Instance.{Instance}
use Rattle.hc_signal.specs.declared.signal.NodeId.{NodeId}
use Rattle.hc_signal.specs.declared.signal.Port.{Port}
use Rattle.hc_signal.specs.declared.signal.Ports.{Ports}
use Rattle.hc_signal.specs.Graph.{Graph}
use Rattle.hc_signal.specs.Lawful.{ArePorts, HaveWidthsOf}
use Rattle.hc_signal.specs.Builds.{IsNode, output_rows}
use Rattle.hc_unfold.specs.Formed.{more_instances}
use Rattle.hc_unfold.specs.Names.{Key, meaning}
use Rattle.hc_unfold.specs.declared.names.Target.TheVariants as target
use Rattle.hc_unfold.specs.Drawing.{and_then, found}
use Rattle.hc_unfold.specs.Outputs.{port_place}
use Rattle.hc_unfold.specs.Places.{key}
use Rattle.hc_unfold.specs.Signals.{Place, Signal}
use Rattle.hc_statements.specs.Connections.{FitPorts, FitsAt}
use Rattle.hc_statements.specs.Formed.{IsFormedBody}
use Rattle.hc_statements.specs.Gives.{AreWidths}
use Rattle.hc_statements.specs.Instances.{Connected, all_connected, arguments, circuit_at, circuit_place, connect, connected, connections, fits, has_width, ident_of, inst_step, instance, instantiated, is_connected, next_instance, open_place, placed, unconnected, widths_of, with_widths}
use Rattle.hc_statements.specs.PortWidths.{PortWidths, inputs_of, port_widths, ports_of}
use Rattle.hc_statements.specs.Statements.{signal_node}
use Rattle.hc_statements.specs.Steps.{Elaborating, Steps, add_child, answer, bind, draw, given, is_new, with_graph, ◌>>=◌, ◌>>◌}
use Rattle.hc_statements.specs.Unrolled.{Text}
use Rattle.hc_statements.specs.declared.kinds.Call.{Call}
use Rattle.hc_statements.specs.declared.kinds.Child.{Child}
use Rattle.hc_statements.proofs.Connected.{connected_fit, fit_more, fit_none, has_width_at}
use Rattle.hc_statements.proofs.FormedHeads.{widths_are}
use Rattle.hc_statements.proofs.FormedSteps.{Any, Below, Ends, Keeps, ends_bound, ends_then, kept_answer, kept_given, kept_rule, kept_signal, kept_then}
use Rattle.hc_statements.proofs.HeadSteps.{are_ports}
use Rattle.hc_statements.proofs.Known.{grows_none, grows_on, known_longer, node_still}

-- ---- the places of ports

place_within : (ins : List Port) (done : Connected) (name : Text) (at : ℕ) → open_place ins done name ≡ Ok at → at < length ins
place_within ins done name at e = by (port_place name ins) refl e
  where
    tested : (k : ℕ) → port_place name ins ≡ Some k → (b : Bool) → ◌≡◌ {A = Result ℕ FaultKind} (if b then Err RepeatedPort else Ok k) (Ok at) → at < length ins
    tested k is true e' = absurd cc
    tested k is false e' =
        let same : k ≡ at = cc in
        subst (λ n. n < length ins) same (position-Some (λ (p : Port). bytes_eq p.name name) ins k (record { name = []; width = 0 }) is).0

    by : (o : Option ℕ) → port_place name ins ≡ o → and_then (found UnknownPort o) (λ k. if is_connected (slice_get done k) then Err RepeatedPort else Ok k) ≡ Ok at → at < length ins
    by (Some k) is e' = tested k is (is_connected (slice_get done k)) e'
    by None is e' = absurd cc

-- ---- connections

abbrev Fit : List Port → Graph → Connected → Type 0
Fit ins g done = FitPorts g ins done

module _ (below : Below) (ins : List Port) where
  -- the rest of a connection after its node and its place
  abbrev at_place : Connected → NodeId → ℕ → Steps Connected
  at_place done id at = has_width ins at id >> answer (slice_set done at (Some id))

  abbrev to_place : Connected → Text → NodeId → Steps Connected
  to_place done name id = given (open_place ins done name) >>= at_place done id

  kept_connect : (e : Elaborating) (done : Connected) (c : Text × Signal) → IsFormedBody e → FitPorts e.graph ins done → Keeps e (Fit ins) (connect ins done c e)
  kept_connect e done c l fit =
      kept_then e IsNode (Fit ins) (signal_node c.1 e) (to_place done c.0) (kept_signal below e c.1 l)
      (λ f id lf gf n. kept_then f (λ g at. at < length ins) (Fit ins) (given (open_place ins done c.0) f) (at_place done id)
      (kept_given f (λ g at. at < length ins) (open_place ins done c.0) lf (λ at is. place_within ins done c.0 at is))
      (λ i at li gi within. kept_then i (λ g x. FitsAt g ins at id) (Fit ins) (has_width ins at id i) (λ x. answer (slice_set done at (Some id)))
      (kept_rule i (λ g. FitsAt g ins at id) WidthMismatch (fits i.graph ins at id) li (λ fitted. has_width_at i.graph ins at id (node_still f.graph i.graph id n gi) fitted))
      (λ j x lj gj fitted. kept_answer j (Fit ins) (slice_set done at (Some id)) lj
      (fit_more e.graph j.graph ins done at id fit (grows_on e.graph i.graph j.graph (grows_on e.graph f.graph i.graph gf gi) gj)
      fitted within))))

  kept_connections : (cs : List (Text × Signal)) (e : Elaborating) (done : Connected) → IsFormedBody e → FitPorts e.graph ins done → Keeps e (Fit ins) (connections ins done cs e)
  kept_connections [] e done l fit = kept_answer e (Fit ins) done l fit
  kept_connections (c ∷ cs) e done l fit = kept_then e (Fit ins) (Fit ins) (connect ins done c e) (λ more. connections ins more cs) (kept_connect e done c l fit)
      (λ f more lf gf fits. kept_connections cs f more lf fits)

  abbrev Have : Graph → List NodeId → Type 0
  Have g ids = HaveWidthsOf g ids ins

  kept_connected : (e : Elaborating) (cs : List (Text × Signal)) → IsFormedBody e → Keeps e Have (connected ins cs e)
  kept_connected e cs l = kept_then e (Fit ins) Have (connections ins (unconnected ins) cs e) (λ more. given (all_connected more)) (kept_connections cs e (unconnected ins) l (fit_none e.graph ins))
      (λ f more lf gf fit. kept_given f Have (all_connected more) lf (λ ids is. connected_fit f.graph ins more ids fit is))

-- ---- the instance

-- what makes an instance, once its name is new
abbrev made : Key → ℕ → Call → Ports → List NodeId → Steps (Unit {0})
made k line call ports inputs = draw (instance ports inputs) >>= (λ id. add_child (record { call = call; ident = ident_of k; line = line }) >> bind k (target.Instance id))

module _ (below : Below) where
  ends_made : (e : Elaborating) (k : Key) (line : ℕ) (call : Call) (ports : Ports) (inputs : List NodeId) → IsFormedBody e → ArePorts ports
      → HaveWidthsOf e.graph inputs ports.inputs → Ends (made k line call ports inputs e)
  ends_made e k line call ports inputs l are have =
      let h : Graph = more_instances e.graph ports inputs in
      let it : Instance = record { ports = ports; conns = inputs; label = None } in
      let rows : length h.nodes ≡ length e.graph.nodes + length (output_rows (length e.graph.instances) 0 ports.outputs) = length-append e.graph.nodes
      (output_rows (length e.graph.instances) 0 ports.outputs) in
      let many : length h.instances ≡ length e.graph.instances + 1 = length_push e.graph.instances it in
      let child : Child = record { call = call; ident = ident_of k; line = line } in
      ends_bound (record (with_graph e h) { children = e.children ++ child ∷ [] }) k (target.Instance (next_instance e.graph))
      (record { graph = below.changes.instance e.graph ports inputs l.graph are have; names = known_longer e.names e.graph h l.names (omega (arith, rows)) (omega arith) (omega (arith, many)) })
      (omega (arith, many))

  ends_placed : (e : Elaborating) (k : Key) (line : ℕ) (call : Call) (ports : Ports) (inputs : List NodeId) → IsFormedBody e → ArePorts ports
      → HaveWidthsOf e.graph inputs ports.inputs → Ends (placed k line call ports inputs e)
  ends_placed e k line call ports inputs l are have =
      ends_then e (λ g x. HaveWidthsOf g inputs ports.inputs) (is_new k e) (λ x. made k line call ports inputs)
      (kept_rule e (λ g. HaveWidthsOf g inputs ports.inputs) RepeatedName (not (is_some (meaning e.names k))) l (λ new. have))
      (λ f x lf gf has. ends_made f k line call ports inputs lf are has)

  kept_widths : (e : Elaborating) (k : Key) (c : CircuitText) (args : List ℤ) → IsFormedBody e → Keeps e (λ g ws. AreWidths ws) (widths_of k (port_widths c args) e)
  kept_widths e k c args l = by (port_widths c args) refl
    where
      by : (r : PortWidths) → port_widths c args ≡ r → Keeps e (λ g ws. AreWidths ws) (widths_of k r e)
      by (Ok ws) is = (l, grows_none e.graph, widths_are below c args ws is)
      by (Err f) is = tt

  ends_instantiated : (e : Elaborating) (k : Key) (line place : ℕ) (c : CircuitText) (args : List ℤ) (conns : List (Text × Signal)) → IsFormedBody e → Ends (instantiated k line place c args conns e)
  ends_instantiated e k line place c args conns l =
      ends_then e (λ g ws. AreWidths ws) (widths_of k (port_widths c args) e) (with_widths k line place c args conns) (kept_widths e k c args l)
      (λ f ws lf gf are. ends_then f (λ g ids. HaveWidthsOf g ids (inputs_of c.heads ws)) (connected (inputs_of c.heads ws) conns f)
      (λ inputs. placed k line (record { circuit = place; args = args }) (ports_of c.heads ws) inputs)
      (kept_connected below (inputs_of c.heads ws) f conns lf)
      (λ i inputs li gi have. ends_placed i k line (record { circuit = place; args = args }) (ports_of c.heads ws) inputs li (are_ports c.heads ws (ports_of c.heads ws) are refl) have))

  module _ (d : Design) where
    -- the rest of an instance line after its name and its circuit
    abbrev with_circuit : ℕ → List Outcome → List (Text × Signal) → Key → ℕ × CircuitText → Steps (Unit {0})
    with_circuit line ns conns k c = given (arguments c.1 ns) >>= (λ args. instantiated k line c.0 c.1 args conns)

    abbrev with_key : ℕ → Text → List Outcome → List (Text × Signal) → Key → Steps (Unit {0})
    with_key line of ns conns k = given (circuit_at d (circuit_place d.circuits of)) >>= with_circuit line ns conns k

    pub ends_inst : (line : ℕ) (p : Place) (of : Text) (ns : List Outcome) (conns : List (Text × Signal)) (e : Elaborating) → IsFormedBody e → Ends (inst_step d line p of ns conns e)
    ends_inst line p of ns conns e l =
        ends_then e Any (given (key p) e) (with_key line of ns conns) (kept_given e Any (key p) l (λ k is. tt))
        (λ f k lf gf any. ends_then f Any (given (circuit_at d (circuit_place d.circuits of)) f) (with_circuit line ns conns k)
        (kept_given f Any (circuit_at d (circuit_place d.circuits of)) lf (λ c is. tt))
        (λ i c li gi any. ends_then i Any (given (arguments c.1 ns) i) (λ args. instantiated k line c.0 c.1 args conns) (kept_given i Any (arguments c.1 ns) li (λ args is. tt))
        (λ j args lj gj any. ends_instantiated j k line c.0 c.1 args conns lj)))
