-- What each statement keeps: the ports of the graph, and a child for each instance, which has the ports of the child's call.
use Rattle.std.proofs.Common.{◌≡◌, ℕ, ◌==◌, Bool, true, false, List, [], ◌∷◌, ◌++◌, length, refl, sym, ap, subst, ◌∙◌, arith}
use Rattle.std.specs.Prelude.{Option, Some, None, Result, Ok, Err, ℤ, slice_get, slice_set, not, is_some, if◌then◌else◌}
use Rattle.hc_fault.specs.declared.fault.FaultKind.{FaultKind}
use Rattle.hc_fault.specs.declared.fault.FaultKind.TheVariants.{RepeatedName, UnknownName, UnknownCircuit, ArgCount, WidthMismatch}
use Rattle.hc_lang.specs.declared.tree.CircuitText.{CircuitText}
use Rattle.hc_lang.specs.declared.tree.Design.{Design}
use Rattle.hc_signal.specs.declared.signal.NodeId.{NodeId}
use Rattle.hc_signal.specs.declared.signal.Ports.{Ports}
use Rattle.hc_signal.specs.declared.signal.Instance.{Instance}
use Rattle.hc_signal.specs.declared.signal.InstId.{InstId}
use Rattle.hc_signal.specs.Graph.{Graph}
use Rattle.hc_signal.specs.Builds.{with_instance_label, with_driver, with_write, with_node_label, with_memory_label, output_rows, width_at, memory_width_at, is_driven_at, is_port_node, has_node_label, has_memory_label, has_instance_label}
use Rattle.hc_signal.specs.Rules.{drive_rule, label_rule, write_rule}
use Rattle.hc_signal.specs.declared.signal.MemId.{MemId}
use Rattle.hc_unfold.specs.Drawing.{Draws, unless, and_then, found, as_width}
use Rattle.hc_unfold.specs.declared.names.Target.{Target}
use Rattle.hc_unfold.specs.declared.names.Target.TheVariants as target
use Rattle.hc_unfold.specs.Names.{Key, meaning, as_node, as_memory}
use Rattle.hc_unfold.specs.Places.{key, numbers}
use Rattle.hc_num.specs.Value.{Outcome}
use Rattle.hc_unfold.specs.Nodes.{node_of}
use Rattle.hc_unfold.specs.Signals.{Place, Signal}
use Rattle.hc_statements.specs.declared.kinds.Child.{Child}
use Rattle.hc_statements.specs.declared.kinds.Call.{Call}
use Rattle.hc_body.specs.BodyOf.{IsCallOf}
use Rattle.hc_signal.specs.declared.signal.Port.{Port}
use Rattle.hc_statements.specs.PortWidths.{PortWidths, port_widths, inputs_of, ports_of}
use Rattle.hc_statements.specs.Steps.{Broken, Steps, go_on, ◌>>=◌, answer, fails, given, demand, rule, with_graph, lifted, draw, changed, change, meaning_of, is_new, bind, define, declare}
use Rattle.hc_statements.specs.declared.state.Elaborating.{Elaborating}
use Rattle.hc_statements.specs.Unrolled.{Text, Statement, Let, Wire, Assign, Label, Reg, Memory, Write, Inst}
use Rattle.hc_statements.specs.Statements.{signal_node, optional, as_wire, wire_named, memory_named, let_step, wire_step, drive, assign_step, put_label, label_step, clear_part, reg_step, memory_step, write, write_step}
use Rattle.hc_statements.specs.Instances.{Connected, circuit_place, ident_of, widths_of, unconnected, open_place, has_width, fits, connect, connections, all_connected, connected, next_instance, placed, with_widths, instantiated, arguments, circuit_at, inst_step}
use Rattle.hc_statements.specs.Elaborated.{statement_step}
use Rattle.hc_body.proofs.Frames.{Frame, Frames, node_of_frames, wire_frames, register_frames, new_memory_frames}
use Rattle.hc_body.proofs.Matched.{Fits, Matched, matched_last, matched_labelled}
use Rattle.hc_statements.proofs.Connected.{numbers_count}

module _ (d : Design) (ports : Ports) where
  pub record Sound (e : Elaborating) : Type 0 where
    pub has_ports : e.graph.ports ≡ ports
    pub matched : Matched d e.children e.graph.instances

  pub record Keeps {A : Type 0} (p : Steps A) : Type 0 where
    pub kept : (e f : Elaborating) (x : A) → Sound e → p e ≡ Ok (f, x) → Sound f

  same_state : {A : Type 0} (p q : Elaborating × A) (r : Result (Elaborating × A) Broken) → r ≡ Ok p → r ≡ Ok q → p.0 ≡ q.0
  same_state {A} p q r a b = let same : p ≡ q = cc in ap (λ (x : Elaborating × A). x.0) same

  -- ---- steps

  pub then_keeps : {A B : Type 0} {p : Steps A} {f : A → Steps B} → Keeps p → ((x : A) → Keeps (f x)) → Keeps (p >>= f)
  then_keeps {A} {B} {p} {f} one two = record { kept = λ e g y s is. by e g y s (p e) refl is }
    where
      by : (e g : Elaborating) (y : B) → Sound e → (r : Result (Elaborating × A) Broken) → p e ≡ r → go_on r f ≡ Ok (g, y) → Sound g
      by e g y s (Err broken) is last = absurd cc
      by e g y s (Ok done) is last = (two done.1).kept done.0 g y (one.kept e done.0 done.1 s is) last

  -- a step that is always done
  pub done_keeps : {A : Type 0} (f : Elaborating → Elaborating × A) → ((e : Elaborating) → Sound e → Sound (f e).0) → Keeps (λ e. Ok (f e))
  done_keeps {A} f sound = record { kept = λ e g x s is. subst Sound (same_state (f e) (g, x) (Ok (f e)) refl is) (sound e s) }

  pub answer_keeps : {A : Type 0} (x : A) → Keeps (answer x)
  answer_keeps x = done_keeps (λ e. (e, x)) (λ e s. s)

  pub fails_keeps : {A : Type 0} (kind : FaultKind) → Keeps (fails {A = A} kind)
  fails_keeps kind = record { kept = λ e g x s is. absurd cc }

  pub given_keeps : {A : Type 0} (r : Result A FaultKind) → Keeps (given r)
  given_keeps (Ok x) = answer_keeps x
  given_keeps (Err kind) = fails_keeps kind

  -- with what is known of the value
  pub given_then_keeps : {A B : Type 0} {f : A → Steps B} (r : Result A FaultKind) → ((x : A) → r ≡ Ok x → Keeps (f x)) → Keeps (given r >>= f)
  given_then_keeps (Ok x) more = record { kept = λ e g y s is. (more x refl).kept e g y s is }
  given_then_keeps (Err kind) more = record { kept = λ e g y s is. absurd cc }

  pub demand_keeps : {A : Type 0} (kind : FaultKind) (o : Option A) → Keeps (demand kind o)
  demand_keeps kind (Some x) = answer_keeps x
  demand_keeps kind None = fails_keeps kind

  pub rule_keeps : (kind : FaultKind) (b : Bool) → Keeps (rule kind b)
  rule_keeps kind true = answer_keeps tt
  rule_keeps kind false = fails_keeps kind

  -- a step that is chosen by the state
  pub state_keeps : {A : Type 0} (p : Elaborating → Steps A) → ((e : Elaborating) → Keeps (p e)) → Keeps (λ e. p e e)
  state_keeps p each = record { kept = λ e g x s is. (each e).kept e g x s is }

  -- ---- the graph

  sound_frame : (e : Elaborating) (g : Graph) → Frame e.graph g → Sound e → Sound (with_graph e g)
  sound_frame e g frame s = record { has_ports = frame.ports ∙ s.has_ports; matched = subst (λ (is : List Instance). Matched d e.children is) (sym frame.instances) s.matched }

  pub draw_keeps : {A : Type 0} {p : Draws A} → Frames p → Keeps (draw p)
  draw_keeps {A} {p} frames = record { kept = λ e g x s is. by e g x s (p e.graph) refl is }
    where
      by : (e g : Elaborating) (x : A) → Sound e → (r : Result (Graph × A) FaultKind) → p e.graph ≡ r → lifted e r ≡ Ok (g, x) → Sound g
      by e g x s (Err kind) is last = absurd cc
      by e g x s (Ok drawn) is last = subst Sound (same_state (with_graph e drawn.0, drawn.1) (g, x) (lifted e (Ok drawn)) refl last) (sound_frame e drawn.0 (frames.kept e.graph drawn.0 drawn.1 is) s)

  pub change_keeps : (broken : Graph → Option FaultKind) (f : Graph → Graph) → ((e : Elaborating) → Sound e → Sound (with_graph e (f e.graph))) → Keeps (change broken f)
  change_keeps broken f sound = record { kept = λ e g x s is. by e g x s (broken e.graph) is }
    where
      by : (e g : Elaborating) (x : Unit {0}) → Sound e → (o : Option FaultKind) → changed e (unless o (f e.graph)) ≡ Ok (g, x) → Sound g
      by e g x s (Some kind) last = absurd cc
      by e g x s None last = subst Sound (same_state (with_graph e (f e.graph), tt) (g, x) (changed e (Ok (f e.graph))) refl last) (sound e s)

  -- a change of rows
  pub rows_keep : (broken : Graph → Option FaultKind) (f : Graph → Graph) → ((g : Graph) → Frame g (f g)) → Keeps (change broken f)
  rows_keep broken f frame = change_keeps broken f (λ e s. sound_frame e (f e.graph) (frame e.graph) s)

  -- a label of an instance
  pub instance_label_keeps : (broken : Graph → Option FaultKind) (id : InstId) (w : List ℕ) → Keeps (change broken (λ g. with_instance_label g id w))
  instance_label_keeps broken id w = change_keeps broken (λ g. with_instance_label g id w)
      (λ e s. record { has_ports = s.has_ports; matched = matched_labelled d w id.0 e.children e.graph.instances s.matched })

  -- ---- names

  pub meaning_keeps : (k : Key) → Keeps (meaning_of k)
  meaning_keeps k = done_keeps (λ e. (e, meaning e.names k)) (λ e s. s)

  pub is_new_keeps : (k : Key) → Keeps (is_new k)
  is_new_keeps k = state_keeps (λ e. rule RepeatedName (not (is_some (meaning e.names k)))) (λ e. rule_keeps RepeatedName (not (is_some (meaning e.names k))))

  pub bind_keeps : (k : Key) (t : Target) → Keeps (bind k t)
  bind_keeps k t = done_keeps (λ e. (record e { names = e.names ++ (k, t) ∷ [] }, tt)) (λ e s. record { has_ports = s.has_ports; matched = s.matched })

  pub define_keeps : (k : Key) (t : Target) → Keeps (define k t)
  define_keeps k t = then_keeps (is_new_keeps k) (λ _. bind_keeps k t)

  pub declare_keeps : (id : NodeId) (line : ℕ) → Keeps (declare id line)
  declare_keeps id line = done_keeps (λ e. (record e { declared = e.declared ++ (id, line) ∷ [] }, tt)) (λ e s. record { has_ports = s.has_ports; matched = s.matched })

  -- ---- parts

  pub signal_keeps : (s : Signal) → Keeps (signal_node s)
  signal_keeps s = state_keeps (λ e. draw (node_of e.names s)) (λ e. draw_keeps (node_of_frames e.names s))

  pub optional_keeps : {A B : Type 0} (f : A → Steps B) (o : Option A) → ((x : A) → Keeps (f x)) → Keeps (optional f o)
  optional_keeps f None each = answer_keeps None
  optional_keeps f (Some x) each = then_keeps (each x) (λ y. answer_keeps (Some y))

  -- ---- statements

  let_keeps : (p : Place) (s : Signal) → Keeps (let_step p s)
  let_keeps p s = then_keeps (given_keeps (key p)) (λ k. then_keeps (signal_keeps s) (λ id. define_keeps k (target.Node id)))

  wire_keeps : (line : ℕ) (p : Place) (width : Outcome) → Keeps (wire_step line p width)
  wire_keeps line p width = then_keeps (given_keeps (key p)) (λ k. then_keeps (given_keeps (and_then width as_width))
      (λ w. then_keeps (is_new_keeps k) (λ _. then_keeps (draw_keeps (wire_frames w)) (λ id. then_keeps (declare_keeps id line) (λ _. bind_keeps k (target.Node id))))))

  drive_keeps : (id from : NodeId) → Keeps (drive id from)
  drive_keeps id from = rows_keep (λ g. drive_rule (width_at g id) (width_at g from) (is_driven_at g id)) (λ g. with_driver g id from) (λ g. record { ports = refl; instances = refl })

  wire_named_keeps : (k : Key) → Keeps (wire_named k)
  wire_named_keeps k = state_keeps (λ e. demand UnknownName (as_wire e.graph (as_node (meaning e.names k)))) (λ e. demand_keeps UnknownName (as_wire e.graph (as_node (meaning e.names k))))

  memory_named_keeps : (k : Key) → Keeps (memory_named k)
  memory_named_keeps k = state_keeps (λ e. demand UnknownName (as_memory (meaning e.names k))) (λ e. demand_keeps UnknownName (as_memory (meaning e.names k)))

  assign_keeps : (p : Place) (s : Signal) → Keeps (assign_step p s)
  assign_keeps p s = then_keeps (given_keeps (key p)) (λ k. then_keeps (wire_named_keeps k) (λ id. then_keeps (signal_keeps s) (λ from. drive_keeps id from)))

  put_label_keeps : (w : Text) (t : Target) → Keeps (put_label w t)
  put_label_keeps w (target.Node id) = rows_keep (λ g. label_rule (has_node_label g id) (is_port_node g id)) (λ g. with_node_label g id w) (λ g. record { ports = refl; instances = refl })
  put_label_keeps w (target.Memory id) = rows_keep (λ g. label_rule (has_memory_label g id) false) (λ g. with_memory_label g id w) (λ g. record { ports = refl; instances = refl })
  put_label_keeps w (target.Instance id) = instance_label_keeps (λ g. label_rule (has_instance_label g id) false) id w

  label_keeps : (p : Place) (w : Text) → Keeps (label_step p w)
  label_keeps p w = then_keeps (given_keeps (key p)) (λ k. then_keeps (meaning_keeps k) (λ t. then_keeps (demand_keeps UnknownName t) (λ labelled. put_label_keeps w labelled)))

  -- ---- registers

  clear_keeps : (c : Signal × Outcome) → Keeps (clear_part c)
  clear_keeps c = then_keeps (signal_keeps c.0) (λ id. then_keeps (given_keeps c.1) (λ n. answer_keeps (id, n)))

  reg_keeps : (p : Place) (s : Signal) (e : Option Signal) (c : Option (Signal × Outcome)) (n : Option Outcome) → Keeps (reg_step p s e c n)
  reg_keeps p s e c n = then_keeps (given_keeps (key p)) (λ k. then_keeps (signal_keeps s)
      (λ next. then_keeps (optional_keeps signal_node e signal_keeps)
      (λ enable. then_keeps (optional_keeps clear_part c clear_keeps)
      (λ clear. then_keeps (optional_keeps given n given_keeps) (λ first. then_keeps (is_new_keeps k)
      (λ _. then_keeps (draw_keeps (register_frames next enable clear first)) (λ id. bind_keeps k (target.Node id))))))))

  -- ---- memories

  memory_keeps : (p : Place) (size width : Outcome) → Keeps (memory_step p size width)
  memory_keeps p size width = then_keeps (given_keeps (key p))
      (λ k. then_keeps (given_keeps size) (λ n. then_keeps (given_keeps width)
      (λ z. then_keeps (given_keeps (as_width z)) (λ w. then_keeps (is_new_keeps k) (λ _. then_keeps (draw_keeps (new_memory_frames n w)) (λ id. bind_keeps k (target.Memory id)))))))

  write_keeps : (id : MemId) (enable addr value : NodeId) → Keeps (write id enable addr value)
  write_keeps id enable addr value = rows_keep (λ g. write_rule (width_at g enable) (width_at g value) (memory_width_at g id))
      (λ g. with_write g id (record { enable = enable; addr = addr; value = value })) (λ g. record { ports = refl; instances = refl })

  write_step_keeps : (p : Place) (e a v : Signal) → Keeps (write_step p e a v)
  write_step_keeps p e a v = then_keeps (given_keeps (key p)) (λ k. then_keeps (memory_named_keeps k)
      (λ id. then_keeps (signal_keeps e) (λ enable. then_keeps (signal_keeps a) (λ addr. then_keeps (signal_keeps v) (λ value. write_keeps id enable addr value)))))

  -- ---- instances

  has_width_keeps : (ins : List Port) (at : ℕ) (id : NodeId) → Keeps (has_width ins at id)
  has_width_keeps ins at id = state_keeps (λ e. rule WidthMismatch (fits e.graph ins at id)) (λ e. rule_keeps WidthMismatch (fits e.graph ins at id))

  connect_keeps : (ins : List Port) (done : Connected) (c : Text × Signal) → Keeps (connect ins done c)
  connect_keeps ins done c = then_keeps (signal_keeps c.1) (λ id. then_keeps (given_keeps (open_place ins done c.0))
      (λ at. then_keeps (has_width_keeps ins at id) (λ _. answer_keeps (slice_set done at (Some id)))))

  connections_keep : (ins : List Port) (done : Connected) (cs : List (Text × Signal)) → Keeps (connections ins done cs)
  connections_keep ins done [] = answer_keeps done
  connections_keep ins done (c ∷ cs) = then_keeps (connect_keeps ins done c) (λ more. connections_keep ins more cs)

  connected_keeps : (ins : List Port) (cs : List (Text × Signal)) → Keeps (connected ins cs)
  connected_keeps ins cs = then_keeps (connections_keep ins (unconnected ins) cs) (λ more. given_keeps (all_connected more))

  -- the instance, its call and its name together
  abbrev added : Key → ℕ → Call → Ports → List NodeId → Elaborating → Elaborating × Unit {0}
  added k line call of inputs e = (
    record e {
      graph = record e.graph {
        nodes = e.graph.nodes ++ output_rows (length e.graph.instances) 0 of.outputs;
        instances = e.graph.instances
            ++ record { ports = of; conns = inputs; label = None } ∷ [];
      };
      children = e.children ++ record { call = call; ident = ident_of k; line = line } ∷ [];
      names = e.names ++ (k, target.Instance (next_instance e.graph)) ∷ [];
    },
    tt,
  )

  placed_keeps : (k : Key) (line : ℕ) (call : Call) (of : Ports) (inputs : List NodeId)
      → ((it : Instance) → it.ports ≡ of → (child : Child) → child.call ≡ call → Fits d child it) → Keeps (placed k line call of inputs)
  placed_keeps k line call of inputs fit = then_keeps (is_new_keeps k) (λ _. done_keeps (added k line call of inputs) kept)
    where
      kept : (e : Elaborating) → Sound e → Sound (added k line call of inputs e).0
      kept e s = record {
        has_ports = s.has_ports;
        matched = matched_last d e.children e.graph.instances (record { call = call; ident = ident_of k; line = line })
            (record { ports = of; conns = inputs; label = None }) s.matched
            (fit (record { ports = of; conns = inputs; label = None }) refl (record { call = call; ident = ident_of k; line = line }) refl);
      }

  fit_call : (c : CircuitText) (call : Call) (widths : List ℕ) → IsCallOf d call c → port_widths c call.args ≡ Ok widths → (it : Instance)
      → it.ports ≡ ports_of c.heads widths → (child : Child) → child.call ≡ call → Fits d child it
  fit_call c call widths is have it ports child same = record {
    circuit = c;
    is_call = subst (λ (x : Call). IsCallOf d x c) (sym same) is;
    widths = widths;
    have = subst (λ (x : Call). port_widths c x.args ≡ Ok widths) (sym same) have;
    ports = ports;
  }

  instantiated_keeps : (k : Key) (line place : ℕ) (c : CircuitText) (args : List ℤ) (conns : List (Text × Signal))
      → IsCallOf d (record { circuit = place; args = args }) c → Keeps (instantiated k line place c args conns)
  instantiated_keeps k line place c args conns is = by (port_widths c args) refl
    where
      with_call : (widths : List ℕ) → port_widths c args ≡ Ok widths → Keeps (with_widths k line place c args conns widths)
      with_call widths have = then_keeps (connected_keeps (inputs_of c.heads widths) conns)
          (λ inputs. placed_keeps k line (record { circuit = place; args = args }) (ports_of c.heads widths) inputs (fit_call c (record { circuit = place; args = args }) widths is have))

      by : (r : PortWidths) → port_widths c args ≡ r → Keeps (widths_of k r >>= with_widths k line place c args conns)
      by (Err f) have = record { kept = λ e g y s is. absurd cc }
      by (Ok widths) have = record { kept = λ e g y s last. (with_call widths have).kept e g y s last }

  same_count : (a b : ℕ) → (a == b) ≡ true → a ≡ b
  same_count a b t = grind arith

  arguments_count : (c : CircuitText) (ns : List Outcome) (zs : List ℤ) → arguments c ns ≡ Ok zs → length zs ≡ length c.params
  arguments_count c ns zs e = by (length ns == length c.params) refl e
    where
      by : (b : Bool) → (length ns == length c.params) ≡ b → (if b then numbers ns else Err ArgCount) ≡ Ok zs → length zs ≡ length c.params
      by false count e = absurd cc
      by true count e = numbers_count ns zs e ∙ same_count (length ns) (length c.params) count

  circuit_there : (o : Option ℕ) (x : ℕ × CircuitText) → circuit_at d o ≡ Ok x → slice_get d.circuits x.0 ≡ Some x.1
  circuit_there None x e = absurd cc
  circuit_there (Some at) x e = by (slice_get d.circuits at) refl e
    where
      by : (o : Option CircuitText) → slice_get d.circuits at ≡ o → and_then (found UnknownCircuit o) (λ c. Ok (at, c)) ≡ Ok x → slice_get d.circuits x.0 ≡ Some x.1
      by None is e = absurd cc
      by (Some c) is e = let same : (at, c) ≡ x = cc in subst (λ (y : ℕ × CircuitText). slice_get d.circuits y.0 ≡ Some y.1) same is

  inst_keeps : (line : ℕ) (p : Place) (of : Text) (ns : List Outcome) (conns : List (Text × Signal)) → Keeps (inst_step d line p of ns conns)
  inst_keeps line p of ns conns = then_keeps (given_keeps (key p))
      (λ k. given_then_keeps (circuit_at d (circuit_place d.circuits of))
      (λ c there. given_then_keeps (arguments c.1 ns) (λ args count. instantiated_keeps k line c.0 c.1 args conns
      (record { there = circuit_there (circuit_place d.circuits of) c there; args = arguments_count c.1 ns args count }))))

  pub statement_keeps : (line : ℕ) (s : Statement) → Keeps (statement_step d line s)
  statement_keeps line (Let p s) = let_keeps p s
  statement_keeps line (Wire p width) = wire_keeps line p width
  statement_keeps line (Assign p s) = assign_keeps p s
  statement_keeps line (Label p w) = label_keeps p w
  statement_keeps line (Reg p s e c n) = reg_keeps p s e c n
  statement_keeps line (Memory p size width) = memory_keeps p size width
  statement_keeps line (Write p e a v) = write_step_keeps p e a v
  statement_keeps line (Inst p of ns conns) = inst_keeps line p of ns conns
