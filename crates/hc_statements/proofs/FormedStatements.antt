-- Each plain statement keeps a body formed.
use Rattle.std.proofs.Common.{◌≡◌, ℕ, ◌+◌, ◌≤◌, Bool, true, false, not, ◌&&◌, ◌==◌, [], ◌∷◌, ◌++◌, length, refl, arith}
use Rattle.std.specs.Prelude.{Option, Some, None, Ok, Err, ℤ, pos, negsuc, nat_abs, nat_le}
use Rattle.std.proofs.lemmas.Bool.{and_parts, eqb-true, leb-true, not-true}
use Rattle.std.proofs.lemmas.List.{length_push}
use Rattle.hc_fault.specs.declared.fault.FaultKind.{FaultKind}
use Rattle.hc_fault.specs.declared.fault.FaultKind.TheVariants as fault
use Rattle.hc_bits.specs.BitVector.{IsWidth}
use Rattle.hc_num.specs.Value.{Outcome}
use Rattle.hc_signal.specs.declared.signal.MemId.{MemId}
use Rattle.hc_signal.specs.declared.signal.Node.TheVariants as node
use Rattle.hc_signal.specs.declared.signal.NodeId.{NodeId}
use Rattle.hc_signal.specs.Graph.{Graph}
use Rattle.hc_signal.specs.Rules.{drive_rule, first_broken, label_rule, rule, size_rule, write_rule}
use Rattle.hc_signal.specs.Builds.{IsMemory, IsNode, IsWire, MayBeNode, has_instance_label, has_memory_label, has_node_label, is_driven_at, is_port_node, memory_width_at, width_at, with_driver, with_instance_label, with_memory_label, with_node_label, with_write}
use Rattle.hc_unfold.specs.Formed.{IsFormed}
use Rattle.hc_unfold.specs.Gives.{Grows}
use Rattle.hc_unfold.specs.Names.{AreKnown, IsThere, Key, meaning}
use Rattle.hc_unfold.specs.declared.names.Target.{Target}
use Rattle.hc_unfold.specs.declared.names.Target.TheVariants as target
use Rattle.hc_unfold.specs.Drawing.{and_then, as_width, unless}
use Rattle.hc_unfold.specs.Places.{key}
use Rattle.hc_unfold.specs.Signals.{Place, Signal}
use Rattle.hc_statements.specs.Formed.{IsFormedBody}
use Rattle.hc_statements.specs.Registers.{clear_node, register}
use Rattle.hc_statements.specs.Steps.{Elaborating, Steps, answer, bind, changed, declare, define, demand, draw, given, go_on, is_new, lifted, meaning_of, with_graph, ◌>>=◌, ◌>>◌}
use Rattle.hc_statements.specs.Statements.{assign_step, clear_part, drive, label_step, let_step, memory, memory_named, memory_step, new_memory, next_memory, optional, put_label, reg_step, signal_node, wire, wire_named, wire_step, write, write_step}
use Rattle.hc_statements.specs.Unrolled.{Text}
use Rattle.hc_statements.proofs.FormedRegisters.{formed_register, one_more}
use Rattle.hc_statements.proofs.FormedSteps.{Any, Ends, Keeps, Below, ends_bound, ends_then, kept_answer, kept_demand, kept_drawn, kept_given, kept_memory_named, kept_new, kept_signal, kept_then, kept_wire_named}
use Rattle.hc_statements.proofs.Known.{grows_none, known_driven, known_instance_label, known_longer, known_meaning, known_memory_label, known_node_label, known_written, may_still, memory_still, node_still, wire_still}

test_holds : (kind : FaultKind) (b : Bool) → rule kind b ≡ None → b ≡ true
test_holds kind true e = refl
test_holds kind false e = absurd cc

first_holds : (a b : Option FaultKind) → first_broken a b ≡ None → (a ≡ None) × (b ≡ None)
first_holds None b e = (refl, e)
first_holds (Some k) b e = absurd cc

width_of_outcome : Below → (o : Outcome) (w : ℕ) → and_then o as_width ≡ Ok w → IsWidth w
width_of_outcome below (Ok z) w e = below.widths z w e
width_of_outcome below (Err kind) w e = absurd cc

sizes : (z : ℤ) → size_rule z ≡ None → (1 ≤ nat_abs z) × (nat_abs z ≤ 65536)
sizes (pos n) e =
    let parts : _ = and_parts (nat_le 1 n) (nat_le n 65536) (test_holds fault.MemorySize (nat_le 1 n && nat_le n 65536) e) in
    (leb-true 1 n parts.0, leb-true n 65536 parts.1)
sizes (negsuc n) e = absurd cc

-- a graph that is changed, unless a rule is broken
ends_changed : (e : Elaborating) (broken : Option FaultKind) (h : Graph) → (broken ≡ None → IsFormed h × AreKnown h e.names) → Ends (changed e (unless broken h))
ends_changed e None h formed = let f : IsFormed h × AreKnown h e.names = formed refl in record { graph = f.0; names = f.1 }
ends_changed e (Some kind) h formed = tt

module _ (below : Below) where
  -- ---- let, wire, assign

  ends_defined : (e : Elaborating) (k : Key) (t : Target) → IsFormedBody e → ((f : Elaborating) → Grows e.graph f.graph → IsThere f.graph t) → Ends (define k t e)
  ends_defined e k t l there = ends_then e Any (is_new k e) (λ x. bind k t) (kept_new e k l) (λ f x lf gf any. ends_bound f k t lf (there f gf))

  pub ends_let : (p : Place) (s : Signal) (e : Elaborating) → IsFormedBody e → Ends (let_step p s e)
  ends_let p s e l =
      ends_then e Any (given (key p) e) (λ k. signal_node s >>= (λ id. define k (target.Node id))) (kept_given e Any (key p) l (λ k is. tt))
      (λ f k lf gf any. ends_then f IsNode (signal_node s f) (λ id. define k (target.Node id)) (kept_signal below f s lf)
      (λ i id li gi n. ends_defined i k (target.Node id) li (λ j gj. node_still i.graph j.graph id n gj)))

  kept_wire : (e : Elaborating) (w : ℕ) → IsFormedBody e → IsWidth w → Keeps e IsNode (draw (wire w) e)
  kept_wire e w l b = kept_drawn e IsNode (wire w e.graph) l (λ h id is. one_more below e.graph h w (node.Wire None) id l.graph b tt refl is)

  kept_declared : (e : Elaborating) (id : NodeId) (line : ℕ) → IsFormedBody e → Keeps e Any (declare id line e)
  kept_declared e id line l = (record { graph = l.graph; names = l.names }, grows_none e.graph, tt)

  pub ends_wire : (line : ℕ) (p : Place) (width : Outcome) (e : Elaborating) → IsFormedBody e → Ends (wire_step line p width e)
  ends_wire line p width e l =
      ends_then e Any (given (key p) e) (λ k. given (and_then width as_width) >>= (λ w. is_new k >> (draw (wire w) >>= (λ id. declare id line >> bind k (target.Node id)))))
      (kept_given e Any (key p) l (λ k is. tt))
      (λ f k lf gf any. ends_then f (λ g w. IsWidth w) (given (and_then width as_width) f) (λ w. is_new k >> (draw (wire w) >>= (λ id. declare id line >> bind k (target.Node id))))
      (kept_given f (λ g w. IsWidth w) (and_then width as_width) lf (λ w is. width_of_outcome below width w is))
      (λ i w li gi b. ends_then i Any (is_new k i) (λ x. draw (wire w) >>= (λ id. declare id line >> bind k (target.Node id))) (kept_new i k li)
      (λ j x lj gj any. ends_then j IsNode (draw (wire w) j) (λ id. declare id line >> bind k (target.Node id)) (kept_wire j w lj b)
      (λ m id lm gm n. ends_then m Any (declare id line m) (λ y. bind k (target.Node id)) (kept_declared m id line lm)
      (λ o y lo go any. ends_bound o k (target.Node id) lo (node_still m.graph o.graph id n go))))))

  ends_drive : (e : Elaborating) (id from : NodeId) → IsFormedBody e → IsWire e.graph id → IsNode e.graph from → Ends (drive id from e)
  ends_drive e id from l is_wire node =
      ends_changed e (drive_rule (width_at e.graph id) (width_at e.graph from) (is_driven_at e.graph id)) (with_driver e.graph id from)
      (λ holds. (let same : _ = test_holds fault.WidthMismatch (width_at e.graph id == width_at e.graph from)
      (first_holds (rule fault.WidthMismatch (width_at e.graph id == width_at e.graph from)) (rule fault.DrivenTwice (not (is_driven_at e.graph id))) holds).0 in (
        below.changes.driver e.graph id from l.graph is_wire node (eqb-true (width_at e.graph id) (width_at e.graph from) same),
        known_driven e.graph
            (with_driver e.graph id from) e.names id from l.names refl,
      )))

  pub ends_assign : (p : Place) (s : Signal) (e : Elaborating) → IsFormedBody e → Ends (assign_step p s e)
  ends_assign p s e l =
      ends_then e Any (given (key p) e) (λ k. wire_named k >>= (λ id. signal_node s >>= (λ from. drive id from))) (kept_given e Any (key p) l (λ k is. tt))
      (λ f k lf gf any. ends_then f IsWire (wire_named k f) (λ id. signal_node s >>= (λ from. drive id from)) (kept_wire_named f k lf)
      (λ i id li gi w. ends_then i IsNode (signal_node s i) (λ from. drive id from) (kept_signal below i s li)
      (λ j from lj gj n. ends_drive j id from lj (wire_still i.graph j.graph id w gj) n)))

  -- ---- labels

  ends_put : (e : Elaborating) (w : Text) (t : Target) → IsFormedBody e → IsThere e.graph t → Ends (put_label w t e)
  ends_put e w (target.Node id) l there =
      ends_changed e (label_rule (has_node_label e.graph id) (is_port_node e.graph id)) (with_node_label e.graph id w)
      (λ holds. (let parts : _ = and_parts (not (has_node_label e.graph id)) (not (is_port_node e.graph id))
      (test_holds fault.RepeatedName (not (has_node_label e.graph id) && not (is_port_node e.graph id)) holds) in
      (below.changes.node_label e.graph id w l.graph there (not-true (is_port_node e.graph id) parts.1), known_node_label e.graph (with_node_label e.graph id w) e.names id w l.names refl)))
  ends_put e w (target.Memory id) l there =
      ends_changed e (label_rule (has_memory_label e.graph id) false) (with_memory_label e.graph id w)
      (λ holds. (below.changes.memory_label e.graph id w l.graph there, known_memory_label e.graph (with_memory_label e.graph id w) e.names id w l.names refl))
  ends_put e w (target.Instance id) l there =
      ends_changed e (label_rule (has_instance_label e.graph id) false) (with_instance_label e.graph id w)
      (λ holds. (below.changes.instance_label e.graph id w l.graph there, known_instance_label e.graph (with_instance_label e.graph id w) e.names id w l.names refl))

  pub ends_label : (p : Place) (w : Text) (e : Elaborating) → IsFormedBody e → Ends (label_step p w e)
  ends_label p w e l =
      ends_then e Any (given (key p) e) (λ k. meaning_of k >>= (λ t. demand fault.UnknownName t >>= (λ labelled. put_label w labelled))) (kept_given e Any (key p) l (λ k is. tt))
      (λ f k lf gf any. ends_then f IsThere (demand fault.UnknownName (meaning f.names k) f) (λ labelled. put_label w labelled)
      (kept_demand f IsThere fault.UnknownName (meaning f.names k) lf (λ t is. known_meaning f.names k t f.graph is lf.names))
      (λ i t li gi there. ends_put i w t li there))

  -- ---- registers

  kept_optional : (e : Elaborating) (o : Option Signal) → IsFormedBody e → Keeps e MayBeNode (optional signal_node o e)
  kept_optional e None l = kept_answer e MayBeNode None l tt
  kept_optional e (Some s) l = kept_then e IsNode MayBeNode (signal_node s e) (λ y. answer (Some y)) (kept_signal below e s l) (λ f id lf gf n. kept_answer f MayBeNode (Some id) lf n)

  abbrev ClearIs : Graph → Option (NodeId × ℤ) → Type 0
  ClearIs g c = MayBeNode g (clear_node c)

  kept_clear : (e : Elaborating) (o : Option (Signal × Outcome)) → IsFormedBody e → Keeps e ClearIs (optional clear_part o e)
  kept_clear e None l = kept_answer e ClearIs None l tt
  kept_clear e (Some c) l =
      kept_then e (λ g x. IsNode g x.0) ClearIs (clear_part c e) (λ y. answer (Some y)) part
      (λ f x lf gf n. kept_answer f ClearIs (Some x) lf n)
    where
      part : Keeps e (λ g x. IsNode g x.0) (clear_part c e)
      part = kept_then e IsNode (λ g x. IsNode g x.0) (signal_node c.0 e) (λ id. given c.1 >>= (λ n. answer (id, n))) (kept_signal below e c.0 l)
          (λ f id lf gf n. kept_then f Any (λ g x. IsNode g x.0) (given c.1 f) (λ z. answer (id, z)) (kept_given f Any c.1 lf (λ z is. tt))
          (λ i z li gi any. kept_answer {A = NodeId × ℤ} i (λ g x. IsNode g x.0) (id, z) li (node_still f.graph i.graph id n gi)))

  kept_first : (e : Elaborating) (o : Option Outcome) → IsFormedBody e → Keeps e Any (optional given o e)
  kept_first e None l = kept_answer {A = Option ℤ} e Any None l tt
  kept_first e (Some n) l = kept_then e Any Any (given n e) (λ y. answer (Some y)) (kept_given e Any n l (λ z is. tt)) (λ f z lf gf any. kept_answer {A = Option ℤ} f Any (Some z) lf tt)

  -- the rest of a register line after each part
  module _ (enable : Option Signal) (clear : Option (Signal × Outcome)) (number : Option Outcome) where
    abbrev after_first : Key → NodeId → Option NodeId → Option (NodeId × ℤ) → Option ℤ → Steps (Unit {0})
    after_first k next en cl first = is_new k >> (draw (register next en cl first) >>= (λ id. bind k (target.Node id)))

    abbrev after_clear : Key → NodeId → Option NodeId → Option (NodeId × ℤ) → Steps (Unit {0})
    after_clear k next en cl = optional given number >>= after_first k next en cl

    abbrev after_enable : Key → NodeId → Option NodeId → Steps (Unit {0})
    after_enable k next en = optional clear_part clear >>= after_clear k next en

    abbrev after_next : Key → NodeId → Steps (Unit {0})
    after_next k next = optional signal_node enable >>= after_enable k next

  pub ends_reg : (p : Place) (s : Signal) (enable : Option Signal) (clear : Option (Signal × Outcome)) (number : Option Outcome) (e : Elaborating) → IsFormedBody e
      → Ends (reg_step p s enable clear number e)
  ends_reg p s enable clear number e l =
      ends_then e Any (given (key p) e) (λ k. signal_node s >>= after_next enable clear number k) (kept_given e Any (key p) l (λ k is. tt))
      (λ f k lf gf any. ends_then f IsNode (signal_node s f) (after_next enable clear number k) (kept_signal below f s lf)
      (λ g1 next l1 s1 n. ends_then g1 MayBeNode (optional signal_node enable g1) (after_enable enable clear number k next) (kept_optional g1 enable l1)
      (λ g2 en l2 s2 me. ends_then g2 ClearIs (optional clear_part clear g2) (after_clear enable clear number k next en) (kept_clear g2 clear l2)
      (λ g3 cl l3 s3 mc. ends_then g3 Any (optional given number g3) (after_first enable clear number k next en cl) (kept_first g3 number l3)
      (λ g4 first l4 s4 any. ends_then g4 Any (is_new k g4) (λ x. draw (register next en cl first) >>= (λ id. bind k (target.Node id))) (kept_new g4 k l4)
      (λ g5 x l5 s5 any. ends_then g5 IsNode (draw (register next en cl first) g5) (λ id. bind k (target.Node id))
      (kept_drawn g5 IsNode (register next en cl first g5.graph) l5
      (λ h id is. formed_register below g5.graph h next en cl first id l5.graph
      (node_still g4.graph g5.graph next (node_still g3.graph g4.graph next (node_still g2.graph g3.graph next (node_still g1.graph g2.graph next n s2) s3) s4) s5)
      (may_still g4.graph g5.graph en (may_still g3.graph g4.graph en (may_still g2.graph g3.graph en me s3) s4) s5)
      (may_still g4.graph g5.graph (clear_node cl) (may_still g3.graph g4.graph (clear_node cl) mc s4) s5) is))
      (λ g6 id l6 s6 m. ends_bound g6 k (target.Node id) l6 m)))))))

  -- ---- memories

  abbrev with_memory : Elaborating → ℤ → ℕ → Graph
  with_memory e n w = record e.graph { memories = e.graph.memories ++ memory (nat_abs n) w ∷ [] }

  ends_memory_made : (e : Elaborating) (k : Key) (n : ℤ) (w : ℕ) → IsFormedBody e → IsWidth w → Ends ((draw (new_memory n w) >>= (λ id. bind k (target.Memory id))) e)
  ends_memory_made e k n w l b = by (size_rule n) refl
    where
      by : (o : Option FaultKind) → size_rule n ≡ o → Ends (go_on (lifted e (unless o (with_memory e n w, next_memory e.graph))) (λ id. bind k (target.Memory id)))
      by None holds =
          let fit : _ = sizes n holds in
          let many : length (with_memory e n w).memories ≡ length e.graph.memories + 1 = length_push e.graph.memories (memory (nat_abs n) w) in
          ends_bound (with_graph e (with_memory e n w)) k (target.Memory (next_memory e.graph))
          (record {
            graph = below.changes.memory e.graph (nat_abs n) w l.graph b fit.0 fit.1;
            names = known_longer e.names e.graph (with_memory e n w) l.names (omega arith)
                (omega (arith, many)) (omega arith);
          })
          (omega (arith, many))
      by (Some kind) holds = tt

  abbrev after_width : Key → ℤ → ℤ → Steps (Unit {0})
  after_width k n z = given (as_width z) >>= (λ w. is_new k >> (draw (new_memory n w) >>= (λ id. bind k (target.Memory id))))

  abbrev after_size : Outcome → Key → ℤ → Steps (Unit {0})
  after_size width k n = given width >>= after_width k n

  pub ends_memory : (p : Place) (size width : Outcome) (e : Elaborating) → IsFormedBody e → Ends (memory_step p size width e)
  ends_memory p size width e l =
      ends_then e Any (given (key p) e) (λ k. given size >>= after_size width k) (kept_given e Any (key p) l (λ k is. tt))
      (λ f k lf gf any. ends_then f Any (given size f) (after_size width k) (kept_given f Any size lf (λ n is. tt))
      (λ g1 n l1 s1 any. ends_then g1 Any (given width g1) (after_width k n) (kept_given g1 Any width l1 (λ z is. tt))
      (λ g2 z l2 s2 any. ends_then g2 (λ g w. IsWidth w) (given (as_width z) g2) (λ w. is_new k >> (draw (new_memory n w) >>= (λ id. bind k (target.Memory id))))
      (kept_given g2 (λ g w. IsWidth w) (as_width z) l2 (λ w is. below.widths z w is))
      (λ g3 w l3 s3 b. ends_then g3 Any (is_new k g3) (λ x. draw (new_memory n w) >>= (λ id. bind k (target.Memory id))) (kept_new g3 k l3)
      (λ g4 x l4 s4 any. ends_memory_made g4 k n w l4 b)))))

  ends_written : (e : Elaborating) (id : MemId) (enable addr value : NodeId) → IsFormedBody e → IsMemory e.graph id → IsNode e.graph enable → IsNode e.graph addr
      → IsNode e.graph value → Ends (write id enable addr value e)
  ends_written e id enable addr value l there ne na nv =
      ends_changed e (write_rule (width_at e.graph enable) (width_at e.graph value) (memory_width_at e.graph id)) (with_write e.graph id (record { enable = enable; addr = addr; value = value }))
      (λ holds. (let parts : _ = and_parts (width_at e.graph enable == 1) (width_at e.graph value == memory_width_at e.graph id)
      (test_holds fault.WidthMismatch ((width_at e.graph enable == 1) && (width_at e.graph value == memory_width_at e.graph id)) holds) in (
        below.changes.write e.graph id (record { enable = enable; addr = addr; value = value }) l.graph there ne na nv (eqb-true (width_at e.graph enable) 1 parts.0)
            (eqb-true (width_at e.graph value) (memory_width_at e.graph id) parts.1),
        known_written e.graph (with_write e.graph id (record { enable = enable; addr = addr; value = value })) e.names id (record { enable = enable; addr = addr; value = value }) l.names refl,
      )))

  -- the rest of a write line after each part
  module _ (en a v : Signal) where
    abbrev after_address : MemId → NodeId → NodeId → Steps (Unit {0})
    after_address id enable addr = signal_node v >>= (λ value. write id enable addr value)

    abbrev after_write_enable : MemId → NodeId → Steps (Unit {0})
    after_write_enable id enable = signal_node a >>= after_address id enable

    abbrev after_memory : MemId → Steps (Unit {0})
    after_memory id = signal_node en >>= after_write_enable id

  pub ends_write : (p : Place) (en a v : Signal) (e : Elaborating) → IsFormedBody e → Ends (write_step p en a v e)
  ends_write p en a v e l =
      ends_then e Any (given (key p) e) (λ k. memory_named k >>= after_memory en a v) (kept_given e Any (key p) l (λ k is. tt))
      (λ f k lf gf any. ends_then f IsMemory (memory_named k f) (after_memory en a v) (kept_memory_named f k lf)
      (λ g1 id l1 s1 m. ends_then g1 IsNode (signal_node en g1) (after_write_enable en a v id) (kept_signal below g1 en l1)
      (λ g2 enable l2 s2 ne. ends_then g2 IsNode (signal_node a g2) (after_address en a v id enable) (kept_signal below g2 a l2)
      (λ g3 addr l3 s3 na. ends_then g3 IsNode (signal_node v g3) (λ value. write id enable addr value) (kept_signal below g3 v l3)
      (λ g4 value l4 s4 nv. ends_written g4 id enable addr value l4
      (memory_still g3.graph g4.graph id (memory_still g2.graph g3.graph id (memory_still g1.graph g2.graph id m s2) s3) s4)
      (node_still g3.graph g4.graph enable (node_still g2.graph g3.graph enable ne s3) s4)
      (node_still g3.graph g4.graph addr na s4) nv)))))
