-- A graph in which no row of another got lost keeps what is lawful there.
use Rattle.std.proofs.Common.{◌≡◌, ℕ, List, [], ◌∷◌, ◌∙◌, ap}
use Rattle.std.specs.Prelude.{slice_get, Option, Some, None}
use Rattle.hc_signal.specs.declared.signal.Port.{Port}
use Rattle.hc_signal.specs.declared.signal.NodeId.{NodeId}
use Rattle.hc_signal.specs.declared.signal.NodeRow.{NodeRow}
use Rattle.hc_signal.specs.declared.signal.Node.{Node}
use Rattle.hc_signal.specs.declared.signal.Node.TheVariants.{Input, Wire, Const, Two, Not, Mux, Cat, Select, Reg, Read, InstOut, Op}
use Rattle.hc_signal.specs.declared.signal.Memory.{Memory}
use Rattle.hc_signal.specs.declared.signal.WritePort.{WritePort}
use Rattle.hc_signal.specs.declared.signal.Instance.{Instance}
use Rattle.hc_bits.specs.BitVector.{BitVector}
use Rattle.hc_signal.specs.Graph.{Graph}
use Rattle.hc_signal.specs.Lawful.{HasWidth, AllHaveWidth, MayHaveWidth, MayClear, HaveWidths, IsLawfulNode, IsLawfulWrite, IsLawfulMemory, IsLawfulInstance}

-- each row of g is in h, with its width or its ports
pub record Extends (g h : Graph) : Type 0 where
  pub nodes : (n : ℕ) (row : NodeRow) → slice_get g.nodes n ≡ Some row → (new : NodeRow) × (slice_get h.nodes n ≡ Some new) × (new.width ≡ row.width)
  pub memories : (m : ℕ) (mem : Memory) → slice_get g.memories m ≡ Some mem → (new : Memory) × (slice_get h.memories m ≡ Some new) × (new.width ≡ mem.width)
  pub instances : (i : ℕ) (it : Instance) → slice_get g.instances i ≡ Some it → (new : Instance) × (slice_get h.instances i ≡ Some new) × (new.ports ≡ it.ports)
  pub inputs : (k : ℕ) (p : Port) → slice_get g.ports.inputs k ≡ Some p → slice_get h.ports.inputs k ≡ Some p

module _ (g h : Graph) (e : Extends g h) where
  pub has_width : (id : NodeId) (w : ℕ) → HasWidth g id w → HasWidth h id w
  has_width id w x = let r : _ = e.nodes id.0 x.0 x.1 in (r.0, r.1, r.2 ∙ x.2)

  pub all_have_width : (ids : List NodeId) (w : ℕ) → AllHaveWidth g ids w → AllHaveWidth h ids w
  all_have_width ids w a id k = has_width id w (a id k)

  pub may_have_width : (o : Option NodeId) (w : ℕ) → MayHaveWidth g o w → MayHaveWidth h o w
  may_have_width None w a = tt
  may_have_width (Some id) w a = has_width id w a

  pub may_clear : (o : Option (NodeId × BitVector)) (w : ℕ) → MayClear g o w → MayClear h o w
  may_clear None w a = tt
  may_clear (Some c) w a = (has_width c.0 1 a.0, a.1)

  pub have_widths : (ids : List NodeId) (ws : List ℕ) → HaveWidths g ids ws → HaveWidths h ids ws
  have_widths [] [] a = tt
  have_widths (id ∷ ids) (w ∷ ws) a = (has_width id w a.0, have_widths ids ws a.1)
  have_widths [] (w ∷ ws) a = a
  have_widths (id ∷ ids) [] a = a

  pub lawful_node : (w : ℕ) (x : Node) → IsLawfulNode g w x → IsLawfulNode h w x
  lawful_node w (Input port) l = (l.0, e.inputs port l.0 l.1, l.2)
  lawful_node w (Wire driver) l = may_have_width driver w l
  lawful_node w (Const value) l = l
  lawful_node w (Two op a b) l = (l.0, l.1, has_width a l.0 l.2, has_width b l.1 l.3, l.4)
  lawful_node w (Not a) l = has_width a w l
  lawful_node w (Mux sel cases) l = (l.0, has_width sel l.0 l.1, l.2, l.3, all_have_width cases w l.4)
  lawful_node w (Cat parts) l = (l.0, l.1, have_widths parts l.0 l.2, l.3)
  lawful_node w (Select a hi lo) l = (l.0, has_width a l.0 l.1, l.2, l.3, l.4)
  lawful_node w (Reg next enable clear init) l = (has_width next w l.0, may_have_width enable 1 l.1, may_clear clear w l.2, l.3)
  lawful_node w (Read m addr) l =
      let r : _ = e.memories m.0 l.2.0 l.2.1 in (l.0, has_width addr l.0 l.1, (r.0, r.1, r.2 ∙ l.2.2))
  lawful_node w (InstOut i port) l =
      let r : _ = e.instances i.0 l.0 l.2 in
      (r.0, l.1, r.1, ap (λ ports. slice_get ports.outputs port) r.2 ∙ l.3, l.4)
  lawful_node w (Op kind args) l = (l.0, l.1, all_have_width args l.0 l.2, l.3)

  pub lawful_write : (m : Memory) (w : WritePort) → IsLawfulWrite g m w → IsLawfulWrite h m w
  lawful_write m w l = record {
    enable = has_width w.enable 1 l.enable;
    addr = (l.addr.0, has_width w.addr l.addr.0 l.addr.1);
    value = has_width w.value m.width l.value;
  }

  pub lawful_memory : (m : Memory) → IsLawfulMemory g m → IsLawfulMemory h m
  lawful_memory m l = record { width = l.width; size = l.size; writes = λ w k. lawful_write m w (l.writes w k) }

  pub lawful_instance : (i : Instance) → IsLawfulInstance g i → IsLawfulInstance h i
  lawful_instance i l = record { ports = l.ports; conns = have_widths i.conns _ l.conns }
