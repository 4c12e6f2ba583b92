-- Renumbered rows are lawful where their operands keep their widths.
use Rattle.std.proofs.Common.{◌≡◌, ℕ, ◌^◌, ◌≤◌, List, [], ◌∷◌, map, refl, sym, subst, ◌∙◌}
use Rattle.std.proofs.lemmas.List.{length-map}
use Rattle.std.specs.Prelude.{slice_get, Option, Some, None, option_map}
use Rattle.hc_walk.proofs.Members.{has_from_map}
use Rattle.hc_signal.specs.declared.signal.Port.{Port}
use Rattle.hc_signal.specs.declared.signal.InstId.{InstId}
use Rattle.hc_signal.specs.declared.signal.NodeId.{NodeId}
use Rattle.hc_signal.specs.declared.signal.Node.{Node}
use Rattle.hc_signal.specs.declared.signal.Node.TheVariants.{Input, Wire, Const, Two, Not, Mux, Cat, Select, Reg, Read, InstOut, Op}
use Rattle.hc_signal.specs.declared.signal.Memory.{Memory}
use Rattle.hc_signal.specs.declared.signal.WritePort.{WritePort}
use Rattle.hc_bits.specs.BitVector.{BitVector}
use Rattle.hc_signal.specs.Graph.{Graph}
use Rattle.hc_signal.specs.Lawful.{IsLawfulNode, IsLawfulWrite, IsLawfulMemory, HasWidth, HaveWidths, MayHaveWidth, MayClear, AllHaveWidth}
use Rattle.hc_signal.specs.Renumber.{Renumbering, id_by, clear_by, node_by, write_by, memory_by}

module _ (r : Renumbering) (g h : Graph) (width_to : (id : NodeId) (w : ℕ) → HasWidth g id w → HasWidth h (id_by r id) w)
    (memories_to : (m : ℕ) (memory : Memory) → slice_get g.memories m ≡ Some memory → slice_get h.memories (r.mem m) ≡ Some (memory_by r memory)) where
  all_width_to : (ids : List NodeId) (w : ℕ) → AllHaveWidth g ids w → AllHaveWidth h (map (id_by r) ids) w
  all_width_to ids w u id k = (let m : _ = has_from_map (id_by r) ids id k in subst (λ x. HasWidth h x w) m.2 (width_to m.0 w (u m.0 m.1)))

  pub widths_to : (ids : List NodeId) (ws : List ℕ) → HaveWidths g ids ws → HaveWidths h (map (id_by r) ids) ws
  widths_to [] [] u = tt
  widths_to [] (w ∷ ws) u = absurd u
  widths_to (id ∷ ids) [] u = absurd u
  widths_to (id ∷ ids) (w ∷ ws) u = (width_to id w u.0, widths_to ids ws u.1)

  may_width_to : (o : Option NodeId) (w : ℕ) → MayHaveWidth g o w → MayHaveWidth h (option_map (id_by r) o) w
  may_width_to None w u = tt
  may_width_to (Some id) w u = width_to id w u

  may_clear_to : (o : Option (NodeId × BitVector)) (w : ℕ) → MayClear g o w → MayClear h (option_map (clear_by r) o) w
  may_clear_to None w u = tt
  may_clear_to (Some c) w u = (width_to c.0 1 u.0, u.1)

  pub node_to : (w : ℕ) (x : Node) → ((port : ℕ) → x ≡ Input port → g.ports ≡ h.ports) → ((i : InstId) (port : ℕ) → x ≡ InstOut i port → ⊥) → IsLawfulNode g w x → IsLawfulNode h w (node_by r x)
  node_to w (Input port) a b u = subst (λ ps. (p : Port) × (slice_get ps.inputs port ≡ Some p) × (p.width ≡ w)) (a port refl) u
  node_to w (Wire driver) a b u = may_width_to driver w u
  node_to w (Const value) a b u = u
  node_to w (Two op x y) a b u = (u.0, u.1, width_to x u.0 u.2, width_to y u.1 u.3, u.4)
  node_to w (Not x) a b u = width_to x w u
  node_to w (Mux sel cases) a b u = (
    u.0,
    width_to sel u.0 u.1,
    subst (λ n. 2 ≤ n) (sym (length-map cases (id_by r))) u.2,
    subst (λ n. n ≤ 2 ^ u.0)
        (sym (length-map cases (id_by r))) u.3,
    all_width_to cases w u.4,
  )
  node_to w (Cat ps) a b u = (u.0, subst (λ n. 2 ≤ n) (sym (length-map ps (id_by r))) u.1, widths_to ps u.0 u.2, u.3)
  node_to w (Select x hi lo) a b u = (u.0, width_to x u.0 u.1, u.2, u.3, u.4)
  node_to w (Reg next enable clear init) a b u = (width_to next w u.0, may_width_to enable 1 u.1, may_clear_to clear w u.2, u.3)
  node_to w (Read m addr) a b u = (u.0, width_to addr u.0 u.1, (memory_by r u.2.0, memories_to m.0 u.2.0 u.2.1, u.2.2))
  node_to w (InstOut i port) a b u = absurd (b i port refl)
  node_to w (Op kind args) a b u = (u.0, length-map args (id_by r) ∙ u.1, all_width_to args u.0 u.2, u.3)

  write_to : (m : Memory) (x : WritePort) → IsLawfulWrite g m x → IsLawfulWrite h (memory_by r m) (write_by r x)
  write_to m x u = record {
    enable = width_to x.enable 1 u.enable;
    addr = (u.addr.0, width_to x.addr u.addr.0 u.addr.1);
    value = width_to x.value m.width u.value;
  }

  pub memory_to : (m : Memory) → IsLawfulMemory g m → IsLawfulMemory h (memory_by r m)
  memory_to m u = record {
    width = u.width;
    size = u.size;
    writes = λ x k. (let f : _ = has_from_map (write_by r) m.writes x k in subst (IsLawfulWrite h (memory_by r m)) f.2 (write_to m f.0 (u.writes f.0 f.1)));
  }
