-- The value of a node by what its step says of it.
use Rattle.std.proofs.Common.{◌≡◌, ℕ, ◌<◌, [], ◌∷◌, map, length, get_or, refl, sym, subst, ◌∙◌, ap}
use Rattle.std.specs.Prelude.{Some}
use Rattle.std.proofs.lemmas.Option.{slice_get_within}
use Rattle.hc_bits.specs.BitVector.{BitVector, mux, not_, select}
use Rattle.hc_signal.specs.declared.signal.NodeId.{NodeId}
use Rattle.hc_signal.specs.declared.signal.NodeRow.{NodeRow}
use Rattle.hc_signal.specs.declared.signal.Op2.{Op2}
use Rattle.hc_signal.specs.declared.signal.Node.TheVariants.{Wire, Not, Select}
use Rattle.hc_signal.specs.Graph.{Graph}
use Rattle.hc_signal.specs.Lawful.{HasWidth, IsLawful, IsLawfulNode}
use Rattle.hc_signal.specs.Operators.{binary}
use Rattle.hc_values.specs.declared.step.Make.{Make}
use Rattle.hc_values.specs.declared.step.Make.TheVariants.{Same, Binary, Complement, Part, Choice, FromPort, Held}
use Rattle.hc_values.specs.declared.step.Step.{Step}
use Rattle.hc_values.specs.Rows.{Kept, AreRowsOf}
use Rattle.hc_values.specs.Steps.{IsMadeBy, IsRegisterNode, IsStepOf}
use Rattle.hc_values.specs.Values.{operand, IsOwn}
use Rattle.hc_values.proofs.Arms.{input_arm, mux_arm, node_lawful, register_arm, register_within, two_arm, value_at_within}
use Rattle.hc_values.proofs.Computing.{arm}
use Rattle.hc_values.proofs.Shapes.{operand_width}

pub step_within : (g : Graph) (s : Step) → IsStepOf g s → s.id.0 < length g.nodes
step_within g s is = slice_get_within g.nodes s.id.0 is.0 is.1

module _ (g : Graph) (l : IsLawful g) (kept : Kept) (fits : AreRowsOf g kept) (s : Step) (is_step : IsStepOf g s) where
  abbrev row : NodeRow
  row = is_step.0

  abbrev pub IsIts : BitVector → Type 0
  IsIts x = IsOwn g kept s.id.0 x

  made_by : (make : Make) → s.make ≡ make → IsMadeBy row.node make
  made_by make is = subst (λ (k : Make). IsMadeBy row.node k) is is_step.2

  pub same_step : (a : NodeId) (x : BitVector) → s.make ≡ Same a → x ≡ operand g kept.values a → IsIts x
  same_step a x is e =
      let r : row.node ≡ Wire (Some a) = made_by (Same a) is in
      let h : HasWidth g a row.width = node_lawful g l kept fits s.id.0 row is_step.1 (Wire (Some a)) r in
      (row, is_step.1, arm g kept s.id.0 row (Wire (Some a)) x r (ap (λ (b : BitVector). b.width) e ∙ operand_width g kept.values a row.width h) (ap (λ (b : BitVector). b.value) e))

  pub binary_step : (op : Op2) (a b : NodeId) (y z x : BitVector) → s.make ≡ Binary op a b → y ≡ operand g kept.values a → z ≡ operand g kept.values b → x ≡ binary op y z → IsIts x
  binary_step op a b y z x is ey ez e = (row, is_step.1, two_arm g l kept fits s.id.0 row is_step.1 op a b y z x (made_by (Binary op a b) is) ey ez e)

  pub complement_step : (a : NodeId) (y x : BitVector) → s.make ≡ Complement a → y ≡ operand g kept.values a → x ≡ not_ y → IsIts x
  complement_step a y x is ey e =
      let r : row.node ≡ Not a = made_by (Complement a) is in
      let h : HasWidth g a row.width = node_lawful g l kept fits s.id.0 row is_step.1 (Not a) r in
      let whole : x ≡ not_ (operand g kept.values a) = e ∙ ap not_ ey in
      (row, is_step.1, arm g kept s.id.0 row (Not a) x r (ap (λ (b : BitVector). b.width) whole ∙ operand_width g kept.values a row.width h) (ap (λ (b : BitVector). b.value) whole))

  pub part_step : (a : NodeId) (hi lo : ℕ) (y x : BitVector) → s.make ≡ Part a hi lo → y ≡ operand g kept.values a → x ≡ select y hi lo → IsIts x
  part_step a hi lo y x is ey e =
      let r : row.node ≡ Select a hi lo = made_by (Part a hi lo) is in
      let h : IsLawfulNode g row.width (Select a hi lo) = node_lawful g l kept fits s.id.0 row is_step.1 (Select a hi lo) r in
      let whole : x ≡ select (operand g kept.values a) hi lo = e ∙ ap (λ (b : BitVector). select b hi lo) ey in
      (row, is_step.1, arm g kept s.id.0 row (Select a hi lo) x r (ap (λ (b : BitVector). b.width) whole ∙ sym h.4) (ap (λ (b : BitVector). b.value) whole))

  pub choice_step : (sel a b : NodeId) (y x : BitVector) → s.make ≡ Choice sel a b → y ≡ operand g kept.values sel → x ≡ mux y (map (operand g kept.values) (a ∷ b ∷ [])) → IsIts x
  choice_step sel a b y x is ey e =
      (row, is_step.1, mux_arm g l kept fits s.id.0 row is_step.1 sel (a ∷ b ∷ []) (a ∷ b ∷ []) y x (made_by (Choice sel a b) is) refl ey e)

  pub port_step : (port : ℕ) (x : BitVector) → s.make ≡ FromPort port → x ≡ get_or kept.values s.id.0 x → IsIts x
  port_step port x is e = (row, is_step.1, input_arm g l kept fits s.id.0 row is_step.1 port x (made_by (FromPort port) is) e)

  pub held_step : (x : BitVector) → s.make ≡ Held → x ≡ get_or kept.registers s.id.0 x → IsIts x
  held_step x is e =
      let r : IsRegisterNode row.node = made_by Held is in
      (row, is_step.1, register_arm g l kept fits s.id.0 row is_step.1 r.0 r.1 r.2 r.3 x r.4 e)

  pub value_there : s.id.0 < length kept.values
  value_there = value_at_within g l kept fits s.id.0 row is_step.1

  pub register_there : s.id.0 < length kept.registers
  register_there = register_within g l kept fits s.id.0 row is_step.1
