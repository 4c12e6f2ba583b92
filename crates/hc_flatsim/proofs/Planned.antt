-- A step of the plan makes the value of its node.
use Rattle.std.proofs.Common.{◌≡◌, ℕ, ◌<◌, List, [], ◌∷◌, map, length, get_or, refl, sym, subst, ◌∙◌, ap}
use Rattle.std.specs.Prelude.{slice_get, slice_set, Option, Some, None, option_map}
use Rattle.std.proofs.lemmas.Option.{slice_get-get_or, slice_get-map, same_Some}
use Rattle.hc_bits.specs.BitVector.{BitVector, mux, not_, select}
use Rattle.hc_signal.specs.declared.signal.NodeId.{NodeId}
use Rattle.hc_signal.specs.declared.signal.NodeRow.{NodeRow}
use Rattle.hc_signal.specs.declared.signal.Op2.{Op2}
use Rattle.hc_signal.specs.declared.signal.Node.{Node}
use Rattle.hc_signal.specs.declared.signal.Node.TheVariants.{Input, Wire, Const, Two, Not, Mux, Cat, Select, Reg, Read, InstOut, Op}
use Rattle.hc_signal.specs.Graph.{Graph}
use Rattle.hc_signal.specs.Lawful.{HasWidth, IsLawful, IsLawfulNode}
use Rattle.hc_signal.specs.Operators.{binary}
use Rattle.hc_flatsim.specs.declared.plan.Make.{Make}
use Rattle.hc_flatsim.specs.declared.plan.Make.TheVariants.{Same, Binary, Complement, Part, Choice, FromPort, Held, Row}
use Rattle.hc_flatsim.specs.declared.plan.Step.{Step}
use Rattle.hc_flatsim.specs.Plan.{make_of, make_of_row, plan_of, planned, step_of}
use Rattle.hc_flatsim.specs.Machine.{node_widths, widths}
use Rattle.hc_flatsim.specs.Settling.{operand, own_vector, with_row, Given, IsGiven}
use Rattle.hc_flatsim.proofs.Arms.{input_arm, mux_arm, node_lawful, register_arm, two_arm, value_set}
use Rattle.hc_flatsim.proofs.Computing.{arm}
use Rattle.hc_flatsim.proofs.Shapes.{operand_width}

-- what a node is, by what makes its value
abbrev pub IsMade : Make → Node → Type 0
IsMade (Same a) x = x ≡ Wire (Some a)
IsMade (Binary op a b) x = x ≡ Two op a b
IsMade (Complement a) x = x ≡ Not a
IsMade (Part a hi lo) x = x ≡ Select a hi lo
IsMade (Choice sel a b) x = x ≡ Mux sel (a ∷ b ∷ [])
IsMade (FromPort port) x = x ≡ Input port
IsMade Held x = (next : NodeId) × (enable : Option NodeId) × (clear : Option (NodeId × BitVector)) × (init : BitVector) × (x ≡ Reg next enable clear init)
IsMade Row x = Unit {0}

-- what a row is, none only where its step is to look it up
abbrev pub IsMadeRow : Make → Option NodeRow → Type 0
IsMadeRow Row o = Unit {0}
IsMadeRow make o = (row : NodeRow) × (o ≡ Some row) × IsMade make row.node

is_made : (x : Node) → IsMade (make_of x) x
is_made (Wire (Some a)) = refl
is_made (Wire None) = tt
is_made (Two op a b) = refl
is_made (Not a) = refl
is_made (Reg next enable clear init) = (next, enable, clear, init, refl)
is_made (Input port) = refl
is_made (Const value) = tt
is_made (Mux sel []) = tt
is_made (Mux sel (a ∷ [])) = tt
is_made (Mux sel (a ∷ b ∷ [])) = refl
is_made (Mux sel (a ∷ b ∷ c ∷ cases)) = tt
is_made (Cat parts) = tt
is_made (Select a hi lo) = refl
is_made (Read m addr) = tt
is_made (InstOut i port) = tt
is_made (Op kind args) = tt

with_its_row : (make : Make) (row : NodeRow) → IsMade make row.node → IsMadeRow make (Some row)
with_its_row (Same a) row h = (row, refl, h)
with_its_row (Binary op a b) row h = (row, refl, h)
with_its_row (Complement a) row h = (row, refl, h)
with_its_row (Part a hi lo) row h = (row, refl, h)
with_its_row (Choice sel a b) row h = (row, refl, h)
with_its_row (FromPort port) row h = (row, refl, h)
with_its_row Held row h = (row, refl, h)
with_its_row Row row h = tt

row_made : (o : Option NodeRow) → IsMadeRow (make_of_row o) o
row_made None = tt
row_made (Some row) = with_its_row (make_of row.node) row (is_made row.node)

-- the row of a step
pub step_made : (g : Graph) (s : Step) (make : Make) → s ≡ step_of g s.id → s.make ≡ make → IsMadeRow make (slice_get g.nodes s.id.0)
step_made g s make e is = subst (λ (k : Make). IsMadeRow k (slice_get g.nodes s.id.0)) (ap (λ (t : Step). t.make) (sym e) ∙ is) (row_made (slice_get g.nodes s.id.0))

-- a step that a plan has
pub step_is : (g : Graph) (steps : List Step) (k : ℕ) (d : Step) → steps ≡ plan_of g (planned steps) → k < length steps → get_or steps k d ≡ step_of g (get_or steps k d).id
step_is g steps k d e b =
    let s : Step = get_or steps k d in
    let at : slice_get steps k ≡ Some s = slice_get-get_or steps k d b in
    same_Some _ _
    (sym at ∙ ap (λ (l : List Step). slice_get l k) e ∙ slice_get-map (step_of g) (planned steps) k
    ∙ ap (option_map (step_of g)) (slice_get-map (λ (t : Step). t.id) steps k ∙ ap (option_map (λ (t : Step). t.id)) at))

-- ---- the values after a step

module _ (g : Graph) (l : IsLawful g) (given : Given) (fits : IsGiven g given) (values : List BitVector) (many : widths values ≡ node_widths g.nodes) (s : Step) (is_step : s ≡ step_of g s.id) where
  -- the values of the plan are those of the rows, and keep their widths
  abbrev pub IsStep : BitVector → Type 0
  IsStep x =
      (slice_set values s.id.0 x ≡ with_row g given values s.id.0 (slice_get g.nodes s.id.0))
      × (widths (slice_set values s.id.0 x) ≡ node_widths g.nodes)

  placed : (row : NodeRow) (x : BitVector) → slice_get g.nodes s.id.0 ≡ Some row → x ≡ own_vector g given values s.id.0 row → IsStep x
  placed row x at e = (
    ap (slice_set values s.id.0) e ∙ ap (with_row g given values s.id.0) (sym at),
    value_set g given values s.id.0 row x many at e,
  )

  pub same_step : (a : NodeId) (x : BitVector) → s.make ≡ Same a → x ≡ operand g values a → IsStep x
  same_step a x is e =
      let r : IsMadeRow (Same a) (slice_get g.nodes s.id.0) = step_made g s (Same a) is_step is in
      let h : HasWidth g a r.0.width = node_lawful g l given fits values s.id.0 r.0 r.1 (Wire (Some a)) r.2 in
      placed r.0 x r.1
      (arm g given values s.id.0 r.0 (Wire (Some a)) x r.2 (ap (λ (b : BitVector). b.width) e ∙ operand_width g values a r.0.width h) (ap (λ (b : BitVector). b.value) e))

  pub binary_step : (op : Op2) (a b : NodeId) (y z x : BitVector) → s.make ≡ Binary op a b → y ≡ operand g values a → z ≡ operand g values b → x ≡ binary op y z → IsStep x
  binary_step op a b y z x is ey ez e =
      let r : IsMadeRow (Binary op a b) (slice_get g.nodes s.id.0) = step_made g s (Binary op a b) is_step is in
      placed r.0 x r.1 (two_arm g l given fits values s.id.0 r.0 r.1 op a b y z x r.2 ey ez e)

  pub complement_step : (a : NodeId) (y x : BitVector) → s.make ≡ Complement a → y ≡ operand g values a → x ≡ not_ y → IsStep x
  complement_step a y x is ey e =
      let r : IsMadeRow (Complement a) (slice_get g.nodes s.id.0) = step_made g s (Complement a) is_step is in
      let h : HasWidth g a r.0.width = node_lawful g l given fits values s.id.0 r.0 r.1 (Not a) r.2 in
      let whole : x ≡ not_ (operand g values a) = e ∙ ap not_ ey in
      placed r.0 x r.1
      (arm g given values s.id.0 r.0 (Not a) x r.2 (ap (λ (b : BitVector). b.width) whole ∙ operand_width g values a r.0.width h) (ap (λ (b : BitVector). b.value) whole))

  pub part_step : (a : NodeId) (hi lo : ℕ) (y x : BitVector) → s.make ≡ Part a hi lo → y ≡ operand g values a → x ≡ select y hi lo → IsStep x
  part_step a hi lo y x is ey e =
      let r : IsMadeRow (Part a hi lo) (slice_get g.nodes s.id.0) = step_made g s (Part a hi lo) is_step is in
      let h : IsLawfulNode g r.0.width (Select a hi lo) = node_lawful g l given fits values s.id.0 r.0 r.1 (Select a hi lo) r.2 in
      let whole : x ≡ select (operand g values a) hi lo = e ∙ ap (λ (b : BitVector). select b hi lo) ey in
      placed r.0 x r.1 (arm g given values s.id.0 r.0 (Select a hi lo) x r.2 (ap (λ (b : BitVector). b.width) whole ∙ sym h.4) (ap (λ (b : BitVector). b.value) whole))

  pub choice_step : (sel a b : NodeId) (y x : BitVector) → s.make ≡ Choice sel a b → y ≡ operand g values sel → x ≡ mux y (map (operand g values) (a ∷ b ∷ [])) → IsStep x
  choice_step sel a b y x is ey e =
      let r : IsMadeRow (Choice sel a b) (slice_get g.nodes s.id.0) = step_made g s (Choice sel a b) is_step is in
      placed r.0 x r.1 (mux_arm g l given fits values s.id.0 r.0 r.1 sel (a ∷ b ∷ []) (a ∷ b ∷ []) y x r.2 refl ey e)

  pub port_step : (port : ℕ) (x : BitVector) → s.make ≡ FromPort port → x ≡ get_or given.inputs port x → IsStep x
  port_step port x is e =
      let r : IsMadeRow (FromPort port) (slice_get g.nodes s.id.0) = step_made g s (FromPort port) is_step is in
      placed r.0 x r.1 (input_arm g l given fits values s.id.0 r.0 r.1 port x r.2 e)

  pub held_step : (x : BitVector) → s.make ≡ Held → x ≡ get_or given.registers s.id.0 x → IsStep x
  held_step x is e =
      let r : IsMadeRow Held (slice_get g.nodes s.id.0) = step_made g s Held is_step is in
      placed r.0 x r.1 (register_arm g l given fits values s.id.0 r.0 r.1 r.2.0 r.2.1 r.2.2 r.2.3 x r.2.4 e)
