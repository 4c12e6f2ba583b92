-- A wire that gets its driver.
use Rattle.std.proofs.Common.{◌≡◌, ℕ, ◌+◌, ◌<◌, Bool, true, false, not, ◌==◌, get_or, length, refl, sym, subst, ◌∙◌, ap, arith}
use Rattle.std.specs.Prelude.{slice_get, slice_set, Option, Some, None, List}
use Rattle.std.proofs.lemmas.Option.{slice_get_read, slice_get_within, same_Some}
use Rattle.std.proofs.lemmas.Bool.{eqb-true}
use Rattle.hc_fault.specs.declared.fault.FaultKind.{FaultKind}
use Rattle.hc_fault.specs.declared.fault.FaultKind.TheVariants as fault
use Rattle.hc_signal.specs.Member.{Has}
use Rattle.hc_signal.specs.declared.signal.NodeId.{NodeId}
use Rattle.hc_signal.specs.declared.signal.NodeRow.{NodeRow}
use Rattle.hc_signal.specs.declared.signal.Node.{Node}
use Rattle.hc_signal.specs.declared.signal.Node.TheVariants.{Input, Wire, Const, Two, Not, Mux, Cat, Select, Reg, Read, InstOut, Op}
use Rattle.hc_signal.specs.Graph.{Graph}
use Rattle.hc_signal.specs.Lawful.{IsLawful, HasWidth}
use Rattle.hc_signal.specs.Weight.{node_weight, operands}
use Rattle.hc_signal.specs.Rules.{rule, drive_rule}
use Rattle.hc_signal.specs.Builds.{IsNode, IsWire, width_at, row_width, is_wire, is_driven, is_driven_at, is_inner, driven_from, change_at}
use Rattle.hc_signal.specs.Kept.{IsKept}
use Rattle.hc_signal.proofs.Places.{set_changes}
use Rattle.hc_signal.proofs.Changed.{Replaces, kept_row}
use Rattle.hc_signal.proofs.Follows.{test_holds, first_holds, has_its_width}

-- the row that was read
pub row_read : (g : Graph) (n : ℕ) (x : NodeRow) → n < length g.nodes → x ≡ get_or g.nodes n x → slice_get g.nodes n ≡ Some x
row_read g n x b e = slice_get_read g.nodes (length g.nodes) n x refl b e

-- the list with one row written is the list with that row changed
pub changed_rows : (g old : Graph) (n : ℕ) (f : NodeRow → NodeRow) (x new : NodeRow) (rows : List NodeRow) → g ≡ old → slice_get g.nodes n ≡ Some x → new ≡ f x → rows ≡ slice_set g.nodes n new
    → (let made : Graph = record g { nodes = rows } in made) ≡ record old { nodes = change_at f n old.nodes }
changed_rows g old n f x new rows same there is e =
    ap (λ rows'. (let made : Graph = record g { nodes = rows' } in made)) (e ∙ (ap (slice_set g.nodes n) is ∙ set_changes f n g.nodes x there))
    ∙ ap (λ (h : Graph). (let made : Graph = record h { nodes = change_at f n h.nodes } in made)) same

wire_back : (x y : Node) → is_wire x ≡ true → is_inner y ≡ false → x ≡ y → ⊥
wire_back (Wire d) y w outer e = let no : true ≡ is_inner y = ap is_inner e in cc
wire_back (Input a) y w outer e = cc
wire_back (Const a) y w outer e = cc
wire_back (Two op a b) y w outer e = cc
wire_back (Not a) y w outer e = cc
wire_back (Mux a b) y w outer e = cc
wire_back (Cat a) y w outer e = cc
wire_back (Select a b d) y w outer e = cc
wire_back (Reg a b d f) y w outer e = cc
wire_back (Read a b) y w outer e = cc
wire_back (InstOut a b) y w outer e = cc
wire_back (Op a b) y w outer e = cc

wire_weight : (x : Node) → is_wire x ≡ true → operands x ≡ 1
wire_weight (Wire d) w = refl
wire_weight (Input a) w = cc
wire_weight (Const a) w = cc
wire_weight (Two op a b) w = cc
wire_weight (Not a) w = cc
wire_weight (Mux a b) w = cc
wire_weight (Cat a) w = cc
wire_weight (Select a b d) w = cc
wire_weight (Reg a b d f) w = cc
wire_weight (Read a b) w = cc
wire_weight (InstOut a b) w = cc
wire_weight (Op a b) w = cc

-- the rule of a drive has the widths equal
pub equal_widths : (v w : ℕ) (d : Bool) → drive_rule v w d ≡ None → v ≡ w
equal_widths v w d e = eqb-true v w (test_holds fault.WidthMismatch (v == w) (first_holds (rule fault.WidthMismatch (v == w)) _ e).0)

module _ (g : Graph) (wire from : NodeId) (row : NodeRow) (l : IsLawful g) (there : slice_get g.nodes wire.0 ≡ Some row) (w : is_wire row.node ≡ true) (node : IsNode g from) (same : row.width ≡ width_at g from) where
  abbrev made : NodeRow
  made = driven_from from row

  pub drive_replaces : Replaces g wire.0 row made
  drive_replaces = record {
    there = there;
    width = refl;
    node = subst (λ n. HasWidth g from n) (sym same) (has_its_width g from node);
    weight = ap (λ n. 1 + n) (sym (wire_weight row.node w));
    back = λ x outer e. absurd (wire_back made.node x refl outer e);
    forth = λ x outer e. absurd (wire_back row.node x w outer e);
    input_label = λ k e. cc;
    output_label = λ id k at. (let was : _ = l.wires id k in
        let e : was.0 ≡ row = same_Some was.0 row (sym was.2 ∙ (ap (slice_get g.nodes) at ∙ there)) in
        (Some from, refl, ap (λ (r : NodeRow). r.label) (sym e) ∙ was.4));
  }

-- of the wire that was read
pub driven_row : (g old : Graph) (wire from : NodeId) (row : NodeRow) (v w : ℕ) (d : Bool) → g ≡ old → IsLawful g → IsWire old wire → IsNode old from → row ≡ get_or g.nodes wire.0 row
    → v ≡ width_at old wire → w ≡ width_at old from → drive_rule v w d ≡ None
    → (slice_get g.nodes wire.0 ≡ Some row) × (is_wire row.node ≡ true) × Replaces g wire.0 row (driven_from from row)
driven_row g old wire from row v w d same l is_w node read ve we holds =
    let is_w' : IsWire g wire = subst (λ h. IsWire h wire) (sym same) is_w in
    let node' : IsNode g from = subst (λ h. IsNode h from) (sym same) node in
    let there : slice_get g.nodes wire.0 ≡ Some row = row_read g wire.0 row (slice_get_within g.nodes wire.0 is_w'.0 is_w'.1) read in
    let e : is_w'.0 ≡ row = same_Some is_w'.0 row (sym is_w'.1 ∙ there) in
    let wired : is_wire row.node ≡ true = ap (λ (r : NodeRow). is_wire r.node) (sym e) ∙ is_w'.2 in
    let width : row.width ≡ width_at g from
    = sym (ap row_width there) ∙ (ap (λ (h : Graph). width_at h wire) same ∙ (sym ve ∙ (equal_widths v w d holds ∙ (we ∙ ap (λ (h : Graph). width_at h from) (sym same))))) in
    (there, wired, drive_replaces g wire from row l there wired node' width)
