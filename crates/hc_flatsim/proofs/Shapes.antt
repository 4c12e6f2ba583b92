-- Lists whose items have the widths of what they stand for.
use Rattle.std.proofs.Common.{◌≡◌, ℕ, zero, suc, ◌<◌, List, [], ◌∷◌, map, length, get_or, refl, sym, subst, ◌∙◌, ap, ap₂}
use Rattle.std.specs.Prelude.{slice_get, slice_set, Option, Some, None, option_map}
use Rattle.std.proofs.lemmas.List.{length-map}
use Rattle.std.proofs.lemmas.Option.{slice_get-map, slice_get_within, slice_get_read, slice_get-get_or, same_Some}
use Rattle.hc_signal.specs.Member.{Has}
use Rattle.hc_walk.proofs.Members.{has_slice}
use Rattle.hc_bits.specs.BitVector.{BitVector}
use Rattle.hc_signal.specs.declared.signal.NodeId.{NodeId}
use Rattle.hc_signal.specs.declared.signal.NodeRow.{NodeRow}
use Rattle.hc_signal.specs.Graph.{Graph}
use Rattle.hc_signal.specs.Lawful.{IsLawful, HasWidth}
use Rattle.hc_bench.specs.Simulation.{width_of}
use Rattle.hc_flatsim.specs.Machine.{widths, node_widths, number_of}
use Rattle.hc_flatsim.specs.Settling.{operand, AreWithin}

-- lists that are alike in some numbers
pub many : {X Y Z : Type 0} (f : X → Z) (g : Y → Z) (xs : List X) (ys : List Y) → map f xs ≡ map g ys → length xs ≡ length ys
many f g xs ys e = sym (length-map xs f) ∙ ap length e ∙ length-map ys g

pub some_item : {X Z : Type 0} (f : X → Z) (o : Option X) (z : Z) → option_map f o ≡ Some z → (x : X) × (o ≡ Some x) × (f x ≡ z)
some_item f None z e = absurd (cc)
some_item f (Some x) z e = (x, refl, cc)

pub found : {X Y Z : Type 0} (f : X → Z) (g : Y → Z) (xs : List X) (ys : List Y) (n : ℕ) (y : Y) → map f xs ≡ map g ys → slice_get ys n ≡ Some y → (x : X) × (slice_get xs n ≡ Some x) × (f x ≡ g y)
found f g xs ys n y e at = some_item f (slice_get xs n) (g y) (sym (slice_get-map f xs n) ∙ ap (λ l. slice_get l n) e ∙ slice_get-map g ys n ∙ ap (option_map g) at)

pub same_set : {X Z : Type 0} (f : X → Z) (xs : List X) (n : ℕ) (x y : X) → slice_get xs n ≡ Some y → f x ≡ f y → map f (slice_set xs n x) ≡ map f xs
same_set f [] n x y at e = refl
same_set f (z ∷ xs) zero x y at e = ap (λ w. w ∷ map f xs) (e ∙ ap f (sym (same_Some _ _ at)))
same_set f (z ∷ xs) (suc n) x y at e = ap (λ l. f z ∷ l) (same_set f xs n x y at e)

-- the value of an operand, read at its place
pub operand_is : (g : Graph) (values : List BitVector) (id : NodeId) (x : BitVector) → widths values ≡ node_widths g.nodes → slice_get values id.0 ≡ Some x → x ≡ operand g values id
operand_is g values id x e at =
    let r : (row : NodeRow) × (slice_get g.nodes id.0 ≡ Some row) × (row.width ≡ x.width) = found (λ (row : NodeRow). row.width) (λ (b : BitVector). b.width) g.nodes values id.0 x (sym e) at in
    sym (ap₂ (λ o p. record { width = width_of o; value = number_of p }) r.1 at ∙ ap (λ w. record { width = w; value = x.value }) r.2)

pub operand_read : (g : Graph) (values : List BitVector) (id : NodeId) (x : BitVector) → widths values ≡ node_widths g.nodes → id.0 < length g.nodes
    → x ≡ get_or values id.0 x → x ≡ operand g values id
operand_read g values id x e l at = operand_is g values id x e
    (slice_get_read values (length g.nodes) id.0 x (sym (many (λ (b : BitVector). b.width) (λ (row : NodeRow). row.width) values g.nodes e)) l at)

pub value_within : (g : Graph) (values : List BitVector) (n : ℕ) → widths values ≡ node_widths g.nodes → n < length g.nodes → n < length values
value_within g values n e l = subst (λ k. n < k) (sym (many (λ (b : BitVector). b.width) (λ (row : NodeRow). row.width) values g.nodes e)) l

-- the width of an operand
pub operand_width : (g : Graph) (values : List BitVector) (id : NodeId) (w : ℕ) → HasWidth g id w → (operand g values id).width ≡ w
operand_width g values id w h = ap width_of h.1 ∙ h.2

pub id_within : (g : Graph) (id : NodeId) (w : ℕ) → HasWidth g id w → id.0 < length g.nodes
id_within g id w h = slice_get_within g.nodes id.0 h.0 h.1

pub case_within : (g : Graph) (ids : List NodeId) (k : ℕ) (d : NodeId) → AreWithin g ids → k < length ids → (get_or ids k d).0 < length g.nodes
case_within g ids k d a l = a (get_or ids k d) (has_slice ids k (get_or ids k d) (slice_get-get_or ids k d l))

-- an item that a loop reads
pub item_has : {X : Type 0} (xs : List X) (k : ℕ) (x : X) → k < length xs → x ≡ get_or xs k x → Has xs x
item_has xs k x l e = has_slice xs k x (slice_get_read xs (length xs) k x refl l e)

pub output_within : (g : Graph) → IsLawful g → (all : List NodeId) (k : ℕ) (d : NodeId) → all ≡ g.outputs → k < length all → (get_or all k d).0 < length g.nodes
output_within g l all k d e b =
    let w = l.wires (get_or all k d) (subst (λ s. Has s (get_or all k d)) e (has_slice all k (get_or all k d) (slice_get-get_or all k d b))) in
    slice_get_within g.nodes (get_or all k d).0 w.0 w.2
