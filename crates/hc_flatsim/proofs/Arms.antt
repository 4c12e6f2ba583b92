-- The value of each kind of node, as it is computed.
use Rattle.std.proofs.Common.{◌≡◌, ℕ, zero, suc, ◌+◌, ◌<◌, ◌≤◌, List, [], ◌∷◌, map, length, replicate, get_or, refl, sym, subst, ◌∙◌, ap, ap₂, arith, Bool, false}
use Rattle.std.specs.Prelude.{◌==◌, slice_get, slice_set, slice_index, Option, Some, None, option_map, sum}
use Rattle.std.proofs.lemmas.Option.{slice_get_within, slice_get-map, same_Some}
use Rattle.std.proofs.lemmas.List.{length-map}
use Rattle.hc_bits.specs.BitVector.{BitVector, mux, cat_all}
use Rattle.hc_bits.specs.Catalogue.{operation}
use Rattle.hc_bits.specs.declared.kind.OpKind.{OpKind}
use Rattle.hc_ops.specs.Arguments.{AreLawful}
use Rattle.hc_signal.specs.Member.{Has, first, later}
use Rattle.hc_signal.specs.declared.signal.NodeId.{NodeId}
use Rattle.hc_signal.specs.declared.signal.MemId.{MemId}
use Rattle.hc_signal.specs.declared.signal.NodeRow.{NodeRow}
use Rattle.hc_signal.specs.declared.signal.Op2.{Op2}
use Rattle.hc_signal.specs.declared.signal.Node.{Node}
use Rattle.hc_signal.specs.declared.signal.Node.TheVariants.{Input, Two, Mux, Cat, Select, Reg, Read, Op}
use Rattle.hc_signal.specs.Graph.{Graph}
use Rattle.hc_signal.specs.Lawful.{IsLawful, IsLawfulNode}
use Rattle.hc_signal.specs.Operators.{binary}
use Rattle.hc_flatsim.specs.Machine.{widths, node_widths, memory_widths, numbers, number_of, number_at, words_of, words_at, word_or_zero}
use Rattle.hc_flatsim.specs.Settling.{Given, IsGiven, operand, own_vector, AreWithin}
use Rattle.hc_flatsim.proofs.Shapes.{many, found, same_set, id_within, operand_width, value_within}
use Rattle.hc_flatsim.proofs.Computing.{arm, all_within, parts_within, parts_widths, cat_width, mux_width, cases_widths}
use Rattle.hc_flatsim.proofs.Operations.{binary_width, one_width, operation_width}
use Rattle.hc_flatsim.proofs.Registers.{read_at, alike}
use Rattle.hc_flatsim.proofs.Ports.{output_is}

-- ---- parts side by side, from the first on

pub nonempty : (n : ℕ) (b : Bool) → b ≡ (n == 0) → b ≡ false → 1 ≤ n
nonempty zero b e f = absurd (cc)
nonempty (suc n) b e f = omega arith

rest_small : (x : BitVector) (xs : List BitVector) → (cat_all (x ∷ xs)).width ≤ 128 → (cat_all xs).width ≤ 128
rest_small x [] l = omega arith
rest_small x (y ∷ ys) l = let h : x.width + (cat_all (y ∷ ys)).width ≤ 128 = l in omega (arith, h)

pub rest_fits : (g : Graph) (values : List BitVector) (parts : List NodeId) (id : NodeId) (rest : List NodeId) → parts ≡ id ∷ rest
    → (cat_all (map (operand g values) parts)).width ≤ 128 → (cat_all (map (operand g values) rest)).width ≤ 128
rest_fits g values parts id rest e l = rest_small (operand g values id) (map (operand g values) rest) (subst (λ (p : List NodeId). (cat_all (map (operand g values) p)).width ≤ 128) e l)

pub rest_within : (g : Graph) (parts : List NodeId) (id : NodeId) (rest : List NodeId) → parts ≡ id ∷ rest → AreWithin g parts → AreWithin g rest
rest_within g parts id rest e a k h = a k (subst (λ (p : List NodeId). Has p k) (sym e) (later h))

pub first_within : (g : Graph) (parts : List NodeId) (id : NodeId) (rest : List NodeId) → parts ≡ id ∷ rest → AreWithin g parts → id.0 < length g.nodes
first_within g parts id rest e a = a id (subst (λ (p : List NodeId). Has p id) (sym e) first)

-- ---- words by their places

number_index : (xs : List BitVector) (k : ℕ) → slice_index (numbers xs) k ≡ number_at xs k
number_index [] k = refl
number_index (x ∷ xs) zero = refl
number_index (x ∷ xs) (suc k) = number_index xs k

word_number : (w : ℕ) (o : Option BitVector) → (word_or_zero w o).value ≡ number_of o
word_number w None = refl
word_number w (Some word) = refl

pub same_width : (n w k z : ℕ) → slice_get (replicate n w) k ≡ Some z → z ≡ w
same_width zero w k z e = absurd (cc)
same_width (suc n) w zero z e = sym (same_Some _ _ e)
same_width (suc n) w (suc k) z e = same_width n w k z e

word_width : (words : List BitVector) (n w k : ℕ) → widths words ≡ replicate n w → (word_or_zero w (slice_get words k)).width ≡ w
word_width words n w k e = go (slice_get words k) refl
  where
    go : (o : Option BitVector) → slice_get words k ≡ o → (word_or_zero w o).width ≡ w
    go None q = refl
    go (Some word) q = same_width n w k word.width (ap (λ (l : List ℕ). slice_get l k) (sym e) ∙ slice_get-map (λ (b : BitVector). b.width) words k ∙ ap (option_map (λ (b : BitVector). b.width)) q)

-- ---- nodes

module _ (g : Graph) (l : IsLawful g) (given : Given) (fits : IsGiven g given) (values : List BitVector) (n : ℕ) (row : NodeRow) (at : slice_get g.nodes n ≡ Some row) where
  pub node_lawful : (x : Node) → row.node ≡ x → IsLawfulNode g row.width x
  node_lawful x is = subst (λ (z : Node). IsLawfulNode g row.width z) is (l.nodes n row at).1

  pub two_arm : (op : Op2) (a b : NodeId) (y z x : BitVector) → row.node ≡ Two op a b → y ≡ operand g values a → z ≡ operand g values b → x ≡ binary op y z → x ≡ own_vector g given values n row
  two_arm op a b y z x is ey ez e =
      let h = node_lawful (Two op a b) is in
      let whole : x ≡ binary op (operand g values a) (operand g values b) = e ∙ ap₂ (binary op) ey ez in
      arm g given values n row (Two op a b) x is
      (ap (λ (b : BitVector). b.width) whole ∙ binary_width op (operand g values a) (operand g values b) h.0 h.1 row.width (operand_width g values a h.0 h.2) (operand_width g values b h.1 h.3) h.4)
      (ap (λ (b : BitVector). b.value) whole)

  pub cat_within : (parts all : List NodeId) → row.node ≡ Cat parts → all ≡ parts → AreWithin g all
  cat_within parts all is same = let h = node_lawful (Cat parts) is in subst (λ (p : List NodeId). AreWithin g p) (sym same) (parts_within g parts h.0 h.2)

  cat_total : (parts : List NodeId) → row.node ≡ Cat parts → (cat_all (map (operand g values) parts)).width ≡ row.width
  cat_total parts is = let h = node_lawful (Cat parts) is in cat_width (map (operand g values) parts) ∙ ap sum (parts_widths g values parts h.0 h.2) ∙ sym h.3

  pub cat_fits : (parts all : List NodeId) → row.node ≡ Cat parts → all ≡ parts → (cat_all (map (operand g values) all)).width ≤ 128
  cat_fits parts all is same =
      let few : row.width ≤ 128 = (l.nodes n row at).0.1 in
      subst (λ (p : List NodeId). (cat_all (map (operand g values) p)).width ≤ 128) (sym same) (subst (λ k. k ≤ 128) (sym (cat_total parts is)) few)

  pub cat_arm : (parts all : List NodeId) (x : BitVector) → row.node ≡ Cat parts → all ≡ parts → x ≡ cat_all (map (operand g values) all) → x ≡ own_vector g given values n row
  cat_arm parts all x is same e =
      let whole : x ≡ cat_all (map (operand g values) parts) = e ∙ ap (λ (p : List NodeId). cat_all (map (operand g values) p)) same in
      arm g given values n row (Cat parts) x is (ap (λ (b : BitVector). b.width) whole ∙ cat_total parts is) (ap (λ (b : BitVector). b.value) whole)

  pub mux_arm : (sel : NodeId) (cases all : List NodeId) (s x : BitVector) → row.node ≡ Mux sel cases → all ≡ cases → s ≡ operand g values sel
      → x ≡ mux s (map (operand g values) all) → x ≡ own_vector g given values n row
  mux_arm sel cases all s x is same picked e =
      let h = node_lawful (Mux sel cases) is in
      let whole : x ≡ mux (operand g values sel) (map (operand g values) cases) = e ∙ ap₂ (λ (b : BitVector) (p : List NodeId). mux b (map (operand g values) p)) picked same in
      let two : 2 ≤ length cases = h.2 in
      let some : 1 ≤ length (map (operand g values) cases) = subst (λ k. 1 ≤ k) (sym (length-map cases (operand g values))) (omega (arith, two)) in
      arm g given values n row (Mux sel cases) x is
      (ap (λ (b : BitVector). b.width) whole ∙ mux_width (operand g values sel) (map (operand g values) cases) row.width some (cases_widths g values cases row.width h.4))
      (ap (λ (b : BitVector). b.value) whole)

  pub operation_within : (kind : OpKind) (args all : List NodeId) → row.node ≡ Op kind args → all ≡ args → AreWithin g all
  operation_within kind args all is same = let h = node_lawful (Op kind args) is in subst (λ (p : List NodeId). AreWithin g p) (sym same) (all_within g args h.0 h.2)

  pub operation_lawful : (kind : OpKind) (args all : List NodeId) → row.node ≡ Op kind args → all ≡ args → AreLawful kind (map (operand g values) all)
  operation_lawful kind args all is same =
      let h = node_lawful (Op kind args) is in
      subst (λ (p : List NodeId). AreLawful kind (map (operand g values) p)) (sym same)
      (length-map args (operand g values) ∙ h.1, one_width (map (operand g values) args) h.0 (cases_widths g values args h.0 h.2))

  pub operation_arm : (kind : OpKind) (args all : List NodeId) (x : BitVector) → row.node ≡ Op kind args → all ≡ args → x ≡ operation kind (map (operand g values) all)
      → x ≡ own_vector g given values n row
  operation_arm kind args all x is same e =
      let h = node_lawful (Op kind args) is in
      let whole : x ≡ operation kind (map (operand g values) args) = e ∙ ap (λ (p : List NodeId). operation kind (map (operand g values) p)) same in
      arm g given values n row (Op kind args) x is
      (ap (λ (b : BitVector). b.width) whole ∙ operation_width kind (map (operand g values) args) h.0 (length-map args (operand g values) ∙ h.1) (cases_widths g values args h.0 h.2) ∙ sym h.3)
      (ap (λ (b : BitVector). b.value) whole)

  pub select_within : (a : NodeId) (hi lo : ℕ) → row.node ≡ Select a hi lo → a.0 < length g.nodes
  select_within a hi lo is = let h = node_lawful (Select a hi lo) is in id_within g a h.0 h.1

  pub address_within : (m : MemId) (addr : NodeId) → row.node ≡ Read m addr → addr.0 < length g.nodes
  address_within m addr is = let h = node_lawful (Read m addr) is in id_within g addr h.0 h.1

  pub memory_within : (m : MemId) (addr : NodeId) → row.node ≡ Read m addr → m.0 < length given.memories
  memory_within m addr is =
      let h = node_lawful (Read m addr) is in
      subst (λ k. m.0 < k) (sym (many widths memory_widths given.memories g.memories fits.memories)) (slice_get_within g.memories m.0 h.2.0 h.2.1)

  pub register_within : n < length given.registers
  register_within = value_within g given.registers n fits.registers (slice_get_within g.nodes n row at)

  pub register_arm : (next : NodeId) (enable : Option NodeId) (clear : Option (NodeId × BitVector)) (init x : BitVector) → row.node ≡ Reg next enable clear init
      → x ≡ get_or given.registers n x → x ≡ own_vector g given values n row
  register_arm next enable clear init x is e =
      arm g given values n row (Reg next enable clear init) x is
      (alike (λ (b : BitVector). b.width) (λ (r : NodeRow). r.width) given.registers g.nodes fits.registers n row x at e)
      (sym (ap number_of (read_at (λ (b : BitVector). b.width) (λ (r : NodeRow). r.width) given.registers g.nodes fits.registers n row x at e)))

  pub input_arm : (port : ℕ) (x : BitVector) → row.node ≡ Input port → x ≡ get_or given.inputs port x → x ≡ own_vector g given values n row
  input_arm port x is e =
      let h = node_lawful (Input port) is in
      let whole : x ≡ record { width = h.0.width; value = slice_index (numbers given.inputs) port } = output_is given.inputs g.ports.inputs given.inputs port x h.0 fits.inputs refl e h.1 in
      arm g given values n row (Input port) x is (ap (λ (b : BitVector). b.width) whole ∙ h.2) (ap (λ (b : BitVector). b.value) whole)

  pub read_arm : (m : MemId) (addr : NodeId) (a x : BitVector) → row.node ≡ Read m addr → a ≡ operand g values addr
      → x ≡ word_or_zero row.width (slice_get (words_at given.memories m.0) a.value) → x ≡ own_vector g given values n row
  read_arm m addr a x is picked e =
      let h = node_lawful (Read m addr) is in
      let w : (words : List BitVector) × (slice_get given.memories m.0 ≡ Some words)
      × (widths words ≡ memory_widths h.2.0) = found widths memory_widths given.memories g.memories m.0 h.2.0 fits.memories h.2.1 in
      let words : List BitVector = words_at given.memories m.0 in
      let k : ℕ = number_at values addr.0 in
      let whole : x ≡ word_or_zero row.width (slice_get words k) = e ∙ ap (λ (b : BitVector). word_or_zero row.width (slice_get words b.value)) picked in
      let wide : widths words ≡ replicate h.2.0.size row.width = ap (λ o. widths (words_of o)) w.1 ∙ w.2 ∙ ap (λ j. replicate h.2.0.size j) h.2.2 in
      arm g given values n row (Read m addr) x is
      (ap (λ (b : BitVector). b.width) whole ∙ word_width words h.2.0.size row.width k wide)
      (ap (λ (b : BitVector). b.value) whole ∙ word_number row.width (slice_get words k) ∙ sym (number_index words k))

-- a node's value in place of its old one
pub value_set : (g : Graph) (given : Given) (values : List BitVector) (n : ℕ) (row : NodeRow) (x : BitVector) → widths values ≡ node_widths g.nodes
    → slice_get g.nodes n ≡ Some row → x ≡ own_vector g given values n row → widths (slice_set values n x) ≡ node_widths g.nodes
value_set g given values n row x e at is =
    let y : (y : BitVector) × (slice_get values n ≡ Some y) × (y.width ≡ row.width) = found (λ (b : BitVector). b.width) (λ (r : NodeRow). r.width) values g.nodes n row e at in
    same_set (λ (b : BitVector). b.width) values n x y.0 y.1 (ap (λ (b : BitVector). b.width) is ∙ sym y.2) ∙ e
