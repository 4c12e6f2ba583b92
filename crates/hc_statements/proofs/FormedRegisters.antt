-- A register that is drawn keeps a graph formed.
use Rattle.std.proofs.Common.{◌≡◌, ℕ, ◌+◌, Bool, true, false, ◌&&◌, length, refl, subst, arith}
use Rattle.std.specs.Prelude.{Option, Some, None, option_map, Result, Ok, Err, ℤ}
use Rattle.std.proofs.lemmas.Bool.{and_parts, eqb-true}
use Rattle.std.proofs.lemmas.List.{length_push}
use Rattle.hc_fault.specs.declared.fault.FaultKind.{FaultKind}
use Rattle.hc_fault.specs.declared.fault.FaultKind.TheVariants as fault
use Rattle.hc_bits.specs.BitVector.{BitVector, IsVector, IsWidth, from_i64}
use Rattle.hc_signal.specs.declared.signal.Node.{Node}
use Rattle.hc_signal.specs.declared.signal.Node.TheVariants as node
use Rattle.hc_signal.specs.declared.signal.NodeId.{NodeId}
use Rattle.hc_signal.specs.declared.signal.NodeRow.{NodeRow}
use Rattle.hc_signal.specs.Graph.{Graph}
use Rattle.hc_signal.specs.Lawful.{HasWidth, IsLawfulNode, MayClear, MayHaveWidth}
use Rattle.hc_signal.specs.Rules.{is_bit, reg_rule, rule}
use Rattle.hc_signal.specs.Builds.{IsNode, MayBeNode, is_inner, unlabelled, width_at, with_row}
use Rattle.hc_unfold.specs.Formed.{IsFormed}
use Rattle.hc_unfold.specs.Gives.{Grows}
use Rattle.hc_unfold.specs.Drawing.{adds, and_then, found, given, go_on, next, unless, width, ◌>>=◌}
use Rattle.hc_statements.specs.Registers.{clear_in, clear_node, init_in, register, row, value_in}
use Rattle.hc_statements.proofs.Connected.{width_row}
use Rattle.hc_statements.proofs.FormedSteps.{Below}
use Rattle.hc_statements.proofs.Known.{row_added}

-- a graph that is formed, has grown, and has the node
abbrev pub Drawn : Graph → Graph → NodeId → Type 0
Drawn g h id = IsFormed h × Grows g h × IsNode h id

test_holds : (kind : FaultKind) (b : Bool) → rule kind b ≡ None → b ≡ true
test_holds kind true e = refl
test_holds kind false e = absurd cc

has_its_width : (g : Graph) (id : NodeId) → IsNode g id → HasWidth g id (width_at g id)
has_its_width g id n = width_row g id (width_at g id) n refl

-- the width of a node is one
pub width_is : (g : Graph) (id : NodeId) → IsFormed g → IsNode g id → IsWidth (width_at g id)
width_is g id l n = let has : HasWidth g id (width_at g id) = has_its_width g id n in subst IsWidth has.2 (l.nodes id.0 has.0 has.1).0

bit_wide : (g : Graph) (o : Option NodeId) → MayBeNode g o → is_bit (option_map (width_at g) o) ≡ true → MayHaveWidth g o 1
bit_wide g None may bit = tt
bit_wide g (Some id) may bit = subst (λ n. HasWidth g id n) (eqb-true (width_at g id) 1 bit) (has_its_width g id may)

same_drawn : (p q : Graph × NodeId) → ◌≡◌ {A = Result (Graph × NodeId) FaultKind} (Ok p) (Ok q) → p ≡ q
same_drawn p q e = cc

-- one node more, that is lawful
pub one_more : Below → (g h : Graph) (w : ℕ) (x : Node) (id : NodeId) → IsFormed g → IsWidth w → IsLawfulNode g w x → is_inner x ≡ true → adds None w x g ≡ Ok (h, id) → Drawn g h id
one_more below g h w x id l b lawful inner e =
    let new : NodeRow = unlabelled w x in
    let more : Graph = with_row g new in
    let many : length more.nodes ≡ length g.nodes + 1 = length_push g.nodes new in
    subst (λ (d : Graph × NodeId). Drawn g d.0 d.1) (same_drawn (more, next g) (h, id) e) (below.changes.node g w x l b lawful inner, row_added g more new refl, omega (arith, many))

module _ (below : Below) (g h : Graph) (n : NodeId) (en : Option NodeId) (cl : Option (NodeId × ℤ)) (first : Option ℤ) (id : NodeId) (l : IsFormed g) (there : IsNode g n)
    (me : MayBeNode g en) (mc : MayBeNode g (clear_node cl)) where
  abbrev w : ℕ
  w = width_at g n

  value_is : (z : ℤ) (v : BitVector) → value_in w z ≡ Ok v → IsVector v w
  value_is z v e = by (from_i64 w z) refl e
    where
      by : (o : Option BitVector) → from_i64 w z ≡ o → found fault.ConstRange o ≡ Ok v → IsVector v w
      by (Some x) is e' = let same : x ≡ v = cc in subst (λ y. IsVector y w) same (below.values w z x (width_is g n l there) is)
      by None is e' = absurd cc

  init_is : (o : Option ℤ) (v : BitVector) → init_in w o ≡ Ok v → IsVector v w
  init_is None v e = let same : ◌≡◌ {A = BitVector} (record { width = w; value = 0 }) v = cc in subst (λ y. IsVector y w) same (below.zeros w (width_is g n l there))
  init_is (Some z) v e = value_is z v e

  clear_is : (o : Option (NodeId × ℤ)) (c : Option (NodeId × BitVector)) → MayHaveWidth g (clear_node o) 1 → clear_in w o ≡ Ok c → MayClear g c w
  clear_is None c may e = let same : None ≡ c = cc in subst (λ x. MayClear g x w) same tt
  clear_is (Some x) c may e = by (value_in w x.1) refl e
    where
      by : (r : Result BitVector FaultKind) → value_in w x.1 ≡ r → ◌≡◌ {A = Result (Option (NodeId × BitVector)) FaultKind} (and_then r (λ v. Ok (Some (x.0, v)))) (Ok c) → MayClear g c w
      by (Ok v) is e' = let same : ◌≡◌ {A = Option (NodeId × BitVector)} (Some (x.0, v)) c = cc in subst (λ y. MayClear g y w) same (may, value_is x.1 v is)
      by (Err kind) is e' = absurd cc

  with_init : (c : Option (NodeId × BitVector)) → MayHaveWidth g en 1 → MayClear g c w → (r : Result BitVector FaultKind) → init_in w first ≡ r
      → go_on (given r g) (row n en c) ≡ Ok (h, id) → Drawn g h id
  with_init c we wc (Ok init) is e = one_more below g h w (node.Reg n en c init) id l (width_is g n l there) (has_its_width g n there, we, wc, init_is first init is) refl e
  with_init c we wc (Err kind) is e = absurd cc

  with_clear : MayHaveWidth g en 1 → MayHaveWidth g (clear_node cl) 1 → (r : Result (Option (NodeId × BitVector)) FaultKind) → clear_in w cl ≡ r
      → go_on (given r g) (λ c. given (init_in w first) >>= (λ init. row n en c init)) ≡ Ok (h, id) → Drawn g h id
  with_clear we wc (Ok c) is e = with_init c we (clear_is cl c wc is) (init_in w first) refl e
  with_clear we wc (Err kind) is e = absurd cc

  pub formed_register : register n en cl first g ≡ Ok (h, id) → Drawn g h id
  formed_register e = by (reg_rule (option_map (width_at g) en) (option_map (width_at g) (clear_node cl))) refl e
    where
      by : (o : Option FaultKind) → reg_rule (option_map (width_at g) en) (option_map (width_at g) (clear_node cl)) ≡ o
          → go_on (unless o (g, tt {0})) (λ x. width n >>= (λ v. given (clear_in v cl) >>= (λ c. given (init_in v first) >>= (λ init. row n en c init)))) ≡ Ok (h, id) → Drawn g h id
      by None holds e' =
          let parts : _ = and_parts (is_bit (option_map (width_at g) en)) (is_bit (option_map (width_at g) (clear_node cl)))
          (test_holds fault.WidthMismatch (is_bit (option_map (width_at g) en) && is_bit (option_map (width_at g) (clear_node cl))) holds) in
          with_clear (bit_wide g en me parts.0) (bit_wide g (clear_node cl) mc parts.1) (clear_in w cl) refl e'
      by (Some kind) holds e' = absurd cc
