-- A call whose rules hold makes a lawful row.
use Rattle.std.proofs.Common.{◌≡◌, ℕ, zero, suc, ◌+◌, ◌<◌, ◌≤◌, ◌^◌, Bool, true, false, ◌==◌, nat_le, List, [], ◌∷◌, length, refl, sym, subst, ap, arith}
use Rattle.std.specs.Prelude.{slice_get, sum, Option, Some, None}
use Rattle.std.specs.List.{list_all}
use Rattle.std.proofs.lemmas.Bool.{eqb-true, leb-true, and_parts}
use Rattle.std.proofs.lemmas.List.{length-map}
use Rattle.hc_fault.specs.declared.fault.FaultKind.{FaultKind}
use Rattle.hc_fault.specs.declared.fault.FaultKind.TheVariants as fault
use Rattle.hc_signal.specs.Member.{first, later}
use Rattle.hc_signal.specs.declared.signal.NodeId.{NodeId}
use Rattle.hc_signal.specs.declared.signal.Op2.{Op2}
use Rattle.hc_signal.specs.declared.signal.Op2.TheVariants.{Add, Sub, Mulu, Muls, And, Or, Xor, Eq, Lt}
use Rattle.hc_signal.specs.declared.signal.Node.TheVariants.{Two, Mux, Cat, Op}
use Rattle.hc_bits.specs.BitVector.{IsWidth}
use Rattle.hc_bits.specs.declared.kind.OpKind.{OpKind}
use Rattle.hc_bits.specs.declared.kind.OpKind.TheVariants.{Popcount, Clz, Rev, Min, Max, SatAdd}
use Rattle.hc_bits.specs.Catalogue.{arity, result_width, bits_of}
use Rattle.hc_signal.specs.Graph.{Graph}
use Rattle.hc_signal.specs.Lawful.{IsLawfulNode, HasWidth, AllHaveWidth, HaveWidths, FitsTwo}
use Rattle.hc_signal.specs.Rules.{rule, first_broken, two_rule, two_width, first_width, are_equal, mux_rule}
use Rattle.hc_signal.specs.Builds.{IsNode, AreNodes, width_at, widths_at, row_width}

-- a rule that is not broken tells its test
pub test_holds : (kind : FaultKind) (b : Bool) → rule kind b ≡ None → b ≡ true
test_holds kind true e = refl
test_holds kind false e = cc

pub some_at : {X : Type 0} (xs : List X) (n : ℕ) → n < length xs → (x : X) × (slice_get xs n ≡ Some x)
some_at [] n b = absurd (omega arith)
some_at (x ∷ xs) zero b = (x, refl)
some_at (x ∷ xs) (suc n) b = some_at xs n (omega arith)

-- a node has its width
pub has_its_width : (g : Graph) (id : NodeId) → IsNode g id → HasWidth g id (width_at g id)
has_its_width g id b = let r : _ = some_at g.nodes id.0 b in (r.0, r.1, sym (ap row_width r.1))

pub two_fits : (op : Op2) (v w : ℕ) → IsWidth v → IsWidth w → two_rule op v w ≡ None → FitsTwo op v w (two_width op v w) × IsWidth (two_width op v w)
two_fits Mulu v w a b e = let t : _ = leb-true (v + w) 128 (test_holds _ _ e) in (refl, (omega arith, omega arith))
two_fits Muls v w a b e = let t : _ = leb-true (v + w) 128 (test_holds _ _ e) in (refl, (omega arith, omega arith))
two_fits Eq v w a b e = ((eqb-true v w (test_holds _ _ e), refl), (omega arith, omega arith))
two_fits Lt v w a b e = ((eqb-true v w (test_holds _ _ e), refl), (omega arith, omega arith))
two_fits Add v w a b e = ((eqb-true v w (test_holds _ _ e), refl), a)
two_fits Sub v w a b e = ((eqb-true v w (test_holds _ _ e), refl), a)
two_fits And v w a b e = ((eqb-true v w (test_holds _ _ e), refl), a)
two_fits Or v w a b e = ((eqb-true v w (test_holds _ _ e), refl), a)
two_fits Xor v w a b e = ((eqb-true v w (test_holds _ _ e), refl), a)

pub two_follows : (g : Graph) (op : Op2) (a b : NodeId) (v u w : ℕ) → IsNode g a → IsNode g b → v ≡ width_at g a → IsWidth v → u ≡ width_at g b → IsWidth u
    → w ≡ two_width op v u → two_rule op v u ≡ None
    → IsWidth w × IsLawfulNode g w (Two op a b)
two_follows g op a b v u w na nb va wa vb wb e r =
    let f : _ = two_fits op v u wa wb r in
    let has_a : HasWidth g a v = subst (λ n. HasWidth g a n) (sym va) (has_its_width g a na) in
    let has_b : HasWidth g b u = subst (λ n. HasWidth g b n) (sym vb) (has_its_width g b nb) in
    subst (λ n. IsWidth n × IsLawfulNode g n (Two op a b)) (sym e) (f.1, (v, u, has_a, has_b, f.0))

-- ---- lists of nodes

-- where a test of the widths holds, each node has the width
pub all_have : (g : Graph) (ids : List NodeId) (w : ℕ) → AreNodes g ids → list_all (λ v. v == w) (widths_at g ids) ≡ true → AllHaveWidth g ids w
all_have g [] w are e id k = elim k [ ]
all_have g (x ∷ ids) w are e id first =
    let t : _ = and_parts (width_at g x == w) (list_all (λ v. v == w) (widths_at g ids)) e in
    subst (λ n. HasWidth g x n) (eqb-true (width_at g x) w t.0) (has_its_width g x (are x first))
all_have g (x ∷ ids) w are e id (later k) =
    let t : _ = and_parts (width_at g x == w) (list_all (λ v. v == w) (widths_at g ids)) e in
    all_have g ids w (λ y m. are y (later m)) t.1 id k

pub have_their_widths : (g : Graph) (ids : List NodeId) → AreNodes g ids → HaveWidths g ids (widths_at g ids)
have_their_widths g [] are = tt
have_their_widths g (x ∷ ids) are = (has_its_width g x (are x first), have_their_widths g ids (λ y m. are y (later m)))

pub first_holds : (a b : Option FaultKind) → first_broken a b ≡ None → (a ≡ None) × (b ≡ None)
first_holds None b e = (refl, e)
first_holds (Some k) b e = cc

pub mux_follows : (g : Graph) (sel : NodeId) (cases : List NodeId) (w : ℕ) → IsNode g sel → AreNodes g cases → 2 ≤ length cases → w ≡ first_width (widths_at g cases)
    → mux_rule (width_at g sel) (widths_at g cases) ≡ None → IsLawfulNode g w (Mux sel cases)
mux_follows g sel cases w node are some e r =
    let ws : List ℕ = widths_at g cases in
    let parts : _ = first_holds (rule fault.WidthMismatch (are_equal ws)) (rule fault.MuxCount (nat_le (length ws) (2 ^ width_at g sel))) r in
    let equal : _ = test_holds _ _ parts.0 in
    let few : _ = leb-true (length ws) (2 ^ width_at g sel) (test_holds _ _ parts.1) in
    let many : length ws ≡ length cases = length-map cases (width_at g) in
    (width_at g sel, has_its_width g sel node, some, omega arith, subst (λ n. AllHaveWidth g cases n) (sym e) (all_have g cases (first_width ws) are equal))

pub cat_follows : (g : Graph) (parts : List NodeId) (w : ℕ) → AreNodes g parts → 2 ≤ length parts → w ≡ sum (widths_at g parts) → IsLawfulNode g w (Cat parts)
cat_follows g parts w are some e = (widths_at g parts, some, have_their_widths g parts are, e)

-- results have a width
bits_of_width : (w : ℕ) → IsWidth w → IsWidth (bits_of w)
bits_of_width w b = (omega arith, omega arith)

pub result_has_width : (kind : OpKind) (w : ℕ) → IsWidth w → IsWidth (result_width kind w)
result_has_width Popcount w b = bits_of_width w b
result_has_width Clz w b = bits_of_width w b
result_has_width Rev w b = b
result_has_width Min w b = b
result_has_width Max w b = b
result_has_width SatAdd w b = b

pub takes_some : (kind : OpKind) → 1 ≤ arity kind
takes_some Popcount = omega arith
takes_some Clz = omega arith
takes_some Rev = omega arith
takes_some Min = omega arith
takes_some Max = omega arith
takes_some SatAdd = omega arith

pub op_follows : (g : Graph) (kind : OpKind) (args : List NodeId) (w : ℕ) → AreNodes g args → length args ≡ arity kind → list_all (λ v. v == w) (widths_at g args) ≡ true
    → IsLawfulNode g (result_width kind w) (Op kind args)
op_follows g kind args w are many equal = (w, many, all_have g args w are equal, refl)
