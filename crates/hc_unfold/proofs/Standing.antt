-- The one node of an output of an instance is the one that is found.
use Rattle.std.proofs.Common.{◌≡◌, ℕ, zero, suc, ◌+◌, ◌<◌, ◌==◌, ◌&&◌, length, Bool, true, false, cond, List, [], ◌∷◌, refl, sym, ap, subst, ◌∙◌, arith}
use Rattle.std.specs.Prelude.{Option, Some, Ok, slice_get}
use Rattle.std.proofs.lemmas.Option.{slice_get_within}
use Rattle.hc_signal.specs.declared.signal.NodeId.{NodeId}
use Rattle.hc_signal.specs.declared.signal.InstId.{InstId}
use Rattle.hc_signal.specs.declared.signal.Node.{Node}
use Rattle.hc_signal.specs.declared.signal.Node.TheVariants.{Input, Wire, Const, Two, Not, Mux, Cat, Select, Reg, Read, InstOut, Op}
use Rattle.hc_signal.specs.declared.signal.NodeRow.{NodeRow}
use Rattle.hc_signal.specs.Graph.{Graph}
use Rattle.hc_signal.specs.Lawful.{IsLawful, NodeAt}
use Rattle.hc_fault.specs.declared.fault.FaultKind.TheVariants.{UnknownPort}
use Rattle.hc_signal.specs.declared.signal.Instance.{Instance}
use Rattle.hc_unfold.specs.Drawing.{found}
use Rattle.hc_unfold.specs.Outputs.{stands_for, output_from, output_node, output_place, port_place, instance_output}

same_output : (i j : InstId) (p q : ℕ) → ((j.0 == i.0) && (q == p)) ≡ true → InstOut j q ≡ InstOut i p
same_output i j p q e = both_eq i j p q (grind arith) (grind arith)
  where
    both_eq : (i j : InstId) (p q : ℕ) → j.0 ≡ i.0 → q ≡ p → InstOut j q ≡ InstOut i p
    both_eq i j p q e f = λ k. InstOut (record { 0 = e k }) (f k)

-- what stands for an output is its node
stands : (i : InstId) (p : ℕ) (x : Node) → stands_for i p x ≡ true → x ≡ InstOut i p
stands i p (InstOut j q) e = same_output i j p q e
stands i p (Input port) e = absurd cc
stands i p (Wire driver) e = absurd cc
stands i p (Const value) e = absurd cc
stands i p (Two op a b) e = absurd cc
stands i p (Not a) e = absurd cc
stands i p (Mux sel cases) e = absurd cc
stands i p (Cat parts) e = absurd cc
stands i p (Select a hi lo) e = absurd cc
stands i p (Reg next enable clear init) e = absurd cc
stands i p (Read m addr) e = absurd cc
stands i p (Op kind args) e = absurd cc

itself : (i : InstId) (p : ℕ) → stands_for i p (InstOut i p) ≡ true
itself i p = grind arith

numbered : (a b : ℕ) → a ≡ b → ◌≡◌ {A = Option NodeId} (Some (record { 0 = a })) (Some (record { 0 = b }))
numbered a b e = λ j. Some (record { 0 = e j })

suc_is : (m k : ℕ) → suc m ≡ suc k → m ≡ k
suc_is m k e = omega (arith, e)

abbrev Alone : InstId → ℕ → List NodeRow → ℕ → Type 0
Alone i p rows k = (m : ℕ) (r : NodeRow) → slice_get rows m ≡ Some r → r.node ≡ InstOut i p → m ≡ k

first_stands : (i : InstId) (p : ℕ) (r row : NodeRow) → stands_for i p r.node ≡ false → ◌≡◌ {A = Option NodeRow} (Some r) (Some row) → row.node ≡ InstOut i p → ⊥
first_stands i p r row f at is =
    let same : r ≡ row = cc in
    let yes : stands_for i p r.node ≡ true = subst (λ (x : Node). stands_for i p x ≡ true) (sym (ap (λ (s : NodeRow). s.node) same ∙ is)) (itself i p) in
    cc

found_from : (n : ℕ) (i : InstId) (p : ℕ) (rows : List NodeRow) (k : ℕ) (row : NodeRow) → slice_get rows k ≡ Some row → row.node ≡ InstOut i p → Alone i p rows k
    → output_from n i p rows ≡ Some (record { 0 = n + k })
found_from n i p [] k row at is only = absurd cc
found_from n i p (r ∷ rows) k row at is only = by (stands_for i p r.node) refl k at only (λ j there alone. found_from (n + 1) i p rows j row there is alone)
  where
    by : (b : Bool) → stands_for i p r.node ≡ b → (k : ℕ) → slice_get (r ∷ rows) k ≡ Some row → Alone i p (r ∷ rows) k
        → ((j : ℕ) → slice_get rows j ≡ Some row → Alone i p rows j → output_from (n + 1) i p rows ≡ Some (record { 0 = n + 1 + j }))
        → cond b (Some (record { 0 = n })) (output_from (n + 1) i p rows) ≡ Some (record { 0 = n + k })
    by true e k at only more = let zeroth : 0 ≡ k = only 0 r refl (stands i p r.node e) in numbered n (n + k) (omega (arith, zeroth))
    by false e zero at only more = absurd (first_stands i p r row e at is)
    by false e (suc k) at only more = more k at (λ m s there was. suc_is m k (only (suc m) s there was)) ∙ numbered (n + 1 + k) (n + suc k) (omega arith)

pub output_found : (g : Graph) (i : InstId) (p : ℕ) (id : NodeId) → IsLawful g → NodeAt g id.0 (InstOut i p) → output_node g i (Some p) ≡ Some id
output_found g i p id lawful (row, at, is) =
    found_from 0 i p g.nodes id.0 row at is (λ m r there was. lawful.one_output m id.0 p i (r, there, was) (row, at, is))
    ∙ numbered (0 + id.0) id.0 (omega arith)

pub output_is_node : (g : Graph) (n : ℕ) (x : Node) → NodeAt g n x → n < length g.nodes
output_is_node g n x (row, at, is) = slice_get_within g.nodes n row at

pub output_is : (g : Graph) (i : InstId) (name : List ℕ) (it : Instance) (place port : ℕ) (id : NodeId) → slice_get g.instances i.0 ≡ Some it
    → port_place name it.ports.outputs ≡ Some place → port ≡ place → IsLawful g → NodeAt g id.0 (InstOut i port) → instance_output i name g ≡ Ok id
output_is g i name it place port id row named same lawful at =
    ap (λ (o : Option Instance). found UnknownPort (output_node g i (output_place name o))) row
    ∙ ap (λ (o : Option ℕ). found UnknownPort (output_node g i o)) named
    ∙ ap (λ (p : ℕ). found UnknownPort (output_node g i (Some p))) (sym same)
    ∙ ap (λ (o : Option NodeId). found UnknownPort o) (output_found g i port id lawful at)
