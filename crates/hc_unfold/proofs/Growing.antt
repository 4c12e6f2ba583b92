-- A graph that nodes are added to.
use Rattle.std.proofs.Common.{◌≡◌, ℕ, zero, suc, List, [], ◌∷◌, ◌++◌, refl, sym, subst, ◌∙◌, arith, length-append}
use Rattle.std.specs.Prelude.{Some, slice_get}
use Rattle.hc_signal.specs.declared.signal.NodeRow.{NodeRow}
use Rattle.hc_signal.specs.Graph.{Graph}
use Rattle.hc_signal.specs.Builds.{with_row}
use Rattle.hc_unfold.specs.Gives.{Grows}

got_longer : {A : Type 0} (xs ys : List A) (k : ℕ) (x : A) → slice_get xs k ≡ Some x → slice_get (xs ++ ys) k ≡ Some x
got_longer [] ys k x e = absurd cc
got_longer (y ∷ xs) ys zero x e = e
got_longer (y ∷ xs) ys (suc k) x e = got_longer xs ys k x e

pub grows_none : (g : Graph) → Grows g g
grows_none g = record { nodes = omega arith; rows = λ n row at. at; memories = refl; instances = refl }

with_row_grows : (g : Graph) (row : NodeRow) → Grows g (with_row g row)
with_row_grows g row = record {
  nodes = let l = length-append g.nodes (row ∷ []) in omega (arith, l);
  rows = λ n r at. got_longer g.nodes (row ∷ []) n r at;
  memories = refl;
  instances = refl;
}

pub row_added : (g new : Graph) (row : NodeRow) → new ≡ with_row g row → Grows g new
row_added g new row e = subst (λ (h : Graph). Grows g h) (sym e) (with_row_grows g row)

pub grows_on : (g h k : Graph) → Grows g h → Grows h k → Grows g k
grows_on g h k one two = record {
  nodes = let a = one.nodes in let b = two.nodes in omega (arith, a, b);
  rows = λ n row at. two.rows n row (one.rows n row at);
  memories = two.memories ∙ one.memories;
  instances = two.instances ∙ one.instances;
}
