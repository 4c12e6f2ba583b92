-- Trees that are the same reach the same trees, and have the same text.
use Rattle.std.proofs.Common.{◌≡◌, ℕ, ◌<◌, List, [], ◌∷◌, length, refl, sym, ap, subst, ◌∙◌, map-id}
use Rattle.std.specs.Prelude.{slice_get}
use Rattle.hc_bits.specs.Digits.{lines_text}
use Rattle.hc_signal.specs.Graph.{Graph, inst, Reached}
use Rattle.hc_signal.specs.Tree.{Tree, none, tree, graph, kid, empty}
use Rattle.hc_signal.specs.Occurrences.{IsReachedPath, tree_at, graph_at}
use Rattle.hc_signal.specs.Renumber.{Renumbering, renumber}
use Rattle.hc_canon.specs.Same.{IsIsomorphism, Same}
use Rattle.hc_canon.proofs.Renumbered.{same_numbers, row_same, memory_same, instance_same, renumber_same, then, number}
use Rattle.hc_canon.proofs.Isomorphisms.{reached_to, isomorphism_then, isomorphism_back, same-sym, same-trans}
use Rattle.hc_canon.proofs.Canonical.{reached_inst}
use Rattle.hc_naming.specs.ModuleNames.{name_in}
use Rattle.hc_verilog.specs.Templates.{module_lines}
use Rattle.hc_verilog.specs.ModuleText.{IsModuleText, IsTreeText}
use Rattle.hc_verilog.proofs.Single.{module_text_single}
use Rattle.hc_modules.specs.VerilogText.{TopReaches}

-- a graph is isomorphic to itself
pub isomorphism_same : (g : Graph) → IsIsomorphism same_numbers same_numbers g g
isomorphism_same g = record {
  ports = refl;
  outputs = sym (map-id g.outputs);
  one_to_one = λ p h. ap (renumber same_numbers) (renumber_same p) ∙ renumber_same p;
  nodes = λ n h. row_same (slice_get g.nodes n);
  memories = λ n h. memory_same (slice_get g.memories n);
  instances = λ n h. instance_same (slice_get g.instances n);
}

-- the graphs of two trees are isomorphic, and paired instances have the same trees
abbrev pub ArePaired : Tree → Tree → Type 0
ArePaired s t = (to : Renumbering) × (back : Renumbering) × IsIsomorphism to back (graph s) (graph t) × ((i : ℕ) → Reached (graph s) (inst i) → Same (kid s i) (kid t (to.inst i)))

pub same_paired : (s t : Tree) → Same s t → ArePaired s t
same_paired none none e = (same_numbers, same_numbers, isomorphism_same empty, λ i r. tt)
same_paired none (tree h others) e = absurd e
same_paired (tree g kids) none e = absurd e
same_paired (tree g kids) (tree h others) e = e

-- a reached instance of the second tree comes from one of the first
pub comes_from : (s t : Tree) (p : ArePaired s t) (i : ℕ) → Reached (graph t) (inst i) → Reached (graph s) (inst (p.1.inst i)) × Same (kid s (p.1.inst i)) (kid t i)
comes_from s t p i r =
    let home : IsIsomorphism p.1 p.0 (graph t) (graph s) = isomorphism_back p.0 p.1 (graph s) (graph t) p.2 in
    let there : Reached (graph s) (inst (p.1.inst i)) = reached_to p.1 p.0 (graph t) (graph s) home r in
    (there, subst (λ k. Same (kid s (p.1.inst i)) (kid t k)) (ap number (home.one_to_one (inst i) r)) (p.3 (p.1.inst i) there))

pub path_along : (s t : Tree) → Same s t → (path : List ℕ) → IsReachedPath s path → (other : List ℕ) × IsReachedPath t other × Same (tree_at s path) (tree_at t other)
path_along s t e [] r = ([], tt, e)
path_along s t e (i ∷ path) r =
    let p = path_along s t e path r.0 in
    let q = same_paired (tree_at s path) (tree_at t p.0) p.2 in
    (q.0.inst i ∷ p.0, (p.1, reached_to q.0 q.1 (graph_at s path) (graph_at t p.0) q.2 r.1), q.3 i r.1)

pub reaches_along : (s t a b : Tree) → Same s t → Same a b → TopReaches s a → TopReaches t b
reaches_along s t a b e f (path, r, h) =
    let p = path_along s t e path r in
    let back : Same (tree_at t p.0) (tree_at s path) = same-sym (tree_at s path) (tree_at t p.0) p.2 in
    (p.0, p.1, same-trans (tree_at t p.0) (tree_at s path) b back (same-trans (tree_at s path) a b h f))

-- modules that agree on the instances give one text
module_text_agrees : (g : Graph) (a b : ℕ → List ℕ) (title text : List ℕ) → ((k : ℕ) → k < length g.instances → a k ≡ b k) → IsModuleText g a title text → IsModuleText g b title text
module_text_agrees g a b title text agrees x =
    (x.0, x.1, module_text_single g a b title text (lines_text (module_lines (name_in x.0) g b title)) agrees x (x.0, x.1, refl))

pub tree_text_along : (s t : Tree) (p : ArePaired s t) (modules : ℕ → List ℕ) (title text : List ℕ) → IsTreeText s modules title text → IsTreeText t (λ i. modules (p.1.inst i)) title text
tree_text_along s t p modules title text (g, into, home, canonical, e, x) = (
  g,
  then p.1 into,
  then home p.0,
  canonical,
  isomorphism_then p.1 p.0 into home (graph t) (graph s) g (isomorphism_back p.0 p.1 (graph s) (graph t) p.2) e,
  module_text_agrees g (λ i. modules (home.inst i)) (λ i. modules (p.1.inst (p.0.inst (home.inst i)))) title text agrees x,
)
  where
    agrees : (k : ℕ) → k < length g.instances → modules (home.inst k) ≡ modules (p.1.inst (p.0.inst (home.inst k)))
    agrees k lt =
        let r : Reached (graph s) (inst (home.inst k)) = reached_to home into g (graph s) (isomorphism_back into home (graph s) g e) (reached_inst g canonical k lt) in
        ap modules (sym (ap number (p.2.one_to_one (inst (home.inst k)) r)))
