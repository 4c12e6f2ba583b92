-- Lists of names: the name in a list, and names that are taken one after another.
use Rattle.std.proofs.Common.{◌≡◌, ℕ, Bool, true, false, if◌then◌else◌, ◌==◌, List, [], ◌∷◌, ◌++◌, map, refl, sym, ap, ap₂, subst, ◌∙◌, append_assoc, append-nil, true≢false, eq-eqb, eqb-true, ◌⊎◌, inl, inr}
use Rattle.hc_signal.specs.Member.{Has, first, later}
use Rattle.hc_signal.specs.Graph.{Vertex, node, mem, inst}
use Rattle.hc_names.specs.Mangling.{IsMangled}
use Rattle.hc_names.proofs.Mangled.{mangled_single}
use Rattle.hc_naming.specs.ModuleNames.{Named, clock, vertex, cell, same_vertex, same_named, Wants, Takes, name_in}

abbrev pub Given : Type 0
Given = Named × List ℕ

abbrev pub keys : Wants → List Named
keys ws = map (λ (w : Given). w.0) ws

abbrev pub names_of : List Given → List (List ℕ)
names_of gs = map (λ (g : Given). g.1) gs

-- ---- the test of two keys

same_number : (n : ℕ) → (n == n) ≡ true
same_number n = eq-eqb n n refl

pub same_named_itself : (a : Named) → same_named a a ≡ true
same_named_itself clock = refl
same_named_itself (vertex (node n)) = same_number n
same_named_itself (vertex (mem m)) = same_number m
same_named_itself (vertex (inst i)) = same_number i
same_named_itself (cell n) = same_number n

no_truth : {P : Type 0} → false ≡ true → P
no_truth e = absurd (true≢false (sym e))

same_vertex_equal : (p q : Vertex) → same_vertex p q ≡ true → p ≡ q
same_vertex_equal (node a) (node b) e = ap node (eqb-true a b e)
same_vertex_equal (mem a) (mem b) e = ap mem (eqb-true a b e)
same_vertex_equal (inst a) (inst b) e = ap inst (eqb-true a b e)
same_vertex_equal (node a) (mem b) e = no_truth e
same_vertex_equal (node a) (inst b) e = no_truth e
same_vertex_equal (mem a) (node b) e = no_truth e
same_vertex_equal (mem a) (inst b) e = no_truth e
same_vertex_equal (inst a) (node b) e = no_truth e
same_vertex_equal (inst a) (mem b) e = no_truth e

pub same_named_equal : (a b : Named) → same_named a b ≡ true → a ≡ b
same_named_equal clock clock e = refl
same_named_equal (vertex p) (vertex q) e = ap vertex (same_vertex_equal p q e)
same_named_equal (cell a) (cell b) e = ap cell (eqb-true a b e)
same_named_equal clock (vertex q) e = no_truth e
same_named_equal clock (cell b) e = no_truth e
same_named_equal (vertex p) clock e = no_truth e
same_named_equal (vertex p) (cell b) e = no_truth e
same_named_equal (cell a) clock e = no_truth e
same_named_equal (cell a) (vertex q) e = no_truth e

-- ---- the name in a list

-- a test passes or not
pub choice : (b : Bool) → (b ≡ true) ⊎ (b ≡ false)
choice true = inl refl
choice false = inr refl

-- the name of what was named last
pub name_in_last : (gs : List Given) (it : Named) (name : List ℕ) → ¬ Has (keys gs) it → name_in (gs ++ (it, name) ∷ []) it ≡ name
name_in_last [] it name new = rw (same_named_itself it) refl
name_in_last (g ∷ gs) it name new =
    elim (choice (same_named g.0 it)) [
      | inl e ↦ absurd (new (subst (λ k. Has (g.0 ∷ keys gs) k) (same_named_equal g.0 it e) first))
      | inr e ↦ rw e (name_in_last gs it name (λ h. new (later h)))
    ]

-- the others keep their names
pub name_in_other : (gs : List Given) (it other : Named) (name : List ℕ) → same_named it other ≡ false → name_in (gs ++ (it, name) ∷ []) other ≡ name_in gs other
name_in_other [] it other name e = rw e refl
name_in_other (g ∷ gs) it other name e = ap (λ r. if same_named g.0 other then g.1 else r) (name_in_other gs it other name e)

-- ---- names that are taken

pub takes_keys : (used : List (List ℕ)) (done : Wants) (given : List Given) → Takes used done given → keys given ≡ keys done
takes_keys used [] [] t = refl
takes_keys used (w ∷ ws) (g ∷ gs) t = ap (λ (k : Named). k ∷ keys gs) t.0 ∙ ap (λ ks. w.0 ∷ ks) (takes_keys (used ++ g.1 ∷ []) ws gs t.2)
takes_keys used [] (g ∷ gs) t = absurd t
takes_keys used (w ∷ ws) [] t = absurd t

pub takes_more : (used : List (List ℕ)) (done : Wants) (given : List Given) (it : Named) (want name : List ℕ) → Takes used done given
    → IsMangled want (used ++ names_of given) name → Takes used (done ++ (it, want) ∷ []) (given ++ (it, name) ∷ [])
takes_more used [] [] it want name t m = (refl, subst (λ u. IsMangled want u name) (append-nil used) m, tt)
takes_more used (w ∷ ws) (g ∷ gs) it want name t m = (
  t.0,
  t.1,
  takes_more (used ++ g.1 ∷ []) ws gs it want name t.2
      (subst (λ u. IsMangled want u name) (sym (append_assoc used (g.1 ∷ []) (names_of gs))) m),
)
takes_more used [] (g ∷ gs) it want name t m = absurd t
takes_more used (w ∷ ws) [] it want name t m = absurd t

-- names are taken in one way
pub takes_single : (used : List (List ℕ)) (ws : Wants) (a b : List Given) → Takes used ws a → Takes used ws b → a ≡ b
takes_single used [] [] [] x y = refl
takes_single used (w ∷ ws) (g ∷ gs) (h ∷ hs) x y =
    let name : g.1 ≡ h.1 = mangled_single w.1 used g.1 h.1 x.1 y.1 in
    let same : g ≡ h = ap₂ {C = Given} (λ k n. (k, n)) (x.0 ∙ sym y.0) name in
    ap₂ (λ p ps. p ∷ ps) same (takes_single (used ++ g.1 ∷ []) ws gs hs x.2 (subst (λ (n : List ℕ). Takes (used ++ n ∷ []) ws hs) (sym name) y.2))
takes_single used [] [] (h ∷ hs) x y = absurd y
takes_single used [] (g ∷ gs) b x y = absurd x
takes_single used (w ∷ ws) [] b x y = absurd x
takes_single used (w ∷ ws) (g ∷ gs) [] x y = absurd y
