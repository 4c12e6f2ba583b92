-- Loops and masks of a tree from those of its circuit, where the masks are those of its instances.
use Rattle.std.proofs.Common.{◌≡◌, ℕ, zero, suc, ◌<◌, ◌↔◌, List, [], ◌∷◌, map, length, refl, sym, subst, ◌∙◌, ap, arith}
use Rattle.std.specs.Prelude.{slice_get, Option, Some, None, IsBitSet}
use Rattle.std.proofs.lemmas.Option.{slice_get_within}
use Rattle.std.proofs.lemmas.List.{length-map}
use Rattle.hc_signal.specs.declared.signal.NodeId.{NodeId}
use Rattle.hc_signal.specs.declared.signal.NodeRow.{NodeRow}
use Rattle.hc_signal.specs.declared.signal.Port.{Port}
use Rattle.hc_signal.specs.declared.signal.Instance.{Instance}
use Rattle.hc_signal.specs.declared.signal.Node.{Node}
use Rattle.hc_signal.specs.declared.signal.Node.TheVariants.{InstOut}
use Rattle.hc_signal.specs.Graph.{Graph}
use Rattle.hc_signal.specs.Lawful.{IsLawful, IsLawfulNode, HaveWidths}
use Rattle.hc_signal.specs.Tree.{Tree, tree, none, leaf, graph, kid}
use Rattle.hc_signal.specs.Occurrences.{HasCombLoop, DependsOn, IsMask, AreMasks}
use Rattle.hc_paths.specs.Local.{mask_in, mask_at, HasLocalLoop, DependsLocally, AreLocalMasks, AreMasksOfKids}
use Rattle.hc_paths.proofs.Composed.{HaveMasks, AreRight, local_from_loop, loop_from_local, depends_locally, depends_whole}

mask_list : (masks : List (List ℕ)) (i port mask : ℕ) (o : Option (List ℕ)) → slice_get masks i ≡ o → mask_in o port ≡ Some mask → (list : List ℕ) × (slice_get masks i ≡ Some list) × (slice_get list port ≡ Some mask)
mask_list masks i port mask None f q = cc
mask_list masks i port mask (Some list) f q = (list, f, q)

some_at : {X : Type 0} (xs : List X) (i : ℕ) → i < length xs → (x : X) × (slice_get xs i ≡ Some x)
some_at [] i h = absurd (omega (arith, h))
some_at (x ∷ xs) zero h = (x, refl)
some_at (x ∷ xs) (suc i) h = some_at xs i (omega (arith, h))

many_widths : (g : Graph) (ids : List NodeId) (ws : List ℕ) → HaveWidths g ids ws → length ids ≡ length ws
many_widths g [] [] h = refl
many_widths g [] (w ∷ ws) h = absurd h
many_widths g (id ∷ ids) [] h = absurd h
many_widths g (id ∷ ids) (w ∷ ws) h = ap suc (many_widths g ids ws h.1)

-- an output wire for each output port
pub many_outputs : (g : Graph) → IsLawful g → length g.outputs ≡ length g.ports.outputs
many_outputs g l = many_widths g g.outputs (map (λ (p : Port). p.width) g.ports.outputs) l.outputs ∙ length-map _ _

module _ (t : Tree) (masks : List (List ℕ)) (l : IsLawful (graph t)) (a : AreMasksOfKids t masks) where
  are_right : AreRight t masks
  are_right i port mask e =
      let m : (list : List ℕ) × (slice_get masks i ≡ Some list) × (slice_get list port ≡ Some mask) = mask_list masks i port mask (slice_get masks i) refl e in
      (a.right i m.0 m.1).each port mask m.2

  have_masks : HaveMasks t masks
  have_masks n i port id y o =
      let w : IsLawfulNode (graph t) y.0.width (InstOut (record { 0 = i }) port) = subst (λ x. IsLawfulNode (graph t) y.0.width x) y.2 (l.nodes n y.0 y.1).1 in
      let k : i < length (graph t).instances = slice_get_within (graph t).instances i w.0 w.2 in
      let c : length masks ≡ length (graph t).instances = a.many in
      let p : (list : List ℕ) × (slice_get masks i ≡ Some list) = some_at masks i (omega (arith, k, c)) in
      let m : AreMasks (kid t i) p.0 = a.right i p.0 p.1 in
      let s : length p.0 ≡ length w.0.ports.outputs = m.many ∙ ap (λ z. length z.outputs) (a.ports i w.0 w.2) in
      let b : port < length w.0.ports.outputs = slice_get_within w.0.ports.outputs port w.1 w.3 in
      let q : (mask : ℕ) × (slice_get p.0 port ≡ Some mask) = some_at p.0 port (omega (arith, s, b)) in
      (q.0, ap (λ z. mask_in z port) p.1 ∙ q.1, m.each port q.0 q.1)

  pub loop_whole : HasLocalLoop (graph t) masks → HasCombLoop t
  loop_whole x = loop_from_local t masks are_right x

  pub loop_local : HasCombLoop t → HasLocalLoop (graph t) masks
  loop_local x = local_from_loop t masks l have_masks a.free x

  pub depends_alike : (output input : ℕ) → DependsOn t output input ↔ DependsLocally (graph t) masks output input
  depends_alike output input = (depends_locally t masks have_masks output input, depends_whole t masks are_right output input)

  pub masks_whole : (list : List ℕ) → AreLocalMasks (graph t) masks list → AreMasks t list
  masks_whole list m = record {
    many = m.many;
    each = λ out mask e k. (
      λ h. (depends_alike out k).1 ((m.each out mask e k).0 h),
      λ d. (m.each out mask e k).1 ((depends_alike out k).0 d),
    );
  }

-- a circuit without instances
pub no_kids : (g : Graph) → g.instances ≡ [] → AreMasksOfKids (leaf g) []
no_kids g e = record {
  many = sym (ap length e);
  ports = λ i it f. absurd (no_instance i it f);
  free = λ i it f. absurd (no_instance i it f);
  right = λ i list f. absurd (no_list i list f);
}
  where
    nothing_at : {X : Type 0} (i : ℕ) → slice_get {X = X} [] i ≡ None
    nothing_at i = refl

    no_instance : (i : ℕ) (it : Instance) → slice_get g.instances i ≡ Some it → ⊥
    no_instance i it f = let h : None ≡ Some it = sym (ap (λ l. slice_get l i) e ∙ nothing_at i) ∙ f in cc

    no_list : (i : ℕ) (list : List ℕ) → slice_get [] i ≡ Some list → ⊥
    no_list i list f = let h : None ≡ Some list = sym (nothing_at i) ∙ f in cc
