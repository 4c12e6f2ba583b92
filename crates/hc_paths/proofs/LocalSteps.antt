-- The steps of one circuit are those to what its nodes are computed from.
use Rattle.std.proofs.Common.{◌≡◌, ℕ, ◌<◌, ◌↔◌, List, [], ◌∷◌, refl, sym, subst, ◌∙◌, ap}
use Rattle.std.specs.Prelude.{slice_get, Option, Some, None, length, IsBitSet}
use Rattle.std.proofs.lemmas.Option.{slice_get_within}
use Rattle.hc_signal.specs.Member.{Has, first, later}
use Rattle.hc_signal.specs.declared.signal.NodeId.{NodeId}
use Rattle.hc_signal.specs.declared.signal.NodeRow.{NodeRow}
use Rattle.hc_signal.specs.declared.signal.Instance.{Instance}
use Rattle.hc_signal.specs.declared.signal.Node.{Node}
use Rattle.hc_signal.specs.declared.signal.Node.TheVariants.{Input, Wire, Const, Two, Not, Mux, Cat, Select, Reg, Read, InstOut, Op}
use Rattle.hc_signal.specs.Graph.{Graph, node, inst, Reached}
use Rattle.hc_signal.specs.Lawful.{IsLawful, NodeAt}
use Rattle.hc_signal.specs.Occurrences.{comb_fanin, connection_of}
use Rattle.hc_walk.proofs.InRange.{HasRow, reached_row}
use Rattle.hc_paths.specs.Local.{mask_at, LocalStep, LocalPath, HasLocalLoop}
use Rattle.hc_paths.specs.Local as local
use Rattle.hc_paths.specs.Digraph.{Arrows, here, on, IsFound, HasCycle, AreWithin, AllDifferent, IsSorted, IsOrder}
use Rattle.hc_paths.specs.Fanin.{picked_of, local_fanin_of_node, local_fanin_of_row, local_fanin}
use Rattle.hc_paths.proofs.Composed.{comb_fanin_fanin, reached_fanin, connected}
use Rattle.hc_paths.proofs.Picked.{Picks, picked_at, picked_has}

module _ (g : Graph) (masks : List (List ℕ)) where
  -- from the list to steps
  through_step : (n m : NodeId) (i : ℕ) (port : ℕ) → NodeAt g n.0 (InstOut (record { 0 = i }) port) → (o : Option Instance) (b : Option ℕ) → slice_get g.instances i ≡ o → mask_at masks i port ≡ b → Has (picked_of o b) m → LocalStep g masks n.0 m.0
  through_step n m i port y None b e f h = elim h [ ]
  through_step n m i port y (Some it) None e f h = elim h [ ]
  through_step n m i port y (Some it) (Some mask) e f h =
      let r : Picks mask it.conns m = picked_at mask it.conns m h in
      local.through i port r.0 mask y f r.1 (ap (λ o. connection_of o r.0) e ∙ r.2)

  row_step : (n m : NodeId) (x : Node) → NodeAt g n.0 x → Has (local_fanin_of_node g.instances masks x) m → LocalStep g masks n.0 m.0
  row_step n m (InstOut i port) y h = through_step n m i.0 port y (slice_get g.instances i.0) (mask_at masks i.0 port) refl refl h
  row_step n m (Input port) y h = elim h [ ]
  row_step n m (Wire driver) y h = local.inside (Wire driver) y h
  row_step n m (Const value) y h = elim h [ ]
  row_step n m (Two op a b) y h = local.inside (Two op a b) y h
  row_step n m (Not a) y h = local.inside (Not a) y h
  row_step n m (Mux sel cases) y h = local.inside (Mux sel cases) y h
  row_step n m (Cat parts) y h = local.inside (Cat parts) y h
  row_step n m (Select a hi lo) y h = local.inside (Select a hi lo) y h
  row_step n m (Reg next enable clear init) y h = elim h [ ]
  row_step n m (Read mem addr) y h = local.inside (Read mem addr) y h
  row_step n m (Op kind args) y h = local.inside (Op kind args) y h

  option_step : (n m : NodeId) (o : Option NodeRow) → slice_get g.nodes n.0 ≡ o → Has (local_fanin_of_row g.instances masks o) m → LocalStep g masks n.0 m.0
  option_step n m None e h = elim h [ ]
  option_step n m (Some row) e h = row_step n m row.node (row, e, refl) h

  pub fanin_step : (n m : NodeId) → Has (local_fanin g masks n.0) m → LocalStep g masks n.0 m.0
  fanin_step n m h = option_step n m (slice_get g.nodes n.0) refl h

  -- from steps to the list
  at_row : (n : ℕ) (m : NodeId) (x : Node) → NodeAt g n x → Has (local_fanin_of_node g.instances masks x) m → Has (local_fanin g masks n) m
  at_row n m x y h = subst (λ o. Has (local_fanin_of_row g.instances masks o) m) (sym y.1) (subst (λ z. Has (local_fanin_of_node g.instances masks z) m) (sym y.2) h)

  inside_row : (x : Node) (m : NodeId) → Has (comb_fanin x) m → Has (local_fanin_of_node g.instances masks x) m
  inside_row (InstOut i port) m h = elim h [ ]
  inside_row (Input port) m h = elim h [ ]
  inside_row (Wire driver) m h = h
  inside_row (Const value) m h = elim h [ ]
  inside_row (Two op a b) m h = h
  inside_row (Not a) m h = h
  inside_row (Mux sel cases) m h = h
  inside_row (Cat parts) m h = h
  inside_row (Select a hi lo) m h = h
  inside_row (Reg next enable clear init) m h = elim h [ ]
  inside_row (Read mem addr) m h = h
  inside_row (Op kind args) m h = h

  through_row : (k mask m : ℕ) (o : Option Instance) → IsBitSet mask k → connection_of o k ≡ Some (record { 0 = m }) → Has (picked_of o (Some mask)) (record { 0 = m })
  through_row k mask m None b e = cc
  through_row k mask m (Some it) b e = picked_has mask it.conns (record { 0 = m }) k b e

  pub step_fanin : (n m : ℕ) → LocalStep g masks n m → Has (local_fanin g masks n) (record { 0 = m })
  step_fanin n m (local.inside x y h) = at_row n (record { 0 = m }) x y (inside_row x (record { 0 = m }) h)
  step_fanin n m (local.through i port k mask y e b c) =
      at_row n (record { 0 = m }) (InstOut (record { 0 = i }) port) y (subst (λ z. Has (picked_of (slice_get g.instances i) z) (record { 0 = m })) (sym e) (through_row k mask m (slice_get g.instances i) b c))

  pub arrows_path : {n m : NodeId} → Arrows (local_fanin g masks) n m → LocalPath g masks n.0 m.0
  arrows_path here = local.here
  arrows_path (on {n = n} {k = k} a w) = local.on (fanin_step n k a) (arrows_path w)

  pub path_arrows : {n m : ℕ} → LocalPath g masks n m → Arrows (local_fanin g masks) (record { 0 = n }) (record { 0 = m })
  path_arrows local.here = here
  path_arrows (local.on {n = n} {k = k} s w) = on (step_fanin n k s) (path_arrows w)

  -- steps stay among what is reached, and among the rows
  local_step_reached : (n m : ℕ) → LocalStep g masks n m → Reached g (node n) → Reached g (node m)
  local_step_reached n m (local.inside x y h) r = reached_fanin g n x (node m) y.0 y.1 y.2 r (comb_fanin_fanin x (record { 0 = m }) h)
  local_step_reached n m (local.through i port k mask y e b c) r = connected g i k m c (reached_fanin g n (InstOut (record { 0 = i }) port) (inst i) y.0 y.1 y.2 r first)

  arrows_reached : {n m : NodeId} → Arrows (local_fanin g masks) n m → Reached g (node n.0) → Reached g (node m.0)
  arrows_reached here r = r
  arrows_reached (on {n = n} {k = k} a w) r = arrows_reached w (local_step_reached n.0 k.0 (fanin_step n k a) r)

  module _ (roots : List NodeId) (all : (n : NodeId) → Has roots n ↔ Reached g (node n.0)) where
    found_reached : (n : NodeId) → IsFound (local_fanin g masks) roots n → Reached g (node n.0)
    found_reached n f = arrows_reached f.2 ((all f.0).0 f.1)

    pub within_rows : IsLawful g → AreWithin (length g.nodes) (local_fanin g masks) roots
    within_rows l = record { inside = λ n f. let r : HasRow g (node n.0) = reached_row g l (found_reached n f) in slice_get_within g.nodes n.0 r.0 r.1 }

    pub local_loop : HasCycle (local_fanin g masks) roots → HasLocalLoop g masks
    local_loop c = (c.0.0, c.1.0, found_reached c.0 c.2, fanin_step c.0 c.1 c.3, arrows_path c.4)

    pub order_all : (order : List NodeId) → IsOrder (local_fanin g masks) roots order → (n : NodeId) → Has order n ↔ Reached g (node n.0)
    order_all order o n = (λ h. found_reached n (o.only n h), λ r. o.each n ((all n).1 r))

-- a sorted list has no closed walk
sorted_next : (t : ℕ → List NodeId) (ns : List NodeId) (a k : NodeId) → IsSorted t ns → Has ns a → Has (t a.0) k → Has ns k
sorted_next t [] a k s h x = elim h [ ]
sorted_next t (_ ∷ ns) a k s first x = later (s.0 k x)
sorted_next t (n ∷ ns) a k s (later h) x = later (sorted_next t ns a k s.1 h x)

sorted_walk : (t : ℕ → List NodeId) (ns : List NodeId) {a b : NodeId} → IsSorted t ns → Has ns a → Arrows t a b → Has ns b
sorted_walk t ns s h here = h
sorted_walk t ns s h (on {n = a} {k = k} x w) = sorted_walk t ns s (sorted_next t ns a k s h x) w

no_cycle : (t : ℕ → List NodeId) (ns : List NodeId) (n k : NodeId) → IsSorted t ns → AllDifferent ns → Has ns n → Has (t n.0) k → Arrows t k n → ⊥
no_cycle t [] n k s d h a w = elim h [ ]
no_cycle t (_ ∷ ns) n k s d first a w = d.0 (sorted_walk t ns s.1 (s.0 k a) w)
no_cycle t (m ∷ ns) n k s d (later h) a w = no_cycle t ns n k s.1 d.1 h a w

pub no_local_loop : (g : Graph) (masks : List (List ℕ)) (roots order : List NodeId) → ((n : NodeId) → Has roots n ↔ Reached g (node n.0)) → IsOrder (local_fanin g masks) roots order → HasLocalLoop g masks → ⊥
no_local_loop g masks roots order all o x =
    no_cycle (local_fanin g masks) order (record { 0 = x.0 }) (record { 0 = x.1 }) o.sorted o.different (o.each (record { 0 = x.0 }) ((all (record { 0 = x.0 })).1 x.2)) (step_fanin g masks x.0 x.1 x.3) (path_arrows g masks x.4)
