-- The form of an instance of a form, and the ports on both sides.
use Rattle.std.proofs.Common.{◌≡◌, ℕ, zero, suc, ◌<◌, List, [], ◌∷◌, length, refl, sym, ap, subst, ◌∙◌, arith}
use Rattle.std.specs.Prelude.{Option, Some, None, slice_get}
use Rattle.std.proofs.lemmas.Option.{slice_get_within}
use Rattle.hc_signal.specs.declared.signal.NodeId.{NodeId}
use Rattle.hc_signal.specs.declared.signal.Port.{Port}
use Rattle.hc_signal.specs.declared.signal.Instance.{Instance}
use Rattle.hc_signal.specs.Graph.{Graph}
use Rattle.hc_signal.specs.Lawful.{HasWidth, HaveWidthsOf}
use Rattle.hc_signal.specs.Occurrences.{connection, connection_of}
use Rattle.hc_signal.specs.Tree.{Tree, tree, graph, IsWhole}
use Rattle.hc_walk.proofs.Members.{has_slice}
use Rattle.hc_canon.specs.declared.form.EntryId.{EntryId}
use Rattle.hc_canon.specs.FormView.{FormView}
use Rattle.hc_dbstate.specs.History.{History, IsLegal}
use Rattle.hc_dbstate.specs.Unfolding.{kid_tree, unfolding_of}
use Rattle.hc_dbstate.proofs.Triples.{some_once, some_at}
use Rattle.hc_dbstate.proofs.Unfolded.{unfolds, unfolded}
use Rattle.hc_store.specs.Given.{IsKidForm}

-- the instance is of an entry with this form, whose circuit has its ports
pub record IsKidOf (h : History) (form : FormView) (i : ℕ) (it : Instance) : Type 0 where
  pub kid : EntryId
  pub inner : FormView
  pub is : IsKidForm h.entries form i kid inner
  pub ports : inner.circuit.ports ≡ it.ports
  pub whole : IsWhole (unfolding_of h.entries kid)

kid_of_form : (h : History) (legal : IsLegal h) (id : EntryId) (form : FormView) → slice_get h.entries id.0 ≡ Some form → IsWhole (unfolding_of h.entries id) → (i : ℕ) (it : Instance)
    → slice_get form.circuit.instances i ≡ Some it → (kid : EntryId) (inner : FormView) → IsKidForm h.entries form i kid inner → IsKidOf h form i it
kid_of_form h legal id form found whole i it e kid inner is =
    let own = (subst IsWhole (unfolds h legal id form found) whole).1 i it e in
    let same : kid_tree (unfolded h legal) (slice_get form.kids i) ≡ unfolding_of h.entries kid = ap (kid_tree (unfolded h legal)) is.entry in
    let tree_is : unfolding_of h.entries kid ≡ tree inner.circuit (λ j. kid_tree (unfolded h legal) (slice_get inner.kids j)) = unfolds h legal kid inner is.found in
    let circuit : graph (unfolding_of h.entries kid) ≡ inner.circuit = ap (λ (t : Tree). graph t) tree_is in
    let kept : graph (kid_tree (unfolded h legal) (slice_get form.kids i)) ≡ graph (unfolding_of h.entries kid) = ap (λ (t : Tree). graph t) same in
    record {
      kid = kid;
      inner = inner;
      is = is;
      ports = ap (λ (g : Graph). g.ports) (sym circuit) ∙ ap (λ (g : Graph). g.ports) (sym kept) ∙ own.0;
      whole = subst IsWhole same own.1;
    }

pub kid_of_whole : (h : History) (legal : IsLegal h) (id : EntryId) (form : FormView) → slice_get h.entries id.0 ≡ Some form → IsWhole (unfolding_of h.entries id) → (i : ℕ) (it : Instance)
    → slice_get form.circuit.instances i ≡ Some it → IsKidOf h form i it
kid_of_whole h legal id form found whole i it e =
    let inside : i < length form.circuit.instances = slice_get_within form.circuit.instances i it e in
    let many : length form.kids ≡ length form.circuit.instances = (legal.forms id.0 form found).kids in
    let has : i < length form.kids = omega (arith, inside, many) in
    let kid : (kid : EntryId) × (slice_get form.kids i ≡ Some kid) = some_at form.kids i has in
    let low : kid.0.0 < id.0 = legal.kids id.0 form kid.0 found (has_slice form.kids i kid.0 kid.1) in
    let there : id.0 < length h.entries = slice_get_within h.entries id.0 form found in
    let lower : kid.0.0 < length h.entries = omega (arith, low, there) in
    let inner : (inner : FormView) × (slice_get h.entries kid.0.0 ≡ Some inner) = some_at h.entries kid.0.0 lower in
    kid_of_form h legal id form found whole i it e kid.0 inner.0 (record { entry = kid.1; found = inner.1 })

-- a node at a port, of the port's width
pub record HasPort (g : Graph) (ports : List Port) (k : ℕ) (id : NodeId) : Type 0 where
  pub port : Port
  pub at : slice_get ports k ≡ Some port
  pub width : HasWidth g id port.width

pub port_at : (g : Graph) (ids : List NodeId) (ports : List Port) → HaveWidthsOf g ids ports → (k : ℕ) (id : NodeId) → slice_get ids k ≡ Some id → HasPort g ports k id
port_at g [] ports w k id e = cc
port_at g (x ∷ ids) [] w k id e = absurd w
port_at g (x ∷ ids) (p ∷ ports) w zero id e = record { port = p; at = refl; width = subst (λ (y : NodeId). HasWidth g y p.width) (some_once e) w.0 }
port_at g (x ∷ ids) (p ∷ ports) w (suc k) id e = let r = port_at g ids ports w.1 k id e in record { port = r.port; at = r.at; width = r.width }

-- the instance of a connection
pub connected : (g : Graph) (i port : ℕ) (c : NodeId) → connection g i port ≡ Some c → (it : Instance) × (slice_get g.instances i ≡ Some it) × (slice_get it.conns port ≡ Some c)
connected g i port c e = go (slice_get g.instances i) refl e
  where
    go : (o : Option Instance) → slice_get g.instances i ≡ o → connection_of o port ≡ Some c → (it : Instance) × (slice_get g.instances i ≡ Some it) × (slice_get it.conns port ≡ Some c)
    go None s t = cc
    go (Some it) s t = (it, s, t)
