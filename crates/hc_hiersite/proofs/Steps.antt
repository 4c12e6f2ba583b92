-- What a step of a plan names is there, and both ends of a wire have one width.
use Rattle.std.proofs.Common.{◌≡◌, ℕ, ◌<◌, ◌⊎◌, List, [], ◌∷◌, length, refl, sym, ap, subst, ◌∙◌}
use Rattle.std.specs.Prelude.{Option, Some, None, slice_get}
use Rattle.std.proofs.lemmas.Option.{slice_get_within}
use Rattle.hc_signal.specs.Member.{Has, first, later}
use Rattle.hc_signal.specs.declared.signal.NodeId.{NodeId}
use Rattle.hc_signal.specs.declared.signal.NodeRow.{NodeRow}
use Rattle.hc_signal.specs.declared.signal.Instance.{Instance}
use Rattle.hc_signal.specs.declared.signal.Node.{Node}
use Rattle.hc_signal.specs.declared.signal.Node.TheVariants.{InstOut}
use Rattle.hc_signal.specs.declared.signal.Port.{Port}
use Rattle.hc_signal.specs.declared.signal.Ports.{Ports}
use Rattle.hc_signal.specs.Graph.{Graph, inst, Reached}
use Rattle.hc_signal.specs.Lawful.{NodeAt, HasWidth, IsLawful, IsLawfulNode}
use Rattle.hc_signal.specs.Occurrences.{connection}
use Rattle.hc_signal.specs.Tree.{IsWhole}
use Rattle.hc_walk.proofs.InRange.{reached_row}
use Rattle.hc_walk.proofs.Members.{has_slice}
use Rattle.hc_canon.specs.declared.form.EntryId.{EntryId}
use Rattle.hc_canon.specs.FormView.{FormView, IsForm}
use Rattle.hc_canon.specs.Numbering.{input_row}
use Rattle.hc_dbstate.specs.History.{History, IsLegal}
use Rattle.hc_dbstate.specs.Unfolding.{unfolding_of}
use Rattle.hc_dbstate.proofs.Triples.{some_once}
use Rattle.hc_steps.specs.Plan.{Step, make, take, pass, run, Part, steps_of, steps_at, Fact, fact, IsPlain, IsReady, AreReady, id_of}
use Rattle.hc_steps.specs.Compiled.{entry_in, circuit_in, graph_of_kid}
use Rattle.hc_store.specs.Given.{IsKidForm, FitsStep}
use Rattle.hc_hiersite.proofs.Connected.{IsKidOf, kid_of_whole, HasPort, port_at, connected}

-- a part that has a step is there
part_there : (parts : List Part) (j : ℕ) (o : Option Part) (s : Step) → slice_get parts j ≡ o → Has (steps_of o) s → j < length parts
part_there parts j None s e h = elim h [ ]
part_there parts j (Some part) s e h = slice_get_within parts j part e

pub step_there : (parts : List Part) (j : ℕ) (s : Step) → Has (steps_at parts j) s → j < length parts
step_there parts j s h = part_there parts j (slice_get parts j) s refl h

module _ (h : History) (legal : IsLegal h) (id : EntryId) (form : FormView) (found : slice_get h.entries id.0 ≡ Some form) (whole : IsWhole (unfolding_of h.entries id)) where
  own_lawful : IsLawful form.circuit
  own_lawful = (legal.forms id.0 form found).lawful

  inner_circuit : (i : ℕ) (kid : EntryId) (inner : FormView) → IsKidForm h.entries form i kid inner → graph_of_kid h.entries form i ≡ inner.circuit
  inner_circuit i kid inner is = ap (λ (o : Option EntryId). circuit_in (entry_in h.entries o)) is.entry ∙ ap circuit_in is.found

  fits_make : (n : ℕ) (x : Node) → NodeAt form.circuit n x → IsPlain x → FitsStep h.entries form (make n)
  fits_make n x at plain = (at.0, at.1, subst IsPlain (sym at.2) plain)

  take_from : (n i port : ℕ) (w : NodeId) (row : NodeRow) (it : Instance) (p : Port) → slice_get form.circuit.nodes n ≡ Some row → row.node ≡ InstOut (record { 0 = i }) port
      → slice_get it.ports.outputs port ≡ Some p → p.width ≡ row.width → IsKidOf h form i it → slice_get (graph_of_kid h.entries form i).outputs port ≡ Some w
      → FitsStep h.entries form (take n i port)
  take_from n i port w row it p at kind of_port wide k out =
      let wire : slice_get k.inner.circuit.outputs port ≡ Some w = sym (ap (λ (g : Graph). slice_get g.outputs port) (inner_circuit i k.kid k.inner k.is)) ∙ out in
      let inner_lawful : IsLawful k.inner.circuit = (legal.forms k.kid.0 k.inner k.is.found).lawful in
      let q : HasPort k.inner.circuit k.inner.circuit.ports.outputs port w = port_at k.inner.circuit k.inner.circuit.outputs k.inner.circuit.ports.outputs inner_lawful.outputs port w wire in
      let same : q.port ≡ p = some_once (sym q.at ∙ ap (λ (ps : Ports). slice_get ps.outputs port) k.ports ∙ of_port) in
      (row, k.kid, k.inner, w, at, kind, k.is, wire, subst (HasWidth k.inner.circuit w) (ap (λ (x : Port). x.width) same ∙ wide) q.width)

  fits_take : (n i port : ℕ) (w : NodeId) → NodeAt form.circuit n (InstOut (record { 0 = i }) port) → slice_get (graph_of_kid h.entries form i).outputs port ≡ Some w
      → FitsStep h.entries form (take n i port)
  fits_take n i port w at out =
      let own : IsLawfulNode form.circuit at.0.width (InstOut (record { 0 = i }) port) = subst (λ (x : Node). IsLawfulNode form.circuit at.0.width x) at.2 (own_lawful.nodes n at.0 at.1).1 in
      take_from n i port w at.0 own.0 own.1 at.1 at.2 own.3 own.4 (kid_of_whole h legal id form found whole i own.0 own.2) out

  pass_to : (n i port : ℕ) (it : Instance) → HasPort form.circuit it.ports.inputs port (id_of n) → IsKidOf h form i it → FitsStep h.entries form (pass n i port)
  pass_to n i port it p k =
      let inner_form : IsForm k.inner = legal.forms k.kid.0 k.inner k.is.found in
      let input = inner_form.canonical.inputs port p.port (ap (λ (ps : Ports). slice_get ps.inputs port) k.ports ∙ p.at) in
      (p.width.0, k.kid, k.inner, input_row p.port port, p.width.1, k.is, input, refl, sym p.width.2)

  fits_pass : (n i port : ℕ) → connection form.circuit i port ≡ Some (id_of n) → FitsStep h.entries form (pass n i port)
  fits_pass n i port e =
      let c = connected form.circuit i port (id_of n) e in
      let conns = (own_lawful.instances c.0 (has_slice form.circuit.instances i c.0 c.1)).conns in
      pass_to n i port c.0 (port_at form.circuit c.0.conns c.0.ports.inputs conns port (id_of n) c.2) (kid_of_whole h legal id form found whole i c.0 c.1)

  fits_run : (i part : ℕ) → Reached form.circuit (inst i) → FitsStep h.entries form (run i part)
  fits_run i part r =
      let row = reached_row form.circuit own_lawful r in
      let k : IsKidOf h form i row.0 = kid_of_whole h legal id form found whole i row.0 row.1 in
      (k.kid, k.is.entry)

  module _ (plans : ℕ → List Part) where
    fits_one : (known : Fact → Type 0) (s : Step) → IsReady form.circuit (graph_of_kid h.entries form) plans known s → FitsStep h.entries form s
    fits_one known (make n) ready = fits_make n ready.1.0 ready.1.1 ready.1.2
    fits_one known (take n i port) ready = fits_take n i port ready.2.0 ready.1 ready.2.2
    fits_one known (pass n i port) ready = fits_pass n i port ready.1
    fits_one known (run i part) ready = fits_run i part ready.0

    -- each step that is ready in its place fits
    pub fits_steps : (known : Fact → Type 0) (so_far : List Fact) (steps : List Step) (s : Step) → AreReady form.circuit (graph_of_kid h.entries form) plans known so_far steps → Has steps s
        → FitsStep h.entries form s
    fits_steps known so_far [] s a c = elim c [ ]
    fits_steps known so_far (z ∷ steps) _ a first = fits_one (λ f. known f ⊎ Has so_far f) z a.0
    fits_steps known so_far (z ∷ steps) s a (later c) = fits_steps known (fact z ∷ so_far) steps s a.1 c
