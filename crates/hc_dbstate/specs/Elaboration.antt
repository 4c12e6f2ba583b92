-- Hierarchies of elaborated calls over the entries of a database.
use Rattle.std.specs.Prelude.{◌≡◌, ℕ, suc, ◌+◌, ◌<◌, ◌≤◌, ◌==◌, max, List, [], ◌∷◌, ◌++◌, fold, map, flat_map, sum_by, count_by, slice_get, Some}
use Rattle.std.specs.Arc.{arc_value}
use Rattle.hc_signal.specs.Member.{Has}
use Rattle.hc_signal.specs.declared.signal.Instance.{Instance}
use Rattle.hc_signal.specs.Graph.{Graph}
use Rattle.hc_signal.specs.Occurrences.{HasCombLoop, AreMasks}
use Rattle.hc_signal.specs.Tree.{Tree, graph}
use Rattle.hc_signal.specs.Weight.{graph_weight}
use Rattle.hc_canon.specs.declared.form.EntryId.{EntryId}
use Rattle.hc_canon.specs.FormView.{FormView, IsCanonOf}
use Rattle.hc_dbstate.specs.declared.hier.Hier.{Hier}
use Rattle.hc_dbstate.specs.declared.hier.Hier.TheOpen.{Hier-F}
use Rattle.hc_dbstate.specs.declared.hier.Hier.TheFolds.{fold-Hier}
use Rattle.hc_dbstate.specs.Unfolding.{AreDenoted, unfolding_of}

-- what a call says of itself: its requested name, its entry, its masks and its sums
pub record CallRow : Type 0 where
  pub name : List ℕ
  pub entry : EntryId
  pub masks : List ℕ
  pub instances : ℕ
  pub weight : ℕ
  pub words : ℕ

-- a call with the calls of its instances
pub record CallView : Type 0 where
  pub own : CallRow
  pub kids : List CallRow

-- a hierarchy as its own call, all of its calls, and how many levels it has
pub record HierView : Type 0 where
  pub own : CallRow
  pub calls : List CallView
  pub levels : ℕ

-- what stands for the calls of the instances, each of which several calls may share
abbrev pub kids_in : {X : Type 0} → Hier-F X → List X
kids_in h = map arc_value h.kids

abbrev pub row_level : Hier-F HierView → CallRow
row_level h = record { name = h.name; entry = h.entry; masks = h.paths.masks; instances = h.instances; weight = h.weight; words = h.words }

abbrev pub call_level : Hier-F HierView → CallView
call_level h = record { own = row_level h; kids = map (λ k. k.own) (kids_in h) }

abbrev pub hier_level : Hier-F HierView → HierView
hier_level h = record {
  own = row_level h;
  calls = flat_map (λ k. k.calls) (kids_in h) ++ call_level h ∷ [];
  levels = suc (fold (λ n k. max n k.levels) 0 (kids_in h));
}

abbrev pub hier_view : Hier → HierView
hier_view = fold-Hier HierView hier_level

-- all calls of a hierarchy: children before parents, siblings in the order of their instances
abbrev pub walk : Hier → List CallView
walk h = (hier_view h).calls

-- how often an entry stands in a list
abbrev pub times : EntryId → List EntryId → ℕ
times id ids = count_by (λ (x : EntryId). x.0 == id.0) ids

-- One call of a hierarchy over the entries.
pub record IsCallOver (entries : List FormView) (call : CallView) : Type 0 where
  pub form : FormView
  pub found : slice_get entries call.own.entry.0 ≡ Some form
  pub ports : (i : ℕ) (it : Instance) (id : EntryId) (kid : FormView) → slice_get form.circuit.instances i ≡ Some it → slice_get form.kids i ≡ Some id
      → slice_get entries id.0 ≡ Some kid → kid.circuit.ports ≡ it.ports
  pub kids : (id : EntryId) → times id form.kids ≤ times id (map (λ (k : CallRow). k.entry) call.kids)
  pub no_loop : ¬ HasCombLoop (unfolding_of entries call.own.entry)
  pub masks : AreMasks (unfolding_of entries call.own.entry) call.own.masks
  pub instances : call.own.instances ≡ 1 + sum_by (λ (k : CallRow). k.instances) call.kids
  pub few : call.own.instances ≤ 65536
  pub weight : graph_weight form.circuit + sum_by (λ (k : CallRow). k.weight) call.kids ≤ call.own.weight
  pub light : call.own.weight ≤ 4194304

-- The hierarchy is an elaboration in a database with these entries.
pub record IsElaboration (entries : List FormView) (h : Hier) : Type 0 where
  pub levels : (hier_view h).levels ≤ 64
  pub calls : (call : CallView) → Has (walk h) call → IsCallOver entries call

-- the entries of calls
abbrev pub entries_of : List CallRow → List EntryId
entries_of rows = map (λ (k : CallRow). k.entry) rows

-- A call made of a circuit and the calls of its instances: their entries denote these trees, with the ports that the
-- instances have, and its own entry has the form of the circuit over them. Its sums are within the limits.
pub record IsMade (entries : List FormView) (circuit : Graph) (trees : ℕ → Tree) (call : CallView) : Type 0 where
  pub kids : AreDenoted entries (entries_of call.kids) trees
  pub ports : (i : ℕ) (it : Instance) → slice_get circuit.instances i ≡ Some it → (graph (trees i)).ports ≡ it.ports
  pub form : FormView
  pub canon : IsCanonOf circuit (entries_of call.kids) form
  pub found : slice_get entries call.own.entry.0 ≡ Some form
  pub instances : call.own.instances ≡ 1 + sum_by (λ (k : CallRow). k.instances) call.kids
  pub few : call.own.instances ≤ 65536
  pub weight : graph_weight circuit + sum_by (λ (k : CallRow). k.weight) call.kids ≤ call.own.weight
  pub light : call.own.weight ≤ 4194304
