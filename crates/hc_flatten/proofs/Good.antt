-- Trees all of whose circuits are lawful and checked.
use Rattle.std.proofs.Common.{◌≡◌, ℕ, List, [], ◌∷◌}
use Rattle.std.proofs.lemmas.Option.{slice_get_within}
use Rattle.std.specs.Prelude.{slice_get, Some}
use Rattle.hc_signal.specs.declared.signal.Instance.{Instance}
use Rattle.hc_signal.specs.Graph.{inst}
use Rattle.hc_signal.specs.Lawful.{IsLawful}
use Rattle.hc_signal.specs.Checked.{IsChecked}
use Rattle.hc_signal.specs.Tree.{Tree, none, tree, graph, kid}
use Rattle.hc_signal.specs.Occurrences.{tree_at, graph_at, IsReachedPath}
use Rattle.hc_walk.proofs.InRange.{HasRow, reached_row}
use Rattle.hc_dbstate.proofs.Triples.{some_at}
use Rattle.hc_flatten.proofs.Blocks.{IsThere}

abbrev pub IsGood : Tree → Type 0
IsGood none = ⊥
IsGood (tree g kids) = IsLawful g × IsChecked g × ((i : ℕ) (it : Instance) → slice_get g.instances i ≡ Some it → ((graph (kids i)).ports ≡ it.ports) × IsGood (kids i))

pub lawful_of : (s : Tree) → IsGood s → IsLawful (graph s)
lawful_of none w = absurd w
lawful_of (tree g kids) w = w.0

pub checked_of : (s : Tree) → IsGood s → IsChecked (graph s)
checked_of none w = absurd w
checked_of (tree g kids) w = w.1

pub good_kid : (s : Tree) → IsGood s → (i : ℕ) (it : Instance) → slice_get (graph s).instances i ≡ Some it → ((graph (kid s i)).ports ≡ it.ports) × IsGood (kid s i)
good_kid none w i it e = absurd w
good_kid (tree g kids) w i it e = w.2 i it e

pub good_at : (t : Tree) → IsGood t → (path : List ℕ) → IsThere t path → IsGood (tree_at t path)
good_at t w [] r = w
good_at t w (i ∷ path) r =
    let x : (it : Instance) × (slice_get (graph_at t path).instances i ≡ Some it) = some_at (graph_at t path).instances i r.1 in
    (good_kid (tree_at t path) (good_at t w path r.0) i x.0 x.1).1

pub there : (t : Tree) → IsGood t → (path : List ℕ) → IsReachedPath t path → IsThere t path
there t w [] r = tt
there t w (i ∷ path) r =
    let a : IsThere t path = there t w path r.0 in
    let x : HasRow (graph_at t path) (inst i) = reached_row (graph_at t path) (lawful_of (tree_at t path) (good_at t w path a)) r.1 in
    (a, slice_get_within (graph_at t path).instances i x.0 x.1)
