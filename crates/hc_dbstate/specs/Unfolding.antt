-- The trees that entries stand for.
use Rattle.std.specs.Prelude.{◌≡◌, ℕ, zero, suc, ◌<◌, List, length, slice_get, Option, Some, None}
use Rattle.hc_signal.specs.declared.signal.Instance.{Instance}
use Rattle.hc_signal.specs.Checked.{IsChecked}
use Rattle.hc_signal.specs.Tree.{Tree, none, tree}
use Rattle.hc_canon.specs.declared.form.EntryId.{EntryId}
use Rattle.hc_canon.specs.FormView.{FormView}
use Rattle.hc_canon.specs.Same.{Same}

-- an entry among trees by their places
abbrev pub kid_tree : (ℕ → Tree) → Option EntryId → Tree
kid_tree trees None = none
kid_tree trees (Some id) = trees id.0

-- a form with the trees of its kids
abbrev pub form_tree : (ℕ → Tree) → Option FormView → Tree
form_tree trees None = none
form_tree trees (Some form) = tree form.circuit (λ i. kid_tree trees (slice_get form.kids i))

-- the tree of the entry at place k, down to this many levels
abbrev pub tree_down_to : ℕ → List FormView → ℕ → Tree
tree_down_to zero entries k = none
tree_down_to (suc n) entries k = form_tree (tree_down_to n entries) (slice_get entries k)

-- The tree of an entry. Kids stand at lower places, so as many levels as that are enough.
abbrev pub unfolding_of : List FormView → EntryId → Tree
unfolding_of entries id = tree_down_to (suc id.0) entries id.0

-- the circuit of a form with the unfoldings of its kids
abbrev pub tree_of : List FormView → FormView → Tree
tree_of entries form = tree form.circuit (λ i. kid_tree (λ k. unfolding_of entries (record { 0 = k })) (slice_get form.kids i))

-- the entry stands for the tree, up to numbers
abbrev pub Denotes : List FormView → EntryId → Tree → Type 0
Denotes entries id t = Same (unfolding_of entries id) t

-- each of these entries is there, and denotes the tree with its number
abbrev pub AreDenoted : List FormView → List EntryId → (ℕ → Tree) → Type 0
AreDenoted entries ids trees = (i : ℕ) (id : EntryId) → slice_get ids i ≡ Some id → (id.0 < length entries) × Denotes entries id (trees i)

-- Each graph is checked, and each instance has a tree.
abbrev pub AreChecked : Tree → Type 0
AreChecked none = ⊥
AreChecked (tree g kids) = IsChecked g × ((i : ℕ) (it : Instance) → slice_get g.instances i ≡ Some it → AreChecked (kids i))
