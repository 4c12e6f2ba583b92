-- The state of a depth-first search for an order, its stack with the top first.
use Rattle.std.specs.Prelude.{◌≡◌, ℕ, suc, ◌+◌, ◌↔◌, ◌⊎◌, List, [], ◌∷◌, length, slice_get, slice_set, Option, Some, None}
use Rattle.hc_signal.specs.Member.{Has}
use Rattle.hc_signal.specs.declared.signal.NodeId.{NodeId}
use Rattle.hc_paths.specs.declared.search.Search.{Search}
use Rattle.hc_paths.specs.declared.search.Item.{Item}
use Rattle.hc_paths.specs.declared.search.Item.TheVariants.{Enter, Leave}
use Rattle.hc_paths.specs.declared.search.Colour.{Colour}
use Rattle.hc_paths.specs.declared.search.Colour.TheVariants.{Fresh, Open, Closed}
use Rattle.hc_paths.specs.Digraph.{IsFound, AllDifferent, IsSorted}

-- nodes put on the stack, the first one lowest
abbrev pub entered : List NodeId → List Item → List Item
entered [] stack = stack
entered (m ∷ ms) stack = entered ms (Enter m ∷ stack)

-- the node that waits next below for those above it to close
abbrev pub under : List Item → Option NodeId
under [] = None
under (Enter m ∷ stack) = under stack
under (Leave p ∷ stack) = Some p

-- the nodes that wait
abbrev pub opens : List Item → List NodeId
opens [] = []
opens (Enter m ∷ stack) = opens stack
opens (Leave p ∷ stack) = p ∷ opens stack

-- from where a node on the stack came
abbrev pub Came : (ℕ → List NodeId) → List NodeId → Option NodeId → NodeId → Type 0
Came next roots None m = Has roots m
Came next roots (Some p) m = Has (next p.0) m

abbrev pub IsChain : (ℕ → List NodeId) → List NodeId → List Item → Type 0
IsChain next roots [] = Unit {0}
IsChain next roots (Enter m ∷ stack) = Came next roots (under stack) m × IsChain next roots stack
IsChain next roots (Leave p ∷ stack) = Came next roots (under stack) p × IsChain next roots stack

-- Where a node's arrows go is closed, or stands on the stack above the node, and so for the roots.
abbrev pub Waits : (ℕ → List NodeId) → (roots : List NodeId) (order : List NodeId) (above : List NodeId) → List Item → Type 0
Waits next roots order above [] = (m : NodeId) → Has roots m → Has order m ⊎ Has above m
Waits next roots order above (Enter m ∷ stack) = Waits next roots order (m ∷ above) stack
Waits next roots order above (Leave p ∷ stack) = ((m : NodeId) → Has (next p.0) m → Has order m ⊎ Has above m) × Waits next roots order (p ∷ []) stack

pub record IsSearch (size : ℕ) (next : ℕ → List NodeId) (roots : List NodeId) (colours : List Colour) (stack : List Item) (order : List NodeId) : Type 0 where
  pub coloured : length colours ≡ size
  pub chain : IsChain next roots stack
  pub waits : Waits next roots order [] stack
  pub different : AllDifferent (opens stack)
  pub opened : (n : NodeId) → Has (opens stack) n ↔ (slice_get colours n.0 ≡ Some Open)
  pub closed : (n : NodeId) → Has order n ↔ (slice_get colours n.0 ≡ Some Closed)
  pub once : AllDifferent order
  pub sorted : IsSorted next order
  pub only : (n : NodeId) → Has order n → IsFound next roots n

-- k for a node that is not yet entered
abbrev pub if_fresh : Colour → ℕ → ℕ
if_fresh Fresh k = k
if_fresh Open k = 0
if_fresh Closed k = 0

-- the items that the nodes from n on can still put on the stack
abbrev pub left : (ℕ → List NodeId) → ℕ → List Colour → ℕ
left next n [] = 0
left next n (c ∷ cs) = if_fresh c (length (next n) + 1) + left next (suc n) cs

pub record State : Type 0 where
  pub colours : List Colour
  pub stack : List Item
  pub order : List NodeId

-- the state after a node of this colour is entered, and nothing where it waits
abbrev pub looked : (ℕ → List NodeId) → State → NodeId → Option Colour → Option State
looked next s m (Some Fresh) = Some (record { colours = slice_set s.colours m.0 Open; stack = entered (next m.0) (Leave m ∷ s.stack); order = s.order })
looked next s m (Some Open) = None
looked next s m (Some Closed) = Some s
looked next s m None = None

-- the state after what was on top
abbrev pub after : (ℕ → List NodeId) → State → Item → Option State
after next s (Enter m) = looked next s m (slice_get s.colours m.0)
after next s (Leave m) = Some (record { colours = slice_set s.colours m.0 Closed; stack = s.stack; order = m ∷ s.order })

abbrev pub node_on : Item → ℕ
node_on (Enter m) = m.0
node_on (Leave m) = m.0

abbrev pub state_of : Search → State
state_of s = record { colours = s.colours.items; stack = s.stack; order = s.order }
