-- What a node is computed from in the same cycle, as lists, and the masks of all nodes along an order.
use Rattle.std.specs.Prelude.{ℕ, zero, suc, ◌/◌, ◌%◌, ◌^◌, ◌<◌, ◌≡◌, List, [], ◌∷◌, fold, map, length, replicate, slice_set, slice_get, slice_index_or, Option, Some, None, bit_or}
use Rattle.hc_signal.specs.declared.signal.NodeId.{NodeId}
use Rattle.hc_signal.specs.declared.signal.NodeRow.{NodeRow}
use Rattle.hc_signal.specs.declared.signal.Instance.{Instance}
use Rattle.hc_signal.specs.declared.signal.Node.{Node}
use Rattle.hc_signal.specs.declared.signal.Node.TheVariants.{InstOut, Input}
use Rattle.hc_signal.specs.Graph.{Graph}
use Rattle.hc_signal.specs.Occurrences.{comb_fanin}
use Rattle.hc_paths.specs.Local.{mask_at}

-- an id before a list, where the bit is 1
abbrev pub kept : ℕ → NodeId → List NodeId → List NodeId
kept zero id ids = ids
kept (suc b) id ids = id ∷ ids

-- the connections whose bit of the mask is 1
abbrev pub picked : ℕ → List NodeId → List NodeId
picked mask [] = []
picked mask (id ∷ ids) = kept (mask % 2) id (picked (mask / 2) ids)

abbrev pub picked_of : Option Instance → Option ℕ → List NodeId
picked_of None mask = []
picked_of (Some it) None = []
picked_of (Some it) (Some mask) = picked mask it.conns

-- of an output of an instance the connections that its mask names, of another node its operands of the same cycle
abbrev pub local_fanin_of_node : List Instance → List (List ℕ) → Node → List NodeId
local_fanin_of_node instances masks (InstOut i port) = picked_of (slice_get instances i.0) (mask_at masks i.0 port)
local_fanin_of_node instances masks x = comb_fanin x

abbrev pub local_fanin_of_row : List Instance → List (List ℕ) → Option NodeRow → List NodeId
local_fanin_of_row instances masks None = []
local_fanin_of_row instances masks (Some row) = local_fanin_of_node instances masks row.node

-- where the steps from node n go
abbrev pub local_fanin : Graph → List (List ℕ) → ℕ → List NodeId
local_fanin g masks n = local_fanin_of_row g.instances masks (slice_get g.nodes n)

-- the bit of an input
abbrev pub own_bit : Node → ℕ
own_bit (Input port) = 2 ^ port
own_bit x = 0

abbrev pub own_bit_of : Option NodeRow → ℕ
own_bit_of None = 0
own_bit_of (Some row) = own_bit row.node

-- a number joined with the masks of these nodes
unfoldable pub joined : List ℕ → ℕ → List NodeId → ℕ
joined list start ids = fold (λ mask (id : NodeId). bit_or mask (slice_index_or list id.0 0)) start ids

-- the mask of node n from those of the others
abbrev pub mask_from : Graph → List (List ℕ) → List ℕ → ℕ → ℕ
mask_from g masks list n = joined list (own_bit_of (slice_get g.nodes n)) (local_fanin g masks n)

-- the masks of all nodes, after those of an order, whose last one stands first
abbrev pub filled : Graph → List (List ℕ) → List NodeId → List ℕ
filled g masks [] = replicate (length g.nodes) 0
filled g masks (n ∷ ns) = slice_set (filled g masks ns) n.0 (mask_from g masks (filled g masks ns) n.0)

-- an input's bit stands in 128 bits
abbrev pub HasBit : Node → Type 0
HasBit (Input port) = port < 128
HasBit x = Unit {0}

pub record HaveBits (g : Graph) : Type 0 where
  pub bits : (n : ℕ) (row : NodeRow) → slice_get g.nodes n ≡ Some row → HasBit row.node
