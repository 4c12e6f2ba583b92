-- What is waited for before a node is computed: masks that a sweep along an order, readers first, narrows.
use Rattle.std.specs.Prelude.{ℕ, zero, suc, ◌+◌, List, [], ◌∷◌, length, replicate, slice_set, slice_index_or, bit_and, IsBitSet}
use Rattle.hc_signal.specs.declared.signal.NodeId.{NodeId}
use Rattle.hc_signal.specs.Graph.{Graph}
use Rattle.hc_paths.specs.Fanin.{filled, local_fanin}

-- the mask of a node has this bit
abbrev pub NeedsBit : List ℕ → NodeId → ℕ → Type 0
NeedsBit masks n k = IsBitSet (slice_index_or masks n.0 0) k

-- the masks after those of these nodes were made to lie within this one
abbrev pub narrowed : ℕ → List NodeId → List ℕ → List ℕ
narrowed mask [] list = list
narrowed mask (id ∷ ids) list = narrowed mask ids (slice_set list id.0 (bit_and (slice_index_or list id.0 0) mask))

-- the masks after each node of the order gave its own to what it is computed from
abbrev pub swept : (ℕ → List NodeId) → List NodeId → List ℕ → List ℕ
swept next [] list = list
swept next (n ∷ ns) list = swept next ns (narrowed (slice_index_or list n.0 0) (next n.0) list)

-- the masks after each output, from that of a port on, gave what it waits for to its node
abbrev pub narrowed_by : List ℕ → ℕ → List NodeId → List ℕ → List ℕ
narrowed_by own port [] list = list
narrowed_by own port (id ∷ ids) list = narrowed_by own (port + 1) ids (slice_set list id.0 (bit_and (slice_index_or list id.0 0) (slice_index_or own port 0)))

-- a mask, none where a node depends on no input
abbrev pub unless_free : ℕ → ℕ → ℕ
unless_free zero mask = 0
unless_free (suc d) mask = mask

-- the masks of the nodes from one on, none of those that depend on no input
abbrev pub cleared : List ℕ → ℕ → List ℕ → List ℕ
cleared depends n [] = []
cleared depends n (mask ∷ masks) = unless_free (slice_index_or depends n 0) mask ∷ cleared depends (n + 1) masks

-- What is waited for before each node, along an order, readers first: nothing where it depends on no input, else what each
-- output that is computed from it waits for anyway.
abbrev pub needs_of_nodes : Graph → List (List ℕ) → List NodeId → List ℕ → ℕ → List ℕ
needs_of_nodes g kids order own every =
    cleared (filled g kids order) 0 (swept (local_fanin g kids) order (narrowed_by own 0 g.outputs (replicate (length g.nodes) every)))
