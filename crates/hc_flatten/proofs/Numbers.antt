-- The numbers that nodes and memories get.
use Rattle.std.proofs.Common.{◌≡◌, ℕ, zero, suc, ◌+◌, ◌<◌, false, List, [], ◌∷◌, length, refl, sym, ◌∙◌, ap, arith}
use Rattle.std.proofs.lemmas.Option.{get_or_from_slice_get}
use Rattle.std.specs.Prelude.{slice_get, Option, Some, None}
use Rattle.hc_signal.specs.declared.signal.NodeId.{NodeId}
use Rattle.hc_signal.specs.declared.signal.NodeRow.{NodeRow}
use Rattle.hc_signal.specs.declared.signal.Node.{Node}
use Rattle.hc_signal.specs.declared.signal.Node.TheVariants.{Input, Wire, Const, Two, Not, Mux, Cat, Select, Reg, Read, InstOut, Op}
use Rattle.hc_signal.specs.Graph.{Graph}
use Rattle.hc_signal.specs.Renumber.{Renumbering, node_by}
use Rattle.hc_signal.specs.Tree.{Tree, kid}
use Rattle.hc_signal.specs.Occurrences.{tree_at, graph_at, is_port_alias}
use Rattle.hc_canon.specs.Numbering.{count_from}
use Rattle.hc_dbstate.proofs.Triples.{some_once}
use Rattle.hc_flatten.specs.declared.place.Place.{Place}
use Rattle.hc_flatten.specs.Flattened.{number_of, numbers_from, numbering, input_number, passes_on}
use Rattle.hc_flatten.proofs.Blocks.{place_at}

abbrev pub numbers_at : Tree → List ℕ → Renumbering
numbers_at t path = numbering (place_at t path) (graph_at t path) (λ j. kid (tree_at t path) j)

numbers_of_row : (p : Place) (g : Graph) (kids : ℕ → Tree) (rows : List NodeRow) (a k : ℕ) (row : NodeRow) → slice_get rows k ≡ Some row
    → slice_get (numbers_from p g kids a rows) k ≡ Some (number_of p g kids (a + k) row.node)
numbers_of_row p g kids [] a k row e = cc
numbers_of_row p g kids (x ∷ rows) a zero row e = (let q : a ≡ a + zero = omega arith in ap (λ n. Some (number_of p g kids n x.node)) q)
    ∙ ap (λ (y : NodeRow). Some (number_of p g kids (a + zero) y.node)) (some_once e)
numbers_of_row p g kids (x ∷ rows) a (suc k) row e = numbers_of_row p g kids rows (suc a) k row e ∙ (let q : suc a + k ≡ a + suc k = omega arith in ap (λ n. Some (number_of p g kids n row.node)) q)

pub node_number : (t : Tree) (path : List ℕ) (n : ℕ) (row : NodeRow) → slice_get (graph_at t path).nodes n ≡ Some row
    → (numbers_at t path).node n ≡ number_of (place_at t path) (graph_at t path) (λ j. kid (tree_at t path) j) n row.node
node_number t path n row e =
    get_or_from_slice_get _ n _ 0 (numbers_of_row (place_at t path) (graph_at t path) (λ j. kid (tree_at t path) j) (graph_at t path).nodes 0 n row e)
    ∙ (let q : 0 + n ≡ n = omega arith in ap (λ k. number_of (place_at t path) (graph_at t path) (λ j. kid (tree_at t path) j) k row.node) q)

count_at : (n a k : ℕ) → k < n → slice_get (count_from a n) k ≡ Some (a + k)
count_at zero a k b = absurd (omega (arith, b))
count_at (suc n) a zero b = (let q : a ≡ a + zero = omega arith in ap Some q)
count_at (suc n) a (suc k) b = (let c : k < n = omega (arith, b) in count_at n (suc a) k c) ∙ (let q : suc a + k ≡ a + suc k = omega arith in ap Some q)

pub counted_at : (n a k : ℕ) → k < n → slice_get (count_from a n) k ≡ Some (a + k)
counted_at = count_at

pub memory_number : (t : Tree) (path : List ℕ) (m : ℕ) → m < length (graph_at t path).memories → (numbers_at t path).mem m ≡ (place_at t path).memories + m
memory_number t path m b = get_or_from_slice_get _ m _ 0 (count_at (length (graph_at t path).memories) (place_at t path).memories m b)

own_number : (p : Place) (g : Graph) (kids : ℕ → Tree) (n : ℕ) (o : Option (List NodeId)) → p.inputs ≡ o → (x : Node) → passes_on o x ≡ false → number_of p g kids n x ≡ p.nodes + n
own_number p g kids n None q (Input port) e = ap (λ inputs. input_number inputs port (p.nodes + n)) q
own_number p g kids n (Some ids) q (Input port) e = cc
own_number p g kids n o q (Wire w1) e = refl
own_number p g kids n o q (Const w1) e = refl
own_number p g kids n o q (Two w1 w2 w3) e = refl
own_number p g kids n o q (Not w1) e = refl
own_number p g kids n o q (Mux w1 w2) e = refl
own_number p g kids n o q (Cat w1) e = refl
own_number p g kids n o q (Select w1 w2 w3) e = refl
own_number p g kids n o q (Reg w1 w2 w3 w4) e = refl
own_number p g kids n o q (Read w1 w2) e = refl
own_number p g kids n None q (InstOut w1 w2) e = cc
own_number p g kids n (Some ids) q (InstOut w1 w2) e = cc
own_number p g kids n o q (Op w1 w2) e = refl

alias_same : (t : Tree) (path : List ℕ) (x : Node) → is_port_alias path x ≡ passes_on (place_at t path).inputs x
alias_same t [] (Input port) = refl
alias_same t (i0 ∷ path) (Input port) = refl
alias_same t [] (Wire w1) = refl
alias_same t (i0 ∷ path) (Wire w1) = refl
alias_same t [] (Const w1) = refl
alias_same t (i0 ∷ path) (Const w1) = refl
alias_same t [] (Two w1 w2 w3) = refl
alias_same t (i0 ∷ path) (Two w1 w2 w3) = refl
alias_same t [] (Not w1) = refl
alias_same t (i0 ∷ path) (Not w1) = refl
alias_same t [] (Mux w1 w2) = refl
alias_same t (i0 ∷ path) (Mux w1 w2) = refl
alias_same t [] (Cat w1) = refl
alias_same t (i0 ∷ path) (Cat w1) = refl
alias_same t [] (Select w1 w2 w3) = refl
alias_same t (i0 ∷ path) (Select w1 w2 w3) = refl
alias_same t [] (Reg w1 w2 w3 w4) = refl
alias_same t (i0 ∷ path) (Reg w1 w2 w3 w4) = refl
alias_same t [] (Read w1 w2) = refl
alias_same t (i0 ∷ path) (Read w1 w2) = refl
alias_same t [] (InstOut w1 w2) = refl
alias_same t (i0 ∷ path) (InstOut w1 w2) = refl
alias_same t [] (Op w1 w2) = refl
alias_same t (i0 ∷ path) (Op w1 w2) = refl

pub passed_same : (t : Tree) (path : List ℕ) (x : Node) → passes_on (place_at t path).inputs x ≡ is_port_alias path x
passed_same t path x = sym (alias_same t path x)

-- a flat node keeps its own number
pub flat_number : (t : Tree) (path : List ℕ) (n : ℕ) (row : NodeRow) → slice_get (graph_at t path).nodes n ≡ Some row → is_port_alias path row.node ≡ false
    → (numbers_at t path).node n ≡ (place_at t path).nodes + n
flat_number t path n row e f = node_number t path n row e ∙ own_number (place_at t path) (graph_at t path) (λ j. kid (tree_at t path) j) n (place_at t path).inputs refl row.node
    (passed_same t path row.node ∙ f)

-- the numbers of instances do not matter to a flat row
pub same_numbers_row : (f g a b : ℕ → ℕ) (path : List ℕ) (x : Node) → is_port_alias path x ≡ false
    → node_by (record { node = f; mem = g; inst = a }) x ≡ node_by (record { node = f; mem = g; inst = b }) x
same_numbers_row f g a b path (Input port) e = refl
same_numbers_row f g a b path (Wire w1) e = refl
same_numbers_row f g a b path (Const w1) e = refl
same_numbers_row f g a b path (Two w1 w2 w3) e = refl
same_numbers_row f g a b path (Not w1) e = refl
same_numbers_row f g a b path (Mux w1 w2) e = refl
same_numbers_row f g a b path (Cat w1) e = refl
same_numbers_row f g a b path (Select w1 w2 w3) e = refl
same_numbers_row f g a b path (Reg w1 w2 w3 w4) e = refl
same_numbers_row f g a b path (Read w1 w2) e = refl
same_numbers_row f g a b path (InstOut w1 w2) e = cc
same_numbers_row f g a b path (Op w1 w2) e = refl
