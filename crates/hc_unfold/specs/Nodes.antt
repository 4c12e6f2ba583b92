-- The node of a signal: its parts from left to right, each with its faults, and then its own rules.
use Rattle.std.specs.Prelude.{ℕ, List, [], ◌∷◌, ℤ}
use Rattle.hc_fault.specs.declared.fault.FaultKind.TheVariants.{UnknownName, UnknownOp}
use Rattle.hc_bits.specs.Catalogue.{find_kind}
use Rattle.hc_signal.specs.declared.signal.NodeId.{NodeId}
use Rattle.hc_unfold.specs.Signals.{Place, Signal, Signals, Sized, Named, Output, Call, Read, Op, none, more}
use Rattle.hc_unfold.specs.Names.{Names, Key, meaning, as_node, as_memory, as_instance}
use Rattle.hc_unfold.specs.Drawing.{Draws, ◌>>=◌, answer, given, demand, literal, constant, read}
use Rattle.hc_unfold.specs.Places.{key, meant, numbers}
use Rattle.hc_unfold.specs.Outputs.{instance_output}
use Rattle.hc_unfold.specs.Calls.{called, operated}

abbrev pub sized : ℤ → ℕ → Draws NodeId
sized w v = given (literal w v) >>= constant

abbrev pub operation_named : List ℕ → List NodeId → Draws NodeId
operation_named name xs = demand UnknownOp (find_kind name) >>= (λ kind. operated kind xs)

module _ (names : Names) where
  -- an output of the instance that a place means
  abbrev pub output_of : Place → List ℕ → Draws NodeId
  output_of p name = given (meant names as_instance p) >>= (λ i g. given (instance_output i name g) g)

  abbrev pub read_from : Key → NodeId → Draws NodeId
  read_from k x = demand UnknownName (as_memory (meaning names k)) >>= (λ m. read m x)

  abbrev mutual
    pub node_of : Signal → Draws NodeId
    node_of (Sized w v) = sized w v
    node_of (Named p) = given (meant names as_node p)
    node_of (Output p name) = output_of p name
    node_of (Call word ss ns) = nodes_of ss >>= (λ xs. given (numbers ns) >>= called word xs)
    -- the memory is looked up after the address
    node_of (Read p a) = given (key p) >>= (λ k. node_of a >>= read_from k)
    node_of (Op name ss) = nodes_of ss >>= operation_named name

    -- their nodes, in order
    pub nodes_of : Signals → Draws (List NodeId)
    nodes_of none = answer []
    nodes_of (more s ss) = node_of s >>= (λ x. nodes_of ss >>= (λ xs. answer (x ∷ xs)))
