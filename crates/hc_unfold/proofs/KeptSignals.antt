-- A signal that is drawn keeps the form of a graph.
use Rattle.std.proofs.Common.{◌≡◌, ℕ, ◌+◌, ◌<◌, Bool, true, false, cond, List, [], ◌∷◌, length, refl, subst, arith}
use Rattle.std.specs.Prelude.{Option, Some, None, Result, Ok, Err, ℤ, slice_get}
use Rattle.hc_fault.specs.declared.fault.FaultKind.{FaultKind}
use Rattle.hc_fault.specs.declared.fault.FaultKind.TheVariants.{UnknownName, UnknownOp, UnknownPort}
use Rattle.hc_bits.specs.Catalogue.{find_kind}
use Rattle.hc_signal.specs.Member.{first, later}
use Rattle.hc_signal.specs.declared.signal.InstId.{InstId}
use Rattle.hc_signal.specs.declared.signal.MemId.{MemId}
use Rattle.hc_signal.specs.declared.signal.NodeId.{NodeId}
use Rattle.hc_signal.specs.declared.signal.NodeRow.{NodeRow}
use Rattle.hc_signal.specs.Graph.{Graph}
use Rattle.hc_signal.specs.Builds.{AreNodes, IsMemory, IsNode}
use Rattle.hc_unfold.specs.Formed.{IsFormed}
use Rattle.hc_unfold.specs.Gives.{Grows}
use Rattle.hc_unfold.specs.Names.{AreKnown, Key, Names, Target, as_instance, as_memory, as_node, meaning}
use Rattle.hc_unfold.specs.declared.names.Target.TheVariants as target
use Rattle.hc_unfold.specs.Signals.{Call, Named, Op, Output, Place, Read, Signal, Signals, Sized, more, none}
use Rattle.hc_unfold.specs.Drawing.{and_then, answer, constant, demand, found, given, literal, read, ◌>>=◌}
use Rattle.hc_unfold.specs.Places.{key, meant, numbers}
use Rattle.hc_unfold.specs.Outputs.{instance_output, output_from, output_node, output_place, stands_for}
use Rattle.hc_unfold.specs.Calls.{called, operated}
use Rattle.hc_unfold.specs.Nodes.{node_of, nodes_of, operation_named, output_of, read_from, sized}
use Rattle.hc_unfold.proofs.Known.{known_meaning, known_still}
use Rattle.hc_unfold.proofs.Keeping.{Keeps, kept_answer, kept_demand, kept_given, kept_then, node_still, nodes_still}
use Rattle.hc_unfold.proofs.KeptPrimitives.{IsOfWidth, bits_of_literal, kept_constant, kept_read}
use Rattle.hc_unfold.proofs.KeptCalls.{kept_called, kept_operated}

-- ---- what names mean

as_node_is : (names : Names) (k : Key) (g : Graph) → AreKnown g names → (t : Option Target) → meaning names k ≡ t → (id : NodeId) → as_node t ≡ Some id → IsNode g id
as_node_is names k g known (Some (target.Node n)) is id e = let same : n ≡ id = cc in subst (IsNode g) same (known_meaning names k (target.Node n) g is known)
as_node_is names k g known (Some (target.Memory n)) is id e = absurd cc
as_node_is names k g known (Some (target.Instance n)) is id e = absurd cc
as_node_is names k g known None is id e = absurd cc

as_memory_is : (names : Names) (k : Key) (g : Graph) → AreKnown g names → (t : Option Target) → meaning names k ≡ t → (id : MemId) → as_memory t ≡ Some id → IsMemory g id
as_memory_is names k g known (Some (target.Memory n)) is id e = let same : n ≡ id = cc in subst (IsMemory g) same (known_meaning names k (target.Memory n) g is known)
as_memory_is names k g known (Some (target.Node n)) is id e = absurd cc
as_memory_is names k g known (Some (target.Instance n)) is id e = absurd cc
as_memory_is names k g known None is id e = absurd cc

meant_node : (names : Names) (g : Graph) → AreKnown g names → (p : Place) (id : NodeId) → meant names as_node p ≡ Ok id → IsNode g id
meant_node names g known p id e = by (key p) e
  where
    there : (k : Key) (o : Option NodeId) → as_node (meaning names k) ≡ o → found UnknownName o ≡ Ok id → IsNode g id
    there k (Some n) is e' = let same : n ≡ id = cc in subst (IsNode g) same (as_node_is names k g known (meaning names k) refl n is)
    there k None is e' = absurd cc

    by : (r : Result Key FaultKind) → and_then r (λ k. found UnknownName (as_node (meaning names k))) ≡ Ok id → IsNode g id
    by (Ok k) e' = there k (as_node (meaning names k)) refl e'
    by (Err kind) e' = absurd cc

-- ---- outputs of instances

output_within : (n : ℕ) (i : InstId) (port : ℕ) (rows : List NodeRow) (id : NodeId) → output_from n i port rows ≡ Some id → id.0 < n + length rows
output_within n i port [] id e = absurd cc
output_within n i port (row ∷ rows) id e = by (stands_for i port row.node) e (λ later'. output_within (n + 1) i port rows id later')
  where
    by : (b : Bool) → cond b (Some (record { 0 = n })) (output_from (n + 1) i port rows) ≡ Some id
        → (output_from (n + 1) i port rows ≡ Some id → id.0 < n + 1 + length rows) → id.0 < n + length (row ∷ rows)
    by true is rest = let same : ◌≡◌ {A = NodeId} (record { 0 = n }) id = cc in subst (λ (x : NodeId). x.0 < n + length (row ∷ rows)) same (omega arith)
    by false is rest = let less : id.0 < n + 1 + length rows = rest is in omega (arith, less)

output_is_node : (g : Graph) (i : InstId) (name : List ℕ) (id : NodeId) → instance_output i name g ≡ Ok id → IsNode g id
output_is_node g i name id e = placed (output_place name (slice_get g.instances i.0)) e
  where
    there : (o : Option NodeId) → ((x : NodeId) → o ≡ Some x → IsNode g x) → found UnknownPort o ≡ Ok id → IsNode g id
    there (Some x) is e' = let same : x ≡ id = cc in subst (IsNode g) same (is x refl)
    there None is e' = absurd cc

    placed : (at : Option ℕ) → found UnknownPort (output_node g i at) ≡ Ok id → IsNode g id
    placed (Some port) e' = there (output_from 0 i port g.nodes) (λ x is. (let less : x.0 < 0 + length g.nodes = output_within 0 i port g.nodes x is in omega (arith, less))) e'
    placed None e' = absurd cc

-- ---- signals

abbrev Any : {A : Type 0} → Graph → A → Type 0
Any g x = Unit {0}

kept_sized : (g : Graph) → IsFormed g → (w : ℤ) (v : ℕ) → Keeps g IsNode (sized w v g)
kept_sized g l w v = kept_then g (λ h x. IsOfWidth x) IsNode (given (literal w v) g) constant (kept_given g (λ h x. IsOfWidth x) (literal w v) l (λ x e. bits_of_literal w v x e))
    (λ h x lh gh is. kept_constant h lh x is)

kept_named : (g : Graph) → IsFormed g → (name : List ℕ) (xs : List NodeId) → AreNodes g xs → Keeps g IsNode (operation_named name xs g)
kept_named g l name xs nodes = kept_then g Any IsNode (demand UnknownOp (find_kind name) g) (λ kind. operated kind xs)
    (kept_demand g Any UnknownOp (find_kind name) l (λ kind e. tt)) (λ h kind lh gh any. kept_operated h lh kind xs (nodes_still g h xs gh nodes))

one_more : (g : Graph) (x : NodeId) (xs : List NodeId) → IsNode g x → AreNodes g xs → AreNodes g (x ∷ xs)
one_more g x xs nx nodes id first = nx
one_more g x xs nx nodes id (later has) = nodes id has

module _ (names : Names) where
  kept_output : (g : Graph) → IsFormed g → (p : Place) (name : List ℕ) → Keeps g IsNode (output_of names p name g)
  kept_output g l p name = kept_then g Any IsNode (given (meant names as_instance p) g) (λ i h. given (instance_output i name h) h) (kept_given g Any (meant names as_instance p) l (λ i e. tt))
      (λ h i lh gh any. kept_given h IsNode (instance_output i name h) lh (λ id e. output_is_node h i name id e))

  kept_read_from : (g : Graph) → IsFormed g → AreKnown g names → (k : Key) (x : NodeId) → IsNode g x → Keeps g IsNode (read_from names k x g)
  kept_read_from g l known k x nx = kept_then g IsMemory IsNode (demand UnknownName (as_memory (meaning names k)) g) (λ m. read m x)
      (kept_demand g IsMemory UnknownName (as_memory (meaning names k)) l (λ m e. as_memory_is names k g known (meaning names k) refl m e))
      (λ h m lh gh there. kept_read h lh m x there (node_still g h x gh nx))

  mutual
    pub kept_node : (s : Signal) (g : Graph) → IsFormed g → AreKnown g names → Keeps g IsNode (node_of names s g)
    kept_node (Sized w v) g l known = kept_sized g l w v
    kept_node (Named p) g l known = kept_given g IsNode (meant names as_node p) l (λ id e. meant_node names g known p id e)
    kept_node (Output p name) g l known = kept_output g l p name
    kept_node (Call word ss ns) g l known =
        kept_then g AreNodes IsNode (nodes_of names ss g) (λ xs. given (numbers ns) >>= called word xs) (kept_nodes ss g l known)
        (λ h xs lh gh nodes. kept_then h Any IsNode (given (numbers ns) h) (called word xs) (kept_given h Any (numbers ns) lh (λ zs e. tt))
        (λ i zs li gi any. kept_called i li word xs zs (nodes_still h i xs gi nodes)))
    kept_node (Read p a) g l known =
        kept_then g Any IsNode (given (key p) g) (λ k. node_of names a >>= read_from names k) (kept_given g Any (key p) l (λ k e. tt))
        (λ h k lh gh any. kept_then h IsNode IsNode (node_of names a h) (read_from names k) (kept_node a h lh (known_still names g h known gh))
        (λ i x li gi nx. kept_read_from i li (known_still names h i (known_still names g h known gh) gi) k x nx))
    kept_node (Op name ss) g l known =
        kept_then g AreNodes IsNode (nodes_of names ss g) (operation_named name) (kept_nodes ss g l known)
        (λ h xs lh gh nodes. kept_named h lh name xs nodes)

    pub kept_nodes : (ss : Signals) (g : Graph) → IsFormed g → AreKnown g names → Keeps g AreNodes (nodes_of names ss g)
    kept_nodes none g l known = kept_answer g AreNodes [] l (λ id has. elim has [ ])
    kept_nodes (more s ss) g l known =
        kept_then g IsNode AreNodes (node_of names s g) (λ x. nodes_of names ss >>= (λ xs. answer (x ∷ xs))) (kept_node s g l known)
        (λ h x lh gh nx. kept_then h AreNodes AreNodes (nodes_of names ss h) (λ xs. answer (x ∷ xs)) (kept_nodes ss h lh (known_still names g h known gh))
        (λ i xs li gi nodes. kept_answer i AreNodes (x ∷ xs) li (one_more i x xs (node_still h i x gi nx) nodes)))

pub drawn_keeps : (names : Names) (s : Signal) (g h : Graph) (id : NodeId) → IsFormed g → AreKnown g names → node_of names s g ≡ Ok (h, id) → IsFormed h × Grows g h × IsNode h id
drawn_keeps names s g h id l known e = subst (Keeps g IsNode) e (kept_node names s g l known)
