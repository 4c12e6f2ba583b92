-- Names that mean something of a graph, while the graph grows.
use Rattle.std.proofs.Common.{◌≡◌, ◌<◌, Bool, true, false, cond, List, [], ◌∷◌, length, sym, subst, arith}
use Rattle.std.specs.Prelude.{Some}
use Rattle.hc_signal.specs.declared.signal.NodeId.{NodeId}
use Rattle.hc_signal.specs.declared.signal.MemId.{MemId}
use Rattle.hc_signal.specs.declared.signal.InstId.{InstId}
use Rattle.hc_signal.specs.declared.signal.Memory.{Memory}
use Rattle.hc_signal.specs.declared.signal.Instance.{Instance}
use Rattle.hc_signal.specs.Graph.{Graph}
use Rattle.hc_signal.specs.Member.{first, later}
use Rattle.hc_signal.specs.Builds.{IsNode, IsMemory, IsInstance}
use Rattle.hc_unfold.specs.Names.{Names, Key, Target, AreKnown, IsThere, meaning, same_key}
use Rattle.hc_unfold.specs.declared.names.Target.TheVariants as target
use Rattle.hc_unfold.specs.Gives.{Grows}

pub known_meaning : (names : Names) (key : Key) (t : Target) (g : Graph) → meaning names key ≡ Some t → AreKnown g names → IsThere g t
known_meaning [] key t g e known = absurd cc
known_meaning (n ∷ names) key t g e known = by (same_key key n.0) e (λ is. known_meaning names key t g is (λ m has. known m (later has)))
  where
    by : (b : Bool) → cond b (Some n.1) (meaning names key) ≡ Some t → (meaning names key ≡ Some t → IsThere g t) → IsThere g t
    by true is more = let same : n.1 ≡ t = cc in subst (λ (x : Target). IsThere g x) same (known n first)
    by false is more = more is

pub known_node : (names : Names) (key : Key) (id : NodeId) (g : Graph) → meaning names key ≡ Some (target.Node id) → AreKnown g names → IsNode g id
known_node names key id g e known = known_meaning names key (target.Node id) g e known

pub known_memory : (names : Names) (key : Key) (id : MemId) (g : Graph) → meaning names key ≡ Some (target.Memory id) → AreKnown g names → IsMemory g id
known_memory names key id g e known = known_meaning names key (target.Memory id) g e known

pub known_instance : (names : Names) (key : Key) (id : InstId) (g : Graph) → meaning names key ≡ Some (target.Instance id) → AreKnown g names → IsInstance g id
known_instance names key id g e known = known_meaning names key (target.Instance id) g e known

there_still : (t : Target) (g h : Graph) → Grows g h → IsThere g t → IsThere h t
there_still (target.Node id) g h grows there = let more = grows.nodes in omega (arith, more, there)
there_still (target.Memory id) g h grows there = subst (λ (ms : List Memory). id.0 < length ms) (sym grows.memories) there
there_still (target.Instance id) g h grows there = subst (λ (is : List Instance). id.0 < length is) (sym grows.instances) there

-- what names mean stays there while the graph grows
pub known_still : (names : Names) (g h : Graph) → AreKnown g names → Grows g h → AreKnown h names
known_still names g h known grows n has = there_still n.1 g h grows (known n has)
