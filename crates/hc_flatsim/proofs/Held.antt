-- The state of a flat simulator is one of its circuit.
use Rattle.std.proofs.Common.{◌≡◌, ℕ, suc, ◌⊎◌, inl, inr, List, [], ◌∷◌, map, length, refl, sym, subst, ◌∙◌, ap, arith, Bool, true, false}
use Rattle.std.specs.Prelude.{◌≢◌, if◌then◌else◌, slice_get, Option, Some, None}
use Rattle.std.proofs.lemmas.Option.{slice_get-map}
use Rattle.std.proofs.lemmas.List.{length-map, length-replicate}
use Rattle.std.proofs.lemmas.Bool.Decides.{eqb_tells}
use Rattle.std.proofs.Math.Dec.{eqb}
use Rattle.hc_bits.specs.BitVector.{BitVector}
use Rattle.hc_signal.specs.Member.{Has, first, later}
use Rattle.hc_signal.specs.declared.signal.NodeId.{NodeId}
use Rattle.hc_signal.specs.declared.signal.MemId.{MemId}
use Rattle.hc_signal.specs.declared.signal.NodeRow.{NodeRow}
use Rattle.hc_signal.specs.declared.signal.Memory.{Memory}
use Rattle.hc_signal.specs.declared.signal.Node.{Node}
use Rattle.hc_signal.specs.declared.signal.Node.TheVariants.{Input, Wire, Const, Two, Not, Mux, Cat, Select, Reg, Read, InstOut, Op}
use Rattle.hc_signal.specs.Graph.{Graph, node, mem, inst, Reached}
use Rattle.hc_signal.specs.Lawful.{IsLawful}
use Rattle.hc_signal.specs.Tree.{leaf}
use Rattle.hc_signal.specs.Occurrences.{Occurrence, IsReachedPath}
use Rattle.hc_walk.proofs.Members.{has_map, has_from_map}
use Rattle.hc_walk.proofs.InRange.{HasRow, reached_row}
use Rattle.hc_walk.proofs.Walks.{one_place}
use Rattle.hc_paths.specs.Digraph.{AllDifferent}
use Rattle.hc_bench.specs.Simulation.{look_up, IsRegister, IsMemory, IsStateOf}
use Rattle.hc_flatsim.specs.Machine.{Machine, IsMachine, at_node, is_register, is_register_row, registers_among, state_of, number_at, numbers, words_at, words_of, widths, memory_widths}
use Rattle.hc_flatsim.proofs.Settled.{place}
use Rattle.hc_flatsim.proofs.Shapes.{some_item, found}

-- ---- no instance is reached

no_inst : (g : Graph) → IsLawful g → g.instances ≡ [] → (i : ℕ) → Reached g (inst i) → ⊥
no_inst g l e i r =
    let x : HasRow g (inst i) = reached_row g l r in
    let h : None ≡ Some x.0 = sym (ap (λ s. slice_get s i) e) ∙ x.1 in absurd (cc)

pub no_path : (g : Graph) → IsLawful g → g.instances ≡ [] → (i : ℕ) (p : List ℕ) → IsReachedPath (leaf g) (i ∷ p) → ⊥
no_path g l e i [] r = no_inst g l e i r.1
no_path g l e i (j ∷ p) r = no_path g l e j p r.0

-- ---- what a list of pairs holds

module _ {K X : Type 0} (key : K → ℕ) (d : X) (f : ℕ → X) where
  abbrev pairs : List K → List (Occurrence × X)
  pairs ids = map (λ (id : K). (at_node (key id), f (key id))) ids

  not_first : (ids : List K) (id k : K) → (key id ≢ key k) → Has (id ∷ ids) k → Has ids k
  not_first ids id _ u first = absurd (u refl)
  not_first ids id k u (later c) = c

  pub held : (ids : List K) (k : K) → Has ids k → look_up d (pairs ids) (at_node (key k)) ≡ f (key k)
  held [] k h = elim h [ ]
  held (id ∷ ids) k h = go (eqb_tells (key id) (key k)) (λ u. held ids k (not_first ids id k u h))
    where
      go : ((eqb (key id) (key k) ≡ true) × (key id ≡ key k)) ⊎ ((eqb (key id) (key k) ≡ false) × (key id ≢ key k)) → ((key id ≢ key k) → look_up d (pairs ids) (at_node (key k)) ≡ f (key k))
          → (if eqb (key id) (key k) then f (key id) else look_up d (pairs ids) (at_node (key k))) ≡ f (key k)
      go (inl t) more = ap (λ (b : Bool). if b then f (key id) else look_up d (pairs ids) (at_node (key k))) t.0 ∙ ap f t.1
      go (inr u) more = ap (λ (b : Bool). if b then f (key id) else look_up d (pairs ids) (at_node (key k))) u.0 ∙ more u.1

-- ---- lists without a repeated item

pub once_differ : {X : Type 0} (xs : List X) → ((i j : ℕ) (x : X) → slice_get xs i ≡ Some x → slice_get xs j ≡ Some x → i ≡ j) → AllDifferent xs
once_differ [] once = tt
once_differ {X} (x ∷ xs) once = (alone, once_differ xs (λ i j y a b. let e : suc i ≡ suc j = once (suc i) (suc j) y a b in omega (arith, e)))
  where
    alone : ¬ Has xs x
    alone h =
        let k : (k : ℕ) × (slice_get xs k ≡ Some x) = place xs x h in
        let e : 0 ≡ suc k.0 = once 0 (suc k.0) x refl k.1 in absurd (omega (arith, e))

pub keys_differ : {K : Type 0} (key : K → ℕ) → ((a b : K) → key a ≡ key b → a ≡ b) → (ids : List K) → AllDifferent ids → AllDifferent (map key ids)
keys_differ key one [] d = tt
keys_differ {K} key one (id ∷ ids) d = (alone, keys_differ key one ids d.1)
  where
    alone : ¬ Has (map key ids) (key id)
    alone h = let u : (x : K) × Has ids x × (key x ≡ key id) = has_from_map key ids (key id) h in d.0 (subst (λ z. Has ids z) (one u.0 id u.2) u.1)

pub one_node : (a b : NodeId) → a.0 ≡ b.0 → a ≡ b
one_node a b e = ap (λ (n : ℕ). let z : NodeId = record { 0 = n } in z) e

pub one_memory : (a b : MemId) → a.0 ≡ b.0 → a ≡ b
one_memory a b e = ap (λ (n : ℕ). let z : MemId = record { 0 = n } in z) e

-- ---- registers among nodes

module _ (g : Graph) where
  abbrev is_at : NodeId → Bool
  is_at id = is_register_row (slice_get g.nodes id.0)

  later_if : (b : Bool) (x : NodeId) (l : List NodeId) (id : NodeId) → Has l id → Has (if b then x ∷ l else l) id
  later_if true x l id h = later h
  later_if false x l id h = h

  pub among_has : (ids : List NodeId) (id : NodeId) → Has ids id → is_at id ≡ true → Has (registers_among g ids) id
  among_has [] id h t = elim h [ ]
  among_has (x ∷ ids) _ first t = subst (λ l. Has l x) (sym (ap (λ (b : Bool). if b then x ∷ registers_among g ids else registers_among g ids) t)) first
  among_has (x ∷ ids) id (later h) t = later_if (is_at x) x (registers_among g ids) id (among_has ids id h t)

  from_if : (b : Bool) (x : NodeId) (l ids : List NodeId) (id : NodeId) → is_at x ≡ b → (Has l id → Has ids id × (is_at id ≡ true)) → Has (if b then x ∷ l else l) id
      → Has (x ∷ ids) id × (is_at id ≡ true)
  from_if true x l ids _ e more first = (first, e)
  from_if true x l ids id e more (later h) = (later (more h).0, (more h).1)
  from_if false x l ids id e more h = (later (more h).0, (more h).1)

  pub has_among : (ids : List NodeId) (id : NodeId) → Has (registers_among g ids) id → Has ids id × (is_at id ≡ true)
  has_among [] id h = elim h [ ]
  has_among (x ∷ ids) id h = from_if (is_at x) x (registers_among g ids) ids id refl (λ c. has_among ids id c) h

  differ_if : (b : Bool) (x : NodeId) (l : List NodeId) → ¬ Has l x → AllDifferent l → AllDifferent (if b then x ∷ l else l)
  differ_if true x l n d = (n, d)
  differ_if false x l n d = d

  pub among_differ : (ids : List NodeId) → AllDifferent ids → AllDifferent (registers_among g ids)
  among_differ [] d = tt
  among_differ (x ∷ ids) d = differ_if (is_at x) x (registers_among g ids) (λ h. d.0 (has_among ids x h).0) (among_differ ids d.1)

abbrev IsReg : Node → Type 0
IsReg x = (next : NodeId) × (enable : Option NodeId) × (clear : Option (NodeId × BitVector)) × (init : BitVector) × (x ≡ Reg next enable clear init)

is_reg : (x : Node) → is_register x ≡ true → IsReg x
is_reg (Reg next enable clear init) e = (next, enable, clear, init, refl)
is_reg (Input port) e = absurd (cc)
is_reg (Wire driver) e = absurd (cc)
is_reg (Const value) e = absurd (cc)
is_reg (Two op i j) e = absurd (cc)
is_reg (Not i) e = absurd (cc)
is_reg (Mux sel cases) e = absurd (cc)
is_reg (Cat parts) e = absurd (cc)
is_reg (Select i hi lo) e = absurd (cc)
is_reg (Read m addr) e = absurd (cc)
is_reg (InstOut i port) e = absurd (cc)
is_reg (Op kind args) e = absurd (cc)

-- ---- the state

module _ (m : Machine) (is : IsMachine m) where
  abbrev pair : NodeId → Occurrence × ℕ
  pair id = (at_node id.0, number_at m.registers id.0)

  abbrev mem_pair : MemId → Occurrence × List ℕ
  mem_pair id = (at_node id.0, numbers (words_at m.memories id.0))

  abbrev regs : List NodeId
  regs = registers_among m.graph m.order

  pub order_differ : AllDifferent m.order
  order_differ = once_differ m.order is.schedule.once

  reg_to : (p : List ℕ) (n : ℕ) → IsRegister (leaf m.graph) (record { path = p; node = n }) → (x : ℕ) × Has (state_of m).registers (record { path = p; node = n }, x)
  reg_to [] n r =
      (number_at m.registers n, has_map pair (among_has m.graph m.order (record { 0 = n }) ((is.schedule.all (record { 0 = n })).1 r.5.1) (ap is_register_row r.6 ∙ ap is_register r.7)))
  reg_to (i ∷ p) n r = absurd (no_path m.graph is.lawful is.flat.instances i p r.5.0)

  -- a register of the list is one of the circuit
  pub reg_row : (id : NodeId) → Has regs id → (row : NodeRow) × (slice_get m.graph.nodes id.0 ≡ Some row) × IsReg row.node × Reached m.graph (node id.0)
  reg_row id h =
      let u : Has m.order id × (is_register_row (slice_get m.graph.nodes id.0) ≡ true) = has_among m.graph m.order id h in
      let r : Reached m.graph (node id.0) = (is.schedule.all id).0 u.0 in
      let x : HasRow m.graph (node id.0) = reached_row m.graph is.lawful r in
      (x.0, x.1, is_reg x.0.node (sym (ap is_register_row x.1) ∙ u.1), r)

  reg_from : (s : Occurrence) (x : ℕ) → Has (state_of m).registers (s, x) → IsRegister (leaf m.graph) s
  reg_from s x h =
      let u : (id : NodeId) × Has regs id × (pair id ≡ (s, x)) = has_from_map pair regs (s, x) h in
      let r = reg_row u.0 u.1 in
      let it : IsRegister (leaf m.graph) (at_node u.0.0) = (r.0, r.2.0, r.2.1, r.2.2, r.2.3, (tt, r.3), r.1, r.2.4) in
      subst (λ (z : Occurrence). IsRegister (leaf m.graph) z) (ap (λ (q : Occurrence × ℕ). q.0) u.2) it

  abbrev At : {X : Type 0} → List (Occurrence × X) → ℕ → Occurrence → X → Type 0
  At l i s x = slice_get l i ≡ Some (s, x)

  reg_once : (i j : ℕ) (s : Occurrence) (x y : ℕ) → slice_get (state_of m).registers i ≡ Some (s, x) → slice_get (state_of m).registers j ≡ Some (s, y) → i ≡ j
  reg_once i j s x y a b =
      let u : (id : NodeId) × (slice_get regs i ≡ Some id) × (pair id ≡ (s, x)) = some_item pair (slice_get regs i) (s, x) (sym (slice_get-map pair regs i) ∙ a) in
      let v : (id : NodeId) × (slice_get regs j ≡ Some id) × (pair id ≡ (s, y)) = some_item pair (slice_get regs j) (s, y) (sym (slice_get-map pair regs j) ∙ b) in
      let e : v.0 ≡ u.0 = one_node v.0 u.0 (ap (λ (q : Occurrence × ℕ). q.0.node) v.2 ∙ sym (ap (λ (q : Occurrence × ℕ). q.0.node) u.2)) in
      one_place regs (among_differ m.graph m.order order_differ) i j u.0 u.1 (v.1 ∙ ap Some e)

  -- the words of a memory of the circuit
  pub words_found : (n : ℕ) (row : Memory) → slice_get m.graph.memories n ≡ Some row → (words : List BitVector) × (slice_get m.memories n ≡ Some words) × (widths words ≡ memory_widths row)
  words_found n row at = found widths memory_widths m.memories m.graph.memories n row is.memories at

  words_many : (n : ℕ) (row : Memory) → slice_get m.graph.memories n ≡ Some row → length (numbers (words_at m.memories n)) ≡ row.size
  words_many n row at =
      let w : (words : List BitVector) × (slice_get m.memories n ≡ Some words) × (widths words ≡ memory_widths row) = words_found n row at in
      ap (λ o. length (numbers (words_of o))) w.1 ∙ length-map w.0 (λ (x : BitVector). x.value) ∙ sym (length-map w.0 (λ (x : BitVector). x.width)) ∙ ap length w.2
      ∙ length-replicate row.size row.width

  mem_to : (p : List ℕ) (n size : ℕ) → IsMemory (leaf m.graph) (record { path = p; node = n }) size
      → (words : List ℕ) × Has (state_of m).memories (record { path = p; node = n }, words) × (length words ≡ size)
  mem_to [] n size r =
      (numbers (words_at m.memories n), has_map mem_pair ((is.used (record { 0 = n })).1 r.2), words_many n r.0 r.3 ∙ r.4)
  mem_to (i ∷ p) n size r = absurd (no_path m.graph is.lawful is.flat.instances i p r.1)

  mem_from : (s : Occurrence) (size : ℕ) → (words : List ℕ) × Has (state_of m).memories (s, words) × (length words ≡ size) → IsMemory (leaf m.graph) s size
  mem_from s size h =
      let u : (id : MemId) × Has m.used id × (mem_pair id ≡ (s, h.0)) = has_from_map mem_pair m.used (s, h.0) h.1 in
      let r : Reached m.graph (mem u.0.0) = (is.used u.0).0 u.1 in
      let x : HasRow m.graph (mem u.0.0) = reached_row m.graph is.lawful r in
      let many : x.0.size ≡ size = sym (words_many u.0.0 x.0 x.1) ∙ ap (λ (q : Occurrence × List ℕ). length q.1) u.2 ∙ h.2 in
      let it : IsMemory (leaf m.graph) (at_node u.0.0) size = (x.0, tt, r, x.1, many) in
      subst (λ (z : Occurrence). IsMemory (leaf m.graph) z size) (ap (λ (q : Occurrence × List ℕ). q.0) u.2) it

  mem_once : (i j : ℕ) (s : Occurrence) (x y : List ℕ) → slice_get (state_of m).memories i ≡ Some (s, x) → slice_get (state_of m).memories j ≡ Some (s, y) → i ≡ j
  mem_once i j s x y a b =
      let u : (id : MemId) × (slice_get m.used i ≡ Some id) × (mem_pair id ≡ (s, x)) = some_item mem_pair (slice_get m.used i) (s, x) (sym (slice_get-map mem_pair m.used i) ∙ a) in
      let v : (id : MemId) × (slice_get m.used j ≡ Some id) × (mem_pair id ≡ (s, y)) = some_item mem_pair (slice_get m.used j) (s, y) (sym (slice_get-map mem_pair m.used j) ∙ b) in
      let e : v.0 ≡ u.0 = one_memory v.0 u.0 (ap (λ (q : Occurrence × List ℕ). q.0.node) v.2 ∙ sym (ap (λ (q : Occurrence × List ℕ). q.0.node) u.2)) in
      one_place m.used is.used_once i j u.0 u.1 (v.1 ∙ ap Some e)

  pub is_state : IsStateOf (leaf m.graph) (state_of m)
  is_state = record {
    registers = λ s. (λ r. reg_to s.path s.node r, λ h. reg_from s h.0 h.1);
    register_once = reg_once;
    memories = λ s size. (λ r. mem_to s.path s.node size r, λ h. mem_from s size h);
    memory_once = mem_once;
  }
