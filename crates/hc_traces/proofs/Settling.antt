-- A tree without a loop has one number for each reached node.
use Rattle.std.proofs.Common.{◌≡◌, ℕ, zero, suc, ◌+◌, ◌<◌, ◌≤◌, List, [], ◌∷◌, ◌++◌, map, length, refl, sym, subst, ◌∙◌, ap, ap₂, arith}
use Rattle.std.proofs.lemmas.Option.{slice_get_within}
use Rattle.std.specs.Prelude.{slice_get, slice_index, Option, Some, None, flat_map}
use Rattle.hc_signal.specs.Member.{Has, first, later}
use Rattle.hc_walk.proofs.Members.{has_map, has_left, has_right}
use Rattle.hc_canon.proofs.Finite.{no_more}
use Rattle.hc_canon.proofs.Canonical.{count_has}
use Rattle.hc_walk.proofs.Walks.{AllDifferent}
use Rattle.hc_walk.proofs.InRange.{HasRow, reached_row}
use Rattle.hc_paths.proofs.Composed.{inner, outer, tree_in, reached_in, path_then, step_reached}
use Rattle.hc_signal.specs.declared.signal.NodeId.{NodeId}
use Rattle.hc_signal.specs.declared.signal.NodeRow.{NodeRow}
use Rattle.hc_signal.specs.declared.signal.Node.{Node}
use Rattle.hc_signal.specs.declared.signal.Node.TheVariants.{Input, Wire, Const, Two, Not, Mux, Cat, Select, Reg, Read, InstOut, Op}
use Rattle.hc_bits.specs.Catalogue.{operation}
use Rattle.hc_signal.specs.Operators.{binary}
use Rattle.hc_bits.specs.BitVector.{not_, select, cat_all, mux}
use Rattle.hc_signal.specs.Graph.{Vertex, node, inst, Reached, output, further}
use Rattle.hc_signal.specs.Tree.{Tree, none, tree, graph, kid, empty, IsWhole}
use Rattle.hc_canon.specs.Numbering.{count_from}
use Rattle.hc_signal.specs.Occurrences.{Occurrence, tree_at, graph_at, row_at, NodeIs, IsReachedPath, IsReachedOccurrence, comb_fanin, connection, CombStep, inside, down, up, CombPath, here, on, HasCombLoop}
use Rattle.hc_bench.specs.Simulation.{State, value, input_value, value_at, optional_value, vector_at, width_of, memory_words, IsSettled}

has_flat_map : {X Y : Type 0} (f : X → List Y) (xs : List X) (x : X) (y : Y) → Has xs x → Has (f x) y → Has (flat_map f xs) y
has_flat_map f [] x y h k = elim h [ ]
has_flat_map f (x ∷ xs) _ y first h = has_left (flat_map f xs) h
has_flat_map f (z ∷ xs) x y (later k) h = has_right (f z) (has_flat_map f xs x y k h)

-- a reached occurrence
abbrev pub IsAt : Tree → List ℕ → ℕ → Type 0
IsAt t p n = IsReachedPath t p × Reached (graph_at t p) (node n)

-- Each reached vertex of a whole tree has a row.
reached_empty : {p : Vertex} → Reached empty p → ⊥
reached_empty (output p c) = elim c [ ]
reached_empty (further p q r c) = reached_empty r

pub row_in : (s : Tree) → IsWhole s → {p : Vertex} → Reached (graph s) p → HasRow (graph s) p
row_in none w r = absurd (reached_empty r)
row_in (tree g kids) w r = reached_row g w.0 r

whole_kid : (s : Tree) → IsWhole s → (i : ℕ) → Reached (graph s) (inst i) → IsWhole (kid s i)
whole_kid none w i r = absurd w
whole_kid (tree g kids) w i r = let x : HasRow g (inst i) = reached_row g w.0 r in (w.1 i x.0 x.1).1

pub whole_at : (t : Tree) → IsWhole t → (p : List ℕ) → IsReachedPath t p → IsWhole (tree_at t p)
whole_at t w [] r = w
whole_at t w (i ∷ p) r = whole_kid (tree_at t p) (whole_at t w p r.0) i r.1

-- All occurrences of a tree, in a list.
pub under : ℕ → Occurrence → Occurrence
under i s = record { path = s.path ++ i ∷ []; node = s.node }

abbrev pub occurrences : Tree → List Occurrence
occurrences none = []
occurrences (tree g kids) =
    map (λ n. record { path = []; node = n }) (count_from 0 (length g.nodes)) ++ flat_map (λ i. map (under i) (occurrences (kids i))) (count_from 0 (length g.instances))

none_at : (p : List ℕ) → tree_at none p ≡ none
none_at [] = refl
none_at (i ∷ p) = ap (λ s. kid s i) (none_at p)

path_whole : (j : ℕ) (p : List ℕ) → inner j p ++ outer j p ∷ [] ≡ j ∷ p
path_whole j [] = refl
path_whole j (k ∷ p) = ap (λ l. j ∷ l) (path_whole k p)

reached_outer : (t : Tree) (j : ℕ) (p : List ℕ) → IsReachedPath t (j ∷ p) → Reached (graph t) (inst (outer j p))
reached_outer t j [] r = r.1
reached_outer t j (k ∷ p) r = reached_outer t k p r.0

has_occurrence : (t : Tree) → IsWhole t → (p : List ℕ) (n : ℕ) → IsReachedPath t p → n < length (graph_at t p).nodes → Has (occurrences t) (record { path = p; node = n })
unfolding under
has_occurrence none w p n r l = let h : n < length empty.nodes = subst (λ s. n < length (graph s).nodes) (none_at p) l in absurd (omega (arith, h))
has_occurrence (tree g kids) w [] n r l =
    let z : 0 ≤ n = omega arith in let h : n < 0 + length g.nodes = omega (arith, l) in
    has_left _ (has_map (λ k. record { path = []; node = k }) (count_has (length g.nodes) 0 n z h))
has_occurrence (tree g kids) w (j ∷ p) n r l =
    let i : Reached g (inst (outer j p)) = reached_outer (tree g kids) j p r in
    let x : HasRow g (inst (outer j p)) = reached_row g w.0 i in
    let b : outer j p < length g.instances = slice_get_within g.instances (outer j p) x.0 x.1 in
    let z : 0 ≤ outer j p = omega arith in let h : outer j p < 0 + length g.instances = omega (arith, b) in
    let k : Has (occurrences (kids (outer j p))) (record { path = inner j p; node = n }) =
    has_occurrence (kids (outer j p)) (w.1 (outer j p) x.0 x.1).1 (inner j p) n (reached_in (tree g kids) j p r) (subst (λ s. n < length (graph s).nodes) (tree_in (tree g kids) j p) l) in
    has_right (map (λ n. record { path = []; node = n }) (count_from 0 (length g.nodes)))
    (has_flat_map (λ i. map (under i) (occurrences (kids i))) (count_from 0 (length g.instances)) (outer j p) (record { path = j ∷ p; node = n })
    (count_has (length g.instances) 0 (outer j p) z h)
    (subst (λ q. Has (map (under (outer j p)) (occurrences (kids (outer j p)))) (record { path = q; node = n })) (path_whole j p) (has_map (under (outer j p)) k)))

occurrence_listed : (t : Tree) → IsWhole t → (p : List ℕ) (n : ℕ) → IsAt t p n → Has (occurrences t) (record { path = p; node = n })
occurrence_listed t w p n r =
    let x : HasRow (graph_at t p) (node n) = row_in (tree_at t p) (whole_at t w p r.0) r.1 in
    has_occurrence t w p n r.0 (slice_get_within (graph_at t p).nodes n x.0 x.1)

-- The occurrences on a walk so far, the latest first.
pub data Chain (t : Tree) : List Occurrence → List ℕ → ℕ → Type 0 where
  start : {p : List ℕ} {n : ℕ} → Chain t [] p n
  link : {rs : List Occurrence} {p q : List ℕ} {n m : ℕ} → Chain t rs p n → IsAt t p n → CombStep t p n q m → Chain t (record { path = p; node = n } ∷ rs) q m

abbrev Returns : Tree → Occurrence → List ℕ → ℕ → Type 0
Returns t s q m = IsReachedOccurrence t s × ((next : Occurrence) × CombStep t s.path s.node next.path next.node × CombPath t next.path next.node q m)

chain_returns : (t : Tree) {rs : List Occurrence} {q : List ℕ} {m : ℕ} (s : Occurrence) → Chain t rs q m → Has rs s → Returns t s q m
chain_returns t s start h = elim h [ ]
chain_returns t _ (link {q = q} {m = m} c r x) first = (r, (record { path = q; node = m }, x, here))
chain_returns t s (link c r x) (later h) = let u : _ = chain_returns t s c h in (u.0, (u.1.0, u.1.1, path_then t u.1.2 (on x here)))

module _ (t : Tree) (whole : IsWhole t) (free : ¬ HasCombLoop t) where
  not_in : {rs : List Occurrence} (q : List ℕ) (m : ℕ) → Chain t rs q m → ¬ Has rs (record { path = q; node = m })
  not_in q m c h = let u : Returns t (record { path = q; node = m }) q m = chain_returns t (record { path = q; node = m }) c h in free (record { path = q; node = m }, u.1.0, u.0, u.1.1, u.1.2)

  chain_different : {rs : List Occurrence} {q : List ℕ} {m : ℕ} → Chain t rs q m → AllDifferent rs
  chain_different start = tt
  chain_different (link {p = p} {n = n} c r x) = (not_in p n c, chain_different c)

  chain_listed : {rs : List Occurrence} {q : List ℕ} {m : ℕ} → Chain t rs q m → (s : Occurrence) → Has rs s → Has (occurrences t) s
  chain_listed c s h = let u : _ = chain_returns t s c h in occurrence_listed t whole s.path s.node u.0

  with_last : {rs : List Occurrence} {q : List ℕ} {m : ℕ} → Chain t rs q m → IsAt t q m → (s : Occurrence) → Has (record { path = q; node = m } ∷ rs) s → Has (occurrences t) s
  with_last {q = q} {m = m} c r _ first = occurrence_listed t whole q m r
  with_last c r s (later h) = chain_listed c s h

  -- f more steps are more than any walk from here can have
  abbrev pub Deep : ℕ → List ℕ → ℕ → Type 0
  Deep f p n = (rs : List Occurrence) × Chain t rs p n × IsAt t p n × (length (occurrences t) ≤ f + length rs)

  pub deep_none : (p : List ℕ) (n : ℕ) → Deep 0 p n → ⊥
  deep_none p n d =
      let l : suc (length d.0) ≤ length (occurrences t) = no_more (record { path = p; node = n } ∷ d.0) (occurrences t) (not_in p n d.1, chain_different d.1) (with_last d.1 d.2) in
      let b : length (occurrences t) ≤ 0 + length d.0 = d.3 in omega (arith, l, b)

  pub deep_next : (f : ℕ) (p : List ℕ) (n : ℕ) (q : List ℕ) (m : ℕ) → Deep (suc f) p n → CombStep t p n q m → Deep f q m
  deep_next f p n q m d x =
      let b : length (occurrences t) ≤ suc f + length d.0 = d.3 in
      let c : length (occurrences t) ≤ f + suc (length d.0) = omega (arith, b) in
      (record { path = p; node = n } ∷ d.0, link d.1 d.2 x, step_reached t x d.2, c)

  pub deep_start : (p : List ℕ) (n : ℕ) → IsAt t p n → Deep (length (occurrences t)) p n
  deep_start p n r = let b : length (occurrences t) ≤ length (occurrences t) + 0 = omega arith in ([], start, r, b)

-- The number of a node depends on what it needs alone.
module _ (t : Tree) (state : State) (inputs : List ℕ) (v w : Occurrence → ℕ) (p : List ℕ) (n : ℕ) where
  abbrev Agree : Type 0
  Agree = (q : List ℕ) (m : ℕ) → CombStep t p n q m → v (record { path = q; node = m }) ≡ w (record { path = q; node = m })

  abbrev AgreeOn : List NodeId → Type 0
  AgreeOn ids = (id : NodeId) → Has ids id → value_at v p id ≡ value_at w p id

  on_operands : (x : Node) → NodeIs t p n x → Agree → AgreeOn (comb_fanin x)
  on_operands x y a id h = a p id.0 (inside x y h)

  vector_agrees : (id : NodeId) → value_at v p id ≡ value_at w p id → vector_at t v p id ≡ vector_at t w p id
  vector_agrees id e = ap (λ z. record { width = width_of (slice_get (graph_at t p).nodes id.0); value = z }) e

  vectors_agree : (ids : List NodeId) → AgreeOn ids → map (vector_at t v p) ids ≡ map (vector_at t w p) ids
  vectors_agree [] a = refl
  vectors_agree (id ∷ ids) a = ap₂ (λ x xs. x ∷ xs) (vector_agrees id (a id first)) (vectors_agree ids (λ i h. a i (later h)))

  passed_down : (i port : ℕ) (o : Option NodeId) → NodeIs t p n (InstOut (record { 0 = i }) port) → slice_get (graph_at t (i ∷ p)).outputs port ≡ o → Agree
      → optional_value v (i ∷ p) o ≡ optional_value w (i ∷ p) o
  passed_down i port None y e a = refl
  passed_down i port (Some id) y e a = a (i ∷ p) id.0 (down port y e)

passed_up : (t : Tree) (state : State) (inputs : List ℕ) (v w : Occurrence → ℕ) (i : ℕ) (p : List ℕ) (n port : ℕ) (o : Option NodeId) → NodeIs t (i ∷ p) n (Input port)
    → connection (graph_at t p) i port ≡ o → Agree t state inputs v w (i ∷ p) n → optional_value v p o ≡ optional_value w p o
passed_up t state inputs v w i p n port None y e a = refl
passed_up t state inputs v w i p n port (Some id) y e a = a p id.0 (up port y e)

input_agrees : (t : Tree) (state : State) (inputs : List ℕ) (v w : Occurrence → ℕ) (p : List ℕ) (n port : ℕ) → NodeIs t p n (Input port) → Agree t state inputs v w p n
    → input_value t inputs v p port ≡ input_value t inputs w p port
input_agrees t state inputs v w [] n port y a = refl
input_agrees t state inputs v w (i ∷ p) n port y a = passed_up t state inputs v w i p n port (connection (graph_at t p) i port) y refl a

value_agrees : (t : Tree) (state : State) (inputs : List ℕ) (v w : Occurrence → ℕ) (p : List ℕ) (n : ℕ) (x : Node) → NodeIs t p n x → Agree t state inputs v w p n
    → value t state inputs v p n x ≡ value t state inputs w p n x
value_agrees t st ins v w p n (Input port) y a = input_agrees t st ins v w p n port y a
value_agrees t st ins v w p n (Wire None) y a = refl
value_agrees t st ins v w p n (Wire (Some d)) y a = on_operands t st ins v w p n (Wire (Some d)) y a d first
value_agrees t st ins v w p n (Const c) y a = refl
value_agrees t st ins v w p n (Two op b c) y a =
    ap₂ (λ x z. (binary op x z).value) (vector_agrees t st ins v w p n b (on_operands t st ins v w p n (Two op b c) y a b first))
    (vector_agrees t st ins v w p n c (on_operands t st ins v w p n (Two op b c) y a c (later first)))
value_agrees t st ins v w p n (Not b) y a = ap (λ x. (not_ x).value) (vector_agrees t st ins v w p n b (on_operands t st ins v w p n (Not b) y a b first))
value_agrees t st ins v w p n (Mux sel cases) y a =
    ap₂ (λ x z. (mux x z).value) (vector_agrees t st ins v w p n sel (on_operands t st ins v w p n (Mux sel cases) y a sel first))
    (vectors_agree t st ins v w p n cases (λ i h. on_operands t st ins v w p n (Mux sel cases) y a i (later h)))
value_agrees t st ins v w p n (Cat parts) y a = ap (λ x. (cat_all x).value) (vectors_agree t st ins v w p n parts (on_operands t st ins v w p n (Cat parts) y a))
value_agrees t st ins v w p n (Select b hi lo) y a = ap (λ x. (select x hi lo).value) (vector_agrees t st ins v w p n b (on_operands t st ins v w p n (Select b hi lo) y a b first))
value_agrees t st ins v w p n (Reg next enable clear init) y a = refl
value_agrees t st ins v w p n (Read m addr) y a = ap (λ z. slice_index (memory_words st (record { path = p; node = m.0 })) z) (on_operands t st ins v w p n (Read m addr) y a addr first)
value_agrees t st ins v w p n (InstOut i port) y a = passed_down t st ins v w p n i.0 port (slice_get (graph_at t (i.0 ∷ p)).outputs port) y refl a
value_agrees t st ins v w p n (Op kind args) y a = ap (λ x. (operation kind x).value) (vectors_agree t st ins v w p n args (on_operands t st ins v w p n (Op kind args) y a))

-- the numbers after f rounds
by_row : Tree → State → List ℕ → (Occurrence → ℕ) → Occurrence → Option NodeRow → ℕ
by_row t st ins v s None = 0
by_row t st ins v s (Some row) = value t st ins v s.path s.node row.node

pub rounds : ℕ → Tree → State → List ℕ → Occurrence → ℕ
rounds zero t st ins s = 0
rounds (suc f) t st ins s = by_row t st ins (rounds f t st ins) s (row_at t s)

module _ (t : Tree) (whole : IsWhole t) (free : ¬ HasCombLoop t) (st : State) (ins : List ℕ) where
  -- two ways to settle agree
  agree_deep : (v w : Occurrence → ℕ) → IsSettled t st ins v → IsSettled t st ins w → (f : ℕ) (p : List ℕ) (n : ℕ) → Deep t whole free f p n
      → v (record { path = p; node = n }) ≡ w (record { path = p; node = n })
  agree_deep v w a b zero p n d = absurd (deep_none t whole free p n d)
  agree_deep v w a b (suc f) p n d =
      let x : HasRow (graph_at t p) (node n) = row_in (tree_at t p) (whole_at t whole p d.2.0) d.2.1 in
      a (record { path = p; node = n }) x.0 d.2 x.1
      ∙ value_agrees t st ins v w p n x.0.node (x.0, x.1, refl) (λ q m s. agree_deep v w a b f q m (deep_next t whole free f p n q m d s))
      ∙ sym (b (record { path = p; node = n }) x.0 d.2 x.1)

  pub settled_once : (v w : Occurrence → ℕ) → IsSettled t st ins v → IsSettled t st ins w → (s : Occurrence) → IsReachedOccurrence t s → v s ≡ w s
  settled_once v w a b s r = agree_deep v w a b (length (occurrences t)) s.path s.node (deep_start t whole free s.path s.node r)

  -- enough rounds change nothing more
  rounds_deep : (f h : ℕ) (p : List ℕ) (n : ℕ) → Deep t whole free f p n → Deep t whole free h p n
      → rounds f t st ins (record { path = p; node = n }) ≡ rounds h t st ins (record { path = p; node = n })
  unfolding rounds by_row
  rounds_deep zero h p n d e = absurd (deep_none t whole free p n d)
  rounds_deep (suc f) zero p n d e = absurd (deep_none t whole free p n e)
  rounds_deep (suc f) (suc h) p n d e = go (slice_get (graph_at t p).nodes n) refl (λ q m s. rounds_deep f h q m (deep_next t whole free f p n q m d s) (deep_next t whole free h p n q m e s))
    where
      go : (o : Option NodeRow) → slice_get (graph_at t p).nodes n ≡ o → Agree t st ins (rounds f t st ins) (rounds h t st ins) p n
          → by_row t st ins (rounds f t st ins) (record { path = p; node = n }) o ≡ by_row t st ins (rounds h t st ins) (record { path = p; node = n }) o
      go None q a = refl
      go (Some row) q a = value_agrees t st ins (rounds f t st ins) (rounds h t st ins) p n row.node (row, q, refl) a

  -- as many rounds as there are occurrences settle
  settled_at : (k : ℕ) → length (occurrences t) ≡ k → (p : List ℕ) (n : ℕ) (row : NodeRow) → IsAt t p n → slice_get (graph_at t p).nodes n ≡ Some row
      → rounds k t st ins (record { path = p; node = n }) ≡ value t st ins (rounds k t st ins) p n row.node
  unfolding rounds by_row
  settled_at zero e p n row r q = absurd (deep_none t whole free p n (subst (λ k. Deep t whole free k p n) e (deep_start t whole free p n r)))
  settled_at (suc k) e p n row r q =
      ap (by_row t st ins (rounds k t st ins) (record { path = p; node = n })) q
      ∙ value_agrees t st ins (rounds k t st ins) (rounds (suc k) t st ins) p n row.node (row, q, refl)
      (λ u m s. rounds_deep k (suc k) u m
      (deep_next t whole free k p n u m (subst (λ j. Deep t whole free j p n) e (deep_start t whole free p n r)) s)
      (subst (λ j. Deep t whole free j u m) e (deep_start t whole free u m (step_reached t s r))))

  pub some_settled : (v : Occurrence → ℕ) × IsSettled t st ins v
  some_settled = (rounds (length (occurrences t)) t st ins, λ s row r q. settled_at (length (occurrences t)) refl s.path s.node row r q)
