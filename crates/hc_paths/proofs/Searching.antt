-- Each step of a depth-first search keeps its state right.
use Rattle.std.proofs.Common.{◌≡◌, ℕ, zero, suc, ◌+◌, ◌<◌, ◌≤◌, ◌↔◌, ◌⊎◌, List, [], ◌∷◌, length, set, replicate, refl, sym, subst, ◌∙◌, ap, inl, inr, arith, length-set}
use Rattle.std.specs.Prelude.{slice_get, Option, Some, None, unwrap_or}
use Rattle.std.proofs.lemmas.Option.{slice_get_within}
use Rattle.std.proofs.lemmas.List.{length-replicate}
use Rattle.hc_signal.specs.Member.{Has, first, later}
use Rattle.hc_signal.specs.declared.signal.NodeId.{NodeId}
use Rattle.hc_signal.specs.declared.signal.NodeRow.{NodeRow}
use Rattle.hc_paths.specs.declared.search.Item.{Item}
use Rattle.hc_paths.specs.declared.search.Item.TheVariants.{Enter, Leave}
use Rattle.hc_paths.specs.declared.search.Colour.{Colour}
use Rattle.hc_paths.specs.declared.search.Colour.TheVariants.{Fresh, Open, Closed}
use Rattle.hc_paths.specs.Digraph.{Arrows, here, on, IsFound, HasCycle, AreWithin, AllDifferent, IsOrder}
use Rattle.hc_paths.specs.Search.{entered, under, opens, Came, IsChain, Waits, IsSearch, if_fresh, left, State, looked, after, node_on}

-- look-ups after a write
pub get_set_same : {X : Type 0} (xs : List X) (i : ℕ) (x : X) → i < length xs → slice_get (set xs i x) i ≡ Some x
get_set_same [] i x h = absurd (omega (arith, h))
get_set_same (y ∷ xs) zero x h = refl
get_set_same (y ∷ xs) (suc i) x h = get_set_same xs i x (omega (arith, h))

pub get_set_other : {X : Type 0} (xs : List X) (i j : ℕ) (x : X) → (i ≡ j → ⊥) → slice_get (set xs i x) j ≡ slice_get xs j
get_set_other [] i j x n = refl
get_set_other (y ∷ xs) zero zero x n = absurd (n refl)
get_set_other (y ∷ xs) zero (suc j) x n = refl
get_set_other (y ∷ xs) (suc i) zero x n = refl
get_set_other (y ∷ xs) (suc i) (suc j) x n = get_set_other xs i j x (λ e. n (ap suc e))

none_past : {X : Type 0} (xs : List X) (i : ℕ) → i < length xs → slice_get xs i ≡ None → ⊥
none_past [] i h e = omega (arith, h)
none_past (x ∷ xs) zero h e = cc
none_past (x ∷ xs) (suc i) h e = none_past xs i (omega (arith, h)) e

-- equal or not
pub same_or_not : (m n : ℕ) → (m ≡ n) ⊎ (m ≡ n → ⊥)
same_or_not zero zero = inl refl
same_or_not zero (suc n) = inr (λ e. cc)
same_or_not (suc m) zero = inr (λ e. cc)
same_or_not (suc m) (suc n) = elim (same_or_not m n) [ inl e ↦ inl (ap suc e) | inr d ↦ inr (λ e. d (cc)) ]

ids_same : (m n : NodeId) → m.0 ≡ n.0 → m ≡ n
ids_same m n e = ap (λ k. record { 0 = k }) e

pub ids_cases : (m n : NodeId) → (m ≡ n) ⊎ (m.0 ≡ n.0 → ⊥)
ids_cases m n = elim (same_or_not m.0 n.0) [ inl e ↦ inl (ids_same m n e) | inr d ↦ inr d ]

pub not_first : {X : Type 0} {x y : X} {xs : List X} → Has (x ∷ xs) y → (x ≡ y → ⊥) → Has xs y
not_first first n = absurd (n refl)
not_first (later h) n = h

-- walks
pub arrows_end : (next : ℕ → List NodeId) {n m k : NodeId} → Arrows next n m → Has (next m.0) k → Arrows next n k
arrows_end next here a = on a here
arrows_end next (on b w) a = on b (arrows_end next w a)

module _ (next : ℕ → List NodeId) (roots : List NodeId) where
  found_next : {n m : NodeId} → IsFound next roots n → Has (next n.0) m → IsFound next roots m
  found_next f a = (f.0, f.1, arrows_end next f.2 a)

  -- what waits, with more done or more above
  waits_more : (done more : List NodeId) → ((m : NodeId) → Has done m → Has more m) → (above higher : List NodeId) → ((m : NodeId) → Has above m → Has more m ⊎ Has higher m) → (stack : List Item) → Waits next roots done above stack → Waits next roots more higher stack
  waits_more done more d above higher a [] w = λ m h. elim (w m h) [ inl x ↦ inl (d m x) | inr y ↦ a m y ]
  waits_more done more d above higher a (Enter k ∷ stack) w = waits_more done more d (k ∷ above) (k ∷ higher) add stack w
    where
      add : (m : NodeId) → Has (k ∷ above) m → Has more m ⊎ Has (k ∷ higher) m
      add _ first = inr first
      add m (later h) = elim (a m h) [ inl x ↦ inl x | inr y ↦ inr (later y) ]
  waits_more done more d above higher a (Leave p ∷ stack) w =
      (λ m h. elim (w.0 m h) [ inl x ↦ inl (d m x) | inr y ↦ a m y ], waits_more done more d (p ∷ []) (p ∷ []) (λ m h. inr h) stack w.1)

  -- the one above is done
  waits_done : (done : List NodeId) (m : NodeId) → Has done m → (stack : List Item) → Waits next roots done (m ∷ []) stack → Waits next roots done [] stack
  waits_done done m h stack w = waits_more done done (λ k x. x) (m ∷ []) [] one stack w
    where
      one : (k : NodeId) → Has (m ∷ []) k → Has done k ⊎ Has [] k
      one _ first = inl h
      one k (later x) = elim x [ ]

  -- nodes put on the stack
  entered_opens : (row : List NodeId) (stack : List Item) → opens (entered row stack) ≡ opens stack
  entered_opens [] stack = refl
  entered_opens (m ∷ ms) stack = entered_opens ms (Enter m ∷ stack)

  entered_chain : (row : List NodeId) (stack : List Item) → ((m : NodeId) → Has row m → Came next roots (under stack) m) → IsChain next roots stack → IsChain next roots (entered row stack)
  entered_chain [] stack c s = s
  entered_chain (m ∷ ms) stack c s = entered_chain ms (Enter m ∷ stack) (λ k h. c k (later h)) (c m first, s)

  entered_waits : (done row above : List NodeId) (stack : List Item) → ((higher : List NodeId) → ((m : NodeId) → Has row m ⊎ Has above m → Has higher m) → Waits next roots done higher stack) → Waits next roots done above (entered row stack)
  entered_waits done [] above stack f = f above (λ m h. elim h [ inl x ↦ elim x [ ] | inr y ↦ y ])
  entered_waits done (k ∷ row) above stack f = entered_waits done row above (Enter k ∷ stack) (λ higher h. f (k ∷ higher) (cases higher h))
    where
      cases : (higher : List NodeId) → ((m : NodeId) → Has row m ⊎ Has above m → Has higher m) → (m : NodeId) → Has (k ∷ row) m ⊎ Has above m → Has (k ∷ higher) m
      cases higher h _ (inl first) = first
      cases higher h m (inl (later x)) = later (h m (inl x))
      cases higher h m (inr y) = later (h m (inr y))

  -- a node that waits has a walk to the one that waits next
  waiting_walk : (stack : List Item) (n : NodeId) → IsChain next roots stack → Has (opens stack) n → (p : NodeId) × (under stack ≡ Some p) × Arrows next n p
  waiting_walk [] n c h = elim h [ ]
  waiting_walk (Enter m ∷ stack) n c h = waiting_walk stack n c.1 h
  waiting_walk (Leave p ∷ stack) _ c first = (p, refl, here)
  waiting_walk (Leave p ∷ stack) n c (later h) =
      let w : (q : NodeId) × (under stack ≡ Some q) × Arrows next n q = waiting_walk stack n c.1 h in
      (p, refl, arrows_end next w.2 (subst (λ o. Came next roots o p) w.1 c.0))

  -- all that stands on the stack is found
  came_found : (stack : List Item) (m : NodeId) → IsChain next roots stack → Came next roots (under stack) m → IsFound next roots m
  came_found [] m c a = (m, a, here)
  came_found (Enter k ∷ stack) m c a = came_found stack m c.1 a
  came_found (Leave p ∷ stack) m c a = found_next (came_found stack p c.1 c.0) a

module _ (size : ℕ) (next : ℕ → List NodeId) (roots : List NodeId) where
  -- the search meets a node that waits
  closes : (colours : List Colour) (stack : List Item) (done : List NodeId) (m : NodeId) → IsSearch size next roots colours (Enter m ∷ stack) done → slice_get colours m.0 ≡ Some Open → HasCycle next roots
  closes colours stack done m s e =
      let w : (p : NodeId) × (under stack ≡ Some p) × Arrows next m p = waiting_walk next roots stack m s.chain.1 ((s.opened m).1 e) in
      let a : Has (next w.0.0) m = subst (λ o. Came next roots o m) w.1 s.chain.0 in
      (w.0, m, came_last stack w.0 s.chain.1 w.1, a, w.2)
    where
      came_last : (t : List Item) (p : NodeId) → IsChain next roots t → under t ≡ Some p → IsFound next roots p
      came_last [] p c q = cc
      came_last (Enter k ∷ t) p c q = came_last t p c.1 q
      came_last (Leave k ∷ t) p c q = subst (λ z. IsFound next roots z) (ap (λ o. unwrap_or o k) q) (came_found next roots t k c.1 c.0)

  -- a node that is closed
  passes : (colours : List Colour) (stack : List Item) (done : List NodeId) (m : NodeId) → IsSearch size next roots colours (Enter m ∷ stack) done → slice_get colours m.0 ≡ Some Closed → IsSearch size next roots colours stack done
  passes colours stack done m s e = record {
    coloured = s.coloured;
    chain = s.chain.1;
    waits = waits_done next roots done m ((s.closed m).1 e) stack s.waits;
    different = s.different;
    opened = s.opened;
    closed = s.closed;
    once = s.once;
    sorted = s.sorted;
    only = s.only;
  }

  -- a new node
  opens_new : (colours : List Colour) (stack : List Item) (done : List NodeId) (m : NodeId) → IsSearch size next roots colours (Enter m ∷ stack) done → slice_get colours m.0 ≡ Some Fresh → IsSearch size next roots (set colours m.0 Open) (entered (next m.0) (Leave m ∷ stack)) done
  opens_new colours stack done m s e = record {
    coloured = length-set colours m.0 Open ∙ s.coloured;
    chain = entered_chain next roots (next m.0) (Leave m ∷ stack) (λ k h. h) s.chain;
    waits = entered_waits next roots done (next m.0) [] (Leave m ∷ stack) (λ higher h. (λ k a. inr (h k (inl a)), s.waits));
    different = subst (λ l. AllDifferent l) (sym (entered_opens next roots (next m.0) (Leave m ∷ stack))) (λ h. absurd (two_colours m ((s.opened m).0 h)), s.different);
    opened = λ n. subst (λ l. Has l n ↔ (slice_get (set colours m.0 Open) n.0 ≡ Some Open)) (sym (entered_opens next roots (next m.0) (Leave m ∷ stack))) (now_open n (ids_cases m n));
    closed = λ n. now_closed n (ids_cases m n);
    once = s.once;
    sorted = s.sorted;
    only = s.only;
  }
    where
      within : m.0 < length colours
      within = slice_get_within colours m.0 Fresh e

      two_colours : (n : NodeId) → slice_get colours m.0 ≡ Some Open → ⊥
      two_colours n q = cc

      now_open : (n : NodeId) → (m ≡ n) ⊎ (m.0 ≡ n.0 → ⊥) → Has (m ∷ opens stack) n ↔ (slice_get (set colours m.0 Open) n.0 ≡ Some Open)
      now_open n (inl q) = (λ h. subst (λ z. slice_get (set colours m.0 Open) z.0 ≡ Some Open) q (get_set_same colours m.0 Open within), λ x. subst (λ z. Has (m ∷ opens stack) z) q first)
      now_open n (inr d) = (
        λ h. get_set_other colours m.0 n.0 Open d ∙ (s.opened n).0 (not_first h (λ q. d (ap (λ z. z.0) q))),
        λ x. later ((s.opened n).1 (sym (get_set_other colours m.0 n.0 Open d) ∙ x)),
      )

      now_closed : (n : NodeId) → (m ≡ n) ⊎ (m.0 ≡ n.0 → ⊥) → Has done n ↔ (slice_get (set colours m.0 Open) n.0 ≡ Some Closed)
      now_closed n (inl q) = (
        λ h. let x : slice_get colours m.0 ≡ Some Closed = subst (λ z. slice_get colours z.0 ≡ Some Closed) (sym q) ((s.closed n).0 h) in cc,
        λ x. let y : slice_get (set colours m.0 Open) m.0 ≡ Some Closed = subst (λ z. slice_get (set colours m.0 Open) z.0 ≡ Some Closed) (sym q) x in let z : slice_get (set colours m.0 Open) m.0 ≡ Some Open = get_set_same colours m.0 Open within in cc,
      )
      now_closed n (inr d) = (λ h. get_set_other colours m.0 n.0 Open d ∙ (s.closed n).0 h, λ x. (s.closed n).1 (sym (get_set_other colours m.0 n.0 Open d) ∙ x))

  -- a node closes
  ends : (colours : List Colour) (stack : List Item) (done : List NodeId) (m : NodeId) → IsSearch size next roots colours (Leave m ∷ stack) done → IsSearch size next roots (set colours m.0 Closed) stack (m ∷ done)
  ends colours stack done m s = record {
    coloured = length-set colours m.0 Closed ∙ s.coloured;
    chain = s.chain.1;
    waits = waits_done next roots (m ∷ done) m first stack (waits_more next roots done (m ∷ done) (λ k h. later h) (m ∷ []) (m ∷ []) (λ k h. inr h) stack s.waits.1);
    different = s.different.1;
    opened = λ n. now_open n (ids_cases m n);
    closed = λ n. now_closed n (ids_cases m n);
    once = (λ h. let x : slice_get colours m.0 ≡ Some Closed = (s.closed m).0 h in let y : slice_get colours m.0 ≡ Some Open = was in cc, s.once);
    sorted = (λ k a. elim (s.waits.0 k a) [ inl x ↦ x | inr y ↦ elim y [ ] ], s.sorted);
    only = each;
  }
    where
      was : slice_get colours m.0 ≡ Some Open
      was = (s.opened m).0 first

      within : m.0 < length colours
      within = slice_get_within colours m.0 Open was

      each : (n : NodeId) → Has (m ∷ done) n → IsFound next roots n
      each _ first = came_found next roots stack m s.chain.1 s.chain.0
      each n (later h) = s.only n h

      now_open : (n : NodeId) → (m ≡ n) ⊎ (m.0 ≡ n.0 → ⊥) → Has (opens stack) n ↔ (slice_get (set colours m.0 Closed) n.0 ≡ Some Open)
      now_open n (inl q) = (
        λ h. absurd (s.different.0 (subst (λ z. Has (opens stack) z) (sym q) h)),
        λ x. let y : slice_get (set colours m.0 Closed) m.0 ≡ Some Open = subst (λ z. slice_get (set colours m.0 Closed) z.0 ≡ Some Open) (sym q) x in let z : slice_get (set colours m.0 Closed) m.0 ≡ Some Closed = get_set_same colours m.0 Closed within in cc,
      )
      now_open n (inr d) = (
        λ h. get_set_other colours m.0 n.0 Closed d ∙ (s.opened n).0 (later h),
        λ x. not_first ((s.opened n).1 (sym (get_set_other colours m.0 n.0 Closed d) ∙ x)) (λ q. d (ap (λ z. z.0) q)),
      )

      now_closed : (n : NodeId) → (m ≡ n) ⊎ (m.0 ≡ n.0 → ⊥) → Has (m ∷ done) n ↔ (slice_get (set colours m.0 Closed) n.0 ≡ Some Closed)
      now_closed n (inl q) = (λ h. subst (λ z. slice_get (set colours m.0 Closed) z.0 ≡ Some Closed) q (get_set_same colours m.0 Closed within), λ x. subst (λ z. Has (m ∷ done) z) q first)
      now_closed n (inr d) = (
        λ h. get_set_other colours m.0 n.0 Closed d ∙ (s.closed n).0 (not_first h (λ q. d (ap (λ z. z.0) q))),
        λ x. later ((s.closed n).1 (sym (get_set_other colours m.0 n.0 Closed d) ∙ x)),
      )

  -- the start
  starts : IsSearch size next roots (replicate size Fresh) (entered roots []) []
  starts = record {
    coloured = length-replicate size Fresh;
    chain = entered_chain next roots roots [] (λ m h. h) tt;
    waits = entered_waits next roots [] roots [] [] (λ higher h. λ m x. inr (h m (inl x)));
    different = subst (λ l. AllDifferent l) (sym (entered_opens next roots roots [])) tt;
    opened = λ n. (λ h. elim (subst (λ l. Has l n) (entered_opens next roots roots []) h) [ ], λ x. let y : Fresh ≡ Open = fresh size n.0 Open x in cc);
    closed = λ n. (λ h. elim h [ ], λ x. let y : Fresh ≡ Closed = fresh size n.0 Closed x in cc);
    once = tt;
    sorted = tt;
    only = λ n h. elim h [ ];
  }
    where
      fresh : (k i : ℕ) (c : Colour) → slice_get (replicate k Fresh) i ≡ Some c → Fresh ≡ c
      fresh zero i c x = cc
      fresh (suc k) zero c x = cc
      fresh (suc k) (suc i) c x = fresh k i c x

  -- the end
  pub is_order : (colours : List Colour) (stack : List Item) (done : List NodeId) → IsSearch size next roots colours stack done → stack ≡ [] → IsOrder next roots done
  is_order colours stack done i e = go (subst (λ k. IsSearch size next roots colours k done) e i)
    where
      go : IsSearch size next roots colours [] done → IsOrder next roots done
      go s = record {
        each = λ n h. elim (s.waits n h) [ inl x ↦ x | inr y ↦ elim y [ ] ];
        only = s.only;
        different = s.once;
        sorted = s.sorted;
      }

-- the measure
length-entered : (row : List NodeId) (stack : List Item) → length (entered row stack) ≡ length row + length stack
length-entered [] stack = omega arith
length-entered (m ∷ ms) stack = let h : length (entered ms (Enter m ∷ stack)) ≡ length ms + length (Enter m ∷ stack) = length-entered ms (Enter m ∷ stack) in omega (arith, h)

left_falls : (next : ℕ → List NodeId) (a : ℕ) (colours : List Colour) (i : ℕ) → slice_get colours i ≡ Some Fresh → left next a (set colours i Open) + length (next (a + i)) + 1 ≡ left next a colours
left_falls next a [] i e = cc
left_falls next a (c ∷ colours) zero e =
    let p : c ≡ Fresh = cc in
    let f : if_fresh c (length (next a) + 1) ≡ length (next a) + 1 = ap (λ z. if_fresh z (length (next a) + 1)) p in
    let q : a + 0 ≡ a = omega arith in
    let k : length (next (a + 0)) ≡ length (next a) = ap (λ z. length (next z)) q in
    omega (arith, f, k)
left_falls next a (c ∷ colours) (suc i) e =
    let h : left next (suc a) (set colours i Open) + length (next (suc a + i)) + 1 ≡ left next (suc a) colours = left_falls next (suc a) colours i e in
    let q : a + suc i ≡ suc a + i = omega arith in
    let k : length (next (a + suc i)) ≡ length (next (suc a + i)) = ap (λ z. length (next z)) q in
    omega (arith, h, k)

left_closed : (next : ℕ → List NodeId) (a : ℕ) (colours : List Colour) (i : ℕ) → left next a (set colours i Closed) ≤ left next a colours
left_closed next a [] i = omega arith
left_closed next a (c ∷ colours) zero = omega arith
left_closed next a (c ∷ colours) (suc i) = let h : left next (suc a) (set colours i Closed) ≤ left next (suc a) colours = left_closed next (suc a) colours i in omega (arith, h)

-- what was on top
module _ (size : ℕ) (next : ℕ → List NodeId) (roots : List NodeId) where
  next_inside : AreWithin size next roots → (colours : List Colour) (stack : List Item) (done : List NodeId) (item : Item) → IsSearch size next roots colours (item ∷ stack) done → node_on item < length colours
  next_inside w colours stack done (Enter m) s = subst (λ k. m.0 < k) (sym s.coloured) (w.inside m (came_found next roots stack m s.chain.1 s.chain.0))
  next_inside w colours stack done (Leave m) s = subst (λ k. m.0 < k) (sym s.coloured) (w.inside m (came_found next roots stack m s.chain.1 s.chain.0))

  abbrev After : State → ℕ → State → Type 0
  After old height s = IsSearch size next roots s.colours s.stack s.order × (left next 0 s.colours + length s.stack < left next 0 old.colours + height)

  next_right : (old : State) (item : Item) (s : State) → IsSearch size next roots old.colours (item ∷ old.stack) old.order → after next old item ≡ Some s → After old (length (item ∷ old.stack)) s
  next_right old (Leave m) s i e =
      subst (λ z. After old (length (Leave m ∷ old.stack)) z) (cc) (
        ends size next roots old.colours old.stack old.order m i,
        let h : left next 0 (set old.colours m.0 Closed) ≤ left next 0 old.colours = left_closed next 0 old.colours m.0 in omega (arith, h),
      )
  next_right old (Enter m) s i e = go (slice_get old.colours m.0) refl e
    where
      go : (c : Option Colour) → slice_get old.colours m.0 ≡ c → looked next old m c ≡ Some s → After old (length (Enter m ∷ old.stack)) s
      go None q f = cc
      go (Some Open) q f = cc
      go (Some Closed) q f = subst (λ z. After old (length (Enter m ∷ old.stack)) z) (cc) (passes size next roots old.colours old.stack old.order m i q, omega arith)
      go (Some Fresh) q f =
          subst (λ z. After old (length (Enter m ∷ old.stack)) z) (cc) (
            opens_new size next roots old.colours old.stack old.order m i q,
            let h : left next 0 (set old.colours m.0 Open) + length (next (0 + m.0)) + 1 ≡ left next 0 old.colours = left_falls next 0 old.colours m.0 q in
                let z : length (next (0 + m.0)) ≡ length (next m.0) = ap (λ z. length (next z)) (omega arith) in
                let k : length (entered (next m.0) (Leave m ∷ old.stack)) ≡ length (next m.0) + length (Leave m ∷ old.stack) = length-entered (next m.0) (Leave m ∷ old.stack) in
                omega (arith, h, k, z),
          )

  next_none : (old : State) (item : Item) → AreWithin size next roots → IsSearch size next roots old.colours (item ∷ old.stack) old.order → after next old item ≡ None → HasCycle next roots
  next_none old (Leave m) w i e = cc
  next_none old (Enter m) w i e = go (slice_get old.colours m.0) refl e
    where
      go : (c : Option Colour) → slice_get old.colours m.0 ≡ c → looked next old m c ≡ None → HasCycle next roots
      go None q f = absurd (none_past old.colours m.0 (next_inside w old.colours old.stack old.order (Enter m) i) q)
      go (Some Open) q f = closes size next roots old.colours old.stack old.order m i q
      go (Some Closed) q f = cc
      go (Some Fresh) q f = cc

  -- the same, from the stack before its top is taken
  popped : (old : State) (stack : List Item) (item : Item) → IsSearch size next roots old.colours stack old.order → stack ≡ item ∷ old.stack → IsSearch size next roots old.colours (item ∷ old.stack) old.order
  popped old stack item i e = subst (λ k. IsSearch size next roots old.colours k old.order) e i

  pub step_inside : AreWithin size next roots → (old : State) (stack : List Item) (item : Item) → IsSearch size next roots old.colours stack old.order → stack ≡ item ∷ old.stack → node_on item < length old.colours
  step_inside w old stack item i e = next_inside w old.colours old.stack old.order item (popped old stack item i e)

  pub step_right : (old : State) (stack : List Item) (item : Item) (s : State) → IsSearch size next roots old.colours stack old.order → stack ≡ item ∷ old.stack → after next old item ≡ Some s → IsSearch size next roots s.colours s.stack s.order
  step_right old stack item s i e f = (next_right old item s (popped old stack item i e) f).0

  pub step_falls : (old : State) (stack : List Item) (item : Item) (s : State) → IsSearch size next roots old.colours stack old.order → stack ≡ item ∷ old.stack → after next old item ≡ Some s → left next 0 s.colours + length s.stack < left next 0 old.colours + length stack
  step_falls old stack item s i e f = subst (λ (k : List Item). left next 0 s.colours + length s.stack < left next 0 old.colours + length k) (sym e) (next_right old item s (popped old stack item i e) f).1

  pub step_cycle : AreWithin size next roots → (old : State) (stack : List Item) (item : Item) → IsSearch size next roots old.colours stack old.order → stack ≡ item ∷ old.stack → after next old item ≡ None → HasCycle next roots
  step_cycle w old stack item i e f = next_none old item w (popped old stack item i e) f

  pub begun : (rows : List NodeRow) → length rows ≡ size → (s : State) → s ≡ record { colours = replicate (length rows) Fresh; stack = entered roots []; order = [] } → IsSearch size next roots s.colours s.stack s.order
  begun rows k s e = subst (λ (z : State). IsSearch size next roots z.colours z.stack z.order) (sym (e ∙ ap (λ n. record { colours = replicate n Fresh; stack = entered roots []; order = [] }) k)) (starts size next roots)
