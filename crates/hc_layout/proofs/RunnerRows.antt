-- The numbers of the parts that run others, row by row.
use Rattle.std.proofs.Common.{◌≡◌, ℕ, zero, suc, ◌+◌, ◌<◌, ◌≤◌, ◌⊎◌, Bool, true, false, inl, inr, List, [], ◌∷◌, ◌++◌, map, length, take, add-one, refl, sym, subst, ◌∙◌, ap, arith, length-append}
use borrow.Author.Tests.{ltb-true, lt-ltb}
use Rattle.std.proofs.lemmas.Option.{slice_get_within}
use Rattle.std.proofs.lemmas.Bool.{cases_lt}
use Rattle.std.proofs.lemmas.List.{append-nil, get_or_append_left, get_or_push, get_or_past, take-append-le, take_at, length_push}
use Rattle.std.proofs.lemmas.List.Concat.{flat_map-append}
use Rattle.std.proofs.lemmas.List.FromFn.{length-map-range_with_len, length-range_with_len, map-range_with_len_more}
use Rattle.std.specs.Prelude.{slice_get, if◌then◌else◌, nat_lt, Option, Some}
use Rattle.std.specs.List.{range_with_len}
use Rattle.hc_canon.specs.declared.form.EntryId.{EntryId}
use Rattle.hc_canon.specs.FormView.{FormView}
use Rattle.hc_canon.proofs.LaidOut.{slice_cases}
use Rattle.hc_dbstate.proofs.Triples.{some_once, some_at}
use Rattle.hc_rows.specs.Rows.{row_at, flat, number_of}
use Rattle.hc_steps.specs.Compiled.{PlanView, parts_in}
use Rattle.hc_steps.specs.Views.{ran_at}
use Rattle.hc_layout.specs.Layout.{Layout, kids_of, kid_place, place, IsLayout}
use Rattle.hc_layout.specs.Up.{parts_of, ran_in, runner, runners_of, AreRunners, IsUp}
use Rattle.hc_layout.proofs.Laid.{own_of, place_of, kids_are}
use Rattle.hc_layout.proofs.Placed.{same_parent}

-- ---- lists of the values of a function

pub slice_listed : {X : Type 0} (f : ℕ → X) (a n b : ℕ) → b < n → slice_get (map f (range_with_len a n)) b ≡ Some (f (a + b))
slice_listed f a zero b h = absurd (omega (arith, h))
slice_listed f a (suc n) zero h = ap (λ (k : ℕ). Some (f k)) (let e : a ≡ a + 0 = omega arith in e)
slice_listed f a (suc n) (suc b) h =
    let lower : b < n = omega (arith, h) in
    slice_listed f (a + 1) n b lower ∙ ap (λ (k : ℕ). Some (f k)) (let e : a + 1 + b ≡ a + suc b = omega arith in e)

pub slice_range : (a n b : ℕ) → b < n → slice_get (range_with_len a n) b ≡ Some (a + b)
slice_range a zero b h = absurd (omega (arith, h))
slice_range a (suc n) zero h = ap Some (let e : a ≡ a + 0 = omega arith in e)
slice_range a (suc n) (suc b) h =
    let lower : b < n = omega (arith, h) in
    slice_range (a + 1) n b lower ∙ ap Some (let e : a + 1 + b ≡ a + suc b = omega arith in e)

-- ---- rows with one more

module _ {X : Type 0} (up : List (List X)) (row : List X) where
  pub row_left : (r : ℕ) → r < length up → row_at (up ++ row ∷ []) r ≡ row_at up r
  row_left r h = get_or_append_left up (row ∷ []) [] r h

  pub row_last : row_at (up ++ row ∷ []) (length up) ≡ row
  row_last = get_or_push up row [] (length up) refl

  pub number_left : (p j : ℕ) → p ≤ length up → number_of (up ++ row ∷ []) p j ≡ number_of up p j
  number_left p j h = ap (λ it. length (flat it) + j) (take-append-le p up (row ∷ []) h)

  pub number_last : (b : ℕ) → number_of (up ++ row ∷ []) (length up) b ≡ length (flat up) + b
  number_last b = ap (λ it. length (flat it) + b) (take_at up (row ∷ []) (length up) refl)

  pub flat_push : flat (up ++ row ∷ []) ≡ flat up ++ row
  flat_push = flat_map-append (λ (it : List X). it) up (row ∷ []) ∙ ap (λ it. flat up ++ it) (append-nil row)

pub runner_left : (up : List (List ℕ)) (row : List ℕ) (p j own : ℕ) → p < length up → runner (up ++ row ∷ []) p j own ≡ runner up p j own
runner_left up row p j own h =
    let near : p ≤ length up = omega (arith, h) in
    ap (λ it. if nat_lt j (length it) then number_of (up ++ row ∷ []) p j else own) (row_left up row p h)
    ∙ ap (λ (n : ℕ). if nat_lt j (length (row_at up p)) then n else own) (number_left up row p j near)

-- an item of a row stands among all
number_within : {X : Type 0} (up : List (List X)) (p j : ℕ) → j < length (row_at up p) → number_of up p j < length (flat up)
number_within [] p j h = absurd (omega (arith, h))
number_within (row ∷ up) zero j h = let n : length (row ++ flat up) ≡ length row + length (flat up) = length-append row (flat up) in omega (arith, n, h)
number_within (row ∷ up) (suc p) j h =
    let n : length (row ++ flat up) ≡ length row + length (flat up) = length-append row (flat up) in
    let m : length (row ++ flat (take p up)) ≡ length row + length (flat (take p up)) = length-append row (flat (take p up)) in
    let rest : length (flat (take p up)) + j < length (flat up) = number_within up p j h in
    omega (arith, n, m, rest)

choice_below : (b : Bool) (x own : ℕ) → (b ≡ true → x ≤ own) → (if b then x else own) ≤ own
choice_below true x own h = h refl
choice_below false x own h = omega arith

-- what runs a part of a later row stands before it
runner_below : (up : List (List ℕ)) (p j b : ℕ) → runner up p j (length (flat up) + b) ≤ length (flat up) + b
runner_below up p j b = choice_below (nat_lt j (length (row_at up p))) (number_of up p j) (length (flat up) + b)
    (λ e. let inside : j < length (row_at up p) = ltb-true j (length (row_at up p)) e in let w : number_of up p j < length (flat up) = number_within up p j inside in omega (arith, w))

-- ---- the rows of instances

module _ (forms : List FormView) (plans : List PlanView) (top : EntryId) (l : Layout) (lay : IsLayout forms top l)
    (up : List (List ℕ)) (are : AreRunners forms plans l up) (p i : ℕ) (id kid : EntryId)
    (here : slice_get l.entries p ≡ Some id) (own : kid_place forms l (Some p) i ≡ Some (length up)) (there : slice_get l.entries (length up) ≡ Some kid) where
  abbrev pub row : List ℕ
  row = runners_of plans up p id i kid

  abbrev pub more : List (List ℕ)
  more = up ++ row ∷ []

  many_more : length more ≡ length up + 1
  many_more = length_push up row

  row_length : length row ≡ length (parts_of plans kid)
  row_length = length-map-range_with_len (λ b. runner up p (ran_in (slice_get plans id.0) i b) (length (flat up) + b)) 0 (length (parts_of plans kid))

  -- an old row, or the new one
  old_or_new : (q : ℕ) → q < length more → (q < length up) ⊎ (q ≡ length up)
  old_or_new q h = elim (cases_lt q (length up)) [ inl a ↦ inl a | inr b ↦ inr (omega (arith, b, h, many_more)) ]

  parent_before : (k j q : ℕ) → kid_place forms l (Some k) j ≡ Some q → k < q
  parent_before k j q e =
      let o = own_of forms (slice_get l.entries k) (slice_get l.first k) j q e in
      let h : k < o.begin = lay.laid.behind k o.begin o.start_is in
      omega (arith, h, o.number_is)

  new_few : length more ≤ length l.entries
  new_few = let w : length up < length l.entries = slice_get_within l.entries (length up) kid there in omega (arith, w, many_more)

  new_parts : (q : ℕ) (x : EntryId) → q < length more → slice_get l.entries q ≡ Some x → length (row_at more q) ≡ length (parts_of plans x)
  new_parts q x h e = elim (old_or_new q h) [
    | inl a ↦ ap length (row_left up row q a) ∙ are.parts q x a e
    | inr b ↦ (let same : kid ≡ x = some_once (sym there ∙ ap (slice_get l.entries) (sym b) ∙ e) in
        ap (λ (n : ℕ). length (row_at more n)) b ∙ ap length (row_last up row) ∙ row_length ∙ ap (λ (y : EntryId). length (parts_of plans y)) same)
  ]

  some_rows : 0 < length up
  some_rows = let w : p < length up = parent_before p i (length up) own in omega (arith, w)

  new_top : (b : ℕ) → b < length (row_at more 0) → slice_get (row_at more 0) b ≡ Some b
  new_top b h =
      let e : row_at more 0 ≡ row_at up 0 = row_left up row 0 some_rows in
      ap (λ it. slice_get it b) e ∙ are.top b (subst (λ it. b < length it) e h)

  old_runners : (k j q b : ℕ) (x : EntryId) → q < length up → slice_get l.entries k ≡ Some x → kid_place forms l (Some k) j ≡ Some q → b < length (row_at more q)
      → slice_get (row_at more q) b ≡ Some (runner more k (ran_in (slice_get plans x.0) j b) (number_of more q b))
  old_runners k j q b x a e f w =
      let same : row_at more q ≡ row_at up q = row_left up row q a in
      let near : q ≤ length up = omega (arith, a) in
      let under : k < length up = (let before : k < q = parent_before k j q f in omega (arith, before, a)) in
      let r : ℕ = ran_in (slice_get plans x.0) j b in
      ap (λ it. slice_get it b) same
      ∙ are.runners k j q b x a e f (subst (λ it. b < length it) same w)
      ∙ ap Some (sym (runner_left up row k (ran_in (slice_get plans x.0) j b) (number_of up q b) under))
      ∙ ap (λ (n : ℕ). Some (runner more k (ran_in (slice_get plans x.0) j b) n)) (sym (number_left up row q b near))

  last_runners : (b : ℕ) → b < length row → slice_get row b ≡ Some (runner more p (ran_in (slice_get plans id.0) i b) (number_of more (length up) b))
  last_runners b w =
      let inside : b < length (parts_of plans kid) = omega (arith, w, row_length) in
      let under : p < length up = parent_before p i (length up) own in
      slice_listed (λ (n : ℕ). runner up p (ran_in (slice_get plans id.0) i n) (length (flat up) + n)) 0 (length (parts_of plans kid)) b inside
      ∙ ap (λ (n : ℕ). Some (runner up p (ran_in (slice_get plans id.0) i n) (length (flat up) + n))) (let e : 0 + b ≡ b = omega arith in e)
      ∙ ap Some (sym (runner_left up row p (ran_in (slice_get plans id.0) i b) (length (flat up) + b) under))
      ∙ ap (λ (n : ℕ). Some (runner more p (ran_in (slice_get plans id.0) i b) n)) (sym (number_last up row b))

  new_runners : (k j q b : ℕ) (x : EntryId) → q < length more → slice_get l.entries k ≡ Some x → kid_place forms l (Some k) j ≡ Some q → b < length (row_at more q)
      → slice_get (row_at more q) b ≡ Some (runner more k (ran_in (slice_get plans x.0) j b) (number_of more q b))
  new_runners k j q b x h e f w = elim (old_or_new q h) [
    | inl a ↦ old_runners k j q b x a e f w
    | inr c ↦ last c
  ]
    where
      last : q ≡ length up → slice_get (row_at more q) b ≡ Some (runner more k (ran_in (slice_get plans x.0) j b) (number_of more q b))
      last c =
          let f' : kid_place forms l (Some k) j ≡ Some (length up) = f ∙ ap Some c in
          let s : (p ≡ k) × (i ≡ j) = same_parent forms top l lay p k i j (length up) (own_of forms (slice_get l.entries p) (slice_get l.first p) i (length up) own)
          (own_of forms (slice_get l.entries k) (slice_get l.first k) j (length up) f') in
          let y : id ≡ x = some_once (sym here ∙ ap (slice_get l.entries) s.0 ∙ e) in
          let z : row_at more q ≡ row = ap (row_at more) c ∙ row_last up row in
          let v : b < length row = subst (λ it. b < length it) z w in
          ap (λ it. slice_get it b) z
          ∙ last_runners b v
          ∙ ap (λ (n : ℕ). Some (runner more n (ran_in (slice_get plans id.0) i b) (number_of more (length up) b))) s.0
          ∙ ap (λ (n : ℕ). Some (runner more k (ran_in (slice_get plans id.0) n b) (number_of more (length up) b))) s.1
          ∙ ap (λ (n : EntryId). Some (runner more k (ran_in (slice_get plans n.0) j b) (number_of more (length up) b))) y
          ∙ ap (λ (n : ℕ). Some (runner more k (ran_in (slice_get plans x.0) j b) (number_of more n b))) (sym c)

  new_lower : (k u : ℕ) → slice_get (flat more) k ≡ Some u → u ≤ k
  new_lower k u e = elim (slice_cases (flat up) row k u (ap (λ it. slice_get it k) (sym (flat_push up row)) ∙ e)) [
    | inl a ↦ are.lower k u a
    | inr b ↦ last b.0 b.1 b.2
  ]
    where
      last : (b : ℕ) → k ≡ length (flat up) + b → slice_get row b ≡ Some u → u ≤ k
      last b f g =
          let w : b < length row = slice_get_within row b u g in
          let inside : b < length (parts_of plans kid) = omega (arith, w, row_length) in
          let listed : slice_get row b ≡ Some (runner up p (ran_in (slice_get plans id.0) i (0 + b)) (length (flat up) + (0 + b))) =
          slice_listed (λ (n : ℕ). runner up p (ran_in (slice_get plans id.0) i n) (length (flat up) + n)) 0 (length (parts_of plans kid)) b inside in
          let v : runner up p (ran_in (slice_get plans id.0) i (0 + b)) (length (flat up) + (0 + b)) ≡ u = some_once (sym listed ∙ g) in
          let bound : runner up p (ran_in (slice_get plans id.0) i (0 + b)) (length (flat up) + (0 + b)) ≤ length (flat up) + (0 + b) = runner_below up p
          (ran_in (slice_get plans id.0) i (0 + b)) (0 + b) in
          omega (arith, v, bound, f)

  pub runners_more : AreRunners forms plans l more
  runners_more = record { few = new_few; parts = new_parts; top = new_top; runners = new_runners; lower = new_lower }

-- the row of the top
pub runners_top : (forms : List FormView) (plans : List PlanView) (top : EntryId) (l : Layout) (up : List (List ℕ)) → IsLayout forms top l
    → up ≡ range_with_len 0 (length (parts_of plans top)) ∷ [] → AreRunners forms plans l up
runners_top forms plans top l up lay e = subst (λ it. AreRunners forms plans l it) (sym e) one
  where
    row0 : List ℕ
    row0 = range_with_len 0 (length (parts_of plans top))

    many : length (range_with_len 0 (length (parts_of plans top))) ≡ length (parts_of plans top)
    many = length-range_with_len 0 (length (parts_of plans top))

    parts0 : (q : ℕ) (id : EntryId) → q < 1 → slice_get l.entries q ≡ Some id → length (row_at (range_with_len 0 (length (parts_of plans top)) ∷ []) q) ≡ length (parts_of plans id)
    parts0 zero id h f = many ∙ ap (λ (y : EntryId). length (parts_of plans y)) (some_once (sym lay.laid.root ∙ f))
    parts0 (suc q) id h f = absurd (omega (arith, h))

    listed : (b : ℕ) → b < length (range_with_len 0 (length (parts_of plans top))) → slice_get (range_with_len 0 (length (parts_of plans top))) b ≡ Some b
    listed b h = let w : b < length (parts_of plans top) = omega (arith, h, many) in slice_range 0 (length (parts_of plans top)) b w ∙ ap Some (let z : 0 + b ≡ b = omega arith in z)

    none : (k j q : ℕ) → q < 1 → kid_place forms l (Some k) j ≡ Some q → ⊥
    none k j q h f = let o = own_of forms (slice_get l.entries k) (slice_get l.first k) j q f in let w : k < o.begin = lay.laid.behind k o.begin o.start_is in omega (arith, w, o.number_is, h)

    lower0 : (k u : ℕ) → slice_get (range_with_len 0 (length (parts_of plans top)) ++ []) k ≡ Some u → u ≤ k
    lower0 k u f =
        let g : slice_get (range_with_len 0 (length (parts_of plans top))) k ≡ Some u = ap (λ it. slice_get it k) (sym (append-nil (range_with_len 0 (length (parts_of plans top))))) ∙ f in
        let w : k < length (range_with_len 0 (length (parts_of plans top))) = slice_get_within (range_with_len 0 (length (parts_of plans top))) k u g in
        let same : k ≡ u = some_once (sym (listed k w) ∙ g) in
        omega (arith, same)

    one : AreRunners forms plans l (range_with_len 0 (length (parts_of plans top)) ∷ [])
    one = record {
      few = (let w : 0 < length l.entries = slice_get_within l.entries 0 top lay.laid.root in omega (arith, w));
      parts = parts0;
      top = listed;
      runners = λ k j q b id h f g w. absurd (none k j q h g);
      lower = lower0;
    }

-- ---- where the next rows go

-- the next row is that of the first own instance of instance p, or all are there
pub record IsNext (l : Layout) (p n : ℕ) : Type 0 where
  pub begins : p < length l.entries → slice_get l.first p ≡ Some n
  pub ends : p ≡ length l.entries → n ≡ length l.entries

pub next_first : (forms : List FormView) (top : EntryId) (l : Layout) → IsLayout forms top l → IsNext l 0 1
next_first forms top l lay = record {
  begins = λ h. (let first = some_at l.first 0 (let w : 0 < length l.first = omega (arith, h, lay.whole) in w) in let one : first.0 ≡ 1 = lay.dense.start first.0 first.1 in first.1 ∙ ap Some one);
  ends = λ e. (let w : 0 < length l.entries = slice_get_within l.entries 0 top lay.laid.root in absurd (omega (arith, w, e)));
}

pub next_more : (forms : List FormView) (top : EntryId) (l : Layout) (p n m : ℕ) → IsLayout forms top l → p < length l.entries → slice_get l.first p ≡ Some n
    → ((id : EntryId) → slice_get l.entries p ≡ Some id → m ≡ n + length (kids_of forms id)) → IsNext l (p + 1) m
next_more forms top l p n m lay h s f = record { begins = begins'; ends = ends' }
  where
    here : (id : EntryId) × (slice_get l.entries p ≡ Some id)
    here = some_at l.entries p h

    begins' : p + 1 < length l.entries → slice_get l.first (p + 1) ≡ Some m
    begins' w =
        let next = some_at l.first (p + 1) (let v : p + 1 < length l.first = omega (arith, w, lay.whole) in v) in
        let x = some_at l.entries p h in
        let e : next.0 ≡ n + length (kids_of forms x.0) = lay.dense.next p n next.0 x.0 x.1 s next.1 in
        next.1 ∙ ap Some (e ∙ sym (f x.0 x.1))

    ends' : p + 1 ≡ length l.entries → m ≡ length l.entries
    ends' w =
        let x = some_at l.entries p h in
        let last : length l.first ≡ p + 1 = omega (arith, w, lay.whole) in
        f x.0 x.1 ∙ sym (lay.dense.full p n x.0 x.1 s last)

-- ---- what the code asks for

range_more : (a n : ℕ) → range_with_len a (suc n) ≡ range_with_len a n ++ (a + n) ∷ []
range_more a zero = ap (λ (k : ℕ). k ∷ []) (let e : a ≡ a + 0 = omega arith in e)
range_more a (suc n) = ap (λ xs. a ∷ xs) (range_more (a + 1) n ∙ ap (λ (k : ℕ). range_with_len (a + 1) n ++ k ∷ []) (let e : a + 1 + n ≡ a + suc n = omega arith in e))

pub numbers_more : (xs ys : List ℕ) (b : ℕ) → xs ≡ range_with_len 0 b → ys ≡ xs ++ b ∷ [] → ys ≡ range_with_len 0 (b + 1)
numbers_more xs ys b e f =
    f ∙ ap (λ it. it ++ b ∷ []) e ∙ ap (λ (k : ℕ). range_with_len 0 b ++ k ∷ []) (let z : b ≡ 0 + b = omega arith in z) ∙ sym (range_more 0 b) ∙ ap (range_with_len 0) (sym (add-one b))

pub numbers_all : (xs : List ℕ) (b n : ℕ) → xs ≡ range_with_len 0 b → b ≡ n → xs ≡ range_with_len 0 n
numbers_all xs b n e f = e ∙ ap (range_with_len 0) f

pub kid_more : (up : List (List ℕ)) (plan : Option PlanView) (p i b : ℕ) (xs ys its : List ℕ) (x n by : ℕ)
    → xs ≡ map (λ k. runner up p (ran_in plan i k) (length (flat up) + k)) (range_with_len 0 b) → ys ≡ xs ++ x ∷ [] → x ≡ n → n ≡ runner up p by (length its + b) → by ≡ ran_in plan i b → its ≡ flat up
    → ys ≡ map (λ k. runner up p (ran_in plan i k) (length (flat up) + k)) (range_with_len 0 (b + 1))
kid_more up plan p i b xs ys its x n by e f g h r t =
    let value : x ≡ runner up p (ran_in plan i b) (length (flat up) + b) = g ∙ h ∙ ap (λ (k : ℕ). runner up p k (length its + b)) r ∙ ap (λ ks. runner up p (ran_in plan i b) (length ks + b)) t in
    f ∙ ap (λ zs. zs ++ x ∷ []) e
    ∙ ap (λ (k : ℕ). map (λ k. runner up p (ran_in plan i k) (length (flat up) + k)) (range_with_len 0 b) ++ k ∷ []) value
    ∙ sym (map-range_with_len_more (λ k. runner up p (ran_in plan i k) (length (flat up) + k)) 0 b b (let z : 0 + b ≡ b = omega arith in z))

pub kid_all : (up : List (List ℕ)) (plan : Option PlanView) (p i b n : ℕ) (xs : List ℕ)
    → xs ≡ map (λ k. runner up p (ran_in plan i k) (length (flat up) + k)) (range_with_len 0 b) → b ≡ n → xs ≡ map (λ k. runner up p (ran_in plan i k) (length (flat up) + k)) (range_with_len 0 n)
kid_all up plan p i b n xs e f = e ∙ ap (λ (m : ℕ). map (λ k. runner up p (ran_in plan i k) (length (flat up) + k)) (range_with_len 0 m)) f

-- one own instance more
pub kid_pushed : (forms : List FormView) (plans : List PlanView) (top : EntryId) (l : Layout) (up next : List (List ℕ)) (p i x begin : ℕ) (id kid : EntryId) (form : FormView) (ks : List EntryId)
    → IsLayout forms top l → AreRunners forms plans l up → slice_get l.entries p ≡ Some id → slice_get l.first p ≡ Some begin → slice_get forms id.0 ≡ Some form → ks ≡ form.kids
    → slice_get ks i ≡ Some kid → length up ≡ begin + i → x ≡ i
    → next ≡ up ++ runners_of plans up p id x kid ∷ [] → AreRunners forms plans l next
kid_pushed forms plans top l up next p i x begin id kid form ks lay are here first found own at many same e =
    let kid_is : slice_get (kids_of forms id) i ≡ Some kid = ap (λ it. slice_get it i) (kids_are forms id form found ∙ sym own) ∙ at in
    let placed : kid_place forms l (Some p) i ≡ Some (length up) = place_of forms (slice_get l.entries p) (slice_get l.first p) i begin id kid here first kid_is ∙ ap Some (sym many) in
    let there : slice_get l.entries (length up) ≡ Some kid = ap (slice_get l.entries) many ∙ lay.laid.own p i begin id kid here first kid_is in
    subst (λ it. AreRunners forms plans l it) (sym (e ∙ ap (λ (n : ℕ). up ++ runners_of plans up p id n kid ∷ []) same)) (runners_more forms plans top l lay up are p i id kid here placed there)

pub one_longer : (up next : List (List ℕ)) (row : List ℕ) (n i : ℕ) → length up ≡ n + i → next ≡ up ++ row ∷ [] → length next ≡ n + (i + 1)
one_longer up next row n i e f = let a : length next ≡ length up + 1 = ap length f ∙ length_push up row in omega (arith, a, e)

pub kids_pushed : (forms : List FormView) (n i : ℕ) (ids : List EntryId) (id other : EntryId) (form : FormView) (ks : List EntryId) (p len : ℕ)
    → slice_get ids p ≡ Some id → slice_get ids p ≡ Some other → slice_get forms id.0 ≡ Some form → ks ≡ form.kids → i ≡ length ks → len ≡ n + i → len ≡ n + length (kids_of forms other)
kids_pushed forms n i ids id other form ks p len a b found own e f =
    let same : id ≡ other = some_once (sym a ∙ b) in
    let many : length (kids_of forms other) ≡ length ks = ap (λ (y : EntryId). length (kids_of forms y)) (sym same) ∙ ap length (kids_are forms id form found ∙ sym own) in
    omega (arith, many, e, f)

pub begun : (forms : List FormView) (plans : List PlanView) (top : EntryId) (l : Layout) (was up : List (List ℕ)) (row items : List ℕ) → IsLayout forms top l
    → up ≡ was ++ row ∷ [] → was ≡ [] → row ≡ items → items ≡ range_with_len 0 (length (parts_of plans top))
    → AreRunners forms plans l up × IsNext l 0 (length up)
begun forms plans top l was up row items lay e f g h =
    let all : up ≡ range_with_len 0 (length (parts_of plans top)) ∷ [] = e ∙ ap (λ it. it ++ row ∷ []) f ∙ ap (λ it. it ∷ []) (g ∙ h) in
    (runners_top forms plans top l up lay all, subst (λ (n : ℕ). IsNext l 0 n) (sym (ap length all)) (next_first forms top l lay))

-- ---- what the numbers say

runner_there : (up : List (List ℕ)) (p j own : ℕ) → j < length (row_at up p) → runner up p j own ≡ number_of up p j
runner_there up p j own h = ap (λ (t : Bool). if t then number_of up p j else own) (lt-ltb j (length (row_at up p)) h)

pub leads_up : (forms : List FormView) (plans : List PlanView) (l : Layout) (up : List (List ℕ)) (path : List ℕ) (p i q a b : ℕ) (id : EntryId) (plan : PlanView) → IsUp forms plans l up
    → place forms l path ≡ Some p → place forms l (i ∷ path) ≡ Some q → slice_get l.entries p ≡ Some id → slice_get plans id.0 ≡ Some plan
    → b < length (row_at up q) → a < length plan.parts → a ≡ ran_at plan.first_part plan.ran i b → slice_get (row_at up q) b ≡ Some (number_of up p a)
leads_up forms plans l up path p i q a b id plan is e f here found h k r =
    let placed : kid_place forms l (Some p) i ≡ Some q = ap (λ o. kid_place forms l o i) (sym e) ∙ f in
    let there : p < length up = (let w : p < length l.entries = slice_get_within l.entries p id here in omega (arith, w, is.whole)) in
    let inside : q < length up = (elim (cases_lt q (length up)) [ inl w ↦ w | inr w ↦ (let none : length (row_at up q) ≡ 0 = ap length (get_or_past up q [] w) in absurd (omega (arith, none, h))) ]) in
    let many : length (row_at up p) ≡ length plan.parts = is.runners.parts p id there here ∙ ap (λ o. length (parts_in o)) found in
    let by : ran_in (slice_get plans id.0) i b ≡ a = ap (λ o. ran_in o i b) found ∙ sym r in
    let fits : a < length (row_at up p) = omega (arith, k, many) in
    is.runners.runners p i q b id inside here placed h
    ∙ ap (λ (j : ℕ). Some (runner up p j (number_of up q b))) by
    ∙ ap Some (runner_there up p a (number_of up q b) fits)
