-- The numbering grows by the own instances of the next instance.
use Rattle.std.proofs.Common.{◌≡◌, ℕ, zero, suc, ◌+◌, ◌-◌, ◌<◌, ◌≤◌, ◌⊎◌, inl, inr, List, [], ◌∷◌, ◌++◌, length, refl, sym, subst, ◌∙◌, ap, arith, length-append}
use Rattle.std.proofs.lemmas.Option.{slice_get_within}
use Rattle.std.proofs.lemmas.Bool.{cases_lt}
use Rattle.std.specs.Prelude.{slice_get, Option, Some, None}
use Rattle.hc_signal.specs.Member.{Has}
use Rattle.hc_walk.proofs.Members.{has_slice}
use Rattle.hc_canon.specs.declared.form.EntryId.{EntryId}
use Rattle.hc_canon.specs.FormView.{FormView}
use Rattle.hc_canon.proofs.LaidOut.{slice_left, slice_right, slice_cases}
use Rattle.hc_dbstate.specs.History.{History, IsLegal}
use Rattle.hc_dbstate.proofs.Triples.{some_once, some_at}
use Rattle.hc_layout.specs.Layout.{kids_in, kids_of, own_number, own_place, kid_place, IsLaid, IsDense, IsLayout}

-- what it means that own instance i of an instance has number q
pub record IsOwn (forms : List FormView) (entry : Option EntryId) (start : Option ℕ) (i q : ℕ) : Type 0 where
  pub id : EntryId
  pub kid : EntryId
  pub begin : ℕ
  pub entry_is : entry ≡ Some id
  pub start_is : start ≡ Some begin
  pub kid_is : slice_get (kids_of forms id) i ≡ Some kid
  pub number_is : q ≡ begin + i

pub own_of : (forms : List FormView) (entry : Option EntryId) (start : Option ℕ) (i q : ℕ) → own_place forms entry start i ≡ Some q → IsOwn forms entry start i q
own_of forms None start i q e = cc
own_of forms (Some id) None i q e = cc
own_of forms (Some id) (Some begin) i q e = go (slice_get (kids_of forms id) i) refl e
  where
    go : (kid : Option EntryId) → slice_get (kids_of forms id) i ≡ kid → own_number kid begin i ≡ Some q → IsOwn forms (Some id) (Some begin) i q
    go None s t = cc
    go (Some kid) s t = record { id = id; kid = kid; begin = begin; entry_is = refl; start_is = refl; kid_is = s; number_is = sym (some_once t) }

pub place_of : (forms : List FormView) (entry : Option EntryId) (start : Option ℕ) (i begin : ℕ) (id kid : EntryId) → entry ≡ Some id → start ≡ Some begin
    → slice_get (kids_of forms id) i ≡ Some kid → own_place forms entry start i ≡ Some (begin + i)
place_of forms entry start i begin id kid e s k =
    ap (λ o. own_place forms o start i) e ∙ ap (λ o. own_place forms (Some id) o i) s ∙ ap (λ o. own_number o begin i) k

-- the top alone
pub laid_top : (forms : List FormView) (top : EntryId) → top.0 < length forms → IsLaid forms top (record { entries = top ∷ []; first = [] })
laid_top forms top h = record {
  root = refl;
  few = omega arith;
  known = top_known;
  own = λ p i begin id kid a b c. absurd (nothing p begin b);
  behind = λ p begin b. absurd (nothing p begin b);
  within = λ p begin id a b. absurd (nothing p begin b);
  apart = λ p q begin next id a b c d. absurd (nothing p begin b);
  others = λ q a b. absurd (omega (arith, a, b));
}
  where
    top_known : (p : ℕ) (id : EntryId) → slice_get (top ∷ []) p ≡ Some id → id.0 < length forms
    top_known zero id e = subst (λ (x : EntryId). x.0 < length forms) (some_once e) h
    top_known (suc p) id e = cc

    nothing : (p begin : ℕ) → slice_get {X = ℕ} [] p ≡ Some begin → ⊥
    nothing p begin e = cc

-- the own instances of the next one are behind all others
module _ (forms : List FormView) (top : EntryId) (entries : List EntryId) (first : List ℕ) (p : ℕ) (id : EntryId)
    (laid : IsLaid forms top (record { entries = entries; first = first })) (many : length first ≡ p) (here : slice_get entries p ≡ Some id)
    (lower : (kid : EntryId) → Has (kids_of forms id) kid → kid.0 < id.0) where
  abbrev pub more_entries : List EntryId
  more_entries = entries ++ kids_of forms id

  abbrev pub more_first : List ℕ
  more_first = first ++ length entries ∷ []

  there : p < length entries
  there = slice_get_within entries p id here

  longer : length more_entries ≡ length entries + length (kids_of forms id)
  longer = length-append entries (kids_of forms id)

  -- a start is an old one, or the new one
  start_cases : (k begin : ℕ) → slice_get more_first k ≡ Some begin → (slice_get first k ≡ Some begin) ⊎ ((k ≡ p) × (begin ≡ length entries))
  start_cases k begin e = elim (slice_cases first (length entries ∷ []) k begin e) [ inl a ↦ inl a | inr b ↦ inr (new b.0 b.1 b.2) ]
    where
      new : (j : ℕ) → k ≡ length first + j → slice_get (length entries ∷ []) j ≡ Some begin → (k ≡ p) × (begin ≡ length entries)
      new zero f g = (omega (arith, f, many), sym (some_once g))
      new (suc j) f g = cc

  -- an instance that has a start is an old one
  old_entry : (k : ℕ) (x : EntryId) → k < length entries → slice_get more_entries k ≡ Some x → slice_get entries k ≡ Some x
  old_entry k x h e = let y = some_at entries k h in y.1 ∙ sym (slice_left entries (kids_of forms id) k y.0 y.1) ∙ e

  new_known : (k : ℕ) (x : EntryId) → slice_get more_entries k ≡ Some x → x.0 < length forms
  new_known k x e = elim (slice_cases entries (kids_of forms id) k x e) [
    | inl a ↦ laid.known k x a
    | inr b ↦ (let l : x.0 < id.0 = lower x (has_slice (kids_of forms id) b.0 x b.2) in let m : id.0 < length forms = laid.known p id here in omega (arith, l, m))
  ]

  old_within : (k begin : ℕ) → slice_get first k ≡ Some begin → k < length entries
  old_within k begin e = omega (arith, slice_get_within first k begin e, laid.few)

  new_own : (k i begin : ℕ) (x kid : EntryId) → slice_get more_entries k ≡ Some x → slice_get more_first k ≡ Some begin → slice_get (kids_of forms x) i ≡ Some kid
      → slice_get more_entries (begin + i) ≡ Some kid
  new_own k i begin x kid a b c = elim (start_cases k begin b) [
    | inl s ↦ slice_left entries (kids_of forms id) (begin + i) kid (laid.own k i begin x kid (old_entry k x (old_within k begin s) a) s c)
    | inr t ↦ last t.0 t.1
  ]
    where
      last : k ≡ p → begin ≡ length entries → slice_get (entries ++ kids_of forms id) (begin + i) ≡ Some kid
      last e f =
          let h : k < length entries = omega (arith, there, e) in
          let own : id ≡ x = some_once (sym here ∙ ap (slice_get entries) (sym e) ∙ old_entry k x h a) in
          ap (λ (n : ℕ). slice_get (entries ++ kids_of forms id) (n + i)) f ∙ slice_right entries (kids_of forms id) i ∙ ap (λ (y : EntryId). slice_get (kids_of forms y) i) own ∙ c

  new_behind : (k begin : ℕ) → slice_get more_first k ≡ Some begin → k < begin
  new_behind k begin b = elim (start_cases k begin b) [ inl s ↦ laid.behind k begin s | inr t ↦ omega (arith, there, t.0, t.1) ]

  own_id : (k : ℕ) (x : EntryId) → k ≡ p → slice_get more_entries k ≡ Some x → id ≡ x
  own_id k x e a = let h : k < length entries = omega (arith, there, e) in some_once (sym here ∙ ap (slice_get entries) (sym e) ∙ old_entry k x h a)

  new_within : (k begin : ℕ) (x : EntryId) → slice_get more_entries k ≡ Some x → slice_get more_first k ≡ Some begin → begin + length (kids_of forms x) ≤ length more_entries
  new_within k begin x a b = elim (start_cases k begin b) [
    | inl s ↦ (let w : begin + length (kids_of forms x) ≤ length entries = laid.within k begin x (old_entry k x (old_within k begin s) a) s in omega (arith, w, longer))
    | inr t ↦ (let w : length (kids_of forms id) ≡ length (kids_of forms x) = ap (λ (y : EntryId). length (kids_of forms y)) (own_id k x t.0 a) in omega (arith, w, longer, t.1))
  ]

  new_apart : (k q begin next : ℕ) (x : EntryId) → slice_get more_entries k ≡ Some x → slice_get more_first k ≡ Some begin → slice_get more_first q ≡ Some next → k < q
      → begin + length (kids_of forms x) ≤ next
  new_apart k q begin next x a b c d = elim (start_cases k begin b) [
    | inl s ↦ (elim (start_cases q next c) [
      | inl t ↦ laid.apart k q begin next x (old_entry k x (old_within k begin s) a) s t d
      | inr u ↦ (let w : begin + length (kids_of forms x) ≤ length entries = laid.within k begin x (old_entry k x (old_within k begin s) a) s in omega (arith, w, u.1))
    ])
    | inr t ↦ (elim (start_cases q next c) [
      | inl s ↦ (let w : q < length first = slice_get_within first q next s in absurd (omega (arith, w, many, t.0, d)))
      | inr u ↦ absurd (omega (arith, u.0, t.0, d))
    ])
  ]

  kept_place : (k i q : ℕ) → kid_place forms (record { entries = entries; first = first }) (Some k) i ≡ Some q
      → kid_place forms (record { entries = more_entries; first = more_first }) (Some k) i ≡ Some q
  kept_place k i q e =
      let o = own_of forms (slice_get entries k) (slice_get first k) i q e in
      place_of forms (slice_get more_entries k) (slice_get more_first k) i o.begin o.id o.kid (slice_left entries (kids_of forms id) k o.id o.entry_is)
      (slice_left first (length entries ∷ []) k o.begin o.start_is) o.kid_is ∙ ap Some (sym o.number_is)

  last_start : slice_get more_first p ≡ Some (length entries)
  last_start = ap (slice_get (first ++ length entries ∷ [])) (let e : p ≡ length first + 0 = omega (arith, many) in e) ∙ slice_right first (length entries ∷ []) 0

  fresh_place : (q : ℕ) → length entries ≤ q → q < length more_entries → (k : ℕ) × (i : ℕ) × (kid_place forms (record { entries = more_entries; first = more_first }) (Some k) i ≡ Some q)
  fresh_place q h l =
      let w : q - length entries < length (kids_of forms id) = omega (arith, h, l, longer) in
      let kid = some_at (kids_of forms id) (q - length entries) w in
      let e : length entries + (q - length entries) ≡ q = omega (arith, h) in (
        p,
        q - length entries,
        place_of forms (slice_get more_entries p) (slice_get more_first p) (q - length entries) (length entries) id kid.0
            (slice_left entries (kids_of forms id) p id here) last_start kid.1 ∙ ap Some e,
      )

  below_or_past : (q n : ℕ) → (q < n) ⊎ (n ≤ q)
  below_or_past q zero = inr (omega arith)
  below_or_past zero (suc n) = inl (omega arith)
  below_or_past (suc q) (suc n) = elim (below_or_past q n) [ inl a ↦ inl (omega (arith, a)) | inr b ↦ inr (omega (arith, b)) ]

  new_others : (q : ℕ) → 0 < q → q < length more_entries → (k : ℕ) × (i : ℕ) × (kid_place forms (record { entries = more_entries; first = more_first }) (Some k) i ≡ Some q)
  new_others q h l = elim (below_or_past q (length entries)) [
    | inl a ↦ (let o = laid.others q h a in (o.0, o.1, kept_place o.0 o.1 q o.2))
    | inr b ↦ fresh_place q b l
  ]

  pub laid_more : IsLaid forms top (record { entries = more_entries; first = more_first })
  laid_more = record {
    root = slice_left entries (kids_of forms id) 0 top laid.root;
    few = (let a : length (first ++ length entries ∷ []) ≡ length first + 1 = length-append first (length entries ∷ []) in omega (arith, a, there, many, longer));
    known = new_known;
    own = new_own;
    behind = new_behind;
    within = new_within;
    apart = new_apart;
    others = new_others;
  }

-- nothing is left out
module _ (forms : List FormView) (top : EntryId) (entries : List EntryId) (first : List ℕ) (p : ℕ) (id : EntryId)
    (laid : IsLaid forms top (record { entries = entries; first = first })) (dense : IsDense forms (record { entries = entries; first = first })) (many : length first ≡ p)
    (here : slice_get entries p ≡ Some id)
    (lower : (kid : EntryId) → Has (kids_of forms id) kid → kid.0 < id.0) where
  dense_start : (begin : ℕ) → slice_get (first ++ length entries ∷ []) 0 ≡ Some begin → begin ≡ 1
  dense_start begin e = elim (start_cases forms top entries first p id laid many here lower 0 begin e) [
    | inl a ↦ dense.start begin a
    | inr b ↦ (let z : length first ≡ 0 = omega (arith, many, b.0) in let one : length entries ≡ 1 = dense.alone z in omega (arith, one, b.1))
  ]

  dense_next : (k begin following : ℕ) (x : EntryId) → slice_get (entries ++ kids_of forms id) k ≡ Some x → slice_get (first ++ length entries ∷ []) k ≡ Some begin
      → slice_get (first ++ length entries ∷ []) (k + 1) ≡ Some following
      → following ≡ begin + length (kids_of forms x)
  dense_next k begin following x a b c = elim (start_cases forms top entries first p id laid many here lower (k + 1) following c) [
    | inl s ↦ (elim (start_cases forms top entries first p id laid many here lower k begin b) [
      | inl t ↦ dense.next k begin following x (old_entry forms top entries first p id laid many here lower k x (old_within forms top entries first p id laid many here lower k begin t) a) t s
      | inr u ↦ (let w : k + 1 < length first = slice_get_within first (k + 1) following s in absurd (omega (arith, w, many, u.0)))
    ])
    | inr t ↦ (elim (start_cases forms top entries first p id laid many here lower k begin b) [
      | inl s ↦ (let end : length first ≡ k + 1 = omega (arith, many, t.0) in
          let all : length entries ≡ begin + length (kids_of forms x) = dense.full k begin x
          (old_entry forms top entries first p id laid many here lower k x (old_within forms top entries first p id laid many here lower k begin s) a) s end in
          omega (arith, all, t.1))
      | inr u ↦ absurd (omega (arith, t.0, u.0))
    ])
  ]

  dense_full : (k begin : ℕ) (x : EntryId) → slice_get (entries ++ kids_of forms id) k ≡ Some x → slice_get (first ++ length entries ∷ []) k ≡ Some begin
      → length (first ++ length entries ∷ []) ≡ k + 1 → length (entries ++ kids_of forms id) ≡ begin + length (kids_of forms x)
  dense_full k begin x a b c =
      let n : length (first ++ length entries ∷ []) ≡ length first + 1 = length-append first (length entries ∷ []) in
      let m : length (entries ++ kids_of forms id) ≡ length entries + length (kids_of forms id) = length-append entries (kids_of forms id) in
      let at : k ≡ p = omega (arith, n, c, many) in
      elim (start_cases forms top entries first p id laid many here lower k begin b) [
        | inl s ↦ (let w : k < length first = slice_get_within first k begin s in absurd (omega (arith, w, at, many)))
        | inr t ↦ (let own : length (kids_of forms id) ≡ length (kids_of forms x) = ap (λ (y : EntryId). length (kids_of forms y))
            (own_id forms top entries first p id laid many here lower k x at a) in omega (arith, m, own, t.1))
      ]

  dense_alone : length (first ++ length entries ∷ []) ≡ 0 → length (entries ++ kids_of forms id) ≡ 1
  dense_alone e = let n : length (first ++ length entries ∷ []) ≡ length first + 1 = length-append first (length entries ∷ []) in absurd (omega (arith, n, e))

  pub dense_more : IsDense forms (record { entries = entries ++ kids_of forms id; first = first ++ length entries ∷ [] })
  dense_more = record { alone = dense_alone; start = dense_start; next = dense_next; full = dense_full }

dense_top : (forms : List FormView) (top : EntryId) → IsDense forms (record { entries = top ∷ []; first = [] })
dense_top forms top = record { alone = λ e. refl; start = λ begin e. cc; next = λ p begin following id a b c. absurd (nothing p begin b); full = λ p begin id a b c. absurd (nothing p begin b) }
  where
    nothing : (p begin : ℕ) → slice_get {X = ℕ} [] p ≡ Some begin → ⊥
    nothing p begin e = cc

-- numbered so far, with nothing left out
pub record IsUnder (forms : List FormView) (top : EntryId) (entries : List EntryId) (first : List ℕ) : Type 0 where
  pub laid : IsLaid forms top (record { entries = entries; first = first })
  pub dense : IsDense forms (record { entries = entries; first = first })

-- the own instances of an entry stand lower
pub kids_are : (forms : List FormView) (id : EntryId) (form : FormView) → slice_get forms id.0 ≡ Some form → kids_of forms id ≡ form.kids
kids_are forms id form q = ap kids_in q

pub kids_lower : (h : History) (id : EntryId) → IsLegal h → id.0 < length h.entries → (kid : EntryId) → Has (kids_of h.entries id) kid → kid.0 < id.0
kids_lower h id legal b kid k =
    let form = some_at h.entries id.0 b in
    legal.kids id.0 form.0 kid form.1 (subst (λ ks. Has ks kid) (kids_are h.entries id form.0 form.1) k)

pub laid_begin : (forms : List FormView) (top : EntryId) (entries : List EntryId) (first : List ℕ) → top.0 < length forms → entries ≡ top ∷ [] → first ≡ [] → IsUnder forms top entries first
laid_begin forms top entries first h e f =
    let begun : IsUnder forms top (top ∷ []) [] = record { laid = laid_top forms top h; dense = dense_top forms top } in
    subst (λ xs. IsUnder forms top entries xs) (sym f) (subst (λ xs. IsUnder forms top xs []) (sym e) begun)

pub laid_step : (h : History) (top : EntryId) (entries next : List EntryId) (first start : List ℕ) (p : ℕ) (id : EntryId) → IsLegal h → IsUnder h.entries top entries first
    → length first ≡ p → Some id ≡ slice_get entries p → next ≡ entries ++ kids_of h.entries id → start ≡ first ++ length entries ∷ [] → IsUnder h.entries top next start
laid_step h top entries next first start p id legal under many here e f =
    let known : id.0 < length h.entries = under.laid.known p id (sym here) in
    let lower = kids_lower h id legal known in
    let more : IsUnder h.entries top (entries ++ kids_of h.entries id) (first ++ length entries ∷ []) = record {
      laid = laid_more h.entries top entries first p id under.laid many (sym here) lower;
      dense = dense_more h.entries top entries first p id under.laid under.dense many (sym here) lower;
    } in
    subst (λ xs. IsUnder h.entries top next xs) (sym f) (subst (λ xs. IsUnder h.entries top xs (first ++ length entries ∷ [])) (sym e) more)

pub laid_all : (forms : List FormView) (top : EntryId) (entries : List EntryId) (first : List ℕ) (p : ℕ) → IsUnder forms top entries first → length first ≡ p
    → None ≡ slice_get entries p → IsLayout forms top (record { entries = entries; first = first })
laid_all forms top entries first p under many e = record {
  laid = under.laid;
  dense = under.dense;
  whole = (elim (cases_lt p (length entries)) [
    | inl a ↦ (let x = some_at entries p a in let y : None ≡ Some x.0 = e ∙ x.1 in cc)
    | inr b ↦ (let few : length first ≤ length entries = under.laid.few in omega (arith, b, few, many))
  ]);
}

-- what a look at a list of entries found
pub found : (entries seen : List EntryId) (p : ℕ) (r o : Option EntryId) → r ≡ o → r ≡ slice_get seen p → seen ≡ entries → o ≡ slice_get entries p
found entries seen p r o a b e = sym a ∙ b ∙ ap (λ xs. slice_get xs p) e

pub longer_by_one : (first start : List ℕ) (n p : ℕ) → length first ≡ p → start ≡ first ++ n ∷ [] → length start ≡ p + 1
longer_by_one first start n p e f = let a : length start ≡ length first + 1 = ap length f ∙ length-append first (n ∷ []) in omega (arith, a, e)
