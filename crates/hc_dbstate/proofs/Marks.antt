-- Marks of the entries that an entry uses.
use Rattle.std.proofs.Common.{◌≡◌, ◌≢◌, ℕ, zero, suc, ◌+◌, ◌<◌, ◌≤◌, Bool, true, false, ◌⊎◌, inl, inr, List, [], ◌∷◌, length, replicate, slice_set, get_or, refl, sym, ap, subst, ◌∙◌, arith}
use Rattle.std.specs.Prelude.{Some, slice_get}
use Rattle.std.proofs.lemmas.Option.{slice_get_within}
use Rattle.std.proofs.lemmas.Bool.Decides.{eqb_tells}
use Rattle.hc_signal.specs.Member.{Has, first, later}
use Rattle.hc_canon.specs.declared.form.EntryId.{EntryId}
use Rattle.hc_canon.specs.FormView.{FormView}
use Rattle.hc_dbstate.specs.Uses.{Uses, itself, kid, IsMarked, AreUses, with_mark, with_marks}

-- ---- one list of marks

cases_eq : (a b : ℕ) → (a ≡ b) ⊎ (a ≢ b)
cases_eq a b = elim (eqb_tells a b) [ inl e ↦ inl e.1 | inr n ↦ inr n.1 ]

none_marked : (n k : ℕ) → slice_get (replicate n false) k ≡ Some true → ⊥
none_marked zero k e = absurd cc
none_marked (suc n) zero e = absurd cc
none_marked (suc n) (suc k) e = none_marked n k e

set_here : (marks : List Bool) (k : ℕ) → k < length marks → slice_get (slice_set marks k true) k ≡ Some true
set_here [] k lt = absurd (omega (arith, lt))
set_here (m ∷ marks) zero lt = refl
set_here (m ∷ marks) (suc k) lt = set_here marks k (omega (arith, lt))

set_other : (marks : List Bool) (k j : ℕ) → k ≢ j → slice_get (slice_set marks k true) j ≡ slice_get marks j
set_other [] k j n = refl
set_other (m ∷ marks) zero zero n = absurd (n refl)
set_other (m ∷ marks) zero (suc j) n = refl
set_other (m ∷ marks) (suc k) zero n = refl
set_other (m ∷ marks) (suc k) (suc j) n = set_other marks k j (λ e. n (ap suc e))

set_length : (marks : List Bool) (k : ℕ) → length (slice_set marks k true) ≡ length marks
set_length [] k = refl
set_length (m ∷ marks) zero = refl
set_length (m ∷ marks) (suc k) = ap suc (set_length marks k)

pub marked_other : (marks : List Bool) (id k : EntryId) → IsMarked (with_mark marks id) k → IsMarked marks k ⊎ (k ≡ id)
marked_other marks id k h = elim (cases_eq id.0 k.0) [
  | inl same ↦ inr (ap (λ (n : ℕ). let e : EntryId = record { 0 = n } in e) (sym same))
  | inr other ↦ inl (sym (set_other marks id.0 k.0 other) ∙ h)
]

marked_still : (marks : List Bool) (id k : EntryId) → id.0 < length marks → IsMarked marks k → IsMarked (with_mark marks id) k
marked_still marks id k lt h = elim (cases_eq id.0 k.0) [
  | inl same ↦ subst (λ (n : ℕ). slice_get (slice_set marks id.0 true) n ≡ Some true) same (set_here marks id.0 lt)
  | inr other ↦ set_other marks id.0 k.0 other ∙ h
]

-- ---- some marks more

abbrev pub AreInside : List EntryId → ℕ → Type 0
AreInside ids len = (id : EntryId) → Has ids id → id.0 < len

marks_length : (marks : List Bool) (ids : List EntryId) → length (with_marks marks ids) ≡ length marks
marks_length marks [] = refl
marks_length marks (id ∷ ids) = marks_length (with_mark marks id) ids ∙ set_length marks id.0

still_inside : (marks : List Bool) (id : EntryId) (ids : List EntryId) → AreInside (id ∷ ids) (length marks) → AreInside ids (length (with_mark marks id))
still_inside marks id ids inside k h = let e = set_length marks id.0 in let lt = inside k (later h) in omega (arith, e, lt)

marks_still : (marks : List Bool) (ids : List EntryId) (k : EntryId) → AreInside ids (length marks) → IsMarked marks k → IsMarked (with_marks marks ids) k
marks_still marks [] k inside h = h
marks_still marks (id ∷ ids) k inside h = marks_still (with_mark marks id) ids k (still_inside marks id ids inside) (marked_still marks id k (inside id first) h)

marks_new : (marks : List Bool) (ids : List EntryId) (k : EntryId) → AreInside ids (length marks) → Has ids k → IsMarked (with_marks marks ids) k
marks_new marks [] k inside h = elim h [ ]
marks_new marks (id ∷ ids) k inside first = marks_still (with_mark marks id) ids id (still_inside marks id ids inside) (set_here marks id.0 (inside id first))
marks_new marks (id ∷ ids) k inside (later h) = marks_new (with_mark marks id) ids k (still_inside marks id ids inside) h

marks_only : (marks : List Bool) (ids : List EntryId) (k : EntryId) → IsMarked (with_marks marks ids) k → IsMarked marks k ⊎ Has ids k
marks_only marks [] k h = inl h
marks_only marks (id ∷ ids) k h = elim (marks_only (with_mark marks id) ids k h) [
  | inr more ↦ inr (later more)
  | inl one ↦ elim (marked_other marks id k one) [
    | inl old ↦ inl old
    | inr new ↦ inr (subst (Has (id ∷ ids)) (sym new) first)
  ]
]

pub has_place : (ids : List EntryId) (i : ℕ) (d : EntryId) → i < length ids → Has ids (get_or ids i d)
has_place [] i d lt = absurd (omega (arith, lt))
has_place (x ∷ ids) zero d lt = first
has_place (x ∷ ids) (suc i) d lt = later (has_place ids i d (omega (arith, lt)))

-- ---- the pass down

abbrev entry : ℕ → EntryId
entry k = record { 0 = k }

-- What is marked is used, and the kids of the marked entries from a place on are marked.
pub record AreUsesAbove (entries : List FormView) (top : EntryId) (marks : List Bool) (place : ℕ) : Type 0 where
  pub len : length marks ≡ length entries
  pub own : IsMarked marks top
  pub sound : (id : EntryId) → IsMarked marks id → Uses entries top id
  pub closed : (id next : EntryId) (form : FormView) → place ≤ id.0 → IsMarked marks id → slice_get entries id.0 ≡ Some form → Has form.kids next → IsMarked marks next
  pub low : place ≤ length entries

abbrev pub HaveLowerKids : List FormView → Type 0
HaveLowerKids entries = (k : ℕ) (form : FormView) (id : EntryId) → slice_get entries k ≡ Some form → Has form.kids id → id.0 < k

length-replicate_off : (n : ℕ) → length (replicate n false) ≡ n
length-replicate_off zero = refl
length-replicate_off (suc n) = ap suc (length-replicate_off n)

pub starts : (entries : List FormView) (top : EntryId) (marks : List Bool) → top.0 < length entries → marks ≡ with_mark (replicate (length entries) false) top
    → AreUsesAbove entries top marks (length entries)
starts entries top marks lt is =
    let n : length marks ≡ length entries = ap length is ∙ set_length (replicate (length entries) false) top.0 ∙ length-replicate_off (length entries) in
    let l = length-replicate_off (length entries) in
    record {
      len = n;
      own = ap (λ (m : List Bool). slice_get m top.0) is ∙ set_here (replicate (length entries) false) top.0 (omega (arith, l, lt));
      sound = λ id h. elim (marked_other (replicate (length entries) false) top id (subst (λ (m : List Bool). IsMarked m id) is h)) [
        | inl off ↦ absurd (none_marked (length entries) id.0 off)
        | inr same ↦ subst (Uses entries top) (sym same) itself
      ];
      closed = λ id next form le h at has. let within = slice_get_within marks id.0 true h in absurd (omega (arith, le, within, n));
      low = omega arith;
    }

-- an entry that is not marked
pub passes : (entries : List FormView) (top : EntryId) (marks : List Bool) (place i : ℕ) → place ≡ i + 1 → (IsMarked marks (entry i) → ⊥)
    → AreUsesAbove entries top marks place → AreUsesAbove entries top marks i
passes entries top marks place i is off u = record {
  len = u.len;
  own = u.own;
  sound = u.sound;
  closed = λ id next form le h at has. elim (cases_eq id.0 i) [
    | inl same ↦ absurd (off (subst (λ (k : ℕ). slice_get marks k ≡ Some true) same h))
    | inr other ↦ u.closed id next form (omega (arith, is, le, other)) h at has
  ];
  low = let l = u.low in omega (arith, is, l);
}

-- an entry that is marked, whose kids are marked
pub takes : (entries : List FormView) (top : EntryId) (marks new : List Bool) (place i : ℕ) (form : FormView) → HaveLowerKids entries → place ≡ i + 1
    → IsMarked marks (entry i) → slice_get entries i ≡ Some form → new ≡ with_marks marks form.kids → AreUsesAbove entries top marks place
    → AreUsesAbove entries top new i
takes entries top marks new place i form lower is on at made u =
    subst (λ (m : List Bool). AreUsesAbove entries top m i) (sym made) (record {
      len = marks_length marks form.kids ∙ u.len;
      own = marks_still marks form.kids top inside u.own;
      sound = λ id h. elim (marks_only marks form.kids id h) [
        | inl old ↦ u.sound id old
        | inr new ↦ kid form (u.sound (entry i) on) at new
      ];
      closed = λ id next f le h g has. elim (marks_only marks form.kids id h) [
        | inl old ↦ elim (cases_eq id.0 i) [
          | inl same ↦ marks_new marks form.kids next inside (subst (λ (x : FormView). Has x.kids next) (one_of id.0 f same g) has)
          | inr other ↦ marks_still marks form.kids next inside (u.closed id next f (omega (arith, is, le, other)) old g has)
        ]
        | inr new ↦ let lt = lower i form id at new in absurd (omega (arith, le, lt))
      ];
      low = let l = u.low in omega (arith, is, l);
    })
  where
    inside : AreInside form.kids (length marks)
    inside id h = let lt = lower i form id at h in let l = u.low in let n = u.len in omega (arith, lt, l, n, is)

    one_of : (k : ℕ) (f : FormView) → k ≡ i → slice_get entries k ≡ Some f → f ≡ form
    one_of k f same g = let both : Some f ≡ Some form = sym g ∙ ap (slice_get entries) same ∙ at in cc

pub ends : (entries : List FormView) (top : EntryId) (marks : List Bool) (place : ℕ) → place ≤ 0 → AreUsesAbove entries top marks place → AreUses entries top marks
ends entries top marks place le u id = (u.sound id, all id)
  where
    all : (k : EntryId) → Uses entries top k → IsMarked marks k
    all k itself = u.own
    all k (kid {id = j} form used at has) = u.closed j k form (omega (arith, le)) (all j used) at has
