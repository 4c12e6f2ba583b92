-- The clock edge of one instance, and of one after another.
use Rattle.std.proofs.Common.{◌≡◌, ◌≢◌, ℕ, ◌+◌, ◌<◌, ◌≤◌, Bool, true, false, ◌⊎◌, inl, inr, List, length, map, slice_set, refl, sym, ap, subst, ◌∙◌, arith}
use Rattle.std.specs.Prelude.{Option, Some, None, slice_get, slice_index_or}
use Rattle.std.proofs.lemmas.Bool.{cases_lt}
use Rattle.hc_bits.specs.BitVector.{BitVector}
use Rattle.hc_canon.specs.declared.form.EntryId.{EntryId}
use Rattle.hc_canon.specs.FormView.{FormView}
use Rattle.hc_rows.specs.Rows.{row_at, flat}
use Rattle.hc_steps.specs.Compiled.{PlanView}
use Rattle.hc_values.specs.Rows.{widths}
use Rattle.hc_store.specs.declared.store.Store.{Store}
use Rattle.hc_store.specs.Given.{IsInstance, IsFit}
use Rattle.hc_store.specs.Marks.{AreClosed}
use Rattle.hc_store.specs.Stored.{Advances, IsStoreOf}
use Rattle.hc_store.proofs.Sites.{within_entries}
use Rattle.hc_store.proofs.Wakes.{equal_or_not, get_at, set_other, set_length}
use Rattle.hc_edges.specs.declared.contents.Contents.{Contents}
use Rattle.hc_edges.specs.Clocked.{ClockedView, given}
use Rattle.hc_edges.specs.Edges.{AllStep, AreAtRest, EdgesAt, HasMoved, HasNotMoved, IsEdge, IsSameAt, IsStepped, IsUntouched, StepsAt, WakesReaders}
use Rattle.hc_edges.proofs.Instances.{instance_of, same_back, same_none, same_then}
use Rattle.hc_edges.proofs.Woken.{wakes_none, wakes_then}

pub not_both : {a : Option Bool} → a ≡ Some true → a ≡ Some false → ⊥
not_both t f = cc

some_or_none : {a : Option Bool} {b : Bool} → a ≡ Some b → a ≡ None → ⊥
some_or_none x y = cc

-- what the code reads of an instance's mark is there
pub moved_here : (store : Store) (p : ℕ) (d b : Bool) {n : ℕ} → length store.moved.items ≡ n → p < n → d ≡ slice_index_or store.moved.items p d → d ≡ b → slice_get store.moved.items p ≡ Some b
moved_here store p d b many l is e = get_at store.moved.items p d (omega (arith, many, l)) ∙ ap (λ (x : Bool). Some x) (sym is ∙ e)

-- ---- an instance that stays

pub untouched_none : (p : ℕ) (contents : Contents) (store : Store) → IsUntouched p contents contents store store
untouched_none p contents store = record { same = same_none p contents; moved = refl }

pub untouched_then : (p : ℕ) (old mid new : Contents) (store between next : Store) → IsUntouched p old mid store between → IsUntouched p mid new between next → IsUntouched p old new store next
untouched_then p old mid new store between next a b = record { same = same_then p old mid new a.same b.same; moved = b.moved ∙ a.moved }

-- its mark is set to another value, but no other's
pub moved_other : (p q : ℕ) (old new : Contents) (store next : Store) (b : Bool) → IsSameAt q old new → next.moved.items ≡ slice_set store.moved.items p b → ¬ (p ≡ q) → IsUntouched q old new store next
moved_other p q old new store next b same is apart = record { same = same; moved = ap (λ (ms : List Bool). slice_get ms q) is ∙ set_other store.moved.items p q b apart }

pub store_moved : (c : ClockedView) (p : ℕ) (old new : Contents) (store next : Store) (b : Bool) → IsStoreOf (given c old) store → next.values ≡ store.values → next.stale ≡ store.stale → next.moved.items ≡ slice_set store.moved.items p b → IsStoreOf (given c new) next
store_moved c p old new store next b s values stale moved = record {
  values = λ q id form plan is. ap (λ (rows : List (List BitVector)). widths (row_at rows q)) values ∙ s.values q id form plan (instance_of c new old q id form plan is);
  marks = ap (map length) stale ∙ s.marks;
  moved = ap length moved ∙ set_length store.moved.items p b ∙ s.moved;
  closed = subst (λ (rows : List (List Bool)). AreClosed (flat c.up) (flat rows)) (sym stale) s.closed;
}

module _ (c : ClockedView) where
  -- ---- one step with equal rows

  pub steps_by : (values others : List (List BitVector)) (p : ℕ) (id : EntryId) (form : FormView) (old new before after : Contents) → row_at values p ≡ row_at others p → IsSameAt p old before → IsSameAt p new after
      → StepsAt c values p id form old new → StepsAt c others p id form before after
  steps_by values others p id form old new before after v a b s =
      let ids = row_at c.registers id.0 in
      let mems = row_at c.memories id.0 in
      let one = subst (λ (z : List BitVector). IsStepped form.circuit ids mems z (row_at old.registers p) (row_at new.registers p) (row_at old.words p) (row_at new.words p)) v s in
      let two = subst (λ (z : List BitVector). IsStepped form.circuit ids mems (row_at others p) z (row_at new.registers p) (row_at old.words p) (row_at new.words p)) (sym a.registers) one in
      let three = subst (λ (z : List BitVector). IsStepped form.circuit ids mems (row_at others p) (row_at before.registers p) z (row_at old.words p) (row_at new.words p)) (sym b.registers) two in
      let four = subst (λ (z : List (List BitVector)). IsStepped form.circuit ids mems (row_at others p) (row_at before.registers p) (row_at after.registers p) z (row_at new.words p)) (sym a.words) three in
      subst (λ (z : List (List BitVector)). IsStepped form.circuit ids mems (row_at others p) (row_at before.registers p) (row_at after.registers p) (row_at before.words p) z) (sym b.words) four

  -- ---- the clock edge of one instance

  module _ (p : ℕ) (old new : Contents) (store next : Store) where
    abbrev pub AllSteps : Type 0
    AllSteps = (id : EntryId) (form : FormView) (plan : PlanView) → IsInstance (given c old) p id form plan → StepsAt c store.values p id form old new

    pub edged_changed : HasMoved store p → AllSteps → next.moved.items ≡ store.moved.items → EdgesAt c p old new store next
    edged_changed moved steps same = record {
      steps = λ id form plan is m. steps id form plan is;
      stays = λ n. absurd (n moved);
      rests = λ id form plan is e. absurd (not_both moved (ap (λ (ms : List Bool). slice_get ms p) (sym same) ∙ e));
    }

    pub edged_rests : HasMoved store p → AllSteps → IsSameAt p old new → EdgesAt c p old new store next
    edged_rests moved steps same = record {
      steps = λ id form plan is m. steps id form plan is;
      stays = λ n. absurd (n moved);
      rests = λ id form plan is e. inr (steps_by store.values store.values p id form old new new new refl same (same_none p new) (steps id form plan is));
    }

  pub edged_quiet : (p : ℕ) (contents : Contents) (store : Store) → ¬ HasMoved store p → EdgesAt c p contents contents store store
  edged_quiet p contents store quiet = record {
    steps = λ id form plan is m. absurd (quiet m);
    stays = λ n. untouched_none p contents store;
    rests = λ id form plan is e. inl e;
  }

  -- ---- one after another

  -- the instances up to the k-th have made their clock edge, the others not
  pub record IsEdgedTo (k : ℕ) (old new : Contents) (store next : Store) : Type 0 where
    pub fit : IsFit (given c new)
    pub stored : IsStoreOf (given c new) next
    pub done : (q : ℕ) → q < k → EdgesAt c q old new store next
    pub ahead : (q : ℕ) → k ≤ q → IsUntouched q old new store next
    pub marks : WakesReaders c old new store next

  pub edged_starts : (contents : Contents) (store : Store) → IsFit (given c contents) → IsStoreOf (given c contents) store → IsEdgedTo 0 contents contents store store
  edged_starts contents store fit s = record {
    fit = fit;
    stored = s;
    done = λ q l. absurd (omega (arith, l));
    ahead = λ q l. untouched_none q contents store;
    marks = wakes_none c contents store;
  }

  -- an edge before others stay
  edges_then : (q : ℕ) (old mid new : Contents) (store between next : Store) → EdgesAt c q old mid store between → IsUntouched q mid new between next → EdgesAt c q old new store next
  edges_then q old mid new store between next a b = record {
    steps = λ id form plan is m. steps_by store.values store.values q id form old mid old new refl (same_none q old) b.same (a.steps id form plan is m);
    stays = λ n. untouched_then q old mid new store between next (a.stays n) b;
    rests = λ id form plan is e. elim (a.rests id form plan is (sym b.moved ∙ e)) [
      | inl before ↦ inl before
      | inr rest ↦ inr (steps_by store.values store.values q id form mid mid new new refl b.same b.same rest)
    ];
  }

  -- an edge after others stayed
  then_edges : (q : ℕ) (old mid new : Contents) (store between next : Store) → between.values ≡ store.values → IsUntouched q old mid store between → EdgesAt c q mid new between next → EdgesAt c q old new store next
  then_edges q old mid new store between next values a b = record {
    steps = λ id form plan is m.
        steps_by between.values store.values q id form mid new old new (ap (λ (rows : List (List BitVector)). row_at rows q) values) (same_back q old mid a.same) (same_none q new)
        (b.steps id form plan (instance_of c old mid q id form plan is) (a.moved ∙ m));
    stays = λ n. untouched_then q old mid new store between next a (b.stays (λ m. n (sym a.moved ∙ m)));
    rests = λ id form plan is e. elim (b.rests id form plan (instance_of c old mid q id form plan is) e) [
      | inl before ↦ inl (sym a.moved ∙ before)
      | inr rest ↦ inr (steps_by between.values store.values q id form new new new new (ap (λ (rows : List (List BitVector)). row_at rows q) values) (same_none q new) (same_none q new) rest)
    ];
  }

  pub edged_then : (k : ℕ) (old mid new : Contents) (store between next : Store) → IsEdgedTo k old mid store between → IsFit (given c new) → IsStoreOf (given c new) next → EdgesAt c k mid new between next
      → ((q : ℕ) → ¬ (k ≡ q) → IsUntouched q mid new between next) → WakesReaders c mid new between next → IsEdgedTo (k + 1) old new store next
  edged_then k old mid new store between next a fit s edge others marks = record {
    fit = fit;
    stored = s;
    done = λ q l. by q l (equal_or_not k q);
    ahead = λ q l. untouched_then q old mid new store between next (a.ahead q (omega (arith, l))) (others q (λ e. too_far q e l));
    marks = wakes_then c old mid new store between next a.marks marks;
  }
    where
      too_far : (q : ℕ) → k ≡ q → k + 1 ≤ q → ⊥
      too_far q e l = absurd (omega (arith, e, l))

      by : (q : ℕ) → q < k + 1 → (k ≡ q) ⊎ (k ≢ q) → EdgesAt c q old new store next
      by q l (inl same) = subst (λ (n : ℕ). EdgesAt c n old new store next) same (then_edges k old mid new store between next a.marks.values (a.ahead k (omega arith)) edge)
      by q l (inr apart) = edges_then q old mid new store between next (a.done q (omega (arith, l, apart))) (others q apart)

  pub edged_ends : (k : ℕ) (old new : Contents) (store next : Store) → IsEdgedTo k old new store next → length c.entries ≤ k → IsEdge c old new store next
  edged_ends k old new store next a l q = by (cases_lt q k)
    where
      nowhere : k ≤ q → (id : EntryId) (form : FormView) (plan : PlanView) → IsInstance (given c old) q id form plan → ⊥
      nowhere past id form plan is = let w = within_entries (given c old) q id form plan is in absurd (omega (arith, w, l, past))

      by : (q < k) ⊎ (k ≤ q) → EdgesAt c q old new store next
      by (inl below) = a.done q below
      by (inr past) = record {
        steps = λ id form plan is m. absurd (nowhere past id form plan is);
        stays = λ n. a.ahead q past;
        rests = λ id form plan is e. absurd (nowhere past id form plan is);
      }

  -- ---- at rest

  moved_or_not : (p : ℕ) (store : Store) → p < length store.moved.items → HasMoved store p ⊎ HasNotMoved store p
  moved_or_not p store l = by (slice_get store.moved.items p) refl
    where
      by : (o : Option Bool) → slice_get store.moved.items p ≡ o → HasMoved store p ⊎ HasNotMoved store p
      by None e = absurd (some_or_none (get_at store.moved.items p false l) e)
      by (Some true) e = inl e
      by (Some false) e = inr e

  not_moved : (p : ℕ) (store : Store) → HasNotMoved store p → ¬ HasMoved store p
  not_moved p store n m = not_both m n

  module _ (old new : Contents) (store next : Store) (s : IsStoreOf (given c old) store) (edge : IsEdge c old new store next) (rest : AreAtRest c old store) where
    pub all_step : AllStep c store.values old new
    all_step p id form plan is = elim (moved_or_not p store (let w = within_entries (given c old) p id form plan is in let m = s.moved in omega (arith, w, m))) [
      | inl moved ↦ let e = edge p in e.steps id form plan is moved
      | inr quiet ↦ let e = edge p in let u = e.stays (not_moved p store quiet) in steps_by store.values store.values p id form old old old new refl (same_none p old) u.same (rest p id form plan is quiet)
    ]

    pub still_at_rest : next.values ≡ store.values → AreAtRest c new next
    still_at_rest values p id form plan is quiet =
        let here = instance_of c new old p id form plan is in
        let e = edge p in
        let same_values : row_at store.values p ≡ row_at next.values p = ap (λ (rows : List (List BitVector)). row_at rows p) (sym values) in
        elim (e.rests id form plan here quiet) [
          | inl before ↦ let u = e.stays (not_moved p store before) in steps_by store.values next.values p id form old old new new same_values u.same u.same (rest p id form plan here before)
          | inr now ↦ steps_by store.values next.values p id form new new new new same_values (same_none p new) (same_none p new) now
        ]

  pub rest_settles : (contents : Contents) (old new : Store) → Advances (given c contents) old new → AreAtRest c contents old → AreAtRest c contents new
  rest_settles contents old new advances rest p id form plan is quiet =
      let q = advances.quiet p quiet in
      steps_by old.values new.values p id form contents contents contents contents (sym q.1) (same_none p contents) (same_none p contents) (rest p id form plan is q.0)
