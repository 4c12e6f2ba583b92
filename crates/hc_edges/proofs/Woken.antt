-- Which parts are marked where contents change.
use Rattle.std.proofs.Common.{◌≡◌, ◌≢◌, ℕ, Bool, ◌⊎◌, inl, inr, List, map, length, refl, sym, ap, subst, ◌∙◌, arith}
use Rattle.hc_bits.specs.BitVector.{BitVector}
use Rattle.hc_canon.specs.declared.form.EntryId.{EntryId}
use Rattle.hc_canon.specs.FormView.{FormView}
use Rattle.hc_rows.specs.Rows.{row_at, flat, number_of}
use Rattle.hc_steps.specs.Compiled.{PlanView}
use Rattle.hc_values.specs.Rows.{widths}
use Rattle.hc_store.specs.declared.store.Store.{Store}
use Rattle.hc_store.specs.Given.{IsInstance}
use Rattle.hc_store.specs.Marks.{IsOn, AreClosed, AreMoreMarked}
use Rattle.hc_store.specs.Stored.{IsStoreOf}
use Rattle.hc_store.proofs.FlatRows.{same_numbers, same_size}
use Rattle.hc_store.proofs.Wakes.{equal_or_not}
use Rattle.hc_edges.specs.declared.contents.Contents.{Contents}
use Rattle.hc_edges.specs.Clocked.{ClockedView, given}
use Rattle.hc_edges.specs.Edges.{IsSameAt, AreOn, WakesReaders}
use Rattle.hc_edges.proofs.Instances.{instance_of, same_none, same_then}

-- marks of the same shape, of which none goes
module _ (old new : List (List Bool)) (shape : map length new ≡ map length old) (grown : (k : ℕ) → IsOn (flat old) k → IsOn (flat new) k) (p : ℕ) where
  pub on_grown : (parts : List ℕ) → AreOn old p parts → AreOn new p parts
  on_grown parts on k h l =
      let size : length (row_at new p) ≡ length (row_at old p) = same_size new old p shape in
      let numbers : number_of old p k ≡ number_of new p k = sym (same_numbers new old p k shape) in
      subst (IsOn (flat new)) numbers (grown (number_of old p k) (on k h (omega (arith, l, size))))

pub on_more : (up : List (List ℕ)) (p : ℕ) (parts : List ℕ) (old new : List (List Bool)) → AreMoreMarked up p parts old new → AreOn new p parts
on_more up p parts old new more k h l =
    let size : length (row_at new p) ≡ length (row_at old p) = same_size new old p more.shape in
    let numbers : number_of old p k ≡ number_of new p k = sym (same_numbers new old p k more.shape) in
    subst (IsOn (flat new)) numbers (more.there k h (omega (arith, l, size)))

module _ (c : ClockedView) where
  pub wakes_none : (contents : Contents) (store : Store) → WakesReaders c contents contents store store
  wakes_none contents store = record { values = refl; shape = refl; grown = λ k h. h; closed = λ h. h; readers = λ p id form plan is. inl (same_none p contents) }

  pub wakes_then : (old mid new : Contents) (store between next : Store) → WakesReaders c old mid store between → WakesReaders c mid new between next → WakesReaders c old new store next
  wakes_then old mid new store between next a b = record {
    values = b.values ∙ a.values;
    shape = b.shape ∙ a.shape;
    grown = λ k h. b.grown k (a.grown k h);
    closed = λ h. b.closed (a.closed h);
    readers = λ p id form plan is. elim (a.readers p id form plan is) [
      | inl same ↦ elim (b.readers p id form plan (instance_of c old mid p id form plan is)) [
        | inl also ↦ inl (same_then p old mid new same also)
        | inr on ↦ inr on
      ]
      | inr on ↦ inr (on_grown between.stale next.stale b.shape b.grown p plan.state_parts on)
    ];
  }

  -- nothing has changed, and no mark
  pub wakes_same : (old new : Contents) (store next : Store) → next.values ≡ store.values → next.stale ≡ store.stale → ((p : ℕ) → IsSameAt p old new) → WakesReaders c old new store next
  wakes_same old new store next values stale same = record {
    values = values;
    shape = ap (map length) stale;
    grown = λ k h. subst (λ (rows : List (List Bool)). IsOn (flat rows) k) (sym stale) h;
    closed = λ h. subst (λ (rows : List (List Bool)). AreClosed (flat c.up) (flat rows)) (sym stale) h;
    readers = λ p id form plan is. inl (same p);
  }

  -- the contents of one instance have changed, and the parts that read them are marked
  module _ (p : ℕ) (old new : Contents) (store next : Store) (values : next.values ≡ store.values) (others : (q : ℕ) → ¬ (p ≡ q) → IsSameAt q old new)
      (marks : (contents : Contents) (id : EntryId) (form : FormView) (plan : PlanView) → IsInstance (given c contents) p id form plan → AreMoreMarked c.up p plan.state_parts store.stale next.stale)
      (id : EntryId) (form : FormView) (plan : PlanView) (is : IsInstance (given c old) p id form plan) where
    more : AreMoreMarked c.up p plan.state_parts store.stale next.stale
    more = marks old id form plan is

    readers_of : (q : ℕ) (e : EntryId) (f : FormView) (other : PlanView) → IsInstance (given c old) q e f other → (p ≡ q) ⊎ (p ≢ q) → IsSameAt q old new ⊎ AreOn next.stale q other.state_parts
    readers_of q e f other at (inl same) =
        let here : IsInstance (given c old) p e f other = subst (λ (k : ℕ). IsInstance (given c old) k e f other) (sym same) at in
        inr (subst (λ (k : ℕ). AreOn next.stale k other.state_parts) same (on_more c.up p other.state_parts store.stale next.stale (marks old e f other here)))
    readers_of q e f other at (inr apart) = inl (others q apart)

    pub wakes_one : WakesReaders c old new store next
    wakes_one = record {
      values = values;
      shape = more.shape;
      grown = more.grown;
      closed = more.closed;
      readers = λ q e f other at. readers_of q e f other at (equal_or_not p q);
    }

    pub store_woken : length next.moved.items ≡ length store.moved.items → IsStoreOf (given c old) store → IsStoreOf (given c new) next
    store_woken moved s = record {
      values = λ q e f other at. ap (λ (rows : List (List BitVector)). widths (row_at rows q)) values ∙ s.values q e f other (instance_of c new old q e f other at);
      marks = more.shape ∙ s.marks;
      moved = moved ∙ s.moved;
      closed = more.closed s.closed;
    }
