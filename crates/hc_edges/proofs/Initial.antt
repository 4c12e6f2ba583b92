-- The reset of one instance, and of one after another.
use Rattle.std.proofs.Common.{◌≡◌, ◌≢◌, ℕ, ◌+◌, ◌<◌, ◌≤◌, Bool, true, ◌⊎◌, inl, inr, List, length, slice_set, refl, sym, ap, subst, ◌∙◌, arith}
use Rattle.std.specs.Prelude.{slice_get}
use Rattle.std.proofs.lemmas.Bool.{cases_lt}
use Rattle.hc_bits.specs.BitVector.{BitVector}
use Rattle.hc_canon.specs.declared.form.EntryId.{EntryId}
use Rattle.hc_canon.specs.FormView.{FormView}
use Rattle.hc_rows.specs.Rows.{row_at}
use Rattle.hc_steps.specs.Compiled.{PlanView}
use Rattle.hc_store.specs.declared.store.Store.{Store}
use Rattle.hc_store.specs.Given.{IsInstance, IsFit}
use Rattle.hc_store.specs.Stored.{IsStoreOf}
use Rattle.hc_store.proofs.Sites.{within_entries}
use Rattle.hc_store.proofs.Wakes.{equal_or_not, set_here}
use Rattle.hc_edges.specs.declared.contents.Contents.{Contents}
use Rattle.hc_edges.specs.Clocked.{ClockedView, given}
use Rattle.hc_edges.specs.Edges.{AreAtRest, HasMoved, IsReset, IsResetAt, IsResetRow, IsSameAt, IsUntouched, ResetsAt, WakesReaders}
use Rattle.hc_edges.proofs.Instances.{instance_of, same_back, same_none}
use Rattle.hc_edges.proofs.Woken.{wakes_none, wakes_then}
use Rattle.hc_edges.proofs.Edged.{not_both, steps_by, untouched_none, untouched_then}

module _ (c : ClockedView) where
  -- one reset with equal rows
  resets_by : (p : ℕ) (id : EntryId) (form : FormView) (old new before after : Contents) → IsSameAt p old before → IsSameAt p new after → ResetsAt c p id form old new → ResetsAt c p id form before after
  resets_by p id form old new before after a b r =
      let ids = row_at c.registers id.0 in
      let one = subst (λ (z : List BitVector). IsResetRow form.circuit ids z (row_at new.registers p)) (sym a.registers) r in
      subst (λ (z : List BitVector). IsResetRow form.circuit ids (row_at before.registers p) z) (sym b.registers) one

  -- ---- one instance

  module _ (p : ℕ) (old new : Contents) (store next : Store) where
    abbrev pub AllReset : Type 0
    AllReset = (id : EntryId) (form : FormView) (plan : PlanView) → IsInstance (given c old) p id form plan → ResetsAt c p id form old new

    pub reset_changed : HasMoved next p → AllReset → IsResetAt c p old new store next
    reset_changed moved resets = record { registers = resets; rests = λ e. absurd (not_both moved e) }

    pub reset_rests : AllReset → IsSameAt p old new → next.moved.items ≡ store.moved.items → IsResetAt c p old new store next
    reset_rests resets same moved = record { registers = resets; rests = λ e. record { same = same; moved = ap (λ (ms : List Bool). slice_get ms p) moved } }

  pub now_moved : (p : ℕ) (contents : Contents) (store next : Store) → IsStoreOf (given c contents) store → p < length c.entries → next.moved.items ≡ slice_set store.moved.items p true → HasMoved next p
  now_moved p contents store next s l is = let m = s.moved in ap (λ (ms : List Bool). slice_get ms p) is ∙ set_here store.moved.items p true (omega (arith, l, m))

  -- ---- one after another

  -- the instances up to the k-th are reset, the others not
  pub record IsResetTo (k : ℕ) (old new : Contents) (store next : Store) : Type 0 where
    pub fit : IsFit (given c new)
    pub stored : IsStoreOf (given c new) next
    pub words : new.words ≡ old.words
    pub done : (q : ℕ) → q < k → IsResetAt c q old new store next
    pub ahead : (q : ℕ) → k ≤ q → IsUntouched q old new store next
    pub marks : WakesReaders c old new store next

  pub reset_starts : (contents : Contents) (store : Store) → IsFit (given c contents) → IsStoreOf (given c contents) store → IsResetTo 0 contents contents store store
  reset_starts contents store fit s = record {
    fit = fit;
    stored = s;
    words = refl;
    done = λ q l. absurd (omega (arith, l));
    ahead = λ q l. untouched_none q contents store;
    marks = wakes_none c contents store;
  }

  -- a reset before others stay
  resets_then : (q : ℕ) (old mid new : Contents) (store between next : Store) → IsResetAt c q old mid store between → IsUntouched q mid new between next → IsResetAt c q old new store next
  resets_then q old mid new store between next a b = record {
    registers = λ id form plan is. resets_by q id form old mid old new (same_none q old) b.same (a.registers id form plan is);
    rests = λ e. untouched_then q old mid new store between next (a.rests (sym b.moved ∙ e)) b;
  }

  -- a reset after others stayed
  then_resets : (q : ℕ) (old mid new : Contents) (store between next : Store) → IsUntouched q old mid store between → IsResetAt c q mid new between next → IsResetAt c q old new store next
  then_resets q old mid new store between next a b = record {
    registers = λ id form plan is. resets_by q id form mid new old new (same_back q old mid a.same) (same_none q new) (b.registers id form plan (instance_of c old mid q id form plan is));
    rests = λ e. untouched_then q old mid new store between next a (b.rests e);
  }

  pub reset_then : (k : ℕ) (old mid new : Contents) (store between next : Store) → IsResetTo k old mid store between → IsFit (given c new) → IsStoreOf (given c new) next → new.words ≡ mid.words → IsResetAt c k mid new between next
      → ((q : ℕ) → ¬ (k ≡ q) → IsUntouched q mid new between next) → WakesReaders c mid new between next → IsResetTo (k + 1) old new store next
  reset_then k old mid new store between next a fit s words reset others marks = record {
    fit = fit;
    stored = s;
    words = words ∙ a.words;
    done = λ q l. by q l (equal_or_not k q);
    ahead = λ q l. untouched_then q old mid new store between next (a.ahead q (omega (arith, l))) (others q (λ e. too_far q e l));
    marks = wakes_then c old mid new store between next a.marks marks;
  }
    where
      too_far : (q : ℕ) → k ≡ q → k + 1 ≤ q → ⊥
      too_far q e l = absurd (omega (arith, e, l))

      by : (q : ℕ) → q < k + 1 → (k ≡ q) ⊎ (k ≢ q) → IsResetAt c q old new store next
      by q l (inl same) = subst (λ (n : ℕ). IsResetAt c n old new store next) same (then_resets k old mid new store between next (a.ahead k (omega arith)) reset)
      by q l (inr apart) = resets_then q old mid new store between next (a.done q (omega (arith, l, apart))) (others q apart)

  pub reset_ends : (k : ℕ) (old new : Contents) (store next : Store) → IsResetTo k old new store next → length c.entries ≤ k → IsReset c old new store next
  reset_ends k old new store next a l = (a.words, λ q. by q (cases_lt q k))
    where
      nowhere : (q : ℕ) → k ≤ q → (id : EntryId) (form : FormView) (plan : PlanView) → IsInstance (given c old) q id form plan → ⊥
      nowhere q past id form plan is = let w = within_entries (given c old) q id form plan is in absurd (omega (arith, w, l, past))

      by : (q : ℕ) → (q < k) ⊎ (k ≤ q) → IsResetAt c q old new store next
      by q (inl below) = a.done q below
      by q (inr past) = record { registers = λ id form plan is. absurd (nowhere q past id form plan is); rests = λ e. a.ahead q past }

  -- ---- at rest

  pub reset_at_rest : (old new : Contents) (store next : Store) → IsReset c old new store next → next.values ≡ store.values → AreAtRest c old store → AreAtRest c new next
  reset_at_rest old new store next reset values rest p id form plan is quiet =
      let r = reset.1 p in
      let u = r.rests quiet in
      let here = instance_of c new old p id form plan is in
      steps_by c store.values next.values p id form old old new new (ap (λ (rows : List (List BitVector)). row_at rows p) (sym values)) u.same u.same (rest p id form plan here (sym u.moved ∙ quiet))
