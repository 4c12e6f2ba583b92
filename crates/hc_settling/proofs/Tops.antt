-- A settling makes all facts of the top known.
use Rattle.std.proofs.Common.{◌≡◌, ℕ, zero, suc, ◌<◌, ◌≤◌, Bool, ◌⊎◌, inl, inr, List, [], sym, subst, ◌∙◌, ap, arith}
use Rattle.std.specs.Prelude.{slice_index}
use Rattle.hc_signal.specs.Member.{Has}
use Rattle.hc_signal.specs.declared.signal.Node.{Node}
use Rattle.hc_signal.specs.declared.signal.Node.TheVariants.{Input}
use Rattle.hc_signal.specs.Tree.{Tree, IsWhole}
use Rattle.hc_signal.specs.Occurrences.{Occurrence, tree_at, graph_at, NodeIs, IsReachedOccurrence}
use Rattle.hc_bench.specs.Simulation.{State, value, IsSettled}
use Rattle.hc_steps.specs.Plan.{Step, Part, steps_at, Fact, facts, Begins, constant, input, before}
use Rattle.hc_settling.specs.Known.{at_path, ArePlans, IsRight, IsKnown, is_made, AreMarked, KeepsConstants, KeepsInputs}
use Rattle.hc_steps.specs.Tables.{Tables}
use Rattle.hc_settling.specs.Tables.{AreTablesOf}
use Rattle.hc_settling.specs.Settling.{Board, IsCalled, IsSound, Settles, over, rests, works}
use Rattle.hc_settling.proofs.Agrees.{row_in, whole_at}
use Rattle.hc_settling.proofs.Quiet.{known_stays, still_known, constant_right}
use Rattle.hc_settling.proofs.Whole.{all_settled, unmarked_still}
use Rattle.hc_settling.proofs.Settles.{walk_sound}

below : (m n : ℕ) → (m < n) ⊎ (n ≤ m)
below zero zero = inr (omega arith)
below zero (suc n) = inl (omega arith)
below (suc m) zero = inr (omega arith)
below (suc m) (suc n) = elim (below m n) [ inl l ↦ inl (omega (arith, l)) | inr l ↦ inr (omega (arith, l)) ]

module _ (t : Tree) (plans : List ℕ → List Part) (tables : List ℕ → Tables) (whole : IsWhole t) (are : ArePlans t plans) (told : AreTablesOf t plans tables) (state : State)
    (inputs : List ℕ) (v : Occurrence → ℕ) (settled : IsSettled t state inputs v) where
  abbrev InputsRight : (Occurrence → ℕ) → Type 0
  InputsRight vals = (n port : ℕ) → NodeIs t [] n (Input port) → IsRight vals v t (at_path [] n)

  abbrev KnownTo : (Occurrence → ℕ) → ℕ → Type 0
  KnownTo vals part = (b : ℕ) → b < part → (f : Fact) → Has (facts (steps_at (plans []) b)) f → IsKnown t plans vals v [] f

  begins_top : (vals : Occurrence → ℕ) → KeepsConstants t vals → InputsRight vals → (part : ℕ) → KnownTo vals part → (f : Fact) → Begins (graph_at t []) (plans []) part f → IsKnown t plans vals v [] f
  begins_top vals keep ins part k _ (constant {n = n} c y) = is_made (constant_right t plans state inputs vals v settled keep [] n c y)
  begins_top vals keep ins part k _ (input {n = n} port y need) = is_made (ins n port y)
  begins_top vals keep ins part k f (before b is h) = k b is.0 f h

  not_called : (stale : List ℕ → ℕ → Bool) (part : ℕ) → IsCalled plans tables stale [] part
  not_called stale part i q e = absurd (cc)

  one_more : (vals : Occurrence → ℕ) (part : ℕ) → KnownTo vals part → ((f : Fact) → Has (facts (steps_at (plans []) part)) f → IsKnown t plans vals v [] f) → KnownTo vals (suc part)
  one_more vals part k now b l f h = elim (below b part) [
    | inl c ↦ k b c f h
    | inr c ↦ now f (let e : b ≡ part = omega (arith, c, l) in subst (λ (z : ℕ). Has (facts (steps_at (plans []) z)) f) e h)
  ]

  abbrev Done : Board → Type 0
  Done new = KeepsConstants t new.vals × InputsRight new.vals × ((b : ℕ) (f : Fact) → Has (facts (steps_at (plans []) b)) f → IsKnown t plans new.vals v [] f)

  settles : {part : ℕ} {old new : Board} → Settles t plans tables state inputs part old new → AreMarked t plans state inputs old.vals old.stale
      → KeepsConstants t old.vals → InputsRight old.vals → KnownTo old.vals part → Done new
  settles (over {part = part} none) marked keep ins k =
      (keep, ins, (λ b f h. elim (below b part) [ inl l ↦ k b l f h | inr l ↦ nothing f (subst (λ (z : List Step). Has (facts z) f) (none b l) h) ]))
    where
      nothing : {vals : Occurrence → ℕ} (f : Fact) → Has (facts []) f → IsKnown t plans vals v [] f
      nothing f h = elim h [ ]
  settles (rests {part = part} {old = old} e rest) marked keep ins k =
      settles rest marked keep ins
      (one_more old.vals part k
      (still_known t plans state inputs old.vals v settled keep are (unmarked_still t plans are state inputs old.vals whole old.stale marked [] part tt e) tt (begins_top old.vals keep ins part k)))
  settles (works {part = part} {old = old} {mid = mid} e walk rest) marked keep ins k =
      let s : IsSound t plans state inputs v old mid [] (facts (steps_at (plans []) part)) =
      walk_sound t plans tables whole are told state inputs v settled walk tt e (not_called old.stale part) marked keep (λ z h. h) (Begins (graph_at t []) (plans []) part) [] ((are [] tt).parts part)
      (begins_top old.vals keep ins part k) (λ f h. elim h [ ]) in
      settles rest s.marks s.constants (λ n port y. s.right (at_path [] n) (ins n port y)) (one_more mid.vals part (λ b l f h. known_stays s.right (k b l f h)) s.known)

  top_input : (n port : ℕ) → NodeIs t [] n (Input port) → IsReachedOccurrence t (at_path [] n) → v (at_path [] n) ≡ slice_index inputs port
  top_input n port y r = settled (at_path [] n) y.0 r y.1 ∙ ap (λ (z : Node). value t state inputs v [] n z) y.2

  pub settling_settles : (old new : Board) → Settles t plans tables state inputs 0 old new → AreMarked t plans state inputs old.vals old.stale → KeepsConstants t old.vals
      → KeepsInputs t inputs old.vals
      → IsSettled t state inputs new.vals × KeepsConstants t new.vals × KeepsInputs t inputs new.vals
  settling_settles old new s marked keep tops =
      let done : Done new = settles s marked keep (λ n port y r. tops n port y r ∙ sym (top_input n port y r)) (λ b l f h. absurd (omega (arith, l))) in
      let ins : KeepsInputs t inputs new.vals = λ n port y r. done.1 n port y r ∙ top_input n port y r in
      (all_settled t plans are state inputs new.vals v settled done.0 ins (λ z r. row_in (tree_at t z.path) (whole_at t whole z.path r.0) r.1) done.2, done.0, ins)
