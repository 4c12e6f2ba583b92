-- How a run ends, by what was sent.
use Rattle.std.proofs.Common.{◌≡◌, ℕ, inl, inr, List, refl, sym, subst, ◌∙◌}
use Rattle.std.specs.Prelude.{Option, Result, Ok, Err, OnOk}
use Rattle.hc_outside.specs.Causes.{Rose}
use Rattle.hc_outside.specs.Moves.{AppendsFront, Holds}
use Rattle.hc_dbstate.specs.History.{History, IsLegal}
use Rattle.hc_plan.specs.Elaborates.{ElaboratedCall}
use Rattle.hc_output.specs.declared.send.SendStop.{SendStop}
use Rattle.hc_output.specs.declared.send.SendStop.TheVariants as stop
use Rattle.hc_cli.specs.declared.prepared.Prepared.{Prepared}
use Rattle.hc_cli.specs.declared.prepared.Prepared.TheVariants as is
use Rattle.hc_cli.specs.declared.ending.Outcome.{Outcome}
use Rattle.hc_cli.specs.Clauses.{ForDue, IsCut, IsDone, IsDueOrNoMemory, history_of}
use Rattle.hc_cli.specs.Due.{Due, IsDue}
use Rattle.hc_cli.specs.Histories.{HistoryRule, IsHistoryInOrder, IsHistoryOf, no_history}
use Rattle.hc_cli.specs.Prepared.{IsOutOf, ServesLeft, kept, status_of}
use Rattle.hc_cli.proofs.Kept.{none_legal}

-- no status of what was prepared is 4
not_cut : (p : Prepared) → status_of p ≡ 4 → ⊥
not_cut is.Refusal e = cc
not_cut (is.Told f) e = cc
not_cut (is.BenchTold f k) e = cc
not_cut (is.Whole o k) e = cc

abbrev pub Sent : Type 0
Sent = Result (Unit {0}) SendStop

pub status_through : (a b c : ℕ) (sent : Sent) → OnOk sent (a ≡ b) → b ≡ c → OnOk sent (a ≡ c)
status_through a b c (Ok x) is then_is = is ∙ then_is
status_through a b c (Err e) is then_is = tt

module _ (Rule : HistoryRule) (words : List (List ℕ)) (left : Option (List ℕ)) (p : Prepared) (o : Outcome) (serves : ServesLeft Rule words left p) where
  -- the sink took a front of what is due
  pub cut_end : (old new : Option (List ℕ)) (sent : Sent) → OnOk sent (o.status ≡ status_of p) → (sent ≡ Err stop.NoMemory → (o.status ≡ 5) × (history_of o ≡ no_history))
      → ((sent ≡ Err stop.NoMemory → ⊥) → history_of o ≡ kept p)
      → ((out : List ℕ) → IsOutOf p out → sent ≡ Err stop.Failed → AppendsFront old new out) → o.status ≡ 4 → (text : List ℕ) × (d : Due) × Holds left text × IsDue words text d
      × IsCut Rule o old new d
  cut_end old new (Ok x) done memory history front four = absurd (not_cut p (sym done ∙ four))
  cut_end old new (Err stop.Failed) done memory history front four = (
    serves.0,
    serves.1,
    serves.2,
    serves.3,
    record {
      out = front serves.1.out serves.4.out refl;
      history = subst (λ (h : History). Rule h serves.1.calls)
          (sym (history (λ e. cc))) serves.4.history;
    },
  )
  cut_end old new (Err stop.NoMemory) done memory history front four = absurd (let five : o.status ≡ 5 = (memory refl).0 in cc)

  -- where the sink's count did not rise
  pub settled_end : (before now : ℕ) (sent : Sent) → OnOk sent (o.status ≡ status_of p) → (sent ≡ Err stop.NoMemory → (o.status ≡ 5) × (history_of o ≡ no_history))
      → (sent ≡ Err stop.Failed → Rose before now) → ¬ Rose before now → IsDueOrNoMemory words left o.status
  settled_end before now (Ok x) done memory cause still = inr (serves.0, serves.1, serves.2, serves.3, done ∙ serves.4.status)
  settled_end before now (Err stop.Failed) done memory cause still = absurd (still (cause refl))
  settled_end before now (Err stop.NoMemory) done memory cause still = inl (memory refl).0

  pub legal_end : ((h : History) (calls : List ElaboratedCall) → Rule h calls → IsLegal h) → (sent : Sent)
      → (sent ≡ Err stop.NoMemory → (o.status ≡ 5) × (history_of o ≡ no_history)) → ((sent ≡ Err stop.NoMemory → ⊥) → history_of o ≡ kept p) → IsLegal (history_of o)
  legal_end lawful (Ok x) memory history = subst IsLegal (sym (history (λ e. cc))) (lawful (kept p) serves.1.calls serves.4.history)
  legal_end lawful (Err stop.Failed) memory history = subst IsLegal (sym (history (λ e. cc))) (lawful (kept p) serves.1.calls serves.4.history)
  legal_end lawful (Err stop.NoMemory) memory history = subst IsLegal (sym (memory refl).1) none_legal

-- ---- a history in order is a history

pub done_in_order : (words : List (List ℕ)) (left old new : Option (List ℕ)) (o : Outcome) → ForDue words left (IsDone IsHistoryInOrder o old new) → ForDue words left (IsDone IsHistoryOf o old new)
done_in_order words left old new o s = (s.0, s.1, s.2, s.3, record { status = s.4.status; out = s.4.out; history = s.4.history.history })

pub cut_in_order : (words : List (List ℕ)) (left old new : Option (List ℕ)) (o : Outcome) → ForDue words left (IsCut IsHistoryInOrder o old new) → ForDue words left (IsCut IsHistoryOf o old new)
cut_in_order words left old new o s = (s.0, s.1, s.2, s.3, record { out = s.4.out; history = s.4.history.history })
