use Rattle.std.proofs.Common.{◌∷◌, subst}
use Rattle.hc_signal.specs.Occurrences.{IsReachedPath}
use Rattle.hc_signal.specs.Member.{Has}
use Rattle.hc_steps.specs.Plan.{made, facts, steps_at}
use Rattle.hc_settling.specs.Known.{at_path}
use Rattle.hc_settling.proofs.Told.{made_no_input, told_own, told_readers, told_takers, told_inputs, input_not_taken, passers_of}
use Rattle.hc_settling.proofs.Marks.{marks_stay}
use Rattle.hc_settling.proofs.marking.tables_name_all_readers.Goals as goal

pub returns : goal.returns
returns c = record {
  puts = λ t plans state inputs vals new stale tables whole are told p part n r h same u readers up marked.
      marks_stay t plans are state inputs vals new stale (at_path p n) same
      (λ j g. told_own t plans are tables told stale p r part n j h u g)
      (λ j g. told_readers t plans are tables told stale p r part n j h u readers g)
      (λ i j q e g. let a = up i q e in told_takers t plans are tables told stale q i ((subst (λ l. IsReachedPath t l) e r).0) part n a.0 j
      (subst (λ l. Has (facts (steps_at (plans l) part)) (made n)) e h) a.1 a.2 a.3 g)
      (λ i j m port q e y z g. absurd (made_no_input t plans are p r part n port h y))
      marked;
  gives = λ t plans state inputs vals new stale tables whole are told q i port n k r y e changed same readers marked.
      marks_stay t plans are state inputs vals new stale (at_path (i ∷ q) n) same
      (λ j g. absurd (made_no_input t plans are (i ∷ q) r j n port g y))
      (λ j g. told_inputs t plans are tables told stale (i ∷ q) r n port j y readers g)
      (λ a j l e2 g. absurd (input_not_taken t plans are tables told stale whole (i ∷ q) r n port a j l y e2 g))
      (λ a j m o l e2 y2 z g. passers_of t plans are state inputs vals stale marked q i port n k r y e changed a j m o l e2 y2 z g)
      marked;
}
