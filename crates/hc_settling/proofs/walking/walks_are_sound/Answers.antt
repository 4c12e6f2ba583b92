use Rattle.std.proofs.Common.{[]}
use Rattle.hc_signal.specs.Occurrences.{graph_at}
use Rattle.hc_steps.specs.Plan.{Begins}
use Rattle.hc_settling.proofs.Settles.{walk_sound}
use Rattle.hc_settling.proofs.walking.walks_are_sound.Goals as goal

pub returns : goal.returns
returns c = λ t plans tables state inputs v whole are told settled p part old new r u called marked keep known walk.
    walk_sound t plans tables whole are told state inputs v settled walk r u called marked keep (λ s h. h) (Begins (graph_at t p) (plans p) part) [] ((are p r).parts part) known (λ f h. elim h [ ])
