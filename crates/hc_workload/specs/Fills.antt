-- What a step of the writing adds.
use Rattle.std.specs.Prelude.{◌≡◌, ◌++◌}
use Rattle.hc_workload.specs.Template.{Template, filled, state_after}
use Rattle.hc_workload.specs.declared.draft.Draft.{Draft}

-- the text grew by the template's, and the draws went on
pub record Fills (t : Template) (old new : Draft) : Type 0 where
  pub text : new.text.items ≡ old.text.items ++ filled old.state t
  pub state : new.state ≡ state_after old.state t
