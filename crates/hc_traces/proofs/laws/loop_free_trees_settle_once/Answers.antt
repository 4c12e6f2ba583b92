use Rattle.hc_traces.proofs.Settling.{settled_once, some_settled}
use Rattle.hc_traces.proofs.laws.loop_free_trees_settle_once.Goals as goal

pub returns : goal.returns
returns c = record {
  some = λ t whole free state inputs. some_settled t whole free state inputs;
  once = λ t whole free state inputs v w a b s r. settled_once t whole free state inputs v w a b s r;
}
