use Rattle.hc_settling.proofs.Marks.{marks_stay, more_marks, passers_stale}
use Rattle.hc_settling.proofs.marking.puts_keep_marks.Goals as goal

pub returns : goal.returns
returns c = record {
  put = λ t plans state inputs vals new stale put are same own readers takers passers marked. marks_stay t plans are state inputs vals new stale put same own readers takers passers marked;
  passers = λ t plans state inputs vals stale are marked q i port n c r y z e changed j m h. passers_stale t plans are state inputs vals stale marked q i port n c r y z e changed j m h;
  more = λ t plans state inputs vals stale more grown closed marked. more_marks t plans state inputs vals stale more grown closed marked;
}
