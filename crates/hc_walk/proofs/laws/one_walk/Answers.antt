use Rattle.hc_walk.proofs.Walks.{walk_once, walk_meets, ends_differ, one_place}
use Rattle.hc_walk.proofs.Walking.{walk_exists}
use Rattle.hc_walk.proofs.laws.one_walk.Goals as goal

pub returns-clause-some : goal.returns-clause-some
returns-clause-some c = walk_exists

pub returns-clause-one : goal.returns-clause-one
returns-clause-one c g a b v w = walk_once g v w

pub returns-clause-reached : goal.returns-clause-reached
returns-clause-reached c = walk_meets

pub returns-clause-once : goal.returns-clause-once
returns-clause-once c g end i j v w = one_place end (ends_differ g w) i j v
