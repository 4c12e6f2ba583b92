use Rattle.std.proofs.Common.{◌+◌, arith}
use Rattle.hc_layout.proofs.Placed.{trees, graphs, reached, only, numbered}
use Rattle.hc_layout.proofs.laws.instances_have_places.Goals as goal

pub returns-clause-reached : goal.returns-clause-reached
returns-clause-reached c h top l path legal lay r = reached h legal top l lay path r

pub returns-clause-only : goal.returns-clause-only
returns-clause-only c h top l path p legal lay e = only h legal top l lay c.canonical_rows_are_reached.ensures.instances path p e

pub returns-clause-trees : goal.returns-clause-trees
returns-clause-trees c h top l path p legal lay e = trees h legal top l lay path p e

pub returns-clause-graphs : goal.returns-clause-graphs
returns-clause-graphs c h top l path p legal lay e = graphs h legal top l lay path p e

pub returns-clause-numbers : goal.returns-clause-numbers
returns-clause-numbers c forms top l p lay w = numbered forms top l lay (p + 1) p (omega arith) w
