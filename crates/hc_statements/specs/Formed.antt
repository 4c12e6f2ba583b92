-- A body under way: its graph keeps each rule of a lawful one but for the count of its rows, and its names mean what
-- stands there.
use Rattle.hc_unfold.specs.Formed.{IsFormed}
use Rattle.hc_unfold.specs.Names.{AreKnown}
use Rattle.hc_statements.specs.Steps.{Elaborating}

pub record IsFormedBody (e : Elaborating) : Type 0 where
  pub graph : IsFormed e.graph
  pub names : AreKnown e.graph e.names
