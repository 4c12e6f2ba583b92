use Rattle.hc_modules.specs.Pieces.{IsPrinted}
use Rattle.hc_modules.proofs.hierarchy.text_of.Given as goal

abbrev pub invariant-rows : goal.invariant-rows
invariant-rows l = IsPrinted l.db.entries l.top l.names l.place l.first l.out.items
