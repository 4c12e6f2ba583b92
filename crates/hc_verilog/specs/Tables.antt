-- The tables that the text of a module is written from.
use Rattle.hc_signal.specs.Graph.{Graph}
use Rattle.hc_naming.specs.ModuleNames.{numbered_nodes}
use Rattle.hc_naming.specs.NameTable.{HasNames, AreMarks}
use Rattle.hc_verilog.specs.declared.tables.Tables.{Tables}
use Rattle.hc_verilog.specs.Results.{AreResults}

-- the names, the marks of the outputs and the outputs of instances of a circuit
pub record AreTables (g : Graph) (tables : Tables) : Type 0 where
  pub names : HasNames g tables.names
  pub marks : AreMarks g tables.marks.items
  pub results : AreResults (numbered_nodes g) tables.results.entries
