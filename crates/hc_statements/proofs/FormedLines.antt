-- Each statement keeps a body formed.
use Rattle.std.proofs.Common.{◌≡◌, ℕ, subst}
use Rattle.std.specs.Prelude.{Ok}
use Rattle.hc_lang.specs.declared.tree.Design.{Design}
use Rattle.hc_statements.specs.Elaborated.{statement_step}
use Rattle.hc_statements.specs.Formed.{IsFormedBody}
use Rattle.hc_statements.specs.Steps.{Elaborating}
use Rattle.hc_statements.specs.Unrolled.{Statement, Let, Wire, Assign, Label, Reg, Memory, Write, Inst}
use Rattle.hc_statements.proofs.FormedConnections.{ends_inst}
use Rattle.hc_statements.proofs.FormedStatements.{ends_assign, ends_label, ends_let, ends_memory, ends_reg, ends_wire, ends_write}
use Rattle.hc_statements.proofs.FormedSteps.{Below, Ends}

module _ (below : Below) (d : Design) where
  statement_ends : (line : ℕ) (s : Statement) (e : Elaborating) → IsFormedBody e → Ends (statement_step d line s e)
  statement_ends line (Let p s) e l = ends_let below p s e l
  statement_ends line (Wire p width) e l = ends_wire below line p width e l
  statement_ends line (Assign p s) e l = ends_assign below p s e l
  statement_ends line (Label p w) e l = ends_label below p w e l
  statement_ends line (Reg p s enable clear first) e l = ends_reg below p s enable clear first e l
  statement_ends line (Memory p size width) e l = ends_memory below p size width e l
  statement_ends line (Write p enable addr value) e l = ends_write below p enable addr value e l
  statement_ends line (Inst p of ns conns) e l = ends_inst below d line p of ns conns e l

  pub statement_forms : (line : ℕ) (s : Statement) (e f : Elaborating) → IsFormedBody e → statement_step d line s e ≡ Ok (f, tt) → IsFormedBody f
  statement_forms line s e f l is = subst Ends is (statement_ends line s e l)
