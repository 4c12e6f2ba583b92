-- The instances of a hierarchy as clock edges and resets find them.
use Rattle.std.specs.Prelude.{ℕ, List}
use Rattle.hc_signal.specs.declared.signal.NodeId.{NodeId}
use Rattle.hc_signal.specs.declared.signal.MemId.{MemId}
use Rattle.hc_canon.specs.declared.form.EntryId.{EntryId}
use Rattle.hc_canon.specs.FormView.{FormView}
use Rattle.hc_steps.specs.Compiled.{PlanView}
use Rattle.hc_store.specs.Given.{Given}
use Rattle.hc_edges.specs.declared.contents.Contents.{Contents}

-- The forms and the plans of the entries, of each entry its registers and its memories; of each instance its entry and its first
-- own instance; of each part of each instance the number of the part that runs it.
pub record ClockedView : Type 0 where
  pub forms : List FormView
  pub plans : List PlanView
  pub registers : List (List NodeId)
  pub memories : List (List MemId)
  pub entries : List EntryId
  pub first : List ℕ
  pub up : List (List ℕ)

-- what stays while numbers settle, with these contents
abbrev pub given : ClockedView → Contents → Given
given c contents = record { forms = c.forms; plans = c.plans; entries = c.entries; first = c.first; up = c.up; registers = contents.registers; words = contents.words }
