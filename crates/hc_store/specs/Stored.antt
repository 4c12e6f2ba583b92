-- The numbers and the marks of all instances, in rows.
use Rattle.std.specs.Prelude.{◌≡◌, ℕ, true, false, List, length, map, slice_get, slice_set, Some}
use Rattle.hc_bits.specs.BitVector.{BitVector}
use Rattle.hc_canon.specs.declared.form.EntryId.{EntryId}
use Rattle.hc_canon.specs.FormView.{FormView}
use Rattle.hc_steps.specs.Tables.{row}
use Rattle.hc_steps.specs.Compiled.{PlanView}
use Rattle.hc_rows.specs.Rows.{row_at, flat}
use Rattle.hc_values.specs.Rows.{Kept, widths, node_widths}
use Rattle.hc_store.specs.declared.store.Store.{Store}
use Rattle.hc_store.specs.Given.{Given, IsInstance}
use Rattle.hc_store.specs.Marks.{AreClosed, AreMoreMarked}

-- Each instance has its rows, and what runs a marked part is marked.
pub record IsStoreOf (g : Given) (s : Store) : Type 0 where
  pub values : (p : ℕ) (id : EntryId) (form : FormView) (plan : PlanView) → IsInstance g p id form plan → widths (row_at s.values p) ≡ node_widths form.circuit.nodes
  pub marks : map length s.stale ≡ map length g.up
  pub moved : length s.moved.items ≡ length g.entries
  pub closed : AreClosed (flat g.up) (flat s.stale)

-- what is kept of the circuit of instance p
abbrev pub kept_of : Given → List BitVector → ℕ → Kept
kept_of g values p = record { values = values; registers = row_at g.registers p; memories = row_at g.words p }

-- A number is put at node n of instance p: nothing where it is there; else these parts are marked.
pub data IsRowPut (up : List (List ℕ)) (p n : ℕ) (x : BitVector) (parts : List ℕ) : (old new : Store) → Type 0 where
  kept : {old : Store} → slice_get (row_at old.values p) n ≡ Some x → IsRowPut up p n x parts old old
  put : {old new : Store} → ¬ (slice_get (row_at old.values p) n ≡ Some x) → AreMoreMarked up p parts old.stale new.stale
      → new.values ≡ slice_set old.values p (slice_set (row_at old.values p) n x) → new.moved.items ≡ slice_set old.moved.items p true → IsRowPut up p n x parts old new

-- The rows stay as wide, marks stay closed, and an instance that has not moved has its numbers as they were.
pub record Advances (g : Given) (old new : Store) : Type 0 where
  pub fit : IsStoreOf g old → IsStoreOf g new
  pub quiet : (q : ℕ) → slice_get new.moved.items q ≡ Some false → (slice_get old.moved.items q ≡ Some false) × (row_at new.values q ≡ row_at old.values q)

-- The parts that take from what this part runs are woken, and nothing else changes.
pub record WakesTakers (g : Given) (p part : ℕ) (old new : Store) : Type 0 where
  pub values : new.values ≡ old.values
  pub moved : new.moved.items ≡ old.moved.items
  pub marks : (id : EntryId) (form : FormView) (plan : PlanView) → IsInstance g p id form plan → AreMoreMarked g.up p (row plan.takers part) old.stale new.stale
