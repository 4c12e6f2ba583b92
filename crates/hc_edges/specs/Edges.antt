-- What a clock edge and a reset make of the registers and memories of all instances, and of the marks.
use Rattle.std.specs.Prelude.{◌≡◌, ℕ, ◌<◌, Bool, true, false, ◌⊎◌, List, length, map, slice_get, Some}
use Rattle.hc_bits.specs.BitVector.{BitVector}
use Rattle.hc_signal.specs.Member.{Has}
use Rattle.hc_signal.specs.declared.signal.NodeId.{NodeId}
use Rattle.hc_signal.specs.declared.signal.MemId.{MemId}
use Rattle.hc_signal.specs.Graph.{Graph}
use Rattle.hc_canon.specs.declared.form.EntryId.{EntryId}
use Rattle.hc_canon.specs.FormView.{FormView}
use Rattle.hc_rows.specs.Rows.{row_at, flat, number_of}
use Rattle.hc_steps.specs.Compiled.{PlanView}
use Rattle.hc_values.specs.Edges.{places, memory_places, KeepsOthers, StepsRegisters, StepsMemories, ResetsRegisters}
use Rattle.hc_store.specs.declared.store.Store.{Store}
use Rattle.hc_store.specs.Given.{IsInstance}
use Rattle.hc_store.specs.Marks.{IsOn, AreClosed}
use Rattle.hc_edges.specs.declared.contents.Contents.{Contents}
use Rattle.hc_edges.specs.Clocked.{ClockedView, given}

-- ---- one instance

-- the registers and the words of instance p are as they were
pub record IsSameAt (p : ℕ) (old new : Contents) : Type 0 where
  pub registers : row_at new.registers p ≡ row_at old.registers p
  pub words : row_at new.words p ≡ row_at old.words p

-- These registers and memories of the circuit are those after a clock edge from these numbers; all else stays.
pub record IsStepped (g : Graph) (ids : List NodeId) (mems : List MemId) (values held next : List BitVector) (words written : List (List BitVector)) : Type 0 where
  pub registers : StepsRegisters g values ids held next
  pub other_registers : KeepsOthers (places ids) held next
  pub memories : StepsMemories g values mems words written
  pub other_memories : KeepsOthers (memory_places mems) words written

-- instance p, of this entry, has made a clock edge from its numbers
abbrev pub StepsAt : ClockedView → List (List BitVector) → ℕ → EntryId → FormView → (old new : Contents) → Type 0
StepsAt c values p id form old new =
    IsStepped form.circuit (row_at c.registers id.0) (row_at c.memories id.0) (row_at values p) (row_at old.registers p) (row_at new.registers p) (row_at old.words p) (row_at new.words p)

-- a clock edge from its numbers leaves the registers and memories of instance p as they are
abbrev pub IsAtRest : ClockedView → List (List BitVector) → ℕ → EntryId → FormView → Contents → Type 0
IsAtRest c values p id form contents = StepsAt c values p id form contents contents

-- These registers of the circuit have their initial values; all else stays.
pub record IsResetRow (g : Graph) (ids : List NodeId) (held next : List BitVector) : Type 0 where
  pub registers : ResetsRegisters g ids held next
  pub others : KeepsOthers (places ids) held next

abbrev pub ResetsAt : ClockedView → ℕ → EntryId → FormView → (old new : Contents) → Type 0
ResetsAt c p id form old new = IsResetRow form.circuit (row_at c.registers id.0) (row_at old.registers p) (row_at new.registers p)

abbrev pub HasMoved : Store → ℕ → Type 0
HasMoved s p = slice_get s.moved.items p ≡ Some true

abbrev pub HasNotMoved : Store → ℕ → Type 0
HasNotMoved s p = slice_get s.moved.items p ≡ Some false

-- ---- the marks

-- these parts of instance p are marked, as far as they are there
abbrev pub AreOn : List (List Bool) → ℕ → List ℕ → Type 0
AreOn stale p parts = (k : ℕ) → Has parts k → k < length (row_at stale p) → IsOn (flat stale) (number_of stale p k)

-- The numbers stay. More parts are marked: where the contents of an instance have changed, all parts that read them.
pub record WakesReaders (c : ClockedView) (old new : Contents) (store next : Store) : Type 0 where
  pub values : next.values ≡ store.values
  pub shape : map length next.stale ≡ map length store.stale
  pub grown : (k : ℕ) → IsOn (flat store.stale) k → IsOn (flat next.stale) k
  pub closed : AreClosed (flat c.up) (flat store.stale) → AreClosed (flat c.up) (flat next.stale)
  pub readers : (p : ℕ) (id : EntryId) (form : FormView) (plan : PlanView) → IsInstance (given c old) p id form plan → IsSameAt p old new ⊎ AreOn next.stale p plan.state_parts

-- ---- all instances

-- instance p is as it was
pub record IsUntouched (p : ℕ) (old new : Contents) (store next : Store) : Type 0 where
  pub same : IsSameAt p old new
  pub moved : slice_get next.moved.items p ≡ slice_get store.moved.items p

-- Instance p makes a clock edge if it has moved, else it stays as it is. If it has not moved afterwards, it had not moved before
-- or is at rest.
pub record EdgesAt (c : ClockedView) (p : ℕ) (old new : Contents) (store next : Store) : Type 0 where
  pub steps : (id : EntryId) (form : FormView) (plan : PlanView) → IsInstance (given c old) p id form plan → HasMoved store p → StepsAt c store.values p id form old new
  pub stays : ¬ HasMoved store p → IsUntouched p old new store next
  pub rests : (id : EntryId) (form : FormView) (plan : PlanView) → IsInstance (given c old) p id form plan → HasNotMoved next p → HasNotMoved store p ⊎ IsAtRest c store.values p id form new

abbrev pub IsEdge : ClockedView → (old new : Contents) (store next : Store) → Type 0
IsEdge c old new store next = (p : ℕ) → EdgesAt c p old new store next

-- The registers of instance p have their initial values. If it has not moved afterwards, it is as it was.
pub record IsResetAt (c : ClockedView) (p : ℕ) (old new : Contents) (store next : Store) : Type 0 where
  pub registers : (id : EntryId) (form : FormView) (plan : PlanView) → IsInstance (given c old) p id form plan → ResetsAt c p id form old new
  pub rests : HasNotMoved next p → IsUntouched p old new store next

abbrev pub IsReset : ClockedView → (old new : Contents) (store next : Store) → Type 0
IsReset c old new store next = (new.words ≡ old.words) × ((p : ℕ) → IsResetAt c p old new store next)

-- Each instance that has not moved is at rest.
abbrev pub AreAtRest : ClockedView → Contents → Store → Type 0
AreAtRest c contents store = (p : ℕ) (id : EntryId) (form : FormView) (plan : PlanView) → IsInstance (given c contents) p id form plan → HasNotMoved store p → IsAtRest c store.values p id form contents

-- Each instance makes a clock edge.
abbrev pub AllStep : ClockedView → List (List BitVector) → (old new : Contents) → Type 0
AllStep c values old new = (p : ℕ) (id : EntryId) (form : FormView) (plan : PlanView) → IsInstance (given c old) p id form plan → StepsAt c values p id form old new
