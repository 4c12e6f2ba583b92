-- The entries of the instances of an unfolding, and their compiled plans by path.
use Rattle.std.specs.Prelude.{◌≡◌, ℕ, List, [], ◌∷◌, filter, length, map, nat_lt, slice_get, Option, Some, None}
use Rattle.hc_canon.specs.declared.form.EntryId.{EntryId}
use Rattle.hc_canon.specs.FormView.{FormView}
use Rattle.hc_dbstate.specs.Uses.{Uses}
use Rattle.hc_steps.specs.Plan.{Part}
use Rattle.hc_steps.specs.Tables.{Tables}
use Rattle.hc_steps.specs.Compiled.{PlanView, entry_in, plan_in, parts_in, tables_of}

abbrev pub kid_of : Option FormView → ℕ → Option EntryId
kid_of None i = None
kid_of (Some form) i = slice_get form.kids i

-- the entry of an instance of an entry
abbrev pub kid_entry : List FormView → Option EntryId → ℕ → Option EntryId
kid_entry entries id i = kid_of (entry_in entries id) i

-- the entry of the instance at a path
abbrev pub entry_at : List FormView → EntryId → List ℕ → Option EntryId
entry_at entries top [] = Some top
entry_at entries top (i ∷ path) = kid_entry entries (entry_at entries top path) i

-- the parts of a list that are there, of so many
abbrev pub present : ℕ → List ℕ → List ℕ
present many parts = filter (λ (k : ℕ). nat_lt k many) parts

-- the tables without parts that are not there
abbrev pub present_tables : ℕ → Tables → Tables
present_tables many tables = record {
  readers = map (present many) tables.readers;
  takers = map (present many) tables.takers;
  input_readers = map (present many) tables.input_readers;
  state_parts = present many tables.state_parts;
  ran_in = tables.ran_in;
}

abbrev pub no_tables : Tables
no_tables = record { readers = []; takers = []; input_readers = []; state_parts = []; ran_in = λ i b. 0 }

abbrev pub tables_in : Option PlanView → Tables
tables_in None = no_tables
tables_in (Some plan) = present_tables (length plan.parts) (tables_of plan)

-- the parts and the tables of the instance at a path: those of its entry
abbrev pub parts_at : List FormView → List PlanView → EntryId → List ℕ → List Part
parts_at entries plans top path = parts_in (plan_in plans (entry_at entries top path))

abbrev pub tables_at : List FormView → List PlanView → EntryId → List ℕ → Tables
tables_at entries plans top path = tables_in (plan_in plans (entry_at entries top path))

-- the instance at a path is of an entry that the top uses, with this form
pub record IsEntryAt (entries : List FormView) (top : EntryId) (path : List ℕ) (id : EntryId) (form : FormView) : Type 0 where
  pub entry : entry_at entries top path ≡ Some id
  pub found : slice_get entries id.0 ≡ Some form
  pub used : Uses entries top id
