-- The names of modules along the calls of a hierarchy.
use Rattle.std.specs.Prelude.{◌≡◌, ℕ, ◌⊎◌, Bool, false, ◌||◌, nat_eq, if◌then◌else◌, List, [], ◌∷◌, ◌++◌, map}
use Rattle.std.specs.List.{zip}
use Rattle.hc_signal.specs.Member.{Has}
use Rattle.hc_signal.specs.Tree.{Tree}
use Rattle.hc_canon.specs.declared.form.EntryId.{EntryId}
use Rattle.hc_canon.specs.FormView.{FormView}
use Rattle.hc_canon.specs.Same.{Same}
use Rattle.hc_dbstate.specs.declared.hier.Hier.{Hier}
use Rattle.hc_dbstate.specs.Elaboration.{CallView, walk}
use Rattle.hc_dbstate.specs.Unfolding.{unfolding_of}
use Rattle.hc_names.specs.Mangling.{IsMangled}

-- a call as naming sees it: the name that it requests, and its tree
pub record NamedTree : Type 0 where
  pub name : List ℕ
  pub tree : Tree

-- calls with the names of their modules
abbrev pub Given : Type 0
Given = List (NamedTree × List ℕ)

-- A call whose tree is the same as an earlier call's has that call's name; any other call has the name that it requests,
-- mangled over the names given so far.
abbrev pub IsNameAfter : Given → NamedTree → List ℕ → Type 0
IsNameAfter given call name =
    ((earlier : NamedTree × List ℕ) × Has given earlier × Same earlier.0.tree call.tree × (name ≡ earlier.1))
    ⊎ (((earlier : NamedTree × List ℕ) → Has given earlier → ¬ Same earlier.0.tree call.tree) × IsMangled call.name (map (λ (g : NamedTree × List ℕ). g.1) given) name)

-- the names of calls in order, after these
abbrev pub AreNamesAfter : Given → List NamedTree → List (List ℕ) → Type 0
AreNamesAfter given [] names = names ≡ []
AreNamesAfter given (call ∷ calls) [] = ⊥
AreNamesAfter given (call ∷ calls) (name ∷ names) = IsNameAfter given call name × AreNamesAfter (given ++ (call, name) ∷ []) calls names

abbrev pub AreNames : List NamedTree → List (List ℕ) → Type 0
AreNames calls names = AreNamesAfter [] calls names

-- the calls of a hierarchy with the unfoldings of their entries
abbrev pub named_tree : List FormView → CallView → NamedTree
named_tree entries call = record { name = call.own.name; tree = unfolding_of entries call.own.entry }

abbrev pub named_trees : List FormView → Hier → List NamedTree
named_trees entries h = map (named_tree entries) (walk h)

-- an entry and the name of its module
abbrev pub NameRow : Type 0
NameRow = EntryId × List ℕ

abbrev pub is_among : EntryId → List EntryId → Bool
is_among id [] = false
is_among id (x ∷ xs) = nat_eq id.0 x.0 || is_among id xs

-- each row but those whose entry stands in an earlier one, or among these
abbrev pub first_rows : List EntryId → List NameRow → List NameRow
first_rows seen [] = []
first_rows seen (row ∷ rows) = if is_among row.0 seen then first_rows seen rows else row ∷ first_rows (row.0 ∷ seen) rows

-- The names of a hierarchy's entries: each entry once, in the order of first calls, with the name of that call.
pub record AreNameRows (entries : List FormView) (h : Hier) (rows : List NameRow) : Type 0 where
  pub names : List (List ℕ)
  pub right : AreNames (named_trees entries h) names
  pub first : rows ≡ first_rows [] (zip (map (λ (c : CallView). c.own.entry) (walk h)) names)
