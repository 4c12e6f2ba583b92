-- The Verilog text of a hierarchy of trees: one module for each name that the top reaches.
use Rattle.std.specs.Prelude.{◌≡◌, ℕ, suc, ◌<◌, ◌⊎◌, List, [], ◌∷◌, slice_get, Some}
use Rattle.std.specs.List.{join_with_byte}
use Rattle.hc_signal.specs.Graph.{inst, Reached}
use Rattle.hc_signal.specs.Tree.{Tree, graph, kid}
use Rattle.hc_signal.specs.Occurrences.{IsReachedPath, tree_at}
use Rattle.hc_canon.specs.Same.{Same}
use Rattle.hc_names.specs.Naming.{NamedTree, AreNames}
use Rattle.hc_verilog.specs.ModuleText.{IsTreeText}

-- the top reaches, through reached instances, a tree that is the same
abbrev pub TopReaches : Tree → Tree → Type 0
TopReaches top t = (path : List ℕ) × IsReachedPath top path × Same (tree_at top path) t

-- no earlier place has the name
abbrev pub IsFirst : List (List ℕ) → ℕ → List ℕ → Type 0
IsFirst names k name = (slice_get names k ≡ Some name) × ((j : ℕ) → j < k → slice_get names j ≡ Some name → ⊥)

module _ (top : Tree) (calls : List NamedTree) (names : List (List ℕ)) where
  -- the name that a call of the same tree has
  abbrev pub IsNameOf : Tree → List ℕ → Type 0
  IsNameOf t name = (j : ℕ) × (call : NamedTree) × (slice_get calls j ≡ Some call) × Same call.tree t × (slice_get names j ≡ Some name)

  -- the first call of its name, where the top reaches its tree
  abbrev pub IsPrinted : ℕ → NamedTree → List ℕ → Type 0
  IsPrinted k call name = IsFirst names k name × TopReaches top call.tree

  -- the module of a call, whose instances are of the modules of their trees
  pub record IsCallText (call : NamedTree) (name text : List ℕ) : Type 0 where
    pub modules : ℕ → List ℕ
    pub named : (i : ℕ) → Reached (graph call.tree) (inst i) → IsNameOf (kid call.tree i) (modules i)
    pub text_is : IsTreeText call.tree modules name text

  -- the modules of the calls from place k on
  abbrev pub AreModules : ℕ → List NamedTree → List (List ℕ) → Type 0
  AreModules k [] texts = texts ≡ []
  AreModules k (call ∷ rest) texts =
      ((name : List ℕ) × (text : List ℕ) × (more : List (List ℕ)) × IsPrinted k call name × IsCallText call name text × (texts ≡ text ∷ more) × AreModules (suc k) rest more)
      ⊎ (((name : List ℕ) → ¬ IsPrinted k call name) × AreModules (suc k) rest texts)

-- The text: calls get their names in order; their modules stand in that order, with an empty line between two.
pub record IsVerilog (top : Tree) (calls : List NamedTree) (text : List ℕ) : Type 0 where
  pub names : List (List ℕ)
  pub right : AreNames calls names
  pub texts : List (List ℕ)
  pub modules : AreModules top calls names 0 calls texts
  pub text_is : text ≡ join_with_byte 10 texts

-- call by call, the same names are requested by trees that are the same
abbrev pub AreAlike : List NamedTree → List NamedTree → Type 0
AreAlike [] [] = Unit {0}
AreAlike [] (d ∷ ds) = ⊥
AreAlike (c ∷ cs) [] = ⊥
AreAlike (c ∷ cs) (d ∷ ds) = (c.name ≡ d.name) × Same c.tree d.tree × AreAlike cs ds
