-- The summary of an elaborated design and of the rows of its bench.
use Rattle.std.specs.Prelude.{◌≡◌, ℕ, List, [], ◌∷◌, ◌++◌, length, codes, decimal}
use Rattle.hc_bits.specs.Digits.{lines_text}
use Rattle.hc_bench.specs.Listing.{CycleRow}
use Rattle.hc_plan.specs.Elaborates.{Elaborated, ElaboratedCall}
use Rattle.hc_signal.specs.Member.{Has}
use Rattle.hc_signal.specs.Occurrences.{IsReachedPath, tree_at}
use Rattle.hc_signal.specs.Tree.{Tree}
use Rattle.hc_summary.specs.Kinds.{IsNumberOfKinds}

pub record Counts : Type 0 where
  pub instances : ℕ
  pub entries : ℕ
  pub modules : ℕ
  pub weight : ℕ
  pub words : ℕ
  pub cycles : ℕ

abbrev pub count_line : List ℕ → ℕ → List ℕ
count_line title n = title ++ decimal n

abbrev pub summary_lines : Counts → List (List ℕ)
summary_lines c =
    count_line (codes "instances ") c.instances
    ∷ count_line (codes "entries ") c.entries
    ∷ count_line (codes "modules ") c.modules
    ∷ count_line (codes "weight ") c.weight
    ∷ count_line (codes "words ") c.words
    ∷ count_line (codes "cycles ") c.cycles
    ∷ []

-- six lines, each ended by a line feed
unfoldable pub summary_text : Counts → List ℕ
summary_text c = lines_text (summary_lines c)

-- a call has the tree
abbrev pub IsCallTree : List ElaboratedCall → Tree → Type 0
IsCallTree calls t = (call : ElaboratedCall) × Has calls call × (t ≡ call.tree)

-- the top reaches the tree through reached instances, or is it
abbrev pub IsReachedTree : Tree → Tree → Type 0
IsReachedTree top t = (path : List ℕ) × IsReachedPath top path × (t ≡ tree_at top path)

-- The sums of the design; how many of the trees of its calls are different, and how many of those that its top reaches;
-- and how many rows there are.
pub record AreCountsOf (e : Elaborated) (rows : List CycleRow) (c : Counts) : Type 0 where
  pub instances : c.instances ≡ e.sums.instances
  pub entries : IsNumberOfKinds (IsCallTree e.calls) c.entries
  pub modules : IsNumberOfKinds (IsReachedTree e.tree) c.modules
  pub weight : c.weight ≡ e.sums.weight
  pub words : c.words ≡ e.sums.words
  pub cycles : c.cycles ≡ length rows

abbrev pub IsSummary : Elaborated → List CycleRow → List ℕ → Type 0
IsSummary e rows text = (c : Counts) × AreCountsOf e rows c × (text ≡ summary_text c)
