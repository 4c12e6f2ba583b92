-- How many of some trees are different.
use Rattle.std.specs.Prelude.{◌≡◌, ℕ, List, length, slice_get, Some}
use Rattle.hc_signal.specs.Member.{Has}
use Rattle.hc_signal.specs.Tree.{Tree}
use Rattle.hc_canon.specs.Same.{Same}

-- no two of the trees are the same
abbrev pub AreApart : List Tree → Type 0
AreApart ts = (i j : ℕ) (s t : Tree) → slice_get ts i ≡ Some s → slice_get ts j ≡ Some t → Same s t → i ≡ j

-- Among the trees that P holds of, n are different: there are n of them no two of which are the same, and each one is the
-- same as one of these.
pub record IsNumberOfKinds (P : Tree → Type 0) (n : ℕ) : Type 0 where
  pub kinds : List Tree
  pub many : length kinds ≡ n
  pub some : (t : Tree) → Has kinds t → P t
  pub apart : AreApart kinds
  pub all : (t : Tree) → P t → (k : Tree) × Has kinds k × Same k t
