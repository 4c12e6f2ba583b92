-- The grammar of numbers: which tokens spell one. And the brackets that are open in a row of tokens.
use Rattle.std.specs.Prelude.{ℕ, suc, ◌+◌, ◌-◌, ◌≤◌, max, Bool, true, false, IsTrue, List, [], ◌∷◌, ◌++◌, ℤ, codes}
use Rattle.std.specs.List.{AllPass}
use Rattle.hc_tokens.specs.declared.token.Token.{Token}
use Rattle.hc_tokens.specs.declared.token.Token.TheVariants.{Word, Int, Operator, Mark}
use Rattle.hc_tokens.specs.declared.token.Mark.TheVariants as mark
use Rattle.hc_tokens.specs.Words.{is_name}
use Rattle.hc_tokens.specs.declared.tree.NumOp.{NumOp}
use Rattle.hc_tokens.specs.declared.tree.NumOp.TheVariants as num_op
use Rattle.hc_tokens.specs.declared.tree.Num.{Num}
use Rattle.hc_tokens.specs.declared.tree.Num.TheVariants as num

-- a name's bytes
abbrev pub Text : Type 0
Text = List ℕ

abbrev pub Tokens : Type 0
Tokens = List Token

abbrev pub IsName : Text → Type 0
IsName w = IsTrue (is_name w)

abbrev pub AreNames : List Text → Type 0
AreNames ws = AllPass is_name ws

abbrev pub keyword : Text → Token
keyword w = Word w

-- ( ts )
abbrev pub in_round : Tokens → Tokens
in_round ts = Mark mark.OpenRound ∷ (ts ++ (Mark mark.CloseRound ∷ []))

-- ---- numbers

abbrev pub is_of_sum : NumOp → Bool
is_of_sum num_op.Add = true
is_of_sum num_op.Sub = true
is_of_sum _ = false

abbrev pub is_of_product : NumOp → Bool
is_of_product num_op.Mul = true
is_of_product num_op.Div = true
is_of_product num_op.Rem = true
is_of_product _ = false

abbrev pub is_comparison : NumOp → Bool
is_comparison num_op.Eq = true
is_comparison num_op.Ne = true
is_comparison num_op.Lt = true
is_comparison num_op.Le = true
is_comparison num_op.Gt = true
is_comparison num_op.Ge = true
is_comparison _ = false

-- the parts of the grammar of numbers; a sum and a product have a count of operators
pub data Part : Type 0 where
  Whole : Part
  Sum : ℕ → Part
  Product : ℕ → Part
  Signed : Part
  Atom : Part

-- The tokens spell the number, as this part of the grammar.
pub data Spells : Part → Tokens → Num → Type 0 where
  -- atom := INT | NAME | ( num ) | bits ( num )
  literal : (n : ℤ) → Spells Atom (Int n ∷ []) (num.Int n)
  name : (w : Text) → IsName w → Spells Atom (Word w ∷ []) (num.Name w)
  group : {ts : Tokens} {n : Num} → Spells Whole ts n → Spells Atom (in_round ts) n
  bits : {ts : Tokens} {n : Num} → Spells Whole ts n → Spells Atom (keyword (codes "bits") ∷ in_round ts) (num.Bits n)
  -- sign := atom | - atom
  unsigned : {ts : Tokens} {n : Num} → Spells Atom ts n → Spells Signed ts n
  negated : {ts : Tokens} {n : Num} → Spells Atom ts n → Spells Signed (Operator num_op.Sub ∷ ts) (num.Neg n)
  -- prod := sign | prod * sign | prod / sign | prod % sign
  factor : {ts : Tokens} {n : Num} → Spells Signed ts n → Spells (Product 0) ts n
  product : {k : ℕ} {ts us : Tokens} {a b : Num} (o : NumOp) → IsTrue (is_of_product o) → Spells (Product k) ts a → Spells Signed us b → Spells (Product (suc k)) (ts ++ (Operator o ∷ us)) (num.Two o a b)
  -- sum := prod | sum + prod | sum - prod
  term : {k : ℕ} {ts : Tokens} {n : Num} → k ≤ 32 → Spells (Product k) ts n → Spells (Sum 0) ts n
  sum : {k j : ℕ} {ts us : Tokens} {a b : Num} (o : NumOp) → IsTrue (is_of_sum o) → j ≤ 32 → Spells (Sum k) ts a → Spells (Product j) us b → Spells (Sum (suc k)) (ts ++ (Operator o ∷ us)) (num.Two o a b)
  -- num := sum | sum CMP sum
  plain : {k : ℕ} {ts : Tokens} {n : Num} → k ≤ 32 → Spells (Sum k) ts n → Spells Whole ts n
  comparison : {k j : ℕ} {ts us : Tokens} {a b : Num} (o : NumOp) → IsTrue (is_comparison o) → k ≤ 32 → j ≤ 32 → Spells (Sum k) ts a → Spells (Sum j) us b → Spells Whole (ts ++ (Operator o ∷ us)) (num.Two o a b)

abbrev pub IsNum : Tokens → Num → Type 0
IsNum = Spells Whole

abbrev pub IsAtom : Tokens → Num → Type 0
IsAtom = Spells Atom

-- numbers with commas between them, one or more
pub data AreNums : Tokens → List Num → Type 0 where
  last : {ts : Tokens} {n : Num} → IsNum ts n → AreNums ts (n ∷ [])
  comma : {ts us : Tokens} {n : Num} {ns : List Num} → IsNum ts n → AreNums us ns → AreNums (ts ++ (Mark mark.Comma ∷ us)) (n ∷ ns)

-- atoms one after the other
pub data AreAtoms : Tokens → List Num → Type 0 where
  none : AreAtoms [] []
  more : {ts us : Tokens} {n : Num} {ns : List Num} → IsAtom ts n → AreAtoms us ns → AreAtoms (ts ++ us) (n ∷ ns)

-- ---- brackets

-- the open brackets after a token
abbrev pub brackets_after : Token → ℕ → ℕ
brackets_after (Mark mark.OpenRound) n = n + 1
brackets_after (Mark mark.OpenSquare) n = n + 1
brackets_after (Mark mark.CloseRound) n = n - 1
brackets_after (Mark mark.CloseSquare) n = n - 1
brackets_after t n = n

-- the most brackets that are open at a place, with `n` open before
abbrev pub most_open : ℕ → Tokens → ℕ
most_open n [] = n
most_open n (t ∷ ts) = max n (most_open (brackets_after t n) ts)
