-- Numbers read from the front of tokens: what a reader gives, and the tokens after it. `d` brackets may still be opened.
use Rattle.std.specs.Prelude.{ℕ, zero, suc, Bool, true, false, cond, [], ◌∷◌, Option, Some, None, codes}
use Rattle.hc_tokens.specs.declared.token.Token.TheVariants.{Word, Int, Operator, Mark}
use Rattle.hc_tokens.specs.declared.token.Mark.TheVariants as mark
use Rattle.hc_tokens.specs.declared.tree.NumOp.{NumOp}
use Rattle.hc_tokens.specs.declared.tree.NumOp.TheVariants as num_op
use Rattle.hc_tokens.specs.declared.tree.Num.{Num}
use Rattle.hc_tokens.specs.declared.tree.Num.TheVariants as num
use Rattle.hc_tokens.specs.Tokens.{same_bytes}
use Rattle.hc_tokens.specs.Words.{is_name}
use Rattle.hc_tokens.specs.Grammar.{Text, Tokens, is_of_sum, is_of_product, is_comparison}

abbrev pub Read : Type 0 → Type 0
Read A = Tokens → Option (A × Tokens)

abbrev pub go_on : {A B : Type 0} → Option (A × Tokens) → (A → Read B) → Option (B × Tokens)
go_on None f = None
go_on (Some p) f = f p.0 p.1

abbrev pub refuse : Read Num
refuse ts = None

-- the operator of this kind that comes next, and the tokens after it
abbrev pub next : (NumOp → Bool) → Tokens → Option (NumOp × Tokens)
next p [] = None
next p (Operator o ∷ ts) = cond (p o) (Some (o, ts)) None
next p (t ∷ ts) = None

abbrev pub choose : {A B : Type 0} → Option A → B → (A → B) → B
choose None x f = x
choose (Some a) x f = f a

-- at most k further operators and operands, grouped to the left
unfoldable pub chain : (NumOp → Bool) → Read Num → ℕ → Num → Read Num
chain p operand zero a ts = choose (next p ts) (Some (a, ts)) (λ q. None)
chain p operand (suc k) a ts = choose (next p ts) (Some (a, ts)) (λ q. go_on (operand q.1) (λ b rest. chain p operand k (num.Two q.0 a b) rest))

abbrev pub close : Num → Read Num
close n [] = None
close n (Mark mark.CloseRound ∷ rest) = Some (n, rest)
close n (t ∷ rest) = None

module _ (inner : Read Num) where
  abbrev pub opened : Read Num
  opened [] = None
  opened (Mark mark.OpenRound ∷ ts) = go_on (inner ts) close
  opened (t ∷ ts) = None

  abbrev pub bits : Read Num
  bits ts = go_on (opened ts) (λ n rest. Some (num.Bits n, rest))

  abbrev pub word_by : Bool → Bool → Text → Read Num
  word_by true is_bits w ts = Some (num.Name w, ts)
  word_by false true w ts = bits ts
  word_by false false w ts = None

  abbrev pub atom : Read Num
  atom [] = None
  atom (Int z ∷ ts) = Some (num.Int z, ts)
  atom (Word w ∷ ts) = word_by (is_name w) (same_bytes w (codes "bits")) w ts
  atom (Mark m ∷ ts) = opened (Mark m ∷ ts)
  atom (t ∷ ts) = None

  abbrev pub negative : Read Num
  negative ts = go_on (atom ts) (λ n rest. Some (num.Neg n, rest))

  abbrev pub signed : Read Num
  signed [] = None
  signed (Operator num_op.Sub ∷ ts) = negative ts
  signed (t ∷ ts) = atom (t ∷ ts)

  unfoldable pub product : Read Num
  product ts = go_on (signed ts) (λ a rest. chain is_of_product signed 32 a rest)

  unfoldable pub sum : Read Num
  sum ts = go_on (product ts) (λ a rest. chain is_of_sum product 32 a rest)

  abbrev pub comparison : Num → Read Num
  comparison a ts = choose (next is_comparison ts) (Some (a, ts)) (λ q. go_on (sum q.1) (λ b rest. Some (num.Two q.0 a b, rest)))

  unfoldable pub whole : Read Num
  whole ts = go_on (sum ts) comparison

-- what a bracket opens where d may be open
abbrev pub inside : ℕ → Read Num
inside zero = refuse
inside (suc d) = whole (inside d)

-- a number with at most d brackets open
abbrev pub number_at : ℕ → Read Num
number_at d = whole (inside d)
