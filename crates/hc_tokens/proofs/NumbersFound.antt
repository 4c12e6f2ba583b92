-- What is read is spelled so, and what is spelled so is read.
use Rattle.std.proofs.Common.{◌≡◌, ℕ, zero, suc, ◌+◌, ◌-◌, ◌≤◌, max, Bool, IsTrue, [], ◌∷◌, ◌++◌, Option, Some, None, codes, refl, sym, ◌∙◌, ap, subst, arith, append_assoc}
use Rattle.hc_tokens.specs.declared.token.Token.TheVariants.{Word, Int, Sized, Operator, Mark}
use Rattle.hc_tokens.specs.declared.token.Mark.TheVariants as mark
use Rattle.hc_tokens.specs.declared.tree.NumOp.{NumOp}
use Rattle.hc_tokens.specs.declared.tree.NumOp.TheVariants as num_op
use Rattle.hc_tokens.specs.declared.tree.Num.{Num}
use Rattle.hc_tokens.specs.declared.tree.Num.TheVariants as num
use Rattle.hc_tokens.specs.Tokens.{same_bytes}
use Rattle.hc_tokens.specs.Words.{is_name}
use Rattle.hc_tokens.specs.Returns.{Stops}
use Rattle.hc_tokens.specs.declared.stop.Stop.{Stop}
use Rattle.hc_tokens.specs.declared.stop.Stop.TheVariants.{Memory, Syntax}
use Rattle.hc_tokens.specs.Grammar as g
use Rattle.hc_tokens.specs.Grammar.{Text, Tokens, is_of_sum, is_of_product, is_comparison, Spells, Part, Whole, Sum, Product, Signed, Atom, brackets_after, most_open, in_round}
use Rattle.hc_tokens.specs.Reading as r
use Rattle.hc_tokens.specs.Reading.{Read, go_on, next, choose, chain, number_at, inside}

-- ---- what is spelled so is read

pub next-operator : (p : NumOp → Bool) (o : NumOp) (ts : Tokens) → IsTrue (p o) → next p (Operator o ∷ ts) ≡ Some (o, ts)
next-operator p o ts h = rw h refl

-- the numbers of a part are read by this reader, where d brackets may be opened
abbrev Claim : Part → ℕ → Tokens → Num → Type 0
Claim Atom d ts n = (rest : Tokens) → r.atom (inside d) (ts ++ rest) ≡ Some (n, rest)
Claim Signed d ts n = (rest : Tokens) → r.signed (inside d) (ts ++ rest) ≡ Some (n, rest)
Claim (Product k) d ts n = (j : ℕ) → k + j ≡ 32 → (rest : Tokens) → r.product (inside d) (ts ++ rest) ≡ chain is_of_product (r.signed (inside d)) j n rest
Claim (Sum k) d ts n = (j : ℕ) → k + j ≡ 32 → (rest : Tokens) → next is_of_product rest ≡ None → r.sum (inside d) (ts ++ rest) ≡ chain is_of_sum (r.product (inside d)) j n rest
Claim Whole d ts n = (rest : Tokens) → next is_of_product rest ≡ None → next is_of_sum rest ≡ None → next is_comparison rest ≡ None → r.whole (inside d) (ts ++ rest) ≡ Some (n, rest)

-- ---- open brackets

abbrev pub open_after : ℕ → Tokens → ℕ
open_after o [] = o
open_after o (t ∷ ts) = open_after (brackets_after t o) ts

pub most_open-append : (xs ys : Tokens) (o : ℕ) → most_open o (xs ++ ys) ≡ max (most_open o xs) (most_open (open_after o xs) ys)
most_open-append [] ys o = at_least ys o
  where
    at_least : (ys : Tokens) (o : ℕ) → most_open o ys ≡ max o (most_open o ys)
    at_least [] o = omega arith
    at_least (t ∷ ys) o = omega arith
most_open-append (t ∷ xs) ys o = omega (arith, most_open-append xs ys (brackets_after t o))

pub open_after-append : (xs ys : Tokens) (o : ℕ) → open_after o (xs ++ ys) ≡ open_after (open_after o xs) ys
open_after-append [] ys o = refl
open_after-append (t ∷ xs) ys o = open_after-append xs ys (brackets_after t o)

pub round_after : (ts : Tokens) (o : ℕ) → open_after (o + 1) ts ≡ o + 1 → open_after o (in_round ts) ≡ o
round_after ts o e = open_after-append ts (Mark mark.CloseRound ∷ []) (o + 1) ∙ ap (λ x. x - 1) e ∙ (omega arith)

joined_after : (ts us : Tokens) (op : NumOp) (o : ℕ) → open_after o ts ≡ o → open_after o us ≡ o → open_after o (ts ++ (Operator op ∷ us)) ≡ o
joined_after ts us op o e f = open_after-append ts (Operator op ∷ us) o ∙ ap (λ x. open_after x us) e ∙ f

-- what is spelled has no open bracket at its end
pub balanced : {part : Part} {ts : Tokens} {n : Num} → Spells part ts n → (o : ℕ) → open_after o ts ≡ o
balanced (g.literal z) o = refl
balanced (g.name w h) o = refl
balanced (g.group {ts} s) o = round_after ts o (balanced s (o + 1))
balanced (g.bits {ts} s) o = round_after ts o (balanced s (o + 1))
balanced (g.unsigned s) o = balanced s o
balanced (g.negated s) o = balanced s o
balanced (g.factor s) o = balanced s o
balanced (g.product {ts = ts} {us = us} p h a b) o = joined_after ts us p o (balanced a o) (balanced b o)
balanced (g.term h s) o = balanced s o
balanced (g.sum {ts = ts} {us = us} p h l a b) o = joined_after ts us p o (balanced a o) (balanced b o)
balanced (g.plain h s) o = balanced s o
balanced (g.comparison {ts = ts} {us = us} p h k l a b) o = joined_after ts us p o (balanced a o) (balanced b o)

-- ---- the parts of what is read

-- a reader that gives n from ts, whatever follows that begins with a closing bracket, is read in brackets
in_brackets : (R : Read Num) (ts : Tokens) (n : Num) (rest : Tokens) → R (ts ++ (Mark mark.CloseRound ∷ rest)) ≡ Some (n, Mark mark.CloseRound ∷ rest) → r.opened R (in_round ts ++ rest) ≡ Some (n, rest)
in_brackets R ts n rest e = ap (λ x. go_on (R x) r.close) (append_assoc ts (Mark mark.CloseRound ∷ []) rest) ∙ ap (λ x. go_on x r.close) e

-- a sign and an atom are apart
signed-atom : (R : Read Num) (ts : Tokens) (x : Num × Tokens) → r.atom R ts ≡ Some x → r.signed R ts ≡ Some x
signed-atom R [] x e = e
signed-atom R (Word w ∷ ts) x e = e
signed-atom R (Int z ∷ ts) x e = e
signed-atom R (Sized z v ∷ ts) x e = e
signed-atom R (Mark m ∷ ts) x e = e
signed-atom R (Operator o ∷ ts) x e = absurd cc

-- a chain stops where no operator follows
chain-stops : (p : NumOp → Bool) (operand : Read Num) (j : ℕ) (a : Num) (rest : Tokens) → next p rest ≡ None → chain p operand j a rest ≡ Some (a, rest)
unfolding chain
chain-stops p operand zero a rest h = ap (λ x. choose x (Some (a, rest)) (λ q. None)) h
chain-stops p operand (suc j) a rest h = ap (λ x. choose x (Some (a, rest)) (λ q. go_on (operand q.1) (λ b left. chain p operand j (num.Two q.0 a b) left))) h

-- a chain goes on with an operator of its kind and an operand
chain-more : (p : NumOp → Bool) (operand : Read Num) (j : ℕ) (a b : Num) (o : NumOp) (us rest : Tokens) → IsTrue (p o) → operand (us ++ rest) ≡ Some (b, rest) → chain p operand (suc j) a (Operator o ∷ (us ++ rest)) ≡ chain p operand j (num.Two o a b) rest
unfolding chain
chain-more p operand j a b o us rest h e = ap (λ x. choose x (Some (a, Operator o ∷ (us ++ rest))) (λ q. go_on (operand q.1) (λ b left. chain p operand j (num.Two q.0 a b) left))) (next-operator p o (us ++ rest) h) ∙ ap (λ x. go_on x (λ b left. chain p operand j (num.Two o a b) left)) e

-- one turn of a chain: the operator, its operand, and the chain after them
pub chain-goes : (p : NumOp → Bool) (operand : Read Num) (j : ℕ) (a b : Num) (o : NumOp) (rest after left : Tokens) → (j ≡ 0 → ⊥) → next p rest ≡ Some (o, after) → operand after ≡ Some (b, left) → chain p operand j a rest ≡ chain p operand (j - 1) (num.Two o a b) left
unfolding chain
chain-goes p operand zero a b o rest after left h e f = absurd (h refl)
chain-goes p operand (suc j) a b o rest after left h e f =
    ap (λ x. choose x (Some (a, rest)) (λ q. go_on (operand q.1) (λ c more. chain p operand j (num.Two q.0 a c) more))) e
    ∙ ap (λ x. go_on x (λ c more. chain p operand j (num.Two o a c) more)) f
    ∙ ap (λ x. chain p operand x (num.Two o a b) left) (let is : j ≡ suc j - 1 = omega arith in is)

-- a chain fails with an operand
pub chain-fails : (p : NumOp → Bool) (operand : Read Num) (j : ℕ) (a : Num) (o : NumOp) (rest after : Tokens) → (j ≡ 0 → ⊥) → next p rest ≡ Some (o, after) → operand after ≡ None → chain p operand j a rest ≡ None
unfolding chain
chain-fails p operand zero a o rest after h e f = absurd (h refl)
chain-fails p operand (suc j) a o rest after h e f =
    ap (λ x. choose x (Some (a, rest)) (λ q. go_on (operand q.1) (λ c more. chain p operand j (num.Two q.0 a c) more))) e
    ∙ ap (λ x. go_on x (λ c more. chain p operand j (num.Two o a c) more)) f

-- a whole fails where a part does
pub stops_with : {X Y : Type 0} (e : Stop) (part : Option X) (whole : Option Y) → (part ≡ None → whole ≡ None) → Stops e part → Stops e whole
stops_with Memory part whole f s = tt
stops_with Syntax part whole f s = f s

product_then_sum : (o : NumOp) (ts : Tokens) → IsTrue (is_of_sum o) → next is_of_product (Operator o ∷ ts) ≡ None
product_then_sum num_op.Add ts h = refl
product_then_sum num_op.Sub ts h = refl
product_then_sum num_op.Mul ts h = absurd cc
product_then_sum num_op.Div ts h = absurd cc
product_then_sum num_op.Rem ts h = absurd cc
product_then_sum num_op.Eq ts h = refl
product_then_sum num_op.Ne ts h = refl
product_then_sum num_op.Lt ts h = refl
product_then_sum num_op.Le ts h = refl
product_then_sum num_op.Gt ts h = refl
product_then_sum num_op.Ge ts h = refl

product_then_test : (o : NumOp) (ts : Tokens) → IsTrue (is_comparison o) → next is_of_product (Operator o ∷ ts) ≡ None
product_then_test num_op.Add ts h = refl
product_then_test num_op.Sub ts h = refl
product_then_test num_op.Mul ts h = absurd cc
product_then_test num_op.Div ts h = absurd cc
product_then_test num_op.Rem ts h = absurd cc
product_then_test num_op.Eq ts h = refl
product_then_test num_op.Ne ts h = refl
product_then_test num_op.Lt ts h = refl
product_then_test num_op.Le ts h = refl
product_then_test num_op.Gt ts h = refl
product_then_test num_op.Ge ts h = refl

sum_then_test : (o : NumOp) (ts : Tokens) → IsTrue (is_comparison o) → next is_of_sum (Operator o ∷ ts) ≡ None
sum_then_test num_op.Add ts h = absurd cc
sum_then_test num_op.Sub ts h = absurd cc
sum_then_test num_op.Mul ts h = refl
sum_then_test num_op.Div ts h = refl
sum_then_test num_op.Rem ts h = refl
sum_then_test num_op.Eq ts h = refl
sum_then_test num_op.Ne ts h = refl
sum_then_test num_op.Lt ts h = refl
sum_then_test num_op.Le ts h = refl
sum_then_test num_op.Gt ts h = refl
sum_then_test num_op.Ge ts h = refl

-- ---- brackets of the parts

-- a place with o open brackets has at least o
pub open_least : (ts : Tokens) (o : ℕ) → o ≤ most_open o ts
open_least [] o = omega arith
open_least (t ∷ ts) o = omega arith

pub left_open : (xs ys : Tokens) (o m : ℕ) → most_open o (xs ++ ys) ≤ m → most_open o xs ≤ m
left_open xs ys o m h = omega (arith, most_open-append xs ys o)

-- after balanced tokens
pub right_open : (xs ys : Tokens) (o m : ℕ) → open_after o xs ≡ o → most_open o (xs ++ ys) ≤ m → most_open o ys ≤ m
right_open xs ys o m e h =
    let bound : most_open (open_after o xs) ys ≤ m = omega (arith, most_open-append xs ys o) in
    subst (λ x. most_open x ys ≤ m) e bound

pub operand_open : (xs ys : Tokens) (p : NumOp) (o m : ℕ) → open_after o xs ≡ o → most_open o (xs ++ (Operator p ∷ ys)) ≤ m → most_open o ys ≤ m
operand_open xs ys p o m e h = let inner : most_open o (Operator p ∷ ys) ≤ m = right_open xs (Operator p ∷ ys) o m e h in omega arith

-- within brackets one more is open
pub within_open : (ts : Tokens) (o d : ℕ) → most_open o (in_round ts) ≤ o + suc d → most_open (o + 1) ts ≤ (o + 1) + d
within_open ts o d h = let inner : most_open (o + 1) (ts ++ (Mark mark.CloseRound ∷ [])) ≤ (o + 1) + d = omega arith in left_open ts _ (o + 1) ((o + 1) + d) inner

pub none_within : (ts : Tokens) (o : ℕ) → most_open o (in_round ts) ≤ o + 0 → ⊥
none_within ts o h = omega (arith, open_least (ts ++ (Mark mark.CloseRound ∷ [])) (o + 1))

pub number_at-whole : (d : ℕ) (ts : Tokens) → number_at d ts ≡ r.whole (inside d) ts
number_at-whole d ts = refl

-- ---- the theorem

abbrev Reads : Part → Tokens → Num → Type 0
Reads part ts n = (d o : ℕ) → most_open o ts ≤ o + d → Claim part d ts n

group_reads : (ts : Tokens) (n : Num) → Reads Whole ts n → Reads Atom (in_round ts) n
group_reads ts n ih zero o h rest = absurd (none_within ts o h)
group_reads ts n ih (suc d) o h rest = in_brackets (number_at d) ts n rest (number_at-whole d _ ∙ ih d (o + 1) (within_open ts o d h) (Mark mark.CloseRound ∷ rest) refl refl refl)

bits_reads : (ts : Tokens) (n : Num) → Reads Whole ts n → Reads Atom (Word (codes "bits") ∷ in_round ts) (num.Bits n)
unfolding Rattle.hc_tokens.specs.Words.call_words
bits_reads ts n ih zero o h rest = absurd (none_within ts o (omega arith))
bits_reads ts n ih (suc d) o h rest = ap (λ x. go_on x (λ m left. Some (num.Bits m, left))) (in_brackets (number_at d) ts n rest (number_at-whole d _ ∙ ih d (o + 1) (within_open ts o d (omega arith)) (Mark mark.CloseRound ∷ rest) refl refl refl))

name_reads : (w : Text) → IsTrue (is_name w) → Reads Atom (Word w ∷ []) (num.Name w)
name_reads w h d o k rest = ap (λ x. r.word_by (inside d) x (same_bytes w (codes "bits")) w rest) h

product_reads : (k : ℕ) (ts us : Tokens) (a b : Num) (p : NumOp) → IsTrue (is_of_product p) → ((o : ℕ) → open_after o ts ≡ o) → Reads (Product k) ts a → Reads Signed us b → Reads (Product (suc k)) (ts ++ (Operator p ∷ us)) (num.Two p a b)
product_reads k ts us a b p h even ia ib d o m j e rest =
    ap (r.product (inside d)) (append_assoc ts (Operator p ∷ us) rest)
    ∙ ia d o (left_open ts _ o (o + d) m) (suc j) (omega arith) (Operator p ∷ (us ++ rest))
    ∙ chain-more is_of_product (r.signed (inside d)) j a b p us rest h (ib d o (operand_open ts us p o (o + d) (even o) m) rest)

-- a product is whole where no operator of a product follows
whole_product : (k : ℕ) (ts : Tokens) (n : Num) (d : ℕ) → k ≤ 32 → Claim (Product k) d ts n → (rest : Tokens) → next is_of_product rest ≡ None → r.product (inside d) (ts ++ rest) ≡ Some (n, rest)
whole_product k ts n d l c rest h = c (32 - k) (omega arith) rest ∙ chain-stops is_of_product (r.signed (inside d)) (32 - k) n rest h

whole_sum : (k : ℕ) (ts : Tokens) (n : Num) (d : ℕ) → k ≤ 32 → Claim (Sum k) d ts n → (rest : Tokens) → next is_of_product rest ≡ None → next is_of_sum rest ≡ None → r.sum (inside d) (ts ++ rest) ≡ Some (n, rest)
whole_sum k ts n d l c rest h s = c (32 - k) (omega arith) rest h ∙ chain-stops is_of_sum (r.product (inside d)) (32 - k) n rest s

term_reads : (k : ℕ) (ts : Tokens) (n : Num) → k ≤ 32 → Reads (Product k) ts n → Reads (Sum 0) ts n
unfolding r.sum
term_reads k ts n l ih d o m j e rest h =
    ap (λ x. go_on x (λ a left. chain is_of_sum (r.product (inside d)) 32 a left)) (whole_product k ts n d l (ih d o m) rest h)
    ∙ ap (λ x. chain is_of_sum (r.product (inside d)) x n rest) (let is : 32 ≡ j = omega arith in is)

sum_reads : (k i : ℕ) (ts us : Tokens) (a b : Num) (p : NumOp) → IsTrue (is_of_sum p) → i ≤ 32 → ((o : ℕ) → open_after o ts ≡ o) → Reads (Sum k) ts a → Reads (Product i) us b → Reads (Sum (suc k)) (ts ++ (Operator p ∷ us)) (num.Two p a b)
sum_reads k i ts us a b p h l even ia ib d o m j e rest s =
    ap (r.sum (inside d)) (append_assoc ts (Operator p ∷ us) rest)
    ∙ ia d o (left_open ts _ o (o + d) m) (suc j) (omega arith) (Operator p ∷ (us ++ rest)) (product_then_sum p (us ++ rest) h)
    ∙ chain-more is_of_sum (r.product (inside d)) j a b p us rest h (whole_product i us b d l (ib d o (operand_open ts us p o (o + d) (even o) m)) rest s)

plain_reads : (k : ℕ) (ts : Tokens) (n : Num) → k ≤ 32 → Reads (Sum k) ts n → Reads Whole ts n
unfolding r.whole
plain_reads k ts n l ih d o m rest h s c =
    ap (λ x. go_on x (r.comparison (inside d))) (whole_sum k ts n d l (ih d o m) rest h s)
    ∙ ap (λ x. choose x (Some (n, rest)) (λ q. go_on (r.sum (inside d) q.1) (λ b left. Some (num.Two q.0 n b, left)))) c

comparison_reads : (k i : ℕ) (ts us : Tokens) (a b : Num) (p : NumOp) → IsTrue (is_comparison p) → k ≤ 32 → i ≤ 32 → ((o : ℕ) → open_after o ts ≡ o) → Reads (Sum k) ts a → Reads (Sum i) us b → Reads Whole (ts ++ (Operator p ∷ us)) (num.Two p a b)
unfolding r.whole
comparison_reads k i ts us a b p t l l' even ia ib d o m rest h s c =
    ap (r.whole (inside d)) (append_assoc ts (Operator p ∷ us) rest)
    ∙ ap (λ x. go_on x (r.comparison (inside d))) (whole_sum k ts a d l (ia d o (left_open ts _ o (o + d) m)) (Operator p ∷ (us ++ rest)) (product_then_test p _ t) (sum_then_test p _ t))
    ∙ ap (λ x. choose x (Some (a, Operator p ∷ (us ++ rest))) (λ q. go_on (r.sum (inside d) q.1) (λ b left. Some (num.Two q.0 a b, left)))) (next-operator is_comparison p (us ++ rest) t)
    ∙ ap (λ x. go_on x (λ b left. Some (num.Two p a b, left))) (whole_sum i us b d l' (ib d o (operand_open ts us p o (o + d) (even o) m)) rest h s)

pub reads : {part : Part} {ts : Tokens} {n : Num} → Spells part ts n → Reads part ts n
unfolding r.product
reads (g.literal z) = λ d o h rest. refl
reads (g.name w h) = name_reads w h
reads (g.group {ts} {n} s) = group_reads ts n (reads s)
reads (g.bits {ts} {n} s) = bits_reads ts n (reads s)
reads (g.unsigned {ts} {n} s) = λ d o h rest. signed-atom (inside d) (ts ++ rest) (n, rest) (reads s d o h rest)
reads (g.negated {ts} {n} s) = λ d o h rest. ap (λ x. go_on x (λ m left. Some (num.Neg m, left))) (reads s d o (omega arith) rest)
reads (g.factor {ts} {n} s) = λ d o h j e rest.
    ap (λ x. go_on x (λ a left. chain is_of_product (r.signed (inside d)) 32 a left)) (reads s d o h rest)
    ∙ ap (λ x. chain is_of_product (r.signed (inside d)) x n rest) (let is : 32 ≡ j = omega arith in is)
reads (g.product {k} {ts} {us} {a} {b} p h x y) = product_reads k ts us a b p h (balanced x) (reads x) (reads y)
reads (g.term {k} {ts} {n} l s) = term_reads k ts n l (reads s)
reads (g.sum {k} {j} {ts} {us} {a} {b} p h l x y) = sum_reads k j ts us a b p h l (balanced x) (reads x) (reads y)
reads (g.plain {k} {ts} {n} l s) = plain_reads k ts n l (reads s)
reads (g.comparison {k} {j} {ts} {us} {a} {b} p h l l' x y) = comparison_reads k j ts us a b p h l l' (balanced x) (reads x) (reads y)

-- tokens that spell a number are read as that number
pub number-read : (ts : Tokens) (n : Num) (d : ℕ) → Spells Whole ts n → most_open 0 ts ≤ d → number_at d ts ≡ Some (n, [])
number-read ts n d s h = ap (number_at d) (sym (append-nil ts)) ∙ number_at-whole d (ts ++ []) ∙ reads s d 0 (omega arith) [] refl refl refl
  where
    append-nil : (ts : Tokens) → ts ++ [] ≡ ts
    append-nil [] = refl
    append-nil (t ∷ ts) = ap (λ x. t ∷ x) (append-nil ts)

-- so tokens spell at most one number
pub one_number : (ts : Tokens) (m n : Num) → Spells Whole ts m → Spells Whole ts n → m ≡ n
one_number ts m n s t =
    let e : number_at (most_open 0 ts) ts ≡ Some (m, []) = number-read ts m (most_open 0 ts) s (omega arith) in
    let f : number_at (most_open 0 ts) ts ≡ Some (n, []) = number-read ts n (most_open 0 ts) t (omega arith) in
    let both : Some (m, []) ≡ Some (n, []) = sym e ∙ f in
    ap (λ x. choose x m (λ q. q.0)) both
