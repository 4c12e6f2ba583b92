-- What is read as a number is spelled so.
use Rattle.std.proofs.Common.{◌≡◌, ℕ, zero, suc, ◌+◌, ◌≤◌, Bool, true, false, cond, IsTrue, List, [], ◌∷◌, ◌++◌, Option, Some, None, codes, refl, sym, ◌∙◌, ap, subst, arith, append_assoc}
use Rattle.std.proofs.lemmas.Slice.Eq.{bytes_eq-Decides}
use Rattle.hc_tokens.specs.declared.token.Token.{Token}
use Rattle.hc_tokens.specs.declared.token.Token.TheVariants.{Word, Int, Sized, Operator, Mark}
use Rattle.hc_tokens.specs.declared.token.Mark.TheVariants as mark
use Rattle.hc_tokens.specs.declared.tree.NumOp.{NumOp}
use Rattle.hc_tokens.specs.declared.tree.NumOp.TheVariants as num_op
use Rattle.hc_tokens.specs.declared.tree.Num.{Num}
use Rattle.hc_tokens.specs.declared.tree.Num.TheVariants as num
use Rattle.hc_tokens.specs.Tokens.{same_bytes}
use Rattle.hc_tokens.specs.Words.{is_name}
use Rattle.hc_tokens.specs.Grammar as g
use Rattle.hc_tokens.specs.Grammar.{Text, Tokens, is_of_sum, is_of_product, is_comparison, Spells, Part, Whole, Sum, Product, Signed, Atom, most_open, in_round}
use Rattle.hc_tokens.specs.Reading as r
use Rattle.hc_tokens.specs.Reading.{Read, go_on, next, choose, chain, inside}
use Rattle.hc_tokens.proofs.NumbersFound.{open_after, balanced, most_open-append}

-- a front of the tokens has P, with at most d brackets open in it
pub record Front (P : Tokens → Num → Type 0) (d : ℕ) (ts : Tokens) (n : Num) (rest : Tokens) : Type 0 where
  pub front : Tokens
  pub parts : ts ≡ front ++ rest
  pub holds : P front n
  pub even : (o : ℕ) → open_after o front ≡ o
  pub within : (o : ℕ) → most_open o front ≤ o + d

abbrev pub Sound : (Tokens → Num → Type 0) → ℕ → Read Num → Type 0
Sound P d R = (ts rest : Tokens) (n : Num) → R ts ≡ Some (n, rest) → Front P d ts n rest

go_on-some : {A B : Type 0} (x : Option (A × Tokens)) (f : A → Read B) (y : B × Tokens) → go_on x f ≡ Some y → (p : A × Tokens) × (x ≡ Some p) × (f p.0 p.1 ≡ Some y)
go_on-some None f y e = absurd cc
go_on-some (Some p) f y e = (p, refl, e)

abbrev got : Num → Tokens → Option (Num × Tokens)
got n ts = Some (n, ts)

some-first : (m n : Num) (ts us : Tokens) → got m ts ≡ got n us → m ≡ n
some-first m n ts us e = ap (λ x. choose x m (λ q. q.0)) e

some-second : (m n : Num) (ts us : Tokens) → got m ts ≡ got n us → ts ≡ us
some-second m n ts us e = ap (λ x. choose x ts (λ q. q.1)) e

cond-some : (b : Bool) (q p : NumOp × Tokens) → cond b (Some q) None ≡ Some p → (b ≡ true) × (q ≡ p)
cond-some true q p e = (refl, ap (λ x. choose x q (λ y. y)) e)
cond-some false q p e = absurd cc

next-some : (p : NumOp → Bool) (ts : Tokens) (q : NumOp × Tokens) → next p ts ≡ Some q → (ts ≡ Operator q.0 ∷ q.1) × IsTrue (p q.0)
next-some p [] q e = absurd cc
next-some p (Operator o ∷ ts) q e = let both = cond-some (p o) (o, ts) q e in (ap (λ x. Operator x.0 ∷ x.1) both.1, ap (λ x. p x.0) (sym both.1) ∙ both.0)
next-some p (Word w ∷ ts) q e = absurd cc
next-some p (Int w ∷ ts) q e = absurd cc
next-some p (Sized w v ∷ ts) q e = absurd cc
next-some p (Mark w ∷ ts) q e = absurd cc

-- the front with other words for what is left and read
moved : (P : Tokens → Num → Type 0) (d : ℕ) (ts rest left : Tokens) (m n : Num) → got m rest ≡ got n left → Front P d ts m rest → Front P d ts n left
moved P d ts rest left m n e f = subst (λ x. Front P d ts x left) (some-first m n rest left e) (subst (λ x. Front P d ts m x) (some-second m n rest left e) f)

joined_within : (xs ys : Tokens) (p : NumOp) (d o : ℕ) → open_after o xs ≡ o → most_open o xs ≤ o + d → most_open o ys ≤ o + d → most_open o (xs ++ (Operator p ∷ ys)) ≤ o + d
joined_within xs ys p d o e h k =
    let inner : most_open (open_after o xs) (Operator p ∷ ys) ≤ o + d = subst (λ x. most_open x (Operator p ∷ ys) ≤ o + d) (sym e) (omega arith) in
    omega (arith, most_open-append xs (Operator p ∷ ys) o)

-- an operator and its operand after what was read
joined : (P Q R : Tokens → Num → Type 0) (d : ℕ) (ts rest after left : Tokens) (a b : Num) (o : NumOp) → ((xs ys : Tokens) → P xs a → Q ys b → R (xs ++ (Operator o ∷ ys)) (num.Two o a b)) → ((xs : Tokens) → R xs (num.Two o a b) → (i : ℕ) → open_after i xs ≡ i) → rest ≡ Operator o ∷ after → Front P d ts a rest → Front Q d after b left → Front R d ts (num.Two o a b) left
joined P Q R d ts rest after left a b o grow level is f h =
    let whole : R (f.front ++ (Operator o ∷ h.front)) (num.Two o a b) = grow f.front h.front f.holds h.holds in
    record {
      front = f.front ++ (Operator o ∷ h.front);
      parts = f.parts ∙ ap (λ x. f.front ++ x) is ∙ ap (λ x. f.front ++ (Operator o ∷ x)) h.parts ∙ sym (append_assoc f.front (Operator o ∷ h.front) left);
      holds = whole;
      even = level _ whole;
      within = λ i. joined_within f.front h.front o d i (f.even i) (f.within i) (h.within i);
    }

-- a chain reads operators and operands after what was read
module _ (p : NumOp → Bool) (operand : Read Num) (d : ℕ) (Rel : ℕ → Tokens → Num → Type 0) (Item : Tokens → Num → Type 0) (sound : Sound Item d operand) (grow : (k : ℕ) (o : NumOp) (xs ys : Tokens) (a b : Num) → IsTrue (p o) → Rel k xs a → Item ys b → Rel (suc k) (xs ++ (Operator o ∷ ys)) (num.Two o a b)) (level : (k : ℕ) (xs : Tokens) (n : Num) → Rel k xs n → (i : ℕ) → open_after i xs ≡ i) where
  Chained : Tokens → Num → Tokens → Type 0
  Chained ts n left = (m : ℕ) × (m ≤ 32) × Front (Rel m) d ts n left

  last_turn : (k : ℕ) (a n : Num) (ts rest left : Tokens) (q : Option (NumOp × Tokens)) → k ≤ 32 → Front (Rel k) d ts a rest → choose q (got a rest) (λ _. None) ≡ got n left → Chained ts n left
  unfolding Chained
  last_turn k a n ts rest left None l f e = (k, l, moved (Rel k) d ts rest left a n e f)
  last_turn k a n ts rest left (Some q) l f e = absurd cc

  turn : (j k : ℕ) (a n : Num) (ts rest left : Tokens) → ((b : Num) (o : NumOp) (more : Tokens) → Front (Rel (suc k)) d ts (num.Two o a b) more → chain p operand j (num.Two o a b) more ≡ Some (n, left) → Chained ts n left) → (q : Option (NumOp × Tokens)) → next p rest ≡ q → k ≤ 32 → Front (Rel k) d ts a rest → choose q (Some (a, rest)) (λ q. go_on (operand q.1) (λ b more. chain p operand j (num.Two q.0 a b) more)) ≡ Some (n, left) → Chained ts n left
  unfolding Chained
  turn j k a n ts rest left again None is l f e = (k, l, moved (Rel k) d ts rest left a n e f)
  turn j k a n ts rest left again (Some q) is l f e =
      let s = go_on-some (operand q.1) (λ b more. chain p operand j (num.Two q.0 a b) more) (n, left) e in
      let op = next-some p rest q is in
      again s.0.0 q.0 s.0.1 (joined (Rel k) Item (Rel (suc k)) d ts rest q.1 s.0.1 a s.0.0 q.0 (λ xs ys h i. grow k q.0 xs ys a s.0.0 op.1 h i) (λ xs h. level (suc k) xs _ h) op.0 f (sound q.1 s.0.1 s.0.0 s.1)) s.2

  chain-sound : (j k : ℕ) (a n : Num) (ts rest left : Tokens) → k + j ≡ 32 → Front (Rel k) d ts a rest → chain p operand j a rest ≡ Some (n, left) → Chained ts n left
  unfolding chain
  chain-sound zero k a n ts rest left h f e = last_turn k a n ts rest left (next p rest) (omega arith) f e
  chain-sound (suc j) k a n ts rest left h f e = turn j k a n ts rest left (λ b o more f' e'. chain-sound j (suc k) (num.Two o a b) n ts more left (omega arith) f' e') (next p rest) refl (omega arith) f e

-- ---- the parts

close-some : (m n : Num) (ts rest : Tokens) → r.close m ts ≡ Some (n, rest) → (m ≡ n) × (ts ≡ Mark mark.CloseRound ∷ rest)
close-some m n [] rest e = absurd cc
close-some m n (Mark mark.CloseRound ∷ ts) rest e = (some-first m n ts rest e, ap (λ x. Mark mark.CloseRound ∷ x) (some-second m n ts rest e))
close-some m n (Mark mark.OpenRound ∷ ts) rest e = absurd cc
close-some m n (Mark mark.OpenSquare ∷ ts) rest e = absurd cc
close-some m n (Mark mark.CloseSquare ∷ ts) rest e = absurd cc
close-some m n (Mark mark.Comma ∷ ts) rest e = absurd cc
close-some m n (Mark mark.Colon ∷ ts) rest e = absurd cc
close-some m n (Mark mark.Equals ∷ ts) rest e = absurd cc
close-some m n (Mark mark.Dot ∷ ts) rest e = absurd cc
close-some m n (Word w ∷ ts) rest e = absurd cc
close-some m n (Int w ∷ ts) rest e = absurd cc
close-some m n (Sized w v ∷ ts) rest e = absurd cc
close-some m n (Operator w ∷ ts) rest e = absurd cc

-- in round brackets
abbrev pub Grouped : Tokens → Num → Type 0
Grouped ts n = (inner : Tokens) × (ts ≡ in_round inner) × Spells Whole inner n

pub same_bytes-equal : (xs ys : List ℕ) → same_bytes xs ys ≡ true → xs ≡ ys
same_bytes-equal xs ys e = (bytes_eq-Decides xs ys).0 e

pub closes : (R : Read Num) (d : ℕ) → Sound (Spells Whole) d R → Sound Grouped (suc d) (r.opened R)
closes R d s [] rest n e = absurd cc
closes R d s (Mark mark.OpenRound ∷ ts) rest n e =
    let inner = go_on-some (R ts) r.close (n, rest) e in
    let f = s ts inner.0.1 inner.0.0 inner.1 in
    let c = close-some inner.0.0 n inner.0.1 rest inner.2 in
    let whole : Spells Whole f.front n = subst (λ x. Spells Whole f.front x) c.0 f.holds in
    record {
      front = in_round f.front;
      parts = ap (λ x. Mark mark.OpenRound ∷ x) (f.parts ∙ ap (λ x. f.front ++ x) c.1 ∙ sym (append_assoc f.front (Mark mark.CloseRound ∷ []) rest));
      holds = (f.front, refl, whole);
      even = balanced (g.group whole);
      within = λ o. in_round_within f.front o d (f.even (o + 1)) (f.within (o + 1));
    }
  where
    in_round_within : (xs : Tokens) (o d : ℕ) → open_after (o + 1) xs ≡ o + 1 → most_open (o + 1) xs ≤ (o + 1) + d → most_open o (in_round xs) ≤ o + suc d
    in_round_within xs o d e h =
        let inner : most_open (open_after (o + 1) xs) (Mark mark.CloseRound ∷ []) ≤ o + suc d = subst (λ x. most_open x (Mark mark.CloseRound ∷ []) ≤ o + suc d) (sym e) (omega arith) in
        omega (arith, most_open-append xs (Mark mark.CloseRound ∷ []) (o + 1))
closes R d s (Mark mark.CloseRound ∷ ts) rest n e = absurd cc
closes R d s (Mark mark.OpenSquare ∷ ts) rest n e = absurd cc
closes R d s (Mark mark.CloseSquare ∷ ts) rest n e = absurd cc
closes R d s (Mark mark.Comma ∷ ts) rest n e = absurd cc
closes R d s (Mark mark.Colon ∷ ts) rest n e = absurd cc
closes R d s (Mark mark.Equals ∷ ts) rest n e = absurd cc
closes R d s (Mark mark.Dot ∷ ts) rest n e = absurd cc
closes R d s (Word w ∷ ts) rest n e = absurd cc
closes R d s (Int w ∷ ts) rest n e = absurd cc
closes R d s (Sized w v ∷ ts) rest n e = absurd cc
closes R d s (Operator w ∷ ts) rest n e = absurd cc

pub refuses : (d : ℕ) → Sound Grouped d (r.opened r.refuse)
refuses d [] rest n e = absurd cc
refuses d (Mark mark.OpenRound ∷ ts) rest n e = absurd cc
refuses d (Mark mark.CloseRound ∷ ts) rest n e = absurd cc
refuses d (Mark mark.OpenSquare ∷ ts) rest n e = absurd cc
refuses d (Mark mark.CloseSquare ∷ ts) rest n e = absurd cc
refuses d (Mark mark.Comma ∷ ts) rest n e = absurd cc
refuses d (Mark mark.Colon ∷ ts) rest n e = absurd cc
refuses d (Mark mark.Equals ∷ ts) rest n e = absurd cc
refuses d (Mark mark.Dot ∷ ts) rest n e = absurd cc
refuses d (Word w ∷ ts) rest n e = absurd cc
refuses d (Int w ∷ ts) rest n e = absurd cc
refuses d (Sized w v ∷ ts) rest n e = absurd cc
refuses d (Operator w ∷ ts) rest n e = absurd cc

module _ (R : Read Num) (d : ℕ) (opens : Sound Grouped d (r.opened R)) where
  bare_front : (t : Token) (ts rest : Tokens) (m n : Num) → Spells Atom (t ∷ []) m → ((o : ℕ) → most_open o (t ∷ []) ≤ o) → got m ts ≡ got n rest → Front (Spells Atom) d (t ∷ ts) n rest
  bare_front t ts rest m n s w e = moved (Spells Atom) d (t ∷ ts) ts rest m n e (record { front = t ∷ []; parts = refl; holds = s; even = balanced s; within = λ o. let l : most_open o (t ∷ []) ≤ o = w o in omega arith })

  group_front : (ts rest : Tokens) (n : Num) → r.opened R ts ≡ Some (n, rest) → Front (Spells Atom) d ts n rest
  group_front ts rest n e =
      let f = opens ts rest n e in
      record { front = f.front; parts = f.parts; holds = subst (λ x. Spells Atom x n) (sym f.holds.1) (g.group f.holds.2); even = f.even; within = f.within }

  bits_front : (w : Text) (ts rest : Tokens) (n : Num) → w ≡ codes "bits" → r.bits R ts ≡ Some (n, rest) → Front (Spells Atom) d (Word w ∷ ts) n rest
  bits_front w ts rest n is e =
      let s = go_on-some (r.opened R ts) (λ m left. Some (num.Bits m, left)) (n, rest) e in
      let f = opens ts s.0.1 s.0.0 s.1 in
      moved (Spells Atom) d (Word w ∷ ts) s.0.1 rest (num.Bits s.0.0) n s.2 (record {
        front = Word w ∷ f.front;
        parts = ap (λ x. Word w ∷ x) f.parts;
        holds = subst (λ x. Spells Atom (Word w ∷ x) (num.Bits s.0.0)) (sym f.holds.1) (subst (λ x. Spells Atom (Word x ∷ in_round f.holds.0) (num.Bits s.0.0)) (sym is) (g.bits f.holds.2));
        even = f.even;
        within = λ o. let l : most_open o f.front ≤ o + d = f.within o in omega arith;
      })

  word_front : (is_one is_bits : Bool) (w : Text) (ts rest : Tokens) (n : Num) → is_name w ≡ is_one → same_bytes w (codes "bits") ≡ is_bits → r.word_by R is_one is_bits w ts ≡ Some (n, rest) → Front (Spells Atom) d (Word w ∷ ts) n rest
  word_front true is_bits w ts rest n h k e = bare_front (Word w) ts rest (num.Name w) n (g.name w h) (λ o. omega arith) e
  word_front false true w ts rest n h k e = bits_front w ts rest n (same_bytes-equal w (codes "bits") k) e
  word_front false false w ts rest n h k e = absurd cc

  pub atom-sound : Sound (Spells Atom) d (r.atom R)
  atom-sound [] rest n e = absurd cc
  atom-sound (Int z ∷ ts) rest n e = bare_front (Int z) ts rest (num.Int z) n (g.literal z) (λ o. omega arith) e
  atom-sound (Word w ∷ ts) rest n e = word_front (is_name w) (same_bytes w (codes "bits")) w ts rest n refl refl e
  atom-sound (Mark m ∷ ts) rest n e = group_front (Mark m ∷ ts) rest n e
  atom-sound (Sized w v ∷ ts) rest n e = absurd cc
  atom-sound (Operator w ∷ ts) rest n e = absurd cc

  unsigned_front : (ts rest : Tokens) (n : Num) → r.atom R ts ≡ Some (n, rest) → Front (Spells Signed) d ts n rest
  unsigned_front ts rest n e = let f = atom-sound ts rest n e in record { front = f.front; parts = f.parts; holds = g.unsigned f.holds; even = f.even; within = f.within }

  negative_front : (ts rest : Tokens) (n : Num) → r.negative R ts ≡ Some (n, rest) → Front (Spells Signed) d (Operator num_op.Sub ∷ ts) n rest
  negative_front ts rest n e =
      let s = go_on-some (r.atom R ts) (λ m left. Some (num.Neg m, left)) (n, rest) e in
      let f = atom-sound ts s.0.1 s.0.0 s.1 in
      moved (Spells Signed) d (Operator num_op.Sub ∷ ts) s.0.1 rest (num.Neg s.0.0) n s.2 (record { front = Operator num_op.Sub ∷ f.front; parts = ap (λ x. Operator num_op.Sub ∷ x) f.parts; holds = g.negated f.holds; even = f.even; within = λ o. let l : most_open o f.front ≤ o + d = f.within o in omega arith })

  signed-sound : Sound (Spells Signed) d (r.signed R)
  signed-sound [] rest n e = absurd cc
  signed-sound (Operator num_op.Sub ∷ ts) rest n e = negative_front ts rest n e
  signed-sound (Operator num_op.Add ∷ ts) rest n e = absurd cc
  signed-sound (Operator num_op.Mul ∷ ts) rest n e = absurd cc
  signed-sound (Operator num_op.Div ∷ ts) rest n e = absurd cc
  signed-sound (Operator num_op.Rem ∷ ts) rest n e = absurd cc
  signed-sound (Operator num_op.Eq ∷ ts) rest n e = absurd cc
  signed-sound (Operator num_op.Ne ∷ ts) rest n e = absurd cc
  signed-sound (Operator num_op.Lt ∷ ts) rest n e = absurd cc
  signed-sound (Operator num_op.Le ∷ ts) rest n e = absurd cc
  signed-sound (Operator num_op.Gt ∷ ts) rest n e = absurd cc
  signed-sound (Operator num_op.Ge ∷ ts) rest n e = absurd cc
  signed-sound (Word w ∷ ts) rest n e = unsigned_front (Word w ∷ ts) rest n e
  signed-sound (Int w ∷ ts) rest n e = unsigned_front (Int w ∷ ts) rest n e
  signed-sound (Sized w v ∷ ts) rest n e = unsigned_front (Sized w v ∷ ts) rest n e
  signed-sound (Mark w ∷ ts) rest n e = unsigned_front (Mark w ∷ ts) rest n e

  -- a product of at most 32 operators
  abbrev Products : Tokens → Num → Type 0
  Products ts n = (k : ℕ) × (k ≤ 32) × Spells (Product k) ts n

  abbrev Sums : Tokens → Num → Type 0
  Sums ts n = (k : ℕ) × (k ≤ 32) × Spells (Sum k) ts n

  product-sound : Sound Products d (r.product R)
  unfolding r.product Chained
  product-sound ts rest n e =
      let s = go_on-some (r.signed R ts) (λ a left. chain is_of_product (r.signed R) 32 a left) (n, rest) e in
      let f = signed-sound ts s.0.1 s.0.0 s.1 in
      let c = chain-sound is_of_product (r.signed R) d (λ k xs m. Spells (Product k) xs m) (Spells Signed) signed-sound (λ k o xs ys a b h x y. g.product o h x y) (λ k xs m h. balanced h) 32 0 s.0.0 n ts s.0.1 rest refl (record { front = f.front; parts = f.parts; holds = g.factor f.holds; even = f.even; within = f.within }) s.2 in
      record { front = c.2.front; parts = c.2.parts; holds = (c.0, c.1, c.2.holds); even = c.2.even; within = c.2.within }

  sum-sound : Sound Sums d (r.sum R)
  unfolding r.sum Chained
  sum-sound ts rest n e =
      let s = go_on-some (r.product R ts) (λ a left. chain is_of_sum (r.product R) 32 a left) (n, rest) e in
      let f = product-sound ts s.0.1 s.0.0 s.1 in
      let c = chain-sound is_of_sum (r.product R) d (λ k xs m. Spells (Sum k) xs m) Products product-sound (λ k o xs ys a b h x y. g.sum o h y.1 x y.2) (λ k xs m h. balanced h) 32 0 s.0.0 n ts s.0.1 rest refl (record { front = f.front; parts = f.parts; holds = g.term f.holds.1 f.holds.2; even = f.even; within = f.within }) s.2 in
      record { front = c.2.front; parts = c.2.parts; holds = (c.0, c.1, c.2.holds); even = c.2.even; within = c.2.within }

  compared : (ts rest left : Tokens) (a n : Num) (q : Option (NumOp × Tokens)) → next is_comparison rest ≡ q → Front Sums d ts a rest → choose q (got a rest) (λ p. go_on (r.sum R p.1) (λ b more. Some (num.Two p.0 a b, more))) ≡ got n left → Front (Spells Whole) d ts n left
  compared ts rest left a n None is f e = moved (Spells Whole) d ts rest left a n e (record { front = f.front; parts = f.parts; holds = g.plain f.holds.1 f.holds.2; even = f.even; within = f.within })
  compared ts rest left a n (Some q) is f e =
      let s = go_on-some (r.sum R q.1) (λ b more. Some (num.Two q.0 a b, more)) (n, left) e in
      let op = next-some is_comparison rest q is in
      moved (Spells Whole) d ts s.0.1 left (num.Two q.0 a s.0.0) n s.2 (joined Sums Sums (Spells Whole) d ts rest q.1 s.0.1 a s.0.0 q.0 (λ xs ys x y. g.comparison q.0 op.1 x.1 y.1 x.2 y.2) (λ xs h. balanced h) op.0 f (sum-sound q.1 s.0.1 s.0.0 s.1))

  whole-sound : Sound (Spells Whole) d (r.whole R)
  unfolding r.whole
  whole-sound ts rest n e =
      let s = go_on-some (r.sum R ts) (r.comparison R) (n, rest) e in
      compared ts s.0.1 rest s.0.0 n (next is_comparison s.0.1) refl (sum-sound ts s.0.1 s.0.0 s.1) s.2

-- what is read as a number is spelled so, with at most d brackets open
pub number-sound : (d : ℕ) → Sound (Spells Whole) d (r.number_at d)
number-sound zero = whole-sound r.refuse 0 (refuses 0)
number-sound (suc d) = whole-sound (inside (suc d)) (suc d) (closes (r.number_at d) d (number-sound d))

pub append-nil : (ts : Tokens) → ts ++ [] ≡ ts
append-nil [] = refl
append-nil (t ∷ ts) = ap (λ x. t ∷ x) (append-nil ts)

-- tokens that are read to their end spell the number
pub number-spelled : (ts : Tokens) (n : Num) (d : ℕ) → r.number_at d ts ≡ Some (n, []) → Spells Whole ts n × (most_open 0 ts ≤ d)
number-spelled ts n d e =
    let f = number-sound d ts [] n e in
    let is : ts ≡ f.front = f.parts ∙ append-nil f.front in
    (subst (λ x. Spells Whole x n) (sym is) f.holds, subst (λ x. most_open 0 x ≤ d) (sym is) (omega (arith, f.within 0)))
