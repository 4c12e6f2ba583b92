-- What is read as a signal is spelled so.
use Rattle.std.proofs.Common.{◌≡◌, ℕ, zero, suc, Bool, true, false, cond, nat_eq, nat_le, List, [], ◌∷◌, ◌++◌, length, Option, Some, None, codes, refl, sym, ◌∙◌, ap, subst, arith, append_assoc}
use Rattle.std.proofs.lemmas.Bool.Decides.{nat_tests}
use Rattle.hc_tokens.specs.declared.token.Token.TheVariants.{Word, Int, Sized, Operator, Mark}
use Rattle.hc_tokens.specs.declared.token.Mark.TheVariants as mark
use Rattle.hc_sigtext.specs.declared.tree.CallWord.{CallWord}
use Rattle.hc_sigtext.specs.declared.tree.CallWord.TheVariants as word
use Rattle.hc_tokens.specs.declared.tree.Num.{Num}
use Rattle.hc_sigtext.specs.declared.tree.IdentText.{IdentText}
use Rattle.hc_sigtext.specs.declared.tree.Sig.{Sig}
use Rattle.hc_sigtext.specs.declared.tree.Sig.TheVariants as sig
use Rattle.hc_sigtext.specs.declared.reading.Head.{Head}
use Rattle.hc_sigtext.specs.declared.reading.Head.TheVariants as head
use Rattle.hc_sigtext.specs.declared.reading.Shape.{Shape}
use Rattle.hc_sigtext.specs.declared.reading.Shape.TheVariants as shape
use Rattle.hc_tokens.specs.Tokens.{same_bytes}
use Rattle.hc_tokens.specs.Words.{is_name}
use Rattle.hc_sigtext.specs.CallWords.{spelling}
use Rattle.hc_tokens.specs.Grammar as nums
use Rattle.hc_tokens.specs.Grammar.{Spells, Whole}
use Rattle.hc_sigtext.specs.Grammar as g
use Rattle.hc_sigtext.specs.Grammar.{Text, Tokens, IsNum, IsName, IsIdent, IsSig, AreSigs, AreParts, AreNums, Takes, most_open, in_round}
use Rattle.hc_tokens.specs.Reading.{Read, go_on, choose, inside, number_at}
use Rattle.hc_sigtext.specs.SigReading as r
use Rattle.hc_sigtext.specs.SigReading.{bind, past_comma, past_round, past_square, ident_at, signal_at, body_at, bodies_at, more_sigs, sig_list, shape_of, takes_sigs}
use Rattle.hc_tokens.proofs.NumbersSound.{number-sound, same_bytes-equal}
use Rattle.hc_sigtext.proofs.SigFound.{TakesShape, from_sigs, sig_list-from}
use Rattle.hc_sigtext.proofs.Fronts.{Front, Sound, Neutral, of_number, led, joined, ended, rounded, squared, mapped, alone, moved, got, go_on-some, bind-some, cond-some, some-first, some-second}

-- ---- marks

abbrev tail_or : Tokens → Option Tokens → Tokens
tail_or ts None = ts
tail_or ts (Some us) = us

pub comma-some : (ts rest : Tokens) → past_comma ts ≡ Some rest → ts ≡ Mark mark.Comma ∷ rest
comma-some [] rest e = absurd cc
comma-some (Word w ∷ ts) rest e = absurd cc
comma-some (Int w ∷ ts) rest e = absurd cc
comma-some (Sized w v ∷ ts) rest e = absurd cc
comma-some (Operator w ∷ ts) rest e = absurd cc
comma-some (Mark mark.OpenRound ∷ ts) rest e = absurd cc
comma-some (Mark mark.CloseRound ∷ ts) rest e = absurd cc
comma-some (Mark mark.OpenSquare ∷ ts) rest e = absurd cc
comma-some (Mark mark.CloseSquare ∷ ts) rest e = absurd cc
comma-some (Mark mark.Comma ∷ ts) rest e = ap (λ x. Mark mark.Comma ∷ tail_or ts x) e
comma-some (Mark mark.Colon ∷ ts) rest e = absurd cc
comma-some (Mark mark.Equals ∷ ts) rest e = absurd cc
comma-some (Mark mark.Dot ∷ ts) rest e = absurd cc

pub round-some : (ts rest : Tokens) → past_round ts ≡ Some rest → ts ≡ Mark mark.CloseRound ∷ rest
round-some [] rest e = absurd cc
round-some (Word w ∷ ts) rest e = absurd cc
round-some (Int w ∷ ts) rest e = absurd cc
round-some (Sized w v ∷ ts) rest e = absurd cc
round-some (Operator w ∷ ts) rest e = absurd cc
round-some (Mark mark.OpenRound ∷ ts) rest e = absurd cc
round-some (Mark mark.CloseRound ∷ ts) rest e = ap (λ x. Mark mark.CloseRound ∷ tail_or ts x) e
round-some (Mark mark.OpenSquare ∷ ts) rest e = absurd cc
round-some (Mark mark.CloseSquare ∷ ts) rest e = absurd cc
round-some (Mark mark.Comma ∷ ts) rest e = absurd cc
round-some (Mark mark.Colon ∷ ts) rest e = absurd cc
round-some (Mark mark.Equals ∷ ts) rest e = absurd cc
round-some (Mark mark.Dot ∷ ts) rest e = absurd cc

pub square-some : (ts rest : Tokens) → past_square ts ≡ Some rest → ts ≡ Mark mark.CloseSquare ∷ rest
square-some [] rest e = absurd cc
square-some (Word w ∷ ts) rest e = absurd cc
square-some (Int w ∷ ts) rest e = absurd cc
square-some (Sized w v ∷ ts) rest e = absurd cc
square-some (Operator w ∷ ts) rest e = absurd cc
square-some (Mark mark.OpenRound ∷ ts) rest e = absurd cc
square-some (Mark mark.CloseRound ∷ ts) rest e = absurd cc
square-some (Mark mark.OpenSquare ∷ ts) rest e = absurd cc
square-some (Mark mark.CloseSquare ∷ ts) rest e = ap (λ x. Mark mark.CloseSquare ∷ tail_or ts x) e
square-some (Mark mark.Comma ∷ ts) rest e = absurd cc
square-some (Mark mark.Colon ∷ ts) rest e = absurd cc
square-some (Mark mark.Equals ∷ ts) rest e = absurd cc
square-some (Mark mark.Dot ∷ ts) rest e = absurd cc

pub comma_neutral : Neutral (Mark mark.Comma ∷ [])
comma_neutral o = (refl, omega arith)

pub word_neutral : (w : Text) → Neutral (Word w ∷ [])
word_neutral w o = (refl, omega arith)

-- ---- idents

module _ (d : ℕ) (w : Text) (named : IsName w) where
  bare_front : (ts rest : Tokens) (i : IdentText) → got (r.bare w) ts ≡ got i rest → Front IsIdent d (Word w ∷ ts) i rest
  bare_front ts rest i e = moved IsIdent d (Word w ∷ ts) ts rest (r.bare w) i e (alone IsIdent (Word w ∷ []) (word_neutral w) d (Word w ∷ ts) ts (r.bare w) refl (g.bare w named))

abbrev Squared : Text → Tokens → IdentText → Type 0
Squared w xs i = IsIdent (Word w ∷ xs) i

index_sound : (d : ℕ) (w : Text) → IsName w → (ts rest : Tokens) (i : IdentText) → go_on (inside d ts) (r.index_end w) ≡ Some (i, rest) → Front IsIdent d (Word w ∷ Mark mark.OpenSquare ∷ ts) i rest
index_sound zero w named ts rest i e = absurd cc
index_sound (suc d) w named ts rest i e =
    let s = go_on-some (number_at d ts) (r.index_end w) (i, rest) e in
    let c = bind-some (past_square s.0.1) (λ left. Some (record { name = w; index = Some s.0.0 }, left)) (i, rest) s.2 in
    let i_is : record { name = w; index = Some s.0.0 } ≡ i = some-first (record { name = w; index = Some s.0.0 }) i c.0 rest c.2 in
    let rest_is : c.0 ≡ rest = some-second (record { name = w; index = Some s.0.0 }) i c.0 rest c.2 in
    let number : Front IsNum d ts s.0.0 s.0.1 = of_number IsNum d ts s.0.1 s.0.0 (number-sound d ts s.0.1 s.0.0 s.1) in
    let closed : Front IsNum d ts s.0.0 (Mark mark.CloseSquare ∷ rest) = subst (λ x. Front IsNum d ts s.0.0 x) (square-some s.0.1 c.0 c.1 ∙ ap (λ x. Mark mark.CloseSquare ∷ x) rest_is) number in
    let inner : Front (Squared w) (suc d) (Mark mark.OpenSquare ∷ ts) i rest = squared IsNum IsNum (Squared w) d (Mark mark.OpenSquare ∷ ts) ts rest s.0.0 i refl (λ xs h. subst (λ x. IsIdent (Word w ∷ Mark mark.OpenSquare ∷ (xs ++ (Mark mark.CloseSquare ∷ []))) x) i_is (g.indexed w named h)) closed in
    led IsNum (Squared w) IsIdent (Word w ∷ []) (word_neutral w) (suc d) (Word w ∷ Mark mark.OpenSquare ∷ ts) (Mark mark.OpenSquare ∷ ts) rest i i refl (λ ys h. h) inner

ident_by_sound : (d : ℕ) (w : Text) → IsName w → (ts rest : Tokens) (i : IdentText) → r.ident_by (inside d) w ts ≡ Some (i, rest) → Front IsIdent d (Word w ∷ ts) i rest
ident_by_sound d w named [] rest i e = bare_front d w named [] rest i e
ident_by_sound d w named (Word v ∷ ts) rest i e = bare_front d w named (Word v ∷ ts) rest i e
ident_by_sound d w named (Int v ∷ ts) rest i e = bare_front d w named (Int v ∷ ts) rest i e
ident_by_sound d w named (Sized v u ∷ ts) rest i e = bare_front d w named (Sized v u ∷ ts) rest i e
ident_by_sound d w named (Operator v ∷ ts) rest i e = bare_front d w named (Operator v ∷ ts) rest i e
ident_by_sound d w named (Mark mark.OpenRound ∷ ts) rest i e = bare_front d w named (Mark mark.OpenRound ∷ ts) rest i e
ident_by_sound d w named (Mark mark.CloseRound ∷ ts) rest i e = bare_front d w named (Mark mark.CloseRound ∷ ts) rest i e
ident_by_sound d w named (Mark mark.OpenSquare ∷ ts) rest i e = index_sound d w named ts rest i e
ident_by_sound d w named (Mark mark.CloseSquare ∷ ts) rest i e = bare_front d w named (Mark mark.CloseSquare ∷ ts) rest i e
ident_by_sound d w named (Mark mark.Comma ∷ ts) rest i e = bare_front d w named (Mark mark.Comma ∷ ts) rest i e
ident_by_sound d w named (Mark mark.Colon ∷ ts) rest i e = bare_front d w named (Mark mark.Colon ∷ ts) rest i e
ident_by_sound d w named (Mark mark.Equals ∷ ts) rest i e = bare_front d w named (Mark mark.Equals ∷ ts) rest i e
ident_by_sound d w named (Mark mark.Dot ∷ ts) rest i e = bare_front d w named (Mark mark.Dot ∷ ts) rest i e

pub ident_sound : (d : ℕ) → Sound IsIdent d (ident_at d)
ident_sound d [] rest i e = absurd cc
ident_sound d (Word w ∷ ts) rest i e = let s = cond-some (is_name w) (r.ident_by (inside d) w ts) (i, rest) e in ident_by_sound d w s.0 ts rest i s.1
ident_sound d (Int w ∷ ts) rest i e = absurd cc
ident_sound d (Sized w v ∷ ts) rest i e = absurd cc
ident_sound d (Operator w ∷ ts) rest i e = absurd cc
ident_sound d (Mark w ∷ ts) rest i e = absurd cc

-- ---- heads

abbrev head_tokens : Head → Tokens
head_tokens (head.Call w) = Word (spelling w) ∷ []
head_tokens head.Read = Word (codes "read") ∷ []
head_tokens (head.Op k) = Word (codes "op") ∷ Mark mark.Dot ∷ Word k ∷ []

abbrev NamedHead : Head → Type 0
NamedHead (head.Call w) = Unit {0}
NamedHead head.Read = Unit {0}
NamedHead (head.Op k) = IsName k

head_neutral : (h : Head) → Neutral (head_tokens h)
head_neutral (head.Call w) o = (refl, omega arith)
head_neutral head.Read o = (refl, omega arith)
head_neutral (head.Op k) o = (refl, omega arith)

abbrev word_or : CallWord → Option CallWord → CallWord
word_or c None = c
word_or c (Some x) = x

among-step : (b : Bool) (w : Text) (x c : CallWord) (rest : Option CallWord) → same_bytes w (spelling x) ≡ b → (rest ≡ Some c → w ≡ spelling c) → cond b (Some x) rest ≡ Some c → w ≡ spelling c
among-step true w x c rest e h f = same_bytes-equal w (spelling x) e ∙ ap (λ y. spelling (word_or x y)) f
among-step false w x c rest e h f = h f

among-some : (w : Text) (cs : List CallWord) (c : CallWord) → r.word_among w cs ≡ Some c → w ≡ spelling c
among-some w [] c e = absurd cc
among-some w (x ∷ cs) c e = among-step (same_bytes w (spelling x)) w x c (r.word_among w cs) refl (among-some w cs c) e

word_of-some : (w : Text) (c : CallWord) → r.word_of w ≡ Some c → w ≡ spelling c
unfolding r.word_of
word_of-some w c e = among-some w r.words c e

-- a head and the tokens that it took
abbrev HeadTook : Text → Tokens → Head → Tokens → Type 0
HeadTook w ts h rest = (Word w ∷ ts ≡ head_tokens h ++ rest) × NamedHead h

moved_head : (w : Text) (ts left rest : Tokens) (g h : Head) → got g left ≡ got h rest → HeadTook w ts g left → HeadTook w ts h rest
moved_head w ts left rest g h e f = subst (λ x. HeadTook w ts x rest) (some-first g h left rest e) (subst (λ x. HeadTook w ts g x) (some-second g h left rest e) f)

op_name-some : (w : Text) (ts rest : Tokens) (h : Head) → w ≡ codes "op" → r.op_name ts ≡ Some (h, rest) → HeadTook w (Mark mark.Dot ∷ ts) h rest
op_name-some w [] rest h is e = absurd cc
op_name-some w (Word k ∷ ts) rest h is e = let s = cond-some (is_name k) (got (head.Op k) ts) (h, rest) e in moved_head w (Mark mark.Dot ∷ Word k ∷ ts) ts rest (head.Op k) h s.1 (ap (λ x. Word x ∷ Mark mark.Dot ∷ Word k ∷ ts) is, s.0)
op_name-some w (Int k ∷ ts) rest h is e = absurd cc
op_name-some w (Sized k v ∷ ts) rest h is e = absurd cc
op_name-some w (Operator k ∷ ts) rest h is e = absurd cc
op_name-some w (Mark k ∷ ts) rest h is e = absurd cc

op_head-some : (w : Text) (ts rest : Tokens) (h : Head) → w ≡ codes "op" → r.op_head ts ≡ Some (h, rest) → HeadTook w ts h rest
op_head-some w [] rest h is e = absurd cc
op_head-some w (Word u ∷ ts) rest h is e = absurd cc
op_head-some w (Int u ∷ ts) rest h is e = absurd cc
op_head-some w (Sized u v ∷ ts) rest h is e = absurd cc
op_head-some w (Operator u ∷ ts) rest h is e = absurd cc
op_head-some w (Mark mark.OpenRound ∷ ts) rest h is e = absurd cc
op_head-some w (Mark mark.CloseRound ∷ ts) rest h is e = absurd cc
op_head-some w (Mark mark.OpenSquare ∷ ts) rest h is e = absurd cc
op_head-some w (Mark mark.CloseSquare ∷ ts) rest h is e = absurd cc
op_head-some w (Mark mark.Comma ∷ ts) rest h is e = absurd cc
op_head-some w (Mark mark.Colon ∷ ts) rest h is e = absurd cc
op_head-some w (Mark mark.Equals ∷ ts) rest h is e = absurd cc
op_head-some w (Mark mark.Dot ∷ ts) rest h is e = op_name-some w ts rest h is e

head_by-some : (c : Option CallWord) (is_read is_op : Bool) (w : Text) (ts rest : Tokens) (h : Head) → r.word_of w ≡ c → same_bytes w (codes "read") ≡ is_read → same_bytes w (codes "op") ≡ is_op → r.head_by c is_read is_op ts ≡ Some (h, rest) → HeadTook w ts h rest
head_by-some (Some c) is_read is_op w ts rest h p q s e = moved_head w ts ts rest (head.Call c) h e (ap (λ x. Word x ∷ ts) (word_of-some w c p), tt)
head_by-some None true is_op w ts rest h p q s e = moved_head w ts ts rest head.Read h e (ap (λ x. Word x ∷ ts) (same_bytes-equal w (codes "read") q), tt)
head_by-some None false true w ts rest h p q s e = op_head-some w ts rest h (same_bytes-equal w (codes "op") s) e
head_by-some None false false w ts rest h p q s e = absurd cc

head_of-some : (w : Text) (ts rest : Tokens) (h : Head) → r.head_of w ts ≡ Some (h, rest) → HeadTook w ts h rest
head_of-some w ts rest h e = head_by-some (r.word_of w) (same_bytes w (codes "read")) (same_bytes w (codes "op")) w ts rest h refl refl refl e

-- ---- lists of signals

abbrev Listed : ℕ → Tokens → List Sig → List Sig → Tokens → Type 0
Listed d ts acc out rest = (ss : List Sig) × (out ≡ acc ++ ss) × Front AreSigs d ts ss rest

module _ (S : Read Sig) (d : ℕ) (sound : Sound IsSig d S) where
  list_end : (acc out : List Sig) (s : Sig) (ts mid rest : Tokens) → Front IsSig d ts s mid → got (acc ++ s ∷ []) mid ≡ got out rest → Listed d ts acc out rest
  list_end acc out s ts mid rest f e = (s ∷ [], sym (some-first (acc ++ s ∷ []) out mid rest e), subst (λ x. Front AreSigs d ts (s ∷ []) x) (some-second (acc ++ s ∷ []) out mid rest e) (mapped IsSig AreSigs d ts mid s (s ∷ []) (λ xs h. g.last_sig h) f))

  list_zero : (acc out : List Sig) (s : Sig) (ts mid rest : Tokens) (q : Option Tokens) → Front IsSig d ts s mid → choose q (got (acc ++ s ∷ []) mid) (λ x. None) ≡ got out rest → Listed d ts acc out rest
  list_zero acc out s ts mid rest None f e = list_end acc out s ts mid rest f e
  list_zero acc out s ts mid rest (Some q) f e = absurd cc

  list_more : (k : ℕ) (acc out : List Sig) (s : Sig) (ts mid rest : Tokens) (q : Option Tokens) → past_comma mid ≡ q → Front IsSig d ts s mid → ((us : Tokens) → from_sigs S k (acc ++ s ∷ []) us ≡ Some (out, rest) → Listed d us (acc ++ s ∷ []) out rest) → choose q (got (acc ++ s ∷ []) mid) (λ x. from_sigs S k (acc ++ s ∷ []) x) ≡ got out rest → Listed d ts acc out rest
  list_more k acc out s ts mid rest None is f again e = list_end acc out s ts mid rest f e
  list_more k acc out s ts mid rest (Some q) is f again e =
      let l = again q e in
      (s ∷ l.0, l.1 ∙ append_assoc acc (s ∷ []) l.0, joined IsSig AreSigs AreSigs (Mark mark.Comma ∷ []) comma_neutral d ts mid q rest s l.0 (s ∷ l.0) (comma-some mid q is) (λ xs ys h k. g.comma_sig h k) f l.2)

  from_sound : (k : ℕ) (acc out : List Sig) (ts rest : Tokens) → from_sigs S k acc ts ≡ Some (out, rest) → Listed d ts acc out rest
  unfolding more_sigs
  from_sound zero acc out ts rest e =
      let s = go_on-some (S ts) (λ s left. more_sigs S zero (acc ++ s ∷ []) left) (out, rest) e in
      list_zero acc out s.0.0 ts s.0.1 rest (past_comma s.0.1) (sound ts s.0.1 s.0.0 s.1) s.2
  from_sound (suc k) acc out ts rest e =
      let s = go_on-some (S ts) (λ s left. more_sigs S (suc k) (acc ++ s ∷ []) left) (out, rest) e in
      list_more k acc out s.0.0 ts s.0.1 rest (past_comma s.0.1) refl (sound ts s.0.1 s.0.0 s.1) (λ us f. from_sound k (acc ++ s.0.0 ∷ []) out us rest f) s.2

  sig_list_sound : Sound AreSigs d (sig_list S)
  sig_list_sound ts rest ss e = let l = from_sound (length ts) [] ss ts rest (sym (sig_list-from S ts) ∙ e) in subst (λ x. Front AreSigs d ts x rest) (sym l.1) l.2

-- ---- lists of numbers

abbrev Nums : ℕ → Tokens → List Num → Type 0
Nums k ts ns = AreNums ts ns × (length ns ≡ k)

num_front : (d : ℕ) → Sound IsNum d (number_at d)
num_front d ts rest n e = of_number IsNum d ts rest n (number-sound d ts rest n e)

one_num_sound : (d : ℕ) → Sound (Nums 1) d (r.one_num (number_at d))
one_num_sound d ts rest ns e =
    let s = go_on-some (number_at d ts) (λ n left. Some (n ∷ [], left)) (ns, rest) e in
    moved (Nums 1) d ts s.0.1 rest (s.0.0 ∷ []) ns s.2 (mapped IsNum (Nums 1) d ts s.0.1 s.0.0 (s.0.0 ∷ []) (λ xs h. (nums.last h, refl)) (num_front d ts s.0.1 s.0.0 s.1))

two_nums_sound : (d : ℕ) → Sound (Nums 2) d (r.two_nums (number_at d))
two_nums_sound d ts rest ns e =
    let s = go_on-some (number_at d ts) (λ a left. bind (past_comma left) (r.second_num (number_at d) a)) (ns, rest) e in
    let c = bind-some (past_comma s.0.1) (r.second_num (number_at d) s.0.0) (ns, rest) s.2 in
    let t = go_on-some (number_at d c.0) (λ b left. Some (s.0.0 ∷ b ∷ [], left)) (ns, rest) c.2 in
    moved (Nums 2) d ts t.0.1 rest (s.0.0 ∷ t.0.0 ∷ []) ns t.2 (joined IsNum IsNum (Nums 2) (Mark mark.Comma ∷ []) comma_neutral d ts s.0.1 c.0 t.0.1 s.0.0 t.0.0 (s.0.0 ∷ t.0.0 ∷ []) (comma-some s.0.1 c.0 c.1) (λ xs ys h k. (nums.comma h (nums.last k), refl)) (num_front d ts s.0.1 s.0.0 s.1) (num_front d c.0 t.0.1 t.0.0 t.1))

-- ---- calls

is_count : (s k : ℕ) → nat_eq s k ≡ true → s ≡ k
is_count s k e = grind (arith, nat_tests)

shape_takes : (w : CallWord) (s n : ℕ) → TakesShape (shape_of w) w s n → Takes w s n
shape_takes word.Const s n h = h
shape_takes word.Add s n h = (is_count s 2 h.0, h.1)
shape_takes word.Sub s n h = (is_count s 2 h.0, h.1)
shape_takes word.Mulu s n h = (is_count s 2 h.0, h.1)
shape_takes word.Muls s n h = (is_count s 2 h.0, h.1)
shape_takes word.And s n h = (is_count s 2 h.0, h.1)
shape_takes word.Or s n h = (is_count s 2 h.0, h.1)
shape_takes word.Xor s n h = (is_count s 2 h.0, h.1)
shape_takes word.Eq s n h = (is_count s 2 h.0, h.1)
shape_takes word.Lt s n h = (is_count s 2 h.0, h.1)
shape_takes word.Not s n h = (is_count s 1 h.0, h.1)
shape_takes word.Mux s n h = ((let l : nat_le 3 s ≡ true = h.0 in grind (arith, nat_tests)), h.1)
shape_takes word.Cat s n h = ((let l : nat_le 1 s ≡ true = h.0 in grind (arith, nat_tests)), h.1)
shape_takes word.Select s n h = h
shape_takes word.Ne s n h = (is_count s 2 h.0, h.1)
shape_takes word.Gt s n h = (is_count s 2 h.0, h.1)
shape_takes word.Le s n h = (is_count s 2 h.0, h.1)
shape_takes word.Ge s n h = (is_count s 2 h.0, h.1)
shape_takes word.Lts s n h = (is_count s 2 h.0, h.1)
shape_takes word.Mux2 s n h = (is_count s 3 h.0, h.1)
shape_takes word.Uresize s n h = h
shape_takes word.Sresize s n h = h
shape_takes word.Sll s n h = h
shape_takes word.Srl s n h = h
shape_takes word.Sra s n h = h
shape_takes word.Repeat s n h = h
shape_takes word.Msb s n h = (is_count s 1 h.0, h.1)
shape_takes word.Lsb s n h = (is_count s 1 h.0, h.1)

abbrev CallIs : CallWord → Tokens → Sig → Type 0
CallIs w ts s = IsSig (Word (spelling w) ∷ in_round ts) s

module _ (d : ℕ) (sound : Sound IsSig d (signal_at d)) where
  listed_sound : (w : CallWord) → ((s n : ℕ) → TakesShape shape.Sigs w s n → Takes w s n) → Sound (CallIs w) d (r.listed (signal_at d) w)
  listed_sound w back ts rest s e =
      let l = go_on-some (sig_list (signal_at d) ts) (r.listed_by (signal_at d) w) (s, rest) e in
      let c = cond-some (takes_sigs w (length l.0.0)) (got (sig.Call w l.0.0 []) l.0.1) (s, rest) l.2 in
      moved (CallIs w) d ts l.0.1 rest (sig.Call w l.0.0 []) s c.1 (mapped AreSigs (CallIs w) d ts l.0.1 l.0.0 (sig.Call w l.0.0 []) (λ xs h. g.call w (back (length l.0.0) 0 (c.0, refl)) (g.all_sigs h)) (sig_list_sound (signal_at d) d sound ts l.0.1 l.0.0 l.1))

  nums_sound : (w : CallWord) → ((s n : ℕ) → TakesShape shape.Nums w s n → Takes w s n) → Sound (CallIs w) d (λ ts. go_on (r.two_nums (number_at d) ts) (r.made w []))
  nums_sound w back ts rest s e =
      let l = go_on-some (r.two_nums (number_at d) ts) (r.made w []) (s, rest) e in
      moved (CallIs w) d ts l.0.1 rest (sig.Call w [] l.0.0) s l.2 (mapped (Nums 2) (CallIs w) d ts l.0.1 l.0.0 (sig.Call w [] l.0.0) (λ xs h. g.call w (back 0 (length l.0.0) (refl, h.1)) (g.all_nums h.0)) (two_nums_sound d ts l.0.1 l.0.0 l.1))

  with_nums : (k : ℕ) (w : CallWord) (nums : Read (List Num)) → Sound (Nums k) d nums → ((n : ℕ) → n ≡ k → Takes w 1 n) → Sound (CallIs w) d (λ ts. go_on (signal_at d ts) (λ s left. bind (past_comma left) (λ more. go_on (nums more) (r.made w (s ∷ [])))))
  with_nums k w nums ns_sound back ts rest s e =
      let p = go_on-some (signal_at d ts) (λ s left. bind (past_comma left) (λ more. go_on (nums more) (r.made w (s ∷ [])))) (s, rest) e in
      let c = bind-some (past_comma p.0.1) (λ more. go_on (nums more) (r.made w (p.0.0 ∷ []))) (s, rest) p.2 in
      let q = go_on-some (nums c.0) (r.made w (p.0.0 ∷ [])) (s, rest) c.2 in
      moved (CallIs w) d ts q.0.1 rest (sig.Call w (p.0.0 ∷ []) q.0.0) s q.2 (joined IsSig (Nums k) (CallIs w) (Mark mark.Comma ∷ []) comma_neutral d ts p.0.1 c.0 q.0.1 p.0.0 q.0.0 (sig.Call w (p.0.0 ∷ []) q.0.0) (comma-some p.0.1 c.0 c.1) (λ xs ys h j. g.call w (back (length q.0.0) j.1) (g.both (g.last_sig h) j.0)) (sound ts p.0.1 p.0.0 p.1) (ns_sound c.0 q.0.1 q.0.0 q.1))

  call_sound : (sh : Shape) (w : CallWord) → ((s n : ℕ) → TakesShape sh w s n → Takes w s n) → Sound (CallIs w) d (r.call (signal_at d) (number_at d) (ident_at d) sh w)
  unfolding r.call
  call_sound shape.Sigs w back ts rest s e = listed_sound w back ts rest s e
  call_sound shape.Nums w back ts rest s e = nums_sound w back ts rest s e
  call_sound shape.SigNum w back ts rest s e = with_nums 1 w (r.one_num (number_at d)) (one_num_sound d) (λ n is. back 1 n (refl, is)) ts rest s e
  call_sound shape.SigNums w back ts rest s e = with_nums 2 w (r.two_nums (number_at d)) (two_nums_sound d) (λ n is. back 1 n (refl, is)) ts rest s e

  -- what stands in the brackets after a head
  abbrev BodyIs : Head → Tokens → Sig → Type 0
  BodyIs h ts s = NamedHead h → IsSig (head_tokens h ++ in_round ts) s

  read_sound : Sound (BodyIs head.Read) d (r.memory_read (signal_at d) (number_at d) (ident_at d))
  unfolding r.memory_read
  read_sound ts rest s e =
      let p = go_on-some (ident_at d ts) (λ i left. bind (past_comma left) (λ more. go_on (signal_at d more) (λ a end. Some (sig.Read i a, end)))) (s, rest) e in
      let c = bind-some (past_comma p.0.1) (λ more. go_on (signal_at d more) (λ a end. Some (sig.Read p.0.0 a, end))) (s, rest) p.2 in
      let q = go_on-some (signal_at d c.0) (λ a end. Some (sig.Read p.0.0 a, end)) (s, rest) c.2 in
      moved (BodyIs head.Read) d ts q.0.1 rest (sig.Read p.0.0 q.0.0) s q.2 (joined IsIdent IsSig (BodyIs head.Read) (Mark mark.Comma ∷ []) comma_neutral d ts p.0.1 c.0 q.0.1 p.0.0 q.0.0 (sig.Read p.0.0 q.0.0) (comma-some p.0.1 c.0 c.1) (λ xs ys h j n. g.read h j) (ident_sound d ts p.0.1 p.0.0 p.1) (sound c.0 q.0.1 q.0.0 q.1))

  op_sound : (k : Text) → Sound (BodyIs (head.Op k)) d (r.operation (signal_at d) (number_at d) (ident_at d) k)
  op_sound k ts rest s e =
      let l = go_on-some (sig_list (signal_at d) ts) (λ ss left. Some (sig.Op k ss, left)) (s, rest) e in
      moved (BodyIs (head.Op k)) d ts l.0.1 rest (sig.Op k l.0.0) s l.2 (mapped AreSigs (BodyIs (head.Op k)) d ts l.0.1 l.0.0 (sig.Op k l.0.0) (λ xs h n. g.op k n h) (sig_list_sound (signal_at d) d sound ts l.0.1 l.0.0 l.1))

  body_sound : (h : Head) → Sound (BodyIs h) d (body_at d h)
  unfolding r.body
  body_sound (head.Call w) ts rest s e = mapped (CallIs w) (BodyIs (head.Call w)) d ts rest s s (λ xs h n. h) (call_sound (shape_of w) w (shape_takes w) ts rest s e)
  body_sound head.Read ts rest s e = read_sound ts rest s e
  body_sound (head.Op k) ts rest s e = op_sound k ts rest s e

-- ---- signals

abbrev BehindHead : Head → Tokens → Sig → Type 0
BehindHead h xs s = IsSig (head_tokens h ++ xs) s

abbrev BracketsSound : ℕ → Type 0
BracketsSound d = (h : Head) → NamedHead h → Sound (BehindHead h) d (r.bracketed (bodies_at d) (inside d) h)

round_sound : (d : ℕ) → Sound IsSig d (signal_at d) → (h : Head) → NamedHead h → (ts rest : Tokens) (s : Sig) → go_on (body_at d h ts) r.close_sig ≡ Some (s, rest) → Front (BehindHead h) (suc d) (Mark mark.OpenRound ∷ ts) s rest
round_sound d sound h named ts rest s e =
    let p = go_on-some (body_at d h ts) r.close_sig (s, rest) e in
    let c = bind-some (past_round p.0.1) (λ left. Some (p.0.0, left)) (s, rest) p.2 in
    let is : p.0.1 ≡ Mark mark.CloseRound ∷ rest = round-some p.0.1 c.0 c.1 ∙ ap (λ x. Mark mark.CloseRound ∷ x) (some-second p.0.0 s c.0 rest c.2) in
    let f : Front (BodyIs d sound h) d ts p.0.0 p.0.1 = body_sound d sound h ts p.0.1 p.0.0 p.1 in
    rounded (BodyIs d sound h) (BodyIs d sound h) (BehindHead h) d (Mark mark.OpenRound ∷ ts) ts rest p.0.0 s refl (λ xs k. subst (λ x. BehindHead h (in_round xs) x) (some-first p.0.0 s c.0 rest c.2) (k named)) (subst (λ x. Front (BodyIs d sound h) d ts p.0.0 x) is f)

bracketed_none : BracketsSound zero
bracketed_none h n [] rest s e = absurd cc
bracketed_none h n (Word w ∷ ts) rest s e = absurd cc
bracketed_none h n (Int w ∷ ts) rest s e = absurd cc
bracketed_none h n (Sized w v ∷ ts) rest s e = absurd cc
bracketed_none h n (Operator w ∷ ts) rest s e = absurd cc
bracketed_none h n (Mark mark.OpenRound ∷ ts) rest s e = absurd cc
bracketed_none h n (Mark mark.CloseRound ∷ ts) rest s e = absurd cc
bracketed_none h n (Mark mark.OpenSquare ∷ ts) rest s e = absurd cc
bracketed_none h n (Mark mark.CloseSquare ∷ ts) rest s e = absurd cc
bracketed_none h n (Mark mark.Comma ∷ ts) rest s e = absurd cc
bracketed_none h n (Mark mark.Colon ∷ ts) rest s e = absurd cc
bracketed_none h n (Mark mark.Equals ∷ ts) rest s e = absurd cc
bracketed_none h n (Mark mark.Dot ∷ ts) rest s e = absurd cc

bracketed_more : (d : ℕ) → Sound IsSig d (signal_at d) → BracketsSound (suc d)
bracketed_more d sound h n [] rest s e = absurd cc
bracketed_more d sound h n (Word w ∷ ts) rest s e = absurd cc
bracketed_more d sound h n (Int w ∷ ts) rest s e = absurd cc
bracketed_more d sound h n (Sized w v ∷ ts) rest s e = absurd cc
bracketed_more d sound h n (Operator w ∷ ts) rest s e = absurd cc
bracketed_more d sound h n (Mark mark.OpenRound ∷ ts) rest s e = round_sound d sound h n ts rest s e
bracketed_more d sound h n (Mark mark.CloseRound ∷ ts) rest s e = absurd cc
bracketed_more d sound h n (Mark mark.OpenSquare ∷ ts) rest s e = absurd cc
bracketed_more d sound h n (Mark mark.CloseSquare ∷ ts) rest s e = absurd cc
bracketed_more d sound h n (Mark mark.Comma ∷ ts) rest s e = absurd cc
bracketed_more d sound h n (Mark mark.Colon ∷ ts) rest s e = absurd cc
bracketed_more d sound h n (Mark mark.Equals ∷ ts) rest s e = absurd cc
bracketed_more d sound h n (Mark mark.Dot ∷ ts) rest s e = absurd cc

port_name_sound : (d : ℕ) (us : Tokens) (i : IdentText) (ts rest : Tokens) (s : Sig) → Front IsIdent d us i (Mark mark.Dot ∷ ts) → r.port_name i ts ≡ Some (s, rest) → Front IsSig d us s rest
port_name_sound d us i [] rest s f e = absurd cc
port_name_sound d us i (Word p ∷ ts) rest s f e =
    let c = cond-some (is_name p) (got (sig.Port i p) ts) (s, rest) e in
    moved IsSig d us ts rest (sig.Port i p) s c.1 (ended IsIdent IsIdent IsSig (Mark mark.Dot ∷ Word p ∷ []) (λ o. (refl, omega arith)) d us (Mark mark.Dot ∷ Word p ∷ ts) ts i (sig.Port i p) refl (λ xs h. g.port p c.0 h) f)
port_name_sound d us i (Int p ∷ ts) rest s f e = absurd cc
port_name_sound d us i (Sized p v ∷ ts) rest s f e = absurd cc
port_name_sound d us i (Operator p ∷ ts) rest s f e = absurd cc
port_name_sound d us i (Mark p ∷ ts) rest s f e = absurd cc

name_sound : (d : ℕ) (us : Tokens) (i : IdentText) (ts rest : Tokens) (s : Sig) → Front IsIdent d us i ts → got (sig.Name i) ts ≡ got s rest → Front IsSig d us s rest
name_sound d us i ts rest s f e = moved IsSig d us ts rest (sig.Name i) s e (mapped IsIdent IsSig d us ts i (sig.Name i) (λ xs h. g.ident h) f)

port_sound : (d : ℕ) (us : Tokens) (i : IdentText) (ts rest : Tokens) (s : Sig) → Front IsIdent d us i ts → r.port i ts ≡ Some (s, rest) → Front IsSig d us s rest
port_sound d us i [] rest s f e = name_sound d us i [] rest s f e
port_sound d us i (Word v ∷ ts) rest s f e = name_sound d us i (Word v ∷ ts) rest s f e
port_sound d us i (Int v ∷ ts) rest s f e = name_sound d us i (Int v ∷ ts) rest s f e
port_sound d us i (Sized v u ∷ ts) rest s f e = name_sound d us i (Sized v u ∷ ts) rest s f e
port_sound d us i (Operator v ∷ ts) rest s f e = name_sound d us i (Operator v ∷ ts) rest s f e
port_sound d us i (Mark mark.OpenRound ∷ ts) rest s f e = name_sound d us i (Mark mark.OpenRound ∷ ts) rest s f e
port_sound d us i (Mark mark.CloseRound ∷ ts) rest s f e = name_sound d us i (Mark mark.CloseRound ∷ ts) rest s f e
port_sound d us i (Mark mark.OpenSquare ∷ ts) rest s f e = name_sound d us i (Mark mark.OpenSquare ∷ ts) rest s f e
port_sound d us i (Mark mark.CloseSquare ∷ ts) rest s f e = name_sound d us i (Mark mark.CloseSquare ∷ ts) rest s f e
port_sound d us i (Mark mark.Comma ∷ ts) rest s f e = name_sound d us i (Mark mark.Comma ∷ ts) rest s f e
port_sound d us i (Mark mark.Colon ∷ ts) rest s f e = name_sound d us i (Mark mark.Colon ∷ ts) rest s f e
port_sound d us i (Mark mark.Equals ∷ ts) rest s f e = name_sound d us i (Mark mark.Equals ∷ ts) rest s f e
port_sound d us i (Mark mark.Dot ∷ ts) rest s f e = port_name_sound d us i ts rest s f e

word_sound : (d : ℕ) → BracketsSound d → (b : Bool) (w : Text) (ts rest : Tokens) (s : Sig) → is_name w ≡ b → r.word_sig (bodies_at d) (inside d) b w ts ≡ Some (s, rest) → Front IsSig d (Word w ∷ ts) s rest
word_sound d brackets true w ts rest s named e =
    let p = go_on-some (r.ident_by (inside d) w ts) r.port (s, rest) e in
    port_sound d (Word w ∷ ts) p.0.0 p.0.1 rest s (ident_by_sound d w named ts p.0.1 p.0.0 p.1) p.2
word_sound d brackets false w ts rest s named e =
    let p = go_on-some (r.head_of w ts) (r.bracketed (bodies_at d) (inside d)) (s, rest) e in
    let took = head_of-some w ts p.0.1 p.0.0 p.1 in
    led (BehindHead p.0.0) (BehindHead p.0.0) IsSig (head_tokens p.0.0) (head_neutral p.0.0) d (Word w ∷ ts) p.0.1 rest s s took.0 (λ ys h. h) (brackets p.0.0 took.1 p.0.1 rest s p.2)

signal_with : (d : ℕ) → BracketsSound d → Sound IsSig d (signal_at d)
unfolding r.signal
signal_with d brackets [] rest s e = absurd cc
signal_with d brackets (Sized w v ∷ ts) rest s e = moved IsSig d (Sized w v ∷ ts) ts rest (sig.Sized w v) s e (alone IsSig (Sized w v ∷ []) (λ o. (refl, omega arith)) d (Sized w v ∷ ts) ts (sig.Sized w v) refl (g.sized w v))
signal_with d brackets (Word w ∷ ts) rest s e = word_sound d brackets (is_name w) w ts rest s refl e
signal_with d brackets (Int w ∷ ts) rest s e = absurd cc
signal_with d brackets (Operator w ∷ ts) rest s e = absurd cc
signal_with d brackets (Mark w ∷ ts) rest s e = absurd cc

-- what is read as a signal is spelled so, with at most d brackets open
pub signal_sound : (d : ℕ) → Sound IsSig d (signal_at d)
signal_sound zero = signal_with zero bracketed_none
signal_sound (suc d) = signal_with (suc d) (bracketed_more d (signal_sound d))
