-- What is spelled as a signal is read.
use Rattle.std.proofs.Common.{◌≡◌, ℕ, zero, suc, ◌+◌, ◌≤◌, Bool, true, false, cond, nat_eq, ℤ, List, [], ◌∷◌, ◌++◌, length, Option, Some, None, codes, refl, ◌∙◌, ap, arith, append_assoc, length-append}
use Rattle.std.proofs.lemmas.Bool.Decides.{nat_tests}
use Rattle.hc_tokens.specs.declared.token.Token.TheVariants.{Word, Int, Sized, Operator, Mark}
use Rattle.hc_tokens.specs.declared.token.Mark.{Mark as Mark_}
use Rattle.hc_tokens.specs.declared.token.Mark.TheVariants as mark
use Rattle.hc_sigtext.specs.declared.tree.CallWord.{CallWord}
use Rattle.hc_sigtext.specs.declared.tree.CallWord.TheVariants as word
use Rattle.hc_tokens.specs.declared.tree.Num.{Num}
use Rattle.hc_sigtext.specs.declared.tree.IdentText.{IdentText}
use Rattle.hc_sigtext.specs.declared.tree.Sig.{Sig}
use Rattle.hc_sigtext.specs.declared.tree.Sig.TheVariants as sig
use Rattle.hc_sigtext.specs.declared.reading.Head.{Head}
use Rattle.hc_sigtext.specs.declared.reading.Head.TheVariants as head
use Rattle.hc_sigtext.specs.declared.reading.Shape.{Shape}
use Rattle.hc_sigtext.specs.declared.reading.Shape.TheVariants as shape
use Rattle.hc_tokens.specs.Tokens.{same_bytes}
use Rattle.hc_tokens.specs.Words.{is_name, call_words}
use Rattle.hc_sigtext.specs.CallWords.{spelling}
use Rattle.hc_tokens.specs.Grammar as nums
use Rattle.hc_sigtext.specs.Grammar as g
use Rattle.hc_sigtext.specs.Grammar.{Text, Tokens, IsNum, IsIdent, IsSig, AreSigs, AreParts, AreNums, Takes, most_open, in_round}
use Rattle.hc_tokens.specs.Reading.{Read, go_on, choose, inside, number_at}
use Rattle.hc_sigtext.specs.SigReading as r
use Rattle.hc_sigtext.specs.SigReading.{bind, past_comma, past_round, past_square, ident_at, signal_at, body_at, bodies_at, more_sigs, sig_list, shape_of, takes_sigs}
use Rattle.hc_tokens.proofs.NumbersFound.{reads, balanced, open_after, left_open, right_open, within_open, none_within, open_least}
use Rattle.hc_sigtext.proofs.SignalsEven.{Even, ident_even, sig_even}

-- ---- what may follow

abbrev pub no_index : Tokens → Bool
no_index [] = true
no_index (Mark mark.OpenSquare ∷ ts) = false
no_index (t ∷ ts) = true

abbrev pub ends_sig : Tokens → Bool
ends_sig [] = true
ends_sig (Mark mark.OpenSquare ∷ ts) = false
ends_sig (Mark mark.Dot ∷ ts) = false
ends_sig (t ∷ ts) = true

pub ends-no_index : (ts : Tokens) → ends_sig ts ≡ true → no_index ts ≡ true
ends-no_index [] e = refl
ends-no_index (Word w ∷ ts) e = refl
ends-no_index (Int w ∷ ts) e = refl
ends-no_index (Sized w v ∷ ts) e = refl
ends-no_index (Operator w ∷ ts) e = refl
ends-no_index (Mark mark.OpenRound ∷ ts) e = refl
ends-no_index (Mark mark.CloseRound ∷ ts) e = refl
ends-no_index (Mark mark.OpenSquare ∷ ts) e = absurd cc
ends-no_index (Mark mark.CloseSquare ∷ ts) e = refl
ends-no_index (Mark mark.Comma ∷ ts) e = refl
ends-no_index (Mark mark.Colon ∷ ts) e = refl
ends-no_index (Mark mark.Equals ∷ ts) e = refl
ends-no_index (Mark mark.Dot ∷ ts) e = absurd cc

-- ---- numbers in their places

-- a number before a token that does not go on with it
pub num_found : {ts : Tokens} {n : Num} → IsNum ts n → (d o : ℕ) → most_open o ts ≤ o + d → (m : Mark_) (rest : Tokens) → number_at d (ts ++ (Mark m ∷ rest)) ≡ Some (n, Mark m ∷ rest)
num_found s d o h m rest = reads s d o h (Mark m ∷ rest) refl refl refl

-- ---- idents

bare_found : (R : Read Num) (w : Text) (ts : Tokens) → no_index ts ≡ true → r.ident_by R w ts ≡ Some (r.bare w, ts)
bare_found R w [] e = refl
bare_found R w (Word v ∷ ts) e = refl
bare_found R w (Int v ∷ ts) e = refl
bare_found R w (Sized v u ∷ ts) e = refl
bare_found R w (Operator v ∷ ts) e = refl
bare_found R w (Mark mark.OpenRound ∷ ts) e = refl
bare_found R w (Mark mark.CloseRound ∷ ts) e = refl
bare_found R w (Mark mark.OpenSquare ∷ ts) e = absurd cc
bare_found R w (Mark mark.CloseSquare ∷ ts) e = refl
bare_found R w (Mark mark.Comma ∷ ts) e = refl
bare_found R w (Mark mark.Colon ∷ ts) e = refl
bare_found R w (Mark mark.Equals ∷ ts) e = refl
bare_found R w (Mark mark.Dot ∷ ts) e = refl

square : Tokens → Tokens
square ts = Mark mark.OpenSquare ∷ (ts ++ (Mark mark.CloseSquare ∷ []))

index_found : (w : Text) (ts : Tokens) (n : Num) → IsNum ts n → (d o : ℕ) → most_open o (Mark mark.OpenSquare ∷ (ts ++ (Mark mark.CloseSquare ∷ []))) ≤ o + d → (rest : Tokens) → r.ident_by (inside d) w (Mark mark.OpenSquare ∷ ((ts ++ (Mark mark.CloseSquare ∷ [])) ++ rest)) ≡ Some (record { name = w; index = Some n }, rest)
index_found w ts n s zero o h rest = absurd (omega (arith, open_least (ts ++ (Mark mark.CloseSquare ∷ [])) (o + 1)))
index_found w ts n s (suc d) o h rest =
    let inner : most_open (o + 1) (ts ++ (Mark mark.CloseSquare ∷ [])) ≤ (o + 1) + d = omega arith in
    ap (λ x. go_on (number_at d x) (r.index_end w)) (append_assoc ts (Mark mark.CloseSquare ∷ []) rest)
    ∙ ap (λ x. go_on x (r.index_end w)) (num_found s d (o + 1) (left_open ts _ (o + 1) ((o + 1) + d) inner) mark.CloseSquare rest)

-- after the name of an ident
abbrev pub IdentBy : ℕ → Tokens → IdentText → Tokens → Type 0
IdentBy d ts i rest = (w : Text) × (more : Tokens) × (ts ++ rest ≡ Word w ∷ more) × (is_name w ≡ true) × (r.ident_by (inside d) w more ≡ Some (i, rest))

ident_by_found : {ts : Tokens} {i : IdentText} → IsIdent ts i → (d o : ℕ) → most_open o ts ≤ o + d → (rest : Tokens) → no_index rest ≡ true → IdentBy d ts i rest
ident_by_found (g.bare w h) d o l rest e = (w, rest, refl, h, bare_found (inside d) w rest e)
ident_by_found (g.indexed {ts} {n} w h s) d o l rest e = (w, Mark mark.OpenSquare ∷ ((ts ++ (Mark mark.CloseSquare ∷ [])) ++ rest), refl, h, index_found w ts n s d o (omega arith) rest)

pub ident_found : {ts : Tokens} {i : IdentText} → IsIdent ts i → (d o : ℕ) → most_open o ts ≤ o + d → (rest : Tokens) → no_index rest ≡ true → ident_at d (ts ++ rest) ≡ Some (i, rest)
ident_found s d o l rest e = let p = ident_by_found s d o l rest e in ap (ident_at d) p.2 ∙ ap (λ b. cond b (r.ident_by (inside d) p.0 p.1) None) p.3 ∙ p.4

-- a signal that begins with an ident goes on with its port
signal_ident : {ts : Tokens} {i : IdentText} → IsIdent ts i → (d o : ℕ) → most_open o ts ≤ o + d → (rest : Tokens) → no_index rest ≡ true → signal_at d (ts ++ rest) ≡ r.port i rest
unfolding r.signal
signal_ident s d o l rest e = let p = ident_by_found s d o l rest e in ap (signal_at d) p.2 ∙ ap (λ b. r.word_sig (bodies_at d) (inside d) b p.0 p.1) p.3 ∙ ap (λ x. go_on x r.port) p.4

port_none : (i : IdentText) (ts : Tokens) → ends_sig ts ≡ true → r.port i ts ≡ Some (sig.Name i, ts)
port_none i [] e = refl
port_none i (Word w ∷ ts) e = refl
port_none i (Int w ∷ ts) e = refl
port_none i (Sized w v ∷ ts) e = refl
port_none i (Operator w ∷ ts) e = refl
port_none i (Mark mark.OpenRound ∷ ts) e = refl
port_none i (Mark mark.CloseRound ∷ ts) e = refl
port_none i (Mark mark.OpenSquare ∷ ts) e = absurd cc
port_none i (Mark mark.CloseSquare ∷ ts) e = refl
port_none i (Mark mark.Comma ∷ ts) e = refl
port_none i (Mark mark.Colon ∷ ts) e = refl
port_none i (Mark mark.Equals ∷ ts) e = refl
port_none i (Mark mark.Dot ∷ ts) e = absurd cc

-- ---- words and heads

word_of-spelling : (w : CallWord) → r.word_of (spelling w) ≡ Some w
unfolding r.word_of
word_of-spelling word.Const = refl
word_of-spelling word.Add = refl
word_of-spelling word.Sub = refl
word_of-spelling word.Mulu = refl
word_of-spelling word.Muls = refl
word_of-spelling word.And = refl
word_of-spelling word.Or = refl
word_of-spelling word.Xor = refl
word_of-spelling word.Eq = refl
word_of-spelling word.Lt = refl
word_of-spelling word.Not = refl
word_of-spelling word.Mux = refl
word_of-spelling word.Cat = refl
word_of-spelling word.Select = refl
word_of-spelling word.Ne = refl
word_of-spelling word.Gt = refl
word_of-spelling word.Le = refl
word_of-spelling word.Ge = refl
word_of-spelling word.Lts = refl
word_of-spelling word.Mux2 = refl
word_of-spelling word.Uresize = refl
word_of-spelling word.Sresize = refl
word_of-spelling word.Sll = refl
word_of-spelling word.Srl = refl
word_of-spelling word.Sra = refl
word_of-spelling word.Repeat = refl
word_of-spelling word.Msb = refl
word_of-spelling word.Lsb = refl

spelling-no_name : (w : CallWord) → is_name (spelling w) ≡ false
unfolding call_words
spelling-no_name word.Const = refl
spelling-no_name word.Add = refl
spelling-no_name word.Sub = refl
spelling-no_name word.Mulu = refl
spelling-no_name word.Muls = refl
spelling-no_name word.And = refl
spelling-no_name word.Or = refl
spelling-no_name word.Xor = refl
spelling-no_name word.Eq = refl
spelling-no_name word.Lt = refl
spelling-no_name word.Not = refl
spelling-no_name word.Mux = refl
spelling-no_name word.Cat = refl
spelling-no_name word.Select = refl
spelling-no_name word.Ne = refl
spelling-no_name word.Gt = refl
spelling-no_name word.Le = refl
spelling-no_name word.Ge = refl
spelling-no_name word.Lts = refl
spelling-no_name word.Mux2 = refl
spelling-no_name word.Uresize = refl
spelling-no_name word.Sresize = refl
spelling-no_name word.Sll = refl
spelling-no_name word.Srl = refl
spelling-no_name word.Sra = refl
spelling-no_name word.Repeat = refl
spelling-no_name word.Msb = refl
spelling-no_name word.Lsb = refl

call_head : (w : CallWord) (ts : Tokens) → r.head_of (spelling w) ts ≡ Some (head.Call w, ts)
call_head w ts = ap (λ x. r.head_by x (same_bytes (spelling w) (codes "read")) (same_bytes (spelling w) (codes "op")) ts) (word_of-spelling w)

read_no_name : is_name (codes "read") ≡ false
unfolding call_words
read_no_name = refl

op_no_name : is_name (codes "op") ≡ false
unfolding call_words
op_no_name = refl

read_head : (ts : Tokens) → r.head_of (codes "read") ts ≡ Some (head.Read, ts)
unfolding r.word_of
read_head ts = refl

op_head : (k : Text) (ts : Tokens) → is_name k ≡ true → r.head_of (codes "op") (Mark mark.Dot ∷ Word k ∷ ts) ≡ Some (head.Op k, ts)
unfolding r.word_of
op_head k ts h = ap (λ b. cond b (Some (head.Op k, ts)) None) h

-- ---- brackets

-- what is read inside the brackets after a head
abbrev pub BodyReads : Head → Tokens → Sig → Type 0
BodyReads h ts s = (d o : ℕ) → most_open o ts ≤ o + d → (rest : Tokens) → body_at d h (ts ++ (Mark mark.CloseRound ∷ rest)) ≡ Some (s, Mark mark.CloseRound ∷ rest)

bracketed_found : (h : Head) (ts : Tokens) (s : Sig) → BodyReads h ts s → (d o : ℕ) → most_open o (in_round ts) ≤ o + d → (rest : Tokens) → r.bracketed (bodies_at d) (inside d) h (in_round ts ++ rest) ≡ Some (s, rest)
bracketed_found h ts s ih zero o l rest = absurd (none_within ts o l)
bracketed_found h ts s ih (suc d) o l rest = ap (λ x. go_on (body_at d h x) r.close_sig) (append_assoc ts (Mark mark.CloseRound ∷ []) rest) ∙ ap (λ x. go_on x r.close_sig) (ih d (o + 1) (within_open ts o d l) rest)

headed_found : (w : Text) (h : Head) (more ts rest : Tokens) (s : Sig) → is_name w ≡ false → r.head_of w more ≡ Some (h, in_round ts ++ rest) → BodyReads h ts s → (d o : ℕ) → most_open o (in_round ts) ≤ o + d → signal_at d (Word w ∷ more) ≡ Some (s, rest)
unfolding r.signal
headed_found w h more ts rest s e f ih d o l = ap (λ b. r.word_sig (bodies_at d) (inside d) b w more) e ∙ ap (λ x. go_on x (r.bracketed (bodies_at d) (inside d))) f ∙ bracketed_found h ts s ih d o l rest

-- ---- shapes of calls

abbrev pub TakesShape : Shape → CallWord → ℕ → ℕ → Type 0
TakesShape shape.Sigs w s n = (takes_sigs w s ≡ true) × (n ≡ 0)
TakesShape shape.Nums w s n = (s ≡ 0) × (n ≡ 2)
TakesShape shape.SigNum w s n = (s ≡ 1) × (n ≡ 1)
TakesShape shape.SigNums w s n = (s ≡ 1) × (n ≡ 2)

takes_shape : (w : CallWord) (s n : ℕ) → Takes w s n → TakesShape (shape_of w) w s n
takes_shape word.Const s n h = h
takes_shape word.Add s n h = (ap (λ x. nat_eq x 2) h.0, h.1)
takes_shape word.Sub s n h = (ap (λ x. nat_eq x 2) h.0, h.1)
takes_shape word.Mulu s n h = (ap (λ x. nat_eq x 2) h.0, h.1)
takes_shape word.Muls s n h = (ap (λ x. nat_eq x 2) h.0, h.1)
takes_shape word.And s n h = (ap (λ x. nat_eq x 2) h.0, h.1)
takes_shape word.Or s n h = (ap (λ x. nat_eq x 2) h.0, h.1)
takes_shape word.Xor s n h = (ap (λ x. nat_eq x 2) h.0, h.1)
takes_shape word.Eq s n h = (ap (λ x. nat_eq x 2) h.0, h.1)
takes_shape word.Lt s n h = (ap (λ x. nat_eq x 2) h.0, h.1)
takes_shape word.Not s n h = (ap (λ x. nat_eq x 1) h.0, h.1)
takes_shape word.Mux s n h = ((let l : 3 ≤ s = h.0 in grind (arith, nat_tests)), h.1)
takes_shape word.Cat s n h = ((let l : 1 ≤ s = h.0 in grind (arith, nat_tests)), h.1)
takes_shape word.Select s n h = h
takes_shape word.Ne s n h = (ap (λ x. nat_eq x 2) h.0, h.1)
takes_shape word.Gt s n h = (ap (λ x. nat_eq x 2) h.0, h.1)
takes_shape word.Le s n h = (ap (λ x. nat_eq x 2) h.0, h.1)
takes_shape word.Ge s n h = (ap (λ x. nat_eq x 2) h.0, h.1)
takes_shape word.Lts s n h = (ap (λ x. nat_eq x 2) h.0, h.1)
takes_shape word.Mux2 s n h = (ap (λ x. nat_eq x 3) h.0, h.1)
takes_shape word.Uresize s n h = h
takes_shape word.Sresize s n h = h
takes_shape word.Sll s n h = h
takes_shape word.Srl s n h = h
takes_shape word.Sra s n h = h
takes_shape word.Repeat s n h = h
takes_shape word.Msb s n h = (ap (λ x. nat_eq x 1) h.0, h.1)
takes_shape word.Lsb s n h = (ap (λ x. nat_eq x 1) h.0, h.1)

-- ---- lists of signals

-- a signal and then at most k others, after what was read
abbrev pub from_sigs : Read Sig → ℕ → List Sig → Read (List Sig)
from_sigs S k acc ts = go_on (S ts) (λ s rest. more_sigs S k (acc ++ s ∷ []) rest)

pub more-stops : (S : Read Sig) (k : ℕ) (acc : List Sig) (rest : Tokens) → past_comma rest ≡ None → more_sigs S k acc rest ≡ Some (acc, rest)
unfolding more_sigs
more-stops S zero acc rest e = ap (λ x. choose x (Some (acc, rest)) (λ q. None)) e
more-stops S (suc k) acc rest e = ap (λ x. choose x (Some (acc, rest)) (λ q. go_on (S q) (λ s more. more_sigs S k (acc ++ s ∷ []) more))) e

pub more-goes : (S : Read Sig) (k : ℕ) (acc : List Sig) (rest : Tokens) → more_sigs S (suc k) acc (Mark mark.Comma ∷ rest) ≡ from_sigs S k acc rest
unfolding more_sigs
more-goes S k acc rest = refl

pub sig_list-from : (S : Read Sig) (ts : Tokens) → sig_list S ts ≡ from_sigs S (length ts) [] ts
unfolding sig_list
sig_list-from S ts = refl

abbrev pub SigReads : Tokens → Sig → Type 0
SigReads ts s = (d o : ℕ) → most_open o ts ≤ o + d → (rest : Tokens) → ends_sig rest ≡ true → signal_at d (ts ++ rest) ≡ Some (s, rest)

abbrev pub SigsRead : Tokens → List Sig → Type 0
SigsRead ts ss = (d o : ℕ) → most_open o ts ≤ o + d → (k : ℕ) → length ss ≤ suc k → (acc : List Sig) (rest : Tokens) → past_comma rest ≡ None → ends_sig rest ≡ true → from_sigs (signal_at d) k acc (ts ++ rest) ≡ Some (acc ++ ss, rest)

abbrev gotten : List Sig → Tokens → Option (List Sig × Tokens)
gotten ss ts = Some (ss, ts)

last_found : (ts : Tokens) (s : Sig) → SigReads ts s → SigsRead ts (s ∷ [])
last_found ts s ih d o l k h acc rest n e = ap (λ x. go_on x (λ s rest. more_sigs (signal_at d) k (acc ++ s ∷ []) rest)) (ih d o l rest e) ∙ more-stops (signal_at d) k (acc ++ s ∷ []) rest n

comma_open : (xs ys : Tokens) (o n : ℕ) → open_after o xs ≡ o → most_open o (xs ++ (Mark mark.Comma ∷ ys)) ≤ n → most_open o ys ≤ n
comma_open xs ys o n e h = let inner : most_open o (Mark mark.Comma ∷ ys) ≤ n = right_open xs (Mark mark.Comma ∷ ys) o n e h in omega arith

comma_found : (ts us : Tokens) (s : Sig) (ss : List Sig) → Even ts → 1 ≤ length ss → SigReads ts s → SigsRead us ss → SigsRead (ts ++ (Mark mark.Comma ∷ us)) (s ∷ ss)
comma_found ts us s ss even one ih ihs d o l zero h acc rest n e = absurd (omega arith)
comma_found ts us s ss even one ih ihs d o l (suc k) h acc rest n e =
    ap (from_sigs (signal_at d) (suc k) acc) (append_assoc ts (Mark mark.Comma ∷ us) rest)
    ∙ ap (λ x. go_on x (λ s rest. more_sigs (signal_at d) (suc k) (acc ++ s ∷ []) rest)) (ih d o (left_open ts _ o (o + d) l) (Mark mark.Comma ∷ (us ++ rest)) refl)
    ∙ more-goes (signal_at d) k (acc ++ s ∷ []) (us ++ rest)
    ∙ ihs d o (comma_open ts us o (o + d) (even o) l) k (omega arith) (acc ++ s ∷ []) rest n e
    ∙ ap (λ x. gotten x rest) (append_assoc acc (s ∷ []) ss)

some_sigs : {ts : Tokens} {ss : List Sig} → AreSigs ts ss → 1 ≤ length ss
some_sigs (g.last_sig s) = omega arith
some_sigs (g.comma_sig s t) = omega arith

sigs_long : {ts : Tokens} {ss : List Sig} → AreSigs ts ss → length ss ≤ suc (length ts)
sigs_long (g.last_sig s) = omega arith
sigs_long (g.comma_sig {ts} {us} s t) = let l = sigs_long t in omega (arith, length-append ts (Mark mark.Comma ∷ us))

abbrev pub closing : Tokens → Tokens
closing rest = Mark mark.CloseRound ∷ rest

sig_list_found : (ts : Tokens) (ss : List Sig) → length ss ≤ suc (length ts) → SigsRead ts ss → (d o : ℕ) → most_open o ts ≤ o + d → (rest : Tokens) → sig_list (signal_at d) (ts ++ closing rest) ≡ Some (ss, closing rest)
sig_list_found ts ss long ih d o l rest = sig_list-from (signal_at d) (ts ++ closing rest) ∙ ih d o l (length (ts ++ closing rest)) (omega (arith, length-append ts (closing rest))) [] (closing rest) refl refl

-- ---- lists of numbers

some_nums : {ts : Tokens} {ns : List Num} → AreNums ts ns → 1 ≤ length ns
some_nums (nums.last s) = omega arith
some_nums (nums.comma s t) = omega arith

one_num_found : {ts : Tokens} {ns : List Num} → AreNums ts ns → length ns ≡ 1 → (d o : ℕ) → most_open o ts ≤ o + d → (rest : Tokens) → r.one_num (number_at d) (ts ++ closing rest) ≡ Some (ns, closing rest)
one_num_found (nums.last {ts} {n} s) is d o l rest = ap (λ x. go_on x (λ m left. Some (m ∷ [], left))) (num_found s d o l mark.CloseRound rest)
one_num_found (nums.comma s t) is d o l rest = absurd (let one = some_nums t in omega arith)

two_nums_found : {ts : Tokens} {ns : List Num} → AreNums ts ns → length ns ≡ 2 → (d o : ℕ) → most_open o ts ≤ o + d → (rest : Tokens) → r.two_nums (number_at d) (ts ++ closing rest) ≡ Some (ns, closing rest)
two_nums_found (nums.last s) is d o l rest = absurd (omega arith)
two_nums_found (nums.comma {ts} {n = a} s (nums.last {ts = us} {n = b} t)) is d o l rest =
    ap (r.two_nums (number_at d)) (append_assoc ts (Mark mark.Comma ∷ us) (closing rest))
    ∙ ap (λ x. go_on x (λ a left. bind (past_comma left) (r.second_num (number_at d) a))) (num_found s d o (left_open ts _ o (o + d) l) mark.Comma (us ++ closing rest))
    ∙ ap (λ x. go_on x (λ b left. Some (a ∷ b ∷ [], left))) (num_found t d o (comma_open ts us o (o + d) (balanced s o) l) mark.CloseRound rest)
two_nums_found (nums.comma s (nums.comma t u)) is d o l rest = absurd (let one = some_nums u in omega arith)

-- ---- calls

abbrev pub CallReads : Shape → CallWord → Tokens → List Sig → List Num → Type 0
CallReads sh w ts ss ns = (d o : ℕ) → most_open o ts ≤ o + d → (rest : Tokens) → r.call (signal_at d) (number_at d) (ident_at d) sh w (ts ++ closing rest) ≡ Some (sig.Call w ss ns, closing rest)

listed_found : (w : CallWord) (ts : Tokens) (ss : List Sig) → takes_sigs w (length ss) ≡ true → length ss ≤ suc (length ts) → SigsRead ts ss → CallReads shape.Sigs w ts ss []
unfolding r.call
listed_found w ts ss takes long ih d o l rest = ap (λ x. go_on x (r.listed_by (signal_at d) w)) (sig_list_found ts ss long ih d o l rest) ∙ ap (λ b. cond b (Some (sig.Call w ss [], closing rest)) None) takes

nums_found : (w : CallWord) (ts : Tokens) (ns : List Num) → AreNums ts ns → length ns ≡ 2 → CallReads shape.Nums w ts [] ns
unfolding r.call
nums_found w ts ns s is d o l rest = ap (λ x. go_on x (r.made w [])) (two_nums_found s is d o l rest)

sig_num_found : (w : CallWord) (ts us : Tokens) (s : Sig) (ns : List Num) → Even ts → SigReads ts s → AreNums us ns → length ns ≡ 1 → CallReads shape.SigNum w (ts ++ (Mark mark.Comma ∷ us)) (s ∷ []) ns
unfolding r.call
sig_num_found w ts us s ns even ih t is d o l rest =
    ap (r.sig_num (signal_at d) (number_at d) (ident_at d) w) (append_assoc ts (Mark mark.Comma ∷ us) (closing rest))
    ∙ ap (λ x. go_on x (λ s left. bind (past_comma left) (λ more. go_on (r.one_num (number_at d) more) (r.made w (s ∷ []))))) (ih d o (left_open ts _ o (o + d) l) (Mark mark.Comma ∷ (us ++ closing rest)) refl)
    ∙ ap (λ x. go_on x (r.made w (s ∷ []))) (one_num_found t is d o (comma_open ts us o (o + d) (even o) l) rest)

sig_nums_found : (w : CallWord) (ts us : Tokens) (s : Sig) (ns : List Num) → Even ts → SigReads ts s → AreNums us ns → length ns ≡ 2 → CallReads shape.SigNums w (ts ++ (Mark mark.Comma ∷ us)) (s ∷ []) ns
unfolding r.call
sig_nums_found w ts us s ns even ih t is d o l rest =
    ap (r.sig_nums (signal_at d) (number_at d) (ident_at d) w) (append_assoc ts (Mark mark.Comma ∷ us) (closing rest))
    ∙ ap (λ x. go_on x (λ s left. bind (past_comma left) (λ more. go_on (r.two_nums (number_at d) more) (r.made w (s ∷ []))))) (ih d o (left_open ts _ o (o + d) l) (Mark mark.Comma ∷ (us ++ closing rest)) refl)
    ∙ ap (λ x. go_on x (r.made w (s ∷ []))) (two_nums_found t is d o (comma_open ts us o (o + d) (even o) l) rest)

call_body : (w : CallWord) (ts : Tokens) (ss : List Sig) (ns : List Num) → CallReads (shape_of w) w ts ss ns → BodyReads (head.Call w) ts (sig.Call w ss ns)
unfolding r.body
call_body w ts ss ns h d o l rest = h d o l rest

read_body : (ts us : Tokens) (i : IdentText) (s : Sig) → IsIdent ts i → SigReads us s → BodyReads head.Read (ts ++ (Mark mark.Comma ∷ us)) (sig.Read i s)
unfolding r.body r.memory_read
read_body ts us i s h ih d o l rest =
    ap (r.memory_read (signal_at d) (number_at d) (ident_at d)) (append_assoc ts (Mark mark.Comma ∷ us) (closing rest))
    ∙ ap (λ x. go_on x (λ i left. bind (past_comma left) (λ more. go_on (signal_at d more) (λ s left. Some (sig.Read i s, left))))) (ident_found h d o (left_open ts _ o (o + d) l) (Mark mark.Comma ∷ (us ++ closing rest)) refl)
    ∙ ap (λ x. go_on x (λ s left. Some (sig.Read i s, left))) (ih d o (comma_open ts us o (o + d) (ident_even h o) l) (closing rest) refl)

op_body : (k : Text) (ts : Tokens) (ss : List Sig) → length ss ≤ suc (length ts) → SigsRead ts ss → BodyReads (head.Op k) ts (sig.Op k ss)
unfolding r.body
op_body k ts ss long ih d o l rest = ap (λ x. go_on x (λ ss left. Some (sig.Op k ss, left))) (sig_list_found ts ss long ih d o l rest)

sized_found : (w : ℤ) (v : ℕ) → SigReads (Sized w v ∷ []) (sig.Sized w v)
unfolding r.signal
sized_found w v d o l rest e = refl

port_found : (ts : Tokens) (i : IdentText) (p : Text) → is_name p ≡ true → IsIdent ts i → SigReads (ts ++ (Mark mark.Dot ∷ Word p ∷ [])) (sig.Port i p)
port_found ts i p h s d o l rest e = ap (signal_at d) (append_assoc ts (Mark mark.Dot ∷ Word p ∷ []) rest) ∙ signal_ident s d o (left_open ts _ o (o + d) l) (Mark mark.Dot ∷ Word p ∷ rest) refl ∙ ap (λ b. cond b (Some (sig.Port i p, rest)) None) h

call_found : (w : CallWord) (ts : Tokens) (ss : List Sig) (ns : List Num) → CallReads (shape_of w) w ts ss ns → SigReads (Word (spelling w) ∷ in_round ts) (sig.Call w ss ns)
call_found w ts ss ns h d o l rest e = headed_found (spelling w) (head.Call w) (in_round ts ++ rest) ts rest (sig.Call w ss ns) (spelling-no_name w) (call_head w (in_round ts ++ rest)) (call_body w ts ss ns h) d o (omega arith)

read_found : (ts : Tokens) (s : Sig) → BodyReads head.Read ts s → SigReads (Word (codes "read") ∷ in_round ts) s
read_found ts s h d o l rest e = headed_found (codes "read") head.Read (in_round ts ++ rest) ts rest s read_no_name (read_head (in_round ts ++ rest)) h d o (omega arith)

op_found : (k : Text) (ts : Tokens) (s : Sig) → is_name k ≡ true → BodyReads (head.Op k) ts s → SigReads (Word (codes "op") ∷ Mark mark.Dot ∷ Word k ∷ in_round ts) s
op_found k ts s named h d o l rest e = headed_found (codes "op") (head.Op k) (Mark mark.Dot ∷ Word k ∷ (in_round ts ++ rest)) ts rest s op_no_name (op_head k (in_round ts ++ rest) named) h d o (omega arith)

-- ---- the theorem

mutual
  pub sig_found : {ts : Tokens} {s : Sig} → IsSig ts s → SigReads ts s
  sig_found (g.sized w v) = sized_found w v
  sig_found (g.ident {ts} {i} s) = λ d o l rest e. signal_ident s d o l rest (ends-no_index rest e) ∙ port_none i rest e
  sig_found (g.port {ts} {i} p h s) = port_found ts i p h s
  sig_found (g.call {ts} {ss} {ns} w h s) = call_found w ts ss ns (parts_found s (shape_of w) w (takes_shape w (length ss) (length ns) h))
  sig_found (g.read {ts} {us} {i} {s} h t) = read_found (ts ++ (Mark mark.Comma ∷ us)) (sig.Read i s) (read_body ts us i s h (sig_found t))
  sig_found (g.op {ts} {ss} k h s) = op_found k ts (sig.Op k ss) h (op_body k ts ss (sigs_long s) (sigs_found s))

  pub sigs_found : {ts : Tokens} {ss : List Sig} → AreSigs ts ss → SigsRead ts ss
  sigs_found (g.last_sig {ts} {s} h) = last_found ts s (sig_found h)
  sigs_found (g.comma_sig {ts} {us} {s} {ss} h t) = comma_found ts us s ss (sig_even h) (some_sigs t) (sig_found h) (sigs_found t)

  parts_found : {ts : Tokens} {ss : List Sig} {ns : List Num} → AreParts ts ss ns → (sh : Shape) (w : CallWord) → TakesShape sh w (length ss) (length ns) → CallReads sh w ts ss ns
  parts_found (g.all_sigs {ts} {ss} s) shape.Sigs w h = listed_found w ts ss h.0 (sigs_long s) (sigs_found s)
  parts_found (g.all_sigs {ts} {ss} s) shape.Nums w h = absurd (let one = some_sigs s in omega arith)
  parts_found (g.all_sigs {ts} {ss} s) shape.SigNum w h = absurd (omega arith)
  parts_found (g.all_sigs {ts} {ss} s) shape.SigNums w h = absurd (omega arith)
  parts_found (g.all_nums {ts} {ns} s) shape.Sigs w h = absurd (let one = some_nums s in omega arith)
  parts_found (g.all_nums {ts} {ns} s) shape.Nums w h = nums_found w ts ns s h.1
  parts_found (g.all_nums {ts} {ns} s) shape.SigNum w h = absurd (omega arith)
  parts_found (g.all_nums {ts} {ns} s) shape.SigNums w h = absurd (omega arith)
  parts_found (g.both (g.last_sig {ts} {s} k) t) shape.Sigs w h = absurd (let one = some_nums t in omega arith)
  parts_found (g.both (g.last_sig {ts} {s} k) t) shape.Nums w h = absurd (omega arith)
  parts_found (g.both {us = us} {ns = ns} (g.last_sig {ts} {s} k) t) shape.SigNum w h = sig_num_found w ts us s ns (sig_even k) (sig_found k) t h.1
  parts_found (g.both {us = us} {ns = ns} (g.last_sig {ts} {s} k) t) shape.SigNums w h = sig_nums_found w ts us s ns (sig_even k) (sig_found k) t h.1
  parts_found (g.both (g.comma_sig k s) t) shape.Sigs w h = absurd (let one = some_nums t in omega arith)
  parts_found (g.both (g.comma_sig k s) t) shape.Nums w h = absurd (omega arith)
  parts_found (g.both (g.comma_sig k s) t) shape.SigNum w h = absurd (let one = some_sigs s in omega arith)
  parts_found (g.both (g.comma_sig k s) t) shape.SigNums w h = absurd (let one = some_sigs s in omega arith)
