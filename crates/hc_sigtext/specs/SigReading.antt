-- Signals read from the front of tokens. `d` brackets may still be opened.
use Rattle.std.specs.Prelude.{ℕ, zero, suc, Bool, true, false, cond, nat_eq, nat_le, List, [], ◌∷◌, ◌++◌, length, Option, Some, None, codes}
use Rattle.hc_tokens.specs.declared.token.Token.TheVariants.{Word, Sized, Mark}
use Rattle.hc_tokens.specs.declared.token.Mark.TheVariants as mark
use Rattle.hc_sigtext.specs.declared.tree.CallWord.{CallWord}
use Rattle.hc_sigtext.specs.declared.tree.CallWord.TheVariants as word
use Rattle.hc_tokens.specs.declared.tree.Num.{Num}
use Rattle.hc_sigtext.specs.declared.tree.IdentText.{IdentText}
use Rattle.hc_sigtext.specs.declared.tree.Sig.{Sig}
use Rattle.hc_sigtext.specs.declared.tree.Sig.TheVariants as sig
use Rattle.hc_sigtext.specs.declared.reading.Head.{Head}
use Rattle.hc_sigtext.specs.declared.reading.Head.TheVariants as head
use Rattle.hc_sigtext.specs.declared.reading.Shape.{Shape}
use Rattle.hc_sigtext.specs.declared.reading.Shape.TheVariants as shape
use Rattle.hc_tokens.specs.Tokens.{same_bytes}
use Rattle.hc_tokens.specs.Words.{is_name}
use Rattle.hc_sigtext.specs.CallWords.{spelling}
use Rattle.hc_sigtext.specs.Grammar.{Text, Tokens}
use Rattle.hc_tokens.specs.Reading.{Read, go_on, choose, inside, number_at}

abbrev pub bind : {A B : Type 0} → Option A → (A → Option B) → Option B
bind None f = None
bind (Some a) f = f a

-- ---- the tokens after a mark

abbrev pub past_comma : Tokens → Option Tokens
past_comma [] = None
past_comma (Mark mark.Comma ∷ ts) = Some ts
past_comma (t ∷ ts) = None

abbrev pub past_round : Tokens → Option Tokens
past_round [] = None
past_round (Mark mark.CloseRound ∷ ts) = Some ts
past_round (t ∷ ts) = None

abbrev pub past_square : Tokens → Option Tokens
past_square [] = None
past_square (Mark mark.CloseSquare ∷ ts) = Some ts
past_square (t ∷ ts) = None

-- ---- names with an index

abbrev pub bare : Text → IdentText
bare w = record { name = w; index = None }

abbrev pub index_end : Text → Num → Read IdentText
index_end w n ts = bind (past_square ts) (λ rest. Some (record { name = w; index = Some n }, rest))

module _ (inner : Read Num) where
  -- after the name
  abbrev pub ident_by : Text → Read IdentText
  ident_by w [] = Some (bare w, [])
  ident_by w (Mark mark.OpenSquare ∷ ts) = go_on (inner ts) (index_end w)
  ident_by w (t ∷ ts) = Some (bare w, t ∷ ts)

  abbrev pub ident : Read IdentText
  ident [] = None
  ident (Word w ∷ ts) = cond (is_name w) (ident_by w ts) None
  ident (t ∷ ts) = None

abbrev pub ident_at : ℕ → Read IdentText
ident_at d = ident (inside d)

-- ---- heads of calls

-- the call words that have no form of their own, in the order of their declaration
abbrev pub words : List CallWord
words = word.Const ∷ word.Add ∷ word.Sub ∷ word.Mulu ∷ word.Muls ∷ word.And ∷ word.Or ∷ word.Xor ∷ word.Eq ∷ word.Lt ∷ word.Not ∷ word.Mux ∷ word.Cat ∷ word.Select ∷ word.Ne ∷ word.Gt ∷ word.Le ∷ word.Ge ∷ word.Lts ∷ word.Mux2 ∷ word.Uresize ∷ word.Sresize ∷ word.Sll ∷ word.Srl ∷ word.Sra ∷ word.Repeat ∷ word.Msb ∷ word.Lsb ∷ []

abbrev pub word_among : Text → List CallWord → Option CallWord
word_among w [] = None
word_among w (c ∷ cs) = cond (same_bytes w (spelling c)) (Some c) (word_among w cs)

unfoldable pub word_of : Text → Option CallWord
word_of w = word_among w words

abbrev pub op_name : Read Head
op_name [] = None
op_name (Word k ∷ ts) = cond (is_name k) (Some (head.Op k, ts)) None
op_name (t ∷ ts) = None

abbrev pub op_head : Read Head
op_head [] = None
op_head (Mark mark.Dot ∷ ts) = op_name ts
op_head (t ∷ ts) = None

abbrev pub head_by : Option CallWord → Bool → Bool → Read Head
head_by (Some c) r o ts = Some (head.Call c, ts)
head_by None true o ts = Some (head.Read, ts)
head_by None false true ts = op_head ts
head_by None false false ts = None

abbrev pub head_of : Text → Read Head
head_of w ts = head_by (word_of w) (same_bytes w (codes "read")) (same_bytes w (codes "op")) ts

-- ---- what stands in the brackets of a call

abbrev pub shape_of : CallWord → Shape
shape_of word.Const = shape.Nums
shape_of word.Select = shape.SigNums
shape_of word.Uresize = shape.SigNum
shape_of word.Sresize = shape.SigNum
shape_of word.Sll = shape.SigNum
shape_of word.Srl = shape.SigNum
shape_of word.Sra = shape.SigNum
shape_of word.Repeat = shape.SigNum
shape_of _ = shape.Sigs

abbrev pub takes_sigs : CallWord → ℕ → Bool
takes_sigs word.Not n = nat_eq n 1
takes_sigs word.Msb n = nat_eq n 1
takes_sigs word.Lsb n = nat_eq n 1
takes_sigs word.Mux2 n = nat_eq n 3
takes_sigs word.Mux n = nat_le 3 n
takes_sigs word.Cat n = nat_le 1 n
takes_sigs _ n = nat_eq n 2

module _ (sigs : Read Sig) where
  -- at most k further signals, each after a comma
  unfoldable pub more_sigs : ℕ → List Sig → Read (List Sig)
  more_sigs zero ss ts = choose (past_comma ts) (Some (ss, ts)) (λ rest. None)
  more_sigs (suc k) ss ts = choose (past_comma ts) (Some (ss, ts)) (λ rest. go_on (sigs rest) (λ s more. more_sigs k (ss ++ s ∷ []) more))

  unfoldable pub sig_list : Read (List Sig)
  sig_list ts = go_on (sigs ts) (λ s rest. more_sigs (length ts) (s ∷ []) rest)

  abbrev pub listed_by : CallWord → List Sig → Read Sig
  listed_by w ss rest = cond (takes_sigs w (length ss)) (Some (sig.Call w ss [], rest)) None

  abbrev pub listed : CallWord → Read Sig
  listed w ts = go_on (sig_list ts) (listed_by w)

module _ (nums : Read Num) where
  abbrev pub one_num : Read (List Num)
  one_num ts = go_on (nums ts) (λ n rest. Some (n ∷ [], rest))

  abbrev pub second_num : Num → Read (List Num)
  second_num a ts = go_on (nums ts) (λ b rest. Some (a ∷ b ∷ [], rest))

  abbrev pub two_nums : Read (List Num)
  two_nums ts = go_on (nums ts) (λ a rest. bind (past_comma rest) (second_num a))

abbrev pub made : CallWord → List Sig → List Num → Read Sig
made w ss ns rest = Some (sig.Call w ss ns, rest)

module _ (sigs : Read Sig) (nums : Read Num) (idents : Read IdentText) where
  abbrev pub sig_num : CallWord → Read Sig
  sig_num w ts = go_on (sigs ts) (λ s rest. bind (past_comma rest) (λ more. go_on (one_num nums more) (made w (s ∷ []))))

  abbrev pub sig_nums : CallWord → Read Sig
  sig_nums w ts = go_on (sigs ts) (λ s rest. bind (past_comma rest) (λ more. go_on (two_nums nums more) (made w (s ∷ []))))

  unfoldable pub call : Shape → CallWord → Read Sig
  call shape.Sigs w ts = listed sigs w ts
  call shape.Nums w ts = go_on (two_nums nums ts) (made w [])
  call shape.SigNum w ts = sig_num w ts
  call shape.SigNums w ts = sig_nums w ts

  unfoldable pub memory_read : Read Sig
  memory_read ts = go_on (idents ts) (λ i rest. bind (past_comma rest) (λ more. go_on (sigs more) (λ s left. Some (sig.Read i s, left))))

  abbrev pub operation : Text → Read Sig
  operation k ts = go_on (sig_list sigs ts) (λ ss rest. Some (sig.Op k ss, rest))

  unfoldable pub body : Head → Read Sig
  body (head.Call w) ts = call (shape_of w) w ts
  body head.Read ts = memory_read ts
  body (head.Op k) ts = operation k ts

-- ---- signals

abbrev pub close_sig : Sig → Read Sig
close_sig s ts = bind (past_round ts) (λ rest. Some (s, rest))

abbrev pub port_name : IdentText → Read Sig
port_name i [] = None
port_name i (Word p ∷ ts) = cond (is_name p) (Some (sig.Port i p, ts)) None
port_name i (t ∷ ts) = None

-- after an ident
abbrev pub port : IdentText → Read Sig
port i [] = Some (sig.Name i, [])
port i (Mark mark.Dot ∷ ts) = port_name i ts
port i (t ∷ ts) = Some (sig.Name i, t ∷ ts)

abbrev pub refuse_body : Head → Read Sig
refuse_body h ts = None

module _ (bodies : Head → Read Sig) (inner : Read Num) where
  abbrev pub bracketed : Head → Read Sig
  bracketed h [] = None
  bracketed h (Mark mark.OpenRound ∷ ts) = go_on (bodies h ts) close_sig
  bracketed h (t ∷ ts) = None

  abbrev pub word_sig : Bool → Text → Read Sig
  word_sig true w ts = go_on (ident_by inner w ts) port
  word_sig false w ts = go_on (head_of w ts) bracketed

  unfoldable pub signal : Read Sig
  signal [] = None
  signal (Sized width v ∷ ts) = Some (sig.Sized width v, ts)
  signal (Word w ∷ ts) = word_sig (is_name w) w ts
  signal (t ∷ ts) = None

-- the bodies that stand in a bracket, where d may be open
abbrev pub bodies_at : ℕ → Head → Read Sig
bodies_at zero = refuse_body
bodies_at (suc d) = body (signal (bodies_at d) (inside d)) (number_at d) (ident_at d)

abbrev pub signal_at : ℕ → Read Sig
signal_at d = signal (bodies_at d) (inside d)

abbrev pub body_at : ℕ → Head → Read Sig
body_at d = body (signal_at d) (number_at d) (ident_at d)
