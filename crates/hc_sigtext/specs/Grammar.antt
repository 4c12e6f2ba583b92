-- The signal grammar: which tokens spell a signal.
use Rattle.std.specs.Prelude.{◌≡◌, ℕ, ◌≤◌, List, [], ◌∷◌, ◌++◌, length, Some, None, ℤ, codes}
use Rattle.hc_tokens.specs.declared.token.Token.TheVariants.{Word, Sized, Mark}
use Rattle.hc_tokens.specs.declared.token.Mark.TheVariants as mark
use Rattle.hc_tokens.specs.declared.tree.Num.{Num}
use Rattle.hc_sigtext.specs.CallWords.{spelling}
use Rattle.hc_sigtext.specs.declared.tree.CallWord.{CallWord}
use Rattle.hc_sigtext.specs.declared.tree.CallWord.TheVariants as word
use Rattle.hc_sigtext.specs.declared.tree.IdentText.{IdentText}
use Rattle.hc_sigtext.specs.declared.tree.Sig.{Sig}
use Rattle.hc_sigtext.specs.declared.tree.Sig.TheVariants as sig
pub use Rattle.hc_tokens.specs.Grammar.{Text, Tokens, IsName, keyword, in_round, IsNum, AreNums, most_open}

-- ident := NAME | NAME [ num ]
pub data IsIdent : Tokens → IdentText → Type 0 where
  bare : (w : Text) → IsName w → IsIdent (Word w ∷ []) (record { name = w; index = None })
  indexed : {ts : Tokens} {n : Num} (w : Text) → IsName w → IsNum ts n → IsIdent (Word w ∷ Mark mark.OpenSquare ∷ (ts ++ (Mark mark.CloseSquare ∷ []))) (record { name = w; index = Some n })

-- how many signals and then how many numbers a call takes
abbrev pub Takes : CallWord → ℕ → ℕ → Type 0
Takes word.Not s n = (s ≡ 1) × (n ≡ 0)
Takes word.Msb s n = (s ≡ 1) × (n ≡ 0)
Takes word.Lsb s n = (s ≡ 1) × (n ≡ 0)
Takes word.Add s n = (s ≡ 2) × (n ≡ 0)
Takes word.Sub s n = (s ≡ 2) × (n ≡ 0)
Takes word.Mulu s n = (s ≡ 2) × (n ≡ 0)
Takes word.Muls s n = (s ≡ 2) × (n ≡ 0)
Takes word.And s n = (s ≡ 2) × (n ≡ 0)
Takes word.Or s n = (s ≡ 2) × (n ≡ 0)
Takes word.Xor s n = (s ≡ 2) × (n ≡ 0)
Takes word.Eq s n = (s ≡ 2) × (n ≡ 0)
Takes word.Lt s n = (s ≡ 2) × (n ≡ 0)
Takes word.Ne s n = (s ≡ 2) × (n ≡ 0)
Takes word.Gt s n = (s ≡ 2) × (n ≡ 0)
Takes word.Le s n = (s ≡ 2) × (n ≡ 0)
Takes word.Ge s n = (s ≡ 2) × (n ≡ 0)
Takes word.Lts s n = (s ≡ 2) × (n ≡ 0)
Takes word.Mux2 s n = (s ≡ 3) × (n ≡ 0)
Takes word.Mux s n = (3 ≤ s) × (n ≡ 0)
Takes word.Cat s n = (1 ≤ s) × (n ≡ 0)
Takes word.Const s n = (s ≡ 0) × (n ≡ 2)
Takes word.Select s n = (s ≡ 1) × (n ≡ 2)
Takes word.Uresize s n = (s ≡ 1) × (n ≡ 1)
Takes word.Sresize s n = (s ≡ 1) × (n ≡ 1)
Takes word.Sll s n = (s ≡ 1) × (n ≡ 1)
Takes word.Srl s n = (s ≡ 1) × (n ≡ 1)
Takes word.Sra s n = (s ≡ 1) × (n ≡ 1)
Takes word.Repeat s n = (s ≡ 1) × (n ≡ 1)

mutual
  pub data IsSig : Tokens → Sig → Type 0 where
    sized : (width : ℤ) (v : ℕ) → IsSig (Sized width v ∷ []) (sig.Sized width v)
    ident : {ts : Tokens} {i : IdentText} → IsIdent ts i → IsSig ts (sig.Name i)
    port : {ts : Tokens} {i : IdentText} (p : Text) → IsName p → IsIdent ts i → IsSig (ts ++ (Mark mark.Dot ∷ Word p ∷ [])) (sig.Port i p)
    call : {ts : Tokens} {ss : List Sig} {ns : List Num} (w : CallWord) → Takes w (length ss) (length ns) → AreParts ts ss ns → IsSig (keyword (spelling w) ∷ in_round ts) (sig.Call w ss ns)
    read : {ts us : Tokens} {i : IdentText} {s : Sig} → IsIdent ts i → IsSig us s → IsSig (keyword (codes "read") ∷ in_round (ts ++ (Mark mark.Comma ∷ us))) (sig.Read i s)
    op : {ts : Tokens} {ss : List Sig} (k : Text) → IsName k → AreSigs ts ss → IsSig (keyword (codes "op") ∷ Mark mark.Dot ∷ Word k ∷ in_round ts) (sig.Op k ss)

  -- signals with commas between them, one or more
  pub data AreSigs : Tokens → List Sig → Type 0 where
    last_sig : {ts : Tokens} {s : Sig} → IsSig ts s → AreSigs ts (s ∷ [])
    comma_sig : {ts us : Tokens} {s : Sig} {ss : List Sig} → IsSig ts s → AreSigs us ss → AreSigs (ts ++ (Mark mark.Comma ∷ us)) (s ∷ ss)

  -- the parts of a call: signals, numbers, or signals and then numbers
  pub data AreParts : Tokens → List Sig → List Num → Type 0 where
    all_sigs : {ts : Tokens} {ss : List Sig} → AreSigs ts ss → AreParts ts ss []
    all_nums : {ts : Tokens} {ns : List Num} → AreNums ts ns → AreParts ts [] ns
    both : {ts us : Tokens} {ss : List Sig} {ns : List Num} → AreSigs ts ss → AreNums us ns → AreParts (ts ++ (Mark mark.Comma ∷ us)) ss ns
