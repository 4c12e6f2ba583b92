-- What spells a signal has no open bracket at its end: an induction over the three relations at once.
use Rattle.std.proofs.Common.{◌≡◌, ℕ, ◌+◌, ◌-◌, List, [], ◌∷◌, ◌++◌, refl, ◌∙◌, ap, arith}
use Rattle.hc_tokens.specs.declared.token.Token.TheVariants.{Mark}
use Rattle.hc_tokens.specs.declared.token.Mark.TheVariants as mark
use Rattle.hc_tokens.specs.declared.tree.Num.{Num}
use Rattle.hc_sigtext.specs.declared.tree.IdentText.{IdentText}
use Rattle.hc_sigtext.specs.declared.tree.Sig.{Sig}
use Rattle.hc_tokens.specs.Grammar as nums
use Rattle.hc_sigtext.specs.Grammar as g
use Rattle.hc_sigtext.specs.Grammar.{Tokens, IsIdent, IsSig, AreSigs, AreParts, AreNums, in_round}
use Rattle.hc_tokens.proofs.NumbersFound.{open_after, open_after-append, balanced, round_after}

abbrev pub Even : Tokens → Type 0
Even ts = (o : ℕ) → open_after o ts ≡ o

-- tokens on both sides of a comma
pub comma_even : (ts us : Tokens) → Even ts → Even us → Even (ts ++ (Mark mark.Comma ∷ us))
comma_even ts us h k o = open_after-append ts (Mark mark.Comma ∷ us) o ∙ ap (λ x. open_after x us) (h o) ∙ k o

pub ident_even : {ts : Tokens} {i : IdentText} → IsIdent ts i → Even ts
ident_even (g.bare w h) = λ o. refl
ident_even (g.indexed {ts} {n} w h s) = λ o. open_after-append ts (Mark mark.CloseSquare ∷ []) (o + 1) ∙ ap (λ x. x - 1) (balanced s (o + 1)) ∙ (omega arith)

pub nums_even : {ts : Tokens} {ns : List Num} → AreNums ts ns → Even ts
nums_even (nums.last s) = balanced s
nums_even (nums.comma {ts} {us} s t) = comma_even ts us (balanced s) (nums_even t)

pub round_even : (ts : Tokens) → Even ts → Even (in_round ts)
round_even ts h o = round_after ts o (h (o + 1))

mutual
  pub sig_even : {ts : Tokens} {s : Sig} → IsSig ts s → Even ts
  sig_even (g.sized w v) = λ o. refl
  sig_even (g.ident i) = ident_even i
  sig_even (g.port {ts} p h i) = λ o. open_after-append ts _ o ∙ ident_even i o
  sig_even (g.call {ts} w h s) = round_even ts (parts_even s)
  sig_even (g.read {ts} {us} i s) = round_even (ts ++ (Mark mark.Comma ∷ us)) (comma_even ts us (ident_even i) (sig_even s))
  sig_even (g.op {ts} k h s) = round_even ts (sigs_even s)

  pub sigs_even : {ts : Tokens} {ss : List Sig} → AreSigs ts ss → Even ts
  sigs_even (g.last_sig s) = sig_even s
  sigs_even (g.comma_sig {ts} {us} s t) = comma_even ts us (sig_even s) (sigs_even t)

  pub parts_even : {ts : Tokens} {ss : List Sig} {ns : List Num} → AreParts ts ss ns → Even ts
  parts_even (g.all_sigs s) = sigs_even s
  parts_even (g.all_nums s) = nums_even s
  parts_even (g.both {ts} {us} s t) = comma_even ts us (sigs_even s) (nums_even t)
