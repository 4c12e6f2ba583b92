-- The optional parts of a register, and the parts of an instance.
use Rattle.std.proofs.Common.{◌≡◌, ℕ, ◌+◌, ◌≤◌, Bool, true, false, [], ◌∷◌, ◌++◌, Option, Some, None, codes, refl, sym, ◌∙◌, ap, subst, arith}
use Rattle.hc_tokens.specs.declared.token.Token.TheVariants.{Word, Int, Sized, Operator, Mark}
use Rattle.hc_tokens.specs.declared.tree.Num.{Num}
use Rattle.hc_sigtext.specs.declared.tree.Sig.{Sig}
use Rattle.hc_tokens.specs.Tokens.{same_bytes}
use Rattle.hc_lines.specs.Grammar.{Text, Tokens, IsAtom, IsSig, most_open}
use Rattle.hc_tokens.specs.Reading.{Read, go_on}
use Rattle.hc_sigtext.specs.SigReading.{signal_at}
use Rattle.hc_lines.specs.LineReading as r
use Rattle.hc_lines.specs.LineReading.{seq, optional, atom_at, after_word}
use Rattle.hc_tokens.proofs.NumbersFound.{left_open, right_open}
use Rattle.hc_tokens.proofs.NumbersSound.{same_bytes-equal}
use Rattle.hc_sigtext.proofs.SigFound.{ends_sig}
use Rattle.hc_sigtext.proofs.Fronts.{Front, Sound, led, moved, alone, got, go_on-some}
use Rattle.hc_lines.proofs.Parts.{Part, Last, Then, then_part, ends, seq_sound}
use Rattle.hc_lines.proofs.LineParts.{sig_part, atom_part}

abbrev pub IsOpt : {A : Type 0} → Text → (Tokens → A → Type 0) → Tokens → Option A → Type 0
IsOpt k P ts None = ts ≡ []
IsOpt k P ts (Some a) = (xs : Tokens) × (ts ≡ Word k ∷ xs) × P xs a

abbrev pub begins : Text → Tokens → Bool
begins k [] = false
begins k (Word w ∷ ts) = same_bytes w k
begins k (t ∷ ts) = false

absent : {A : Type 0} (k : Text) (R : Read A) (ts : Tokens) → begins k ts ≡ false → optional k R ts ≡ Some (None, ts)
absent k R [] e = refl
absent k R (Word w ∷ ts) e = ap (λ b. after_word b R ts (Word w ∷ ts)) e
absent k R (Int w ∷ ts) e = refl
absent k R (Sized w v ∷ ts) e = refl
absent k R (Operator w ∷ ts) e = refl
absent k R (Mark w ∷ ts) e = refl

present : {A : Type 0} (k : Text) (R : Read A) (ts rest : Tokens) (a : A) → same_bytes k k ≡ true → R ts ≡ Some (a, rest) → optional k R (Word k ∷ ts) ≡ Some (Some a, rest)
present k R ts rest a same e = ap (λ b. after_word b R ts (Word k ∷ ts)) same ∙ ap (λ x. go_on x (λ a left. Some (Some a, left))) e

module _ {A : Type 0} (k : Text) (same : same_bytes k k ≡ true) (P : Tokens → A → Type 0) (R : ℕ → Read A) (part : Part P R) where
  none_front : (d : ℕ) (ts rest : Tokens) (x : Option A) → got None ts ≡ got x rest → Front (IsOpt k P) d ts x rest
  none_front d ts rest x e = moved (IsOpt k P) d ts ts rest None x e (alone (IsOpt k P) [] (λ o. (refl, omega arith)) d ts ts None refl refl)

  word_opt : (b : Bool) (d : ℕ) (w : Text) (ts rest : Tokens) (x : Option A) → same_bytes w k ≡ b → after_word b (R d) ts (Word w ∷ ts) ≡ got x rest → Front (IsOpt k P) d (Word w ∷ ts) x rest
  word_opt true d w ts rest x is e =
      let p = go_on-some (R d ts) (λ a left. Some (Some a, left)) (x, rest) e in
      moved (IsOpt k P) d (Word w ∷ ts) p.0.1 rest (Some p.0.0) x p.2
      (led P P (IsOpt k P) (Word k ∷ []) (λ o. (refl, omega arith)) d (Word w ∷ ts) ts p.0.1 p.0.0 (Some p.0.0) (ap (λ y. Word y ∷ ts) (same_bytes-equal w k is))
      (λ ys h. (ys, refl, h)) (part.sound d ts p.0.1 p.0.0 p.1))
  word_opt false d w ts rest x is e = none_front d (Word w ∷ ts) rest x e

  opt_sound : (d : ℕ) → Sound (IsOpt k P) d (optional k (R d))
  opt_sound d [] rest x e = none_front d [] rest x e
  opt_sound d (Word w ∷ ts) rest x e = word_opt (same_bytes w k) d w ts rest x refl e
  opt_sound d (Int w ∷ ts) rest x e = none_front d (Int w ∷ ts) rest x e
  opt_sound d (Sized w v ∷ ts) rest x e = none_front d (Sized w v ∷ ts) rest x e
  opt_sound d (Operator w ∷ ts) rest x e = none_front d (Operator w ∷ ts) rest x e
  opt_sound d (Mark w ∷ ts) rest x e = none_front d (Mark w ∷ ts) rest x e

  module _ {B : Type 0} (Q : Tokens → B → Type 0) (S : ℕ → Read B) (last : Last Q S) (other : (ts : Tokens) (b : B) → Q ts b → begins k ts ≡ false) where
    opt_found : (x : Option A) (b : B) (xs ys : Tokens) → IsOpt k P xs x → Q ys b → (d o : ℕ) → most_open o (xs ++ ys) ≤ o + d → seq (optional k (R d)) (S d) (xs ++ ys) ≡ Some ((x, b), [])
    opt_found None b xs ys h j d o l =
        let is : xs ++ ys ≡ ys = ap (λ us. us ++ ys) h in
        let l' : most_open o ys ≤ o + d = subst (λ us. most_open o us ≤ o + d) is l in
        ap (seq (optional k (R d)) (S d)) is
        ∙ ap (λ q. go_on q (λ a left. go_on (S d left) (λ b end. Some ((a, b), end)))) (absent k (R d) ys (other ys b j))
        ∙ ap (λ q. go_on q (λ b end. Some ((None, b), end))) (last.found ys b j d o l')
    opt_found (Some a) b xs ys h j d o l =
        let l' : most_open o (Word k ∷ (h.0 ++ ys)) ≤ o + d = subst (λ us. most_open o (us ++ ys) ≤ o + d) h.1 l in
        let l2 : most_open o (h.0 ++ ys) ≤ o + d = omega arith in
        ap (λ us. seq (optional k (R d)) (S d) (us ++ ys)) h.1
        ∙ ap (λ q. go_on q (λ a left. go_on (S d left) (λ b end. Some ((a, b), end))))
        (present k (R d) (h.0 ++ ys) ys a same (part.found h.0 a h.2 d o (left_open h.0 ys o (o + d) l2) ys (last.starts ys b j)))
        ∙ ap (λ q. go_on q (λ b end. Some ((Some a, b), end))) (last.found ys b j d o (right_open h.0 ys o (o + d) (part.even h.0 a h.2 o) l2))

    opt_start : (x : Option A) (b : B) (xs ys : Tokens) → IsOpt k P xs x → Q ys b → ends_sig (xs ++ ys) ≡ true
    opt_start None b xs ys h j = subst (λ us. ends_sig (us ++ ys) ≡ true) (sym h) (last.starts ys b j)
    opt_start (Some a) b xs ys h j = subst (λ us. ends_sig (us ++ ys) ≡ true) (sym h.1) refl

    pub opt_last : Last (Then (IsOpt k P) Q) (λ d. seq (optional k (R d)) (S d))
    opt_last = record {
      found = λ ts p h d o l. ap (seq (optional k (R d)) (S d)) h.2 ∙ opt_found p.0 p.1 h.0 h.1 h.3 h.4 d o (subst (λ us. most_open o us ≤ o + d) h.2 l);
      sound = λ d ts rest p e. seq_sound (IsOpt k P) Q (λ d. optional k (R d)) S opt_sound last.sound d ts rest p e;
      starts = λ ts p h. subst (λ us. ends_sig us ≡ true) (sym h.2) (opt_start p.0 p.1 h.0 h.1 h.3 h.4);
    }

  opt_end : (x : Option A) (ts : Tokens) → IsOpt k P ts x → (d o : ℕ) → most_open o ts ≤ o + d → optional k (R d) ts ≡ Some (x, [])
  opt_end None ts h d o l = ap (optional k (R d)) h
  opt_end (Some a) ts h d o l =
      let l' : most_open o (Word k ∷ h.0) ≤ o + d = subst (λ us. most_open o us ≤ o + d) h.1 l in
      let l2 : most_open o h.0 ≤ o + d = omega arith in
      ap (optional k (R d)) h.1 ∙ present k (R d) h.0 [] a same ((ends P R part).found h.0 a h.2 d o l2)

  opt_end_start : (x : Option A) (ts : Tokens) → IsOpt k P ts x → ends_sig ts ≡ true
  opt_end_start None ts h = subst (λ us. ends_sig us ≡ true) (sym h) refl
  opt_end_start (Some a) ts h = subst (λ us. ends_sig us ≡ true) (sym h.1) refl

  pub opt_alone : Last (IsOpt k P) (λ d. optional k (R d))
  opt_alone = record { found = λ ts x h d o l. opt_end x ts h d o l; sound = opt_sound; starts = λ ts x h. opt_end_start x ts h }

opt_other : {A : Type 0} (k j : Text) (P : Tokens → A → Type 0) → same_bytes j k ≡ false → (x : Option A) (ts : Tokens) → IsOpt j P ts x → begins k ts ≡ false
opt_other k j P e None ts h = subst (λ us. begins k us ≡ false) (sym h) refl
opt_other k j P e (Some a) ts h = subst (λ us. begins k us ≡ false) (sym h.1) e

abbrev pub InitPart : Tokens → Option Num → Type 0
InitPart = IsOpt (codes "init") IsAtom

abbrev pub SigAtom : Tokens → Sig × Num → Type 0
SigAtom = Then IsSig IsAtom

abbrev pub ClearPart : Tokens → Option (Sig × Num) → Type 0
ClearPart = IsOpt (codes "clear") SigAtom

abbrev pub ClearParts : Tokens → Option (Sig × Num) × Option Num → Type 0
ClearParts = Then ClearPart InitPart

pub clear_last : Last ClearParts r.clear_parts
unfolding r.clear_parts
clear_last = opt_last (codes "clear") refl SigAtom (λ d. seq (signal_at d) (atom_at d)) (then_part IsSig IsAtom signal_at atom_at sig_part atom_part) InitPart
    (λ d. optional (codes "init") (atom_at d)) (opt_alone (codes "init") refl IsAtom atom_at atom_part) (λ ts x h. opt_other (codes "clear") (codes "init") IsAtom refl x ts h)

clear_other : (x : Option (Sig × Num)) (y : Option Num) (ts xs ys : Tokens) → ts ≡ xs ++ ys → ClearPart xs x → InitPart ys y → begins (codes "enable") ts ≡ false
clear_other None y ts xs ys e h k = subst (λ us. begins (codes "enable") us ≡ false) (sym (e ∙ ap (λ us. us ++ ys) h)) (opt_other (codes "enable") (codes "init") IsAtom refl y ys k)
clear_other (Some a) y ts xs ys e h k = subst (λ us. begins (codes "enable") us ≡ false) (sym (e ∙ ap (λ us. us ++ ys) h.1)) refl

abbrev pub EnablePart : Tokens → Option Sig → Type 0
EnablePart = IsOpt (codes "enable") IsSig

pub reg_last : Last (Then EnablePart ClearParts) r.reg_parts
unfolding r.reg_parts
reg_last = opt_last (codes "enable") refl IsSig signal_at sig_part ClearParts r.clear_parts clear_last (λ ts p h. clear_other p.0 p.1 ts h.0 h.1 h.2 h.3 h.4)
