-- The parts of lines: each relation with its reader.
use Rattle.std.proofs.Common.{◌≡◌, ℕ, zero, suc, ◌+◌, ◌≤◌, true, cond, pos, neg_ℤ, [], ◌∷◌, ◌++◌, Some, None, refl, sym, ◌∙◌, ap, subst, arith, append_assoc}
use Rattle.std.specs.Prelude.{int_le}
use Rattle.hc_tokens.specs.declared.token.Token.TheVariants.{Word, Int, Sized, Operator, Mark}
use Rattle.hc_tokens.specs.declared.token.Mark.TheVariants as mark
use Rattle.hc_tokens.specs.declared.tree.NumOp.TheVariants as num_op
use Rattle.hc_tokens.specs.declared.tree.Num.{Num}
use Rattle.hc_sigtext.specs.declared.tree.IdentText.{IdentText}
use Rattle.hc_sigtext.specs.declared.tree.Sig.{Sig}
use Rattle.hc_lines.specs.declared.tree.BenchValue.{BenchValue}
use Rattle.hc_lines.specs.declared.tree.BenchValue.TheVariants as value
use Rattle.hc_tokens.specs.Words.{is_name}
use Rattle.hc_tokens.specs.Grammar as nums
use Rattle.hc_tokens.specs.Grammar.{Spells, Part as NumPart, Atom, Whole}
use Rattle.hc_sigtext.specs.Grammar as signals
use Rattle.hc_lines.specs.Grammar as g
use Rattle.hc_lines.specs.Grammar.{Text, Tokens, IsName, IsNum, IsAtom, IsIdent, IsSig, IsValue, most_open}
use Rattle.hc_tokens.specs.Reading.{inside, number_at, refuse}
use Rattle.hc_sigtext.specs.SigReading.{ident_at, signal_at}
use Rattle.hc_lines.specs.LineReading as r
use Rattle.hc_lines.specs.LineReading.{atom_at}
use Rattle.hc_tokens.proofs.NumbersFound.{reads, balanced, number-read}
use Rattle.hc_tokens.proofs.NumbersSound.{number-sound, atom-sound, refuses, closes}
use Rattle.hc_sigtext.proofs.SignalsEven.{Even, ident_even, sig_even}
use Rattle.hc_sigtext.proofs.SigFound.{ends_sig, ends-no_index, ident_found, sig_found}
use Rattle.hc_sigtext.proofs.SigSound.{ident_sound, signal_sound}
use Rattle.hc_sigtext.proofs.Fronts.{Front, Sound, of_number, moved, alone, got, cond-some}
use Rattle.hc_lines.proofs.Parts.{Part, Last}

-- ---- starts

spells_start : {part : NumPart} {ts : Tokens} {n : Num} → Spells part ts n → (rest : Tokens) → ends_sig (ts ++ rest) ≡ true
spells_start (nums.literal z) rest = refl
spells_start (nums.name w h) rest = refl
spells_start (nums.group s) rest = refl
spells_start (nums.bits s) rest = refl
spells_start (nums.unsigned s) rest = spells_start s rest
spells_start (nums.negated s) rest = refl
spells_start (nums.factor s) rest = spells_start s rest
spells_start (nums.product {ts = ts} {us = us} o h x y) rest = ap ends_sig (append_assoc ts (Operator o ∷ us) rest) ∙ spells_start x ((Operator o ∷ us) ++ rest)
spells_start (nums.term h s) rest = spells_start s rest
spells_start (nums.sum {ts = ts} {us = us} o h l x y) rest = ap ends_sig (append_assoc ts (Operator o ∷ us) rest) ∙ spells_start x ((Operator o ∷ us) ++ rest)
spells_start (nums.plain h s) rest = spells_start s rest
spells_start (nums.comparison {ts = ts} {us = us} o h k l x y) rest = ap ends_sig (append_assoc ts (Operator o ∷ us) rest) ∙ spells_start x ((Operator o ∷ us) ++ rest)

ident_start : {ts : Tokens} {i : IdentText} → IsIdent ts i → (rest : Tokens) → ends_sig (ts ++ rest) ≡ true
ident_start (signals.bare w h) rest = refl
ident_start (signals.indexed w h s) rest = refl

sig_start : {ts : Tokens} {s : Sig} → IsSig ts s → (rest : Tokens) → ends_sig (ts ++ rest) ≡ true
sig_start (signals.sized w v) rest = refl
sig_start (signals.ident i) rest = ident_start i rest
sig_start (signals.port {ts} p h i) rest = ap ends_sig (append_assoc ts (Mark mark.Dot ∷ Word p ∷ []) rest) ∙ ident_start i ((Mark mark.Dot ∷ Word p ∷ []) ++ rest)
sig_start (signals.call w h s) rest = refl
sig_start (signals.read i s) rest = refl
sig_start (signals.op k h s) rest = refl

-- ---- parts

pub ident_part : Part IsIdent ident_at
ident_part = record {
  found = λ ts i h d o l rest e. ident_found h d o l rest (ends-no_index rest e);
  sound = ident_sound;
  even = λ ts i h. ident_even h;
  starts = λ ts i h rest e. ident_start h rest;
}

pub sig_part : Part IsSig signal_at
sig_part = record {
  found = λ ts s h d o l rest e. sig_found h d o l rest e;
  sound = signal_sound;
  even = λ ts s h. sig_even h;
  starts = λ ts s h rest e. sig_start h rest;
}

atom_at_sound : (d : ℕ) → Sound IsAtom d (atom_at d)
atom_at_sound zero ts rest n e = of_number IsAtom 0 ts rest n (atom-sound refuse 0 (refuses 0) ts rest n e)
atom_at_sound (suc d) ts rest n e = of_number IsAtom (suc d) ts rest n (atom-sound (inside (suc d)) (suc d) (closes (number_at d) d (number-sound d)) ts rest n e)

pub atom_part : Part IsAtom atom_at
atom_part = record {
  found = λ ts n h d o l rest e. reads h d o l rest;
  sound = atom_at_sound;
  even = λ ts n h. balanced h;
  starts = λ ts n h rest e. spells_start h rest;
}

-- a name alone
abbrev pub Named : Tokens → Text → Type 0
Named ts w = (ts ≡ Word w ∷ []) × IsName w

name_sound : (d : ℕ) → Sound Named d r.name
name_sound d [] rest w e = absurd cc
name_sound d (Word v ∷ ts) rest w e =
    let c = cond-some (is_name v) (got v ts) (w, rest) e in
    moved Named d (Word v ∷ ts) ts rest v w c.1 (alone Named (Word v ∷ []) (λ o. (refl, omega arith)) d (Word v ∷ ts) ts v refl (refl, c.0))
name_sound d (Int v ∷ ts) rest w e = absurd cc
name_sound d (Sized v u ∷ ts) rest w e = absurd cc
name_sound d (Operator v ∷ ts) rest w e = absurd cc
name_sound d (Mark v ∷ ts) rest w e = absurd cc

pub name_part : Part Named (λ d. r.name)
name_part = record {
  found = λ ts w h d o l rest e. ap (λ us. r.name (us ++ rest)) h.0 ∙ ap (λ b. cond b (got w rest) None) h.1;
  sound = name_sound;
  even = λ ts w h o. subst (λ us. Rattle.hc_tokens.proofs.NumbersFound.open_after o us ≡ o) (sym h.0) refl;
  starts = λ ts w h rest e. subst (λ us. ends_sig (us ++ rest) ≡ true) (sym h.0) refl;
}

pub num_last : Last IsNum number_at
num_last = record {
  found = λ ts n h d o l. number_found ts n h d o l;
  sound = λ d ts rest n e. of_number IsNum d ts rest n (number-sound d ts rest n e);
  starts = λ ts n h. subst (λ us. ends_sig us ≡ true) (Rattle.hc_tokens.proofs.NumbersSound.append-nil ts) (spells_start h []);
}
  where
    number_found : (ts : Tokens) (n : Num) → IsNum ts n → (d o : ℕ) → most_open o ts ≤ o + d → number_at d ts ≡ Some (n, [])
    number_found ts n h d o l = ap (number_at d) (sym (Rattle.hc_tokens.proofs.NumbersSound.append-nil ts)) ∙ reads h d o l [] refl refl refl

-- ---- values of a bench

minus_sound : (d : ℕ) (ts rest : Tokens) (v : BenchValue) → r.minus_value ts ≡ Some (v, rest) → Front IsValue d (Operator num_op.Sub ∷ ts) v rest
minus_sound d [] rest v e = absurd cc
minus_sound d (Int z ∷ ts) rest v e =
    let c = cond-some (int_le (pos 0) z) (got (value.Plain (neg_ℤ z)) ts) (v, rest) e in
    moved IsValue d (Operator num_op.Sub ∷ Int z ∷ ts) ts rest (value.Plain (neg_ℤ z)) v c.1
    (alone IsValue (Operator num_op.Sub ∷ Int z ∷ []) (λ o. (refl, omega arith)) d (Operator num_op.Sub ∷ Int z ∷ ts) ts (value.Plain (neg_ℤ z)) refl (g.minus z c.0))
minus_sound d (Word w ∷ ts) rest v e = absurd cc
minus_sound d (Sized w u ∷ ts) rest v e = absurd cc
minus_sound d (Operator w ∷ ts) rest v e = absurd cc
minus_sound d (Mark w ∷ ts) rest v e = absurd cc

value_sound : (d : ℕ) → Sound IsValue d r.value_of
value_sound d [] rest v e = absurd cc
value_sound d (Int z ∷ ts) rest v e = moved IsValue d (Int z ∷ ts) ts rest (value.Plain z) v e (alone IsValue (Int z ∷ []) (λ o. (refl, omega arith)) d (Int z ∷ ts) ts (value.Plain z) refl (g.plus z))
value_sound d (Sized w u ∷ ts) rest v e = moved IsValue d (Sized w u ∷ ts) ts rest (value.Sized w u) v e
    (alone IsValue (Sized w u ∷ []) (λ o. (refl, omega arith)) d (Sized w u ∷ ts) ts (value.Sized w u) refl (g.sized w u))
value_sound d (Operator num_op.Sub ∷ ts) rest v e = minus_sound d ts rest v e
value_sound d (Operator num_op.Add ∷ ts) rest v e = absurd cc
value_sound d (Operator num_op.Mul ∷ ts) rest v e = absurd cc
value_sound d (Operator num_op.Div ∷ ts) rest v e = absurd cc
value_sound d (Operator num_op.Rem ∷ ts) rest v e = absurd cc
value_sound d (Operator num_op.Eq ∷ ts) rest v e = absurd cc
value_sound d (Operator num_op.Ne ∷ ts) rest v e = absurd cc
value_sound d (Operator num_op.Lt ∷ ts) rest v e = absurd cc
value_sound d (Operator num_op.Le ∷ ts) rest v e = absurd cc
value_sound d (Operator num_op.Gt ∷ ts) rest v e = absurd cc
value_sound d (Operator num_op.Ge ∷ ts) rest v e = absurd cc
value_sound d (Word w ∷ ts) rest v e = absurd cc
value_sound d (Mark w ∷ ts) rest v e = absurd cc

value_found : {ts : Tokens} {v : BenchValue} → IsValue ts v → (rest : Tokens) → r.value_of (ts ++ rest) ≡ Some (v, rest)
value_found (g.plus z) rest = refl
value_found (g.minus z h) rest = ap (λ b. cond b (got (value.Plain (neg_ℤ z)) rest) None) h
value_found (g.sized w u) rest = refl

value_even : {ts : Tokens} {v : BenchValue} → IsValue ts v → Even ts
value_even (g.plus z) = λ o. refl
value_even (g.minus z h) = λ o. refl
value_even (g.sized w u) = λ o. refl

value_start : {ts : Tokens} {v : BenchValue} → IsValue ts v → (rest : Tokens) → ends_sig (ts ++ rest) ≡ true
value_start (g.plus z) rest = refl
value_start (g.minus z h) rest = refl
value_start (g.sized w u) rest = refl

pub value_part : Part IsValue (λ d. r.value_of)
value_part = record { found = λ ts v h d o l rest e. value_found h rest; sound = value_sound; even = λ ts v h. value_even h; starts = λ ts v h rest e. value_start h rest }
