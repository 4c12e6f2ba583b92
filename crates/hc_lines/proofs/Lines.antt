-- Registers and instances, and the theorem of lines.
use Rattle.std.proofs.Common.{◌≡◌, ℕ, ◌+◌, ◌≤◌, Bool, true, false, cond, List, [], ◌∷◌, ◌++◌, map, length, Option, Some, None, codes, refl, sym, ◌∙◌, ap, subst, arith, append_assoc}
use Rattle.hc_tokens.specs.declared.token.Token.TheVariants.{Word, Int, Sized, Operator, Mark}
use Rattle.hc_tokens.specs.declared.token.Mark.TheVariants as mark
use Rattle.hc_tokens.specs.declared.tree.Num.{Num}
use Rattle.hc_sigtext.specs.declared.tree.IdentText.{IdentText}
use Rattle.hc_sigtext.specs.declared.tree.Sig.{Sig}
use Rattle.hc_lines.specs.declared.tree.What.{What}
use Rattle.hc_lines.specs.declared.tree.What.TheVariants as what
use Rattle.hc_lines.specs.declared.tree.BenchWhat.{BenchWhat}
use Rattle.hc_lines.specs.declared.line.Keyword.{Keyword}
use Rattle.hc_lines.specs.declared.line.Keyword.TheVariants as key
use Rattle.hc_tokens.specs.Tokens.{same_bytes}
use Rattle.hc_tokens.specs.Grammar as nums
use Rattle.hc_lines.specs.Grammar as g
use Rattle.hc_lines.specs.Grammar.{Text, Tokens, Line, IsName, IsAtom, AreAtoms, IsIdent, IsSig, AreConns, IsEnable, IsClear, IsInit, IsForm, IsSimple, IsStep, IsLine, most_open}
use Rattle.hc_tokens.specs.Reading.{go_on}
use Rattle.hc_sigtext.specs.SigReading.{bind, ident_at, signal_at}
use Rattle.hc_lines.specs.LineReading as r
use Rattle.hc_lines.specs.LineReading.{seq, atom_at, all_items, past_end, past_colon, past_equals, written, line_at, line_by}
use Rattle.hc_tokens.proofs.NumbersFound.{open_after, left_open, right_open}
use Rattle.hc_tokens.proofs.NumbersSound.{same_bytes-equal}
use Rattle.hc_sigtext.proofs.SignalsEven.{sig_even}
use Rattle.hc_sigtext.proofs.SigFound.{ends_sig, sig_found}
use Rattle.hc_sigtext.proofs.SigSound.{signal_sound}
use Rattle.hc_sigtext.proofs.Fronts.{Front, Sound, joined, moved, mapped, got, go_on-some, bind-some, some-first, some-second}
use Rattle.hc_lines.proofs.Parts.{Part, Last, Then, then_last, line_found, line_sound}
use Rattle.hc_lines.proofs.LineParts.{ident_part, sig_part, atom_part, name_part, Named}
use Rattle.hc_lines.proofs.ItemParts.{AreItems, items_last, all_found, all_took}
use Rattle.hc_lines.proofs.RegParts.{EnablePart, ClearPart, ClearParts, InitPart, reg_last}
use Rattle.hc_lines.proofs.LineLaws as l
use Rattle.hc_lines.proofs.LineLaws.{Spelled, Found, keyed, then_elim, atoms_items, items_atoms, atom_long}

-- ---- registers

enable_part : {ts : Tokens} {x : Option Sig} → IsEnable ts x → EnablePart ts x
enable_part g.absent = refl
enable_part (g.present {ts} h) = (ts, refl, h)

part_enable : (x : Option Sig) (ts : Tokens) → EnablePart ts x → IsEnable ts x
part_enable None ts h = subst (λ us. IsEnable us None) (sym h) g.absent
part_enable (Some s) ts h = subst (λ us. IsEnable us (Some s)) (sym h.1) (g.present h.2)

clear_part : {ts : Tokens} {x : Option (Sig × Num)} → IsClear ts x → ClearPart ts x
clear_part g.absent = refl
clear_part (g.present {ts} {us} h k) = (ts ++ us, refl, (ts, us, refl, h, k))

part_clear : (x : Option (Sig × Num)) (ts : Tokens) → ClearPart ts x → IsClear ts x
part_clear None ts h = subst (λ us. IsClear us None) (sym h) g.absent
part_clear (Some p) ts h = clear_of p h.0 ts h.1 h.2
  where
    clear_of : (p : Sig × Num) (xs ts : Tokens) → ts ≡ Word (codes "clear") ∷ xs → Then IsSig IsAtom xs p → IsClear ts (Some p)
    clear_of p xs ts e t = subst (λ us. IsClear us (Some p)) (sym e) (then_elim IsSig IsAtom (λ us. IsClear (Word (codes "clear") ∷ us) (Some p)) xs p t (λ us vs h k. g.present h k))

init_part : {ts : Tokens} {x : Option Num} → IsInit ts x → InitPart ts x
init_part g.absent = refl
init_part (g.present {ts} h) = (ts, refl, h)

part_init : (x : Option Num) (ts : Tokens) → InitPart ts x → IsInit ts x
part_init None ts h = subst (λ us. IsInit us None) (sym h) g.absent
part_init (Some n) ts h = subst (λ us. IsInit us (Some n)) (sym h.1) (g.present h.2)

abbrev RegTail : Tokens → Option Sig × (Option (Sig × Num) × Option Num) → Type 0
RegTail = Then EnablePart ClearParts

abbrev RegRest : Tokens → Sig × (Option Sig × (Option (Sig × Num) × Option Num)) → Type 0
RegRest = Then IsSig RegTail

reg_all : Last (Then IsIdent RegRest) (λ d. seq (ident_at d) (seq (signal_at d) (r.reg_parts d)))
reg_all = then_last IsIdent RegRest ident_at (λ d. seq (signal_at d) (r.reg_parts d)) ident_part (then_last IsSig RegTail signal_at r.reg_parts sig_part reg_last)

pub reg_found : (ts us es cs ns : Tokens) (i : IdentText) (s : Sig) (e : Option Sig) (c : Option (Sig × Num)) (n : Option Num) → IsIdent ts i → IsSig us s → IsEnable es e
    → IsClear cs c → IsInit ns n → Found key.Reg (ts ++ (us ++ (es ++ (cs ++ ns)))) (g.Simple (what.Reg i s e c n))
unfolding r.line_by r.reg_line
reg_found ts us es cs ns i s e c n h k x y z d l = line_found (Then IsIdent RegRest) (λ d. seq (ident_at d) (seq (signal_at d) (r.reg_parts d))) reg_all
    (λ p. g.Simple (what.Reg p.0 p.1.0 p.1.1.0 p.1.1.1.0 p.1.1.1.1)) (ts ++ (us ++ (es ++ (cs ++ ns)))) (i, (s, (e, (c, n))))
    (ts, us ++ (es ++ (cs ++ ns)), refl, h, (us, es ++ (cs ++ ns), refl, k, (es, cs ++ ns, refl, enable_part x, (cs, ns, refl, clear_part y, init_part z)))) d 0 (omega arith)

pub reg_sound : (d : ℕ) (ts : Tokens) (l : Line) → line_by key.Reg d ts ≡ Some l → Spelled key.Reg d ts l
unfolding r.line_by r.reg_line
reg_sound d ts l e =
    let s = line_sound (Then IsIdent RegRest) (λ d. seq (ident_at d) (seq (signal_at d) (r.reg_parts d))) reg_all (λ p. g.Simple (what.Reg p.0 p.1.0 p.1.1.0 p.1.1.1.0 p.1.1.1.1)) d ts l e in
    let q : Line = g.Simple (what.Reg s.0.0 s.0.1.0 s.0.1.1.0 s.0.1.1.1.0 s.0.1.1.1.1) in (
      subst (λ x. IsForm (Word (written key.Reg) ∷ ts) x) s.1 (then_elim IsIdent RegRest
          (λ us. IsForm (Word (written key.Reg) ∷ us) (g.Simple (what.Reg s.0.0 s.0.1.0 s.0.1.1.0 s.0.1.1.1.0 s.0.1.1.1.1))) ts s.0 s.2 (λ xs ys x y.
          then_elim IsSig RegTail (λ us. IsForm (Word (written key.Reg) ∷ (xs ++ us)) (g.Simple (what.Reg s.0.0 s.0.1.0 s.0.1.1.0 s.0.1.1.1.0 s.0.1.1.1.1))) ys s.0.1 y (λ us vs k j.
          then_elim EnablePart ClearParts (λ ws. IsForm (Word (written key.Reg) ∷ (xs ++ (us ++ ws))) (g.Simple (what.Reg s.0.0 s.0.1.0 s.0.1.1.0 s.0.1.1.1.0 s.0.1.1.1.1))) vs s.0.1.1 j (λ es fs m o.
          then_elim ClearPart InitPart (λ ws. IsForm (Word (written key.Reg) ∷ (xs ++ (us ++ (es ++ ws)))) (g.Simple (what.Reg s.0.0 s.0.1.0 s.0.1.1.0 s.0.1.1.1.0 s.0.1.1.1.1))) fs
          s.0.1.1.1 o (λ cs ns v w.
          g.simple (g.reg_line x k (part_enable s.0.1.1.0 es m) (part_clear s.0.1.1.1.0 cs v) (part_init s.0.1.1.1.1 ns w))))))),
      s.3,
    )

-- ---- instances

abbrev tail_or : Tokens → Option Tokens → Tokens
tail_or ts None = ts
tail_or ts (Some us) = us

equals-some : (ts rest : Tokens) → past_equals ts ≡ Some rest → ts ≡ Mark mark.Equals ∷ rest
equals-some [] rest e = absurd cc
equals-some (Word w ∷ ts) rest e = absurd cc
equals-some (Int w ∷ ts) rest e = absurd cc
equals-some (Sized w v ∷ ts) rest e = absurd cc
equals-some (Operator w ∷ ts) rest e = absurd cc
equals-some (Mark mark.OpenRound ∷ ts) rest e = absurd cc
equals-some (Mark mark.CloseRound ∷ ts) rest e = absurd cc
equals-some (Mark mark.OpenSquare ∷ ts) rest e = absurd cc
equals-some (Mark mark.CloseSquare ∷ ts) rest e = absurd cc
equals-some (Mark mark.Comma ∷ ts) rest e = absurd cc
equals-some (Mark mark.Colon ∷ ts) rest e = absurd cc
equals-some (Mark mark.Equals ∷ ts) rest e = ap (λ x. Mark mark.Equals ∷ tail_or ts x) e
equals-some (Mark mark.Dot ∷ ts) rest e = absurd cc

colon-some : (ts rest : Tokens) → past_colon ts ≡ Some rest → ts ≡ Mark mark.Colon ∷ rest
colon-some [] rest e = absurd cc
colon-some (Word w ∷ ts) rest e = absurd cc
colon-some (Int w ∷ ts) rest e = absurd cc
colon-some (Sized w v ∷ ts) rest e = absurd cc
colon-some (Operator w ∷ ts) rest e = absurd cc
colon-some (Mark mark.OpenRound ∷ ts) rest e = absurd cc
colon-some (Mark mark.CloseRound ∷ ts) rest e = absurd cc
colon-some (Mark mark.OpenSquare ∷ ts) rest e = absurd cc
colon-some (Mark mark.CloseSquare ∷ ts) rest e = absurd cc
colon-some (Mark mark.Comma ∷ ts) rest e = absurd cc
colon-some (Mark mark.Colon ∷ ts) rest e = ap (λ x. Mark mark.Colon ∷ tail_or ts x) e
colon-some (Mark mark.Equals ∷ ts) rest e = absurd cc
colon-some (Mark mark.Dot ∷ ts) rest e = absurd cc

abbrev IsConn : Tokens → Text × Sig → Type 0
IsConn ts p = (us : Tokens) × (ts ≡ Word p.0 ∷ Mark mark.Equals ∷ us) × IsName p.0 × IsSig us p.1

conn_found : (us rest : Tokens) (p : Text) (s : Sig) → IsName p → IsSig us s → (d o : ℕ) → most_open o us ≤ o + d → ends_sig rest ≡ true
    → r.conn d (Word p ∷ Mark mark.Equals ∷ (us ++ rest)) ≡ Some ((p, s), rest)
conn_found us rest p s n h d o l e =
    ap (λ b. go_on (cond b (got p (Mark mark.Equals ∷ (us ++ rest))) None) (λ p left. bind (past_equals left) (λ more. go_on (signal_at d more) (λ s end. Some ((p, s), end))))) n
    ∙ ap (λ x. go_on x (λ s end. Some ((p, s), end))) (sig_found h d o l rest e)

conn_sound : (d : ℕ) → Sound IsConn d (r.conn d)
conn_sound d ts rest c e =
    let p = go_on-some (r.name ts) (λ p left. bind (past_equals left) (λ more. go_on (signal_at d more) (λ s end. Some ((p, s), end)))) (c, rest) e in
    let q = bind-some (past_equals p.0.1) (λ more. go_on (signal_at d more) (λ s end. Some ((p.0.0, s), end))) (c, rest) p.2 in
    let t = go_on-some (signal_at d q.0) (λ s end. Some ((p.0.0, s), end)) (c, rest) q.2 in
    moved IsConn d ts t.0.1 rest (p.0.0, t.0.0) c t.2 (joined Named IsSig IsConn (Mark mark.Equals ∷ []) (λ o. (refl, omega arith)) d ts p.0.1 q.0 t.0.1 p.0.0 t.0.0 (p.0.0, t.0.0)
    (equals-some p.0.1 q.0 q.1) (λ xs ys x y. (ys, ap (λ us. us ++ (Mark mark.Equals ∷ ys)) x.0, x.1, y)) (name_part.sound d ts p.0.1 p.0.0 p.1) (signal_sound d q.0 t.0.1 t.0.0 t.1))

conn_part : Part IsConn r.conn
conn_part = record {
  found = λ ts c h d o l rest e. ap (λ us. r.conn d (us ++ rest)) h.1 ∙ conn_found h.0 rest c.0 c.1 h.2 h.3 d o
      (let l' : most_open o (Word c.0 ∷ Mark mark.Equals ∷ h.0) ≤ o + d = subst (λ us. most_open o us ≤ o + d) h.1 l in omega arith) e;
  sound = conn_sound;
  even = λ ts c h o. subst (λ us. open_after o us ≡ o) (sym h.1) (sig_even h.3 o);
  starts = λ ts c h rest e. subst (λ us. ends_sig (us ++ rest) ≡ true) (sym h.1) refl;
}

conn_long : (ts : Tokens) (c : Text × Sig) → IsConn ts c → 1 ≤ length ts
conn_long ts c h = subst (λ us. 1 ≤ length us) (sym h.1) (omega arith)

conns_items : {ts : Tokens} {cs : List (Text × Sig)} → AreConns ts cs → AreItems IsConn ts cs
conns_items g.none = refl
conns_items (g.more {ts} {us} p n h k) = (Word p ∷ Mark mark.Equals ∷ ts, us, refl, (ts, refl, n, h), conns_items k)

items_conns : (cs : List (Text × Sig)) (ts : Tokens) → AreItems IsConn ts cs → AreConns ts cs
items_conns [] ts h = subst (λ us. AreConns us []) (sym h) g.none
items_conns (c ∷ cs) ts h = conns_step c cs ts h.0 h.1 h.2 h.3 (items_conns cs h.1 h.4)
  where
    conns_step : (c : Text × Sig) (cs : List (Text × Sig)) (ts xs ys : Tokens) → ts ≡ xs ++ ys → IsConn xs c → AreConns ys cs → AreConns ts (c ∷ cs)
    conns_step c cs ts xs ys e n k = subst (λ us. AreConns us (c ∷ cs)) (sym (e ∙ ap (λ us. us ++ ys) n.1)) (g.more c.0 n.2 n.3 k)

conns_last : Last (AreItems IsConn) (λ d. all_items past_end (r.conn d))
conns_last = items_last IsConn r.conn conn_part conn_long

no_colon : (xs ys : Tokens) (n : Num) → IsAtom xs n → past_colon (xs ++ ys) ≡ None
no_colon xs ys n (nums.literal z) = refl
no_colon xs ys n (nums.name w h) = refl
no_colon xs ys n (nums.group s) = refl
no_colon xs ys n (nums.bits s) = refl

abbrev Args : Tokens → List Num × List (Text × Sig) → Type 0
Args ts p = (us : Tokens) × (vs : Tokens) × (ts ≡ us ++ (Mark mark.Colon ∷ vs)) × AreItems IsAtom us p.0 × AreItems IsConn vs p.1

atoms_even : (ns : List Num) (ts : Tokens) → AreItems IsAtom ts ns → (o : ℕ) → open_after o ts ≡ o
atoms_even [] ts h o = subst (λ us. open_after o us ≡ o) (sym h) refl
atoms_even (n ∷ ns) ts h o = subst (λ us. open_after o us ≡ o) (sym h.2) (Rattle.hc_sigtext.proofs.Fronts.even_join h.0 h.1 o (atom_part.even h.0 n h.3 o) (atoms_even ns h.1 h.4 o))

abbrev args_at : ℕ → Tokens → Option ((List Num × List (Text × Sig)) × Tokens)
args_at d = seq (all_items past_colon (atom_at d)) (all_items past_end (r.conn d))

args_found : (us vs : Tokens) (ns : List Num) (cs : List (Text × Sig)) → AreItems IsAtom us ns → AreItems IsConn vs cs → (d o : ℕ)
    → most_open o (us ++ (Mark mark.Colon ∷ vs)) ≤ o + d → args_at d (us ++ (Mark mark.Colon ∷ vs)) ≡ Some ((ns, cs), [])
args_found us vs ns cs h k d o l =
    let inner : most_open o (Mark mark.Colon ∷ vs) ≤ o + d = right_open us (Mark mark.Colon ∷ vs) o (o + d) (atoms_even ns us h o) l in
    let l2 : most_open o vs ≤ o + d = omega arith in
    ap (λ q. go_on q (λ a left. go_on (all_items past_end (r.conn d) left) (λ b end. Some ((a, b), end))))
    (all_found IsAtom atom_at atom_part past_colon no_colon atom_long ns us (Mark mark.Colon ∷ vs) vs h refl refl d o (left_open us (Mark mark.Colon ∷ vs) o (o + d) l))
    ∙ ap (λ q. go_on q (λ b end. Some ((ns, b), end))) (conns_last.found vs cs k d o l2)

args_sound : (d : ℕ) → Sound Args d (args_at d)
args_sound d ts rest p e =
    let s = go_on-some (all_items past_colon (atom_at d) ts) (λ a left. go_on (all_items past_end (r.conn d) left) (λ b end. Some ((a, b), end))) (p, rest) e in
    let t = go_on-some (all_items past_end (r.conn d) s.0.1) (λ b end. Some ((s.0.0, b), end)) (p, rest) s.2 in
    let k = all_took IsAtom atom_at atom_part past_colon no_colon atom_long d ts s.0.1 s.0.0 s.1 in
    let front : Front (AreItems IsAtom) d ts s.0.0 k.1 = subst (λ x. Front (AreItems IsAtom) d ts x k.1) (sym k.2) k.4 in
    moved Args d ts t.0.1 rest (s.0.0, t.0.0) p t.2 (joined (AreItems IsAtom) (AreItems IsConn) Args (Mark mark.Colon ∷ [])
    (λ o. (refl, omega arith)) d ts k.1 s.0.1 t.0.1 s.0.0 t.0.0 (s.0.0, t.0.0) (colon-some k.1 s.0.1 k.3) (λ xs ys x y. (xs, ys, refl, x, y)) front (conns_last.sound d s.0.1 t.0.1 t.0.0 t.1))

args_start : (us vs : Tokens) (ns : List Num) → AreItems IsAtom us ns → ends_sig (us ++ (Mark mark.Colon ∷ vs)) ≡ true
args_start us vs [] h = subst (λ x. ends_sig (x ++ (Mark mark.Colon ∷ vs)) ≡ true) (sym h) refl
args_start us vs (n ∷ ns) h = subst (λ x. ends_sig (x ++ (Mark mark.Colon ∷ vs)) ≡ true) (sym h.2)
    (subst (λ x. ends_sig x ≡ true) (sym (append_assoc h.0 h.1 (Mark mark.Colon ∷ vs))) (atom_part.starts h.0 n h.3 (h.1 ++ (Mark mark.Colon ∷ vs)) (args_start h.1 vs ns h.4)))

args_last : Last Args args_at
args_last = record {
  found = λ ts p h d o l. ap (args_at d) h.2 ∙ args_found h.0 h.1 p.0 p.1 h.3 h.4 d o (subst (λ us. most_open o us ≤ o + d) h.2 l);
  sound = args_sound;
  starts = λ ts p h. subst (λ us. ends_sig us ≡ true) (sym h.2) (args_start h.0 h.1 p.0 h.3);
}

abbrev InstRest : Tokens → Text × (List Num × List (Text × Sig)) → Type 0
InstRest = Then Named Args

inst_all : Last (Then IsIdent InstRest) (λ d. seq (ident_at d) (seq r.name (args_at d)))
inst_all = then_last IsIdent InstRest ident_at (λ d. seq r.name (args_at d)) ident_part (then_last Named Args (λ d. r.name) args_at name_part args_last)

pub inst_found : (ts us vs : Tokens) (i : IdentText) (w : Text) (ns : List Num) (cs : List (Text × Sig)) → IsIdent ts i → IsName w → AreAtoms us ns → AreConns vs cs
    → Found key.Inst (ts ++ (Word w ∷ (us ++ (Mark mark.Colon ∷ vs)))) (g.Simple (what.Inst i w ns cs))
unfolding r.line_by r.inst_line
inst_found ts us vs i w ns cs h n k j d l = line_found (Then IsIdent InstRest) (λ d. seq (ident_at d) (seq r.name (args_at d))) inst_all
    (λ p. g.Simple (what.Inst p.0 p.1.0 p.1.1.0 p.1.1.1)) (ts ++ (Word w ∷ (us ++ (Mark mark.Colon ∷ vs)))) (i, (w, (ns, cs)))
    (ts, Word w ∷ (us ++ (Mark mark.Colon ∷ vs)), refl, h, (Word w ∷ [], us ++ (Mark mark.Colon ∷ vs), refl, (refl, n), (us, vs, refl, atoms_items k, conns_items j))) d 0 (omega arith)

args_elim : (Goal : Tokens → Type 0) (ts : Tokens) (p : List Num × List (Text × Sig)) → Args ts p
    → ((us vs : Tokens) → AreItems IsAtom us p.0 → AreItems IsConn vs p.1 → Goal (us ++ (Mark mark.Colon ∷ vs))) → Goal ts
args_elim Goal ts p h f = subst Goal (sym h.2) (f h.0 h.1 h.3 h.4)

pub inst_sound : (d : ℕ) (ts : Tokens) (l : Line) → line_by key.Inst d ts ≡ Some l → Spelled key.Inst d ts l
unfolding r.line_by r.inst_line
inst_sound d ts l e =
    let s = line_sound (Then IsIdent InstRest) (λ d. seq (ident_at d) (seq r.name (args_at d))) inst_all (λ p. g.Simple (what.Inst p.0 p.1.0 p.1.1.0 p.1.1.1)) d ts l e in (
      subst (λ x. IsForm (Word (written key.Inst) ∷ ts) x) s.1 (then_elim IsIdent InstRest
          (λ us. IsForm (Word (written key.Inst) ∷ us) (g.Simple (what.Inst s.0.0 s.0.1.0 s.0.1.1.0 s.0.1.1.1))) ts s.0 s.2 (λ xs ys x y.
          then_elim Named Args (λ us. IsForm (Word (written key.Inst) ∷ (xs ++ us)) (g.Simple (what.Inst s.0.0 s.0.1.0 s.0.1.1.0 s.0.1.1.1))) ys s.0.1 y (λ us vs n a.
          subst (λ z. IsForm (Word (written key.Inst) ∷ (xs ++ (z ++ vs))) (g.Simple (what.Inst s.0.0 s.0.1.0 s.0.1.1.0 s.0.1.1.1))) (sym n.0)
          (args_elim (λ z. IsForm (Word (written key.Inst) ∷ (xs ++ (Word s.0.1.0 ∷ z))) (g.Simple (what.Inst s.0.0 s.0.1.0 s.0.1.1.0 s.0.1.1.1))) vs s.0.1.1 a
          (λ bs cs h k. g.simple (g.inst_line s.0.1.0 n.1 x (items_atoms s.0.1.1.0 bs h) (items_conns s.0.1.1.1 cs k))))))),
      s.3,
    )

-- ---- writes

abbrev WriteRest : Tokens → Sig × (Sig × Sig) → Type 0
WriteRest = Then IsSig (Then IsSig IsSig)

sig_last : Last IsSig signal_at
sig_last = Rattle.hc_lines.proofs.Parts.ends IsSig signal_at sig_part

write_all : Last (Then IsIdent WriteRest) (λ d. seq (ident_at d) (seq (signal_at d) (seq (signal_at d) (signal_at d))))
write_all = then_last IsIdent WriteRest ident_at (λ d. seq (signal_at d) (seq (signal_at d) (signal_at d))) ident_part
    (then_last IsSig (Then IsSig IsSig) signal_at (λ d. seq (signal_at d) (signal_at d)) sig_part (then_last IsSig IsSig signal_at signal_at sig_part sig_last))

write_found : (ts us vs ws : Tokens) (i : IdentText) (e a v : Sig) → IsIdent ts i → IsSig us e → IsSig vs a → IsSig ws v → Found key.Write (ts ++ (us ++ (vs ++ ws))) (g.Simple (what.Write i e a v))
unfolding r.line_by r.write_line r.write_parts r.two_signals
write_found ts us vs ws i e a v h k j m d l = line_found (Then IsIdent WriteRest) (λ d. seq (ident_at d) (seq (signal_at d) (seq (signal_at d) (signal_at d)))) write_all
    (λ p. g.Simple (what.Write p.0 p.1.0 p.1.1.0 p.1.1.1)) (ts ++ (us ++ (vs ++ ws))) (i, (e, (a, v))) (ts, us ++ (vs ++ ws), refl, h, (us, vs ++ ws, refl, k, (vs, ws, refl, j, m))) d 0 (omega arith)

write_sound : (d : ℕ) (ts : Tokens) (l : Line) → line_by key.Write d ts ≡ Some l → Spelled key.Write d ts l
unfolding r.line_by r.write_line r.write_parts r.two_signals
write_sound d ts l e =
    let s = line_sound (Then IsIdent WriteRest) (λ d. seq (ident_at d) (seq (signal_at d) (seq (signal_at d) (signal_at d)))) write_all
    (λ p. g.Simple (what.Write p.0 p.1.0 p.1.1.0 p.1.1.1)) d ts l e in (
      subst (λ x. IsForm (Word (written key.Write) ∷ ts) x) s.1 (then_elim IsIdent WriteRest
          (λ us. IsForm (Word (written key.Write) ∷ us) (g.Simple (what.Write s.0.0 s.0.1.0 s.0.1.1.0 s.0.1.1.1))) ts s.0 s.2 (λ xs ys x y.
          then_elim IsSig (Then IsSig IsSig) (λ us. IsForm (Word (written key.Write) ∷ (xs ++ us)) (g.Simple (what.Write s.0.0 s.0.1.0 s.0.1.1.0 s.0.1.1.1))) ys s.0.1 y (λ us vs k j.
          then_elim IsSig IsSig (λ z. IsForm (Word (written key.Write) ∷ (xs ++ (us ++ z))) (g.Simple (what.Write s.0.0 s.0.1.0 s.0.1.1.0 s.0.1.1.1))) vs s.0.1.1 j
          (λ as_ bs m n. g.simple (g.write_line x k m n))))),
      s.3,
    )

-- ---- the theorem

keyed_found : (k : Keyword) (ts : Tokens) (l : Line) → Found k ts l → (d : ℕ) → most_open 0 (Word (written k) ∷ ts) ≤ d → line_at d (Word (written k) ∷ ts) ≡ Some l
keyed_found k ts l f d h = keyed k d ts ∙ f d (omega arith)

abbrev Read : Tokens → Line → Type 0
Read ts l = (d : ℕ) → most_open 0 ts ≤ d → line_at d ts ≡ Some l

simple_read : {ts : Tokens} {w : What} → IsSimple ts w → Read ts (g.Simple w)
simple_read (g.let_line {ts} {us} {i} {s} h k) = keyed_found key.Let (ts ++ us) (g.Simple (what.Let i s)) (l.let_found ts us i s h k)
simple_read (g.wire_line {ts} {us} {i} {n} h k) = keyed_found key.Wire (ts ++ us) (g.Simple (what.Wire i n)) (l.wire_found ts us i n h k)
simple_read (g.assign_line {ts} {us} {i} {s} h k) = keyed_found key.Assign (ts ++ us) (g.Simple (what.Assign i s)) (l.assign_found ts us i s h k)
simple_read (g.label_line {ts} {i} w n h) = keyed_found key.Label (ts ++ (Word w ∷ [])) (g.Simple (what.Label i w)) (l.label_found ts i w h n)
simple_read (g.reg_line {ts} {us} {es} {cs} {ns} {i} {s} {e} {c} {n} h k x y z) = keyed_found key.Reg (ts ++ (us ++ (es ++ (cs ++ ns)))) (g.Simple (what.Reg i s e c n))
    (reg_found ts us es cs ns i s e c n h k x y z)
simple_read (g.memory_line {ts} {us} {vs} {i} {size = a} {width = b} h k j) = keyed_found key.Memory (ts ++ (us ++ vs)) (g.Simple (what.Memory i a b)) (l.memory_found ts us vs i a b h k j)
simple_read (g.write_line {ts} {us} {vs} {ws} {i} {e} {a} {v} h k j m) = keyed_found key.Write (ts ++ (us ++ (vs ++ ws))) (g.Simple (what.Write i e a v)) (write_found ts us vs ws i e a v h k j m)
simple_read (g.inst_line {ts} {us} {vs} {i} {args = ns} {conns = cs} w n h k j) = keyed_found key.Inst (ts ++ (Word w ∷ (us ++ (Mark mark.Colon ∷ vs))))
    (g.Simple (what.Inst i w ns cs)) (inst_found ts us vs i w ns cs h n k j)

step_read : {ts : Tokens} {s : BenchWhat} → IsStep ts s → Read ts (g.Step s)
step_read (g.set {ts} {v} p n h) = keyed_found key.Set (Word p ∷ ts) _ (l.set_found ts p v n h)
step_read g.cycle = keyed_found key.Cycle [] _ l.cycle_found
step_read (g.cycles z) = keyed_found key.Cycle (Int z ∷ []) _ (l.cycles_found z)
step_read g.reset = keyed_found key.Reset [] _ l.reset_found

-- what is spelled as a line is read
pub form_read : {ts : Tokens} {x : Line} → IsForm ts x → Read ts x
form_read (g.circuit w ps n h) = keyed_found key.Circuit (Word w ∷ map Word ps) (g.Circuit w ps) (l.circuit_found w ps n h)
form_read (g.input {ts} {n} w h k) = keyed_found key.Input (Word w ∷ ts) (g.Port true w n) (l.input_found ts w n h k)
form_read (g.output {ts} {n} w h k) = keyed_found key.Output (Word w ∷ ts) (g.Port false w n) (l.output_found ts w n h k)
form_read (g.simple h) = simple_read h
form_read (g.for_line {ts} {us} {a} {b} v n h k) = keyed_found key.For (Word v ∷ (ts ++ us)) (g.For v a b) (l.for_found ts us v a b n h k)
form_read (g.if_line {ts} {c} h) = keyed_found key.If ts (g.If c) (l.if_found ts c h)
form_read g.else_line = keyed_found key.Else [] g.Else l.else_found
form_read g.end_line = keyed_found key.End [] g.End l.end_found
form_read (g.top {ts} {args} w n h) = keyed_found key.Top (Word w ∷ ts) (g.Top w args) (l.top_found ts w args n h)
form_read g.bench = keyed_found key.Bench [] g.Bench l.bench_found
form_read (g.step h) = step_read h

by_sound : (k : Keyword) (d : ℕ) (ts : Tokens) (x : Line) → line_by k d ts ≡ Some x → Spelled k d ts x
by_sound key.Circuit d ts x e = l.circuit_sound d ts x e
by_sound key.Input d ts x e = l.input_sound d ts x e
by_sound key.Output d ts x e = l.output_sound d ts x e
by_sound key.Let d ts x e = l.let_sound d ts x e
by_sound key.Wire d ts x e = l.wire_sound d ts x e
by_sound key.Assign d ts x e = l.assign_sound d ts x e
by_sound key.Label d ts x e = l.label_sound d ts x e
by_sound key.Reg d ts x e = reg_sound d ts x e
by_sound key.Memory d ts x e = l.memory_sound d ts x e
by_sound key.Write d ts x e = write_sound d ts x e
by_sound key.Inst d ts x e = inst_sound d ts x e
by_sound key.For d ts x e = l.for_sound d ts x e
by_sound key.If d ts x e = l.if_sound d ts x e
by_sound key.Else d ts x e = l.else_sound d ts x e
by_sound key.End d ts x e = l.end_sound d ts x e
by_sound key.Top d ts x e = l.top_sound d ts x e
by_sound key.Bench d ts x e = l.bench_sound d ts x e
by_sound key.Set d ts x e = l.set_sound d ts x e
by_sound key.Cycle d ts x e = l.cycle_sound d ts x e
by_sound key.Reset d ts x e = l.reset_sound d ts x e

-- the word that a keyword was
key_or : Keyword → Option Keyword → Keyword
key_or c None = c
key_or c (Some x) = x

among-step : (b : Bool) (w : Text) (x c : Keyword) (rest : Option Keyword) → same_bytes w (written x) ≡ b → (rest ≡ Some c → w ≡ written c) → cond b (Some x) rest ≡ Some c → w ≡ written c
unfolding key_or
among-step true w x c rest e h f = same_bytes-equal w (written x) e ∙ ap (λ y. written (key_or x y)) f
among-step false w x c rest e h f = h f

among-some : (w : Text) (cs : List Keyword) (c : Keyword) → r.keyword_among w cs ≡ Some c → w ≡ written c
among-some w [] c e = absurd cc
among-some w (x ∷ cs) c e = among-step (same_bytes w (written x)) w x c (r.keyword_among w cs) refl (among-some w cs c) e

keyword_of-some : (w : Text) (c : Keyword) → r.keyword_of w ≡ Some c → w ≡ written c
unfolding r.keyword_of
keyword_of-some w c e = among-some w r.keywords c e

-- what is read as a line is spelled so
pub form_spelled : (ts : Tokens) (x : Line) (d : ℕ) → line_at d ts ≡ Some x → IsForm ts x × (most_open 0 ts ≤ d)
form_spelled [] x d e = absurd cc
form_spelled (Word w ∷ ts) x d e =
    let s = bind-some (r.keyword_of w) (λ k. line_by k d ts) x e in
    let f = by_sound s.0 d ts x s.2 in
    let within : most_open 0 ts ≤ d = f.1 in
    (subst (λ y. IsForm (Word y ∷ ts) x) (sym (keyword_of-some w s.0 s.1)) f.0, omega arith)
form_spelled (Int w ∷ ts) x d e = absurd cc
form_spelled (Sized w v ∷ ts) x d e = absurd cc
form_spelled (Operator w ∷ ts) x d e = absurd cc
form_spelled (Mark w ∷ ts) x d e = absurd cc

pub one_line : (ts : Tokens) (x y : Line) → IsForm ts x → IsForm ts y → x ≡ y
one_line ts x y h k = unwrapped x y (sym (form_read h (most_open 0 ts) (omega arith)) ∙ form_read k (most_open 0 ts) (omega arith))
  where
    unwrapped : (a b : Line) → Some a ≡ Some b → a ≡ b
    unwrapped a b e = cc
