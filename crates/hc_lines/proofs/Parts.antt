-- Parts of a line: a relation and its reader, and how such parts are put together.
use Rattle.std.proofs.Common.{◌≡◌, ℕ, ◌+◌, ◌≤◌, true, [], ◌∷◌, ◌++◌, Option, Some, None, refl, sym, ◌∙◌, ap, subst, arith, append_assoc}
use Rattle.hc_lines.specs.Grammar.{Tokens, most_open}
use Rattle.hc_tokens.specs.Reading.{Read, go_on}
use Rattle.hc_lines.specs.LineReading.{seq, at_end, whole_of}
use Rattle.hc_tokens.proofs.NumbersFound.{open_after, left_open, right_open}
use Rattle.hc_tokens.proofs.NumbersSound.{append-nil}
use Rattle.hc_sigtext.proofs.SignalsEven.{Even}
use Rattle.hc_sigtext.proofs.SigFound.{ends_sig}
use Rattle.hc_sigtext.proofs.Fronts.{Front, Sound, Neutral, joined, moved, mapped, got, go_on-some, some-first, some-second}

-- what a relation says is read, whatever follows that ends a signal, and what is read is so
pub record Part {A : Type 0} (P : Tokens → A → Type 0) (R : ℕ → Read A) : Type 0 where
  pub found : (ts : Tokens) (a : A) → P ts a → (d o : ℕ) → most_open o ts ≤ o + d → (rest : Tokens) → ends_sig rest ≡ true → R d (ts ++ rest) ≡ Some (a, rest)
  pub sound : (d : ℕ) → Sound P d (R d)
  pub even : (ts : Tokens) (a : A) → P ts a → Even ts
  pub starts : (ts : Tokens) (a : A) → P ts a → (rest : Tokens) → ends_sig rest ≡ true → ends_sig (ts ++ rest) ≡ true

-- the same at the end of a line
pub record Last {A : Type 0} (P : Tokens → A → Type 0) (R : ℕ → Read A) : Type 0 where
  pub found : (ts : Tokens) (a : A) → P ts a → (d o : ℕ) → most_open o ts ≤ o + d → R d ts ≡ Some (a, [])
  pub sound : (d : ℕ) → Sound P d (R d)
  pub starts : (ts : Tokens) (a : A) → P ts a → ends_sig ts ≡ true

-- one part and then another
abbrev pub Then : {A B : Type 0} → (Tokens → A → Type 0) → (Tokens → B → Type 0) → Tokens → A × B → Type 0
Then P Q ts p = (xs : Tokens) × (ys : Tokens) × (ts ≡ xs ++ ys) × P xs p.0 × Q ys p.1

module _ {A B : Type 0} (P : Tokens → A → Type 0) (Q : Tokens → B → Type 0) (R : ℕ → Read A) (S : ℕ → Read B) where
  pub seq_sound : ((d : ℕ) → Sound P d (R d)) → ((d : ℕ) → Sound Q d (S d)) → (d : ℕ) → Sound (Then P Q) d (seq (R d) (S d))
  seq_sound f h d ts rest p e =
      let s = go_on-some (R d ts) (λ a left. go_on (S d left) (λ b end. Some ((a, b), end))) (p, rest) e in
      let t = go_on-some (S d s.0.1) (λ b end. Some ((s.0.0, b), end)) (p, rest) s.2 in
      moved (Then P Q) d ts t.0.1 rest (s.0.0, t.0.0) p t.2 (joined P Q (Then P Q) [] (λ o. (refl, omega arith)) d ts s.0.1 s.0.1 t.0.1 s.0.0 t.0.0 (s.0.0, t.0.0) refl
      (λ xs ys x y. (xs, ys, refl, x, y)) (f d ts s.0.1 s.0.0 s.1) (h d s.0.1 t.0.1 t.0.0 t.1))

  pub then_last : Part P R → Last Q S → Last (Then P Q) (λ d. seq (R d) (S d))
  then_last x y = record {
    found = λ ts p h d o l. seq_found x y ts p h d o l;
    sound = seq_sound x.sound y.sound;
    starts = λ ts p h. subst (λ us. ends_sig us ≡ true) (sym h.2) (x.starts h.0 p.0 h.3 h.1 (y.starts h.1 p.1 h.4));
  }
    where
      seq_found : Part P R → Last Q S → (ts : Tokens) (p : A × B) → Then P Q ts p → (d o : ℕ) → most_open o ts ≤ o + d → seq (R d) (S d) ts ≡ Some (p, [])
      seq_found x y ts p h d o l =
          let l' : most_open o (h.0 ++ h.1) ≤ o + d = subst (λ us. most_open o us ≤ o + d) h.2 l in
          ap (seq (R d) (S d)) h.2
          ∙ ap (λ q. go_on q (λ a left. go_on (S d left) (λ b end. Some ((a, b), end)))) (x.found h.0 p.0 h.3 d o (left_open h.0 h.1 o (o + d) l') h.1 (y.starts h.1 p.1 h.4))
          ∙ ap (λ q. go_on q (λ b end. Some ((p.0, b), end))) (y.found h.1 p.1 h.4 d o (right_open h.0 h.1 o (o + d) (x.even h.0 p.0 h.3 o) l'))

  pub then_part : Part P R → Part Q S → Part (Then P Q) (λ d. seq (R d) (S d))
  then_part x y = record {
    found = λ ts p h d o l rest e. seq_found x y ts p h d o l rest e;
    sound = seq_sound x.sound y.sound;
    even = λ ts p h o. subst (λ us. open_after o us ≡ o) (sym h.2) (Rattle.hc_sigtext.proofs.Fronts.even_join h.0 h.1 o (x.even h.0 p.0 h.3 o) (y.even h.1 p.1 h.4 o));
    starts = λ ts p h rest e. subst (λ us. ends_sig (us ++ rest) ≡ true) (sym h.2)
        (subst (λ us. ends_sig us ≡ true) (sym (append_assoc h.0 h.1 rest)) (x.starts h.0 p.0 h.3 (h.1 ++ rest) (y.starts h.1 p.1 h.4 rest e)));
  }
    where
      seq_found : Part P R → Part Q S → (ts : Tokens) (p : A × B) → Then P Q ts p → (d o : ℕ) → most_open o ts ≤ o + d → (rest : Tokens) → ends_sig rest ≡ true
          → seq (R d) (S d) (ts ++ rest) ≡ Some (p, rest)
      seq_found x y ts p h d o l rest e =
          let l' : most_open o (h.0 ++ h.1) ≤ o + d = subst (λ us. most_open o us ≤ o + d) h.2 l in
          ap (λ us. seq (R d) (S d) (us ++ rest)) h.2 ∙ ap (seq (R d) (S d)) (append_assoc h.0 h.1 rest)
          ∙ ap (λ q. go_on q (λ a left. go_on (S d left) (λ b end. Some ((a, b), end)))) (x.found h.0 p.0 h.3 d o (left_open h.0 h.1 o (o + d) l') (h.1 ++ rest) (y.starts h.1 p.1 h.4 rest e))
          ∙ ap (λ q. go_on q (λ b end. Some ((p.0, b), end))) (y.found h.1 p.1 h.4 d o (right_open h.0 h.1 o (o + d) (x.even h.0 p.0 h.3 o) l') rest e)

-- a part may stand at the end
pub ends : {A : Type 0} (P : Tokens → A → Type 0) (R : ℕ → Read A) → Part P R → Last P R
ends P R x = record {
  found = λ ts a h d o l. ap (R d) (sym (append-nil ts)) ∙ x.found ts a h d o l [] refl;
  sound = x.sound;
  starts = λ ts a h. subst (λ us. ends_sig us ≡ true) (append-nil ts) (x.starts ts a h [] refl);
}

-- ---- whole lines

whole_some : {A B : Type 0} (x : Option (A × Tokens)) (f : A → B) (b : B) → whole_of x f ≡ Some b → (a : A) × (x ≡ Some (a, [])) × (f a ≡ b)
whole_some None f b e = absurd cc
whole_some (Some p) f b e = ended_some p.0 p.1 f b e
  where
    unwrapped : {B : Type 0} (a b : B) → Some a ≡ Some b → a ≡ b
    unwrapped a b e = cc

    ended_some : {A B : Type 0} (a : A) (rest : Tokens) (f : A → B) (b : B) → at_end (f a) rest ≡ Some b → (c : A) × (got a rest ≡ Some (c, [])) × (f c ≡ b)
    ended_some a [] f b e = (a, refl, unwrapped (f a) b e)
    ended_some a (t ∷ rest) f b e = absurd cc

module _ {A B : Type 0} (P : Tokens → A → Type 0) (R : ℕ → Read A) (x : Last P R) (f : A → B) where
  pub line_found : (ts : Tokens) (a : A) → P ts a → (d o : ℕ) → most_open o ts ≤ o + d → whole_of (R d ts) f ≡ Some (f a)
  line_found ts a h d o l = ap (λ q. whole_of q f) (x.found ts a h d o l)

  pub line_sound : (d : ℕ) (ts : Tokens) (b : B) → whole_of (R d ts) f ≡ Some b → (a : A) × (f a ≡ b) × P ts a × (most_open 0 ts ≤ d)
  line_sound d ts b e =
      let s = whole_some (R d ts) f b e in
      let front = x.sound d ts [] s.0 s.1 in
      let is : ts ≡ front.front = front.parts ∙ append-nil front.front in
      (s.0, s.2, subst (λ us. P us s.0) (sym is) front.holds, subst (λ us. most_open 0 us ≤ d) (sym is) (omega (arith, front.within 0)))
