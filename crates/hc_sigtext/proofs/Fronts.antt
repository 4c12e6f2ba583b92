-- Fronts of tokens: what a reader took, and how such fronts are put together.
use Rattle.std.proofs.Common.{◌≡◌, ℕ, suc, ◌+◌, ◌-◌, ◌≤◌, Bool, true, false, cond, [], ◌∷◌, ◌++◌, Option, Some, None, refl, sym, ◌∙◌, ap, subst, arith, append_assoc}
use Rattle.hc_tokens.specs.declared.token.Token.TheVariants.{Mark}
use Rattle.hc_tokens.specs.declared.token.Mark.{Mark as Mark_}
use Rattle.hc_tokens.specs.declared.token.Mark.TheVariants as mark
use Rattle.hc_tokens.specs.declared.tree.Num.{Num}
use Rattle.hc_sigtext.specs.Grammar.{Tokens, most_open, in_round}
use Rattle.hc_tokens.specs.Reading.{Read, go_on}
use Rattle.hc_sigtext.specs.SigReading.{bind}
use Rattle.hc_tokens.proofs.NumbersFound.{open_after, open_after-append, most_open-append}
use Rattle.hc_tokens.proofs.NumbersSound as numbers

-- a front of the tokens has P, with at most d brackets open in it
pub record Front {A : Type 0} (P : Tokens → A → Type 0) (d : ℕ) (ts : Tokens) (a : A) (rest : Tokens) : Type 0 where
  pub front : Tokens
  pub parts : ts ≡ front ++ rest
  pub holds : P front a
  pub even : (o : ℕ) → open_after o front ≡ o
  pub within : (o : ℕ) → most_open o front ≤ o + d

abbrev pub Sound : {A : Type 0} → (Tokens → A → Type 0) → ℕ → Read A → Type 0
Sound {A} P d R = (ts rest : Tokens) (a : A) → R ts ≡ Some (a, rest) → Front P d ts a rest

pub of_number : (P : Tokens → Num → Type 0) (d : ℕ) (ts rest : Tokens) (n : Num) → numbers.Front P d ts n rest → Front P d ts n rest
of_number P d ts rest n f = record { front = f.front; parts = f.parts; holds = f.holds; even = f.even; within = f.within }

-- tokens that open and close no bracket
abbrev pub Neutral : Tokens → Type 0
Neutral sep = (o : ℕ) → (open_after o sep ≡ o) × (most_open o sep ≤ o)

pub even_join : (xs ys : Tokens) (o : ℕ) → open_after o xs ≡ o → open_after o ys ≡ o → open_after o (xs ++ ys) ≡ o
even_join xs ys o e f = open_after-append xs ys o ∙ ap (λ x. open_after x ys) e ∙ f

pub within_join : (xs ys : Tokens) (o m : ℕ) → open_after o xs ≡ o → most_open o xs ≤ m → most_open o ys ≤ m → most_open o (xs ++ ys) ≤ m
within_join xs ys o m e h k = let same : most_open (open_after o xs) ys ≤ m = subst (λ x. most_open x ys ≤ m) (sym e) k in omega (arith, most_open-append xs ys o)

module _ {A B C : Type 0} (P : Tokens → A → Type 0) (Q : Tokens → B → Type 0) (R : Tokens → C → Type 0) where
  -- tokens before a front
  pub led : (sep : Tokens) → Neutral sep → (d : ℕ) (ts mid rest : Tokens) (b : B) (c : C) → ts ≡ sep ++ mid → ((ys : Tokens) → Q ys b → R (sep ++ ys) c) → Front Q d mid b rest → Front R d ts c rest
  led sep n d ts mid rest b c e grow h = record {
    front = sep ++ h.front;
    parts = e ∙ ap (λ x. sep ++ x) h.parts ∙ sym (append_assoc sep h.front rest);
    holds = grow h.front h.holds;
    even = λ o. even_join sep h.front o (n o).0 (h.even o);
    within = λ o. within_join sep h.front o (o + d) (n o).0 (let l = (n o).1 in omega arith) (h.within o);
  }

  -- a front, tokens between, and a front
  pub joined : (sep : Tokens) → Neutral sep → (d : ℕ) (ts mid mid' rest : Tokens) (a : A) (b : B) (c : C) → mid ≡ sep ++ mid' → ((xs ys : Tokens) → P xs a → Q ys b → R (xs ++ (sep ++ ys)) c) → Front P d ts a mid → Front Q d mid' b rest → Front R d ts c rest
  joined sep n d ts mid mid' rest a b c e grow f h = record {
    front = f.front ++ (sep ++ h.front);
    parts = f.parts ∙ ap (λ x. f.front ++ x) (e ∙ ap (λ x. sep ++ x) h.parts ∙ sym (append_assoc sep h.front rest)) ∙ sym (append_assoc f.front (sep ++ h.front) rest);
    holds = grow f.front h.front f.holds h.holds;
    even = λ o. even_join f.front (sep ++ h.front) o (f.even o) (even_join sep h.front o (n o).0 (h.even o));
    within = λ o. within_join f.front (sep ++ h.front) o (o + d) (f.even o) (f.within o) (within_join sep h.front o (o + d) (n o).0 (let l = (n o).1 in omega arith) (h.within o));
  }

  -- a front and tokens after it
  pub ended : (sep : Tokens) → Neutral sep → (d : ℕ) (ts mid rest : Tokens) (a : A) (c : C) → mid ≡ sep ++ rest → ((xs : Tokens) → P xs a → R (xs ++ sep) c) → Front P d ts a mid → Front R d ts c rest
  ended sep n d ts mid rest a c e grow f = record {
    front = f.front ++ sep;
    parts = f.parts ∙ ap (λ x. f.front ++ x) e ∙ sym (append_assoc f.front sep rest);
    holds = grow f.front f.holds;
    even = λ o. even_join f.front sep o (f.even o) (n o).0;
    within = λ o. within_join f.front sep o (o + d) (f.even o) (f.within o) (let l = (n o).1 in omega arith);
  }

  -- a front in round brackets
  pub rounded : (d : ℕ) (ts mid rest : Tokens) (a : A) (c : C) → ts ≡ Mark mark.OpenRound ∷ mid → ((xs : Tokens) → P xs a → R (in_round xs) c) → Front P d mid a (Mark mark.CloseRound ∷ rest) → Front R (suc d) ts c rest
  rounded d ts mid rest a c e grow f = record {
    front = in_round f.front;
    parts = e ∙ ap (λ x. Mark mark.OpenRound ∷ x) (f.parts ∙ sym (append_assoc f.front (Mark mark.CloseRound ∷ []) rest));
    holds = grow f.front f.holds;
    even = λ o. open_after-append f.front (Mark mark.CloseRound ∷ []) (o + 1) ∙ ap (λ x. x - 1) (f.even (o + 1)) ∙ (omega arith);
    within = λ o. closed_within mark.CloseRound f.front o d refl (f.even (o + 1)) (f.within (o + 1));
  }
    where
      closed_within : (m : Mark_) (xs : Tokens) (o d : ℕ) → m ≡ mark.CloseRound → open_after (o + 1) xs ≡ o + 1 → most_open (o + 1) xs ≤ (o + 1) + d → most_open o (in_round xs) ≤ o + suc d
      closed_within m xs o d i e h =
          let inner : most_open (open_after (o + 1) xs) (Mark mark.CloseRound ∷ []) ≤ o + suc d = subst (λ x. most_open x (Mark mark.CloseRound ∷ []) ≤ o + suc d) (sym e) (omega arith) in
          omega (arith, most_open-append xs (Mark mark.CloseRound ∷ []) (o + 1))

  -- and in square ones
  pub squared : (d : ℕ) (ts mid rest : Tokens) (a : A) (c : C) → ts ≡ Mark mark.OpenSquare ∷ mid → ((xs : Tokens) → P xs a → R (Mark mark.OpenSquare ∷ (xs ++ (Mark mark.CloseSquare ∷ []))) c) → Front P d mid a (Mark mark.CloseSquare ∷ rest) → Front R (suc d) ts c rest
  squared d ts mid rest a c e grow f = record {
    front = Mark mark.OpenSquare ∷ (f.front ++ (Mark mark.CloseSquare ∷ []));
    parts = e ∙ ap (λ x. Mark mark.OpenSquare ∷ x) (f.parts ∙ sym (append_assoc f.front (Mark mark.CloseSquare ∷ []) rest));
    holds = grow f.front f.holds;
    even = λ o. open_after-append f.front (Mark mark.CloseSquare ∷ []) (o + 1) ∙ ap (λ x. x - 1) (f.even (o + 1)) ∙ (omega arith);
    within = λ o. closed_within f.front o d (f.even (o + 1)) (f.within (o + 1));
  }
    where
      closed_within : (xs : Tokens) (o d : ℕ) → open_after (o + 1) xs ≡ o + 1 → most_open (o + 1) xs ≤ (o + 1) + d → most_open o (Mark mark.OpenSquare ∷ (xs ++ (Mark mark.CloseSquare ∷ []))) ≤ o + suc d
      closed_within xs o d e h =
          let inner : most_open (open_after (o + 1) xs) (Mark mark.CloseSquare ∷ []) ≤ o + suc d = subst (λ x. most_open x (Mark mark.CloseSquare ∷ []) ≤ o + suc d) (sym e) (omega arith) in
          omega (arith, most_open-append xs (Mark mark.CloseSquare ∷ []) (o + 1))

-- the front with another relation
pub mapped : {A B : Type 0} (P : Tokens → A → Type 0) (Q : Tokens → B → Type 0) (d : ℕ) (ts rest : Tokens) (a : A) (b : B) → ((xs : Tokens) → P xs a → Q xs b) → Front P d ts a rest → Front Q d ts b rest
mapped P Q d ts rest a b f x = record { front = x.front; parts = x.parts; holds = f x.front x.holds; even = x.even; within = x.within }

-- tokens alone
pub alone : {A : Type 0} (P : Tokens → A → Type 0) (sep : Tokens) → Neutral sep → (d : ℕ) (ts rest : Tokens) (a : A) → ts ≡ sep ++ rest → P sep a → Front P d ts a rest
alone P sep n d ts rest a e h = record { front = sep; parts = e; holds = h; even = λ o. (n o).0; within = λ o. let l = (n o).1 in omega arith }

-- ---- taking readers apart

abbrev pub got : {A : Type 0} → A → Tokens → Option (A × Tokens)
got a ts = Some (a, ts)

abbrev pub first_or : {A : Type 0} → A → Option (A × Tokens) → A
first_or a None = a
first_or a (Some p) = p.0

abbrev pub second_or : {A : Type 0} → Tokens → Option (A × Tokens) → Tokens
second_or ts None = ts
second_or ts (Some p) = p.1

pub some-first : {A : Type 0} (a b : A) (ts us : Tokens) → got a ts ≡ got b us → a ≡ b
some-first a b ts us e = ap (first_or a) e

pub some-second : {A : Type 0} (a b : A) (ts us : Tokens) → got a ts ≡ got b us → ts ≡ us
some-second a b ts us e = ap (second_or ts) e

pub go_on-some : {A B : Type 0} (x : Option (A × Tokens)) (f : A → Read B) (y : B × Tokens) → go_on x f ≡ Some y → (p : A × Tokens) × (x ≡ Some p) × (f p.0 p.1 ≡ Some y)
go_on-some None f y e = absurd cc
go_on-some (Some p) f y e = (p, refl, e)

pub bind-some : {A B : Type 0} (x : Option A) (f : A → Option B) (y : B) → bind x f ≡ Some y → (p : A) × (x ≡ Some p) × (f p ≡ Some y)
bind-some None f y e = absurd cc
bind-some (Some p) f y e = (p, refl, e)

pub cond-some : {A : Type 0} (b : Bool) (q : Option A) (p : A) → cond b q None ≡ Some p → (b ≡ true) × (q ≡ Some p)
cond-some true q p e = (refl, e)
cond-some false q p e = absurd cc

-- the front with other words for what is read and left
pub moved : {A : Type 0} (P : Tokens → A → Type 0) (d : ℕ) (ts rest left : Tokens) (a b : A) → got a rest ≡ got b left → Front P d ts a rest → Front P d ts b left
moved P d ts rest left a b e f = subst (λ x. Front P d ts x left) (some-first a b rest left e) (subst (λ x. Front P d ts a x) (some-second a b rest left e) f)
