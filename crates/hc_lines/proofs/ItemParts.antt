-- Lists of parts, up to the end of the line or a colon.
use Rattle.std.proofs.Common.{◌≡◌, ℕ, zero, suc, ◌+◌, ◌≤◌, true, List, [], ◌∷◌, ◌++◌, length, Option, Some, None, refl, sym, ◌∙◌, ap, subst, arith, append_assoc, length-append}
use Rattle.std.proofs.Common.{append-nil as nil-append}
use Rattle.hc_lines.specs.Grammar.{Tokens, most_open}
use Rattle.hc_tokens.specs.Reading.{Read, go_on, choose}
use Rattle.hc_lines.specs.LineReading.{items, all_items, past_end}
use Rattle.hc_tokens.proofs.NumbersFound.{left_open, right_open}
use Rattle.hc_sigtext.proofs.SigFound.{ends_sig}
use Rattle.hc_sigtext.proofs.Fronts.{Front, joined, alone, got, go_on-some, some-first, some-second}
use Rattle.hc_lines.proofs.Parts.{Part, Last}

-- parts one after the other
abbrev pub AreItems : {A : Type 0} → (Tokens → A → Type 0) → Tokens → List A → Type 0
AreItems P ts [] = ts ≡ []
AreItems P ts (a ∷ zs) = (xs : Tokens) × (ys : Tokens) × (ts ≡ xs ++ ys) × P xs a × AreItems P ys zs

module _ {A : Type 0} (P : Tokens → A → Type 0) (R : ℕ → Read A) (part : Part P R) (stop : Tokens → Option Tokens)
    (goes : (xs ys : Tokens) (a : A) → P xs a → stop (xs ++ ys) ≡ None) (long : (xs : Tokens) (a : A) → P xs a → 1 ≤ length xs) where
  items_start : (zs : List A) (ts fin : Tokens) → AreItems P ts zs → ends_sig fin ≡ true → ends_sig (ts ++ fin) ≡ true
  items_start [] ts fin h e = subst (λ us. ends_sig (us ++ fin) ≡ true) (sym h) e
  items_start (a ∷ zs) ts fin h e = subst (λ us. ends_sig (us ++ fin) ≡ true) (sym h.2)
      (subst (λ us. ends_sig us ≡ true) (sym (append_assoc h.0 h.1 fin)) (part.starts h.0 a h.3 (h.1 ++ fin) (items_start zs h.1 fin h.4 e)))

  items_long : (zs : List A) (ts : Tokens) → AreItems P ts zs → length zs ≤ length ts
  items_long [] ts h = omega arith
  items_long (a ∷ zs) ts h = let one : 1 ≤ length h.0 = long h.0 a h.3 in let more : length zs ≤ length h.1 = items_long zs h.1 h.4
      in let whole : length ts ≡ length h.0 + length h.1 = ap length h.2 ∙ length-append h.0 h.1 in omega arith

  gotten : List A → Tokens → Option (List A × Tokens)
  gotten xs ts = Some (xs, ts)

  at_stop : (d k : ℕ) (acc : List A) (fin rest : Tokens) → stop fin ≡ Some rest → items stop (R d) k acc fin ≡ Some (acc, rest)
  unfolding items
  at_stop d zero acc fin rest e = ap (λ q. choose q None (λ r. Some (acc, r))) e
  at_stop d (suc k) acc fin rest e = ap (λ q. choose q (go_on (R d fin) (λ x more. items stop (R d) k (acc ++ x ∷ []) more)) (λ r. Some (acc, r))) e

  one_more : (d k : ℕ) (acc : List A) (a : A) (ts more : Tokens) → stop ts ≡ None → R d ts ≡ Some (a, more) → items stop (R d) (suc k) acc ts ≡ items stop (R d) k (acc ++ a ∷ []) more
  unfolding items
  one_more d k acc a ts more none e = ap (λ q. choose q (go_on (R d ts) (λ x more. items stop (R d) k (acc ++ x ∷ []) more)) (λ r. Some (acc, r))) none
      ∙ ap (λ q. go_on q (λ x more. items stop (R d) k (acc ++ x ∷ []) more)) e

  items_found : (zs : List A) (ts fin rest : Tokens) → AreItems P ts zs → stop fin ≡ Some rest → ends_sig fin ≡ true → (d o : ℕ) → most_open o ts ≤ o + d → (k : ℕ)
      → length zs ≤ k → (acc : List A) → items stop (R d) k acc (ts ++ fin) ≡ Some (acc ++ zs, rest)
  items_found [] ts fin rest h s e d o l k le acc = ap (λ us. items stop (R d) k acc (us ++ fin)) h ∙ at_stop d k acc fin rest s ∙ ap (λ xs. Some (xs, rest)) (sym (nil-append acc))
  items_found (a ∷ zs) ts fin rest h s e d o l zero le acc = absurd (omega arith)
  items_found (a ∷ zs) ts fin rest h s e d o l (suc k) le acc =
      let l' : most_open o (h.0 ++ h.1) ≤ o + d = subst (λ us. most_open o us ≤ o + d) h.2 l in
      let regrouped : ts ++ fin ≡ h.0 ++ (h.1 ++ fin) = ap (λ us. us ++ fin) h.2 ∙ append_assoc h.0 h.1 fin in
      ap (items stop (R d) (suc k) acc) regrouped
      ∙ one_more d k acc a (h.0 ++ (h.1 ++ fin)) (h.1 ++ fin) (goes h.0 (h.1 ++ fin) a h.3) (part.found h.0 a h.3 d o (left_open h.0 h.1 o (o + d) l') (h.1 ++ fin) (items_start zs h.1 fin h.4 e))
      ∙ items_found zs h.1 fin rest h.4 s e d o (right_open h.0 h.1 o (o + d) (part.even h.0 a h.3 o) l') k (omega arith) (acc ++ a ∷ [])
      ∙ ap (λ xs. Some (xs, rest)) (append_assoc acc (a ∷ []) zs)

  pub all_found : (zs : List A) (ts fin rest : Tokens) → AreItems P ts zs → stop fin ≡ Some rest → ends_sig fin ≡ true → (d o : ℕ) → most_open o ts ≤ o + d
      → all_items stop (R d) (ts ++ fin) ≡ Some (zs, rest)
  unfolding all_items
  all_found zs ts fin rest h s e d o l = items_found zs ts fin rest h s e d o l (length (ts ++ fin)) (let m : length zs ≤ length ts = items_long zs ts h in omega (arith, length-append ts fin)) []

  -- what was read: items, and then the stop
  abbrev pub Took : ℕ → Tokens → List A → List A → Tokens → Type 0
  Took d ts acc out rest = (zs : List A) × (mid : Tokens) × (out ≡ acc ++ zs) × (stop mid ≡ Some rest) × Front (AreItems P) d ts zs mid

  took_none : (d : ℕ) (acc out : List A) (ts rest r : Tokens) → stop ts ≡ Some r → got acc r ≡ got out rest → Took d ts acc out rest
  took_none d acc out ts rest r s e = (
    [],
    ts,
    sym (some-first acc out r rest e) ∙ sym (nil-append acc),
    s ∙ ap (λ x. Some x) (some-second acc out r rest e),
    alone (AreItems P) []
        (λ o. (refl, omega arith)) d ts ts [] refl refl,
  )

  took_zero : (d : ℕ) (acc out : List A) (ts rest : Tokens) (q : Option Tokens) → stop ts ≡ q → choose q None (λ r. got acc r) ≡ got out rest → Took d ts acc out rest
  took_zero d acc out ts rest None s e = absurd cc
  took_zero d acc out ts rest (Some r) s e = took_none d acc out ts rest r s e

  took_more : (d k : ℕ) (acc out : List A) (ts rest : Tokens) (q : Option Tokens) → stop ts ≡ q
      → ((a : A) (us : Tokens) → items stop (R d) k (acc ++ a ∷ []) us ≡ got out rest → Took d us (acc ++ a ∷ []) out rest)
      → choose q (go_on (R d ts) (λ x more. items stop (R d) k (acc ++ x ∷ []) more)) (λ r. got acc r) ≡ got out rest → Took d ts acc out rest
  took_more d k acc out ts rest None s again e =
      let p = go_on-some (R d ts) (λ x more. items stop (R d) k (acc ++ x ∷ []) more) (out, rest) e in
      let t = again p.0.0 p.0.1 p.2 in (
        p.0.0 ∷ t.0,
        t.1,
        t.2 ∙ append_assoc acc (p.0.0 ∷ []) t.0,
        t.3,
        joined P (AreItems P) (AreItems P) [] (λ o. (refl, omega arith)) d ts p.0.1 p.0.1 t.1 p.0.0 t.0
            (p.0.0 ∷ t.0) refl (λ xs ys x y. (xs, ys, refl, x, y)) (part.sound d ts p.0.1 p.0.0 p.1) t.4,
      )
  took_more d k acc out ts rest (Some r) s again e = took_none d acc out ts rest r s e

  items_took : (d k : ℕ) (acc out : List A) (ts rest : Tokens) → items stop (R d) k acc ts ≡ got out rest → Took d ts acc out rest
  unfolding items
  items_took d zero acc out ts rest e = took_zero d acc out ts rest (stop ts) refl e
  items_took d (suc k) acc out ts rest e = took_more d k acc out ts rest (stop ts) refl (λ a us f. items_took d k (acc ++ a ∷ []) out us rest f) e

  pub all_took : (d : ℕ) (ts rest : Tokens) (out : List A) → all_items stop (R d) ts ≡ got out rest → Took d ts [] out rest
  unfolding all_items
  all_took d ts rest out e = items_took d (length ts) [] out ts rest e

end_none : (xs ys : Tokens) → 1 ≤ length xs → past_end (xs ++ ys) ≡ None
end_none [] ys h = absurd (omega arith)
end_none (x ∷ xs) ys h = refl

end_some : (mid rest : Tokens) → past_end mid ≡ Some rest → (mid ≡ []) × (rest ≡ [])
end_some [] rest e = (refl, sym (unwrapped [] rest e))
  where
    unwrapped : (a b : Tokens) → Some a ≡ Some b → a ≡ b
    unwrapped a b e = cc
end_some (t ∷ mid) rest e = absurd cc

-- items up to the end of the line
pub items_last : {A : Type 0} (P : Tokens → A → Type 0) (R : ℕ → Read A) → Part P R → ((xs : Tokens) (a : A) → P xs a → 1 ≤ length xs) → Last (AreItems P) (λ d. all_items past_end (R d))
items_last {A} P R part long = record {
  found = λ ts zs h d o l. ap (all_items past_end (R d)) (sym (nil-append ts)) ∙ all_found P R part past_end (λ xs ys a x. end_none xs ys (long xs a x)) long zs ts [] [] h refl refl d o l;
  sound = λ d ts rest zs e. took_last d ts rest zs (all_took P R part past_end (λ xs ys a x. end_none xs ys (long xs a x)) long d ts rest zs e);
  starts = λ ts zs h. subst (λ us. ends_sig us ≡ true) (nil-append ts) (items_start P R part past_end (λ xs ys a x. end_none xs ys (long xs a x)) long zs ts [] h refl);
}
  where
    took_last : (d : ℕ) (ts rest : Tokens) (zs : List A)
        → ((bs : List A) × (mid : Tokens) × (zs ≡ [] ++ bs) × (past_end mid ≡ Some rest) × Front (AreItems P) d ts bs mid) → Front (AreItems P) d ts zs rest
    took_last d ts rest zs t =
        let at = end_some t.1 rest t.3 in
        subst (λ x. Front (AreItems P) d ts x rest) (sym t.2) (subst (λ x. Front (AreItems P) d ts t.0 x) (at.0 ∙ sym at.1) t.4)
