-- The first line with a byte that is not allowed.
use Rattle.std.proofs.Common.{◌≡◌, ℕ, suc, ◌+◌, ◌&&◌, ◌==◌, Bool, true, false, not, cond, IsTrue, List, [], ◌∷◌, ◌++◌, length, Option, Some, None, refl, sym, ◌∙◌, ap, arith}
use Rattle.std.specs.List.{list_all, AllByRecursion}
use Rattle.std.proofs.lemmas.List.Sums.{AllPass-from_list_all, list_all-from_AllPass}
use Rattle.std.proofs.lemmas.Bool.Decides.{nat_tests}
use Rattle.hc_tokens.specs.Tokens.{lines, onto_first, is_allowed}
use Rattle.hc_lang.specs.Reads.{IsAllowed, IsEarliest}
use Rattle.hc_lang.specs.TextReading.{bad_line}

abbrev is_good : List ℕ → Bool
is_good line = list_all is_allowed line

-- a line with a byte that is not allowed
abbrev pub IsBad : List ℕ → Type 0
IsBad line = IsTrue (not (list_all is_allowed line))

-- the first bad line of these, the first of which has the number n
abbrev bad_in : ℕ → List (List ℕ) → Option ℕ
bad_in n [] = None
bad_in n (line ∷ more) = cond (is_good line) (bad_in (suc n) more) (Some n)

is_ten : (b : ℕ) → (b == 10) ≡ true → b ≡ 10
is_ten b e = grind (arith, nat_tests)

newline_allowed : (b : ℕ) → (b == 10) ≡ true → is_allowed b ≡ true
newline_allowed b e = ap is_allowed (is_ten b e)

good_byte : (b n : ℕ) (ls : List (List ℕ)) → is_allowed b ≡ true → bad_in n (onto_first b ls) ≡ bad_in n ls
good_byte b n [] e = ap (λ t. cond (t && true) None (Some n)) e
good_byte b n (l ∷ ls) e = ap (λ t. cond (t && is_good l) (bad_in (suc n) ls) (Some n)) e

bad_byte : (b n : ℕ) (ls : List (List ℕ)) → is_allowed b ≡ false → bad_in n (onto_first b ls) ≡ Some n
bad_byte b n [] e = ap (λ t. cond (t && true) None (Some n)) e
bad_byte b n (l ∷ ls) e = ap (λ t. cond (t && is_good l) (bad_in (suc n) ls) (Some n)) e

bad_lines : (text : List ℕ) (n : ℕ) → bad_line n text ≡ bad_in n (lines text)
bad_lines [] n = refl
bad_lines (b ∷ text) n = by (λ k. bad_lines text k) (is_allowed b) refl (b == 10) refl
  where
    by : ((k : ℕ) → bad_line k text ≡ bad_in k (lines text)) → (g : Bool) → is_allowed b ≡ g → (e : Bool) → (b == 10) ≡ e
        → cond (is_allowed b) (bad_line (cond (b == 10) (suc n) n) text) (Some n) ≡ bad_in n (cond (b == 10) ([] ∷ lines text) (onto_first b (lines text)))
    by rest true f true e =
        ap (λ g. cond g (bad_line (cond (b == 10) (suc n) n) text) (Some n)) f
        ∙ ap (λ t. bad_line (cond t (suc n) n) text) e
        ∙ rest (suc n)
        ∙ sym (ap (λ t. bad_in n (cond t ([] ∷ lines text) (onto_first b (lines text)))) e)
    by rest true f false e =
        ap (λ g. cond g (bad_line (cond (b == 10) (suc n) n) text) (Some n)) f
        ∙ ap (λ t. bad_line (cond t (suc n) n) text) e
        ∙ rest n
        ∙ sym (good_byte b n (lines text) f)
        ∙ sym (ap (λ t. bad_in n (cond t ([] ∷ lines text) (onto_first b (lines text)))) e)
    by rest false f true e = (let clash : false ≡ true = sym f ∙ newline_allowed b e in absurd cc)
    by rest false f false e =
        ap (λ g. cond g (bad_line (cond (b == 10) (suc n) n) text) (Some n)) f
        ∙ sym (bad_byte b n (lines text) f)
        ∙ sym (ap (λ t. bad_in n (cond t ([] ∷ lines text) (onto_first b (lines text)))) e)

-- ---- no bad line

none_bad : (text : List ℕ) (n : ℕ) → bad_line n text ≡ None → list_all is_allowed text ≡ true
none_bad [] n e = refl
none_bad (b ∷ text) n e = by (λ k h. none_bad text k h) (is_allowed b) refl e
  where
    by : ((k : ℕ) → bad_line k text ≡ None → list_all is_allowed text ≡ true) → (g : Bool) → is_allowed b ≡ g
        → cond g (bad_line (cond (b == 10) (suc n) n) text) (Some n) ≡ None → list_all is_allowed (b ∷ text) ≡ true
    by rest true f e = ap (λ g. g && list_all is_allowed text) f ∙ rest (cond (b == 10) (suc n) n) e
    by rest false f e = absurd cc

bad_none : (text : List ℕ) (n : ℕ) → list_all is_allowed text ≡ true → bad_line n text ≡ None
bad_none [] n e = refl
bad_none (b ∷ text) n e = by (λ k h. bad_none text k h) (is_allowed b) refl e
  where
    by : ((k : ℕ) → list_all is_allowed text ≡ true → bad_line k text ≡ None) → (g : Bool) → is_allowed b ≡ g → (g && list_all is_allowed text) ≡ true → bad_line n (b ∷ text) ≡ None
    by rest true f e = ap (λ g. cond g (bad_line (cond (b == 10) (suc n) n) text) (Some n)) f ∙ rest (cond (b == 10) (suc n) n) e
    by rest false f e = absurd cc

pub all_allowed : (text : List ℕ) → bad_line 1 text ≡ None → IsAllowed text
all_allowed text e = AllPass-from_list_all is_allowed text (none_bad text 1 e)

pub no_bad_line : (text : List ℕ) → IsAllowed text → bad_line 1 text ≡ None
no_bad_line text h = bad_none text 1 (list_all-from_AllPass is_allowed text h)

-- ---- the first bad line

bad_at : (n : ℕ) (before after : List (List ℕ)) (line : List ℕ) → AllByRecursion (λ l. IsBad l → ⊥) before → IsBad line → bad_in n (before ++ (line ∷ after)) ≡ Some (length before + n)
bad_at n [] after line h bad = by (is_good line) refl ∙ ap (λ k. Some k) (let zero_more : n ≡ 0 + n = omega arith in zero_more)
  where
    by : (g : Bool) → is_good line ≡ g → bad_in n (line ∷ after) ≡ Some n
    by true e = (let clash : false ≡ true = sym (ap not e) ∙ bad in absurd cc)
    by false e = ap (λ g. cond g (bad_in (suc n) after) (Some n)) e
bad_at n (l ∷ before) after line h bad = by (bad_at (suc n) before after line h.1 bad) (is_good l) refl
  where
    by : bad_in (suc n) (before ++ (line ∷ after)) ≡ Some (length before + suc n) → (g : Bool) → is_good l ≡ g → bad_in n (l ∷ (before ++ (line ∷ after))) ≡ Some (length (l ∷ before) + n)
    by rest true e = ap (λ g. cond g (bad_in (suc n) (before ++ (line ∷ after))) (Some n)) e ∙ rest ∙ ap (λ k. Some k) (omega arith)
    by rest false e = absurd (h.0 (ap not e))

pub earliest_bad : (text : List ℕ) (i : ℕ) (line : List ℕ) → IsEarliest IsBad (lines text) i line → bad_line 1 text ≡ Some (i + 1)
earliest_bad text i line h = bad_lines text 1 ∙ ap (bad_in 1) h.parts ∙ bad_at 1 h.before h.after line h.none_before h.holds ∙ ap (λ k. Some (k + 1)) (sym h.place)

record BadAt (n : ℕ) (ls : List (List ℕ)) (m : ℕ) : Type 0 where
  i : ℕ
  line : List ℕ
  is : m ≡ i + n
  earliest : IsEarliest IsBad ls i line

bad_is : (n : ℕ) (ls : List (List ℕ)) (m : ℕ) → bad_in n ls ≡ Some m → BadAt n ls m
bad_is n [] m e = absurd cc
bad_is n (l ∷ ls) m e = by (λ h. bad_is (suc n) ls m h) (is_good l) refl e
  where
    by : (bad_in (suc n) ls ≡ Some m → BadAt (suc n) ls m) → (g : Bool) → is_good l ≡ g → cond g (bad_in (suc n) ls) (Some n) ≡ Some m → BadAt n (l ∷ ls) m
    by rest true f e =
        let b = rest e in
        record {
          i = suc b.i;
          line = b.line;
          is = (let h : m ≡ b.i + suc n = b.is in omega arith);
          earliest = record {
            before = l ∷ b.earliest.before;
            after = b.earliest.after;
            place = ap suc b.earliest.place;
            parts = ap
                (λ x. l ∷ x) b.earliest.parts;
            holds = b.earliest.holds;
            none_before = ((λ bad. let clash : false ≡ true = sym (ap not f) ∙ bad in absurd cc), b.earliest.none_before);
          };
        }
    by rest false f e = record {
      i = 0;
      line = l;
      is = (let k : n ≡ m = cc in let z : n ≡ 0 + n = omega arith in sym k ∙ z);
      earliest = record
          { before = []; after = ls; place = refl; parts = refl; holds = ap not f; none_before = tt };
    }

pub bad_earliest : (text : List ℕ) (m : ℕ) → bad_line 1 text ≡ Some m → (i : ℕ) × (line : List ℕ) × (m ≡ i + 1) × IsEarliest IsBad (lines text) i line
bad_earliest text m e = let b = bad_is 1 (lines text) m (sym (bad_lines text 1) ∙ e) in (b.i, b.line, b.is, b.earliest)
