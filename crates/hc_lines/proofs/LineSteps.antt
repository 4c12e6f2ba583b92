-- Steps of the readers of lines.
use Rattle.std.proofs.Common.{◌≡◌, ℕ, zero, suc, ◌-◌, List, [], ◌∷◌, ◌++◌, Option, Some, None, ap, refl, ◌∙◌, arith}
use Rattle.hc_lines.specs.Grammar.{Tokens}
use Rattle.hc_tokens.specs.Reading.{Read, go_on, choose}
use Rattle.hc_lines.specs.LineReading.{items}

-- one turn of a loop over items
pub items-goes : {A : Type 0} (stop : Tokens → Option Tokens) (item : Read A) (k : ℕ) (xs : List A) (x : A) (ts more : Tokens) → (k ≡ 0 → ⊥) → stop ts ≡ None
    → item ts ≡ Some (x, more) → items stop item k xs ts ≡ items stop item (k - 1) (xs ++ x ∷ []) more
unfolding items
items-goes stop item zero xs x ts more some none e = absurd (some refl)
items-goes stop item (suc k) xs x ts more some none e =
    ap (λ q. choose q (go_on (item ts) (λ x more. items stop item k (xs ++ x ∷ []) more)) (λ rest. Some (xs, rest))) none
    ∙ ap (λ q. go_on q (λ x more. items stop item k (xs ++ x ∷ []) more)) e
    ∙ ap (λ n. items stop item n (xs ++ x ∷ []) more) (let is : k ≡ suc k - 1 = omega arith in is)
