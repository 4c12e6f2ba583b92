-- The lines of a summary, put together.
use Rattle.std.proofs.Common.{◌≡◌, ℕ, List, [], ◌∷◌, ◌++◌, append_assoc, append-nil, ap, ap₂, ◌∙◌}
use Rattle.std.specs.Prelude.{codes}
use Rattle.hc_summary.specs.Summary.{Counts, count_line, summary_text}

six_parts : (a b c d e f : List ℕ) → ((((([] ++ a) ++ b) ++ c) ++ d) ++ e) ++ f ≡ a ++ (b ++ (c ++ (d ++ (e ++ (f ++ [])))))
six_parts a b c d e f = simp (append_assoc, append-nil)

abbrev line : List ℕ → ℕ → List ℕ
line title n = count_line title n ++ 10 ∷ []

abbrev pub with_line : List ℕ → List ℕ → ℕ → List ℕ
with_line text title n = text ++ line title n

pub six_lines : (k : Counts) (x a b c d e f : List ℕ) (i w o : ℕ) → x ≡ [] → i ≡ k.instances → w ≡ k.weight → o ≡ k.words
    → a ≡ with_line x (codes "instances ") i → b ≡ with_line a (codes "entries ") k.entries → c ≡ with_line b (codes "modules ") k.modules
    → d ≡ with_line c (codes "weight ") w → e ≡ with_line d (codes "words ") o → f ≡ with_line e (codes "cycles ") k.cycles → f ≡ summary_text k
unfolding summary_text
six_lines k x a b c d e f i w o none instances weight words one two three four five six =
    six ∙ ap (λ t. with_line t (codes "cycles ") k.cycles)
    (five ∙ ap₂ (λ t n. with_line t (codes "words ") n)
    (four ∙ ap₂ (λ t n. with_line t (codes "weight ") n)
    (three ∙ ap (λ t. with_line t (codes "modules ") k.modules)
    (two ∙ ap (λ t. with_line t (codes "entries ") k.entries)
    (one ∙ ap₂ (λ t n. with_line t (codes "instances ") n) none instances)))
    weight)
    words)
    ∙ six_parts (line (codes "instances ") k.instances) (line (codes "entries ") k.entries) (line (codes "modules ") k.modules) (line (codes "weight ") k.weight)
    (line (codes "words ") k.words) (line (codes "cycles ") k.cycles)
