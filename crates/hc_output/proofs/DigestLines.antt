-- Digest lines that were added to a text.
use Rattle.std.proofs.Common.{◌≡◌, ℕ, List, [], ◌∷◌, ◌++◌, length, codes, append_assoc, ap, ◌∙◌}
use Rattle.std.specs.Prelude.{decimal}
use Rattle.hc_workload.specs.Digest.{digest}
use Rattle.hc_output.specs.Digests.{digest_line, ended_line}

parts : (old title n space d end : List ℕ) → ((old ++ (title ++ n)) ++ (space ++ d)) ++ end ≡ old ++ ((((title ++ n) ++ space) ++ d) ++ end)
parts old title n space d end = simp append_assoc

-- a line that was added piece by piece
pub line_added : (old title bytes a b c : List ℕ) → a ≡ old ++ (title ++ decimal (length bytes)) → b ≡ a ++ (codes " " ++ decimal (digest bytes)) → c ≡ b ++ 10 ∷ [] → c ≡ old ++ ended_line title bytes
unfolding digest_line
line_added old title bytes a b c one two three =
    three ∙ ap (λ t. t ++ 10 ∷ []) (two ∙ ap (λ t. t ++ (codes " " ++ decimal (digest bytes))) one)
    ∙ parts old title (decimal (length bytes)) (codes " ") (decimal (digest bytes)) (10 ∷ [])

-- the line of a listing that was taken from the start
pub line_of_listing : (rows taken start line text : List ℕ) → start ≡ [] → taken ≡ start ++ rows → line ≡ [] → text ≡ line ++ ended_line (codes "rows ") taken → text ≡ ended_line (codes "rows ") rows
line_of_listing rows taken start line text none took empty is =
    is ∙ ap (λ t. t ++ ended_line (codes "rows ") taken) empty ∙ ap (ended_line (codes "rows ")) (took ∙ ap (λ t. t ++ rows) none)
