-- A template: a text with places at which numbers are drawn, in the order of the text.
use Rattle.std.specs.Prelude.{ℕ, zero, suc, List, [], ◌∷◌, ◌++◌, length, slice_index_or, decimal}
use Rattle.hc_workload.specs.Generator.{next_state, number_below}

-- bytes as they are; a number drawn below a limit, in decimal; or one of some texts, drawn by its place
pub data Piece : Type 0 where
  bytes : List ℕ → Piece
  drawn : ℕ → Piece
  choice : List (List ℕ) → Piece

abbrev pub Template : Type 0
Template = List Piece

abbrev pub said : List ℕ → Template
said text = bytes text ∷ []

abbrev pub number : ℕ → Template
number n = said (decimal n)

abbrev pub below : ℕ → Template
below limit = drawn limit ∷ []

abbrev pub one_of : List (List ℕ) → Template
one_of texts = choice texts ∷ []

-- the templates of 0, 1 and so on, this many
unfoldable pub each : ℕ → (ℕ → Template) → Template
each zero f = []
each (suc n) f = each n f ++ f n

-- ---- what a template gives from a state of the generator

abbrev pub text_at : List (List ℕ) → ℕ → List ℕ
text_at texts place = slice_index_or texts place []

unfoldable pub filled : ℕ → Template → List ℕ
filled s [] = []
filled s (bytes text ∷ ps) = text ++ filled s ps
filled s (drawn limit ∷ ps) = decimal (number_below limit (next_state s)) ++ filled (next_state s) ps
filled s (choice texts ∷ ps) = text_at texts (number_below (length texts) (next_state s)) ++ filled (next_state s) ps

-- the state after all draws
unfoldable pub state_after : ℕ → Template → ℕ
state_after s [] = s
state_after s (bytes text ∷ ps) = state_after s ps
state_after s (drawn limit ∷ ps) = state_after (next_state s) ps
state_after s (choice texts ∷ ps) = state_after (next_state s) ps
