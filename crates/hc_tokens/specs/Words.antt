-- The words of calls, and which words are names.
use Rattle.std.specs.Prelude.{ℕ, Bool, not, List, [], ◌∷◌, codes}
use Rattle.std.specs.List.{list_any}
use Rattle.hc_tokens.specs.Tokens.{same_bytes}

-- the words of calls, which name nothing
unfoldable pub call_words : List (List ℕ)
call_words = codes "const" ∷ codes "add" ∷ codes "sub" ∷ codes "mulu" ∷ codes "muls" ∷ codes "and" ∷ codes "or" ∷ codes "xor" ∷ codes "eq" ∷ codes "lt" ∷ codes "not" ∷ codes "mux" ∷ codes "cat" ∷ codes "select" ∷ codes "read" ∷ codes "op" ∷ codes "bits" ∷ codes "ne" ∷ codes "gt" ∷ codes "le" ∷ codes "ge" ∷ codes "lts" ∷ codes "mux2" ∷ codes "uresize" ∷ codes "sresize" ∷ codes "sll" ∷ codes "srl" ∷ codes "sra" ∷ codes "repeat" ∷ codes "msb" ∷ codes "lsb" ∷ []

-- a word that is no call word
abbrev pub is_name : List ℕ → Bool
is_name w = not (list_any (same_bytes w) call_words)
