-- The table of signs that the program has, and the sign at the front by any table.
use Rattle.std.specs.Prelude.{ℕ, List, ◌++◌, Option, Some, None, length, nat_eq}
use Rattle.std.specs.List.{find, starts_with}
use Rattle.std.specs.Option.{option_map}
use Rattle.hc_tokens.specs.declared.token.Token.{Token}
use Rattle.hc_tokens.specs.declared.token.Token.TheVariants as token
use Rattle.hc_tokens.specs.declared.lexer.Sign.{Sign}
use Rattle.hc_tokens.specs.declared.lexer.Sign.TheVariants as sign
use Rattle.hc_tokens.specs.Tokens.{Front}

abbrev pub token_of : Sign → Token
token_of (sign.Operator o) = token.Operator o
token_of (sign.Mark m) = token.Mark m

abbrev pub front_among : List ℕ → List (List ℕ × Token) → Front
front_among bytes table = option_map (λ s. (s.1, length s.0)) (find (λ s. starts_with nat_eq bytes s.0) table)

-- the tokens, and then those of the rest
abbrev pub with_front : List Token → Option (List Token) → Option (List Token)
with_front front None = None
with_front front (Some ts) = Some (front ++ ts)
