use Rattle.std.proofs.Common.{◌≤◌, length, ◌∙◌, sym, arith}
use Rattle.hc_tokens.proofs.Cut.{front_some, token_within}
use Rattle.hc_tokens.proofs.lexer.tokens.Goals as goal

pub split_at-requires : goal.split_at-requires
split_at-requires c = (token_within c.cut.rest.now c.in_ok-token.token c.in_ok-token.len c.in_ok-token.ensures.value).1

pub cut-smaller : goal.cut-smaller
cut-smaller c = let w : (1 ≤ c.in_ok-token.len) × (c.in_ok-token.len ≤ length c.cut.rest.now) = token_within c.cut.rest.now c.in_ok-token.token c.in_ok-token.len c.in_ok-token.ensures.value in omega (arith, c.split_at.ensures.back_len)

pub cut-preserved : goal.cut-preserved
cut-preserved c =
    let w : (1 ≤ c.in_ok-token.len) × (c.in_ok-token.len ≤ length c.cut.rest.now) = token_within c.cut.rest.now c.in_ok-token.token c.in_ok-token.len c.in_ok-token.ensures.value in
    (omega (arith, c.split_at.ensures.back_len), rw c.in_ok-push.ensures.ok (front_some c.cut.tokens c.cut.rest.now _ _ _ _ _ _ c.cut.invariant.1 c.in-Some.ensures.cases.0 c.if-first-eq35.false (sym c.is_blank.ensures ∙ c.if-is_blank.false) c.in_ok-token.ensures.value c.split_at.ensures.back))
