use Rattle.std.proofs.Common.{ℕ, List, [], ◌∷◌, ◌++◌, ap, ◌∙◌, subst, w64}
use Rattle.std.proofs.lemmas.Int.{to_z-of_z}
use Rattle.std.specs.Fmt.{signed_decimal}
use Rattle.hc_cli.specs.Sent.{IsSent}
use Rattle.hc_cli.proofs.fault_line.write_indexed.Goals as goal

pub returns : goal.returns
returns g c =
    subst (IsSent _ _ _ _ c.write_pieces.result)
    (ap (λ (name : List ℕ). 47 ∷ (name ++ 91 ∷ (c.as_bytes-index.result.now ++ 93 ∷ []))) c.bytes.ensures
    ∙ ap (λ (digits : List ℕ). 47 ∷ (c.args.name.now ++ 91 ∷ (digits ++ 93 ∷ [])))
    (c.as_bytes-index.ensures.value ∙ c.format.ensures.text ∙ ap signed_decimal (to_z-of_z w64 c.args.index c.ranges.index)))
    c.write_pieces.ensures
