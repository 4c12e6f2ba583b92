use Rattle.std.proofs.Common.{ℕ, List, ◌++◌, ap, ◌∙◌, subst}
use Rattle.std.specs.Prelude.{codes}
use Rattle.hc_cli.specs.Sent.{IsSent}
use Rattle.hc_cli.specs.FaultLine.{kind_text}
use Rattle.hc_cli.proofs.Parts.{front_pieces}
use Rattle.hc_cli.proofs.fault_line.write_front.Goals as goal

pub returns : goal.returns
returns g c =
    subst (IsSent _ _ _ _ c.write_pieces.result)
    (front_pieces c.as_bytes.result.now c.as_bytes-line.result.now
    ∙ ap (λ (kind : List ℕ). kind ++ codes " line " ++ c.as_bytes-line.result.now ++ codes " path ") (c.as_bytes.ensures.value ∙ c.kind_text.ensures)
    ∙ ap (λ (digits : List ℕ). kind_text c.args.fault.now.kind ++ codes " line " ++ digits ++ codes " path ") (c.as_bytes-line.ensures.value ∙ c.format.ensures.text))
    c.write_pieces.ensures
