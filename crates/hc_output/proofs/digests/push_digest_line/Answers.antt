use Rattle.std.proofs.Common.{ℕ, ◌++◌, codes, ap, ◌∙◌}
use Rattle.std.specs.Prelude.{decimal}
use Rattle.hc_output.proofs.DigestLines.{line_added}
use Rattle.hc_output.proofs.digests.push_digest_line.Goals as goal

pub returns : goal.returns
returns c =
    line_added c.args.text.now.items c.args.title.now c.args.bytes.now c.push_number.new.text.items c.push_number-2.new.text.items c.push.new.self.items
    c.in_ok-push_number.ensures (c.in_ok-push_number-2.ensures ∙ ap (λ (n : ℕ). c.push_number.new.text.items ++ (codes " " ++ decimal n)) c.digest_of.ensures) c.in_ok-push.ensures.items
