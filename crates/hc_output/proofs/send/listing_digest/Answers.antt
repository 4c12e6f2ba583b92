use Rattle.std.proofs.Common.{◌∙◌}
use Rattle.hc_output.proofs.DigestLines.{line_of_listing}
use Rattle.hc_output.proofs.send.listing_digest.Goals as goal

pub returns : goal.returns
returns g c = λ rows listed.
    line_of_listing rows c.deref.result.now c.new-listing.result.bytes.items c.new-line.result.items c.push_digest_line.new.text.items
    c.new-listing.ensures (c.deref.ensures.value ∙ c.in-Ok.ensures.all rows listed) c.new-line.ensures.items c.in_ok-push_digest_line.ensures
