use Rattle.std.proofs.Common.{◌≡◌, ◌≤◌, length}
use Rattle.hc_lines.specs.LineReading as r
use Rattle.hc_lines.proofs.line.conns.Given as goal

abbrev pub invariant-more : goal.invariant-more
invariant-more l = (l.left ≤ length l.tokens) × (r.all_items r.past_end (r.conn l.depth) l.tokens ≡ r.items r.past_end (r.conn l.depth) l.left l.items l.rest)

abbrev pub decreases-more : goal.decreases-more
decreases-more l = l.left
