use Rattle.std.proofs.Common.{◌≡◌, ◌≤◌, length}
use Rattle.hc_lines.specs.LineReading as r
use Rattle.hc_lines.proofs.line.top_args.Given as goal

abbrev pub invariant-more : goal.invariant-more
invariant-more l = (l.left ≤ length l.tokens) × (r.all_items r.past_end (r.atom_at l.depth) l.tokens ≡ r.items r.past_end (r.atom_at l.depth) l.left l.items l.rest)

abbrev pub decreases-more : goal.decreases-more
decreases-more l = l.left
