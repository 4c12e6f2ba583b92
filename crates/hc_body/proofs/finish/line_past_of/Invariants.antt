use Rattle.std.proofs.Common.{◌≡◌, drop}
use Rattle.std.specs.Prelude.{filter}
use Rattle.hc_body.specs.BodyOf.{line_at, is_of}
use Rattle.hc_body.proofs.finish.line_past_of.Given as goal

-- the head that is looked for stands among those that are left
abbrev pub invariant-heads : goal.invariant-heads
invariant-heads l = line_at (filter (is_of l.inputs) (drop l.head-index l.heads)) l.left ≡ line_at (filter (is_of l.inputs) l.heads) 128
