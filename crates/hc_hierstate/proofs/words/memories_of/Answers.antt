use Rattle.hc_hierstate.proofs.Pushed.{memory_more}
use Rattle.hc_hierstate.proofs.words.memories_of.Goals as goal

pub memories-preserved : goal.memories-preserved
memories-preserved c = memory_more c.memories.m c.memories.ids.items c.push.new.self.items c.memories.invariant c.in_ok-push.ensures.items
