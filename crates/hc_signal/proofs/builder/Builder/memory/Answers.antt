use Rattle.hc_signal.proofs.AddedMemories.{kept_memory}
use Rattle.hc_signal.proofs.builder.Builder.memory.Goals as goal

pub invariant_of-self-2 : goal.invariant_of-self-2
invariant_of-self-2 c =
    kept_memory _ c.args.self.now _ _ _ _ _ _ _ _ c.self.invariant c.self.view_is c.requires.room c.in_ok-size.ensures.width.1 c.in_ok-size.ensures.size.1 c.in_ok-size.ensures.size.2
    c.new.ensures c.push_reserved.ensures.items c.reserve.ensures.items
