use Rattle.hc_names.proofs.MarkLaws.{marked_more}
use Rattle.hc_names.proofs.naming.name_marked.Goals as goal

pub returns-clause-marked : goal.returns-clause-marked
returns-clause-marked c =
    marked_more c.args.names.now c.name_call.new.names c.args.marks.now.items c.mark.new.marks.items (c.args.entry, c.args.requested.now)
    c.requires.marks c.in_ok-name_call.ensures.named c.mark.ensures
