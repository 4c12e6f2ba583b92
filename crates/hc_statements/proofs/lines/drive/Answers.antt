use Rattle.hc_statements.proofs.Known.{known_driven}
use Rattle.hc_statements.proofs.lines.drive.Goals as goal

pub returns-clause-known : goal.returns-clause-known
returns-clause-known c = known_driven c.args.state.now.graph c.drive.new.self c.args.state.now.names c.args.wire c.args.from c.requires.known c.in_ok-drive.ensures.made
