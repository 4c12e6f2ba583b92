use Rattle.hc_statements.proofs.Known.{known_written}
use Rattle.hc_statements.proofs.storage.write.Goals as goal

pub returns-clause-known : goal.returns-clause-known
returns-clause-known c = known_written c.args.state.now.graph c.write.new.self c.args.state.now.names c.args.mem _ c.requires.known c.in_ok-write.ensures.made
