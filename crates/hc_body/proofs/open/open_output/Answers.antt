use Rattle.hc_statements.proofs.Known.{known_output}
use Rattle.hc_body.proofs.open.open_output.Goals as goal

pub returns-clause-known : goal.returns-clause-known
returns-clause-known c = known_output c.args.state.now.graph c.output.new.graph c.args.state.now.names c.name_port.new.names c.args.name.now c.args.width c.in_ok-id.id
    c.requires.known c.in_ok-id.ensures.id c.in_ok-id.ensures.made c.in_ok-name_port.ensures
