use Rattle.hc_statements.proofs.Known.{known_node_label, known_memory_label, known_instance_label}
use Rattle.hc_statements.proofs.lines.put_label.Goals as goal

pub returns-in_ok-label_node-in-Node-clause-known : goal.returns-in_ok-label_node-in-Node-clause-known
returns-in_ok-label_node-in-Node-clause-known c = known_node_label c.args.state.now.graph c.label_node.new.self c.args.state.now.names c.in-Node.id c.args.label.now
    c.requires.known c.in_ok-label_node-in-Node.ensures.made

pub returns-in_ok-label_memory-in-Memory-clause-known : goal.returns-in_ok-label_memory-in-Memory-clause-known
returns-in_ok-label_memory-in-Memory-clause-known c = known_memory_label c.args.state.now.graph c.label_memory.new.self c.args.state.now.names c.in-Memory.id c.args.label.now
    c.requires.known c.in_ok-label_memory-in-Memory.ensures.made

pub returns-in_ok-label_instance-in-Instance-clause-known : goal.returns-in_ok-label_instance-in-Instance-clause-known
returns-in_ok-label_instance-in-Instance-clause-known c = known_instance_label c.args.state.now.graph c.label_instance.new.self c.args.state.now.names c.in-Instance.id
    c.args.label.now c.requires.known c.in_ok-label_instance-in-Instance.ensures.made
