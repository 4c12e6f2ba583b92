use Rattle.std.proofs.Common.{◌≡◌, length, rules}
use Rattle.hc_statements.proofs.Connected.{values_count}
use Rattle.hc_statements.proofs.instances.arguments.Goals as goal

pub returns-clause-count : goal.returns-clause-count
returns-clause-count c =
    let same : length c.args.args.now ≡ length c.args.circuit.now.params = search rules in
    values_count c.args.env.now c.args.args.now c.in_ok-values.values.items _ c.in_ok-values.ensures same
