use Rattle.std.proofs.Common.{List, [], ◌∷◌, ◌++◌, ap, ◌∙◌}
use Rattle.hc_signal.specs.declared.signal.Port.{Port}
use Rattle.hc_program_tests.proofs.TwoPorts.{two_ports}
use Rattle.hc_program_tests.proofs.bench.ports.Goals as goal

pub returns-clause-lawful : goal.returns-clause-lawful
returns-clause-lawful c =
    two_ports c.add-2.new.ports c.new.result c.in_ok-port.field-0 c.in_ok-port-2.field-0 c.in_ok-port.ensures.lawful c.in_ok-port-2.ensures.lawful
    (c.in_ok-add-2.ensures ∙ ap (λ (l : List Port). l ++ c.in_ok-port-2.field-0 ∷ []) (c.in_ok-add.ensures ∙ ap (λ (l : List Port). l ++ c.in_ok-port.field-0 ∷ []) c.new-inputs.ensures))
    c.new.ensures
