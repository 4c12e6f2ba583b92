use Rattle.hc_hierstate.proofs.Own.{memory_listed, register_listed}
use Rattle.hc_hierstate.proofs.start_laws.registers_are_listed.Goals as goal

pub returns-clause-registers : goal.returns-clause-registers
returns-clause-registers c g id = register_listed g id

pub returns-clause-memories : goal.returns-clause-memories
returns-clause-memories c g id = memory_listed g id
