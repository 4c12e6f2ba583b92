use Rattle.std.proofs.Common.{subst, sym}
use Rattle.hc_signal.specs.Tree.{leaf}
use Rattle.hc_flatsim.specs.Machine.{Machine, IsKnown, numbers, state_of, valuation}
use Rattle.hc_flatsim.proofs.machine.FlatMachine.know.Goals as goal

pub invariant_of-self : goal.invariant_of-self
invariant_of-self c = record {
  lawful = c.self.invariant.lawful;
  flat = c.self.invariant.flat;
  schedule = c.self.invariant.schedule;
  plan = c.self.invariant.plan;
  clocked = c.self.invariant.clocked;
  used = c.self.invariant.used;
  used_once = c.self.invariant.used_once;
  values = c.self.invariant.values;
  registers = c.self.invariant.registers;
  memories = c.self.invariant.memories;
  inputs = c.self.invariant.inputs;
  before = c.self.invariant.before;
  after = c.self.invariant.after;
  known = subst (λ (m : Machine). IsKnown c.args.known (leaf m.graph) (state_of m) (numbers m.inputs) (valuation m.values)) (sym c.self.view_is) c.requires;
}
