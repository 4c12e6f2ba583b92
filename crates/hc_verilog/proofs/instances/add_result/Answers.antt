use Rattle.hc_verilog.proofs.instances.add_result.Goals as goal

pub returns-in_ok-insert : goal.returns-in_ok-insert
returns-in_ok-insert c i port = rw c.in-InstOut.is (c.in_ok-insert.ensures.updates.0 (i, port))
