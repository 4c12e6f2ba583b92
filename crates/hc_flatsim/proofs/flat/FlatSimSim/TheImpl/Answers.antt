use Rattle.hc_flatsim.proofs.flat.FlatSimSim.TheImpl.Goals as goal

pub set-tells : goal.set-tells
set-tells g c = c.ensures c.requires
