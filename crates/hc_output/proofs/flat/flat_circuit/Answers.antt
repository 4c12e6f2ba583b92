use Rattle.hc_flatten.proofs.Elaborated.{top_good, top_no_loop}
use Rattle.hc_output.proofs.Runs.{flat_made, good_whole}
use Rattle.hc_output.proofs.flat.flat_circuit.Goals as goal

pub returns : goal.returns
returns c =
    let own = c.walks_are_whole.ensures.own c.args.hier.now in
    let kids = c.walks_are_whole.ensures.kids c.args.hier.now in
    flat_made c.args.db.now.entries c.args.hier.now c.flatten.result (good_whole _ (top_good c.args.db.now c.legal.ensures c.args.hier.now c.requires own kids))
    (top_no_loop c.args.db.now c.legal.ensures c.args.hier.now c.requires own kids)
    c.flatten.ensures.flat c.flatten.ensures.instances c.flatten.ensures.checked c.flatten.ensures.no_loop
