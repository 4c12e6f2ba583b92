use Rattle.std.proofs.Common.{◌≡◌, ◌*◌, ◌&&◌, nat_le, true, rules}
use Rattle.hc_signal.specs.Builds.{width_at}
use Rattle.hc_unfold.proofs.Lists.{same_nodes}
use Rattle.hc_unfold.proofs.Copies.{fit_few, copies_drawn}
use Rattle.hc_unfold.proofs.derived.copies.Goals as goal

pub cat-requires-clause-part_nodes : goal.cat-requires-clause-part_nodes
cat-requires-clause-part_nodes c =
    let fit : (nat_le 1 c.args.count && nat_le (c.args.count * c.width.result) 128) ≡ true = search rules in
    same_nodes c.args.builder.now c.args.x c.args.count _ (c.filled-nodes.ensures c.args.count (fit_few c.args.count c.width.result fit c.width.ensures.range.0)) c.requires

pub returns-clause-drawn : goal.returns-clause-drawn
returns-clause-drawn c =
    let fit : (nat_le 1 c.args.count && nat_le (c.args.count * c.width.result) 128) ≡ true = search rules in
    let same : (nat_le 1 c.args.count && nat_le (c.args.count * width_at c.args.builder.now c.args.x) 128) ≡ true = search rules in
    copies_drawn c.cat.result c.args.builder.now c.cat.new.builder c.args.x c.args.count _ same
    (c.filled-nodes.ensures c.args.count (fit_few c.args.count c.width.result fit c.width.ensures.range.0)) c.cat.ensures.drawn
