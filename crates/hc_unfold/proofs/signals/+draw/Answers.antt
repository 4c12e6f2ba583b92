use Rattle.hc_unfold.proofs.Growing.{grows_on}
use Rattle.hc_unfold.proofs.Lists.{nodes_more}
use Rattle.hc_unfold.proofs.Known.{known_still}
use Rattle.hc_unfold.proofs.Drawn.{drawn_more}
use Rattle.hc_unfold.proofs.signals.+draw.Goals as goal

pub draw_all-sigs-preserved : goal.draw_all-sigs-preserved
draw_all-sigs-preserved t c = record {
  drawn = drawn_more c.args.names.now c.args.env.now c.args.sigs.now c.sigs.sig-index c.sig-item.result c.sigs.nodes.items c.push.new.nodes.items c.in_ok-node.node c.sigs.builder
      c.draw.new.builder _ c.sigs-test.true c.sig-item.is c.in_ok-node.ensures.drawn c.in_ok-push.ensures.ok c.sigs.invariant.drawn;
  grows = grows_on _ _ _ c.sigs.invariant.grows c.in_ok-node.ensures.grows;
  known = known_still c.args.names.now c.sigs.builder c.draw.new.builder c.sigs.invariant.known c.in_ok-node.ensures.grows;
  nodes = nodes_more c.sigs.builder c.draw.new.builder c.sigs.nodes.items c.push.new.nodes.items c.in_ok-node.node c.sigs.invariant.nodes c.in_ok-node.ensures.grows
      c.in_ok-node.ensures.node c.in_ok-push.ensures.ok;
}
