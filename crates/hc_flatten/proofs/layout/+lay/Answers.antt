use Rattle.std.proofs.Common.{◌<◌, sym, ap, subst, refl}
use Rattle.hc_dbstate.proofs.Unfolded.{kid_below}
use Rattle.hc_flatten.specs.Flattened.{AreKids}
use Rattle.hc_flatten.proofs.Kids.{kid_known}
use Rattle.hc_flatten.proofs.Rows.{item_at}
use Rattle.hc_flatten.proofs.Laying.{kid_laid, kid_nodes, kid_memories, nodes_laid, memories_laid, no_more}
use Rattle.hc_flatten.proofs.layout.+lay.Goals as goal

pub lay-requires : goal.lay-requires
lay-requires t c =
    let are : AreKids c.args.db.now.entries c.get.result.now c.args.place.now c.as_slice-kid-items.result.now = subst
    (AreKids c.args.db.now.entries c.get.result.now c.args.place.now) (sym c.as_slice-kid-items.ensures.value) c.in_ok-kids.ensures.kids in
    let e : _ = (are.each c.kids.kid-index c.kid-item.result (item_at _ c.as_slice-kid-items.result.now c.kids.kid-index c.kid-item.result refl c.kids-test.true c.kid-item.is)).0 in (
      subst (λ n. c.kid-item.result.entry.0 < n) c.decreases (kid_below c.args.db.now c.legal.ensures c.args.entry.0 c.get.result.now c.kids.kid-index c.kid-item.result.entry c.get.ensures e),
      (
        kid_known c.args.db.now c.legal.ensures c.get.result.now (c.args.entry.0, c.get.ensures) c.kids.kid-index c.kid-item.result.entry e,
        c.requires.sizes,
      ),
    )

pub kids-preserved : goal.kids-preserved
kids-preserved t c = record {
  nodes = kid_laid _ c.kids.laid.nodes.items c.lay.new.laid.nodes.items _ c.kids.kid-index _ c.kids.invariant.nodes c.in_ok-lay.ensures.nodes
      (ap (kid_nodes c.args.db.now.entries) (item_at _ c.as_slice-kid-items.result.now c.kids.kid-index c.kid-item.result refl c.kids-test.true c.kid-item.is));
  memories = kid_laid _ c.kids.laid.memories.items c.lay.new.laid.memories.items _ c.kids.kid-index _ c.kids.invariant.memories c.in_ok-lay.ensures.memories
      (ap (kid_memories c.args.db.now.entries) (item_at _ c.as_slice-kid-items.result.now c.kids.kid-index c.kid-item.result refl c.kids-test.true c.kid-item.is));
}

pub returns-clause-nodes : goal.returns-clause-nodes
returns-clause-nodes t c =
    nodes_laid _ c.legal.ensures c.args.entry c.get.result.now c.args.place.now c.as_slice-kid-items.result.now c.get.ensures
    (subst (AreKids c.args.db.now.entries c.get.result.now c.args.place.now) (sym c.as_slice-kid-items.ensures.value) c.in_ok-kids.ensures.kids)
    c.args.laid.now.nodes.items _ c.kids.laid.nodes.items c.kids.kid-index c.in_ok-kids.ensures.nodes
    (no_more c.as_slice-kid-items.result.now c.kids.kid-index c.kids.auto.kid-index-end c.kids-test.false) c.kids.invariant.nodes

pub returns-clause-memories : goal.returns-clause-memories
returns-clause-memories t c =
    memories_laid _ c.legal.ensures c.args.entry c.get.result.now c.args.place.now c.as_slice-kid-items.result.now c.get.ensures
    (subst (AreKids c.args.db.now.entries c.get.result.now c.args.place.now) (sym c.as_slice-kid-items.ensures.value) c.in_ok-kids.ensures.kids)
    c.args.laid.now.memories.items _ c.kids.laid.memories.items c.kids.kid-index c.in_ok-kids.ensures.memories
    (no_more c.as_slice-kid-items.result.now c.kids.kid-index c.kids.auto.kid-index-end c.kids-test.false) c.kids.invariant.memories
