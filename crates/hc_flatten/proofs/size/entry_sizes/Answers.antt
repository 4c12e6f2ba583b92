use Rattle.std.proofs.Common.{◌+◌, length, ap, ◌∙◌, length-append}
use Rattle.hc_flatten.proofs.Starts.{sizes_more}
use Rattle.hc_flatten.proofs.size.entry_sizes.Goals as goal

pub entries-preserved : goal.entries-preserved
entries-preserved c = record {
  many = ap length c.in_ok-push.ensures.items ∙ length-append c.entries.sizes.items _ ∙ ap (λ n. n + 1) c.entries.invariant.many;
  are = sizes_more c.args.db.now.entries c.entries.sizes.items c.push.new.self.items c.entries.k c.get.result.now c.form_size-size.result c.entries.invariant.many
      c.entries.invariant.are (c.unfoldings_are_of_kids.ensures.kids c.args.db.now (record { 0 = c.entries.k }) c.get.result.now c.legal.ensures c.get.ensures)
      c.form_size-size.ensures c.in_ok-push.ensures.items;
}
