use Rattle.std.proofs.Common.{◌≡◌, length}
use Rattle.hc_flatten.specs.Sizes.{AreSizes}
use Rattle.hc_flatten.proofs.size.entry_sizes.Given as goal

abbrev pub invariant-entries : goal.invariant-entries
invariant-entries l = record {
  many : length l.sizes.items ≡ l.k;
  are : AreSizes l.db.entries l.sizes.items;
}
