use Rattle.std.proofs.Common.{◌≡◌, ◌≤◌, ◌+◌, ◌*◌}
use Rattle.hc_tokens.specs.Grammar.{is_of_sum, is_of_product}
use Rattle.hc_tokens.specs.Reading as reading
use Rattle.hc_tokens.proofs.numbers.+number.Given as goal

abbrev pub decreases-atom : goal.decreases-atom
decreases-atom l = 8 * l.depth + 1

abbrev pub decreases-number : goal.decreases-number
decreases-number l = 8 * l.depth + 5

abbrev pub decreases-opened : goal.decreases-opened
decreases-opened l = 8 * l.depth

abbrev pub decreases-product : goal.decreases-product
decreases-product l = 8 * l.depth + 3

abbrev pub decreases-signed : goal.decreases-signed
decreases-signed l = 8 * l.depth + 2

abbrev pub decreases-sum : goal.decreases-sum
decreases-sum l = 8 * l.depth + 4

abbrev pub invariant-product-loop-op : goal.invariant-product-loop-op
invariant-product-loop-op l = (l.left ≤ 32) × (reading.product (reading.inside l.depth) l.tokens ≡ reading.chain is_of_product (reading.signed (reading.inside l.depth)) l.left l.value l.rest)

abbrev pub decreases-product-loop-op : goal.decreases-product-loop-op
decreases-product-loop-op l = l.left

abbrev pub invariant-sum-loop-op : goal.invariant-sum-loop-op
invariant-sum-loop-op l = (l.left ≤ 32) × (reading.sum (reading.inside l.depth) l.tokens ≡ reading.chain is_of_sum (reading.product (reading.inside l.depth)) l.left l.value l.rest)

abbrev pub decreases-sum-loop-op : goal.decreases-sum-loop-op
decreases-sum-loop-op l = l.left
