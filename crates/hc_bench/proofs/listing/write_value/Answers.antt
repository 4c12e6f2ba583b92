use Rattle.std.proofs.Common.{ℕ, ◌≡◌, ◌+◌, ◌/◌, ◌∙◌, ap, subst, rules}
use Rattle.hc_bits.specs.Digits.{hex, hex_of}
use Rattle.hc_bench.specs.Queued.{IsQueued}
use Rattle.hc_bench.proofs.Rows.{front_digits, value_pieces}
use Rattle.hc_bench.proofs.listing.write_value.Goals as goal

pub returns : goal.returns
returns g c =
    let count : c.div_ceil-count.result ≡ (c.args.port.now.width + 3) / 4 = search rules in
    let digits = front_digits c.div_ceil-count.result c.value.result c.put_hex.new.digits _ c.split_at.result.0.now c.put_hex.ensures c.split_at.ensures.front in
    subst (IsQueued _ _ _ _ _ _ c.write_pieces.result)
    (value_pieces c.args.port.now.name c.bytes.result.now c.split_at.result.0.now c.args.port.now.width c.args.value.value c.bytes.ensures
    (digits ∙ ap (λ (n : ℕ). hex n c.value.result) count ∙ ap (λ (v : ℕ). hex_of c.args.port.now.width v) c.value.ensures.value))
    c.write_pieces.ensures
