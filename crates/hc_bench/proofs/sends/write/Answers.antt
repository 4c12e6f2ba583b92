use Rattle.hc_bench.proofs.Pieces.{queued_unsent, queued_through}
use Rattle.hc_bench.proofs.sends.write.Goals as goal

pub returns-in_err-flush : goal.returns-in_err-flush
returns-in_err-flush g c = queued_unsent _ _ _ _ _ _ _ _ c.from_residual.result c.from_residual.ensures.0 c.in_err-flush.ensures.sent

pub returns : goal.returns
returns g c =
    queued_through _ _ _ _ _ _ _ _ _ _ c.write_all.result c.in_ok-flush.ensures.sent c.in_ok-flush.ensures.empty
    (record { all = c.write_all.ensures.all; front = c.write_all.ensures.front; cause = c.write_all.ensures.cause })
