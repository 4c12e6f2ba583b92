use Rattle.hc_words.proofs.OneJob.{one_job}
use Rattle.hc_words.proofs.job.one_job.Goals as goal

pub returns : goal.returns
returns c = one_job
