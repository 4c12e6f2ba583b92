use Rattle.hc_words.proofs.Decided.{few_workers, words_decided}
use Rattle.hc_words.proofs.word_laws.words_are_decided.Goals as goal

pub returns-clause-job : goal.returns-clause-job
returns-clause-job c = words_decided

pub returns-clause-workers : goal.returns-clause-workers
returns-clause-workers c = few_workers
