use Rattle.hc_sigtext.proofs.SignalLaws.{signal-read, signal-spelled, one_signal}
use Rattle.hc_sigtext.proofs.laws.signals_are_read.Goals as goal

pub returns-clause-read : goal.returns-clause-read
returns-clause-read c = signal-read

pub returns-clause-spelled : goal.returns-clause-spelled
returns-clause-spelled c = signal-spelled

pub returns-clause-one : goal.returns-clause-one
returns-clause-one c = one_signal
