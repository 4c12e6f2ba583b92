use denote.Param.Send.{sendable}
use Rattle.std.proofs.Crossing.{crosses}
use Rattle.hc_text_tests.proofs.Crossing.{sig_send, sig_sync}
use Rattle.hc_text_tests.proofs.shared.signals_are_shared.Goals as goal

pub is_shared-requires-send-T : goal.is_shared-requires-send-T
is_shared-requires-send-T c κs = search (sig_send, sendable, crosses) depth 10

pub is_shared-requires-sync-T : goal.is_shared-requires-sync-T
is_shared-requires-sync-T c κs = search (sig_sync, sendable, crosses) depth 10
