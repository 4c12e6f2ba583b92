use denote.Param.Send.{sendable}
use Rattle.std.proofs.Crossing.{crosses}
use Rattle.hc_text_tests.proofs.Crossing.{stmt_send, stmt_sync}
use Rattle.hc_text_tests.proofs.shared.statements_are_shared.Goals as goal

pub is_shared-requires-send-T : goal.is_shared-requires-send-T
is_shared-requires-send-T c κs = search (stmt_send, sendable, crosses) depth 40

pub is_shared-requires-sync-T : goal.is_shared-requires-sync-T
is_shared-requires-sync-T c κs = search (stmt_sync, sendable, crosses) depth 40
