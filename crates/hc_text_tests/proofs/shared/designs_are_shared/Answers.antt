use denote.Param.Send.{sendable}
use Rattle.std.proofs.Crossing.{crosses}
use Rattle.hc_text_tests.proofs.Crossing.{circuit_send, circuit_sync, design_send, design_sync}
use Rattle.hc_text_tests.proofs.shared.designs_are_shared.Goals as goal

pub is_shared-requires-send-T : goal.is_shared-requires-send-T
is_shared-requires-send-T c κs = search (circuit_send, sendable, crosses) depth 40

pub is_shared-requires-sync-T : goal.is_shared-requires-sync-T
is_shared-requires-sync-T c κs = search (circuit_sync, sendable, crosses) depth 40

pub is_shared-requires-2-send-T : goal.is_shared-requires-2-send-T
is_shared-requires-2-send-T c κs = search (design_send, sendable, crosses) depth 40

pub is_shared-requires-2-sync-T : goal.is_shared-requires-2-sync-T
is_shared-requires-2-sync-T c κs = search (design_sync, sendable, crosses) depth 40
