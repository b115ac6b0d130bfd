use denote.Param.Send.{sendable}
use Rattle.js_algebra.proofs.Crossing.{Core-send, Core-sync}
use Rattle.low_tests.proofs.algebra.tables_cross_threads.Goals as goal

pub shared-requires-send-T : goal.shared-requires-send-T
shared-requires-send-T g c κs = search (sendable, Core-send)

pub shared-requires-sync-T : goal.shared-requires-sync-T
shared-requires-sync-T g c κs = search (sendable, Core-sync)
