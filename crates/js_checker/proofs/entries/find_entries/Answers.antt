-- Threads may share core tables.
use denote.Param.Send.{sendable}
use Rattle.std.proofs.Crossing.{crosses}
use Rattle.js_algebra.proofs.goal.Goal.TheSendSync as Goal
use Rattle.js_lines.proofs.lines.CertLine.TheSendSync as CertLine
use Rattle.js_algebra.proofs.Crossing.{Core-sync}
use Rattle.js_checker.proofs.entries.find_entries.Goals as goal

pub map_items-requires-sync-T : goal.map_items-requires-sync-T
map_items-requires-sync-T g c κs = search (sendable, crosses, Core-sync, Goal.the_sync, CertLine.the_sync) depth 40
