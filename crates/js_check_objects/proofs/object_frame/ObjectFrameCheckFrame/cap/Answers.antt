-- The bound at the cell's number.
use Rattle.std.proofs.Common.{length, sym}
use Rattle.std.proofs.lemmas.Bool.{ltb-true, ltb-false}
use Rattle.js_check_objects.proofs.Lookups.{cap-within, cap-past}
use Rattle.js_check_objects.proofs.object_frame.ObjectFrameCheckFrame.cap.Goals as goal

pub returns-in-Some : goal.returns-in-Some
returns-in-Some c =
    cap-within c.args.self.now.caps.items c.deref.result.now c.args.cell c.in-Some.cap.now c.deref.ensures.value
    (ltb-true c.args.cell (length c.deref.result.now) (sym c.in-Some.ensures.lookup.0)) c.in-Some.ensures.lookup.1

pub returns-in-None : goal.returns-in-None
returns-in-None c =
    cap-past c.args.self.now.caps.items c.deref.result.now c.args.cell c.deref.ensures.value
    (ltb-false c.args.cell (length c.deref.result.now) (sym c.in-None.ensures.lookup.0))
