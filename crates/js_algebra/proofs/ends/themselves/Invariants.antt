-- So far each is itself.
use Rattle.std.proofs.Common.{map}
use Rattle.js_algebra.specs.View.{signed_view}
use Rattle.js_algebra.specs.Ends.{AreThemselves}
use Rattle.js_algebra.proofs.ends.themselves.Given as goal

abbrev pub invariant-loop-p : goal.invariant-loop-p
invariant-loop-p l = AreThemselves l.p (map signed_view l.ends.items)
