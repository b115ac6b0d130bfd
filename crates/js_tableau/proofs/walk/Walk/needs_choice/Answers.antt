-- A member is in the table.
use Rattle.std.proofs.Common.{sym, ◌∙◌}
use Rattle.js_algebra.specs.View.{signed_view}
use Rattle.js_tableau.proofs.Settling.{member_in_table}
use Rattle.js_tableau.proofs.walk.Walk.needs_choice.Goals as goal

pub has_choice-requires-clause-in_table : goal.has_choice-requires-clause-in_table
has_choice-requires-clause-in_table c =
    member_in_table _ c.args.self.now.trail (signed_view c.args.x) c.requires
    (sym c.has.ensures ∙ c.if-not-has.false)
