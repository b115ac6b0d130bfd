-- Lists are the same where each two signed positions are.
use Rattle.std.proofs.Common.{◌∙◌}
use Rattle.js_algebra.proofs.Sorting.{same_fields}
use Rattle.js_checker.proofs.ListingLemmas.{same-lists}
use Rattle.js_checker.proofs.listing.same.Goals as goal

pub returns : goal.returns
returns c = c.eq.ensures ∙ same-lists _ (λ x y. same_fields x.plus y.plus x.pos.0 y.pos.0) c.args.list.now
    c.args.goal.now
