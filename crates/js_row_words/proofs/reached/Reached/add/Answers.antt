use Rattle.std.proofs.Common.{◌≡◌, set, true, false, get_or, sym, subst}
use Rattle.js_row_words.specs.Reaching.{AreListed}
use Rattle.js_row_words.proofs.ReachingLaws.{listed_more}
use Rattle.js_row_words.proofs.reached.Reached.add.Goals as goal

pub returns-in_ok-push-clause-listed : goal.returns-in_ok-push-clause-listed
returns-in_ok-push-clause-listed c =
    let unseen : get_or c.args.self.now.seen.items c.args.row false ≡ false =
    sym (subst (λ z. z ≡ get_or c.args.self.now.seen.items c.args.row z) c.if-not-index.true c.index.ensures) in
    subst (λ z. AreListed (set c.args.self.now.seen.items c.args.row true) z) (sym c.in_ok-push.ensures.items)
    (listed_more c.args.self.now.seen.items c.args.self.now.list.items c.args.row c.requires.listed c.requires.row
    unseen)
