use Rattle.std.proofs.Common.{rules, ◌≡◌, ◌++◌, ◌∷◌, [], ◌&&◌, ◌||◌, not, nat_eq, get_or}
use Rattle.documents.specs.Tests.{every}
use Rattle.js_valid.specs.Parts.{asked_by}
use Rattle.js_valid.specs.Requests.{entries_in, owners_in}
use Rattle.js_valid.proofs.RequestLaws.{add_next, entries-added, owners-added, requests-long}
use Rattle.js_valid.proofs.ask.add.Goals as goal

pub loop-entry-preserved : goal.loop-entry-preserved
loop-entry-preserved c =
    let rs = c.loop-entry.requests.items in
    let pushed : c.push.new.self.items ≡ rs ++ (record {
      owner = c.args.owner;
      entry = get_or c.args.entries.now c.loop-entry.entry-index 0;
    }) ∷ [] = search rules in
    add_next c.args.owner c.args.entries.now c.loop-entry.entry-index (owners_in rs) (entries_in rs) _ _
    (λ e p. asked_by e p (owners_in c.args.requests.now.items) (entries_in c.args.requests.now.items)
    && (not (nat_eq c.args.owner e) || every p c.args.entries.now)) c.loop-entry-test.true (requests-long rs)
    (owners-added rs c.push.new.self.items _ pushed) (entries-added rs c.push.new.self.items _ pushed)
    c.loop-entry.invariant
