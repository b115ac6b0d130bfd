use Rattle.patterns.specs.Tree.{one_of}
use Rattle.patterns.specs.Match.{Matches}
use Rattle.js_match.proofs.LeadsLaws as L
use Rattle.js_match.proofs.WalkLaws as W
use Rattle.js_match.proofs.walk.walk_one.Goals as goal

pub returns-clause-leads : goal.returns-clause-leads
returns-clause-leads c =
    W.ok_then c.after_one.result _ _
    (λ found e. L.leads_one_of c.args.set.now c.args.word.now c.args.starts.now found.items e) c.after_one.ensures

pub returns-clause-within : goal.returns-clause-within
returns-clause-within c =
    W.ok_then c.after_one.result _ _
    (λ found e. L.leads_within (Matches (one_of c.args.set.now) c.args.word.now) _ c.args.starts.now found.items
    (L.match_within (one_of c.args.set.now) c.args.word.now)
    (L.leads_one_of c.args.set.now c.args.word.now c.args.starts.now found.items e) c.requires) c.after_one.ensures
