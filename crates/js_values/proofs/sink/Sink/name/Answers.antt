use Rattle.js_values.proofs.SinkLemmas.{entry-named}
use Rattle.js_values.proofs.sink.Sink.name.Goals as goal

pub returns : goal.returns
returns c =
    let s = c.self.inside in
    entry-named c.args.self.now s.first s.rank _ s.ranks.items s.named.items c.push.new.self.items c.args.position
    c.self.view_is c.in_ok-push.ensures.items
