use Rattle.std.proofs.Common.{rules, ◌≡◌, ◌+◌, length, ◌∷◌, [], ◌++◌, ap, ◌∙◌}
use Rattle.normal_forms.specs.NormalForm.{node_rank}
use Rattle.js_values.proofs.SinkLemmas.{pushed}
use Rattle.js_values.proofs.sink.Sink.push.Goals as goal

pub returns : goal.returns
returns c =
    let s = c.self.inside in
    let size : c.len.result ≡ length s.nodes.items = search rules in
    let number = c.in_ok-number.ensures ∙ ap (λ n. s.first + n) size in
    pushed c.args.self.now s.first s.rank s.nodes.items c.push.new.self.items s.ranks.items c.push-2.new.self.items
    s.named.items c.push-3.new.self.items c.args.node _ c.self.view_is
    c.in_ok-push.ensures.items
    (c.in_ok-push-2.ensures.items
    ∙ ap (λ r. s.ranks.items ++ r ∷ []) (c.node_rank.ensures ∙ ap (node_rank s.rank) number))
    c.in_ok-push-3.ensures.items number
