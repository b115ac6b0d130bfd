use Rattle.std.proofs.Common.{rules, ◌≡◌, filter, ap, ◌∙◌}
use Rattle.std.proofs.lemmas.Fn.{filter_same}
use Rattle.js_valid.specs.Parts.{asked_by, flag}
use Rattle.js_valid.specs.Requests.{entries_in, owners_in}
use Rattle.js_valid.proofs.KeptLaws.{asked-filter}
use Rattle.js_valid.proofs.request.keep_requests.Goals as goal

pub returns : goal.returns
returns c e p =
    let kept : c.retain.new.self.items ≡ filter (λ r. flag c.args.table.now r.owner) c.args.requests.now.items =
    filter_same _ _ _ (λ x b f' k. search rules) _ _ c.retain.ensures.filtered in
    ap (λ rs. asked_by e p (owners_in rs) (entries_in rs)) kept
    ∙ asked-filter (flag c.args.table.now) e p c.args.requests.now.items
