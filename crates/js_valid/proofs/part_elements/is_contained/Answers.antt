use Rattle.std.proofs.Common.{not, map, ap, ◌∙◌}
use Rattle.documents.specs.Tests.{every}
use Rattle.schemas.specs.Schema.{meets}
use Rattle.shared_documents.specs.Unshared.{unshared}
use Rattle.js_valid.specs.Plan.{valid_at}
use Rattle.js_valid.proofs.part_elements.is_contained.Goals as goal

pub returns-in-Some : goal.returns-in-Some
returns-in-Some c es ps known =
    ap not (c.none_meets.ensures es ps known)
    ∙ ap (meets (λ q. not (every (λ d. not (valid_at es q d)) (map (unshared ps) c.args.ids.now)))) c.in-Some.ensures
