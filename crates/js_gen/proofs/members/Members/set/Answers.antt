use Rattle.std.proofs.Common.{OnOk, ◌≡◌, ◌∙◌, subst}
use Rattle.families.specs.Objects.{with_member}
use Rattle.js_doc.specs.JsonView.{view}
use Rattle.js_gen.specs.MembersView.{entries_of}
use Rattle.js_gen.proofs.AsciiTexts.{chars-ascii}
use Rattle.js_gen.proofs.members.Members.set.Goals as goal

pub returns : goal.returns
returns c =
    subst (λ n. OnOk c.put.result (entries_of c.put.new.self
    ≡ with_member (entries_of c.args.self.now) (n, view c.args.value)))
    (c.in_ok-name.ensures ∙ chars-ascii c.args.name.now c.requires) c.put.ensures
