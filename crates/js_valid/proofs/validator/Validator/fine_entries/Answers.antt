-- By the kind of the part.
use Rattle.std.proofs.Common.{length, ◌∙◌, arith}
use Rattle.std.proofs.lemmas.Result.{IfOk-weaker}
use Rattle.draft06.specs.EntryValidity.{form_at}
use Rattle.js_valid.specs.Plan.{table_of, valid_at}
use Rattle.js_valid.proofs.PartMemberLaws.{list-below, members-below, list-asked, members-asked, scalar-asked}
use Rattle.js_valid.proofs.validator.Validator.fine_entries.Goals as goal

pub fine_list-requires : goal.fine_list-requires
fine_list-requires c =
    list-below c.args.id.0 (length c.args.tables.now) c.get.result.now c.in-List.ids c.get.ensures.part c.requires.below
    c.in-List.is

pub fine_named-requires-clause-below : goal.fine_named-requires-clause-below
fine_named-requires-clause-below c =
    members-below c.args.id.0 (length c.args.tables.now) c.get.result.now c.in-Members.named c.get.ensures.part
    c.requires.below c.in-Members.is

pub returns-in-List : goal.returns-in-List
returns-in-List c =
    let es = table_of c.args.self.now in
    IfOk-weaker c.fine_list.result _ _ (λ fine asked e l. asked c.args.parts.now c.requires.known e l
    ∙ list-asked c.args.parts.now c.args.id.0 c.get.result.now c.get.ensures.table c.requires.within
    c.get.ensures.value (valid_at es) (form_at es e) c.in-List.ids c.in-List.is) c.fine_list.ensures

pub returns-in-Members : goal.returns-in-Members
returns-in-Members c =
    let es = table_of c.args.self.now in
    IfOk-weaker c.fine_named.result _ _ (λ fine asked e l. asked c.args.parts.now c.requires.known e l
    ∙ members-asked c.args.parts.now c.args.id.0 c.get.result.now c.get.ensures.table c.requires.within
    c.get.ensures.value (valid_at es) (form_at es e) c.in-Members.named c.in-Members.is) c.fine_named.ensures

pub returns-in_default : goal.returns-in_default
returns-in_default c =
    let es = table_of c.args.self.now in
    IfOk-weaker c.all_fine.result _ _ (λ fine asked e l. asked e (omega (arith, c.len.ensures.value, l))
    ∙ scalar-asked c.args.parts.now c.args.id.0 c.get.result.now c.get.ensures.table c.requires.within
    c.get.ensures.value (valid_at es) (form_at es e) c.in_default.not-List c.in_default.not-Members)
    c.all_fine.ensures.all
