use Rattle.std.proofs.Common.{Some, sym, subst}
use Rattle.js_doc.specs.JsonView.{view}
use Rattle.js_keywords.specs.FaultView.{ChecksOrTells}
use Rattle.js_keywords.specs.Member.{fault_by}
use Rattle.js_keywords.proofs.MemberLemmas.{fault_by-shape, fault_by-rest}
use Rattle.js_keywords.proofs.member.check_named.Goals as goal

pub returns-in-Id : goal.returns-in-Id
returns-in-Id c root =
    let place = c.args.object.now.pointer.now in
    let value = view c.args.value.now in
    subst (λ k. ChecksOrTells (fault_by root c.args.object.now.listed place (Some k) value) c.check_id.result) (sym c.in-Id.is)
    (c.check_id.ensures root)

pub returns-then-object : goal.returns-then-object
returns-then-object c root =
    let same = fault_by-rest root c.args.object.now.listed c.args.object.now.pointer.now (view c.args.value.now) c.args.keyword
    c.in-AdditionalItems.is c.if-object.true in
    subst (λ owed. ChecksOrTells owed c.check_keyword.result) (sym same) (c.check_keyword.ensures root)

pub returns-in_default : goal.returns-in_default
returns-in_default c root =
    let same = fault_by-shape root c.args.object.now.listed c.args.object.now.pointer.now (view c.args.value.now) c.args.keyword
    c.in_default.not-Id c.in_default.not-AdditionalItems in
    subst (λ owed. ChecksOrTells owed c.check_keyword-in_default.result) (sym same)
    (c.check_keyword-in_default.ensures root)
