use Rattle.std.proofs.Common.{Some, None, sym, ap, subst, ◌∙◌}
use Rattle.js_doc.specs.JsonView.{member_view}
use Rattle.js_keywords.specs.FaultView.{ChecksOrTells}
use Rattle.js_keywords.specs.Member.{fault_by}
use Rattle.js_keywords.specs.Words.{keyword_of}
use Rattle.js_keywords.proofs.MemberLemmas.{named_fault-fault_by}
use Rattle.js_keywords.proofs.member.check_member.Goals as goal

pub returns-in-None : goal.returns-in-None
returns-in-None c root =
    let object = c.args.object.now in
    let member = member_view c.args.member.now in
    let known = sym c.in-None.is ∙ c.of.ensures ∙ ap keyword_of (c.as_text.ensures.text ∙ c.name.ensures.view) in
    sym (named_fault-fault_by root object.listed object.pointer.now member.1 member.0 None known)

pub returns-in-Some : goal.returns-in-Some
returns-in-Some c root =
    let object = c.args.object.now in
    let member = member_view c.args.member.now in
    let known = sym c.in-Some.is ∙ c.of.ensures ∙ ap keyword_of (c.as_text.ensures.text ∙ c.name.ensures.view) in
    let same = named_fault-fault_by root object.listed object.pointer.now member.1 member.0 (Some c.in-Some.keyword) known in
    subst (λ owed. ChecksOrTells owed c.check_named.result) same
    (subst (λ v. ChecksOrTells (fault_by root object.listed object.pointer.now (Some c.in-Some.keyword) v)
    c.check_named.result) c.value.ensures.view (c.check_named.ensures root))
