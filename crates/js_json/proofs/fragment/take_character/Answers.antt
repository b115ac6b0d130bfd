use Rattle.js_json.proofs.TokensLemmas.{take_plain, take_tilde, take_slash, take_wrong, take_last, take_end}
use Rattle.js_json.proofs.fragment.take_character.Goals as goal

pub returns-in-Some-eq0 : goal.returns-in-Some-eq0
returns-in-Some-eq0 c =
    take_tilde _ _ _ c.in-Some-eq126.field-0 c.in-Some-eq0.field-0 c.requires c.in-Some-eq126.ensures.steps.0
    c.in-Some-eq126.field-0-test c.in-Some-eq0.ensures.steps.0 c.in-Some-eq0.field-0-test

pub returns-in-Some-eq1 : goal.returns-in-Some-eq1
returns-in-Some-eq1 c =
    take_slash _ _ _ c.in-Some-eq126.field-0 c.in-Some-eq1.field-0 c.requires c.in-Some-eq126.ensures.steps.0
    c.in-Some-eq126.field-0-test c.in-Some-eq1.ensures.steps.0 c.in-Some-eq1.field-0-test

pub returns-in_default : goal.returns-in_default
returns-in_default c =
    take_wrong _ _ _ c.in-Some-eq126.field-0 _ c.requires c.in-Some-eq126.ensures.steps.0
    c.in-Some-eq126.field-0-test c.in_default.ensures.steps.0 c.in_default.field-0-test.0.1 c.in_default.field-0-test.1

pub returns-in_default-2 : goal.returns-in_default-2
returns-in_default-2 c =
    let last = rw c.in_default.is at c.next-in-Some-eq126.ensures.steps in
    take_last _ _ c.in-Some-eq126.field-0 c.requires c.in-Some-eq126.ensures.steps.0 c.in-Some-eq126.field-0-test
    last.0.0

pub returns-in-Some : goal.returns-in-Some
returns-in-Some c = take_plain _ _ c.in-Some.c c.requires c.in-Some.ensures.steps.0 c.in-Some.c-test.1

pub returns-in-None : goal.returns-in-None
returns-in-None c = take_end _ c.in-None.ensures.steps.0.0
