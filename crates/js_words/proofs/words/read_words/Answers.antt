use Rattle.std.proofs.Common.{◌∙◌, map, ap}
use Rattle.js_words.proofs.ReadLemmas.{gives-in_range, gives-plain, says-ok, says-usage}
use Rattle.js_words.proofs.words.read_words.Goals as goal

pub returns-clause-ok : goal.returns-clause-ok
returns-clause-ok c =
    says-ok c.args.words.now c.of_texts.result _
    (ap (map (λ t. t.now)) c.as_slice.ensures.value ∙ c.in_ok-texts.ensures.texts) c.of_texts.ensures.ok

pub returns-clause-usage : goal.returns-clause-usage
returns-clause-usage c =
    says-usage c.args.words.now c.of_texts.result _
    (ap (map (λ t. t.now)) c.as_slice.ensures.value ∙ c.in_ok-texts.ensures.texts) c.of_texts.ensures.usage

pub returns-clause-plain : goal.returns-clause-plain
returns-clause-plain c =
    let texts = ap (map (λ t. t.now)) c.as_slice.ensures.value ∙ c.in_ok-texts.ensures.texts in
    λ p plain is. gives-plain c.args.words.now c.of_texts.result
    (says-ok c.args.words.now c.of_texts.result _ texts c.of_texts.ensures.ok)
    (says-usage c.args.words.now c.of_texts.result _ texts c.of_texts.ensures.usage)
    p plain is c.in_ok-texts.ensures.chars

pub returns-clause-in_range : goal.returns-clause-in_range
returns-clause-in_range c =
    let texts = ap (map (λ t. t.now)) c.as_slice.ensures.value ∙ c.in_ok-texts.ensures.texts in
    gives-in_range c.args.words.now c.of_texts.result
    (says-ok c.args.words.now c.of_texts.result _ texts c.of_texts.ensures.ok)
    (says-usage c.args.words.now c.of_texts.result _ texts c.of_texts.ensures.usage)
