use Rattle.std.proofs.Common.{◌∷◌, ◌++◌, [], chars, sym, ap, subst, ◌∙◌}
use Rattle.documents.specs.Tests.{some, same_word}
use Rattle.js_values.specs.Sets.{AreWords}
use Rattle.js_values.proofs.OnceLaws.{added-there, added-new}
use Rattle.js_values.proofs.SetLemmas.{more_words}
use Rattle.js_values.proofs.words.Words.add.Goals as goal

pub returns-then-contains : goal.returns-then-contains
returns-then-contains c =
    let w = c.args.self.now in
    added-there same_word w.list.items c.args.text.now
    (ap (λ t. some (same_word t) w.list.items) (sym c.as_text.ensures.text)
    ∙ sym (w.are_words c.as_text.result.now c.as_text.utf8) ∙ sym c.contains.ensures ∙ c.if-contains.true)

pub invariant_of-self-in_default : goal.invariant_of-self-in_default
invariant_of-self-in_default c = record {
  are_words =
      subst (λ ws. AreWords ws c.insert.new.self) (sym c.in_ok-push.ensures.items)
      (more_words c.args.self.now.list.items c.args.self.now.set c.insert.new.self c.in_ok-key.key c.in_ok-copy.field-0
      (ap chars c.in_ok-key.ensures.ok ∙ c.as_text-2.ensures.text ∙ sym c.in_ok-copy.ensures)
      c.args.self.now.are_words c.in_default.ensures.updates);
}

pub returns : goal.returns
returns c =
    let w = c.args.self.now in
    c.in_ok-push.ensures.items
    ∙ ap (λ t. w.list.items ++ t ∷ []) c.in_ok-copy.ensures
    ∙ added-new same_word w.list.items c.args.text.now
    (ap (λ t. some (same_word t) w.list.items) (sym c.as_text.ensures.text)
    ∙ sym (w.are_words c.as_text.result.now c.as_text.utf8) ∙ sym c.contains.ensures ∙ c.if-contains.false)
