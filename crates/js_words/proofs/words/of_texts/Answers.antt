use Rattle.std.proofs.Common.{◌≡◌, ◌∙◌, None, Some, IfOk, IfErr, inl, inr, map, subst, sym, ap, true≢false}
use Rattle.clap.specs.Words as W
use Rattle.js_words.specs.CommandView.{command_view}
use Rattle.js_words.specs.declared.words.WordsFault.TheVariants.{Usage}
use Rattle.js_words.proofs.ReadLemmas.{free, simple, text-matched, text-none}
use Rattle.js_words.proofs.words.of_texts.Goals as goal

pub returns-in-Ok-clause-ok : goal.returns-in-Ok-clause-ok
returns-in-Ok-clause-ok c =
    let texts = map (λ t. t.now) c.args.texts.now in
    let command = c.in_ok-command.ensures in
    let met = (c.in-Ok.ensures.matches (ap W.is_simple command ∙ simple)).1
    ∙ ap (λ a. W.subcommand_of a texts) command in
    let none = sym (ap (λ a. W.fault_of a texts) command)
    ∙ c.in-Ok.ensures.kinds (ap W.is_simple_and_free command ∙ free) in
    subst (λ o. IfOk c.of_matches.result (λ x. o ≡ Some (command_view x))) (text-matched texts _ none met)
    c.of_matches.ensures.ok

pub returns-in-Ok-clause-usage : goal.returns-in-Ok-clause-usage
returns-in-Ok-clause-usage c =
    let texts = map (λ t. t.now) c.args.texts.now in
    let command = c.in_ok-command.ensures in
    let met = (c.in-Ok.ensures.matches (ap W.is_simple command ∙ simple)).1
    ∙ ap (λ a. W.subcommand_of a texts) command in
    let none = sym (ap (λ a. W.fault_of a texts) command)
    ∙ c.in-Ok.ensures.kinds (ap W.is_simple_and_free command ∙ free) in
    subst (λ o. IfErr c.of_matches.result (λ e. e ≡ Usage → o ≡ None)) (text-matched texts _ none met)
    c.of_matches.ensures.usage

pub returns-clause-usage : goal.returns-clause-usage
returns-clause-usage c = λ e.
    let texts = map (λ t. t.now) c.args.texts.now in
    let kind = W.kind_of c.in-Err.error in
    let command = c.in_ok-command.ensures in
    elim (c.in-Err.ensures.kinds (ap W.is_simple_and_free command ∙ free)) [
      | inl memory ↦
          let same = rw (c.kind.ensures ∙ memory) at c.eq.ensures in absurd (true≢false (sym same ∙ c.if-eq.false))
      | inr among ↦ text-none texts kind (subst (λ a. W.IsAmong kind (W.fault_of a texts)) command among)
    ]
