use Rattle.std.proofs.Common.{◌∙◌, ◌||◌, ap₂}
use Rattle.std.proofs.lemmas.Result.{IfOk-weaker}
use Rattle.js_nfa.specs.AtomView.{atom_view}
use Rattle.js_automaton.specs.Letters.{is_letter, letters_of}
use Rattle.js_automaton.proofs.AlikeLemmas.{halves}
use Rattle.js_automaton.proofs.letters.+letters.Goals as goal

pub returns-in_ok-right-in_default : goal.returns-in_ok-right-in_default
returns-in_ok-right-in_default t c =
    IfOk-weaker c.union.result _ _
    (λ both e k. e k
    ∙ ap₂ (λ x y. x || y) (c.in_ok-left-in_default.ensures k) (c.in_ok-right-in_default.ensures k)
    ∙ halves (λ a. is_letter (letters_of (atom_view a)) k) _ c.args.atoms.now) c.union.ensures
