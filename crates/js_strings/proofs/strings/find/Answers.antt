use Rattle.std.proofs.Common.{map, true, false, Some, Ok, ap, ap₂, sym, ◌∙◌, subst}
use Rattle.word_states.specs.Rows.{AreRows}
use Rattle.finders.specs.Strings as S
use Rattle.finders.specs.Strings.{string_atoms, strings_of}
use Rattle.js_algebra.specs.View.{signed_view}
use Rattle.js_nfa.specs.AtomView.{atom_view}
use Rattle.js_automaton.specs.AutomatonView.{rows_of}
use Rattle.js_asked.specs.Asking.{asks}
use Rattle.js_strings.proofs.Finding.{crossed_none, fault_says, none_answer, row_answer, end_of, memory_says, passed_says}
use Rattle.js_strings.proofs.strings.find.Goals as goal

pub returns-then-are_crossed-clause-found : goal.returns-then-are_crossed-clause-found
returns-then-are_crossed-clause-found c =
    let T = c.args.core.now.positions in
    let X = map signed_view c.args.set.now in
    crossed_none T X
    (end_of T X c.of_strings-bounds.result.lower c.of_strings-bounds.result.below c.are_crossed.result true
    c.of_strings-bounds.ensures.lower
    c.of_strings-bounds.ensures.below
    c.are_crossed.ensures c.if-are_crossed.true)

pub returns-in_err-asked-clause-fault : goal.returns-in_err-asked-clause-fault
returns-in_err-asked-clause-fault c = memory_says c.from_residual.result
    (strings_of c.args.core.now.positions (map signed_view c.args.set.now)) c.from_residual.ensures.1

pub returns-in_err-automaton-clause-fault : goal.returns-in_err-automaton-clause-fault
returns-in_err-automaton-clause-fault c =
    let T = c.args.core.now.positions in
    let X = map signed_view c.args.set.now in
    passed_says c.from_residual-in_err-automaton.result (strings_of T X) c.in_err-automaton.field-0.0
    c.from_residual-in_err-automaton.ensures.1
    (fault_says T X
    (end_of T X c.of_strings-bounds.result.lower c.of_strings-bounds.result.below c.are_crossed.result false
    c.of_strings-bounds.ensures.lower
    c.of_strings-bounds.ensures.below c.are_crossed.ensures c.if-are_crossed.false)
    (map atom_view c.atoms.result.now) (c.atoms.ensures ∙ c.in_ok-asked.ensures.atoms) c.in_err-automaton.field-0.0
    c.in_err-automaton.ensures.fault)

pub first_row-requires : goal.first_row-requires
first_row-requires c = c.in_ok-automaton.ensures.atoms ∙ c.atoms.ensures

pub returns-in_err-reached-in-Some-clause-fault : goal.returns-in_err-reached-in-Some-clause-fault
returns-in_err-reached-in-Some-clause-fault c = memory_says c.from_residual-in_err-reached-in-Some.result
    (strings_of c.args.core.now.positions (map signed_view c.args.set.now))
    c.from_residual-in_err-reached-in-Some.ensures.1

pub returns-in-Some-clause-found : goal.returns-in-Some-clause-found
returns-in-Some-clause-found c =
    let T = c.args.core.now.positions in
    let X = map signed_view c.args.set.now in
    let a = c.in_ok-automaton.automaton.now in
    row_answer T X
    (end_of T X c.of_strings-bounds.result.lower c.of_strings-bounds.result.below c.are_crossed.result false
    c.of_strings-bounds.ensures.lower
    c.of_strings-bounds.ensures.below c.are_crossed.ensures c.if-are_crossed.false)
    (map atom_view c.atoms.result.now) (c.atoms.ensures ∙ c.in_ok-asked.ensures.atoms) (rows_of a)
    (subst (λ z. AreRows z (rows_of a)) c.in_ok-automaton.ensures.atoms a.found.1.0) a.found.1.1
    c.in_ok-automaton.ensures.none (asks c.in_ok-asked.asked)
    c.in_ok-asked.ensures.words c.in-Some.row c.in-Some.ensures.0 c.in-Some.ensures.1 c.in-Some.ensures.2
    ∙ ap Ok
    (ap₂ (λ b w. S.if_below b (Some w)) (sym c.of_strings-bounds.ensures.below) (sym c.in_ok-reached-in-Some.ensures)
    ∙ sym c.if_below.ensures)

pub returns-clause-found : goal.returns-clause-found
returns-clause-found c =
    let T = c.args.core.now.positions in
    let X = map signed_view c.args.set.now in
    let a = c.in_ok-automaton.automaton.now in
    none_answer T X
    (end_of T X c.of_strings-bounds.result.lower c.of_strings-bounds.result.below c.are_crossed.result false
    c.of_strings-bounds.ensures.lower
    c.of_strings-bounds.ensures.below c.are_crossed.ensures c.if-are_crossed.false)
    (map atom_view c.atoms.result.now) (c.atoms.ensures ∙ c.in_ok-asked.ensures.atoms) (rows_of a)
    (subst (λ z. AreRows z (rows_of a)) c.in_ok-automaton.ensures.atoms a.found.1.0) a.found.1.1
    c.in_ok-automaton.ensures.none (asks c.in_ok-asked.asked)
    c.in_ok-asked.ensures.words c.in-None.ensures
