use Rattle.std.proofs.Common.{◌≡◌, ℕ, [], true, false, nat_eq, get_or, sym, subst}
use Rattle.std.specs.List.{list_any}
use Rattle.documents.specs.Tests.{some}
use Rattle.js_automaton.specs.AutomatonView.{atoms_of, rows_of}
use Rattle.js_said.specs.AtomNumbers.{are_below}
use Rattle.js_said.specs.Saying.{IsSaid, tells}
use Rattle.js_cells.specs.Told.{AreSet}
use Rattle.js_cells.proofs.TellingLaws.{any_set, none_set}
use Rattle.js_cells.proofs.telling.tell.Goals as goal

pub returns-in-AnyOf : goal.returns-in-AnyOf
returns-in-AnyOf c =
    let T = c.args.core.now.positions in
    let A = atoms_of c.args.automaton.now in
    let L = rows_of c.args.automaton.now in
    let lists = c.args.truths.now in
    let ks = c.in-AnyOf.numbers.items in
    let old = c.args.told.now.items in
    let new = c.set_where.new.told.items in
    let below : are_below A ks ≡ true = subst (λ s. IsSaid T A s) c.in-AnyOf.is c.requires.said in
    subst (λ s. AreSet (λ r. tells T A (get_or L r []) s) true c.args.place old new) (sym c.in-AnyOf.is)
    (any_set A L lists c.requires.truths ks below c.args.place old c.requires.rows new
    (subst (λ z. AreSet (λ r. some (λ k. list_any (nat_eq r) (get_or lists k [])) z) true c.args.place old new)
    c.deref.ensures.value c.set_where.ensures))

pub returns-in-NoneOf : goal.returns-in-NoneOf
returns-in-NoneOf c =
    let T = c.args.core.now.positions in
    let A = atoms_of c.args.automaton.now in
    let L = rows_of c.args.automaton.now in
    let lists = c.args.truths.now in
    let ks = c.in-NoneOf.numbers.items in
    let old = c.args.told.now.items in
    let mid = c.set_all.new.told.items in
    let new = c.set_where-in-NoneOf.new.told.items in
    let below : are_below A ks ≡ true = subst (λ s. IsSaid T A s) c.in-NoneOf.is c.requires.said in
    subst (λ s. AreSet (λ r. tells T A (get_or L r []) s) true c.args.place old new) (sym c.in-NoneOf.is)
    (none_set A L lists c.requires.truths ks below c.args.place old c.requires.rows mid new c.requires.place
    c.requires.blank c.set_all.ensures
    (subst (λ z. AreSet (λ r. some (λ k. list_any (nat_eq r) (get_or lists k [])) z) false c.args.place mid new)
    c.deref-in-NoneOf.ensures.value c.set_where-in-NoneOf.ensures))
