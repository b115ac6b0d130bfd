use Rattle.std.proofs.Common.{◌≡◌, replicate, false, length, ap, ap₂, sym, subst, ◌∙◌, arith}
use Rattle.list_laws.specs.In.{IsIn}
use Rattle.list_laws.proofs.Lists.{get_or-in}
use Rattle.js_automaton.specs.AutomatonView.{atoms_of, rows_of}
use Rattle.js_said.specs.Saying.{tells}
use Rattle.js_cells.proofs.ToldLaws.{told_none, told_place, told_blank, told_more, told_all}
use Rattle.js_cells.proofs.telling.tell_rows.Goals as goal

pub tell-requires-clause-said : goal.tell-requires-clause-said
tell-requires-clause-said c =
    c.requires.said c.index-said-place.result
    (subst (λ z. IsIn z c.args.said.now) (sym c.index-said-place.is)
    (get_or-in c.args.said.now c.loop-place.place c.index-said-place.result c.loop-place-test.true))

pub tell-requires-clause-rows : goal.tell-requires-clause-rows
tell-requires-clause-rows c = c.loop-place.invariant.count

pub tell-requires-clause-place : goal.tell-requires-clause-place
tell-requires-clause-place c =
    told_place (tells c.args.core.now.positions (atoms_of c.args.automaton.now)) c.args.said.now
    (rows_of c.args.automaton.now) c.loop-place.place c.loop-place.told.items c.loop-place.invariant
    c.loop-place-test.true

pub tell-requires-clause-blank : goal.tell-requires-clause-blank
tell-requires-clause-blank c =
    told_blank (tells c.args.core.now.positions (atoms_of c.args.automaton.now)) c.args.said.now
    (rows_of c.args.automaton.now) c.loop-place.place c.loop-place.told.items c.loop-place.invariant

pub loop-place-init : goal.loop-place-init
loop-place-init c =
    told_none (tells c.args.core.now.positions (atoms_of c.args.automaton.now)) c.args.said.now
    (rows_of c.args.automaton.now) c.in_ok-told.told.items
    (c.in_ok-told.ensures ∙ ap (λ n. replicate n (replicate (length c.args.said.now) false)) c.rows.ensures.count)

pub loop-place-preserved : goal.loop-place-preserved
loop-place-preserved c =
    told_more (tells c.args.core.now.positions (atoms_of c.args.automaton.now)) c.args.said.now
    (rows_of c.args.automaton.now) c.loop-place.place c.loop-place.told.items c.loop-place.invariant
    c.index-said-place.result c.tell.new.told.items c.loop-place-test.true c.index-said-place.is c.in_ok-tell.ensures

pub returns : goal.returns
returns c =
    told_all (tells c.args.core.now.positions (atoms_of c.args.automaton.now)) c.args.said.now
    (rows_of c.args.automaton.now) c.loop-place.place c.loop-place.told.items c.loop-place.invariant
    c.loop-place-test.false
