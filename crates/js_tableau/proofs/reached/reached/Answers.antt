-- One that is new is found, and those that it depends on wait next; one that was found before is done with.
use Rattle.std.proofs.Common.{◌<◌, length, sym, ◌∙◌, subst, arith}
use Rattle.name_laws.proofs.Tests.{inserted-new, inserted-old}
use Rattle.name_laws.proofs.Searching.{search-new, search-old, search-end}
use Rattle.name_laws.proofs.Unseen.{first-inside, fewer-left}
use Rattle.name_laws.specs.Searches.{IsSearch}
use Rattle.js_tableau.proofs.Places.{reverse_places-push, none-left}
use Rattle.js_tableau.proofs.reached.reached.Goals as goal

pub loop-q-preserved-in-Continue-branch-3 : goal.loop-q-preserved-in-Continue-branch-3
loop-q-preserved-in-Continue-branch-3 c =
    let T = c.args.core.now.positions in
    let some : 0 < length T = omega (arith, c.requires) in
    let new = inserted-new c.loop-q.found.keys c.insert.new.self.keys c.in-Some.q.0
    (sym c.if-is_new.true ∙ c.in_ok-is_new.ensures.added) c.in_ok-is_new.ensures.keys in
    search-new T c.args.core.now.ranks c.len-length.ensures.table some c.args.p.0 c.in-Some.q.0 _ _ _ _ _ _
    c.loop-q.invariant
    (reverse_places-push c.pop.new.self.items c.loop-q.waiting.items c.in-Some.q c.in-Some.ensures.items)
    new.1 c.node.ensures.value c.in_ok-add_asked.ensures

pub loop-q-smaller-in-Continue-branch-3 : goal.loop-q-smaller-in-Continue-branch-3
loop-q-smaller-in-Continue-branch-3 c =
    let new = inserted-new c.loop-q.found.keys c.insert.new.self.keys c.in-Some.q.0
    (sym c.if-is_new.true ∙ c.in_ok-is_new.ensures.added) c.in_ok-is_new.ensures.keys in
    let next =
    reverse_places-push c.pop.new.self.items c.loop-q.waiting.items c.in-Some.q c.in-Some.ensures.items in
    fewer-left c.args.core.now.positions c.in-Some.q.0 c.loop-q.found.keys c.insert.new.self.keys _ _ _ _ new.0
    (first-inside _ _ _ _ c.loop-q.invariant.waiting_within next) next new.1 c.node.ensures.value
    c.in_ok-add_asked.ensures

pub loop-q-preserved : goal.loop-q-preserved
loop-q-preserved c =
    let T = c.args.core.now.positions in
    let some : 0 < length T = omega (arith, c.requires) in
    let old = inserted-old c.loop-q.found.keys c.insert.new.self.keys c.in-Some.q.0
    (sym c.if-is_new.false ∙ c.in_ok-is_new.ensures.added) c.in_ok-is_new.ensures.keys in
    search-old T c.args.core.now.ranks c.len-length.ensures.table some c.args.p.0 c.in-Some.q.0 _ _ _ _
    c.loop-q.invariant
    (reverse_places-push c.pop.new.self.items c.loop-q.waiting.items c.in-Some.q c.in-Some.ensures.items)
    old.1 old.0

pub returns : goal.returns
returns c =
    let T = c.args.core.now.positions in
    let some : 0 < length T = omega (arith, c.requires) in
    search-end T c.args.core.now.ranks c.len-length.ensures.table some c.args.p.0 c.loop-q.found.keys
    (subst (λ ws. IsSearch T c.args.core.now.ranks c.args.p.0 c.loop-q.found.keys ws)
    (none-left c.loop-q.waiting.items c.pop.new.self.items _ c.in_default.ensures.items
    c.in_default.ensures.rest c.in_default.ensures.cases.0)
    c.loop-q.invariant)
