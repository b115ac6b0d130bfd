-- A goal that is not listed gets the next number, if there is one left.
use Rattle.std.proofs.Common.{length, ap, sym, ◌∙◌, arith, option_map}
use Rattle.std.proofs.lemmas.Bool.{lt-ltb, le-ltb}
use Rattle.indexmap.specs.IndexSet.{insert_key}
use Rattle.js_expansion.specs.View.{limit_view}
use Rattle.js_algebra.specs.Equality.{same_goal}
use Rattle.js_explore.proofs.Keys.{mention_old, mention_new, mention_past}
use Rattle.js_explore.proofs.explored.Explored.mention.Goals as goal

pub returns-in_ok-insert-clause-found : goal.returns-in_ok-insert-clause-found
returns-in_ok-insert-clause-found c =
    mention_new c.args.most_goals c.args.self.now.goals.keys c.insert.new.self.keys c.args.goal.now
    (length c.args.self.now.answers.items) c.args.self.now.places (option_map limit_view c.args.self.now.over)
    (sym c.contains.ensures ∙ c.if-not-contains.true)
    (lt-ltb (length c.args.self.now.goals.keys) c.args.most_goals
    (omega (arith, c.len.ensures.len, c.if-len-most_goals.true)))
    (c.in_ok-insert.ensures.keys
    ∙ ap (insert_key same_goal c.args.self.now.goals.keys) c.in_ok-clone.ensures.cases)

pub returns-else-len-most_goals-clause-found : goal.returns-else-len-most_goals-clause-found
returns-else-len-most_goals-clause-found c =
    mention_past c.args.most_goals c.args.self.now.goals.keys c.pass.new.self.goals.keys c.args.goal.now
    (length c.args.self.now.answers.items) c.args.self.now.places (option_map limit_view c.args.self.now.over)
    (sym c.contains.ensures ∙ c.if-not-contains.true)
    (le-ltb (length c.args.self.now.goals.keys) c.args.most_goals
    (omega (arith, c.len.ensures.len, c.if-len-most_goals.false)))
    (length c.pass.new.self.answers.items) c.pass.new.self.places (option_map limit_view c.pass.new.self.over)
    (ap (λ s. s.keys) c.pass.ensures.goals) (ap (λ v. length v.items) c.pass.ensures.answers) c.pass.ensures.places
    c.pass.ensures.over

pub returns-else-not-contains-clause-found : goal.returns-else-not-contains-clause-found
returns-else-not-contains-clause-found c =
    mention_old c.args.most_goals c.args.self.now.goals.keys c.args.self.now.goals.keys c.args.goal.now
    (length c.args.self.now.answers.items) c.args.self.now.places (option_map limit_view c.args.self.now.over)
    (sym c.contains.ensures ∙ c.if-not-contains.false)
