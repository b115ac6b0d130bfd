-- The rounds that were run are those of the definition, and a document means what the rounds say.
use Rattle.js_decide.proofs.root.search_root.Goals as goal

pub returns-clause-rounds : goal.returns-clause-rounds
returns-clause-rounds g c =
    c.run_uncounted.ensures.rounds c.in_ok-rounds.ensures.new.has_run (g.E.Expander.expansion c.args.expander.now)
    c.in_ok-explored.ensures.answers

pub returns-clause-meets : goal.returns-clause-meets
returns-clause-meets g c T sound = c.in_ok-outcome.ensures.meets T sound
