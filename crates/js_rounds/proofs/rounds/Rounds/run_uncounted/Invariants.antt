-- A ledger of its own.
use Rattle.js_rounds.proofs.rounds.Rounds.run_uncounted.Given as goal

abbrev pub ghosts-run_from : goal.ghosts-run_from
ghosts-run_from a = record { name = a.blank.name; parts = a.blank.parts }
