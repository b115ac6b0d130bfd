-- Whatever goals are taken, their alternatives are sound.
use Rattle.js_expander.proofs.Sound.{taken_sound}
use Rattle.js_expander.proofs.core_expander.CoreExpander.new.Goals as goal

pub returns-clause-sound : goal.returns-clause-sound
returns-clause-sound c goals taken = taken_sound c.args.core.now.positions c.args.core.now.ranks goals taken
