use Rattle.std.proofs.Common.{chars}
use Rattle.js_pattern.proofs.One.{has_one}
use Rattle.js_pattern.proofs.reader.read_pattern.Goals as goal

pub returns-in_err-characters-clause-always_one : goal.returns-in_err-characters-clause-always_one
returns-in_err-characters-clause-always_one c = has_one (chars c.args.text.now)

pub returns-clause-always_one : goal.returns-clause-always_one
returns-clause-always_one c = has_one (chars c.args.text.now)
