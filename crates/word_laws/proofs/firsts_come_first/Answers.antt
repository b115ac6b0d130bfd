use Rattle.word_laws.proofs.ClassLaws.{firsts_come_first}
use Rattle.word_laws.proofs.firsts_come_first.Goals as goal

pub returns : goal.returns
returns c = firsts_come_first
