use Rattle.word_laws.proofs.ClassLaws.{classes_divide}
use Rattle.word_laws.proofs.classes_divide.Goals as goal

pub returns : goal.returns
returns c = classes_divide
