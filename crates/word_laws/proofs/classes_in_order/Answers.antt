use Rattle.word_laws.proofs.ClassLaws.{classes_in_order}
use Rattle.word_laws.proofs.classes_in_order.Goals as goal

pub returns : goal.returns
returns c = classes_in_order
