use Rattle.word_laws.proofs.RowLaws.{rows_have}
use Rattle.word_laws.proofs.rows_have_all.Goals as goal

pub returns : goal.returns
returns c = rows_have
