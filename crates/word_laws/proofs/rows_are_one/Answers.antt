use Rattle.word_laws.proofs.RowLaws.{rows_one}
use Rattle.word_laws.proofs.rows_are_one.Goals as goal

pub returns : goal.returns
returns c = rows_one
