use Rattle.word_laws.proofs.RowLaws.{rows_go_on}
use Rattle.word_laws.proofs.rows_go_on.Goals as goal

pub returns : goal.returns
returns c = rows_go_on
