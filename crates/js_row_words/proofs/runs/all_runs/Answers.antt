use Rattle.std.proofs.Common.{◌≡◌, IfOk, subst}
use Rattle.js_row_words.specs.Runs.{spelled}
use Rattle.js_row_words.proofs.BlockLaws.{blocks_are, all_blocks}
use Rattle.js_row_words.proofs.runs.all_runs.Goals as goal

pub runs_of-requires : goal.runs_of-requires
runs_of-requires c = all_blocks

pub returns-clause-spelled : goal.returns-clause-spelled
returns-clause-spelled c =
    subst (λ z. IfOk c.runs_of.result (λ runs. spelled runs.items ≡ z)) blocks_are c.runs_of.ensures.spelled
