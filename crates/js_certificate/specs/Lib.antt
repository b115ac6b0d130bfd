-- What a reader must believe is in `verdicts`. Here is for which bytes a judge stands, by `JudgeView`, and what is
-- judged of a file, by `FileVerdicts`, how far it was read, by `ReadBehind`, and what was judged of a file that isn't
-- judged to its end, by `Unrejected`.
pub mod Broken
pub mod ReadBehind
pub mod BatchView
pub mod LinesView
pub mod Props
pub mod JudgeView
pub mod FileVerdicts
pub mod Unrejected
pub mod FileRead
