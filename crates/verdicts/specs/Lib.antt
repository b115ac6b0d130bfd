-- What a reader must believe: the rules by their numbers; what rows and bounds of cells have to keep; what each line
-- leaves to show; and the verdict on lines and on bytes.
pub mod Rules
pub mod RowLines
pub mod Bounds
pub mod Leaves
pub mod Duties
pub mod Verdict
