-- What a reader must believe: what a part names, which lists of parts are tables, and which document a part stands for.
pub mod Part
pub mod Unshared
