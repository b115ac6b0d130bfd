-- What a reader must believe: which JSON value a text stands for, which values are documents, how a place in a value is
-- written, and what a reference names; what is well formed and which value is at a place is in `documents`. `Making`,
-- `Reading` and `Steps` are of the steps within.
pub mod Value
pub mod Documents
pub mod DocumentView
pub mod Pointer
pub mod Reference
pub mod ReferentView
pub mod Making
pub mod Steps
pub mod Reading
