-- What a reader must believe: the text of a core table.
pub mod CoreText
