-- Readers of texts from the front, by which laws are proved and programs read. They take more than the texts that are
-- defined, so what they give is to be written and compared.
pub mod Reader
pub mod Lines
