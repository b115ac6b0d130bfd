-- What a reader must believe: which positions the entries of a schema make, in which order, and with which ranks; and
-- the text of a table.
pub mod Nodes
pub mod Values
pub mod KeywordNodes
pub mod NormalForm
