-- What is required of a document itself, and what of its parts, one after another. Validity itself is `entry_valid` of
-- `draft06`, and which pattern matches in which word is `matches` of `js_match`.
pub mod Parts
-- Orders of entries, and tables of what is known of them.
pub mod Plan
-- Forms that are decided alone.
pub mod Plain
-- Requests for parts.
pub mod Requests
-- A document and a part without parts of its own.
pub mod SamePart
-- What depends on no element and no member's value.
pub mod Frame
-- Tables of verdicts for parts.
pub mod PartTables
-- Verdicts as bits.
pub mod Bits
-- What a form asks by itself, and by the verdicts of others.
pub mod Standing
-- The entries that are applied.
pub mod AskedEntries
-- Places that are pending.
pub mod PendingPlaces
-- A total order of documents.
pub mod DocumentOrder
-- The same of a document beside a part.
pub mod PartOrder
-- The values that an `enum` lists, in that order.
pub mod Choices
