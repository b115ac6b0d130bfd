-- A form asks of a document what it asks of it itself and of its parts.
pub mod Halves
-- What it asks of parts, part by part.
pub mod PartsLaws
-- Verdicts that are taken in order.
pub mod PlanLaws
-- Equality of documents.
pub mod SameLaws
-- What is requested of a part, request by request.
pub mod RequestLaws
-- Places in lists, and the owners at them.
pub mod PlaceLaws
-- Owners that have failed are dropped.
pub mod KeptLaws
-- A form asks of a document itself what it asks by itself and by the verdicts of others.
pub mod StandLaws
-- Places that are pending, and where entries are.
pub mod PendingLaws
-- The entries that are applied, and their verdicts.
pub mod AskedLaws
-- What is known of verdicts before a place of the order.
pub mod Settled
-- What is known of all parts.
pub mod DecideLaws
-- Forms that are decided alone.
pub mod PlainLaws
-- Where references end.
pub mod TargetLaws
-- Tests of lists.
pub mod TestLaws
-- Names that rise, and binary searches.
pub mod SearchLaws
-- Depths of parts.
pub mod DepthLaws
-- Orders by ranks.
pub mod OrderLaws
pub mod SamePartLaws
pub mod FrameLaws
pub mod PartElementLaws
-- Verdicts as bits.
pub mod BitsLaws
-- Members of a part, and what is required by its kind.
pub mod PartMemberLaws
-- Tables of verdicts on parts.
pub mod PartVerdictLaws
-- Frames of parts.
pub mod PartFrameLaws
-- The order of documents is total, and is found from lists and from texts.
pub mod DocumentOrderLaws
pub mod OrderedLists
pub mod TextOrder
-- What is found among values in that order.
pub mod ChoicesLaws
