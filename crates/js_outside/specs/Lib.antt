-- What a reader must believe: when a count of faults rose, what a shelf gives, what a sink takes; then the
-- values that contracts see for the shelves and sinks over memory.
pub mod Counts
pub mod Told
pub mod Contents
pub mod NamedFiles
pub mod InMemory
