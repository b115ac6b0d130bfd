-- What a reader must believe: the required truths, and the words that have them.
pub mod Wishes
pub mod Asking
