-- What a walk of the rows does to their words: the words as a list against the reading's words.
pub mod Words
