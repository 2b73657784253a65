-- A lowered table's words by number: its nodes before forks, and every word of the graph from those.
pub mod Plain
pub mod Places
pub mod Numbers
pub mod Words
