-- A body runs its loops and a loop runs its body: what such a walk of the rows says of the plain reading.
pub mod Walks
