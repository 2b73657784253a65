-- The laws that the proofs of the functions share: which values a loop carries (`Inside`), lists written one behind another (`Writing`), the parts
-- (`Parts`), what each function writes (`Naming`), the whole (`Whole`), the answers (`Answers`).
pub mod Inside
pub mod Writing
pub mod Parts
pub mod Naming
pub mod Whole
pub mod Answers
