-- The register's tables have the structure, and it computes on them.
-- Main results: `sum_has_structure`, `p12_has_structure`.
-- Assumes nothing.
use Rattle.std.specs.Prelude.{ℕ, ◌≡◌, refl}
use Rattle.table.specs.Scan.{after, stack_at, body_of, read_stack, reads, home_by, home}
use Rattle.table.specs.Bodies.{ends, end_from, end_of, args_from, args_of, first_of, arg_of, next_of}
use Rattle.table.specs.Cases.{sum_table, p12_table, sum_passes, p12_passes}
use Rattle.structure.specs.Structure.{Structure, passing_table_has_structure}

pub sum_has_structure : Structure sum_table
sum_has_structure = passing_table_has_structure sum_table sum_passes

pub p12_has_structure : Structure p12_table
p12_has_structure = passing_table_has_structure p12_table p12_passes

-- everything that a structure computes with
structure_computes : ℕ
unfolding after stack_at body_of read_stack reads home_by home ends end_from end_of args_from args_of first_of arg_of next_of
structure_computes = 0

-- the sum table: FOR 3, ARG 4, body 5, NEXT 6, END 7
pub sum_loop : (first_of sum_table 3 ≡ 5) × (end_of sum_table 3 ≡ 7) × (next_of sum_table 4 ≡ 6) × (arg_of sum_table 6 ≡ 4) × (home sum_table 6 ≡ 9)
unfolding structure_computes
sum_loop = (refl, refl, refl, refl, refl)

-- P12: FOR 3 to END 11, in it FOR 5 to END 9; NEXT 8 lives in loop 3, NEXT 10 in the outermost body
pub p12_loops : (end_of p12_table 3 ≡ 11) × (end_of p12_table 5 ≡ 9) × (home p12_table 8 ≡ 3) × (home p12_table 10 ≡ 13) × (reads p12_table 6 ≡ 3)
unfolding structure_computes
p12_loops = (refl, refl, refl, refl, refl)
