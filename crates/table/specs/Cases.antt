-- Tables of the register and damaged neighbours, and that the refusal of each computes as the rules say.
-- Main names: `sum_table`, `p12_table`, `nested`, and one case for each refusal 1 to 9, with the order where a row has two faults.
-- Assumes nothing.
use Rattle.std.specs.Prelude.{ℕ, zero, suc, ◌≡◌, refl, true, List, [], ◌∷◌}
use Rattle.table.specs.Rows.{field_at, used_words, operand_count, first_operand, sort_of, wanted_sort}
use Rattle.table.specs.Scan.{after, stack_at, body_of, read_stack, reads, home_by, home, body_open, end_passed, visible}
use Rattle.table.specs.Check.{length_right, kind_right, zeros_from, spare_right, codes_from, code_right, follows, stands, place_right, depth_right, names_from, names_right, types_from, types_right, end_right, row_refusal, answer, rows_from, table_refusal}

-- one row in front of a table
abbrev pub row6 : ℕ → ℕ → ℕ → ℕ → ℕ → ℕ → List ℕ → List ℕ
row6 k a b c d e rest = k ∷ a ∷ b ∷ c ∷ d ∷ e ∷ rest

abbrev pub input : List ℕ → List ℕ
input = row6 0 0 0 0 0 0

abbrev pub const : ℕ → List ℕ → List ℕ
const w = row6 1 w 0 0 0 0

abbrev pub op : ℕ → ℕ → ℕ → List ℕ → List ℕ
op code x y = row6 2 code x y 0 0

abbrev pub pick : ℕ → ℕ → ℕ → List ℕ → List ℕ
pick f x y = row6 3 f x y 0 0

abbrev pub loop : ℕ → ℕ → ℕ → ℕ → ℕ → List ℕ → List ℕ
loop = row6 4

abbrev pub arg : ℕ → List ℕ → List ℕ
arg i = row6 5 i 0 0 0 0

abbrev pub next : ℕ → List ℕ → List ℕ
next v = row6 6 v 0 0 0 0

abbrev pub close : List ℕ → List ℕ
close = row6 7 0 0 0 0 0

abbrev pub out : ℕ → List ℕ
out x = row6 8 x 0 0 0 0 []

-- 'INPUT, CONST 0, CONST 1, FOR 1 2 0 0 0, ARG 1, OP 0 4 3, NEXT 5, END, OUT 6', with the step as a variable
abbrev pub sum_by : ℕ → List ℕ
sum_by step = input (const 0 (const step (loop 1 2 0 0 0 (arg 1 (op 0 4 3 (next 5 (close (out 6))))))))

abbrev pub sum_table : List ℕ
sum_table = sum_by 1

-- 'CONST 0, CONST 1, CONST 3, FOR 0 1 2 0 0, ARG 0, FOR 0 1 3 0 0, ARG 4, OP 0 6 3, NEXT 7, END, NEXT 8, END, OUT 10'
abbrev pub p12_table : List ℕ
p12_table =
    const 0 (const 1 (const 3 (loop 0 1 2 0 0 (arg 0 (loop 0 1 3 0 0 (arg 4 (op 0 6 3 (next 7 (close (next 8 (close (out 10))))))))))))

-- so many nested loops over one CONST
abbrev pub nested : ℕ → List ℕ
nested n = const 1 (opens n (closes n))
  where
    closes : ℕ → List ℕ
    closes zero = out 0
    closes (suc m) = close (closes m)

    opens : ℕ → List ℕ → List ℕ
    opens zero rest = rest
    opens (suc m) rest = loop 0 0 0 0 0 (opens m rest)

-- so many CONST rows, then OUT
abbrev pub consts : ℕ → List ℕ
consts zero = out 0
consts (suc m) = const 7 (consts m)

-- everything that a refusal computes with
check_computes : ℕ
unfolding used_words operand_count first_operand sort_of wanted_sort after stack_at body_of read_stack reads home_by home body_open end_passed visible length_right kind_right zeros_from spare_right field_at codes_from code_right follows stands place_right depth_right names_from names_right types_from types_right end_right row_refusal rows_from table_refusal
check_computes = 0

-- The register's tables pass.
pub sum_passes : table_refusal sum_table ≡ answer 0 0
unfolding check_computes
sum_passes = refl

pub p12_passes : table_refusal p12_table ≡ answer 0 0
unfolding check_computes
p12_passes = refl

pub input_out_passes : table_refusal (input (out 0)) ≡ answer 0 0
unfolding check_computes
input_out_passes = refl

pub eight_loops_pass : table_refusal (nested 8) ≡ answer 0 0
unfolding check_computes
eight_loops_pass = refl

-- 1 LENGTH
pub no_rows : table_refusal [] ≡ answer 1 0
unfolding check_computes
no_rows = refl

pub seven_words : table_refusal (1 ∷ out 0) ≡ answer 1 0
unfolding check_computes
seven_words = refl

pub rows_513 : table_refusal (consts 512) ≡ answer 1 0
unfolding check_computes
rows_513 = refl

-- 2 KIND
pub kind_nine : table_refusal (input (row6 9 0 0 0 0 0 (out 0))) ≡ answer 2 1
unfolding check_computes
kind_nine = refl

-- 3 SPARE
pub input_with_a_word : table_refusal (row6 0 0 0 0 0 1 (out 0)) ≡ answer 3 0
unfolding check_computes
input_with_a_word = refl

pub out_with_two_words : table_refusal (input (row6 8 0 1 0 0 0 [])) ≡ answer 3 1
unfolding check_computes
out_with_two_words = refl

-- 4 CODE
pub operator_eight : table_refusal (input (op 8 0 0 (out 1))) ≡ answer 4 1
unfolding check_computes
operator_eight = refl

pub update_six : table_refusal (const 1 (loop 0 0 0 6 0 (close (out 0)))) ≡ answer 4 1
unfolding check_computes
update_six = refl

pub condition_five : table_refusal (const 1 (loop 0 0 0 0 5 (close (out 0)))) ≡ answer 4 1
unfolding check_computes
condition_five = refl

-- 5 PLACE: each rule of the paragraph
pub input_behind_op : table_refusal (input (op 0 0 0 (input (out 0)))) ≡ answer 5 2
unfolding check_computes
input_behind_op = refl

pub arg_behind_op : table_refusal (const 1 (loop 0 0 0 0 0 (op 0 0 0 (arg 0 (close (out 0)))))) ≡ answer 5 3
unfolding check_computes
arg_behind_op = refl

pub arg_outside : table_refusal (const 1 (arg 0 (out 0))) ≡ answer 5 1
unfolding check_computes
arg_outside = refl

pub next_with_no_arg : table_refusal (const 1 (loop 0 0 0 0 0 (next 0 (close (out 0))))) ≡ answer 5 2
unfolding check_computes
next_with_no_arg = refl

pub next_outside : table_refusal (const 1 (next 0 (out 0))) ≡ answer 5 1
unfolding check_computes
next_outside = refl

pub op_behind_next : table_refusal (const 1 (loop 0 0 0 0 0 (arg 0 (next 0 (op 0 0 0 (close (out 0))))))) ≡ answer 5 4
unfolding check_computes
op_behind_next = refl

pub end_with_a_next_missing : table_refusal (const 1 (loop 0 0 0 0 0 (arg 0 (close (out 0))))) ≡ answer 5 3
unfolding check_computes
end_with_a_next_missing = refl

pub end_outside : table_refusal (const 1 (close (out 0))) ≡ answer 5 1
unfolding check_computes
end_outside = refl

pub out_in_a_loop : table_refusal (const 1 (loop 0 0 0 0 0 (row6 8 0 0 0 0 0 (close (out 0))))) ≡ answer 5 2
unfolding check_computes
out_in_a_loop = refl

pub op_behind_out : table_refusal (const 1 (row6 8 0 0 0 0 0 (op 0 0 0 (out 0)))) ≡ answer 5 2
unfolding check_computes
op_behind_out = refl

-- 6 DEPTH: a ninth loop
pub nine_loops : table_refusal (nested 9) ≡ answer 6 9
unfolding check_computes
nine_loops = refl

-- 7 NAME
pub names_itself : table_refusal (input (op 0 0 1 (out 0))) ≡ answer 7 1
unfolding check_computes
names_itself = refl

pub arg_names_its_index : table_refusal (const 0 (loop 0 0 0 0 0 (arg 1 (next 2 (close (out 3)))))) ≡ answer 7 2
unfolding check_computes
arg_names_its_index = refl

pub arg_names_an_arg : table_refusal (const 0 (loop 0 0 0 0 0 (arg 0 (arg 2 (next 2 (next 3 (close (out 4)))))))) ≡ answer 7 3
unfolding check_computes
arg_names_an_arg = refl

pub next_before_its_end : table_refusal (const 0 (loop 0 0 0 0 0 (arg 0 (arg 0 (next 2 (next 4 (close (out 4)))))))) ≡ answer 7 5
unfolding check_computes
next_before_its_end = refl

pub index_behind_its_end : table_refusal (const 0 (loop 0 0 0 0 0 (close (out 1)))) ≡ answer 7 3
unfolding check_computes
index_behind_its_end = refl

pub end_named : table_refusal (const 0 (loop 0 0 0 0 0 (close (out 2)))) ≡ answer 7 3
unfolding check_computes
end_named = refl

pub out_named : table_refusal (const 0 (row6 8 0 0 0 0 0 (out 1))) ≡ answer 7 2
unfolding check_computes
out_named = refl

-- 8 TYPE
pub pick_by_a_word : table_refusal (input (pick 0 0 0 (out 0))) ≡ answer 8 1
unfolding check_computes
pick_by_a_word = refl

pub pick_of_a_flag : table_refusal (input (op 3 0 0 (pick 1 1 0 (out 0)))) ≡ answer 8 2
unfolding check_computes
pick_of_a_flag = refl

pub flag_as_a_result : table_refusal (input (op 3 0 0 (out 1))) ≡ answer 8 2
unfolding check_computes
flag_as_a_result = refl

pub pick_passes : table_refusal (input (op 3 0 0 (pick 1 0 0 (out 2)))) ≡ answer 0 0
unfolding check_computes
pick_passes = refl

-- 9 OPEN: the row is the row count
pub no_out : table_refusal (const 1 []) ≡ answer 9 1
unfolding check_computes
no_out = refl

pub loop_left_open : table_refusal (const 1 (loop 0 0 0 0 0 [])) ≡ answer 9 2
unfolding check_computes
loop_left_open = refl

-- Two faults: 1 before all, an earlier row before a later, and in one row the lowest number.
pub length_before_kind : table_refusal (9 ∷ 9 ∷ []) ≡ answer 1 0
unfolding check_computes
length_before_kind = refl

pub kind_before_spare : table_refusal (row6 9 1 1 1 1 1 []) ≡ answer 2 0
unfolding check_computes
kind_before_spare = refl

pub spare_before_code : table_refusal (input (row6 2 8 0 0 1 0 (out 0))) ≡ answer 3 1
unfolding check_computes
spare_before_code = refl

pub code_before_place : table_refusal (input (row6 8 0 0 0 0 0 (op 8 0 0 (out 0)))) ≡ answer 4 2
unfolding check_computes
code_before_place = refl

pub place_before_name : table_refusal (const 1 (arg 9 (out 0))) ≡ answer 5 1
unfolding check_computes
place_before_name = refl

pub depth_before_name : table_refusal (const 1 (loop 0 0 0 0 0 (loop 0 0 0 0 0 (loop 0 0 0 0 0 (loop 0 0 0 0 0 (loop 0 0 0 0 0 (loop 0 0 0 0 0 (loop 0 0 0 0 0 (loop 0 0 0 0 0 (loop 99 0 0 0 0 [])))))))))) ≡ answer 6 9
unfolding check_computes
depth_before_name = refl

pub name_before_type : table_refusal (input (pick 0 1 0 (out 0))) ≡ answer 7 1
unfolding check_computes
name_before_type = refl

pub row_before_row : table_refusal (input (pick 0 0 0 (row6 9 0 0 0 0 0 []))) ≡ answer 8 1
unfolding check_computes
row_before_row = refl

pub row_before_open : table_refusal (const 1 (loop 0 0 9 0 0 [])) ≡ answer 7 1
unfolding check_computes
row_before_open = refl

-- 'a table of 512 rows passes 1, one of 513 does not'
pub rows_512 : length_right (consts 511) ≡ true
unfolding length_right
rows_512 = refl
