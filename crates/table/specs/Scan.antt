-- The one scan of a table: the open loops before each row, and what follows from them: bodies, homes, what is visible.
-- Main names: `Loop`, `stack_at`, `body_of`, `reads`, `home`, `visible`.
-- A body is named by its FOR row, the outermost one by the row count.
-- Assumes nothing.
use Rattle.std.specs.Prelude.{ℕ, zero, suc, ◌+◌, Bool, true, false, cond, not, ◌&&◌, List, [], ◌∷◌, eqb, leb, ltb}
use Rattle.table.specs.Rows.{kind_at, size, FOR, ARG, NEXT, END, CONST}

-- 'For each open loop three numbers are kept: its FOR row, its ARGs and its NEXTs so far.'
pub record Loop : Type 0 where
  pub row : ℕ
  pub args : ℕ
  pub nexts : ℕ

abbrev pub opened : ℕ → Loop
opened r = record { row = r; args = 0; nexts = 0 }

abbrev pub one_arg : Loop → Loop
one_arg l = record { row = l.row; args = l.args + 1; nexts = l.nexts }

abbrev pub one_next : Loop → Loop
one_next l = record { row = l.row; args = l.args; nexts = l.nexts + 1 }

-- the innermost loop changed; with no loop open nothing changes
abbrev pub at_head : (Loop → Loop) → List Loop → List Loop
at_head f [] = []
at_head f (l ∷ s) = f l ∷ s

-- the loops around the innermost one
abbrev pub outward : List Loop → List Loop
outward [] = []
outward (l ∷ s) = s

-- the open loops behind a row, from those before it: 'FOR opens a loop, ARG and NEXT are counted for the innermost open loop, END closes it'
unfoldable pub after : ℕ → ℕ → List Loop → List Loop
after kind r s =
    cond (eqb kind FOR) (opened r ∷ s)
    (cond (eqb kind ARG) (at_head one_arg s) (cond (eqb kind NEXT) (at_head one_next s) (cond (eqb kind END) (outward s) s)))

-- the open loops before row r, innermost first
unfoldable pub stack_at : List ℕ → ℕ → List Loop
stack_at t zero = []
stack_at t (suc r) = after (kind_at t r) r (stack_at t r)

-- the innermost body, in a table of n rows
abbrev pub inner : ℕ → List Loop → ℕ
inner n [] = n
inner n (l ∷ s) = l.row

-- 'A row stands in the innermost body open before it; ARG, NEXT and END so stand in their own loop, FOR in the body around.'
unfoldable pub body_of : List ℕ → ℕ → ℕ
body_of t r = inner (size t) (stack_at t r)

-- 'A row's operands are read in the body that the row stands in, but an ARG's in the body around its loop.'
unfoldable pub read_stack : List ℕ → ℕ → List Loop
read_stack t r = cond (eqb (kind_at t r) ARG) (outward (stack_at t r)) (stack_at t r)

unfoldable pub reads : List ℕ → ℕ → ℕ
reads t r = inner (size t) (read_stack t r)

-- The column 'home' of the table of kinds: of INPUT and CONST the outermost body, of FOR and ARG the loop, of NEXT 'the body around its loop', of
-- OP and PICK 'the body it stands in'.
unfoldable pub home_by : ℕ → ℕ → ℕ → List Loop → ℕ
home_by n kind r s =
    cond (leb kind CONST) n (cond (eqb kind FOR) r (cond (eqb kind NEXT) (inner n (outward s)) (inner n s)))

unfoldable pub home : List ℕ → ℕ → ℕ
home t v = home_by (size t) (kind_at t v) v (stack_at t v)

-- the loop of FOR row b is among s
abbrev pub holds : ℕ → List Loop → Bool
holds b [] = false
holds b (l ∷ s) = cond (eqb l.row b) true (holds b s)

-- body b is open where the loops s are
unfoldable pub body_open : ℕ → ℕ → List Loop → Bool
body_open n b s = cond (eqb b n) true (holds b s)

-- 'for a NEXT, its own loop no longer open before r'
unfoldable pub end_passed : List ℕ → ℕ → ℕ → Bool
end_passed t r v = cond (eqb (kind_at t v) NEXT) (not (holds (body_of t v) (stack_at t r))) true

-- 'Visible from row r is a row v with': an earlier row of kind 0 to 6, 'its home body open where the operands of r are read', and not within a
-- NEXT's own loop
unfoldable pub visible : List ℕ → ℕ → ℕ → Bool
visible t r v =
    ltb v r && (leb (kind_at t v) NEXT && (body_open (size t) (home t v) (read_stack t r) && end_passed t r v))
