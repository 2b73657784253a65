-- A page of lent memory: what stands in the memory, how many letters of it are written, and which. Assumes nothing.
use Rattle.std.specs.Prelude.{ℕ, List, take}
use Rattle.std.specs.Io.Cursor.{cursor_position, cursor_inner}
use Rattle.text.specs.declared.Page.{Page}

-- all letters of the lent memory
abbrev pub memory_of : Page → List ℕ
memory_of page = (cursor_inner page.0).now

abbrev pub place_of : Page → ℕ
place_of page = cursor_position page.0

-- the letters written, from the memory's start on
abbrev pub written_on : Page → List ℕ
written_on page = take (place_of page) (memory_of page)
