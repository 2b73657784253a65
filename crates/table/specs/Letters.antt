-- A text as the bytes of its letters, for letters of one byte.
-- Assumes nothing.
use Rattle.std.specs.Prelude.{ℕ, List, [] as []ᴸ, ◌∷◌ as ◌∷ᴸ◌}
use Prim.Native.Char.{code}
use Prim.Native.String.{String, [], ◌∷◌}

abbrev pub letters : String → List ℕ
letters [] = []ᴸ
letters (c ∷ s) = code c ∷ᴸ letters s
