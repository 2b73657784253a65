-- How the code says what a word of a row is: `field_of` reads one, `said` the five of a row.
-- Assumes nothing.
use Rattle.table.specs.Rows.{Field, spare, value, code, names, Fields, fields}
use Rattle.table.specs.declared.Field.{Field as SaidField}
use Rattle.table.specs.declared.Field.TheVariants.{Unused, Any, Codes, Word, Flag}
use Rattle.table.specs.declared.Fields.{Fields as SaidFields}

abbrev pub field_of : SaidField → Field
field_of Unused = spare
field_of Any = value
field_of Word = names 0
field_of Flag = names 1
field_of (Codes n) = code n

abbrev pub said : SaidFields → Fields
said u = fields (field_of u.a) (field_of u.b) (field_of u.c) (field_of u.d) (field_of u.e)
