-- The records that a section's table stands for.
use Rattle.std.specs.Prelude.{List}
use Rattle.kernel.specs.File.{Rec}
use Rattle.parts.specs.Parts.{records_in}
use Rattle.parts.specs.declared.RecordTable.{RecordTable}

abbrev pub rows : RecordTable → List Rec
rows r = records_in r.file.now r.part
