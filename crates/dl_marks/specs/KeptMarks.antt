-- How the bytes of the marks hold them.
use Rattle.std.specs.Prelude.{map}
use Rattle.dl_marks.specs.declared.marks.Marks.TheInside.{Inside}
use Rattle.dl_marks.specs.Marks.{Marking}
use Rattle.dl_marks.specs.Bytes.{row_of}

abbrev pub marking_of : Inside → Marking
marking_of m = record { rows = map row_of m.bytes.items; owned = m.bytes.owned }
