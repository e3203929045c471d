-- How the fields of a reader hold what it has read.
use Rattle.std.specs.Prelude.{◌≡◌, ◌≤◌, slice_range, vec_len}
use Rattle.dl_lines.specs.declared.reader.LineReader.TheInside.{Inside}
use Rattle.dl_lines.specs.declared.reader.TheConstants.{MOST_BYTES, ROOM}
use Rattle.dl_lines.specs.Reading.{Reading}

abbrev pub reading_of : Inside → Reading
reading_of r = record {
  ahead = slice_range r.room.items r.next r.filled;
  line = slice_range r.room.items r.line_start r.line_end;
  count = r.count;
  ended = r.ended;
}

pub record IsKept (r : Inside) : Type 0 where
  pub room : vec_len r.room ≡ ROOM
  pub line : r.line_start ≤ r.line_end
  pub line_within : r.line_end ≤ ROOM
  pub ahead : r.next ≤ r.filled
  pub ahead_within : r.filled ≤ ROOM
  pub limit : r.count ≤ MOST_BYTES
