-- The sheet that stands in bytes whose parts are known, what an accepted sheet holds, and what decode says where a sheet was read.
-- Assumes nothing.
use Rattle.std.specs.Prelude.{Result, Ok, Err}
use Rattle.paper.specs.declared.Fault.{Fault}
use Rattle.paper.specs.Sheet as paper
use Rattle.sheet.specs.declared.Parts.{Parts}
use Rattle.sheet.specs.declared.Sheet.{Sheet}

abbrev pub sheet_in : Parts → paper.Sheet
sheet_in p = paper.sheet_of p.bytes.now p.trailer

abbrev pub contents : Sheet → paper.Sheet
contents s = sheet_in s.parts

abbrev pub read_as : Result Sheet Fault → Result paper.Sheet Fault
read_as (Ok s) = Ok (contents s)
read_as (Err f) = Err f
