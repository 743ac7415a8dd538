use mathlib.Core.Path.{sym}
use Rattle.paper.proofs.Decoded.{decoded_fine}
use Rattle.sheet.proofs.Laws.{whole_read, read_good}
use Rattle.sheet.proofs.Sheet.read.Goals as goal

pub invariant_of-parts : goal.invariant_of-parts
invariant_of-parts c = record { whole = whole_read _ _ c.read_trailer-trailer.ensures (cc) (cc) }

pub invariant_of-result : goal.invariant_of-result
invariant_of-result c = record { fine = decoded_fine c.args.b.now _ (sym (read_good _ _ c.read_trailer-trailer.ensures (cc) (cc) (cc) (cc))) }
