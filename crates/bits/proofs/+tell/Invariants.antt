-- The measure is how many numbers are left.
use lib.ListN.{length}
use Rattle.bits.proofs.+tell.Given as goal

abbrev pub decreases-tell : goal.decreases-tell
decreases-tell l = length l.ns.now
