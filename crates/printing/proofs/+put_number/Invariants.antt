-- `printing::put_number` meets its contract: the last digit after those of a tenth of the number. The measure is the number. Assumes nothing.
use Rattle.printing.proofs.+put_number.Given as goal

abbrev pub decreases-put_number : goal.decreases-put_number
decreases-put_number l = l.n
