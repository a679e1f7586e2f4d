use Rattle.replacement.proofs.Steps.{substitute-constant, substitute-same, substitute-other}
use Rattle.replacement.proofs.substitute.Goals as goal

pub returns-in-Constant : goal.returns-in-Constant
returns-in-Constant c = substitute-constant _ _ _ _ c.in-Constant.is

pub returns-then-w-replacement : goal.returns-then-w-replacement
returns-then-w-replacement c = substitute-same _ _ _ _ c.in-Variable.is c.if-w-replacement.true

pub returns-else-w-replacement : goal.returns-else-w-replacement
returns-else-w-replacement c = substitute-other _ _ _ _ c.in-Variable.is c.if-w-replacement.false
