use Rattle.sb_compile.proofs.LetterCase.{letter_case_does_not_matter}
use Rattle.sb_compile.proofs.laws.letter_case_does_not_matter.Goals as goal

pub returns : goal.returns
returns c = letter_case_does_not_matter c.matching_folds.ensures.literals c.compiling_keeps_verdicts.ensures
