use Rattle.sb_rule.proofs.PatternTexts.{texts_come_back, reading_gives_patterns, patterns_are_read}
use Rattle.sb_rule.proofs.pattern_laws.texts_and_patterns.Goals as goal

pub returns-clause-texts : goal.returns-clause-texts
returns-clause-texts c = texts_come_back

pub returns-clause-read : goal.returns-clause-read
returns-clause-read c = reading_gives_patterns

pub returns-clause-patterns : goal.returns-clause-patterns
returns-clause-patterns c = patterns_are_read
