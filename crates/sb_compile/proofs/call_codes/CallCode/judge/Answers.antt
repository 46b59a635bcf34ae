use Rattle.std.proofs.Common.{subst}
use Rattle.sb_compile.specs.Indexed.{IsIndexed}
use Rattle.sb_compile.proofs.call_codes.CallCode.judge.Goals as goal

pub judge_by-requires-clause-indexed : goal.judge_by-requires-clause-indexed
judge_by-requires-clause-indexed c = subst (IsIndexed c.self.inside.rules) c.in-Some.is c.self.invariant
