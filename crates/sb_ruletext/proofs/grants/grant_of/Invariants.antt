use Rattle.std.proofs.Common.{◌≡◌, drop}
use Rattle.sb_ruletext.specs.Grants.{grant_word, grants, grant_of}
use Rattle.sb_call.specs.CallWords.{named}
use Rattle.sb_ruletext.proofs.grants.grant_of.Given as goal

-- the grant is one of those that are left
abbrev pub invariant-loop-grant : goal.invariant-loop-grant
invariant-loop-grant l = named grant_word (drop l.grant-index grants) l.word ≡ grant_of l.word
