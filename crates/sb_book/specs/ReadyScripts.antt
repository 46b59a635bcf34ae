-- Policies with a script that is ready for them.
use Rattle.std.specs.Prelude.{List}
use Rattle.sb_rule.specs.declared.policies.Policy.{Policy}
use Rattle.sb_statements.specs.declared.scripts.Script.{Script}

-- policies and a script
pub record Ready : Type 0 where
  pub policies : List Policy
  pub script : Script
