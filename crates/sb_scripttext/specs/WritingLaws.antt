-- What is true of the text of a script.
use Rattle.std.specs.Prelude.{◌≡◌, ℕ, true, List, Ok}
use Rattle.sb_book.specs.Readiness.{is_ready}
use Rattle.sb_rule.specs.declared.policies.Policy.{Policy}
use Rattle.sb_statements.specs.declared.scripts.Script.{Script}
use Rattle.sb_scripttext.specs.ScriptTexts.{reading}
use Rattle.sb_scripttext.specs.Writable.{is_writable, are_short_named}
use Rattle.sb_scripttext.specs.Writing.{written}

-- the text of a script that is ready for policies and can be written is read as that script
abbrev pub WrittenScriptsAreRead : Type 0
WrittenScriptsAreRead = (policies : List Policy) (script : Script) → are_short_named policies ≡ true → is_ready policies script ≡ true
    → is_writable script ≡ true → reading policies (written policies script) ≡ Ok script

-- and each script that is read can be written; if the policies are well made it is ready for them too (`ReadScriptsAreReady`)
abbrev pub ReadScriptsCanBeWritten : Type 0
ReadScriptsCanBeWritten = (policies : List Policy) (text : List ℕ) (script : Script) → reading policies text ≡ Ok script → is_writable script ≡ true
