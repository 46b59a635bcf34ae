-- Which scripts can be written as a text.
use Rattle.std.specs.Prelude.{Bool, true, ◌&&◌, List}
use Rattle.std.specs.List.{list_all}
use Rattle.sb_call.specs.ShortNames.{is_short_name}
use Rattle.sb_call.specs.declared.arguments.Arg.{Arg}
use Rattle.sb_call.specs.declared.arguments.Arg.TheVariants.{Num, Str}
use Rattle.sb_text.specs.Strings.{is_text}
use Rattle.sb_rule.specs.declared.policies.Policy.{Policy}
use Rattle.sb_statements.specs.declared.scripts.Script.{Script}
use Rattle.sb_statements.specs.declared.scripts.StartLine.{StartLine}
use Rattle.sb_statements.specs.declared.scripts.StartLine.TheVariants.{Dir, File, Key, Event}
use Rattle.sb_statements.specs.declared.scripts.TargetScript.{TargetScript}
use Rattle.sb_statements.specs.declared.statements.Statement.{Statement}
use Rattle.sb_statements.specs.declared.statements.Statement.TheVariants.{Call, Store, Exchange, Load, Wait}
use Rattle.sb_base.specs.Numbers.{is_word64}

-- the name of an opening line is text
abbrev pub is_writable_start : StartLine → Bool
is_writable_start (Dir name) = is_text name
is_writable_start (File name attributes) = is_text name
is_writable_start (Key name) = is_text name
is_writable_start (Event name kind initial) = is_text name

-- an argument is text, or a number of 64 bits
abbrev pub is_writable_arg : Arg → Bool
is_writable_arg (Str text) = is_text text
is_writable_arg (Num number) = is_word64 number

-- the arguments of a call can be written, and the values of another statement have 64 bits
abbrev pub is_writable_statement : Statement → Bool
is_writable_statement (Call tag args) = list_all is_writable_arg args
is_writable_statement (Store target word value) = is_word64 value
is_writable_statement (Exchange target word from to) = is_word64 from && is_word64 to
is_writable_statement (Load target word) = true
is_writable_statement (Wait target word value most) = is_word64 value

-- each statement of a thread can be written
abbrev pub is_writable_thread : List Statement → Bool
is_writable_thread statements = list_all is_writable_statement statements

-- the name of a target is a short name, and each of its threads can be written
abbrev pub is_writable_target : TargetScript → Bool
is_writable_target target = is_short_name target.name && list_all is_writable_thread target.threads

-- the strings, numbers and names of a script can be written
abbrev pub is_writable : Script → Bool
is_writable script = list_all is_writable_start script.start && list_all is_writable_target script.targets

-- each policy has a short name
abbrev pub are_short_named : List Policy → Bool
are_short_named policies = list_all (λ policy. is_short_name policy.name) policies
