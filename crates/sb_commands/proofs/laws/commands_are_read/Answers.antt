use Rattle.sb_commands.proofs.WrittenCommands.{numbers_are_read, read_are_writable, written_are_read}
use Rattle.sb_commands.proofs.laws.commands_are_read.Goals as goal

pub returns-clause-written : goal.returns-clause-written
returns-clause-written c = written_are_read c.decimals_are_read.ensures

pub returns-clause-read : goal.returns-clause-read
returns-clause-read c = read_are_writable

pub returns-clause-numbers : goal.returns-clause-numbers
returns-clause-numbers c = numbers_are_read c.decimals_are_read.ensures
