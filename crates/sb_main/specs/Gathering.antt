-- What comes of arguments that were not gathered.
use Rattle.std.specs.declared.io.ErrorKind.{ErrorKind}
use Rattle.std.specs.declared.io.ErrorKind.TheVariants as kind
use Rattle.sb_commands.specs.declared.usage_faults.UsageFault.TheVariants as fault
use Rattle.sb_message.specs.declared.statuses.Refusal.{Refusal}
use Rattle.sb_message.specs.declared.statuses.Refusal.TheVariants.{Usage, NoMemory}

-- what it comes to if the arguments were not gathered: they are not UTF-8, or there was no memory for them
abbrev pub gathering_refusal : ErrorKind → Refusal
gathering_refusal kind.OutOfMemory = NoMemory
gathering_refusal _ = Usage fault.NotUtf8
