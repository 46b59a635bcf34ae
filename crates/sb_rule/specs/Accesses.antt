-- Which bits of an access only read.
use Rattle.std.specs.Prelude.{◌≡◌, ◌+◌, ◌^◌, ◌-◌, ℕ}

-- the bits of an access that only read
abbrev pub read_only_bits : ℕ
read_only_bits = 0xA01200A9

-- the bits of an access that do more than read: all that write, delete or change
abbrev pub writing_bits : ℕ
writing_bits = 0x5FEDFF56

-- each of the lower 32 bits either only reads or is one that does more
abbrev pub BitsReadOrWrite : Type 0
BitsReadOrWrite = read_only_bits + writing_bits ≡ 2 ^ 32 - 1
