-- The Windows numbers of answers, dispositions, options and accesses.
use Rattle.std.specs.Prelude.{ℕ, Bool, not, ◌==◌, bit_and, List, []}
use Rattle.sb_call.specs.declared.replies.Answer.{Answer}

abbrev pub success : ℕ
success = 0

abbrev pub name_exists : ℕ
name_exists = 0x40000000

abbrev pub invalid_handle : ℕ
invalid_handle = 0xC0000008

abbrev pub invalid_parameter : ℕ
invalid_parameter = 0xC000000D

abbrev pub access_denied : ℕ
access_denied = 0xC0000022

abbrev pub type_mismatch : ℕ
type_mismatch = 0xC0000024

abbrev pub name_not_found : ℕ
name_not_found = 0xC0000034

abbrev pub name_collision : ℕ
name_collision = 0xC0000035

abbrev pub path_not_found : ℕ
path_not_found = 0xC000003A

abbrev pub sharing_violation : ℕ
sharing_violation = 0xC0000043

abbrev pub instance_not_available : ℕ
instance_not_available = 0xC00000AB

abbrev pub file_is_a_directory : ℕ
file_is_a_directory = 0xC00000BA

abbrev pub not_a_directory : ℕ
not_a_directory = 0xC0000103

-- the bits that two numbers share are not all 0
abbrev pub meets : ℕ → ℕ → Bool
meets bits mask = not (bit_and bits mask == 0)

-- an answer that grants nothing
abbrev pub refusal : ℕ → Answer
refusal status = record { status = status; handle = 0; ext = [] }

-- an answer with extended words, which grants nothing
abbrev pub showing : List ℕ → Answer
showing words = record { status = success; handle = 0; ext = words }

-- an answer that grants a handle
abbrev pub granting : ℕ → ℕ → List ℕ → Answer
granting status handle words = record { status = status; handle = handle; ext = words }
