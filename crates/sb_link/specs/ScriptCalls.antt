-- The calls of a script, and the answers to all of them.
use Rattle.std.specs.Prelude.{ℕ, Bool, true, ◌&&◌, nat_le, nat_lt, List, [], ◌∷◌, length}
use Rattle.std.specs.List.{flat_map, list_all}
use Rattle.sb_actor.specs.Places.{mark_at}
use Rattle.sb_block.specs.Blocks.{block, encodes}
use Rattle.sb_block.specs.Copies.{whole}
use Rattle.sb_book.specs.Histories.{Setting, setting_of}
use Rattle.sb_rule.specs.declared.policies.Policy.{Policy}
use Rattle.sb_statements.specs.PlacedStatements.{Placed, placed_statements}
use Rattle.sb_statements.specs.declared.scripts.Script.{Script}
use Rattle.sb_statements.specs.declared.statements.Statement.{Statement}
use Rattle.sb_statements.specs.declared.statements.Statement.TheVariants.{Call, Store, Exchange, Load, Wait}
use Rattle.sb_link.specs.LinkedHistories.{Asked, LinkedHistory, all_answered, new_linked}
use Rattle.sb_link.specs.declared.links.Link.{Link}

-- what a statement of a target asks: a call, by its whole block with this mark, on channel 0; any other, nothing
abbrev pub asked_at : ℕ → ℕ → Statement → List Asked
asked_at target mark (Call tag args) = record { target = target; channel = 0; taken = whole (block tag args mark) } ∷ []
asked_at target mark (Store t word value) = []
asked_at target mark (Exchange t word from to) = []
asked_at target mark (Load t word) = []
asked_at target mark (Wait t word value most) = []

-- what a statement asks, with the mark of its place
abbrev pub asked_of : Placed → List Asked
asked_of p = asked_at p.target (mark_at p.thread p.place) p.statement

-- what these statements ask, in order
abbrev pub asked_by_statements : List Placed → List Asked
asked_by_statements statements = flat_map asked_of statements

-- what a script asks, by target, thread and place
abbrev pub asked_by : Script → List Asked
asked_by script = asked_by_statements (placed_statements script)

-- the history after the answers to all calls of a script under policies
abbrev pub script_answered : List Policy → Script → List Link → LinkedHistory
script_answered policies script links = all_answered (new_linked links (setting_of policies script)) (asked_by script)

-- ---- when all of them can be answered

-- if the statement is a call, it encodes
abbrev pub is_encoded : Statement → Bool
is_encoded (Call tag args) = encodes tag args
is_encoded (Store t word value) = true
is_encoded (Exchange t word from to) = true
is_encoded (Load t word) = true
is_encoded (Wait t word value most) = true

-- the target of a statement is one of a setting, and the statement encodes if it is a call
abbrev pub can_be_asked : Setting → Placed → Bool
can_be_asked setting p = nat_lt p.target (length setting.policies) && is_encoded p.statement

-- each target of a setting has a channel
abbrev pub have_channels : Setting → Bool
have_channels setting = nat_le (length setting.policies) (length setting.channels) && list_all (nat_lt 0) setting.channels
