-- The block of a call is a whole block of its thread.
use Rattle.std.proofs.Common.{◌≡◌, refl, sym, ℕ, ◌+◌, ◌/◌, ◌<◌, ◌≤◌, Bool, true, false, cond, eqb, ltb, leb, ◌&&◌, List, length, get_or, Option, None, Some, Ok, arith}
use Rattle.std.proofs.lemmas.Bool.Decides.{nat_tests}
use Rattle.std.specs.List.{list_all}
use Rattle.sb_block.specs.Blocks.{block, encodes, has_units}
use Rattle.sb_block.specs.Calls.{called, call_of, call_unless}
use Rattle.sb_block.specs.Copies.{whole}
use Rattle.sb_block.specs.Faults.{fault}
use Rattle.sb_block.specs.Laws.{FetchedNumbersAreCopied, BlocksComeBack}
use Rattle.sb_block.specs.declared.calls.Call.{Call as Called}
use Rattle.sb_block.specs.declared.faults.BlockFault.{BlockFault}
use Rattle.sb_call.specs.declared.arguments.Arg.{Arg}
use Rattle.sb_call.specs.declared.tags.CallTag.{CallTag}
use Rattle.sb_actor.specs.Moves.{IsBlock}
use Rattle.sb_actor.specs.Places.{mark_at}

-- a copy that decodes has no fault
no_fault : (found : Option BlockFault) (call other : Called) → call_unless found call ≡ Ok other → found ≡ None
no_fault None call other h = refl
no_fault (Some f) call other h = absurd cc

-- how long a copy's block is, by its count
record IsLong (count len : ℕ) : Type 0 where
  few : count ≤ 9
  low : 16 + count ≤ len
  high : len ≤ 64

is_long : (count len : ℕ) → 0 < len → (a b c : Bool) → ltb 9 count ≡ a → (leb (16 + count) len && leb len 64) ≡ b → eqb len 0 ≡ c
    → cond a (c && c) (cond b (eqb len len) c) ≡ true → IsLong count len
is_long count len some true b true t u e h = absurd (grind (arith, nat_tests))
is_long count len some true b false t u e h = absurd cc
is_long count len some false true c t u e h = record { few = grind (arith, nat_tests); low = grind (arith, nat_tests); high = grind (arith, nat_tests) }
is_long count len some false false true t u e h = absurd (grind (arith, nat_tests))
is_long count len some false false false t u e h = absurd cc

mark_bears : (k place : ℕ) → place < 65536 → mark_at k place / 65536 ≡ k + 1
mark_bears k place l = omega arith

pub blocks_are_whole : FetchedNumbersAreCopied → BlocksComeBack → (tag : CallTag) (args : List Arg) (k place : ℕ) → encodes tag args ≡ true → list_all has_units args ≡ true → place < 65536
    → IsBlock k (block tag args (mark_at k place))
blocks_are_whole fetched back tag args k place enc units l =
    let mark = mark_at k place in
    let b = block tag args mark in
    let law = back tag args mark enc units in
    let sound : fault (whole b) ≡ None = no_fault (fault (whole b)) (call_of (whole b)) (called tag mark args) law.1 in
    let numbers = fetched (whole b) sound in
    let long = is_long (get_or b 2 0) (length b) (omega arith) (ltb 9 (get_or b 2 0)) (leb (16 + get_or b 2 0) (length b) && leb (length b) 64) (eqb (length b) 0) refl refl refl law.0 in
    record { few = long.few; low = long.low; high = long.high; end = sym numbers.1; mark = mark_bears k place l }
