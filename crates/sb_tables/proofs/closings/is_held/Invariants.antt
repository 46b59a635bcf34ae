use Rattle.std.proofs.Common.{◌≡◌, drop, is_some}
use Rattle.std.specs.List.{list_any}
use Rattle.sb_tables.proofs.closings.is_held.Given as goal

-- what is left has a seat with the turn if all have
abbrev pub invariant-loop-seat : goal.invariant-loop-seat
invariant-loop-seat l = list_any (λ s. is_some s.book) (drop l.seat-index l.seats) ≡ list_any (λ s. is_some s.book) l.seats
