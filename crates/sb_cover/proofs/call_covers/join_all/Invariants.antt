use Rattle.std.specs.List.{Contains, list_all}
use Rattle.std.specs.Prelude.{slice_index}
use Rattle.std.proofs.Common.{◌≡◌, ◌<◌, ◌∷◌, ℕ, Bool, List, true, length}
use Rattle.sb_call.specs.Arguments.{arg_at}
use Rattle.sb_call.specs.declared.arguments.Arg.{Arg}
use Rattle.sb_cover.specs.Calls.{later_at, JoinTo}
use Rattle.sb_cover.proofs.call_covers.join_all.Given as goal

abbrev pub invariant-loop-k : goal.invariant-loop-k
invariant-loop-k l = record {
  here : (k : ℕ) (x : List Arg) → k < l.k → Contains (later_at l.laters (slice_index l.places k)) x → Contains l.calls.items (arg_at l.values k ∷ x);
  all : (one : Arg → Bool) (more every : List Arg → Bool) → JoinTo one more every → list_all one l.values ≡ true
      → ((j : ℕ) → j < length l.laters → list_all more (later_at l.laters j) ≡ true) → list_all every l.calls.items ≡ true;
}
