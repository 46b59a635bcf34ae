use Rattle.std.specs.List.{Contains, list_all}
use Rattle.std.proofs.Common.{◌≡◌, ◌<◌, ◌∷◌, [], ℕ, Bool, List, true, get_or}
use Rattle.sb_call.specs.declared.arguments.Arg.{Arg}
use Rattle.sb_cover.specs.Calls.{JoinTo}
use Rattle.sb_cover.proofs.call_covers.put_before.Given as goal

abbrev pub invariant-loop-args : goal.invariant-loop-args
invariant-loop-args l = record {
  kept : (x : List Arg) → Contains l.fn.calls.items x → Contains l.calls.items x;
  here : (k : ℕ) → k < l.args-index → Contains l.calls.items (l.value ∷ get_or l.later k []);
  all : (one : Arg → Bool) (more every : List Arg → Bool) → JoinTo one more every → one l.value ≡ true → list_all more l.later ≡ true → list_all every l.fn.calls.items ≡ true
      → list_all every l.calls.items ≡ true;
}
