-- A fragment at the front of a string, folded.
use Rattle.std.specs.Prelude.{Option, None, Some, is_some, nat_le, option_map, option_and_then}
use Rattle.std.proofs.Common.{◌≡◌, ◌∙◌, ◌<◌, ℕ, Bool, true, false, cond, List, [], ◌∷◌, length, refl, ap, arith}
use Rattle.std.proofs.lemmas.Bool.{le-leb}
use Rattle.sb_call.specs.Arguments.{arg_at}
use Rattle.sb_call.specs.declared.arguments.Arg.{Arg}
use Rattle.sb_call.specs.declared.arguments.Arg.TheVariants as arg
use Rattle.sb_rule.specs.declared.cells.Cell.{Cell}
use Rattle.sb_opcode.specs.Fragments.{after_fragment, after_units, at_end}
use Rattle.sb_opcode.specs.Meaning.{after_opcode}
use Rattle.sb_opcode.specs.Walking.{Between, all_so_far, closed, front_opcode, group_end, is_front, step}

-- after a group that tests for the front of a string
no_units : (us : List ℕ) → after_units 0 us ≡ Some us
no_units us =
    let least : nat_le 0 (length us) ≡ true = le-leb 0 (length us) (omega arith) in
    ap (λ b. cond b (Some us) None) least

ended_by : (o : Option (List ℕ)) → closed false (all_so_far (option_map arg.Str o)) ≡ group_end (is_some o)
ended_by None = refl
ended_by (Some left) = refl

pub front_step : (args : List Arg) (param : ℕ) (cells : List Cell) (whole : Bool)
    → step args Between (front_opcode param cells whole) ≡ group_end (is_front (arg_at args param) cells whole)
front_step args param cells true = by (arg_at args param)
  where
    by : (a : Arg) → closed false (all_so_far (after_opcode (front_opcode param cells true) a)) ≡ group_end (is_front a cells true)
    by (arg.Num value) = refl
    by (arg.Str us) =
        ap (λ o. closed false (all_so_far (option_map arg.Str (at_end (option_and_then (after_fragment true cells) o))))) (no_units us)
        ∙ ended_by (at_end (after_fragment true cells us))
front_step args param cells false = by (arg_at args param)
  where
    by : (a : Arg) → closed false (all_so_far (after_opcode (front_opcode param cells false) a)) ≡ group_end (is_front a cells false)
    by (arg.Num value) = refl
    by (arg.Str us) =
        ap (λ o. closed false (all_so_far (option_map arg.Str (option_and_then (after_fragment true cells) o)))) (no_units us)
        ∙ ended_by (after_fragment true cells us)
