-- The targets of moves that are read are there, and the moves are not too many.
use Rattle.std.proofs.Common.{◌≡◌, ◌∙◌, ◌≤◌, refl, ap, subst, ℕ, Bool, true, false, cond, nat_lt, List, [], ◌∷◌, ◌++◌, Option, None, Some, Result, Ok, Err, length, arith}
use Rattle.std.specs.List.{list_all}
use Rattle.std.specs.Prelude.{⊤, IfOk, ◌&&◌}
use Rattle.std.proofs.lemmas.Bool.{and_from}
use Rattle.std.proofs.lemmas.Bool.Decides.{nat_tests}
use Rattle.std.proofs.lemmas.List.{length_push}
use Rattle.std.proofs.lemmas.List.Folds.{list_all-append}
use Rattle.sb_dup.specs.Lines.{MoveWords, access_at, is_between, is_there, line_of, most_moves, move_by, number_at, operands, values, with_move}
use Rattle.sb_dup.specs.MoveLaws.{MovesAreBetween, MovesAreFew}
use Rattle.sb_dup.specs.MoveTexts.{MoveFault, add_line, grammar, moves_version, reading}
use Rattle.sb_dup.specs.declared.faults.MoveKind.{MoveKind}
use Rattle.sb_dup.specs.declared.moves.Move.{Move}
use Rattle.sb_base.specs.Refusals.{Gives}
use Rattle.sb_base.specs.declared.refusals.Refused.{Refused}
use Rattle.sb_text.specs.Lines.{NumberedLine, lines_of}
use Rattle.sb_text.specs.Numbers.{number_of}
use Rattle.sb_text.specs.Readings.{on_line, read_by, read_lines}
use Rattle.sb_text.specs.Steps.{◌>>=◌}
use Rattle.sb_text.specs.Tokens.{Lexemes, by_tokens, words_of}
use Rattle.sb_text.specs.declared.refusals.TokenFault.{TokenFault}

-- ---- what a value tells of the steps that led to it

made : {A B E : Type 0} (first : Result A E) (next : A → Result B E) (y : B) → (first >>= next) ≡ Ok y → (x : A) × (first ≡ Ok x) × (next x ≡ Ok y)
made (Ok x) next y h = (x, refl, h)
made (Err e) next y h = absurd cc

ok_same : {A E : Type 0} (x y : A) → ◌≡◌ {A = Result A E} (Ok x) (Ok y) → x ≡ y
ok_same x y h = cc

passed : {A E : Type 0} (b : Bool) (x y : A) (e : E) → cond b (Ok x) (Err e) ≡ Ok y → (b ≡ true) × (x ≡ y)
passed true x y e h = (refl, ok_same x y h)
passed false x y e h = absurd cc

on_this : {A : Type 0} (line : NumberedLine) (read : Result A (TokenFault MoveKind)) (x : A) → on_line by_tokens line read ≡ Ok x → read ≡ Ok x
on_this line (Ok y) x h = ap Ok (ok_same y x h)
on_this line (Err fault) x h = absurd cc

-- ---- a move

is_number : (targets place : ℕ) (number : Option ℕ) (n : ℕ) (u : ⊤) → is_there targets place number ≡ Ok u → number_at place number ≡ Ok n → nat_lt n targets ≡ true
is_number targets place None n u h k = absurd cc
is_number targets place (Some t) n u h k = subst (λ m. nat_lt m targets ≡ true) (ok_same t n k) (passed (nat_lt t targets) tt u _ h).0

move_there : (targets : ℕ) (words : MoveWords) (m : Move) → move_by targets words ≡ Ok m → is_between targets m ≡ true
move_there targets words m h =
    let giver = made (is_there targets words.from.place (number_of words.from.bytes)) (λ giver. is_there targets words.to.place (number_of words.to.bytes) >>= λ taker. values words) m h in
    let taker = made (is_there targets words.to.place (number_of words.to.bytes)) (λ taker. values words) m giver.2 in
    let from = made (number_at words.from.place (number_of words.from.bytes)) (λ from. number_at words.handle.place (number_of words.handle.bytes) >>= λ handle. number_at words.to.place (number_of words.to.bytes)
    >>= λ to. access_at words.access.place (number_of words.access.bytes) >>= λ access. Ok (record { from = from; handle = handle; to = to; access = access })) m taker.2 in
    let handle = made (number_at words.handle.place (number_of words.handle.bytes)) (λ handle. number_at words.to.place (number_of words.to.bytes)
    >>= λ to. access_at words.access.place (number_of words.access.bytes) >>= λ access. Ok (record { from = from.0; handle = handle; to = to; access = access })) m from.2 in
    let to = made (number_at words.to.place (number_of words.to.bytes))
    (λ to. access_at words.access.place (number_of words.access.bytes) >>= λ access. Ok (record { from = from.0; handle = handle.0; to = to; access = access })) m handle.2 in
    let access = made (access_at words.access.place (number_of words.access.bytes)) (λ access. Ok (record { from = from.0; handle = handle.0; to = to.0; access = access })) m to.2 in
    subst (λ m. is_between targets m ≡ true) (ok_same (record { from = from.0; handle = handle.0; to = to.0; access = access.0 }) m access.2)
    (and_from (nat_lt from.0 targets) (nat_lt to.0 targets) (is_number targets words.from.place (number_of words.from.bytes) from.0 giver.0 giver.1 from.1)
    (is_number targets words.to.place (number_of words.to.bytes) to.0 taker.0 taker.1 to.1))

-- ---- all moves

-- the moves so far are between targets that are there, and not too many
record AreBounded (targets : ℕ) (moves : List Move) : Type 0 where
  between : list_all (is_between targets) moves ≡ true
  few : length moves ≤ most_moves

with_bounded : (targets : ℕ) (line : Lexemes) (moves new : List Move) (m : Move) → AreBounded targets moves → is_between targets m ≡ true
    → with_move line moves m ≡ Ok new → AreBounded targets new
with_bounded targets line moves new m b t h =
    let p = passed (nat_lt (length moves) most_moves) (moves ++ m ∷ []) new _ h in
    let room = p.0 in
    let long = length_push moves m in
    subst (AreBounded targets) p.1
    record {
      between = list_all-append (is_between targets) moves (m ∷ []) ∙ and_from (list_all (is_between targets) moves) (is_between targets m && true) b.between (and_from (is_between targets m) true t refl);
      few = grind (arith, nat_tests, room, long);
    }

line_bounded : (targets : ℕ) (moves new : List Move) (line : Lexemes) → AreBounded targets moves → line_of targets moves line ≡ Ok new → AreBounded targets new
unfolding line_of
line_bounded targets moves new line b h =
    let found = made (operands line) (λ found. move_by targets found >>= λ m. with_move line moves m) new h in
    let m = made (move_by targets found.0) (λ m. with_move line moves m) new found.2 in
    with_bounded targets line moves new m.0 b (move_there targets found.0 m.0 m.1) m.2

lines_bounded : (targets version : ℕ) (moves new : List Move) (lines : List NumberedLine) → AreBounded targets moves
    → read_lines (grammar targets) version moves lines ≡ Ok new → AreBounded targets new
unfolding read_lines
lines_bounded targets version moves new [] b h = subst (AreBounded targets) (ok_same moves new h) b
lines_bounded targets version moves new (line ∷ lines) b h =
    let read = add_line targets moves line in
    let m = made (on_line by_tokens line read) (λ more. read_lines (grammar targets) version more lines) new h in
    lines_bounded targets version m.0 new lines (line_bounded targets moves m.0 (words_of line.text) b (on_this line read m.0 m.1)) m.2

by_bounded : (targets : ℕ) (lines : List NumberedLine) (moves : List Move) → read_by (grammar targets) lines ≡ Ok moves → AreBounded targets moves
by_bounded targets [] moves h = absurd cc
by_bounded targets (first ∷ lines) moves h =
    let m = made (on_line by_tokens first (moves_version first.text)) (λ version. read_lines (grammar targets) version [] lines) moves h in
    lines_bounded targets m.0 [] moves lines record { between = refl; few = omega arith } m.2

is_read : (targets : ℕ) (text : List ℕ) (moves : List Move) → reading targets text ≡ Ok moves → AreBounded targets moves
is_read targets text moves h = by_bounded targets (lines_of text) moves h

pub moves_are_between : MovesAreBetween
moves_are_between targets text moves h = (is_read targets text moves h).between

pub moves_are_few : MovesAreFew
moves_are_few targets text moves h = (is_read targets text moves h).few

-- what holds of each value that is wanted holds of what was read
holds_if_read : {A : Type 0} (P : A → Type 0) (wanted : Result A MoveFault) (result : Result A (Refused MoveFault)) → ((x : A) → wanted ≡ Ok x → P x)
    → Gives wanted result → IfOk result P
holds_if_read P wanted (Ok x) f h = f x h
holds_if_read P wanted (Err refused) f h = tt

pub read_between : (targets : ℕ) (text : List ℕ) (result : Result (List Move) (Refused MoveFault)) → Gives (reading targets text) result
    → IfOk result (λ moves. list_all (is_between targets) moves ≡ true)
read_between targets text result h =
    holds_if_read (λ moves. list_all (is_between targets) moves ≡ true) (reading targets text) result (moves_are_between targets text) h

pub read_few : (targets : ℕ) (text : List ℕ) (result : Result (List Move) (Refused MoveFault)) → Gives (reading targets text) result
    → IfOk result (λ moves. length moves ≤ most_moves)
read_few targets text result h = holds_if_read (λ moves. length moves ≤ most_moves) (reading targets text) result (moves_are_few targets text) h
