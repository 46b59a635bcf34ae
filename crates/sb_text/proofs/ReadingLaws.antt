-- The laws of texts that are read line by line.
use Rattle.std.proofs.Common.{◌≡◌, refl, sym, ap, subst, ◌∙◌, ℕ, ◌+◌, ◌<◌, List, [], ◌∷◌, ◌++◌, append-nil, Bool, true, false, ◌&&◌, nat_le, nat_lt, cond, length, map, Result, Ok, Err, arith}
use Rattle.std.proofs.lemmas.Bool.{false≢true}
use Rattle.std.proofs.lemmas.Bool.Decides.{nat_tests}
use Rattle.std.specs.Bool.{⊤}
use Rattle.std.specs.List.{list_all}
use Rattle.sb_text.proofs.Conjunctions.{both, and_true}
use Rattle.sb_text.proofs.LineLaws.{append, saying_append, within, within_from, written_lines}
use Rattle.sb_text.specs.LineLaws.{ended, is_line}
use Rattle.sb_text.specs.Lines.{NumberedLine, raw_lines, lines_from, lines_of, is_skipped, without_cr}
use Rattle.sb_text.specs.ReadingLaws.{FirstFaultsStay, LinesBeforeAreRead, MovesWith, SkippedLinesCountAlone}
use Rattle.sb_text.specs.Readings.{Grammar, on_line, refused_on, read_lines, read_by, is_some_line, renumbered_line, renumbered, behind}
use Rattle.sb_base.specs.Refusals.{Gives}
use Rattle.sb_text.specs.Steps.{◌>>=◌, on_value, Becomes}
use Rattle.sb_text.specs.declared.refusals.LineFault.{LineFault}
use Rattle.sb_text.specs.declared.refusals.TokenFault.{TokenFault}
use Rattle.sb_text.specs.declared.columns.Layout.{Layout}
use Rattle.sb_base.specs.declared.refusals.Refused.{Refused}
use Rattle.sb_base.specs.declared.refusals.Refused.TheVariants.{Fault, NoMemory}

-- if no line is left, what was read so far is all
pub no_line : {D K : Type 0} (grammar : Grammar D K) (version : ℕ) (sofar : D) → read_lines grammar version sofar [] ≡ Ok sofar
unfolding read_lines
no_line grammar version sofar = refl

-- after a first line that adds to it the others are read
pub added_in_turn : {D K : Type 0} (grammar : Grammar D K) (version : ℕ) (sofar more : D) (line : NumberedLine) (lines : List NumberedLine)
    → grammar.add version sofar line ≡ Ok more → read_lines grammar version sofar (line ∷ lines) ≡ read_lines grammar version more lines
unfolding read_lines
added_in_turn grammar version sofar more line lines h = rw (h) refl

first_refused : {D K : Type 0} (grammar : Grammar D K) (version : ℕ) (sofar new : D) (line : NumberedLine) (lines : List NumberedLine) (why : Refused (TokenFault K))
    → Becomes {A = ⊤} (grammar.add version sofar line) (Err why) new
    → Gives {A = D} (read_lines grammar version sofar (line ∷ lines)) (Err (refused_on grammar.layout line.number line.text why))
unfolding read_lines
first_refused grammar version sofar new line lines (Fault fault) h = rw (h) refl
first_refused grammar version sofar new line lines NoMemory h = tt

-- and why the first line of those that are left is refused is why all lines are
pub refused_in_turn : {D K : Type 0} (grammar : Grammar D K) (version : ℕ) (start sofar new : D) (all left : List NumberedLine) (line : NumberedLine)
    (lines : List NumberedLine) (why : Refused (TokenFault K)) (met : Refused (LineFault K))
    → read_lines grammar version sofar left ≡ read_lines grammar version start all
    → left ≡ line ∷ lines → Becomes {A = ⊤} (grammar.add version sofar line) (Err why) new → met ≡ refused_on grammar.layout line.number line.text why
    → Gives {A = D} (read_lines grammar version start all) (Err met)
refused_in_turn grammar version start sofar new all left line lines why met whole first h here =
    let refused = first_refused grammar version sofar new line lines why h in
    subst (λ met. Gives (read_lines grammar version start all) (Err met)) (sym here)
    (subst (λ (read : Result _ (LineFault _)). Gives read (Err (refused_on grammar.layout line.number line.text why))) (ap (read_lines grammar version sofar) (sym first) ∙ whole) refused)

nested : {D K : Type 0} (grammar : Grammar D K) (version : ℕ) (xs ys : List NumberedLine) (first : Result D (LineFault K))
    → ((more : D) → read_lines grammar version more (xs ++ ys) ≡ (read_lines grammar version more xs >>= λ more. read_lines grammar version more ys))
    → (first >>= λ more. read_lines grammar version more (xs ++ ys))
    ≡ ((first >>= λ more. read_lines grammar version more xs) >>= λ more. read_lines grammar version more ys)
nested grammar version xs ys (Ok more) h = h more
nested grammar version xs ys (Err fault) h = refl

-- what lines and further lines add
lines_append : {D K : Type 0} (grammar : Grammar D K) (version : ℕ) (sofar : D) (xs ys : List NumberedLine)
    → read_lines grammar version sofar (xs ++ ys) ≡ (read_lines grammar version sofar xs >>= λ more. read_lines grammar version more ys)
unfolding read_lines
lines_append grammar version sofar [] ys = refl
lines_append grammar version sofar (x ∷ xs) ys =
    nested grammar version xs ys (on_line grammar.layout x (grammar.add version sofar x)) (λ more. lines_append grammar version more xs ys)

abbrev line_in : {A K : Type 0} → Result A (LineFault K) → ℕ
line_in (Ok x) = 0
line_in (Err fault) = fault.line

-- if this is a fault, it has such a number
abbrev IsFaultIn : {D K : Type 0} → (ℕ → Bool) → Result D (LineFault K) → LineFault K → Type 0
IsFaultIn p read fault = read ≡ Err fault → p fault.line ≡ true

first_among : {A D K : Type 0} (p : ℕ → Bool) (layout : Layout) (line : NumberedLine) (read : Result A (TokenFault K)) (rest : A → Result D (LineFault K)) (fault : LineFault K)
    → p line.number ≡ true → ((more : A) → IsFaultIn p (rest more) fault) → IsFaultIn p (on_line layout line read >>= rest) fault
first_among p layout line (Ok more) rest fault t h e = h more e
first_among p layout line (Err other) rest fault t h e = ap p (sym (ap line_in e)) ∙ t

-- a fault has the number of one of the lines
among : {D K : Type 0} (p : ℕ → Bool) (grammar : Grammar D K) (version : ℕ) (sofar : D) (lines : List NumberedLine) (fault : LineFault K)
    → list_all (λ line. p line.number) lines ≡ true → IsFaultIn p (read_lines grammar version sofar lines) fault
unfolding read_lines
among p grammar version sofar [] fault t e = absurd cc
among p grammar version sofar (x ∷ xs) fault t e =
    first_among p grammar.layout x (grammar.add version sofar x) (λ more. read_lines grammar version more xs) fault (both _ _ t).0
    (λ more. among p grammar version more xs fault (both _ _ t).1) e

-- a fault that is none of the rest comes from the front
from_front : {D K : Type 0} (p : ℕ → Bool) (front : Result D (LineFault K)) (rest : D → Result D (LineFault K)) (fault : LineFault K)
    → ((more : D) → IsFaultIn p (rest more) fault) → p fault.line ≡ false → (front >>= rest) ≡ Err fault → front ≡ Err fault
from_front p (Ok more) rest fault h n e = absurd (false≢true (sym n ∙ h more e))
from_front p (Err other) rest fault h n e = e

-- after a front that has no such fault it comes from the rest
front_read : {D K : Type 0} (p : ℕ → Bool) (front : Result D (LineFault K)) (rest : D → Result D (LineFault K)) (fault : LineFault K)
    → IsFaultIn p front fault → p fault.line ≡ false → (front >>= rest) ≡ Err fault → (read : D) × (front ≡ Ok read)
front_read p (Ok more) rest fault h n e = (more, refl)
front_read p (Err other) rest fault h n e = absurd (false≢true (sym n ∙ h e))

-- what is read of a first line that names this version, and of the others
abbrev read_after : {D K : Type 0} → Grammar D K → NumberedLine → Result ℕ (TokenFault K) → List NumberedLine → Result D (LineFault K)
read_after grammar first read lines = on_line grammar.layout first read >>= λ version. read_lines grammar version grammar.start lines

after_stays : {D K : Type 0} (p : ℕ → Bool) (grammar : Grammar D K) (first : NumberedLine) (read : Result ℕ (TokenFault K)) (xs ys zs : List NumberedLine) (fault : LineFault K)
    → list_all (λ line. p line.number) ys ≡ true → p fault.line ≡ false
    → read_after grammar first read (xs ++ ys) ≡ Err fault → read_after grammar first read (xs ++ zs) ≡ Err fault
after_stays p grammar first (Err other) xs ys zs fault h k e = e
after_stays p grammar first (Ok version) xs ys zs fault h k e =
    let front : read_lines grammar version grammar.start xs ≡ Err fault =
    from_front p (read_lines grammar version grammar.start xs) (λ more. read_lines grammar version more ys) fault (λ more. among p grammar version more ys fault h) k
    (sym (lines_append grammar version grammar.start xs ys) ∙ e) in
    lines_append grammar version grammar.start xs zs ∙ ap (λ (front : Result _ (LineFault _)). front >>= λ more. read_lines grammar version more zs) front

after_read : {D K : Type 0} (p : ℕ → Bool) (grammar : Grammar D K) (first : NumberedLine) (read : Result ℕ (TokenFault K)) (xs ys : List NumberedLine) (fault : LineFault K)
    → p first.number ≡ true → list_all (λ line. p line.number) xs ≡ true → p fault.line ≡ false
    → read_after grammar first read (xs ++ ys) ≡ Err fault → (found : D) × (read_after grammar first read xs ≡ Ok found)
after_read p grammar first (Err other) xs ys fault t h k e = absurd (false≢true (sym k ∙ (ap p (sym (ap line_in e)) ∙ t)))
after_read p grammar first (Ok version) xs ys fault t h k e =
    front_read p (read_lines grammar version grammar.start xs) (λ more. read_lines grammar version more ys) fault (among p grammar version grammar.start xs fault h) k
    (sym (lines_append grammar version grammar.start xs ys) ∙ e)

lines_stay : {D K : Type 0} (p : ℕ → Bool) (grammar : Grammar D K) (front ys zs : List NumberedLine) (fault : LineFault K) → is_some_line front ≡ true
    → list_all (λ line. p line.number) ys ≡ true → p fault.line ≡ false
    → read_by grammar (front ++ ys) ≡ Err fault → read_by grammar (front ++ zs) ≡ Err fault
lines_stay p grammar [] ys zs fault s h k e = absurd (false≢true s)
lines_stay p grammar (x ∷ xs) ys zs fault s h k e = after_stays p grammar x (grammar.version x.text) xs ys zs fault h k e

lines_read : {D K : Type 0} (p : ℕ → Bool) (grammar : Grammar D K) (front ys : List NumberedLine) (fault : LineFault K) → is_some_line front ≡ true
    → list_all (λ line. p line.number) front ≡ true → p fault.line ≡ false
    → read_by grammar (front ++ ys) ≡ Err fault → (read : D) × (read_by grammar front ≡ Ok read)
lines_read p grammar [] ys fault s h k e = absurd (false≢true s)
lines_read p grammar (x ∷ xs) ys fault s h k e =
    after_read p grammar x (grammar.version x.text) xs ys fault (both _ _ h).0 (both _ _ h).1 k e

outside : (low high k : ℕ) → k < low → (nat_le low k && nat_le k high) ≡ false
outside low high k h = grind (arith, nat_tests)

above : (low high k : ℕ) → high < k → (nat_le low k && nat_le k high) ≡ false
above low high k h = grind (arith, nat_tests)

pub first_faults_stay : {D K : Type 0} → FirstFaultsStay D K
first_faults_stay grammar front rest other fault s l e =
    let n = length (raw_lines (ended front)) in
    let m = length (raw_lines rest) in
    ap (read_by grammar) (saying_append front other)
    ∙ lines_stay (λ k. nat_le (1 + n) k && nat_le k (n + m)) grammar (lines_of (ended front)) (lines_from (1 + n) (raw_lines rest))
    (lines_from (1 + n) (raw_lines other)) fault s
    (within_from (1 + n) (raw_lines rest) (1 + n) (n + m) (omega arith) (omega arith)) (outside (1 + n) (n + m) fault.line (omega (arith, l)))
    (ap (read_by grammar) (sym (saying_append front rest)) ∙ e)

pub lines_before : {D K : Type 0} → LinesBeforeAreRead D K
lines_before grammar front rest fault s l e =
    let n = length (raw_lines (ended front)) in
    lines_read (λ k. nat_le 1 k && nat_le k n) grammar (lines_of (ended front)) (lines_from (1 + n) (raw_lines rest)) fault s
    (within (ended front)) (above 1 n fault.line l) (ap (read_by grammar) (sym (saying_append front rest)) ∙ e)

first_moves : {D K : Type 0} (f : ℕ → ℕ) (moved : D → D) (layout : Layout) (line : NumberedLine) (read other : Result D (TokenFault K))
    (rest others : D → Result D (LineFault K)) → on_value moved read ≡ other → ((more : D) → renumbered f moved (rest more) ≡ others (moved more))
    → renumbered f moved (on_line layout line read >>= rest) ≡ (on_line layout (renumbered_line f line) other >>= others)
first_moves f moved layout line (Ok more) other rest others e h = h more ∙ ap (λ read. on_line layout (renumbered_line f line) read >>= others) e
first_moves f moved layout line (Err fault) other rest others e h = ap (λ read. on_line layout (renumbered_line f line) read >>= others) e

lines_move : {D K : Type 0} (f : ℕ → ℕ) (moved : D → D) (grammar : Grammar D K) (version : ℕ) → MovesWith grammar f moved
    → (sofar : D) (lines : List NumberedLine)
    → renumbered f moved (read_lines grammar version sofar lines) ≡ read_lines grammar version (moved sofar) (map (renumbered_line f) lines)
unfolding read_lines
lines_move f moved grammar version h sofar [] = refl
lines_move f moved grammar version h sofar (x ∷ xs) =
    first_moves f moved grammar.layout x (grammar.add version sofar x) (grammar.add version (moved sofar) (renumbered_line f x))
    (λ more. read_lines grammar version more xs) (λ more. read_lines grammar version more (map (renumbered_line f) xs)) (h.1 version sofar x)
    (λ more. lines_move f moved grammar version h more xs)

after_moves : {D K : Type 0} (f : ℕ → ℕ) (moved : D → D) (grammar : Grammar D K) → MovesWith grammar f moved
    → (first : NumberedLine) (read : Result ℕ (TokenFault K)) (lines : List NumberedLine)
    → renumbered f moved (read_after grammar first read lines) ≡ read_after grammar (renumbered_line f first) read (map (renumbered_line f) lines)
after_moves f moved grammar h first (Err fault) lines = refl
after_moves f moved grammar h first (Ok version) lines =
    lines_move f moved grammar version h grammar.start lines
    ∙ ap (λ sofar. read_lines grammar version sofar (map (renumbered_line f) lines)) h.0

-- what is read of lines with other numbers
by_moves : {D K : Type 0} (f : ℕ → ℕ) (moved : D → D) (grammar : Grammar D K) → MovesWith grammar f moved → (lines : List NumberedLine)
    → is_some_line lines ≡ true → renumbered f moved (read_by grammar lines) ≡ read_by grammar (map (renumbered_line f) lines)
by_moves f moved grammar h [] s = absurd (false≢true s)
by_moves f moved grammar h (x ∷ xs) s = after_moves f moved grammar h x (grammar.version x.text) xs

front_stays : (f : ℕ → ℕ) (p : ℕ → Bool) (lines : List NumberedLine) → ((k : ℕ) → p k ≡ true → f k ≡ k)
    → list_all (λ line. p line.number) lines ≡ true → map (renumbered_line f) lines ≡ lines
front_stays f p [] h t = refl
front_stays f p (x ∷ xs) h t =
    ap (λ n. record { number = n; text = x.text } ∷ map (renumbered_line f) xs) (h x.number (both _ _ t).0)
    ∙ ap (λ lines. x ∷ lines) (front_stays f p xs h (both _ _ t).1)

rest_line : (f : ℕ → ℕ) (n : ℕ) (line : List ℕ) (raw : List (List ℕ)) (b : Bool) → f n ≡ n + 1
    → map (renumbered_line f) (lines_from (n + 1) raw) ≡ lines_from (n + 1 + 1) raw
    → map (renumbered_line f) (cond b (lines_from (n + 1) raw) (record { number = n; text = line } ∷ lines_from (n + 1) raw))
    ≡ cond b (lines_from (n + 1 + 1) raw) (record { number = n + 1; text = line } ∷ lines_from (n + 1 + 1) raw)
rest_line f n line raw true h e = e
rest_line f n line raw false h e =
    ap (λ k. record { number = k; text = line } ∷ map (renumbered_line f) (lines_from (n + 1) raw)) h
    ∙ ap (λ lines. record { number = n + 1; text = line } ∷ lines) e

rest_moves : (f : ℕ → ℕ) (m n : ℕ) (raw : List (List ℕ)) → ((k : ℕ) → m < k → f k ≡ k + 1) → m < n
    → map (renumbered_line f) (lines_from n raw) ≡ lines_from (n + 1) raw
rest_moves f m n [] h l = refl
rest_moves f m n (line ∷ raw) h l =
    rest_line f n (without_cr line) raw (is_skipped (without_cr line)) (h n l) (rest_moves f m (n + 1) raw h (omega (arith, l)))

behind_stays : (n k : ℕ) → (nat_le 1 k && nat_le k n) ≡ true → behind n k ≡ k
behind_stays n k h = let t : nat_le k n ≡ true = (both (nat_le 1 k) (nat_le k n) h).1 in let s : nat_lt n k ≡ false = grind (arith, nat_tests, t) in
    ap (λ b. cond b (k + 1) k) s

behind_moves : (n k : ℕ) → n < k → behind n k ≡ k + 1
behind_moves n k l = let s : nat_lt n k ≡ true = grind (arith, nat_tests, l) in ap (λ b. cond b (k + 1) k) s

map_append : {A B : Type 0} (f : A → B) (xs ys : List A) → map f (xs ++ ys) ≡ map f xs ++ map f ys
map_append f [] ys = refl
map_append f (x ∷ xs) ys = ap (λ zs. f x ∷ zs) (map_append f xs ys)

one_line : (line : List ℕ) → is_line line ≡ true → raw_lines (ended line) ≡ line ∷ []
one_line line h = ap raw_lines (sym (append-nil (ended line))) ∙ written_lines (line ∷ []) (and_true _ _ h refl)

skipped : (n : ℕ) (line : List ℕ) (raw : List (List ℕ)) → is_skipped (without_cr line) ≡ true → lines_from n (line ∷ raw) ≡ lines_from (n + 1) raw
skipped n line raw h = ap (λ b. cond b (lines_from (n + 1) raw) (record { number = n; text = without_cr line } ∷ lines_from (n + 1) raw)) h

-- a line that is skipped, put in after the first lines, changes the numbers of the others
line_put_in : (front line rest : List ℕ) → is_line line ≡ true → is_skipped (without_cr line) ≡ true
    → lines_of (ended front ++ (ended line ++ rest)) ≡ map (renumbered_line (behind (length (raw_lines (ended front))))) (lines_of (ended front ++ rest))
line_put_in front line rest i k =
    let n = length (raw_lines (ended front)) in
    let raw : raw_lines (ended line ++ rest) ≡ line ∷ raw_lines rest = append line rest ∙ ap (λ lines. lines ++ raw_lines rest) (one_line line i) in
    let with_line : lines_of (ended front ++ (ended line ++ rest)) ≡ lines_of (ended front) ++ lines_from (1 + n + 1) (raw_lines rest) =
    saying_append front (ended line ++ rest) ∙ ap (λ lines. lines_of (ended front) ++ lines_from (1 + n) lines) raw
    ∙ ap (λ lines. lines_of (ended front) ++ lines) (skipped (1 + n) line (raw_lines rest) k) in
    let shifted : map (renumbered_line (behind n)) (lines_of (ended front ++ rest)) ≡ lines_of (ended front) ++ lines_from (1 + n + 1) (raw_lines rest) =
    ap (map (renumbered_line (behind n))) (saying_append front rest)
    ∙ map_append (renumbered_line (behind n)) (lines_of (ended front)) (lines_from (1 + n) (raw_lines rest))
    ∙ ap (λ lines. lines ++ map (renumbered_line (behind n)) (lines_from (1 + n) (raw_lines rest)))
    (front_stays (behind n) (λ k. nat_le 1 k && nat_le k n) (lines_of (ended front)) (behind_stays n) (within (ended front)))
    ∙ ap (λ lines. lines_of (ended front) ++ lines) (rest_moves (behind n) n (1 + n) (raw_lines rest) (behind_moves n) (omega arith)) in
    with_line ∙ sym shifted

pub skipped_lines : {D K : Type 0} → SkippedLinesCountAlone D K
skipped_lines grammar moved front line rest h i k s =
    let n = length (raw_lines (ended front)) in
    let some : is_some_line (lines_of (ended front ++ rest)) ≡ true =
    ap is_some_line (saying_append front rest) ∙ some_more (lines_of (ended front)) (lines_from (1 + n) (raw_lines rest)) s in
    ap (read_by grammar) (line_put_in front line rest i k) ∙ sym (by_moves (behind n) moved grammar h (lines_of (ended front ++ rest)) some)
  where
    some_more : (xs ys : List NumberedLine) → is_some_line xs ≡ true → is_some_line (xs ++ ys) ≡ true
    some_more [] ys h = absurd (false≢true h)
    some_more (x ∷ xs) ys h = refl
