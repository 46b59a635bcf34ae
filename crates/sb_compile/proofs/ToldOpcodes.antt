-- The line of an opcode tells the opcode.
use Rattle.std.specs.Fmt.{decimal}
use Rattle.std.specs.List.{flat_map, list_all}
use Rattle.std.specs.Prelude.{codes}
use Rattle.std.proofs.Common.{◌≡◌, ◌∙◌, ℕ, ◌<◌, true, cond, eqb, ltb, ◌&&◌, ◌||◌, List, [], ◌∷◌, ◌++◌, drop, get_or, append_assoc, refl, ap, sym}
use Rattle.std.proofs.lemmas.Bool.{and_parts, eqb-true, ltb-true}
use Rattle.sb_base.specs.Numbers.{hexadecimal, is_word64}
use Rattle.sb_base.specs.Quoting.{quoted, quoted_unit, QuotesDiffer}
use Rattle.sb_rule.specs.PatternReading.{text_of}
use Rattle.sb_rule.specs.declared.cells.Cell.{Cell}
use Rattle.sb_rule.specs.Actions.{action_word}
use Rattle.sb_rule.specs.declared.actions.Action.{Action}
use Rattle.sb_rule.specs.declared.actions.Action.TheVariants.{Allow, Deny, Alarm, Fake, ReadOnly}
use Rattle.sb_opcode.specs.Packing.{skip_number}
use Rattle.sb_opcode.specs.Opcodes.{Opcode}
use Rattle.sb_opcode.specs.Opcodes.{OpKind}
use Rattle.sb_opcode.specs.Opcodes.{False, True, Num, Range, Mask, Text, Act}
use Rattle.sb_opcode.specs.declared.opcodes.Seek.{Seek}
use Rattle.sb_opcode.specs.declared.opcodes.Seek.TheVariants.{Skip, Forward, ToEnd}
use Rattle.sb_compile.specs.Listing.{seek_text, number_text, kind_text, options_text, opcode_line}
use Rattle.sb_compile.specs.ListingLaws.{is_fragment, is_listable_kind, has_param, is_listable}
use Rattle.sb_compile.proofs.Splits.{apart, cancel, is_letter, is_ended, is_no_quote, split_word, split_quote, split_decimal, split_hexadecimal}
use Rattle.sb_compile.proofs.ToldCells.{fragments_are_units, same_cells}
use Rattle.sb_compile.proofs.ToldOptions.{options_end, options_end_is, options_ended, options_have_no_quote, same_options}

-- a number in hexadecimal at the beginning
split_number : (m n : ℕ) (r s : List ℕ) → is_word64 m ≡ true → is_word64 n ≡ true → is_ended r ≡ true → is_ended s ≡ true
    → number_text m ++ r ≡ number_text n ++ s → (m ≡ n) × (r ≡ s)
split_number m n r s hm hn hr hs e = split_hexadecimal m n r s hm hn hr hs (cancel (codes " 0x") (hexadecimal m ++ r) (hexadecimal n ++ s) e)

-- a word and a decimal number at the beginning
split_counted : (word : List ℕ) (m n : ℕ) (r s : List ℕ) → is_word64 m ≡ true → is_word64 n ≡ true → is_ended r ≡ true → is_ended s ≡ true
    → (word ++ decimal m) ++ r ≡ (word ++ decimal n) ++ s → (m ≡ n) × (r ≡ s)
split_counted word m n r s hm hn hr hs e =
    split_decimal m n r s hm hn hr hs
    (cancel word (decimal m ++ r) (decimal n ++ s) (sym (append_assoc word (decimal m) r) ∙ e ∙ append_assoc word (decimal n) s))

split_seek : (a b : Seek) (r s : List ℕ) → is_word64 (skip_number a) ≡ true → is_word64 (skip_number b) ≡ true → is_ended r ≡ true → is_ended s ≡ true
    → seek_text a ++ r ≡ seek_text b ++ s → (a ≡ b) × (r ≡ s)
split_seek (Skip m) (Skip n) r s ha hb hr hs e = let p = split_counted (codes "skip ") m n r s ha hb hr hs e in (ap Skip p.0, p.1)
split_seek (Skip m) Forward r s ha hb hr hs e = apart (λ t. eqb (get_or t 0 0) 115) (seek_text (Skip m) ++ r) (seek_text Forward ++ s) e refl refl
split_seek (Skip m) ToEnd r s ha hb hr hs e = apart (λ t. eqb (get_or t 0 0) 115) (seek_text (Skip m) ++ r) (seek_text ToEnd ++ s) e refl refl
split_seek Forward (Skip n) r s ha hb hr hs e = apart (λ t. eqb (get_or t 0 0) 102) (seek_text Forward ++ r) (seek_text (Skip n) ++ s) e refl refl
split_seek Forward Forward r s ha hb hr hs e = (refl, cancel (codes "forward") r s e)
split_seek Forward ToEnd r s ha hb hr hs e = apart (λ t. eqb (get_or t 0 0) 102) (seek_text Forward ++ r) (seek_text ToEnd ++ s) e refl refl
split_seek ToEnd (Skip n) r s ha hb hr hs e = apart (λ t. eqb (get_or t 0 0) 101) (seek_text ToEnd ++ r) (seek_text (Skip n) ++ s) e refl refl
split_seek ToEnd Forward r s ha hb hr hs e = apart (λ t. eqb (get_or t 0 0) 101) (seek_text ToEnd ++ r) (seek_text Forward ++ s) e refl refl
split_seek ToEnd ToEnd r s ha hb hr hs e = (refl, cancel (codes "end") r s e)

split_cells : QuotesDiffer → (a b : List Cell) (r s : List ℕ) → is_fragment a ≡ true → is_fragment b ≡ true → list_all is_no_quote r ≡ true → list_all is_no_quote s ≡ true
    → quoted (text_of a) ++ r ≡ quoted (text_of b) ++ s → (a ≡ b) × (r ≡ s)
split_cells quotes a b r s ha hb hr hs e =
    let front = flat_map quoted_unit (text_of a) in
    let other = flat_map quoted_unit (text_of b) in
    let p = split_quote front other r s hr hs (sym (append_assoc front (34 ∷ []) r) ∙ ap (drop 1) e ∙ append_assoc other (34 ∷ []) s) in
    let texts = quotes (text_of a) (text_of b) (fragments_are_units a ha) (fragments_are_units b hb) (ap (λ l. 34 ∷ l ++ 34 ∷ []) p.0) in
    (same_cells a b ha hb texts, p.1)

-- the action of a word
abbrev action_back : List ℕ → Action
action_back w =
    cond (eqb (get_or w 0 0) 100) Deny
    (cond (eqb (get_or w 0 0) 102) Fake (cond (eqb (get_or w 0 0) 114) ReadOnly (cond (eqb (get_or w 2 0) 97) Alarm Allow)))

action_comes_back : (action : Action) → action_back (action_word action) ≡ action
action_comes_back Allow = refl
action_comes_back _ = refl

action_letters : (action : Action) → list_all is_letter (action_word action) ≡ true
action_letters Allow = refl
action_letters _ = refl

split_action : (a b : Action) (r s : List ℕ) → is_ended r ≡ true → is_ended s ≡ true → action_word a ++ r ≡ action_word b ++ s → (a ≡ b) × (r ≡ s)
split_action a b r s hr hs e =
    let p = split_word (action_word a) (action_word b) r s (action_letters a) (action_letters b) hr hs e in
    (sym (action_comes_back a) ∙ ap action_back p.0 ∙ action_comes_back b, p.1)

-- what is on both sides of an equation of texts of kinds
record Sides (k l : OpKind) (p q : ℕ) (r s : List ℕ) : Type 0 where
  left_kind : is_listable_kind k ≡ true
  right_kind : is_listable_kind l ≡ true
  left_zero : (has_param k || eqb p 0) ≡ true
  right_zero : (has_param l || eqb q 0) ≡ true
  left_param : is_word64 p ≡ true
  right_param : is_word64 q ≡ true
  left_ended : is_ended r ≡ true
  right_ended : is_ended s ≡ true
  left_quotes : list_all is_no_quote r ≡ true
  right_quotes : list_all is_no_quote s ≡ true

-- kind, parameter and what follows are the same
abbrev AreSame : OpKind → OpKind → ℕ → ℕ → List ℕ → List ℕ → Type 0
AreSame k l p q r s = (k ≡ l) × (p ≡ q) × (r ≡ s)

both_zero : (p q : ℕ) → eqb p 0 ≡ true → eqb q 0 ≡ true → p ≡ q
both_zero p q hp hq = eqb-true p 0 hp ∙ sym (eqb-true q 0 hq)

numbers_same : (m n p q : ℕ) (r s : List ℕ) → Sides (Num m) (Num n) p q r s → kind_text (Num m) p ++ r ≡ kind_text (Num n) q ++ s → AreSame (Num m) (Num n) p q r s
numbers_same m n p q r s h e =
    let param = split_counted (codes "num p") p q (number_text m ++ r) (number_text n ++ s) h.left_param h.right_param refl refl
    (sym (append_assoc (codes "num p" ++ decimal p) (number_text m) r) ∙ e ∙ append_assoc (codes "num p" ++ decimal q) (number_text n) s) in
    let number = split_number m n r s h.left_kind h.right_kind h.left_ended h.right_ended param.1 in
    (ap Num number.0, param.0, number.1)

masks_same : (m n p q : ℕ) (r s : List ℕ) → Sides (Mask m) (Mask n) p q r s → kind_text (Mask m) p ++ r ≡ kind_text (Mask n) q ++ s → AreSame (Mask m) (Mask n) p q r s
masks_same m n p q r s h e =
    let param = split_counted (codes "mask p") p q (number_text m ++ r) (number_text n ++ s) h.left_param h.right_param refl refl
    (sym (append_assoc (codes "mask p" ++ decimal p) (number_text m) r) ∙ e ∙ append_assoc (codes "mask p" ++ decimal q) (number_text n) s) in
    let number = split_number m n r s h.left_kind h.right_kind h.left_ended h.right_ended param.1 in
    (ap Mask number.0, param.0, number.1)

-- three parts, and what follows
three : (a b c r : List ℕ) → (a ++ b ++ c) ++ r ≡ a ++ (b ++ (c ++ r))
three a b c r = append_assoc (a ++ b) c r ∙ append_assoc a b (c ++ r)

ranges_same : (lo hi from to p q : ℕ) (r s : List ℕ) → Sides (Range lo hi) (Range from to) p q r s → kind_text (Range lo hi) p ++ r ≡ kind_text (Range from to) q ++ s
    → AreSame (Range lo hi) (Range from to) p q r s
ranges_same lo hi from to p q r s h e =
    let left = and_parts (is_word64 lo) (is_word64 hi) h.left_kind in
    let right = and_parts (is_word64 from) (is_word64 to) h.right_kind in
    let param = split_counted (codes "range p") p q (number_text lo ++ (number_text hi ++ r)) (number_text from ++ (number_text to ++ s)) h.left_param h.right_param refl refl
    (sym (three (codes "range p" ++ decimal p) (number_text lo) (number_text hi) r) ∙ e ∙ three (codes "range p" ++ decimal q) (number_text from) (number_text to) s) in
    let low = split_number lo from (number_text hi ++ r) (number_text to ++ s) left.0 right.0 refl refl param.1 in
    let high = split_number hi to r s left.1 right.1 h.left_ended h.right_ended low.1 in
    ((λ i. Range (low.0 i) (high.0 i)), param.0, high.1)

five : (a b c d e r : List ℕ) → (a ++ b ++ c ++ d ++ e) ++ r ≡ a ++ (b ++ (c ++ (d ++ (e ++ r))))
five a b c d e r = three (a ++ b ++ c) d e r ∙ three a b c (d ++ (e ++ r))

texts_same : QuotesDiffer → (a b : List Cell) (seek to : Seek) (p q : ℕ) (r s : List ℕ) → Sides (Text a seek) (Text b to) p q r s
    → kind_text (Text a seek) p ++ r ≡ kind_text (Text b to) q ++ s → AreSame (Text a seek) (Text b to) p q r s
texts_same quotes a b seek to p q r s h e =
    let left = and_parts (is_fragment a) (is_word64 (skip_number seek)) h.left_kind in
    let right = and_parts (is_fragment b) (is_word64 (skip_number to)) h.right_kind in
    let cells = codes " " ++ (quoted (text_of a) ++ r) in
    let others = codes " " ++ (quoted (text_of b) ++ s) in
    let param = split_counted (codes "text p") p q (codes " " ++ (seek_text seek ++ cells)) (codes " " ++ (seek_text to ++ others)) h.left_param h.right_param refl refl
    (sym (five (codes "text p" ++ decimal p) (codes " ") (seek_text seek) (codes " ") (quoted (text_of a)) r) ∙ e
    ∙ five (codes "text p" ++ decimal q) (codes " ") (seek_text to) (codes " ") (quoted (text_of b)) s) in
    let place = split_seek seek to cells others left.1 right.1 refl refl (ap (drop 1) param.1) in
    let last = split_cells quotes a b r s left.0 right.0 h.left_quotes h.right_quotes (ap (drop 1) place.1) in
    ((λ i. Text (last.0 i) (place.0 i)), param.0, last.1)

actions_same : (a b : Action) (line to p q : ℕ) (r s : List ℕ) → Sides (Act a line) (Act b to) p q r s → kind_text (Act a line) p ++ r ≡ kind_text (Act b to) q ++ s
    → AreSame (Act a line) (Act b to) p q r s
actions_same a b line to p q r s h e =
    let lines = codes " line " ++ (decimal line ++ r) in
    let others = codes " line " ++ (decimal to ++ s) in
    let word = split_action a b lines others refl refl
    (cancel (codes "action ") (action_word a ++ lines) (action_word b ++ others)
    (sym (parts a line r) ∙ e ∙ parts b to s)) in
    let number = split_decimal line to r s h.left_kind h.right_kind h.left_ended h.right_ended (cancel (codes " line ") (decimal line ++ r) (decimal to ++ s) word.1) in
    ((λ i. Act (word.0 i) (number.0 i)), both_zero p q h.left_zero h.right_zero, number.1)
  where
    parts : (action : Action) (n : ℕ) (rest : List ℕ)
        → (codes "action " ++ action_word action ++ codes " line " ++ decimal n) ++ rest ≡ codes "action " ++ (action_word action ++ (codes " line " ++ (decimal n ++ rest)))
    parts action n rest =
        three (codes "action " ++ action_word action) (codes " line ") (decimal n) rest ∙ append_assoc (codes "action ") (action_word action) (codes " line " ++ (decimal n ++ rest))

-- the first two bytes tell the kind
kinds_same : QuotesDiffer → (k l : OpKind) (p q : ℕ) (r s : List ℕ) → Sides k l p q r s → kind_text k p ++ r ≡ kind_text l q ++ s → AreSame k l p q r s
kinds_same quotes False False p q r s h e = (refl, both_zero p q h.left_zero h.right_zero, cancel (codes "false") r s e)
kinds_same quotes True True p q r s h e = (refl, both_zero p q h.left_zero h.right_zero, cancel (codes "true") r s e)
kinds_same quotes (Num m) (Num n) p q r s h e = numbers_same m n p q r s h e
kinds_same quotes (Range lo hi) (Range from to) p q r s h e = ranges_same lo hi from to p q r s h e
kinds_same quotes (Mask m) (Mask n) p q r s h e = masks_same m n p q r s h e
kinds_same quotes (Text a seek) (Text b to) p q r s h e = texts_same quotes a b seek to p q r s h e
kinds_same quotes (Act a line) (Act b to) p q r s h e = actions_same a b line to p q r s h e
kinds_same quotes False True p q r s h e = apart (λ t. eqb (get_or t 0 0) 102) (kind_text False p ++ r) (kind_text True q ++ s) e refl refl
kinds_same quotes False (Num k) p q r s h e = apart (λ t. eqb (get_or t 0 0) 102) (kind_text False p ++ r) (kind_text (Num k) q ++ s) e refl refl
kinds_same quotes False (Range from to) p q r s h e = apart (λ t. eqb (get_or t 0 0) 102) (kind_text False p ++ r) (kind_text (Range from to) q ++ s) e refl refl
kinds_same quotes False (Mask k) p q r s h e = apart (λ t. eqb (get_or t 0 0) 102) (kind_text False p ++ r) (kind_text (Mask k) q ++ s) e refl refl
kinds_same quotes False (Text others where_to) p q r s h e = apart (λ t. eqb (get_or t 0 0) 102) (kind_text False p ++ r) (kind_text (Text others where_to) q ++ s) e refl refl
kinds_same quotes False (Act other at) p q r s h e = apart (λ t. eqb (get_or t 0 0) 102) (kind_text False p ++ r) (kind_text (Act other at) q ++ s) e refl refl
kinds_same quotes True False p q r s h e = apart (λ t. eqb (get_or t 0 0) 116) (kind_text True p ++ r) (kind_text False q ++ s) e refl refl
kinds_same quotes True (Num k) p q r s h e = apart (λ t. eqb (get_or t 0 0) 116) (kind_text True p ++ r) (kind_text (Num k) q ++ s) e refl refl
kinds_same quotes True (Range from to) p q r s h e = apart (λ t. eqb (get_or t 0 0) 116) (kind_text True p ++ r) (kind_text (Range from to) q ++ s) e refl refl
kinds_same quotes True (Mask k) p q r s h e = apart (λ t. eqb (get_or t 0 0) 116) (kind_text True p ++ r) (kind_text (Mask k) q ++ s) e refl refl
kinds_same quotes True (Text others where_to) p q r s h e = apart (λ t. eqb (get_or t 1 0) 114) (kind_text True p ++ r) (kind_text (Text others where_to) q ++ s) e refl refl
kinds_same quotes True (Act other at) p q r s h e = apart (λ t. eqb (get_or t 0 0) 116) (kind_text True p ++ r) (kind_text (Act other at) q ++ s) e refl refl
kinds_same quotes (Num n) False p q r s h e = apart (λ t. eqb (get_or t 0 0) 110) (kind_text (Num n) p ++ r) (kind_text False q ++ s) e refl refl
kinds_same quotes (Num n) True p q r s h e = apart (λ t. eqb (get_or t 0 0) 110) (kind_text (Num n) p ++ r) (kind_text True q ++ s) e refl refl
kinds_same quotes (Num n) (Range from to) p q r s h e = apart (λ t. eqb (get_or t 0 0) 110) (kind_text (Num n) p ++ r) (kind_text (Range from to) q ++ s) e refl refl
kinds_same quotes (Num n) (Mask k) p q r s h e = apart (λ t. eqb (get_or t 0 0) 110) (kind_text (Num n) p ++ r) (kind_text (Mask k) q ++ s) e refl refl
kinds_same quotes (Num n) (Text others where_to) p q r s h e = apart (λ t. eqb (get_or t 0 0) 110) (kind_text (Num n) p ++ r) (kind_text (Text others where_to) q ++ s) e refl refl
kinds_same quotes (Num n) (Act other at) p q r s h e = apart (λ t. eqb (get_or t 0 0) 110) (kind_text (Num n) p ++ r) (kind_text (Act other at) q ++ s) e refl refl
kinds_same quotes (Range lo hi) False p q r s h e = apart (λ t. eqb (get_or t 0 0) 114) (kind_text (Range lo hi) p ++ r) (kind_text False q ++ s) e refl refl
kinds_same quotes (Range lo hi) True p q r s h e = apart (λ t. eqb (get_or t 0 0) 114) (kind_text (Range lo hi) p ++ r) (kind_text True q ++ s) e refl refl
kinds_same quotes (Range lo hi) (Num k) p q r s h e = apart (λ t. eqb (get_or t 0 0) 114) (kind_text (Range lo hi) p ++ r) (kind_text (Num k) q ++ s) e refl refl
kinds_same quotes (Range lo hi) (Mask k) p q r s h e = apart (λ t. eqb (get_or t 0 0) 114) (kind_text (Range lo hi) p ++ r) (kind_text (Mask k) q ++ s) e refl refl
kinds_same quotes (Range lo hi) (Text others where_to) p q r s h e = apart (λ t. eqb (get_or t 0 0) 114) (kind_text (Range lo hi) p ++ r) (kind_text (Text others where_to) q ++ s) e refl refl
kinds_same quotes (Range lo hi) (Act other at) p q r s h e = apart (λ t. eqb (get_or t 0 0) 114) (kind_text (Range lo hi) p ++ r) (kind_text (Act other at) q ++ s) e refl refl
kinds_same quotes (Mask m) False p q r s h e = apart (λ t. eqb (get_or t 0 0) 109) (kind_text (Mask m) p ++ r) (kind_text False q ++ s) e refl refl
kinds_same quotes (Mask m) True p q r s h e = apart (λ t. eqb (get_or t 0 0) 109) (kind_text (Mask m) p ++ r) (kind_text True q ++ s) e refl refl
kinds_same quotes (Mask m) (Num k) p q r s h e = apart (λ t. eqb (get_or t 0 0) 109) (kind_text (Mask m) p ++ r) (kind_text (Num k) q ++ s) e refl refl
kinds_same quotes (Mask m) (Range from to) p q r s h e = apart (λ t. eqb (get_or t 0 0) 109) (kind_text (Mask m) p ++ r) (kind_text (Range from to) q ++ s) e refl refl
kinds_same quotes (Mask m) (Text others where_to) p q r s h e = apart (λ t. eqb (get_or t 0 0) 109) (kind_text (Mask m) p ++ r) (kind_text (Text others where_to) q ++ s) e refl refl
kinds_same quotes (Mask m) (Act other at) p q r s h e = apart (λ t. eqb (get_or t 0 0) 109) (kind_text (Mask m) p ++ r) (kind_text (Act other at) q ++ s) e refl refl
kinds_same quotes (Text cells seek) False p q r s h e = apart (λ t. eqb (get_or t 0 0) 116) (kind_text (Text cells seek) p ++ r) (kind_text False q ++ s) e refl refl
kinds_same quotes (Text cells seek) True p q r s h e = apart (λ t. eqb (get_or t 1 0) 101) (kind_text (Text cells seek) p ++ r) (kind_text True q ++ s) e refl refl
kinds_same quotes (Text cells seek) (Num k) p q r s h e = apart (λ t. eqb (get_or t 0 0) 116) (kind_text (Text cells seek) p ++ r) (kind_text (Num k) q ++ s) e refl refl
kinds_same quotes (Text cells seek) (Range from to) p q r s h e = apart (λ t. eqb (get_or t 0 0) 116) (kind_text (Text cells seek) p ++ r) (kind_text (Range from to) q ++ s) e refl refl
kinds_same quotes (Text cells seek) (Mask k) p q r s h e = apart (λ t. eqb (get_or t 0 0) 116) (kind_text (Text cells seek) p ++ r) (kind_text (Mask k) q ++ s) e refl refl
kinds_same quotes (Text cells seek) (Act other at) p q r s h e = apart (λ t. eqb (get_or t 0 0) 116) (kind_text (Text cells seek) p ++ r) (kind_text (Act other at) q ++ s) e refl refl
kinds_same quotes (Act action line) False p q r s h e = apart (λ t. eqb (get_or t 0 0) 97) (kind_text (Act action line) p ++ r) (kind_text False q ++ s) e refl refl
kinds_same quotes (Act action line) True p q r s h e = apart (λ t. eqb (get_or t 0 0) 97) (kind_text (Act action line) p ++ r) (kind_text True q ++ s) e refl refl
kinds_same quotes (Act action line) (Num k) p q r s h e = apart (λ t. eqb (get_or t 0 0) 97) (kind_text (Act action line) p ++ r) (kind_text (Num k) q ++ s) e refl refl
kinds_same quotes (Act action line) (Range from to) p q r s h e = apart (λ t. eqb (get_or t 0 0) 97) (kind_text (Act action line) p ++ r) (kind_text (Range from to) q ++ s) e refl refl
kinds_same quotes (Act action line) (Mask k) p q r s h e = apart (λ t. eqb (get_or t 0 0) 97) (kind_text (Act action line) p ++ r) (kind_text (Mask k) q ++ s) e refl refl
kinds_same quotes (Act action line) (Text others where_to) p q r s h e = apart (λ t. eqb (get_or t 0 0) 97) (kind_text (Act action line) p ++ r) (kind_text (Text others where_to) q ++ s) e refl refl

parts : (d k o : List ℕ) → (d ++ codes " " ++ k ++ o) ++ 10 ∷ [] ≡ (d ++ codes " ") ++ (k ++ (o ++ 10 ∷ []))
parts d k o = three (d ++ codes " ") k o (10 ∷ [])

-- the line of an opcode, without its place
pub line_parts : (at : ℕ) (op : Opcode) → opcode_line at op ≡ (decimal at ++ codes " ") ++ (kind_text op.kind op.param ++ options_end op.options)
line_parts at op =
    parts (decimal at) (kind_text op.kind op.param) (options_text op.options)
    ∙ ap (λ l. (decimal at ++ codes " ") ++ (kind_text op.kind op.param ++ l)) (options_end_is op.options)

-- opcodes whose lines at one place are equal are the same
pub same_opcode : QuotesDiffer → (at : ℕ) (a b : Opcode) → is_listable a ≡ true → is_listable b ≡ true → opcode_line at a ≡ opcode_line at b → a ≡ b
same_opcode quotes at a b ha hb e =
    let texts = cancel (decimal at ++ codes " ") (kind_text a.kind a.param ++ options_end a.options) (kind_text b.kind b.param ++ options_end b.options)
    (sym (line_parts at a) ∙ e ∙ line_parts at b) in
    let p = facts a ha in
    let q = facts b hb in
    let same = kinds_same quotes a.kind b.kind a.param b.param (options_end a.options) (options_end b.options)
    (record {
      left_kind = p.0;
      right_kind = q.0;
      left_zero = p.1;
      right_zero = q.1;
      left_param = p.2;
      right_param = q.2;
      left_ended = options_ended a.options;
      right_ended = options_ended b.options;
      left_quotes = options_have_no_quote a.options;
      right_quotes = options_have_no_quote b.options;
    }) texts in
    let options = same_options a.options b.options p.3 q.3 same.2 in
    λ i. record { kind = same.0 i; param = same.1 i; options = options i }
  where
    facts : (op : Opcode) → is_listable op ≡ true
        → (is_listable_kind op.kind ≡ true) × ((has_param op.kind || eqb op.param 0) ≡ true) × (is_word64 op.param ≡ true) × (op.options.0 < 32)
    facts op h =
        let one = and_parts (is_listable_kind op.kind && (has_param op.kind || eqb op.param 0) && is_word64 op.param) (ltb op.options.0 32) h in
        let two = and_parts (is_listable_kind op.kind && (has_param op.kind || eqb op.param 0)) (is_word64 op.param) one.0 in
        let three_parts = and_parts (is_listable_kind op.kind) (has_param op.kind || eqb op.param 0) two.0 in
        (three_parts.0, three_parts.1, two.1, ltb-true op.options.0 32 one.1)
