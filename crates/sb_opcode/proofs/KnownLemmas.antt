-- What is at the front of packed words is known without a test.
use Rattle.std.specs.Prelude.{Option, None, Some, option_map, nat_le, nat_lt, not}
use Rattle.std.specs.List.{list_all}
use Rattle.std.proofs.Common.{◌≡◌, ◌∙◌, ◌≤◌, ◌<◌, ◌+◌, ◌*◌, ◌%◌, ◌^◌, ℕ, Bool, true, false, cond, List, [], ◌∷◌, ◌++◌, ◌&&◌, eqb, length, take, drop, map, refl, ap, sym, subst, arith}
use Rattle.std.proofs.Math.Nat.{mod-eq_of_lt}
use Rattle.std.proofs.lemmas.Bool.{and_parts, false≢true, eqb-true, leb-true, ltb-true}
use Rattle.std.proofs.lemmas.Bool.Decides.{nat_tests}
use Rattle.std.proofs.lemmas.List.{length-map, take_at, drop_at}
use Rattle.sb_rule.specs.declared.cells.Cell.{Cell}
use Rattle.sb_rule.specs.Actions.{action_number}
use Rattle.sb_rule.specs.declared.actions.Action.{Action}
use Rattle.sb_rule.specs.declared.actions.Action.TheVariants.{Allow}
use Rattle.sb_opcode.specs.Groups.{is_act, is_act_kind}
use Rattle.sb_opcode.specs.Options.{options_of}
use Rattle.sb_opcode.specs.Packing.{cell_word, record_of, is_sized, is_sized_kind, is_sized_cell, seek_number, skip_number}
use Rattle.sb_opcode.specs.Records.{IsPassed}
use Rattle.sb_opcode.specs.Unpacking.{kind_part, options_part, seek_part, skip_part, cell_of, is_cell_word, plain_record, text_record, first_record, seek_in, opcode_in, is_packed, opcodes_of, seek_known, action_known, kind_known, does_known, after_known, first_known, passed_known}
use Rattle.sb_opcode.specs.Opcodes.{Opcode}
use Rattle.sb_opcode.specs.Opcodes.{OpKind}
use Rattle.sb_opcode.specs.Opcodes.{False, True, Num, Range, Mask, Text, Act}
use Rattle.sb_opcode.specs.declared.opcodes.Seek.{Seek}
use Rattle.sb_opcode.specs.declared.opcodes.Seek.TheVariants.{Skip, Forward, ToEnd}
use Rattle.sb_opcode.proofs.PackingLemmas.{later_packed, first_opcode, not_packed}
use Rattle.sb_opcode.proofs.RecordLemmas.{none_is_not_some, unmapped, record_split, cells_back, head_kind, head_options, head_seek, head_skip, few_seeks}

action_back : (a : Action) → action_known (action_number a) ≡ a
action_back Allow = refl
action_back _ = refl

small : (n m : ℕ) → nat_lt n m ≡ true → n % m ≡ n
small n m h = mod-eq_of_lt (ltb-true n m h)

-- an opcode without cells
plain_back : (k o p a b : ℕ) (later : List ℕ) (kind : OpKind) → k < 256 → eqb k 5 ≡ false → nat_lt o (2 ^ 8) ≡ true → nat_lt p (2 ^ 32) ≡ true
    → kind_known k a b ≡ kind → first_known ((k + o * 2 ^ 8 + 0) ∷ p ∷ a ∷ b ∷ later) ≡ Some (record { kind = kind; param = p; options = options_of o }, later)
plain_back k o p a b later kind hk h5 ho hp e =
    let less : o < 256 = ltb-true o (2 ^ 8) ho in
    let k_is : kind_part (k + o * 2 ^ 8 + 0) ≡ k = head_kind k o 0 0 hk less (omega arith) in
    let o_is : options_part (k + o * 2 ^ 8 + 0) ≡ o = head_options k o 0 0 hk less (omega arith) in
    rw (k_is, h5, o_is, small p (2 ^ 32) hp, e) refl

act_back : (a : Action) (line : ℕ) → nat_lt line (2 ^ 32) ≡ true → kind_known 6 (action_number a) line ≡ Act a line
act_back a line h = λ i. Act (action_back a i) (small line (2 ^ 32) h i)

seek_back : (seek : Seek) (h : ℕ) → nat_lt (skip_number seek) 65536 ≡ true → seek_part h ≡ seek_number seek → skip_part h ≡ skip_number seek
    → seek_known h ≡ seek
seek_back (Skip n) h fits s t = (λ i. cond (eqb (s i) 0) (Skip (t i % 2 ^ 16)) (cond (eqb (s i) 1) Forward ToEnd)) ∙ ap Skip (small n (2 ^ 16) fits)
seek_back Forward h fits s t = λ i. cond (eqb (s i) 0) (Skip (skip_part h % 2 ^ 16)) (cond (eqb (s i) 1) Forward ToEnd)
seek_back ToEnd h fits s t = λ i. cond (eqb (s i) 0) (Skip (skip_part h % 2 ^ 16)) (cond (eqb (s i) 1) Forward ToEnd)

-- a text opcode
text_back : (o p : ℕ) (cells : List Cell) (seek : Seek) (later : List ℕ) → nat_lt o (2 ^ 8) ≡ true → nat_lt p (2 ^ 32) ≡ true
    → list_all is_sized_cell cells ≡ true → nat_lt (skip_number seek) 65536 ≡ true
    → first_known ((5 + o * 2 ^ 8 + (seek_number seek * 2 ^ 16 + skip_number seek * 2 ^ 32)) ∷ p ∷ length cells ∷ 0 ∷ map cell_word cells ++ later)
    ≡ Some (record { kind = Text cells seek; param = p; options = options_of o }, later)
text_back o p cells seek later ho hp hc hs =
    let h : ℕ = 5 + o * 2 ^ 8 + (seek_number seek * 2 ^ 16 + skip_number seek * 2 ^ 32) in
    let less : o < 256 = ltb-true o (2 ^ 8) ho in
    let five : 5 < 256 = omega arith in
    let k_is : kind_part h ≡ 5 = head_kind 5 o (seek_number seek) (skip_number seek) five less (few_seeks seek) in
    let o_is : options_part h ≡ o = head_options 5 o (seek_number seek) (skip_number seek) five less (few_seeks seek) in
    let s_is : seek_known h ≡ seek =
    seek_back seek h hs (head_seek 5 o (seek_number seek) (skip_number seek) five less (few_seeks seek))
    (head_skip 5 o (seek_number seek) (skip_number seek) five less (few_seeks seek))
    in
    let len : length (map cell_word cells) ≡ length cells = length-map cells cell_word in
    let front : take (length cells) (map cell_word cells ++ later) ≡ map cell_word cells = take_at (map cell_word cells) later (length cells) len in
    let after : drop (length cells) (map cell_word cells ++ later) ≡ later = drop_at (map cell_word cells) later (length cells) len in
    rw (k_is, front, after, cells_back cells hc, s_is, o_is, small p (2 ^ 32) hp) refl

kind_back : (kind : OpKind) (o p : ℕ) (later : List ℕ) → is_sized_kind kind ≡ true → nat_lt p (2 ^ 32) ≡ true → nat_lt o (2 ^ 8) ≡ true
    → first_known (record_of (record { kind = kind; param = p; options = options_of o }) ++ later)
    ≡ Some (record { kind = kind; param = p; options = options_of o }, later)
kind_back False o p later hk hp ho = plain_back 0 o p 0 0 later False (omega arith) refl ho hp refl
kind_back True o p later hk hp ho = plain_back 1 o p 0 0 later True (omega arith) refl ho hp refl
kind_back (Num n) o p later hk hp ho = plain_back 2 o p n 0 later (Num n) (omega arith) refl ho hp refl
kind_back (Range lo hi) o p later hk hp ho = plain_back 3 o p lo hi later (Range lo hi) (omega arith) refl ho hp refl
kind_back (Mask m) o p later hk hp ho = plain_back 4 o p m 0 later (Mask m) (omega arith) refl ho hp refl
kind_back (Text cells seek) o p later hk hp ho =
    let q = and_parts (list_all is_sized_cell cells) (nat_lt (skip_number seek) 65536) hk in
    text_back o p cells seek later ho hp q.0 q.1
kind_back (Act action line) o p later hk hp ho =
    plain_back 6 o p (action_number action) line later (Act action line) (omega arith) refl ho hp (act_back action line hk)

-- an opcode is known from its record, whatever follows
known_back : (op : Opcode) (later : List ℕ) → is_sized op ≡ true → first_known (record_of op ++ later) ≡ Some (op, later)
known_back op later h =
    let p = and_parts (is_sized_kind op.kind && nat_lt op.param (2 ^ 32)) (nat_lt op.options.0 (2 ^ 8)) h in
    let q = and_parts (is_sized_kind op.kind) (nat_lt op.param (2 ^ 32)) p.0 in
    kind_back op.kind op.options.0 op.param later q.0 q.1 p.1

-- packed words begin with a record
abbrev Begins : List ℕ → Type 0
Begins words = (r : Opcode × List ℕ) × (first_record words ≡ Some r)

begins : (word : ℕ) (words : List ℕ) → is_packed (word ∷ words) ≡ true → Begins (word ∷ words)
begins word words h = by (first_record (word ∷ words)) refl
  where
    by : (o : Option (Opcode × List ℕ)) → first_record (word ∷ words) ≡ o → Begins (word ∷ words)
    by None e = absurd (false≢true (sym (not_packed word words e) ∙ h))
    by (Some r) e = (r, e)

-- and what is known of them is that record
known_first : (words : List ℕ) (r : Opcode × List ℕ) → first_record words ≡ Some r → first_known words ≡ Some r
known_first words r e =
    let split = record_split words r e in
    ap first_known (sym split.0) ∙ known_back r.0 r.1 split.1

known_is : (words : List ℕ) (r : Opcode × List ℕ) → Some r ≡ first_known words → is_packed words ≡ true → Some r ≡ first_record words
known_is [] r e h = none_is_not_some r (sym e)
known_is (word ∷ words) r e h =
    let q = begins word words h in
    e ∙ known_first (word ∷ words) q.0 q.1 ∙ sym q.1

pub later_known : (words later : List ℕ) (op : Opcode) → Some (op, later) ≡ first_known words → is_packed words ≡ true → is_packed later ≡ true
later_known words later op e h = later_packed words later op (known_is words (op, later) e h) h

pub opcode_known_first : (words later : List ℕ) (op : Opcode) → Some (op, later) ≡ first_known words → is_packed words ≡ true
    → opcodes_of words ≡ op ∷ opcodes_of later
opcode_known_first words later op e h = first_opcode words later op (known_is words (op, later) e h) h

pub no_opcode : (words : List ℕ) → None ≡ first_known words → is_packed words ≡ true → opcodes_of words ≡ []
no_opcode [] e h = refl
no_opcode (word ∷ words) e h =
    let q = begins word words h in
    none_is_not_some q.0 (e ∙ known_first (word ∷ words) q.0 q.1)

-- the kinds above that of text opcodes are actions
act_known : (h a b : ℕ) (later : List ℕ) → nat_lt 5 (kind_part h) ≡ is_act_kind (does_known h a b later)
act_known h a b later =
    by (eqb (kind_part h) 5) (eqb (kind_part h) 0) (eqb (kind_part h) 1) (eqb (kind_part h) 2) (eqb (kind_part h) 3) (eqb (kind_part h) 4) refl refl refl refl refl refl
  where
    by : (five zero one two three four : Bool) → eqb (kind_part h) 5 ≡ five → eqb (kind_part h) 0 ≡ zero → eqb (kind_part h) 1 ≡ one
        → eqb (kind_part h) 2 ≡ two → eqb (kind_part h) 3 ≡ three → eqb (kind_part h) 4 ≡ four
        → nat_lt 5 (kind_part h)
        ≡ is_act_kind (cond five (Text (map cell_of (take a later)) (seek_known h)) (cond zero False (cond one True (cond two (Num a) (cond three (Range a b)
        (cond four (Mask a) (Act (action_known a) (b % 2 ^ 32))))))))
    by true zero one two three four e5 e0 e1 e2 e3 e4 = ap (nat_lt 5) (eqb-true (kind_part h) 5 e5)
    by false true one two three four e5 e0 e1 e2 e3 e4 = ap (nat_lt 5) (eqb-true (kind_part h) 0 e0)
    by false false true two three four e5 e0 e1 e2 e3 e4 = ap (nat_lt 5) (eqb-true (kind_part h) 1 e1)
    by false false false true three four e5 e0 e1 e2 e3 e4 = ap (nat_lt 5) (eqb-true (kind_part h) 2 e2)
    by false false false false true four e5 e0 e1 e2 e3 e4 = ap (nat_lt 5) (eqb-true (kind_part h) 3 e3)
    by false false false false false true e5 e0 e1 e2 e3 e4 = ap (nat_lt 5) (eqb-true (kind_part h) 4 e4)
    by false false false false false false e5 e0 e1 e2 e3 e4 = grind (arith, nat_tests)

-- the same if an opcode is passed over
abbrev with_act : Option (Opcode × List ℕ) → Option (Bool × List ℕ)
with_act first = option_map (λ r. (is_act r.0, r.1)) first

passed_is : (words : List ℕ) → passed_known words ≡ with_act (first_known words)
passed_is [] = refl
passed_is (h ∷ []) = refl
passed_is (h ∷ p ∷ []) = refl
passed_is (h ∷ p ∷ a ∷ []) = refl
passed_is (h ∷ p ∷ a ∷ b ∷ later) = ap (λ acts. Some (acts, after_known h a later)) (act_known h a b later)

passed : (words later : List ℕ) (acts : Bool) → Some (acts, later) ≡ passed_known words
    → (r : Opcode × List ℕ) × (first_known words ≡ Some r) × ◌≡◌ {A = Bool × List ℕ} (is_act r.0, r.1) (acts, later)
passed words later acts e = unmapped (λ r. (is_act r.0, r.1)) (first_known words) (acts, later) (sym (e ∙ passed_is words))

pub later_passed : (words later : List ℕ) (acts : Bool) → Some (acts, later) ≡ passed_known words
    → is_packed words ≡ true → is_packed later ≡ true
later_passed words later acts e h =
    let p = passed words later acts e in
    subst (λ w. is_packed w ≡ true) (ap (λ q. q.1) p.2) (later_known words p.0.1 p.0.0 (sym p.1) h)

pub opcode_passed : (words later : List ℕ) (acts : Bool) → Some (acts, later) ≡ passed_known words
    → is_packed words ≡ true → IsPassed acts (opcodes_of words) (opcodes_of later)
opcode_passed words later acts e h =
    let p = passed words later acts e in (
      p.0.0,
      opcode_known_first words p.0.1 p.0.0 (sym p.1) h ∙ ap (λ q. p.0.0 ∷ opcodes_of q.1) p.2,
      sym (ap (λ q. q.0) p.2),
    )

no_act : (o : Option (Opcode × List ℕ)) → None ≡ with_act o → o ≡ None
no_act None e = refl
no_act (Some r) e = none_is_not_some (is_act r.0, r.1) e

pub no_passed : (words : List ℕ) → None ≡ passed_known words → is_packed words ≡ true → opcodes_of words ≡ []
no_passed words e h = no_opcode words (sym (no_act (first_known words) (e ∙ passed_is words))) h

-- the cells of a text opcode are there
text_room : (h p a b : ℕ) (later : List ℕ) (r : Opcode × List ℕ) → text_record h p a b later ≡ Some r → a ≤ length later
text_room h p a b later r e = by (eqb b 0 && nat_le a (length later) && list_all is_cell_word (take a later)) refl e
  where
    by : (s : Bool) → (eqb b 0 && nat_le a (length later) && list_all is_cell_word (take a later)) ≡ s
        → cond s (option_map (λ seek. (opcode_in h p (Text (map cell_of (take a later)) seek), drop a later)) (seek_in h)) None ≡ Some r → a ≤ length later
    by false k e = none_is_not_some r e
    by true k e =
        let m = and_parts (eqb b 0 && nat_le a (length later)) (list_all is_cell_word (take a later)) k in
        let n = and_parts (eqb b 0) (nat_le a (length later)) m.0 in
        leb-true a (length later) n.1

room_in : (h p a b : ℕ) (later : List ℕ) (r : Opcode × List ℕ) → first_record (h ∷ p ∷ a ∷ b ∷ later) ≡ Some r → eqb (kind_part h) 5 ≡ true → a ≤ length later
room_in h p a b later r e k = by (nat_lt p (2 ^ 32)) (eqb (kind_part h) 5) k e
  where
    by : (s t : Bool) → t ≡ true → cond (not s) None (cond t (text_record h p a b later) (plain_record h p a b later)) ≡ Some r → a ≤ length later
    by false t k e = none_is_not_some r e
    by true true k e = text_room h p a b later r e
    by true false k e = absurd (false≢true k)

pub cells_there : (h p a b : ℕ) (later : List ℕ) → is_packed (h ∷ p ∷ a ∷ b ∷ later) ≡ true → eqb (kind_part h) 5 ≡ true → a ≤ length later
cells_there h p a b later packed k =
    let q = begins h (p ∷ a ∷ b ∷ later) packed in
    room_in h p a b later q.0 q.1 k
