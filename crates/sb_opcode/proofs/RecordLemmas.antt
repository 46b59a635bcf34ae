-- A record is known from its own words.
use Rattle.std.proofs.lemmas.Option.{same_Some}
use Rattle.std.specs.Prelude.{Option, None, Some, option_map, is_some}
use Rattle.std.proofs.Common.{◌≡◌, ◌∙◌, ◌≤◌, ◌<◌, ◌+◌, ◌*◌, ◌/◌, ◌^◌, ℕ, Bool, true, false, cond, List, [], ◌∷◌, ◌++◌, ◌&&◌, eqb, ltb, length, take, drop, map, refl, ap, sym, subst, arith}
use Rattle.std.specs.Prelude.{nat_le, nat_lt, not}
use Rattle.std.specs.List.{list_all}
use Rattle.std.proofs.lemmas.Bool.{and_parts, eqb-true, false≢true, le-leb, leb-true, lt-ltb, ltb-true}
use Rattle.std.proofs.lemmas.Bool.Decides.{nat_tests}
use Rattle.std.proofs.lemmas.List.{length-append, length-map, length-take-le, take_at, drop_at, take-append-drop}
use Rattle.sb_rule.specs.declared.cells.Cell.{Cell}
use Rattle.sb_rule.specs.declared.cells.Cell.TheVariants.{Lit, One, Any}
use Rattle.sb_rule.specs.Actions.{action_number}
use Rattle.sb_rule.specs.declared.actions.Action.{Action}
use Rattle.sb_rule.specs.declared.actions.Action.TheVariants.{Allow, Deny, Alarm, Fake, ReadOnly}
use Rattle.sb_opcode.specs.Options.{options_of}
use Rattle.sb_opcode.specs.Packing.{cell_word, is_sized_cell, record_of, kind_number, kind_words, seek_bits, seek_number, skip_number, is_sized, is_sized_kind}
use Rattle.sb_opcode.specs.Unpacking.{cell_of, is_cell_word, action_of, plain_kind, plain_record, text_record, first_record, seek_in, seek_part, skip_part, kind_part, options_part, opcode_in, RecordsComeBack}
use Rattle.sb_opcode.specs.Opcodes.{Opcode}
use Rattle.sb_opcode.specs.Opcodes.{OpKind}
use Rattle.sb_opcode.specs.Opcodes.{False, True, Num, Range, Mask, Text, Act}
use Rattle.sb_opcode.specs.declared.opcodes.Seek.{Seek}
use Rattle.sb_opcode.specs.declared.opcodes.Seek.TheVariants.{Skip, Forward, ToEnd}

pub none_is_not_some : {A : Type 0} {P : Type 0} (x : A) → None ≡ Some x → P
none_is_not_some x e = absurd (false≢true (ap is_some e))

-- what an option was before it was mapped
pub unmapped : {A B : Type 0} (f : A → B) (o : Option A) (y : B) → option_map f o ≡ Some y → (x : A) × (o ≡ Some x) × (f x ≡ y)
unmapped f None y e = none_is_not_some y e
unmapped f (Some x) y e = (x, refl, same_Some (f x) y e)

-- cells and their words
cell_back : (c : Cell) → is_sized_cell c ≡ true → cell_of (cell_word c) ≡ c
cell_back (Lit u) h = rw h refl
cell_back One h = refl
cell_back Any h = refl

cell_fits : (c : Cell) → is_sized_cell c ≡ true → is_cell_word (cell_word c) ≡ true
cell_fits (Lit u) h = let less : u < 65536 = ltb-true u 65536 h in le-leb u 65537 (omega (arith, less))
cell_fits One h = refl
cell_fits Any h = refl

word_back : (w : ℕ) → is_cell_word w ≡ true → cell_word (cell_of w) ≡ w
word_back w h = by (ltb w 65536) (eqb w 65536) refl refl
  where
    by : (s t : Bool) → ltb w 65536 ≡ s → eqb w 65536 ≡ t → cell_word (cond s (Lit w) (cond t One Any)) ≡ w
    by true t e k = refl
    by false true e k = sym (eqb-true w 65536 k)
    by false false e k = grind (arith, nat_tests)

word_fits : (w : ℕ) → is_cell_word w ≡ true → is_sized_cell (cell_of w) ≡ true
word_fits w h = by (ltb w 65536) (eqb w 65536) refl
  where
    by : (s t : Bool) → ltb w 65536 ≡ s → is_sized_cell (cond s (Lit w) (cond t One Any)) ≡ true
    by true t e = e
    by false true e = refl
    by false false e = refl

pub cells_back : (cs : List Cell) → list_all is_sized_cell cs ≡ true → map cell_of (map cell_word cs) ≡ cs
cells_back [] h = refl
cells_back (c ∷ cs) h =
    let p = and_parts (is_sized_cell c) (list_all is_sized_cell cs) h in
    λ i. cell_back c p.0 i ∷ cells_back cs p.1 i

cells_fit : (cs : List Cell) → list_all is_sized_cell cs ≡ true → list_all is_cell_word (map cell_word cs) ≡ true
cells_fit [] h = refl
cells_fit (c ∷ cs) h =
    let p = and_parts (is_sized_cell c) (list_all is_sized_cell cs) h in
    rw (cell_fits c p.0, cells_fit cs p.1) refl

words_back : (ws : List ℕ) → list_all is_cell_word ws ≡ true → map cell_word (map cell_of ws) ≡ ws
words_back [] h = refl
words_back (w ∷ ws) h =
    let p = and_parts (is_cell_word w) (list_all is_cell_word ws) h in
    λ i. word_back w p.0 i ∷ words_back ws p.1 i

words_fit : (ws : List ℕ) → list_all is_cell_word ws ≡ true → list_all is_sized_cell (map cell_of ws) ≡ true
words_fit [] h = refl
words_fit (w ∷ ws) h =
    let p = and_parts (is_cell_word w) (list_all is_cell_word ws) h in
    rw (word_fits w p.0, words_fit ws p.1) refl

-- the parts of a first word
pub head_kind : (k o s t : ℕ) → k < 256 → o < 256 → s < 65536 → kind_part (k + o * 2 ^ 8 + (s * 2 ^ 16 + t * 2 ^ 32)) ≡ k
head_kind k o s t hk ho hs = omega arith

pub head_options : (k o s t : ℕ) → k < 256 → o < 256 → s < 65536 → options_part (k + o * 2 ^ 8 + (s * 2 ^ 16 + t * 2 ^ 32)) ≡ o
head_options k o s t hk ho hs = omega arith

pub head_seek : (k o s t : ℕ) → k < 256 → o < 256 → s < 65536 → seek_part (k + o * 2 ^ 8 + (s * 2 ^ 16 + t * 2 ^ 32)) ≡ s
head_seek k o s t hk ho hs = omega arith

pub head_skip : (k o s t : ℕ) → k < 256 → o < 256 → s < 65536 → skip_part (k + o * 2 ^ 8 + (s * 2 ^ 16 + t * 2 ^ 32)) ≡ t
head_skip k o s t hk ho hs = omega arith

head_whole : (h : ℕ) → kind_part h + options_part h * 2 ^ 8 + (seek_part h * 2 ^ 16 + skip_part h * 2 ^ 32) ≡ h
head_whole h = omega arith

plain_whole : (h : ℕ) → h / 2 ^ 16 ≡ 0 → kind_part h + options_part h * 2 ^ 8 + 0 ≡ h
plain_whole h e = omega arith

options_small : (h : ℕ) → nat_lt (options_part h) (2 ^ 8) ≡ true
options_small h = lt-ltb (options_part h) (2 ^ 8) (omega arith)

-- a record of an opcode without cells
plain_back : (k o p a b : ℕ) (later : List ℕ) (kind : OpKind) → k < 256 → eqb k 5 ≡ false → nat_lt o (2 ^ 8) ≡ true → nat_lt p (2 ^ 32) ≡ true
    → plain_kind k a b ≡ Some kind → first_record ((k + o * 2 ^ 8 + 0) ∷ p ∷ a ∷ b ∷ later) ≡ Some (record { kind = kind; param = p; options = options_of o }, later)
plain_back k o p a b later kind hk h5 ho hp e =
    let small : o < 256 = ltb-true o (2 ^ 8) ho in
    let k_is : kind_part (k + o * 2 ^ 8 + 0) ≡ k = head_kind k o 0 0 hk small (omega arith) in
    let o_is : options_part (k + o * 2 ^ 8 + 0) ≡ o = head_options k o 0 0 hk small (omega arith) in
    let none : (k + o * 2 ^ 8 + 0) / 2 ^ 16 ≡ 0 = omega arith in
    rw (hp, k_is, h5, none, o_is, e) refl

action_back : (a : Action) → action_of (action_number a) ≡ Some a
action_back Allow = refl
action_back _ = refl

act_back : (a : Action) (line : ℕ) → nat_lt line (2 ^ 32) ≡ true → plain_kind 6 (action_number a) line ≡ Some (Act a line)
act_back a line h = rw (h, action_back a) refl

seek_back : (seek : Seek) (h : ℕ) → nat_lt (skip_number seek) 65536 ≡ true → seek_part h ≡ seek_number seek → skip_part h ≡ skip_number seek
    → seek_in h ≡ Some seek
seek_back (Skip n) h small s t = rw (s, t, small) refl
seek_back Forward h small s t = rw (s, t) refl
seek_back ToEnd h small s t = rw (s, t) refl

pub few_seeks : (seek : Seek) → seek_number seek < 65536
few_seeks (Skip n) = omega arith
few_seeks Forward = omega arith
few_seeks ToEnd = omega arith

-- a record of a text opcode
text_back : (o p : ℕ) (cells : List Cell) (seek : Seek) (later : List ℕ) → nat_lt o (2 ^ 8) ≡ true → nat_lt p (2 ^ 32) ≡ true
    → list_all is_sized_cell cells ≡ true → nat_lt (skip_number seek) 65536 ≡ true
    → first_record ((5 + o * 2 ^ 8 + (seek_number seek * 2 ^ 16 + skip_number seek * 2 ^ 32)) ∷ p ∷ length cells ∷ 0 ∷ map cell_word cells ++ later)
    ≡ Some (record { kind = Text cells seek; param = p; options = options_of o }, later)
text_back o p cells seek later ho hp hc hs =
    let h : ℕ = 5 + o * 2 ^ 8 + (seek_number seek * 2 ^ 16 + skip_number seek * 2 ^ 32) in
    let small : o < 256 = ltb-true o (2 ^ 8) ho in
    let five : 5 < 256 = omega arith in
    let k_is : kind_part h ≡ 5 = head_kind 5 o (seek_number seek) (skip_number seek) five small (few_seeks seek) in
    let o_is : options_part h ≡ o = head_options 5 o (seek_number seek) (skip_number seek) five small (few_seeks seek) in
    let s_is : seek_in h ≡ Some seek =
    seek_back seek h hs (head_seek 5 o (seek_number seek) (skip_number seek) five small (few_seeks seek))
    (head_skip 5 o (seek_number seek) (skip_number seek) five small (few_seeks seek))
    in
    let len : length (map cell_word cells) ≡ length cells = length-map cells cell_word in
    let room : nat_le (length cells) (length (map cell_word cells ++ later)) ≡ true =
    le-leb (length cells) (length (map cell_word cells ++ later)) (omega (arith, len, length-append (map cell_word cells) later))
    in
    let front : take (length cells) (map cell_word cells ++ later) ≡ map cell_word cells = take_at (map cell_word cells) later (length cells) len in
    let after : drop (length cells) (map cell_word cells ++ later) ≡ later = drop_at (map cell_word cells) later (length cells) len in
    rw (hp, k_is, room, front, after, cells_fit cells hc, cells_back cells hc, s_is, o_is) refl

sized_back : (kind : OpKind) (o p : ℕ) (later : List ℕ) → is_sized_kind kind ≡ true → nat_lt p (2 ^ 32) ≡ true → nat_lt o (2 ^ 8) ≡ true
    → first_record (record_of (record { kind = kind; param = p; options = options_of o }) ++ later)
    ≡ Some (record { kind = kind; param = p; options = options_of o }, later)
sized_back False o p later hk hp ho = plain_back 0 o p 0 0 later False (omega arith) refl ho hp refl
sized_back True o p later hk hp ho = plain_back 1 o p 0 0 later True (omega arith) refl ho hp refl
sized_back (Num n) o p later hk hp ho = plain_back 2 o p n 0 later (Num n) (omega arith) refl ho hp refl
sized_back (Range lo hi) o p later hk hp ho = plain_back 3 o p lo hi later (Range lo hi) (omega arith) refl ho hp refl
sized_back (Mask m) o p later hk hp ho = plain_back 4 o p m 0 later (Mask m) (omega arith) refl ho hp refl
sized_back (Act a line) o p later hk hp ho =
    plain_back 6 o p (action_number a) line later (Act a line) (omega arith) refl ho hp (act_back a line hk)
sized_back (Text cells seek) o p later hk hp ho =
    let q = and_parts (list_all is_sized_cell cells) (nat_lt (skip_number seek) 65536) hk in
    text_back o p cells seek later ho hp q.0 q.1

pub records_come_back : RecordsComeBack
records_come_back op later h =
    let q = and_parts (is_sized_kind op.kind && nat_lt op.param (2 ^ 32)) (nat_lt op.options.0 (2 ^ 8)) h in
    let r = and_parts (is_sized_kind op.kind) (nat_lt op.param (2 ^ 32)) q.0 in
    sized_back op.kind op.options.0 op.param later r.0 r.1 q.1

-- a kind is that of a record with this number and these two words, and no cells
abbrev PlainOf : ℕ → ℕ → ℕ → OpKind → Type 0
PlainOf k a b kind = (kind_number kind ≡ k) × (kind_words kind ≡ a ∷ b ∷ []) × (seek_bits kind ≡ 0) × (is_sized_kind kind ≡ true)

action_known : (n : ℕ) (a : Action) → action_of n ≡ Some a → action_number a ≡ n
action_known n a e = by (eqb n 0) (eqb n 1) (eqb n 2) (eqb n 3) (eqb n 4) refl refl refl refl refl e
  where
    known : (b : Action) → action_number b ≡ n → Some b ≡ Some a → action_number a ≡ n
    known b h e = ap action_number (sym (same_Some b a e)) ∙ h

    by : (s t u v w : Bool) → eqb n 0 ≡ s → eqb n 1 ≡ t → eqb n 2 ≡ u → eqb n 3 ≡ v → eqb n 4 ≡ w
        → cond s (Some Allow) (cond t (Some Deny) (cond u (Some Alarm) (cond v (Some Fake) (cond w (Some ReadOnly) None)))) ≡ Some a → action_number a ≡ n
    by true t u v w hs ht hu hv hw e = known Allow (sym (eqb-true n 0 hs)) e
    by false true u v w hs ht hu hv hw e = known Deny (sym (eqb-true n 1 ht)) e
    by false false true v w hs ht hu hv hw e = known Alarm (sym (eqb-true n 2 hu)) e
    by false false false true w hs ht hu hv hw e = known Fake (sym (eqb-true n 3 hv)) e
    by false false false false true hs ht hu hv hw e = known ReadOnly (sym (eqb-true n 4 hw)) e
    by false false false false false hs ht hu hv hw e = none_is_not_some a e

plain_known : (k a b : ℕ) (kind : OpKind) → plain_kind k a b ≡ Some kind → PlainOf k a b kind
plain_known k a b kind e =
    by (eqb k 0 && eqb a 0 && eqb b 0) (eqb k 1 && eqb a 0 && eqb b 0) (eqb k 2 && eqb b 0) (eqb k 3) (eqb k 4 && eqb b 0) (eqb k 6 && ltb b (2 ^ 32))
    refl refl refl refl refl refl e
  where
    known : (other : OpKind) → PlainOf k a b other → Some other ≡ Some kind → PlainOf k a b kind
    known other h e = subst (PlainOf k a b) (same_Some other kind e) h

    three : (n : ℕ) → (eqb k n && eqb a 0 && eqb b 0) ≡ true → (k ≡ n) × (a ≡ 0) × (b ≡ 0)
    three n h =
        let p = and_parts (eqb k n && eqb a 0) (eqb b 0) h in
        let q = and_parts (eqb k n) (eqb a 0) p.0 in
        (eqb-true k n q.0, eqb-true a 0 q.1, eqb-true b 0 p.1)

    two : (n : ℕ) → (eqb k n && eqb b 0) ≡ true → (k ≡ n) × (b ≡ 0)
    two n h =
        let p = and_parts (eqb k n) (eqb b 0) h in
        (eqb-true k n p.0, eqb-true b 0 p.1)

    acts : (eqb k 6 && ltb b (2 ^ 32)) ≡ true → option_map (λ action. Act action b) (action_of a) ≡ Some kind → PlainOf k a b kind
    acts h e =
        let p = and_parts (eqb k 6) (ltb b (2 ^ 32)) h in
        let q = unmapped (λ action. Act action b) (action_of a) kind e in
        let n = action_known a q.0 q.1 in
        subst (PlainOf k a b) q.2 (sym (eqb-true k 6 p.0), (λ i. n i ∷ b ∷ []), refl, p.1)

    by : (s t u v w x : Bool) → (eqb k 0 && eqb a 0 && eqb b 0) ≡ s → (eqb k 1 && eqb a 0 && eqb b 0) ≡ t → (eqb k 2 && eqb b 0) ≡ u → eqb k 3 ≡ v
        → (eqb k 4 && eqb b 0) ≡ w → (eqb k 6 && ltb b (2 ^ 32)) ≡ x
        → cond s (Some False) (cond t (Some True) (cond u (Some (Num a)) (cond v (Some (Range a b)) (cond w (Some (Mask a))
        (cond x (option_map (λ action. Act action b) (action_of a)) None))))) ≡ Some kind → PlainOf k a b kind
    by true t u v w x hs ht hu hv hw hx e =
        let p = three 0 hs in known False (sym p.0, (λ i. sym p.1 i ∷ sym p.2 i ∷ []), refl, refl) e
    by false true u v w x hs ht hu hv hw hx e =
        let p = three 1 ht in known True (sym p.0, (λ i. sym p.1 i ∷ sym p.2 i ∷ []), refl, refl) e
    by false false true v w x hs ht hu hv hw hx e =
        let p = two 2 hu in known (Num a) (sym p.0, (λ i. a ∷ sym p.1 i ∷ []), refl, refl) e
    by false false false true w x hs ht hu hv hw hx e = known (Range a b) (sym (eqb-true k 3 hv), refl, refl, refl) e
    by false false false false true x hs ht hu hv hw hx e =
        let p = two 4 hw in known (Mask a) (sym p.0, (λ i. a ∷ sym p.1 i ∷ []), refl, refl) e
    by false false false false false true hs ht hu hv hw hx e = acts hx e
    by false false false false false false hs ht hu hv hw hx e = none_is_not_some kind e

-- the seek of a first word
abbrev SeekOf : ℕ → Seek → Type 0
SeekOf h seek = (seek_number seek ≡ seek_part h) × (skip_number seek ≡ skip_part h) × (nat_lt (skip_number seek) 65536 ≡ true)

seek_known : (h : ℕ) (seek : Seek) → seek_in h ≡ Some seek → SeekOf h seek
seek_known h seek e =
    by (eqb (seek_part h) 0 && ltb (skip_part h) (2 ^ 16)) (eqb (seek_part h) 1 && eqb (skip_part h) 0) (eqb (seek_part h) 2 && eqb (skip_part h) 0)
    refl refl refl e
  where
    known : (other : Seek) → SeekOf h other → Some other ≡ Some seek → SeekOf h seek
    known other p e = subst (SeekOf h) (same_Some other seek e) p

    by : (s t u : Bool) → (eqb (seek_part h) 0 && ltb (skip_part h) (2 ^ 16)) ≡ s → (eqb (seek_part h) 1 && eqb (skip_part h) 0) ≡ t
        → (eqb (seek_part h) 2 && eqb (skip_part h) 0) ≡ u
        → cond s (Some (Skip (skip_part h))) (cond t (Some Forward) (cond u (Some ToEnd) None)) ≡ Some seek → SeekOf h seek
    by true t u hs ht hu e =
        let p = and_parts (eqb (seek_part h) 0) (ltb (skip_part h) (2 ^ 16)) hs in
        known (Skip (skip_part h)) (sym (eqb-true (seek_part h) 0 p.0), refl, p.1) e
    by false true u hs ht hu e =
        let p = and_parts (eqb (seek_part h) 1) (eqb (skip_part h) 0) ht in
        known Forward (sym (eqb-true (seek_part h) 1 p.0), sym (eqb-true (skip_part h) 0 p.1), refl) e
    by false false true hs ht hu e =
        let p = and_parts (eqb (seek_part h) 2) (eqb (skip_part h) 0) hu in
        known ToEnd (sym (eqb-true (seek_part h) 2 p.0), sym (eqb-true (skip_part h) 0 p.1), refl) e
    by false false false hs ht hu e = none_is_not_some seek e

-- an opcode and words are what a list of words is
abbrev Split : List ℕ → Opcode × List ℕ → Type 0
Split words r = (record_of r.0 ++ r.1 ≡ words) × (is_sized r.0 ≡ true)

plain_split : (h p a b : ℕ) (later : List ℕ) (r : Opcode × List ℕ) → nat_lt p (2 ^ 32) ≡ true
    → plain_record h p a b later ≡ Some r → Split (h ∷ p ∷ a ∷ b ∷ later) r
plain_split h p a b later r hp e = by (eqb (h / 2 ^ 16) 0) refl e
  where
    by : (s : Bool) → eqb (h / 2 ^ 16) 0 ≡ s
        → cond s (option_map (λ kind. (opcode_in h p kind, later)) (plain_kind (kind_part h) a b)) None ≡ Some r → Split (h ∷ p ∷ a ∷ b ∷ later) r
    by false k e = none_is_not_some r e
    by true k e =
        let q = unmapped (λ kind. (opcode_in h p kind, later)) (plain_kind (kind_part h) a b) r e in
        let known = plain_known (kind_part h) a b q.0 q.1 in
        let head : kind_number q.0 + options_part h * 2 ^ 8 + seek_bits q.0 ≡ h =
        rw (known.0, known.2) (plain_whole h (eqb-true (h / 2 ^ 16) 0 k))
        in
        subst (Split (h ∷ p ∷ a ∷ b ∷ later)) q.2
        ((λ i. head i ∷ p ∷ known.1 i ++ later), rw (known.3, hp, options_small h) refl)

text_split : (h p a b : ℕ) (later : List ℕ) (r : Opcode × List ℕ) → nat_lt p (2 ^ 32) ≡ true → kind_part h ≡ 5
    → text_record h p a b later ≡ Some r → Split (h ∷ p ∷ a ∷ b ∷ later) r
text_split h p a b later r hp h5 e = by (eqb b 0 && nat_le a (length later) && list_all is_cell_word (take a later)) refl e
  where
    by : (s : Bool) → (eqb b 0 && nat_le a (length later) && list_all is_cell_word (take a later)) ≡ s
        → cond s (option_map (λ seek. (opcode_in h p (Text (map cell_of (take a later)) seek), drop a later)) (seek_in h)) None ≡ Some r
        → Split (h ∷ p ∷ a ∷ b ∷ later) r
    by false k e = none_is_not_some r e
    by true k e =
        let q = unmapped (λ seek. (opcode_in h p (Text (map cell_of (take a later)) seek), drop a later)) (seek_in h) r e in
        let known = seek_known h q.0 q.1 in
        let m = and_parts (eqb b 0 && nat_le a (length later)) (list_all is_cell_word (take a later)) k in
        let n = and_parts (eqb b 0) (nat_le a (length later)) m.0 in
        let room : a ≤ length later = leb-true a (length later) n.1 in
        let zero : b ≡ 0 = eqb-true b 0 n.0 in
        let head : 5 + options_part h * 2 ^ 8 + (seek_number q.0 * 2 ^ 16 + skip_number q.0 * 2 ^ 32) ≡ h =
        rw (known.0, known.1, sym h5) (head_whole h)
        in
        let len : length (map cell_of (take a later)) ≡ a = length-map (take a later) cell_of ∙ length-take-le a later room in
        let rest : map cell_word (map cell_of (take a later)) ++ drop a later ≡ later =
        ap (λ l. l ++ drop a later) (words_back (take a later) m.1) ∙ take-append-drop a later
        in
        subst (Split (h ∷ p ∷ a ∷ b ∷ later)) q.2
        ((λ i. head i ∷ p ∷ len i ∷ sym zero i ∷ rest i), rw (words_fit (take a later) m.1, known.2, hp, options_small h) refl)

-- what a first record is
pub record_split : (words : List ℕ) (r : Opcode × List ℕ) → first_record words ≡ Some r → Split words r
record_split [] r e = none_is_not_some r e
record_split (h ∷ []) r e = none_is_not_some r e
record_split (h ∷ p ∷ []) r e = none_is_not_some r e
record_split (h ∷ p ∷ a ∷ []) r e = none_is_not_some r e
record_split (h ∷ p ∷ a ∷ b ∷ later) r e = by (nat_lt p (2 ^ 32)) (eqb (kind_part h) 5) refl refl e
  where
    by : (s t : Bool) → nat_lt p (2 ^ 32) ≡ s → eqb (kind_part h) 5 ≡ t
        → cond (not s) None (cond t (text_record h p a b later) (plain_record h p a b later)) ≡ Some r → Split (h ∷ p ∷ a ∷ b ∷ later) r
    by false t k m e = none_is_not_some r e
    by true true k m e = text_split h p a b later r k (eqb-true (kind_part h) 5 m) e
    by true false k m e = plain_split h p a b later r k e
