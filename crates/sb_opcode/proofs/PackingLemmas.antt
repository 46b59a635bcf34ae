-- What unpacking gives: it is packing the other way round, and it goes record by record.
use Rattle.std.proofs.lemmas.Option.{same_Some}
use Rattle.std.specs.Prelude.{◌==◌, ◌↔◌, IsTrue, Option, None, Some, option_map, option_and_then, is_some, unwrap_or}
use Rattle.std.proofs.Common.{◌≡◌, ◌≢◌, ◌∙◌, ◌≤◌, ◌<◌, ℕ, zero, suc, true, false, List, [], ◌∷◌, ◌++◌, length, refl, ap, sym, subst, arith}
use Rattle.std.specs.List.{list_all}
use Rattle.std.proofs.lemmas.Bool.{and_parts, false≢true, ne_eqb}
use Rattle.std.proofs.lemmas.Bool.Decides.{nat_tests}
use Rattle.std.proofs.lemmas.List.{length-append, append-nil, append_assoc}
use Rattle.sb_opcode.specs.Packing.{record_of, head_of, kind_words, packed, is_sized, PackingIsOneToOne}
use Rattle.sb_opcode.specs.Unpacking.{first_record, unpacked, unpacked_within, is_packed, opcodes_of, PackingComesBack}
use Rattle.sb_opcode.specs.Opcodes.{Opcode}
use Rattle.sb_opcode.proofs.RecordLemmas.{none_is_not_some, unmapped, records_come_back, record_split}

-- what comes after the first record of words is shorter than the words
pub record_shorter : (words : List ℕ) (r : Opcode × List ℕ) → first_record words ≡ Some r → length r.1 < length words
record_shorter words r e =
    let len : length (record_of r.0 ++ r.1) ≡ length words = ap length (record_split words r e).0 in
    let some : 1 ≤ length (record_of r.0) = omega arith in
    omega (arith, len, some, length-append (record_of r.0) r.1)

-- one opcode, and those of the words after it
abbrev with_first : (List ℕ → Option (List Opcode)) → Opcode × List ℕ → Option (List Opcode)
with_first later first = option_map (λ ops. first.0 ∷ ops) (later first.1)

same_later : (o : Option (Opcode × List ℕ)) (f g : List ℕ → Option (List Opcode)) → ((r : Opcode × List ℕ) → o ≡ Some r → f r.1 ≡ g r.1)
    → option_and_then (with_first f) o ≡ option_and_then (with_first g) o
same_later None f g h = refl
same_later (Some r) f g h = ap (option_map (λ ops. r.0 ∷ ops)) (h r refl)

enough : (n m : ℕ) (words : List ℕ) → length words ≤ n → length words ≤ m → unpacked_within n words ≡ unpacked_within m words
enough zero zero words h k = refl
enough zero (suc m) [] h k = refl
enough (suc n) zero [] h k = refl
enough (suc n) (suc m) [] h k = refl
enough zero (suc m) (word ∷ words) h k = absurd (omega arith)
enough (suc n) zero (word ∷ words) h k = absurd (omega arith)
enough (suc n) (suc m) (word ∷ words) h k =
    same_later (first_record (word ∷ words)) (unpacked_within n) (unpacked_within m)
    (λ r e. let less = record_shorter (word ∷ words) r e in enough n m r.1 (omega (arith, less)) (omega (arith, less)))

-- the first record, and what is left
pub unpacked_step : (word : ℕ) (words : List ℕ) → unpacked (word ∷ words) ≡ option_and_then (with_first unpacked) (first_record (word ∷ words))
unpacked_step word words =
    same_later (first_record (word ∷ words)) (unpacked_within (length words)) unpacked
    (λ r e. let less = record_shorter (word ∷ words) r e in enough (length words) (length r.1) r.1 (omega (arith, less)) (omega arith))

-- words, and the opcodes whose packing they are
abbrev Packs : List ℕ → List Opcode → Type 0
Packs words ops = (packed ops ≡ words) × (list_all is_sized ops ≡ true)

unthen : {A B : Type 0} (f : A → Option B) (o : Option A) (y : B) → option_and_then f o ≡ Some y → (x : A) × (o ≡ Some x) × (f x ≡ Some y)
unthen f None y e = none_is_not_some y e
unthen f (Some x) y e = (x, refl, e)

nothing_packs : (ops : List Opcode) → Some [] ≡ Some ops → Packs [] ops
nothing_packs ops e = subst (Packs []) (same_Some [] ops e) (refl, refl)

within_packs : (n : ℕ) (words : List ℕ) (ops : List Opcode) → unpacked_within n words ≡ Some ops → Packs words ops
within_packs zero [] ops e = nothing_packs ops e
within_packs zero (word ∷ words) ops e = none_is_not_some ops e
within_packs (suc n) [] ops e = nothing_packs ops e
within_packs (suc n) (word ∷ words) ops e =
    let first = unthen (with_first (unpacked_within n)) (first_record (word ∷ words)) ops e in
    let later = unmapped (λ others. first.0.0 ∷ others) (unpacked_within n first.0.1) ops first.2 in
    let packs = within_packs n first.0.1 later.0 later.1 in
    let split = record_split (word ∷ words) first.0 first.1 in
    subst (Packs (word ∷ words)) later.2 (ap (λ l. record_of first.0.0 ++ l) packs.0 ∙ split.0, rw (split.1, packs.1) refl)

-- opcodes come back from their packing
pub packed_back : (ops : List Opcode) → list_all is_sized ops ≡ true → unpacked (packed ops) ≡ Some ops
packed_back [] h = refl
packed_back (op ∷ ops) h =
    let p = and_parts (is_sized op) (list_all is_sized ops) h in
    unpacked_step (head_of op) (op.param ∷ kind_words op.kind ++ packed ops)
    ∙ ap (option_and_then (with_first unpacked)) (records_come_back op (packed ops) p.0) ∙ ap (option_map (λ others. op ∷ others)) (packed_back ops p.1)

pub packing_comes_back : PackingComesBack
packing_comes_back words ops =
    (λ e. within_packs (length words) words ops e, λ p. ap unpacked (sym p.0) ∙ packed_back ops p.1)

pub packing_is_one_to_one : PackingIsOneToOne
packing_is_one_to_one a b ha hb e = same_Some a b (sym (packed_back a ha) ∙ ap unpacked e ∙ packed_back b hb)

there : (o : Option (List Opcode)) → is_some o ≡ true → o ≡ Some (unwrap_or o [])
there None h = absurd (false≢true h)
there (Some ops) h = refl

-- words that are packed are the packing of their opcodes
pub opcodes_pack : (words : List ℕ) → is_packed words ≡ true → Packs words (opcodes_of words)
opcodes_pack words h = within_packs (length words) words (opcodes_of words) (there (unpacked words) h)

-- if words begin with a record, they are packed if the words after it are
mapped_some : (op : Opcode) (o : Option (List Opcode)) → is_some (option_map (λ ops. op ∷ ops) o) ≡ is_some o
mapped_some op None = refl
mapped_some op (Some ops) = refl

mapped_ops : (op : Opcode) (o : Option (List Opcode)) → is_some o ≡ true → unwrap_or (option_map (λ ops. op ∷ ops) o) [] ≡ op ∷ unwrap_or o []
mapped_ops op None h = absurd (false≢true h)
mapped_ops op (Some ops) h = refl

first_then : (words : List ℕ) (r : Opcode × List ℕ) → first_record words ≡ Some r → unpacked words ≡ option_map (λ ops. r.0 ∷ ops) (unpacked r.1)
first_then [] r e = none_is_not_some r e
first_then (word ∷ words) r e = unpacked_step word words ∙ ap (option_and_then (with_first unpacked)) e

pub packed_after : (words : List ℕ) (r : Opcode × List ℕ) → first_record words ≡ Some r → is_packed words ≡ is_packed r.1
packed_after words r e = ap is_some (first_then words r e) ∙ mapped_some r.0 (unpacked r.1)

pub opcodes_after : (words : List ℕ) (r : Opcode × List ℕ) → first_record words ≡ Some r → is_packed r.1 ≡ true
    → opcodes_of words ≡ r.0 ∷ opcodes_of r.1
opcodes_after words r e h = ap (λ o. unwrap_or o []) (first_then words r e) ∙ mapped_ops r.0 (unpacked r.1) h

-- words that begin with no record are not packed
pub not_packed : (word : ℕ) (words : List ℕ) → first_record (word ∷ words) ≡ None → is_packed (word ∷ words) ≡ false
not_packed word words e = ap is_some (unpacked_step word words ∙ ap (option_and_then (with_first unpacked)) e)

packed_more : (ops : List Opcode) (op : Opcode) → packed (ops ++ op ∷ []) ≡ packed ops ++ record_of op
packed_more [] op = append-nil (record_of op)
packed_more (first ∷ ops) op = ap (λ l. record_of first ++ l) (packed_more ops op) ∙ sym (append_assoc (record_of first) (packed ops) (record_of op))

sized_more : (ops : List Opcode) (op : Opcode) → list_all is_sized ops ≡ true → is_sized op ≡ true → list_all is_sized (ops ++ op ∷ []) ≡ true
sized_more [] op h k = rw k refl
sized_more (first ∷ ops) op h k =
    let p = and_parts (is_sized first) (list_all is_sized ops) h in
    rw (p.0, sized_more ops op p.1 k) refl

-- a record after packed words
pub packed_with : (words : List ℕ) (op : Opcode) → is_packed words ≡ true → is_sized op ≡ true
    → unpacked (words ++ record_of op) ≡ Some (opcodes_of words ++ op ∷ [])
packed_with words op h k =
    let packs = opcodes_pack words h in
    let whole : packed (opcodes_of words ++ op ∷ []) ≡ words ++ record_of op =
    packed_more (opcodes_of words) op ∙ ap (λ l. l ++ record_of op) packs.0
    in
    ap unpacked (sym whole) ∙ packed_back (opcodes_of words ++ op ∷ []) (sized_more (opcodes_of words) op packs.1 k)

-- what a cursor over packed words meets: a record and packed words, or nothing
pub later_packed : (words later : List ℕ) (op : Opcode) → Some (op, later) ≡ first_record words → is_packed words ≡ true → is_packed later ≡ true
later_packed words later op e h = sym (packed_after words (op, later) (sym e)) ∙ h

pub first_opcode : (words later : List ℕ) (op : Opcode) → Some (op, later) ≡ first_record words → is_packed words ≡ true
    → opcodes_of words ≡ op ∷ opcodes_of later
first_opcode words later op e h = opcodes_after words (op, later) (sym e) (later_packed words later op e h)

-- words are the packing of their opcodes, and there are no more opcodes than words
pub packing_of_opcodes : (words : List ℕ) → is_packed words ≡ true → packed (opcodes_of words) ≡ words
packing_of_opcodes words h = (opcodes_pack words h).0

few_records : (ops : List Opcode) → length ops ≤ length (packed ops)
few_records [] = omega arith
few_records (op ∷ ops) =
    let some : 1 ≤ length (record_of op) = omega arith in
    omega (arith, some, few_records ops, length-append (record_of op) (packed ops))

pub few_opcodes : (words : List ℕ) → is_packed words ≡ true → length (opcodes_of words) ≤ length words
few_opcodes words h =
    let same : length (packed (opcodes_of words)) ≡ length words = ap length (packing_of_opcodes words h) in
    omega (arith, same, few_records (opcodes_of words))

-- the opcodes after a push
pub pushed_packed : (words : List ℕ) (op : Opcode) → is_packed words ≡ true → is_sized op ≡ true → is_packed (words ++ record_of op) ≡ true
pushed_packed words op h k = ap is_some (packed_with words op h k)

pub pushed_opcodes : (words : List ℕ) (op : Opcode) → is_packed words ≡ true → is_sized op ≡ true
    → opcodes_of (words ++ record_of op) ≡ opcodes_of words ++ op ∷ []
pushed_opcodes words op h k = ap (λ o. unwrap_or o []) (packed_with words op h k)

-- words that begin with no record are packed if there are none
later_of : (words later : List ℕ) → Some later ≡ option_map (λ r. r.1) (first_record words) → (r : Opcode × List ℕ) × (first_record words ≡ Some r) × (r.1 ≡ later)
later_of words later e = unmapped (λ r. r.1) (first_record words) later (sym e)

pub packed_later : (words later : List ℕ) → Some later ≡ option_map (λ r. r.1) (first_record words) → is_packed words ≡ is_packed later
packed_later words later e =
    let p = later_of words later e in
    packed_after words p.0 p.1 ∙ ap is_packed p.2

pub later_shorter : (words later : List ℕ) → Some later ≡ option_map (λ r. r.1) (first_record words) → length later < length words
later_shorter words later e =
    let p = later_of words later e in
    subst (λ w. length w < length words) p.2 (record_shorter words p.0 p.1)

no_first : (o : Option (Opcode × List ℕ)) → None ≡ option_map (λ r. r.1) o → o ≡ None
no_first None e = refl
no_first (Some r) e = none_is_not_some r.1 e

pub no_record : (words : List ℕ) → None ≡ option_map (λ r. r.1) (first_record words) → is_packed words ≡ (length words == 0)
no_record [] e = refl
no_record (word ∷ words) e =
    let some : (length (word ∷ words) == 0) ≡ false = ne_eqb (length (word ∷ words)) 0 (λ e. absurd (omega (arith, e))) in
    not_packed word words (no_first (first_record (word ∷ words)) e) ∙ sym some

-- words that are not packed are the packing of no opcodes
pub not_packing : (words : List ℕ) → is_packed words ≡ false → (ops : List Opcode) → list_all is_sized ops ≡ true → packed ops ≢ words
not_packing words h ops sized e =
    false≢true (sym h ∙ ap is_packed (sym e) ∙ ap is_some (packed_back ops sized))

pub opcodes_sized : (words : List ℕ) → is_packed words ≡ true → list_all is_sized (opcodes_of words) ≡ true
opcodes_sized words h = (opcodes_pack words h).1

-- there are words exactly if there are opcodes
pub empty_words : (words : List ℕ) → is_packed words ≡ true → (IsTrue (length words == 0)) ↔ (opcodes_of words ≡ [])
empty_words words h = (λ e. none words e, λ e. by (ap packed (sym e) ∙ packing_of_opcodes words h))
  where
    none : (words : List ℕ) → IsTrue (length words == 0) → opcodes_of words ≡ []
    none [] e = refl
    none (word ∷ words) e = absurd (grind (arith, nat_tests, e))

    by : [] ≡ words → IsTrue (length words == 0)
    by e = subst (λ l. IsTrue (length l == 0)) e refl
