-- What a copy without a fault has.
use Rattle.std.proofs.Common.{◌≡◌, ℕ, zero, suc, List, [], ◌∷◌, Bool, true, false, arith, refl, sym, map, take, drop, ◌&&◌, length}
use Rattle.std.proofs.lemmas.Bool.{and_parts, false≢true, eqb-true, not-false}
use Rattle.std.proofs.lemmas.Bool.Decides.{nat_tests}
use Rattle.std.specs.Prelude.{not, ◌==◌, nat_eq, nat_lt, Option, None, Some, is_none, option_map, if◌then◌else◌}
use Rattle.std.specs.Option.{option_or}
use Rattle.std.specs.List.{position}
use Rattle.sb_call.specs.Arguments.{fit, fits_kind}
use Rattle.sb_call.specs.Tags.{shape_of, tag_of}
use Rattle.sb_call.specs.declared.tags.ParamKind.{ParamKind}
use Rattle.sb_call.specs.declared.tags.ParamKind.TheVariants as kind
use Rattle.sb_block.specs.Copies.{Copied, copied, is_copy, is_end}
use Rattle.sb_block.specs.Layout.{most_parameters, tag_word, count_in, end_in, descriptors}
use Rattle.sb_block.specs.Packing.{type_of}
use Rattle.sb_block.specs.Faults.{fault, faults, first_there, where_holds, has_bad_type, has_bad_place, has_bad_size, has_bad_name, first_bad_name, has_shape, type_number, tag_in}
use Rattle.sb_block.specs.Calls.{argument_in}
use Rattle.sb_block.specs.Laws.{FaultlessCopiesFit, FaultlessCopiesAreWhole, LaterFaultsAreOfWholeCopies, FetchedNumbersAreCopied}
use Rattle.sb_block.specs.declared.faults.BlockFault.{BlockFault}
use Rattle.sb_block.specs.declared.faults.BlockFault.TheVariants.{TooManyParams, BadEnd, CountChanged, EndChanged, BadParamType, BadPlace, UnknownTag, WrongShape, BadSize, BadName}

-- a case that is not taken
pub not_taken : {X : Type 0} (b : Bool) (x : X) (o : Option X) → (if b then Some x else o) ≡ None → (b ≡ false) × (o ≡ None)
not_taken true x o h = absurd (cc)
not_taken false x o h = (refl, h)

pub unmapped : {X : Type 0} (f : ℕ → X) (p : Option ℕ) → option_map f p ≡ None → p ≡ None
unmapped f None h = refl
unmapped f (Some n) h = absurd (cc)

-- if no fault is there, the first is not, and none of the others
none_there : (found : Option BlockFault) (more : List (Option BlockFault)) → option_or found (first_there more) ≡ None
    → (found ≡ None) × (first_there more ≡ None)
none_there None more h = (refl, h)
none_there (Some f) more h = absurd (cc)

-- what a copy has that has none of the first four faults
pub record Fetched (c : Copied) : Type 0 where
  pub few : nat_lt most_parameters c.count_seen ≡ false
  pub ends : not (is_end c.count_seen c.end_seen) ≡ false
  pub count : not (c.count_seen == count_in c.words) ≡ false
  pub end : not (c.end_seen == end_in c.words) ≡ false

pub fetched : (c : Copied) → first_there (take 4 (faults c)) ≡ None → Fetched c
fetched c h =
    let few = none_there (where_holds (nat_lt most_parameters c.count_seen) (TooManyParams c.count_seen)) (drop 1 (take 4 (faults c))) h in
    let ends = none_there (where_holds (not (is_end c.count_seen c.end_seen)) (BadEnd c.end_seen)) (drop 2 (take 4 (faults c))) few.1 in
    let count = none_there (where_holds (not (c.count_seen == count_in c.words)) (CountChanged c.count_seen (count_in c.words)))
    (drop 3 (take 4 (faults c))) ends.1 in
    let end = none_there (where_holds (not (c.end_seen == end_in c.words)) (EndChanged c.end_seen (end_in c.words))) [] count.1 in
    record {
      few = (not_taken (nat_lt most_parameters c.count_seen) (TooManyParams c.count_seen) None few.0).0;
      ends = (not_taken (not (is_end c.count_seen c.end_seen)) (BadEnd c.end_seen) None ends.0).0;
      count = (not_taken (not (c.count_seen == count_in c.words)) (CountChanged c.count_seen (count_in c.words)) None count.0).0;
      end = (not_taken (not (c.end_seen == end_in c.words)) (EndChanged c.end_seen (end_in c.words)) None end.0).0;
    }

-- and what the words have that have none of the others
pub record Faultless (words : List ℕ) : Type 0 where
  pub typed : position has_bad_type (descriptors words) ≡ None
  pub placed : position (has_bad_place (count_in words) (end_in words)) (descriptors words) ≡ None
  pub known : is_none (tag_of (tag_word words)) ≡ false
  pub shaped : not (has_shape (shape_of (tag_in words)) (descriptors words)) ≡ false
  pub sized : position has_bad_size (descriptors words) ≡ None
  pub named : first_bad_name (shape_of (tag_in words)) (descriptors words) words ≡ None

pub faultless_words : (c : Copied) → first_there (drop 4 (faults c)) ≡ None → Faultless c.words
faultless_words c h =
    let typed = none_there (option_map BadParamType (position has_bad_type (descriptors c.words))) (drop 5 (faults c)) h in
    let placed = none_there (option_map BadPlace (position (has_bad_place (count_in c.words) (end_in c.words)) (descriptors c.words)))
    (drop 6 (faults c)) typed.1 in
    let known = none_there (where_holds (is_none (tag_of (tag_word c.words))) (UnknownTag (tag_word c.words))) (drop 7 (faults c)) placed.1 in
    let shaped = none_there (where_holds (not (has_shape (shape_of (tag_in c.words)) (descriptors c.words))) WrongShape) (drop 8 (faults c)) known.1 in
    let sized = none_there (option_map BadSize (position has_bad_size (descriptors c.words))) (drop 9 (faults c)) shaped.1 in
    let named = none_there (option_map BadName (first_bad_name (shape_of (tag_in c.words)) (descriptors c.words) c.words)) [] sized.1 in
    record {
      typed = unmapped BadParamType _ typed.0;
      placed = unmapped BadPlace _ placed.0;
      known = (not_taken (is_none (tag_of (tag_word c.words))) (UnknownTag (tag_word c.words)) None known.0).0;
      shaped = (not_taken (not (has_shape (shape_of (tag_in c.words)) (descriptors c.words))) WrongShape None shaped.0).0;
      sized = unmapped BadSize _ sized.0;
      named = unmapped BadName _ named.0;
    }

-- if no fault is there, none of the first few is, and none of the others
halves : (n : ℕ) (found : List (Option BlockFault)) → first_there found ≡ None
    → (first_there (take n found) ≡ None) × (first_there (drop n found) ≡ None)
halves zero found h = (refl, h)
halves (suc n) [] h = (refl, refl)
halves (suc n) (None ∷ found) h = halves n found h
halves (suc n) (Some f ∷ found) h = absurd (cc)

pub both_halves : (c : Copied) → fault c ≡ None → (first_there (take 4 (faults c)) ≡ None) × (first_there (drop 4 (faults c)) ≡ None)
both_halves c h = halves 4 (faults c) h

pub faultless : (c : Copied) → fault c ≡ None → Faultless c.words
faultless c h = faultless_words c (both_halves c h).1

-- the count and the end that were fetched are those in the words
pub counted : (c : Copied) → Fetched c → c.count_seen ≡ count_in c.words
counted c f = eqb-true c.count_seen (count_in c.words) (not-false _ f.count)

pub ended : (c : Copied) → Fetched c → c.end_seen ≡ end_in c.words
ended c f = eqb-true c.end_seen (end_in c.words) (not-false _ f.end)

pub fetched_numbers_are_copied : FetchedNumbersAreCopied
fetched_numbers_are_copied c h =
    let f = fetched c (both_halves c h).0 in
    (counted c f, ended c f)

-- the end is the number of words
by_end : (many ends : Bool) (n e : ℕ) → many ≡ false → ends ≡ true
    → (if many then e == 0 && n == 0 else (if ends then n == e else n == 0)) ≡ true → e ≡ n
by_end false true n e m s h = grind (arith, nat_tests)
by_end true ends n e m s h = absurd (false≢true (sym m))
by_end false false n e m s h = absurd (false≢true s)

pub has_length : (c : Copied) → is_copy c ≡ true → Fetched c → c.end_seen ≡ length c.words
has_length c rule f = by_end (nat_lt most_parameters c.count_seen) (is_end c.count_seen c.end_seen) (length c.words) c.end_seen f.few
    (not-false _ f.ends) rule

same_copied : (n n' e e' : ℕ) (words : List ℕ) → n ≡ n' → e ≡ e' → copied n e words ≡ copied n' e' words
same_copied n n' e e' words same ends = rw (same, ends)

pub later_faults_are_of_whole_copies : LaterFaultsAreOfWholeCopies
later_faults_are_of_whole_copies c rule h =
    let f = fetched c h in
    same_copied c.count_seen (count_in c.words) c.end_seen (length c.words) c.words (counted c f) (has_length c rule f)

pub faultless_copies_are_whole : FaultlessCopiesAreWhole
faultless_copies_are_whole c rule h = later_faults_are_of_whole_copies c rule (both_halves c h).0

-- if what ought to be a name is one, each argument is of its kind
fitting_kind : (k : ParamKind) (word : ℕ) (words : List ℕ) → type_of word ≡ type_number k → has_bad_name k word words ≡ false
    → fits_kind k (argument_in words word) ≡ true
fitting_kind kind.Text word words t h = rw t
fitting_kind kind.Name word words t h = rw t (grind (arith, nat_tests))
fitting_kind kind.Num word words t h = rw t (grind (arith, nat_tests))
fitting_kind kind.Handle word words t h = rw t

fitting_kinds : (kinds : List ParamKind) (infos words : List ℕ) → has_shape kinds infos ≡ true → first_bad_name kinds infos words ≡ None
    → fit kinds (map (argument_in words) infos) ≡ true
fitting_kinds [] [] words s n = refl
fitting_kinds [] (word ∷ more) words s n = absurd (false≢true s)
fitting_kinds (k ∷ kinds) [] words s n = absurd (false≢true s)
fitting_kinds (k ∷ kinds) (word ∷ more) words s n =
    let shaped = and_parts (nat_eq (type_of word) (type_number k)) (has_shape kinds more) s in
    let named = not_taken (has_bad_name k word words) 0 _ n in
    let here = fitting_kind k word words (eqb-true (type_of word) (type_number k) shaped.0) named.0 in
    rw (here, fitting_kinds kinds more words shaped.1 (unmapped _ _ named.1))

pub faultless_copies_fit : FaultlessCopiesFit
faultless_copies_fit c h =
    let f = faultless c h in
    fitting_kinds (shape_of (tag_in c.words)) (descriptors c.words) c.words (not-false _ f.shaped) f.named
