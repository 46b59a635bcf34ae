-- The targets, channels and statements of a sound script: names lead to targets, channels are clean or not, and statements have low places.
use Rattle.std.proofs.Common.{◌≡◌, ◌∙◌, ℕ, ◌<◌, ◌≤◌, zero, suc, Bool, true, false, not, ltb, leb, ◌&&◌, nat_eq, List, [], ◌∷◌, length, Option, None, Some, slice_get, slice_index_or, length-append, refl, ap, sym, subst, arith}
use Rattle.std.proofs.lemmas.Bool.{and_parts, false≢true, leb-true, ltb-true, ltb-false}
use Rattle.std.proofs.lemmas.List.{get_or_append_left}
use Rattle.std.proofs.lemmas.Option.{none-some, slice_get_within}
use Rattle.std.proofs.Math.Seq.{get_or-append_seam}
use Rattle.std.specs.Cmp.Lexicographic.{pointwise, bytes_decides}
use Rattle.std.specs.List.{list_all, list_any}
use Rattle.sb_call.specs.ShortNames.{is_short_name}
use Rattle.sb_actor.specs.Places.{clean_channels, clean_upto, or_none, statement_at, threads_of}
use Rattle.sb_statements.specs.Actors.{thread_count}
use Rattle.sb_statements.specs.Limits.{most_channels, most_start_lines, most_statements, most_targets, most_threads}
use Rattle.sb_statements.specs.Scripts.{is_clean}
use Rattle.sb_statements.specs.SoundScripts.{has_short_name, has_short_names}
use Rattle.sb_statements.specs.Soundness.{are_targets, channels_of, is_patience, is_sound, is_start, is_statement, is_target, is_thread, names_differ}
use Rattle.sb_statements.specs.declared.scripts.Script.{Script}
use Rattle.sb_statements.specs.declared.scripts.TargetScript.{TargetScript}
use Rattle.sb_statements.specs.declared.statements.Statement.{Statement}
use Rattle.sb_transcript.specs.EntryLines.{name_by, target_name}
use Rattle.sb_audit.specs.Before.{target_of}
use Rattle.sb_audit.proofs.Converse.Lists.{each_true, none_passes, position_at, some_same}

-- ---- names

-- a target has this name
abbrev has_name : List ℕ → TargetScript → Bool
has_name name target = pointwise nat_eq target.name name

differ_back : (a b : List ℕ) → pointwise nat_eq a b ≡ false → pointwise nat_eq b a ≡ false
differ_back a b h = by (pointwise nat_eq b a) refl
  where
    by : (t : Bool) → pointwise nat_eq b a ≡ t → t ≡ false
    by true e = absurd (false≢true (sym h ∙ (bytes_decides a b).1 (sym ((bytes_decides b a).0 e))))
    by false e = refl

no_test : (t : Bool) → not t ≡ true → t ≡ false
no_test true h = absurd (false≢true h)
no_test false h = refl

names_at : (targets : List TargetScript) (n k : ℕ) (x y : TargetScript) → names_differ targets ≡ true → slice_get targets n ≡ Some x → k < n
    → slice_get targets k ≡ Some y → has_name x.name y ≡ false
names_at [] n k x y d h l g = absurd (none-some x h)
names_at (z ∷ zs) zero k x y d h l g = absurd (omega arith)
names_at (z ∷ zs) (suc n) zero x y d h l g =
    let none : list_any (has_name z.name) zs ≡ false = no_test (list_any (has_name z.name) zs) (and_parts (not (list_any (has_name z.name) zs)) (names_differ zs) d).0 in
    let differ : pointwise nat_eq x.name z.name ≡ false = none_passes (has_name z.name) zs n x none h in
    ap (λ w. pointwise nat_eq w x.name) (ap (λ t. t.name) (sym (some_same z y g))) ∙ differ_back x.name z.name differ
names_at (z ∷ zs) (suc n) (suc k) x y d h l g =
    names_at zs n k x y (and_parts (not (list_any (has_name z.name) zs)) (names_differ zs) d).1 h (omega arith) g

-- the targets of a sound script are sound
pub sound_targets : (script : Script) → is_sound script ≡ true → are_targets script.targets ≡ true
sound_targets script h =
    (and_parts (is_patience script.patience && leb (length script.start) most_start_lines && list_all is_start script.start) (are_targets script.targets) h).1

pub target_sound : (script : Script) (t : ℕ) (target : TargetScript) → is_sound script ≡ true → slice_get script.targets t ≡ Some target
    → is_target script.targets target ≡ true
target_sound script t target h e =
    each_true (is_target script.targets) script.targets t target
    (and_parts (leb (length script.targets) most_targets && names_differ script.targets) (list_all (is_target script.targets) script.targets) (sound_targets script h)).1 e

differing : (script : Script) → is_sound script ≡ true → names_differ script.targets ≡ true
differing script h =
    (and_parts (leb (length script.targets) most_targets) (names_differ script.targets)
    (and_parts (leb (length script.targets) most_targets && names_differ script.targets) (list_all (is_target script.targets) script.targets) (sound_targets script h)).0).1

-- the name of a target leads to it
pub target_named : (script : Script) (t : ℕ) (target : TargetScript) → is_sound script ≡ true → slice_get script.targets t ≡ Some target
    → target_of script (target_name script t) ≡ Some t
target_named script t target h e =
    let name : target_name script t ≡ target.name = ap name_by e in
    ap (target_of script) name
    ∙ position_at (has_name target.name) script.targets t target e ((bytes_decides target.name target.name).1 refl)
    (λ k y l g. names_at script.targets t k target y (differing script h) e l g)

pub short_named : (script : Script) (t : ℕ) (target : TargetScript) → has_short_names script ≡ true → slice_get script.targets t ≡ Some target
    → is_short_name (target_name script t) ≡ true
short_named script t target h e =
    let name : target_name script t ≡ target.name = ap name_by e in
    ap is_short_name name ∙ each_true has_short_name script.targets t target h e

-- ---- channels

pub few_channels : (script : Script) (t : ℕ) (target : TargetScript) → is_sound script ≡ true → slice_get script.targets t ≡ Some target → target.channels ≤ 8
few_channels script t target h e =
    let s = target_sound script t target h e in
    let front = (and_parts (leb 1 target.channels && leb target.channels most_channels && leb (length target.threads) most_threads) (list_all (is_thread script.targets) target.threads) s).0 in
    let channels = (and_parts (leb 1 target.channels && leb target.channels most_channels) (leb (length target.threads) most_threads) front).0 in
    leb-true target.channels 8 (and_parts (leb 1 target.channels) (leb target.channels most_channels) channels).1

length-clean : (script : Script) (t n : ℕ) → length (clean_upto script t n) ≡ n
length-clean script t zero = refl
length-clean script t (suc n) = simp length-append (omega (arith, length-clean script t n))

clean_last : (script : Script) (t n c : ℕ) (d b : Bool) → ltb c n ≡ b → c < suc n → (c < n → slice_index_or (clean_upto script t n) c d ≡ is_clean script t c)
    → slice_index_or (clean_upto script t (suc n)) c d ≡ is_clean script t c
clean_last script t n c d true e l front =
    let below : c < n = ltb-true c n e in
    get_or_append_left (clean_upto script t n) (is_clean script t n ∷ []) d c (omega (arith, length-clean script t n)) ∙ front below
clean_last script t n c d false e l front =
    let same : c ≡ n = omega (arith, ltb-false c n e) in
    let at : c ≡ length (clean_upto script t n) = same ∙ sym (length-clean script t n) in
    ap (λ k. slice_index_or (clean_upto script t (suc n)) k d) at ∙ get_or-append_seam (clean_upto script t n) (is_clean script t n) [] d ∙ ap (is_clean script t) (sym same)

clean_in : (script : Script) (t n c : ℕ) (d : Bool) → c < n → slice_index_or (clean_upto script t n) c d ≡ is_clean script t c
clean_in script t zero c d l = absurd (omega arith)
clean_in script t (suc n) c d l = clean_last script t n c d (ltb c n) refl l (λ below. clean_in script t n c d below)

pub clean_at : (script : Script) (t c : ℕ) (d : Bool) → c < channels_of (slice_get script.targets t) → slice_index_or (clean_channels script t) c d ≡ is_clean script t c
clean_at script t c d l = clean_in script t (channels_of (slice_get script.targets t)) c d l

pub many_clean : (script : Script) (t : ℕ) → length (clean_channels script t) ≡ channels_of (slice_get script.targets t)
many_clean script t = length-clean script t (channels_of (slice_get script.targets t))

-- ---- statements

-- a statement is there: its thread of its target, and a place below 4,096
pub record IsThere (script : Script) (t k i : ℕ) : Type 0 where
  pub target : TargetScript
  pub is_target : slice_get script.targets t ≡ Some target
  pub thread : k < thread_count (slice_get script.targets t)
  pub few_threads : k < 4
  pub place : i < 4096

thread_there : (script : Script) (t k i : ℕ) (s : Statement) → is_sound script ≡ true → (target : TargetScript) → slice_get script.targets t ≡ Some target
    → (q : Option (List Statement)) → slice_get target.threads k ≡ q → slice_get (or_none q) i ≡ Some s → IsThere script t k i
thread_there script t k i s h target there None f g = absurd (none-some s g)
thread_there script t k i s h target there (Some statements) f g =
    let sound = and_parts (leb 1 target.channels && leb target.channels most_channels && leb (length target.threads) most_threads) (list_all (is_thread script.targets) target.threads)
    (target_sound script t target h there) in
    let few = leb-true (length target.threads) 4 (and_parts (leb 1 target.channels && leb target.channels most_channels) (leb (length target.threads) most_threads) sound.0).1 in
    let thread = each_true (is_thread script.targets) target.threads k statements sound.1 f in
    let short = leb-true (length statements) 4096 (and_parts (leb (length statements) most_statements) (list_all (is_statement script.targets) statements) thread).0 in
    let within = slice_get_within target.threads k statements f in
    let place = slice_get_within statements i s g in
    record {
      target = target;
      is_target = there;
      thread = subst (λ o. k < thread_count o) (sym there) within;
      few_threads = omega arith;
      place = omega arith;
    }

target_there : (script : Script) (t k i : ℕ) (s : Statement) → is_sound script ≡ true → (o : Option TargetScript) → slice_get script.targets t ≡ o
    → slice_get (or_none (slice_get (threads_of o) k)) i ≡ Some s → IsThere script t k i
target_there script t k i s h None there g = absurd (none-some s g)
target_there script t k i s h (Some target) there g = thread_there script t k i s h target there (slice_get target.threads k) refl g

pub statement_there : (script : Script) (t k i : ℕ) (s : Statement) → is_sound script ≡ true → statement_at script t k i ≡ Some s → IsThere script t k i
statement_there script t k i s h e = target_there script t k i s h (slice_get script.targets t) refl e
