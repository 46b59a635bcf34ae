-- A run of a script with one thread, which has only calls, performs them in order.
use Rattle.std.proofs.Common.{◌≡◌, ◌≢◌, ◌∙◌, refl, sym, ap, subst, ℕ, zero, suc, ◌+◌, ◌/◌, ◌<◌, List, [], ◌∷◌, ◌++◌, Bool, true, false, not, ◌&&◌, ◌||◌, ◌==◌, length, map, Option, None, Some, arith}
use Rattle.std.proofs.lemmas.Bool.{and_parts}
use Rattle.std.proofs.lemmas.Bool.Decides.{nat_tests}
use Rattle.std.proofs.lemmas.List.{length-append}
use Rattle.std.proofs.lemmas.List.Folds.{list_all-append}
use Rattle.std.specs.Prelude.{is_ok, nat_le, slice_get, slice_index, slice_index_or}
use Rattle.std.specs.List.{filter, list_all, list_any}
use Rattle.sb_actor.specs.Fitting.{Suits}
use Rattle.sb_actor.specs.Moves as moves
use Rattle.sb_actor.specs.Places.{block_of, clean_channels, clean_upto, mark_at, or_none, statement_at, threads_of}
use Rattle.sb_actor.specs.ThreadTable.{has_clean}
use Rattle.sb_block.specs.Blocks.{block}
use Rattle.sb_block.specs.Copies.{Copied, mark_of, whole}
use Rattle.sb_block.specs.Laws.{BlocksComeBack}
use Rattle.sb_book.specs.Decisions.{by_decoded, by_verdict, decision_of}
use Rattle.sb_book.specs.Histories.{IsEntry, IsLegalFrom, Setting, setting_of, space_after, space_from}
use Rattle.sb_book.specs.Readiness.{IsReady, is_judged}
use Rattle.sb_book.specs.declared.entries.Entry.{Entry}
use Rattle.sb_book.specs.declared.reports.Report.{Report}
use Rattle.sb_call.specs.declared.arguments.Arg.{Arg}
use Rattle.sb_call.specs.declared.tags.CallTag.{CallTag}
use Rattle.sb_core.specs.Fits.{Answered, Fits, RunsFit, by_entry, by_result, is_entry_of, results_at}
use Rattle.sb_core.specs.Runs.{ran}
use Rattle.sb_core.specs.Views.{OwnCall, own_from, own_if, own_of}
use Rattle.sb_kernel.specs.Namespaces.{Space}
use Rattle.sb_kernel.specs.Openings.{opened, opening}
use Rattle.sb_rule.specs.Verdicts.{policy_at, verdict_of}
use Rattle.sb_rule.specs.WellMade.{are_well_made}
use Rattle.sb_rule.specs.declared.policies.Policy.{Policy}
use Rattle.sb_statements.specs.Actors.{thread_count}
use Rattle.sb_statements.specs.Scripts.{is_clean, threads_write, writes_channel}
use Rattle.sb_statements.specs.SoundScripts.{IsSoundScript}
use Rattle.sb_statements.specs.Soundness.{channels_of, is_sound, is_statement, is_target, is_thread}
use Rattle.sb_statements.specs.Units.{statement_has_units, target_has_units, thread_has_units}
use Rattle.sb_statements.specs.declared.results.CallResult.{CallResult}
use Rattle.sb_statements.specs.declared.results.CallResult.TheVariants as call
use Rattle.sb_statements.specs.declared.results.StmtResult.{StmtResult}
use Rattle.sb_statements.specs.declared.results.StmtResult.TheVariants as result
use Rattle.sb_statements.specs.declared.scripts.Script.{Script}
use Rattle.sb_statements.specs.declared.scripts.TargetScript.{TargetScript}
use Rattle.sb_statements.specs.declared.statements.Statement.{Statement}
use Rattle.sb_statements.specs.declared.statements.Statement.TheVariants.{Call, Store, Exchange, Load, Wait}
use Rattle.sb_local.specs.Laws.{DeniedCallsChangeNothing, RunsOfOneThreadAreSerial, SettingsStay, ThinnedRunsAreSerial}
use Rattle.sb_local.specs.Serial.{HasOneThread, is_call, serial, serial_targets, serial_thread, serial_threads}
use Rattle.sb_local.specs.Thinning.{thin, thin_targets, thin_thread}
use Rattle.sb_local.proofs.Places.{plus_zero, zero_plus}
use Rattle.sb_local.proofs.Serially.{each_target}
use Rattle.sb_local.proofs.Sound.{all_sent, one_of_all}

-- The channels of such a script are clean.

both : (a b c : Bool) → a ≡ true → b ≡ true → c ≡ true → (a && (b && c)) ≡ true
both a b c f g h = rw (f, g, h) refl

no_thread_writes : (a c : ℕ) (ss : List Statement) → list_all is_call ss ≡ true → list_any (writes_channel a c) ss ≡ false
no_thread_writes a c [] h = refl
no_thread_writes a c (Call tag args ∷ ss) h = no_thread_writes a c ss h
no_thread_writes a c (Store t word v ∷ ss) h = absurd (cc)
no_thread_writes a c (Exchange t word from to ∷ ss) h = absurd (cc)
no_thread_writes a c (Load t word ∷ ss) h = absurd (cc)
no_thread_writes a c (Wait t word v most ∷ ss) h = absurd (cc)

none_writes : (a c : ℕ) (xs : List TargetScript) → ((m : ℕ) → threads_of (slice_get xs m) ≡ []) → list_any (λ x. threads_write a c x.threads) xs ≡ false
none_writes a c [] f = refl
none_writes a c (x ∷ xs) f =
    let e : x.threads ≡ [] = f 0 in
    ap (λ threads. threads_write a c threads || list_any (λ y. threads_write a c y.threads) xs) e ∙ none_writes a c xs (λ m. f (suc m))

one_writes : (a c : ℕ) (xs : List TargetScript) (t : ℕ) (ss : List Statement) → list_all is_call ss ≡ true → threads_of (slice_get xs t) ≡ ss ∷ []
    → ((u : ℕ) → u ≢ t → threads_of (slice_get xs u) ≡ []) → list_any (λ x. threads_write a c x.threads) xs ≡ false
one_writes a c [] t ss h e f = absurd (cc)
one_writes a c (x ∷ xs) zero ss h e f =
    let its : x.threads ≡ ss ∷ [] = e in
    ap (λ threads. threads_write a c threads || list_any (λ y. threads_write a c y.threads) xs) its
    ∙ ap (λ b. (b || false) || list_any (λ y. threads_write a c y.threads) xs) (no_thread_writes a c ss h)
    ∙ none_writes a c xs (λ m. f (suc m) (λ q. absurd (omega (arith, q))))
one_writes a c (x ∷ xs) (suc t) ss h e f =
    let its : x.threads ≡ [] = f 0 (λ q. absurd (omega (arith, q))) in
    ap (λ threads. threads_write a c threads || list_any (λ y. threads_write a c y.threads) xs) its
    ∙ one_writes a c xs t ss h e (λ u n. f (suc u) (λ q. n (omega (arith, q))))

all_clean : (script : Script) (t : ℕ) (ss : List Statement) → HasOneThread script t ss → (a c : ℕ) → is_clean script a c ≡ true
all_clean script t ss h a c = ap not (one_writes a c script.targets t ss h.calls h.its h.others)

upto_true : (script : Script) (a n : ℕ) → ((c : ℕ) → is_clean script a c ≡ true) → list_all (λ b. b) (clean_upto script a n) ≡ true
upto_true script a zero f = refl
upto_true script a (suc n) f = list_all-append (λ b. b) (clean_upto script a n) (is_clean script a n ∷ [])
    ∙ both (list_all (λ b. b) (clean_upto script a n)) (is_clean script a n) true (upto_true script a n f) (f n) refl

upto_length : (script : Script) (a n : ℕ) → length (clean_upto script a n) ≡ n
upto_length script a zero = refl
upto_length script a (suc n) = omega (arith, length-append (clean_upto script a n) (is_clean script a n ∷ []), upto_length script a n)

true_at : (clean : List Bool) (c : ℕ) → list_all (λ b. b) clean ≡ true → slice_index_or clean c true ≡ true
true_at [] c h = refl
true_at (b ∷ bs) zero h = (and_parts b (list_all (λ b. b) bs) h).0
true_at (b ∷ bs) (suc c) h = true_at bs c (and_parts b (list_all (λ b. b) bs) h).1

true_in : (clean : List Bool) (c : ℕ) → list_all (λ b. b) clean ≡ true → c < length clean → moves.is_clean clean c ≡ true
true_in [] c h l = absurd (omega arith)
true_in (b ∷ bs) zero h l = (and_parts b (list_all (λ b. b) bs) h).0
true_in (b ∷ bs) (suc c) h l = true_in bs c (and_parts b (list_all (λ b. b) bs) h).1 (omega arith)

has_one : (clean : List Bool) → list_all (λ b. b) clean ≡ true → 0 < length clean → has_clean clean ≡ true
has_one [] h l = absurd (omega arith)
has_one (b ∷ bs) h l = rw (and_parts b (list_all (λ b. b) bs) h).0 refl

-- Each of its calls has a reply, in order.

false_true : {X : Type 0} → (b : Bool) → b ≡ false → b ≡ true → X
false_true true e f = absurd (cc)
false_true false e f = absurd (cc)

pub record IsReplied (clean : List Bool) (block : List ℕ) (r : StmtResult) : Type 0 where
  pub own : OwnCall
  pub only : own_of clean block r ≡ own ∷ []
  pub same : own.block ≡ block

replied_call : (clean : List Bool) (mark : ℕ) (tag : CallTag) (args : List Arg) (r : CallResult) (block : List ℕ) → list_all (λ b. b) clean ≡ true
    → 0 < length clean → Suits clean mark (Call tag args) (result.Call r) → IsReplied clean block (result.Call r)
replied_call clean mark tag args (call.Reply c reply) block h l s = record {
  own = record { channel = c; block = block; reply = reply };
  only = ap (λ b. own_if b (record { channel = c; block = block; reply = reply })) (true_in clean c h s.0);
  same = refl;
}
replied_call clean mark tag args call.NoChannel block h l s = false_true (has_clean clean) s (has_one clean h l)
replied_call clean mark tag args (call.SendLost c found) block h l s = false_true (slice_index_or clean c true) s.0 (true_at clean c h)
replied_call clean mark tag args (call.Foreign c other) block h l s = false_true (slice_index_or clean c true) s.0 (true_at clean c h)
replied_call clean mark tag args (call.TimedOut c) block h l s = false_true (slice_index_or clean c true) s (true_at clean c h)

replied : (clean : List Bool) (mark : ℕ) (s : Statement) (r : StmtResult) (block : List ℕ) → list_all (λ b. b) clean ≡ true
    → 0 < length clean → is_call s ≡ true → Suits clean mark s r → IsReplied clean block r
replied clean mark (Call tag args) (result.Call r) block h l c s = replied_call clean mark tag args r block h l s
replied clean mark (Call tag args) result.Stored block h l c s = absurd s
replied clean mark (Call tag args) (result.Found n) block h l c s = absurd s
replied clean mark (Call tag args) (result.Met n) block h l c s = absurd s
replied clean mark (Call tag args) (result.Unmet n) block h l c s = absurd s
replied clean mark (Store t w v) r block h l c s = absurd (cc)
replied clean mark (Exchange t w from to) r block h l c s = absurd (cc)
replied clean mark (Load t w) r block h l c s = absurd (cc)
replied clean mark (Wait t w v most) r block h l c s = absurd (cc)

abbrev taken_of : Answered → Copied
taken_of a = a.taken

-- the copies of the calls of thread 0 from a place on
abbrev taken_from : ℕ → List Statement → List Copied
taken_from i [] = []
taken_from i (s ∷ ss) = whole (block_of (mark_at 0 i) (Some s)) ∷ taken_from (i + 1) ss

-- what is known of statements and results from a place on
record AreResults (script : Script) (t i : ℕ) (rs : List StmtResult) (ss : List Statement) : Type 0 where
  there : (j : ℕ) → statement_at script t 0 (i + j) ≡ slice_get ss j
  suit : (j : ℕ) (r : StmtResult) → slice_get rs j ≡ Some r → (s : Statement) × (slice_get ss j ≡ Some s) × Suits (clean_channels script t) (mark_at 0 (i + j)) s r
  each : (j : ℕ) (s : Statement) → slice_get ss j ≡ Some s → (r : StmtResult) × (slice_get rs j ≡ Some r)

shifted : (i j : ℕ) → i + suc j ≡ (i + 1) + j
shifted i j = omega arith

next_results : (script : Script) (t i : ℕ) (r : StmtResult) (rs : List StmtResult) (s : Statement) (ss : List Statement)
    → AreResults script t i (r ∷ rs) (s ∷ ss) → AreResults script t (i + 1) rs ss
next_results script t i r rs s ss h = record {
  there = λ j. subst (λ n. statement_at script t 0 n ≡ slice_get ss j) (shifted i j) (h.there (suc j));
  suit = λ j x e. let g = h.suit (suc j) x e in
      (g.0, g.1, subst (λ n. Suits (clean_channels script t) (mark_at 0 n) g.0 x) (shifted i j) g.2);
  each = λ j x e. h.each (suc j) x e;
}

some_same : {X : Type 0} (x y : X) → Some x ≡ Some y → x ≡ y
some_same x y e = cc

none_some : {X Y : Type 0} (x : X) → None ≡ Some x → Y
none_some x e = absurd (cc)

own_taken : (script : Script) (t : ℕ) → list_all (λ b. b) (clean_channels script t) ≡ true → 0 < length (clean_channels script t)
    → (i : ℕ) (rs : List StmtResult) (ss : List Statement) → AreResults script t i rs ss → list_all is_call ss ≡ true
    → map taken_of (map by_result (own_from script t 0 i rs)) ≡ taken_from i ss
own_taken script t clean some i [] [] h c = refl
own_taken script t clean some i [] (s ∷ ss) h c = let g = h.each 0 s refl in none_some g.0 g.1
own_taken script t clean some i (r ∷ rs) [] h c = let g = h.suit 0 r refl in none_some g.0 g.1
own_taken script t clean some i (r ∷ rs) (s ∷ ss) h c =
    let calls = and_parts (is_call s) (list_all is_call ss) c in
    let here : statement_at script t 0 i ≡ Some s = subst (λ n. statement_at script t 0 n ≡ Some s) (plus_zero i) (h.there 0) in
    let g = h.suit 0 r refl in
    let suits : Suits (clean_channels script t) (mark_at 0 (i + 0)) s r =
    subst (λ x. Suits (clean_channels script t) (mark_at 0 (i + 0)) x r) (sym (some_same s g.0 g.1)) g.2 in
    let one = replied (clean_channels script t) (mark_at 0 (i + 0)) s r (block_of (mark_at 0 i) (Some s)) clean some calls.0 suits in
    let more = own_taken script t clean some (i + 1) rs ss (next_results script t i r rs s ss h) calls.1 in
    ap (λ o. map taken_of (map by_result (own_of (clean_channels script t) (block_of (mark_at 0 i) o) r ++ own_from script t 0 (i + 1) rs))) here
    ∙ ap (λ xs. map taken_of (map by_result (xs ++ own_from script t 0 (i + 1) rs))) one.only
    ∙ ap (λ b. whole b ∷ map taken_of (map by_result (own_from script t 0 (i + 1) rs))) one.same
    ∙ ap (λ xs. whole (block_of (mark_at 0 i) (Some s)) ∷ xs) more

-- The entries are those of its calls.

legal_at : (setting : Setting) (space : Space) (es : List Entry) (n : ℕ) (e : Entry) → IsLegalFrom setting space es → slice_get es n ≡ Some e
    → (before : Space) × IsEntry setting before e
legal_at setting space [] n e h g = absurd (cc)
legal_at setting space (x ∷ es) zero e h g = (space, subst (λ y. IsEntry setting space y) (some_same x e g) h.0)
legal_at setting space (x ∷ es) (suc n) e h g = legal_at setting (space_after space x.target x.decision) es n e h.1 g

channel_in : (xs : List TargetScript) (u c : ℕ) → c < slice_index (map (λ x. x.channels) xs) u → u < length xs → c < channels_of (slice_get xs u)
channel_in [] u c h l = absurd (omega arith)
channel_in (x ∷ xs) zero c h l = h
channel_in (x ∷ xs) (suc u) c h l = channel_in xs u c h (omega arith)

mapped_length : {X Y : Type 0} (f : X → Y) (xs : List X) → length (map f xs) ≡ length xs
mapped_length f [] = refl
mapped_length f (x ∷ xs) = omega (arith, mapped_length f xs)

count_of : (o : Option TargetScript) → thread_count o ≡ length (threads_of o)
count_of None = refl
count_of (Some x) = refl

is_equal : (x y : ℕ) → x ≡ y → (x == y) ≡ true
is_equal x y e = grind (arith, nat_tests, e)

from_equal : (x y : ℕ) → (x == y) ≡ true → x ≡ y
from_equal x y e = grind (arith, nat_tests, e)

from_unequal : (x y : ℕ) → (x == y) ≡ false → x ≢ y
from_unequal x y e s = absurd (grind (arith, nat_tests, e, s))

its_count : (script : Script) (t : ℕ) (ss : List Statement) → HasOneThread script t ss → thread_count (slice_get script.targets t) ≡ 1
its_count script t ss h = count_of (slice_get script.targets t) ∙ ap (λ xs. length xs) h.its

other_count : (script : Script) (t : ℕ) (ss : List Statement) (u : ℕ) → HasOneThread script t ss → u ≢ t → thread_count (slice_get script.targets u) ≡ 0
other_count script t ss u h n = count_of (slice_get script.targets u) ∙ ap (λ xs. length xs) (h.others u n)

pub record IsOwn (script : Script) (t : ℕ) (e : Entry) : Type 0 where
  pub target : e.target ≡ t
  pub own : is_entry_of script t 0 e ≡ true

own_here : (script : Script) (t : ℕ) (ss : List Statement) (e : Entry) (k : ℕ) → HasOneThread script t ss
    → moves.is_clean (clean_channels script e.target) e.channel ≡ true
    → k < thread_count (slice_get script.targets e.target) → mark_of e.taken / 65536 ≡ k + 1 → e.target ≡ t → IsOwn script t e
own_here script t ss e k h clean l m q =
    let count = its_count script t ss h in
    let low : k < thread_count (slice_get script.targets t) = subst (λ u. k < thread_count (slice_get script.targets u)) q l in
    let bears : mark_of e.taken / 65536 ≡ 0 + 1 = omega (arith, m, low, count) in
    let its : moves.is_clean (clean_channels script t) e.channel ≡ true = subst (λ u. moves.is_clean (clean_channels script u) e.channel ≡ true) q clean in
    record {
      target = q;
      own = both (e.target == t) (moves.is_clean (clean_channels script t) e.channel) (mark_of e.taken / 65536 == 0 + 1)
          (is_equal e.target t q) its (is_equal (mark_of e.taken / 65536) (0 + 1) bears);
    }

own_by : (script : Script) (t : ℕ) (ss : List Statement) (e : Entry) (k : ℕ) (b : Bool) → (e.target == t) ≡ b → HasOneThread script t ss
    → moves.is_clean (clean_channels script e.target) e.channel ≡ true
    → k < thread_count (slice_get script.targets e.target) → mark_of e.taken / 65536 ≡ k + 1 → IsOwn script t e
own_by script t ss e k true q h clean l m = own_here script t ss e k h clean l m (from_equal e.target t q)
own_by script t ss e k false q h clean l m = absurd (omega (arith, l, other_count script t ss e.target h (from_unequal e.target t q)))

own_at : (script : Script) (t : ℕ) (ss : List Statement) (e : Entry) (k : ℕ) → HasOneThread script t ss
    → moves.is_clean (clean_channels script e.target) e.channel ≡ true
    → k < thread_count (slice_get script.targets e.target) → mark_of e.taken / 65536 ≡ k + 1 → IsOwn script t e
own_at script t ss e k h clean l m = own_by script t ss e k (e.target == t) refl h clean l m

own_entry : (policies : List Policy) (script : Script) (report : Report) (t : ℕ) (ss : List Statement) → HasOneThread script t ss
    → Fits policies script report → (n : ℕ) (e : Entry) → slice_get report.entries n ≡ Some e → IsOwn script t e
own_entry policies script report t ss h f n e g =
    let legal = legal_at (setting_of policies script) (opening script.start) report.entries n e f.history.legal g in
    let low : e.target < length script.targets =
    subst (λ n. e.target < n) (mapped_length (λ x. policy_at policies x.policy) script.targets) legal.1.target_there in
    let channel = channel_in script.targets e.target e.channel legal.1.channel_there low in
    let all = upto_true script e.target (channels_of (slice_get script.targets e.target)) (all_clean script t ss h e.target) in
    let many = upto_length script e.target (channels_of (slice_get script.targets e.target)) in
    let clean = true_in (clean_channels script e.target) e.channel all (subst (λ n. e.channel < n) (sym many) channel) in
    let o = f.own_replies.others n e g clean in
    own_at script t ss e o.0 h clean o.1 o.2

all_kept : {X : Type 0} (q : X → Bool) (xs : List X) → ((n : ℕ) (x : X) → slice_get xs n ≡ Some x → q x ≡ true) → filter q xs ≡ xs
all_kept q [] f = refl
all_kept q (x ∷ xs) f = rw (f 0 x refl) (ap (λ ys. x ∷ ys) (all_kept q xs (λ n y e. f (suc n) y e)))

-- What the calls lead to.

-- a call decodes to the same decision whatever its mark is
any_mark : BlocksComeBack → (policy : Policy) (targets : List TargetScript) (tag : CallTag) (args : List Arg) (mark : ℕ)
    → is_statement targets (Call tag args) ≡ true → statement_has_units (Call tag args) ≡ true
    → decision_of policy (whole (block tag args mark)) ≡ by_verdict tag args (verdict_of policy tag args)
any_mark back policy targets tag args mark sound units = ap (by_decoded policy) (back tag args mark sound units).1

head_same : {X : Type 0} (x y : X) (xs ys : List X) → x ∷ xs ≡ y ∷ ys → (x ≡ y) × (xs ≡ ys)
head_same x y xs ys e = (cc, cc)

space_serial : BlocksComeBack → (setting : Setting) (targets : List TargetScript) (t : ℕ) (es : List Entry) (ss : List Statement) (i : ℕ) (space : Space)
    → IsLegalFrom setting space es → ((n : ℕ) (e : Entry) → slice_get es n ≡ Some e → e.target ≡ t)
    → map taken_of (map by_entry es) ≡ taken_from i ss → list_all is_call ss ≡ true → list_all (is_statement targets) ss ≡ true
    → list_all statement_has_units ss ≡ true → space_from space es ≡ serial_thread (policy_at setting.policies t) t space ss
space_serial back setting targets t [] [] i space h f e c s u = refl
space_serial back setting targets t [] (x ∷ ss) i space h f e c s u = absurd (cc)
space_serial back setting targets t (x ∷ es) [] i space h f e c s u = absurd (cc)
space_serial back setting targets t (x ∷ es) (Store a w v ∷ ss) i space h f e c s u = absurd (cc)
space_serial back setting targets t (x ∷ es) (Exchange a w from to ∷ ss) i space h f e c s u = absurd (cc)
space_serial back setting targets t (x ∷ es) (Load a w ∷ ss) i space h f e c s u = absurd (cc)
space_serial back setting targets t (x ∷ es) (Wait a w v most ∷ ss) i space h f e c s u = absurd (cc)
space_serial back setting targets t (x ∷ es) (Call tag args ∷ ss) i space h f e c s u =
    let sound = and_parts (is_statement targets (Call tag args)) (list_all (is_statement targets) ss) s in
    let units = and_parts (statement_has_units (Call tag args)) (list_all statement_has_units ss) u in
    let parts = head_same x.taken (whole (block tag args (mark_at 0 i))) (map taken_of (map by_entry es)) (taken_from (i + 1) ss) e in
    let its : x.target ≡ t = f 0 x refl in
    let decided : x.decision ≡ decision_of (policy_at setting.policies t) (whole (block tag args 0)) =
    h.0.decided ∙ ap (λ n. decision_of (policy_at setting.policies n) x.taken) its
    ∙ ap (decision_of (policy_at setting.policies t)) parts.0
    ∙ any_mark back (policy_at setting.policies t) targets tag args (mark_at 0 i) sound.0 units.0
    ∙ sym (any_mark back (policy_at setting.policies t) targets tag args 0 sound.0 units.0) in
    let same : space_after space x.target x.decision ≡ space_after space t (decision_of (policy_at setting.policies t) (whole (block tag args 0))) =
    ap (λ n. space_after space n x.decision) its ∙ ap (space_after space t) decided in
    let more = space_serial back setting targets t es ss (i + 1) (space_after space x.target x.decision) h.1 (λ n y g. f (suc n) y g) parts.1
    (and_parts (is_call (Call tag args)) (list_all is_call ss) c).1 sound.1 units.1 in
    more ∙ ap (λ sp. serial_thread (policy_at setting.policies t) t sp ss) same

-- The namespace of the script is that of its thread.

serial_none : (policies : List Policy) (u : ℕ) (space : Space) (xs : List TargetScript) → ((m : ℕ) → threads_of (slice_get xs m) ≡ [])
    → serial_targets policies u space xs ≡ space
serial_none policies u space [] f = refl
serial_none policies u space (x ∷ xs) f =
    let e : x.threads ≡ [] = f 0 in
    ap (λ threads. serial_targets policies (u + 1) (serial_threads (policy_at policies u) u space threads) xs) e
    ∙ serial_none policies (u + 1) space xs (λ m. f (suc m))

serial_one : (policies : List Policy) (u : ℕ) (space : Space) (xs : List TargetScript) (t : ℕ) (ss : List Statement) → threads_of (slice_get xs t) ≡ ss ∷ []
    → ((v : ℕ) → v ≢ t → threads_of (slice_get xs v) ≡ []) → serial_targets policies u space xs ≡ serial_thread (policy_at policies (u + t)) (u + t) space ss
serial_one policies u space [] t ss e f = absurd (cc)
serial_one policies u space (x ∷ xs) zero ss e f =
    let its : x.threads ≡ ss ∷ [] = e in
    let at : u ≡ u + 0 = omega arith in
    ap (λ threads. serial_targets policies (u + 1) (serial_threads (policy_at policies u) u space threads) xs) its
    ∙ serial_none policies (u + 1) (serial_thread (policy_at policies u) u space ss) xs (λ m. f (suc m) (λ q. absurd (omega (arith, q))))
    ∙ ap (λ n. serial_thread (policy_at policies n) n space ss) at
serial_one policies u space (x ∷ xs) (suc t) ss e f =
    let its : x.threads ≡ [] = f 0 (λ q. absurd (omega (arith, q))) in
    let at : (u + 1) + t ≡ u + suc t = omega arith in
    ap (λ threads. serial_targets policies (u + 1) (serial_threads (policy_at policies u) u space threads) xs) its
    ∙ serial_one policies (u + 1) space xs t ss e (λ v n. f (suc v) (λ q. n (omega (arith, q))))
    ∙ ap (λ n. serial_thread (policy_at policies n) n space ss) at

-- The law.

zero_one : 0 < 1
zero_one = omega arith

target_of : (o : Option TargetScript) (ss : List Statement) → threads_of o ≡ ss ∷ [] → (x : TargetScript) × (o ≡ Some x) × (x.threads ≡ ss ∷ [])
target_of None ss e = absurd (cc)
target_of (Some x) ss e = (x, refl, e)

statements_are : (script : Script) (t : ℕ) (ss : List Statement) → HasOneThread script t ss → (j : ℕ) → statement_at script t 0 j ≡ slice_get ss j
statements_are script t ss h j = ap (λ threads. slice_get (or_none (slice_get threads 0)) j) h.its

its_results : (policies : List Policy) (script : Script) (report : Report) (t : ℕ) (ss : List Statement) → HasOneThread script t ss
    → Fits policies script report → AreResults script t 0 (results_at report.results t 0) ss
its_results policies script report t ss h f = record {
  there = λ j. subst (λ n. statement_at script t 0 n ≡ slice_get ss j) (sym (zero_plus j)) (statements_are script t ss h j);
  suit = λ j r e. let g = f.suit t 0 j r e in (
    g.0,
    sym (statements_are script t ss h j) ∙ g.1,
    subst (λ n. Suits (clean_channels script t) (mark_at 0 n) g.0 r) (sym (zero_plus j)) g.2,
  );
  each = λ j s e. f.whole_results.each t 0 j s (statements_are script t ss h j ∙ e);
}

pub is_sound_of : (policies : List Policy) (script : Script) → IsReady policies script → is_sound script ≡ true
is_sound_of policies script r =
    let judges = list_all (is_judged (length policies)) script.targets in
    let parts = and_parts (is_sound script && are_well_made policies && judges) (is_ok (opened script.start)) r.ready in
    (and_parts (is_sound script) (are_well_made policies) (and_parts (is_sound script && are_well_made policies) judges parts.0).0).0

one_target : (targets : List TargetScript) (x : TargetScript) (ss : List Statement) → is_target targets x ≡ true → x.threads ≡ ss ∷ []
    → (0 < x.channels) × (list_all (is_statement targets) ss ≡ true)
one_target targets x ss h e =
    let few = nat_le (length x.threads) 4 in
    let parts = and_parts (nat_le 1 x.channels && nat_le x.channels 8 && few) (list_all (is_thread targets) x.threads) h in
    let low = and_parts (nat_le 1 x.channels && nat_le x.channels 8) few parts.0 in
    let one = (and_parts (nat_le 1 x.channels) (nat_le x.channels 8) low.0).0 in
    let threads = one_of_all (is_thread targets) x.threads 0 ss parts.1 (ap (λ xs. slice_get xs 0) e) in
    (grind (arith, nat_tests, one), (and_parts (nat_le (length ss) 4096) (list_all (is_statement targets) ss) threads).1)

fits_serial : BlocksComeBack → (policies : List Policy) (script : Script) (report : Report) (t : ℕ) (ss : List Statement) → HasOneThread script t ss
    → IsReady policies script → Fits policies script report → report.kernel ≡ serial (setting_of policies script).policies script
fits_serial back policies script report t ss h r f =
    let sound = is_sound_of policies script r in
    let x = target_of (slice_get script.targets t) ss h.its in
    let target = one_of_all (is_target script.targets) script.targets t x.0 (each_target script sound) x.1 in
    let one = one_target script.targets x.0 ss target x.2 in
    let target_units = one_of_all target_has_units script.targets t x.0 r.units x.1 in
    let units = one_of_all thread_has_units x.0.threads 0 ss target_units (ap (λ xs. slice_get xs 0) x.2) in
    let clean = upto_true script t (channels_of (slice_get script.targets t)) (all_clean script t ss h t) in
    let many = upto_length script t (channels_of (slice_get script.targets t)) in
    let channels = ap channels_of x.1 in
    let copies = own_taken script t clean (subst (λ n. 0 < n) (sym (many ∙ channels)) one.0) 0 (results_at report.results t 0) ss (its_results policies script report t ss h f) h.calls in
    let own = f.own_replies.own t 0 (subst (λ n. 0 < n) (sym (its_count script t ss h)) zero_one) in
    let all = all_kept (is_entry_of script t 0) report.entries (λ n e g. (own_entry policies script report t ss h f n e g).own) in
    let taken : map taken_of (map by_entry report.entries) ≡ taken_from 0 ss =
    ap (λ es. map taken_of (map by_entry es)) (sym all) ∙ ap (λ xs. map taken_of xs) own ∙ copies in
    let led = space_serial back (setting_of policies script) script.targets t report.entries ss 0 (opening script.start) f.history.legal
    (λ n e g. (own_entry policies script report t ss h f n e g).target) taken h.calls one.1 units in
    let its = serial_one (setting_of policies script).policies 0 (opening script.start) script.targets t ss h.its h.others in
    let at : 0 + t ≡ t = omega arith in
    f.history.led ∙ led
    ∙ sym (its ∙ ap (λ n. serial_thread (policy_at (setting_of policies script).policies n) n (opening script.start) ss) at)

pub runs_are_serial : BlocksComeBack → RunsFit → RunsOfOneThreadAreSerial
runs_are_serial back fit policies script schedule t ss h can done =
    fits_serial back policies script (ran policies script schedule).report t ss h can.ready (fit policies script schedule can done)

-- and of a thinned script

threads_thinned : (policies : List Policy) (u : ℕ) (xs : List TargetScript) (t : ℕ)
    → threads_of (slice_get (thin_targets policies u xs) t) ≡ map (thin_thread (policy_at policies (u + t))) (threads_of (slice_get xs t))
threads_thinned policies u [] t = refl
threads_thinned policies u (x ∷ xs) zero =
    let at : u ≡ u + 0 = omega arith in
    ap (λ n. map (thin_thread (policy_at policies n)) x.threads) at
threads_thinned policies u (x ∷ xs) (suc t) =
    let at : (u + 1) + t ≡ u + suc t = omega arith in
    threads_thinned policies (u + 1) xs t ∙ ap (λ n. map (thin_thread (policy_at policies n)) (threads_of (slice_get xs t))) at

one_thinned : (policies : List Policy) (script : Script) (t : ℕ) (ss : List Statement) → HasOneThread script t ss
    → HasOneThread (thin policies script).script t (thin_thread (policy_at policies (0 + t)) ss)
one_thinned policies script t ss h = record {
  its = threads_thinned policies 0 script.targets t ∙ ap (λ threads. map (thin_thread (policy_at policies (0 + t))) threads) h.its;
  others = λ u n. threads_thinned policies 0 script.targets u ∙ ap (λ threads. map (thin_thread (policy_at policies (0 + u))) threads) (h.others u n);
  calls = all_sent is_call (policy_at policies (0 + t)) ss h.calls;
}

abbrev policies_in : Setting → List Policy
policies_in s = s.policies

pub thinned_runs_are_serial : RunsOfOneThreadAreSerial → DeniedCallsChangeNothing → SettingsStay → ThinnedRunsAreSerial
thinned_runs_are_serial runs nothing settings policies script schedule t ss r h can done =
    let one = one_thinned (setting_of policies script).policies script t ss h in
    let its = runs policies (thin (setting_of policies script).policies script).script schedule t
    (thin_thread (policy_at (setting_of policies script).policies (0 + t)) ss) one can done in
    let sound : IsSoundScript script = record { sound = is_sound_of policies script r; units = r.units; short = r.short } in
    its
    ∙ ap (λ s. serial (policies_in s) (thin (setting_of policies script).policies script).script) (settings (setting_of policies script).policies policies script)
    ∙ nothing (setting_of policies script).policies script sound
