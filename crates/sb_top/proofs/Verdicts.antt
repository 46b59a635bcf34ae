-- Results of calls on clean channels, and the decisions that their statements lead to.
use Rattle.std.proofs.Common.{◌≡◌, ◌∙◌, refl, ap, sym, subst, ℕ, zero, suc, ◌+◌, ◌<◌, Bool, true, false, ◌&&◌, ◌||◌, true≢false, List, [], ◌∷◌, length, map, get_or, Option, Some, None, slice_get, arith}
use Rattle.std.specs.List.{count_by, list_all, list_any}
use Rattle.std.proofs.lemmas.Bool.{and_parts}
use Rattle.std.proofs.lemmas.List.{map-append}
use Rattle.std.proofs.lemmas.List.Folds.{list_all-append}
use Rattle.std.proofs.lemmas.List.Sums.{sum_by-append}
use Rattle.std.proofs.lemmas.List.{length-append}
use Rattle.sb_actor.specs.Fitting.{Suits}
use Rattle.sb_actor.specs.Places.{block_of, clean_channels, clean_upto, mark_at, statement_at}
use Rattle.sb_actor.specs.ThreadTable.{has_clean}
use Rattle.sb_block.specs.Blocks.{block, encodes, has_units}
use Rattle.sb_block.specs.Copies.{whole}
use Rattle.sb_block.specs.Laws.{BlocksComeBack}
use Rattle.sb_book.specs.Decisions.{by_decoded, decision_of}
use Rattle.sb_book.specs.declared.decisions.Decision.{Decision}
use Rattle.sb_call.specs.declared.arguments.Arg.{Arg}
use Rattle.sb_call.specs.declared.replies.Reply.{Reply as ReplyOf}
use Rattle.sb_call.specs.declared.tags.CallTag.{CallTag}
use Rattle.sb_core.specs.Fits.{Answered, by_result}
use Rattle.sb_core.specs.Views.{OwnCall, own_from, own_if, own_of}
use Rattle.sb_rule.specs.declared.policies.Policy.{Policy}
use Rattle.sb_statements.specs.Scripts.{is_clean}
use Rattle.sb_statements.specs.declared.results.CallResult.TheVariants.{Reply, NoChannel, SendLost, Foreign, TimedOut}
use Rattle.sb_statements.specs.declared.results.StmtResult.{StmtResult}
use Rattle.sb_statements.specs.declared.results.StmtResult.TheVariants as result
use Rattle.sb_statements.specs.declared.scripts.Script.{Script}
use Rattle.sb_statements.specs.declared.statements.Statement.{Statement}
use Rattle.sb_statements.specs.declared.statements.Statement.TheVariants.{Call, Store, Exchange, Load, Wait}
use Rattle.sb_top.specs.Totals.{AllClean, is_decided}
use Rattle.sb_top.proofs.Sums.{count_first, tally}

-- ---- channels that are all clean

abbrev pub AreTrue : List Bool → Type 0
AreTrue marks = list_all (λ mark. mark) marks ≡ true

pub both_true : (a b : Bool) → a ≡ true → b ≡ true → (a && b) ≡ true
both_true a b ha hb = rw (ha, hb) refl

pub true_upto : (script : Script) → AllClean script → (t n : ℕ) → AreTrue (clean_upto script t n)
true_upto script clean t zero = refl
true_upto script clean t (suc n) =
    list_all-append (λ mark. mark) (clean_upto script t n) (is_clean script t n ∷ [])
    ∙ both_true _ _ (true_upto script clean t n) (both_true (is_clean script t n) true (clean t n) refl)

pub length_upto : (script : Script) (t n : ℕ) → length (clean_upto script t n) ≡ n
length_upto script t zero = refl
length_upto script t (suc n) =
    let joined = length-append (clean_upto script t n) (is_clean script t n ∷ []) in
    let one : length (is_clean script t n ∷ []) ≡ 1 = refl in
    let rest = length_upto script t n in
    omega (arith, joined, one, rest)

pub true_at : (marks : List Bool) (c : ℕ) → AreTrue marks → c < length marks → get_or marks c false ≡ true
true_at [] c h l = absurd (omega (arith, l))
true_at (mark ∷ marks) zero h l = (and_parts mark (list_all (λ mark. mark) marks) h).0
true_at (mark ∷ marks) (suc c) h l = true_at marks c (and_parts mark (list_all (λ mark. mark) marks) h).1 (omega (arith, l))

never_false : (marks : List Bool) (c : ℕ) → AreTrue marks → get_or marks c true ≡ true
never_false [] c h = refl
never_false (mark ∷ marks) zero h = (and_parts mark (list_all (λ mark. mark) marks) h).0
never_false (mark ∷ marks) (suc c) h = never_false marks c (and_parts mark (list_all (λ mark. mark) marks) h).1

pub some_true : (marks : List Bool) → AreTrue marks → 0 < length marks → has_clean marks ≡ true
some_true [] h l = absurd (omega (arith, l))
some_true (mark ∷ marks) h l = by mark (and_parts mark (list_all (λ mark. mark) marks) h).0
  where
    by : (b : Bool) → b ≡ true → (b || list_any (λ mark. mark) marks) ≡ true
    by true e = refl
    by false e = absurd (true≢false (sym e))

-- ---- a thread of calls

-- a statement is a call that encodes, with strings of units
abbrev pub IsCall : Statement → Type 0
IsCall (Call tag args) = (encodes tag args ≡ true) × (list_all has_units args ≡ true)
IsCall (Store target word value) = ⊥
IsCall (Exchange target word from to) = ⊥
IsCall (Load target word) = ⊥
IsCall (Wait target word value most) = ⊥

abbrev or_else : {X : Type 0} → X → Option X → X
or_else d None = d
or_else d (Some x) = x

pub some_same : {X : Type 0} (a b : X) → Some a ≡ Some b → a ≡ b
some_same a b e = ap (or_else a) e

-- the decision on what was taken
abbrev pub leads : (Decision → Bool) → Policy → Answered → Bool
leads is_such policy a = is_such (decision_of policy a.taken)

module _ (come : BlocksComeBack) (is_such : Decision → Bool) (policy : Policy) (clean : List Bool) (all : AreTrue clean) (some : has_clean clean ≡ true) where
  -- the whole block of a call leads to what its verdict decides
  decides : (tag : CallTag) (args : List Arg) (mark : ℕ) → encodes tag args ≡ true → list_all has_units args ≡ true
      → is_such (decision_of policy (whole (block tag args mark))) ≡ is_decided is_such policy (Call tag args)
  decides tag args mark e u = ap (λ r. is_such (by_decoded policy r)) (come tag args mark e u).1

  -- one reply, on a channel that is there
  replied : (tag : CallTag) (args : List Arg) (mark c : ℕ) (reply : ReplyOf) → encodes tag args ≡ true → list_all has_units args ≡ true → c < length clean
      → count_by (leads is_such policy) (map by_result (own_of clean (block_of mark (Some (Call tag args))) (result.Call (Reply c reply))))
      ≡ tally (is_decided is_such policy (Call tag args))
  replied tag args mark c reply e u l =
      let x : OwnCall = record { channel = c; block = block tag args mark; reply = reply } in
      let one = count_first (leads is_such policy) (by_result x) [] in
      ap (λ b. count_by (leads is_such policy) (map by_result (own_if b x))) (true_at clean c all l)
      ∙ (one ∙ (ap (λ b. tally b + 0) (decides tag args mark e u) ∙ plain (tally (is_decided is_such policy (Call tag args)))))
    where
      plain : (a : ℕ) → a + 0 ≡ a
      plain a = omega arith

  -- the result of a call is a reply on a clean channel
  one_result : (s : Statement) (r : StmtResult) (mark : ℕ) → IsCall s → Suits clean mark s r
      → count_by (leads is_such policy) (map by_result (own_of clean (block_of mark (Some s)) r)) ≡ tally (is_decided is_such policy s)
  one_result (Call tag args) (result.Call (Reply c reply)) mark good suits = replied tag args mark c reply good.0 good.1 suits.0
  one_result (Call tag args) (result.Call NoChannel) mark good suits = absurd (true≢false (sym some ∙ suits))
  one_result (Call tag args) (result.Call (SendLost c found)) mark good suits = absurd (true≢false (sym (never_false clean c all) ∙ suits.0))
  one_result (Call tag args) (result.Call (Foreign c other)) mark good suits = absurd (true≢false (sym (never_false clean c all) ∙ suits.0))
  one_result (Call tag args) (result.Call (TimedOut c)) mark good suits = absurd (true≢false (sym (never_false clean c all) ∙ suits))
  one_result (Call tag args) result.Stored mark good suits = absurd suits
  one_result (Call tag args) (result.Found n) mark good suits = absurd suits
  one_result (Call tag args) (result.Met loads) mark good suits = absurd suits
  one_result (Call tag args) (result.Unmet loads) mark good suits = absurd suits
  one_result (Store target word value) r mark good suits = absurd good
  one_result (Exchange target word from to) r mark good suits = absurd good
  one_result (Load target word) r mark good suits = absurd good
  one_result (Wait target word value most) r mark good suits = absurd good

-- the results of a thread from a place on, one for each of its statements from there on
pub thread_leads : (come : BlocksComeBack) (is_such : Decision → Bool) (policy : Policy) (script : Script) (t k i : ℕ) (rs : List StmtResult) (sts : List Statement)
    → AreTrue (clean_channels script t) → has_clean (clean_channels script t) ≡ true → length rs ≡ length sts
    → ((j : ℕ) → statement_at script t k (i + j) ≡ slice_get sts j)
    → ((j : ℕ) (s : Statement) → slice_get sts j ≡ Some s → IsCall s)
    → ((j : ℕ) (r : StmtResult) → slice_get rs j ≡ Some r
    → (s : Statement) × (statement_at script t k (i + j) ≡ Some s) × Suits (clean_channels script t) (mark_at k (i + j)) s r)
    → count_by (leads is_such policy) (map by_result (own_from script t k i rs)) ≡ count_by (is_decided is_such policy) sts
thread_leads come is_such policy script t k i [] [] all some n here good suits = refl
thread_leads come is_such policy script t k i [] (s ∷ sts) all some n here good suits = absurd (omega (arith, n))
thread_leads come is_such policy script t k i (r ∷ rs) [] all some n here good suits = absurd (omega (arith, n))
thread_leads come is_such policy script t k i (r ∷ rs) (s ∷ sts) all some n here good suits =
    let clean = clean_channels script t in
    let start : i + 0 ≡ i = omega arith in
    let at : statement_at script t k i ≡ Some s = subst (λ m. statement_at script t k m ≡ Some s) start (here 0) in
    let found = suits 0 r refl in
    let same : found.0 ≡ s = some_same found.0 s (sym found.1 ∙ here 0) in
    let suit : Suits clean (mark_at k i) s r =
    subst (λ m. Suits clean (mark_at k m) s r) start (subst (λ z. Suits clean (mark_at k (i + 0)) z r) same found.2) in
    let head = own_of clean (block_of (mark_at k i) (statement_at script t k i)) r in
    let first : count_by (leads is_such policy) (map by_result head) ≡ tally (is_decided is_such policy s) =
    ap (λ o. count_by (leads is_such policy) (map by_result (own_of clean (block_of (mark_at k i) o) r))) at
    ∙ one_result come is_such policy clean all some s r (mark_at k i) (good 0 s refl) suit in
    let rest = thread_leads come is_such policy script t k (i + 1) rs sts all some (omega (arith, n))
    (λ j. subst (λ m. statement_at script t k m ≡ slice_get sts j) (shift j) (here (suc j)))
    (λ j z. good (suc j) z)
    (λ j z e. let x = suits (suc j) z e in (
      x.0,
      subst (λ m. statement_at script t k m ≡ Some x.0) (shift j) x.1,
      subst (λ m. Suits clean (mark_at k m) x.0 z) (shift j) x.2,
    )) in
    ap (λ l. count_by (leads is_such policy) l) (map-append by_result head (own_from script t k (i + 1) rs))
    ∙ (sum_by-append (λ a. tally (leads is_such policy a)) (map by_result head) (map by_result (own_from script t k (i + 1) rs))
    ∙ ((λ d. first d + rest d) ∙ sym (count_first (is_decided is_such policy) s sts)))
  where
    shift : (j : ℕ) → i + suc j ≡ i + 1 + j
    shift j = omega arith
