-- A step of a thread keeps what every world keeps, and what a world keeps of its script.
use Rattle.std.proofs.Common.{◌≡◌, ◌∙◌, refl, ap, subst, sym, ℕ, zero, suc, ◌+◌, ◌<◌, ◌≤◌, Bool, true, List, [], ◌∷◌, ◌++◌, length, length-append, length-set, set, get_or, Option, None, Some, IfSome, is_none, slice_get, lit≤, lit<, arith, false, ◌&&◌, ◌==◌}
use Rattle.sb_core.proofs.Names.{Abandon, abandoned, Act, and_parts, block, block_of, CallResult, changed, channels_at, ends, exchanged, first_stage, Free, goes_on, has_word, HasRoom, is_call, is_calling, is_holder, is_over, is_patience, is_result_of, is_sound, is_statement, IsActThere, IsAtStatement, IsRunning, IsRunOf, IsSoundThreadStage, IsWorkerOf, IsWorld, loaded, mark_at, nat_le, nat_tests, no_run, Observation, on_word, option_to_list, place_of, read_reply, run_at, RunAt, Script, Send, Sets, SharedAt, slice_index, SoundStatements, SoundTargets, Statement, statement_at, statements_of, step, StmtResult, stored, Stray, TargetScript, Thread, thread_after, thread_plan, thread_step, ThreadAt, ThreadNext, threads_at, ThreadStage, Wait, Word, words_of, worker_at, WorldAt}
use Rattle.sb_actor.specs.ThreadStages.{Try, Fill, Fetch}
use Rattle.sb_actor.specs.declared.acts.Act.TheVariants as act
use Rattle.sb_call.specs.Arguments.{fits}
use Rattle.sb_statements.specs.Limits.{most_statements}
use Rattle.sb_statements.specs.declared.results.CallResult.TheVariants as call
use Rattle.sb_statements.specs.declared.results.StmtResult.TheVariants as result
use Rattle.sb_statements.specs.declared.statements.Statement.TheVariants as statement
use Rattle.sb_core.proofs.Bounds.{few_statements, ready_sound, some_patience}
use Rattle.sb_core.proofs.Sets.{each_set, lengths_set, sizes_set}
use Rattle.sb_core.proofs.Existence.{listed, sound_at, thread_there, run_kept, worker_kept}
use Rattle.sb_core.proofs.ThreadRows.{IsOwnResult, CallRows, DirectRows, walk}

-- a statement that is there has a place before the end
pub within : {X : Type 0} (xs : List X) (i : ℕ) (x : X) → slice_get xs i ≡ Some x → i < length xs
within [] i x e = absurd (cc)
within (y ∷ ys) zero x e = omega arith
within (y ∷ ys) (suc i) x e = let l = within ys i x e in omega (arith, l)

-- the beginning of a sound statement
module _ (targets : List TargetScript) (channels patience mark : ℕ) (some : 0 < channels) (waits : 0 < patience) where
  pub first_sound : (o : Option Statement) → IfSome o (λ s. is_statement targets s ≡ true) → IsSoundThreadStage channels patience (block_of mark o) (first_stage o)
  first_sound (Some (statement.Call tag args)) h = (some, waits, filled (length (block tag args mark)) refl)
    where
      filled : (n : ℕ) → n ≡ length (block tag args mark) → 0 < length (block tag args mark)
      filled n e = omega arith
  first_sound (Some (statement.Wait t word value most)) h =
      let bounds = (and_parts (has_word targets t word) (is_patience most) h).1 in
      let low = (and_parts (nat_le 1 most) (nat_le most 1000000) bounds).0 in
      grind (arith, nat_tests, low)
  first_sound None h = tt
  first_sound _ h = lit< tt

  pub first_short : (o : Option Statement) → IfSome o (λ s. is_statement targets s ≡ true) → length (block_of mark o) ≤ 64
  first_short (Some (statement.Call tag args)) h =
      let low = (and_parts (fits tag args) (nat_le (length (block tag args 0)) 64) h).1 in
      let same : length (block tag args mark) ≡ length (block tag args 0) = refl in
      at_most (length (block tag args mark)) (rw same low)
    where
      at_most : (n : ℕ) → nat_le n 64 ≡ true → n ≤ 64
      at_most n e = grind (arith, nat_tests)
  first_short _ h = lit≤ tt

pub first_calling : (o : Option Statement) → is_calling (first_stage o) ≡ is_call o
first_calling (Some (statement.Call tag args)) = refl
first_calling _ = refl

pub first_over : (o : Option Statement) → is_over (first_stage o) ≡ is_none o
first_over (Some (statement.Call tag args)) = refl
first_over _ = refl

-- What a step of a thread leads to: the same thread, at the same statement or at the beginning of the next, with its numbers in range, and with a
-- result of its own statement if that ended
pub record Leads (script : Script) (x : ThreadAt) (n : ThreadNext) : Type 0 where
  pub its_target : n.thread.target ≡ x.target
  pub its_number : n.thread.thread ≡ x.thread
  pub its_clean : n.thread.clean ≡ x.clean
  pub short : length n.thread.block ≤ 64
  pub sound : IsSoundThreadStage (length n.thread.clean) n.thread.patience n.thread.block n.thread.stage
  pub stands : IsAtStatement script n.thread
  pub counted : n.thread.place ≡ x.place + length (option_to_list n.ended)
  pub own : IfSome n.ended (λ r. IsOwnResult script x r)

module _ (script : Script) (x : ThreadAt) (sound : is_sound script ≡ true) (law : SoundStatements) (some : 0 < length x.clean) (waits : 0 < x.patience)
    (short : length x.block ≤ 64) (at : IsAtStatement script x) where
  abbrev here : Option Statement
  here = statement_at script x.target x.thread x.place

  goes_leads : (s : ThreadStage) → IsSoundThreadStage (length x.clean) x.patience x.block s → is_calling s ≡ is_call here → is_over s ≡ is_none here → Leads script x (goes_on x s)
  goes_leads s stage calling over = record {
    its_target = refl;
    its_number = refl;
    its_clean = refl;
    short = short;
    sound = stage;
    stands = record { place = at.place; calling = calling; over = over; block = at.block; patience = at.patience; clean = at.clean };
    counted = none x.place;
    own = tt;
  }
    where
      none : (n : ℕ) → n ≡ n + 0
      none n = omega arith

  ends_leads : (r : StmtResult) → IsOwnResult script x r → Leads script x (ends script x r)
  ends_leads r own =
      let next = statement_at script x.target x.thread (x.place + 1) in
      let good = sound_at script x.target x.thread (x.place + 1) sound law in
      let inside = within (statements_of script x.target x.thread) x.place own.0 own.1 in
      record {
        its_target = refl;
        its_number = refl;
        its_clean = refl;
        short = first_short script.targets (length x.clean) x.patience (mark_at x.thread (x.place + 1)) some waits next good;
        sound = first_sound script.targets (length x.clean) x.patience (mark_at x.thread (x.place + 1)) some waits next good;
        stands = record {
          place = omega (arith, inside);
          calling = first_calling next;
          over = first_over next;
          block = refl;
          patience = at.patience;
          clean = at.clean;
        };
        counted = refl;
        own = own;
      }

  module _ (calls : is_call here ≡ true) where
    call_goes : (s : ThreadStage) → IsSoundThreadStage (length x.clean) x.patience x.block s → is_calling s ≡ true → is_over s ≡ false → Leads script x (goes_on x s)
    call_goes s stage calling over = goes_leads s stage (calling ∙ sym calls) (over ∙ sym (is_there here calls))
      where
        is_there : (o : Option Statement) → is_call o ≡ true → is_none o ≡ false
        is_there (Some s) e = refl
        is_there None e = absurd (cc)

    call_ends : (r : CallResult) → Leads script x (ends script x (result.Call r))
    call_ends r = ends_leads (result.Call r) (of_call here calls)
      where
        of_call : (o : Option Statement) → is_call o ≡ true → (s : Statement) × (o ≡ Some s) × (is_result_of s (result.Call r) ≡ true)
        of_call (Some (statement.Call tag args)) e = (statement.Call tag args, refl, refl)
        of_call _ e = absurd (cc)

    call_leads : CallRows script x (λ stage n next. Leads script x next)
    call_leads = record {
      took = λ c r n a w b. call_goes (Fill c 0) (w, b) refl refl;
      tried = λ c r n a w p b. call_goes (Try (c + 1) r (a && n == abandoned)) (w, p, b) refl refl;
      round = λ c r m n a w p b. call_goes (Try 0 m true) (w, p, b) refl refl;
      none = λ c r n a e h. call_ends call.NoChannel;
      filled = λ c i n w l. call_goes (Fill c (i + 1)) (w, l) refl refl;
      whole = λ c i n w. call_goes (Send c) w refl refl;
      sent = λ c n w. call_goes (Wait c 0) (w, waits) refl refl;
      lost = λ c n w e. call_ends (call.SendLost c n);
      replied = λ c l n w. call_goes (Fetch c []) (w, lit< tt) refl refl;
      waits_on = λ c l m n w p. call_goes (Wait c m) (w, p) refl refl;
      tired = λ c l n w. call_goes (Abandon c) w refl refl;
      fetched = λ c n ws w l. call_goes (Fetch c (ws ++ n ∷ [])) (w, l) refl refl;
      read = λ c n ws w e. call_goes (Free c (ws ++ n ∷ [])) (w, e) refl refl;
      own = λ c n ws w e m. call_ends (call.Reply c (read_reply ws));
      foreign = λ c n ws w e m. call_ends (call.Foreign c (slice_index ws 0));
      given_up = λ c n w. call_ends (call.TimedOut c);
    }

  direct_leads : DirectRows script x (λ stage n next. Leads script x next)
  direct_leads = record {
    store_ends = λ l m n t w v e. ends_leads result.Stored (statement.Store t w v, e, refl);
    exchange_ends = λ l m n t w from to e. ends_leads (result.Found n) (statement.Exchange t w from to, e, refl);
    load_ends = λ l m n t w e. ends_leads (result.Found n) (statement.Load t w, e, refl);
    met = λ l m n t w v k e low. ends_leads (result.Met (l + 1)) (statement.Wait t w v k, e, refl);
    unmet = λ l m n t w v k e last. ends_leads (result.Unmet m) (statement.Wait t w v k, e, refl);
    again = λ l m n t w v k e low. goes_leads (Stray (l + 1) m) low (sym (ap (λ o. is_call o) e)) (sym (ap (λ o. is_none o) e));
  }

  pub leads : IsSoundThreadStage (length x.clean) x.patience x.block x.stage → (seen : Observation) → Leads script x (thread_after script x seen)
  leads s seen =
      walk script x (λ stage n next. Leads script x next) call_leads direct_leads (λ n. goes_leads x.stage s at.calling at.over) x.stage s at.calling at.over seen

-- A step on words leaves their sizes, the book and the turn
pub record KeepsSizes (s u : SharedAt) : Type 0 where
  pub book : u.book ≡ s.book
  pub turn : u.turn ≡ s.turn
  pub count : length u.words ≡ length s.words
  pub sizes : (t : ℕ) → length (words_of u.words t) ≡ length (words_of s.words t)

same_sizes : (s : SharedAt) → KeepsSizes s s
same_sizes s = record { book = refl; turn = refl; count = refl; sizes = λ t. refl }

sets_keep : (s : SharedAt) (t : ℕ) (word : Word) (value : ℕ) → t < length s.words → KeepsSizes s (changed s (Sets t word value))
sets_keep s t word value l = record {
  book = refl;
  turn = refl;
  count = length-set s.words t (stored (words_of s.words t) word value);
  sizes = sizes_set s.words t (stored (words_of s.words t) word value) l (length-set (words_of s.words t) (place_of word) value);
}

pub word_keeps : (s : SharedAt) (a : Act) → IsActThere s.words a → KeepsSizes s (on_word s a).shared
word_keeps s (act.Store t word value) h = sets_keep s t word value h.listed
word_keeps s (act.Exchange t word from to) h = sets_keep s t word (exchanged (loaded (words_of s.words t) word) from to) h.listed
word_keeps s _ h = same_sizes s

-- a thread of a world that runs a script
module _ (script : Script) (w : WorldAt) (t k : ℕ) (kept : IsWorld w) (runs : IsRunning script w) (there : k < length (threads_at w t)) (law : SoundStatements) where
  abbrev mine : RunAt
  mine = run_at w t k

  abbrev s : SharedAt
  s = (on_word w.shared (thread_plan script mine.thread)).shared

  abbrev n : ThreadNext
  n = thread_after script mine.thread (on_word w.shared (thread_plan script mine.thread)).seen

  abbrev y : RunAt
  y = record { thread = n.thread; results = mine.results ++ option_to_list n.ended }

  abbrev after : WorldAt
  after = step script w (Thread t k)

  keeps : KeepsSizes w.shared s
  keeps = word_keeps w.shared (thread_plan script mine.thread) (thread_there script w kept runs t k there law)

  listed_here : t < length w.threads
  listed_here = listed w.threads t k there

  worker_here : t < length w.workers
  worker_here = let e = kept.lists in let l = listed_here in omega (arith, e, l)

  some_clean : 0 < length mine.thread.clean
  some_clean =
      let x = kept.threads t k there in
      let worker = kept.workers t worker_here in
      let inside = worker.within in
      let same : length mine.thread.clean ≡ (worker_at w t).channels = x.its_channels ∙ sym worker.its_channels in
      omega (arith, inside, same)

  waits : 0 < mine.thread.patience
  waits = subst (λ z. 0 < z) (sym (runs.stands t k there).patience) (some_patience script (ready_sound runs.policies script runs.ready))

  pub facts : Leads script mine.thread n
  facts =
      leads script mine.thread (ready_sound runs.policies script runs.ready) law some_clean waits (kept.threads t k there).short (runs.stands t k there)
      (kept.threads t k there).sound (on_word w.shared (thread_plan script mine.thread)).seen

  channels_stay : (u : ℕ) → channels_at after u ≡ channels_at w u
  channels_stay u = ap (λ book. slice_index book.setting.channels u) keeps.book

  -- another thread, or this one before its step
  old_run : (u j : ℕ) → j < length (threads_at w u) → IsRunOf after u j (run_at w u j)
  old_run u j l = run_kept w after u j (run_at w u j) (channels_stay u) (kept.threads u j l)

  new_run : IsRunOf after t k y
  new_run =
      let x = kept.threads t k there in
      record {
        its_target = facts.its_target ∙ x.its_target;
        its_number = facts.its_number ∙ x.its_number;
        its_channels = ap (λ (c : List Bool). length c) facts.its_clean ∙ (x.its_channels ∙ sym (channels_stay t));
        short = facts.short;
        sound = facts.sound;
        counted = length-append mine.results (option_to_list n.ended) ∙ (ap (λ z. z + length (option_to_list n.ended)) x.counted ∙ sym facts.counted);
      }

  old_worker : (u : ℕ) → u < length w.workers → IsWorkerOf after u (worker_at w u)
  old_worker u l = worker_kept w after u (worker_at w u) (channels_stay u) (keeps.sizes u) (ap (λ turn. is_holder turn u) keeps.turn) (kept.workers u l)

  pub thread_keeps : IsWorld after
  thread_keeps = record {
    few = kept.few;
    policies = ap (λ book. length book.setting.policies) keeps.book ∙ kept.policies;
    channels = ap (λ book. length book.setting.channels) keeps.book ∙ kept.channels;
    words = keeps.count ∙ kept.words;
    holder = λ u e. kept.holder u (sym keeps.turn ∙ e);
    workers = old_worker;
    lists = subst (λ z. z ≤ length w.workers) (sym (length-set w.threads t (set (threads_at w t) k y))) kept.lists;
    threads = each_set (IsRunOf after) no_run w.threads t k y listed_here there old_run new_run;
  }

  pub thread_runs : IsRunning script after
  thread_runs = record {
    policies = runs.policies;
    ready = runs.ready;
    channels = ap (λ book. book.setting.channels) keeps.book ∙ runs.channels;
    targets = length-set w.threads t (set (threads_at w t) k y) ∙ runs.targets;
    threads = λ u. lengths_set (λ u j x. Unit {0}) no_run w.threads t k y listed_here there u ∙ runs.threads u;
    stands = each_set (λ u j (x : RunAt). IsAtStatement script x.thread) no_run w.threads t k y listed_here there runs.stands facts.stands;
  }

  -- there is room for the result of a statement that ends
  pub has_room : SoundTargets → HasRoom script w.shared mine
  has_room targets = by_ended n.ended facts.own
    where
      by_ended : (o : Option StmtResult) → IfSome o (λ r. IsOwnResult script mine.thread r) → IfSome o (λ r. length mine.results < most_statements)
      by_ended None h = tt
      by_ended (Some r) h =
          let inside = within (statements_of script mine.thread.target mine.thread.thread) mine.thread.place h.0 h.1 in
          let few = few_statements targets script (ready_sound runs.policies script runs.ready) mine.thread.target mine.thread.thread in
          let counted = (kept.threads t k there).counted in
          omega (arith, inside, few, counted)

  -- a step of a thread leaves the book
  pub thread_book : after.shared.book ≡ w.shared.book
  thread_book = keeps.book

-- what a step of a thread left, by the threads that were found
pub thread_left : (script : Script) (w : WorldAt) (t k : ℕ) (xs ys : List RunAt) (s : SharedAt) → xs ≡ threads_at w t
    → ys ≡ set xs k (thread_step script w.shared (get_or xs k no_run)).run → s ≡ (thread_step script w.shared (get_or xs k no_run)).shared
    → record w { shared = s; threads = set w.threads t ys } ≡ step script w (Thread t k)
thread_left script w t k xs ys s e f g = rw (f, g, e) refl

-- the word that a thread's step names is there, by the threads that were found
pub thread_at : (script : Script) (w : WorldAt) (t k : ℕ) (xs : List RunAt) → xs ≡ threads_at w t
    → IsActThere w.shared.words (thread_plan script (run_at w t k).thread) → IsActThere w.shared.words (thread_plan script (get_or xs k no_run).thread)
thread_at script w t k xs e there = subst (λ (z : List RunAt). IsActThere w.shared.words (thread_plan script (get_or z k no_run).thread)) (sym e) there

-- and there is room for its result
pub room_at : (script : Script) (w : WorldAt) (t k : ℕ) (xs : List RunAt) → xs ≡ threads_at w t → HasRoom script w.shared (run_at w t k)
    → HasRoom script w.shared (get_or xs k no_run)
room_at script w t k xs e room = subst (λ (z : List RunAt). HasRoom script w.shared (get_or z k no_run)) (sym e) room
