-- The thread's view goes on as the thread does.
use Rattle.std.proofs.Common.{◌≡◌, refl, sym, ap, ◌∙◌, subst, ℕ, ◌+◌, ◌<◌, Bool, true, false, cond, eqb, ltb, ◌&&◌, List, [], ◌∷◌, ◌++◌, length, get_or, take, Option, None, Some, arith}
use Rattle.std.proofs.lemmas.Bool.Decides.{nat_tests}
use Rattle.sb_block.specs.Replies.{read_reply}
use Rattle.sb_actor.specs.Following.{act_word, act_wrote, Tells}
use Rattle.sb_actor.specs.Moves.{at, is_clean, no_call, try_next, IsBlock, Deed, met, wrote, thread_place, thread_view, ThreadMay, take_it, fill, send, wait, fetch, free, abandon}
use Rattle.sb_actor.specs.Places.{statement_at, mark_at, first_stage}
use Rattle.sb_actor.specs.Ranges.{IsSoundThreadStage}
use Rattle.sb_actor.specs.ThreadFollowing.{GivesUp, ThreadFollows}
use Rattle.sb_actor.specs.ThreadStages.{ThreadStage, ThreadAt}
use Rattle.sb_actor.specs.ThreadStages as stage
use Rattle.sb_actor.specs.ThreadTable.{ThreadNext, thread_row, goes_on, ends, after_round, after_try, after_fill, after_send, after_wait, after_fetch, reply_by, is_clean_at, has_clean}
use Rattle.sb_actor.specs.Ties.{thread_place_of, thread_deed, HoldsThread}
use Rattle.sb_actor.specs.Observations.{Observation}
use Rattle.sb_actor.specs.Views.{ThreadPlace, Try, Fill, Wait, Fetch, ThreadView}
use Rattle.sb_statements.specs.declared.results.CallResult.TheVariants as result
use Rattle.sb_statements.specs.declared.results.StmtResult.{StmtResult}
use Rattle.sb_statements.specs.declared.results.StmtResult.TheVariants as ended
use Rattle.sb_statements.specs.declared.scripts.Script.{Script}
use Rattle.sb_statements.specs.declared.statements.Statement.{Statement}
use Rattle.sb_statements.specs.declared.statements.Statement.TheVariants as statement
use Rattle.sb_actor.proofs.Lists.{take_snoc}
use Rattle.sb_actor.proofs.Ties.{some_same, take_whole, take_length}

-- each statement begins outside a call
pub outside : (block : List ℕ) (o : Option Statement) → thread_place_of block (first_stage o) ≡ no_call
outside block (Some (statement.Call tag args)) = refl
outside block _ = refl

module _ (script : Script) (v : ThreadView) (x : ThreadAt) (number : v.number ≡ x.thread) (marks : v.clean ≡ x.clean) (n : ℕ) (seen : Observation) where
  -- the view shows the thread's stage, by its place alone
  held : (d : Deed) (p : ThreadPlace) (s : ThreadStage) → v.place ≡ p → thread_place v.clean p d (met d n) n ≡ thread_place_of x.block s
      → HoldsThread (thread_view v d n) (goes_on x s).thread
  held d p s e f = record { number = number; clean = marks; place = ap (λ z. thread_place v.clean z d (met d n) n) e ∙ f }

  over : (d : Deed) (p : ThreadPlace) (r : StmtResult) → v.place ≡ p → thread_place v.clean p d (met d n) n ≡ no_call → HoldsThread (thread_view v d n) (ends script x r).thread
  over d p r e f = record { number = number; clean = marks; place = ap (λ z. thread_place v.clean z d (met d n) n) e ∙ f ∙ sym (outside (ends script x r).thread.block (statement_at script x.target x.thread (x.place + 1))) }

  filled : (c i : ℕ) → i < length x.block → Fill c (take i x.block ++ get_or x.block i 0 ∷ []) ≡ thread_place_of x.block (after_fill x c i)
  filled c i l = ap (Fill c) (take_snoc x.block i (get_or x.block i 0) l refl) ∙ by_test (eqb (i + 1) (length x.block)) refl
    where
      by_test : (b : Bool) → eqb (i + 1) (length x.block) ≡ b → Fill c (take (i + 1) x.block) ≡ thread_place_of x.block (cond b (stage.Send c) (stage.Fill c (i + 1)))
      by_test true q = let same : length x.block ≡ i + 1 = grind (arith, nat_tests) in ap (Fill c) (take_whole x.block (i + 1) same)
      by_test false q = refl

  sent : (c : ℕ) → v.place ≡ Fill c x.block → HoldsThread (thread_view v send n) (after_send script x c n).thread
  sent c e = by_met (eqb n 2) refl
    where
      by_met : (b : Bool) → eqb n 2 ≡ b → HoldsThread (thread_view v send n) (cond b (goes_on x (stage.Wait c 0)) (ends script x (ended.Call (result.SendLost c n)))).thread
      by_met true q = held send (Fill c x.block) (stage.Wait c 0) e (ap (λ b. cond b (Wait c x.block) no_call) q)
      by_met false q = over send (Fill c x.block) (ended.Call (result.SendLost c n)) e (ap (λ b. cond b (Wait c x.block) no_call) q)

  waited : (c loads : ℕ) → thread_place v.clean (Wait c x.block) wait (met wait n) n ≡ thread_place_of x.block (after_wait x c loads n)
  waited c loads = by_met (eqb n 4) (is_clean_at x c) (eqb (loads + 1) x.patience)
    where
      by_met : (a b d : Bool) → cond a (Fetch c x.block []) (Wait c x.block)
          ≡ thread_place_of x.block (cond a (stage.Fetch c []) (cond b (stage.Wait c loads) (cond d (stage.Abandon c) (stage.Wait c (loads + 1)))))
      by_met true b d = refl
      by_met false true d = refl
      by_met false false true = refl
      by_met false false false = refl

  fetched : (c : ℕ) (ws : List ℕ) → Fetch c x.block ws ≡ thread_place_of x.block (after_fetch c ws)
  fetched c ws = by_test (eqb (length ws) 12)
    where
      by_test : (b : Bool) → Fetch c x.block ws ≡ thread_place_of x.block (cond b (stage.Free c ws) (stage.Fetch c ws))
      by_test true = refl
      by_test false = refl

  module _ (c rounds : ℕ) (all_abandoned : Bool) (e : v.place ≡ Try c all_abandoned) (inside : c < length x.clean) where
    abbrev Holds : ThreadNext → Type 0
    Holds next = HoldsThread (thread_view v take_it n) next.thread

    abbrev five : Bool
    five = all_abandoned && eqb n 5

    -- after the last channel
    round : eqb n 1 ≡ false → eqb (c + 1) (length x.clean) ≡ true → Holds (after_round script x rounds five)
    round q last = by_tests five (has_clean x.clean) (eqb (rounds + 1) x.patience)
      where
        no_more : ltb (c + 1) (length v.clean) ≡ false
        no_more = let same = ap length marks in grind (arith, nat_tests)

        begins_anew : thread_place v.clean (Try c all_abandoned) take_it (met take_it n) n ≡ no_call
        begins_anew = ap (λ b. cond b (Fill c []) (try_next v.clean c five)) q ∙ ap (λ b. cond b (Try (c + 1) five) no_call) no_more

        by_tests : (f a p : Bool) → Holds (cond f (ends script x (ended.Call result.NoChannel)) (cond a (goes_on x (stage.Try 0 rounds true)) (cond p (ends script x (ended.Call result.NoChannel)) (goes_on x (stage.Try 0 (rounds + 1) true)))))
        by_tests true a p = over take_it (Try c all_abandoned) (ended.Call result.NoChannel) e begins_anew
        by_tests false true p = held take_it (Try c all_abandoned) (stage.Try 0 rounds true) e begins_anew
        by_tests false false true = over take_it (Try c all_abandoned) (ended.Call result.NoChannel) e begins_anew
        by_tests false false false = held take_it (Try c all_abandoned) (stage.Try 0 (rounds + 1) true) e begins_anew

    tried : Holds (after_try script x c rounds all_abandoned n)
    tried = by_met (eqb n 1) refl (eqb (c + 1) (length x.clean)) refl
      where
        by_met : (a : Bool) → eqb n 1 ≡ a → (b : Bool) → eqb (c + 1) (length x.clean) ≡ b → Holds (cond a (goes_on x (stage.Fill c 0)) (cond b (after_round script x rounds five) (goes_on x (stage.Try (c + 1) rounds five))))
        by_met true q b r = held take_it (Try c all_abandoned) (stage.Fill c 0) e (ap (λ b. cond b (Fill c []) (try_next v.clean c five)) q)
        by_met false q true r = round q r
        by_met false q false r =
            let same = ap length marks in
            let more : ltb (c + 1) (length v.clean) ≡ true = grind (arith, nat_tests) in
            held take_it (Try c all_abandoned) (stage.Try (c + 1) rounds five) e (ap (λ b. cond b (Fill c []) (try_next v.clean c five)) q ∙ ap (λ b. cond b (Try (c + 1) five) no_call) more)

  -- what the law says of a stage
  record Goes (s : ThreadStage) (d : Deed) : Type 0 where
    may : ThreadMay v v.place (act_word (thread_row script x s).step) d
    writes : act_wrote (thread_row script x s).step n ≡ wrote d (met d n) n
    holds : HoldsThread (thread_view v d n) ((thread_row script x s).next seen).thread

  there : (c : ℕ) → c < length x.clean → c < length v.clean
  there c i = subst (λ z. c < length z) (sym marks) i

  follows : (s : ThreadStage) (d : Deed) → v.place ≡ thread_place_of x.block s → IsSoundThreadStage (length x.clean) x.patience x.block s → IsBlock x.thread x.block → GivesUp x.clean s
      → thread_deed x.block s ≡ Some d → Tells (thread_row script x s).step n seen → Goes s d
  follows (stage.Try c rounds all_abandoned) d e h b u q tell =
      subst (Goes (stage.Try c rounds all_abandoned)) (some_same take_it d q)
      record {
        may = subst (λ p. ThreadMay v p (at c 0) take_it) (sym e) (there c h.0, refl);
        writes = refl;
        holds = subst (λ z. HoldsThread (thread_view v take_it n) (after_try script x c rounds all_abandoned z).thread) (sym tell) (tried c rounds all_abandoned e h.0);
      }
  follows (stage.Fill c i) d e h b u q tell =
      let long = b.high in
      let size : length (take i x.block) ≡ i = take_length x.block i (omega arith) in
      subst (Goes (stage.Fill c i)) (some_same (fill (get_or x.block i 0)) d q)
      record {
        may = subst (λ p. ThreadMay v p (at c (1 + i)) (fill (get_or x.block i 0))) (sym e) (there c h.0, ap (λ z. at c (1 + z)) (sym size), omega arith);
        writes = refl;
        holds = held (fill (get_or x.block i 0)) (Fill c (take i x.block)) (after_fill x c i) e (filled c i h.1);
      }
  follows (stage.Send c) d e h b u q tell =
      subst (Goes (stage.Send c)) (some_same send d q)
      record {
        may = subst (λ p. ThreadMay v p (at c 0) send) (sym e) (there c h, refl, subst (λ z. IsBlock z x.block) (sym number) b);
        writes = refl;
        holds = subst (λ z. HoldsThread (thread_view v send n) (after_send script x c z).thread) (sym tell) (sent c e);
      }
  follows (stage.Wait c loads) d e h b u q tell =
      subst (Goes (stage.Wait c loads)) (some_same wait d q)
      record {
        may = subst (λ p. ThreadMay v p (at c 0) wait) (sym e) (there c h.0, refl);
        writes = refl;
        holds = subst (λ z. HoldsThread (thread_view v wait n) (goes_on x (after_wait x c loads z)).thread) (sym tell) (held wait (Wait c x.block) (after_wait x c loads n) e (waited c loads));
      }
  follows (stage.Fetch c ws) d e h b u q tell =
      let word : 1 + (3 + length ws) ≡ 4 + length ws = omega arith in
      subst (Goes (stage.Fetch c ws)) (some_same fetch d q)
      record {
        may = subst (λ p. ThreadMay v p (at c (1 + (3 + length ws))) fetch) (sym e) (there c h.0, ap (at c) word, h.1);
        writes = refl;
        holds = subst (λ z. HoldsThread (thread_view v fetch n) (goes_on x (after_fetch c (ws ++ z ∷ []))).thread) (sym tell)
            (held fetch (Fetch c x.block ws) (after_fetch c (ws ++ n ∷ [])) e (fetched c (ws ++ n ∷ [])));
      }
  follows (stage.Free c ws) d e h b u q tell =
      subst (Goes (stage.Free c ws)) (some_same free d q)
      record {
        may = subst (λ p. ThreadMay v p (at c 0) free) (sym e) (there c h.0, refl, h.1);
        writes = refl;
        holds = over free (Fetch c x.block ws) (ended.Call (reply_by c (mark_at x.thread x.place) (read_reply ws))) e refl;
      }
  follows (stage.Abandon c) d e h b u q tell =
      subst (Goes (stage.Abandon c)) (some_same abandon d q)
      record {
        may = subst (λ p. ThreadMay v p (at c 0) abandon) (sym e) (there c h, refl, subst (λ z. is_clean z c ≡ false) (sym marks) u);
        writes = refl;
        holds = over abandon (Wait c x.block) (ended.Call (result.TimedOut c)) e refl;
      }
  follows _ d e h b u q tell = absurd (cc)

pub thread_follows : ThreadFollows
thread_follows script v x d n seen h s b u q tell =
    let f = follows script v x h.number h.clean n seen x.stage d h.place s b u q tell in
    record { may = f.may; writes = f.writes; holds = f.holds }
