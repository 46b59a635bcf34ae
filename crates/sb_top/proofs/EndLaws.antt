-- How commands end over files whose contents are known.
use Rattle.std.proofs.Common.{◌≡◌, ◌≢◌, ◌∙◌, refl, sym, ap, subst, ℕ, ◌⊎◌, inl, inr, List, Option, None, Some}
use Rattle.std.specs.Prelude.{IfOk, IfSome, IsOkAnd, IsSome, Result, Ok, Err, ◌∷◌, [], option_map}
use Rattle.std.proofs.lemmas.Option.{none-some}
use Rattle.sb_outside.specs.Outside.{Held, Rose}
use Rattle.sb_outside.specs.declared.files.ReadCause.{ReadCause}
use Rattle.sb_message.specs.declared.statuses.FileRefusal.TheVariants.{ReadFault}
use Rattle.sb_message.specs.declared.statuses.Refusal.TheVariants.{File, NoMemory}
use Rattle.sb_message.specs.declared.statuses.Status.{Status}
use Rattle.sb_message.specs.declared.statuses.Status.TheVariants.{Refused, WriteFault}
use Rattle.sb_plain.specs.Contents.{Contents, ShownRefusal, refused}
use Rattle.sb_plain.specs.Effects.{Effect}
use Rattle.sb_plain.specs.Endings.{IsEndFor, IsMeant, IsOutcomeCaused, IsRefused, IsUnwritten}
use Rattle.sb_plain.specs.Ends.{AreContents, End, IsOrder, IsOrderOf, OnThreads, Plain, ScriptRun}
use Rattle.sb_statements.specs.declared.schedules.Schedule.{Schedule}
use Rattle.sb_top.specs.Laws.{IsMeantBy, RefusalsAreMeant, WorkComesToItsEnd, contents_of}
use Rattle.sb_plain.specs.Outcomes.{file_of}
use Rattle.sb_plain.specs.declared.outcomes.Outcome.{Outcome}

-- ---- contents that are known

known : (held : Held) (names : List (List ℕ)) (contents : Contents) → AreContents (Some held) names contents → contents ≡ contents_of held names
known held [] [] h = refl
known held [] (c ∷ contents) h = absurd h
known held (name ∷ names) [] h = absurd h
known held (name ∷ names) (c ∷ contents) h = λ i. h.0 i ∷ known held names contents h.1 i

module _ (G S : Type 0) where
  told : (names : List (List ℕ)) (held : Held) (e : Effect G S) (contents : Contents) → AreContents e.held names contents → e.held ≡ Some held
      → contents ≡ contents_of held names
  told names held e contents h is = known held names contents (subst (λ o. AreContents o names contents) is h)

  -- ---- an end over contents of any kind

  module _ (meaning : Contents → Result End ShownRefusal) (contents : Contents) (e : Effect G S) (o : Outcome) where
    unwritten : {P : Type 0} (r : Result End ShownRefusal) → ((x : End) → IsUnwritten x e o → P) → IsOkAnd r (λ x. IsUnwritten x e o) → P
    unwritten (Ok x) f u = f x u
    unwritten (Err r) f u = absurd u

    abbrev IsCausedHere : Status → Type 0
    IsCausedHere s = IsOutcomeCaused e.held (Rose e.reads e.reads') s

    -- if no count rose it is as it is meant, or there was no memory
    comes : IsOutcomeCaused e.held (Rose e.reads e.reads') o.status → (Rose e.reads e.reads' → ⊥) → (Rose e.puts e.puts' → ⊥) → IsEndFor meaning contents e o
        → IsMeant (meaning contents) e o ⊎ IsRefused (refused NoMemory) e o
    comes caused quiet calm (inl m) = inl m
    comes caused quiet calm (inr (inl u)) = absurd (quiet (subst IsCausedHere u.is.status caused))
    comes caused quiet calm (inr (inr (inl u))) = absurd (unwritten {P = ⊥} (meaning contents) (λ x k. calm k.rose) u)
    comes caused quiet calm (inr (inr (inr s))) = inr s

    -- if its status names a file that was read it is as it is meant
    refuses : (n : ℕ) → file_of o.status ≡ Some n → ((m : ℕ) (cause : ReadCause) → o.status ≢ Refused (File m (ReadFault cause))) → IsEndFor meaning contents e o → IsMeant (meaning contents) e o
    refuses n at other = by
      where
        no_file : {P : Type 0} (s : Status) → o.status ≡ s → file_of s ≡ None → P
        no_file s is none = absurd (none-some n (sym none ∙ sym (ap file_of is) ∙ at))

        by : IsEndFor meaning contents e o → IsMeant (meaning contents) e o
        by (inl m) = m
        by (inr (inl u)) = absurd (other u.file u.cause u.is.status)
        by (inr (inr (inl u))) = unwritten (meaning contents) (λ x k. no_file (WriteFault k.fault) k.status refl) u
        by (inr (inr (inr s))) = no_file (Refused NoMemory) s.status refl

  -- the order of an end that is as it is meant is one of its run
  in_order : (order : Schedule) (r : Result End ShownRefusal) (e : Effect G S) (o : Outcome) → (IsSome o.report → IfOk r (IsOrderOf order)) → IsMeant r e o
      → IfOk r (IsOrderOf order)
  in_order order (Ok end) e o ordered m = by end.run refl
    where
      by : (run : Option ScriptRun) → end.run ≡ run → IsOrderOf order end
      by None is = subst (λ (x : Option ScriptRun). IfSome x (IsOrder order)) (sym is) tt
      by (Some run) is = ordered (subst IsSome (sym (m.report ∙ ap (option_map (λ (x : ScriptRun). x.ran.report)) is)) refl)
  in_order order (Err refusal) e o ordered m = tt

  -- ---- the contents that are known

  pub work_comes_to_its_end : WorkComesToItsEnd G S
  work_comes_to_its_end (Plain meaning) names held e o end is quiet calm =
      subst (λ c. IsMeant (meaning c) e o ⊎ IsRefused (refused NoMemory) e o) (told names held e end.contents end.held is)
      (comes meaning end.contents e o end.caused quiet calm end.ends)
  work_comes_to_its_end (OnThreads meaning) names held e o end is quiet calm =
      subst (λ c. IsMeantBy (OnThreads meaning) c e o ⊎ IsRefused (refused NoMemory) e o) (told names held e end.contents end.held is)
      (by (comes (meaning end.order) end.contents e o end.caused quiet calm end.ends))
    where
      by : IsMeant (meaning end.order end.contents) e o ⊎ IsRefused (refused NoMemory) e o
          → IsMeantBy (OnThreads meaning) end.contents e o ⊎ IsRefused (refused NoMemory) e o
      by (inl m) = inl (end.order, in_order end.order (meaning end.order end.contents) e o end.ordered m, m)
      by (inr s) = inr s

  pub refusals_are_meant : RefusalsAreMeant G S
  refusals_are_meant (Plain meaning) names held e o n end is at other =
      subst (λ c. IsMeant (meaning c) e o) (told names held e end.contents end.held is) (refuses meaning end.contents e o n at other end.ends)
  refusals_are_meant (OnThreads meaning) names held e o n end is at other =
      let m = refuses (meaning end.order) end.contents e o n at other end.ends in
      subst (λ c. IsMeantBy (OnThreads meaning) c e o) (told names held e end.contents end.held is)
      (end.order, in_order end.order (meaning end.order end.contents) e o end.ordered m, m)
