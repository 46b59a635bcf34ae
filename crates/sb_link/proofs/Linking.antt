-- A book that resolves names, after one more answer.
use Rattle.std.proofs.Common.{◌≡◌, ℕ, ◌+◌, List, [], ◌∷◌, ◌++◌, length, Result, Ok, Err, refl, arith}
use Rattle.sb_call.specs.Tags.{shape_of}
use Rattle.sb_call.specs.declared.arguments.Arg.{Arg}
use Rattle.sb_call.specs.declared.arguments.Arg.TheVariants as arg
use Rattle.sb_call.specs.declared.tags.CallTag.{CallTag}
use Rattle.sb_call.specs.declared.tags.ParamKind.{ParamKind}
use Rattle.sb_call.specs.declared.tags.ParamKind.TheVariants.{Text, Name, Num, Handle}
use Rattle.sb_block.specs.Calls.{decoded}
use Rattle.sb_block.specs.Copies.{Copied, mark_of}
use Rattle.sb_block.specs.declared.calls.Call.{Call}
use Rattle.sb_block.specs.declared.faults.BlockFault.{BlockFault}
use Rattle.sb_rule.specs.Verdicts.{policy_at, verdict_of}
use Rattle.sb_rule.specs.declared.actions.Action.TheVariants.{Allow, Deny, Alarm, Fake, ReadOnly}
use Rattle.sb_rule.specs.declared.policies.Policy.{Policy}
use Rattle.sb_rule.specs.declared.verdicts.Verdict.{Verdict}
use Rattle.sb_rule.specs.declared.verdicts.Verdict.TheVariants as verdict
use Rattle.sb_book.specs.Decisions.{by_decoded, by_verdict, read_only_args}
use Rattle.sb_book.specs.declared.entries.Entry.{Entry}
use Rattle.sb_link.specs.Answers.{AreResolved, IsResolvedArg, IsResolvedCall, linked, stopped_reply}
use Rattle.sb_link.specs.LinkedHistories.{IsLinkedHistory, IsLogFrom, LinkedHistory, PerformAllResolved, PerformsResolved, answered_by}
use Rattle.sb_link.specs.declared.links.Link.{Link}
use Rattle.sb_link.specs.declared.linked_books.Linked.{Linked}
use Rattle.sb_link.specs.declared.linked_books.Linked.TheVariants as item
use Rattle.sb_link.specs.declared.stops.Stop.{Stop}
use Rattle.sb_link.specs.declared.stops.StoppedCall.{StoppedCall}

-- ---- what is decided on resolved names

number_resolved : (links : List Link) (kind : ParamKind) (n : ℕ) → IsResolvedArg links kind (arg.Num n)
number_resolved links Text n = tt
number_resolved links Name n = tt
number_resolved links Num n = tt
number_resolved links Handle n = tt

read_only_resolved : (links : List Link) (kinds : List ParamKind) (args : List Arg) → AreResolved links kinds args → AreResolved links kinds (read_only_args args)
read_only_resolved links kinds [] h = h
read_only_resolved links kinds (a ∷ []) h = h
read_only_resolved links kinds (a ∷ arg.Str text ∷ args) h = h
read_only_resolved links [] (a ∷ arg.Num n ∷ args) h = tt
read_only_resolved links (k ∷ []) (a ∷ arg.Num n ∷ args) h = h
read_only_resolved links (k ∷ l ∷ kinds) (a ∷ arg.Num n ∷ args) h = (h.0, (number_resolved links l _, h.1.1))

verdict_resolved : (links : List Link) (tag : CallTag) (args : List Arg) (v : Verdict) → AreResolved links (shape_of tag) args
    → PerformsResolved links (by_verdict tag args v)
verdict_resolved links tag args (verdict.Rule line Allow) h = h
verdict_resolved links tag args (verdict.Rule line ReadOnly) h = read_only_resolved links (shape_of tag) args h
verdict_resolved links tag args (verdict.Rule line Fake) h = tt
verdict_resolved links tag args (verdict.Rule line Deny) h = tt
verdict_resolved links tag args (verdict.Rule line Alarm) h = tt
verdict_resolved links tag args verdict.NoRule h = tt

decoded_resolved : (links : List Link) (policy : Policy) (r : Result Call BlockFault) → IsResolvedCall links r → PerformsResolved links (by_decoded policy r)
decoded_resolved links policy (Err fault) h = tt
decoded_resolved links policy (Ok call) h = verdict_resolved links call.tag call.args (verdict_of policy call.tag call.args) h

all_resolved : (links : List Link) (entries : List Entry) (e : Entry) → PerformAllResolved links entries → PerformsResolved links e.decision
    → PerformAllResolved links (entries ++ e ∷ [])
all_resolved links [] e h k = (k, tt)
all_resolved links (first ∷ entries) e h k = (h.0, all_resolved links entries e h.1 k)

-- ---- one item more

one_entry : (links : List Link) (n : ℕ) (entries : List Entry) (log : List Linked) (taken : Copied) (at : ℕ) (e : Entry) → at ≡ n + length entries
    → linked links taken ≡ Ok e.taken → IsLogFrom links n entries log → IsLogFrom links n (entries ++ e ∷ []) (log ++ item.Entry taken at ∷ [])
one_entry links n [] [] taken at e h k l = (omega arith, k, refl)
one_entry links n (first ∷ entries) [] taken at e h k l = absurd cc
one_entry links n [] (item.Entry other place ∷ log) taken at e h k l = absurd l
one_entry links n (first ∷ entries) (item.Entry other place ∷ log) taken at e h k l =
    (l.0, l.1, one_entry links (n + 1) entries log taken at e (omega arith) k l.2)
one_entry links n [] (item.Stopped t c other tag stop reply ∷ log) taken at e h k l = (l.0, l.1, one_entry links n [] log taken at e h k l.2)
one_entry links n (first ∷ entries) (item.Stopped t c other tag stop reply ∷ log) taken at e h k l =
    (l.0, l.1, one_entry links n (first ∷ entries) log taken at e h k l.2)

one_stop : (links : List Link) (n : ℕ) (entries : List Entry) (log : List Linked) (target channel : ℕ) (taken : Copied) (tag : CallTag) (stop : Stop)
    → linked links taken ≡ Err (record { tag = tag; stop = stop }) → IsLogFrom links n entries log
    → IsLogFrom links n entries (log ++ item.Stopped target channel taken tag stop (stopped_reply (mark_of taken)) ∷ [])
one_stop links n [] [] target channel taken tag stop k l = (k, refl, refl)
one_stop links n (first ∷ entries) [] target channel taken tag stop k l = absurd cc
one_stop links n [] (item.Entry other place ∷ log) target channel taken tag stop k l = absurd l
one_stop links n (first ∷ entries) (item.Entry other place ∷ log) target channel taken tag stop k l =
    (l.0, l.1, one_stop links (n + 1) entries log target channel taken tag stop k l.2)
one_stop links n [] (item.Stopped t c other g s reply ∷ log) target channel taken tag stop k l =
    (l.0, l.1, one_stop links n [] log target channel taken tag stop k l.2)
one_stop links n (first ∷ entries) (item.Stopped t c other g s reply ∷ log) target channel taken tag stop k l =
    (l.0, l.1, one_stop links n (first ∷ entries) log target channel taken tag stop k l.2)

-- ---- one answer more

pub entry_is_linked : (s : LinkedHistory) (target channel : ℕ) (taken copy : Copied) → IsLinkedHistory s → linked s.links taken ≡ Ok copy
    → IsResolvedCall s.links (decoded copy) → IsLinkedHistory (answered_by s target channel taken (Ok copy))
entry_is_linked s target channel taken copy is e r = record {
  logged = one_entry s.links 0 s.history.entries s.log taken (length s.history.entries) _ (omega arith) e is.logged;
  resolved = all_resolved s.links s.history.entries _ is.resolved (decoded_resolved s.links (policy_at s.history.setting.policies target) (decoded copy) r);
}

pub stop_is_linked : (s : LinkedHistory) (target channel : ℕ) (taken : Copied) (stopped : StoppedCall) → IsLinkedHistory s → linked s.links taken ≡ Err stopped
    → IsLinkedHistory (answered_by s target channel taken (Err stopped))
stop_is_linked s target channel taken stopped is e = record {
  logged = one_stop s.links 0 s.history.entries s.log target channel taken stopped.tag stopped.stop e is.logged;
  resolved = is.resolved;
}
