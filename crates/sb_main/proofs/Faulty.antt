-- How the answers to arguments end.
use Rattle.std.proofs.Common.{◌≡◌, ◌∙◌, sym, subst, ℕ, inl, inr, List, Option, Vec, Global}
use Rattle.std.specs.Prelude.{IfOk, Result, Ok, String}
use Rattle.sb_commands.specs.Commands.{Command}
use Rattle.sb_commands.specs.Usage.{Fault, texts}
use Rattle.sb_commands.specs.declared.usage_faults.UsageFault.{UsageFault}
use Rattle.sb_main.specs.Answers.{IsTold}
use Rattle.sb_main.specs.Program.{IsAnswered, IsComplaint, IsSettled, Output}
use Rattle.sb_message.specs.Statuses.{code_of}
use Rattle.sb_message.specs.declared.statuses.Refusal.{Refusal}
use Rattle.sb_plain.specs.Effects.{Effect}
use Rattle.sb_plain.specs.declared.outcomes.Outcome.{Outcome}
use Rattle.sb_outside.specs.declared.sink.SinkFault.{SinkFault}
use Rattle.sb_message.specs.declared.statuses.Refusal.TheVariants.{NoMemory, Usage}
use Rattle.sb_message.specs.declared.statuses.Status.{Status}
use Rattle.sb_message.specs.declared.statuses.Status.TheVariants.{Done, Refused, WriteFault}

never_done : (fault : UsageFault) → ◌≡◌ {A = Status} Done (Refused (Usage fault)) → ⊥
never_done fault e = cc

never_failed : (sink : SinkFault) (fault : UsageFault) → ◌≡◌ {A = Status} (WriteFault sink) (Refused (Usage fault)) → ⊥
never_failed sink fault e = cc

never_starved : (fault : UsageFault) → ◌≡◌ {A = Status} (Refused NoMemory) (Refused (Usage fault)) → ⊥
never_starved fault e = cc

-- a text that was asked for does not end with Usage
pub never_usage : (text : List ℕ) (before : Option (List ℕ)) (pending : List ℕ) (after : Option (List ℕ)) (pending' : List ℕ) (rose : Type 0) (s : Status) (fault : UsageFault)
    → IsTold text before pending after pending' rose s → s ≡ Refused (Usage fault) → ⊥
never_usage text before pending after pending' rose s fault (inl d) e = never_done fault (sym d.0 ∙ e)
never_usage text before pending after pending' rose s fault (inr (inl w)) e = never_failed w.0 fault (sym w.1 ∙ e)
never_usage text before pending after pending' rose s fault (inr (inr n)) e = never_starved fault (sym n.0 ∙ e)

-- what a second call does after a first that changed nothing
pub after_first : {G S : Type 0} (P : Result Command Fault → G → S → Type 0) (wanted found : Result Command Fault) (files files' : G) (out out' : S)
    → wanted ≡ found → files' ≡ files → out' ≡ out → P found files' out' → P wanted files out
after_first P wanted found files files' out out' w f p h =
    subst (λ x. P x files out) (sym w) (subst (λ x. P found x out) f (subst (λ x. P found files' x) p h))

-- arguments that were gathered, as they were seen where they were answered and where the message was told
pub settled : {G S : Type 0} (given : Result (Vec (String Global) Global) Refusal) (all : Vec (String Global) Global) (answered told : List (String Global)) (e : Effect G S)
    (o : Outcome) (before after : Output) (exit : ℕ) → given ≡ Ok all → answered ≡ all.items → told ≡ all.items → IsAnswered (texts answered) e o
    → IsComplaint (texts told) o before after → exit ≡ code_of o.status → IfOk given (λ words. IsSettled (texts words.items) e before after exit)
settled given all answered told e o before after exit is seen seen_again a t code =
    let done : IsSettled (texts all.items) e before after exit = record {
      outcome = o;
      answered = subst (λ (words : List (String Global)). IsAnswered (texts words) e o) seen a;
      told = subst (λ (words : List (String Global)). IsComplaint (texts words) o before after) seen_again t;
      code = code;
    } in
    subst (λ (r : Result (Vec (String Global) Global) Refusal). IfOk r (λ words. IsSettled (texts words.items) e before after exit)) (sym is) done
