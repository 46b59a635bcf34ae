-- What is performed in a namespace.
use Rattle.std.specs.Prelude.{is_some}
use Rattle.std.proofs.Common.{◌≡◌, ℕ, false, ◌&&◌, Option, None, Some, refl, sym}
use Rattle.std.proofs.lemmas.Bool.{false≢true}
use Rattle.sb_block.specs.Copies.{Copied}
use Rattle.sb_book.specs.declared.decisions.Decision.{Decision}
use Rattle.sb_kernel.specs.Namespaces.{Space}
use Rattle.sb_host.specs.HostWorkers.{HostAt, after_performing, after_performing_on, can_reply, copy_to_answer, space_after_performing, space_by}
use Rattle.sb_c.specs.Spaces.{IsPerformed}
use Rattle.sb_c.specs.Statuses.{status_number, status_of}
use Rattle.sb_c.specs.declared.statuses.Status.{Status}
use Rattle.sb_c.specs.declared.statuses.Status.TheVariants.{Ok, BadCall, NoMemory, Fault, NoRoom, NoLiteral, TooBig}

host_by : (h : HostAt) (ns : Space) (target : ℕ) (copy : Option Copied) (d : Option Decision) → (is_some copy && is_some d) ≡ false
    → after_performing_on h ns target copy d ≡ h
host_by h ns target (Some copy) (Some d) e = absurd (false≢true (sym e))
host_by h ns target (Some copy) None e = refl
host_by h ns target None d e = refl

space_kept_by : (ns : Space) (target : ℕ) (copy : Option Copied) (d : Option Decision) → (is_some copy && is_some d) ≡ false → space_by copy d ns target ≡ ns
space_kept_by ns target (Some copy) (Some d) e = absurd (false≢true (sym e))
space_kept_by ns target (Some copy) None e = refl
space_kept_by ns target None d e = refl

-- without a copy that is decided nothing changes
pub not_performed : (h : HostAt) (ns : Space) (target : ℕ) → can_reply h ≡ false → after_performing h ns target ≡ h
not_performed h ns target e = host_by h ns target (copy_to_answer h) h.decision e

pub space_kept : (h : HostAt) (ns : Space) (target : ℕ) → can_reply h ≡ false → space_after_performing h ns target ≡ ns
space_kept h ns target e = space_kept_by ns target (copy_to_answer h) h.decision e

-- a status is that of its number
pub performed_as : (h : Option HostAt) (ns : Option Space) (target : ℕ) (s : Status) → IsPerformed h ns target (Some s)
    → IsPerformed h ns target (status_of (status_number s))
performed_as (Some h) (Some ns) target Ok x = x
performed_as (Some h) (Some ns) target BadCall x = x
performed_as (Some h) (Some ns) target NoMemory x = x
performed_as (Some h) (Some ns) target Fault x = absurd x
performed_as (Some h) (Some ns) target NoRoom x = absurd x
performed_as (Some h) (Some ns) target NoLiteral x = absurd x
performed_as (Some h) (Some ns) target TooBig x = absurd x
performed_as (Some h) None target Ok x = absurd x
performed_as (Some h) None target BadCall x = x
performed_as (Some h) None target NoMemory x = absurd x
performed_as (Some h) None target Fault x = absurd x
performed_as (Some h) None target NoRoom x = absurd x
performed_as (Some h) None target NoLiteral x = absurd x
performed_as (Some h) None target TooBig x = absurd x
performed_as None ns target Ok x = absurd x
performed_as None ns target BadCall x = x
performed_as None ns target NoMemory x = absurd x
performed_as None ns target Fault x = absurd x
performed_as None ns target NoRoom x = absurd x
performed_as None ns target NoLiteral x = absurd x
performed_as None ns target TooBig x = absurd x
