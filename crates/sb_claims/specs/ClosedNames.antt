-- What a name that all policies of a script keep closed means for every run: what lies at the name or below it stays as it was at the start.
use Rattle.std.specs.Prelude.{◌≡◌, ◌<◌, ◌||◌, ◌==◌, ℕ, Bool, false, List, [], ◌∷◌, length, map, Some}
use Rattle.std.specs.List.{filter, list_any}
use Rattle.sb_book.specs.Histories.{Setting, IsLegalHistory, space_from}
use Rattle.sb_book.specs.declared.decisions.Decision.{Decision}
use Rattle.sb_book.specs.declared.decisions.Decision.TheVariants.{Refused, Denied, Faked, Performed}
use Rattle.sb_book.specs.declared.entries.Entry.{Entry}
use Rattle.sb_handles.specs.Tables.{held_by}
use Rattle.sb_handles.specs.declared.objects.Held.{Held}
use Rattle.sb_handles.specs.declared.objects.Service.{Service}
use Rattle.sb_handles.specs.declared.objects.Service.TheVariants as services
use Rattle.sb_kernel.specs.Namespaces.{Space}
use Rattle.sb_kernel.specs.Openings.{opening}
use Rattle.sb_names.specs.Keys.{is_below, key_of}
use Rattle.sb_names.specs.Maps.{Rows, is_key}
use Rattle.sb_rule.specs.Verdicts.{policy_at}
use Rattle.sb_services.specs.Files as files
use Rattle.sb_claims.specs.Claims.{reaches, Holds}
use Rattle.sb_claims.specs.declared.claims.Claim.TheVariants.{Closed}

-- the key is that of the name, or lies below it
abbrev pub is_inside : List ℕ → List ℕ → Bool
is_inside name key = is_key (key_of name) key || is_below (key_of name) key

-- the rows at a name and below it
abbrev pub rows_inside : {V : Type 0} → List ℕ → Rows V → Rows V
rows_inside name rows = filter (λ row. is_inside name row.0) rows

-- under the policy of each target the name is closed
abbrev pub IsClosedIn : Setting → Service → List ℕ → Type 0
IsClosedIn setting service name = (n : ℕ) → n < length setting.policies → Holds (policy_at setting.policies n) (Closed service name)

-- nothing of a service has changed at a name or below it: the same names lead to the same objects
abbrev pub IsKeptInside : Service → List ℕ → Space → Space → Type 0
IsKeptInside services.File name before after = rows_inside name after.files.names ≡ rows_inside name before.files.names
IsKeptInside services.Pipe name before after = rows_inside name after.pipes.rows ≡ rows_inside name before.pipes.rows
IsKeptInside services.Key name before after = rows_inside name after.keys.names ≡ rows_inside name before.keys.names
IsKeptInside services.Event name before after = rows_inside name after.events.rows ≡ rows_inside name before.events.rows

-- a decision performs no call that reaches what is at the name or below it
abbrev pub IsOutside : Service → List ℕ → Decision → Type 0
IsOutside service name (Performed tag line action args) = reaches service name tag args ≡ false
IsOutside service name (Refused fault) = Unit {0}
IsOutside service name (Denied tag verdict) = Unit {0}
IsOutside service name (Faked tag line) = Unit {0}

-- each entry of a list has a decision that performs no such call
abbrev pub AreOutside : Service → List ℕ → List Entry → Type 0
AreOutside service name [] = Unit {0}
AreOutside service name (entry ∷ entries) = IsOutside service name entry.decision × AreOutside service name entries

-- the numbers of the objects of a service at a name and below it
abbrev pub numbers_inside : Service → List ℕ → Space → List ℕ
numbers_inside services.File name ns = map (λ row. row.1) (rows_inside name ns.files.names)
numbers_inside services.Pipe name ns = map (λ row. row.1.number) (rows_inside name ns.pipes.rows)
numbers_inside services.Key name ns = map (λ row. row.1) (rows_inside name ns.keys.names)
numbers_inside services.Event name ns = map (λ row. row.1.number) (rows_inside name ns.events.rows)

-- the file objects of these numbers have the kind and the attributes that they had
abbrev pub AreObjectsKept : List ℕ → files.Files → files.Files → Type 0
AreObjectsKept [] before after = Unit {0}
AreObjectsKept (number ∷ numbers) before after = (files.object_of after number ≡ files.object_of before number) × AreObjectsKept numbers before after

-- what lay at a name and below it at the start has the kind and the attributes that it had; objects of the other services have none
abbrev pub AreKeptAsTheyWere : Service → List ℕ → Space → Space → Type 0
AreKeptAsTheyWere services.File name before after = AreObjectsKept (numbers_inside services.File name before) before.files after.files
AreKeptAsTheyWere services.Pipe name before after = Unit {0}
AreKeptAsTheyWere services.Key name before after = Unit {0}
AreKeptAsTheyWere services.Event name before after = Unit {0}

-- no handle is on an object of a service at a name or below it
abbrev pub IsUnheld : Service → List ℕ → Space → Type 0
IsUnheld service name ns = (target handle : ℕ) (held : Held) → held_by ns.handles target handle ≡ Some held → held.object.service ≡ service
    → list_any (λ number. number == held.object.number) (numbers_inside service name ns) ≡ false

-- nothing at the name or below it was named, made, moved, opened or changed, and nothing came to lie there
pub record ClosedNameStays (setting : Setting) (entries : List Entry) (service : Service) (name : List ℕ) : Type 0 where
  pub named : AreOutside service name entries
  pub kept : IsKeptInside service name (opening setting.start) (space_from (opening setting.start) entries)
  pub objects : AreKeptAsTheyWere service name (opening setting.start) (space_from (opening setting.start) entries)
  pub unheld : IsUnheld service name (space_from (opening setting.start) entries)

-- so it is after each legal history of a setting whose policies all keep the name closed
abbrev pub ClosedNamesStay : Type 0
ClosedNamesStay = (setting : Setting) (entries : List Entry) (service : Service) (name : List ℕ) → IsClosedIn setting service name → IsLegalHistory setting entries
    → ClosedNameStays setting entries service name
