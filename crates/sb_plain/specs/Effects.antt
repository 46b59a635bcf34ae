-- What a call does to the files and the output that it is given, and what all commands have in common there.
use Rattle.std.specs.Prelude.{◌≡◌, ℕ, ◌≤◌, List, [], Option, IsSome}
use Rattle.sb_outside.specs.Outside.{Held}
use Rattle.sb_plain.specs.Outcomes.{IsSilent, IsWhole, file_of}
use Rattle.sb_plain.specs.declared.outcomes.Outcome.{Outcome}

-- files and an output before and after: they themselves, what the files hold and what was written, if this is known, what is pending, and the
-- counts of faults
pub record Effect (G S : Type 0) : Type 0 where
  pub files : G
  pub files' : G
  pub out : S
  pub out' : S
  pub held : Option Held
  pub held' : Option Held
  pub reads : ℕ
  pub reads' : ℕ
  pub written : Option (List ℕ)
  pub written' : Option (List ℕ)
  pub pending : List ℕ
  pub pending' : List ℕ
  pub puts : ℕ
  pub puts' : ℕ

-- the effect of a call, by what files and an output tell of themselves
abbrev pub effect : {G S : Type 0} → (G → Option Held) → (G → ℕ) → (S → Option (List ℕ)) → (S → List ℕ) → (S → ℕ) → G → G → S → S → Effect G S
effect held reads written pending puts files files' out out' = record {
  files = files;
  files' = files';
  out = out;
  out' = out';
  held = held files;
  held' = held files';
  reads = reads files;
  reads' = reads files';
  written = written out;
  written' = written out';
  pending = pending out;
  pending' = pending out';
  puts = puts out;
  puts' = puts out';
}

-- the outcome has the names of the command's files, if it names one of them or has notes of the first
abbrev pub IsNamed : List (List ℕ) → Outcome → Type 0
IsNamed names o = (IsSome (file_of o.status) → o.files ≡ names) × (IsSome o.shown → o.files ≡ names)

-- What is common to all commands. What the files hold stays, and no count falls. With Done, and where something differs, neither count rose and nothing is pending,
-- and with a report the files' count did not rise. If no files are named they are as they were, and if the command is not carried out the output is. The
-- outcome has the names of the files of which it tells
pub record IsOrderly {G S : Type 0} (names : List (List ℕ)) (e : Effect G S) (o : Outcome) : Type 0 where
  pub kept : e.held' ≡ e.held
  pub counted_files : e.reads ≤ e.reads'
  pub counted_sink : e.puts ≤ e.puts'
  pub done_files : IsWhole o.status → e.reads' ≡ e.reads
  pub done_sink : IsWhole o.status → e.puts' ≡ e.puts
  pub finished : IsWhole o.status → e.pending' ≡ []
  pub run_files : IsSome o.report → e.reads' ≡ e.reads
  pub unread : names ≡ [] → e.files' ≡ e.files
  pub silent : IsSilent o.status → e.out' ≡ e.out
  pub named : IsNamed names o
