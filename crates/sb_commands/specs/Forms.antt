-- The forms of all commands. This table is the definition of the command line: a command is a case of `form_with`, and a place in `works`.
use Rattle.std.specs.Prelude.{ℕ, nat_eq, List, [], ◌∷◌, Option, None, Some, if◌then◌else◌, codes, map, option_map}
use Rattle.std.specs.Cmp.Lexicographic.{pointwise}
use Rattle.sb_commands.specs.declared.audit_help.TheConstants as audit
use Rattle.sb_commands.specs.declared.check_help.TheConstants as check
use Rattle.sb_commands.specs.declared.dup_help.TheConstants as dup
use Rattle.sb_commands.specs.declared.forms.CommandForm.{CommandForm}
use Rattle.sb_commands.specs.declared.forms.CommandHelp.{CommandHelp}
use Rattle.sb_commands.specs.declared.forms.FormNumber.{FormNumber}
use Rattle.sb_commands.specs.declared.forms.FormOption.{FormOption}
use Rattle.sb_commands.specs.declared.forms.FormPlace.{FormPlace}
use Rattle.sb_commands.specs.declared.forms.FormPlace.TheVariants as place
use Rattle.sb_commands.specs.declared.forms.OptionKind.{OptionKind}
use Rattle.sb_commands.specs.declared.forms.OptionKind.TheVariants as kind
use Rattle.sb_commands.specs.declared.help_texts.TheConstants as texts
use Rattle.sb_commands.specs.declared.linked_help.TheConstants as linked
use Rattle.sb_commands.specs.declared.local_help.TheConstants as local
use Rattle.sb_commands.specs.declared.make_help.TheConstants as make
use Rattle.sb_commands.specs.declared.replay_help.TheConstants as replay
use Rattle.sb_commands.specs.declared.run_help.TheConstants as run
use Rattle.sb_commands.specs.declared.works.PlainWork.TheVariants.{Check, Replay, Linked, Dup, Local, Audit}
use Rattle.sb_commands.specs.declared.works.ThreadedWork.TheVariants.{Run, Make}
use Rattle.sb_commands.specs.declared.works.Work.{Work}
use Rattle.sb_commands.specs.declared.works.Work.TheVariants.{Plain, Threaded}

-- a number from the lowest to the highest, by its name
pub record Bounded : Type 0 where
  pub name : List ℕ
  pub low : ℕ
  pub high : ℕ

-- what is at a place: the name of a file, a number, or any word
pub data Place : Type 0 where
  File : List ℕ → Place
  Number : Bounded → Place
  Word : List ℕ → Place

-- what an option takes: nothing, or a number, as `--FLAG N` or `--FLAG=N`
pub data Kind : Type 0 where
  Switch : Kind
  Takes : Bounded → Kind

-- an option, with its number if it is not given, if there is such a number
pub record Choice : Type 0 where
  pub flag : List ℕ
  pub kind : Kind
  pub default : Option ℕ

-- what the help of a command has beside its form: what there is to know and an example, and parts that come last
pub record Help : Type 0 where
  pub about : List ℕ
  pub after : List (List ℕ)

-- a command: what it does, its name, what is at its places, at most three, a file that may be left out, options, at most two, which are before all of these
-- or after them, what the command does in words, and its help
pub record Form : Type 0 where
  pub work : Work
  pub name : List ℕ
  pub places : List Place
  pub last : Option (List ℕ)
  pub options : List Choice
  pub does : List ℕ
  pub help : Help

-- the form of each command
abbrev pub form_with : Work → Form
form_with (Plain Check) = record {
  work = Plain Check;
  name = codes "check";
  places = File (codes "POLICY") ∷ [];
  last = None;
  options = [];
  does = codes "print the policies of POLICY, and the code by which calls are judged";
  help = record { about = check.ABOUT.now; after = check.STATUSES.now ∷ [] };
}
form_with (Plain Replay) = record {
  work = Plain Replay;
  name = codes "replay";
  places = File (codes "POLICY") ∷ File (codes "SCRIPT") ∷ [];
  last = Some (codes "SCHEDULE");
  options = [];
  does = codes "run SCRIPT under POLICY as SCHEDULE says, and print the transcript";
  help = record { about = replay.ABOUT.now; after = texts.BLOCK_FAULTS.now ∷ replay.STATUSES.now ∷ [] };
}
form_with (Threaded Run) = record {
  work = Threaded Run;
  name = codes "run";
  places = File (codes "POLICY") ∷ File (codes "SCRIPT") ∷ [];
  last = None;
  options = record { flag = codes "workers"; kind = Takes (record { name = codes "N"; low = 1; high = 8 }); default = Some 2 } ∷ [];
  does = codes "run SCRIPT under POLICY on threads, and print the transcript";
  help = record { about = run.ABOUT.now; after = texts.BLOCK_FAULTS.now ∷ run.STATUSES.now ∷ [] };
}
form_with (Threaded Make) = record {
  work = Threaded Make;
  name = codes "make";
  places =
      Number (record { name = codes "SEED"; low = 0; high = 0xffffffffffffffff })
      ∷ Number (record { name = codes "TARGETS"; low = 1; high = 8 })
      ∷ Number (record { name = codes "CALLS"; low = 1; high = 4096 })
      ∷ [];
  last = None;
  options = [];
  does = codes "make a script from SEED, run it on threads, and print its totals";
  help = record { about = make.ABOUT.now; after = make.STATUSES.now ∷ [] };
}
form_with (Plain Linked) = record {
  work = Plain Linked;
  name = codes "linked";
  places = File (codes "POLICY") ∷ File (codes "SCRIPT") ∷ File (codes "LINKS") ∷ [];
  last = None;
  options = [];
  does = codes "answer the calls of SCRIPT under POLICY, with the links of LINKS resolved";
  help = record { about = linked.ABOUT.now; after = linked.STATUSES.now ∷ [] };
}
form_with (Plain Dup) = record {
  work = Plain Dup;
  name = codes "dup";
  places = File (codes "POLICY") ∷ File (codes "SCRIPT") ∷ File (codes "MOVES") ∷ [];
  last = None;
  options = [];
  does = codes "run SCRIPT under POLICY, then pass handles between targets as MOVES says";
  help = record { about = dup.ABOUT.now; after = texts.BLOCK_FAULTS.now ∷ dup.STATUSES.now ∷ [] };
}
form_with (Plain Local) = record {
  work = Plain Local;
  name = codes "local";
  places = File (codes "POLICY") ∷ File (codes "SCRIPT") ∷ [];
  last = Some (codes "SCHEDULE");
  options = [];
  does = codes "leave out the calls of SCRIPT that POLICY denies, and run the rest";
  help = record { about = local.ABOUT.now; after = texts.BLOCK_FAULTS.now ∷ local.STATUSES.now ∷ [] };
}
form_with (Plain Audit) = record {
  work = Plain Audit;
  name = codes "audit";
  places = File (codes "POLICY") ∷ File (codes "SCRIPT") ∷ File (codes "TRANSCRIPT") ∷ [];
  last = None;
  options = [];
  does = codes "check TRANSCRIPT against what the broker promises of SCRIPT under POLICY";
  help = record { about = audit.ABOUT.now; after = audit.CLAUSES.now ∷ audit.STATUSES.now ∷ [] };
}

-- all commands, in the order in which they are listed
abbrev pub works : List Work
works = Plain Check ∷ Plain Replay ∷ Threaded Run ∷ Threaded Make ∷ Plain Linked ∷ Plain Dup ∷ Plain Local ∷ Plain Audit ∷ []

abbrev pub forms : List Form
forms = map form_with works

-- the first form of this name
abbrev pub form_in : List Form → List ℕ → Option Form
form_in [] name = None
form_in (form ∷ rest) name = if pointwise nat_eq name form.name then Some form else form_in rest name

abbrev pub form_by : List ℕ → Option Form
form_by name = form_in forms name

-- ---- the forms that the program has

abbrev pub bounded_of : FormNumber → Bounded
bounded_of n = record { name = n.name.now; low = n.low; high = n.high }

abbrev pub place_of : FormPlace → Place
place_of (place.File name) = File name.now
place_of (place.Number number) = Number (bounded_of number)
place_of (place.Word name) = Word name.now

abbrev pub kind_of : OptionKind → Kind
kind_of kind.Switch = Switch
kind_of (kind.Number number) = Takes (bounded_of number)

abbrev pub choice_of : FormOption → Choice
choice_of o = record { flag = o.flag.now; kind = kind_of o.kind; default = o.default }

abbrev pub help_of : CommandHelp → Help
help_of h = record { about = h.about.now; after = map (λ part. part.now) h.after.now }

abbrev pub form_of : CommandForm → Form
form_of f = record {
  work = f.work;
  name = f.name.now;
  places = map place_of f.places.now;
  last = option_map (λ name. name.now) f.last;
  options = map choice_of f.options.now;
  does = f.does.now;
  help = help_of f.help;
}
