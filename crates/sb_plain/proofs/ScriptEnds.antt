-- What is read by a command that reads policies, a script, and then at most one more file; and what it comes to.
use Rattle.std.proofs.Common.{◌≡◌, ◌⊎◌, ◌∙◌, refl, sym, ap, subst, ℕ, ◌≤◌, inl, inr, length, List, Option, None, Some, lit≤, arith}
use Rattle.std.proofs.lemmas.Bool.{false≢true}
use Rattle.std.specs.Prelude.{IfOk, IsErrAnd, IsOkAnd, Result, Ok, Err, ◌∷◌, [], map}
use Rattle.sb_book.specs.ReadyScripts.{Ready}
use Rattle.sb_message.specs.declared.statuses.FileRefusal.TheVariants.{Missing, ReadFault}
use Rattle.sb_message.specs.declared.statuses.Refusal.TheVariants.{File, NoMemory}
use Rattle.sb_outside.specs.Outside.{Held}
use Rattle.sb_rule.specs.declared.policies.Policy.{Policy}
use Rattle.sb_statements.specs.declared.scripts.Script.{Script}
use Rattle.sb_text.specs.Steps.{◌>>=◌}
use Rattle.sb_plain.specs.Contents.{Content, Contents, FileContent, ShownRefusal, file_in, file_within, missing, most_bytes, policies_in, policies_of, refused, script_in, script_of}
use Rattle.sb_plain.specs.Ends.{AreContents, End, IsHeld, without_from}
use Rattle.sb_plain.specs.Readings.{Gives, GivesEnd, IsFound, IsFoundFor, ReportedEnd, reported}
use Rattle.sb_plain.specs.ScriptEnds.{IsOne, IsReadIf, IsWithScript, later_text, script_end, script_read}
use Rattle.sb_plain.proofs.KeptFiles.{handed_on}
use Rattle.sb_plain.proofs.ReadFiles.{FoundAlone, IsFileFault, IsOpened, are_rest, content_of, file_same, is_held, misses, opened, refusal_same, rest_of}
use Rattle.sb_plain.proofs.Readings.{bound, same_end}

-- the value of a file that was read
abbrev pub Known : {A : Type 0} → (Content → Result A ShownRefusal) → Option Held → List ℕ → A → Type 0
Known step held name x = (content : Content) × IsHeld held name content × (step content ≡ Ok x)

pub policies_known : (held : Option Held) (name : List ℕ) (text : FileContent) (policies : List Policy) → IsOpened most_bytes 1 held name (Ok text)
    → policies_of text ≡ Ok policies → Known policies_in held name policies
policies_known held name text policies h e = (h.0, h.1, ap (λ r. r >>= policies_of) h.2 ∙ e)

pub script_known : (held : Option Held) (name : List ℕ) (policies : List Policy) (text : FileContent) (script : Script) → IsOpened most_bytes 2 held name (Ok text)
    → script_of policies text ≡ Ok script → Known (script_in policies) held name script
script_known held name policies text script h e = (h.0, h.1, ap (λ r. r >>= script_of policies) h.2 ∙ e)

-- ---- the file after the script

abbrev pub LaterFound : ℕ → Option Held → List (List ℕ) → Result (Option FileContent) ShownRefusal → Type 0
LaterFound most held names found = IsFound (λ (text : Option FileContent). text) 3 (later_text most) names held found

abbrev some_text : FileContent → Result (Option FileContent) ShownRefusal
some_text text = Ok (Some text)

pub no_later : (most : ℕ) (held : Option Held) → LaterFound most held [] (Ok None)
no_later most held = record { contents = []; are = tt; is = refl }

pub later_read : (most : ℕ) (held : Option Held) (name : List ℕ) (text : FileContent) → FoundAlone most 3 held name (Ok text)
    → LaterFound most held (name ∷ []) (Ok (Some text))
later_read most held name text f =
    let h = opened most 3 held name (Ok text) f in
    record {
      contents = h.0 ∷ [];
      are = (h.1, tt);
      is = subst (λ r. IsOkAnd (r >>= some_text) (λ x. ◌≡◌ {A = Option FileContent} (Some text) x)) (sym h.2) refl;
    }

pub later_unread : (most : ℕ) (held : Option Held) (name : List ℕ) (refusal : ShownRefusal) → FoundAlone most 3 held name (Err refusal)
    → LaterFound most held (name ∷ []) (Err refusal)
later_unread most held name refusal f =
    let h = opened most 3 held name (Err refusal) f in
    record {
      contents = h.0 ∷ [];
      are = (h.1, tt);
      is = by h.0 h.2;
    }
  where
    by : (content : Content) → (file_within most 3 content ≡ Err refusal) ⊎ IsFileFault 3 refusal
        → IsFoundFor (λ (text : Option FileContent). text) 3 (later_text most) (content ∷ []) (Err refusal)
    by content (inl e) = inl (ap (λ r. r >>= some_text) e)
    by content (inr (inl u)) = inr (inl (3, u, refl))
    by content (inr (inr m)) = inr (inr m)

-- one name alone
pub single : {X : Type 0} (xs : List X) (x : X) (rest : List X) → xs ≡ x ∷ rest → length xs ≤ 1 → xs ≡ x ∷ []
single xs x [] e l = e
single {X} xs x (y ∷ rest) e l =
    let few : length (x ∷ y ∷ rest) ≤ 1 = subst (λ (zs : List X). length zs ≤ 1) e l in
    absurd (omega (arith, few))

-- what the file after the script is to be, it is
pub is_named_so : {X : Type 0} (named : Option FileContent → Type 0) (policy script : X) (last : List X) (text : Option FileContent)
    → IsWithScript named (policy ∷ script ∷ last) → IsReadIf last text → named text
is_named_so named policy script [] text h there = subst named (sym there) h
is_named_so named policy script (name ∷ []) None h there = absurd (false≢true there)
is_named_so named policy script (name ∷ []) (Some text) h there = h text
is_named_so named policy script (name ∷ further ∷ names) text h there = absurd h

-- the same by the names as they are seen
pub read_if : {X Y : Type 0} (f : X → Y) (last : List X) (text : Option FileContent) → IsReadIf last text → IsReadIf (map f last) text
read_if f [] text h = h
read_if f (name ∷ names) text h = h

pub few_later : {X : Type 0} (named : Option FileContent → Type 0) (policy script : X) (last : List X) → IsWithScript named (policy ∷ script ∷ last) → length last ≤ 1
few_later named policy script [] h = lit≤ tt
few_later named policy script (name ∷ []) h = lit≤ tt
few_later named policy script (name ∷ further ∷ names) h = absurd h

-- a list of no elements
pub empty : {X : Type 0} (xs : List X) → length xs ≡ 0 → xs ≡ []
empty [] e = refl
empty (x ∷ xs) e = absurd (omega (arith, e))

-- a command has the files that it reads
pub not_one : {X Y : Type 0} (f : X → Y) (names : List X) → length names ≡ 0 → IsOne (map f names) → ⊥
not_one f [] e h = h
not_one f (name ∷ names) e h = omega (arith, e)

pub one_is : {X Y : Type 0} (f : X → Y) (names : List X) (name : X) (rest : List X) → names ≡ name ∷ rest → IsOne (map f names) → names ≡ name ∷ []
one_is {X} {Y} f names name rest e h = by rest e (subst (λ (ns : List X). IsOne (map f ns)) e h)
  where
    by : (others : List X) → names ≡ name ∷ others → IsOne (map f (name ∷ others)) → names ≡ name ∷ []
    by [] k m = k
    by (other ∷ others) k m = absurd m

pub no_policies : {X Y : Type 0} (f : X → Y) (named : Option FileContent → Type 0) (names : List X) → length names ≡ 0 → IsWithScript named (map f names) → ⊥
no_policies f named [] e h = h
no_policies f named (name ∷ names) e h = omega (arith, e)

pub no_script : {X Y : Type 0} (f : X → Y) (named : Option FileContent → Type 0) (names : List X) (policy : X) (others : List X) → names ≡ policy ∷ others
    → length others ≡ 0 → IsWithScript named (map f names) → ⊥
no_script {X} {Y} f named names policy others e none h = by others none (subst (λ (ns : List X). IsWithScript named (map f ns)) e h)
  where
    by : (rest : List X) → length rest ≡ 0 → IsWithScript named (map f (policy ∷ rest)) → ⊥
    by [] n k = k
    by (name ∷ rest) n k = omega (arith, n)

-- what is missing there is file 3
third_misses : (most m : ℕ) (files : Contents) → later_text most files ≡ Err (missing m) → m ≡ 3
third_misses most m [] e = cc
third_misses most m (content ∷ []) e = by (file_within most 3 content) refl e
  where
    by : (r : Result FileContent ShownRefusal) → file_within most 3 content ≡ r → (r >>= some_text) ≡ Err (missing m) → m ≡ 3
    by (Ok text) h k = cc
    by (Err refusal) h k = sym (misses most 3 m content (h ∙ again refusal k))
      where
        again : (why : ShownRefusal) → ◌≡◌ {A = Result (Option FileContent) ShownRefusal} (Err why) (Err (missing m)) → ◌≡◌ {A = Result FileContent ShownRefusal} (Err why) (Err (missing m))
        again why same = cc
third_misses most m (content ∷ further ∷ contents) e = sym (file_same 3 m Missing Missing (refusal_same (missing 3) (missing m) e))

same_later : (r : Result (Option FileContent) ShownRefusal) (text : Option FileContent) → IsOkAnd r (λ x. text ≡ x) → r ≡ Ok text
same_later (Ok x) text e = ap Ok (sym e)
same_later (Err refusal) text e = absurd e

-- ---- policies, a script, and what comes after them

module _ {A : Type 0} (most : ℕ) (later : Script → Option FileContent → Result A ShownRefusal) where
  abbrev Read : Type 0
  Read = Ready × A

  abbrev with_value : List Policy → Script → A → Result (Ready × A) ShownRefusal
  with_value policies script x = Ok (record { policies = policies; script = script }, x)

  abbrev with_text : List Policy → Script → Option FileContent → Result (Ready × A) ShownRefusal
  with_text policies script text = later script text >>= with_value policies script

  abbrev with_later : List Policy → Contents → Script → Result (Ready × A) ShownRefusal
  with_later policies files script = later_text most files >>= with_text policies script

  abbrev with_script : Content → Contents → List Policy → Result (Ready × A) ShownRefusal
  with_script second files policies = script_in policies second >>= with_later policies files

  abbrev pub ReadFound : Option Held → List (List ℕ) → Result (Ready × A) ShownRefusal → Type 0
  ReadFound held names found = IsFound (λ (r : Ready × A). r) 1 (script_read most later) names held found

  -- the names are these
  pub read_named : (held : Option Held) (names split : List (List ℕ)) (found : Result (Ready × A) ShownRefusal) → names ≡ split
      → ReadFound held split found → ReadFound held names found
  read_named held names split found e h = subst (λ (ns : List (List ℕ)). ReadFound held ns found) (sym e) h

  -- and a refusal is handed on
  pub read_refused : (held : Option Held) (names split : List (List ℕ)) (found : Result (Ready × A) ShownRefusal) (refusal : ShownRefusal) → names ≡ split
      → IsErrAnd found (λ e. e ≡ refusal) → ReadFound held split (Err refusal) → ReadFound held names found
  read_refused held names split found refusal e is h = handed_on (ReadFound held names) found refusal is (read_named held names split (Err refusal) e h)

  abbrev ReadFoundFor : Contents → ShownRefusal → Type 0
  ReadFoundFor contents refusal = IsFoundFor (λ (r : Ready × A). r) 1 (script_read most later) contents (Err refusal)

  module _ (held : Option Held) (policy script : List ℕ) (names : List (List ℕ)) where
    -- the first file
    pub unread_policies : (refusal : ShownRefusal) → IsOpened most_bytes 1 held policy (Err refusal) → ReadFound held (policy ∷ script ∷ names) (Err refusal)
    unread_policies refusal h = record {
      contents = h.0 ∷ rest_of held (script ∷ names);
      are = (h.1, are_rest held (script ∷ names));
      is = by h.2;
    }
      where
        by : (file_in 1 h.0 ≡ Err refusal) ⊎ IsFileFault 1 refusal → ReadFoundFor (h.0 ∷ rest_of held (script ∷ names)) refusal
        by (inl e) = inl (ap (λ r. (r >>= policies_of) >>= with_script (content_of held script) (rest_of held names)) e)
        by (inr (inl u)) = inr (inl (1, u, refl))
        by (inr (inr m)) = inr (inr m)

    pub refused_policies : (text : FileContent) (refusal : ShownRefusal) → IsOpened most_bytes 1 held policy (Ok text)
        → (policies_of text ≡ Err refusal) ⊎ (refusal ≡ refused NoMemory) → ReadFound held (policy ∷ script ∷ names) (Err refusal)
    refused_policies text refusal h g = record {
      contents = h.0 ∷ rest_of held (script ∷ names);
      are = (h.1, are_rest held (script ∷ names));
      is = by g;
    }
      where
        by : (policies_of text ≡ Err refusal) ⊎ (refusal ≡ refused NoMemory) → ReadFoundFor (h.0 ∷ rest_of held (script ∷ names)) refusal
        by (inl e) =
            inl (ap (λ r. (r >>= policies_of) >>= with_script (content_of held script) (rest_of held names)) h.2
            ∙ ap (λ r. r >>= with_script (content_of held script) (rest_of held names)) e)
        by (inr m) = inr (inr m)

    module _ (policies : List Policy) (first : Known policies_in held policy policies) where
      -- the second file
      pub unread_script : (refusal : ShownRefusal) → IsOpened most_bytes 2 held script (Err refusal) → ReadFound held (policy ∷ script ∷ names) (Err refusal)
      unread_script refusal h = record {
        contents = first.0 ∷ h.0 ∷ rest_of held names;
        are = (first.1, (h.1, are_rest held names));
        is = by h.2;
      }
        where
          by : (file_in 2 h.0 ≡ Err refusal) ⊎ IsFileFault 2 refusal → ReadFoundFor (first.0 ∷ h.0 ∷ rest_of held names) refusal
          by (inl e) =
              inl (ap (λ r. r >>= with_script h.0 (rest_of held names)) first.2
              ∙ ap (λ r. (r >>= script_of policies) >>= with_later policies (rest_of held names)) e)
          by (inr (inl u)) = inr (inl (2, u, ap (λ r. r >>= with_script None (rest_of held names)) first.2))
          by (inr (inr m)) = inr (inr m)

      pub refused_script : (text : FileContent) (refusal : ShownRefusal) → IsOpened most_bytes 2 held script (Ok text)
          → (script_of policies text ≡ Err refusal) ⊎ (refusal ≡ refused NoMemory) → ReadFound held (policy ∷ script ∷ names) (Err refusal)
      refused_script text refusal h g = record {
        contents = first.0 ∷ h.0 ∷ rest_of held names;
        are = (first.1, (h.1, are_rest held names));
        is = by g;
      }
        where
          by : (script_of policies text ≡ Err refusal) ⊎ (refusal ≡ refused NoMemory) → ReadFoundFor (first.0 ∷ h.0 ∷ rest_of held names) refusal
          by (inl e) =
              inl (ap (λ r. r >>= with_script h.0 (rest_of held names)) first.2
              ∙ (ap (λ r. (r >>= script_of policies) >>= with_later policies (rest_of held names)) h.2
              ∙ ap (λ r. r >>= with_later policies (rest_of held names)) e))
          by (inr m) = inr (inr m)

      module _ (read : Script) (second : Known (script_in policies) held script read) where
        to_later : (files : Contents) → script_read most later (first.0 ∷ second.0 ∷ files) ≡ with_later policies files read
        to_later files = ap (λ r. r >>= with_script second.0 files) first.2 ∙ ap (λ r. r >>= with_later policies files) second.2

        -- the third file
        pub unread_later : (refusal : ShownRefusal) → LaterFound most held names (Err refusal) → ReadFound held (policy ∷ script ∷ names) (Err refusal)
        unread_later refusal h = record {
          contents = first.0 ∷ second.0 ∷ h.contents;
          are = (first.1, (second.1, h.are));
          is = by h.is;
        }
          where
            by : IsFoundFor (λ (text : Option FileContent). text) 3 (later_text most) h.contents (Err refusal)
                → ReadFoundFor (first.0 ∷ second.0 ∷ h.contents) refusal
            by (inl e) = inl (to_later h.contents ∙ ap (λ r. r >>= with_text policies read) e)
            by (inr (inl u)) =
                let third : u.0 ≡ 3 = third_misses most u.0 (without_from 3 u.0 h.contents) u.2 in
                let P : ℕ → Type 0 = λ n. later_text most (without_from 3 n h.contents) ≡ Err (missing n) in
                let Q : ℕ → Type 0 = λ n. refusal ≡ refused (File n (ReadFault u.1.0)) in
                inr (inl (
                  3,
                  (u.1.0, subst Q third u.1.1),
                  to_later (without_from 3 3 h.contents) ∙ ap (λ r. r >>= with_text policies read) (subst P third u.2),
                ))
            by (inr (inr m)) = inr (inr m)

        module _ (text : Option FileContent) (third : LaterFound most held names (Ok text)) where
          to_text : script_read most later (first.0 ∷ second.0 ∷ third.contents) ≡ with_text policies read text
          to_text = to_later third.contents ∙ ap (λ r. r >>= with_text policies read) (same_later (later_text most third.contents) text third.is)

          pub refused_later : (refusal : ShownRefusal) → (later read text ≡ Err refusal) ⊎ (refusal ≡ refused NoMemory)
              → ReadFound held (policy ∷ script ∷ names) (Err refusal)
          refused_later refusal g = record {
            contents = first.0 ∷ second.0 ∷ third.contents;
            are = (first.1, (second.1, third.are));
            is = by g;
          }
            where
              by : (later read text ≡ Err refusal) ⊎ (refusal ≡ refused NoMemory) → ReadFoundFor (first.0 ∷ second.0 ∷ third.contents) refusal
              by (inl e) = inl (to_text ∙ ap (λ r. r >>= with_value policies read) e)
              by (inr m) = inr (inr m)

          pub all_read : (ready : Ready) (x : A) → ready.policies ≡ policies → ready.script ≡ read → later read text ≡ Ok x
              → ReadFound held (policy ∷ script ∷ names) (Ok (ready, x))
          all_read ready x same_policies same_script e = record {
            contents = first.0 ∷ second.0 ∷ third.contents;
            are = (first.1, (second.1, third.are));
            is =
                let is : script_read most later (first.0 ∷ second.0 ∷ third.contents) ≡ with_value policies read x =
                to_text ∙ ap (λ r. r >>= with_value policies read) e in
                subst (λ r. IsOkAnd r (λ y. ◌≡◌ {A = Ready × A} (ready, x) y)) (sym is)
                (λ i. (record { policies = same_policies i; script = same_script i }, x));
          }

  -- what was read, by its parts
  pub record ReadParts (first second : Content) (files : Contents) (r : Ready × A) : Type 0 where
    pub policies : policies_in first ≡ Ok r.0.policies
    pub script : script_in r.0.policies second ≡ Ok r.0.script
    pub text : Option FileContent
    pub is_text : later_text most files ≡ Ok text
    pub value : later r.0.script text ≡ Ok r.1

  same_value : (a b : Ready × A) → ◌≡◌ {A = Result (Ready × A) ShownRefusal} (Ok a) (Ok b) → a ≡ b
  same_value a b k = cc

  pub read_parts : (first second : Content) (files : Contents) (r : Ready × A) → script_read most later (first ∷ second ∷ files) ≡ Ok r → ReadParts first second files r
  read_parts first second files r e =
      let ps = bound (policies_in first) (with_script second files) r e in
      let script = bound (script_in ps.0 second) (with_later ps.0 files) r ps.2 in
      let text = bound (later_text most files) (with_text ps.0 script.0) r script.2 in
      let x = bound (later script.0 text.0) (with_value ps.0 script.0) r text.2 in
      subst (ReadParts first second files) (same_value (record { policies = ps.0; script = script.0 }, x.0) r x.2)
      (record { policies = ps.1; script = script.1; text = text.0; is_text = text.1; value = x.1 })

  -- ---- the end

  module _ (end : List Policy → Script → A → Result End ShownRefusal) where
    abbrev end_of : Ready × A → Result End ShownRefusal
    end_of r = end r.0.policies r.0.script r.1

    -- what was refused is refused
    pub refused_read : (held : Option Held) (names : List (List ℕ)) (refusal : ShownRefusal) → ReadFound held names (Err refusal)
        → IsFound reported 1 (script_end most later end) names held (Err refusal)
    refused_read held names refusal h = record { contents = h.contents; are = h.are; is = by h.is }
      where
        by : ReadFoundFor h.contents refusal → IsFoundFor reported 1 (script_end most later end) h.contents (Err refusal)
        by (inl e) = inl (ap (λ r. r >>= end_of) e)
        by (inr (inl u)) = inr (inl (u.0, u.1, ap (λ r. r >>= end_of) u.2))
        by (inr (inr m)) = inr (inr m)

    pub same_read : (r : Result (Ready × A) ShownRefusal) (x : Ready × A) → IsOkAnd r (λ y. x ≡ y) → r ≡ Ok x
    same_read (Ok y) x e = ap Ok (sym e)
    same_read (Err refusal) x e = absurd e

    -- and what was made of what was read is what is meant
    pub made_of_read : (held : Option Held) (names : List (List ℕ)) (ready : Ready) (x : A) (made : Result ReportedEnd ShownRefusal) → ReadFound held names (Ok (ready, x))
        → GivesEnd (end ready.policies ready.script x) made → IsFound reported 1 (script_end most later end) names held made
    made_of_read held names ready x made h g = record { contents = h.contents; are = h.are; is = by made g }
      where
        is : script_end most later end h.contents ≡ end ready.policies ready.script x
        is = ap (λ r. r >>= end_of) (same_read (script_read most later h.contents) (ready, x) h.is)

        by : (m : Result ReportedEnd ShownRefusal) → GivesEnd (end ready.policies ready.script x) m → IsFoundFor reported 1 (script_end most later end) h.contents m
        by (Ok found) k = subst (λ r. IsOkAnd r (λ y. found ≡ reported y)) (sym is) k
        by (Err refusal) (inl e) = inl (is ∙ e)
        by (Err refusal) (inr m) = inr (inr m)

    -- the end that is reached by what was read
    pub to_end : (first second : Content) (files : Contents) (policies : List Policy) (script : Script) (text : Option FileContent) (x : A) → policies_in first ≡ Ok policies
        → script_in policies second ≡ Ok script → later_text most files ≡ Ok text → later script text ≡ Ok x
        → script_end most later end (first ∷ second ∷ files) ≡ end policies script x
    to_end first second files policies script text x p s t v =
        ap (λ r. r >>= end_of)
        (ap (λ r. r >>= with_script second files) p ∙ (ap (λ r. r >>= with_later policies files) s
        ∙ (ap (λ r. r >>= with_text policies script) t ∙ ap (λ r. r >>= with_value policies script) v)))

    -- what holds of each end that is reached
    pub each_end : (P : End → Type 0)
        → ((first second : Content) (files : Contents) (r : Ready × A) (reached : End) → ReadParts first second files r
        → end r.0.policies r.0.script r.1 ≡ Ok reached → P reached)
        → (contents : Contents) (reached : End) → script_end most later end contents ≡ Ok reached → P reached
    each_end P h [] reached e = cc
    each_end P h (first ∷ []) reached e = cc
    each_end P h (first ∷ second ∷ files) reached e =
        let r = bound (script_read most later (first ∷ second ∷ files)) end_of reached e in
        h first second files r.0 reached (read_parts first second files r.0 r.1) r.2
