-- How the threads of a sound script begin their statements.
use Rattle.std.proofs.Common.{◌≡◌, refl, sym, subst, ap, ℕ, ◌*◌, ◌^◌, ◌<◌, true, nat_le, List, ◌∷◌, ◌++◌, length, replicate, Option, None, Some, IfSome, arith}
use Rattle.std.proofs.lemmas.Bool.{and_parts}
use Rattle.std.proofs.lemmas.Bool.Decides.{nat_tests}
use Rattle.std.specs.Prelude.{slice_get}
use Rattle.sb_actor.specs.Causes.{CallsBegin, WaitsBegin}
use Rattle.sb_actor.specs.Places.{block_of, first_stage, mark_at, or_none, threads_of}
use Rattle.sb_actor.proofs.Channels.{clean_length}
use Rattle.sb_actor.proofs.Soundness.{sound_at, sound_channels, sound_patience, within}
use Rattle.sb_block.specs.Blocks.{block, contents_of, descriptors_of, end_offset}
use Rattle.sb_block.specs.Layout.{first_offset, reply_length}
use Rattle.sb_call.specs.declared.arguments.Arg.{Arg}
use Rattle.sb_call.specs.Tags.{number_of, shape_of}
use Rattle.sb_call.specs.declared.tags.CallTag.{CallTag}
use Rattle.sb_statements.specs.Soundness.{SoundStatements, SoundTargets, channels_of, has_word, is_patience, is_statement}
use Rattle.sb_statements.specs.declared.scripts.TargetScript.{TargetScript}
use Rattle.sb_statements.specs.declared.statements.Statement.{Statement}
use Rattle.sb_statements.specs.declared.statements.Statement.TheVariants as statement

nonempty : (a : ℕ) (l : List ℕ) → 0 < length (a ∷ l)
nonempty a l = omega arith

block_some : (tag : CallTag) (args : List Arg) (mark : ℕ) → 0 < length (block tag args mark)
block_some tag args mark =
    nonempty (number_of tag)
    (mark ∷ length args ∷ replicate reply_length 0
    ++ (descriptors_of (first_offset (length args)) (shape_of tag) args ++ (end_offset args * 2 ^ 16 ∷ contents_of args)))

-- a target that has a statement is there
target_there : (targets : List TargetScript) (t k i : ℕ) (s : Statement) (o : Option TargetScript) → slice_get targets t ≡ o
    → slice_get (or_none (slice_get (threads_of o) k)) i ≡ Some s → t < length targets
target_there targets t k i s None e h = absurd (cc)
target_there targets t k i s (Some target) e h = within targets t target e

pub calls_begin : SoundTargets → CallsBegin
calls_begin law script x place tag args h e = record {
  stage = ap first_stage e;
  channels =
      let there = target_there script.targets x.target x.thread place (statement.Call tag args) (slice_get script.targets x.target) refl e in
      let some = (sound_channels law script x.target h.sound there).0 in
      let size = clean_length script x.target (channels_of (slice_get script.targets x.target)) in
      let same = ap length h.clean in
      omega (arith, some, size, same);
  patient = let some = sound_patience script h.sound in let same = h.patience in omega (arith, some, same);
  block = subst (λ (o : Option Statement). 0 < length (block_of (mark_at x.thread place) o)) (sym e) (block_some tag args (mark_at x.thread place));
}

pub waits_begin : SoundStatements → WaitsBegin
waits_begin law script x place target word value most h e = record {
  stage = ap first_stage e;
  target = target;
  word = word;
  statement = e;
  some =
      let all = subst (λ (o : Option Statement). IfSome o (λ s. is_statement script.targets s ≡ true)) e (sound_at script x.target x.thread place h.sound law) in
      let parts = and_parts (has_word script.targets target word) (is_patience most) all in
      let low = (and_parts (nat_le 1 most) (nat_le most 1000000) parts.1).0 in
      grind (arith, nat_tests, low);
}
