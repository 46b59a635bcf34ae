use Rattle.std.specs.List.{list_all}
use Rattle.std.proofs.Common.{◌≡◌, ◌∙◌, ◌<◌, [], ap, get_or, length}
use Rattle.std.proofs.lemmas.List.{get_or_read}
use Rattle.sb_call.specs.Arguments.{arg_at}
use Rattle.sb_call.specs.declared.arguments.Arg.TheVariants as arg
use Rattle.sb_cover.specs.Calls.{later_at}
use Rattle.sb_cover.proofs.CallLemmas.{arg_passes, joined_more}
use Rattle.sb_cover.proofs.call_covers.join_all.Goals as goal

pub loop-k-preserved : goal.loop-k-preserved
loop-k-preserved c =
    let values = c.args.values.now in
    let places = c.args.places.now in
    let laters = c.args.laters.now in
    let k = c.loop-k.k in
    let low : k < length values = c.loop-k-test.true in
    let inside : get_or places k 0 < length laters = c.requires.within k low in
    let value : c.index-values-k.result ≡ arg_at values k = get_or_read values k c.index-values-k.result low c.index-values-k.is (arg.Num 0) in
    let later : c.deref.result.now ≡ later_at laters (get_or places k 0) =
    c.deref.ensures ∙ get_or_read laters (get_or places k 0) c.index-laters-places.result inside c.index-laters-places.is [] in
    record {
      here = joined_more laters places values c.loop-k.calls.items c.put_before.new.calls.items k c.index-values-k.result c.deref.result.now c.in_ok-put_before.ensures.kept
          c.in_ok-put_before.ensures.here value later c.loop-k.invariant.here;
      all = λ one more every join values_pass laters_pass.
          c.in_ok-put_before.ensures.all one more every join (ap one value ∙ arg_passes one values k low values_pass)
          (ap (list_all more) later ∙ laters_pass (get_or places k 0) inside) (c.loop-k.invariant.all one more every join values_pass laters_pass);
    }
