use Rattle.std.proofs.Common.{◌≡◌, cond, false, arith, subst}
use Rattle.std.specs.Int.{bit_at}
use Rattle.std.specs.List.{list_any}
use Rattle.sb_call.specs.Arguments.{arg_at}
use Rattle.sb_index.specs.Questions.{is_in_bucket, units_in}
use Rattle.sb_index.proofs.BucketLemmas.{missing_unit, unit_missing}
use Rattle.sb_index.proofs.TableLemmas.{bucket_alone, bucket_complete}
use Rattle.sb_index.proofs.buckets.Buckets.narrow.Goals as goal

pub returns-clause-complete : goal.returns-clause-complete
returns-clause-complete c rules tag is old j d h holds =
    c.narrow_by.ensures.kept j (old j d h holds) (λ bucket within zero.
    bucket_complete c.rules_that_hold_pass.ensures rules tag c.args.args.now c.args.self.now.param bucket c.args.self.now.sets.items is.1
    (omega (arith, within, c.requires))
    (subst (λ us. list_any (is_in_bucket bucket) us ≡ false) c.units_in.ensures
    (unit_missing (bit_at c.units_bits.result bucket) (list_any (is_in_bucket bucket) c.units_in.result.now) (c.units_bits.ensures bucket) zero)) j d h holds)

pub returns-clause-alone : goal.returns-clause-alone
returns-clause-alone c rules tag is j d h has bucket within m =
    bucket_alone rules tag c.args.args.now c.args.self.now.param c.args.self.now.needed c.args.self.now.sets.items is.0 is.1 is.2 j d h bucket within m
    (λ one none. c.narrow_by.ensures.alone j bucket has within one
    (missing_unit (bit_at c.units_bits.result bucket) (list_any (is_in_bucket bucket) (units_in (arg_at c.args.args.now c.args.self.now.param)))
    (subst (λ us. bit_at c.units_bits.result bucket ≡ cond (list_any (is_in_bucket bucket) us) 1 0) c.units_in.ensures (c.units_bits.ensures bucket)) none))
