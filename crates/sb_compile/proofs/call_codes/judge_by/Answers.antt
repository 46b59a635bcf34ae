use Rattle.sb_compile.proofs.call_codes.judge_by.Goals as goal

pub judge_among-requires-clause-candidates : goal.judge_among-requires-clause-candidates
judge_among-requires-clause-candidates c =
    c.candidates_have_each_that_holds.ensures c.args.rules.now c.args.index.now c.requires.indexed c.args.args.now c.candidates.result c.requires.fits
    c.candidates.ensures.complete

pub judge_among-requires-clause-few : goal.judge_among-requires-clause-few
judge_among-requires-clause-few c = c.compiled_rules_are_few.ensures c.args.rules.now c.args.index.now c.requires.indexed
