use Rattle.dl_draw.proofs.NoPairs.{calls_add_no_pair}
use Rattle.dl_draw.proofs.calls.make_calls.Goals as goal

pub returns-in_err-lists-clause-no_pairs : goal.returns-in_err-lists-clause-no_pairs
returns-in_err-lists-clause-no_pairs c = calls_add_no_pair c.args.seed c.args.size

pub returns-in_err-push-clause-no_pairs : goal.returns-in_err-push-clause-no_pairs
returns-in_err-push-clause-no_pairs c = calls_add_no_pair c.args.seed c.args.size

pub returns-in_err-push_calls-clause-no_pairs : goal.returns-in_err-push_calls-clause-no_pairs
returns-in_err-push_calls-clause-no_pairs c = calls_add_no_pair c.args.seed c.args.size

pub returns-in_err-push-2-clause-no_pairs : goal.returns-in_err-push-2-clause-no_pairs
returns-in_err-push-2-clause-no_pairs c = calls_add_no_pair c.args.seed c.args.size

pub returns-clause-no_pairs : goal.returns-clause-no_pairs
returns-clause-no_pairs c = calls_add_no_pair c.args.seed c.args.size
