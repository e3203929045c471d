use Rattle.dl_serve.proofs.Zips.{AllZip-snoc}
use Rattle.dl_serve.proofs.serve.+jobs.Goals as goal

pub returns-clause-done : goal.returns-clause-done
returns-clause-done g t c =
    let items = c.in-Some.ensures.items in
    rw (items, c.push_reserved.ensures.items) (AllZip-snoc g.J.Job.gives _ _ _ _ c.join-last.ensures.second.0 c.join-last.ensures.first)
