use Rattle.dl_files.proofs.Loading.{line_refusal}
use Rattle.dl_files.proofs.theory_file.load_bytes.Goals as goal

pub returns-in_ok-refusal-in-Err : goal.returns-in_ok-refusal-in-Err
returns-in_ok-refusal-in-Err g c = λ small.
    line_refusal c.args.bytes.now c.in_ok-refusal-in-Err.refusal small (c.in_ok-refusal-in-Err.ensures c.args.bytes.now c.in-Err.ensures.stopped)
