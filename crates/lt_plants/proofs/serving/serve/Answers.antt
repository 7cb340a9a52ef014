-- Where the link tells its bytes, the answer is the one that is due.
use Rattle.lt_plants.proofs.Services.{failed_code, other_code, served_told}
use Rattle.lt_plants.proofs.serving.serve.Goals as goal

pub returns-clause-served : goal.returns-clause-served
returns-clause-served g c =
    let served = c.serve-ending.ensures.served in
    record {
      fault = λ e. served.fault (failed_code c.serve-ending.result c.code.result c.code.ensures e);
      calm = λ e. served.calm (other_code c.serve-ending.result c.code.result c.code.ensures e);
      served = λ other. rw c.code.ensures (served_told c.serve-ending.result c.args.playing.now.plant c.args.playing.now.last _ _ _ _ served.served (rw c.code.ensures at other));
    }
