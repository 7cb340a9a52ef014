-- A printed real is a literal that is read as its raw number.
use Rattle.lt_plants.proofs.Reals.{printed_is_read}
use Rattle.lt_plants.proofs.real.real_of.Goals as goal

pub returns-in-Err-clause-none : goal.returns-in-Err-clause-none
returns-in-Err-clause-none c = λ raw within e.
    let answer = printed_is_read c.text_reads_back.ensures c.args.text.now c.read.result raw c.read.ensures within e in
    let refused = c.in-Err.is in (cc)
