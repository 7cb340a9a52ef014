use Rattle.std.proofs.Common.{◌≡◌, ◌++◌, refl, rules, arith}
use Rattle.lt_rif.proofs.ReadingLemmas.{run_more, run_full}
use Rattle.lt_rif.proofs.reader.Reader.take_run.Goals as goal

pub returns-then-run-self-clause-tells : goal.returns-then-run-self-clause-tells
returns-then-run-self-clause-tells c =
    rw c.refuse.ensures.answer (run_full c.args.self.now.draft c.args.run.now _ c.args.self.now.values.items (omega arith) c.requires.run (omega arith) c.refuse.ensures.refusal)

pub returns-clause-tells : goal.returns-clause-tells
returns-clause-tells c =
    let short = c.args.self.now.is_short c.requires.goes_on in
    let word : c.extend_from_slice.new.self.items ≡ c.args.self.now.draft.word.items ++ c.args.run.now = search rules in
    run_more c.args.self.now.draft c.args.run.now _ c.args.self.now.values.items (omega arith) c.requires.run (omega arith) (rw (word, c.requires.goes_on) refl)
