-- How a service ends after a piece.
use Rattle.std.proofs.Common.{◌++◌, ap, arith, Err, Some, sym, ◌∙◌}
use Rattle.lt_plants.specs.inner.Going.{due_after}
use Rattle.lt_plants.proofs.Ways.{failed_limited, limited_failed, many_taken, limited_ends}
use Rattle.lt_plants.proofs.serving.Session.take_piece.Goals as goal

pub returns-in-Ok-2-clause-takes : goal.returns-in-Ok-2-clause-takes
returns-in-Ok-2-clause-takes g c =
    let after = c.take_all.new.self in
    let took = c.in-Ok-2.ensures.takes in
    record {
      goes = tt;
      few = tt;
      ends = (omega arith, many_taken _ _ (λ bytes. due_after c.args.self.now.playing.plant c.args.self.now.playing.last c.args.self.now.line (c.args.piece.now ++ bytes)) after.playing.plant after.playing.last after.line c.in-Ok-2.ensures.short took.goes);
      fault = λ e. absurd (cc e);
      calm = λ e. took.calm (λ f. cc f);
      left = took.left;
    }

pub returns-in-Err-clause-takes : goal.returns-in-Err-clause-takes
returns-in-Err-clause-takes g c =
    let took = c.in-Err.ensures.takes in
    record {
      goes = tt;
      few = tt;
      ends = rw c.limited.ensures (limited_ends _ _ (λ bytes. due_after c.args.self.now.playing.plant c.args.self.now.playing.last c.args.self.now.line (c.args.piece.now ++ bytes)) c.args.taken c.in-Err.ending took.ends);
      fault = λ e. took.fault (ap Err (limited_failed c.args.taken c.in-Err.ending (sym c.limited.ensures ∙ (cc e))));
      calm = λ e. took.calm (λ f. e (ap Some (c.limited.ensures ∙ failed_limited c.args.taken c.in-Err.ending (cc f))));
      left = took.left;
    }
