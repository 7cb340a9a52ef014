-- A byte more than a line may have ends the service.
use Rattle.std.proofs.Common.{refl}
use Rattle.std.proofs.KnownBytes.{Keeps-refl}
use Rattle.lt_plants.proofs.Dues.{too_long}
use Rattle.lt_plants.proofs.serving.Session.take.Goals as goal

pub returns-in-Err-clause-takes : goal.returns-in-Err-clause-takes
returns-in-Err-clause-takes g c = record {
  goes = tt;
  ends = too_long _ c.args.self.now.playing.plant c.args.self.now.playing.last c.args.self.now.line c.args.byte c.in-Err.ensures.full c.if-byte-eq10.false;
  fault = λ e. absurd (cc e);
  calm = λ e. refl;
  left = Keeps-refl _;
}
