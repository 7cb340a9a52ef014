-- What the proofs of other crates may cite of this one.
-- targets are points of their ranges
pub use Rattle.lt_draw.proofs.TargetLemmas.{targets_are_points}
