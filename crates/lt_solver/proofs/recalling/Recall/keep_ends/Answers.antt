use Rattle.std.proofs.Common.{◌≡◌, ℕ, subst}
use Rattle.lt_solver.specs.inner.Ends.{AreEndsOf}
use Rattle.lt_solver.proofs.Recalls.{ends_kept}
use Rattle.lt_solver.proofs.recalling.Recall.keep_ends.Goals as goal

pub invariant_of-self : goal.invariant_of-self
invariant_of-self c =
    let recall = c.args.self.now in
    let left = c.if-not-is_left.false in
    record {
      recalls = recall.recalls;
      ends = λ k is.
          let same : c.args.i ≡ k = cc in
          rw (c.copy_places.ensures, c.copy_places-2.ensures)
          (subst (λ (j : ℕ). AreEndsOf recall.circuit recall.decimals recall.scales.items recall.places.items j c.args.lowest.now c.args.highest.now) same
          (ends_kept recall.circuit recall.decimals c.args.space.now recall.scales.items c.args.scales.now recall.places.items c.args.current.now c.args.i c.args.lowest.now c.args.highest.now
          c.requires.copied.0 c.requires.copied.1 (c.is_left.ensures.scales left) (c.is_left.ensures.places left) c.requires.ends));
    }
