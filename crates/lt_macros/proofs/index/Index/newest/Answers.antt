use Rattle.std.proofs.Common.{ap, unwrap_or, ◌∙◌, arith}
use Rattle.lt_macros.specs.inner.Keyed.{keys}
use Rattle.lt_macros.proofs.Indexes.{ended, fits, started, step}
use Rattle.lt_macros.proofs.index.Index.newest.Goals as goal

pub loop-number-init : goal.loop-number-init
loop-number-init c =
    record {
      above = started c.args.self.now.items.items c.args.self.now.numbers c.args.key c.args.count c.unwrap_or-number.result c.args.self.now.indexed c.requires
          (c.unwrap_or-number.ensures ∙ ap (λ o. unwrap_or o 0) (c.copied.ensures ∙ c.get.ensures.value));
    }

pub index-requires : goal.index-requires
index-requires c = omega (arith, c.loop-number-test.true, fits c.args.self.now.items.items c.args.key c.args.count c.loop-number.number c.loop-number.invariant.above)

pub loop-number-smaller : goal.loop-number-smaller
loop-number-smaller c =
    (step c.args.self.now.items.items c.args.self.now.numbers c.args.key c.args.count c.loop-number.number c.index.result.now c.args.self.now.indexed c.loop-number-test.true c.index.ensures c.loop-number.invariant.above).1

pub loop-number-preserved : goal.loop-number-preserved
loop-number-preserved c =
    record {
      above = (step c.args.self.now.items.items c.args.self.now.numbers c.args.key c.args.count c.loop-number.number c.index.result.now c.args.self.now.indexed c.loop-number-test.true c.index.ensures c.loop-number.invariant.above).0;
    }

pub returns : goal.returns
returns c = ended (keys c.args.self.now) c.args.key c.args.count c.loop-number.number (omega (arith, c.loop-number-test.false)) c.loop-number.invariant.above
