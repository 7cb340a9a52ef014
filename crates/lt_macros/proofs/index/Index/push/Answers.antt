use Rattle.std.proofs.Common.{ap, unwrap_or, ◌∙◌, arith}
use Rattle.lt_macros.proofs.Indexes.{indexed_push}
use Rattle.lt_macros.proofs.index.Index.push.Goals as goal

pub invariant_of-self-in-Ok : goal.invariant_of-self-in-Ok
invariant_of-self-in-Ok c =
    record {
      indexed = indexed_push c.args.self.now.items.items c.push.new.self.items c.args.key c.unwrap_or-hidden.result c.len-number.result c.args.self.now.numbers c.insert.new.self c.in_ok-push.ensures.items
          (c.unwrap_or-hidden.ensures ∙ ap (λ o. unwrap_or o 0) (c.copied.ensures ∙ c.get.ensures.value)) (omega (arith, c.len-number.ensures)) c.in-Ok.ensures.updates c.args.self.now.indexed;
    }
