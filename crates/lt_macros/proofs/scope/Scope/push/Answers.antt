use Rattle.lt_macros.specs.inner.Keyed.{keys}
use Rattle.lt_macros.proofs.Indexes.{keyed_push, linked_push}
use Rattle.lt_macros.proofs.scope.Scope.push.Goals as goal

pub invariant_of-self-in-Ok : goal.invariant_of-self-in-Ok
invariant_of-self-in-Ok c =
    record {
      keyed = keyed_push c.args.self.now.entries.items c.push.new.self.items (keys c.args.self.now.index) (keys c.push-2.new.self) c.args.entry c.run_from.result c.kind_of.result c.in_ok-push.ensures.items
          c.run_from.ensures c.kind_of.ensures c.in-Ok.ensures.more c.args.self.now.keyed;
      linked = linked_push c.args.self.now.entries.items c.push.new.self.items c.args.entry c.in_ok-push.ensures.items c.args.self.now.linked c.requires;
    }
