use Rattle.std.proofs.Common.{ap, ◌∙◌}
use Rattle.lt_types.specs.inner.Scoping.{newest}
use Rattle.lt_types.proofs.name_stack.NameStack.newest.Goals as goal

pub returns : goal.returns
returns c = c.copied.ensures ∙ c.get.ensures.value ∙ c.self.invariant.placed c.args.name.now ∙ ap (λ names. newest names c.args.name.now) c.self.view_is
