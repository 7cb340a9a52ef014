use Rattle.std.proofs.Common.{ap, ◌∙◌}
use Rattle.std.specs.List.{flat_map}
use Rattle.lt_macros.specs.Preorder.{raised_at}
use Rattle.lt_expand.specs.inner.Declarations.{exceptions, with_more}
use Rattle.lt_expand.specs.inner.Items.{items_view}
use Rattle.lt_expand.proofs.Ranks.{all_numbered}
use Rattle.lt_expand.proofs.exceptions.numbered.Goals as goal

pub returns : goal.returns
returns c =
    let parts = items_view c.args.parts.now in
    λ trace is. all_numbered trace parts (exceptions c.put_all_raised.new.found) (exceptions c.put_all_caught.new.found) is
    (c.in_ok-put_all_raised.ensures ∙ ap (λ done. with_more done (flat_map raised_at parts)) c.new-found.ensures) c.in_ok-put_all_caught.ensures
