use Rattle.std.proofs.Common.{◌≡◌, None, rules, sym}
use Rattle.lt_macros.specs.Tree.{node}
use Rattle.lt_expand.specs.inner.Places.{refusal_of}
use Rattle.lt_expand.proofs.Refused.{refused, refused_argument, unrefused_node}
use Rattle.lt_expand.proofs.judging.judge.Goals as goal

pub returns-in-Some : goal.returns-in-Some
returns-in-Some c = refused c.args.decimals (node c.args.from.now) c.node_places.result c.in-Some.refusal c.node_places.ensures (sym c.in-Some.ensures)

pub returns-in-Some-controllable_argument : goal.returns-in-Some-controllable_argument
returns-in-Some-controllable_argument c =
    let none : refusal_of c.node_places.result ≡ None = search rules in
    refused_argument c.args.decimals (node c.args.from.now) c.node_places.result c.in-Some-controllable_argument.at c.node_places.ensures none (sym c.in-Some-controllable_argument.ensures)

pub returns-in-None : goal.returns-in-None
returns-in-None c =
    let none : refusal_of c.node_places.result ≡ None = search rules in
    unrefused_node c.args.decimals (node c.args.from.now) c.node_places.result c.node_places.ensures none (sym c.in-None.ensures)
