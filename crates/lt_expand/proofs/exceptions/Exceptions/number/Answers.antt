use Rattle.std.proofs.Common.{sym, ◌∙◌}
use Rattle.lt_macros.specs.Tree.{exception}
use Rattle.lt_expand.proofs.Ranks.{number_beyond, number_there}
use Rattle.lt_expand.proofs.exceptions.Exceptions.number.Goals as goal

pub returns-in-Some : goal.returns-in-Some
returns-in-Some c =
    number_there c.args.self.now.names.entries (exception c.args.of.now) c.declaration_of-declaration.result c.in-Some.number c.declaration_of-declaration.ensures (sym c.get_index_of.ensures.index ∙ c.in-Some.is)

pub returns-in-None : goal.returns-in-None
returns-in-None c =
    c.len.ensures.len
    ∙ number_beyond c.args.self.now.names.entries (exception c.args.of.now) c.declaration_of-declaration.result c.get_index_of.result c.declaration_of-declaration.ensures c.get_index_of.ensures.found c.in-None.is
