use Rattle.std.proofs.Common.{◌∙◌, ap, map}
use Rattle.lt_parts.specs.Part.{at, most_atoms_of}
use Rattle.lt_parts.specs.PartView.{piece_of}
use Rattle.lt_parts.proofs.Counts.{parts_have_its_atoms}
use Rattle.lt_parts.proofs.dividing.most_atoms.Goals as goal

pub returns-clause-most : goal.returns-clause-most
returns-clause-most c =
    let table = c.args.table.now in
    c.greatest.ensures
    ∙ ap (λ ps. most_atoms_of (map piece_of ps)) c.deref.ensures.value
    ∙ parts_have_its_atoms table (at table c.args.exp) (map piece_of c.in_ok-found.found.items) c.has_each_once.ensures c.in_ok-found.ensures
