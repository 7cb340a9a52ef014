use Rattle.std.proofs.Common.{IfSome, ap, option_map, subst, sym, ◌∙◌}
use Rattle.clap.proofs.WalkLemmas.{one_text-rows}
use Rattle.clap.specs.Values.{IsUnsignedIn}
use Rattle.clap.specs.Words.{found_of, one_text}
use Rattle.lt_args.proofs.Read.{number_read}
use Rattle.lt_args.specs.Settings.{most_seed}
use Rattle.lt_args.specs.Words.{number_of}
use Rattle.lt_args.proofs.found.number_in.Goals as goal

pub returns : goal.returns
returns c =
    let text = one_text (found_of c.args.found.now) c.args.name.now in
    let rows = one_text-rows (found_of c.args.found.now) c.args.name.now in
    number_read 0 most_seed text c.get_one.result (subst (λ o. IfSome o (IsUnsignedIn 0 most_seed)) (sym rows) c.requires) c.get_one.ensures.none c.get_one.ensures.value
    ∙ ap (option_map number_of) rows
