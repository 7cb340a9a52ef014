use Rattle.std.proofs.Common.{[], ap, unwrap_or, codes, ◌∙◌}
use Rattle.std.specs.Str.{bytes_eq}
use Rattle.clap.proofs.WalkLemmas.{one_text-rows}
use Rattle.clap.specs.Words.{found_of, one_text}
use Rattle.lt_args.proofs.Read.{flag_read}
use Rattle.lt_args.proofs.found.is_given.Goals as goal

pub returns : goal.returns
returns c =
    c.unwrap_or.ensures
    ∙ flag_read _ (one_text (found_of c.args.found.now) c.args.name.now) c.get_one.result c.get_one.ensures.none c.get_one.ensures.value
    ∙ ap (λ o. bytes_eq (unwrap_or o []) (codes "true")) (one_text-rows (found_of c.args.found.now) c.args.name.now)
