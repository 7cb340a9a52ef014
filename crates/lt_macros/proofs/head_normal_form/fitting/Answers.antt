use Rattle.std.proofs.Common.{sym, ◌∙◌}
use Rattle.lt_macros.proofs.Stepping.{fits_none}
use Rattle.lt_macros.proofs.head_normal_form.fitting.Goals as goal

pub returns-else-fits : goal.returns-else-fits
returns-else-fits c = fits_none c.args.position c.args.form (sym c.fits.ensures ∙ c.if-fits.false)
