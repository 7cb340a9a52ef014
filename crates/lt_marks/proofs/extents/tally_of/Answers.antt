use Rattle.std.proofs.Common.{ap, sym, ◌∙◌}
use Rattle.std.specs.Prelude.{Some}
use Rattle.lt_marks.specs.Tallied.{extent_of}
use Rattle.lt_marks.proofs.Tallies.{kept_tally}
use Rattle.lt_marks.proofs.extents.tally_of.Goals as goal

pub returns-in-Con : goal.returns-in-Con
returns-in-Con c = kept_tally c.args.is_fresh c.args.track.now c.extent.result c.requires (ap (extent_of c.args.is_fresh) c.in-Con.is ∙ ap Some (sym c.extent.ensures))

pub returns-in-Seq : goal.returns-in-Seq
returns-in-Seq c = kept_tally c.args.is_fresh c.args.track.now c.extent-in-Seq.result c.requires (ap (extent_of c.args.is_fresh) c.in-Seq.is ∙ ap Some (sym c.extent-in-Seq.ensures))

pub returns-in-Loop : goal.returns-in-Loop
returns-in-Loop c = kept_tally c.args.is_fresh c.args.track.now c.extent-in-Loop.result c.requires (ap (extent_of c.args.is_fresh) c.in-Loop.is ∙ ap Some (sym c.extent-in-Loop.ensures))

pub returns-in-Count : goal.returns-in-Count
returns-in-Count c = kept_tally c.args.is_fresh c.args.track.now c.extent-in-Count.result c.requires (ap (extent_of c.args.is_fresh) c.in-Count.is ∙ ap Some (sym c.extent-in-Count.ensures))

pub returns-in-Any : goal.returns-in-Any
returns-in-Any c = kept_tally c.args.is_fresh c.args.track.now c.extent-in-Any.result c.requires (ap (extent_of c.args.is_fresh) c.in-Any.is ∙ ap Some (sym c.extent-in-Any.ensures))

pub returns-in-Pri : goal.returns-in-Pri
returns-in-Pri c = kept_tally c.args.is_fresh c.args.track.now c.extent-in-Pri.result c.requires (ap (extent_of c.args.is_fresh) c.in-Pri.is ∙ ap Some (sym c.extent-in-Pri.ensures))

pub returns-in-Par : goal.returns-in-Par
returns-in-Par c = kept_tally c.args.is_fresh c.args.track.now c.extent-in-Par.result c.requires (ap (extent_of c.args.is_fresh) c.in-Par.is ∙ ap Some (sym c.extent-in-Par.ensures))

pub returns-in-Assert : goal.returns-in-Assert
returns-in-Assert c = kept_tally c.args.is_fresh c.args.track.now c.extent-in-Assert.result c.requires (ap (extent_of c.args.is_fresh) c.in-Assert.is ∙ ap Some (sym c.extent-in-Assert.ensures))

pub returns-in-Exist : goal.returns-in-Exist
returns-in-Exist c = kept_tally c.args.is_fresh c.args.track.now c.extent-in-Exist.result c.requires (ap (extent_of c.args.is_fresh) c.in-Exist.is ∙ ap Some (sym c.extent-in-Exist.ensures))

pub returns-in-Catch : goal.returns-in-Catch
returns-in-Catch c = kept_tally c.args.is_fresh c.args.track.now c.extent-in-Catch.result c.requires (ap (extent_of c.args.is_fresh) c.in-Catch.is ∙ ap Some (sym c.extent-in-Catch.ensures))

pub returns-in-Try : goal.returns-in-Try
returns-in-Try c = kept_tally c.args.is_fresh c.args.track.now c.extent-in-Try.result c.requires (ap (extent_of c.args.is_fresh) c.in-Try.is ∙ ap Some (sym c.extent-in-Try.ensures))
