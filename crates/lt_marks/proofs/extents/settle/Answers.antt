use Rattle.std.proofs.Common.{false, ap, sym, ◌∙◌, subst}
use Rattle.lt_marks.specs.Tallied.{IsTallied}
use Rattle.lt_marks.specs.View.{body, standing}
use Rattle.lt_marks.proofs.Tallies.{keeping-body, keeping-standing, keeps_rest}
use Rattle.lt_marks.proofs.extents.settle.Goals as goal

pub returns : goal.returns
returns c =
    let e = c.extent_of-rest.result in
    let t = c.args.track.now in
    record {
      same_body = ap body c.keep.ensures ∙ keeping-body false e t;
      same_standing = ap standing c.keep.ensures ∙ keeping-standing false e t;
      tallied = subst IsTallied (sym c.keep.ensures) (keeps_rest e t c.requires.whole c.extent_of-rest.ensures.tally c.extent_of-rest.ensures.raised c.requires.parts);
    }
