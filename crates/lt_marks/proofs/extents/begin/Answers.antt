use Rattle.std.proofs.Common.{false, true, ap, sym, ◌∙◌, subst}
use Rattle.lt_marks.specs.Tallied.{IsTallied, keeping}
use Rattle.lt_marks.specs.View.{body, standing}
use Rattle.lt_marks.proofs.Tallies.{begins, keeping-body, keeping-standing, keeps_both}
use Rattle.lt_marks.proofs.extents.begin.Goals as goal

pub returns : goal.returns
returns c =
    let e = c.extent_of-whole.result in
    let t = c.args.track.now in
    let kept = c.keep-2.ensures ∙ ap (keeping false e) c.keep.ensures in
    let same = ap body kept ∙ keeping-body false e (keeping true e t) ∙ keeping-body true e t in
    record {
      same_body = same;
      begins = ap standing kept ∙ keeping-standing false e (keeping true e t) ∙ keeping-standing true e t ∙ begins t c.requires.unbegun ∙ sym same;
      tallied = subst IsTallied (sym kept) (keeps_both e t c.requires.unbegun c.extent_of-whole.ensures.tally c.extent_of-whole.ensures.raised c.requires.parts);
    }
