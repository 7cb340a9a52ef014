use Rattle.std.proofs.Common.{◌≡◌, ◌∙◌, ap, false, length, map, replicate, rules}
use Rattle.lt_term.specs.TreeView.{weight}
use Rattle.lt_instant.specs.inner.DrawContextView.{scene_of}
use Rattle.lt_check.specs.inner.Seen.{positive}
use Rattle.lt_check.specs.inner.SoughtView.{wanted}
use Rattle.lt_check.proofs.Sights.{mapped_worths, sees_choice, sees_spoilt}
use Rattle.lt_check.proofs.seeing.see_choice.Goals as goal

pub returns-in_ok-positives-in-Ok-clause-seen : goal.returns-in_ok-positives-in-Ok-clause-seen
returns-in_ok-positives-in-Ok-clause-seen c =
    let m = c.args.context.now in
    sees_choice (wanted (scene_of m) c.args.sought).fault _ _ (length c.args.weights.now) c.weigh.new.found.items
    (c.in-Ok.ensures.weighs ∙ mapped_worths m c.args.lasts.now (map weight c.args.weights.now))
    (c.in_ok-positives-in-Ok.ensures ∙ ap (map positive) c.deref.ensures.value)

pub returns-in_ok-vec-in-Err-clause-seen : goal.returns-in_ok-vec-in-Err-clause-seen
returns-in_ok-vec-in-Err-clause-seen c =
    let m = c.args.context.now in
    let marks : c.in_ok-vec-in-Err.field-0.items ≡ replicate (length c.args.weights.now) false = search rules in
    sees_spoilt (wanted (scene_of m) c.args.sought).fault _ _ (length c.args.weights.now) c.in-Err.fault c.seeks_fault.result
    (c.in-Err.ensures.weighs ∙ mapped_worths m c.args.lasts.now (map weight c.args.weights.now))
    c.seeks_fault.ensures marks
