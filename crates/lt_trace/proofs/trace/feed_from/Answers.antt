use Rattle.std.proofs.Common.{◌≡◌, ◌-◌, ℕ, List, ap, sym, ◌∙◌, drop, take, length, length-drop}
use Rattle.std.specs.List.{position}
use Rattle.std.proofs.Math.Seq.{take-length}
use Rattle.lt_trace.specs.Lines.{is_feed}
use Rattle.lt_trace.proofs.Feeds.{feed-is, no-feed}
use Rattle.lt_trace.proofs.trace.feed_from.Goals as goal

whole : (text : List ℕ) (at : ℕ) → take (length text - at) (drop at text) ≡ drop at text
whole text at = ap (λ (n : ℕ). take n (drop at text)) (sym (length-drop at text)) ∙ take-length (drop at text)

pub returns-in-Some : goal.returns-in-Some
returns-in-Some c = feed-is c.args.text.now c.args.at c.in-Some.before (sym (c.in-Some.ensures ∙ ap (λ (t : List ℕ). position is_feed t) (whole c.args.text.now c.args.at)))

pub returns-in-None : goal.returns-in-None
returns-in-None c = no-feed (drop c.args.at c.args.text.now) (sym (c.in-None.ensures ∙ ap (λ (t : List ℕ). position is_feed t) (whole c.args.text.now c.args.at)))
