-- Where searches begin, where the ranges at hand are those of all that is drawn.
use Rattle.std.proofs.Common.{◌≡◌, ◌≤◌, List, ap, length, sym, subst, ◌∙◌, arith}
use Rattle.std.specs.List.{All}
use Rattle.lt_draw.specs.Direction.{most_drawn}
use Rattle.lt_draw.specs.Word.{word_at}
use Rattle.lt_num.specs.Range.{HasPoints}
use Rattle.lt_num.specs.declared.range.Range.{Range}
use Rattle.lt_instant.specs.SearchStartView.{IsSearchStartOf, AreDrawn}
use Rattle.lt_instant.specs.Solved.{directions_from, directions_of, drawn_ranges, target_words_from, target_words_of, targets_from, targets_of}
use Rattle.lt_instant.specs.declared.search_start.SearchStart.{SearchStart}
use Rattle.lt_instant.specs.declared.draw_context.DrawContext.{DrawContext}
use Rattle.lt_instant.specs.inner.DrawContextView.{scene_of, word_of}
use Rattle.lt_instant.proofs.Lengths.{ranges_few}
use Rattle.lt_instant.proofs.Ranges.{drawn_points}

module _ (m : DrawContext) (rs : List Range) (is : rs ≡ drawn_ranges (scene_of m)) where
  pub have_points : All HasPoints rs
  have_points = subst (All HasPoints) (sym is) (drawn_points m.scenario.now)

  pub are_few : length rs ≤ most_drawn
  are_few = omega (arith, ap length is, ranges_few m.scenario.now)

  -- a start is one of these ranges where it is one of all that is drawn, ..
  pub start_there : (start : SearchStart) → IsSearchStartOf (drawn_ranges (scene_of m)) start → IsSearchStartOf rs start
  start_there start h = subst (λ (qs : List Range). IsSearchStartOf qs start) (sym is) h

  -- .. and the other way round
  pub start_here : (start : SearchStart) → IsSearchStartOf rs start → IsSearchStartOf (drawn_ranges (scene_of m)) start
  start_here start h = subst (λ (qs : List Range). IsSearchStartOf qs start) is h

  module _ (start : SearchStart) (drawn : AreDrawn rs start m.words.now.seed m.words.now.step m.draw) where
    -- those that are drawn by the words of a moment are the targets and the directions of the rules
    pub targets_are : start.targets.items ≡ targets_of (scene_of m) (word_of m)
    targets_are = drawn.targets ∙ (λ i. targets_from (word_at m.words.now.seed (m.step_is i)) 0 (is i))

    pub words_are : start.words.items ≡ target_words_of (scene_of m) (word_of m)
    words_are = drawn.words ∙ (λ i. target_words_from (word_at m.words.now.seed (m.step_is i)) 0 (length (is i)))

    pub down_are : start.down.items ≡ directions_of (scene_of m) m.draw (word_of m)
    down_are = drawn.down ∙ (λ i. directions_from m.draw (word_at m.words.now.seed (m.step_is i)) 0 (length (is i)))
