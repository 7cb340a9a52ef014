-- What the search for the solution of an instant is drawn from.
use Rattle.std.specs.Prelude.{◌≡◌, ◌≤◌, ℕ, List, length, vec_capacity}
use Rattle.std.specs.Option.{ForSome}
use Rattle.lt_draw.specs.Word.{word_at}
use Rattle.lt_draw.specs.declared.directions.Draw.{Draw}
use Rattle.lt_num.specs.declared.range.Range.{Range}
use Rattle.lt_instant.specs.Solved.{directions_from, target_words_from, targets_from}
use Rattle.lt_instant.specs.declared.search_start.SearchStart.{SearchStart}

-- The targets and the directions of variables of these ranges are those that the words of a seed at a step give, by a rule of
-- drawing. Those of a variable that is out of scope say nothing: nobody asks for them.
pub record AreDrawn (ranges : List Range) (start : SearchStart) (seed step : ℕ) (draw : Draw) : Type 0 where
  pub words : start.words.items ≡ target_words_from (word_at seed step) 0 (length ranges)
  pub targets : start.targets.items ≡ targets_from (word_at seed step) 0 ranges
  pub down : start.down.items ≡ directions_from draw (word_at seed step) 0 (length ranges)

-- There is room for the targets and directions of variables of these ranges; where an instant is kept with them, they are that
-- instant's.
pub record IsSearchStartOf (ranges : List Range) (start : SearchStart) : Type 0 where
  pub words : length ranges ≤ vec_capacity start.words
  pub targets : length ranges ≤ vec_capacity start.targets
  pub down : length ranges ≤ vec_capacity start.down
  pub drawn : ForSome start.instant (λ d. AreDrawn ranges start d.seed d.step d.draw)
