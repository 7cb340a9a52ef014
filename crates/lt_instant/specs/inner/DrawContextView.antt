-- What is known in an instant of the code.
use Rattle.std.specs.Prelude.{ℕ, Bool, List, []}
use Rattle.std.specs.declared.option.Option.{Option}
use Rattle.lt_draw.specs.Word.{word_at}
use Rattle.lt_formula.specs.Expression.{Expression}
use Rattle.lt_formula.specs.Table.{spelled}
use Rattle.lt_formula.specs.Valuation.{Valuation}
use Rattle.lt_formula.specs.View.{table_expressions}
use Rattle.lt_formula.specs.declared.table.Table.{Table}
use Rattle.lt_marks_laws.specs.Valued.{Weigher}
use Rattle.lt_num.specs.declared.value.Value.{Value}
use Rattle.lt_space.specs.Formula.{Formula}
use Rattle.lt_term.specs.Configuration.{Configuration, earlier_locals_from, known_in}
use Rattle.lt_term.specs.Evaluated.{Worth}
use Rattle.lt_term.specs.Mapped.{weight_mapped}
use Rattle.lt_term.specs.Process.{Process, with_constraints}
use Rattle.lt_term.specs.Scene.{Scene}
use Rattle.lt_term.specs.SceneView.{scene}
use Rattle.lt_term.specs.Tree.{Lasts}
use Rattle.lt_instant.specs.Instant.{Leaf, words_of, worth_in}
use Rattle.lt_instant.specs.RunStateView.{configuration_behind}
use Rattle.lt_instant.specs.declared.draw_context.DrawContext.{DrawContext}
use Rattle.lt_instant.specs.inner.Found.{Found, found_at, is_stop}

-- the scenario, and where the run stands, whatever is still to be done
abbrev pub scene_of : DrawContext → Scene
scene_of m = scene m.scenario.now

abbrev pub configuration_of : DrawContext → Configuration
configuration_of m = configuration_behind m.past.now

-- where it stands where this is still to be done
abbrev pub configuration_in : DrawContext → Process ℕ → Configuration
configuration_in m p = record (configuration_of m) {
  process = with_constraints (spelled (table_expressions m.scenario.now.table)) p;
}

-- the words of the instant, by slot
abbrev pub word_of : DrawContext → ℕ → ℕ
word_of m = words_of m.words.now.seed (configuration_of m)

-- the words that the code draws
abbrev pub drawn_word : DrawContext → ℕ → ℕ
drawn_word m = word_at m.words.now.seed m.words.now.step

-- what constraints and weights are worth
abbrev pub worth_of : DrawContext → Worth Expression Formula
worth_of m = worth_in (scene_of m) (configuration_of m) m.inputs.now

-- what is known where locals were this in the instant before
abbrev pub valuation_with : DrawContext → List (Option Value) → Valuation
valuation_with m locals = record (known_in (scene_of m) (configuration_of m) m.inputs.now []) { pre_locals = locals }

-- what is known where these locals are in scope
abbrev pub valuation_at : DrawContext → Lasts → Valuation
valuation_at m lasts = valuation_with m (earlier_locals_from lasts 0 (scene_of m).locals)

-- the expression of a number
abbrev pub meaning_of : Table → ℕ → Expression
meaning_of table n = spelled (table_expressions table) n

-- what weights of numbers are worth
abbrev pub weigher_of : DrawContext → Weigher ℕ
weigher_of m = λ ls w. (worth_of m).weight ls (weight_mapped (meaning_of m.scenario.now.table) w)

-- what is found at a leaf
abbrev pub found_of : DrawContext → Leaf → Found
found_of m o = found_at (scene_of m) m.draw (word_of m) o

-- whether a draw stops at a leaf: it is live
abbrev pub stops_of : DrawContext → Leaf → Bool
stops_of m o = is_stop (found_of m o)
