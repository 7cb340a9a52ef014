-- Phrases that are nothing but another phrase in a cover: parentheses, braces, a list of one trace, and an expression in a trace's
-- place.
use Rattle.std.specs.Prelude.{◌≡◌, ◌<◌, ℕ}
use Rattle.lt_macros.specs.Environment.{Environment}
use Rattle.lt_macros.specs.Denotation.{Denotation}
use Rattle.lt_macros.specs.inner.Phrase.{Phrase, phrase_denotation}
use Rattle.lt_macros.specs.inner.Work.{phrase_work}
use Rattle.lt_macros.specs.inner.Size.{phrase_size}

-- A phrase stands for what the inner one does, and is more.
pub record IsInside (outer inner : Phrase) : Type 0 where
  pub denotation : (env : Environment Denotation) → phrase_denotation env outer ≡ phrase_denotation env inner
  pub work : (env : Environment ℕ) → phrase_work env inner < phrase_work env outer
  pub size : phrase_size inner < phrase_size outer
