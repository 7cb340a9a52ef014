use Rattle.std.proofs.Common.{◌≡◌, ◌++◌, length}
use denote.Text.{Utf8}
use denote.Shadow.{shadow}
use Rattle.lt_io.specs.Command.{texts_of, words_of}
use Rattle.lt_io.proofs.command.words.Given as goal

-- the words so far, and those of what is left
abbrev pub invariant-loop-word : goal.invariant-loop-word
invariant-loop-word l = record {
  text : shadow (Utf8 l.rest);
  words : texts_of l.words.items ++ words_of l.rest ≡ words_of l.text;
}

abbrev pub decreases-loop-word : goal.decreases-loop-word
decreases-loop-word l = length l.rest
