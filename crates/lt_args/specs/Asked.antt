-- The request that the code makes of words.
use Rattle.std.specs.Prelude.{ℕ, List, None, Some}
use Rattle.std.specs.Borrow.{Bor}
use Rattle.std.specs.declared.option.Option.{Option}
use Rattle.lt_loop.specs.InputSource.{source_of}
use Rattle.lt_args.specs.Words.{Request}
use Rattle.lt_args.specs.declared.words.Request.{Request as CodeRequest}

-- the word that is given, if one is
abbrev pub given_word : Option (Bor (List ℕ)) → Option (List ℕ)
given_word None = None
given_word (Some word) = Some word.now

-- the pure twin of a request
abbrev pub request : CodeRequest → Request
request asked = record {
  mode = asked.mode;
  file = asked.file.now;
  limit = asked.limit;
  seed = asked.seed;
  draw = asked.draw;
  decimals = asked.decimals;
  budget = asked.budget;
  node = given_word asked.node;
  inputs = source_of asked.inputs;
  oracle = given_word asked.oracle;
  locals = asked.locals;
  count = asked.count;
}
