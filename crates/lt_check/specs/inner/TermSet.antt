-- The terms of keys.
use Rattle.std.specs.Prelude.{ℕ, List, map}
use Rattle.lt_term.specs.Process.{Process}
use Rattle.lt_term.specs.View.{process}
use Rattle.lt_check.specs.declared.key.TermKey.{TermKey}

-- the terms of some keys
abbrev pub terms_of : List TermKey → List (Process ℕ)
terms_of keys = map (λ k. process k.term) keys
