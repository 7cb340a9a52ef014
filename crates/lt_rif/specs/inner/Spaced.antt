-- Words with spaces.
use Rattle.std.specs.Prelude.{ℕ, ◌+◌, List, [], ◌∷◌, ◌++◌, length, drop, codes}
use Rattle.std.specs.List.{flat_map}
use Rattle.std.specs.declared.option.Option.{Option}
use Rattle.lt_num.specs.declared.kind.Kind.{Kind}
use Rattle.lt_num.specs.declared.value.Value.{Value}
use Rattle.lt_rif.specs.Trace.{value_words, locals_part}

-- a space after each
abbrev pub before_space : List (List ℕ) → List ℕ
before_space words = flat_map (λ word. word ++ codes " ") words

-- a space before each
abbrev pub after_space : List (List ℕ) → List ℕ
after_space words = flat_map (λ word. codes " " ++ word) words

-- the line of a step's values, from left to right
abbrev pub step_layout : ℕ → List Kind → List Value → List Value → Option (List (Option Value)) → List ℕ
step_layout decimals kinds outputs inputs locals =
    before_space (value_words decimals kinds outputs)
    ++ codes "#outs"
    ++ after_space (value_words decimals (drop (length outputs) kinds) inputs)
    ++ after_space (locals_part decimals (drop (length outputs + length inputs) kinds) locals)
    ++ 10 ∷ []
