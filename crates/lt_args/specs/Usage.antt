-- What is said of wrong words.
use Rattle.std.specs.Prelude.{ℕ, List, codes}
use Rattle.lt_args.specs.declared.usage.UsageKind.{UsageKind}
use Rattle.lt_args.specs.declared.usage.UsageKind.TheVariants as usage

-- the word of what is wrong
abbrev pub usage_word : UsageKind → List ℕ
usage_word usage.Words = codes "words"
usage_word usage.Mode = codes "mode"
usage_word usage.Number = codes "number"
usage_word usage.Both = codes "both"
usage_word usage.Trace = codes "trace"

-- how the program is called
abbrev pub usage_text : List ℕ
usage_text =
    codes "lurette MODE FILE [-l N] [--seed N] [--precision N] [--budget N] [--node NAME] [--sut CMD] [--oracle CMD] [--replay FILE] [--locals] [--draw N] [--count N]"
