-- Why words ask for nothing, by clap's error.
use Rattle.clap.specs.Values.{kind_of}
use Rattle.clap.specs.declared.error.Error.{Error}
use Rattle.clap.specs.declared.error.kind.ErrorKind.{ErrorKind}
use Rattle.clap.specs.declared.error.kind.ErrorKind.TheVariants as kind
use Rattle.lt_args.specs.declared.usage.UsageKind.TheVariants as usage
use Rattle.lt_args.specs.declared.usage.WordsRefusal.{WordsRefusal}
use Rattle.lt_args.specs.declared.usage.WordsRefusal.TheVariants as refusal

-- want of memory is told by its kind; every other kind is a fault of the words
abbrev pub refusal_of : ErrorKind → WordsRefusal
refusal_of kind.OutOfMemory = refusal.Memory
refusal_of _ = refusal.Usage usage.Words

abbrev pub refusal_by : Error → WordsRefusal
refusal_by error = refusal_of (kind_of error)
