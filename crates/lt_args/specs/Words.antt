-- What the words of a call ask for.
use Rattle.std.specs.Prelude.{◌≡◌, ℕ, ◌≤◌, nat_le, Bool, true, false, not, ◌&&◌, ◌==◌, List, [], Ok, Err, None, Some, codes, option_map, unwrap_or, if◌then◌else◌}
use Rattle.std.specs.Option.{is_some}
use Rattle.std.specs.Str.{all_ascii_digits, bytes_eq}
use Rattle.std.specs.Str.Parse.{digits_value, without_leading_plus}
use Rattle.std.specs.declared.option.Option.{Option}
use Rattle.std.specs.declared.result.Result.{Result}
use Rattle.clap.specs.Faults.{fault_of}
use Rattle.clap.specs.Simple.{matches_of}
use Rattle.clap.specs.Takes.{takes}
use Rattle.clap.specs.Walk.{Row, Text, first_of, is_empty, one_of}
use Rattle.lt_draw.specs.declared.directions.Draw.{Draw}
use Rattle.lt_draw.specs.declared.directions.Draw.TheVariants.{Directed, Inside, Up}
use Rattle.lt_loop.specs.InputSource.{InputSource, from_nobody, from_program, from_trace}
use Rattle.lt_args.specs.Command.{command}
use Rattle.lt_args.specs.Settings.{most_steps, default_steps, most_number, default_seed, default_draw, most_decimals, default_decimals, default_budget, most_count, default_count}
use Rattle.lt_args.specs.declared.usage.UsageKind.{UsageKind}
use Rattle.lt_args.specs.declared.usage.UsageKind.TheVariants as usage
use Rattle.lt_args.specs.declared.usage.WordsRefusal.{WordsRefusal}
use Rattle.lt_args.specs.declared.usage.WordsRefusal.TheVariants as refusal
use Rattle.lt_args.specs.declared.words.Mode.{Mode}
use Rattle.lt_args.specs.declared.words.Mode.TheVariants.{Campaign, Check, Print, Run, Stress}

-- what the words ask for
pub record Request : Type 0 where
  pub mode : Mode
  -- the name of the scenario's file; in a large run its number as it was written
  pub file : List ℕ
  -- the most steps
  pub limit : ℕ
  -- the seed of what is drawn
  pub seed : ℕ
  -- the rule by which it is drawn
  pub draw : Draw
  -- how many decimals a real has
  pub decimals : ℕ
  -- the greatest need that a search may have
  pub budget : ℕ
  -- the name of the node, where one is given
  pub node : Option (List ℕ)
  -- where the inputs of the scenario come from; in a check from the trace that is checked
  pub inputs : InputSource
  -- the command of the oracle, where one is given
  pub oracle : Option (List ℕ)
  -- whether locals are written to the trace
  pub locals : Bool
  -- how many sessions a campaign has
  pub count : ℕ

-- the number of a large run is no greater than words may ask for
abbrev pub HasSmallNumber : Mode → Type 0
HasSmallNumber (Stress n) = n ≤ most_number
HasSmallNumber _ = Unit {0}

-- its numbers of steps and of decimals, that of a large run, and that of sessions are no greater than words may ask for; a campaign has one session at least
pub record IsWithin (request : Request) : Type 0 where
  pub limit : request.limit ≤ most_steps
  pub decimals : request.decimals ≤ most_decimals
  pub number : HasSmallNumber request.mode
  pub some : 1 ≤ request.count
  pub count : request.count ≤ most_count

-- the number that decimal digits write, which a plus may stand before
abbrev pub number_of : Text → ℕ
number_of word = digits_value 10 (without_leading_plus word)

-- the number that was found for an option, where it was given
abbrev pub number_at : Text → List Row → Option ℕ
number_at name found = option_map number_of (one_of name found)

-- the word that was found for an argument that has to be there
abbrev pub word_at : Text → List Row → Text
word_at name found = unwrap_or (first_of name found) []

-- whether a flag was given
abbrev pub flag_at : Text → List Row → Bool
flag_at name found = bytes_eq (unwrap_or (one_of name found) []) (codes "true")

-- whether a word is decimal digits alone, one or more: no sign stands before them, and no blank
abbrev pub is_digits : Text → Bool
is_digits word = not (is_empty word) && all_ascii_digits word

-- the large run of a number, where it isn't too great
abbrev pub stress_of : ℕ → Result Mode UsageKind
stress_of n = if nat_le n most_number then Ok (Stress n) else Err usage.Number

-- the large run of the number that a word is, where it is decimal digits alone
abbrev pub large_run : Text → Result Mode UsageKind
large_run word = if is_digits word then stress_of (digits_value 10 word) else Err usage.Number

-- the mode that a word is, where this one stands in the place of FILE
abbrev pub mode_of : Text → Text → Result Mode UsageKind
mode_of word file =
    if bytes_eq word (codes "run") then Ok Run
    else if bytes_eq word (codes "print") then Ok Print
    else if bytes_eq word (codes "check") then Ok Check
    else if bytes_eq word (codes "campaign") then Ok Campaign
    else if bytes_eq word (codes "stress") then large_run file
    else Err usage.Mode

-- where the inputs come from, where this command of a controller is given, or this file of an earlier trace
abbrev pub source_by : Option Text → Option Text → InputSource
source_by (Some command) replay = from_program command
source_by None (Some name) = from_trace name
source_by None None = from_nobody

-- the command of a controller that a mode takes: a check takes none
abbrev pub controller_in : Mode → List Row → Option Text
controller_in Check found = None
controller_in _ found = first_of (codes "sut") found

-- where the inputs come from, by what was found in the words
abbrev pub source_in : Mode → List Row → InputSource
source_in mode found = source_by (controller_in mode found) (first_of (codes "replay") found)

-- the rule of drawing that has this number
abbrev pub draw_of : ℕ → Draw
draw_of number = if number == 2 then Directed else if number == 3 then Inside else Up

-- the request of a mode, from what was found in the words, with what holds where an option isn't given
abbrev pub request_of : Mode → List Row → Request
request_of mode found = record {
  mode = mode;
  file = word_at (codes "file") found;
  limit = unwrap_or (number_at (codes "limit") found) default_steps;
  seed = unwrap_or (number_at (codes "seed") found) default_seed;
  draw = draw_of (unwrap_or (number_at (codes "draw") found) default_draw);
  decimals = unwrap_or (number_at (codes "precision") found) default_decimals;
  budget = unwrap_or (number_at (codes "budget") found) default_budget;
  node = first_of (codes "node") found;
  inputs = source_in mode found;
  oracle = first_of (codes "oracle") found;
  locals = flag_at (codes "locals") found;
  count = unwrap_or (number_at (codes "count") found) default_count;
}

-- whether a mode makes runs of a scenario
abbrev pub makes_runs : Mode → Bool
makes_runs Run = true
makes_runs Campaign = true
makes_runs _ = false

-- whether runs are asked for with both a controller and an earlier trace, whose replies would stand for the controller's
abbrev pub has_both : Mode → List Row → Bool
has_both mode found =
    makes_runs mode && (is_some (first_of (codes "sut") found) && is_some (first_of (codes "replay") found))

-- whether a trace is checked
abbrev pub is_check : Mode → Bool
is_check Check = true
is_check _ = false

-- whether a check is asked for without the trace
abbrev pub lacks_trace : Mode → List Row → Bool
lacks_trace mode found = is_check mode && not (is_some (first_of (codes "replay") found))

-- what is asked for by what was found in the words, where there is such a mode
abbrev pub in_mode : Result Mode UsageKind → List Row → Result Request UsageKind
in_mode (Err kind) found = Err kind
in_mode (Ok mode) found =
    if has_both mode found then Err usage.Both
    else if lacks_trace mode found then Err usage.Trace
    else Ok (request_of mode found)

-- what was found in words
abbrev pub asked_by : List Row → Result Request UsageKind
asked_by found = in_mode (mode_of (word_at (codes "mode") found) (word_at (codes "file") found)) found

-- What the words ask for, or what is wrong with them. They are wrong exactly where clap finds a fault in them for this
-- command, help that is asked for being one, and where what it finds in them asks for nothing that there is.
abbrev pub requested : List Text → Result Request UsageKind
requested words = if is_empty (fault_of command words) then asked_by (matches_of command words) else Err usage.Words

-- clap promises to take these words: they name what the command has, each once at most, with a value of its own where it wants
-- one, which is within its bounds; what has to be there is there, and no help is asked for
abbrev pub IsPromised : List Text → Type 0
IsPromised words = takes command words ≡ true

-- of what is wrong with words: not that they have another form, or ask for help
abbrev pub IsOfMeaning : UsageKind → Type 0
IsOfMeaning usage.Words = ⊥
IsOfMeaning _ = Unit {0}

-- the words aren't refused for their form, or as asking for help
abbrev pub HaveForm : WordsRefusal → Type 0
HaveForm (refusal.Usage kind) = IsOfMeaning kind
HaveForm refusal.Memory = Unit {0}

-- the words are refused for this, or for want of memory
abbrev pub IsRefusedBy : WordsRefusal → Result Request UsageKind → Type 0
IsRefusedBy (refusal.Usage kind) asked = asked ≡ Err kind
IsRefusedBy refusal.Memory asked = Unit {0}
