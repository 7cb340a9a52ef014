-- A session took its part, and its frame was put.
use Rattle.std.proofs.Common.{ℕ, List, None, Ok, Err, sym, subst, append-nil}
use Rattle.std.specs.declared.option.Option.{Option}
use Rattle.std.specs.declared.result.Result.{Result}
use Rattle.lt_io.specs.Link.{Link}
use Rattle.lt_io.specs.Sink.{Sink}
use Rattle.lt_io.specs.declared.sink.Failed.{Failed}
use Rattle.lt_rif.specs.declared.end.Who.{Who}
use Rattle.lt_campaign.specs.Rounds.{part_text}
use Rattle.lt_campaign.specs.Session.{Session, TakesItsPart, of_none, unstarted}
use Rattle.lt_campaign.specs.inner.Parting.{Parted, PutsPart, late}
use Rattle.lt_campaign.specs.inner.Writing.{HasText, PutsBehind}

-- a session that wasn't started has nothing for the trace
pub parted_none : {State : Type 0} (number : ℕ) (w : Who) (c : Option Link) (start now : Sink) (waiting before : List ℕ) → HasText start now waiting before → Parted {State = State} number (unstarted w c) (unstarted w c) start now waiting before
parted_none number w c start now waiting before has = record { part = None; takes = of_none w c; text = subst (HasText start now waiting) (sym (append-nil before)) has }

-- a session took its part, and its frame was put or not
pub puts_part : {State : Type 0} (result : Result (Unit {0}) Failed) (number : ℕ) (old new : Session State) (start now : Sink) (waiting before : List ℕ) (part : Option (List ℕ)) → TakesItsPart old new part →
    PutsBehind result start now waiting before (part_text number part) → PutsPart result number old new start now waiting before
puts_part (Ok u) number old new start now waiting before part takes puts = record { part = part; takes = takes; text = puts }
puts_part (Err f) number old new start now waiting before part takes puts = late part takes puts
