-- Sessions go through rounds, one after another.
use Rattle.std.proofs.Common.{◌≡◌, ◌+◌, ℕ, false, List, [], ◌∷◌, ◌++◌, Ok, Err, length, length-append, append_assoc, append-nil, ap, ◌∙◌, sym, subst, arith}
use Rattle.std.specs.declared.result.Result.{Result}
use Rattle.std.specs.Io.KnownBytes.{Appends}
use Rattle.std.specs.Prelude.{IsErr, OnErr, OnOk}
use Rattle.lt_io.specs.Sink.{Sink}
use Rattle.lt_io.specs.declared.sink.Failed.{Failed}
use Rattle.lt_campaign.specs.Campaign.{AllOver, IsCutText, well_count}
use Rattle.lt_campaign.specs.Rounds.{AreRounds, IsRound, Parts, campaign_line, framed, rounds_text}
use Rattle.lt_campaign.specs.Rounds as rounds
use Rattle.lt_campaign.specs.Session.{Session}
use Rattle.lt_campaign.specs.inner.Fitting.{AllFit}
use Rattle.lt_campaign.specs.inner.Parting.{Played, PlayedNot, PutsRound, PutsRounds, Rounded, RoundedNot, WritesAll, Written, WrittenNot, at_end}
use Rattle.lt_campaign.specs.inner.Rounding.{any_goes}
use Rattle.lt_campaign.specs.inner.Writing.{HasText}
use Rattle.lt_campaign.proofs.Fitting.{LowersAll, all_over, round_lowers}
use Rattle.lt_campaign.proofs.Writing.{cut_more, has_none}

-- the text of rounds and one more
rounds_snoc : (rs : List Parts) (parts : Parts) → rounds_text (rs ++ parts ∷ []) ≡ rounds_text rs ++ framed 0 parts
rounds_snoc [] parts = append-nil (framed 0 parts)
rounds_snoc (r ∷ rs) parts = ap (λ (t : List ℕ). framed 0 r ++ t) (rounds_snoc rs parts) ∙ sym (append_assoc (framed 0 r) (rounds_text rs) (framed 0 parts))

module _ {State : Type 0} where
  -- one round more
  one_more_round : (old mid new : List (Session State)) (rs : List Parts) (parts : Parts) → AreRounds old rs mid → IsRound mid new parts → AreRounds old (rs ++ parts ∷ []) new
  one_more_round _ _ new _ parts (rounds.none ss) round = rounds.more ss new new parts [] round (rounds.none new)
  one_more_round _ mid new _ parts (rounds.more old next _ p rs first rest) round = rounds.more old next new p (rs ++ parts ∷ []) first (one_more_round next mid new rs parts rest round)

  -- sessions went through rounds, and the frames of what they had were put behind a text
  pub record Going (old new : List (Session State)) (start now : Sink) (waiting before : List ℕ) : Type 0 where
    pub rounds : List Parts
    pub plays : AreRounds old rounds new
    pub text : HasText start now waiting (before ++ rounds_text rounds)

  pub none_gone : (old : List (Session State)) (start now : Sink) (waiting before : List ℕ) → HasText start now waiting before → Going old old start now waiting before
  none_gone old start now waiting before has = record { rounds = []; plays = rounds.none old; text = subst (HasText start now waiting) (sym (append-nil before)) has }

  module _ (old mid new : List (Session State)) (start now after : Sink) (waiting waiting' before : List ℕ) (going : Going old mid start now waiting before) where
    -- a round more
    pub one_more_gone : Rounded mid new start after waiting' (before ++ rounds_text going.rounds) → Going old new start after waiting' before
    one_more_gone rounded = record {
      rounds = going.rounds ++ rounded.parts ∷ [];
      plays = one_more_round old mid new going.rounds rounded.parts going.plays rounded.round;
      text = subst (HasText start after waiting')
          (append_assoc before (rounds_text going.rounds) (framed 0 rounded.parts) ∙ ap (λ (t : List ℕ). before ++ t) (sym (rounds_snoc going.rounds rounded.parts))) rounded.text;
    }

    -- a write failed in it
    pub not_gone : RoundedNot mid new start after (before ++ rounds_text going.rounds) → PlayedNot old new start after before
    not_gone rounded = record { mid = mid; rounds = going.rounds; plays = going.plays; last = rounded }

  -- all have ended
  pub all_gone : (old new : List (Session State)) (start now : Sink) (waiting before : List ℕ) → any_goes new ≡ false → Going old new start now waiting before → Played old new start now waiting before
  all_gone old new start now waiting before none going = record { rounds = going.rounds; plays = going.plays; over = all_over new none; text = going.text }

  -- A round, whatever was written before.
  module _ (old new : List (Session State)) (now after : Sink) (waiting waiting' : List ℕ) (prompt : now.gathers ≡ false → waiting ≡ [])
      (rounded : (start : Sink) (before : List ℕ) → HasText start now waiting before → Rounded old new start after waiting' before) where
    this : Rounded old new now after waiting' waiting
    this = rounded now waiting (has_none now waiting prompt)

    -- it keeps that nothing waits at a trace that gathers no texts
    pub still_prompt : after.gathers ≡ false → waiting' ≡ []
    still_prompt not = this.text.prompt (sym this.text.still ∙ not)

    -- and lowers what is left to do
    pub lowers : AllFit old → LowersAll old new
    lowers fits = round_lowers old new this.parts this.round fits

  -- ---- where a `?` gave up

  pub puts_round_err : (result : Result (Unit {0}) Failed) (old new : List (Session State)) (start now : Sink) (waiting before : List ℕ) → IsErr result → RoundedNot old new start now before → PutsRound result old new start now waiting before
  puts_round_err (Ok u) old new start now waiting before is not = absurd (cc is)
  puts_round_err (Err f) old new start now waiting before is not = not

  pub puts_rounds_err : (result : Result (Unit {0}) Failed) (old new : List (Session State)) (start now : Sink) (waiting before : List ℕ) → IsErr result → PlayedNot old new start now before → PutsRounds result old new start now waiting before
  puts_rounds_err (Ok u) old new start now waiting before is not = absurd (cc is)
  puts_rounds_err (Err f) old new start now waiting before is not = not

  pub writes_all_err : (result : Result (Unit {0}) Failed) (old new : List (Session State)) (start now : Sink) → IsErr result → WrittenNot old new start now → WritesAll result old new start now
  writes_all_err (Ok u) old new start now is not = absurd (cc is)
  writes_all_err (Err f) old new start now is not = not

  -- ---- the line at the end

  module _ (old new : List (Session State)) (start : Sink) (rs : List Parts) (plays : AreRounds old rs new) (over : AllOver new) where
    abbrev last_line : List ℕ
    last_line = campaign_line (length new) (well_count new)

    -- all was written
    all_written : (after : Sink) (waiting : List ℕ) → waiting ≡ [] → HasText start after waiting (rounds_text rs ++ last_line) → Written old new start after
    all_written after waiting none has = record {
      rounds = rs;
      plays = plays;
      over = over;
      text = subst (Appends start.written after.written) (sym (append-nil has.written) ∙ ap (λ (w : List ℕ). has.written ++ w) (sym none) ∙ has.all) has.appends;
      calm = has.calm;
    }

    -- a write failed once all was put
    not_settled : (after : Sink) → IsCutText start after (rounds_text rs ++ last_line) (rounds_text rs ++ last_line) → WrittenNot old new start after
    not_settled after cut =
        let all = rounds_text rs ++ last_line in
        let longer : length all ≡ length (rounds_text rs) + length last_line = length-append (rounds_text rs) last_line in
        at_end rs plays over (subst (IsCutText start after (rounds_text rs)) (append-nil all) (cut_more start after all all (rounds_text rs) [] (omega arith) cut))

    -- what waited was written, or not
    pub writes_rest : (result : Result (Unit {0}) Failed) (mid after : Sink) (waiting waiting' : List ℕ) → HasText start mid waiting (rounds_text rs ++ last_line) →
        OnOk result ((s : Sink) (before : List ℕ) → HasText s mid waiting before → HasText s after waiting' before) → OnOk result (waiting' ≡ []) →
        OnErr result ((s : Sink) (before : List ℕ) → HasText s mid waiting before → IsCutText s after before before) → WritesAll result old new start after
    writes_rest (Ok u) mid after waiting waiting' has written none cut = all_written after waiting' none (written start (rounds_text rs ++ last_line) has)
    writes_rest (Err f) mid after waiting waiting' has written none cut = not_settled after (cut start (rounds_text rs ++ last_line) has)
