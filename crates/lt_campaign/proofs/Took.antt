-- Through rounds, sessions keep their places: each took its parts, one after another.
use Rattle.std.proofs.Common.{◌≡◌, ℕ, suc, List, [], ◌∷◌, Some, length, refl, arith}
use Rattle.std.specs.Prelude.{slice_get}
use Rattle.std.specs.declared.option.Option.{Option}
use Rattle.lt_loop.specs.Run.{Answers}
use Rattle.lt_campaign.specs.Rounds.{AreRounds, Parts}
use Rattle.lt_campaign.specs.Rounds as rounds
use Rattle.lt_campaign.specs.Run.{Run, TakesParts, traced}
use Rattle.lt_campaign.specs.Run as part
use Rattle.lt_campaign.specs.Session.{Session, TakesItsPart, started, unstarted}
use Rattle.lt_campaign.specs.Session as session

-- a session took its parts, so many: its run did, or it is as it was
abbrev pub Took : {State : Type 0} → Session State → Session State → Type 0
Took (started old) (started new) = (parts : List (Option (List ℕ))) × TakesParts Answers old parts new
Took (started old) (unstarted w c) = ⊥
Took (unstarted w c) new = new ≡ unstarted w c

-- each of them did
abbrev pub AllTook : {State : Type 0} → List (Session State) → List (Session State) → Type 0
AllTook [] [] = Unit {0}
AllTook (s ∷ ss) (t ∷ ts) = Took s t × AllTook ss ts
AllTook _ _ = ⊥

module _ {State : Type 0} where
  -- one more part before the others
  one_more : (s t u : Session State) (p : Option (List ℕ)) → TakesItsPart s t p → Took t u → Took s u
  one_more _ _ (started last) _ (session.of_run old new text kind took) rest = (traced kind text ∷ rest.0, part.more old new last text kind rest.0 took rest.1)
  one_more _ _ (unstarted w c) _ (session.of_run old new text kind took) rest = absurd rest
  one_more _ _ (started last) _ (session.of_none w c) rest = rest
  one_more _ _ (unstarted v d) _ (session.of_none w c) rest = rest

  none_took : (s : Session State) → Took s s
  none_took (started r) = ([], part.none r)
  none_took (unstarted w c) = refl

  all_none : (ss : List (Session State)) → AllTook ss ss
  all_none [] = tt
  all_none (s ∷ ss) = (none_took s, all_none ss)

  -- a round before the others
  round_more : (old mid new : List (Session State)) (parts : Parts) → length mid ≡ length old → length parts ≡ length old →
      ((i : ℕ) (s t : Session State) (p : Option (List ℕ)) → slice_get old i ≡ Some s → slice_get mid i ≡ Some t → slice_get parts i ≡ Some p → TakesItsPart s t p) → AllTook mid new → AllTook old new
  round_more [] [] new parts same as_many parted rest = rest
  round_more [] (t ∷ ts) new parts same as_many parted rest = absurd (omega (arith, same))
  round_more (s ∷ ss) [] new parts same as_many parted rest = absurd (omega (arith, same))
  round_more (s ∷ ss) (t ∷ ts) [] parts same as_many parted rest = absurd rest
  round_more (s ∷ ss) (t ∷ ts) (u ∷ us) [] same as_many parted rest = absurd (omega (arith, as_many))
  round_more (s ∷ ss) (t ∷ ts) (u ∷ us) (p ∷ ps) same as_many parted rest =
      (one_more s t u p (parted 0 s t p refl refl refl) rest.0, round_more ss ts us ps (omega (arith, same)) (omega (arith, as_many)) (λ i. parted (suc i)) rest.1)

  pub all_took : (first : List (Session State)) (parts : List Parts) (last : List (Session State)) → AreRounds first parts last → AllTook first last
  all_took _ _ _ (rounds.none ss) = all_none ss
  all_took _ _ _ (rounds.more old mid new parts others round rest) =
      round_more old mid new parts round.same_number round.as_many round.parted (all_took mid others new rest)
