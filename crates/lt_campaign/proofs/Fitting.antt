-- Sessions fit their cores, and each part of one that goes on lowers what is left to do.
use Rattle.std.proofs.Common.{◌≡◌, ◌<◌, ◌≤◌, ◌+◌, ℕ, suc, Bool, true, false, not, ◌||◌, List, [], ◌∷◌, length, None, Some, Ok, Err, refl, sym, subst, arith}
use Rattle.std.specs.Prelude.{slice_get}
use Rattle.std.specs.Option.{is_some}
use Rattle.std.specs.declared.option.Option.{Option}
use Rattle.lt_io.specs.Outside.{Links}
use Rattle.lt_rif.specs.declared.end.Who.{Who}
use Rattle.lt_loop.specs.CoreState.{CoreState}
use Rattle.lt_loop.specs.Event.{Told, WantsTell, failed, turn}
use Rattle.lt_loop.specs.Play.{destination_of}
use Rattle.lt_loop.specs.Run.{Answer, Answers}
use Rattle.lt_loop.specs.Work.{work_left}
use Rattle.lt_loop.specs.declared.event.Destination.{Destination}
use Rattle.lt_loop.specs.declared.event.Destination.TheVariants as destination
use Rattle.lt_loop.specs.declared.event.PieceKind.{PieceKind}
use Rattle.lt_loop.specs.declared.event.Wants.{Wants}
use Rattle.lt_loop.specs.declared.event.Wants.TheVariants as wants
use Rattle.lt_drive.specs.Served.{IsGiven, IsGivenPiece, IsGivenTo, IsServed, IsTold, Standing, of_controller, of_oracle, of_turn, served_by}
use Rattle.lt_drive.specs.declared.served.Served.{Served}
use Rattle.lt_drive.specs.declared.served.Served.TheVariants as served
use Rattle.lt_drive.proofs.Events.{listens_told, served_moves}
use Rattle.std.specs.declared.result.Result.{Result}
use Rattle.lt_io.specs.declared.sink.Failed.{Failed}
use Rattle.lt_campaign.specs.Campaign.{AllOver}
use Rattle.lt_campaign.specs.Rounds.{IsRound, Parts}
use Rattle.lt_campaign.specs.Run.{Run, TakesPart, broken_after, wants_after}
use Rattle.lt_campaign.specs.Run as part
use Rattle.lt_campaign.specs.Session.{Session, TakesItsPart, of_none, of_run, outcome_of, run_outcome}
use Rattle.lt_campaign.specs.inner.Fitting.{AllFit, Fits, IsFit, session_work, total_work}
use Rattle.lt_campaign.specs.inner.Rounding.{any_goes}

-- ---- what is wanted after an event

goes_by : (w : Who) (next wanted : Wants) (kind : Option PieceKind) (result : Result (Unit {0}) Failed) → served.Goes next kind ≡ served_by w wanted result → next ≡ wanted
goes_by w next wanted kind (Ok u) is = cc is
goes_by w next wanted kind (Err f) is = absurd (cc is)

goes_to : (d : Destination) (kind : PieceKind) (text : List ℕ) (wanted next : Wants) (traced : Option PieceKind) (old mid : Links) → IsGivenTo d kind text wanted old mid (served.Goes next traced) → next ≡ wanted
goes_to destination.Controller kind text wanted next traced old mid given = goes_by _ next wanted traced given.0 given.3
goes_to destination.Oracle kind text wanted next traced old mid given = goes_by _ next wanted traced given.0 given.3
goes_to destination.Trace kind text wanted next traced old mid given = cc given.1

goes_piece : (p : Option PieceKind) (text : List ℕ) (wanted next : Wants) (traced : Option PieceKind) (old mid : Links) → IsGivenPiece p text wanted old mid (served.Goes next traced) → next ≡ wanted
goes_piece None text wanted next traced old mid given = cc given.1
goes_piece (Some kind) text wanted next traced old mid given = goes_to (destination_of kind) kind text wanted next traced old mid given

-- the first lowers it where it goes on, and else one of the others does
falls_somewhere : (b c : Bool) (s t m n : ℕ) → t ≤ s → n ≤ m → (b ≡ false → t < s) → (c ≡ true → n < m) → (not b || c) ≡ true → t + n < s + m
falls_somewhere true c s t m n first rest here there goes = let l = there goes in omega arith
falls_somewhere false c s t m n first rest here there goes = let l = here refl in omega arith

module _ {State : Type 0} where
  -- what was answered leaves a core that wants what is noted, or listens to the side that is broken
  fits_given : (s new : CoreState State) (e : Told) (a : Answer) → Answers s e a new → (old mid : Links) (w : Wants) (r : Served) → IsGiven a old mid r → Fits (broken_after r) (wants_after r w) new
  fits_given s new e a answered old mid w (served.Goes next kind) given =
      subst (WantsTell new) (sym (goes_piece a.piece a.text a.wanted next kind old mid given)) answered.wanted
  fits_given s new e a answered old mid w (served.Broken v) given = listens_told s new e a answered old mid v given

  fits_told : (old new : Standing (CoreState State)) (text : List ℕ) (e : Told) (w : Wants) (r : Served) → IsTold Answers old new text e r → Fits (broken_after r) (wants_after r w) new.core
  fits_told old new text e w r told = fits_given old.core new.core e told.answer told.answered old.links new.links w r told.given

  fits_served : (old new : Standing (CoreState State)) (text : List ℕ) (wanted w : Wants) (r : Served) → IsServed Answers old new text wanted r → Fits (broken_after r) (wants_after r w) new.core
  fits_served old new text _ w _ (of_turn r told) = fits_told old new text turn w r told
  fits_served old new text _ w _ (of_controller mid e r hears told) = fits_told _ new text e w r told
  fits_served old new text _ w _ (of_oracle mid e r hears told) = fits_told _ new text e w r told

  -- ---- a part of a run

  -- a run fits its core, and no more is left to do than before; less, where the run went on
  record Lowers (old new : Run (CoreState State)) : Type 0 where
    fits : Fits new.broken new.wanted new.standing.core
    no_more : work_left new.standing.core ≤ work_left old.standing.core
    less : is_some (run_outcome old.broken old.wanted old.standing.core.written) ≡ false → work_left new.standing.core < work_left old.standing.core

  run_lowers : (old new : Run (CoreState State)) (text : List ℕ) (kind : Option PieceKind) → TakesPart Answers old new text kind → Fits old.broken old.wanted old.standing.core → Lowers old new
  run_lowers old new text _ (part.over e calm is same) fits =
      subst (Lowers old) (sym same) (record {
        fits = fits;
        no_more = omega arith;
        less = λ goes. absurd (is_over old.broken old.wanted calm is goes);
      })
    where
      is_over : (b : Option Who) (w : Wants) → b ≡ None → w ≡ wants.Nothing e → is_some (run_outcome b w old.standing.core.written) ≡ false → ⊥
      is_over b w calm is goes =
          let over : is_some (run_outcome None (wants.Nothing e) old.standing.core.written) ≡ false = subst (λ (x : Wants). is_some (run_outcome None x old.standing.core.written) ≡ false) is (subst (λ (x : Option Who). is_some (run_outcome x w old.standing.core.written) ≡ false) calm goes) in
          absurd (cc over)
  run_lowers old new text _ (part.fails w s r broken told same) fits =
      let hears : Fits (Some w) old.wanted old.standing.core = subst (λ (x : Option Who). Fits x old.wanted old.standing.core) broken fits in
      let falls : work_left s.core < work_left old.standing.core = told.answered.falls hears in
      subst (Lowers old) (sym same) (record {
        fits = fits_told old.standing s text (failed w) old.wanted r told;
        no_more = omega arith;
        less = λ goes. falls;
      })
  run_lowers old new text _ (part.goes_on s r calm more is_served same) fits =
      let wants_tell : Fits None old.wanted old.standing.core = subst (λ (x : Option Who). Fits x old.wanted old.standing.core) calm fits in
      let falls : work_left s.core < work_left old.standing.core = (served_moves old.standing s text old.wanted r wants_tell is_served).2 in
      subst (Lowers old) (sym same) (record {
        fits = fits_served old.standing s text old.wanted old.wanted r is_served;
        no_more = omega arith;
        less = λ goes. falls;
      })

  -- ---- a part of a session

  record LowersSession (old new : Session State) : Type 0 where
    fits : IsFit new
    no_more : session_work new ≤ session_work old
    less : is_some (outcome_of old) ≡ false → session_work new < session_work old

  session_lowers : (old new : Session State) (p : Option (List ℕ)) → TakesItsPart old new p → IsFit old → LowersSession old new
  session_lowers _ _ _ (of_run old new text kind takes) fits =
      let l = run_lowers old new text kind takes fits in
      record { fits = l.fits; no_more = l.no_more; less = l.less }
  session_lowers _ _ _ (of_none w c) fits = record { fits = tt; no_more = omega arith; less = λ goes. absurd (cc goes) }

  -- ---- a round

  -- all sessions fit, and no more is left to do than before; less, where one went on
  pub record LowersAll (old new : List (Session State)) : Type 0 where
    pub fits : AllFit new
    pub no_more : total_work new ≤ total_work old
    pub less : any_goes old ≡ true → total_work new < total_work old

  -- each session took its part
  abbrev TakeTheirParts : List (Session State) → List (Session State) → Parts → Type 0
  TakeTheirParts old new parts =
      (i : ℕ) (s t : Session State) (p : Option (List ℕ)) → slice_get old i ≡ Some s → slice_get new i ≡ Some t → slice_get parts i ≡ Some p → TakesItsPart s t p

  lowers_all : (old new : List (Session State)) (parts : Parts) → length new ≡ length old → length parts ≡ length old → TakeTheirParts old new parts → AllFit old → LowersAll old new
  lowers_all [] [] parts same as_many parted fits = record { fits = tt; no_more = omega arith; less = λ goes. absurd (cc goes) }
  lowers_all [] (t ∷ ts) parts same as_many parted fits = absurd (omega (arith, same))
  lowers_all (s ∷ ss) [] parts same as_many parted fits = absurd (omega (arith, same))
  lowers_all (s ∷ ss) (t ∷ ts) [] same as_many parted fits = absurd (omega (arith, as_many))
  lowers_all (s ∷ ss) (t ∷ ts) (p ∷ ps) same as_many parted fits =
      let same_rest : length ts ≡ length ss = omega (arith, same) in
      let many_rest : length ps ≡ length ss = omega (arith, as_many) in
      let here = session_lowers s t p (parted 0 s t p refl refl refl) fits.0 in
      let rest = lowers_all ss ts ps same_rest many_rest (λ i. parted (suc i)) fits.1 in
      let first : session_work t ≤ session_work s = here.no_more in
      let others : total_work ts ≤ total_work ss = rest.no_more in
      record {
        fits = (here.fits, rest.fits);
        no_more = omega arith;
        less = falls_somewhere (is_some (outcome_of s)) (any_goes ss) (session_work s) (session_work t) (total_work ss) (total_work ts) first others here.less rest.less;
      }

  -- a round lowers what is left to do
  pub round_lowers : (old new : List (Session State)) (parts : Parts) → IsRound old new parts → AllFit old → LowersAll old new
  round_lowers old new parts round fits = lowers_all old new parts round.same_number round.as_many round.parted fits

  over_first : (s : Session State) (ss : List (Session State)) (b : Bool) → is_some (outcome_of s) ≡ b → (not b || any_goes ss) ≡ false → (any_goes ss ≡ false → AllOver ss) → AllOver (s ∷ ss)
  over_first s ss true is none rest = (is, rest none)
  over_first s ss false is none rest = absurd (cc none)

  -- where none goes on, all are over
  pub all_over : (ss : List (Session State)) → any_goes ss ≡ false → AllOver ss
  all_over [] none = tt
  all_over (s ∷ ss) none = over_first s ss (is_some (outcome_of s)) refl none (all_over ss)
