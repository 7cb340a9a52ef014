-- Sessions that go through rounds are each alone.
use Rattle.std.proofs.Common.{◌≡◌, ◌<◌, ◌≤◌, ◌+◌, ◌⊎◌, inl, inr, ℕ, zero, suc, Bool, true, false, List, [], ◌∷◌, ◌++◌, None, Some, length, get_or, ap, ◌∙◌, sym, subst, refl, arith, append_assoc, append-nil, eq-eqb, ne_eqb}
use Rattle.std.specs.Prelude.{◌==◌, if◌then◌else◌, slice_get}
use Rattle.std.specs.declared.option.Option.{Option}
use Rattle.std.proofs.lemmas.Grind.{flat_map-append}
use Rattle.std.proofs.lemmas.Option.{none-some, same_Some, slice_get-get_or, slice_get_past, slice_get_within}
use Rattle.lt_io.specs.Link.{Link}
use Rattle.lt_io.specs.Programs.{Programs}
use Rattle.lt_loop.specs.CoreState.{CoreState, core_giving_up}
use Rattle.lt_loop.specs.Event.{WantsTell}
use Rattle.lt_loop.specs.InputSource.{InputSource}
use Rattle.lt_loop.specs.Run.{Answers}
use Rattle.lt_loop.specs.declared.event.PieceKind.{PieceKind}
use Rattle.lt_loop.specs.declared.event.Wants.TheVariants as wants
use Rattle.lt_rif.specs.declared.end.Who.{Who}
use Rattle.lt_drive.specs.Drive.{continuation_of}
use Rattle.lt_drive.specs.Served.{outside}
use Rattle.lt_campaign.specs.Alone.{IsPartly, own_trace}
use Rattle.lt_campaign.specs.Campaign.{AllStart, AllWantTurns}
use Rattle.lt_campaign.specs.Parts.{AllNone, BeginsAt, CutSessionsAreAlone, Framed, SessionsAreAlone, SessionsBegin, WasAlone, column, frames_from, frames_of, frames_text, parts_there, text_framed}
use Rattle.lt_campaign.specs.Rounds.{AreRounds, IsRoundTo, Parts, frame, framed, rounds_text}
use Rattle.lt_campaign.specs.Rounds as rounds
use Rattle.lt_campaign.specs.Run.{Run, TakesPart, TakesParts, text_of, traced}
use Rattle.lt_campaign.specs.Run as part
use Rattle.lt_campaign.specs.Session.{Session, Starts, TakesItsPart, both, first_run, no_controller, no_oracle, of_none, of_run, started, unstarted}
use Rattle.lt_campaign.proofs.Alone.{run_alone}

-- ---- the text

-- the frames of parts have their text
from_text : (n : ℕ) (parts : Parts) → frames_text (frames_from n parts) ≡ framed n parts
from_text n [] = refl
from_text n (None ∷ parts) = from_text (n + 1) parts
from_text n (Some text ∷ parts) = ap (λ (t : List ℕ). frame n text ++ t) (from_text (n + 1) parts)

all_text : (rs : List Parts) → frames_text (frames_of rs) ≡ rounds_text rs
all_text [] = refl
all_text (parts ∷ rs) =
    flat_map-append (λ (f : Framed). frame f.session f.bytes) (frames_from 0 parts) (frames_of rs)
    ∙ (λ k. from_text 0 parts k ++ all_text rs k)

one_more : (b : Bool) (bytes mine others all : List ℕ) → all ≡ mine ++ others → (if b then bytes ++ all else all) ≡ (if b then bytes ++ mine else mine) ++ others
one_more true bytes mine others all is = ap (λ (t : List ℕ). bytes ++ t) is ∙ sym (append_assoc bytes mine others)
one_more false bytes mine others all is = is

text_append : (i : ℕ) (fs gs : List Framed) → text_framed i (fs ++ gs) ≡ text_framed i fs ++ text_framed i gs
text_append i [] gs = refl
text_append i (f ∷ fs) gs = one_more (f.session == i) f.bytes (text_framed i fs) (text_framed i gs) (text_framed i (fs ++ gs)) (text_append i fs gs)

-- nothing is of a session before the first
none_before : (i n : ℕ) (parts : Parts) → i < n → text_framed i (frames_from n parts) ≡ []
none_before i n [] below = refl
none_before i n (None ∷ parts) below = none_before i (n + 1) parts (omega (arith, below))
none_before i n (Some text ∷ parts) below =
    let no : (n == i) ≡ false = ne_eqb n i (λ e. absurd (omega (arith, e, below))) in
    (λ k. if no k then text ++ text_framed i (frames_from (n + 1) parts) else text_framed i (frames_from (n + 1) parts))
    ∙ none_before i (n + 1) parts (omega (arith, below))

-- the text of the session at a place in a round is that of its part
in_round : (m n i : ℕ) (parts : Parts) → i ≡ n + m → text_framed i (frames_from n parts) ≡ text_of (parts_there (slice_get parts m))
in_round m n i [] is = refl
in_round zero n i (None ∷ parts) is = none_before i (n + 1) parts (omega (arith, is))
in_round zero n i (Some text ∷ parts) is =
    let yes : (n == i) ≡ true = eq-eqb n i (omega (arith, is)) in
    (λ k. if yes k then text ++ text_framed i (frames_from (n + 1) parts) else text_framed i (frames_from (n + 1) parts))
    ∙ ap (λ (t : List ℕ). text ++ t) (none_before i (n + 1) parts (omega (arith, is)))
in_round (suc m) n i (None ∷ parts) is = in_round m (n + 1) i parts (omega (arith, is))
in_round (suc m) n i (Some text ∷ parts) is =
    let no : (n == i) ≡ false = ne_eqb n i (λ e. absurd (omega (arith, e, is))) in
    (λ k. if no k then text ++ text_framed i (frames_from (n + 1) parts) else text_framed i (frames_from (n + 1) parts))
    ∙ in_round m (n + 1) i parts (omega (arith, is))

text_first : (p : Option (Option (List ℕ))) (parts : List (Option (List ℕ))) → text_of (parts_there p) ++ text_of parts ≡ text_of (parts_there p ++ parts)
text_first None parts = refl
text_first (Some None) parts = refl
text_first (Some (Some text)) parts = ap (λ (t : List ℕ). t ++ text_of parts) (append-nil text)

own_text : (i : ℕ) (rs : List Parts) → text_framed i (frames_of rs) ≡ text_of (column i rs)
own_text i [] = refl
own_text i (parts ∷ rs) =
    text_append i (frames_from 0 parts) (frames_of rs)
    ∙ (λ k. in_round i 0 i parts (omega arith) k ++ own_text i rs k)
    ∙ text_first (slice_get parts i) (column i rs)

-- a round at the end has its text there
text_last : (rs : List Parts) (parts : Parts) → rounds_text (rs ++ parts ∷ []) ≡ rounds_text rs ++ framed 0 parts
text_last [] parts = append-nil (framed 0 parts)
text_last (r ∷ rs) parts = ap (λ (t : List ℕ). framed 0 r ++ t) (text_last rs parts) ∙ sym (append_assoc (framed 0 r) (rounds_text rs) (framed 0 parts))

-- ---- the parts

reached_or : (i count : ℕ) → (i < count) ⊎ (count ≤ i)
reached_or i count = grind arith

module _ {State : Type 0} where
  -- what a session does that is reached in a round
  record Part (s : Session State) (mid : List (Session State)) (parts : Parts) (i : ℕ) : Type 0 where
    next : Session State
    stands : slice_get mid i ≡ Some next
    part : Option (List ℕ)
    has : slice_get parts i ≡ Some part
    takes : TakesItsPart s next part

  one_part : (i count : ℕ) (old mid : List (Session State)) (parts : Parts) (s : Session State) → IsRoundTo count old mid parts → i < count → slice_get old i ≡ Some s → Part s mid parts i
  one_part i count old mid parts s round reached is =
      let within = slice_get_within old i s is in
      let there : i < length mid = subst (λ (n : ℕ). i < n) (sym round.same_number) within in
      let beside : i < length parts = subst (λ (n : ℕ). i < n) (sym round.as_many) reached in
      let stands = slice_get-get_or mid i s there in
      let has = slice_get-get_or parts i None beside in
      record { next = get_or mid i s; stands = stands; part = get_or parts i None; has = has; takes = round.parted i s (get_or mid i s) (get_or parts i None) is stands has }

  -- one that was started takes its part
  started_part : (a t : Session State) (p : Option (List ℕ)) → TakesItsPart a t p → (s : Run (CoreState State)) → a ≡ started s →
      (new : Run (CoreState State)) × (text : List ℕ) × (kind : Option PieceKind) × (t ≡ started new) × (p ≡ traced kind text) × TakesPart Answers s new text kind
  started_part _ _ _ (of_run old new text kind took) s is =
      let same : old ≡ s = cc is in
      (new, text, kind, refl, refl, subst (λ (x : Run (CoreState State)). TakesPart Answers x new text kind) same took)
  started_part _ _ _ (of_none w c) s is = absurd (cc is)

  -- and one that wasn't has none
  unstarted_part : (a t : Session State) (p : Option (List ℕ)) → TakesItsPart a t p → (w : Who) (c : Option Link) → a ≡ unstarted w c → (t ≡ unstarted w c) × (p ≡ None)
  unstarted_part _ _ _ (of_run old new text kind took) w c is = absurd (cc is)
  unstarted_part _ _ _ (of_none v d) w c is = (is, refl)

  -- through rounds
  record Runs (i : ℕ) (s : Run (CoreState State)) (last : List (Session State)) (rs : List Parts) : Type 0 where
    last_run : Run (CoreState State)
    stands : slice_get last i ≡ Some (started last_run)
    took : TakesParts Answers s (column i rs) last_run

  runs_one : (i count : ℕ) (old mid last : List (Session State)) (parts : Parts) (rs : List Parts) (s : Run (CoreState State)) → IsRoundTo count old mid parts → i < count → slice_get old i ≡ Some (started s) → ((t : Run (CoreState State)) → slice_get mid i ≡ Some (started t) → Runs i t last rs) → Runs i s last (parts ∷ rs)
  runs_one i count old mid last parts rs s round reached is after =
      let here = one_part i count old mid parts (started s) round reached is in
      let p = started_part (started s) here.next here.part here.takes s refl in
      let later = after p.0 (here.stands ∙ ap (λ (x : Session State). Some x) p.3) in
      record {
        last_run = later.last_run;
        stands = later.stands;
        took = subst (λ (x : Option (Option (List ℕ))). TakesParts Answers s (parts_there x ++ column i rs) later.last_run) (sym (here.has ∙ ap (λ (x : Option (List ℕ)). Some x) p.4)) (part.more s p.0 later.last_run p.1 p.2 (column i rs) p.5 later.took);
      }

  stays_one : (i count : ℕ) (old mid last : List (Session State)) (parts : Parts) (rs : List Parts) (w : Who) (c : Option Link) → IsRoundTo count old mid parts → i < count → slice_get old i ≡ Some (unstarted w c) → (slice_get mid i ≡ Some (unstarted w c) → (slice_get last i ≡ Some (unstarted w c)) × AllNone (column i rs)) → (slice_get last i ≡ Some (unstarted w c)) × AllNone (column i (parts ∷ rs))
  stays_one i count old mid last parts rs w c round reached is after =
      let here = one_part i count old mid parts (unstarted w c) round reached is in
      let p = unstarted_part (unstarted w c) here.next here.part here.takes w c refl in
      let later = after (here.stands ∙ ap (λ (x : Session State). Some x) p.0) in
      (later.0, subst (λ (x : Option (Option (List ℕ))). AllNone (parts_there x ++ column i rs)) (sym here.has) (p.1, later.1))

  runs_on : (i : ℕ) (first last : List (Session State)) (rs : List Parts) → AreRounds first rs last → (s : Run (CoreState State)) → slice_get first i ≡ Some (started s) → Runs i s last rs
  runs_on i _ _ _ (rounds.none ss) s is = record { last_run = s; stands = is; took = part.none s }
  runs_on i _ _ _ (rounds.more old mid new parts rs round rest) s is =
      runs_one i (length old) old mid new parts rs s round (slice_get_within old i (started s) is) is (λ t there. runs_on i mid new rs rest t there)

  stays_on : (i : ℕ) (first last : List (Session State)) (rs : List Parts) → AreRounds first rs last → (w : Who) (c : Option Link) → slice_get first i ≡ Some (unstarted w c) → (slice_get last i ≡ Some (unstarted w c)) × AllNone (column i rs)
  stays_on i _ _ _ (rounds.none ss) w c is = (is, tt)
  stays_on i _ _ _ (rounds.more old mid new parts rs round rest) w c is =
      stays_one i (length old) old mid new parts rs w c round (slice_get_within old i (unstarted w c) is) is (λ there. stays_on i mid new rs rest w c there)

  -- a round that was cut, behind some
  module _ (count : ℕ) (last : List (Session State)) (cut : Parts) where
    unreached : (i : ℕ) (behind : List (Session State)) → IsRoundTo count behind last cut → count ≤ i → slice_get cut i ≡ None
    unreached i behind round past = slice_get_past cut i (subst (λ (n : ℕ). n ≤ i) (sym round.as_many) past)

    runs_last : (i : ℕ) (behind : List (Session State)) → IsRoundTo count behind last cut → (s : Run (CoreState State)) → slice_get behind i ≡ Some (started s) → (i < count) ⊎ (count ≤ i) → Runs i s last (cut ∷ [])
    runs_last i behind round s is (inl reached) = runs_one i count behind last last cut [] s round reached is (λ t there. record { last_run = t; stands = there; took = part.none t })
    runs_last i behind round s is (inr past) = record {
      last_run = s;
      stands = round.others i past ∙ is;
      took = subst (λ (x : Option (Option (List ℕ))). TakesParts Answers s (parts_there x ++ []) s) (sym (unreached i behind round past)) (part.none s);
    }

    stays_last : (i : ℕ) (behind : List (Session State)) → IsRoundTo count behind last cut → (w : Who) (c : Option Link) → slice_get behind i ≡ Some (unstarted w c) → (i < count) ⊎ (count ≤ i) → (slice_get last i ≡ Some (unstarted w c)) × AllNone (column i (cut ∷ []))
    stays_last i behind round w c is (inl reached) = stays_one i count behind last last cut [] w c round reached is (λ there. (there, tt))
    stays_last i behind round w c is (inr past) =
        (round.others i past ∙ is, subst (λ (x : Option (Option (List ℕ))). AllNone (parts_there x ++ [])) (sym (unreached i behind round past)) tt)

    runs_cut : (i : ℕ) (first behind : List (Session State)) (rs : List Parts) → AreRounds first rs behind → IsRoundTo count behind last cut → (s : Run (CoreState State)) → slice_get first i ≡ Some (started s) → Runs i s last (rs ++ cut ∷ [])
    runs_cut i _ _ _ (rounds.none ss) round s is = runs_last i ss round s is (reached_or i count)
    runs_cut i _ _ _ (rounds.more old mid new parts rs one rest) round s is =
        runs_one i (length old) old mid last parts (rs ++ cut ∷ []) s one (slice_get_within old i (started s) is) is (λ t there. runs_cut i mid new rs rest round t there)

    stays_cut : (i : ℕ) (first behind : List (Session State)) (rs : List Parts) → AreRounds first rs behind → IsRoundTo count behind last cut → (w : Who) (c : Option Link) → slice_get first i ≡ Some (unstarted w c) → (slice_get last i ≡ Some (unstarted w c)) × AllNone (column i (rs ++ cut ∷ []))
    stays_cut i _ _ _ (rounds.none ss) round w c is = stays_last i ss round w c is (reached_or i count)
    stays_cut i _ _ _ (rounds.more old mid new parts rs one rest) round w c is =
        stays_one i (length old) old mid last parts (rs ++ cut ∷ []) w c one (slice_get_within old i (unstarted w c) is) is (λ there. stays_cut i mid new rs rest round w c there)

  was_alone : (i : ℕ) (last : List (Session State)) (rs : List Parts) (s : Run (CoreState State)) → Runs i s last rs → WasAlone i s last rs
  was_alone i last rs s r = record {
    last_run = r.last_run;
    stands = r.stands;
    took = r.took;
    driven = λ calm turn wanted u ahead.
        subst (λ (t : List ℕ). IsPartly (continuation_of (core_giving_up u s.standing.core)) (outside s.standing (own_trace [])) (outside r.last_run.standing (own_trace t)) (core_giving_up u r.last_run.standing.core) r.last_run.wanted r.last_run.broken)
        (sym (own_text i rs)) (run_alone s r.last_run (column i rs) calm turn wanted r.took u ahead);
  }

-- However many rounds sessions went through, each was alone,
pub sessions_alone : {State : Type 0} → SessionsAreAlone State
sessions_alone first last rs all = record {
  runs = λ i s is. was_alone i last rs s (runs_on i first last rs all s is);
  others = λ i w c is. stays_on i first last rs all w c is;
  framed = all_text rs;
  own = λ i. own_text i rs;
}

-- also where a round was cut.
pub cut_sessions_alone : {State : Type 0} → CutSessionsAreAlone State
cut_sessions_alone first behind last rs count cut all round = (
  record {
    runs = λ i s is. was_alone i last (rs ++ cut ∷ []) s (runs_cut count last cut i first behind rs all round s is);
    others = λ i w c is. stays_cut count last cut i first behind rs all round w c is;
    framed = all_text (rs ++ cut ∷ []);
    own = λ i. own_text i (rs ++ cut ∷ []);
  },
  text_last rs cut,
)

-- ---- how sessions begin

module _ {State : Type 0} (c o : InputSource) where
  begins_first : (core : CoreState State) (cores : List (CoreState State)) (old new : Programs) (t : Session State) → WantsTell core wants.Turn → Starts c o core old new t → (s : Run (CoreState State)) → t ≡ started s → BeginsAt 0 (core ∷ cores) s
  begins_first core cores old new _ tells (both cl ol mid first second) s is =
      let same : first_run core cl ol ≡ s = cc is in
      subst (BeginsAt 0 (core ∷ cores)) same (record { own = refl; calm = refl; turn = refl; tells = tells })
  begins_first core cores old new _ tells (no_controller not) s is = absurd (cc is)
  begins_first core cores old new _ tells (no_oracle cl mid first not) s is = absurd (cc is)

  begins : (cores : List (CoreState State)) (old new : Programs) (ss : List (Session State)) → AllWantTurns cores → AllStart c o cores old new ss → (i : ℕ) (s : Run (CoreState State)) → slice_get ss i ≡ Some (started s) → BeginsAt i cores s
  begins [] old new [] tells starts i s is = absurd (none-some (started s) is)
  begins [] old new (t ∷ ss) tells starts i s is = absurd starts
  begins (core ∷ cores) old new [] tells starts i s is = absurd starts
  begins (core ∷ cores) old new (t ∷ ss) tells starts zero s is = begins_first core cores old starts.0 t tells.0 starts.1 s (same_Some t (started s) is)
  begins (core ∷ cores) old new (t ∷ ss) tells starts (suc i) s is =
      let later = begins cores starts.0 new ss tells.1 starts.2 i s is in
      record { own = later.own; calm = later.calm; turn = later.turn; tells = later.tells }

-- Sessions that are started begin each with its core.
pub sessions_begin : {State : Type 0} → SessionsBegin State
sessions_begin c o cores old new ss tells starts i s is = begins c o cores old new ss tells starts i s is
