-- What was written to a trace, and what waits.
use Rattle.std.proofs.Common.{◌≡◌, ℕ, ◌+◌, ◌<◌, ◌≤◌, true, false, List, [], ◌∷◌, ◌++◌, length, length-append, length-drop, append_assoc, take, drop, take-append-drop, get_or, append-nil, Ok, Err, refl, ap, ◌∙◌, sym, subst, arith}
use Rattle.std.specs.Io.KnownBytes.{Appends}
use Rattle.std.specs.declared.option.Option.{Option}
use Rattle.std.specs.Prelude.{IsErr}
use Rattle.std.specs.declared.result.Result.{Result}
use Rattle.std.specs.List.{flat_map}
use Rattle.std.proofs.lemmas.Grind.{flat_map-append}
use Rattle.std.proofs.lemmas.List.{at_drop_more, take_more}
use Rattle.std.proofs.KnownBytes.{Appends-nil, Appends-trans}
use Rattle.lt_io.specs.Causes.{Rose}
use Rattle.lt_io.specs.Sending.{AppendsProperPrefix, IsPut}
use Rattle.lt_io.specs.Sink.{Sink}
use Rattle.lt_io.specs.declared.sink.Failed.{Failed}
use Rattle.lt_campaign.specs.Campaign.{IsCutText}
use Rattle.lt_campaign.specs.inner.Writing.{HasText, PutsBehind}

-- fewer bytes than all of a text are a prefix that is not all of it
pub all_but_an_end : (old new : Option (List ℕ)) (text : List ℕ) (n : ℕ) → n < length text → Appends old new (take n text) → AppendsProperPrefix old new text
all_but_an_end old new text n few h = (take n text, drop n text, sym (take-append-drop n text), (let rest = length-drop n text in omega (arith, rest)), h)

-- some bytes behind others are not none
some_last : (prefix rest : List ℕ) → 0 < length rest → prefix ++ rest ≡ [] → ⊥
some_last prefix rest some none =
    let e : length prefix + length rest ≡ 0 = sym (length-append prefix rest) ∙ ap length none in
    absurd (omega arith)

-- where nothing was written yet, what waits is all
pub has_none : (start : Sink) (waiting : List ℕ) → (start.gathers ≡ false → waiting ≡ []) → HasText start start waiting waiting
has_none start waiting prompt = record { written = []; appends = Appends-nil start.written; all = refl; calm = refl; still = refl; prompt = prompt }

-- more text waits
pub has_more : (start now : Sink) (waiting before piece : List ℕ) → now.gathers ≡ true → HasText start now waiting before → HasText start now (waiting ++ piece) (before ++ piece)
has_more start now waiting before piece gathers has = record {
  written = has.written;
  appends = has.appends;
  all = sym (append_assoc has.written waiting piece) ∙ ap (λ (t : List ℕ). t ++ piece) has.all;
  calm = has.calm;
  still = has.still;
  prompt = λ not. absurd (cc (not, has.still, gathers));
}

-- a cut of a front is a cut of a longer text
pub cut_more : (start now : Sink) (before text shorter more : List ℕ) → length shorter ≤ length before → IsCutText start now before text → IsCutText start now shorter (text ++ more)
cut_more start now before text shorter more less it = record {
  written = it.written;
  rest = it.rest ++ more;
  appends = it.appends;
  front = sym (append_assoc it.written it.rest more) ∙ ap (λ (t : List ℕ). t ++ more) it.front;
  cut = let some = it.cut in let e = length-append it.rest more in omega arith;
  prompt = λ not. let far = it.prompt not in omega arith;
  rose = it.rose;
}

module _ (start now after : Sink) (waiting before : List ℕ) (has : HasText start now waiting before) where
  -- what waited was written
  pub has_settled : Appends now.written after.written waiting → after.faults ≡ now.faults → after.gathers ≡ now.gathers → HasText start after [] before
  has_settled all calm still = record {
    written = has.written ++ waiting;
    appends = Appends-trans start.written now.written after.written has.written waiting has.appends all;
    all = append-nil (has.written ++ waiting) ∙ has.all;
    calm = calm ∙ has.calm;
    still = still ∙ has.still;
    prompt = λ not. refl;
  }

  -- a write of it failed
  pub cut_settled : AppendsProperPrefix now.written after.written waiting → Rose now.faults after.faults → IsCutText start after before before
  cut_settled part rose =
      let prefix = part.0 in
      let rest = part.1 in
      let is : waiting ≡ prefix ++ rest = part.2 in
      let some : 0 < length rest = part.3 in
      record {
        written = has.written ++ prefix;
        rest = rest;
        appends = Appends-trans start.written now.written after.written has.written prefix has.appends part.4;
        front = append_assoc has.written prefix rest ∙ ap (λ (t : List ℕ). has.written ++ t) (sym is) ∙ has.all;
        cut = some;
        prompt = λ not. absurd (some_last prefix rest some (sym is ∙ has.prompt not));
        rose = subst (λ (n : ℕ). Rose n after.faults) has.calm rose;
      }

module _ (start now after : Sink) (before piece : List ℕ) (has : HasText start now [] before) where
  all_written : has.written ≡ before
  all_written = sym (append-nil has.written) ∙ has.all

  -- where nothing waits, a piece was written
  pub has_written : Appends now.written after.written piece → after.faults ≡ now.faults → after.gathers ≡ now.gathers → HasText start after [] (before ++ piece)
  has_written all calm still = record {
    written = has.written ++ piece;
    appends = Appends-trans start.written now.written after.written has.written piece has.appends all;
    all = append-nil (has.written ++ piece) ∙ ap (λ (t : List ℕ). t ++ piece) all_written;
    calm = calm ∙ has.calm;
    still = still ∙ has.still;
    prompt = λ not. refl;
  }

  -- a write of it failed
  pub cut_written : AppendsProperPrefix now.written after.written piece → Rose now.faults after.faults → IsCutText start after before (before ++ piece)
  cut_written part rose =
      let prefix = part.0 in
      let rest = part.1 in
      let is : piece ≡ prefix ++ rest = part.2 in
      let longer : length (has.written ++ prefix) ≡ length has.written + length prefix = length-append has.written prefix in
      let same : length has.written ≡ length before = ap length all_written in
      record {
        written = has.written ++ prefix;
        rest = rest;
        appends = Appends-trans start.written now.written after.written has.written prefix has.appends part.4;
        front = append_assoc has.written prefix rest ∙ ap (λ (t : List ℕ). has.written ++ t) (sym is) ∙ ap (λ (t : List ℕ). t ++ piece) all_written;
        cut = part.3;
        prompt = λ not. omega arith;
        rose = subst (λ (n : ℕ). Rose n after.faults) has.calm rose;
      }

  pub put_written : (result : Result (Unit {0}) Failed) → IsPut piece now after result → after.gathers ≡ now.gathers → PutsBehind result start after [] before piece
  put_written (Ok u) put still = has_written put.all put.cause.calm still
  put_written (Err f) put still = cut_written put.prefix put.cause.failed

-- Pieces of a text: those behind some, and then one more.
pub flat_one_more : {X : Type 0} (f : X → List ℕ) (xs : List X) (i : ℕ) (d : X) → i < length xs → flat_map f (take i xs) ++ f (get_or xs i d) ≡ flat_map f (take (i + 1) xs)
flat_one_more f xs i d at =
    ap (λ (t : List ℕ). flat_map f (take i xs) ++ t) (sym (append-nil (f (get_or xs i d)))) ∙ sym (flat_map-append f (take i xs) (get_or xs i d ∷ [])) ∙ ap (flat_map f) (sym (take_more xs i d at))

-- and all behind it
pub flat_rest : {X : Type 0} (f : X → List ℕ) (xs : List X) (i : ℕ) (d : X) → i < length xs → flat_map f (take i xs) ++ (f (get_or xs i d) ++ flat_map f (drop (i + 1) xs)) ≡ flat_map f xs
flat_rest f xs i d at =
    ap (λ (t : List ℕ). flat_map f (take i xs) ++ t) (sym (at_drop_more (flat_map f) xs i d at)) ∙ sym (flat_map-append f (take i xs) (drop i xs)) ∙ ap (flat_map f) (take-append-drop i xs)

-- a further piece was put
pub has_piece : (start now : Sink) (waiting before done piece all : List ℕ) → done ++ piece ≡ all → HasText start now waiting ((before ++ done) ++ piece) → HasText start now waiting (before ++ all)
has_piece start now waiting before done piece all is has = subst (HasText start now waiting) (append_assoc before done piece ∙ ap (λ (t : List ℕ). before ++ t) is) has

-- a write of one failed, behind which there are more
pub cut_piece : (start now : Sink) (before done piece more all : List ℕ) → done ++ (piece ++ more) ≡ all → IsCutText start now (before ++ done) ((before ++ done) ++ piece) → IsCutText start now before (before ++ all)
cut_piece start now before done piece more all is it =
    let longer : length (before ++ done) ≡ length before + length done = length-append before done in
    let same : ((before ++ done) ++ piece) ++ more ≡ before ++ all = append_assoc (before ++ done) piece more ∙ append_assoc before done (piece ++ more) ∙ ap (λ (t : List ℕ). before ++ t) is in
    subst (IsCutText start now before) same (cut_more start now (before ++ done) ((before ++ done) ++ piece) before more (omega arith) it)

-- where a `?` gave up, a write failed
pub puts_err : (result : Result (Unit {0}) Failed) (start now : Sink) (waiting before text : List ℕ) → IsErr result → IsCutText start now before (before ++ text) → PutsBehind result start now waiting before text
puts_err (Ok u) start now waiting before text is it = absurd (cc is)
puts_err (Err f) start now waiting before text is it = it
