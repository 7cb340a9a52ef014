-- Terms with the values of an instant.
use Rattle.std.proofs.Common.{◌≡◌, ℕ, List, refl, ap}
use Rattle.lt_num.specs.declared.value.Value.{Value}
use Rattle.lt_term.specs.declared.last.Last.{Last}
use Rattle.lt_term.specs.declared.last.Last.TheVariants as last
use Rattle.lt_term.specs.Advanced.{advanced, advanced_each, next_last}
use Rattle.lt_term.specs.Next.{followed_by, beside, asserting, with_scope, catching, trying}
use Rattle.lt_term.specs.Process.{Process, eps, seq, loop, count, any, pri, par, assert, exist, catch, try, choice}
use Rattle.lt_marks.specs.View.{body, choices_of}
use Rattle.lt_marks.specs.declared.track.Track.{Track}
use Rattle.lt_marks.specs.declared.track.Track.TheVariants.{Eps, Dead, Con, Raise, Seq', Loop', Count', Any', Pri', Par', Assert', Exist', Catch', Try'}
use Rattle.lt_marks.specs.declared.track.Parts.{Parts}
use Rattle.lt_marks.specs.declared.track.Parts.TheVariants.{End, Part'}

-- a body has no entered scope, so it stays
mutual
  pub body_stays : (values : List (ℕ × Value)) (t : Track) → advanced values (body t) ≡ body t
  body_stays vs Eps = refl
  body_stays vs Dead = refl
  body_stays vs (Con m c) = refl
  body_stays vs (Raise z) = refl
  body_stays vs (Seq' m p a q b) = λ i. seq (body_stays vs a i) (body_stays vs b i)
  body_stays vs (Loop' m p t) = ap loop (body_stays vs t)
  body_stays vs (Count' m i p t) = ap (count i 0) (body_stays vs t)
  body_stays vs (Any' m p ps) = ap any (choices_stay vs ps)
  body_stays vs (Pri' m p a q b) = λ i. pri (body_stays vs a i) (body_stays vs b i)
  body_stays vs (Par' m p a q b) = λ i. par (body_stays vs a i) (body_stays vs b i)
  body_stays vs (Assert' m c p t) = ap (assert c) (body_stays vs t)
  body_stays vs (Exist' m x p t) = ap (exist x last.First) (body_stays vs t)
  body_stays vs (Catch' m z p t q h) = λ i. catch z (body_stays vs t i) (body_stays vs h i)
  body_stays vs (Try' m p t q h) = λ i. try (body_stays vs t i) (body_stays vs h i)

  pub choices_stay : (values : List (ℕ × Value)) (ps : Parts) → advanced_each values (choices_of ps) ≡ choices_of ps
  choices_stay vs End = refl
  choices_stay vs (Part' w p t q ps) = λ i. choice w (body_stays vs t i) (choices_stay vs ps i)

module _ (vs : List (ℕ × Value)) where
  pub followed_by-advanced : (a b : Process ℕ) → advanced vs (followed_by a b) ≡ followed_by (advanced vs a) (advanced vs b)
  followed_by-advanced eps b = refl
  followed_by-advanced a b = refl

  pub beside-advanced : (a b : Process ℕ) → advanced vs (beside a b) ≡ beside (advanced vs a) (advanced vs b)
  beside-advanced eps b = refl
  beside-advanced a eps = refl
  beside-advanced a b = refl

  pub asserting-advanced : (c : ℕ) (t : Process ℕ) → advanced vs (asserting c t) ≡ asserting c (advanced vs t)
  asserting-advanced c eps = refl
  asserting-advanced c t = refl

  pub with_scope-advanced : (x : ℕ) (w : Last) (t : Process ℕ) → advanced vs (with_scope x w t) ≡ with_scope x (next_last vs x w) (advanced vs t)
  with_scope-advanced x w eps = refl
  with_scope-advanced x w t = refl

  pub catching-advanced : (z : ℕ) (t h : Process ℕ) → advanced vs (catching z t h) ≡ catching z (advanced vs t) (advanced vs h)
  catching-advanced z eps h = refl
  catching-advanced z t h = refl

  pub trying-advanced : (t h : Process ℕ) → advanced vs (trying t h) ≡ trying (advanced vs t) (advanced vs h)
  trying-advanced eps h = refl
  trying-advanced t h = refl

pub ruleset goes = (followed_by-advanced, beside-advanced, asserting-advanced, with_scope-advanced, catching-advanced, trying-advanced, body_stays)
