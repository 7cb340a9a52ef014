-- Sessions that are started, one after another.
use Rattle.std.proofs.Common.{◌≡◌, ◌<◌, ◌+◌, ℕ, suc, List, [], ◌∷◌, ◌++◌, length, map, take, drop, get_or, length-append, ap, ◌∙◌, sym, refl, subst}
use Rattle.std.proofs.Math.ListN.{length-map}
use Rattle.std.proofs.Math.Seq.{drop-cons}
use Rattle.std.proofs.lemmas.List.{map-append, take-append-drop}
use Rattle.lt_io.specs.Programs.{Programs, Same}
use Rattle.lt_loop.specs.CoreState.{CoreState}
use Rattle.lt_loop.specs.InputSource.{InputSource}
use Rattle.lt_campaign.specs.Campaign.{AllStart}
use Rattle.lt_campaign.specs.RunView.{AllHaveKinds, HasKinds}
use Rattle.lt_campaign.specs.Session.{Session, Starts, StartsNot}
use Rattle.lt_campaign.specs.declared.session.Session as sessions
use Rattle.lt_campaign.specs.inner.Starting.{StartsSome}

-- ---- one behind others

pub added_as : {A B : Type 0} (view : A → B) (old new : List A) (s t : A) → new ≡ old ++ s ∷ [] → s ≡ t → map view new ≡ map view old ++ view t ∷ []
added_as view old new s t added is = ap (map view) added ∙ map-append view old (s ∷ []) ∙ ap (λ (x : _). map view old ++ view x ∷ []) is

kinds_behind : {M : _} {L : Type 0} {b : _} (c o : InputSource) (old : List (sessions.Session M L b)) (s : sessions.Session M L b) → AllHaveKinds c o old → HasKinds c o s → AllHaveKinds c o (old ++ s ∷ [])
kinds_behind c o [] s all here = (here, tt)
kinds_behind c o (x ∷ old) s all here = (all.0, kinds_behind c o old s all.1 here)

pub kinds_as : {M : _} {L : Type 0} {b : _} (c o : InputSource) (old new : List (sessions.Session M L b)) (s t : sessions.Session M L b) → new ≡ old ++ s ∷ [] → s ≡ t → HasKinds c o t → AllHaveKinds c o old → AllHaveKinds c o new
kinds_as c o old new s t added is here all =
    subst (AllHaveKinds c o) (sym (added ∙ ap (λ (x : _). old ++ x ∷ []) is)) (kinds_behind c o old t all here)

-- ---- one after another

pub same_here : (p : Programs) → Same p p
same_here p = record { coming = λ command. refl; closed = refl; asked = refl; faults = refl }

-- where nothing changed, all is the same
pub same_is : (old new : Programs) → Same old new → new ≡ old
same_is old new same = λ i. record { coming = λ command. same.coming command i; closed = same.closed i; asked = same.asked i; faults = same.faults i }

-- one more was started
pub start_more : {State : Type 0} (c o : InputSource) (front : List (CoreState State)) (core : CoreState State) (old mid new : Programs) (ss : List (Session State)) (s : Session State) → AllStart c o front old mid ss → Starts c o core mid new s → AllStart c o (front ++ core ∷ []) old new (ss ++ s ∷ [])
start_more {State} c o [] core old mid new [] s same here = (new, subst (λ (p : Programs). Starts {State = State} c o core p new s) (same_is old mid same) here, same_here new)
start_more c o [] core old mid new (x ∷ ss) s same here = absurd same
start_more c o (x ∷ front) core old mid new [] s all here = absurd all
start_more c o (x ∷ front) core old mid new (t ∷ ss) s all here = (all.0, all.1, start_more c o front core all.0 mid new ss s all.2 here)

-- ---- those of a list

-- one more of these cores was started
pub start_next : {A State : Type 0} (f : A → CoreState State) (c o : InputSource) (front : List A) (x : A) (old mid new : Programs) (ss after : List (Session State)) (s : Session State) → AllStart c o (map f front) old mid ss → after ≡ ss ++ s ∷ [] → Starts c o (f x) mid new s →
    AllStart c o (map f (front ++ x ∷ [])) old new after
start_next f c o front x old mid new ss after s all added here =
    subst (λ (t : List _). AllStart c o (map f (front ++ x ∷ [])) old new t) (sym added)
    (subst (λ (t : List _). AllStart c o t old new (ss ++ s ∷ [])) (sym (map-append f front (x ∷ []))) (start_more c o (map f front) (f x) old mid new ss s all here))

-- there is one more
pub one_longer : {A B C : Type 0} (view : A → B) (old new : List A) (s : B) (front : List C) (x : C) → map view new ≡ map view old ++ s ∷ [] → length old ≡ length front → length new ≡ length (front ++ x ∷ [])
one_longer view old new s front x added same =
    sym (length-map new view) ∙ ap length added ∙ length-append (map view old) (s ∷ []) ∙ ap (λ (n : ℕ). n + 1) (length-map old view ∙ same) ∙ sym (length-append front (x ∷ []))

-- where one is at a place, so are those before it and behind it
pub split_there : {A : Type 0} (all front : List A) (x : A) → front ≡ take (length front) all → length front < length all → x ≡ get_or all (length front) x → all ≡ front ++ x ∷ drop (suc (length front)) all
split_there all front x is within here =
    let n = length front in
    sym (take-append-drop n all) ∙ ap (λ (t : List _). t ++ drop n all) (sym is) ∙ ap (λ (t : List _). front ++ t) (drop-cons all n x within ∙ ap (λ (y : _). y ∷ drop (suc n) all) (sym here))

-- memory ran out at one of these cores
pub start_stops : {A State : Type 0} (f : A → CoreState State) (c o : InputSource) (all front behind : List A) (x : A) (old mid new : Programs) (ss after left : List (Session State)) → all ≡ front ++ x ∷ behind → AllStart c o (map f front) old mid ss → after ≡ ss ++ left → StartsNot c mid new left →
    StartsSome c o (map f all) old new after
start_stops f c o all front behind x old mid new ss after left is all_start are start_not = record {
  before = map f front;
  core = f x;
  behind = map f behind;
  first = ss;
  left = left;
  mid = mid;
  all = ap (map f) is ∙ map-append f front (x ∷ behind);
  are = are;
  start = all_start;
  start_not = start_not;
}
