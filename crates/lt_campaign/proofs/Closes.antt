-- Sessions that are closed, one after another.
use Rattle.std.proofs.Common.{◌≡◌, ◌<◌, ◌+◌, ◌∙◌, ℕ, List, [], ◌∷◌, ◌++◌, None, Some, length, map, take, drop, get_or, option_map, ap, refl, subst, sym, arith}
use Rattle.std.specs.Option.{option_or}
use Rattle.std.specs.declared.option.Option.{Option}
use Rattle.lt_io.specs.Link.{Link}
use Rattle.lt_io.specs.Programs.{Programs, Same}
use Rattle.lt_loop.specs.InputSource.{InputSource}
use Rattle.lt_rif.specs.declared.end.Who.{Who}
use Rattle.lt_session.specs.Session.{Closes}
use Rattle.lt_session.specs.Side.{IsOf, side_link}
use Rattle.lt_session.specs.declared.side.Side.{Side}
use Rattle.lt_campaign.specs.Campaign.{AllClose, Blamed, blame, blamed_from, first_of}
use Rattle.lt_campaign.specs.RunView.{AllHaveKinds, HasKinds, run_view, session_view}
use Rattle.lt_campaign.specs.Session.{IsClosed, Session, names_of, of_none, of_one, of_run, outcome_of}
use Rattle.lt_campaign.specs.declared.run.Run as code
use Rattle.lt_campaign.specs.declared.session.Session as sessions
use Rattle.lt_campaign.specs.declared.session.Session.TheVariants as session
use Rattle.lt_campaign.proofs.Starts.{same_here}

-- a side was closed, of whatever kind
abbrev pub ClosesSide : {L : Type 0} → (L → Link) → Programs → Programs → Side L → Type 0
ClosesSide state old new side = (s : InputSource) → IsOf s side → Closes s old new (side_link state side)

pub closed_run : {M : _} {L : Type 0} {b : _} (state : L → Link) (s : sessions.Session M L b) (r : code.Run M L b) (old mid new : Programs) → s ≡ session.Started r → ClosesSide state old mid r.controller → ClosesSide state mid new r.oracle →
    (c o : InputSource) → HasKinds c o s → IsClosed c o old new (session_view state s)
closed_run state s r old mid new is first second c o kinds =
    let own = subst (HasKinds c o) is kinds in
    subst (λ (x : sessions.Session _ _ _). IsClosed c o old new (session_view state x)) (sym is) (of_run (run_view state r) mid (first c own.0) (second o own.1))

pub closed_one : {M : _} {L : Type 0} {b : _} (state : L → Link) (s : sessions.Session M L b) (w : Who) (side : Side L) (old new : Programs) → s ≡ session.Unstarted w (Some side) → ClosesSide state old new side →
    (c o : InputSource) → HasKinds c o s → IsClosed c o old new (session_view state s)
closed_one state s w side old new is first c o kinds =
    let own = subst (HasKinds c o) is kinds in
    subst (λ (x : sessions.Session _ _ _). IsClosed c o old new (session_view state x)) (sym is) (of_one w (side_link state side) (first c own))

pub closed_none : {M : _} {L : Type 0} {b : _} (state : L → Link) (s : sessions.Session M L b) (w : Who) (old : Programs) → s ≡ session.Unstarted w None → Same old old → (c o : InputSource) → IsClosed c o old old (session_view state s)
closed_none state s w old is same c o =
    subst (λ (x : sessions.Session _ _ _). IsClosed c o old old (session_view state x)) (sym is) (of_none w same)

-- ---- all of them

-- the first of a list was taken out of it
pub first_out : {A : Type 0} (all rest : List A) (x : A) → 0 < length all → x ≡ get_or all 0 x → rest ≡ take 0 all ++ drop 1 all → all ≡ x ∷ rest
first_out [] rest x some is left = absurd (omega (arith, some))
first_out (y ∷ all) rest x some is left = λ i. sym is i ∷ sym left i

-- the sessions that are left have their kinds, and as they are closed from here, all are
abbrev pub ClosesOn : {M : _} {L : Type 0} {b : _} → (L → Link) → InputSource → InputSource → Programs → Programs → List (sessions.Session M L b) → List (sessions.Session M L b) → Type 0
ClosesOn state c o first now all left = AllHaveKinds c o left × ((new : Programs) → AllClose c o now new (map (session_view state) left) → AllClose c o first new (map (session_view state) all))

-- one was closed
pub closes_more : {M : _} {L : Type 0} {b : _} (state : L → Link) (c o : InputSource) (first now next : Programs) (all left rest : List (sessions.Session M L b)) (s : sessions.Session M L b) → left ≡ s ∷ rest →
    (HasKinds c o s → IsClosed c o now next (session_view state s)) → ClosesOn state c o first now all left → ClosesOn state c o first next all rest
closes_more state c o first now next all left rest s is closed h =
    let kinds = subst (AllHaveKinds c o) is h.0 in
    (kinds.1, λ new others. h.1 new (subst (λ (t : List _). AllClose c o now new (map (session_view state) t)) (sym is) (next, closed kinds.0, others)))

-- the first of two, as the code has it
pub or_first : {A B : Type 0} (f : A → B) (a b : Option A) → option_map f (option_or a b) ≡ first_of (option_map f a) (option_map f b)
or_first f (Some x) b = refl
or_first f None b = refl

first_of_three : {A : Type 0} (a b c : Option A) → first_of (first_of a b) c ≡ first_of a (first_of b c)
first_of_three (Some x) b c = refl
first_of_three None b c = refl

-- the first that is blamed, of one and those behind it
pub blames_more : {State : Type 0} (a b now : Option Blamed) (n : ℕ) (all left rest : List (Session State)) (s : Session State) (names : List (List ℕ)) → left ≡ s ∷ rest → b ≡ blame n (outcome_of s) names → names ≡ names_of s → now ≡ first_of a b →
    first_of a (blamed_from n left) ≡ blamed_from 0 all → first_of now (blamed_from (n + 1) rest) ≡ blamed_from 0 all
blames_more a b now n all left rest s names is b_is names_is now_is h =
    let own : b ≡ blame n (outcome_of s) (names_of s) = b_is ∙ ap (λ (t : List (List ℕ)). blame n (outcome_of s) t) names_is in
    ap (λ (t : Option Blamed). first_of t (blamed_from (n + 1) rest)) (now_is ∙ ap (λ (t : Option Blamed). first_of a t) own)
    ∙ first_of_three a (blame n (outcome_of s) (names_of s)) (blamed_from (n + 1) rest)
    ∙ ap (λ (t : List (Session _)). first_of a (blamed_from n t)) (sym is) ∙ h

-- none is left
pub none_left : {A : Type 0} (xs : List A) → length xs ≡ 0 → xs ≡ []
none_left [] e = refl
none_left (x ∷ xs) e = absurd (omega (arith, e))

first_alone : {A : Type 0} (a : Option A) → first_of a None ≡ a
first_alone (Some x) = refl
first_alone None = refl

-- all were closed
pub closes_all : {M : _} {L : Type 0} {b : _} (state : L → Link) (c o : InputSource) (first now : Programs) (all left : List (sessions.Session M L b)) → left ≡ [] → ClosesOn state c o first now all left → AllClose c o first now (map (session_view state) all)
closes_all state c o first now all left none h = h.1 now (subst (λ (t : List _). AllClose c o now now (map (session_view state) t)) (sym none) (same_here now))

pub blames_all : {State : Type 0} (a : Option Blamed) (n : ℕ) (all left : List (Session State)) → left ≡ [] → first_of a (blamed_from n left) ≡ blamed_from 0 all → a ≡ blamed_from 0 all
blames_all a n all left none h = sym (first_alone a) ∙ ap (λ (t : List (Session _)). first_of a (blamed_from n t)) (sym none) ∙ h
