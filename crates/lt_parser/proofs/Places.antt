-- Where reading stops is the first token that no tree of the kind wanted has there.
use Rattle.std.proofs.Common.{◌≡◌, ℕ, suc, ◌≤◌, List, [], ◌∷◌, ◌++◌, length, refl, sym, ◌∙◌, ap, subst, Bool, true, false, if◌then◌else◌, nat_le, None, Result, Ok, Err, ◌⊎◌, inl, inr, arith}
use Rattle.std.proofs.lemmas.Bool.{leb-true}
use Rattle.lt_ast.specs.declared.sign.Sign.{Sign}
use Rattle.lt_ast.specs.declared.span.Span.{Span}
use Rattle.lt_ast.specs.Syntax as s
use Rattle.lt_grammar.specs.Lexemes.{Lexeme, Lexemes, lexeme}
use Rattle.lt_grammar.specs.Program.{IsViableWithin, NoneContinues, IsUnexpected, IsTooDeep}
use Rattle.lt_parser.specs.inner.Reading.{Goal, Tree, nothing_more, Move, stuck, next, opens, Stop, unexpected, too_deep, step, finish, onward, outcome, more_exp, after_name, more_items, a_handler, some_limits, after_weight, more_names, a_ref, a_range, a_step, a_first, some_parameters, declarations, UnexpectedIsExact, TooDeepIsExact}
use Rattle.lt_parser.proofs.Low.{Low, LowMove, low_step}
use Rattle.lt_parser.proofs.Sound.{Accepts, Accepted, back}
use Rattle.lt_grammar.proofs.Stops.{unexpected_stops, deep_stops, tree_has_none, one_unexpected, one_deep, not_both}
use Rattle.lt_parser.proofs.Tidy.{Tidy, TidyMove, tidy_step, words, completes}
use Rattle.lt_parser.proofs.Wholes.{IsWhole, some_spelled}
use Rattle.lt_grammar.specs.Nesting.{most_levels}

-- Tokens that go on as these do aren't read, whatever the levels.
abbrev pub StuckAt : Goal → Lexemes → Lexemes → Type 0
StuckAt g before [] = (most : ℕ) (x : Tree) → outcome most g before ≡ Ok x → ⊥
StuckAt g before (u ∷ us) = (most : ℕ) (m : Lexemes) (x : Tree) → outcome most g ((before ++ u ∷ []) ++ m) ≡ Ok x → ⊥

-- Reading may go on up to a place, and from there on no more, whatever the levels; so many tokens are left.
pub record Refuses (most : ℕ) (g : Goal) (ts : Lexemes) (left : ℕ) : Type 0 where
  pub before : Lexemes
  pub rest : Lexemes
  pub parts : ts ≡ before ++ rest
  pub place : length rest ≡ left
  pub after : Lexemes
  pub viable : Accepts most g (before ++ after)
  pub here : StuckAt g before rest

-- Reading may continue up to a token that opens one level too many; with one more level it may continue after it.
pub record Deepens (most : ℕ) (g : Goal) (ts : Lexemes) (left : ℕ) : Type 0 where
  pub before : Lexemes
  pub token : Lexeme
  pub rest : Lexemes
  pub parts : ts ≡ before ++ token ∷ rest
  pub place : suc (length rest) ≡ left
  pub after : Lexemes
  pub viable : Accepts most g (before ++ after)
  pub after_then : Lexemes
  pub deep : Accepts (suc most) g ((before ++ token ∷ []) ++ after_then)
  pub here : (m : Lexemes) (x : Tree) → outcome most g ((before ++ token ∷ []) ++ m) ≡ Ok x → ⊥

-- At the end no token is left.
unexpected_end : (g : Goal) (left : ℕ) → finish g ≡ Err (unexpected left) → left ≡ 0
unexpected_end (nothing_more x) left e = cc
unexpected_end (more_exp d low x k) left e = unexpected_end (k x) left e
unexpected_end (after_name d n k) left e = unexpected_end (k (s.named n)) left e
unexpected_end (more_items d k) left e = unexpected_end (k s.no_traces) left e
unexpected_end (a_handler d k) left e = unexpected_end (k s.no_trace) left e
unexpected_end (some_limits d k) left e = unexpected_end (k s.forever) left e
unexpected_end (after_weight d v k) left e = unexpected_end (k (s.unweighted (s.value v))) left e
unexpected_end (more_names k) left e = unexpected_end (k []) left e
unexpected_end (a_ref k) left e = unexpected_end (k false) left e
unexpected_end (a_range k) left e = unexpected_end (k None) left e
unexpected_end (a_step k) left e = unexpected_end (k None) left e
unexpected_end (a_first d k) left e = unexpected_end (k s.no_exp) left e
unexpected_end (some_parameters d k) left e = unexpected_end (k s.no_parameters) left e
unexpected_end (declarations k) left e = unexpected_end (k []) left e
unexpected_end g left e = cc

-- The end opens no level.
not_deep_end : (g : Goal) (left : ℕ) → finish g ≡ Err (too_deep left) → ⊥
not_deep_end (nothing_more x) left e = cc
not_deep_end (more_exp d low x k) left e = not_deep_end (k x) left e
not_deep_end (after_name d n k) left e = not_deep_end (k (s.named n)) left e
not_deep_end (more_items d k) left e = not_deep_end (k s.no_traces) left e
not_deep_end (a_handler d k) left e = not_deep_end (k s.no_trace) left e
not_deep_end (some_limits d k) left e = not_deep_end (k s.forever) left e
not_deep_end (after_weight d v k) left e = not_deep_end (k (s.unweighted (s.value v))) left e
not_deep_end (more_names k) left e = not_deep_end (k []) left e
not_deep_end (a_ref k) left e = not_deep_end (k false) left e
not_deep_end (a_range k) left e = not_deep_end (k None) left e
not_deep_end (a_step k) left e = not_deep_end (k None) left e
not_deep_end (a_first d k) left e = not_deep_end (k s.no_exp) left e
not_deep_end (some_parameters d k) left e = not_deep_end (k s.no_parameters) left e
not_deep_end (declarations k) left e = not_deep_end (k []) left e
not_deep_end g left e = cc

-- A refusal is no tree.
err_is_not_ok : (e : Stop) (x : Tree) → ◌≡◌ {A = Result Tree Stop} (Err e) (Ok x) → ⊥
err_is_not_ok e x q = cc

-- A level too many is no unexpected token.
deep_is_not_unexpected : (a c : ℕ) → ◌≡◌ {A = Result Tree Stop} (Err (too_deep a)) (Err (unexpected c)) → ⊥
deep_is_not_unexpected a c q = cc

-- Equal refusals for a token leave as many tokens.
same_left : (a c : ℕ) → ◌≡◌ {A = Result Tree Stop} (Err (unexpected a)) (Err (unexpected c)) → a ≡ c
same_left a c q = cc

-- Equal refusals for a level leave as many tokens.
same_depth : (a c : ℕ) → ◌≡◌ {A = Result Tree Stop} (Err (too_deep a)) (Err (too_deep c)) → a ≡ c
same_depth a c q = cc

-- a token is taken, and this is wanted after it
abbrev Takes : Move → Goal → Type 0
Takes a goal = (a ≡ next goal) ⊎ ((d : ℕ) × (a ≡ opens d goal))

-- What isn't refused at a test continues.
let_through : (b' : Bool) (y z : Result Tree Stop) (x : Tree) (e : Stop) → z ≡ Err e → (if b' then y else z) ≡ Ok x → y ≡ Ok x
let_through true y z x e r q = q
let_through false y z x e r q = cc

-- Reading continues after a token that is taken.
is_taken_on : (most : ℕ) (a : Move) (goal : Goal) (m : Lexemes) (x : Tree) → Takes a goal → onward most a (length m) (λ g. outcome most g m) ≡ Ok x → outcome most goal m ≡ Ok x
is_taken_on most a goal m x (inl e) q = sym (ap (λ a'. onward most a' (length m) (λ g. outcome most g m)) e) ∙ q
is_taken_on most a goal m x (inr e) q =
    let_through (nat_le e.0 most) (outcome most goal m) (Err (too_deep (suc (length m)))) x (too_deep (suc (length m))) refl (sym (ap (λ a'. onward most a' (length m) (λ g. outcome most g m)) e.1) ∙ q)

-- A token before a place where reading stops puts it one token further.
stuck_step : (g : Goal) (sign : Sign) (w : List ℕ) (at : Span) (goal : Goal) (before rest : Lexemes) → Takes (step g sign w at) goal → StuckAt goal before rest → StuckAt g (lexeme sign w at ∷ before) rest
stuck_step g sign w at goal before [] e h = λ most x q. h most x (is_taken_on most (step g sign w at) goal before x e q)
stuck_step g sign w at goal before (v ∷ us) e h = λ most m x q. h most m x (is_taken_on most (step g sign w at) goal ((before ++ v ∷ []) ++ m) x e q)

-- A refusal further on.
refuses_later : (most : ℕ) (g : Goal) (sign : Sign) (w : List ℕ) (at : Span) (us : Lexemes) (left : ℕ) (goal : Goal) → Takes (step g sign w at) goal → ((ts : Lexemes) → Accepts most goal ts → Accepted most (step g sign w at) ts)
    → Refuses most goal us left → Refuses most g (lexeme sign w at ∷ us) left
refuses_later most g sign w at us left goal e acc r = record {
  before = lexeme sign w at ∷ r.before;
  rest = r.rest;
  parts = ap (λ m. lexeme sign w at ∷ m) r.parts;
  place = r.place;
  after = r.after;
  viable = back g most sign w at (r.before ++ r.after) (acc (r.before ++ r.after) r.viable);
  here = stuck_step g sign w at goal r.before r.rest e r.here;
}

-- A refusal further on, after a token that opens a level.
refuses_open : (most : ℕ) (g : Goal) (sign : Sign) (w : List ℕ) (at : Span) (us : Lexemes) (left d : ℕ) (goal : Goal) → step g sign w at ≡ opens d goal → (outcome most goal us ≡ Err (unexpected left) → Refuses most goal us left)
    → (b' : Bool) → nat_le d most ≡ b' → (if b' then outcome most goal us else Err (too_deep (suc (length us)))) ≡ Err (unexpected left) → Refuses most g (lexeme sign w at ∷ us) left
refuses_open most g sign w at us left d goal e ih true q r =
    refuses_later most g sign w at us left goal (inr (d, e)) (λ ts a. subst (λ o. Accepted most o ts) (sym e) (leb-true d most q, a)) (ih r)
refuses_open most g sign w at us left d goal e ih false q r = absurd (deep_is_not_unexpected (suc (length us)) left r)

-- A refusal at this token or further on.
refuses_step : (most : ℕ) (g : Goal) (sign : Sign) (w : List ℕ) (at : Span) (us : Lexemes) (left : ℕ) → 1 ≤ most → Tidy g → (a : Move) → step g sign w at ≡ a → TidyMove a
    → ((goal : Goal) → Tidy goal → outcome most goal us ≡ Err (unexpected left) → Refuses most goal us left)
    → onward most a (length us) (λ goal. outcome most goal us) ≡ Err (unexpected left) → Refuses most g (lexeme sign w at ∷ us) left
refuses_step most g sign w at us left le h stuck e n ih r = record {
  before = [];
  rest = lexeme sign w at ∷ us;
  parts = refl;
  place = same_left (suc (length us)) left r;
  after = words g;
  viable = completes g most le h;
  here = λ most' m x z. err_is_not_ok (unexpected (suc (length m))) x (sym (ap (λ a. onward most' a (length m) (λ goal. outcome most' goal m)) e) ∙ z);
}
refuses_step most g sign w at us left le h (next goal) e n ih r = refuses_later most g sign w at us left goal (inl e) (λ ts a. subst (λ o. Accepted most o ts) (sym e) a) (ih goal n r)
refuses_step most g sign w at us left le h (opens d goal) e n ih r = refuses_open most g sign w at us left d goal e (ih goal n) (nat_le d most) refl r

-- Where reading stops for an unexpected token, it must stop there.
pub refuses : (ts : Lexemes) (most left : ℕ) (g : Goal) → 1 ≤ most → Tidy g → outcome most g ts ≡ Err (unexpected left) → Refuses most g ts left
refuses [] most left g le h e = record {
  before = [];
  rest = [];
  parts = refl;
  place = sym (unexpected_end g left e);
  after = words g;
  viable = completes g most le h;
  here = λ most' x z. err_is_not_ok (unexpected left) x (sym e ∙ z);
}
refuses (lexeme sign w at ∷ us) most left g le h e = refuses_step most g sign w at us left le h (step g sign w at) refl (tidy_step g sign w at h) (λ goal n z. refuses us most left goal le n z) e

-- A level too many further on.
deepens_later : (most : ℕ) (g : Goal) (sign : Sign) (w : List ℕ) (at : Span) (us : Lexemes) (left : ℕ) (goal : Goal) → Takes (step g sign w at) goal
    → ((limit : ℕ) (ts : Lexemes) → most ≤ limit → Accepts limit goal ts → Accepted limit (step g sign w at) ts) → Deepens most goal us left → Deepens most g (lexeme sign w at ∷ us) left
deepens_later most g sign w at us left goal e acc r = record {
  before = lexeme sign w at ∷ r.before;
  token = r.token;
  rest = r.rest;
  parts = ap (λ m. lexeme sign w at ∷ m) r.parts;
  place = r.place;
  after = r.after;
  viable = back g most sign w at (r.before ++ r.after) (acc most (r.before ++ r.after) (omega arith) r.viable);
  after_then = r.after_then;
  deep = back g (suc most) sign w at ((r.before ++ r.token ∷ []) ++ r.after_then) (acc (suc most) ((r.before ++ r.token ∷ []) ++ r.after_then) (omega arith) r.deep);
  here = λ m x z. r.here m x (is_taken_on most (step g sign w at) goal ((r.before ++ r.token ∷ []) ++ m) x e z);
}

-- A token that opens a level: this is the one too many, or a later one.
deepens_open : (most : ℕ) (g : Goal) (sign : Sign) (w : List ℕ) (at : Span) (us : Lexemes) (left d : ℕ) (goal : Goal) → 1 ≤ most → Tidy g → Tidy goal → d ≤ suc most → step g sign w at ≡ opens d goal
    → (d ≤ most → outcome most goal us ≡ Err (too_deep left) → Deepens most goal us left)
    → (b' : Bool) → nat_le d most ≡ b' → (if b' then outcome most goal us else Err (too_deep (suc (length us)))) ≡ Err (too_deep left) → Deepens most g (lexeme sign w at ∷ us) left
deepens_open most g sign w at us left d goal le h n low e ih true q r =
    let dm = leb-true d most q in
    deepens_later most g sign w at us left goal (inr (d, e)) (λ limit ts l a. subst (λ o. Accepted limit o ts) (sym e) (omega (arith, dm, l), a)) (ih dm r)
deepens_open most g sign w at us left d goal le h n low e ih false q r = record {
  before = [];
  token = lexeme sign w at;
  rest = us;
  parts = refl;
  place = same_depth (suc (length us)) left r;
  after = words g;
  viable = completes g most le h;
  after_then = words goal;
  deep = back g (suc most) sign w at (words goal) (subst (λ o. Accepted (suc most) o (words goal)) (sym e) (low, completes goal (suc most) (omega arith) n));
  here = λ m x z. err_is_not_ok (too_deep (suc (length m))) x
      (sym (ap (λ b'. if b' then outcome most goal m else Err (too_deep (suc (length m)))) q) ∙ sym (ap (λ a. onward most a (length m) (λ goal'. outcome most goal' m)) e) ∙ z);
}

-- A level too many at this token or further on.
deepens_step : (most : ℕ) (g : Goal) (sign : Sign) (w : List ℕ) (at : Span) (us : Lexemes) (left : ℕ) → 1 ≤ most → Tidy g → (a : Move) → step g sign w at ≡ a → TidyMove a → LowMove most a
    → ((goal : Goal) → Tidy goal → Low most goal → outcome most goal us ≡ Err (too_deep left) → Deepens most goal us left)
    → onward most a (length us) (λ goal. outcome most goal us) ≡ Err (too_deep left) → Deepens most g (lexeme sign w at ∷ us) left
deepens_step most g sign w at us left le h stuck e n low ih r = absurd (deep_is_not_unexpected left (suc (length us)) (sym r))
deepens_step most g sign w at us left le h (next goal) e n low ih r = deepens_later most g sign w at us left goal (inl e) (λ limit ts l a. subst (λ o. Accepted limit o ts) (sym e) a) (ih goal n low r)
deepens_step most g sign w at us left le h (opens d goal) e n low ih r = deepens_open most g sign w at us left d goal le h n low.0 e (λ l. ih goal n (low.1 l)) (nat_le d most) refl r

-- Where reading stops for a level too many, one more would do.
pub deepens : (ts : Lexemes) (most left : ℕ) (g : Goal) → 1 ≤ most → Tidy g → Low most g → outcome most g ts ≡ Err (too_deep left) → Deepens most g ts left
deepens [] most left g le h low e = absurd (not_deep_end g left e)
deepens (lexeme sign w at ∷ us) most left g le h low e =
    deepens_step most g sign w at us left le h (step g sign w at) refl (tidy_step g sign w at h) (low_step g most sign w at low) (λ goal n l z. deepens us most left goal le n l z) e

-- OF A WHOLE TEXT

-- What isn't read is no beginning of a tree, however many levels may be open.
none_continues : {X : Type 0} (spells : ℕ → Lexemes → X → Type 0) (tree : X → Tree) (wanted : Goal) → IsWhole spells tree wanted → (before rest : Lexemes) → StuckAt wanted before rest → NoneContinues spells before rest
none_continues spells tree wanted whole before [] h = λ most x p. h most (tree x) (whole.read most before x p)
none_continues spells tree wanted whole before (u ∷ us) h = λ most v. h most v.0 (tree v.1) (whole.read most ((before ++ u ∷ []) ++ v.0) v.1 v.2)

-- Where what is wanted can be met after these tokens, some tree begins with them.
viable_from : {X : Type 0} (spells : ℕ → Lexemes → X → Type 0) (tree : X → Tree) (wanted : Goal) → IsWhole spells tree wanted → (most : ℕ) (ts after : Lexemes) → Accepts most wanted (ts ++ after) → IsViableWithin spells most ts
viable_from spells tree wanted whole most ts after a = let p = whole.accepted most (ts ++ after) a in (after, p.0, p.1)

-- Where reading stops for an unexpected token, one is.
unexpected_is_there : {X : Type 0} (spells : ℕ → Lexemes → X → Type 0) (tree : X → Tree) (wanted : Goal) → IsWhole spells tree wanted
    → (ts : Lexemes) (left : ℕ) → outcome most_levels wanted ts ≡ Err (unexpected left) → (rest : Lexemes) × (length rest ≡ left) × IsUnexpected spells ts rest
unexpected_is_there spells tree wanted whole ts left e =
    let q = refuses ts most_levels left wanted (omega arith) whole.tidy e in (
      q.rest,
      q.place,
      record {
        before = q.before;
        parts = q.parts;
        viable = viable_from spells tree wanted whole most_levels q.before q.after q.viable;
        stuck = none_continues spells tree wanted whole q.before q.rest q.here;
      },
    )

-- Where reading stops for a level too many, a token opens it.
deep_is_there : {X : Type 0} (spells : ℕ → Lexemes → X → Type 0) (tree : X → Tree) (wanted : Goal) → IsWhole spells tree wanted
    → (ts : Lexemes) (left : ℕ) → outcome most_levels wanted ts ≡ Err (too_deep left) → (token : Lexeme) × (rest : Lexemes) × (suc (length rest) ≡ left) × IsTooDeep spells ts token rest
deep_is_there spells tree wanted whole ts left e =
    let q = deepens ts most_levels left wanted (omega arith) whole.tidy whole.low e in (
      q.token,
      q.rest,
      q.place,
      record {
        before = q.before;
        parts = q.parts;
        viable = viable_from spells tree wanted whole most_levels q.before q.after q.viable;
        deep = viable_from spells tree wanted whole (suc most_levels) (q.before ++ q.token ∷ []) q.after_then q.deep;
        stuck = λ v. q.here v.0 (tree v.1) (whole.read most_levels ((q.before ++ q.token ∷ []) ++ v.0) v.1 v.2);
      },
    )

-- At an unexpected token reading stops for it, whatever it was said to do.
stops_unexpected : {X : Type 0} (spells : ℕ → Lexemes → X → Type 0) (tree : X → Tree) (wanted : Goal) → IsWhole spells tree wanted
    → (ts rest : Lexemes) → IsUnexpected spells ts rest → (r : Result Tree Stop) → outcome most_levels wanted ts ≡ r → r ≡ Err (unexpected (length rest))
stops_unexpected spells tree wanted whole ts rest q (Ok y) e =
    let p = some_spelled spells tree wanted whole most_levels ts y e in
    absurd (tree_has_none spells ts q.before rest p.0 (unexpected_stops spells ts rest q) p.1)
stops_unexpected spells tree wanted whole ts rest q (Err (unexpected left)) e =
    let p = unexpected_is_there spells tree wanted whole ts left e in
    ap (λ n. Err (unexpected n)) (sym p.1 ∙ ap (λ m. length m) (one_unexpected spells ts p.0 rest p.2 q))
stops_unexpected spells tree wanted whole ts rest q (Err (too_deep left)) e =
    let p = deep_is_there spells tree wanted whole ts left e in
    absurd (not_both spells ts rest p.0 p.1 q p.3)

-- At a token that opens a level too many reading stops for that, whatever it was said to do.
stops_deep : {X : Type 0} (spells : ℕ → Lexemes → X → Type 0) (tree : X → Tree) (wanted : Goal) → IsWhole spells tree wanted
    → (ts : Lexemes) (token : Lexeme) (rest : Lexemes) → IsTooDeep spells ts token rest → (r : Result Tree Stop) → outcome most_levels wanted ts ≡ r → r ≡ Err (too_deep (suc (length rest)))
stops_deep spells tree wanted whole ts token rest q (Ok y) e =
    let p = some_spelled spells tree wanted whole most_levels ts y e in
    absurd (tree_has_none spells ts q.before (token ∷ rest) p.0 (deep_stops spells ts token rest q) p.1)
stops_deep spells tree wanted whole ts token rest q (Err (unexpected left)) e =
    let p = unexpected_is_there spells tree wanted whole ts left e in
    absurd (not_both spells ts p.0 token rest p.2 q)
stops_deep spells tree wanted whole ts token rest q (Err (too_deep left)) e =
    let p = deep_is_there spells tree wanted whole ts left e in
    ap (λ n. Err (too_deep n)) (sym p.2 ∙ ap (λ m. suc (length m)) (one_deep spells ts p.0 token p.1 rest p.3 q))

-- Reading stops for an unexpected token exactly where there is one.
pub unexpected_is_exact : {X : Type 0} (spells : ℕ → Lexemes → X → Type 0) (tree : X → Tree) (wanted : Goal) → IsWhole spells tree wanted → UnexpectedIsExact spells wanted
unexpected_is_exact spells tree wanted whole = λ ts left. (
  unexpected_is_there spells tree wanted whole ts left,
  λ q. stops_unexpected spells tree wanted whole ts q.0 q.2 (outcome most_levels wanted ts) refl ∙ ap (λ n. Err (unexpected n)) q.1,
)

-- Reading stops for a level too many exactly where there is one.
pub too_deep_is_exact : {X : Type 0} (spells : ℕ → Lexemes → X → Type 0) (tree : X → Tree) (wanted : Goal) → IsWhole spells tree wanted → TooDeepIsExact spells wanted
too_deep_is_exact spells tree wanted whole = λ ts left. (
  deep_is_there spells tree wanted whole ts left,
  λ q. stops_deep spells tree wanted whole ts q.0 q.1 q.3 (outcome most_levels wanted ts) refl ∙ ap (λ n. Err (too_deep n)) q.2,
)
