-- Environments that lie in a list of entries.
use Rattle.std.proofs.Common.{◌≡◌, ℕ, suc, ◌-◌, ◌<◌, ◌≤◌, Bool, true, false, ◌&&◌, nat_le, IsTrue, List, [], ◌∷◌, ◌++◌, length, get_or, take, drop, reverse, if◌then◌else◌, bytes_eq, Option, None, Some, is_some, codes, refl, ap, sym, ◌∙◌, subst, arith, length-append, drop-cons, append_assoc}
use Rattle.std.proofs.lemmas.Bool.{le-leb, leb-true}
use Rattle.std.proofs.lemmas.List.{length-reverse, reverse-append, take-append-drop, length-take-le}
use Rattle.lt_ast.specs.View.{macro as macro_view}
use Rattle.lt_macros.specs.Environment.{parameter, macro, deadlock, Environment, at_start, found, found_exception, with_exception, with_name}
use Rattle.lt_macros.specs.inner.Reading.{Reading, added, environment, is_chosen, is_handed, is_linked, is_older, is_written, are_linked, is_name, newest, declared_by, raised_by, phrase_view}
use Rattle.lt_macros.specs.declared.scope.Declared.{Declared}
use Rattle.lt_macros.specs.declared.scope.Entry.{Entry}
use Rattle.lt_macros.specs.declared.scope.Binding.{Binding as CodeBinding}
use Rattle.lt_macros.specs.declared.scope.Binding.TheVariants.{Variable, Argument, Parameter, Macro, Exception}
use Rattle.lt_macros.specs.declared.scope.Handed.{Handed}
use Rattle.lt_macros.specs.declared.scope.Before.{Before}
use Rattle.lt_macros.specs.declared.scope.Before.TheVariants.{Terms, Chosen}
use Rattle.lt_macros.specs.declared.scope.Target.{Target}
use Rattle.lt_macros.specs.declared.scope.Target.TheVariants.{Own, Outer}

pub both : (a b : Bool) → IsTrue a → IsTrue b → IsTrue (a && b)
both true b h k = k
both false b h k = h

pub left_of : (a b : Bool) → IsTrue (a && b) → IsTrue a
left_of true b h = refl
left_of false b h = h

pub right_of : (a b : Bool) → IsTrue (a && b) → IsTrue b
right_of true b h = h
right_of false b h = absurd (cc)

pub le_true : (a b : ℕ) → IsTrue (nat_le a b) → a ≤ b
le_true a b h = leb-true a b h

pub true_le : (a b : ℕ) → a ≤ b → IsTrue (nat_le a b)
true_le a b h = le-leb a b h

not_less : (n : ℕ) (b : Bool) → nat_le (suc n) n ≡ b → b ≡ false
not_less n true h = absurd (omega (arith, leb-true (suc n) n h))
not_less n false h = refl

more_false : (n : ℕ) → nat_le (suc n) n ≡ false
more_false n = not_less n (nat_le (suc n) n) refl

-- what an entry adds, among entries
abbrev pub made_by : {S : Type 0} → Reading S → List Entry → Entry → Environment S
made_by r rows e = added r (environment r rows) e.name.now e.outer e.binding

-- one more entry leaves the environments that are there
pub environment-older : {S : Type 0} (r : Reading S) (e : Entry) (rows : List Entry) (k : ℕ) → k ≤ length rows → environment r (e ∷ rows) k ≡ environment r rows k
environment-older r e rows k h = ap (λ b. if b then environment r rows k else made_by r rows e) (true_le _ _ h)

-- and makes one
pub environment-newest : {S : Type 0} (r : Reading S) (e : Entry) (rows : List Entry) → environment r (e ∷ rows) (suc (length rows)) ≡ made_by r rows e
environment-newest r e rows = ap (λ b. if b then environment r rows (suc (length rows)) else made_by r rows e) (more_false (length rows))

-- environment 0 is that at the start
pub environment_zero : {S : Type 0} (r : Reading S) (rows : List Entry) → environment r rows 0 ≡ at_start r.decimals
environment_zero r [] = refl
environment_zero r (e ∷ rows) = environment-older r e rows 0 (omega arith) ∙ environment_zero r rows

-- what an entry adds stays too
added-older : {S : Type 0} (r : Reading S) (e : Entry) (rows : List Entry) (name : List ℕ) (outer : ℕ) (x : CodeBinding) → outer ≤ length rows → IsTrue (is_written (length rows) x)
    → added r (environment r (e ∷ rows)) name outer x ≡ added r (environment r rows) name outer x
added-older r e rows name outer (Variable role place) h w = ap (with_name name (r.variable role place)) (environment-older r e rows outer h)
added-older r e rows name outer (Argument p k) h w =
    let there = environment-older r e rows k (le_true _ _ w) in
    let here = environment-older r e rows outer h in
    λ i. with_name name (parameter (r.phrase (there i) (phrase_view p))) (here i)
added-older r e rows name outer (Parameter j) h w = ap (with_name name (parameter (r.parameter j))) (environment-older r e rows outer h)
added-older r e rows name outer (Macro m f) h w = ap (λ env. with_name name (macro (r.macro_denotation env (macro_view m.now))) env) (environment-older r e rows outer h)
added-older r e rows name outer (Exception place before) h w = ap (with_exception (r.terms_before before) place name) (environment-older r e rows outer h)

-- what is among some is among more
older-more : (count more : ℕ) (x : Target) → count ≤ more → IsTrue (is_older count x) → IsTrue (is_older more x)
older-more count more (Own place c) h w = w
older-more count more (Outer x) h w = true_le _ _ (omega (arith, le_true _ _ w))

handed-more : (count more : ℕ) (x : Option Handed) → count ≤ more → IsTrue (is_handed count x) → IsTrue (is_handed more x)
handed-more count more None h w = w
handed-more count more (Some x) h w = older-more count more x.target h w

chosen-more : (count more : ℕ) (x : Before) → count ≤ more → IsTrue (is_chosen count x) → IsTrue (is_chosen more x)
chosen-more count more (Terms n) h w = w
chosen-more count more (Chosen i) h w = true_le _ _ (omega (arith, le_true _ _ w))

written-more : (count more : ℕ) (x : CodeBinding) → count ≤ more → IsTrue (is_written count x) → IsTrue (is_written more x)
written-more count more (Variable role place) h w = w
written-more count more (Argument p k) h w = true_le _ _ (omega (arith, le_true _ _ w))
written-more count more (Parameter i) h w = true_le _ _ (omega (arith, le_true _ _ w))
written-more count more (Macro m x) h w = handed-more count more x h w
written-more count more (Exception place before) h w = chosen-more count more before h w

linked-more : (count more : ℕ) (e : Entry) → count ≤ more → IsTrue (is_linked count e) → IsTrue (is_linked more e)
linked-more count more e h l =
    both (nat_le e.outer more) _ (true_le _ _ (omega (arith, le_true _ _ (left_of (nat_le e.outer count) _ l)))) (written-more count more e.binding h (right_of (nat_le e.outer count) _ l))

pub outer_of : (count : ℕ) (e : Entry) → IsTrue (is_linked count e) → e.outer ≤ count
outer_of count e l = le_true _ _ (left_of (nat_le e.outer count) _ l)

pub binding_of : (count : ℕ) (e : Entry) → IsTrue (is_linked count e) → IsTrue (is_written count e.binding)
binding_of count e l = right_of (nat_le e.outer count) _ l

-- what an entry is among all of them
pub record Stands {S : Type 0} (r : Reading S) (rows : List Entry) (place : ℕ) (e : Entry) : Type 0 where
  pub made : environment r rows (suc place) ≡ made_by r rows e
  pub outer : e.outer ≤ place
  pub linked : IsTrue (is_linked place e)
  pub within : place < length rows

stands_newest : {S : Type 0} (r : Reading S) (e : Entry) (older : List Entry) → IsTrue (is_linked (length older) e) → Stands r (e ∷ older) (length older) e
stands_newest r e older l =
    record {
      made = environment-newest r e older ∙ sym (added-older r e older e.name.now e.outer e.binding (outer_of _ e l) (binding_of _ e l));
      outer = outer_of _ e l;
      linked = l;
      within = omega arith;
    }

stands_older : {S : Type 0} (r : Reading S) (newer e : Entry) (rows : List Entry) (place : ℕ) → Stands r rows place e → Stands r (newer ∷ rows) place e
stands_older r newer e rows place s =
    record {
      made =
          environment-older r newer rows (suc place) (omega (arith, s.within))
          ∙ s.made
          ∙ sym (added-older r newer rows e.name.now e.outer e.binding (omega (arith, s.outer, s.within)) (binding_of _ e (linked-more _ _ e (omega (arith, s.within)) s.linked)));
      outer = s.outer;
      linked = s.linked;
      within = omega (arith, s.within);
    }

stands : {S : Type 0} (r : Reading S) (newer : List Entry) (e : Entry) (older : List Entry) → IsTrue (are_linked (newer ++ e ∷ older)) → Stands r (newer ++ e ∷ older) (length older) e
stands r [] e older l = stands_newest r e older (left_of _ _ l)
stands r (n ∷ newer) e older l = stands_older r n e (newer ++ e ∷ older) (length older) (stands r newer e older (right_of (is_linked (length (newer ++ e ∷ older)) n) _ l))

-- an entry among all
pub reverse_split : (items : List Entry) (place : ℕ) (e : Entry) → place < length items → e ≡ get_or items place e → reverse items ≡ reverse (drop (suc place) items) ++ e ∷ reverse (take place items)
reverse_split items place e h is =
    let split : items ≡ take place items ++ e ∷ drop (suc place) items =
    sym (take-append-drop place items) ∙ ap (λ rest. take place items ++ rest) (drop-cons items place e h ∙ ap (λ x. x ∷ drop (suc place) items) (sym is)) in
    ap reverse split ∙ reverse-append (take place items) (e ∷ drop (suc place) items)
    ∙ ap (λ rows. rows ++ reverse (take place items)) (reverse-append (e ∷ []) (drop (suc place) items))
    ∙ append_assoc (reverse (drop (suc place) items)) (e ∷ []) (reverse (take place items))

-- what the entry at a place is
pub stands_at : {S : Type 0} (r : Reading S) (items : List Entry) (place : ℕ) (e : Entry) → IsTrue (are_linked (reverse items)) → place < length items → e ≡ get_or items place e → Stands r (reverse items) place e
stands_at {S} r items place e l h is =
    let turned = reverse_split items place e h is in
    let front : length (reverse (take place items)) ≡ place = length-reverse (take place items) ∙ length-take-le place items (omega (arith, h)) in
    let P : List Entry → Type 0 = λ rows. Stands r rows place e in
    let Q : ℕ → Type 0 = λ n. Stands r (reverse (drop (suc place) items) ++ e ∷ reverse (take place items)) n e in
    subst P (sym turned) (subst Q front (stands r (reverse (drop (suc place) items)) e (reverse (take place items)) (subst (λ rows. IsTrue (are_linked rows)) turned l)))

-- the entry that makes an environment
pub record Makes {S : Type 0} (r : Reading S) (rows : List Entry) (number : ℕ) (e : Entry) : Type 0 where
  pub made : environment r rows number ≡ made_by r rows e
  pub outer : e.outer < number
  pub within : e.outer ≤ length rows
  pub linked : IsTrue (is_linked (length rows) e)

pub makes : {S : Type 0} (r : Reading S) (items : List Entry) (number : ℕ) (e : Entry) → IsTrue (are_linked (reverse items)) → 0 < number → number ≤ length (reverse items) → e ≡ get_or items (number - 1) e
    → Makes r (reverse items) number e
makes {S} r items number e l some h is =
    let s = stands_at r items (number - 1) e l (omega (arith, length-reverse items)) is in
    let next : suc (number - 1) ≡ number = omega arith in
    let P : ℕ → Type 0 = λ n. environment r (reverse items) n ≡ made_by r (reverse items) e in
    record {
      made = subst P next s.made;
      outer = omega (arith, s.outer);
      within = omega (arith, s.outer);
      linked = linked-more _ _ e (omega (arith, s.within)) s.linked;
    }

-- a name that an entry has is the newest one there
here : {S : Type 0} (r : Reading S) (at : ℕ → Environment S) (n : List ℕ) (outer : ℕ) (x : CodeBinding) (name : List ℕ) → (is_name x && bytes_eq name n) ≡ true
    → found (added r at n outer x).names name ≡ newest (added r at n outer x).names
here r at n outer (Variable role place) name h = ap (λ b. if b then Some (r.variable role place) else found (at outer).names name) h
here r at n outer (Argument p k) name h = ap (λ b. if b then Some (parameter (r.phrase (at k) (phrase_view p))) else found (at outer).names name) h
here r at n outer (Parameter i) name h = ap (λ b. if b then Some (parameter (r.parameter i)) else found (at outer).names name) h
here r at n outer (Macro m f) name h = ap (λ b. if b then Some (macro (r.macro_denotation (at outer) (macro_view m.now))) else found (at outer).names name) h
here r at n outer (Exception place before) name h = absurd (cc)

-- one that it hasn't is one of the older names
there : {S : Type 0} (r : Reading S) (at : ℕ → Environment S) (n : List ℕ) (outer : ℕ) (x : CodeBinding) (name : List ℕ) → (is_name x && bytes_eq name n) ≡ false
    → found (added r at n outer x).names name ≡ found (at outer).names name
there r at n outer (Variable role place) name h = ap (λ b. if b then Some (r.variable role place) else found (at outer).names name) h
there r at n outer (Argument p k) name h = ap (λ b. if b then Some (parameter (r.phrase (at k) (phrase_view p))) else found (at outer).names name) h
there r at n outer (Parameter i) name h = ap (λ b. if b then Some (parameter (r.parameter i)) else found (at outer).names name) h
there r at n outer (Macro m f) name h = ap (λ b. if b then Some (macro (r.macro_denotation (at outer) (macro_view m.now))) else found (at outer).names name) h
there r at n outer (Exception place before) name h = refl

-- the newest name of the environment that an entry makes
pub newest_is : {S : Type 0} (r : Reading S) (rows : List Entry) (number : ℕ) (e : Entry) → Makes r rows number e → newest (environment r rows number).names ≡ newest (made_by r rows e).names
newest_is r rows number e m = ap (λ env. newest env.names) m.made

pub found_here : {S : Type 0} (r : Reading S) (rows : List Entry) (number : ℕ) (e : Entry) (name : List ℕ) → Makes r rows number e → (is_name e.binding && bytes_eq name e.name.now) ≡ true
    → found (environment r rows number).names name ≡ newest (environment r rows number).names
found_here r rows number e name m h =
    ap (λ env. found env.names name) m.made ∙ here r (environment r rows) e.name.now e.outer e.binding name h ∙ sym (newest_is r rows number e m)

pub found_there : {S : Type 0} (r : Reading S) (rows : List Entry) (number : ℕ) (e : Entry) (name : List ℕ) → Makes r rows number e → (is_name e.binding && bytes_eq name e.name.now) ≡ false
    → found (environment r rows number).names name ≡ found (environment r rows e.outer).names name
found_there r rows number e name m h = ap (λ env. found env.names name) m.made ∙ there r (environment r rows) e.name.now e.outer e.binding name h

-- environment 0 has no names
pub found_nowhere : {S : Type 0} (r : Reading S) (rows : List Entry) (number : ℕ) (name : List ℕ) → number ≡ 0 → found (environment r rows number).names name ≡ newest (environment r rows 0).names
found_nowhere r rows number name h =
    ap (λ k. found (environment r rows k).names name) h ∙ ap (λ env. found env.names name) (environment_zero r rows) ∙ sym (ap (λ env. newest env.names) (environment_zero r rows))

-- no name is newest at 0
pub newest_nowhere : {S : Type 0} (r : Reading S) (rows : List Entry) (number : ℕ) → number ≡ 0 → newest (environment r rows number).names ≡ None
newest_nowhere r rows number h = ap (λ k. newest (environment r rows k).names) h ∙ ap (λ env. newest env.names) (environment_zero r rows)

-- an exception adds no name
passed : {S : Type 0} (r : Reading S) (at : ℕ → Environment S) (n : List ℕ) (outer : ℕ) (x : CodeBinding) → is_name x ≡ false → newest (added r at n outer x).names ≡ newest (at outer).names
passed r at n outer (Variable role place) h = absurd (cc)
passed r at n outer (Argument p k) h = absurd (cc)
passed r at n outer (Parameter i) h = absurd (cc)
passed r at n outer (Macro m f) h = absurd (cc)
passed r at n outer (Exception place before) h = refl

pub newest_there : {S : Type 0} (r : Reading S) (rows : List Entry) (number : ℕ) (e : Entry) → Makes r rows number e → is_name e.binding ≡ false → newest (environment r rows number).names ≡ newest (environment r rows e.outer).names
newest_there r rows number e m h = newest_is r rows number e m ∙ passed r (environment r rows) e.name.now e.outer e.binding h

-- an exception that an entry declares is the newest one there
raised_here : {S : Type 0} (r : Reading S) (at : ℕ → Environment S) (e : Entry) (outer : ℕ) (x : CodeBinding) (name : List ℕ) (d : Declared) → declared_by name e x ≡ Some d
    → found_exception (added r at e.name.now outer x).exceptions name ≡ raised_by r (Some d)
raised_here r at e outer (Variable role place) name d h = absurd (cc)
raised_here r at e outer (Argument p k) name d h = absurd (cc)
raised_here r at e outer (Parameter i) name d h = absurd (cc)
raised_here r at e outer (Macro m f) name d h = absurd (cc)
raised_here {S} r at e outer (Exception place before) name d h = by (bytes_eq name e.name.now) refl h
  where
    it : Declared
    it = record { name = e.name; place = place; before = before }

    by : (b : Bool) → bytes_eq name e.name.now ≡ b → (if b then Some it else None) ≡ Some d
        → (if bytes_eq name e.name.now then raised_by r (Some it) else found_exception (at outer).exceptions name) ≡ raised_by r (Some d)
    by true is h = ap (λ c. if c then raised_by r (Some it) else found_exception (at outer).exceptions name) is ∙ ap (raised_by r) h
    by false is h = absurd (cc)

raised_there : {S : Type 0} (r : Reading S) (at : ℕ → Environment S) (e : Entry) (outer : ℕ) (x : CodeBinding) (name : List ℕ) → declared_by name e x ≡ None
    → found_exception (added r at e.name.now outer x).exceptions name ≡ found_exception (at outer).exceptions name
raised_there r at e outer (Variable role place) name h = refl
raised_there r at e outer (Argument p k) name h = refl
raised_there r at e outer (Parameter i) name h = refl
raised_there r at e outer (Macro m f) name h = refl
raised_there {S} r at e outer (Exception place before) name h = by (bytes_eq name e.name.now) refl h
  where
    it : Declared
    it = record { name = e.name; place = place; before = before }

    by : (b : Bool) → bytes_eq name e.name.now ≡ b → (if b then Some it else None) ≡ None
        → (if bytes_eq name e.name.now then raised_by r (Some it) else found_exception (at outer).exceptions name) ≡ found_exception (at outer).exceptions name
    by true is h = absurd (cc)
    by false is h = ap (λ c. if c then raised_by r (Some it) else found_exception (at outer).exceptions name) is

pub exception_here : {S : Type 0} (r : Reading S) (rows : List Entry) (number : ℕ) (e : Entry) (name : List ℕ) (o : Option Declared) → Makes r rows number e → o ≡ declared_by name e e.binding → is_some o ≡ true
    → found_exception (environment r rows number).exceptions name ≡ raised_by r o
exception_here r rows number e name (Some d) m is h = ap (λ env. found_exception env.exceptions name) m.made ∙ raised_here r (environment r rows) e e.outer e.binding name d (sym is)
exception_here r rows number e name None m is h = absurd (cc)

pub exception_there : {S : Type 0} (r : Reading S) (rows : List Entry) (number : ℕ) (e : Entry) (name : List ℕ) (o : Option Declared) → Makes r rows number e → o ≡ declared_by name e e.binding → is_some o ≡ false
    → found_exception (environment r rows number).exceptions name ≡ found_exception (environment r rows e.outer).exceptions name
exception_there r rows number e name (Some d) m is h = absurd (cc)
exception_there r rows number e name None m is h = ap (λ env. found_exception env.exceptions name) m.made ∙ raised_there r (environment r rows) e e.outer e.binding name (sym is)

-- at the start there is none but `Deadlock`
pub exception_nowhere : {S : Type 0} (r : Reading S) (rows : List Entry) (number : ℕ) (name : List ℕ) → number ≡ 0 → found_exception (environment r rows number).exceptions name ≡ raised_by r None
exception_nowhere r rows number name h =
    ap (λ k. found_exception (environment r rows k).exceptions name) h
    ∙ ap (λ env. found_exception env.exceptions name) (environment_zero r rows)
    ∙ by (bytes_eq name (codes "Deadlock"))
  where
    by : (b : Bool) → (if b then deadlock else deadlock) ≡ raised_by r None
    by true = refl
    by false = refl

drop_all : {A : Type 0} (newer rows : List A) → drop (length newer) (newer ++ rows) ≡ rows
drop_all [] rows = refl
drop_all (e ∷ newer) rows = drop_all newer rows

-- what is left where the newest entries are taken back
pub dropped : {A : Type 0} (newer rows : List A) → drop (length (newer ++ rows) - length rows) (newer ++ rows) ≡ rows
dropped newer rows = ap (λ n. drop n (newer ++ rows)) (omega (arith, length-append newer rows)) ∙ drop_all newer rows

pub taken_back : (len : ℕ) (items : List Entry) → len ≤ length items → reverse (take len items) ≡ drop (length (reverse items) - len) (reverse items)
taken_back len items h =
    let split : reverse items ≡ reverse (drop len items) ++ reverse (take len items) = ap reverse (sym (take-append-drop len items)) ∙ reverse-append (take len items) (drop len items) in
    let left : length (reverse (take len items)) ≡ len = length-reverse (take len items) ∙ length-take-le len items h in
    sym (ap (λ rows. drop (length rows - len) rows) split ∙ ap (λ n. drop (length (reverse (drop len items) ++ reverse (take len items)) - n) (reverse (drop len items) ++ reverse (take len items))) (sym left) ∙ dropped (reverse (drop len items)) (reverse (take len items)))

pub linked_rest : (newer rows : List Entry) → IsTrue (are_linked (newer ++ rows)) → IsTrue (are_linked rows)
linked_rest [] rows h = h
linked_rest (e ∷ newer) rows h = linked_rest newer rows (right_of (is_linked (length (newer ++ rows)) e) _ h)

-- and what is left is linked
pub linked_front : (len : ℕ) (items : List Entry) → IsTrue (are_linked (reverse items)) → IsTrue (are_linked (reverse (take len items)))
linked_front len items h =
    let split : reverse items ≡ reverse (drop len items) ++ reverse (take len items) = ap reverse (sym (take-append-drop len items)) ∙ reverse-append (take len items) (drop len items) in
    linked_rest (reverse (drop len items)) _ (subst (λ rows. IsTrue (are_linked rows)) split h)
