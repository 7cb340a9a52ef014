-- Entries that are added, and environments that stay.
use Rattle.std.proofs.Common.{◌≡◌, ℕ, suc, ◌-◌, ◌<◌, ◌≤◌, nat_le, IsTrue, List, [], ◌∷◌, ◌++◌, length, get_or, take, drop, reverse, if◌then◌else◌, None, Some, refl, ap, sym, ◌∙◌, subst, arith, length-append, append_assoc}
use Rattle.std.proofs.lemmas.List.{length-reverse, take-append-drop}
use Rattle.lt_ast.specs.Syntax.{Macro as MacroText}
use Rattle.lt_ast.specs.View.{macro as macro_view}
use Rattle.lt_macros.specs.Environment.{parameter, macro, with_exception, with_name}
use Rattle.lt_macros.specs.Denotation.{Denotation, macro_denotation, standing_for}
use Rattle.lt_macros.specs.inner.Handing.{AreRight, HandsOn, IsRight, IsRightBinding, covered, target_denotation, target_work}
use Rattle.lt_macros.specs.inner.HeadNormalForm.{AddsTo}
use Rattle.lt_macros.specs.inner.Reading.{Reading, added, environment, are_linked, is_linked, is_older, is_written, meant_where, newest, phrase_view, worked_where}
use Rattle.lt_macros.specs.inner.Work.{macro_work, used}
use Rattle.lt_macros.specs.declared.scope.Entry.{Entry}
use Rattle.lt_macros.specs.declared.scope.Binding.{Binding as CodeBinding}
use Rattle.lt_macros.specs.declared.scope.Binding.TheVariants.{Variable, Argument, Parameter, Macro, Exception}
use Rattle.lt_macros.specs.declared.scope.Before.{Before}
use Rattle.lt_macros.specs.declared.scope.Before.TheVariants.{Terms, Chosen}
use Rattle.lt_macros.specs.declared.scope.Handed.{Handed}
use Rattle.lt_macros.specs.declared.scope.Target.{Target}
use Rattle.lt_macros.specs.declared.scope.Target.TheVariants.{Own, Outer}
use Rattle.lt_macros.proofs.Environments.{dropped, binding_of, environment-older, le_true, left_of, linked_rest, outer_of, reverse_split, right_of}

-- more entries leave the environments that are there
environment-added : {S : Type 0} (r : Reading S) (newer rows : List Entry) (k : ℕ) → k ≤ length rows → environment r (newer ++ rows) k ≡ environment r rows k
environment-added r [] rows k h = refl
environment-added r (e ∷ newer) rows k h = environment-older r e (newer ++ rows) k (omega (arith, h, length-append newer rows)) ∙ environment-added r newer rows k h

pub environment_kept : {S : Type 0} (r : Reading S) (old new : List Entry) (k : ℕ) → AddsTo old new → k ≤ length old → environment r new k ≡ environment r old k
environment_kept r old new k a h = ap (λ rows. environment r rows k) a.is ∙ environment-added r a.newer old k h

pub adds_none : (rows : List Entry) → AddsTo rows rows
adds_none rows = record { newer = []; is = refl }

pub adds_one : (e : Entry) (old new : List Entry) → AddsTo old new → AddsTo old (e ∷ new)
adds_one e old new a = record { newer = e ∷ a.newer; is = ap (λ rows. e ∷ rows) a.is }

pub adds_both : (old mid new : List Entry) → AddsTo old mid → AddsTo mid new → AddsTo old new
adds_both old mid new a b = record { newer = b.newer ++ a.newer; is = b.is ∙ ap (λ rows. b.newer ++ rows) a.is ∙ sym (append_assoc b.newer a.newer old) }

pub adds_length : (old new : List Entry) → AddsTo old new → length old ≤ length new
adds_length old new a = omega (arith, ap length a.is, length-append a.newer old)

-- entries that are taken back are added to what is left
pub adds_dropped : (count : ℕ) (rows : List Entry) → AddsTo (drop count rows) rows
adds_dropped count rows = record { newer = take count rows; is = sym (take-append-drop count rows) }

-- what was added is taken back
pub all_back : (old new cut : List Entry) (len : ℕ) → cut ≡ drop (length new - len) new → len ≡ length old → AddsTo old new → cut ≡ old
all_back old new cut len is n a = is ∙ ap (λ k. drop (length new - k) new) n ∙ ap (λ rows. drop (length rows - length old) rows) a.is ∙ dropped a.newer old

-- RIGHT ENTRIES

right_rest : (newer rows : List Entry) → AreRight (newer ++ rows) → AreRight rows
right_rest [] rows h = h
right_rest (e ∷ newer) rows h = right_rest newer rows h.1

-- what is left is right
pub right_before : (old new : List Entry) → AddsTo old new → AreRight new → AreRight old
right_before old new a h = right_rest a.newer old (subst AreRight a.is h)

target_kept : (r : Reading Denotation) (old new : List Entry) (t : Target) (denotations : List Denotation) → AddsTo old new → IsTrue (is_older (length old) t) → target_denotation r new t denotations ≡ target_denotation r old t denotations
target_kept r old new (Own place c) denotations a w = refl
target_kept r old new (Outer x) denotations a w = ap (λ env. covered x.covered (standing_for x.at (newest env.names) denotations)) (environment_kept r old new x.environment a (le_true _ _ w))

work_kept : (r : Reading ℕ) (old new : List Entry) (t : Target) (works : List ℕ) → AddsTo old new → IsTrue (is_older (length old) t) → target_work r new t works ≡ target_work r old t works
work_kept r old new (Own place c) works a w = refl
work_kept r old new (Outer x) works a w = ap (λ env. used (newest env.names) works) (environment_kept r old new x.environment a (le_true _ _ w))

-- what a macro's uses lead to stays
hands_kept : (old new : List Entry) (outer : ℕ) (m : MacroText) (h : Handed) → AddsTo old new → outer ≤ length old → IsTrue (is_older (length old) h.target) → HandsOn old outer m h → HandsOn new outer m h
hands_kept old new outer m h a o w is =
    record {
      count = is.count;
      place = is.place;
      denotation = λ d f g denotations count.
          ap (λ env. macro_denotation env m denotations) (environment_kept (meant_where d f g) old new outer a o) ∙ is.denotation d f g denotations count ∙ sym (target_kept (meant_where d f g) old new h.target denotations a w);
      work = λ f works count.
          omega (arith, ap (λ env. macro_work env m works) (environment_kept (worked_where f) old new outer a o), is.work f works count, work_kept (worked_where f) old new h.target works a w);
    }

right_kept : (old new : List Entry) (outer : ℕ) (x : CodeBinding) → AddsTo old new → outer ≤ length old → IsTrue (is_written (length old) x) → IsRightBinding old outer x → IsRightBinding new outer x
right_kept old new outer (Variable role place) a o w is = tt
right_kept old new outer (Argument p k) a o w is = tt
right_kept old new outer (Parameter i) a o w is = tt
right_kept old new outer (Macro m None) a o w is = tt
right_kept old new outer (Macro m (Some h)) a o w is = hands_kept old new outer _ h a o w is
right_kept old new outer (Exception place before) a o w is = tt

right_among : (newer : List Entry) (e : Entry) (older : List Entry) → IsTrue (are_linked (newer ++ e ∷ older)) → AreRight (newer ++ e ∷ older) → IsRight (newer ++ e ∷ older) e
right_among newer e older l h =
    let linked : IsTrue (is_linked (length older) e) = left_of (is_linked (length older) e) _ (linked_rest newer (e ∷ older) l) in
    let adds : AddsTo older (newer ++ e ∷ older) = record { newer = newer ++ e ∷ []; is = sym (append_assoc newer (e ∷ []) older) } in
    right_kept older (newer ++ e ∷ older) e.outer e.binding adds (outer_of (length older) e linked) (binding_of (length older) e linked) (right_rest newer (e ∷ older) h).0

-- an entry that is there is right
pub right_at : (items : List Entry) (number : ℕ) (e : Entry) → IsTrue (are_linked (reverse items)) → 0 < number → number ≤ length (reverse items) → e ≡ get_or items (number - 1) e → AreRight (reverse items) → IsRight (reverse items) e
right_at items number e l some h is right =
    let place = number - 1 in
    let turned = reverse_split items place e (omega (arith, length-reverse items)) is in
    let P : List Entry → Type 0 = λ rows. IsRight rows e in
    subst P (sym turned) (right_among (reverse (drop (suc place) items)) e (reverse (take place items)) (subst (λ rows. IsTrue (are_linked rows)) turned l) (subst AreRight turned right))

-- CHOICES

-- It is chosen behind fewer entries than so many, if it is.
abbrev pub IsBelow : ℕ → Before → Type 0
IsBelow count (Terms n) = Unit {0}
IsBelow count (Chosen i) = i < count

-- other choices change nothing where there are none of them
added-chosen : {S : Type 0} (r : Reading S) (f : ℕ → S) (t : Before → ℕ) (older : List Entry) (name : List ℕ) (outer : ℕ) (x : CodeBinding)
    → ((i : ℕ) → i ≤ length older → r.parameter i ≡ f i) → ((b : Before) → IsBelow (suc (length older)) b → r.terms_before b ≡ t b)
    → ((k : ℕ) → environment r older k ≡ environment (record r { parameter = f; terms_before = t }) older k) → IsTrue (is_written (length older) x)
    → added r (environment r older) name outer x ≡ added (record r { parameter = f; terms_before = t }) (environment (record r { parameter = f; terms_before = t }) older) name outer x
added-chosen r f t older name outer (Variable role place) same terms rest w = ap (with_name name (r.variable role place)) (rest outer)
added-chosen r f t older name outer (Argument p k) same terms rest w = λ i. with_name name (parameter (r.phrase (rest k i) (phrase_view p))) (rest outer i)
added-chosen r f t older name outer (Parameter j) same terms rest w = λ i. with_name name (parameter (same j (le_true _ _ w) i)) (rest outer i)
added-chosen r f t older name outer (Macro m h) same terms rest w = ap (λ env. with_name name (macro (r.macro_denotation env (macro_view m.now))) env) (rest outer)
added-chosen r f t older name outer (Exception place (Terms n)) same terms rest w = λ i. with_exception (terms (Terms n) tt i) place name (rest outer i)
added-chosen r f t older name outer (Exception place (Chosen j)) same terms rest w = λ i. with_exception (terms (Chosen j) (omega (arith, le_true _ _ w)) i) place name (rest outer i)

below_more : (count more : ℕ) (b : Before) → count ≤ more → IsBelow count b → IsBelow more b
below_more count more (Terms n) h w = tt
below_more count more (Chosen i) h w = omega (arith, h, w)

pub environment_chosen : {S : Type 0} (r : Reading S) (f : ℕ → S) (t : Before → ℕ) (rows : List Entry)
    → ((i : ℕ) → i < length rows → r.parameter i ≡ f i) → ((b : Before) → IsBelow (length rows) b → r.terms_before b ≡ t b) → IsTrue (are_linked rows)
    → (k : ℕ) → environment r rows k ≡ environment (record r { parameter = f; terms_before = t }) rows k
environment_chosen r f t [] same terms l k = refl
environment_chosen r f t (e ∷ older) same terms l k =
    let rest : (j : ℕ) → environment r older j ≡ environment (record r { parameter = f; terms_before = t }) older j =
    environment_chosen r f t older (λ i h. same i (omega (arith, h))) (λ b h. terms b (below_more _ _ b (omega arith) h)) (right_of (is_linked (length older) e) _ l) in
    let here = added-chosen r f t older e.name.now e.outer e.binding (λ i h. same i (omega (arith, h))) terms rest (binding_of _ e (left_of (is_linked (length older) e) _ l)) in
    λ i. if nat_le k (length older) then rest k i else here i
