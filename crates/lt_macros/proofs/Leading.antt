-- Where phrases lead by names alone, also through `exception .. in`.
use Rattle.std.proofs.Common.{◌≡◌, ◌<◌, ◌≤◌, ℕ, Bool, true, false, nat_eq, IsTrue, List, Option, None, Some, length, map, if◌then◌else◌, refl, ap, sym, ◌∙◌, subst, arith}
use Rattle.std.proofs.lemmas.Bool.{eq-eqb, eqb-true}
use Rattle.std.proofs.lemmas.List.{length-map}
use Rattle.lt_ast.specs.Syntax as s
use Rattle.lt_ast.specs.Syntax.{Argument, Macro, Trace, Word}
use Rattle.lt_ast.specs.declared.span.Span.{Span}
use Rattle.lt_formula.specs.declared.role.Role.{Role}
use Rattle.lt_macros.specs.Environment.{Environment, with_exceptions}
use Rattle.lt_macros.specs.Denotation.{Denotation, trace, as_trace, argument_denotation, standing_for, trace_denotation}
use Rattle.lt_macros.specs.inner.Handing.{IsHandedOn, IsUsed, covered, newest_at}
use Rattle.lt_macros.specs.inner.HeadNormalForm.{AddsTo}
use Rattle.lt_macros.specs.inner.Inside.{IsInside}
use Rattle.lt_macros.specs.inner.Leads.{IsBetween, LeadsOn, LeadsTo, around, chosen_at, cover_index, cover_with, is_around, is_plain, with_macro}
use Rattle.lt_macros.specs.inner.Phrase as pure
use Rattle.lt_macros.specs.inner.Phrase.{Phrase, argument_phrase, phrase_denotation}
use Rattle.lt_macros.specs.inner.Reading.{IsNewest, Reading, added, are_linked, environment, meant_where, newest, terms_where, worked_where}
use Rattle.lt_macros.specs.inner.Size.{argument_size, phrase_size}
use Rattle.lt_macros.specs.inner.Uses.{IsUse}
use Rattle.lt_macros.specs.inner.Work.{argument_work, phrase_work, used}
use Rattle.lt_macros.specs.declared.scope.Before.{Before}
use Rattle.lt_macros.specs.declared.scope.Before.TheVariants.{Terms, Chosen}
use Rattle.lt_macros.specs.declared.scope.Entry.{Entry}
use Rattle.lt_macros.specs.declared.scope.Binding.{Binding as CodeBinding}
use Rattle.lt_macros.specs.declared.scope.Binding.TheVariants.{Variable, Argument as Argued, Parameter, Macro as CodeMacro, Exception}
use Rattle.lt_macros.specs.declared.scope.Reached.{Reached}
use Rattle.lt_macros.proofs.Adding.{IsBelow, adds_length, environment_chosen}

-- WHAT IS CHOSEN

pub chosen_here : (i terms : ℕ) (g : ℕ → ℕ) → chosen_at i terms g i ≡ terms
chosen_here i terms g = ap (λ b. if b then terms else g i) (eq-eqb i i refl)

not_here : (i j : ℕ) (b : Bool) → nat_eq j i ≡ b → j < i → b ≡ false
not_here i j true is h = absurd (omega (arith, h, eqb-true j i is))
not_here i j false is h = refl

pub chosen_there : (i terms : ℕ) (g : ℕ → ℕ) (j : ℕ) → j < i → chosen_at i terms g j ≡ g j
chosen_there i terms g j h = ap (λ b. if b then terms else g j) (not_here i j (nat_eq j i) refl h)

-- where nothing was chosen yet, other choices change nothing
fresh_terms : (i m count : ℕ) (g : ℕ → ℕ) (b : Before) → count ≤ i → IsBelow count b → terms_where g b ≡ terms_where (chosen_at i m g) b
fresh_terms i m count g (Terms n) h below = refl
fresh_terms i m count g (Chosen j) h below = sym (chosen_there i m g j (omega (arith, h, below)))

pub environment_fresh : (d : ℕ) (f : ℕ → Denotation) (g : ℕ → ℕ) (rows : List Entry) (i m k : ℕ) → length rows ≤ i → IsTrue (are_linked rows) → environment (meant_where d f (chosen_at i m g)) rows k ≡ environment (meant_where d f g) rows k
environment_fresh d f g rows i m k h l = sym (environment_chosen (meant_where d f g) f (terms_where (chosen_at i m g)) rows (λ j below. refl) (λ b below. fresh_terms i m (length rows) g b h below) l k)

-- WHAT STANDS AROUND

pub around_eq : (cover : Option ℕ) (g : ℕ → ℕ) (x y : (ℕ → ℕ) → Denotation) → ((h : ℕ → ℕ) → x h ≡ y h) → around cover g x ≡ around cover g y
around_eq None g x y e = e g
around_eq (Some i) g x y e = λ j. trace (λ n. as_trace (e (chosen_at i n.term g) j) n)

-- what is covered once more
pub around_covered : (c : Bool) (cover : Option ℕ) (count : ℕ) (g : ℕ → ℕ) (x : (ℕ → ℕ) → Denotation) → ((m : ℕ) → x (chosen_at count m g) ≡ x g) → around cover g (λ h. covered c (x h)) ≡ around (cover_with cover c count) g x
around_covered true None count g x fresh = λ j. trace (λ n. as_trace (sym (fresh n.term) j) n)
around_covered false None count g x fresh = refl
around_covered true (Some i) count g x fresh = refl
around_covered false (Some i) count g x fresh = refl

-- where exceptions are declared around it
pub around_exceptions : (cover : Option ℕ) (count : ℕ) (g : ℕ → ℕ) (ws : List Word) (t : Trace) (env inner : (ℕ → ℕ) → Environment Denotation)
    → ((h : ℕ → ℕ) → inner h ≡ with_exceptions (h (cover_index cover count)) ws (env h)) → ((m : ℕ) → env (chosen_at count m g) ≡ env g)
    → around cover g (λ h. trace_denotation (env h) (s.exceptions ws t)) ≡ around (Some (cover_index cover count)) g (λ h. trace_denotation (inner h) t)
around_exceptions None count g ws t env inner is fresh =
    let e : (m : ℕ) → inner (chosen_at count m g) ≡ with_exceptions m ws (env g) = λ m. is (chosen_at count m g) ∙ (λ j. with_exceptions (chosen_here count m g j) ws (fresh m j)) in
    sym (λ j. trace (λ n. as_trace (trace_denotation (e n.term j) t) n))
around_exceptions (Some i) count g ws t env inner is fresh =
    let e : (m : ℕ) → inner (chosen_at i m g) ≡ with_exceptions m ws (env (chosen_at i m g)) = λ m. is (chosen_at i m g) ∙ ap (λ terms. with_exceptions terms ws (env (chosen_at i m g))) (chosen_here i m g) in
    sym (λ j. trace (λ n. as_trace (trace_denotation (e n.term j) t) n))

-- what is the same for all choices that may be
pub around_same : (cover : Option ℕ) (base least most : ℕ) (g : ℕ → ℕ) (x : (ℕ → ℕ) → Denotation) (y : Denotation) → IsBetween least most cover → base ≤ least → ((h : ℕ → ℕ) → ((j : ℕ) → j < base → g j ≡ h j) → x h ≡ y)
    → around cover g x ≡ covered (is_around cover) y
around_same None base least most g x y between below is = is g (λ j h. refl)
around_same (Some i) base least most g x y between below is =
    λ j. trace (λ n. as_trace (is (chosen_at i n.term g) (λ k h. sym (chosen_there i n.term g k (omega (arith, h, below, between.0)))) j) n)

between_more : (cover : Option ℕ) (least most more : ℕ) → most ≤ more → IsBetween least most cover → IsBetween least more cover
between_more None least most more h b = tt
between_more (Some i) least most more h b = (b.0, omega (arith, b.1, h))

between_with : (cover : Option ℕ) (c : Bool) (least most count : ℕ) → least ≤ count → count ≤ most → IsBetween least most cover → IsBetween least most (cover_with cover c count)
between_with None true least most count h k b = (h, k)
between_with None false least most count h k b = tt
between_with (Some i) c least most count h k b = b

between_index : (cover : Option ℕ) (least most count : ℕ) → least ≤ count → count ≤ most → IsBetween least most cover → IsBetween least most (Some (cover_index cover count))
between_index None least most count h k b = (h, k)
between_index (Some i) least most count h k b = b

-- STEPS

pub leads_none : (old : List Entry) (k : ℕ) (p : Phrase) → LeadsOn old old k p k p None
leads_none old k p = record { denotation = λ d f g. refl; work = λ f. omega arith; size = omega arith; between = tt }

-- to what is inside a cover
pub leads_cover : (old now : List Entry) (k0 : ℕ) (p0 : Phrase) (k : ℕ) (p q : Phrase) (cover : Option ℕ) → LeadsOn old now k0 p0 k p cover → IsInside p q → LeadsOn old now k0 p0 k q cover
leads_cover old now k0 p0 k p q cover l in_p =
    record {
      denotation = λ d f g. l.denotation d f g ∙ around_eq cover g _ _ (λ h. in_p.denotation (environment (meant_where d f h) now k));
      work = λ f. omega (arith, l.work f, in_p.work (environment (worked_where f) now k));
      size = omega (arith, l.size, in_p.size);
      between = l.between;
    }

-- to what stands behind the declaration of a macro
pub leads_let : (old now new : List Entry) (k0 : ℕ) (p0 : Phrase) (k next : ℕ) (p : Phrase) (m : Macro) (t : Trace) (cover : Option ℕ) → LeadsOn old now k0 p0 k p cover → p ≡ pure.trace (s.define m t)
    → ((r : Reading Denotation) → environment r new next ≡ with_macro r m (environment r now k)) → ((r : Reading ℕ) → environment r new next ≡ with_macro r m (environment r now k)) → AddsTo now new
    → LeadsOn old new k0 p0 next (pure.trace t) cover
leads_let old now new k0 p0 k next p m t cover l is denotation work a =
    record {
      denotation = λ d f g. l.denotation d f g ∙ around_eq cover g _ _ (λ h. ap (phrase_denotation (environment (meant_where d f h) now k)) is ∙ ap (λ env. trace_denotation env t) (sym (denotation (meant_where d f h))));
      work = λ f. omega (arith, l.work f, ap (phrase_work (environment (worked_where f) now k)) is, ap (λ env. phrase_work env (pure.trace t)) (work (worked_where f)));
      size = omega (arith, l.size, ap phrase_size is);
      between = between_more cover (length old) (length now) (length new) (adds_length now new a) l.between;
    }

-- to what stands behind the declaration of exceptions
pub leads_exceptions : (old now new : List Entry) (k0 : ℕ) (p0 : Phrase) (k next : ℕ) (p : Phrase) (ws : List Word) (t : Trace) (cover : Option ℕ) (index : ℕ)
    → LeadsOn old now k0 p0 k p cover → p ≡ pure.trace (s.exceptions ws t) → index ≡ cover_index cover (length now)
    → ((r : Reading Denotation) → environment r new next ≡ with_exceptions (r.terms_before (Chosen index)) ws (environment r now k)) → ((r : Reading ℕ) → environment r new next ≡ with_exceptions (r.terms_before (Chosen index)) ws (environment r now k))
    → IsTrue (are_linked now) → AddsTo old now → AddsTo now new → LeadsOn old new k0 p0 next (pure.trace t) (Some index)
leads_exceptions old now new k0 p0 k next p ws t cover index l is at denotation work linked before a =
    record {
      denotation = λ d f g.
          l.denotation d f g
          ∙ around_eq cover g _ _ (λ h. ap (phrase_denotation (environment (meant_where d f h) now k)) is)
          ∙ around_exceptions cover (length now) g ws t (λ h. environment (meant_where d f h) now k) (λ h. environment (meant_where d f h) new next)
          (λ h. denotation (meant_where d f h) ∙ ap (λ i. with_exceptions (h i) ws (environment (meant_where d f h) now k)) at)
          (λ m. environment_fresh d f g now (length now) m k (omega arith) linked)
          ∙ ap (λ i. around (Some i) g (λ h. trace_denotation (environment (meant_where d f h) new next) t)) (sym at);
      work = λ f. omega (arith, l.work f, ap (phrase_work (environment (worked_where f) now k)) is, ap (λ env. phrase_work env (pure.trace t)) (work (worked_where f)));
      size = omega (arith, l.size, ap phrase_size is);
      between = subst (λ i. IsBetween (length old) (length new) (Some i)) (sym at) (between_more (Some (cover_index cover (length now))) (length old) (length now) (length new) (adds_length now new a) (between_index cover (length old) (length now) (length now) (adds_length old now before) (omega arith) l.between));
    }

-- an argument as a phrase
pub argument_read : (env : Environment Denotation) (a : Argument) → argument_denotation env a ≡ phrase_denotation env (argument_phrase a)
argument_read env (s.value_argument e) = refl
argument_read env (s.trace_argument b at) = refl

pub argument_worked : (env : Environment ℕ) (a : Argument) → argument_work env a ≡ phrase_work env (argument_phrase a)
argument_worked env (s.value_argument e) = refl
argument_worked env (s.trace_argument b at) = refl

argument_sized : (a : Argument) → argument_size a ≡ phrase_size (argument_phrase a)
argument_sized (s.value_argument e) = refl
argument_sized (s.trace_argument b at) = refl

-- to the argument of a macro's use
pub leads_use : (old now : List Entry) (k0 : ℕ) (p0 : Phrase) (k : ℕ) (p q : Phrase) (cover named next : Option ℕ) (w : Word) (args : List Argument) (count : ℕ) (x : Reached) (e : Entry) (arg : Argument) (c : Bool)
    → LeadsOn old now k0 p0 k p cover → IsUse p w args → length args ≡ count → IsUsed now k w count x → named ≡ cover_with cover x.covered (length now)
    → ((r : Reading Denotation) → IsNewest r now x.environment (Some e)) → ((r : Reading ℕ) → IsNewest r now x.environment (Some e)) → IsHandedOn now e args arg c → next ≡ cover_with named c (length now)
    → q ≡ argument_phrase arg → IsTrue (are_linked now) → AddsTo old now → LeadsOn old now k0 p0 k q next
leads_use old now k0 p0 k p q cover named next w args count x e arg c l use_p n is named_is denotation work handed next_is q_is linked before =
    let read : (env : Environment Denotation) → argument_denotation env arg ≡ phrase_denotation env q = λ env. argument_read env arg ∙ ap (phrase_denotation env) (sym q_is) in
    let worked : (env : Environment ℕ) → argument_work env arg ≡ phrase_work env q = λ env. argument_worked env arg ∙ ap (phrase_work env) (sym q_is) in
    let sized : argument_size arg ≡ phrase_size q = argument_sized arg ∙ ap phrase_size (sym q_is) in
    record {
      denotation = λ d f g.
          let env : (ℕ → ℕ) → Environment Denotation = λ h. environment (meant_where d f h) now k in
          let denotations : (ℕ → ℕ) → List Denotation = λ h. map (λ a. argument_denotation (env h) a) args in
          l.denotation d f g
          ∙ around_eq cover g _ _ (λ h.
          use_p.denotation (env h)
          ∙ is.denotation d f h (denotations h) (length-map args (λ a. argument_denotation (env h) a) ∙ n)
          ∙ ap (λ o. covered x.covered (standing_for x.at o (denotations h))) (denotation (meant_where d f h))
          ∙ ap (covered x.covered) (handed.denotation d f h (env h) x.at))
          ∙ around_covered x.covered cover (length now) g (λ h. covered c (argument_denotation (env h) arg)) (λ m. ap (λ env. covered c (argument_denotation env arg)) (environment_fresh d f g now (length now) m k (omega arith) linked))
          ∙ ap (λ o. around o g (λ h. covered c (argument_denotation (env h) arg))) (sym named_is)
          ∙ around_covered c named (length now) g (λ h. argument_denotation (env h) arg) (λ m. ap (λ env. argument_denotation env arg) (environment_fresh d f g now (length now) m k (omega arith) linked))
          ∙ ap (λ o. around o g (λ h. argument_denotation (env h) arg)) (sym next_is)
          ∙ around_eq next g _ _ (λ h. read (env h));
      work = λ f.
          let env = environment (worked_where f) now k in
          let works = map (λ a. argument_work env a) args in
          omega (
            arith,
            l.work f,
            use_p.work env,
            is.work f works (length-map args (λ a. argument_work env a) ∙ n),
            ap (λ o. used o works) (work (worked_where f)),
            handed.work f env,
            worked env,
          );
      size = omega (arith, l.size, use_p.size, handed.size, sized);
      between =
          subst (λ o. IsBetween (length old) (length now) o) (sym next_is)
          (between_with named c (length old) (length now) (length now) (adds_length old now before) (omega arith)
          (subst (λ o. IsBetween (length old) (length now) o) (sym named_is) (between_with cover x.covered (length old) (length now) (length now) (adds_length old now before) (omega arith) l.between)));
    }

-- which is less
pub use_smaller : (rows : List Entry) (p q : Phrase) (w : Word) (args : List Argument) (e : Entry) (arg : Argument) (c : Bool) → IsUse p w args → IsHandedOn rows e args arg c → q ≡ argument_phrase arg → phrase_size q < phrase_size p
use_smaller rows p q w args e arg c use_p handed q_is = omega (arith, use_p.size, handed.size, argument_sized arg, ap phrase_size q_is)

-- arguments of what is no macro don't matter
plain_any : (r : Reading Denotation) (at : Span) (envs : ℕ → Environment Denotation) (name : List ℕ) (outer : ℕ) (x : CodeBinding) (ss ts : List Denotation) → ((role : Role) (i : ℕ) → standing_for at (Some (r.variable role i)) ss ≡ standing_for at (Some (r.variable role i)) ts) → is_plain x ≡ true
    → standing_for at (newest (added r envs name outer x).names) ss ≡ standing_for at (newest (added r envs name outer x).names) ts
plain_any r at envs name outer (Variable role place) ss ts same h = same role place
plain_any r at envs name outer (Argued p k) ss ts same h = refl
plain_any r at envs name outer (Parameter i) ss ts same h = refl
plain_any r at envs name outer (CodeMacro m x) ss ts same h = absurd (cc)
plain_any r at envs name outer (Exception place before) ss ts same h = absurd (cc)

plain_work : (r : Reading ℕ) (envs : ℕ → Environment ℕ) (name : List ℕ) (outer : ℕ) (x : CodeBinding) (ss ts : List ℕ) → ((role : Role) (i : ℕ) → used (Some (r.variable role i)) ss ≡ used (Some (r.variable role i)) ts) → is_plain x ≡ true
    → used (newest (added r envs name outer x).names) ss ≡ used (newest (added r envs name outer x).names) ts
plain_work r envs name outer (Variable role place) ss ts same h = same role place
plain_work r envs name outer (Argued p k) ss ts same h = refl
plain_work r envs name outer (Parameter i) ss ts same h = refl
plain_work r envs name outer (CodeMacro m x) ss ts same h = absurd (cc)
plain_work r envs name outer (Exception place before) ss ts same h = absurd (cc)

-- to a name that is no macro
pub leads_to_name : (old now : List Entry) (k0 : ℕ) (p0 : Phrase) (k : ℕ) (p : Phrase) (cover named : Option ℕ) (w : Word) (args : List Argument) (count : ℕ) (x : Reached) (e : Entry)
    → LeadsOn old now k0 p0 k p cover → IsUse p w args → length args ≡ count → IsUsed now k w count x → named ≡ cover_with cover x.covered (length now)
    → ((r : Reading Denotation) → IsNewest r now x.environment (Some e)) → ((r : Reading ℕ) → IsNewest r now x.environment (Some e)) → is_plain e.binding ≡ true → IsTrue (are_linked now) → AddsTo old now
    → LeadsTo old now k0 p0 (record { environment = x.environment; at = x.at; cover = named })
leads_to_name old now k0 p0 k p cover named w args count x e l use_p n is named_is denotation work plain linked before =
    record {
      within = is.within;
      denotation = λ d f g others.
          let env : (ℕ → ℕ) → Environment Denotation = λ h. environment (meant_where d f h) now k in
          let denotations : (ℕ → ℕ) → List Denotation = λ h. map (λ a. argument_denotation (env h) a) args in
          let same : (h : ℕ → ℕ) → standing_for x.at (newest_at (meant_where d f h) now x.environment) (denotations h) ≡ standing_for x.at (newest_at (meant_where d f h) now x.environment) others =
          λ h.
          ap (λ o. standing_for x.at o (denotations h)) (denotation (meant_where d f h))
          ∙ plain_any (meant_where d f h) x.at (environment (meant_where d f h) now) e.name.now e.outer e.binding (denotations h) others (λ role i. refl) plain
          ∙ sym (ap (λ o. standing_for x.at o others) (denotation (meant_where d f h))) in
          l.denotation d f g
          ∙ around_eq cover g _ _ (λ h.
          use_p.denotation (env h)
          ∙ is.denotation d f h (denotations h) (length-map args (λ a. argument_denotation (env h) a) ∙ n)
          ∙ ap (covered x.covered) (same h))
          ∙ around_covered x.covered cover (length now) g (λ h. standing_for x.at (newest_at (meant_where d f h) now x.environment) others)
          (λ m. ap (λ env. standing_for x.at (newest env.names) others) (environment_fresh d f g now (length now) m x.environment (omega arith) linked))
          ∙ ap (λ o. around o g (λ h. standing_for x.at (newest_at (meant_where d f h) now x.environment) others)) (sym named_is);
      work = λ f others.
          let env = environment (worked_where f) now k in
          let works = map (λ a. argument_work env a) args in
          omega (
            arith,
            l.work f,
            use_p.work env,
            is.work f works (length-map args (λ a. argument_work env a) ∙ n),
            ap (λ o. used o works) (work (worked_where f)),
            plain_work (worked_where f) (environment (worked_where f) now) e.name.now e.outer e.binding works others (λ role i. refl) plain,
            ap (λ o. used o others) (work (worked_where f)),
          );
      between = subst (λ o. IsBetween (length old) (length now) o) (sym named_is) (between_with cover x.covered (length old) (length now) (length now) (adds_length old now before) (omega arith) l.between);
    }
