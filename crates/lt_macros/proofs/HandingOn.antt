-- Where the body of a macro leads to by names alone, its uses lead.
use Rattle.std.proofs.Common.{◌≡◌, ◌<◌, ◌≤◌, ℕ, suc, ◌+◌, ◌-◌, Bool, true, false, nat_le, IsTrue, List, [], ◌∷◌, Option, None, Some, IfSome, length, slice_index_or, if◌then◌else◌, refl, ap, sym, ◌∙◌, subst, arith}
use Rattle.std.proofs.lemmas.Bool.{le-leb, leb-true}
use Rattle.std.specs.Borrow.{Bor}
use Rattle.lt_ast.specs.Syntax as s
use Rattle.lt_ast.specs.Syntax.{Macro}
use Rattle.lt_ast.specs.View.{macro as macro_view, meaning}
use Rattle.lt_ast.specs.declared.trace.MacroDecl.{MacroDecl, out-MacroDecl}
use Rattle.lt_macros.specs.Environment.{Environment, with_arguments}
use Rattle.lt_macros.specs.Placed.{meaningless}
use Rattle.lt_macros.specs.Denotation.{Denotation, expression, macro_denotation, meaning_denotation, parameter_names, standing_for}
use Rattle.lt_macros.specs.inner.Parameters.{parameters_view}
use Rattle.lt_macros.specs.inner.Handing.{HandsOn, IsRightMacro, covered, macro_parameters, newest_at, reached_denotation, reached_work}
use Rattle.lt_macros.specs.inner.HeadNormalForm.{AddsTo}
use Rattle.lt_macros.specs.inner.Leads.{IsReached, IsReachedBy, LeadsTo, parameters}
use Rattle.lt_macros.specs.inner.Phrase.{Phrase, meaning_phrase, phrase_denotation}
use Rattle.lt_macros.specs.inner.Reading.{Reading, are_linked, environment, meant_where, newest, terms_where, worked_where}
use Rattle.lt_macros.specs.inner.Work.{macro_work, meaning_work, phrase_work, used}
use Rattle.lt_macros.specs.declared.declaring.Led.{Led}
use Rattle.lt_macros.specs.declared.scope.Before.{Before}
use Rattle.lt_macros.specs.declared.scope.Before.TheVariants.{Terms, Chosen}
use Rattle.lt_macros.specs.declared.scope.Entry.{Entry}
use Rattle.lt_macros.specs.declared.scope.Handed.{Handed}
use Rattle.lt_macros.specs.declared.scope.Target.{Target}
use Rattle.lt_macros.specs.declared.scope.Target.TheVariants.{Own, Outer}
use Rattle.lt_macros.proofs.Adding.{IsBelow, adds_length, environment_chosen, environment_kept}
use Rattle.lt_macros.proofs.Leading.{around_same}
use Rattle.lt_macros.proofs.Parameters.{macro_parts}

-- the parameters from this one on as such arguments, and what was chosen for those before
abbrev chosen : {S : Type 0} → S → (ℕ → S) → ℕ → List S → ℕ → S
chosen d f base args i = if nat_le base i then slice_index_or args (i - base) d else f i

late : (b : Bool) (base i : ℕ) → base ≤ i → nat_le base i ≡ b → b ≡ true
late true base i h e = refl
late false base i h e = sym e ∙ le-leb base i h

early : (b : Bool) (base i : ℕ) → i < base → nat_le base i ≡ b → b ≡ false
early true base i h e = absurd (omega (arith, h, leb-true base i e))
early false base i h e = refl

chosen_late : {S : Type 0} (d : S) (f : ℕ → S) (base : ℕ) (args : List S) (place : ℕ) → chosen d f base args (base + place) ≡ slice_index_or args place d
chosen_late d f base args place =
    ap (λ b. if b then slice_index_or args (base + place - base) d else f (base + place)) (late _ base (base + place) (omega arith) refl) ∙ ap (λ k. slice_index_or args k d) (omega arith)

chosen_early : {S : Type 0} (d : S) (f : ℕ → S) (base : ℕ) (args : List S) (i : ℕ) → i < base → f i ≡ chosen d f base args i
chosen_early d f base args i h = sym (ap (λ b. if b then slice_index_or args (i - base) d else f i) (early _ base i h refl))

-- so they are the arguments
chosen_all : {S : Type 0} (d : S) (g : ℕ → S) (i : ℕ) (ps : List (List ℕ)) (args : List S) → length args ≡ length ps → ((k : ℕ) → g (i + k) ≡ slice_index_or args k d) → parameters g i ps ≡ args
chosen_all d g i [] [] n h = refl
chosen_all d g i [] (a ∷ more) n h = absurd (omega (arith, n))
chosen_all d g i (p ∷ ps) [] n h = absurd (omega (arith, n))
chosen_all d g i (p ∷ ps) (a ∷ more) n h =
    let rest : parameters g (suc i) ps ≡ more = chosen_all d g (suc i) ps more (omega (arith, n)) (λ k. ap g (omega arith) ∙ h (suc k)) in
    let first : g i ≡ a = ap g (omega arith) ∙ h 0 in
    λ j. first j ∷ rest j

same_terms : (count : ℕ) (g h : ℕ → ℕ) → ((j : ℕ) → j < count → g j ≡ h j) → (b : Before) → IsBelow count b → terms_where g b ≡ terms_where h b
same_terms count g h same (Terms n) below = refl
same_terms count g h same (Chosen j) below = same j below

-- a macro's environment, with such arguments
bound_denotation : (d : ℕ) (f : ℕ → Denotation) (g : ℕ → ℕ) (old mid : List Entry) (outer inner : ℕ) (ps : List (List ℕ)) (args : List Denotation) → IsTrue (are_linked old) → length args ≡ length ps
    → ((r : Reading Denotation) → environment r mid inner ≡ with_arguments ps (parameters r.parameter (length old) ps) (environment r old outer))
    → with_arguments ps args (environment (meant_where d f g) old outer) ≡ environment (meant_where d (chosen (expression meaningless) f (length old) args) g) mid inner
bound_denotation d f g old mid outer inner ps args l n bound =
    let f' : ℕ → Denotation = chosen (expression meaningless) f (length old) args in
    let all : parameters f' (length old) ps ≡ args = chosen_all (expression meaningless) f' (length old) ps args n (chosen_late (expression meaningless) f (length old) args) in
    let same : environment (meant_where d f g) old outer ≡ environment (meant_where d f' g) old outer =
    environment_chosen (meant_where d f g) f' (terms_where g) old (chosen_early (expression meaningless) f (length old) args) (λ b h. refl) l outer in
    (λ i. with_arguments ps (sym all i) (same i)) ∙ sym (bound (meant_where d f' g))

bound_work : (f : ℕ → ℕ) (old mid : List Entry) (outer inner : ℕ) (ps : List (List ℕ)) (args : List ℕ) → IsTrue (are_linked old) → length args ≡ length ps
    → ((r : Reading ℕ) → environment r mid inner ≡ with_arguments ps (parameters r.parameter (length old) ps) (environment r old outer))
    → with_arguments ps args (environment (worked_where f) old outer) ≡ environment (worked_where (chosen 1 f (length old) args)) mid inner
bound_work f old mid outer inner ps args l n bound =
    let f' : ℕ → ℕ = chosen 1 f (length old) args in
    let all : parameters f' (length old) ps ≡ args = chosen_all 1 f' (length old) ps args n (chosen_late 1 f (length old) args) in
    let same : environment (worked_where f) old outer ≡ environment (worked_where f') old outer =
    environment_chosen (worked_where f) f' (λ before. 0) old (chosen_early 1 f (length old) args) (λ b h. refl) l outer in
    (λ i. with_arguments ps (sym all i) (same i)) ∙ sym (bound (worked_where f'))

-- and an older one
older_denotation : (d : ℕ) (f : ℕ → Denotation) (g h : ℕ → ℕ) (old new : List Entry) (k : ℕ) (args : List Denotation) → IsTrue (are_linked old) → AddsTo old new → k ≤ length old → ((j : ℕ) → j < length old → g j ≡ h j)
    → environment (meant_where d (chosen (expression meaningless) f (length old) args) h) new k ≡ environment (meant_where d f g) old k
older_denotation d f g h old new k args l a below same =
    environment_kept (meant_where d (chosen (expression meaningless) f (length old) args) h) old new k a below
    ∙ sym (environment_chosen (meant_where d f g) (chosen (expression meaningless) f (length old) args) (terms_where h) old (chosen_early (expression meaningless) f (length old) args) (same_terms (length old) g h same) l k)

older_work : (f : ℕ → ℕ) (old new : List Entry) (k : ℕ) (args : List ℕ) → IsTrue (are_linked old) → AddsTo old new → k ≤ length old → environment (worked_where (chosen 1 f (length old) args)) new k ≡ environment (worked_where f) old k
older_work f old new k args l a below =
    environment_kept (worked_where (chosen 1 f (length old) args)) old new k a below
    ∙ sym (environment_chosen (worked_where f) (chosen 1 f (length old) args) (λ before. 0) old (chosen_early 1 f (length old) args) (λ b h. refl) l k)

-- what is known where a macro is looked at without arguments
pub record Looked (old mid led : List Entry) (outer inner : ℕ) (m : Macro) (body : Phrase) (x : Led) : Type 0 where
  pub linked : IsTrue (are_linked old)
  pub before : AddsTo old mid
  pub adds : AddsTo old led
  pub denotation : (r : Reading Denotation) → environment r mid inner ≡ with_arguments (macro_parameters m) (parameters r.parameter (length old) (macro_parameters m)) (environment r old outer)
  pub work : (r : Reading ℕ) → environment r mid inner ≡ with_arguments (macro_parameters m) (parameters r.parameter (length old) (macro_parameters m)) (environment r old outer)
  pub opens : (env : Environment Denotation) (args : List Denotation) → macro_denotation env m args ≡ phrase_denotation (with_arguments (macro_parameters m) args env) body
  pub does : (env : Environment ℕ) (args : List ℕ) → macro_work env m args ≡ phrase_work (with_arguments (macro_parameters m) args env) body
  pub leads : LeadsTo mid led inner body x

pub hands_on : (old mid led : List Entry) (outer inner : ℕ) (m : Macro) (body : Phrase) (x : Led) (count : ℕ) (t : Target) → Looked old mid led outer inner m body x → count ≡ length (macro_parameters m)
    → IsReached led (length old) count x t → HandsOn old outer m (record { parameters = count; target = t })
hands_on old mid led outer inner m body x count (Own place c) look all reached =
    record {
      count = all;
      place = reached.0;
      denotation = λ d f g args n.
          look.opens (environment (meant_where d f g) old outer) args
          ∙ ap (λ env. phrase_denotation env body) (bound_denotation d f g old mid outer inner (macro_parameters m) args look.linked (n ∙ all) look.denotation)
          ∙ look.leads.denotation d (chosen (expression meaningless) f (length old) args) g args
          ∙ around_same x.cover (length old) (length mid) (length led) g (λ h. standing_for x.at (newest_at (meant_where d (chosen (expression meaningless) f (length old) args) h) led x.environment) args) (slice_index_or args place (expression meaningless))
          look.leads.between (adds_length old mid look.before)
          (λ h same. ap (λ o. standing_for x.at o args) (reached.2 d (chosen (expression meaningless) f (length old) args) h) ∙ chosen_late (expression meaningless) f (length old) args place)
          ∙ ap (λ b. covered b (slice_index_or args place (expression meaningless))) (sym reached.1);
      work = λ f args n.
          omega (
            arith,
            look.does (environment (worked_where f) old outer) args,
            ap (λ env. phrase_work env body) (bound_work f old mid outer inner (macro_parameters m) args look.linked (n ∙ all) look.work),
            look.leads.work (chosen 1 f (length old) args) args,
            ap (λ o. used o args) (reached.3 (chosen 1 f (length old) args)),
            chosen_late 1 f (length old) args place,
          );
    }
hands_on old mid led outer inner m body x count (Outer y) look all reached =
    record {
      count = all;
      place = tt;
      denotation = λ d f g args n.
          look.opens (environment (meant_where d f g) old outer) args
          ∙ ap (λ env. phrase_denotation env body) (bound_denotation d f g old mid outer inner (macro_parameters m) args look.linked (n ∙ all) look.denotation)
          ∙ look.leads.denotation d (chosen (expression meaningless) f (length old) args) g args
          ∙ around_same x.cover (length old) (length mid) (length led) g (λ h. standing_for x.at (newest_at (meant_where d (chosen (expression meaningless) f (length old) args) h) led x.environment) args) (standing_for x.at (newest_at (meant_where d f g) old x.environment) args)
          look.leads.between (adds_length old mid look.before)
          (λ h same. ap (λ env. standing_for x.at (newest env.names) args) (older_denotation d f g h old led x.environment args look.linked look.adds reached.1 same))
          ∙ ap (λ z. reached_denotation (meant_where d f g) old z args) (sym reached.0);
      work = λ f args n.
          omega (
            arith,
            look.does (environment (worked_where f) old outer) args,
            ap (λ env. phrase_work env body) (bound_work f old mid outer inner (macro_parameters m) args look.linked (n ∙ all) look.work),
            look.leads.work (chosen 1 f (length old) args) args,
            ap (λ env. used (newest env.names) args) (older_work f old led x.environment args look.linked look.adds reached.1),
            ap (λ z. reached_work (worked_where f) old z args) (sym reached.0),
          );
    }

-- what a macro stands for, as a phrase
meaning_read : (env : Environment Denotation) (m : s.Meaning) → meaning_denotation env m ≡ phrase_denotation env (meaning_phrase m)
meaning_read env (s.trace_meaning t) = refl
meaning_read env (s.value_meaning e) = refl

meaning_worked : (env : Environment ℕ) (m : s.Meaning) → meaning_work env m ≡ phrase_work env (meaning_phrase m)
meaning_worked env (s.trace_meaning t) = refl
meaning_worked env (s.value_meaning e) = refl

-- the parameters of a macro as the code has it
pub parameters_seen : (d : MacroDecl) → macro_parameters (macro_view d) ≡ parameter_names (parameters_view (out-MacroDecl d).params)
parameters_seen d = ap macro_parameters (macro_parts d)

pub macro_opens : (d : MacroDecl) (env : Environment Denotation) (args : List Denotation) → macro_denotation env (macro_view d) args ≡ phrase_denotation (with_arguments (macro_parameters (macro_view d)) args env) (meaning_phrase (meaning (out-MacroDecl d).body))
macro_opens d env args =
    ap (λ m. macro_denotation env m args) (macro_parts d)
    ∙ ap (λ ps. meaning_denotation (with_arguments ps args env) (meaning (out-MacroDecl d).body)) (sym (parameters_seen d))
    ∙ meaning_read (with_arguments (macro_parameters (macro_view d)) args env) (meaning (out-MacroDecl d).body)

pub macro_does : (d : MacroDecl) (env : Environment ℕ) (args : List ℕ) → macro_work env (macro_view d) args ≡ phrase_work (with_arguments (macro_parameters (macro_view d)) args env) (meaning_phrase (meaning (out-MacroDecl d).body))
macro_does d env args =
    ap (λ m. macro_work env m args) (macro_parts d)
    ∙ ap (λ ps. meaning_work (with_arguments ps args env) (meaning (out-MacroDecl d).body)) (sym (parameters_seen d))
    ∙ meaning_worked (with_arguments (macro_parameters (macro_view d)) args env) (meaning (out-MacroDecl d).body)

-- so the macro's entry is right
pub declared_right : (old mid led : List Entry) (outer inner : ℕ) (x : Option Led) (declared : Bor MacroDecl) (body : Phrase) (ps : List (List ℕ)) (start count : ℕ) (h : Option Handed)
    → IsTrue (are_linked old) → AddsTo old mid → AddsTo mid led → AddsTo old led
    → ps ≡ parameter_names (parameters_view (out-MacroDecl declared.now).params) → body ≡ meaning_phrase (meaning (out-MacroDecl declared.now).body) → start ≡ length old → count ≡ length ps
    → ((r : Reading Denotation) → environment r mid inner ≡ with_arguments ps (parameters r.parameter (length old) ps) (environment r old outer))
    → ((r : Reading ℕ) → environment r mid inner ≡ with_arguments ps (parameters r.parameter (length old) ps) (environment r old outer))
    → IfSome x (LeadsTo mid led inner body) → IfSome h (IsReachedBy led start count x) → IsRightMacro old outer (macro_view declared.now) h
declared_right old mid led outer inner x declared body ps start count None l before after a ps_is body_is start_is count_is denotation work leads reached = tt
declared_right old mid led outer inner None declared body ps start count (Some h) l before after a ps_is body_is start_is count_is denotation work leads reached = absurd reached
declared_right old mid led outer inner (Some x) declared body ps start count (Some h) l before after a ps_is body_is start_is count_is denotation work leads reached =
    let seen : ps ≡ macro_parameters (macro_view declared.now) = ps_is ∙ sym (parameters_seen declared.now) in
    let all : h.parameters ≡ length (macro_parameters (macro_view declared.now)) = reached.0 ∙ count_is ∙ ap length seen in
    let P : List (List ℕ) → Type 0 = λ ps. (r : Reading Denotation) → environment r mid inner ≡ with_arguments ps (parameters r.parameter (length old) ps) (environment r old outer) in
    let Q : List (List ℕ) → Type 0 = λ ps. (r : Reading ℕ) → environment r mid inner ≡ with_arguments ps (parameters r.parameter (length old) ps) (environment r old outer) in
    let look : Looked old mid led outer inner (macro_view declared.now) (meaning_phrase (meaning (out-MacroDecl declared.now).body)) x =
    record {
      linked = l;
      before = before;
      adds = a;
      denotation = subst P seen denotation;
      work = subst Q seen work;
      opens = macro_opens declared.now;
      does = macro_does declared.now;
      leads = subst (λ p. LeadsTo mid led inner p x) body_is leads;
    } in
    hands_on old mid led outer inner (macro_view declared.now) (meaning_phrase (meaning (out-MacroDecl declared.now).body)) x h.parameters h.target look all
    (subst (λ n. IsReached led n h.parameters x h.target) start_is (subst (λ n. IsReached led start n x h.target) (sym reached.0) reached.1))
