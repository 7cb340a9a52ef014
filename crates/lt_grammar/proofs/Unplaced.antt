-- Tokens at other places spell the same.
use Rattle.std.proofs.Common.{◌≡◌, ℕ, suc, List, [], ◌∷◌, map, refl, sym, ◌∙◌, ap, subst, Bool, true, false, Option, Some, None}
use Rattle.lt_ast.specs.declared.sign.Sign.{Sign}
use Rattle.lt_ast.specs.declared.sign.Sign.TheVariants as t
use Rattle.lt_ast.specs.declared.span.Span.{Span}
use Rattle.lt_ast.specs.declared.group.TypeName.{TypeName}
use Rattle.lt_ast.specs.declared.group.TypeName.TheVariants as ty
use Rattle.lt_ast.specs.declared.expr.UnOp.TheVariants as u
use Rattle.lt_ast.specs.declared.expr.BinOp.{BinOp}
use Rattle.lt_ast.specs.declared.expr.BinOp.TheVariants as b
use Rattle.lt_ast.specs.Syntax as s
use Rattle.lt_ast.specs.Syntax.{Word, Figure, WrittenRange, Exp, Argument, Arguments, Limits, Braces, Alternative, Alternatives, Trace, Traces, Grouping, Groupings, MaybeExp, MaybeTrace, Parameters, Meaning, Macro, Run, Declaration}
use Rattle.lt_ast.specs.Tokens.{binary_sign, type_sign}
use Rattle.lt_grammar.specs.Lexemes.{Lexemes, lexeme, IsNotFirst}
use Rattle.lt_grammar.specs.Precedence.{Stands, under, left_least, side_least, right_least, IsNoOperator}
use Rattle.lt_ast.specs.Places.{across, span_of}
use Rattle.lt_grammar.specs.Grammar.{IsNoWeight, opened, Place, whole, item, Ends, DerivesNames, DerivesMoreNames, DerivesNumber, DerivesFigure, DerivesRange, DerivesStep, DerivesRef, DerivesExp, DerivesArgument, DerivesArguments, DerivesMoreArguments, DerivesBraced, DerivesChoice, DerivesUnweighted, DerivesMoreAlternatives, DerivesAlternative, DerivesTraces, DerivesMoreTraces, DerivesLimits, DerivesBound, DerivesGrouping, DerivesFirst, DerivesGroups, DerivesMoreGroups, DerivesParameters, DerivesMeaning, DerivesMacro, DerivesTrace, DerivesSequence, DerivesMoreItems, DerivesHandler, Means, HasAlternative, HasTrace, HasGroup, DerivesMoreExpressions, DerivesExpressions, DerivesRun, DerivesRuns, DerivesDeclaration, SpellsWithin}
use Rattle.lt_grammar.specs.Unplaced.{nowhere, unplaced_word, unplaced_words, unplaced_figure, unplaced_range, unplaced_step, unplaced_exp, unplaced_argument, unplaced_arguments, unplaced_limits, unplaced_braces, unplaced_alternative, unplaced_alternatives, unplaced_traces, unplaced_grouping, unplaced_groupings, unplaced_first, unplaced_handler, unplaced_parameters, unplaced_meaning, unplaced_macro, unplaced_trace, unplaced_run, unplaced_declaration, unplaced, AreAlike, SpelledElsewhere}

-- TOKENS

-- the word of the specs, as a record, so that a lemma finds the two lists by itself
record Alike (ts us : Lexemes) : Type 0 where
  are : AreAlike ts us

-- Tokens begin with this sign and these letters, and after it they are like m.
record Takes (sign : Sign) (w : List ℕ) (m us : Lexemes) : Type 0 where
  at : Span
  left : Lexemes
  is : us ≡ lexeme sign w at ∷ left
  like : Alike m left

-- Tokens begin with two such signs, and after them they are like m.
record TakesTwo (a : Sign) (w : List ℕ) (b : Sign) (v : List ℕ) (m us : Lexemes) : Type 0 where
  at : Span
  at' : Span
  left : Lexemes
  is : us ≡ lexeme a w at ∷ (lexeme b v at' ∷ left)
  like : Alike m left

-- Tokens begin with three such signs, and after them they are like m.
record TakesThree (a : Sign) (w : List ℕ) (b : Sign) (v : List ℕ) (c : Sign) (z : List ℕ) (m us : Lexemes) : Type 0 where
  at : Span
  at' : Span
  at'' : Span
  left : Lexemes
  is : us ≡ lexeme a w at ∷ (lexeme b v at' ∷ (lexeme c z at'' ∷ left))
  like : Alike m left

-- What is like tokens that begin with a sign begins with it too, by what the record says.
taken : (sign : Sign) (w : List ℕ) (p : Span) (m us : Lexemes) → AreAlike (lexeme sign w p ∷ m) us → Takes sign w m us
taken sign w p m [] h = absurd h
taken sign w p m (lexeme sign' w' p' ∷ us) h = record { at = p'; left = us; is = λ i. lexeme (sym h.0.0 i) (sym h.0.1 i) p' ∷ us; like = record { are = h.1 } }

-- What is like tokens that begin with a sign begins with it too.
take : {sign : Sign} {w : List ℕ} {p : Span} {m us : Lexemes} → Alike (lexeme sign w p ∷ m) us → Takes sign w m us
take {sign = sign} {w = w} {p = p} {m = m} {us = us} h = taken sign w p m us h.are

-- Tokens that are equal are like the same ones.
along : {ts rest us : Lexemes} → ts ≡ rest → Alike ts us → Alike rest us
along {us = us} e h = subst (λ (z : Lexemes). Alike z us) e h

-- What is like tokens that are equal to some with a sign first begins with that sign.
first : {sign : Sign} {w : List ℕ} {p : Span} {m ts us : Lexemes} → ts ≡ lexeme sign w p ∷ m → Alike ts us → Takes sign w m us
first e h = take (along e h)

-- What is like tokens that begin with two signs begins with both.
two : {a b : Sign} {w v : List ℕ} {p q : Span} {m ts us : Lexemes} → ts ≡ lexeme a w p ∷ (lexeme b v q ∷ m) → Alike ts us → TakesTwo a w b v m us
two {a = a} {w = w} e h =
    let k = first e h in
    let l = take k.like in
    record { at = k.at; at' = l.at; left = l.left; is = k.is ∙ (λ i. lexeme a w k.at ∷ l.is i); like = l.like }

-- What is like tokens that begin with three signs begins with all of them.
three : {a b c : Sign} {w v z : List ℕ} {p q r : Span} {m ts us : Lexemes} → ts ≡ lexeme a w p ∷ (lexeme b v q ∷ (lexeme c z r ∷ m)) → Alike ts us → TakesThree a w b v c z m us
three {a = a} {w = w} e h =
    let k = first e h in
    let l = two refl k.like in
    record { at = k.at; at' = l.at; at'' = l.at'; left = l.left; is = k.is ∙ (λ i. lexeme a w k.at ∷ l.is i); like = l.like }

-- Being alike holds both ways, by what the record says.
are_turned : (ts us : Lexemes) → AreAlike ts us → AreAlike us ts
are_turned [] [] h = tt
are_turned [] (u ∷ us) h = absurd h
are_turned (t ∷ ts) [] h = absurd h
are_turned (lexeme sign w p ∷ ts) (lexeme sign' w' p' ∷ us) h = ((sym h.0.0, sym h.0.1), are_turned ts us h.1)

-- Being alike holds both ways.
turned : {ts us : Lexemes} → Alike ts us → Alike us ts
turned {ts = ts} {us = us} h = record { are = are_turned ts us h.are }

-- What a tree wants of the tokens after it depends on their signs alone.
unfirst : (sign : Sign) {rest left : Lexemes} → Alike rest left → IsNotFirst sign rest → IsNotFirst sign left
unfirst sign h n = λ w p m e. let k = first e (turned h) in n w k.at k.left k.is

-- No operator follows: that depends on the signs.
no_operator : {rest left : Lexemes} → Alike rest left → IsNoOperator rest → IsNoOperator left
no_operator h n = λ op sign w p m e q. let k = first e (turned h) in n op sign w k.at k.left k.is q

-- A sequence reaches no further: that depends on the signs.
ends_again : (place : Place) {rest left : Lexemes} → Alike rest left → Ends place rest → Ends place left
ends_again whole h n = unfirst t.Fby h n
ends_again item h n = tt

-- TREES THAT ARE THE SAME BUT FOR THE PLACES

-- Such a tree derived, with tokens like the rest after it.
record Again (A : Type 0) (D : A → Lexemes → Type 0) (un : A → A) (x : A) (rest : Lexemes) : Type 0 where
  tree : A
  left : Lexemes
  derives : D tree left
  like : Alike rest left
  same : un tree ≡ un x

-- Where a sign follows the tree, it follows the other one too.
before : {A : Type 0} {D : A → Lexemes → Type 0} {un : A → A} {x : A} {sign : Sign} {w : List ℕ} {p : Span} {m : Lexemes}
    → Again A D un x (lexeme sign w p ∷ m) → (at : Span) × Again A (λ y left. D y (lexeme sign w at ∷ left)) un x m
before {D = D} r = let k = take r.like in (k.at, record { tree = r.tree; left = k.left; derives = subst (D r.tree) k.is r.derives; like = k.like; same = r.same })

-- this name at another place
abbrev word_at : Word → Span → Word
word_at n p = record { text = n.text; span = p }

-- a number by its parts
abbrev figure : Bool → List ℕ → Span → Figure
figure c text p = record { minus = c; text = text; span = p }

-- Taking the places out changes nothing in how tightly an expression binds, nor does putting them in.
stands_unplaced : (low : ℕ) (e : Exp) → Stands low e → Stands low (unplaced_exp e)
stands_unplaced low (s.choose e f g at) h = h
stands_unplaced low (s.binary op e f at) h = h
stands_unplaced low (s.unary op e at) h = h
stands_unplaced low e h = tt

stands_placed : (low : ℕ) (e : Exp) → Stands low (unplaced_exp e) → Stands low e
stands_placed low (s.choose e f g at) h = h
stands_placed low (s.binary op e f at) h = h
stands_placed low (s.unary op e at) h = h
stands_placed low e h = tt

-- How tightly an expression binds has nothing to do with places.
stands_again : (low : ℕ) (e e' : Exp) → unplaced_exp e' ≡ unplaced_exp e → Stands low e → Stands low e'
stands_again low e e' q h = stands_placed low e' (subst (Stands low) (sym q) (stands_unplaced low e h))

-- nor in what is wanted of a right side
side_unplaced : (e : Exp) → side_least (unplaced_exp e) ≡ side_least e
side_unplaced (s.unary u.Not e at) = refl
side_unplaced (s.unary u.Neg e at) = refl
side_unplaced e = refl

right_unplaced : (op : BinOp) (e : Exp) → right_least op (unplaced_exp e) ≡ right_least op e
right_unplaced b.Eq e = side_unplaced e
right_unplaced b.Ne e = side_unplaced e
right_unplaced b.Lt e = side_unplaced e
right_unplaced b.Le e = side_unplaced e
right_unplaced b.Gt e = side_unplaced e
right_unplaced b.Ge e = side_unplaced e
right_unplaced op e = refl

-- A right side binds as tightly as is wanted of it.
right_again : (op : BinOp) (e e' : Exp) → unplaced_exp e' ≡ unplaced_exp e → Stands (right_least op e) e → Stands (right_least op e') e'
right_again op e e' q h =
    let same : right_least op e ≡ right_least op e' = sym (right_unplaced op e) ∙ ap (right_least op) (sym q) ∙ right_unplaced op e' in
    subst (λ (n : ℕ). Stands n e') same (stands_again (right_least op e) e e' q h)

-- one alternative or more
alternative_again : (ps qs : Alternatives) → unplaced_alternatives qs ≡ unplaced_alternatives ps → HasAlternative ps → HasAlternative qs
alternative_again s.no_alternatives qs q h = absurd h
alternative_again (s.alternative p ps) s.no_alternatives q h = cc
alternative_again (s.alternative p ps) (s.alternative p' qs) q h = tt

-- one trace or more
has_trace_again : (xs ys : Traces) → unplaced_traces ys ≡ unplaced_traces xs → HasTrace xs → HasTrace ys
has_trace_again s.no_traces ys q h = absurd h
has_trace_again (s.one_trace x xs) s.no_traces q h = cc
has_trace_again (s.one_trace x xs) (s.one_trace y ys) q h = tt

-- one group or more
has_group_again : (gs hs : Groupings) → unplaced_groupings hs ≡ unplaced_groupings gs → HasGroup gs → HasGroup hs
has_group_again s.no_groups hs q h = absurd h
has_group_again (s.one_group g gs) s.no_groups q h = cc
has_group_again (s.one_group g gs) (s.one_group g' hs) q h = tt

-- a macro's type fits what it stands for
means_again : (kind : TypeName) (x y : Meaning) → unplaced_meaning y ≡ unplaced_meaning x → Means kind x → Means kind y
means_again ty.Trace (s.trace_meaning x) (s.trace_meaning y) q h = tt
means_again ty.Trace (s.trace_meaning x) (s.value_meaning e) q h = cc
means_again ty.Trace (s.value_meaning e) y q h = absurd h
means_again kind (s.trace_meaning x) y q h = absurd h
means_again kind (s.value_meaning e) (s.trace_meaning y) q h = cc
means_again kind (s.value_meaning e) (s.value_meaning f) q h = tt

-- Taking the places out changes nothing in whether a weight may stand there; nor does putting them in, before like tokens.
weight_unplaced : (x : Trace) (rest : Lexemes) → IsNoWeight x rest → IsNoWeight (unplaced_trace x) rest
weight_unplaced (s.value e) rest h = h
weight_unplaced x rest h = tt

weight_placed : (x : Trace) {rest left : Lexemes} → Alike rest left → IsNoWeight (unplaced_trace x) rest → IsNoWeight x left
weight_placed (s.value e) k h = unfirst t.Colon k h
weight_placed x k h = tt

-- no weight of an alternative
no_weight_again : (x y : Trace) {rest left : Lexemes} → Alike rest left → unplaced_trace y ≡ unplaced_trace x → IsNoWeight x rest → IsNoWeight y left
no_weight_again x y {rest = rest} k q h = weight_placed y k (subst (λ (z : Trace). IsNoWeight z rest) (sym q) (weight_unplaced x rest h))

-- NAMES, NUMBERS, RANGES

-- the names after a first one
more_names_again : (ns : List Word) {ts us : Lexemes} (rest : Lexemes) → Alike ts us → DerivesMoreNames ts ns rest → Again (List Word) (DerivesMoreNames us) unplaced_words ns rest
more_names_again [] {us = us} rest h x = let k = along x.0 h in record { tree = []; left = us; derives = (refl, unfirst t.Comma k x.1); like = k; same = refl }
more_names_again (n ∷ ns) rest h x =
    let k = two x.3 h in
    let r = more_names_again ns rest k.like x.4 in
    record { tree = word_at n k.at' ∷ r.tree; left = r.left; derives = (x.0, k.at, k.left, k.is, r.derives); like = r.like; same = λ i. unplaced_word n ∷ r.same i }

-- one name or more
names_again : (ns : List Word) {ts us : Lexemes} (rest : Lexemes) → Alike ts us → DerivesNames ts ns rest → Again (List Word) (DerivesNames us) unplaced_words ns rest
names_again [] rest h x = absurd x
names_again (n ∷ ns) rest h x =
    let k = first x.1 h in
    let r = more_names_again ns rest k.like x.2 in
    record { tree = word_at n k.at ∷ r.tree; left = r.left; derives = (k.left, k.is, r.derives); like = r.like; same = λ i. unplaced_word n ∷ r.same i }

-- a number by its parts
number_again : (c : Bool) (text : List ℕ) (at : Span) {ts us : Lexemes} (rest : Lexemes) → Alike ts us → DerivesNumber ts c text at rest → Again Figure (DerivesFigure us) unplaced_figure (figure c text at) rest
number_again false text at rest h x = let k = first x h in record { tree = figure false text k.at; left = k.left; derives = k.is; like = k.like; same = refl }
number_again true text at rest h x =
    let k = two x.3 h in
    record { tree = figure true text (across k.at k.at'); left = k.left; derives = (x.0, k.at, k.at', k.is, refl); like = k.like; same = refl }

-- a number
figure_again : (f : Figure) {ts us : Lexemes} (rest : Lexemes) → Alike ts us → DerivesFigure ts f rest → Again Figure (DerivesFigure us) unplaced_figure f rest
figure_again f rest h x = number_again f.minus f.text f.span rest h x

-- a step, where it is there
step_again : (f : Option Figure) {ts us : Lexemes} (rest : Lexemes) → Alike ts us → DerivesStep ts f rest → Again (Option Figure) (DerivesStep us) unplaced_step f rest
step_again None {us = us} rest h x = let k = along x.0 h in record { tree = None; left = us; derives = (refl, unfirst t.Semicolon k x.1); like = k; same = refl }
step_again (Some f) rest h x =
    let k = first x.3 h in
    let l = figure_again f rest k.like x.4 in
    record { tree = Some l.tree; left = l.left; derives = (x.0, k.at, k.left, k.is, l.derives); like = l.like; same = λ i. Some (l.same i) }

-- a range, where it is there
range_again : (r : Option WrittenRange) {ts us : Lexemes} (rest : Lexemes) → Alike ts us → DerivesRange ts r rest → Again (Option WrittenRange) (DerivesRange us) unplaced_range r rest
range_again None {us = us} rest h x = let k = along x.0 h in record { tree = None; left = us; derives = (refl, unfirst t.OpenBracket k x.1); like = k; same = refl }
range_again (Some r) rest h x =
    let k = first x.3 h in
    let l = before (figure_again r.low (lexeme t.Semicolon x.4 x.5 ∷ x.6) k.like x.7) in
    let m = figure_again r.high x.8 l.1.like x.9 in
    let n = before (step_again r.step (lexeme t.CloseBracket x.10 x.11 ∷ rest) m.like x.12) in
    record {
      tree = Some (record { low = l.1.tree; high = m.tree; step = n.1.tree });
      left = n.1.left;
      derives = (x.0, k.at, k.left, k.is, x.4, l.0, l.1.left, l.1.derives, m.left, m.derives, x.10, n.0, n.1.derives);
      like = n.1.like;
      same = λ i. Some (record { low = l.1.same i; high = m.same i; step = n.1.same i });
    }

-- `ref`, where it is there
ref_again : (c : Bool) {ts us : Lexemes} (rest : Lexemes) → Alike ts us → DerivesRef ts c rest → Again Bool (DerivesRef us) (λ c'. c') c rest
ref_again false {us = us} rest h x = let k = along x.0 h in record { tree = false; left = us; derives = (refl, unfirst t.Ref k x.1); like = k; same = refl }
ref_again true rest h x = let k = first x.2 h in record { tree = true; left = k.left; derives = (x.0, k.at, k.is); like = k.like; same = refl }

-- EXPRESSIONS AND TRACES

-- The relations that end at a closing brace, wherever that stands.
abbrev SomeBraced : ℕ → ℕ → Lexemes → Braces → Lexemes → Type 0
SomeBraced most d us y left = (q : Span) × DerivesBraced most d us y q left

abbrev SomeChoice : ℕ → ℕ → Lexemes → Alternatives → Lexemes → Type 0
SomeChoice most d us ps left = (q : Span) × DerivesChoice most d us ps q left

abbrev SomeAlternatives : ℕ → ℕ → Lexemes → Alternatives → Lexemes → Type 0
SomeAlternatives most d us ps left = (q : Span) × DerivesMoreAlternatives most d us ps q left

abbrev SomeTraces : ℕ → ℕ → Sign → Lexemes → Traces → Lexemes → Type 0
SomeTraces most d sign us ys left = (q : Span) × DerivesTraces most d sign us ys q left

abbrev SomeMoreTraces : ℕ → ℕ → Sign → Lexemes → Traces → Lexemes → Type 0
SomeMoreTraces most d sign us ys left = (q : Span) × DerivesMoreTraces most d sign us ys q left

mutual
  -- an expression
  exp_again : (e : Exp) (most d : ℕ) {ts us : Lexemes} (rest : Lexemes) → Alike ts us → DerivesExp most d ts e rest → Again Exp (DerivesExp most d us) unplaced_exp e rest
  exp_again (s.number f) most d rest h x = let k = first x.1 h in record { tree = s.number (figure f.minus f.text k.at); left = k.left; derives = (x.0, k.is); like = k.like; same = refl }
  exp_again (s.flag c at) most d rest h x = let k = first x.1 h in record { tree = s.flag c k.at; left = k.left; derives = (x.0, k.is); like = k.like; same = refl }
  exp_again (s.named n) most d rest h x = let k = first x.0 h in record { tree = s.named (word_at n k.at); left = k.left; derives = (k.is, unfirst t.Open k.like x.1); like = k.like; same = refl }
  exp_again (s.called n args) most d rest h x =
      let k = two x.3 h in
      let r = arguments_again args most (suc d) rest k.like x.5 in
      record { tree = s.called (word_at n k.at) r.tree; left = r.left; derives = (x.0, k.at', k.left, k.is, x.4, r.derives); like = r.like; same = λ i. s.called (unplaced_word n) (r.same i) }
  exp_again (s.pre n at) most d rest h x =
      let k = two x.2 h in
      record { tree = s.pre (word_at n k.at') (across k.at k.at'); left = k.left; derives = (x.0, k.at, k.is, refl); like = k.like; same = refl }
  exp_again (s.paren e at) most d rest h x =
      let k = first x.3 h in
      let r = before (exp_again e most (suc d) (lexeme t.Close x.5 x.6 ∷ rest) k.like x.7) in
      record {
        tree = s.paren r.1.tree (across k.at r.0);
        left = r.1.left;
        derives = (x.0, k.at, k.left, k.is, x.4, x.5, r.0, r.1.derives, refl);
        like = r.1.like;
        same = λ i. s.paren (r.1.same i) nowhere;
      }
  exp_again (s.unary op e at) most d rest h x =
      let k = first x.3 h in
      let r = exp_again e most (suc d) rest k.like x.6 in
      record {
        tree = s.unary op r.tree (across k.at (span_of r.tree));
        left = r.left;
        derives = (x.0, k.at, k.left, k.is, x.4, stands_again (under op) e r.tree r.same x.5, r.derives, refl);
        like = r.like;
        same = λ i. s.unary op (r.same i) nowhere;
      }
  exp_again (s.binary op e f at) most d rest h x =
      let l = before (exp_again e most d (lexeme (binary_sign op) x.3 x.4 ∷ x.5) h x.6) in
      let r = exp_again f most (opened op d) rest l.1.like x.7 in
      record {
        tree = s.binary op l.1.tree r.tree (across (span_of l.1.tree) (span_of r.tree));
        left = r.left;
        derives = (stands_again (left_least op) e l.1.tree l.1.same x.0, right_again op f r.tree r.same x.1, x.2, x.3, l.0, l.1.left, l.1.derives, r.derives, refl);
        like = r.like;
        same = λ i. s.binary op (l.1.same i) (r.same i) nowhere;
      }
  exp_again (s.choose e f g at) most d rest h x =
      let k = first x.3 h in
      let l = before (exp_again e most (suc d) (lexeme t.Then x.5 x.6 ∷ x.7) k.like x.8) in
      let m = before (exp_again f most (suc d) (lexeme t.Else x.9 x.10 ∷ x.11) l.1.like x.12) in
      let r = exp_again g most (suc d) rest m.1.like x.13 in
      record {
        tree = s.choose l.1.tree m.1.tree r.tree (across k.at (span_of r.tree));
        left = r.left;
        derives = (x.0, k.at, k.left, k.is, x.4, x.5, l.0, l.1.left, l.1.derives, x.9, m.0, m.1.left, m.1.derives, r.derives, refl);
        like = r.like;
        same = λ i. s.choose (l.1.same i) (m.1.same i) (r.same i) nowhere;
      }

  -- an argument
  argument_again : (a : Argument) (most d : ℕ) {ts us : Lexemes} (rest : Lexemes) → Alike ts us → DerivesArgument most d ts a rest → Again Argument (DerivesArgument most d us) unplaced_argument a rest
  argument_again (s.value_argument e) most d rest h x =
      let r = exp_again e most d rest h x in
      record { tree = s.value_argument r.tree; left = r.left; derives = r.derives; like = r.like; same = λ i. s.value_argument (r.same i) }
  argument_again (s.trace_argument y at) most d rest h x =
      let k = first x.3 h in
      let r = braced_again y most (suc d) x.5 rest k.like x.6 in
      record {
        tree = s.trace_argument r.tree (across k.at r.derives.0);
        left = r.left;
        derives = (x.0, k.at, k.left, k.is, x.4, r.derives.0, r.derives.1, refl);
        like = r.like;
        same = λ i. s.trace_argument (r.same i) nowhere;
      }

  -- arguments and the `)` after them
  arguments_again : (as' : Arguments) (most d : ℕ) {ts us : Lexemes} (rest : Lexemes) → Alike ts us → DerivesArguments most d ts as' rest → Again Arguments (DerivesArguments most d us) unplaced_arguments as' rest
  arguments_again s.no_arguments most d rest h x = let k = first x.2 h in record { tree = s.no_arguments; left = k.left; derives = (x.0, k.at, k.is); like = k.like; same = refl }
  arguments_again (s.argument a more) most d rest h x =
      let l = argument_again a most d x.0 h x.1 in
      let r = more_arguments_again more most d rest l.like x.2 in
      record { tree = s.argument l.tree r.tree; left = r.left; derives = (l.left, l.derives, r.derives); like = r.like; same = λ i. s.argument (l.same i) (r.same i) }

  -- the arguments after a first one
  more_arguments_again : (as' : Arguments) (most d : ℕ) {ts us : Lexemes} (rest : Lexemes) → Alike ts us → DerivesMoreArguments most d ts as' rest → Again Arguments (DerivesMoreArguments most d us) unplaced_arguments as' rest
  more_arguments_again s.no_arguments most d rest h x = let k = first x.2 h in record { tree = s.no_arguments; left = k.left; derives = (x.0, k.at, k.is); like = k.like; same = refl }
  more_arguments_again (s.argument a more) most d rest h x =
      let k = first x.3 h in
      let l = argument_again a most d x.4 k.like x.5 in
      let r = more_arguments_again more most d rest l.like x.6 in
      record { tree = s.argument l.tree r.tree; left = r.left; derives = (x.0, k.at, k.left, k.is, l.left, l.derives, r.derives); like = r.like; same = λ i. s.argument (l.same i) (r.same i) }

  -- what stands in braces, and the `}`
  braced_again : (y : Braces) (most d : ℕ) {ts us : Lexemes} (q : Span) (rest : Lexemes) → Alike ts us → DerivesBraced most d ts y q rest → Again Braces (SomeBraced most d us) unplaced_braces y rest
  braced_again (s.plain y) most d q rest h x =
      let r = before (trace_again y most d whole (lexeme t.CloseBrace x.0 q ∷ rest) h x.1) in
      record { tree = s.plain r.1.tree; left = r.1.left; derives = (r.0, (x.0, r.1.derives)); like = r.1.like; same = λ i. s.plain (r.1.same i) }
  braced_again (s.choice true ps) most d q rest h x =
      let r = more_alternatives_again ps most d q rest h x.1 in
      record { tree = s.choice true r.tree; left = r.left; derives = (r.derives.0, (alternative_again ps r.tree r.same x.0, r.derives.1)); like = r.like; same = λ i. s.choice true (r.same i) }
  braced_again (s.choice false ps) most d q rest h x =
      let r = choice_again ps most d q rest h x in
      record { tree = s.choice false r.tree; left = r.left; derives = r.derives; like = r.like; same = λ i. s.choice false (r.same i) }
  braced_again (s.priority true ys) most d q rest h x =
      let r = more_traces_again ys most d t.Priority q rest h x.1 in
      record { tree = s.priority true r.tree; left = r.left; derives = (r.derives.0, (has_trace_again ys r.tree r.same x.0, r.derives.1)); like = r.like; same = λ i. s.priority true (r.same i) }
  braced_again (s.priority false ys) most d q rest h x =
      let r = traces_again ys most d t.Priority q rest h x in
      record { tree = s.priority false r.tree; left = r.left; derives = r.derives; like = r.like; same = λ i. s.priority false (r.same i) }
  braced_again (s.parallel true ys) most d q rest h x =
      let r = more_traces_again ys most d t.Parallel q rest h x.1 in
      record { tree = s.parallel true r.tree; left = r.left; derives = (r.derives.0, (has_trace_again ys r.tree r.same x.0, r.derives.1)); like = r.like; same = λ i. s.parallel true (r.same i) }
  braced_again (s.parallel false ys) most d q rest h x =
      let r = traces_again ys most d t.Parallel q rest h x in
      record { tree = s.parallel false r.tree; left = r.left; derives = r.derives; like = r.like; same = λ i. s.parallel false (r.same i) }

  -- a choice that no `|` leads
  choice_again : (ps : Alternatives) (most d : ℕ) {ts us : Lexemes} (q : Span) (rest : Lexemes) → Alike ts us → DerivesChoice most d ts ps q rest → Again Alternatives (SomeChoice most d us) unplaced_alternatives ps rest
  choice_again s.no_alternatives most d q rest h x = absurd x
  choice_again (s.alternative p more) most d q rest h x =
      let l = unweighted_again p most d x.0 h x.1 in
      let r = more_alternatives_again more most d q rest l.like x.3 in
      record {
        tree = s.alternative l.tree r.tree;
        left = r.left;
        derives = (r.derives.0, (l.left, l.derives, alternative_again more r.tree r.same x.2, r.derives.1));
        like = r.like;
        same = λ i. s.alternative (l.same i) (r.same i);
      }

  -- an alternative without a weight
  unweighted_again : (p : Alternative) (most d : ℕ) {ts us : Lexemes} (rest : Lexemes) → Alike ts us → DerivesUnweighted most d ts p rest → Again Alternative (DerivesUnweighted most d us) unplaced_alternative p rest
  unweighted_again (s.unweighted y) most d rest h x =
      let r = trace_again y most d whole rest h x in
      record { tree = s.unweighted r.tree; left = r.left; derives = r.derives; like = r.like; same = λ i. s.unweighted (r.same i) }
  unweighted_again (s.weighted e y) most d rest h x = absurd x

  -- alternatives, each after a `|`
  more_alternatives_again : (ps : Alternatives) (most d : ℕ) {ts us : Lexemes} (q : Span) (rest : Lexemes) → Alike ts us → DerivesMoreAlternatives most d ts ps q rest → Again Alternatives (SomeAlternatives most d us) unplaced_alternatives ps rest
  more_alternatives_again s.no_alternatives most d q rest h x = let k = first x.1 h in record { tree = s.no_alternatives; left = k.left; derives = (k.at, (x.0, k.is)); like = k.like; same = refl }
  more_alternatives_again (s.alternative p more) most d q rest h x =
      let k = first x.3 h in
      let l = weighted_again p most d x.4 k.like x.5 in
      let r = more_alternatives_again more most d q rest l.like x.6 in
      record {
        tree = s.alternative l.tree r.tree;
        left = r.left;
        derives = (r.derives.0, (x.0, k.at, k.left, k.is, l.left, l.derives, r.derives.1));
        like = r.like;
        same = λ i. s.alternative (l.same i) (r.same i);
      }

  -- an alternative, with a weight or without one
  weighted_again : (p : Alternative) (most d : ℕ) {ts us : Lexemes} (rest : Lexemes) → Alike ts us → DerivesAlternative most d ts p rest → Again Alternative (DerivesAlternative most d us) unplaced_alternative p rest
  weighted_again (s.unweighted y) most d rest h x =
      let r = trace_again y most d whole rest h x.0 in
      record { tree = s.unweighted r.tree; left = r.left; derives = (r.derives, no_weight_again y r.tree r.like r.same x.1); like = r.like; same = λ i. s.unweighted (r.same i) }
  weighted_again (s.weighted e y) most d rest h x =
      let l = before (exp_again e most d (lexeme t.Colon x.0 x.1 ∷ x.2) h x.3) in
      let r = trace_again y most d whole rest l.1.like x.4 in
      record { tree = s.weighted l.1.tree r.tree; left = r.left; derives = (x.0, l.0, l.1.left, l.1.derives, r.derives); like = r.like; same = λ i. s.weighted (l.1.same i) (r.same i) }

  -- two traces or more with a sign between them
  traces_again : (ys : Traces) (most d : ℕ) (sign : Sign) {ts us : Lexemes} (q : Span) (rest : Lexemes) → Alike ts us → DerivesTraces most d sign ts ys q rest → Again Traces (SomeTraces most d sign us) unplaced_traces ys rest
  traces_again s.no_traces most d sign q rest h x = absurd x
  traces_again (s.one_trace y more) most d sign q rest h x =
      let l = trace_again y most d whole x.0 h x.1 in
      let r = more_traces_again more most d sign q rest l.like x.3 in
      record {
        tree = s.one_trace l.tree r.tree;
        left = r.left;
        derives = (r.derives.0, (l.left, l.derives, has_trace_again more r.tree r.same x.2, r.derives.1));
        like = r.like;
        same = λ i. s.one_trace (l.same i) (r.same i);
      }

  -- traces, each after the sign
  more_traces_again : (ys : Traces) (most d : ℕ) (sign : Sign) {ts us : Lexemes} (q : Span) (rest : Lexemes) → Alike ts us → DerivesMoreTraces most d sign ts ys q rest → Again Traces (SomeMoreTraces most d sign us) unplaced_traces ys rest
  more_traces_again s.no_traces most d sign q rest h x = let k = first x.1 h in record { tree = s.no_traces; left = k.left; derives = (k.at, (x.0, k.is)); like = k.like; same = refl }
  more_traces_again (s.one_trace y more) most d sign q rest h x =
      let k = first x.3 h in
      let l = trace_again y most d whole x.4 k.like x.5 in
      let r = more_traces_again more most d sign q rest l.like x.6 in
      record {
        tree = s.one_trace l.tree r.tree;
        left = r.left;
        derives = (r.derives.0, (x.0, k.at, k.left, k.is, l.left, l.derives, r.derives.1));
        like = r.like;
        same = λ i. s.one_trace (l.same i) (r.same i);
      }

  -- the bounds of a loop
  limits_again : (l : Limits) (most d : ℕ) {ts us : Lexemes} (rest : Lexemes) → Alike ts us → DerivesLimits most d ts l rest → Again Limits (DerivesLimits most d us) unplaced_limits l rest
  limits_again s.forever most d {us = us} rest h x =
      let k = along x.0 h in
      record { tree = s.forever; left = us; derives = (refl, unfirst t.OpenBracket k x.1, unfirst t.Tilde k x.2); like = k; same = refl }
  limits_again (s.between e f) most d rest h x =
      let k = first x.3 h in
      let l = before (exp_again e most d (lexeme t.Comma x.4 x.5 ∷ x.6) k.like x.7) in
      let r = before (exp_again f most d (lexeme t.CloseBracket x.8 x.9 ∷ rest) l.1.like x.10) in
      record {
        tree = s.between l.1.tree r.1.tree;
        left = r.1.left;
        derives = (x.0, k.at, k.left, k.is, x.4, l.0, l.1.left, l.1.derives, x.8, r.0, r.1.derives);
        like = r.1.like;
        same = λ i. s.between (l.1.same i) (r.1.same i);
      }
  limits_again (s.around e f) most d rest h x =
      let k = first x.3 h in
      let l = before (bound_again e most d (lexeme t.Colon x.4 x.5 ∷ x.6) k.like x.7) in
      let r = bound_again f most d rest l.1.like x.8 in
      record {
        tree = s.around l.1.tree r.tree;
        left = r.left;
        derives = (x.0, k.at, k.left, k.is, x.4, l.0, l.1.left, l.1.derives, r.derives);
        like = r.like;
        same = λ i. s.around (l.1.same i) (r.same i);
      }

  -- a bound of `~`
  bound_again : (e : Exp) (most d : ℕ) {ts us : Lexemes} (rest : Lexemes) → Alike ts us → DerivesBound most d ts e rest → Again Exp (DerivesBound most d us) unplaced_exp e rest
  bound_again (s.number f) most d rest h x = let k = first x.1 h in record { tree = s.number (figure f.minus f.text k.at); left = k.left; derives = (x.0, k.is); like = k.like; same = refl }
  bound_again (s.named n) most d rest h x = let k = first x h in record { tree = s.named (word_at n k.at); left = k.left; derives = k.is; like = k.like; same = refl }
  bound_again (s.paren e at) most d rest h x =
      let k = first x.3 h in
      let r = before (exp_again e most (suc d) (lexeme t.Close x.5 x.6 ∷ rest) k.like x.7) in
      record {
        tree = s.paren r.1.tree (across k.at r.0);
        left = r.1.left;
        derives = (x.0, k.at, k.left, k.is, x.4, x.5, r.0, r.1.derives, refl);
        like = r.1.like;
        same = λ i. s.paren (r.1.same i) nowhere;
      }
  bound_again e most d rest h x = absurd x

  -- names of a type
  grouping_again : (g : Grouping) (most d : ℕ) {ts us : Lexemes} (rest : Lexemes) → Alike ts us → DerivesGrouping most d ts g rest → Again Grouping (DerivesGrouping most d us) unplaced_grouping g rest
  grouping_again (s.grouping ns kind c r f) most d rest h x =
      let a = before (names_again ns (lexeme t.Colon x.0 x.1 ∷ (lexeme (type_sign kind) x.2 x.3 ∷ x.4)) h x.5) in
      let a' = before a.1 in
      let l = ref_again c x.6 a'.1.like x.7 in
      let m = range_again r x.8 l.like x.9 in
      let n = first_again f most d rest m.like x.10 in
      record {
        tree = s.grouping a'.1.tree kind l.tree m.tree n.tree;
        left = n.left;
        derives = (x.0, a.0, x.2, a'.0, a'.1.left, a'.1.derives, l.left, l.derives, m.left, m.derives, n.derives);
        like = n.like;
        same = λ i. s.grouping (a'.1.same i) kind (l.same i) (m.same i) (n.same i);
      }

  -- a first value, where it is there
  first_again : (f : MaybeExp) (most d : ℕ) {ts us : Lexemes} (rest : Lexemes) → Alike ts us → DerivesFirst most d ts f rest → Again MaybeExp (DerivesFirst most d us) unplaced_first f rest
  first_again s.no_exp most d {us = us} rest h x = let k = along x.0 h in record { tree = s.no_exp; left = us; derives = (refl, unfirst t.Equal k x.1); like = k; same = refl }
  first_again (s.an_exp e) most d rest h x =
      let k = first x.3 h in
      let r = exp_again e most d rest k.like x.4 in
      record { tree = s.an_exp r.tree; left = r.left; derives = (x.0, k.at, k.left, k.is, r.derives, no_operator r.like x.5); like = r.like; same = λ i. s.an_exp (r.same i) }

  -- groups and the sign that ends them
  groups_again : (gs : Groupings) (most d : ℕ) (end : Sign) {ts us : Lexemes} (rest : Lexemes) → Alike ts us → DerivesGroups most d end ts gs rest → Again Groupings (DerivesGroups most d end us) unplaced_groupings gs rest
  groups_again s.no_groups most d end rest h x = let k = first x.2 h in record { tree = s.no_groups; left = k.left; derives = (x.0, k.at, k.is); like = k.like; same = refl }
  groups_again (s.one_group g more) most d end rest h x =
      let l = grouping_again g most d x.0 h x.1 in
      let r = more_groups_again more most d end rest l.like x.2 in
      record { tree = s.one_group l.tree r.tree; left = r.left; derives = (l.left, l.derives, r.derives); like = r.like; same = λ i. s.one_group (l.same i) (r.same i) }

  -- the groups after a first one
  more_groups_again : (gs : Groupings) (most d : ℕ) (end : Sign) {ts us : Lexemes} (rest : Lexemes) → Alike ts us → DerivesMoreGroups most d end ts gs rest → Again Groupings (DerivesMoreGroups most d end us) unplaced_groupings gs rest
  more_groups_again s.no_groups most d end rest h x = let k = first x.2 h in record { tree = s.no_groups; left = k.left; derives = (x.0, k.at, k.is); like = k.like; same = refl }
  more_groups_again (s.one_group g more) most d end rest h x =
      let k = first x.3 h in
      let l = grouping_again g most d x.4 k.like x.5 in
      let r = more_groups_again more most d end rest l.like x.6 in
      record { tree = s.one_group l.tree r.tree; left = r.left; derives = (x.0, k.at, k.left, k.is, l.left, l.derives, r.derives); like = r.like; same = λ i. s.one_group (l.same i) (r.same i) }

  -- the parameters of a macro, where a list of them is there
  parameters_again : (ps : Parameters) (most d : ℕ) {ts us : Lexemes} (rest : Lexemes) → Alike ts us → DerivesParameters most d ts ps rest → Again Parameters (DerivesParameters most d us) unplaced_parameters ps rest
  parameters_again s.no_parameters most d {us = us} rest h x = let k = along x.0 h in record { tree = s.no_parameters; left = us; derives = (refl, unfirst t.Open k x.1); like = k; same = refl }
  parameters_again (s.parameters gs) most d rest h x =
      let k = first x.3 h in
      let r = groups_again gs most (suc d) t.Close rest k.like x.5 in
      record { tree = s.parameters r.tree; left = r.left; derives = (x.0, k.at, k.left, k.is, x.4, r.derives); like = r.like; same = λ i. s.parameters (r.same i) }

  -- what a macro stands for
  meaning_again : (y : Meaning) (most d : ℕ) {ts us : Lexemes} (rest : Lexemes) → Alike ts us → DerivesMeaning most d ts y rest → Again Meaning (DerivesMeaning most d us) unplaced_meaning y rest
  meaning_again (s.trace_meaning y) most d rest h x =
      let r = trace_again y most d whole rest h x in
      record { tree = s.trace_meaning r.tree; left = r.left; derives = r.derives; like = r.like; same = λ i. s.trace_meaning (r.same i) }
  meaning_again (s.value_meaning e) most d rest h x =
      let r = exp_again e most d rest h x.0 in
      record { tree = s.value_meaning r.tree; left = r.left; derives = (r.derives, no_operator r.like x.1); like = r.like; same = λ i. s.value_meaning (r.same i) }

  -- a macro after its `let`
  macro_again : (y : Macro) (most d : ℕ) {ts us : Lexemes} (rest : Lexemes) → Alike ts us → DerivesMacro most d ts y rest → Again Macro (DerivesMacro most d us) unplaced_macro y rest
  macro_again (s.macro n ps kind y) most d rest h x =
      let k = first x.1 h in
      let a = before (parameters_again ps most d (lexeme t.Colon x.2 x.3 ∷ (lexeme (type_sign kind) x.4 x.5 ∷ (lexeme t.Equal x.6 x.7 ∷ x.8))) k.like x.9) in
      let a' = before a.1 in
      let a'' = before a'.1 in
      let r = meaning_again y most d rest a''.1.like x.11 in
      record {
        tree = s.macro (word_at n k.at) a''.1.tree kind r.tree;
        left = r.left;
        derives = (k.left, k.is, x.2, a.0, x.4, a'.0, x.6, a''.0, a''.1.left, a''.1.derives, means_again kind y r.tree r.same x.10, r.derives);
        like = r.like;
        same = λ i. s.macro (unplaced_word n) (a''.1.same i) kind (r.same i);
      }

  -- a trace, or an item of one
  trace_again : (y : Trace) (most d : ℕ) (place : Place) {ts us : Lexemes} (rest : Lexemes) → Alike ts us → DerivesTrace most d place ts y rest → Again Trace (DerivesTrace most d place us) unplaced_trace y rest
  trace_again (s.sequence ys) most d place rest h x =
      let r = sequence_again ys most d rest h x.1 in
      record { tree = s.sequence r.tree; left = r.left; derives = (x.0, r.derives); like = r.like; same = λ i. s.sequence (r.same i) }
  trace_again (s.braces y at) most d place rest h x =
      let k = first x.3 h in
      let r = braced_again y most (suc d) x.5 rest k.like x.6 in
      record {
        tree = s.braces r.tree (across k.at r.derives.0);
        left = r.left;
        derives = (x.0, k.at, k.left, k.is, x.4, r.derives.0, r.derives.1, refl, ends_again place r.like x.8);
        like = r.like;
        same = λ i. s.braces (r.same i) nowhere;
      }
  trace_again (s.loop l y) most d place rest h x =
      let k = first x.3 h in
      let m = limits_again l most (suc d) x.5 k.like x.6 in
      let r = trace_again y most (suc d) item rest m.like x.7 in
      record { tree = s.loop m.tree r.tree; left = r.left; derives = (x.0, k.at, k.left, k.is, x.4, m.left, m.derives, r.derives, ends_again place r.like x.8); like = r.like; same = λ i. s.loop (m.same i) (r.same i) }
  trace_again (s.raise n) most d place rest h x =
      let k = two x.2 h in
      record { tree = s.raise (word_at n k.at'); left = k.left; derives = (x.0, k.at, k.is, ends_again place k.like x.3); like = k.like; same = refl }
  trace_again (s.assert e y) most d place rest h x =
      let k = first x.3 h in
      let l = before (exp_again e most (suc d) (lexeme t.In x.5 x.6 ∷ x.7) k.like x.8) in
      let r = trace_again y most (suc d) whole rest l.1.like x.9 in
      record { tree = s.assert l.1.tree r.tree; left = r.left; derives = (x.0, k.at, k.left, k.is, x.4, x.5, l.0, l.1.left, l.1.derives, r.derives); like = r.like; same = λ i. s.assert (l.1.same i) (r.same i) }
  trace_again (s.exist gs y) most d place rest h x =
      let k = first x.3 h in
      let l = groups_again gs most (suc d) t.In x.6 k.like x.7 in
      let r = trace_again y most (suc d) whole rest l.like x.8 in
      record {
        tree = s.exist l.tree r.tree;
        left = r.left;
        derives = (x.0, k.at, k.left, k.is, x.4, has_group_again gs l.tree l.same x.5, l.left, l.derives, r.derives);
        like = r.like;
        same = λ i. s.exist (l.same i) (r.same i);
      }
  trace_again (s.define z y) most d place rest h x =
      let k = first x.3 h in
      let l = before (macro_again z most (suc d) (lexeme t.In x.5 x.6 ∷ x.7) k.like x.8) in
      let r = trace_again y most (suc d) whole rest l.1.like x.9 in
      record { tree = s.define l.1.tree r.tree; left = r.left; derives = (x.0, k.at, k.left, k.is, x.4, x.5, l.0, l.1.left, l.1.derives, r.derives); like = r.like; same = λ i. s.define (l.1.same i) (r.same i) }
  trace_again (s.exceptions ns y) most d place rest h x =
      let k = first x.3 h in
      let l = before (names_again ns (lexeme t.In x.5 x.6 ∷ x.7) k.like x.8) in
      let r = trace_again y most (suc d) whole rest l.1.like x.9 in
      record { tree = s.exceptions l.1.tree r.tree; left = r.left; derives = (x.0, k.at, k.left, k.is, x.4, x.5, l.0, l.1.left, l.1.derives, r.derives); like = r.like; same = λ i. s.exceptions (l.1.same i) (r.same i) }
  trace_again (s.catch n y z) most d place rest h x =
      let k = three x.5 h in
      let l = trace_again y most (suc d) whole x.7 k.like x.8 in
      let r = handler_again z most (suc d) rest l.like x.9 in
      record {
        tree = s.catch (word_at n k.at') l.tree r.tree;
        left = r.left;
        derives = (x.0, k.at, x.2, k.at'', k.left, k.is, x.6, l.left, l.derives, r.derives);
        like = r.like;
        same = λ i. s.catch (unplaced_word n) (l.same i) (r.same i);
      }
  trace_again (s.trap n y z) most d place rest h x =
      let k = three x.5 h in
      let l = trace_again y most (suc d) whole x.7 k.like x.8 in
      let r = handler_again z most (suc d) rest l.like x.9 in
      record {
        tree = s.trap (word_at n k.at') l.tree r.tree;
        left = r.left;
        derives = (x.0, k.at, x.2, k.at'', k.left, k.is, x.6, l.left, l.derives, r.derives);
        like = r.like;
        same = λ i. s.trap (unplaced_word n) (l.same i) (r.same i);
      }
  trace_again (s.try y z) most d place rest h x =
      let k = first x.3 h in
      let l = trace_again y most (suc d) whole x.5 k.like x.6 in
      let r = handler_again z most (suc d) rest l.like x.7 in
      record { tree = s.try l.tree r.tree; left = r.left; derives = (x.0, k.at, k.left, k.is, x.4, l.left, l.derives, r.derives); like = r.like; same = λ i. s.try (l.same i) (r.same i) }
  trace_again (s.value e) most d place rest h x =
      let r = exp_again e most d rest h x.0 in
      record { tree = s.value r.tree; left = r.left; derives = (r.derives, no_operator r.like x.1, ends_again place r.like x.2); like = r.like; same = λ i. s.value (r.same i) }

  -- two items or more
  sequence_again : (ys : Traces) (most d : ℕ) {ts us : Lexemes} (rest : Lexemes) → Alike ts us → DerivesSequence most d ts ys rest → Again Traces (DerivesSequence most d us) unplaced_traces ys rest
  sequence_again s.no_traces most d rest h x = absurd x
  sequence_again (s.one_trace y more) most d rest h x =
      let l = trace_again y most d item x.0 h x.1 in
      let r = more_items_again more most d rest l.like x.3 in
      record { tree = s.one_trace l.tree r.tree; left = r.left; derives = (l.left, l.derives, has_trace_again more r.tree r.same x.2, r.derives); like = r.like; same = λ i. s.one_trace (l.same i) (r.same i) }

  -- the items after a first one
  more_items_again : (ys : Traces) (most d : ℕ) {ts us : Lexemes} (rest : Lexemes) → Alike ts us → DerivesMoreItems most d ts ys rest → Again Traces (DerivesMoreItems most d us) unplaced_traces ys rest
  more_items_again s.no_traces most d {us = us} rest h x = let k = along x.0 h in record { tree = s.no_traces; left = us; derives = (refl, unfirst t.Fby k x.1); like = k; same = refl }
  more_items_again (s.one_trace y more) most d rest h x =
      let k = first x.3 h in
      let l = trace_again y most d item x.4 k.like x.5 in
      let r = more_items_again more most d rest l.like x.6 in
      record { tree = s.one_trace l.tree r.tree; left = r.left; derives = (x.0, k.at, k.left, k.is, l.left, l.derives, r.derives); like = r.like; same = λ i. s.one_trace (l.same i) (r.same i) }

  -- what follows a `do`, where it is there
  handler_again : (z : MaybeTrace) (most d : ℕ) {ts us : Lexemes} (rest : Lexemes) → Alike ts us → DerivesHandler most d ts z rest → Again MaybeTrace (DerivesHandler most d us) unplaced_handler z rest
  handler_again s.no_trace most d {us = us} rest h x = let k = along x.0 h in record { tree = s.no_trace; left = us; derives = (refl, unfirst t.Do k x.1); like = k; same = refl }
  handler_again (s.a_trace y) most d rest h x =
      let k = first x.3 h in
      let r = trace_again y most d whole rest k.like x.4 in
      record { tree = s.a_trace r.tree; left = r.left; derives = (x.0, k.at, k.left, k.is, r.derives); like = r.like; same = λ i. s.a_trace (r.same i) }

-- RUNS

-- the expressions after a first one, and the `)` after them
more_expressions_again : (es : List Exp) (most d : ℕ) {ts us : Lexemes} (rest : Lexemes) → Alike ts us → DerivesMoreExpressions most d ts es rest → Again (List Exp) (DerivesMoreExpressions most d us) (map unplaced_exp) es rest
more_expressions_again [] most d rest h x = let k = first x.2 h in record { tree = []; left = k.left; derives = (x.0, k.at, k.is); like = k.like; same = refl }
more_expressions_again (e ∷ es) most d rest h x =
    let k = first x.3 h in
    let l = exp_again e most d x.4 k.like x.5 in
    let r = more_expressions_again es most d rest l.like x.6 in
    record { tree = l.tree ∷ r.tree; left = r.left; derives = (x.0, k.at, k.left, k.is, l.left, l.derives, r.derives); like = r.like; same = λ i. l.same i ∷ r.same i }

-- expressions, if any, and the `)` after them
expressions_again : (es : List Exp) (most d : ℕ) {ts us : Lexemes} (rest : Lexemes) → Alike ts us → DerivesExpressions most d ts es rest → Again (List Exp) (DerivesExpressions most d us) (map unplaced_exp) es rest
expressions_again [] most d rest h x = let k = first x.2 h in record { tree = []; left = k.left; derives = (x.0, k.at, k.is); like = k.like; same = refl }
expressions_again (e ∷ es) most d rest h x =
    let l = exp_again e most d x.0 h x.1 in
    let r = more_expressions_again es most d rest l.like x.2 in
    record { tree = l.tree ∷ r.tree; left = r.left; derives = (l.left, l.derives, r.derives); like = r.like; same = λ i. l.same i ∷ r.same i }

-- a run of a node, up to its `in`
run_again : (y : Run) (most d : ℕ) {ts us : Lexemes} (rest : Lexemes) → Alike ts us → DerivesRun most d ts y rest → Again Run (DerivesRun most d us) unplaced_run y rest
run_again y most d rest h x =
    let k = first x.3 h in
    let a = before (names_again y.names (lexeme t.Assign x.5 x.6 ∷ (lexeme t.Name y.node.text y.node.span ∷ (lexeme t.Open x.7 x.8 ∷ x.9))) k.like x.10) in
    let a' = before a.1 in
    let a'' = before a'.1 in
    let r = before (expressions_again y.arguments most (suc (suc d)) (lexeme t.In x.12 x.13 ∷ rest) a''.1.like x.14) in
    record {
      tree = record { names = a''.1.tree; node = word_at y.node a'.0; arguments = r.1.tree; span = across k.at r.0 };
      left = r.1.left;
      derives = (x.0, k.at, k.left, k.is, x.4, x.5, a.0, x.7, a''.0, a''.1.left, a''.1.derives, x.11, x.12, r.0, r.1.derives, refl);
      like = r.1.like;
      same = λ i. record { names = a''.1.same i; node = unplaced_word y.node; arguments = r.1.same i; span = nowhere };
    }

-- The relation of runs and the trace in them, as a pair.
abbrev DerivesBoth : ℕ → ℕ → Lexemes → List Run × Trace → Lexemes → Type 0
DerivesBoth most d us z left = DerivesRuns most d us z.0 z.1 left

-- such a pair without its places
abbrev unplaced_both : List Run × Trace → List Run × Trace
unplaced_both z = (map unplaced_run z.0, unplaced_trace z.1)

-- runs, if any, and the trace in them
runs_again : (rs : List Run) (y : Trace) (most d : ℕ) {ts us : Lexemes} (rest : Lexemes) → Alike ts us → DerivesRuns most d ts rs y rest → Again (List Run × Trace) (DerivesBoth most d us) unplaced_both (rs, y) rest
runs_again [] y most d rest h x =
    let r = trace_again y most d whole rest h x in
    record { tree = ([], r.tree); left = r.left; derives = r.derives; like = r.like; same = λ i. ([], r.same i) }
runs_again (z ∷ rs) y most d rest h x =
    let l = run_again z most d x.0 h x.1 in
    let r = runs_again rs y most (suc d) rest l.like x.2 in
    record {
      tree = (l.tree ∷ r.tree.0, r.tree.1);
      left = r.left;
      derives = (l.left, l.derives, r.derives);
      like = r.like;
      same = λ i. (l.same i ∷ (r.same i).0, (r.same i).1);
    }

-- DECLARATIONS

-- a declaration
declaration_again : (y : Declaration) (most : ℕ) {ts us : Lexemes} (rest : Lexemes) → Alike ts us → DerivesDeclaration most ts y rest → Again Declaration (DerivesDeclaration most us) unplaced_declaration y rest
declaration_again (s.node n ins outs rs y) most rest h x =
    let k = three x.5 h in
    let a = before (groups_again ins most 1 t.Close (lexeme t.Returns x.7 x.8 ∷ (lexeme t.Open x.9 x.10 ∷ x.11)) k.like x.12) in
    let a' = before a.1 in
    let l = before (groups_again outs most 1 t.Close (lexeme t.Equal x.13 x.14 ∷ x.15) a'.1.like x.16) in
    let r = runs_again rs y most 0 rest l.1.like x.17 in
    record {
      tree = s.node (word_at n k.at') a'.1.tree l.1.tree r.tree.0 r.tree.1;
      left = r.left;
      derives = (x.0, k.at, x.2, k.at'', k.left, k.is, x.6, x.7, a.0, x.9, a'.0, a'.1.left, a'.1.derives, x.13, l.0, l.1.left, l.1.derives, r.derives);
      like = r.like;
      same = λ i. s.node (unplaced_word n) (a'.1.same i) (l.1.same i) (r.same i).0 (r.same i).1;
    }
declaration_again (s.macro_declaration y) most rest h x =
    let k = first x.3 h in
    let r = macro_again y most 0 rest k.like x.4 in
    record { tree = s.macro_declaration r.tree; left = r.left; derives = (x.0, k.at, k.left, k.is, r.derives); like = r.like; same = λ i. s.macro_declaration (r.same i) }
declaration_again (s.exception_declaration ns) most rest h x =
    let k = first x.3 h in
    let r = names_again ns rest k.like x.4 in
    record { tree = s.exception_declaration r.tree; left = r.left; derives = (x.0, k.at, k.left, k.is, r.derives); like = r.like; same = λ i. s.exception_declaration (r.same i) }

-- Only no tokens are like none.
none_like : {us : Lexemes} → Alike [] us → us ≡ []
none_like {us = []} h = refl
none_like {us = u ∷ us} h = absurd h.are

-- a program
spelled_again : (xs : List Declaration) (most : ℕ) {ts us : Lexemes} → Alike ts us → SpellsWithin most ts xs → (ys : List Declaration) × SpellsWithin most us ys × (unplaced ys ≡ unplaced xs)
spelled_again [] most h x = ([], none_like (along x h), refl)
spelled_again (y ∷ ys) most h x =
    let k = declaration_again y most x.0 h x.1 in
    let r = spelled_again ys most k.like x.2 in
    (k.tree ∷ r.0, (k.left, k.derives, r.1), λ i. k.same i ∷ r.2 i)

-- What tokens spell, tokens like them spell too, but for the places.
pub spelled_elsewhere : SpelledElsewhere
spelled_elsewhere = λ most ts us x h d. spelled_again x most (record { are = h }) d
