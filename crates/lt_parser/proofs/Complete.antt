-- What is derived is read.
use Rattle.std.proofs.Common.{◌≡◌, ℕ, suc, ◌≤◌, ◌<◌, List, [], ◌∷◌, length, refl, sym, ◌∙◌, ap, subst, Bool, true, false, Option, Some, None, Result, Ok, arith}
use Rattle.lt_ast.specs.declared.sign.Sign.{Sign}
use Rattle.lt_ast.specs.declared.sign.Sign.TheVariants as t
use Rattle.std.proofs.lemmas.Bool.{le-leb}
use Rattle.lt_ast.specs.declared.span.Span.{Span}
use Rattle.lt_ast.specs.declared.group.TypeName.{TypeName}
use Rattle.lt_ast.specs.declared.group.TypeName.TheVariants as ty
use Rattle.lt_ast.specs.declared.expr.BinOp.{BinOp}
use Rattle.lt_ast.specs.declared.expr.BinOp.TheVariants as b
use Rattle.lt_ast.specs.Syntax as s
use Rattle.lt_ast.specs.Syntax.{Word, Figure, WrittenRange, Exp, Argument, Arguments, Limits, Braces, Alternative, Alternatives, Trace, Traces, Grouping, Groupings, MaybeExp, MaybeTrace, Parameters, Meaning, Macro, Run, Declaration}
use Rattle.lt_ast.specs.Tokens.{binary_sign, type_sign}
use Rattle.lt_grammar.specs.Lexemes.{Lexemes, lexeme, IsNotFirst}
use Rattle.lt_grammar.specs.Precedence.{rank, under, Stands, left_least, right_least, IsNoOperator}
use Rattle.lt_ast.specs.Places.{across, span_of}
use Rattle.lt_grammar.specs.Grammar.{IsNoWeight, opened, MayOpen, Place, whole, item, Ends, DerivesNames, DerivesMoreNames, DerivesNumber, DerivesFigure, DerivesRange, DerivesStep, DerivesRef, DerivesExp, DerivesArgument, DerivesArguments, DerivesMoreArguments, DerivesBraced, DerivesChoice, DerivesMoreAlternatives, DerivesAlternative, DerivesTraces, DerivesMoreTraces, DerivesLimits, DerivesBound, DerivesGrouping, DerivesFirst, DerivesGroups, DerivesMoreGroups, DerivesParameters, DerivesMeaning, DerivesMacro, DerivesTrace, DerivesSequence, DerivesMoreItems, DerivesHandler, Means, HasAlternative, HasTrace, HasGroup, DerivesMoreExpressions, DerivesExpressions, DerivesRun, DerivesRuns, DerivesDeclaration, SpellsWithin, SpellsExpressionWithin}
use Rattle.lt_parser.specs.inner.Reading.{Goal, Tree, Stop, program_tree, expression_tree, done, expression_done, whole_exp, a_list, outcome, onward, operand, allowed, opens, top, cap, an_exp, more_exp, some_arguments, more_arguments, an_argument, an_item, more_items, a_handler, some_limits, a_bound, some_braced, after_first, an_alternative, after_weight, more_alternatives, more_traces, some_groups, more_groups, more_names, a_type, a_ref, a_range, a_step, a_figure, a_first, some_parameters, some_expressions, more_expressions, some_runs, run_goal, declarations, a_trace, names, a_group, groups, a_meaning, a_macro, a_sign, a_name, paren_goal, if_goal, sequence_of}
use Rattle.lt_grammar.specs.Program.{SpellsAtMostOne}
use Rattle.lt_parser.specs.inner.Reading.{ReadsTheSpelled}
use Rattle.lt_parser.proofs.Skips.{enter, Heads, ends, no_call, no_item, no_handler, no_ref, no_range, no_step, no_first, no_parameters, no_name, no_limits}
use Rattle.lt_parser.proofs.Operators.{stands_zero, looser, left_rank, left_top, right_top, cap_right, under_top, top_under, take_unary, take_binary}
use Rattle.lt_parser.proofs.Begins.{closed, head_op, differs, item_value, argument_value, arguments_first, alternative_value, side_first, arguments_closed, no_weight, braced_first, runs_first, expressions_first, expressions_closed, unweighted_by}

-- An expression that no operator follows.
no_heads : (P : BinOp → Type 0) (ts : Lexemes) → IsNoOperator ts → Heads P ts
no_heads P ts h = λ op sign w at rest e e'. absurd (h op sign w at rest e e')

fully : (e : Exp) (most d : ℕ) (ts rest : Lexemes) → ((k : Exp → Goal) → outcome most (an_exp d 0 k) ts ≡ outcome most (more_exp d 0 e k) rest) → IsNoOperator rest
    → (k : Exp → Goal) → outcome most (an_exp d 0 k) ts ≡ outcome most (k e) rest
fully e most d ts rest ih h k = ih k ∙ ends most d 0 e k rest (no_heads (λ op. rank op < 0) rest h)

-- The right side of an operator.
operand_reads : (op : BinOp) (f : Exp) (most d : ℕ) (m rest : Lexemes) → MayOpen op d most → Stands (right_least op f) f → DerivesExp most (opened op d) m f rest
    → ((k : Exp → Goal) → outcome most (an_exp (opened op d) (right_least op f) k) m ≡ outcome most (k f) rest)
    → (k : Exp → Goal) → onward most (operand d op k) (length m) (λ goal. outcome most goal m) ≡ outcome most (k f) rest
operand_reads b.Implies f most d m rest o st x ih k = enter most (suc d) o (an_exp (suc d) 1 k) m ∙ ih k
operand_reads b.Eq f most d m rest o st x ih k = side_first f most d d m rest st x k ∙ ih k
operand_reads b.Ne f most d m rest o st x ih k = side_first f most d d m rest st x k ∙ ih k
operand_reads b.Lt f most d m rest o st x ih k = side_first f most d d m rest st x k ∙ ih k
operand_reads b.Le f most d m rest o st x ih k = side_first f most d d m rest st x k ∙ ih k
operand_reads b.Gt f most d m rest o st x ih k = side_first f most d d m rest st x k ∙ ih k
operand_reads b.Ge f most d m rest o st x ih k = side_first f most d d m rest st x k ∙ ih k
operand_reads op f most d m rest o st x ih k = ih k

-- NAMES, NUMBERS, RANGES

reads_more_names : (ns : List Word) (most : ℕ) (ts rest : Lexemes) → DerivesMoreNames ts ns rest → (k : List Word → Goal) → outcome most (more_names k) ts ≡ outcome most (k ns) rest
reads_more_names [] most ts rest x k = ap (outcome most (more_names k)) x.0 ∙ no_name most k rest x.1
reads_more_names (n ∷ ns) most ts rest x k = ap (outcome most (more_names k)) x.3 ∙ reads_more_names ns most x.2 rest x.4 (λ ms. k (n ∷ ms))

reads_names : (ns : List Word) (most : ℕ) (ts rest : Lexemes) → DerivesNames ts ns rest → (k : List Word → Goal) → outcome most (names k) ts ≡ outcome most (k ns) rest
reads_names [] most ts rest x k = absurd x
reads_names (n ∷ ns) most ts rest x k = ap (outcome most (names k)) x.1 ∙ reads_more_names ns most x.0 rest x.2 (λ ms. k (n ∷ ms))

reads_signed : (c : Bool) (text : List ℕ) (at : Span) (most : ℕ) (ts rest : Lexemes) → DerivesNumber ts c text at rest → (k : Figure → Goal)
    → outcome most (a_figure k) ts ≡ outcome most (k (record { minus = c; text = text; span = at })) rest
reads_signed false text at most ts rest x k = ap (outcome most (a_figure k)) x
reads_signed true text at most ts rest x k = ap (outcome most (a_figure k)) x.3 ∙ (λ i. outcome most (k (record { minus = true; text = text; span = sym x.4 i })) rest)

reads_figure : (f : Figure) (most : ℕ) (ts rest : Lexemes) → DerivesFigure ts f rest → (k : Figure → Goal) → outcome most (a_figure k) ts ≡ outcome most (k f) rest
reads_figure f most ts rest x k = reads_signed f.minus f.text f.span most ts rest x k

reads_step : (f : Option Figure) (most : ℕ) (ts rest : Lexemes) → DerivesStep ts f rest → (k : Option Figure → Goal) → outcome most (a_step k) ts ≡ outcome most (k f) rest
reads_step None most ts rest x k = ap (outcome most (a_step k)) x.0 ∙ no_step most k rest x.1
reads_step (Some f) most ts rest x k = ap (outcome most (a_step k)) x.3 ∙ reads_figure f most x.2 rest x.4 (λ g. k (Some g))

reads_range : (r : Option WrittenRange) (most : ℕ) (ts rest : Lexemes) → DerivesRange ts r rest → (k : Option WrittenRange → Goal) → outcome most (a_range k) ts ≡ outcome most (k r) rest
reads_range None most ts rest x k = ap (outcome most (a_range k)) x.0 ∙ no_range most k rest x.1
reads_range (Some r) most ts rest x k =
    ap (outcome most (a_range k)) x.3
    ∙ reads_figure r.low most x.2 (lexeme t.Semicolon x.4 x.5 ∷ x.6) x.7 (λ low. a_sign t.Semicolon (λ p. a_figure (λ high. a_step (λ stride. a_sign t.CloseBracket (λ q. k (Some (record { low = low; high = high; step = stride })))))))
    ∙ reads_figure r.high most x.6 x.8 x.9 (λ high. a_step (λ stride. a_sign t.CloseBracket (λ q. k (Some (record { low = r.low; high = high; step = stride })))))
    ∙ reads_step r.step most x.8 (lexeme t.CloseBracket x.10 x.11 ∷ rest) x.12 (λ stride. a_sign t.CloseBracket (λ q. k (Some (record { low = r.low; high = r.high; step = stride }))))

reads_ref : (c : Bool) (most : ℕ) (ts rest : Lexemes) → DerivesRef ts c rest → (k : Bool → Goal) → outcome most (a_ref k) ts ≡ outcome most (k c) rest
reads_ref false most ts rest x k = ap (outcome most (a_ref k)) x.0 ∙ no_ref most k rest x.1
reads_ref true most ts rest x k = ap (outcome most (a_ref k)) x.2

reads_type : (kind : TypeName) (most : ℕ) (w : List ℕ) (p : Span) (m : Lexemes) (k : TypeName → Goal) → outcome most (a_type k) (lexeme (type_sign kind) w p ∷ m) ≡ outcome most (k kind) m
reads_type ty.Bool most w p m k = refl
reads_type ty.Int most w p m k = refl
reads_type ty.Real most w p m k = refl
reads_type ty.Trace most w p m k = refl

-- EXPRESSIONS AND TRACES

-- where a trace is read: a whole one, a part of one, the first part of an alternative, an alternative without a weight
pub data Mode : Type 0 where
  as_whole : Mode
  as_part : Mode
  as_first : Mode
  as_alternative : Mode

abbrev pub wanted_as : Mode → Place
wanted_as as_whole = whole
wanted_as as_part = item
wanted_as as_first = item
wanted_as as_alternative = whole

abbrev pub ReadsAt : Mode → ℕ → ℕ → Trace → Lexemes → Lexemes → Type 0
ReadsAt as_whole most d x ts rest = (k : Trace → Goal) → outcome most (a_trace d k) ts ≡ outcome most (k x) rest
ReadsAt as_part most d x ts rest = (k : Trace → Goal) → outcome most (an_item d k) ts ≡ outcome most (k x) rest
ReadsAt as_first most d x ts rest = IsNotFirst t.Colon rest → (k : Alternative → Goal) → outcome most (an_alternative d k) ts ≡ outcome most (more_items d (λ xs. k (s.unweighted (sequence_of x xs)))) rest
ReadsAt as_alternative most d x ts rest = IsNoWeight x rest → (k : Alternative → Goal) → outcome most (an_alternative d k) ts ≡ outcome most (k (s.unweighted x)) rest

placed : (o : Mode) (most d : ℕ) (x : Trace) (ts rest : Lexemes) → ((k : Trace → Goal) → outcome most (an_item d k) ts ≡ outcome most (k x) rest) → Ends (wanted_as o) rest
    → ((k : Alternative → Goal) → outcome most (an_alternative d k) ts ≡ outcome most (a_trace d (λ y. k (s.unweighted y))) ts) → ReadsAt o most d x ts rest
placed as_whole most d x ts rest h e g = λ k. h (λ y. more_items d (λ ys. k (sequence_of y ys))) ∙ no_item most d (λ ys. k (sequence_of x ys)) rest e
placed as_part most d x ts rest h e g = h
placed as_first most d x ts rest h e g = λ c k. g k ∙ h (λ y. more_items d (λ ys. k (s.unweighted (sequence_of y ys))))
placed as_alternative most d x ts rest h e g = λ c k. g k ∙ h (λ y. more_items d (λ ys. k (s.unweighted (sequence_of y ys)))) ∙ no_item most d (λ ys. k (s.unweighted (sequence_of x ys))) rest e

value_at : (o : Mode) (e : Exp) (most d : ℕ) (ts rest : Lexemes) → DerivesExp most d ts e rest → Ends (wanted_as o) rest → ((k : Exp → Goal) → outcome most (an_exp d 0 k) ts ≡ outcome most (k e) rest) → ReadsAt o most d (s.value e) ts rest
value_at as_whole e most d ts rest x n h = λ k. item_value e most d d ts rest x (λ y. more_items d (λ ys. k (sequence_of y ys))) ∙ h (λ e'. more_items d (λ ys. k (sequence_of (s.value e') ys))) ∙ no_item most d (λ ys. k (sequence_of (s.value e) ys)) rest n
value_at as_part e most d ts rest x n h = λ k. item_value e most d d ts rest x k ∙ h (λ e'. k (s.value e'))
value_at as_first e most d ts rest x n h = λ c k. alternative_value e most d d ts rest x k ∙ h (λ e'. after_weight d e' k) ∙ no_weight most d e k rest c
value_at as_alternative e most d ts rest x n h = λ c k. alternative_value e most d d ts rest x k ∙ h (λ e'. after_weight d e' k) ∙ no_weight most d e k rest c ∙ no_item most d (λ ys. k (s.unweighted (sequence_of (s.value e) ys))) rest n

-- a sequence of a first part and more
sequence_at : (o : Mode) (y : Trace) (ys : Traces) (most d : ℕ) (ts m rest : Lexemes) → wanted_as o ≡ whole → HasTrace ys → IsNotFirst t.Colon m → ReadsAt as_part most d y ts m → ReadsAt as_first most d y ts m
    → ((k : Traces → Goal) → outcome most (more_items d k) m ≡ outcome most (k ys) rest) → ReadsAt o most d (s.sequence (s.one_trace y ys)) ts rest
sequence_at o y s.no_traces most d ts m rest q n c h g f = absurd n
sequence_at as_whole y (s.one_trace z zs) most d ts m rest q n c h g f = λ k. h (λ y'. more_items d (λ ys'. k (sequence_of y' ys'))) ∙ f (λ ys'. k (sequence_of y ys'))
sequence_at as_part y (s.one_trace z zs) most d ts m rest q n c h g f = cc
sequence_at as_first y (s.one_trace z zs) most d ts m rest q n c h g f = cc
sequence_at as_alternative y (s.one_trace z zs) most d ts m rest q n c h g f = λ c' k. g c k ∙ f (λ ys'. k (s.unweighted (sequence_of y ys')))

more_uncolon : (ys : Traces) (most d : ℕ) (ts rest : Lexemes) → HasTrace ys → DerivesMoreItems most d ts ys rest → IsNotFirst t.Colon ts
more_uncolon s.no_traces most d ts rest n x = absurd n
more_uncolon (s.one_trace y ys) most d ts rest n x = subst (IsNotFirst t.Colon) (sym x.3) (differs t.Fby t.Colon x.0 x.1 x.2 (λ e. cc))

-- A trace reaches as far right as it can.
more_end : (xs : Traces) (most d : ℕ) (ts rest : Lexemes) → DerivesMoreItems most d ts xs rest → IsNotFirst t.Fby rest
more_end s.no_traces most d ts rest x = x.1
more_end (s.one_trace y ys) most d ts rest x = more_end ys most d x.4 rest x.6

to_place : (place : Place) (rest : Lexemes) → IsNotFirst t.Fby rest → Ends place rest
to_place whole rest h = h
to_place item rest h = tt

mutual
  whole_end : (x : Trace) (most d : ℕ) (ts rest : Lexemes) → DerivesTrace most d whole ts x rest → IsNotFirst t.Fby rest
  whole_end (s.sequence xs) most d ts rest x = sequence_end xs most d ts rest x.1
  whole_end (s.braces y at) most d ts rest x = x.8
  whole_end (s.loop l y) most d ts rest x = x.8
  whole_end (s.raise n) most d ts rest x = x.3
  whole_end (s.assert e y) most d ts rest x = whole_end y most (suc d) x.7 rest x.9
  whole_end (s.exist gs y) most d ts rest x = whole_end y most (suc d) x.6 rest x.8
  whole_end (s.define z y) most d ts rest x = whole_end y most (suc d) x.7 rest x.9
  whole_end (s.exceptions ns y) most d ts rest x = whole_end y most (suc d) x.7 rest x.9
  whole_end (s.catch n y h) most d ts rest x = handler_end h most (suc d) x.7 rest x.9 (whole_end y most (suc d) x.4 x.7 x.8)
  whole_end (s.trap n y h) most d ts rest x = handler_end h most (suc d) x.7 rest x.9 (whole_end y most (suc d) x.4 x.7 x.8)
  whole_end (s.try y h) most d ts rest x = handler_end h most (suc d) x.5 rest x.7 (whole_end y most (suc d) x.2 x.5 x.6)
  whole_end (s.value e) most d ts rest x = x.2

  handler_end : (h : MaybeTrace) (most d : ℕ) (ts rest : Lexemes) → DerivesHandler most d ts h rest → IsNotFirst t.Fby ts → IsNotFirst t.Fby rest
  handler_end s.no_trace most d ts rest x e = subst (IsNotFirst t.Fby) x.0 e
  handler_end (s.a_trace y) most d ts rest x e = whole_end y most d x.2 rest x.4

  sequence_end : (xs : Traces) (most d : ℕ) (ts rest : Lexemes) → DerivesSequence most d ts xs rest → IsNotFirst t.Fby rest
  sequence_end s.no_traces most d ts rest x = absurd x
  sequence_end (s.one_trace y ys) most d ts rest x = more_end ys most d x.0 rest x.3

rank_pos : (op : BinOp) → 1 ≤ rank op
rank_pos b.Add = omega arith
rank_pos b.Sub = omega arith
rank_pos b.Mul = omega arith
rank_pos b.Div = omega arith
rank_pos b.DivWord = omega arith
rank_pos b.Mod = omega arith
rank_pos b.Eq = omega arith
rank_pos b.Ne = omega arith
rank_pos b.Lt = omega arith
rank_pos b.Le = omega arith
rank_pos b.Gt = omega arith
rank_pos b.Ge = omega arith
rank_pos b.And = omega arith
rank_pos b.Or = omega arith
rank_pos b.Xor = omega arith
rank_pos b.Implies = omega arith

none_follows : (ts : Lexemes) → Heads (λ op. rank op ≤ 0) ts → IsNoOperator ts
none_follows ts h = λ op sign w at rest e e'. omega (arith, h op sign w at rest e e', rank_pos op)

weaken : (P Q : BinOp → Type 0) (ts : Lexemes) → ((op : BinOp) → P op → Q op) → Heads P ts → Heads Q ts
weaken P Q ts f h = λ op sign w at rest e e'. f op (h op sign w at rest e e')

take_if : (most d low : ℕ) (w : List ℕ) (p : Span) (m : Lexemes) (k : Exp → Goal) → low ≤ 0 → suc d ≤ most
    → outcome most (an_exp d low k) (lexeme t.If w p ∷ m) ≡ outcome most (if_goal (suc d) p (λ e. more_exp d low e k)) m
take_if most d low w p m k le lt =
    ap (λ c. onward most (allowed c (opens (suc d) (if_goal (suc d) p (λ e. more_exp d low e k)))) (length m) (λ goal. outcome most goal m)) (le-leb low 0 le)
    ∙ enter most (suc d) lt (if_goal (suc d) p (λ e. more_exp d low e k)) m

-- a sign that is wanted is taken
abbrev ends_groups : Sign → Bool
ends_groups t.Close = true
ends_groups t.In = true
ends_groups sign = false

wanted_end : (end : Sign) (most d : ℕ) (k : Groupings → Goal) (w : List ℕ) (p : Span) (m : Lexemes) → ends_groups end ≡ true → outcome most (more_groups d end k) (lexeme end w p ∷ m) ≡ outcome most (k s.no_groups) m
wanted_end t.Close most d k w p m e = refl
wanted_end t.In most d k w p m e = refl
wanted_end end most d k w p m e = cc

abbrev joins_traces : Sign → Bool
joins_traces t.Priority = true
joins_traces t.Parallel = true
joins_traces sign = false

wanted_trace : (most d : ℕ) (sign : Sign) (k : Traces → Span → Goal) (w : List ℕ) (p : Span) (m : Lexemes) → joins_traces sign ≡ true
    → outcome most (more_traces d sign k) (lexeme sign w p ∷ m) ≡ outcome most (a_trace d (λ y. more_traces d sign (λ ys q. k (s.one_trace y ys) q))) m
wanted_trace most d t.Priority k w p m e = refl
wanted_trace most d t.Parallel k w p m e = refl
wanted_trace most d sign k w p m e = cc

-- groups begin with a name
group_start : (g : Grouping) (most d d' : ℕ) (ts rest : Lexemes) → DerivesGrouping most d' ts g rest → (k : Groupings → Goal) → outcome most (some_groups d k) ts ≡ outcome most (groups d t.Close k) ts
group_start (s.grouping [] kind c r f) most d d' ts rest x k = absurd x.5
group_start (s.grouping (n ∷ ns) kind c r f) most d d' ts rest x k = ap (outcome most (some_groups d k)) x.5.1 ∙ sym (ap (outcome most (groups d t.Close k)) x.5.1)

mutual
  pub reads_exp : (e : Exp) (most d low : ℕ) (ts rest : Lexemes) → DerivesExp most d ts e rest → Stands low e → Heads (λ op. rank op ≤ top e) rest
      → (k : Exp → Goal) → outcome most (an_exp d low k) ts ≡ outcome most (more_exp d low e k) rest
  reads_exp (s.number f) most d low ts rest x st h k =
      ap (outcome most (an_exp d low k)) x.1 ∙ (λ i. outcome most (more_exp d low (s.number (record { minus = sym x.0 i; text = f.text; span = f.span })) k) rest)
  reads_exp (s.flag true at) most d low ts rest x st h k = ap (outcome most (an_exp d low k)) x.1
  reads_exp (s.flag false at) most d low ts rest x st h k = ap (outcome most (an_exp d low k)) x.1
  reads_exp (s.named n) most d low ts rest x st h k = ap (outcome most (an_exp d low k)) x.0 ∙ no_call most d n (λ e. more_exp d low e k) rest x.1
  reads_exp (s.called n args) most d low ts rest x st h k =
      ap (outcome most (an_exp d low k)) x.3 ∙ enter most (suc d) x.4 (some_arguments (suc d) (λ args'. more_exp d low (s.called n args') k)) x.2
      ∙ reads_arguments args most (suc d) x.2 rest x.5 (λ args'. more_exp d low (s.called n args') k)
  reads_exp (s.pre n at) most d low ts rest x st h k = ap (outcome most (an_exp d low k)) x.2 ∙ (λ i. outcome most (more_exp d low (s.pre n (sym x.3 i)) k) rest)
  reads_exp (s.paren e at) most d low ts rest x st h k =
      let c = closed t.Close x.5 x.6 rest refl in
      ap (outcome most (an_exp d low k)) x.3 ∙ enter most (suc d) x.4 (paren_goal (suc d) x.1 (λ e'. more_exp d low e' k)) x.2
      ∙ fully e most (suc d) x.2 (lexeme t.Close x.5 x.6 ∷ rest) (reads_exp e most (suc d) 0 x.2 (lexeme t.Close x.5 x.6 ∷ rest) x.7 (stands_zero e) (no_heads (λ op. rank op ≤ top e) (lexeme t.Close x.5 x.6 ∷ rest) c)) c (λ e'. a_sign t.Close (λ q. more_exp d low (s.paren e' (across x.1 q)) k))
      ∙ (λ i. outcome most (more_exp d low (s.paren e (sym x.8 i)) k) rest)
  reads_exp (s.unary op e at) most d low ts rest x st h k =
      ap (outcome most (an_exp d low k)) x.3 ∙ take_unary op most d low x.0 x.1 x.2 k st x.4
      ∙ reads_exp e most (suc d) (under op) x.2 rest x.6 x.5 (weaken (λ o. rank o ≤ top (s.unary op e at)) (λ o. rank o ≤ top e) rest (λ o q. omega (arith, q, under_top op e e at x.5)) h) (λ e'. more_exp d low (s.unary op e' (across x.1 (span_of e'))) k)
      ∙ ends most (suc d) (under op) e (λ e'. more_exp d low (s.unary op e' (across x.1 (span_of e'))) k) rest (weaken (λ o. rank o ≤ top (s.unary op e at)) (λ o. rank o < under op) rest (λ o q. omega (arith, q, top_under op e at)) h)
      ∙ (λ i. outcome most (more_exp d low (s.unary op e (sym x.7 i)) k) rest)
  reads_exp (s.binary op e f at) most d low ts rest x st h k =
      let le : low ≤ left_least op = omega (arith, st, left_rank op) in
      reads_exp e most d low ts (lexeme (binary_sign op) x.3 x.4 ∷ x.5) x.6 (looser e low (left_least op) le x.0) (head_op op (top e) x.3 x.4 x.5 (left_top op e x.0)) k
      ∙ take_binary op most d low e k x.3 x.4 x.5 st (left_top op e x.0)
      ∙ operand_reads op f most d x.5 rest x.2 x.1 x.7
      (λ k'. reads_exp f most (opened op d) (right_least op f) x.5 rest x.7 x.1 (weaken (λ o. rank o ≤ cap op) (λ o. rank o ≤ top f) rest (λ o q. omega (arith, q, right_top op f x.1)) h) k'
      ∙ ends most (opened op d) (right_least op f) f k' rest (weaken (λ o. rank o ≤ cap op) (λ o. rank o < right_least op f) rest (λ o q. omega (arith, q, cap_right op f)) h))
      (λ y. more_exp d low (s.binary op e y (across (span_of e) (span_of y))) k)
      ∙ (λ i. outcome most (more_exp d low (s.binary op e f (sym x.8 i)) k) rest)
  reads_exp (s.choose e f g at) most d low ts rest x st h k =
      let c = closed t.Then x.5 x.6 x.7 refl in
      let c' = closed t.Else x.9 x.10 x.11 refl in
      let c'' = none_follows rest h in
      ap (outcome most (an_exp d low k)) x.3 ∙ take_if most d low x.0 x.1 x.2 k st x.4
      ∙ fully e most (suc d) x.2 (lexeme t.Then x.5 x.6 ∷ x.7) (reads_exp e most (suc d) 0 x.2 (lexeme t.Then x.5 x.6 ∷ x.7) x.8 (stands_zero e) (no_heads (λ op. rank op ≤ top e) (lexeme t.Then x.5 x.6 ∷ x.7) c)) c
      (λ e'. a_sign t.Then (λ p. an_exp (suc d) 0 (λ f'. a_sign t.Else (λ q. an_exp (suc d) 0 (λ g'. more_exp d low (s.choose e' f' g' (across x.1 (span_of g'))) k)))))
      ∙ fully f most (suc d) x.7 (lexeme t.Else x.9 x.10 ∷ x.11) (reads_exp f most (suc d) 0 x.7 (lexeme t.Else x.9 x.10 ∷ x.11) x.12 (stands_zero f) (no_heads (λ op. rank op ≤ top f) (lexeme t.Else x.9 x.10 ∷ x.11) c')) c'
      (λ f'. a_sign t.Else (λ q. an_exp (suc d) 0 (λ g'. more_exp d low (s.choose e f' g' (across x.1 (span_of g'))) k)))
      ∙ fully g most (suc d) x.11 rest (reads_exp g most (suc d) 0 x.11 rest x.13 (stands_zero g) (no_heads (λ op. rank op ≤ top g) rest c'')) c'' (λ g'. more_exp d low (s.choose e f g' (across x.1 (span_of g'))) k)
      ∙ (λ i. outcome most (more_exp d low (s.choose e f g (sym x.14 i)) k) rest)

  reads_argument : (a : Argument) (most d : ℕ) (ts rest : Lexemes) → DerivesArgument most d ts a rest → IsNoOperator rest → (k : Argument → Goal) → outcome most (an_argument d k) ts ≡ outcome most (k a) rest
  reads_argument (s.value_argument e) most d ts rest x c k =
      argument_value e most d d ts rest x k ∙ fully e most d ts rest (reads_exp e most d 0 ts rest x (stands_zero e) (no_heads (λ op. rank op ≤ top e) rest c)) c (λ e'. k (s.value_argument e'))
  reads_argument (s.trace_argument y at) most d ts rest x c k =
      ap (outcome most (an_argument d k)) x.3 ∙ enter most (suc d) x.4 (some_braced (suc d) (λ y' q. k (s.trace_argument y' (across x.1 q)))) x.2
      ∙ reads_braced y most (suc d) x.5 x.2 rest x.6 (λ y' q. k (s.trace_argument y' (across x.1 q))) ∙ (λ i. outcome most (k (s.trace_argument y (sym x.7 i))) rest)

  reads_arguments : (args : Arguments) (most d : ℕ) (ts rest : Lexemes) → DerivesArguments most d ts args rest → (k : Arguments → Goal) → outcome most (some_arguments d k) ts ≡ outcome most (k args) rest
  reads_arguments s.no_arguments most d ts rest x k = ap (outcome most (some_arguments d k)) x.2
  reads_arguments (s.argument a more) most d ts rest x k =
      arguments_first a most d d ts x.0 x.1 k ∙ reads_argument a most d ts x.0 x.1 (arguments_closed more most d x.0 rest x.2) (λ a'. more_arguments d (λ more'. k (s.argument a' more')))
      ∙ reads_more_arguments more most d x.0 rest x.2 (λ more'. k (s.argument a more'))

  reads_more_arguments : (args : Arguments) (most d : ℕ) (ts rest : Lexemes) → DerivesMoreArguments most d ts args rest → (k : Arguments → Goal) → outcome most (more_arguments d k) ts ≡ outcome most (k args) rest
  reads_more_arguments s.no_arguments most d ts rest x k = ap (outcome most (more_arguments d k)) x.2
  reads_more_arguments (s.argument a more) most d ts rest x k =
      ap (outcome most (more_arguments d k)) x.3 ∙ reads_argument a most d x.2 x.4 x.5 (arguments_closed more most d x.4 rest x.6) (λ a'. more_arguments d (λ more'. k (s.argument a' more')))
      ∙ reads_more_arguments more most d x.4 rest x.6 (λ more'. k (s.argument a more'))

  reads_braced : (y : Braces) (most d : ℕ) (q : Span) (ts rest : Lexemes) → DerivesBraced most d ts y q rest → (k : Braces → Span → Goal) → outcome most (some_braced d k) ts ≡ outcome most (k y q) rest
  reads_braced (s.plain y) most d q ts rest x k =
      braced_first y whole most d d ts (lexeme t.CloseBrace x.0 q ∷ rest) x.1 k ∙ reads_at y as_whole most d ts (lexeme t.CloseBrace x.0 q ∷ rest) x.1 (λ y'. after_first d y' k)
  reads_braced (s.choice true ps) most d q ts rest x k = reads_alternatives ps most d q ts rest (some_braced d k) (λ ps' q'. k (s.choice true ps') q') (λ w p m. refl) x.0 x.1
  reads_braced (s.choice false ps) most d q ts rest x k = reads_choice ps most d q ts rest x k
  reads_braced (s.priority true ys) most d q ts rest x k = reads_after_sign ys t.Priority refl most d q ts rest (some_braced d k) (λ ys' q'. k (s.priority true ys') q') (λ w p m. refl) x.0 x.1
  reads_braced (s.priority false ys) most d q ts rest x k = reads_with_first ys t.Priority refl most d q ts rest k (λ ys' q'. k (s.priority false ys') q') (λ y' w p m. refl) x
  reads_braced (s.parallel true ys) most d q ts rest x k = reads_after_sign ys t.Parallel refl most d q ts rest (some_braced d k) (λ ys' q'. k (s.parallel true ys') q') (λ w p m. refl) x.0 x.1
  reads_braced (s.parallel false ys) most d q ts rest x k = reads_with_first ys t.Parallel refl most d q ts rest k (λ ys' q'. k (s.parallel false ys') q') (λ y' w p m. refl) x

  reads_choice : (ps : Alternatives) (most d : ℕ) (q : Span) (ts rest : Lexemes) → DerivesChoice most d ts ps q rest → (k : Braces → Span → Goal) → outcome most (some_braced d k) ts ≡ outcome most (k (s.choice false ps) q) rest
  reads_choice s.no_alternatives most d q ts rest x k = absurd x
  reads_choice (s.alternative (s.unweighted y) more) most d q ts rest x k =
      braced_first y whole most d d ts x.0 x.1 k ∙ reads_at y as_whole most d ts x.0 x.1 (λ y'. after_first d y' k)
      ∙ reads_alternatives more most d q x.0 rest (after_first d y k) (λ ps' q'. k (s.choice false (s.alternative (s.unweighted y) ps')) q') (λ w p m. refl) x.2 x.3
  reads_choice (s.alternative (s.weighted e y) more) most d q ts rest x k = absurd x.1

  reads_alternatives : (ps : Alternatives) (most d : ℕ) (q : Span) (ts rest : Lexemes) (goal : Goal) (k : Alternatives → Span → Goal)
      → ((w : List ℕ) (p : Span) (m : Lexemes) → outcome most goal (lexeme t.Bar w p ∷ m) ≡ outcome most (an_alternative d (λ a. more_alternatives d (λ others q'. k (s.alternative a others) q'))) m)
      → HasAlternative ps → DerivesMoreAlternatives most d ts ps q rest → outcome most goal ts ≡ outcome most (k ps q) rest
  reads_alternatives s.no_alternatives most d q ts rest goal k h n x = absurd n
  reads_alternatives (s.alternative a more) most d q ts rest goal k h n x =
      ap (outcome most goal) x.3 ∙ h x.0 x.1 x.2 ∙ reads_alternative a most d x.2 x.4 x.5 (λ a'. more_alternatives d (λ others q'. k (s.alternative a' others) q'))
      ∙ reads_more_alternatives more most d q x.4 rest x.6 (λ others q'. k (s.alternative a others) q')

  reads_more_alternatives : (ps : Alternatives) (most d : ℕ) (q : Span) (ts rest : Lexemes) → DerivesMoreAlternatives most d ts ps q rest → (k : Alternatives → Span → Goal) → outcome most (more_alternatives d k) ts ≡ outcome most (k ps q) rest
  reads_more_alternatives s.no_alternatives most d q ts rest x k = ap (outcome most (more_alternatives d k)) x.1
  reads_more_alternatives (s.alternative a more) most d q ts rest x k =
      ap (outcome most (more_alternatives d k)) x.3 ∙ reads_alternative a most d x.2 x.4 x.5 (λ a'. more_alternatives d (λ others q'. k (s.alternative a' others) q'))
      ∙ reads_more_alternatives more most d q x.4 rest x.6 (λ others q'. k (s.alternative a others) q')

  reads_alternative : (a : Alternative) (most d : ℕ) (ts rest : Lexemes) → DerivesAlternative most d ts a rest → (k : Alternative → Goal) → outcome most (an_alternative d k) ts ≡ outcome most (k a) rest
  reads_alternative (s.unweighted y) most d ts rest x k = reads_at y as_alternative most d ts rest x.0 x.1 k
  reads_alternative (s.weighted e y) most d ts rest x k =
      let c = closed t.Colon x.0 x.1 x.2 refl in
      alternative_value e most d d ts (lexeme t.Colon x.0 x.1 ∷ x.2) x.3 k
      ∙ fully e most d ts (lexeme t.Colon x.0 x.1 ∷ x.2) (reads_exp e most d 0 ts (lexeme t.Colon x.0 x.1 ∷ x.2) x.3 (stands_zero e) (no_heads (λ op. rank op ≤ top e) (lexeme t.Colon x.0 x.1 ∷ x.2) c)) c (λ e'. after_weight d e' k)
      ∙ reads_at y as_whole most d x.2 rest x.4 (λ y'. k (s.weighted e y'))

  reads_after_sign : (ys : Traces) (sign : Sign) (j : joins_traces sign ≡ true) (most d : ℕ) (q : Span) (ts rest : Lexemes) (goal : Goal) (k : Traces → Span → Goal)
      → ((w : List ℕ) (p : Span) (m : Lexemes) → outcome most goal (lexeme sign w p ∷ m) ≡ outcome most (a_trace d (λ y. more_traces d sign (λ zs q'. k (s.one_trace y zs) q'))) m)
      → HasTrace ys → DerivesMoreTraces most d sign ts ys q rest → outcome most goal ts ≡ outcome most (k ys q) rest
  reads_after_sign s.no_traces sign j most d q ts rest goal k h n x = absurd n
  reads_after_sign (s.one_trace y ys) sign j most d q ts rest goal k h n x =
      ap (outcome most goal) x.3 ∙ h x.0 x.1 x.2 ∙ reads_at y as_whole most d x.2 x.4 x.5 (λ y'. more_traces d sign (λ zs q'. k (s.one_trace y' zs) q'))
      ∙ reads_more_traces ys sign j most d q x.4 rest x.6 (λ zs q'. k (s.one_trace y zs) q')

  reads_with_first : (ys : Traces) (sign : Sign) (j : joins_traces sign ≡ true) (most d : ℕ) (q : Span) (ts rest : Lexemes) (k : Braces → Span → Goal) (k' : Traces → Span → Goal)
      → ((y : Trace) (w : List ℕ) (p : Span) (m : Lexemes) → outcome most (after_first d y k) (lexeme sign w p ∷ m) ≡ outcome most (a_trace d (λ z. more_traces d sign (λ zs q'. k' (s.one_trace y (s.one_trace z zs)) q'))) m)
      → DerivesTraces most d sign ts ys q rest → outcome most (some_braced d k) ts ≡ outcome most (k' ys q) rest
  reads_with_first s.no_traces sign j most d q ts rest k k' h x = absurd x
  reads_with_first (s.one_trace y ys) sign j most d q ts rest k k' h x =
      braced_first y whole most d d ts x.0 x.1 k ∙ reads_at y as_whole most d ts x.0 x.1 (λ y'. after_first d y' k)
      ∙ reads_after_sign ys sign j most d q x.0 rest (after_first d y k) (λ zs q'. k' (s.one_trace y zs) q') (h y) x.2 x.3

  reads_more_traces : (ys : Traces) (sign : Sign) (j : joins_traces sign ≡ true) (most d : ℕ) (q : Span) (ts rest : Lexemes) → DerivesMoreTraces most d sign ts ys q rest → (k : Traces → Span → Goal) → outcome most (more_traces d sign k) ts ≡ outcome most (k ys q) rest
  reads_more_traces s.no_traces sign j most d q ts rest x k = ap (outcome most (more_traces d sign k)) x.1
  reads_more_traces (s.one_trace y ys) sign j most d q ts rest x k =
      ap (outcome most (more_traces d sign k)) x.3 ∙ wanted_trace most d sign k x.0 x.1 x.2 j ∙ reads_at y as_whole most d x.2 x.4 x.5 (λ y'. more_traces d sign (λ zs q'. k (s.one_trace y' zs) q'))
      ∙ reads_more_traces ys sign j most d q x.4 rest x.6 (λ zs q'. k (s.one_trace y zs) q')

  reads_limits : (l : Limits) (most d : ℕ) (ts rest : Lexemes) → DerivesLimits most d ts l rest → (k : Limits → Goal) → outcome most (some_limits d k) ts ≡ outcome most (k l) rest
  reads_limits s.forever most d ts rest x k = ap (outcome most (some_limits d k)) x.0 ∙ no_limits most d k rest x.1 x.2
  reads_limits (s.between e f) most d ts rest x k =
      let c = closed t.Comma x.4 x.5 x.6 refl in
      let c' = closed t.CloseBracket x.8 x.9 rest refl in
      ap (outcome most (some_limits d k)) x.3
      ∙ fully e most d x.2 (lexeme t.Comma x.4 x.5 ∷ x.6) (reads_exp e most d 0 x.2 (lexeme t.Comma x.4 x.5 ∷ x.6) x.7 (stands_zero e) (no_heads (λ op. rank op ≤ top e) (lexeme t.Comma x.4 x.5 ∷ x.6) c)) c (λ e'. a_sign t.Comma (λ p. an_exp d 0 (λ f'. a_sign t.CloseBracket (λ q. k (s.between e' f')))))
      ∙ fully f most d x.6 (lexeme t.CloseBracket x.8 x.9 ∷ rest) (reads_exp f most d 0 x.6 (lexeme t.CloseBracket x.8 x.9 ∷ rest) x.10 (stands_zero f) (no_heads (λ op. rank op ≤ top f) (lexeme t.CloseBracket x.8 x.9 ∷ rest) c')) c' (λ f'. a_sign t.CloseBracket (λ q. k (s.between e f')))
  reads_limits (s.around e f) most d ts rest x k =
      ap (outcome most (some_limits d k)) x.3 ∙ reads_small e most d x.2 (lexeme t.Colon x.4 x.5 ∷ x.6) x.7 (λ e'. a_sign t.Colon (λ p. a_bound d (λ f'. k (s.around e' f')))) ∙ reads_small f most d x.6 rest x.8 (λ f'. k (s.around e f'))

  reads_small : (e : Exp) (most d : ℕ) (ts rest : Lexemes) → DerivesBound most d ts e rest → (k : Exp → Goal) → outcome most (a_bound d k) ts ≡ outcome most (k e) rest
  reads_small (s.number f) most d ts rest x k = ap (outcome most (a_bound d k)) x.1 ∙ (λ i. outcome most (k (s.number (record { minus = sym x.0 i; text = f.text; span = f.span }))) rest)
  reads_small (s.named n) most d ts rest x k = ap (outcome most (a_bound d k)) x
  reads_small (s.paren e at) most d ts rest x k =
      let c = closed t.Close x.5 x.6 rest refl in
      ap (outcome most (a_bound d k)) x.3 ∙ enter most (suc d) x.4 (paren_goal (suc d) x.1 k) x.2
      ∙ fully e most (suc d) x.2 (lexeme t.Close x.5 x.6 ∷ rest) (reads_exp e most (suc d) 0 x.2 (lexeme t.Close x.5 x.6 ∷ rest) x.7 (stands_zero e) (no_heads (λ op. rank op ≤ top e) (lexeme t.Close x.5 x.6 ∷ rest) c)) c (λ e'. a_sign t.Close (λ q. k (s.paren e' (across x.1 q))))
      ∙ (λ i. outcome most (k (s.paren e (sym x.8 i))) rest)
  reads_small e most d ts rest x k = absurd x

  reads_grouping : (g : Grouping) (most d : ℕ) (ts rest : Lexemes) → DerivesGrouping most d ts g rest → (k : Grouping → Goal) → outcome most (a_group d k) ts ≡ outcome most (k g) rest
  reads_grouping (s.grouping ns kind c r f) most d ts rest x k =
      reads_names ns most ts (lexeme t.Colon x.0 x.1 ∷ (lexeme (type_sign kind) x.2 x.3 ∷ x.4)) x.5 (λ ns'. a_sign t.Colon (λ p. a_type (λ ki. a_ref (λ c'. a_range (λ r'. a_first d (λ f'. k (s.grouping ns' ki c' r' f')))))))
      ∙ reads_type kind most x.2 x.3 x.4 (λ ki. a_ref (λ c'. a_range (λ r'. a_first d (λ f'. k (s.grouping ns ki c' r' f')))))
      ∙ reads_ref c most x.4 x.6 x.7 (λ c'. a_range (λ r'. a_first d (λ f'. k (s.grouping ns kind c' r' f'))))
      ∙ reads_range r most x.6 x.8 x.9 (λ r'. a_first d (λ f'. k (s.grouping ns kind c r' f')))
      ∙ reads_first f most d x.8 rest x.10 (λ f'. k (s.grouping ns kind c r f'))

  reads_first : (f : MaybeExp) (most d : ℕ) (ts rest : Lexemes) → DerivesFirst most d ts f rest → (k : MaybeExp → Goal) → outcome most (a_first d k) ts ≡ outcome most (k f) rest
  reads_first s.no_exp most d ts rest x k = ap (outcome most (a_first d k)) x.0 ∙ no_first most d k rest x.1
  reads_first (s.an_exp e) most d ts rest x k =
      ap (outcome most (a_first d k)) x.3 ∙ fully e most d x.2 rest (reads_exp e most d 0 x.2 rest x.4 (stands_zero e) (no_heads (λ op. rank op ≤ top e) rest x.5)) x.5 (λ e'. k (s.an_exp e'))

  reads_listed : (gs : Groupings) (most d : ℕ) (ts rest : Lexemes) → DerivesGroups most d t.Close ts gs rest → (k : Groupings → Goal) → outcome most (some_groups d k) ts ≡ outcome most (k gs) rest
  reads_listed s.no_groups most d ts rest x k = ap (outcome most (some_groups d k)) x.2
  reads_listed (s.one_group g more) most d ts rest x k =
      group_start g most d d ts x.0 x.1 k ∙ reads_grouping g most d ts x.0 x.1 (λ g'. more_groups d t.Close (λ gs. k (s.one_group g' gs))) ∙ reads_more_groups more t.Close most d x.0 rest x.2 refl (λ gs. k (s.one_group g gs))

  reads_groups : (gs : Groupings) (most d : ℕ) (ts rest : Lexemes) → HasGroup gs → DerivesGroups most d t.In ts gs rest → (k : Groupings → Goal) → outcome most (groups d t.In k) ts ≡ outcome most (k gs) rest
  reads_groups s.no_groups most d ts rest n x k = absurd n
  reads_groups (s.one_group g more) most d ts rest n x k =
      reads_grouping g most d ts x.0 x.1 (λ g'. more_groups d t.In (λ gs. k (s.one_group g' gs))) ∙ reads_more_groups more t.In most d x.0 rest x.2 refl (λ gs. k (s.one_group g gs))

  reads_more_groups : (gs : Groupings) (end : Sign) (most d : ℕ) (ts rest : Lexemes) → DerivesMoreGroups most d end ts gs rest → ends_groups end ≡ true → (k : Groupings → Goal) → outcome most (more_groups d end k) ts ≡ outcome most (k gs) rest
  reads_more_groups s.no_groups end most d ts rest x e k = ap (outcome most (more_groups d end k)) x.2 ∙ wanted_end end most d k x.0 x.1 rest e
  reads_more_groups (s.one_group g more) end most d ts rest x e k =
      ap (outcome most (more_groups d end k)) x.3 ∙ reads_grouping g most d x.2 x.4 x.5 (λ g'. more_groups d end (λ gs. k (s.one_group g' gs))) ∙ reads_more_groups more end most d x.4 rest x.6 e (λ gs. k (s.one_group g gs))

  reads_parameters : (ps : Parameters) (most d : ℕ) (ts rest : Lexemes) → DerivesParameters most d ts ps rest → (k : Parameters → Goal) → outcome most (some_parameters d k) ts ≡ outcome most (k ps) rest
  reads_parameters s.no_parameters most d ts rest x k = ap (outcome most (some_parameters d k)) x.0 ∙ no_parameters most d k rest x.1
  reads_parameters (s.parameters gs) most d ts rest x k =
      ap (outcome most (some_parameters d k)) x.3 ∙ enter most (suc d) x.4 (some_groups (suc d) (λ gs'. k (s.parameters gs'))) x.2 ∙ reads_listed gs most (suc d) x.2 rest x.5 (λ gs'. k (s.parameters gs'))

  reads_meaning : (y : Meaning) (kind : TypeName) (most d : ℕ) (ts rest : Lexemes) → Means kind y → DerivesMeaning most d ts y rest → (k : Meaning → Goal) → outcome most (a_meaning d kind k) ts ≡ outcome most (k y) rest
  reads_meaning (s.trace_meaning y) ty.Trace most d ts rest n x k = reads_at y as_whole most d ts rest x (λ y'. k (s.trace_meaning y'))
  reads_meaning (s.trace_meaning y) kind most d ts rest n x k = absurd n
  reads_meaning (s.value_meaning e) ty.Trace most d ts rest n x k = absurd n
  reads_meaning (s.value_meaning e) kind most d ts rest n x k =
      fully e most d ts rest (reads_exp e most d 0 ts rest x.0 (stands_zero e) (no_heads (λ op. rank op ≤ top e) rest x.1)) x.1 (λ e'. k (s.value_meaning e'))

  reads_macro : (y : Macro) (most d : ℕ) (ts rest : Lexemes) → DerivesMacro most d ts y rest → (k : Macro → Goal) → outcome most (a_macro d k) ts ≡ outcome most (k y) rest
  reads_macro (s.macro n ps kind y) most d ts rest x k =
      ap (outcome most (a_macro d k)) x.1
      ∙ reads_parameters ps most d x.0 (lexeme t.Colon x.2 x.3 ∷ (lexeme (type_sign kind) x.4 x.5 ∷ (lexeme t.Equal x.6 x.7 ∷ x.8))) x.9 (λ ps'. a_sign t.Colon (λ p. a_type (λ ki. a_sign t.Equal (λ q. a_meaning d ki (λ y'. k (s.macro n ps' ki y'))))))
      ∙ reads_type kind most x.4 x.5 (lexeme t.Equal x.6 x.7 ∷ x.8) (λ ki. a_sign t.Equal (λ q. a_meaning d ki (λ y'. k (s.macro n ps ki y'))))
      ∙ reads_meaning y kind most d x.8 rest x.10 x.11 (λ y'. k (s.macro n ps kind y'))

  pub reads_at : (y : Trace) (o : Mode) (most d : ℕ) (ts rest : Lexemes) → DerivesTrace most d (wanted_as o) ts y rest → ReadsAt o most d y ts rest
  reads_at (s.sequence ys) o most d ts rest x = reads_sequence ys o most d ts rest x.0 x.1
  reads_at (s.braces y at) o most d ts rest x =
      placed o most d (s.braces y at) ts rest
      (λ k. ap (outcome most (an_item d k)) x.3 ∙ enter most (suc d) x.4 (some_braced (suc d) (λ y' q. k (s.braces y' (across x.1 q)))) x.2
      ∙ reads_braced y most (suc d) x.5 x.2 rest x.6 (λ y' q. k (s.braces y' (across x.1 q))) ∙ (λ i. outcome most (k (s.braces y (sym x.7 i))) rest))
      x.8 (unweighted_by t.OpenBrace x.0 x.1 x.2 ts most d x.3 refl)
  reads_at (s.loop l y) o most d ts rest x =
      placed o most d (s.loop l y) ts rest
      (λ k. ap (outcome most (an_item d k)) x.3 ∙ enter most (suc d) x.4 (some_limits (suc d) (λ l'. an_item (suc d) (λ y'. k (s.loop l' y')))) x.2
      ∙ reads_limits l most (suc d) x.2 x.5 x.6 (λ l'. an_item (suc d) (λ y'. k (s.loop l' y'))) ∙ reads_at y as_part most (suc d) x.5 rest x.7 (λ y'. k (s.loop l y')))
      x.8 (unweighted_by t.Loop x.0 x.1 x.2 ts most d x.3 refl)
  reads_at (s.raise n) o most d ts rest x =
      placed o most d (s.raise n) ts rest (λ k. ap (outcome most (an_item d k)) x.2) x.3 (unweighted_by t.Raise x.0 x.1 (lexeme t.Name n.text n.span ∷ rest) ts most d x.2 refl)
  reads_at (s.assert e y) o most d ts rest x =
      let c = closed t.In x.5 x.6 x.7 refl in
      placed o most d (s.assert e y) ts rest
      (λ k. ap (outcome most (an_item d k)) x.3 ∙ enter most (suc d) x.4 (an_exp (suc d) 0 (λ e'. a_sign t.In (λ p. a_trace (suc d) (λ y'. k (s.assert e' y'))))) x.2
      ∙ fully e most (suc d) x.2 (lexeme t.In x.5 x.6 ∷ x.7) (reads_exp e most (suc d) 0 x.2 (lexeme t.In x.5 x.6 ∷ x.7) x.8 (stands_zero e) (no_heads (λ op. rank op ≤ top e) (lexeme t.In x.5 x.6 ∷ x.7) c)) c (λ e'. a_sign t.In (λ p. a_trace (suc d) (λ y'. k (s.assert e' y'))))
      ∙ reads_at y as_whole most (suc d) x.7 rest x.9 (λ y'. k (s.assert e y')))
      (to_place (wanted_as o) rest (whole_end y most (suc d) x.7 rest x.9)) (unweighted_by t.Assert x.0 x.1 x.2 ts most d x.3 refl)
  reads_at (s.exist gs y) o most d ts rest x =
      placed o most d (s.exist gs y) ts rest
      (λ k. ap (outcome most (an_item d k)) x.3 ∙ enter most (suc d) x.4 (groups (suc d) t.In (λ gs'. a_trace (suc d) (λ y'. k (s.exist gs' y')))) x.2
      ∙ reads_groups gs most (suc d) x.2 x.6 x.5 x.7 (λ gs'. a_trace (suc d) (λ y'. k (s.exist gs' y'))) ∙ reads_at y as_whole most (suc d) x.6 rest x.8 (λ y'. k (s.exist gs y')))
      (to_place (wanted_as o) rest (whole_end y most (suc d) x.6 rest x.8)) (unweighted_by t.Exist x.0 x.1 x.2 ts most d x.3 refl)
  reads_at (s.define z y) o most d ts rest x =
      placed o most d (s.define z y) ts rest
      (λ k. ap (outcome most (an_item d k)) x.3 ∙ enter most (suc d) x.4 (a_macro (suc d) (λ z'. a_sign t.In (λ p. a_trace (suc d) (λ y'. k (s.define z' y'))))) x.2
      ∙ reads_macro z most (suc d) x.2 (lexeme t.In x.5 x.6 ∷ x.7) x.8 (λ z'. a_sign t.In (λ p. a_trace (suc d) (λ y'. k (s.define z' y')))) ∙ reads_at y as_whole most (suc d) x.7 rest x.9 (λ y'. k (s.define z y')))
      (to_place (wanted_as o) rest (whole_end y most (suc d) x.7 rest x.9)) (unweighted_by t.Let x.0 x.1 x.2 ts most d x.3 refl)
  reads_at (s.exceptions ns y) o most d ts rest x =
      placed o most d (s.exceptions ns y) ts rest
      (λ k. ap (outcome most (an_item d k)) x.3 ∙ enter most (suc d) x.4 (names (λ ns'. a_sign t.In (λ p. a_trace (suc d) (λ y'. k (s.exceptions ns' y'))))) x.2
      ∙ reads_names ns most x.2 (lexeme t.In x.5 x.6 ∷ x.7) x.8 (λ ns'. a_sign t.In (λ p. a_trace (suc d) (λ y'. k (s.exceptions ns' y')))) ∙ reads_at y as_whole most (suc d) x.7 rest x.9 (λ y'. k (s.exceptions ns y')))
      (to_place (wanted_as o) rest (whole_end y most (suc d) x.7 rest x.9)) (unweighted_by t.Exception x.0 x.1 x.2 ts most d x.3 refl)
  reads_at (s.catch n y h) o most d ts rest x =
      placed o most d (s.catch n y h) ts rest
      (λ k. ap (outcome most (an_item d k)) x.5 ∙ enter most (suc d) x.6 (a_name (λ n'. a_sign t.In (λ p. a_trace (suc d) (λ y'. a_handler (suc d) (λ h'. k (s.catch n' y' h')))))) (lexeme t.Name n.text n.span ∷ (lexeme t.In x.2 x.3 ∷ x.4))
      ∙ reads_at y as_whole most (suc d) x.4 x.7 x.8 (λ y'. a_handler (suc d) (λ h'. k (s.catch n y' h'))) ∙ reads_handler h most (suc d) x.7 rest x.9 (λ h'. k (s.catch n y h')))
      (to_place (wanted_as o) rest (handler_end h most (suc d) x.7 rest x.9 (whole_end y most (suc d) x.4 x.7 x.8))) (unweighted_by t.Catch x.0 x.1 (lexeme t.Name n.text n.span ∷ (lexeme t.In x.2 x.3 ∷ x.4)) ts most d x.5 refl)
  reads_at (s.trap n y h) o most d ts rest x =
      placed o most d (s.trap n y h) ts rest
      (λ k. ap (outcome most (an_item d k)) x.5 ∙ enter most (suc d) x.6 (a_name (λ n'. a_sign t.In (λ p. a_trace (suc d) (λ y'. a_handler (suc d) (λ h'. k (s.trap n' y' h')))))) (lexeme t.Name n.text n.span ∷ (lexeme t.In x.2 x.3 ∷ x.4))
      ∙ reads_at y as_whole most (suc d) x.4 x.7 x.8 (λ y'. a_handler (suc d) (λ h'. k (s.trap n y' h'))) ∙ reads_handler h most (suc d) x.7 rest x.9 (λ h'. k (s.trap n y h')))
      (to_place (wanted_as o) rest (handler_end h most (suc d) x.7 rest x.9 (whole_end y most (suc d) x.4 x.7 x.8))) (unweighted_by t.Trap x.0 x.1 (lexeme t.Name n.text n.span ∷ (lexeme t.In x.2 x.3 ∷ x.4)) ts most d x.5 refl)
  reads_at (s.try y h) o most d ts rest x =
      placed o most d (s.try y h) ts rest
      (λ k. ap (outcome most (an_item d k)) x.3 ∙ enter most (suc d) x.4 (a_trace (suc d) (λ y'. a_handler (suc d) (λ h'. k (s.try y' h')))) x.2
      ∙ reads_at y as_whole most (suc d) x.2 x.5 x.6 (λ y'. a_handler (suc d) (λ h'. k (s.try y' h'))) ∙ reads_handler h most (suc d) x.5 rest x.7 (λ h'. k (s.try y h')))
      (to_place (wanted_as o) rest (handler_end h most (suc d) x.5 rest x.7 (whole_end y most (suc d) x.2 x.5 x.6))) (unweighted_by t.Try x.0 x.1 x.2 ts most d x.3 refl)
  reads_at (s.value e) o most d ts rest x =
      value_at o e most d ts rest x.0 x.2 (fully e most d ts rest (reads_exp e most d 0 ts rest x.0 (stands_zero e) (no_heads (λ op. rank op ≤ top e) rest x.1)) x.1)

  reads_sequence : (ys : Traces) (o : Mode) (most d : ℕ) (ts rest : Lexemes) → wanted_as o ≡ whole → DerivesSequence most d ts ys rest → ReadsAt o most d (s.sequence ys) ts rest
  reads_sequence s.no_traces o most d ts rest q x = absurd x
  reads_sequence (s.one_trace y ys) o most d ts rest q x =
      sequence_at o y ys most d ts x.0 rest q x.2 (more_uncolon ys most d x.0 rest x.2 x.3) (reads_at y as_part most d ts x.0 x.1) (reads_at y as_first most d ts x.0 x.1) (reads_more_parts ys most d x.0 rest x.3)

  reads_more_parts : (ys : Traces) (most d : ℕ) (ts rest : Lexemes) → DerivesMoreItems most d ts ys rest → (k : Traces → Goal) → outcome most (more_items d k) ts ≡ outcome most (k ys) rest
  reads_more_parts s.no_traces most d ts rest x k = ap (outcome most (more_items d k)) x.0 ∙ no_item most d k rest x.1
  reads_more_parts (s.one_trace y ys) most d ts rest x k =
      ap (outcome most (more_items d k)) x.3 ∙ reads_at y as_part most d x.2 x.4 x.5 (λ y'. more_items d (λ ys'. k (s.one_trace y' ys'))) ∙ reads_more_parts ys most d x.4 rest x.6 (λ ys'. k (s.one_trace y ys'))

  reads_handler : (h : MaybeTrace) (most d : ℕ) (ts rest : Lexemes) → DerivesHandler most d ts h rest → (k : MaybeTrace → Goal) → outcome most (a_handler d k) ts ≡ outcome most (k h) rest
  reads_handler s.no_trace most d ts rest x k = ap (outcome most (a_handler d k)) x.0 ∙ no_handler most d k rest x.1
  reads_handler (s.a_trace y) most d ts rest x k = ap (outcome most (a_handler d k)) x.3 ∙ reads_at y as_whole most d x.2 rest x.4 (λ y'. k (s.a_trace y'))

-- RUNS

-- an expression among others
reads_full : (e : Exp) (most d : ℕ) (ts rest : Lexemes) → DerivesExp most d ts e rest → IsNoOperator rest → (k : Exp → Goal) → outcome most (an_exp d 0 k) ts ≡ outcome most (k e) rest
reads_full e most d ts rest x c k = fully e most d ts rest (reads_exp e most d 0 ts rest x (stands_zero e) (no_heads (λ op. rank op ≤ top e) rest c)) c k

reads_more_expressions : (es : List Exp) (most d : ℕ) (ts rest : Lexemes) → DerivesMoreExpressions most d ts es rest → (k : List Exp → Goal) → outcome most (more_expressions d k) ts ≡ outcome most (k es) rest
reads_more_expressions [] most d ts rest x k = ap (outcome most (more_expressions d k)) x.2
reads_more_expressions (e ∷ es) most d ts rest x k =
    ap (outcome most (more_expressions d k)) x.3 ∙ reads_full e most d x.2 x.4 x.5 (expressions_closed es most d x.4 rest x.6) (λ e'. more_expressions d (λ es'. k (e' ∷ es')))
    ∙ reads_more_expressions es most d x.4 rest x.6 (λ es'. k (e ∷ es'))

reads_expressions : (es : List Exp) (most d : ℕ) (ts rest : Lexemes) → DerivesExpressions most d ts es rest → (k : List Exp → Goal) → outcome most (some_expressions d k) ts ≡ outcome most (k es) rest
reads_expressions [] most d ts rest x k = ap (outcome most (some_expressions d k)) x.2
reads_expressions (e ∷ es) most d ts rest x k =
    expressions_first e most d d ts x.0 x.1 k ∙ reads_full e most d ts x.0 x.1 (expressions_closed es most d x.0 rest x.2) (λ e'. more_expressions d (λ es'. k (e' ∷ es')))
    ∙ reads_more_expressions es most d x.0 rest x.2 (λ es'. k (e ∷ es'))

reads_run : (r : Run) (most d : ℕ) (ts rest : Lexemes) → DerivesRun most d ts r rest → (k : List Run → Trace → Goal)
    → outcome most (some_runs d k) ts ≡ outcome most (some_runs (suc d) (λ rs y. k (r ∷ rs) y)) rest
reads_run r most d ts rest x k =
    let j : Run → Goal = λ r'. some_runs (suc d) (λ rs y. k (r' ∷ rs) y) in
    let made : List Word → Word → List Exp → Span → Run = λ ns n es at. record { names = ns; node = n; arguments = es; span = at } in
    ap (outcome most (some_runs d k)) x.3 ∙ enter most (suc (suc d)) x.11 (run_goal (suc (suc d)) x.1 j) x.2
    ∙ reads_names r.names most x.2 (lexeme t.Assign x.5 x.6 ∷ (lexeme t.Name r.node.text r.node.span ∷ (lexeme t.Open x.7 x.8 ∷ x.9))) x.10
    (λ ns. a_sign t.Assign (λ p. a_name (λ n. a_sign t.Open (λ o. some_expressions (suc (suc d)) (λ es. a_sign t.In (λ q. j (made ns n es (across x.1 q))))))))
    ∙ reads_expressions r.arguments most (suc (suc d)) x.9 (lexeme t.In x.12 x.13 ∷ rest) x.14 (λ es. a_sign t.In (λ q. j (made r.names r.node es (across x.1 q))))
    ∙ (λ i. outcome most (j (made r.names r.node r.arguments (sym x.15 i))) rest)

reads_runs : (rs : List Run) (y : Trace) (most d : ℕ) (ts rest : Lexemes) → DerivesRuns most d ts rs y rest → (k : List Run → Trace → Goal) → outcome most (some_runs d k) ts ≡ outcome most (k rs y) rest
reads_runs [] y most d ts rest x k = runs_first y whole most d d ts rest x k ∙ reads_at y as_whole most d ts rest x (k [])
reads_runs (r ∷ rs) y most d ts rest x k = reads_run r most d ts x.0 x.1 k ∙ reads_runs rs y most (suc d) x.0 rest x.2 (λ rs' y'. k (r ∷ rs') y')

-- DECLARATIONS

reads_declaration : (y : Declaration) (most : ℕ) (ts rest : Lexemes) → DerivesDeclaration most ts y rest → (k : List Declaration → Goal) → outcome most (declarations k) ts ≡ outcome most (declarations (λ ys. k (y ∷ ys))) rest
reads_declaration (s.node n ins outs rs y) most ts rest x k =
    ap (outcome most (declarations k)) x.5
    ∙ enter most 1 x.6 (some_groups 1 (λ ins'. a_sign t.Returns (λ p. a_list 0 (λ outs'. a_sign t.Equal (λ q. some_runs 0 (λ rs' y'. declarations (λ ys. k (s.node n ins' outs' rs' y' ∷ ys)))))))) x.4
    ∙ reads_listed ins most 1 x.4 (lexeme t.Returns x.7 x.8 ∷ (lexeme t.Open x.9 x.10 ∷ x.11)) x.12 (λ ins'. a_sign t.Returns (λ p. a_list 0 (λ outs'. a_sign t.Equal (λ q. some_runs 0 (λ rs' y'. declarations (λ ys. k (s.node n ins' outs' rs' y' ∷ ys)))))))
    ∙ enter most 1 x.6 (some_groups 1 (λ outs'. a_sign t.Equal (λ q. some_runs 0 (λ rs' y'. declarations (λ ys. k (s.node n ins outs' rs' y' ∷ ys)))))) x.11
    ∙ reads_listed outs most 1 x.11 (lexeme t.Equal x.13 x.14 ∷ x.15) x.16 (λ outs'. a_sign t.Equal (λ q. some_runs 0 (λ rs' y'. declarations (λ ys. k (s.node n ins outs' rs' y' ∷ ys)))))
    ∙ reads_runs rs y most 0 x.15 rest x.17 (λ rs' y'. declarations (λ ys. k (s.node n ins outs rs' y' ∷ ys)))
reads_declaration (s.macro_declaration y) most ts rest x k =
    ap (outcome most (declarations k)) x.3 ∙ reads_macro y most 0 x.2 rest x.4 (λ y'. declarations (λ ys. k (s.macro_declaration y' ∷ ys)))
reads_declaration (s.exception_declaration ns) most ts rest x k =
    ap (outcome most (declarations k)) x.3 ∙ reads_names ns most x.2 rest x.4 (λ ns'. declarations (λ ys. k (s.exception_declaration ns' ∷ ys)))

-- What is spelled is read, whatever is wanted behind it.
pub reads_program : (ys : List Declaration) (most : ℕ) (ts : Lexemes) → SpellsWithin most ts ys → (k : List Declaration → Goal) → outcome most (declarations k) ts ≡ outcome most (k ys) []
reads_program [] most ts x k = ap (outcome most (declarations k)) x
reads_program (y ∷ ys) most ts x k = reads_declaration y most ts x.0 x.1 k ∙ reads_program ys most x.0 x.2 (λ zs. k (y ∷ zs))

-- What is spelled is read.
pub spelled_is_read : (ys : List Declaration) (most : ℕ) (ts : Lexemes) → SpellsWithin most ts ys → outcome most (declarations done) ts ≡ Ok (program_tree ys)
spelled_is_read ys most ts x = reads_program ys most ts x done

pub at_most_one : SpellsAtMostOne
at_most_one = λ most ts x y p q. let e : ◌≡◌ {A = Result Tree Stop} (Ok (program_tree x)) (Ok (program_tree y)) = sym (spelled_is_read x most ts p) ∙ spelled_is_read y most ts q in cc

pub reads_the_spelled : ReadsTheSpelled SpellsWithin program_tree (declarations done)
reads_the_spelled = λ most ts x p. spelled_is_read x most ts p

-- No operator is left at the end.
no_operator_at_end : IsNoOperator []
no_operator_at_end = λ op sign w at rest e e'. cc

-- An expression that is spelled is read.
pub expression_is_read : (e : Exp) (most : ℕ) (ts : Lexemes) → SpellsExpressionWithin most ts e → outcome most (whole_exp expression_done) ts ≡ Ok (expression_tree e)
expression_is_read e most ts x = reads_full e most 0 ts [] x no_operator_at_end expression_done

pub at_most_one_expression : (most : ℕ) (ts : Lexemes) (x y : Exp) → SpellsExpressionWithin most ts x → SpellsExpressionWithin most ts y → x ≡ y
at_most_one_expression most ts x y p q =
    let e : ◌≡◌ {A = Result Tree Stop} (Ok (expression_tree x)) (Ok (expression_tree y)) = sym (expression_is_read x most ts p) ∙ expression_is_read y most ts q in cc

pub reads_the_expression : ReadsTheSpelled SpellsExpressionWithin expression_tree (whole_exp expression_done)
reads_the_expression = λ most ts x p. expression_is_read x most ts p
