-- A program is written with the tokens that spell it.
use Rattle.std.proofs.Common.{◌≡◌, ℕ, suc, List, [], ◌∷◌, ◌++◌, map, append_assoc, refl, sym, ◌∙◌, ap, subst, Bool, true, false, Option, Some, None}
use Rattle.std.specs.List.{flat_map}
use Rattle.lt_ast.specs.declared.sign.Sign.{Sign}
use Rattle.lt_ast.specs.declared.sign.Sign.TheVariants as t
use Rattle.lt_ast.specs.declared.span.Span.{Span}
use Rattle.lt_ast.specs.declared.group.TypeName.{TypeName}
use Rattle.lt_ast.specs.declared.group.TypeName.TheVariants as ty
use Rattle.lt_ast.specs.declared.expr.UnOp.{UnOp}
use Rattle.lt_ast.specs.declared.expr.UnOp.TheVariants as u
use Rattle.lt_ast.specs.declared.expr.BinOp.{BinOp}
use Rattle.lt_ast.specs.declared.expr.BinOp.TheVariants as b
use Rattle.lt_ast.specs.Signs.{spelled}
use Rattle.lt_ast.specs.Syntax as s
use Rattle.lt_ast.specs.Syntax.{Word, Figure, WrittenRange, Exp, Argument, Arguments, Limits, Braces, Alternative, Alternatives, Trace, Traces, Grouping, Groupings, MaybeExp, MaybeTrace, Parameters, Meaning, Macro, Run, Declaration}
use Rattle.lt_ast.specs.Tokens.{Written, mark, name_token, number_token, marked_if, figure_tokens, flag_sign, unary_sign, binary_sign, type_sign, more_names, names_tokens, range_tokens, step_tokens, exp_tokens, argument_tokens, arguments_tokens, more_arguments, limits_tokens, braced_tokens, alternative_tokens, alternatives_tokens, more_alternatives, trace_tokens, traces_tokens, more_traces, grouping_tokens, groupings_tokens, more_groupings, first_tokens, handler_tokens, parameters_tokens, meaning_tokens, macro_rest, more_expressions, expressions_tokens, run_tokens, declaration_tokens, tokens_of}
use Rattle.lt_grammar.specs.Lexemes.{Lexemes, lexeme}
use Rattle.lt_grammar.specs.Grammar.{opened, Place, whole, item, DerivesNames, DerivesMoreNames, DerivesNumber, DerivesFigure, DerivesRange, DerivesStep, DerivesRef, DerivesExp, DerivesArgument, DerivesArguments, DerivesMoreArguments, DerivesBraced, DerivesChoice, DerivesUnweighted, DerivesMoreAlternatives, DerivesAlternative, DerivesTraces, DerivesMoreTraces, DerivesLimits, DerivesBound, DerivesGrouping, DerivesFirst, DerivesGroups, DerivesMoreGroups, DerivesParameters, DerivesMeaning, DerivesMacro, DerivesTrace, DerivesSequence, DerivesMoreItems, DerivesHandler, HasAlternative, HasTrace, DerivesMoreExpressions, DerivesExpressions, DerivesRun, DerivesRuns, DerivesDeclaration, SpellsWithin}
use Rattle.lt_grammar.specs.Written.{written_of, IsSpelled, AreSpelled, WrittenAsSpelled}

-- Where each of them has the letters of its sign, they are written with these tokens and then the rest, and so has each of the rest.
record Writes (ts : Lexemes) (tokens : List Written) (rest : Lexemes) : Type 0 where
  by : AreSpelled ts → (map written_of ts ≡ tokens ++ map written_of rest) × AreSpelled rest

-- SEQUENCES OF TOKENS

-- a sign that is no name and no number
abbrev is_mark : Sign → Bool
is_mark t.Name = false
is_mark t.Number = false
is_mark sign = true

-- A keyword or a symbol has the letters of its sign.
mark_spelled : (sign : Sign) (w : List ℕ) (p : Span) → is_mark sign ≡ true → IsSpelled (lexeme sign w p) → w ≡ spelled sign
mark_spelled t.Name w p k h = cc
mark_spelled t.Number w p k h = cc
mark_spelled sign w p k h = h

-- They are written with no token, and then themselves.
none : {ts : Lexemes} → Writes ts [] ts
none = record { by = λ h. (refl, h) }

-- Equal ones are written with the same tokens.
from : {ts us rest : Lexemes} {tokens : List Written} → ts ≡ us → Writes us tokens rest → Writes ts tokens rest
from e f = record { by = λ h. let p = f.by (subst AreSpelled e h) in (ap (map written_of) e ∙ p.0, p.1) }

-- a keyword or a symbol, and then what follows it
put : {w : List ℕ} {p : Span} {m rest : Lexemes} {tokens : List Written} → (sign : Sign) → is_mark sign ≡ true → Writes m tokens rest → Writes (lexeme sign w p ∷ m) (mark sign ∷ tokens) rest
put {w = w} {p = p} sign k f = record { by = λ h. let q = f.by h.1 in ((λ i. record { sign = sign; text = mark_spelled sign w p k h.0 i } ∷ q.0 i), q.1) }

-- a name, and then what follows it
put_name : {m rest : Lexemes} {tokens : List Written} → (n : Word) → Writes m tokens rest → Writes (lexeme t.Name n.text n.span ∷ m) (name_token n ∷ tokens) rest
put_name n f = record { by = λ h. let q = f.by h.1 in (ap (λ ws. name_token n ∷ ws) q.0, q.1) }

-- a number without a sign
put_number : {at : Span} {rest : Lexemes} → (text : List ℕ) → Writes (lexeme t.Number text at ∷ rest) (number_token text ∷ []) rest
put_number text = record { by = λ h. (refl, h.1) }

-- a part, and then the next one
then : {ts m rest : Lexemes} {us vs : List Written} → Writes ts us m → Writes m vs rest → Writes ts (us ++ vs) rest
then {rest = rest} {us = us} {vs = vs} f g = record { by = λ h. let p = f.by h in let q = g.by p.1 in (p.0 ∙ ap (λ ws. us ++ ws) q.0 ∙ sym (append_assoc us vs (map written_of rest)), q.1) }

-- The tokens may be grouped from the left.
grouped : {ts rest : Lexemes} → (us vs ws : List Written) → Writes ts (us ++ (vs ++ ws)) rest → Writes ts ((us ++ vs) ++ ws) rest
grouped {ts = ts} {rest = rest} us vs ws f = subst (λ tokens. Writes ts tokens rest) (sym (append_assoc us vs ws)) f

-- They may be grouped from the right.
ungrouped : {ts rest : Lexemes} → (us vs ws : List Written) → Writes ts ((us ++ vs) ++ ws) rest → Writes ts (us ++ (vs ++ ws)) rest
ungrouped {ts = ts} {rest = rest} us vs ws f = subst (λ tokens. Writes ts tokens rest) (append_assoc us vs ws) f

-- The word of a truth is a mark.
flag_mark : (c : Bool) → is_mark (flag_sign c) ≡ true
flag_mark true = refl
flag_mark false = refl

-- The sign of an operator with one operand is a mark.
unary_mark : (op : UnOp) → is_mark (unary_sign op) ≡ true
unary_mark u.Neg = refl
unary_mark u.Not = refl

-- The sign of an operator with two operands is a mark.
binary_mark : (op : BinOp) → is_mark (binary_sign op) ≡ true
binary_mark b.Add = refl
binary_mark b.Sub = refl
binary_mark b.Mul = refl
binary_mark b.Div = refl
binary_mark b.DivWord = refl
binary_mark b.Mod = refl
binary_mark b.Eq = refl
binary_mark b.Ne = refl
binary_mark b.Lt = refl
binary_mark b.Le = refl
binary_mark b.Gt = refl
binary_mark b.Ge = refl
binary_mark b.And = refl
binary_mark b.Or = refl
binary_mark b.Xor = refl
binary_mark b.Implies = refl

-- The word of a type is a mark.
type_mark : (kind : TypeName) → is_mark (type_sign kind) ≡ true
type_mark ty.Bool = refl
type_mark ty.Int = refl
type_mark ty.Real = refl
type_mark ty.Trace = refl

-- NAMES, NUMBERS, RANGES

-- the names after a first one
more_names_written : (ns : List Word) (ts rest : Lexemes) → DerivesMoreNames ts ns rest → Writes ts (more_names ns) rest
more_names_written [] ts rest x = from x.0 none
more_names_written (n ∷ ns) ts rest x = from x.3 (put t.Comma refl (put_name n (more_names_written ns x.2 rest x.4)))

-- names
names_written : (ns : List Word) (ts rest : Lexemes) → DerivesNames ts ns rest → Writes ts (names_tokens ns) rest
names_written [] ts rest x = absurd x
names_written (n ∷ ns) ts rest x = from x.1 (put_name n (more_names_written ns x.0 rest x.2))

-- a number, with a minus or without one
number_written : (c : Bool) (text : List ℕ) (at : Span) (ts rest : Lexemes) → DerivesNumber ts c text at rest → Writes ts (marked_if c t.Minus ++ (number_token text ∷ [])) rest
number_written false text at ts rest x = from x (put_number text)
number_written true text at ts rest x = from x.3 (put t.Minus refl (put_number text))

-- the number of a tree, with a minus or without one
figure_written : (f : Figure) (ts rest : Lexemes) → DerivesFigure ts f rest → Writes ts (figure_tokens f) rest
figure_written f ts rest x = number_written f.minus f.text f.span ts rest x

-- a number of a tree that has no minus
plain_written : (f : Figure) (ts rest : Lexemes) → f.minus ≡ false → ts ≡ lexeme t.Number f.text f.span ∷ rest → Writes ts (figure_tokens f) rest
plain_written f ts rest e x = subst (λ c. Writes ts (marked_if c t.Minus ++ (number_token f.text ∷ [])) rest) (sym e) (from x (put_number f.text))

-- a step, where it is there
step_written : (f : Option Figure) (ts rest : Lexemes) → DerivesStep ts f rest → Writes ts (step_tokens f) rest
step_written None ts rest x = from x.0 none
step_written (Some f) ts rest x = from x.3 (put t.Semicolon refl (figure_written f x.2 rest x.4))

-- a range, where it is there
range_written : (r : Option WrittenRange) (ts rest : Lexemes) → DerivesRange ts r rest → Writes ts (range_tokens r) rest
range_written None ts rest x = from x.0 none
range_written (Some r) ts rest x =
    from x.3 (put t.OpenBracket refl (then (figure_written r.low x.2 (lexeme t.Semicolon x.4 x.5 ∷ x.6) x.7) (put t.Semicolon refl
    (then (figure_written r.high x.6 x.8 x.9) (then (step_written r.step x.8 (lexeme t.CloseBracket x.10 x.11 ∷ rest) x.12) (put t.CloseBracket refl none))))))

-- `ref`, where it is there
ref_written : (c : Bool) (ts rest : Lexemes) → DerivesRef ts c rest → Writes ts (marked_if c t.Ref) rest
ref_written false ts rest x = from x.0 none
ref_written true ts rest x = from x.2 (put t.Ref refl none)

-- LEADING SIGNS

-- Alternatives after a leading bar are alternatives each after a bar.
alternatives_after_sign : (ps : Alternatives) (ts rest : Lexemes) → HasAlternative ps → Writes ts (more_alternatives ps ++ (mark t.CloseBrace ∷ [])) rest
    → Writes ts ((mark t.Bar ∷ alternatives_tokens ps) ++ (mark t.CloseBrace ∷ [])) rest
alternatives_after_sign s.no_alternatives ts rest n f = absurd n
alternatives_after_sign (s.alternative p ps) ts rest n f = f

-- Traces after a leading sign are traces each after the sign.
traces_after_sign : (sign : Sign) (xs : Traces) (ts rest : Lexemes) → HasTrace xs → Writes ts (more_traces sign xs ++ (mark t.CloseBrace ∷ [])) rest
    → Writes ts ((mark sign ∷ traces_tokens sign xs) ++ (mark t.CloseBrace ∷ [])) rest
traces_after_sign sign s.no_traces ts rest n f = absurd n
traces_after_sign sign (s.one_trace x xs) ts rest n f = f

-- EXPRESSIONS AND TRACES

mutual
  -- an expression
  exp_written : (e : Exp) (most d : ℕ) (ts rest : Lexemes) → DerivesExp most d ts e rest → Writes ts (exp_tokens e) rest
  exp_written (s.number f) most d ts rest x = plain_written f ts rest x.0 x.1
  exp_written (s.flag c at) most d ts rest x = from x.1 (put (flag_sign c) (flag_mark c) none)
  exp_written (s.named n) most d ts rest x = from x.0 (put_name n none)
  exp_written (s.called n args) most d ts rest x = from x.3 (put_name n (put t.Open refl (arguments_written args most (suc d) x.2 rest x.5)))
  exp_written (s.pre n at) most d ts rest x = from x.2 (put t.Pre refl (put_name n none))
  exp_written (s.paren e at) most d ts rest x = from x.3 (put t.Open refl (then (exp_written e most (suc d) x.2 (lexeme t.Close x.5 x.6 ∷ rest) x.7) (put t.Close refl none)))
  exp_written (s.unary op e at) most d ts rest x = from x.3 (put (unary_sign op) (unary_mark op) (exp_written e most (suc d) x.2 rest x.6))
  exp_written (s.binary op e f at) most d ts rest x =
      then (exp_written e most d ts (lexeme (binary_sign op) x.3 x.4 ∷ x.5) x.6) (put (binary_sign op) (binary_mark op) (exp_written f most (opened op d) x.5 rest x.7))
  exp_written (s.choose e f g at) most d ts rest x =
      from x.3 (put t.If refl (then (exp_written e most (suc d) x.2 (lexeme t.Then x.5 x.6 ∷ x.7) x.8) (put t.Then refl
      (then (exp_written f most (suc d) x.7 (lexeme t.Else x.9 x.10 ∷ x.11) x.12) (put t.Else refl (exp_written g most (suc d) x.11 rest x.13))))))

  -- an argument
  argument_written : (a : Argument) (most d : ℕ) (ts rest : Lexemes) → DerivesArgument most d ts a rest → Writes ts (argument_tokens a) rest
  argument_written (s.value_argument e) most d ts rest x = exp_written e most d ts rest x
  argument_written (s.trace_argument y at) most d ts rest x = from x.3 (put t.OpenBrace refl (braced_written y most (suc d) x.5 x.2 rest x.6))

  -- arguments and the `)` after them
  arguments_written : (args : Arguments) (most d : ℕ) (ts rest : Lexemes) → DerivesArguments most d ts args rest → Writes ts (arguments_tokens args ++ (mark t.Close ∷ [])) rest
  arguments_written s.no_arguments most d ts rest x = from x.2 (put t.Close refl none)
  arguments_written (s.argument a more) most d ts rest x =
      grouped (argument_tokens a) (more_arguments more) (mark t.Close ∷ []) (then (argument_written a most d ts x.0 x.1) (more_arguments_written more most d x.0 rest x.2))

  -- the arguments after a first one, and the `)`
  more_arguments_written : (args : Arguments) (most d : ℕ) (ts rest : Lexemes) → DerivesMoreArguments most d ts args rest → Writes ts (more_arguments args ++ (mark t.Close ∷ [])) rest
  more_arguments_written s.no_arguments most d ts rest x = from x.2 (put t.Close refl none)
  more_arguments_written (s.argument a more) most d ts rest x =
      from x.3 (put t.Comma refl (grouped (argument_tokens a) (more_arguments more) (mark t.Close ∷ [])
      (then (argument_written a most d x.2 x.4 x.5) (more_arguments_written more most d x.4 rest x.6))))

  -- what stands in braces, and the `}` after it
  braced_written : (y : Braces) (most d : ℕ) (q : Span) (ts rest : Lexemes) → DerivesBraced most d ts y q rest → Writes ts (braced_tokens y ++ (mark t.CloseBrace ∷ [])) rest
  braced_written (s.plain y) most d q ts rest x = then (trace_written y whole most d ts (lexeme t.CloseBrace x.0 q ∷ rest) x.1) (put t.CloseBrace refl none)
  braced_written (s.choice true ps) most d q ts rest x = alternatives_after_sign ps ts rest x.0 (more_alternatives_written ps most d q ts rest x.1)
  braced_written (s.choice false ps) most d q ts rest x = choice_written ps most d q ts rest x
  braced_written (s.priority true ys) most d q ts rest x = traces_after_sign t.Priority ys ts rest x.0 (more_traces_written ys t.Priority refl most d q ts rest x.1)
  braced_written (s.priority false ys) most d q ts rest x = traces_written ys t.Priority refl most d q ts rest x
  braced_written (s.parallel true ys) most d q ts rest x = traces_after_sign t.Parallel ys ts rest x.0 (more_traces_written ys t.Parallel refl most d q ts rest x.1)
  braced_written (s.parallel false ys) most d q ts rest x = traces_written ys t.Parallel refl most d q ts rest x

  -- a choice that no `|` leads, and the `}`
  choice_written : (ps : Alternatives) (most d : ℕ) (q : Span) (ts rest : Lexemes) → DerivesChoice most d ts ps q rest → Writes ts (alternatives_tokens ps ++ (mark t.CloseBrace ∷ [])) rest
  choice_written s.no_alternatives most d q ts rest x = absurd x
  choice_written (s.alternative a more) most d q ts rest x =
      grouped (alternative_tokens a) (more_alternatives more) (mark t.CloseBrace ∷ []) (then (unweighted_written a most d ts x.0 x.1) (more_alternatives_written more most d q x.0 rest x.3))

  -- an alternative without a weight
  unweighted_written : (a : Alternative) (most d : ℕ) (ts rest : Lexemes) → DerivesUnweighted most d ts a rest → Writes ts (alternative_tokens a) rest
  unweighted_written (s.unweighted y) most d ts rest x = trace_written y whole most d ts rest x
  unweighted_written (s.weighted e y) most d ts rest x = absurd x

  -- alternatives, each after a `|`, and the `}`
  more_alternatives_written : (ps : Alternatives) (most d : ℕ) (q : Span) (ts rest : Lexemes) → DerivesMoreAlternatives most d ts ps q rest
      → Writes ts (more_alternatives ps ++ (mark t.CloseBrace ∷ [])) rest
  more_alternatives_written s.no_alternatives most d q ts rest x = from x.1 (put t.CloseBrace refl none)
  more_alternatives_written (s.alternative a more) most d q ts rest x =
      from x.3 (put t.Bar refl (grouped (alternative_tokens a) (more_alternatives more) (mark t.CloseBrace ∷ [])
      (then (alternative_written a most d x.2 x.4 x.5) (more_alternatives_written more most d q x.4 rest x.6))))

  -- an alternative, with a weight or without one
  alternative_written : (a : Alternative) (most d : ℕ) (ts rest : Lexemes) → DerivesAlternative most d ts a rest → Writes ts (alternative_tokens a) rest
  alternative_written (s.unweighted y) most d ts rest x = trace_written y whole most d ts rest x.0
  alternative_written (s.weighted e y) most d ts rest x = then (exp_written e most d ts (lexeme t.Colon x.0 x.1 ∷ x.2) x.3) (put t.Colon refl (trace_written y whole most d x.2 rest x.4))

  -- traces with this sign between them, and the `}`
  traces_written : (ys : Traces) (sign : Sign) (k : is_mark sign ≡ true) (most d : ℕ) (q : Span) (ts rest : Lexemes) → DerivesTraces most d sign ts ys q rest
      → Writes ts (traces_tokens sign ys ++ (mark t.CloseBrace ∷ [])) rest
  traces_written s.no_traces sign k most d q ts rest x = absurd x
  traces_written (s.one_trace y ys) sign k most d q ts rest x =
      grouped (trace_tokens y) (more_traces sign ys) (mark t.CloseBrace ∷ []) (then (trace_written y whole most d ts x.0 x.1) (more_traces_written ys sign k most d q x.0 rest x.3))

  -- traces, each after this sign, and the `}`
  more_traces_written : (ys : Traces) (sign : Sign) (k : is_mark sign ≡ true) (most d : ℕ) (q : Span) (ts rest : Lexemes) → DerivesMoreTraces most d sign ts ys q rest
      → Writes ts (more_traces sign ys ++ (mark t.CloseBrace ∷ [])) rest
  more_traces_written s.no_traces sign k most d q ts rest x = from x.1 (put t.CloseBrace refl none)
  more_traces_written (s.one_trace y ys) sign k most d q ts rest x =
      from x.3 (put sign k (grouped (trace_tokens y) (more_traces sign ys) (mark t.CloseBrace ∷ [])
      (then (trace_written y whole most d x.2 x.4 x.5) (more_traces_written ys sign k most d q x.4 rest x.6))))

  -- the bounds of a loop
  limits_written : (l : Limits) (most d : ℕ) (ts rest : Lexemes) → DerivesLimits most d ts l rest → Writes ts (limits_tokens l) rest
  limits_written s.forever most d ts rest x = from x.0 none
  limits_written (s.between e f) most d ts rest x =
      from x.3 (put t.OpenBracket refl (then (exp_written e most d x.2 (lexeme t.Comma x.4 x.5 ∷ x.6) x.7) (put t.Comma refl
      (then (exp_written f most d x.6 (lexeme t.CloseBracket x.8 x.9 ∷ rest) x.10) (put t.CloseBracket refl none)))))
  limits_written (s.around e f) most d ts rest x =
      from x.3 (put t.Tilde refl (then (bound_written e most d x.2 (lexeme t.Colon x.4 x.5 ∷ x.6) x.7) (put t.Colon refl (bound_written f most d x.6 rest x.8))))

  -- a number, a name without arguments, or an expression in parentheses
  bound_written : (e : Exp) (most d : ℕ) (ts rest : Lexemes) → DerivesBound most d ts e rest → Writes ts (exp_tokens e) rest
  bound_written (s.number f) most d ts rest x = plain_written f ts rest x.0 x.1
  bound_written (s.named n) most d ts rest x = from x (put_name n none)
  bound_written (s.paren e at) most d ts rest x = from x.3 (put t.Open refl (then (exp_written e most (suc d) x.2 (lexeme t.Close x.5 x.6 ∷ rest) x.7) (put t.Close refl none)))
  bound_written e most d ts rest x = absurd x

  -- names of a type
  grouping_written : (g : Grouping) (most d : ℕ) (ts rest : Lexemes) → DerivesGrouping most d ts g rest → Writes ts (grouping_tokens g) rest
  grouping_written (s.grouping ns kind c r f) most d ts rest x =
      then (names_written ns ts (lexeme t.Colon x.0 x.1 ∷ (lexeme (type_sign kind) x.2 x.3 ∷ x.4)) x.5)
      (put t.Colon refl (put (type_sign kind) (type_mark kind) (then (ref_written c x.4 x.6 x.7) (then (range_written r x.6 x.8 x.9) (first_written f most d x.8 rest x.10)))))

  -- a first value, where it is there
  first_written : (f : MaybeExp) (most d : ℕ) (ts rest : Lexemes) → DerivesFirst most d ts f rest → Writes ts (first_tokens f) rest
  first_written s.no_exp most d ts rest x = from x.0 none
  first_written (s.an_exp e) most d ts rest x = from x.3 (put t.Equal refl (exp_written e most d x.2 rest x.4))

  -- groups and the sign that ends them
  groups_written : (gs : Groupings) (end : Sign) (k : is_mark end ≡ true) (most d : ℕ) (ts rest : Lexemes) → DerivesGroups most d end ts gs rest
      → Writes ts (groupings_tokens gs ++ (mark end ∷ [])) rest
  groups_written s.no_groups end k most d ts rest x = from x.2 (put end k none)
  groups_written (s.one_group g more) end k most d ts rest x =
      grouped (grouping_tokens g) (more_groupings more) (mark end ∷ []) (then (grouping_written g most d ts x.0 x.1) (more_groups_written more end k most d x.0 rest x.2))

  -- the groups after a first one, and the sign that ends them
  more_groups_written : (gs : Groupings) (end : Sign) (k : is_mark end ≡ true) (most d : ℕ) (ts rest : Lexemes) → DerivesMoreGroups most d end ts gs rest
      → Writes ts (more_groupings gs ++ (mark end ∷ [])) rest
  more_groups_written s.no_groups end k most d ts rest x = from x.2 (put end k none)
  more_groups_written (s.one_group g more) end k most d ts rest x =
      from x.3 (put t.Semicolon refl (grouped (grouping_tokens g) (more_groupings more) (mark end ∷ [])
      (then (grouping_written g most d x.2 x.4 x.5) (more_groups_written more end k most d x.4 rest x.6))))

  -- the parameters of a macro, where a list of them is there
  parameters_written : (ps : Parameters) (most d : ℕ) (ts rest : Lexemes) → DerivesParameters most d ts ps rest → Writes ts (parameters_tokens ps) rest
  parameters_written s.no_parameters most d ts rest x = from x.0 none
  parameters_written (s.parameters gs) most d ts rest x = from x.3 (put t.Open refl (groups_written gs t.Close refl most (suc d) x.2 rest x.5))

  -- what a macro stands for
  meaning_written : (y : Meaning) (most d : ℕ) (ts rest : Lexemes) → DerivesMeaning most d ts y rest → Writes ts (meaning_tokens y) rest
  meaning_written (s.trace_meaning y) most d ts rest x = trace_written y whole most d ts rest x
  meaning_written (s.value_meaning e) most d ts rest x = exp_written e most d ts rest x.0

  -- a macro after its `let`
  macro_written : (y : Macro) (most d : ℕ) (ts rest : Lexemes) → DerivesMacro most d ts y rest → Writes ts (macro_rest y) rest
  macro_written (s.macro n ps kind y) most d ts rest x =
      from x.1 (put_name n (then (parameters_written ps most d x.0 (lexeme t.Colon x.2 x.3 ∷ (lexeme (type_sign kind) x.4 x.5 ∷ (lexeme t.Equal x.6 x.7 ∷ x.8))) x.9)
      (put t.Colon refl (put (type_sign kind) (type_mark kind) (put t.Equal refl (meaning_written y most d x.8 rest x.11))))))

  -- a trace
  trace_written : (y : Trace) (place : Place) (most d : ℕ) (ts rest : Lexemes) → DerivesTrace most d place ts y rest → Writes ts (trace_tokens y) rest
  trace_written (s.sequence ys) place most d ts rest x = sequence_written ys most d ts rest x.1
  trace_written (s.braces y at) place most d ts rest x = from x.3 (put t.OpenBrace refl (braced_written y most (suc d) x.5 x.2 rest x.6))
  trace_written (s.loop l y) place most d ts rest x = from x.3 (put t.Loop refl (then (limits_written l most (suc d) x.2 x.5 x.6) (trace_written y item most (suc d) x.5 rest x.7)))
  trace_written (s.raise n) place most d ts rest x = from x.2 (put t.Raise refl (put_name n none))
  trace_written (s.assert e y) place most d ts rest x =
      from x.3 (put t.Assert refl (then (exp_written e most (suc d) x.2 (lexeme t.In x.5 x.6 ∷ x.7) x.8) (put t.In refl (trace_written y whole most (suc d) x.7 rest x.9))))
  trace_written (s.exist gs y) place most d ts rest x =
      from x.3 (put t.Exist refl (ungrouped (groupings_tokens gs) (mark t.In ∷ []) (trace_tokens y)
      (then (groups_written gs t.In refl most (suc d) x.2 x.6 x.7) (trace_written y whole most (suc d) x.6 rest x.8))))
  trace_written (s.define z y) place most d ts rest x =
      from x.3 (put t.Let refl (then (macro_written z most (suc d) x.2 (lexeme t.In x.5 x.6 ∷ x.7) x.8) (put t.In refl (trace_written y whole most (suc d) x.7 rest x.9))))
  trace_written (s.exceptions ns y) place most d ts rest x =
      from x.3 (put t.Exception refl (then (names_written ns x.2 (lexeme t.In x.5 x.6 ∷ x.7) x.8) (put t.In refl (trace_written y whole most (suc d) x.7 rest x.9))))
  trace_written (s.catch n y h) place most d ts rest x =
      from x.5 (put t.Catch refl (put_name n (put t.In refl (then (trace_written y whole most (suc d) x.4 x.7 x.8) (handler_written h most (suc d) x.7 rest x.9)))))
  trace_written (s.trap n y h) place most d ts rest x =
      from x.5 (put t.Trap refl (put_name n (put t.In refl (then (trace_written y whole most (suc d) x.4 x.7 x.8) (handler_written h most (suc d) x.7 rest x.9)))))
  trace_written (s.try y h) place most d ts rest x = from x.3 (put t.Try refl (then (trace_written y whole most (suc d) x.2 x.5 x.6) (handler_written h most (suc d) x.5 rest x.7)))
  trace_written (s.value e) place most d ts rest x = exp_written e most d ts rest x.0

  -- a sequence
  sequence_written : (ys : Traces) (most d : ℕ) (ts rest : Lexemes) → DerivesSequence most d ts ys rest → Writes ts (traces_tokens t.Fby ys) rest
  sequence_written s.no_traces most d ts rest x = absurd x
  sequence_written (s.one_trace y ys) most d ts rest x = then (trace_written y item most d ts x.0 x.1) (more_items_written ys most d x.0 rest x.3)

  -- the items after a first one
  more_items_written : (ys : Traces) (most d : ℕ) (ts rest : Lexemes) → DerivesMoreItems most d ts ys rest → Writes ts (more_traces t.Fby ys) rest
  more_items_written s.no_traces most d ts rest x = from x.0 none
  more_items_written (s.one_trace y ys) most d ts rest x = from x.3 (put t.Fby refl (then (trace_written y item most d x.2 x.4 x.5) (more_items_written ys most d x.4 rest x.6)))

  -- what follows a `do`
  handler_written : (h : MaybeTrace) (most d : ℕ) (ts rest : Lexemes) → DerivesHandler most d ts h rest → Writes ts (handler_tokens h) rest
  handler_written s.no_trace most d ts rest x = from x.0 none
  handler_written (s.a_trace y) most d ts rest x = from x.3 (put t.Do refl (trace_written y whole most d x.2 rest x.4))

-- RUNS

-- the expressions after a first one, and the `)` after them
more_expressions_written : (es : List Exp) (most d : ℕ) (ts rest : Lexemes) → DerivesMoreExpressions most d ts es rest → Writes ts (more_expressions es ++ (mark t.Close ∷ [])) rest
more_expressions_written [] most d ts rest x = from x.2 (put t.Close refl none)
more_expressions_written (e ∷ es) most d ts rest x =
    from x.3 (put t.Comma refl (grouped (exp_tokens e) (more_expressions es) (mark t.Close ∷ [])
    (then (exp_written e most d x.2 x.4 x.5) (more_expressions_written es most d x.4 rest x.6))))

-- expressions, if any, and the `)` after them
expressions_written : (es : List Exp) (most d : ℕ) (ts rest : Lexemes) → DerivesExpressions most d ts es rest → Writes ts (expressions_tokens es ++ (mark t.Close ∷ [])) rest
expressions_written [] most d ts rest x = from x.2 (put t.Close refl none)
expressions_written (e ∷ es) most d ts rest x =
    grouped (exp_tokens e) (more_expressions es) (mark t.Close ∷ []) (then (exp_written e most d ts x.0 x.1) (more_expressions_written es most d x.0 rest x.2))

-- a run of a node, with the `in` after it
run_written : (r : Run) (most d : ℕ) (ts rest : Lexemes) → DerivesRun most d ts r rest → Writes ts (run_tokens r) rest
run_written r most d ts rest x =
    from x.3 (put t.Run refl (then (names_written r.names x.2 (lexeme t.Assign x.5 x.6 ∷ (lexeme t.Name r.node.text r.node.span ∷ (lexeme t.Open x.7 x.8 ∷ x.9))) x.10)
    (put t.Assign refl (put_name r.node (put t.Open refl (then (expressions_written r.arguments most (suc (suc d)) x.9 (lexeme t.In x.12 x.13 ∷ rest) x.14) (put t.In refl none)))))))

-- runs, if any, and the trace in them
runs_written : (rs : List Run) (y : Trace) (most d : ℕ) (ts rest : Lexemes) → DerivesRuns most d ts rs y rest → Writes ts (flat_map run_tokens rs ++ trace_tokens y) rest
runs_written [] y most d ts rest x = trace_written y whole most d ts rest x
runs_written (r ∷ rs) y most d ts rest x =
    grouped (run_tokens r) (flat_map run_tokens rs) (trace_tokens y) (then (run_written r most d ts x.0 x.1) (runs_written rs y most (suc d) x.0 rest x.2))

-- DECLARATIONS

-- a declaration
declaration_written : (y : Declaration) (most : ℕ) (ts rest : Lexemes) → DerivesDeclaration most ts y rest → Writes ts (declaration_tokens y) rest
declaration_written (s.node n ins outs rs y) most ts rest x =
    from x.5 (put t.Node refl (put_name n (put t.Open refl (then (groups_written ins t.Close refl most 1 x.4 (lexeme t.Returns x.7 x.8 ∷ (lexeme t.Open x.9 x.10 ∷ x.11)) x.12)
    (put t.Returns refl (put t.Open refl (then (groups_written outs t.Close refl most 1 x.11 (lexeme t.Equal x.13 x.14 ∷ x.15) x.16)
    (put t.Equal refl (runs_written rs y most 0 x.15 rest x.17)))))))))
declaration_written (s.macro_declaration y) most ts rest x = from x.3 (put t.Let refl (macro_written y most 0 x.2 rest x.4))
declaration_written (s.exception_declaration ns) most ts rest x = from x.3 (put t.Exception refl (names_written ns x.2 rest x.4))

-- a program
program_written : (ys : List Declaration) (most : ℕ) (ts : Lexemes) → AreSpelled ts → SpellsWithin most ts ys → map written_of ts ≡ tokens_of ys
program_written [] most ts h x = ap (map written_of) x
program_written (y ∷ ys) most ts h x =
    let p = (declaration_written y most ts x.0 x.1).by h in
    p.0 ∙ ap (λ ws. declaration_tokens y ++ ws) (program_written ys most x.0 p.1 x.2)

-- A program is written with the tokens that spell it.
pub written_as_spelled : WrittenAsSpelled
written_as_spelled = λ most ts x h p. program_written x most ts h p
