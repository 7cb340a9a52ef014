-- The tokens that a tree is written with.
use Rattle.std.specs.Prelude.{ℕ, Bool, true, false, List, [], ◌∷◌, ◌++◌, Option, Some, None}
use Rattle.std.specs.List.{flat_map}
use Rattle.lt_ast.specs.declared.sign.Sign.{Sign}
use Rattle.lt_ast.specs.declared.sign.Sign.TheVariants.{Name, Number, Node, Returns, Let, In, Exist, Bool as Bool', Int, Real, Trace as Trace', Ref, Fby, Loop, Assert, Raise, Catch, Do, Trap, Try, Exception, Pre, Not, And, Or, Xor, If, Then, Else, Div, Mod, True, False, Open, Close, OpenBrace, CloseBrace, OpenBracket, CloseBracket, Colon, Semicolon, Comma, Equal, Unequal, Less, LessEqual, Greater, GreaterEqual, Plus, Minus, Star, Slash, Implies, Bar, Priority, Parallel, Tilde, Run as Run', Assign}
use Rattle.lt_ast.specs.declared.group.TypeName.{TypeName}
use Rattle.lt_ast.specs.declared.group.TypeName.TheVariants as t
use Rattle.lt_ast.specs.declared.expr.UnOp.{UnOp}
use Rattle.lt_ast.specs.declared.expr.UnOp.TheVariants as u
use Rattle.lt_ast.specs.declared.expr.BinOp.{BinOp}
use Rattle.lt_ast.specs.declared.expr.BinOp.TheVariants as b
use Rattle.lt_ast.specs.Signs.{spelled}
use Rattle.lt_ast.specs.Syntax as s
use Rattle.lt_ast.specs.Syntax.{Word, Figure, WrittenRange, Exp, Argument, Arguments, Limits, Braces, Alternative, Alternatives, Trace, Traces, Grouping, Groupings, MaybeExp, MaybeTrace, Parameters, Meaning, Macro, Run, Declaration}

-- a token: its sign and its bytes
pub record Written : Type 0 where
  pub sign : Sign
  pub text : List ℕ

-- a keyword or a symbol
abbrev pub mark : Sign → Written
mark sign = record { sign = sign; text = spelled sign }

-- a name
abbrev pub name_token : Word → Written
name_token w = record { sign = Name; text = w.text }

-- a number without a sign
abbrev pub number_token : List ℕ → Written
number_token digits = record { sign = Number; text = digits }

-- a sign where it stands
abbrev pub marked_if : Bool → Sign → List Written
marked_if true sign = mark sign ∷ []
marked_if false sign = []

-- tokens between parentheses
abbrev pub in_parentheses : List Written → List Written
in_parentheses ts = mark Open ∷ (ts ++ (mark Close ∷ []))

-- tokens between braces
abbrev pub in_braces : List Written → List Written
in_braces ts = mark OpenBrace ∷ (ts ++ (mark CloseBrace ∷ []))

-- a number, with its minus
abbrev pub figure_tokens : Figure → List Written
figure_tokens f = marked_if f.minus Minus ++ (number_token f.text ∷ [])

-- the word of a truth
abbrev pub flag_sign : Bool → Sign
flag_sign true = True
flag_sign false = False

-- the sign of an operator with one operand
abbrev pub unary_sign : UnOp → Sign
unary_sign u.Neg = Minus
unary_sign u.Not = Not

-- the sign of an operator with two
abbrev pub binary_sign : BinOp → Sign
binary_sign b.Add = Plus
binary_sign b.Sub = Minus
binary_sign b.Mul = Star
binary_sign b.Div = Slash
binary_sign b.DivWord = Div
binary_sign b.Mod = Mod
binary_sign b.Eq = Equal
binary_sign b.Ne = Unequal
binary_sign b.Lt = Less
binary_sign b.Le = LessEqual
binary_sign b.Gt = Greater
binary_sign b.Ge = GreaterEqual
binary_sign b.And = And
binary_sign b.Or = Or
binary_sign b.Xor = Xor
binary_sign b.Implies = Implies

-- the word of a type
abbrev pub type_sign : TypeName → Sign
type_sign t.Bool = Bool'
type_sign t.Int = Int
type_sign t.Real = Real
type_sign t.Trace = Trace'

-- names with commas between them
abbrev pub more_names : List Word → List Written
more_names [] = []
more_names (w ∷ ws) = mark Comma ∷ (name_token w ∷ more_names ws)

-- names
abbrev pub names_tokens : List Word → List Written
names_tokens [] = []
names_tokens (w ∷ ws) = name_token w ∷ more_names ws

-- a step after its sign, where there is one
abbrev pub step_tokens : Option Figure → List Written
step_tokens None = []
step_tokens (Some f) = mark Semicolon ∷ figure_tokens f

-- a range, where there is one
abbrev pub range_tokens : Option WrittenRange → List Written
range_tokens None = []
range_tokens (Some r) = mark OpenBracket ∷ (figure_tokens r.low ++ (mark Semicolon ∷ (figure_tokens r.high ++ (step_tokens r.step ++ (mark CloseBracket ∷ [])))))

-- Lists with a sign between their parts are written as a first part and the parts after it, each after the sign.
abbrev mutual
  -- an expression
  pub exp_tokens : Exp → List Written
  exp_tokens (s.number f) = figure_tokens f
  exp_tokens (s.flag b at) = mark (flag_sign b) ∷ []
  exp_tokens (s.named w) = name_token w ∷ []
  exp_tokens (s.called w args) = name_token w ∷ in_parentheses (arguments_tokens args)
  exp_tokens (s.pre w at) = mark Pre ∷ (name_token w ∷ [])
  exp_tokens (s.paren e at) = in_parentheses (exp_tokens e)
  exp_tokens (s.unary op e at) = mark (unary_sign op) ∷ exp_tokens e
  exp_tokens (s.binary op e f at) = exp_tokens e ++ (mark (binary_sign op) ∷ exp_tokens f)
  exp_tokens (s.choose e f g at) = mark If ∷ (exp_tokens e ++ (mark Then ∷ (exp_tokens f ++ (mark Else ∷ exp_tokens g))))

  -- an argument
  pub argument_tokens : Argument → List Written
  argument_tokens (s.value_argument e) = exp_tokens e
  argument_tokens (s.trace_argument b at) = in_braces (braced_tokens b)

  -- arguments with commas between them
  pub arguments_tokens : Arguments → List Written
  arguments_tokens s.no_arguments = []
  arguments_tokens (s.argument a rest) = argument_tokens a ++ more_arguments rest

  -- the arguments after a first one
  pub more_arguments : Arguments → List Written
  more_arguments s.no_arguments = []
  more_arguments (s.argument a rest) = mark Comma ∷ (argument_tokens a ++ more_arguments rest)

  -- the bounds of a loop
  pub limits_tokens : Limits → List Written
  limits_tokens s.forever = []
  limits_tokens (s.between e f) = mark OpenBracket ∷ (exp_tokens e ++ (mark Comma ∷ (exp_tokens f ++ (mark CloseBracket ∷ []))))
  limits_tokens (s.around e f) = mark Tilde ∷ (exp_tokens e ++ (mark Colon ∷ exp_tokens f))

  -- what stands in braces
  pub braced_tokens : Braces → List Written
  braced_tokens (s.plain x) = trace_tokens x
  braced_tokens (s.choice lead ps) = marked_if lead Bar ++ alternatives_tokens ps
  braced_tokens (s.priority lead xs) = marked_if lead Priority ++ traces_tokens Priority xs
  braced_tokens (s.parallel lead xs) = marked_if lead Parallel ++ traces_tokens Parallel xs

  -- an alternative, after its weight
  pub alternative_tokens : Alternative → List Written
  alternative_tokens (s.unweighted x) = trace_tokens x
  alternative_tokens (s.weighted e x) = exp_tokens e ++ (mark Colon ∷ trace_tokens x)

  -- alternatives with bars between them
  pub alternatives_tokens : Alternatives → List Written
  alternatives_tokens s.no_alternatives = []
  alternatives_tokens (s.alternative p ps) = alternative_tokens p ++ more_alternatives ps

  -- the alternatives after a first one
  pub more_alternatives : Alternatives → List Written
  more_alternatives s.no_alternatives = []
  more_alternatives (s.alternative p ps) = mark Bar ∷ (alternative_tokens p ++ more_alternatives ps)

  -- traces with this sign between them
  pub traces_tokens : Sign → Traces → List Written
  traces_tokens sign s.no_traces = []
  traces_tokens sign (s.one_trace x xs) = trace_tokens x ++ more_traces sign xs

  -- the traces after a first one
  pub more_traces : Sign → Traces → List Written
  more_traces sign s.no_traces = []
  more_traces sign (s.one_trace x xs) = mark sign ∷ (trace_tokens x ++ more_traces sign xs)

  -- a group
  pub grouping_tokens : Grouping → List Written
  grouping_tokens (s.grouping ws kind by_ref range first) =
      names_tokens ws ++ (mark Colon ∷ (mark (type_sign kind) ∷ (marked_if by_ref Ref ++ (range_tokens range ++ first_tokens first))))

  -- groups with semicolons between them
  pub groupings_tokens : Groupings → List Written
  groupings_tokens s.no_groups = []
  groupings_tokens (s.one_group g gs) = grouping_tokens g ++ more_groupings gs

  -- the groups after a first one
  pub more_groupings : Groupings → List Written
  more_groupings s.no_groups = []
  more_groupings (s.one_group g gs) = mark Semicolon ∷ (grouping_tokens g ++ more_groupings gs)

  -- a first value after its sign
  pub first_tokens : MaybeExp → List Written
  first_tokens s.no_exp = []
  first_tokens (s.an_exp e) = mark Equal ∷ exp_tokens e

  -- what follows after `do`
  pub handler_tokens : MaybeTrace → List Written
  handler_tokens s.no_trace = []
  handler_tokens (s.a_trace x) = mark Do ∷ trace_tokens x

  -- parameters in their parentheses, where there is a list of them
  pub parameters_tokens : Parameters → List Written
  parameters_tokens s.no_parameters = []
  parameters_tokens (s.parameters gs) = in_parentheses (groupings_tokens gs)

  -- what a macro stands for
  pub meaning_tokens : Meaning → List Written
  meaning_tokens (s.trace_meaning x) = trace_tokens x
  meaning_tokens (s.value_meaning e) = exp_tokens e

  -- a macro after its `let`
  pub macro_rest : Macro → List Written
  macro_rest (s.macro w ps kind m) = name_token w ∷ (parameters_tokens ps ++ (mark Colon ∷ (mark (type_sign kind) ∷ (mark Equal ∷ meaning_tokens m))))

  -- a trace
  pub trace_tokens : Trace → List Written
  trace_tokens (s.sequence xs) = traces_tokens Fby xs
  trace_tokens (s.braces b at) = in_braces (braced_tokens b)
  trace_tokens (s.loop l x) = mark Loop ∷ (limits_tokens l ++ trace_tokens x)
  trace_tokens (s.raise w) = mark Raise ∷ (name_token w ∷ [])
  trace_tokens (s.assert e x) = mark Assert ∷ (exp_tokens e ++ (mark In ∷ trace_tokens x))
  trace_tokens (s.exist gs x) = mark Exist ∷ (groupings_tokens gs ++ (mark In ∷ trace_tokens x))
  trace_tokens (s.define m x) = mark Let ∷ (macro_rest m ++ (mark In ∷ trace_tokens x))
  trace_tokens (s.exceptions ws x) = mark Exception ∷ (names_tokens ws ++ (mark In ∷ trace_tokens x))
  trace_tokens (s.catch w x h) = mark Catch ∷ (name_token w ∷ (mark In ∷ (trace_tokens x ++ handler_tokens h)))
  trace_tokens (s.trap w x h) = mark Trap ∷ (name_token w ∷ (mark In ∷ (trace_tokens x ++ handler_tokens h)))
  trace_tokens (s.try x h) = mark Try ∷ (trace_tokens x ++ handler_tokens h)
  trace_tokens (s.value e) = exp_tokens e

-- a macro
abbrev pub macro_tokens : Macro → List Written
macro_tokens m = mark Let ∷ macro_rest m

-- the expressions after a first one
abbrev pub more_expressions : List Exp → List Written
more_expressions [] = []
more_expressions (e ∷ es) = mark Comma ∷ (exp_tokens e ++ more_expressions es)

-- expressions with commas between them
abbrev pub expressions_tokens : List Exp → List Written
expressions_tokens [] = []
expressions_tokens (e ∷ es) = exp_tokens e ++ more_expressions es

-- a run of a node, with the `in` after it
abbrev pub run_tokens : Run → List Written
run_tokens r =
    mark Run' ∷ (names_tokens r.names ++ (mark Assign ∷ (name_token r.node
    ∷ (in_parentheses (expressions_tokens r.arguments) ++ (mark In ∷ [])))))

-- a declaration
abbrev pub declaration_tokens : Declaration → List Written
declaration_tokens (s.node w ins outs rs x) =
    mark Node ∷ (name_token w ∷ (in_parentheses (groupings_tokens ins)
    ++ (mark Returns ∷ (in_parentheses (groupings_tokens outs)
    ++ (mark Equal ∷ (flat_map run_tokens rs ++ trace_tokens x))))))
declaration_tokens (s.macro_declaration m) = macro_tokens m
declaration_tokens (s.exception_declaration ws) = mark Exception ∷ names_tokens ws

-- the tokens of a program, in order
abbrev pub tokens_of : List Declaration → List Written
tokens_of ds = flat_map declaration_tokens ds
