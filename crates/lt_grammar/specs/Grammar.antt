-- The grammar: which tokens are which tree.
--
-- Each relation says that tokens begin with a tree, and that a rest follows. At most `most` levels of nesting may be
-- open; `d` are open already. Where a part may be absent, the next token isn't one that would begin it: what is
-- optional is there wherever it can be, so that a form reaches as far right as it can.
use Rattle.std.specs.Prelude.{◌≡◌, ℕ, suc, ◌≤◌, List, [], ◌∷◌, Bool, true, false, Option, Some, None}
use Rattle.lt_ast.specs.declared.sign.Sign.{Sign}
use Rattle.lt_ast.specs.declared.sign.Sign.TheVariants as t
use Rattle.lt_ast.specs.declared.span.Span.{Span}
use Rattle.lt_ast.specs.declared.group.TypeName.{TypeName}
use Rattle.lt_ast.specs.declared.group.TypeName.TheVariants as ty
use Rattle.lt_ast.specs.declared.expr.BinOp.{BinOp}
use Rattle.lt_ast.specs.declared.expr.BinOp.TheVariants as b
use Rattle.lt_ast.specs.Syntax as s
use Rattle.lt_ast.specs.Syntax.{Word, Figure, WrittenRange, Exp, Argument, Arguments, Limits, Braces, Alternative, Alternatives, Trace, Traces, Grouping, Groupings, MaybeExp, MaybeTrace, Parameters, Meaning, Macro, Run, Declaration}
use Rattle.lt_ast.specs.Tokens.{flag_sign, unary_sign, binary_sign, type_sign}
use Rattle.lt_grammar.specs.Lexemes.{lexeme, Lexemes, IsNotFirst}
use Rattle.lt_grammar.specs.Precedence.{Stands, under, left_least, right_least, IsNoOperator}
use Rattle.lt_ast.specs.Places.{across, span_of}

-- NAMES, NUMBERS, RANGES

-- the names after a first one, each after a comma
abbrev pub DerivesMoreNames : Lexemes → List Word → Lexemes → Type 0
DerivesMoreNames ts [] rest = (ts ≡ rest) × IsNotFirst t.Comma rest
DerivesMoreNames ts (n ∷ ns) rest =
    (w : List ℕ) × (p : Span) × (m : Lexemes) × (ts ≡ lexeme t.Comma w p ∷ (lexeme t.Name n.text n.span ∷ m)) × DerivesMoreNames m ns rest

-- one name or more
abbrev pub DerivesNames : Lexemes → List Word → Lexemes → Type 0
DerivesNames ts [] rest = ⊥
DerivesNames ts (n ∷ ns) rest = (m : Lexemes) × (ts ≡ lexeme t.Name n.text n.span ∷ m) × DerivesMoreNames m ns rest

-- a number, with a minus or without one
abbrev pub DerivesNumber : Lexemes → Bool → List ℕ → Span → Lexemes → Type 0
DerivesNumber ts false text at rest = ts ≡ lexeme t.Number text at ∷ rest
DerivesNumber ts true text at rest =
    (w : List ℕ) × (p : Span) × (q : Span) × (ts ≡ lexeme t.Minus w p ∷ (lexeme t.Number text q ∷ rest)) × (at ≡ across p q)

-- a number of a tree
abbrev pub DerivesFigure : Lexemes → Figure → Lexemes → Type 0
DerivesFigure ts f rest = DerivesNumber ts f.minus f.text f.span rest

-- a step, where it is there
abbrev pub DerivesStep : Lexemes → Option Figure → Lexemes → Type 0
DerivesStep ts None rest = (ts ≡ rest) × IsNotFirst t.Semicolon rest
DerivesStep ts (Some f) rest = (w : List ℕ) × (p : Span) × (m : Lexemes) × (ts ≡ lexeme t.Semicolon w p ∷ m) × DerivesFigure m f rest

-- a range, where it is there
abbrev pub DerivesRange : Lexemes → Option WrittenRange → Lexemes → Type 0
DerivesRange ts None rest = (ts ≡ rest) × IsNotFirst t.OpenBracket rest
DerivesRange ts (Some r) rest =
    (w : List ℕ) × (p : Span) × (m : Lexemes) × (ts ≡ lexeme t.OpenBracket w p ∷ m)
    × (w' : List ℕ) × (p' : Span) × (m' : Lexemes) × DerivesFigure m r.low (lexeme t.Semicolon w' p' ∷ m')
    × (m'' : Lexemes) × DerivesFigure m' r.high m''
    × (w'' : List ℕ) × (p'' : Span) × DerivesStep m'' r.step (lexeme t.CloseBracket w'' p'' ∷ rest)

-- `ref`, where it is there
abbrev pub DerivesRef : Lexemes → Bool → Lexemes → Type 0
DerivesRef ts false rest = (ts ≡ rest) × IsNotFirst t.Ref rest
DerivesRef ts true rest = (w : List ℕ) × (p : Span) × (ts ≡ lexeme t.Ref w p ∷ rest)

-- SIDE CONDITIONS

-- Of the operators between two operands only `=>` opens a level, for its right side.
abbrev pub opened : BinOp → ℕ → ℕ
opened b.Implies d = suc d
opened op d = d

-- the level that an operator opens, if any, is within the most
abbrev pub MayOpen : BinOp → ℕ → ℕ → Type 0
MayOpen b.Implies d most = suc d ≤ most
MayOpen op d most = Unit {0}

-- one alternative or more
abbrev pub HasAlternative : Alternatives → Type 0
HasAlternative s.no_alternatives = ⊥
HasAlternative (s.alternative p ps) = Unit {0}

-- one trace or more
abbrev pub HasTrace : Traces → Type 0
HasTrace s.no_traces = ⊥
HasTrace (s.one_trace x xs) = Unit {0}

-- one group or more
abbrev pub HasGroup : Groupings → Type 0
HasGroup s.no_groups = ⊥
HasGroup (s.one_group g gs) = Unit {0}

-- A macro of the type trace stands for a trace, and one of another type for an expression.
abbrev pub Means : TypeName → Meaning → Type 0
Means ty.Trace (s.trace_meaning x) = Unit {0}
Means ty.Trace (s.value_meaning e) = ⊥
Means kind (s.trace_meaning x) = ⊥
Means kind (s.value_meaning e) = Unit {0}

-- An expression followed by `:` is the weight of an alternative, and no alternative.
abbrev pub IsNoWeight : Trace → Lexemes → Type 0
IsNoWeight (s.value e) rest = IsNotFirst t.Colon rest
IsNoWeight x rest = Unit {0}

-- where a whole trace is wanted, or one item of a sequence
pub data Place : Type 0 where
  whole : Place
  item : Place

-- A sequence reaches as far as it can.
abbrev pub Ends : Place → Lexemes → Type 0
Ends whole rest = IsNotFirst t.Fby rest
Ends item rest = Unit {0}

abbrev mutual
  -- EXPRESSIONS

  -- an expression
  pub DerivesExp : ℕ → ℕ → Lexemes → Exp → Lexemes → Type 0
  DerivesExp most d ts (s.number f) rest = (f.minus ≡ false) × (ts ≡ lexeme t.Number f.text f.span ∷ rest)
  DerivesExp most d ts (s.flag b at) rest = (w : List ℕ) × (ts ≡ lexeme (flag_sign b) w at ∷ rest)
  DerivesExp most d ts (s.named n) rest = (ts ≡ lexeme t.Name n.text n.span ∷ rest) × IsNotFirst t.Open rest
  DerivesExp most d ts (s.called n args) rest =
      (w : List ℕ) × (p : Span) × (m : Lexemes) × (ts ≡ lexeme t.Name n.text n.span ∷ (lexeme t.Open w p ∷ m)) × (suc d ≤ most) × DerivesArguments most (suc d) m args rest
  DerivesExp most d ts (s.pre n at) rest =
      (w : List ℕ) × (p : Span) × (ts ≡ lexeme t.Pre w p ∷ (lexeme t.Name n.text n.span ∷ rest)) × (at ≡ across p n.span)
  DerivesExp most d ts (s.paren e at) rest =
      (w : List ℕ) × (p : Span) × (m : Lexemes) × (ts ≡ lexeme t.Open w p ∷ m) × (suc d ≤ most)
      × (w' : List ℕ) × (q : Span) × DerivesExp most (suc d) m e (lexeme t.Close w' q ∷ rest) × (at ≡ across p q)
  DerivesExp most d ts (s.unary op e at) rest =
      (w : List ℕ) × (p : Span) × (m : Lexemes) × (ts ≡ lexeme (unary_sign op) w p ∷ m) × (suc d ≤ most)
      × Stands (under op) e × DerivesExp most (suc d) m e rest × (at ≡ across p (span_of e))
  DerivesExp most d ts (s.binary op e f at) rest =
      Stands (left_least op) e × Stands (right_least op f) f × MayOpen op d most
      × (w : List ℕ) × (p : Span) × (m : Lexemes) × DerivesExp most d ts e (lexeme (binary_sign op) w p ∷ m)
      × DerivesExp most (opened op d) m f rest × (at ≡ across (span_of e) (span_of f))
  DerivesExp most d ts (s.choose e f g at) rest =
      (w : List ℕ) × (p : Span) × (m : Lexemes) × (ts ≡ lexeme t.If w p ∷ m) × (suc d ≤ most)
      × (w' : List ℕ) × (p' : Span) × (m' : Lexemes) × DerivesExp most (suc d) m e (lexeme t.Then w' p' ∷ m')
      × (w'' : List ℕ) × (p'' : Span) × (m'' : Lexemes) × DerivesExp most (suc d) m' f (lexeme t.Else w'' p'' ∷ m'')
      × DerivesExp most (suc d) m'' g rest × (at ≡ across p (span_of g))

  -- an argument
  pub DerivesArgument : ℕ → ℕ → Lexemes → Argument → Lexemes → Type 0
  DerivesArgument most d ts (s.value_argument e) rest = DerivesExp most d ts e rest
  DerivesArgument most d ts (s.trace_argument x at) rest =
      (w : List ℕ) × (p : Span) × (m : Lexemes) × (ts ≡ lexeme t.OpenBrace w p ∷ m) × (suc d ≤ most)
      × (q : Span) × DerivesBraced most (suc d) m x q rest × (at ≡ across p q)

  -- arguments and the `)` after them
  pub DerivesArguments : ℕ → ℕ → Lexemes → Arguments → Lexemes → Type 0
  DerivesArguments most d ts s.no_arguments rest = (w : List ℕ) × (p : Span) × (ts ≡ lexeme t.Close w p ∷ rest)
  DerivesArguments most d ts (s.argument a more) rest = (m : Lexemes) × DerivesArgument most d ts a m × DerivesMoreArguments most d m more rest

  -- the arguments after a first one, each after a comma, and the `)`
  pub DerivesMoreArguments : ℕ → ℕ → Lexemes → Arguments → Lexemes → Type 0
  DerivesMoreArguments most d ts s.no_arguments rest = (w : List ℕ) × (p : Span) × (ts ≡ lexeme t.Close w p ∷ rest)
  DerivesMoreArguments most d ts (s.argument a more) rest =
      (w : List ℕ) × (p : Span) × (m : Lexemes) × (ts ≡ lexeme t.Comma w p ∷ m) × (n : Lexemes) × DerivesArgument most d m a n × DerivesMoreArguments most d n more rest

  -- BRACES

  -- what stands in braces, and the `}` after it, at the place q
  pub DerivesBraced : ℕ → ℕ → Lexemes → Braces → Span → Lexemes → Type 0
  DerivesBraced most d ts (s.plain x) q rest = (w : List ℕ) × DerivesTrace most d whole ts x (lexeme t.CloseBrace w q ∷ rest)
  DerivesBraced most d ts (s.choice true ps) q rest = HasAlternative ps × DerivesMoreAlternatives most d ts ps q rest
  DerivesBraced most d ts (s.choice false ps) q rest = DerivesChoice most d ts ps q rest
  DerivesBraced most d ts (s.priority true xs) q rest = HasTrace xs × DerivesMoreTraces most d t.Priority ts xs q rest
  DerivesBraced most d ts (s.priority false xs) q rest = DerivesTraces most d t.Priority ts xs q rest
  DerivesBraced most d ts (s.parallel true xs) q rest = HasTrace xs × DerivesMoreTraces most d t.Parallel ts xs q rest
  DerivesBraced most d ts (s.parallel false xs) q rest = DerivesTraces most d t.Parallel ts xs q rest

  -- a choice that no `|` leads: two alternatives or more, the first without a weight
  pub DerivesChoice : ℕ → ℕ → Lexemes → Alternatives → Span → Lexemes → Type 0
  DerivesChoice most d ts s.no_alternatives q rest = ⊥
  DerivesChoice most d ts (s.alternative p more) q rest = (m : Lexemes) × DerivesUnweighted most d ts p m × HasAlternative more × DerivesMoreAlternatives most d m more q rest

  -- an alternative without a weight
  pub DerivesUnweighted : ℕ → ℕ → Lexemes → Alternative → Lexemes → Type 0
  DerivesUnweighted most d ts (s.unweighted x) rest = DerivesTrace most d whole ts x rest
  DerivesUnweighted most d ts (s.weighted e x) rest = ⊥

  -- alternatives, each after a `|`, and the `}`
  pub DerivesMoreAlternatives : ℕ → ℕ → Lexemes → Alternatives → Span → Lexemes → Type 0
  DerivesMoreAlternatives most d ts s.no_alternatives q rest = (w : List ℕ) × (ts ≡ lexeme t.CloseBrace w q ∷ rest)
  DerivesMoreAlternatives most d ts (s.alternative p more) q rest =
      (w : List ℕ) × (p' : Span) × (m : Lexemes) × (ts ≡ lexeme t.Bar w p' ∷ m) × (n : Lexemes) × DerivesAlternative most d m p n × DerivesMoreAlternatives most d n more q rest

  -- an alternative, with a weight or without one
  pub DerivesAlternative : ℕ → ℕ → Lexemes → Alternative → Lexemes → Type 0
  DerivesAlternative most d ts (s.unweighted x) rest = DerivesTrace most d whole ts x rest × IsNoWeight x rest
  DerivesAlternative most d ts (s.weighted e x) rest =
      (w : List ℕ) × (p : Span) × (m : Lexemes) × DerivesExp most d ts e (lexeme t.Colon w p ∷ m) × DerivesTrace most d whole m x rest

  -- two traces or more with this sign between them, and the `}`
  pub DerivesTraces : ℕ → ℕ → Sign → Lexemes → Traces → Span → Lexemes → Type 0
  DerivesTraces most d sign ts s.no_traces q rest = ⊥
  DerivesTraces most d sign ts (s.one_trace x more) q rest = (m : Lexemes) × DerivesTrace most d whole ts x m × HasTrace more × DerivesMoreTraces most d sign m more q rest

  -- traces, each after this sign, and the `}`
  pub DerivesMoreTraces : ℕ → ℕ → Sign → Lexemes → Traces → Span → Lexemes → Type 0
  DerivesMoreTraces most d sign ts s.no_traces q rest = (w : List ℕ) × (ts ≡ lexeme t.CloseBrace w q ∷ rest)
  DerivesMoreTraces most d sign ts (s.one_trace x more) q rest =
      (w : List ℕ) × (p : Span) × (m : Lexemes) × (ts ≡ lexeme sign w p ∷ m) × (n : Lexemes) × DerivesTrace most d whole m x n × DerivesMoreTraces most d sign n more q rest

  -- LOOPS

  -- the bounds of a loop, where they are there
  pub DerivesLimits : ℕ → ℕ → Lexemes → Limits → Lexemes → Type 0
  DerivesLimits most d ts s.forever rest = (ts ≡ rest) × IsNotFirst t.OpenBracket rest × IsNotFirst t.Tilde rest
  DerivesLimits most d ts (s.between e f) rest =
      (w : List ℕ) × (p : Span) × (m : Lexemes) × (ts ≡ lexeme t.OpenBracket w p ∷ m)
      × (w' : List ℕ) × (p' : Span) × (m' : Lexemes) × DerivesExp most d m e (lexeme t.Comma w' p' ∷ m')
      × (w'' : List ℕ) × (p'' : Span) × DerivesExp most d m' f (lexeme t.CloseBracket w'' p'' ∷ rest)
  DerivesLimits most d ts (s.around e f) rest =
      (w : List ℕ) × (p : Span) × (m : Lexemes) × (ts ≡ lexeme t.Tilde w p ∷ m)
      × (w' : List ℕ) × (p' : Span) × (m' : Lexemes) × DerivesBound most d m e (lexeme t.Colon w' p' ∷ m') × DerivesBound most d m' f rest

  -- a number, a name without arguments, or an expression in parentheses
  pub DerivesBound : ℕ → ℕ → Lexemes → Exp → Lexemes → Type 0
  DerivesBound most d ts (s.number f) rest = (f.minus ≡ false) × (ts ≡ lexeme t.Number f.text f.span ∷ rest)
  DerivesBound most d ts (s.named n) rest = ts ≡ lexeme t.Name n.text n.span ∷ rest
  DerivesBound most d ts (s.paren e at) rest =
      (w : List ℕ) × (p : Span) × (m : Lexemes) × (ts ≡ lexeme t.Open w p ∷ m) × (suc d ≤ most)
      × (w' : List ℕ) × (q : Span) × DerivesExp most (suc d) m e (lexeme t.Close w' q ∷ rest) × (at ≡ across p q)
  DerivesBound most d ts e rest = ⊥

  -- GROUPS AND MACROS

  -- names of a type
  pub DerivesGrouping : ℕ → ℕ → Lexemes → Grouping → Lexemes → Type 0
  DerivesGrouping most d ts (s.grouping ns kind by_ref range first) rest =
      (w : List ℕ) × (p : Span) × (w' : List ℕ) × (p' : Span) × (m : Lexemes) × DerivesNames ts ns (lexeme t.Colon w p ∷ (lexeme (type_sign kind) w' p' ∷ m))
      × (n : Lexemes) × DerivesRef m by_ref n × (o : Lexemes) × DerivesRange n range o × DerivesFirst most d o first rest

  -- a first value, where it is there
  pub DerivesFirst : ℕ → ℕ → Lexemes → MaybeExp → Lexemes → Type 0
  DerivesFirst most d ts s.no_exp rest = (ts ≡ rest) × IsNotFirst t.Equal rest
  DerivesFirst most d ts (s.an_exp e) rest = (w : List ℕ) × (p : Span) × (m : Lexemes) × (ts ≡ lexeme t.Equal w p ∷ m) × DerivesExp most d m e rest × IsNoOperator rest

  -- groups and the sign that ends them
  pub DerivesGroups : ℕ → ℕ → Sign → Lexemes → Groupings → Lexemes → Type 0
  DerivesGroups most d end ts s.no_groups rest = (w : List ℕ) × (p : Span) × (ts ≡ lexeme end w p ∷ rest)
  DerivesGroups most d end ts (s.one_group g more) rest = (m : Lexemes) × DerivesGrouping most d ts g m × DerivesMoreGroups most d end m more rest

  -- the groups after a first one, each after a semicolon, and the sign that ends them
  pub DerivesMoreGroups : ℕ → ℕ → Sign → Lexemes → Groupings → Lexemes → Type 0
  DerivesMoreGroups most d end ts s.no_groups rest = (w : List ℕ) × (p : Span) × (ts ≡ lexeme end w p ∷ rest)
  DerivesMoreGroups most d end ts (s.one_group g more) rest =
      (w : List ℕ) × (p : Span) × (m : Lexemes) × (ts ≡ lexeme t.Semicolon w p ∷ m) × (n : Lexemes) × DerivesGrouping most d m g n × DerivesMoreGroups most d end n more rest

  -- the parameters of a macro, where a list of them is there
  pub DerivesParameters : ℕ → ℕ → Lexemes → Parameters → Lexemes → Type 0
  DerivesParameters most d ts s.no_parameters rest = (ts ≡ rest) × IsNotFirst t.Open rest
  DerivesParameters most d ts (s.parameters gs) rest =
      (w : List ℕ) × (p : Span) × (m : Lexemes) × (ts ≡ lexeme t.Open w p ∷ m) × (suc d ≤ most) × DerivesGroups most (suc d) t.Close m gs rest

  -- what a macro stands for
  pub DerivesMeaning : ℕ → ℕ → Lexemes → Meaning → Lexemes → Type 0
  DerivesMeaning most d ts (s.trace_meaning x) rest = DerivesTrace most d whole ts x rest
  DerivesMeaning most d ts (s.value_meaning e) rest = DerivesExp most d ts e rest × IsNoOperator rest

  -- a macro after its `let`
  pub DerivesMacro : ℕ → ℕ → Lexemes → Macro → Lexemes → Type 0
  DerivesMacro most d ts (s.macro n ps kind x) rest =
      (m : Lexemes) × (ts ≡ lexeme t.Name n.text n.span ∷ m)
      × (w : List ℕ) × (p : Span) × (w' : List ℕ) × (p' : Span) × (w'' : List ℕ) × (p'' : Span) × (m' : Lexemes)
      × DerivesParameters most d m ps (lexeme t.Colon w p ∷ (lexeme (type_sign kind) w' p' ∷ (lexeme t.Equal w'' p'' ∷ m')))
      × Means kind x × DerivesMeaning most d m' x rest

  -- TRACES

  -- a trace, or an item of one
  pub DerivesTrace : ℕ → ℕ → Place → Lexemes → Trace → Lexemes → Type 0
  DerivesTrace most d place ts (s.sequence xs) rest = (place ≡ whole) × DerivesSequence most d ts xs rest
  DerivesTrace most d place ts (s.braces x at) rest =
      (w : List ℕ) × (p : Span) × (m : Lexemes) × (ts ≡ lexeme t.OpenBrace w p ∷ m) × (suc d ≤ most)
      × (q : Span) × DerivesBraced most (suc d) m x q rest × (at ≡ across p q) × Ends place rest
  DerivesTrace most d place ts (s.loop l x) rest =
      (w : List ℕ) × (p : Span) × (m : Lexemes) × (ts ≡ lexeme t.Loop w p ∷ m) × (suc d ≤ most)
      × (n : Lexemes) × DerivesLimits most (suc d) m l n × DerivesTrace most (suc d) item n x rest × Ends place rest
  DerivesTrace most d place ts (s.raise n) rest =
      (w : List ℕ) × (p : Span) × (ts ≡ lexeme t.Raise w p ∷ (lexeme t.Name n.text n.span ∷ rest)) × Ends place rest
  DerivesTrace most d place ts (s.assert e x) rest =
      (w : List ℕ) × (p : Span) × (m : Lexemes) × (ts ≡ lexeme t.Assert w p ∷ m) × (suc d ≤ most)
      × (w' : List ℕ) × (p' : Span) × (m' : Lexemes) × DerivesExp most (suc d) m e (lexeme t.In w' p' ∷ m') × DerivesTrace most (suc d) whole m' x rest
  DerivesTrace most d place ts (s.exist gs x) rest =
      (w : List ℕ) × (p : Span) × (m : Lexemes) × (ts ≡ lexeme t.Exist w p ∷ m) × (suc d ≤ most)
      × HasGroup gs × (m' : Lexemes) × DerivesGroups most (suc d) t.In m gs m' × DerivesTrace most (suc d) whole m' x rest
  DerivesTrace most d place ts (s.define x y) rest =
      (w : List ℕ) × (p : Span) × (m : Lexemes) × (ts ≡ lexeme t.Let w p ∷ m) × (suc d ≤ most)
      × (w' : List ℕ) × (p' : Span) × (m' : Lexemes) × DerivesMacro most (suc d) m x (lexeme t.In w' p' ∷ m') × DerivesTrace most (suc d) whole m' y rest
  DerivesTrace most d place ts (s.exceptions ns x) rest =
      (w : List ℕ) × (p : Span) × (m : Lexemes) × (ts ≡ lexeme t.Exception w p ∷ m) × (suc d ≤ most)
      × (w' : List ℕ) × (p' : Span) × (m' : Lexemes) × DerivesNames m ns (lexeme t.In w' p' ∷ m') × DerivesTrace most (suc d) whole m' x rest
  DerivesTrace most d place ts (s.catch n x h) rest =
      (w : List ℕ) × (p : Span) × (w' : List ℕ) × (p' : Span) × (m : Lexemes)
      × (ts ≡ lexeme t.Catch w p ∷ (lexeme t.Name n.text n.span ∷ (lexeme t.In w' p' ∷ m))) × (suc d ≤ most)
      × (m' : Lexemes) × DerivesTrace most (suc d) whole m x m' × DerivesHandler most (suc d) m' h rest
  DerivesTrace most d place ts (s.trap n x h) rest =
      (w : List ℕ) × (p : Span) × (w' : List ℕ) × (p' : Span) × (m : Lexemes)
      × (ts ≡ lexeme t.Trap w p ∷ (lexeme t.Name n.text n.span ∷ (lexeme t.In w' p' ∷ m))) × (suc d ≤ most)
      × (m' : Lexemes) × DerivesTrace most (suc d) whole m x m' × DerivesHandler most (suc d) m' h rest
  DerivesTrace most d place ts (s.try x h) rest =
      (w : List ℕ) × (p : Span) × (m : Lexemes) × (ts ≡ lexeme t.Try w p ∷ m) × (suc d ≤ most)
      × (m' : Lexemes) × DerivesTrace most (suc d) whole m x m' × DerivesHandler most (suc d) m' h rest
  DerivesTrace most d place ts (s.value e) rest = DerivesExp most d ts e rest × IsNoOperator rest × Ends place rest

  -- two items or more
  pub DerivesSequence : ℕ → ℕ → Lexemes → Traces → Lexemes → Type 0
  DerivesSequence most d ts s.no_traces rest = ⊥
  DerivesSequence most d ts (s.one_trace x more) rest = (m : Lexemes) × DerivesTrace most d item ts x m × HasTrace more × DerivesMoreItems most d m more rest

  -- the items after a first one, each after `fby`
  pub DerivesMoreItems : ℕ → ℕ → Lexemes → Traces → Lexemes → Type 0
  DerivesMoreItems most d ts s.no_traces rest = (ts ≡ rest) × IsNotFirst t.Fby rest
  DerivesMoreItems most d ts (s.one_trace x more) rest =
      (w : List ℕ) × (p : Span) × (m : Lexemes) × (ts ≡ lexeme t.Fby w p ∷ m) × (n : Lexemes) × DerivesTrace most d item m x n × DerivesMoreItems most d n more rest

  -- what follows a `do`; a `do` belongs to the nearest open form that may have one
  pub DerivesHandler : ℕ → ℕ → Lexemes → MaybeTrace → Lexemes → Type 0
  DerivesHandler most d ts s.no_trace rest = (ts ≡ rest) × IsNotFirst t.Do rest
  DerivesHandler most d ts (s.a_trace x) rest = (w : List ℕ) × (p : Span) × (m : Lexemes) × (ts ≡ lexeme t.Do w p ∷ m) × DerivesTrace most d whole m x rest

-- RUNS

-- the expressions after a first one, each after a comma, and the `)` after them
abbrev pub DerivesMoreExpressions : ℕ → ℕ → Lexemes → List Exp → Lexemes → Type 0
DerivesMoreExpressions most d ts [] rest =
    (w : List ℕ) × (p : Span) × (ts ≡ lexeme t.Close w p ∷ rest)
DerivesMoreExpressions most d ts (e ∷ es) rest =
    (w : List ℕ) × (p : Span) × (m : Lexemes) × (ts ≡ lexeme t.Comma w p ∷ m)
    × (n : Lexemes) × DerivesExp most d m e n × DerivesMoreExpressions most d n es rest

-- expressions, if any, and the `)` after them
abbrev pub DerivesExpressions : ℕ → ℕ → Lexemes → List Exp → Lexemes → Type 0
DerivesExpressions most d ts [] rest = (w : List ℕ) × (p : Span) × (ts ≡ lexeme t.Close w p ∷ rest)
DerivesExpressions most d ts (e ∷ es) rest =
    (m : Lexemes) × DerivesExp most d ts e m × DerivesMoreExpressions most d m es rest

-- a run of a node, up to its `in`
abbrev pub DerivesRun : ℕ → ℕ → Lexemes → Run → Lexemes → Type 0
DerivesRun most d ts r rest =
    (w : List ℕ) × (p : Span) × (m : Lexemes) × (ts ≡ lexeme t.Run w p ∷ m) × (suc d ≤ most)
    × (v : List ℕ) × (q : Span) × (v' : List ℕ) × (q' : Span) × (m' : Lexemes)
    × DerivesNames m r.names
    (lexeme t.Assign v q ∷ (lexeme t.Name r.node.text r.node.span ∷ (lexeme t.Open v' q' ∷ m')))
    × (suc (suc d) ≤ most)
    × (w' : List ℕ) × (p' : Span)
    × DerivesExpressions most (suc (suc d)) m' r.arguments (lexeme t.In w' p' ∷ rest)
    × (r.span ≡ across p p')

-- runs of nodes, if any, and the trace in them: each run stays open in what follows it
abbrev pub DerivesRuns : ℕ → ℕ → Lexemes → List Run → Trace → Lexemes → Type 0
DerivesRuns most d ts [] x rest = DerivesTrace most d whole ts x rest
DerivesRuns most d ts (r ∷ rs) x rest =
    (m : Lexemes) × DerivesRun most d ts r m × DerivesRuns most (suc d) m rs x rest

-- DECLARATIONS

-- a declaration
abbrev pub DerivesDeclaration : ℕ → Lexemes → Declaration → Lexemes → Type 0
DerivesDeclaration most ts (s.node n ins outs rs x) rest =
    (w : List ℕ) × (p : Span) × (w' : List ℕ) × (p' : Span) × (m : Lexemes)
    × (ts ≡ lexeme t.Node w p ∷ (lexeme t.Name n.text n.span ∷ (lexeme t.Open w' p' ∷ m))) × (1 ≤ most)
    × (v : List ℕ) × (q : Span) × (v' : List ℕ) × (q' : Span) × (m' : Lexemes) × DerivesGroups most 1 t.Close m ins (lexeme t.Returns v q ∷ (lexeme t.Open v' q' ∷ m'))
    × (v'' : List ℕ) × (q'' : Span) × (m'' : Lexemes)
    × DerivesGroups most 1 t.Close m' outs (lexeme t.Equal v'' q'' ∷ m'') × DerivesRuns most 0 m'' rs x rest
DerivesDeclaration most ts (s.macro_declaration x) rest = (w : List ℕ) × (p : Span) × (m : Lexemes) × (ts ≡ lexeme t.Let w p ∷ m) × DerivesMacro most 0 m x rest
DerivesDeclaration most ts (s.exception_declaration ns) rest = (w : List ℕ) × (p : Span) × (m : Lexemes) × (ts ≡ lexeme t.Exception w p ∷ m) × DerivesNames m ns rest

-- WHOLE TEXTS

-- These tokens, and no others, are this program, within so many levels of nesting.
abbrev pub SpellsWithin : ℕ → Lexemes → List Declaration → Type 0
SpellsWithin most ts [] = ts ≡ []
SpellsWithin most ts (x ∷ xs) = (m : Lexemes) × DerivesDeclaration most ts x m × SpellsWithin most m xs

-- These tokens, and no others, are this expression, within so many levels of nesting.
abbrev pub SpellsExpressionWithin : ℕ → Lexemes → Exp → Type 0
SpellsExpressionWithin most ts e = DerivesExp most 0 ts e []
