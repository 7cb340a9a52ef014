-- Syntax trees as contracts see them: what is written and where, without pointers.
use Rattle.std.specs.Prelude.{ℕ, Bool, List, Option}
use Rattle.lt_ast.specs.declared.span.Span.{Span}
use Rattle.lt_ast.specs.declared.group.TypeName.{TypeName}
use Rattle.lt_ast.specs.declared.expr.UnOp.{UnOp}
use Rattle.lt_ast.specs.declared.expr.BinOp.{BinOp}

-- a name: its bytes and its place
pub record Word : Type 0 where
  pub text : List ℕ
  pub span : Span

-- a number: whether a minus stands before it, its bytes, and its place with the minus
pub record Figure : Type 0 where
  pub minus : Bool
  pub text : List ℕ
  pub span : Span

-- a range: its low end, its high end, and its step where it has one
pub record WrittenRange : Type 0 where
  pub low : Figure
  pub high : Figure
  pub step : Option Figure

mutual
  -- an expression
  pub data Exp : Type 0 where
    -- a number
    number : Figure → Exp
    -- true or false
    flag : Bool → Span → Exp
    -- a name alone
    named : Word → Exp
    -- a name with a list of arguments, which may be empty
    called : Word → Arguments → Exp
    -- pre and a name
    pre : Word → Span → Exp
    -- an expression in parentheses
    paren : Exp → Span → Exp
    -- an operator and its operand
    unary : UnOp → Exp → Span → Exp
    -- an operator between its operands
    binary : BinOp → Exp → Exp → Span → Exp
    -- if the first then the second else the third
    choose : Exp → Exp → Exp → Span → Exp

  -- an argument: an expression, or a trace in braces
  pub data Argument : Type 0 where
    value_argument : Exp → Argument
    trace_argument : Braces → Span → Argument

  -- arguments, in order
  pub data Arguments : Type 0 where
    no_arguments : Arguments
    argument : Argument → Arguments → Arguments

  -- how often a loop turns: without end, between two numbers, or around an average with a deviation
  pub data Limits : Type 0 where
    forever : Limits
    between : Exp → Exp → Limits
    around : Exp → Exp → Limits

  -- what stands in braces: one trace, or parts with their sign between them; true if the sign leads
  pub data Braces : Type 0 where
    plain : Trace → Braces
    choice : Bool → Alternatives → Braces
    priority : Bool → Traces → Braces
    parallel : Bool → Traces → Braces

  -- an alternative of a choice
  pub data Alternative : Type 0 where
    unweighted : Trace → Alternative
    weighted : Exp → Trace → Alternative

  -- alternatives, in order
  pub data Alternatives : Type 0 where
    no_alternatives : Alternatives
    alternative : Alternative → Alternatives → Alternatives

  -- traces, in order
  pub data Traces : Type 0 where
    no_traces : Traces
    one_trace : Trace → Traces → Traces

  -- names of a type, whether by ref, their range, and their first value
  pub data Grouping : Type 0 where
    grouping : List Word → TypeName → Bool → Option WrittenRange → MaybeExp → Grouping

  -- groups, in order
  pub data Groupings : Type 0 where
    no_groups : Groupings
    one_group : Grouping → Groupings → Groupings

  -- an expression, or none
  pub data MaybeExp : Type 0 where
    no_exp : MaybeExp
    an_exp : Exp → MaybeExp

  -- a trace, or none
  pub data MaybeTrace : Type 0 where
    no_trace : MaybeTrace
    a_trace : Trace → MaybeTrace

  -- the parameters of a macro, where it has a list of them
  pub data Parameters : Type 0 where
    no_parameters : Parameters
    parameters : Groupings → Parameters

  -- what a macro stands for
  pub data Meaning : Type 0 where
    trace_meaning : Trace → Meaning
    value_meaning : Exp → Meaning

  -- a macro: its name, its parameters, its type, and what it stands for
  pub data Macro : Type 0 where
    macro : Word → Parameters → TypeName → Meaning → Macro

  -- a trace
  pub data Trace : Type 0 where
    -- two or more, by fby
    sequence : Traces → Trace
    -- braces
    braces : Braces → Span → Trace
    -- a loop
    loop : Limits → Trace → Trace
    -- raise and an exception
    raise : Word → Trace
    -- assert an expression in a trace
    assert : Exp → Trace → Trace
    -- exist variables in a trace
    exist : Groupings → Trace → Trace
    -- let a macro in a trace
    define : Macro → Trace → Trace
    -- exceptions in a trace
    exceptions : List Word → Trace → Trace
    -- catch an exception in a trace, and what follows then
    catch : Word → Trace → MaybeTrace → Trace
    -- an exception of the trace's own, caught in it, and what follows then
    trap : Word → Trace → MaybeTrace → Trace
    -- try a trace, and what follows where it is stuck
    try : Trace → MaybeTrace → Trace
    -- an expression
    value : Exp → Trace

-- a run of a node: the names that its outputs get, which node it is, the expressions for its inputs, and the place of all
-- this, from `run` to `in`
pub record Run : Type 0 where
  pub names : List Word
  pub node : Word
  pub arguments : List Exp
  pub span : Span

-- a declaration of a text
pub data Declaration : Type 0 where
  -- a node: its name, its inputs, its outputs, which nodes it runs, and what it does
  node : Word → Groupings → Groupings → List Run → Trace → Declaration
  -- a macro
  macro_declaration : Macro → Declaration
  -- exceptions
  exception_declaration : List Word → Declaration
