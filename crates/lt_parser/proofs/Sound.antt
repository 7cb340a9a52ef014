-- What is read is derived.
use Rattle.std.proofs.Common.{◌≡◌, ℕ, suc, ◌≤◌, ◌<◌, List, [], ◌∷◌, length, refl, sym, ◌∙◌, ap, subst, Bool, true, false, if◌then◌else◌, nat_le, nat_lt, Option, Some, None, Result, Ok, Err, rules, arith}
use Rattle.std.proofs.lemmas.Bool.{leb-true}
use Rattle.std.proofs.lemmas.Bool.Decides.{nat_tests}
use Rattle.lt_ast.specs.declared.sign.Sign.{Sign}
use Rattle.lt_ast.specs.declared.sign.Sign.TheVariants as t
use Rattle.lt_ast.specs.contracts.sign.Sign.{the_type}
use denote.Enum.Bare.{sameb, same_true, same_false}
use Rattle.lt_ast.specs.declared.span.Span.{Span}
use Rattle.lt_ast.specs.declared.group.TypeName.{TypeName}
use Rattle.lt_ast.specs.declared.group.TypeName.TheVariants as ty
use Rattle.lt_ast.specs.declared.expr.UnOp.TheVariants as u
use Rattle.lt_ast.specs.declared.expr.BinOp.{BinOp}
use Rattle.lt_ast.specs.declared.expr.BinOp.TheVariants as b
use Rattle.lt_ast.specs.Syntax as s
use Rattle.lt_ast.specs.Syntax.{Word, Figure, WrittenRange, Exp, Argument, Arguments, Limits, Braces, Alternative, Alternatives, Trace, Traces, Grouping, Groupings, MaybeExp, MaybeTrace, Parameters, Meaning, Macro, Run, Declaration}
use Rattle.lt_ast.specs.Tokens.{binary_sign, type_sign}
use Rattle.lt_grammar.specs.Lexemes.{Lexemes, lexeme, IsNotFirst}
use Rattle.lt_grammar.specs.Precedence.{rank, operator, Stands, left_least, right_least, side_least, IsNoOperator}
use Rattle.lt_ast.specs.Places.{across, span_of}
use Rattle.lt_grammar.specs.Grammar.{IsNoWeight, opened, MayOpen, whole, item, DerivesNames, DerivesMoreNames, DerivesFigure, DerivesRange, DerivesStep, DerivesRef, DerivesExp, DerivesArgument, DerivesArguments, DerivesMoreArguments, DerivesBraced, DerivesMoreAlternatives, DerivesAlternative, DerivesMoreTraces, DerivesLimits, DerivesBound, DerivesGrouping, DerivesFirst, DerivesGroups, DerivesMoreGroups, DerivesParameters, DerivesMeaning, DerivesMacro, DerivesTrace, DerivesMoreItems, DerivesHandler, Means, DerivesMoreExpressions, DerivesExpressions, DerivesRun, DerivesRuns, DerivesDeclaration, SpellsWithin, SpellsExpressionWithin}
use Rattle.lt_parser.specs.inner.Reading.{Goal, Tree, program_tree, expression_tree, ReadIsSpelled, too_deep, Move, stuck, next, opens, Stop, outcome, onward, step, finish, extend, operand, allowed, top, cap, nothing_more, done, expression_done, whole_exp, a_sign, a_name, an_exp, more_exp, a_right_side, after_name, some_arguments, more_arguments, an_argument, an_item, more_items, a_handler, some_limits, a_bound, some_braced, after_first, an_alternative, after_weight, more_alternatives, more_traces, some_groups, more_groups, more_names, a_type, a_ref, a_range, a_step, a_figure, a_digits, a_list, a_first, some_parameters, some_expressions, more_expressions, some_runs, run_goal, declarations, a_trace, names, a_group, groups, a_meaning, a_macro, sequence_of, begin_exp, begin_item, begin_argument, begin_alternative, begins_item, right_side_low, unary_goal, if_goal}
use Rattle.lt_parser.proofs.Complete.{spelled_is_read, expression_is_read}
use Rattle.lt_parser.proofs.Skips.{Heads}
use Rattle.lt_parser.proofs.Operators.{looser}
use Rattle.lt_parser.proofs.Begins.{same_first, no_not, none_some, no_item_begins, exp_begins}

-- declarations, and a rest
abbrev pub DerivesAll : ℕ → Lexemes → List Declaration → Lexemes → Type 0
DerivesAll most ts [] rest = ts ≡ rest
DerivesAll most ts (x ∷ xs) rest = (m : Lexemes) × DerivesDeclaration most ts x m × DerivesAll most m xs rest

-- The tokens are what is wanted, to the end.
abbrev pub Accepts : ℕ → Goal → Lexemes → Type 0
Accepts most (nothing_more x) ts = ts ≡ []
Accepts most (a_sign wanted k) ts = (w : List ℕ) × (p : Span) × (m : Lexemes) × (ts ≡ lexeme wanted w p ∷ m) × Accepts most (k p) m
Accepts most (a_name k) ts = (n : Word) × (m : Lexemes) × (ts ≡ lexeme t.Name n.text n.span ∷ m) × Accepts most (k n) m
Accepts most (an_exp d low k) ts = (e : Exp) × (m : Lexemes) × Stands low e × DerivesExp most d ts e m × Heads (λ op. rank op < low) m × Accepts most (k e) m
Accepts most (more_exp d low x k) ts =
    (e : Exp) × (m : Lexemes) × ((start : Lexemes) → Stands low x → DerivesExp most d start x ts → Stands low e × DerivesExp most d start e m) × Heads (λ op. rank op < low) m × Accepts most (k e) m
Accepts most (a_right_side d k) ts = (e : Exp) × (m : Lexemes) × Stands (side_least e) e × DerivesExp most d ts e m × Accepts most (k e) m
Accepts most (after_name d n k) ts = (e : Exp) × (m : Lexemes) × ((low : ℕ) → Stands low e) × DerivesExp most d (lexeme t.Name n.text n.span ∷ ts) e m × Accepts most (k e) m
Accepts most (some_arguments d k) ts = (x : Arguments) × (m : Lexemes) × DerivesArguments most d ts x m × Accepts most (k x) m
Accepts most (more_arguments d k) ts = (x : Arguments) × (m : Lexemes) × DerivesMoreArguments most d ts x m × Accepts most (k x) m
Accepts most (an_argument d k) ts = (x : Argument) × (m : Lexemes) × DerivesArgument most d ts x m × Accepts most (k x) m
Accepts most (an_item d k) ts = (x : Trace) × (m : Lexemes) × DerivesTrace most d item ts x m × Accepts most (k x) m
Accepts most (more_items d k) ts = (x : Traces) × (m : Lexemes) × DerivesMoreItems most d ts x m × Accepts most (k x) m
Accepts most (a_handler d k) ts = (x : MaybeTrace) × (m : Lexemes) × DerivesHandler most d ts x m × Accepts most (k x) m
Accepts most (some_limits d k) ts = (x : Limits) × (m : Lexemes) × DerivesLimits most d ts x m × Accepts most (k x) m
Accepts most (a_bound d k) ts = (x : Exp) × (m : Lexemes) × DerivesBound most d ts x m × Accepts most (k x) m
Accepts most (some_braced d k) ts = (x : Braces) × (q : Span) × (m : Lexemes) × DerivesBraced most d ts x q m × Accepts most (k x q) m
Accepts most (after_first d y k) ts =
    (x : Braces) × (q : Span) × (m : Lexemes) × ((start : Lexemes) → DerivesTrace most d whole start y ts → DerivesBraced most d start x q m) × Accepts most (k x q) m
Accepts most (an_alternative d k) ts = (x : Alternative) × (m : Lexemes) × DerivesAlternative most d ts x m × Accepts most (k x) m
Accepts most (after_weight d e k) ts =
    (x : Alternative) × (m : Lexemes) × ((start : Lexemes) → DerivesExp most d start e ts → IsNoOperator ts → DerivesAlternative most d start x m) × Accepts most (k x) m
Accepts most (more_alternatives d k) ts = (x : Alternatives) × (q : Span) × (m : Lexemes) × DerivesMoreAlternatives most d ts x q m × Accepts most (k x q) m
Accepts most (more_traces d sign k) ts = (x : Traces) × (q : Span) × (m : Lexemes) × DerivesMoreTraces most d sign ts x q m × Accepts most (k x q) m
Accepts most (some_groups d k) ts = (x : Groupings) × (m : Lexemes) × DerivesGroups most d t.Close ts x m × Accepts most (k x) m
Accepts most (more_groups d end k) ts = (x : Groupings) × (m : Lexemes) × DerivesMoreGroups most d end ts x m × Accepts most (k x) m
Accepts most (more_names k) ts = (x : List Word) × (m : Lexemes) × DerivesMoreNames ts x m × Accepts most (k x) m
Accepts most (a_type k) ts = (x : TypeName) × (w : List ℕ) × (p : Span) × (m : Lexemes) × (ts ≡ lexeme (type_sign x) w p ∷ m) × Accepts most (k x) m
Accepts most (a_ref k) ts = (x : Bool) × (m : Lexemes) × DerivesRef ts x m × Accepts most (k x) m
Accepts most (a_range k) ts = (x : Option WrittenRange) × (m : Lexemes) × DerivesRange ts x m × Accepts most (k x) m
Accepts most (a_step k) ts = (x : Option Figure) × (m : Lexemes) × DerivesStep ts x m × Accepts most (k x) m
Accepts most (a_figure k) ts = (x : Figure) × (m : Lexemes) × DerivesFigure ts x m × Accepts most (k x) m
Accepts most (a_digits p k) ts = (text : List ℕ) × (q : Span) × (m : Lexemes) × (ts ≡ lexeme t.Number text q ∷ m) × Accepts most (k (record { minus = true; text = text; span = across p q })) m
Accepts most (a_list d k) ts =
    (w : List ℕ) × (p : Span) × (n : Lexemes) × (ts ≡ lexeme t.Open w p ∷ n) × (suc d ≤ most) × (x : Groupings) × (m : Lexemes) × DerivesGroups most (suc d) t.Close n x m × Accepts most (k x) m
Accepts most (a_first d k) ts = (x : MaybeExp) × (m : Lexemes) × DerivesFirst most d ts x m × Accepts most (k x) m
Accepts most (some_parameters d k) ts = (x : Parameters) × (m : Lexemes) × DerivesParameters most d ts x m × Accepts most (k x) m
Accepts most (some_expressions d k) ts = (x : List Exp) × (m : Lexemes) × DerivesExpressions most d ts x m × Accepts most (k x) m
Accepts most (more_expressions d k) ts = (x : List Exp) × (m : Lexemes) × DerivesMoreExpressions most d ts x m × Accepts most (k x) m
Accepts most (some_runs d k) ts = (x : List Run) × (y : Trace) × (m : Lexemes) × DerivesRuns most d ts x y m × Accepts most (k x y) m
Accepts most (declarations k) ts = (x : List Declaration) × (m : Lexemes) × DerivesAll most ts x m × Accepts most (k x) m

-- What is left after a token is accepted, where the level that it opens may be opened.
abbrev pub Accepted : ℕ → Move → Lexemes → Type 0
Accepted most stuck ts = ⊥
Accepted most (next goal) ts = Accepts most goal ts
Accepted most (opens d goal) ts = (d ≤ most) × Accepts most goal ts

-- WANTS MADE OF OTHERS

whole_part : (x : Trace) (most d : ℕ) (ts rest : Lexemes) → DerivesTrace most d item ts x rest → IsNotFirst t.Fby rest → DerivesTrace most d whole ts x rest
whole_part (s.sequence xs) most d ts rest x h = cc x.0
whole_part (s.braces y at) most d ts rest x h = (x.0, x.1, x.2, x.3, x.4, x.5, x.6, x.7, h)
whole_part (s.loop l y) most d ts rest x h = (x.0, x.1, x.2, x.3, x.4, x.5, x.6, x.7, h)
whole_part (s.raise n) most d ts rest x h = (x.0, x.1, x.2, h)
whole_part (s.assert e y) most d ts rest x h = x
whole_part (s.exist gs y) most d ts rest x h = x
whole_part (s.define z y) most d ts rest x h = x
whole_part (s.exceptions ns y) most d ts rest x h = x
whole_part (s.catch n y z) most d ts rest x h = x
whole_part (s.trap n y z) most d ts rest x h = x
whole_part (s.try y z) most d ts rest x h = x
whole_part (s.value e) most d ts rest x h = (x.0, x.1, h)

-- a trace is a first part and more of them
trace_made : (x : Trace) (xs : Traces) (most d : ℕ) (ts m rest : Lexemes) → DerivesTrace most d item ts x m → DerivesMoreItems most d m xs rest → DerivesTrace most d whole ts (sequence_of x xs) rest
trace_made x s.no_traces most d ts m rest dx dxs = whole_part x most d ts rest (subst (λ n. DerivesTrace most d item ts x n) dxs.0 dx) dxs.1
trace_made x (s.one_trace y ys) most d ts m rest dx dxs = (refl, (m, dx, tt, dxs))

pub record IsTrace (most d : ℕ) (k : Trace → Goal) (ts : Lexemes) : Type 0 where
  pub trace : Trace
  pub rest : Lexemes
  pub derived : DerivesTrace most d whole ts trace rest
  pub accepted : Accepts most (k trace) rest

a_trace_accepts : (most d : ℕ) (k : Trace → Goal) (ts : Lexemes) → Accepts most (a_trace d k) ts → IsTrace most d k ts
a_trace_accepts most d k ts a = record { trace = sequence_of a.0 a.3.0; rest = a.3.1; derived = trace_made a.0 a.3.0 most d ts a.1 a.3.1 a.2 a.3.2; accepted = a.3.3 }

no_operator : (ts : Lexemes) → Heads (λ op. rank op < 0) ts → IsNoOperator ts
no_operator ts h = λ op sign w at rest e e'. omega (arith, h op sign w at rest e e')

names_accept : (most : ℕ) (k : List Word → Goal) (ts : Lexemes) → Accepts most (names k) ts → (ns : List Word) × (m : Lexemes) × DerivesNames ts ns m × Accepts most (k ns) m
names_accept most k ts a = (a.0 ∷ a.3.0, a.3.1, (a.1, a.2, a.3.2), a.3.3)

group_accepts : (most d : ℕ) (k : Grouping → Goal) (ts : Lexemes) → Accepts most (a_group d k) ts → (g : Grouping) × (m : Lexemes) × DerivesGrouping most d ts g m × Accepts most (k g) m
group_accepts most d k ts a =
    let n = names_accept most (λ ns. a_sign t.Colon (λ p. a_type (λ ki. a_ref (λ c. a_range (λ r. a_first d (λ f. k (s.grouping ns ki c r f))))))) ts a in
    let c = n.3 in
    let y = c.4 in
    let r = y.5 in (
      s.grouping n.0 y.0 r.0 r.3.0 r.3.3.0,
      r.3.3.1,
      (c.0, c.1, y.1, y.2, y.3, subst (λ l. DerivesNames ts n.0 l) (c.3 ∙ ap (λ l. lexeme t.Colon c.0 c.1 ∷ l) y.4) n.2, r.1, r.2, r.3.1, r.3.2, r.3.3.2),
      r.3.3.3,
    )

groups_accept : (most d : ℕ) (end : Sign) (k : Groupings → Goal) (ts : Lexemes) → Accepts most (groups d end k) ts
    → (g : Grouping) × (gs : Groupings) × (m : Lexemes) × DerivesGroups most d end ts (s.one_group g gs) m × Accepts most (k (s.one_group g gs)) m
groups_accept most d end k ts a =
    let g = group_accepts most d (λ g'. more_groups d end (λ gs. k (s.one_group g' gs))) ts a in
    (g.0, g.3.0, g.3.1, (g.1, g.2, g.3.2), g.3.3)

meaning_accepts : (kind : TypeName) (most d : ℕ) (k : Meaning → Goal) (ts : Lexemes) → Accepts most (a_meaning d kind k) ts → (y : Meaning) × (m : Lexemes) × Means kind y × DerivesMeaning most d ts y m × Accepts most (k y) m
meaning_accepts ty.Trace most d k ts a = let b' = a_trace_accepts most d (λ y. k (s.trace_meaning y)) ts a in (s.trace_meaning b'.trace, b'.rest, tt, b'.derived, b'.accepted)
meaning_accepts ty.Bool most d k ts a = (s.value_meaning a.0, a.1, tt, (a.3, no_operator a.1 a.4), a.5)
meaning_accepts ty.Int most d k ts a = (s.value_meaning a.0, a.1, tt, (a.3, no_operator a.1 a.4), a.5)
meaning_accepts ty.Real most d k ts a = (s.value_meaning a.0, a.1, tt, (a.3, no_operator a.1 a.4), a.5)

macro_accepts : (most d : ℕ) (k : Macro → Goal) (ts : Lexemes) → Accepts most (a_macro d k) ts → (y : Macro) × (m : Lexemes) × DerivesMacro most d ts y m × Accepts most (k y) m
macro_accepts most d k ts a =
    let ps = a.3 in
    let c = ps.3 in
    let y = c.4 in
    let q = y.5 in
    let z = meaning_accepts y.0 most d (λ x. k (s.macro a.0 ps.0 y.0 x)) q.2 q.4 in (
      s.macro a.0 ps.0 y.0 z.0,
      z.1,
      (a.1, a.2, c.0, c.1, y.1, y.2, q.0, q.1, q.2, subst (λ l. DerivesParameters most d a.1 ps.0 l) (c.3 ∙ ap (λ l. lexeme t.Colon c.0 c.1 ∷ l) (y.4 ∙ ap (λ l. lexeme (type_sign y.0) y.1 y.2 ∷ l) q.3)) ps.2, z.2, z.3),
      z.4,
    )

run_accepts : (most d : ℕ) (at : Span) (w : List ℕ) (k : Run → Goal) (ts : Lexemes) → suc (suc d) ≤ most → Accepts most (run_goal (suc (suc d)) at k) ts
    → (r : Run) × (m : Lexemes) × DerivesRun most d (lexeme t.Run w at ∷ ts) r m × Accepts most (k r) m
run_accepts most d at w k ts l a =
    let a_run : List Word → Word → List Exp → Span → Run = λ ns n es q. record { names = ns; node = n; arguments = es; span = across at q } in
    let ns = names_accept most (λ ns'. a_sign t.Assign (λ p. a_name (λ n. a_sign t.Open (λ o. some_expressions (suc (suc d)) (λ es. a_sign t.In (λ q. k (a_run ns' n es q))))))) ts a in
    let c = ns.3 in
    let n = c.4 in
    let o = n.3 in
    let es = o.4 in
    let q = es.3 in (
      a_run ns.0 n.0 es.0 q.1,
      q.2,
      (
        w,
        at,
        ts,
        refl,
        omega (arith, l),
        c.0,
        c.1,
        o.0,
        o.1,
        o.2,
        subst (λ r. DerivesNames ts ns.0 r) (c.3 ∙ ap (λ r. lexeme t.Assign c.0 c.1 ∷ r) (n.2 ∙ ap (λ r. lexeme t.Name n.0.text n.0.span ∷ r) o.3)) ns.2,
        l,
        q.0,
        q.1,
        subst (λ r. DerivesExpressions most (suc (suc d)) o.2 es.0 r) q.3 es.2,
        refl,
      ),
      q.4,
    )

-- EXPRESSIONS

allowed_case : (b' : Bool) (low high : ℕ) → nat_le low high ≡ b' → (most : ℕ) (answer : Move) (ts : Lexemes) → Accepted most (allowed b' answer) ts → (low ≤ high) × Accepted most answer ts
allowed_case true low high e most answer ts a = (leb-true low high e, a)
allowed_case false low high e most answer ts a = absurd a

from_exp : (most d low : ℕ) (k : Exp → Goal) (sign : Sign) (w : List ℕ) (at : Span) (ts : Lexemes) → Accepted most (begin_exp d low k sign w at) ts
    → (e : Exp) × (m : Lexemes) × Stands low e × DerivesExp most d (lexeme sign w at ∷ ts) e m × Heads (λ op. rank op < low) m × Accepts most (k e) m
from_exp most d low k t.Number w at ts a = let g = a.2 (lexeme t.Number w at ∷ ts) tt (refl, refl) in (a.0, a.1, g.0, g.1, a.3, a.4)
from_exp most d low k t.True w at ts a = let g = a.2 (lexeme t.True w at ∷ ts) tt (w, refl) in (a.0, a.1, g.0, g.1, a.3, a.4)
from_exp most d low k t.False w at ts a = let g = a.2 (lexeme t.False w at ∷ ts) tt (w, refl) in (a.0, a.1, g.0, g.1, a.3, a.4)
from_exp most d low k t.Name w at ts a = let z = a.4 in let g = z.2 (lexeme t.Name w at ∷ ts) (a.2 low) a.3 in (z.0, z.1, g.0, g.1, z.3, z.4)
from_exp most d low k t.Pre w at ts a = let z = a.3 in let g = z.2 (lexeme t.Pre w at ∷ ts) tt (w, at, ap (λ l. lexeme t.Pre w at ∷ l) a.2, refl) in (z.0, z.1, g.0, g.1, z.3, z.4)
from_exp most d low k t.Open w at ts a =
    let i = a.1 in
    let c = i.5 in
    let z = c.4 in
    let g = z.2 (lexeme t.Open w at ∷ ts) tt (w, at, ts, refl, a.0, c.0, c.1, subst (λ l. DerivesExp most (suc d) ts i.0 l) c.3 i.3, refl) in (z.0, z.1, g.0, g.1, z.3, z.4)
from_exp most d low k t.Minus w at ts a =
    let b' = allowed_case (nat_le low 8) low 8 refl most (opens (suc d) (unary_goal (suc d) u.Neg at (λ e. more_exp d low e k))) ts a in
    let i = b'.1.1 in
    let z = i.5 in
    let g = z.2 (lexeme t.Minus w at ∷ ts) b'.0 (w, at, ts, refl, b'.1.0, i.2, i.3, refl) in (z.0, z.1, g.0, g.1, z.3, z.4)
from_exp most d low k t.Not w at ts a =
    let b' = allowed_case (nat_le low 4) low 4 refl most (opens (suc d) (unary_goal (suc d) u.Not at (λ e. more_exp d low e k))) ts a in
    let i = b'.1.1 in
    let z = i.5 in
    let g = z.2 (lexeme t.Not w at ∷ ts) b'.0 (w, at, ts, refl, b'.1.0, i.2, i.3, refl) in (z.0, z.1, g.0, g.1, z.3, z.4)
from_exp most d low k t.If w at ts a =
    let b' = allowed_case (nat_le low 0) low 0 refl most (opens (suc d) (if_goal (suc d) at (λ e. more_exp d low e k))) ts a in
    let e1 = b'.1.1 in
    let c1 = e1.5 in
    let e2 = c1.4 in
    let c2 = e2.5 in
    let e3 = c2.4 in
    let z = e3.5 in
    let g = z.2 (lexeme t.If w at ∷ ts) b'.0 (w, at, ts, refl, b'.1.0, c1.0, c1.1, c1.2, subst (λ l. DerivesExp most (suc d) ts e1.0 l) c1.3 e1.3, c2.0, c2.1, c2.2, subst (λ l. DerivesExp most (suc d) c1.2 e2.0 l) c2.3 e2.3, e3.3, refl) in
    (z.0, z.1, g.0, g.1, z.3, z.4)
from_exp most d low k sign w at ts a = absurd a

cap_rank : (op : BinOp) → cap op ≤ rank op
cap_rank b.Add = omega arith
cap_rank b.Sub = omega arith
cap_rank b.Mul = omega arith
cap_rank b.Div = omega arith
cap_rank b.DivWord = omega arith
cap_rank b.Mod = omega arith
cap_rank b.Eq = omega arith
cap_rank b.Ne = omega arith
cap_rank b.Lt = omega arith
cap_rank b.Le = omega arith
cap_rank b.Gt = omega arith
cap_rank b.Ge = omega arith
cap_rank b.And = omega arith
cap_rank b.Or = omega arith
cap_rank b.Xor = omega arith
cap_rank b.Implies = omega arith

cap_six : (op : BinOp) → 5 ≤ cap op → 6 ≤ rank op
cap_six b.Add h = omega (arith, h)
cap_six b.Sub h = omega (arith, h)
cap_six b.Mul h = omega (arith, h)
cap_six b.Div h = omega (arith, h)
cap_six b.DivWord h = omega (arith, h)
cap_six b.Mod h = omega (arith, h)
cap_six b.Eq h = omega (arith, h)
cap_six b.Ne h = omega (arith, h)
cap_six b.Lt h = omega (arith, h)
cap_six b.Le h = omega (arith, h)
cap_six b.Gt h = omega (arith, h)
cap_six b.Ge h = omega (arith, h)
cap_six b.And h = omega (arith, h)
cap_six b.Or h = omega (arith, h)
cap_six b.Xor h = omega (arith, h)
cap_six b.Implies h = omega (arith, h)

cap_two : (op : BinOp) → 1 ≤ cap op → 2 ≤ rank op
cap_two b.Add h = omega (arith, h)
cap_two b.Sub h = omega (arith, h)
cap_two b.Mul h = omega (arith, h)
cap_two b.Div h = omega (arith, h)
cap_two b.DivWord h = omega (arith, h)
cap_two b.Mod h = omega (arith, h)
cap_two b.Eq h = omega (arith, h)
cap_two b.Ne h = omega (arith, h)
cap_two b.Lt h = omega (arith, h)
cap_two b.Le h = omega (arith, h)
cap_two b.Gt h = omega (arith, h)
cap_two b.Ge h = omega (arith, h)
cap_two b.And h = omega (arith, h)
cap_two b.Or h = omega (arith, h)
cap_two b.Xor h = omega (arith, h)
cap_two b.Implies h = omega (arith, h)

left_four : (op : BinOp) → rank op ≤ 3 → left_least op ≤ 4
left_four b.Add h = omega (arith, h)
left_four b.Sub h = omega (arith, h)
left_four b.Mul h = omega (arith, h)
left_four b.Div h = omega (arith, h)
left_four b.DivWord h = omega (arith, h)
left_four b.Mod h = omega (arith, h)
left_four b.Eq h = omega (arith, h)
left_four b.Ne h = omega (arith, h)
left_four b.Lt h = omega (arith, h)
left_four b.Le h = omega (arith, h)
left_four b.Gt h = omega (arith, h)
left_four b.Ge h = omega (arith, h)
left_four b.And h = omega (arith, h)
left_four b.Or h = omega (arith, h)
left_four b.Xor h = omega (arith, h)
left_four b.Implies h = omega (arith, h)

left_eight : (op : BinOp) → left_least op ≤ 8
left_eight b.Add = omega arith
left_eight b.Sub = omega arith
left_eight b.Mul = omega arith
left_eight b.Div = omega arith
left_eight b.DivWord = omega arith
left_eight b.Mod = omega arith
left_eight b.Eq = omega arith
left_eight b.Ne = omega arith
left_eight b.Lt = omega arith
left_eight b.Le = omega arith
left_eight b.Gt = omega arith
left_eight b.Ge = omega arith
left_eight b.And = omega arith
left_eight b.Or = omega arith
left_eight b.Xor = omega arith
left_eight b.Implies = omega arith

one_rank : (op : BinOp) → 1 ≤ rank op
one_rank b.Add = omega arith
one_rank b.Sub = omega arith
one_rank b.Mul = omega arith
one_rank b.Div = omega arith
one_rank b.DivWord = omega arith
one_rank b.Mod = omega arith
one_rank b.Eq = omega arith
one_rank b.Ne = omega arith
one_rank b.Lt = omega arith
one_rank b.Le = omega arith
one_rank b.Gt = omega arith
one_rank b.Ge = omega arith
one_rank b.And = omega arith
one_rank b.Or = omega arith
one_rank b.Xor = omega arith
one_rank b.Implies = omega arith

left_cap : (op op' : BinOp) → rank op ≤ cap op' → left_least op ≤ rank op'
left_cap b.Add op' h = omega (arith, h, cap_rank op')
left_cap b.Sub op' h = omega (arith, h, cap_rank op')
left_cap b.Mul op' h = omega (arith, h, cap_rank op')
left_cap b.Div op' h = omega (arith, h, cap_rank op')
left_cap b.DivWord op' h = omega (arith, h, cap_rank op')
left_cap b.Mod op' h = omega (arith, h, cap_rank op')
left_cap b.Eq op' h = cap_six op' h
left_cap b.Ne op' h = cap_six op' h
left_cap b.Lt op' h = cap_six op' h
left_cap b.Le op' h = cap_six op' h
left_cap b.Gt op' h = cap_six op' h
left_cap b.Ge op' h = cap_six op' h
left_cap b.And op' h = omega (arith, h, cap_rank op')
left_cap b.Or op' h = omega (arith, h, cap_rank op')
left_cap b.Xor op' h = omega (arith, h, cap_rank op')
left_cap b.Implies op' h = cap_two op' h

-- What an operator may follow may stand on its left.
top_left : (op : BinOp) (x : Exp) → rank op ≤ top x → Stands (left_least op) x
top_left op (s.choose e f g at) h = omega (arith, h, one_rank op)
top_left op (s.binary op' e f at) h = left_cap op op' h
top_left op (s.unary u.Not e at) h = left_four op h
top_left op (s.unary u.Neg e at) h = left_eight op
top_left op x h = tt

sign_operator : (sign : Sign) (op : BinOp) → operator sign ≡ Some op → sign ≡ binary_sign op
sign_operator t.Plus op e = let q : b.Add ≡ op = cc in ap binary_sign q
sign_operator t.Minus op e = let q : b.Sub ≡ op = cc in ap binary_sign q
sign_operator t.Star op e = let q : b.Mul ≡ op = cc in ap binary_sign q
sign_operator t.Slash op e = let q : b.Div ≡ op = cc in ap binary_sign q
sign_operator t.Div op e = let q : b.DivWord ≡ op = cc in ap binary_sign q
sign_operator t.Mod op e = let q : b.Mod ≡ op = cc in ap binary_sign q
sign_operator t.Equal op e = let q : b.Eq ≡ op = cc in ap binary_sign q
sign_operator t.Unequal op e = let q : b.Ne ≡ op = cc in ap binary_sign q
sign_operator t.Less op e = let q : b.Lt ≡ op = cc in ap binary_sign q
sign_operator t.LessEqual op e = let q : b.Le ≡ op = cc in ap binary_sign q
sign_operator t.Greater op e = let q : b.Gt ≡ op = cc in ap binary_sign q
sign_operator t.GreaterEqual op e = let q : b.Ge ≡ op = cc in ap binary_sign q
sign_operator t.And op e = let q : b.And ≡ op = cc in ap binary_sign q
sign_operator t.Or op e = let q : b.Or ≡ op = cc in ap binary_sign q
sign_operator t.Xor op e = let q : b.Xor ≡ op = cc in ap binary_sign q
sign_operator t.Implies op e = let q : b.Implies ≡ op = cc in ap binary_sign q
sign_operator sign op e = absurd (none_some None op refl e)

from_operand : (op : BinOp) (most d : ℕ) (k : Exp → Goal) (ts : Lexemes) → Accepted most (operand d op k) ts
    → (f : Exp) × (m : Lexemes) × Stands (right_least op f) f × MayOpen op d most × DerivesExp most (opened op d) ts f m × Accepts most (k f) m
from_operand b.Implies most d k ts a = (a.1.0, a.1.1, a.1.2, a.0, a.1.3, a.1.5)
from_operand b.Eq most d k ts a = (a.0, a.1, a.2, tt, a.3, a.4)
from_operand b.Ne most d k ts a = (a.0, a.1, a.2, tt, a.3, a.4)
from_operand b.Lt most d k ts a = (a.0, a.1, a.2, tt, a.3, a.4)
from_operand b.Le most d k ts a = (a.0, a.1, a.2, tt, a.3, a.4)
from_operand b.Gt most d k ts a = (a.0, a.1, a.2, tt, a.3, a.4)
from_operand b.Ge most d k ts a = (a.0, a.1, a.2, tt, a.3, a.4)
from_operand op most d k ts a = (a.0, a.1, a.2, tt, a.3, a.5)

skipped : (most d low : ℕ) (x : Exp) (k : Exp → Goal) (ts : Lexemes) → Heads (λ op. rank op < low) ts → Accepts most (k x) ts → Accepts most (more_exp d low x k) ts
skipped most d low x k ts h a = (x, ts, (λ start st dx. (st, dx)), h, a)

taken : (op : BinOp) (most d low : ℕ) (x : Exp) (k : Exp → Goal) (sign : Sign) (w : List ℕ) (at : Span) (ts : Lexemes) → sign ≡ binary_sign op → low ≤ rank op → rank op ≤ top x
    → Accepted most (operand d op (λ y. more_exp d low (s.binary op x y (across (span_of x) (span_of y))) k)) ts → Accepts most (more_exp d low x k) (lexeme sign w at ∷ ts)
taken op most d low x k sign w at ts e l r a =
    let f = from_operand op most d (λ y. more_exp d low (s.binary op x y (across (span_of x) (span_of y))) k) ts a in
    let z = f.5 in
    (z.0, z.1, (λ start st dx. z.2 start l (top_left op x r, f.2, f.3, w, at, ts, subst (λ c. DerivesExp most d start x (lexeme c w at ∷ ts)) e dx, f.4, refl)), z.3, z.4)

lt_true : (a c : ℕ) → nat_lt a c ≡ true → a < c
lt_true a c q = grind (arith, nat_tests)

lt_false : (a c : ℕ) → nat_lt a c ≡ false → c ≤ a
lt_false a c q = grind (arith, nat_tests)

from_more : (b' c' : Bool) (op : BinOp) (most d low : ℕ) (x : Exp) (k : Exp → Goal) (sign : Sign) (w : List ℕ) (at : Span) (ts : Lexemes) (skip : Move) → operator sign ≡ Some op
    → nat_lt (rank op) low ≡ b' → nat_le (rank op) (top x) ≡ c'
    → Accepted most (if b' then skip else (if c' then operand d op (λ y. more_exp d low (s.binary op x y (across (span_of x) (span_of y))) k) else stuck)) ts
    → (Accepted most skip ts → Accepts most (k x) (lexeme sign w at ∷ ts)) → Accepts most (more_exp d low x k) (lexeme sign w at ∷ ts)
from_more true c' op most d low x k sign w at ts skip e p q a ih =
    skipped most d low x k (lexeme sign w at ∷ ts)
    (λ o sign' w' at' rest' g g'. let same : ◌≡◌ {A = Option BinOp} (Some op) (Some o) = sym e ∙ ap operator (same_first sign sign' w w' at at' ts rest' g) ∙ g' in let same' : op ≡ o = cc in let lt = lt_true (rank op) low p in subst (λ o'. rank o' < low) same' lt)
    (ih a)
from_more false true op most d low x k sign w at ts skip e p q a ih = taken op most d low x k sign w at ts (sign_operator sign op e) (lt_false (rank op) low p) (leb-true (rank op) (top x) q) a
from_more false false op most d low x k sign w at ts skip e p q a ih = absurd a

from_extend : (o : Option BinOp) (most d low : ℕ) (x : Exp) (k : Exp → Goal) (sign : Sign) (w : List ℕ) (at : Span) (ts : Lexemes) (skip : Move) → operator sign ≡ o
    → Accepted most (extend o d low x k skip) ts → (Accepted most skip ts → Accepts most (k x) (lexeme sign w at ∷ ts)) → Accepts most (more_exp d low x k) (lexeme sign w at ∷ ts)
from_extend None most d low x k sign w at ts skip e a ih =
    skipped most d low x k (lexeme sign w at ∷ ts) (λ o sign' w' at' rest' g g'. absurd (none_some (operator sign) o e (ap operator (same_first sign sign' w w' at at' ts rest' g) ∙ g'))) (ih a)
from_extend (Some op) most d low x k sign w at ts skip e a ih = from_more (nat_lt (rank op) low) (nat_le (rank op) (top x)) op most d low x k sign w at ts skip e refl refl a ih

-- THE SIDES OF COMPARISONS

left_six : (op : BinOp) → 4 ≤ rank op → 6 ≤ left_least op
left_six b.Add h = omega (arith, h)
left_six b.Sub h = omega (arith, h)
left_six b.Mul h = omega (arith, h)
left_six b.Div h = omega (arith, h)
left_six b.DivWord h = omega (arith, h)
left_six b.Mod h = omega (arith, h)
left_six b.Eq h = omega (arith, h)
left_six b.Ne h = omega (arith, h)
left_six b.Lt h = omega (arith, h)
left_six b.Le h = omega (arith, h)
left_six b.Gt h = omega (arith, h)
left_six b.Ge h = omega (arith, h)
left_six b.And h = omega (arith, h)
left_six b.Or h = omega (arith, h)
left_six b.Xor h = omega (arith, h)
left_six b.Implies h = omega (arith, h)

not_side : (e : Exp) (most d : ℕ) (w : List ℕ) (p : Span) (us rest : Lexemes) → Stands 4 e → DerivesExp most d (lexeme t.Not w p ∷ us) e rest → Stands (side_least e) e
not_side (s.choose e f g at) most d w p us rest st x = absurd (omega (arith, st))
not_side (s.binary op e f at) most d w p us rest st x = absurd (no_not e most d w p us (lexeme (binary_sign op) x.3 x.4 ∷ x.5) (looser e 6 (left_least op) (left_six op st) x.0) x.6)
not_side (s.unary u.Not e at) most d w p us rest st x = omega arith
not_side (s.unary u.Neg e at) most d w p us rest st x = omega arith
not_side e most d w p us rest st x = tt

sum_side : (e : Exp) → Stands 6 e → Stands (side_least e) e
sum_side (s.unary u.Not e at) st = omega arith
sum_side (s.unary u.Neg e at) st = st
sum_side e st = st

side_stands : (sign : Sign) (e : Exp) (most d : ℕ) (w : List ℕ) (p : Span) (us rest : Lexemes) → Stands (right_side_low sign) e → DerivesExp most d (lexeme sign w p ∷ us) e rest → Stands (side_least e) e
side_stands t.Not e most d w p us rest st x = not_side e most d w p us rest st x
side_stands sign e most d w p us rest st x = sum_side e st

-- TRACES

pub not_first_by : (wanted sign : Sign) (w : List ℕ) (at : Span) (ts : Lexemes) → sameb the_type sign wanted ≡ false → IsNotFirst wanted (lexeme sign w at ∷ ts)
not_first_by wanted sign w at ts h = λ v q vs e. same_false the_type sign wanted h (same_first sign wanted w v at q ts vs e)

from_item : (most d : ℕ) (k : Trace → Goal) (sign : Sign) (w : List ℕ) (at : Span) (ts : Lexemes) → Accepted most (begin_item d k sign w at) ts
    → (x : Trace) × (m : Lexemes) × DerivesTrace most d item (lexeme sign w at ∷ ts) x m × Accepts most (k x) m
from_item most d k t.OpenBrace w at ts a = let y = a.1 in (s.braces y.0 (across at y.1), y.2, (w, at, ts, refl, a.0, y.1, y.3, refl, tt), y.4)
from_item most d k t.Loop w at ts a = let l = a.1 in let y = l.3 in (s.loop l.0 y.0, y.1, (w, at, ts, refl, a.0, l.1, l.2, y.2, tt), y.3)
from_item most d k t.Raise w at ts a = (s.raise a.0, a.1, (w, at, ap (λ l. lexeme t.Raise w at ∷ l) a.2, tt), a.3)
from_item most d k t.Assert w at ts a =
    let e = a.1 in
    let c = e.5 in
    let y = a_trace_accepts most (suc d) (λ x. k (s.assert e.0 x)) c.2 c.4 in
    (s.assert e.0 y.trace, y.rest, (w, at, ts, refl, a.0, c.0, c.1, c.2, subst (λ l. DerivesExp most (suc d) ts e.0 l) c.3 e.3, y.derived), y.accepted)
from_item most d k t.Exist w at ts a =
    let g = groups_accept most (suc d) t.In (λ gs. a_trace (suc d) (λ x. k (s.exist gs x))) ts a.1 in
    let y = a_trace_accepts most (suc d) (λ x. k (s.exist (s.one_group g.0 g.1) x)) g.2 g.4 in
    (s.exist (s.one_group g.0 g.1) y.trace, y.rest, (w, at, ts, refl, a.0, tt, g.2, g.3, y.derived), y.accepted)
from_item most d k t.Let w at ts a =
    let z = macro_accepts most (suc d) (λ z'. a_sign t.In (λ p. a_trace (suc d) (λ x. k (s.define z' x)))) ts a.1 in
    let c = z.3 in
    let y = a_trace_accepts most (suc d) (λ x. k (s.define z.0 x)) c.2 c.4 in
    (s.define z.0 y.trace, y.rest, (w, at, ts, refl, a.0, c.0, c.1, c.2, subst (λ l. DerivesMacro most (suc d) ts z.0 l) c.3 z.2, y.derived), y.accepted)
from_item most d k t.Exception w at ts a =
    let z = names_accept most (λ ns. a_sign t.In (λ p. a_trace (suc d) (λ x. k (s.exceptions ns x)))) ts a.1 in
    let c = z.3 in
    let y = a_trace_accepts most (suc d) (λ x. k (s.exceptions z.0 x)) c.2 c.4 in
    (s.exceptions z.0 y.trace, y.rest, (w, at, ts, refl, a.0, c.0, c.1, c.2, subst (λ l. DerivesNames ts z.0 l) c.3 z.2, y.derived), y.accepted)
from_item most d k t.Catch w at ts a =
    let n = a.1 in
    let c = n.3 in
    let y = a_trace_accepts most (suc d) (λ x. a_handler (suc d) (λ h. k (s.catch n.0 x h))) c.2 c.4 in
    let h = y.accepted in
    (s.catch n.0 y.trace h.0, h.1, (w, at, c.0, c.1, c.2, ap (λ l. lexeme t.Catch w at ∷ l) (n.2 ∙ ap (λ l. lexeme t.Name n.0.text n.0.span ∷ l) c.3), a.0, y.rest, y.derived, h.2), h.3)
from_item most d k t.Trap w at ts a =
    let n = a.1 in
    let c = n.3 in
    let y = a_trace_accepts most (suc d) (λ x. a_handler (suc d) (λ h. k (s.trap n.0 x h))) c.2 c.4 in
    let h = y.accepted in
    (s.trap n.0 y.trace h.0, h.1, (w, at, c.0, c.1, c.2, ap (λ l. lexeme t.Trap w at ∷ l) (n.2 ∙ ap (λ l. lexeme t.Name n.0.text n.0.span ∷ l) c.3), a.0, y.rest, y.derived, h.2), h.3)
from_item most d k t.Try w at ts a =
    let y = a_trace_accepts most (suc d) (λ x. a_handler (suc d) (λ h. k (s.try x h))) ts a.1 in
    let h = y.accepted in
    (s.try y.trace h.0, h.1, (w, at, ts, refl, a.0, y.rest, y.derived, h.2), h.3)
from_item most d k sign w at ts a = let e = from_exp most d 0 (λ e'. k (s.value e')) sign w at ts a in (s.value e.0, e.1, (e.3, no_operator e.1 e.4, tt), e.5)

from_argument : (most d : ℕ) (k : Argument → Goal) (sign : Sign) (w : List ℕ) (at : Span) (ts : Lexemes) → Accepted most (begin_argument d k sign w at) ts
    → (x : Argument) × (m : Lexemes) × DerivesArgument most d (lexeme sign w at ∷ ts) x m × Accepts most (k x) m
from_argument most d k t.OpenBrace w at ts a = let y = a.1 in (s.trace_argument y.0 (across at y.1), y.2, (w, at, ts, refl, a.0, y.1, y.3, refl), y.4)
from_argument most d k sign w at ts a = let e = from_exp most d 0 (λ e'. k (s.value_argument e')) sign w at ts a in (s.value_argument e.0, e.1, e.3, e.5)

false_is_true : {A : Type 0} → false ≡ true → A
false_is_true e = cc

item_no_weight : (x : Trace) (xs : Traces) (most d : ℕ) (sign : Sign) (w : List ℕ) (at : Span) (ts m rest : Lexemes) → DerivesTrace most d item (lexeme sign w at ∷ ts) x m → begins_item sign ≡ true → IsNoWeight (sequence_of x xs) rest
item_no_weight x (s.one_trace y ys) most d sign w at ts m rest dx e = tt
item_no_weight (s.value v) s.no_traces most d sign w at ts m rest dx e =
    let c = exp_begins v most d (lexeme sign w at ∷ ts) m dx.0 in
    false_is_true (sym (no_item_begins c.sign c.begins) ∙ sym (ap begins_item (same_first sign c.sign w c.text at c.at ts c.rest c.is)) ∙ e)
item_no_weight x s.no_traces most d sign w at ts m rest dx e = tt

from_alternative : (c : Bool) (most d : ℕ) (k : Alternative → Goal) (sign : Sign) (w : List ℕ) (at : Span) (ts : Lexemes) → begins_item sign ≡ c → Accepted most (begin_alternative c d k sign w at) ts
    → Accepts most (an_alternative d k) (lexeme sign w at ∷ ts)
from_alternative true most d k sign w at ts e a =
    let x = from_item most d (λ y. more_items d (λ ys. k (s.unweighted (sequence_of y ys)))) sign w at ts a in
    let xs = x.3 in
    (s.unweighted (sequence_of x.0 xs.0), xs.1, (trace_made x.0 xs.0 most d (lexeme sign w at ∷ ts) x.1 xs.1 x.2 xs.2, item_no_weight x.0 xs.0 most d sign w at ts x.1 xs.1 x.2 e), xs.3)
from_alternative false most d k sign w at ts e a =
    let x = from_exp most d 0 (λ e'. after_weight d e' k) sign w at ts a in
    let y = x.5 in
    (y.0, y.1, y.2 (lexeme sign w at ∷ ts) x.3 (no_operator x.1 x.4), y.3)

-- ONE TOKEN BACK

from_sign : (wanted sign : Sign) (b' : Bool) → sameb the_type wanted sign ≡ b' → (most : ℕ) (goal : Goal) (w : List ℕ) (at : Span) (ts : Lexemes) → Accepted most (if b' then next goal else stuck) ts
    → (lexeme sign w at ∷ ts ≡ lexeme wanted w at ∷ ts) × Accepts most goal ts
from_sign wanted sign true e most goal w at ts a = ((λ i. lexeme (sym (same_true the_type (search rules) wanted sign e) i) w at ∷ ts), a)
from_sign wanted sign false e most goal w at ts a = absurd a

pub back : (g : Goal) (most : ℕ) (sign : Sign) (w : List ℕ) (at : Span) (ts : Lexemes) → Accepted most (step g sign w at) ts → Accepts most g (lexeme sign w at ∷ ts)
back (nothing_more x) most sign w at ts a = absurd a
back (a_sign wanted k) most sign w at ts a = let b' = from_sign wanted sign (sameb the_type wanted sign) refl most (k at) w at ts a in (w, at, ts, b'.0, b'.1)
back (a_name k) most t.Name w at ts a = (record { text = w; span = at }, ts, refl, a)
back (a_name k) most sign w at ts a = absurd a
back (an_exp d low k) most sign w at ts a = from_exp most d low k sign w at ts a
back (more_exp d low x k) most sign w at ts a = from_extend (operator sign) most d low x k sign w at ts (step (k x) sign w at) refl a (back (k x) most sign w at ts)
back (a_right_side d k) most sign w at ts a = let e = from_exp most d (right_side_low sign) k sign w at ts a in (e.0, e.1, side_stands sign e.0 most d w at ts e.1 e.2 e.3, e.3, e.5)
back (after_name d n k) most t.Open w at ts a = let x = a.1 in (s.called n x.0, x.1, (λ low. tt), (w, at, ts, refl, a.0, x.2), x.3)
back (after_name d n k) most sign w at ts a = (s.named n, lexeme sign w at ∷ ts, (λ low. tt), (refl, not_first_by t.Open sign w at ts refl), back (k (s.named n)) most sign w at ts a)
back (some_arguments d k) most t.Close w at ts a = (s.no_arguments, ts, (w, at, refl), a)
back (some_arguments d k) most sign w at ts a =
    let x = from_argument most d (λ y. more_arguments d (λ more. k (s.argument y more))) sign w at ts a in
    let m = x.3 in
    (s.argument x.0 m.0, m.1, (x.1, x.2, m.2), m.3)
back (more_arguments d k) most t.Close w at ts a = (s.no_arguments, ts, (w, at, refl), a)
back (more_arguments d k) most t.Comma w at ts a = let m = a.3 in (s.argument a.0 m.0, m.1, (w, at, ts, refl, a.1, a.2, m.2), m.3)
back (more_arguments d k) most sign w at ts a = absurd a
back (an_argument d k) most sign w at ts a = from_argument most d k sign w at ts a
back (an_item d k) most sign w at ts a = from_item most d k sign w at ts a
back (more_items d k) most t.Fby w at ts a = let m = a.3 in (s.one_trace a.0 m.0, m.1, (w, at, ts, refl, a.1, a.2, m.2), m.3)
back (more_items d k) most sign w at ts a = (s.no_traces, lexeme sign w at ∷ ts, (refl, not_first_by t.Fby sign w at ts refl), back (k s.no_traces) most sign w at ts a)
back (a_handler d k) most t.Do w at ts a = let y = a_trace_accepts most d (λ x. k (s.a_trace x)) ts a in (s.a_trace y.trace, y.rest, (w, at, ts, refl, y.derived), y.accepted)
back (a_handler d k) most sign w at ts a = (s.no_trace, lexeme sign w at ∷ ts, (refl, not_first_by t.Do sign w at ts refl), back (k s.no_trace) most sign w at ts a)
back (some_limits d k) most t.OpenBracket w at ts a =
    let c = a.5 in
    let f = c.4 in
    let z = f.5 in
    (s.between a.0 f.0, z.2, (w, at, ts, refl, c.0, c.1, c.2, subst (λ l. DerivesExp most d ts a.0 l) c.3 a.3, z.0, z.1, subst (λ l. DerivesExp most d c.2 f.0 l) z.3 f.3), z.4)
back (some_limits d k) most t.Tilde w at ts a =
    let c = a.3 in
    let f = c.4 in
    (s.around a.0 f.0, f.1, (w, at, ts, refl, c.0, c.1, c.2, subst (λ l. DerivesBound most d ts a.0 l) c.3 a.2, f.2), f.3)
back (some_limits d k) most sign w at ts a = (s.forever, lexeme sign w at ∷ ts, (refl, not_first_by t.OpenBracket sign w at ts refl, not_first_by t.Tilde sign w at ts refl), back (k s.forever) most sign w at ts a)
back (a_bound d k) most t.Number w at ts a = (s.number (record { minus = false; text = w; span = at }), ts, (refl, refl), a)
back (a_bound d k) most t.Name w at ts a = (s.named (record { text = w; span = at }), ts, refl, a)
back (a_bound d k) most t.Open w at ts a =
    let e = a.1 in
    let c = e.5 in
    (s.paren e.0 (across at c.1), c.2, (w, at, ts, refl, a.0, c.0, c.1, subst (λ l. DerivesExp most (suc d) ts e.0 l) c.3 e.3, refl), c.4)
back (a_bound d k) most sign w at ts a = absurd a
back (some_braced d k) most t.Bar w at ts a = let m = a.3 in (s.choice true (s.alternative a.0 m.0), m.1, m.2, (tt, (w, at, ts, refl, a.1, a.2, m.3)), m.4)
back (some_braced d k) most t.Priority w at ts a =
    let y = a_trace_accepts most d (λ x. more_traces d t.Priority (λ xs q. k (s.priority true (s.one_trace x xs)) q)) ts a in
    let m = y.accepted in
    (s.priority true (s.one_trace y.trace m.0), m.1, m.2, (tt, (w, at, ts, refl, y.rest, y.derived, m.3)), m.4)
back (some_braced d k) most t.Parallel w at ts a =
    let y = a_trace_accepts most d (λ x. more_traces d t.Parallel (λ xs q. k (s.parallel true (s.one_trace x xs)) q)) ts a in
    let m = y.accepted in
    (s.parallel true (s.one_trace y.trace m.0), m.1, m.2, (tt, (w, at, ts, refl, y.rest, y.derived, m.3)), m.4)
back (some_braced d k) most sign w at ts a =
    let x = from_item most d (λ y. more_items d (λ ys. after_first d (sequence_of y ys) k)) sign w at ts a in
    let m = x.3 in
    let z = m.3 in
    (z.0, z.1, z.2, z.3 (lexeme sign w at ∷ ts) (trace_made x.0 m.0 most d (lexeme sign w at ∷ ts) x.1 m.1 x.2 m.2), z.4)
back (after_first d x k) most t.CloseBrace w at ts a = (s.plain x, at, ts, (λ start dx. (w, dx)), a)
back (after_first d x k) most t.Bar w at ts a =
    let m = a.3 in
    (s.choice false (s.alternative (s.unweighted x) (s.alternative a.0 m.0)), m.1, m.2, (λ start dx. (lexeme t.Bar w at ∷ ts, dx, tt, (w, at, ts, refl, a.1, a.2, m.3))), m.4)
back (after_first d x k) most t.Priority w at ts a =
    let y = a_trace_accepts most d (λ z. more_traces d t.Priority (λ zs q. k (s.priority false (s.one_trace x (s.one_trace z zs))) q)) ts a in
    let m = y.accepted in
    (s.priority false (s.one_trace x (s.one_trace y.trace m.0)), m.1, m.2, (λ start dx. (lexeme t.Priority w at ∷ ts, dx, tt, (w, at, ts, refl, y.rest, y.derived, m.3))), m.4)
back (after_first d x k) most t.Parallel w at ts a =
    let y = a_trace_accepts most d (λ z. more_traces d t.Parallel (λ zs q. k (s.parallel false (s.one_trace x (s.one_trace z zs))) q)) ts a in
    let m = y.accepted in
    (s.parallel false (s.one_trace x (s.one_trace y.trace m.0)), m.1, m.2, (λ start dx. (lexeme t.Parallel w at ∷ ts, dx, tt, (w, at, ts, refl, y.rest, y.derived, m.3))), m.4)
back (after_first d x k) most sign w at ts a = absurd a
back (an_alternative d k) most sign w at ts a = from_alternative (begins_item sign) most d k sign w at ts refl a
back (after_weight d e k) most t.Colon w at ts a =
    let y = a_trace_accepts most d (λ x. k (s.weighted e x)) ts a in (s.weighted e y.trace, y.rest, (λ start de no. (w, at, ts, de, y.derived)), y.accepted)
back (after_weight d e k) most t.Fby w at ts a =
    let m = a.3 in
    (s.unweighted (s.sequence (s.one_trace (s.value e) (s.one_trace a.0 m.0))), m.1, (λ start de no. ((refl, (lexeme t.Fby w at ∷ ts, (de, no, tt), tt, (w, at, ts, refl, a.1, a.2, m.2))), tt)), m.3)
back (after_weight d e k) most sign w at ts a =
    (s.unweighted (s.value e), lexeme sign w at ∷ ts, (λ start de no. ((de, no, not_first_by t.Fby sign w at ts refl), not_first_by t.Colon sign w at ts refl)), back (k (s.unweighted (s.value e))) most sign w at ts a)
back (more_alternatives d k) most t.CloseBrace w at ts a = (s.no_alternatives, at, ts, (w, refl), a)
back (more_alternatives d k) most t.Bar w at ts a = let m = a.3 in (s.alternative a.0 m.0, m.1, m.2, (w, at, ts, refl, a.1, a.2, m.3), m.4)
back (more_alternatives d k) most sign w at ts a = absurd a
back (more_traces d wanted k) most t.CloseBrace w at ts a = (s.no_traces, at, ts, (w, refl), a)
back (more_traces d wanted k) most sign w at ts a =
    let b' = from_sign wanted sign (sameb the_type wanted sign) refl most (a_trace d (λ x. more_traces d wanted (λ xs q. k (s.one_trace x xs) q))) w at ts a in
    let y = a_trace_accepts most d (λ x. more_traces d wanted (λ xs q. k (s.one_trace x xs) q)) ts b'.1 in
    let m = y.accepted in
    (s.one_trace y.trace m.0, m.1, m.2, (w, at, ts, b'.0, y.rest, y.derived, m.3), m.4)
back (some_groups d k) most t.Close w at ts a = (s.no_groups, ts, (w, at, refl), a)
back (some_groups d k) most t.Name w at ts a =
    let g = groups_accept most d t.Close k (lexeme t.Name w at ∷ ts) (record { text = w; span = at }, ts, refl, a) in (s.one_group g.0 g.1, g.2, g.3, g.4)
back (some_groups d k) most sign w at ts a = absurd a
back (more_groups d end k) most t.Semicolon w at ts a =
    let g = group_accepts most d (λ g'. more_groups d end (λ gs. k (s.one_group g' gs))) ts a in
    let m = g.3 in
    (s.one_group g.0 m.0, m.1, (w, at, ts, refl, g.1, g.2, m.2), m.3)
back (more_groups d end k) most sign w at ts a = let b' = from_sign end sign (sameb the_type end sign) refl most (k s.no_groups) w at ts a in (s.no_groups, ts, (w, at, b'.0), b'.1)
back (more_names k) most t.Comma w at ts a = let m = a.3 in (a.0 ∷ m.0, m.1, (w, at, a.1, ap (λ l. lexeme t.Comma w at ∷ l) a.2, m.2), m.3)
back (more_names k) most sign w at ts a = ([], lexeme sign w at ∷ ts, (refl, not_first_by t.Comma sign w at ts refl), back (k []) most sign w at ts a)
back (a_type k) most t.Bool w at ts a = (ty.Bool, w, at, ts, refl, a)
back (a_type k) most t.Int w at ts a = (ty.Int, w, at, ts, refl, a)
back (a_type k) most t.Real w at ts a = (ty.Real, w, at, ts, refl, a)
back (a_type k) most t.Trace w at ts a = (ty.Trace, w, at, ts, refl, a)
back (a_type k) most sign w at ts a = absurd a
back (a_ref k) most t.Ref w at ts a = (true, ts, (w, at, refl), a)
back (a_ref k) most sign w at ts a = (false, lexeme sign w at ∷ ts, (refl, not_first_by t.Ref sign w at ts refl), back (k false) most sign w at ts a)
back (a_range k) most t.OpenBracket w at ts a =
    let c = a.3 in
    let h = c.4 in
    let z = h.3 in
    let e = z.3 in
    (Some (record { low = a.0; high = h.0; step = z.0 }), e.2, (w, at, ts, refl, c.0, c.1, c.2, subst (λ l. DerivesFigure ts a.0 l) c.3 a.2, h.1, h.2, e.0, e.1, subst (λ l. DerivesStep h.1 z.0 l) e.3 z.2), e.4)
back (a_range k) most sign w at ts a = (None, lexeme sign w at ∷ ts, (refl, not_first_by t.OpenBracket sign w at ts refl), back (k None) most sign w at ts a)
back (a_step k) most t.Semicolon w at ts a = (Some a.0, a.1, (w, at, ts, refl, a.2), a.3)
back (a_step k) most sign w at ts a = (None, lexeme sign w at ∷ ts, (refl, not_first_by t.Semicolon sign w at ts refl), back (k None) most sign w at ts a)
back (a_figure k) most t.Number w at ts a = (record { minus = false; text = w; span = at }, ts, refl, a)
back (a_figure k) most t.Minus w at ts a = (record { minus = true; text = a.0; span = across at a.1 }, a.2, (w, at, a.1, ap (λ l. lexeme t.Minus w at ∷ l) a.3, refl), a.4)
back (a_figure k) most sign w at ts a = absurd a
back (a_digits p k) most t.Number w at ts a = (w, at, ts, refl, a)
back (a_digits p k) most sign w at ts a = absurd a
back (a_list d k) most t.Open w at ts a = let x = a.1 in (w, at, ts, refl, a.0, x.0, x.1, x.2, x.3)
back (a_list d k) most sign w at ts a = absurd a
back (a_first d k) most t.Equal w at ts a = (s.an_exp a.0, a.1, (w, at, ts, refl, a.3, no_operator a.1 a.4), a.5)
back (a_first d k) most sign w at ts a = (s.no_exp, lexeme sign w at ∷ ts, (refl, not_first_by t.Equal sign w at ts refl), back (k s.no_exp) most sign w at ts a)
back (some_parameters d k) most t.Open w at ts a = let x = a.1 in (s.parameters x.0, x.1, (w, at, ts, refl, a.0, x.2), x.3)
back (some_parameters d k) most sign w at ts a = (s.no_parameters, lexeme sign w at ∷ ts, (refl, not_first_by t.Open sign w at ts refl), back (k s.no_parameters) most sign w at ts a)
back (some_expressions d k) most t.Close w at ts a = ([], ts, (w, at, refl), a)
back (some_expressions d k) most sign w at ts a =
    let e = from_exp most d 0 (λ e'. more_expressions d (λ es. k (e' ∷ es))) sign w at ts a in
    let m = e.5 in
    (e.0 ∷ m.0, m.1, (e.1, e.3, m.2), m.3)
back (more_expressions d k) most t.Close w at ts a = ([], ts, (w, at, refl), a)
back (more_expressions d k) most t.Comma w at ts a = let m = a.5 in (a.0 ∷ m.0, m.1, (w, at, ts, refl, a.1, a.3, m.2), m.3)
back (more_expressions d k) most sign w at ts a = absurd a
back (some_runs d k) most t.Run w at ts a =
    let r = run_accepts most d at w (λ r'. some_runs (suc d) (λ rs x. k (r' ∷ rs) x)) ts a.0 a.1 in
    let z = r.3 in
    (r.0 ∷ z.0, z.1, z.2, (r.1, r.2, z.3), z.4)
back (some_runs d k) most sign w at ts a =
    let x = from_item most d (λ y. more_items d (λ ys. k [] (sequence_of y ys))) sign w at ts a in
    let m = x.3 in
    ([], sequence_of x.0 m.0, m.1, trace_made x.0 m.0 most d (lexeme sign w at ∷ ts) x.1 m.1 x.2 m.2, m.3)
back (declarations k) most t.Node w at ts a =
    let ins = a.3 in
    let r = ins.8 in
    let outs = r.4 in
    let q = outs.8 in
    let y = q.4 in
    let z = y.4 in (
      s.node a.0 ins.5 outs.5 y.0 y.1 ∷ z.0,
      z.1,
      (
        y.2,
        (
          w,
          at,
          ins.0,
          ins.1,
          ins.2,
          ap (λ l. lexeme t.Node w at ∷ l) (a.2 ∙ ap (λ l. lexeme t.Name a.0.text a.0.span ∷ l) ins.3),
          ins.4,
          r.0,
          r.1,
          outs.0,
          outs.1,
          outs.2,
          subst (λ l. DerivesGroups most 1 t.Close ins.2 ins.5 l) (r.3 ∙ ap (λ l. lexeme t.Returns r.0 r.1 ∷ l) outs.3) ins.7,
          q.0,
          q.1,
          q.2,
          subst (λ l. DerivesGroups most 1 t.Close outs.2 outs.5 l) q.3 outs.7,
          y.3,
        ),
        z.2,
      ),
      z.3,
    )
back (declarations k) most t.Let w at ts a =
    let x = macro_accepts most 0 (λ y. declarations (λ xs. k (s.macro_declaration y ∷ xs))) ts a in
    let z = x.3 in
    (s.macro_declaration x.0 ∷ z.0, z.1, (x.1, (w, at, ts, refl, x.2), z.2), z.3)
back (declarations k) most t.Exception w at ts a =
    let x = names_accept most (λ y. declarations (λ xs. k (s.exception_declaration y ∷ xs))) ts a in
    let z = x.3 in
    (s.exception_declaration x.0 ∷ z.0, z.1, (x.1, (w, at, ts, refl, x.2), z.2), z.3)
back (declarations k) most sign w at ts a = ([], lexeme sign w at ∷ ts, refl, back (k []) most sign w at ts a)

-- THE END

none : (wanted : Sign) → IsNotFirst wanted []
none wanted = λ w at m e. cc

finished : (g : Goal) (most : ℕ) (x : Tree) → finish g ≡ Ok x → Accepts most g []
finished (nothing_more y) most x e = refl
finished (more_exp d low y k) most x e = (y, [], (λ start st dx. (st, dx)), (λ op sign w at m q. cc), finished (k y) most x e)
finished (after_name d n k) most x e = (s.named n, [], (λ low. tt), (refl, none t.Open), finished (k (s.named n)) most x e)
finished (more_items d k) most x e = (s.no_traces, [], (refl, none t.Fby), finished (k s.no_traces) most x e)
finished (a_handler d k) most x e = (s.no_trace, [], (refl, none t.Do), finished (k s.no_trace) most x e)
finished (some_limits d k) most x e = (s.forever, [], (refl, none t.OpenBracket, none t.Tilde), finished (k s.forever) most x e)
finished (after_weight d v k) most x e = (s.unweighted (s.value v), [], (λ start de no. ((de, no, none t.Fby), none t.Colon)), finished (k (s.unweighted (s.value v))) most x e)
finished (more_names k) most x e = ([], [], (refl, none t.Comma), finished (k []) most x e)
finished (a_ref k) most x e = (false, [], (refl, none t.Ref), finished (k false) most x e)
finished (a_range k) most x e = (None, [], (refl, none t.OpenBracket), finished (k None) most x e)
finished (a_step k) most x e = (None, [], (refl, none t.Semicolon), finished (k None) most x e)
finished (a_first d k) most x e = (s.no_exp, [], (refl, none t.Equal), finished (k s.no_exp) most x e)
finished (some_parameters d k) most x e = (s.no_parameters, [], (refl, none t.Open), finished (k s.no_parameters) most x e)
finished (declarations k) most x e = ([], [], refl, finished (k []) most x e)
finished g most x e = cc

-- What is read is accepted.
read_open : (most d : ℕ) (goal : Goal) (us : Lexemes) (x : Tree) (b' : Bool) → nat_le d most ≡ b' → ((g : Goal) → outcome most g us ≡ Ok x → Accepts most g us)
    → (if b' then outcome most goal us else Err (too_deep (suc (length us)))) ≡ Ok x → (d ≤ most) × Accepts most goal us
read_open most d goal us x true q ih e = (leb-true d most q, ih goal e)
read_open most d goal us x false q ih e = cc

read_step : (most : ℕ) (answer : Move) (us : Lexemes) (x : Tree) → ((g : Goal) → outcome most g us ≡ Ok x → Accepts most g us)
    → onward most answer (length us) (λ goal. outcome most goal us) ≡ Ok x → Accepted most answer us
read_step most stuck us x ih e = cc
read_step most (next goal) us x ih e = ih goal e
read_step most (opens d goal) us x ih e = read_open most d goal us x (nat_le d most) refl ih e

pub read_is_accepted : (ts : Lexemes) (most : ℕ) (x : Tree) (g : Goal) → outcome most g ts ≡ Ok x → Accepts most g ts
read_is_accepted [] most x g e = finished g most x e
read_is_accepted (lexeme sign w at ∷ us) most x g e = back g most sign w at us (read_step most (step g sign w at) us x (λ g' e'. read_is_accepted us most x g' e') e)

all_spelled : (xs : List Declaration) (most : ℕ) (ts : Lexemes) → DerivesAll most ts xs [] → SpellsWithin most ts xs
all_spelled [] most ts a = a
all_spelled (x ∷ xs) most ts a = (a.0, a.1, all_spelled xs most a.0 a.2)

pub accepted_is_spelled : (most : ℕ) (ts : Lexemes) → Accepts most (declarations done) ts → (x : List Declaration) × SpellsWithin most ts x
accepted_is_spelled most ts a = (a.0, all_spelled a.0 most ts (subst (λ l. DerivesAll most ts a.0 l) a.3 a.2))

pub read_is_spelled : ReadIsSpelled SpellsWithin program_tree (declarations done)
read_is_spelled = λ most ts x e.
    let a = accepted_is_spelled most ts (read_is_accepted ts most (program_tree x) (declarations done) e) in
    let q : ◌≡◌ {A = Result Tree Stop} (Ok (program_tree a.0)) (Ok (program_tree x)) = sym (spelled_is_read a.0 most ts a.1) ∙ e in
    let same : a.0 ≡ x = cc in
    subst (λ y. SpellsWithin most ts y) same a.1

pub accepted_is_expression : (most : ℕ) (ts : Lexemes) → Accepts most (whole_exp expression_done) ts → (e : Exp) × SpellsExpressionWithin most ts e
accepted_is_expression most ts a = (a.0, subst (λ l. DerivesExp most 0 ts a.0 l) a.5 a.3)

pub read_is_expression : ReadIsSpelled SpellsExpressionWithin expression_tree (whole_exp expression_done)
read_is_expression = λ most ts x e.
    let a = accepted_is_expression most ts (read_is_accepted ts most (expression_tree x) (whole_exp expression_done) e) in
    let q : ◌≡◌ {A = Result Tree Stop} (Ok (expression_tree a.0)) (Ok (expression_tree x)) = sym (expression_is_read a.0 most ts a.1) ∙ e in
    let same : a.0 ≡ x = cc in
    subst (λ y. SpellsExpressionWithin most ts y) same a.1
