-- How reading continues.
use Rattle.std.proofs.Common.{rules, ◌≡◌, ℕ, suc, List, [], ◌∷◌, ◌++◌, length, map, refl, sym, ◌∙◌, ap, subst, Bool, true, false, if◌then◌else◌, nat_le, Result, Ok, Err, Some, Box, Global}
use Rattle.std.proofs.lemmas.Grind.{common_steps}
use Rattle.std.specs.Result.{IsErrAnd}
use Rattle.lt_ast.specs.declared.sign.Sign.{Sign}
use Rattle.lt_ast.specs.declared.sign.Sign.TheVariants as t
use Rattle.lt_ast.specs.contracts.sign.Sign.{the_type}
use denote.Enum.Bare.{sameb, same_true, same_false}
use Rattle.lt_ast.specs.declared.span.Span.{Span}
use Rattle.lt_ast.specs.declared.name.Name.{Name}
use Rattle.lt_ast.specs.declared.expr.Arg.{Arg}
use Rattle.lt_ast.specs.declared.expr.Args.{Args}
use Rattle.lt_ast.specs.declared.expr.Expr.TheVariants.{Named}
use Rattle.lt_ast.specs.inner.Lists.{arguments_of}
use Rattle.lt_ast.specs.View.{argument, exp, word}
use Rattle.lt_ast.proofs.Public.{arguments_list}
use Rattle.lt_ast.specs.Syntax as s
use Rattle.lt_ast.specs.Syntax.{Word, Exp, Argument, Arguments, Limits, Braces, Alternative, Alternatives, Trace, Traces, Grouping, Groupings, MaybeExp, MaybeTrace, Parameters, Declaration, WrittenRange}
use Rattle.lt_parser.specs.declared.refusal.Refusal.{Refusal}
use Rattle.lt_parser.specs.declared.refusal.Refusal.TheVariants as r
use Rattle.lt_lexer.specs.Source.{lexeme_span}
use Rattle.lt_lexer.specs.declared.lexeme.Lexeme.{Lexeme as Token}
use Rattle.lt_parser.specs.inner.Parsing.{ReadsTo, Refused}
use Rattle.lt_grammar.specs.Lexemes.{Lexemes, lexeme, IsNotFirst}
use Rattle.lt_parser.specs.inner.Tokens.{lexemes, Begins}
use Rattle.lt_parser.specs.inner.Onto.{onto, words_onto}
use Rattle.lt_parser.specs.inner.Reading.{Goal, a_list, an_item, value_goal, unexpected, too_deep, outcome, onward, next, stuck, a_sign, a_right_side, an_exp, a_trace, more_arguments, more_alternatives, more_traces, more_groups, some_groups, groups, some_arguments, an_argument, some_braced, after_first}
use Rattle.lt_grammar.specs.Nesting.{most_levels}

same_sign : (a b : Sign) → sameb the_type a b ≡ true → a ≡ b
same_sign a b e = same_true the_type (search rules) a b e

-- A sign that is wanted isn't there.
another : (wanted sign : Sign) (w : List ℕ) (at : Span) (us : Lexemes) → IsNotFirst wanted (lexeme sign w at ∷ us) → (b : Bool) → sameb the_type wanted sign ≡ b → (goal : Goal)
    → onward most_levels (if b then next goal else stuck) (length us) (λ goal'. outcome most_levels goal' us) ≡ Err (unexpected (suc (length us)))
another wanted sign w at us h true e goal = absurd (h w at us (λ i. lexeme (sym (same_sign wanted sign e) i) w at ∷ us))
another wanted sign w at us h false e goal = refl

length-lexemes : (ts : List Token) → length (lexemes ts) ≡ length ts
length-lexemes [] = refl
length-lexemes (t' ∷ ts) = ap suc (length-lexemes ts)

not_sign_of : (wanted : Sign) (ts : Lexemes) → IsNotFirst wanted ts → (k : Span → Goal) → outcome most_levels (a_sign wanted k) ts ≡ Err (unexpected (length ts))
not_sign_of wanted [] h k = refl
not_sign_of wanted (lexeme sign w at ∷ us) h k = another wanted sign w at us h (sameb the_type wanted sign) refl (k at)

pub not_sign : (wanted : Sign) (ts : List Token) → IsNotFirst wanted (lexemes ts) → (k : Span → Goal) → outcome most_levels (a_sign wanted k) (lexemes ts) ≡ Err (unexpected (length ts))
not_sign wanted ts h k = not_sign_of wanted (lexemes ts) h k ∙ ap (λ n. Err (unexpected n)) (length-lexemes ts)

-- the first token has the sign, or another one
pub first_is : (sign : Sign) (ts : List Token) (first : Token) (rest : List Token) → ts ≡ first ∷ rest → sameb the_type first.sign sign ≡ true → Begins sign (lexeme_span first) (lexemes ts) (lexemes rest)
first_is sign ts first rest e q = (first.text.now, ap lexemes e ∙ ap (λ u. lexeme u first.text.now (lexeme_span first) ∷ lexemes rest) (same_sign first.sign sign q))

sign_of : Lexemes → Sign → Sign
sign_of [] other = other
sign_of (lexeme sign w at ∷ us) other = sign

pub first_is_not : (sign : Sign) (ts : List Token) (first : Token) (rest : List Token) → ts ≡ first ∷ rest → sameb the_type first.sign sign ≡ false → IsNotFirst sign (lexemes ts)
unfolding sign_of
first_is_not sign ts first rest e q = λ w at m h. same_false the_type first.sign sign q (ap (λ l. sign_of l sign) (sym (ap lexemes e) ∙ h))

pub none_first : (sign : Sign) (ts : List Token) → length ts ≡ 0 → IsNotFirst sign (lexemes ts)
none_first sign [] e = λ w at m h. cc
none_first sign (t' ∷ ts) e = cc

-- Lists end.

pub arguments_end : (d : ℕ) (k : Arguments → Goal) (ts : Lexemes) → IsNotFirst t.Comma ts → outcome most_levels (more_arguments d k) ts ≡ outcome most_levels (a_sign t.Close (λ p. k s.no_arguments)) ts
arguments_end d k [] h = refl
arguments_end d k (lexeme t.Comma w at ∷ us) h = absurd (h w at us refl)
arguments_end d k (lexeme sign w at ∷ us) h = refl

pub alternatives_end : (d : ℕ) (k : Alternatives → Span → Goal) (ts : Lexemes) → IsNotFirst t.Bar ts → outcome most_levels (more_alternatives d k) ts ≡ outcome most_levels (a_sign t.CloseBrace (λ p. k s.no_alternatives p)) ts
alternatives_end d k [] h = refl
alternatives_end d k (lexeme t.Bar w at ∷ us) h = absurd (h w at us refl)
alternatives_end d k (lexeme sign w at ∷ us) h = refl

pub groups_end : (d : ℕ) (end : Sign) (k : Groupings → Goal) (ts : Lexemes) → IsNotFirst t.Semicolon ts → outcome most_levels (more_groups d end k) ts ≡ outcome most_levels (a_sign end (λ p. k s.no_groups)) ts
groups_end d end k [] h = refl
groups_end d end k (lexeme t.Semicolon w at ∷ us) h = absurd (h w at us refl)
groups_end d end k (lexeme sign w at ∷ us) h = refl

not_wanted : (d : ℕ) (wanted : Sign) (k : Traces → Span → Goal) (sign : Sign) (w : List ℕ) (at : Span) (us : Lexemes) → IsNotFirst wanted (lexeme sign w at ∷ us)
    → outcome most_levels (more_traces d wanted k) (lexeme sign w at ∷ us) ≡ outcome most_levels (a_sign t.CloseBrace (λ p. k s.no_traces p)) (lexeme sign w at ∷ us)
not_wanted d wanted k t.CloseBrace w at us h = refl
not_wanted d wanted k sign w at us h = another wanted sign w at us h (sameb the_type wanted sign) refl (a_trace d (λ x. more_traces d wanted (λ xs q. k (s.one_trace x xs) q)))

pub traces_end : (d : ℕ) (wanted : Sign) (k : Traces → Span → Goal) (ts : Lexemes) → IsNotFirst wanted ts → outcome most_levels (more_traces d wanted k) ts ≡ outcome most_levels (a_sign t.CloseBrace (λ p. k s.no_traces p)) ts
traces_end d wanted k [] h = refl
traces_end d wanted k (lexeme sign w at ∷ us) h = not_wanted d wanted k sign w at us h

-- What begins otherwise.

pub an_argument_first : (d : ℕ) (k : Arguments → Goal) (ts : Lexemes) → IsNotFirst t.Close ts → outcome most_levels (some_arguments d k) ts ≡ outcome most_levels (an_argument d (λ a. more_arguments d (λ more. k (s.argument a more)))) ts
an_argument_first d k [] h = refl
an_argument_first d k (lexeme t.Close w at ∷ us) h = absurd (h w at us refl)
an_argument_first d k (lexeme sign w at ∷ us) h = refl

pub a_group_first : (d : ℕ) (k : Groupings → Goal) (ts : Lexemes) → IsNotFirst t.Close ts → outcome most_levels (some_groups d k) ts ≡ outcome most_levels (groups d t.Close k) ts
a_group_first d k [] h = refl
a_group_first d k (lexeme t.Close w at ∷ us) h = absurd (h w at us refl)
a_group_first d k (lexeme sign w at ∷ us) h = refl

pub an_argument_value : (d : ℕ) (k : Argument → Goal) (ts : Lexemes) → IsNotFirst t.OpenBrace ts → outcome most_levels (an_argument d k) ts ≡ outcome most_levels (an_exp d 0 (λ e. k (s.value_argument e))) ts
an_argument_value d k [] h = refl
an_argument_value d k (lexeme t.OpenBrace w at ∷ us) h = absurd (h w at us refl)
an_argument_value d k (lexeme sign w at ∷ us) h = refl

pub a_sum : (d : ℕ) (k : Exp → Goal) (ts : Lexemes) → IsNotFirst t.Not ts → outcome most_levels (a_right_side d k) ts ≡ outcome most_levels (an_exp d 6 k) ts
a_sum d k [] h = refl
a_sum d k (lexeme t.Not w at ∷ us) h = absurd (h w at us refl)
a_sum d k (lexeme sign w at ∷ us) h = refl

pub a_negation : (d : ℕ) (k : Exp → Goal) (ts m : Lexemes) (at : Span) → Begins t.Not at ts m → outcome most_levels (a_right_side d k) ts ≡ outcome most_levels (an_exp d 4 k) ts
a_negation d k ts m at b = ap (outcome most_levels (a_right_side d k)) b.1 ∙ sym (ap (outcome most_levels (an_exp d 4 k)) b.1)

pub a_trace_first : (d : ℕ) (k : Braces → Span → Goal) (ts : Lexemes) → IsNotFirst t.Bar ts → IsNotFirst t.Priority ts → IsNotFirst t.Parallel ts
    → outcome most_levels (some_braced d k) ts ≡ outcome most_levels (a_trace d (λ x. after_first d x k)) ts
a_trace_first d k [] h g f = refl
a_trace_first d k (lexeme t.Bar w at ∷ us) h g f = absurd (h w at us refl)
a_trace_first d k (lexeme t.Priority w at ∷ us) h g f = absurd (g w at us refl)
a_trace_first d k (lexeme t.Parallel w at ∷ us) h g f = absurd (f w at us refl)
a_trace_first d k (lexeme sign w at ∷ us) h g f = refl

pub a_plain_end : (d : ℕ) (x : Trace) (k : Braces → Span → Goal) (ts : Lexemes) → IsNotFirst t.Bar ts → IsNotFirst t.Priority ts → IsNotFirst t.Parallel ts
    → outcome most_levels (after_first d x k) ts ≡ outcome most_levels (a_sign t.CloseBrace (λ q. k (s.plain x) q)) ts
a_plain_end d x k [] h g f = refl
a_plain_end d x k (lexeme t.Bar w at ∷ us) h g f = absurd (h w at us refl)
a_plain_end d x k (lexeme t.Priority w at ∷ us) h g f = absurd (g w at us refl)
a_plain_end d x k (lexeme t.Parallel w at ∷ us) h g f = absurd (f w at us refl)
a_plain_end d x k (lexeme sign w at ∷ us) h g f = refl

-- Lists grow.

pub onto-push : {X L : Type 0} (f : X → L → L) (xs : List X) (x : X) (more : L) → onto f (xs ++ x ∷ []) more ≡ onto f xs (f x more)
onto-push f [] x more = refl
onto-push f (y ∷ xs) x more = ap (f y) (onto-push f xs x more)

-- a list so far, one more part of it, and the list that it makes
pub grows : {X L K : Type 0} (more : (L → Goal) → Goal) (f : X → L → L) (onward_ : K → L → Goal) (want : K → Goal) (ts rest next' : Lexemes) (xs ys : List X) (x : X) → ys ≡ xs ++ x ∷ []
    → ((k : K) → outcome most_levels (want k) ts ≡ outcome most_levels (more (λ l. onward_ k (onto f xs l))) rest)
    → ((k : L → Goal) → outcome most_levels (more k) rest ≡ outcome most_levels (more (λ l. k (f x l))) next')
    → (k : K) → outcome most_levels (want k) ts ≡ outcome most_levels (more (λ l. onward_ k (onto f ys l))) next'
grows more f onward_ want ts rest next' xs ys x e h g k =
    h k ∙ g (λ l. onward_ k (onto f xs l)) ∙ sym (λ i. outcome most_levels (more (λ l. onward_ k (onto-push f xs x l i))) next') ∙ sym (ap (λ zs. outcome most_levels (more (λ l. onward_ k (onto f zs l))) next') e)

-- a list so far, one more part, and the list that it makes, with the place of the last sign
pub grows_to : {X L K : Type 0} (more : (L → Span → Goal) → Goal) (f : X → L → L) (onward_ : K → L → Span → Goal) (want : K → Goal) (ts rest next' : Lexemes) (xs ys : List X) (x : X) → ys ≡ xs ++ x ∷ []
    → ((k : K) → outcome most_levels (want k) ts ≡ outcome most_levels (more (λ l. onward_ k (onto f xs l))) rest)
    → ((k : L → Span → Goal) → outcome most_levels (more k) rest ≡ outcome most_levels (more (λ l. k (f x l))) next')
    → (k : K) → outcome most_levels (want k) ts ≡ outcome most_levels (more (λ l. onward_ k (onto f ys l))) next'
grows_to more f onward_ want ts rest next' xs ys x e h g k =
    h k ∙ g (λ l. onward_ k (onto f xs l)) ∙ sym (λ i. outcome most_levels (more (λ l. onward_ k (onto-push f xs x l i))) next') ∙ sym (ap (λ zs. outcome most_levels (more (λ l. onward_ k (onto f zs l))) next') e)

pub ruleset firsts = (common_steps, first_is, first_is_not, none_first)

-- a name with arguments, as the code has them
arguments_onto-none : (xs : List Arg) → arguments_of (map argument xs) ≡ onto (λ x. s.argument (argument x)) xs s.no_arguments
arguments_onto-none [] = refl
arguments_onto-none (x ∷ xs) = ap (s.argument (argument x)) (arguments_onto-none xs)

pub exp_called : (n : Name) (b : Box Args Global) (args : Args) → b.value ≡ args → exp (Named n (Some b)) ≡ s.called (word n) (onto (λ x. s.argument (argument x)) args.items.items s.no_arguments)
exp_called n b args e = ap (s.called (word n)) (arguments_list b.value.items ∙ arguments_onto-none b.value.items.items ∙ ap (λ xs. onto (λ x. s.argument (argument x)) xs.items.items s.no_arguments) e)

-- one more part of a list
pub pushed : {X L : Type 0} (more : (L → Goal) → Goal) (f : X → L → L) (xs ys : List X) (x : X) → ys ≡ xs ++ x ∷ [] → (k : L → Goal) (ts : Lexemes) → outcome most_levels (more (λ l. k (onto f xs (f x l)))) ts ≡ outcome most_levels (more (λ l. k (onto f ys l))) ts
pushed more f xs ys x e k ts = sym (λ i. outcome most_levels (more (λ l. k (onto-push f xs x l i))) ts) ∙ sym (ap (λ zs. outcome most_levels (more (λ l. k (onto f zs l))) ts) e)

pub pushed_to : {X L : Type 0} (more : (L → Span → Goal) → Goal) (f : X → L → L) (xs ys : List X) (x : X) → ys ≡ xs ++ x ∷ [] → (k : L → Span → Goal) (ts : Lexemes) → outcome most_levels (more (λ l. k (onto f xs (f x l)))) ts ≡ outcome most_levels (more (λ l. k (onto f ys l))) ts
pushed_to more f xs ys x e k ts = sym (λ i. outcome most_levels (more (λ l. k (onto-push f xs x l i))) ts) ∙ sym (ap (λ zs. outcome most_levels (more (λ l. k (onto f zs l))) ts) e)

-- names, as the code has them
pub words_onto-none : (xs : List Name) → words_onto xs [] ≡ map word xs
words_onto-none [] = refl
words_onto-none (x ∷ xs) = ap (λ ws. word x ∷ ws) (words_onto-none xs)

-- where tokens as the grammar sees them begin with no parenthesis
no_list_of : (k : Groupings → Goal) (ts : Lexemes) → IsNotFirst t.Open ts → outcome most_levels (a_list 0 k) ts ≡ Err (unexpected (length ts))
no_list_of k [] h = refl
no_list_of k (lexeme t.Open w at ∷ us) h = absurd (h w at us refl)
no_list_of k (lexeme sign w at ∷ us) h = refl

-- No list of groups comes.
pub no_list : (k : Groupings → Goal) (ts : List Token) → IsNotFirst t.Open (lexemes ts) → outcome most_levels (a_list 0 k) (lexemes ts) ≡ Err (unexpected (length ts))
no_list k ts h = no_list_of k (lexemes ts) h ∙ ap (λ n. Err (unexpected n)) (length-lexemes ts)

-- READING ON

-- What is wanted is read as something else that is wanted, which was read so.
pub reads_by : {X K : Type 0} (onto_ : X → K → Goal) (rest_of : X → Lexemes) (want other : K → Goal) (ts us : Lexemes) (result : Result X Refusal) → ((k : K) → outcome most_levels (want k) ts ≡ outcome most_levels (other k) us)
    → ReadsTo onto_ rest_of other us result → ReadsTo onto_ rest_of want ts result
reads_by onto_ rest_of want other ts us (Ok x) e h = λ k. e k ∙ h k
reads_by onto_ rest_of want other ts us (Err (r.Unexpected left)) e h = λ k. e k ∙ h k
reads_by onto_ rest_of want other ts us (Err (r.TooDeep left)) e h = λ k. e k ∙ h k
reads_by onto_ rest_of want other ts us (Err r.Memory) e h = tt

-- A part that is wanted is refused, and so is the whole.
pub refused_by : {K J : Type 0} (want : K → Goal) (part : J → Goal) (inner : K → J) (ts us : Lexemes) (e : Refusal) → ((k : K) → outcome most_levels (want k) ts ≡ outcome most_levels (part (inner k)) us) → Refused part us e → Refused want ts e
refused_by want part inner ts us (r.Unexpected left) q h = λ k. q k ∙ h (inner k)
refused_by want part inner ts us (r.TooDeep left) q h = λ k. q k ∙ h (inner k)
refused_by want part inner ts us r.Memory q h = tt

-- A part that is wanted is refused, and an answer that hands the refusal on is that of the whole.
pub err_by : {X K J : Type 0} (onto_ : X → K → Goal) (rest_of : X → Lexemes) (want : K → Goal) (part : J → Goal) (inner : K → J) (ts us : Lexemes) (e : Refusal) (result : Result X Refusal)
    → ((k : K) → outcome most_levels (want k) ts ≡ outcome most_levels (part (inner k)) us) → Refused part us e → IsErrAnd result (λ e'. e' ≡ e) → ReadsTo onto_ rest_of want ts result
err_by onto_ rest_of want part inner ts us e (Ok x) q h a = absurd a
err_by onto_ rest_of want part inner ts us e (Err e') q h a = subst (Refused want ts) (sym a) (refused_by want part inner ts us e q h)

-- A level that may be opened is.
pub entered : (goal : ℕ → Goal) (d n : ℕ) (m : Lexemes) → n ≡ suc d → nat_le (suc d) most_levels ≡ true → (if nat_le (suc d) most_levels then outcome most_levels (goal (suc d)) m else Err (too_deep (suc (length m)))) ≡ outcome most_levels (goal n) m
entered goal d n m e q = ap (λ b. if b then outcome most_levels (goal (suc d)) m else Err (too_deep (suc (length m)))) q ∙ ap (λ i. outcome most_levels (goal i) m) (sym e)

-- A sign is itself.
same_self : (a : Sign) (b : Bool) → sameb the_type a a ≡ b → sameb the_type a a ≡ true
same_self a true e = e
same_self a false e = absurd (same_false the_type a a e refl)

-- One more trace after its sign.
pub trace_taken : (d : ℕ) (wanted : Sign) (k : Traces → Span → Goal) (w : List ℕ) (at : Span) (us : Lexemes) → (wanted ≡ t.CloseBrace → ⊥)
    → outcome most_levels (more_traces d wanted k) (lexeme wanted w at ∷ us) ≡ outcome most_levels (a_trace d (λ x. more_traces d wanted (λ xs q. k (s.one_trace x xs) q))) us
trace_taken d t.CloseBrace k w at us h = absurd (h refl)
trace_taken d wanted k w at us h =
    ap (λ b. onward most_levels (if b then next (a_trace d (λ x. more_traces d wanted (λ xs q. k (s.one_trace x xs) q))) else stuck) (length us) (λ goal. outcome most_levels goal us)) (same_self wanted (sameb the_type wanted wanted) refl)

-- the first token by its sign
pub first_sign : (ts rest : List Token) (first : Token) (sign : Sign) → ts ≡ first ∷ rest → first.sign ≡ sign → lexemes ts ≡ lexeme sign first.text.now (lexeme_span first) ∷ lexemes rest
first_sign ts rest first sign e q = ap lexemes e ∙ ap (λ u. lexeme u first.text.now (lexeme_span first) ∷ lexemes rest) q

-- An item that begins with no sign of its own is an expression.
pub a_value_first : (d : ℕ) (k : Trace → Goal) (sign : Sign) (w : List ℕ) (at : Span) (us : Lexemes)
    → (sign ≡ t.OpenBrace → ⊥) → (sign ≡ t.Loop → ⊥) → (sign ≡ t.Raise → ⊥) → (sign ≡ t.Assert → ⊥) → (sign ≡ t.Exist → ⊥) → (sign ≡ t.Let → ⊥) → (sign ≡ t.Exception → ⊥) → (sign ≡ t.Catch → ⊥) → (sign ≡ t.Trap → ⊥) → (sign ≡ t.Try → ⊥)
    → outcome most_levels (an_item d k) (lexeme sign w at ∷ us) ≡ outcome most_levels (value_goal d k) (lexeme sign w at ∷ us)
a_value_first d k t.OpenBrace w at us a b c e f g h i j l = absurd (a refl)
a_value_first d k t.Loop w at us a b c e f g h i j l = absurd (b refl)
a_value_first d k t.Raise w at us a b c e f g h i j l = absurd (c refl)
a_value_first d k t.Assert w at us a b c e f g h i j l = absurd (e refl)
a_value_first d k t.Exist w at us a b c e f g h i j l = absurd (f refl)
a_value_first d k t.Let w at us a b c e f g h i j l = absurd (g refl)
a_value_first d k t.Exception w at us a b c e f g h i j l = absurd (h refl)
a_value_first d k t.Catch w at us a b c e f g h i j l = absurd (i refl)
a_value_first d k t.Trap w at us a b c e f g h i j l = absurd (j refl)
a_value_first d k t.Try w at us a b c e f g h i j l = absurd (l refl)
a_value_first d k sign w at us a b c e f g h i j l = refl
