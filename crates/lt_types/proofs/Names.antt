-- Names: those that are declared, and those that are used.
use Rattle.std.proofs.Common.{◌≡◌, ℕ, List, [], ◌∷◌, ◌++◌, Option, Some, None, true, not, is_none, option_map, refl, ap, ◌∙◌}
use Rattle.lt_ast.specs.declared.group.TypeName.{TypeName}
use Rattle.lt_ast.specs.Syntax as s
use Rattle.lt_ast.specs.Syntax.{Word, Exp, Macro}
use Rattle.lt_types.specs.Environment.{Environment, Entry, variable, parameter, macro, found, is_among}
use Rattle.lt_types.specs.Typing.{StandsFor, AreNew, IsVariable, IsException, IsNewMacro}
use Rattle.lt_types.specs.Refusals.{unless, known, alone, behind_pre, entry_type, new_names, new_macro, known_exception, is_variable, is_variable_entry, exp_refusals}
use Rattle.lt_types.specs.declared.refusal.TypeRefusal.{TypeRefusal}
use Rattle.lt_types.specs.declared.refusal.TypeRefusal.TheVariants.{Unknown, Twice}
use Rattle.lt_types.proofs.Agreeing.{Agrees, Types, none, never, test, both, only, same-refl, same-is, unless_back, unless_clean, nil_right}

-- nothing is of a type
no_type : (shown : Option TypeName) (rs : List TypeRefusal) (r : TypeRefusal) → Types (λ kind. ⊥) (r ∷ rs) shown
no_type shown rs r = record { clean = λ k h. absurd h; is_shown = λ k h. absurd h; back = λ e. absurd (cc) }

-- a name alone
pub named_types : (w : Word) (o : Option Entry) → Types (StandsFor o) (known w o ++ alone w o) (option_map entry_type o)
named_types w None = no_type _ _ _
named_types w (Some (variable k)) = only k
named_types w (Some (parameter k)) = only k
named_types w (Some (macro [] k)) = only k
named_types w (Some (macro (p ∷ ps) k)) = no_type _ _ _

-- what an entry is
variable-type : (o : Option Entry) (k : TypeName) → o ≡ Some (variable k) → option_map entry_type o ≡ Some k
variable-type o k e = ap (option_map entry_type) e

variable-known : (w : Word) (o : Option Entry) (k : TypeName) → o ≡ Some (variable k) → known w o ++ behind_pre w o ≡ []
variable-known w o k e = ap (λ x. known w x ++ behind_pre w x) e

pub macro-type : (o : Option Entry) (ps : _) (k : TypeName) → o ≡ Some (macro ps k) → option_map entry_type o ≡ Some k
macro-type o ps k e = ap (option_map entry_type) e

-- a name after `pre`
pre_back : (w : Word) (o : Option Entry) → known w o ++ behind_pre w o ≡ [] → (k : TypeName) × (o ≡ Some (variable k))
pre_back w None e = absurd (cc)
pre_back w (Some (variable k)) e = (k, refl)
pre_back w (Some (parameter k)) e = absurd (cc)
pre_back w (Some (macro ps k)) e = absurd (cc)

pub pre_types : (w : Word) (o : Option Entry) → Types (λ kind. o ≡ Some (variable kind)) (known w o ++ behind_pre w o) (option_map entry_type o)
pre_types w o = record { clean = λ k h. variable-known w o k h; is_shown = λ k h. variable-type o k h; back = pre_back w o }

-- the name of a variable of a type
entry_clean : (w : Word) (o : Option Entry) (kind : TypeName) (r : TypeRefusal) → o ≡ Some (variable kind) → (known w o ++ alone w o) ++ unless (is_variable_entry o kind) r ≡ []
entry_clean w o kind r e = ap (λ x. (known w x ++ alone w x) ++ unless (is_variable_entry x kind) r) e ∙ unless_clean _ (same-refl kind)

entry_back : (o : Option Entry) (kind : TypeName) → is_variable_entry o kind ≡ true → o ≡ Some (variable kind)
entry_back None kind e = absurd (cc)
entry_back (Some (variable k)) kind e = ap (λ x. Some (variable x)) (same-is k kind e)
entry_back (Some (parameter k)) kind e = absurd (cc)
entry_back (Some (macro ps k)) kind e = absurd (cc)

pub variable_agrees : (env : Environment) (e : Exp) (kind : TypeName) (r : TypeRefusal) → Agrees (IsVariable env e kind) (exp_refusals env e ++ unless (is_variable env e kind) r)
variable_agrees env (s.named w) kind r = record {
  clean = entry_clean w (found env.names w.text) kind r;
  back = λ h. entry_back (found env.names w.text) kind (unless_back (is_variable_entry (found env.names w.text) kind) _ (nil_right (known w (found env.names w.text) ++ alone w (found env.names w.text)) _ h));
}
variable_agrees env (s.number f) kind r = never (exp_refusals env (s.number f)) r
variable_agrees env (s.flag b at) kind r = never (exp_refusals env (s.flag b at)) r
variable_agrees env (s.called w args) kind r = never (exp_refusals env (s.called w args)) r
variable_agrees env (s.pre w at) kind r = never (exp_refusals env (s.pre w at)) r
variable_agrees env (s.paren e at) kind r = never (exp_refusals env (s.paren e at)) r
variable_agrees env (s.unary op e at) kind r = never (exp_refusals env (s.unary op e at)) r
variable_agrees env (s.binary op e f at) kind r = never (exp_refusals env (s.binary op e f at)) r
variable_agrees env (s.choose c e f at) kind r = never (exp_refusals env (s.choose c e f at)) r

-- names that are declared
pub new_agrees : (taken : List (List ℕ)) (ws : List Word) → Agrees (AreNew taken ws) (new_names taken ws)
new_agrees taken [] = none
new_agrees taken (w ∷ ws) = both (test (not (is_among w.text taken)) (Twice w.span)) (new_agrees (w.text ∷ taken) ws)

-- an exception that is used
pub exception_agrees : (env : Environment) (w : Word) → Agrees (IsException env w) (known_exception env w)
exception_agrees env w = test (is_among w.text env.exceptions) (Unknown w.span)

-- a macro of the text that is declared
fresh_agrees : (o : Option Entry) (r : TypeRefusal) → Agrees (o ≡ None) (unless (is_none o) r)
fresh_agrees None r = record { clean = λ h. refl; back = λ h. refl }
fresh_agrees (Some x) r = record { clean = λ h. absurd (cc); back = λ h. absurd (cc) }

pub new_macro_agrees : (env : Environment) (m : Macro) → Agrees (IsNewMacro env m) (new_macro env m)
new_macro_agrees env (s.macro w ps kind m) = fresh_agrees (found env.names w.text) (Twice w.span)
