-- What the command makes of words.
use Rattle.std.proofs.Common.{◌≡◌, true, List, [], ◌∷◌, Result, Ok, Err, IfErr, IsErrAnd, MatchResult, refl, sym, ap, subst, ◌∙◌, inl, inr, arith, if◌then◌else◌}
use Rattle.std.proofs.lemmas.Bool.{ne_eqb}
use Rattle.clap.specs.Faults.{fault_of, is_simple_and_free}
use Rattle.clap.specs.Kinds.{HasKind, IsAmong, Kinds}
use Rattle.clap.specs.Simple.{App, is_simple, matches_of}
use Rattle.clap.specs.Takes.{takes}
use Rattle.clap.specs.Values.{kind_of}
use Rattle.clap.specs.Walk.{Row, Text, is_empty}
use Rattle.clap.specs.declared.error.Error.{Error}
use Rattle.clap.specs.declared.error.kind.ErrorKind.{ErrorKind}
use Rattle.clap.specs.declared.error.kind.ErrorKind.TheVariants.{OutOfMemory}
use Rattle.lt_args.specs.Command.{command}
use Rattle.lt_args.specs.Words.{HaveForm, IsPromised, IsRefusedBy, Request, asked_by, requested}
use Rattle.lt_args.specs.declared.usage.UsageKind.{UsageKind}
use Rattle.lt_args.specs.declared.usage.UsageKind.TheVariants as usage
use Rattle.lt_args.specs.declared.usage.WordsRefusal.{WordsRefusal}
use Rattle.lt_args.specs.declared.words.Request.{Request as CodeRequest}
use Rattle.lt_args.specs.inner.Refusal.{refusal_by, refusal_of}

-- the command is one that clap's words on simple commands speak of
simple_and_free : is_simple_and_free command ≡ true
simple_and_free = refl

simple : is_simple command ≡ true
simple = refl

-- where there is a kind of fault, nothing is asked for
wrong : (k : ErrorKind) (kinds : Kinds) (asked : Result Request UsageKind) → IsAmong k kinds → (if is_empty kinds then asked else Err usage.Words) ≡ Err usage.Words
wrong k [] asked among = absurd among
wrong k (first ∷ rest) asked among = ap (λ b. if b then asked else Err usage.Words) (ne_eqb _ 0 (λ z. omega arith))

by_kind : (k : ErrorKind) (asked : Result Request UsageKind) → asked ≡ Err usage.Words → IsRefusedBy (refusal_of k) asked
by_kind OutOfMemory asked is = tt
by_kind _ asked is = is

-- an error of clap tells that the words are wrong, or that memory ran out
pub refused : (made : App) (words : List Text) (e : Error) → made ≡ command → (is_simple_and_free made ≡ true → HasKind (fault_of made words) e) → IsRefusedBy (refusal_by e) (requested words)
refused made words e same fails =
    let kinds : HasKind (fault_of command words) e = subst (λ a. HasKind (fault_of a words) e) same (fails (ap is_simple_and_free same ∙ simple_and_free)) in
    elim kinds [
      | inl memory ↦ subst (λ k. IsRefusedBy (refusal_of k) (requested words)) (sym memory) tt
      | inr among ↦ by_kind (kind_of e) (requested words) (wrong (kind_of e) (fault_of command words) (asked_by (matches_of command words)) among)
    ]

-- words that clap takes ask for what is found in them
pub taken : (made : App) (words : List Text) (found : List Row) → made ≡ command → (is_simple_and_free made ≡ true → fault_of made words ≡ []) → (is_simple made ≡ true → found ≡ matches_of made words) → requested words ≡ asked_by found
taken made words found same none finds =
    ap (λ kinds. if is_empty kinds then asked_by (matches_of command words) else Err usage.Words) (ap (λ a. fault_of a words) (sym same) ∙ none (ap is_simple_and_free same ∙ simple_and_free))
    ∙ ap asked_by (ap (λ a. matches_of a words) (sym same) ∙ sym (finds (ap is_simple same ∙ simple)))

-- a refusal that is handed on
pub passed_on : (r : Result CodeRequest WordsRefusal) (why : WordsRefusal) (P : CodeRequest → Type 0) (asked : Result Request UsageKind) → IsErrAnd r (λ refusal. refusal ≡ why) → IsRefusedBy why asked → MatchResult r P (λ refusal. IsRefusedBy refusal asked)
passed_on (Ok request) why P asked is h = absurd is
passed_on (Err refusal) why P asked is h = subst (λ w. IsRefusedBy w asked) (sym is) h

-- an error of clap over words that it promises to take doesn't tell that they have another form
pub has_form : (made : App) (words : List Text) (e : Error) → made ≡ command → (takes made words ≡ true → kind_of e ≡ OutOfMemory) → IsPromised words → HaveForm (refusal_by e)
has_form made words e same passes promised =
    subst (λ k. HaveForm (refusal_of k)) (sym (passes (ap (λ a. takes a words) same ∙ promised))) tt

-- such a refusal is handed on
pub form_passed_on : (r : Result CodeRequest WordsRefusal) (why : WordsRefusal) (words : List Text) → IsErrAnd r (λ refusal. refusal ≡ why) → (IsPromised words → HaveForm why) → IfErr r (λ refusal. IsPromised words → HaveForm refusal)
form_passed_on (Ok request) why words is h = absurd is
form_passed_on (Err refusal) why words is h = subst (λ w. IsPromised words → HaveForm w) (sym is) h
