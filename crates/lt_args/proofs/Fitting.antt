-- The numbers that clap lets through lie within the bounds of their options.
use Rattle.std.proofs.Common.{◌≡◌, ◌<◌, ◌&&◌, ℕ, zero, suc, Bool, true, false, not, List, [], ◌∷◌, Option, None, Some, IfSome, option_and_then, length, map, codes, refl, sym, ap, subst, ◌∙◌, inl, inr, arith}
use Rattle.std.proofs.lemmas.Bool.{and_parts, not-true, both_ways}
use Rattle.std.proofs.lemmas.List.{get_or-map, length-map}
use Rattle.std.proofs.lemmas.Slice.Eq.{bytes_eq-Decides}
use Rattle.std.specs.Borrow.{Bor}
use Rattle.std.specs.List.{All, list_all, slice_index_or}
use Rattle.std.specs.Option.{option_map}
use Rattle.std.specs.Prelude.{slice_get}
use Rattle.std.specs.Str.{bytes_eq}
use Rattle.clap.proofs.CallerLemmas.{entry_by_id, same_rules_by_id}
use Rattle.clap.proofs.SimpleLemmas.{plain_fields, simple_groups}
use Rattle.clap.proofs.WalkLemmas.{one_text-rows}
use Rattle.clap.specs.Built.{IsAuto, IsParsedFrom}
use Rattle.clap.specs.Facts.{Entry, EntryPasses, HasReading, PassesArg, args_of, groups_of, parser_of, parser_of_value}
use Rattle.clap.specs.Matches.{found_of, matched_of}
use Rattle.clap.specs.Simple.{App, app_of}
use Rattle.clap.specs.Values.{Accepts, IsUnsignedIn, read_as, reading_of}
use Rattle.clap.specs.Walk.{Rule, Text, rows_of, rule_of}
use Rattle.clap.specs.declared.builder.arg.Arg.{Arg}
use Rattle.clap.specs.declared.builder.command.Command.{Command}
use Rattle.clap.specs.declared.builder.value_parser.Reading.{Reading}
use Rattle.clap.specs.declared.builder.value_parser.Reading.TheVariants.{AsWritten}
use Rattle.clap.specs.declared.builder.value_parser.ValueParser.{ValueParser}
use Rattle.clap.specs.declared.builder.value_parser.ValueParser.TheVariants.{Unsigned}
use Rattle.clap.specs.declared.parser.matches.ArgMatches.{ArgMatches}
use Rattle.clap.specs.declared.parser.matches.MatchedArg.{MatchedArg}
use Rattle.lt_args.specs.Command.{arguments, command}
use Rattle.lt_args.specs.Settings.{most_steps, most_seed, most_decimals, most_budget, most_count, most_draw}
use Rattle.lt_args.specs.inner.Fitting.{Fits, NumbersFit}

-- whether no rule but the k-th has this name
abbrev is_alone : List Rule → Text → ℕ → Bool
is_alone [] name k = true
is_alone (r ∷ rs) name zero = list_all (λ s. not (bytes_eq s.id name)) rs
is_alone (r ∷ rs) name (suc k) = not (bytes_eq r.id name) && is_alone rs name k

none_so : (rs : List Rule) (name : Text) (j : ℕ) (d : Rule) → list_all (λ s. not (bytes_eq s.id name)) rs ≡ true → j < length rs → bytes_eq (slice_index_or rs j d).id name ≡ true → ⊥
none_so [] name j d none l is = absurd (omega arith)
none_so (r ∷ rs) name zero d none l is = both_ways (bytes_eq r.id name) (not-true (bytes_eq r.id name) (and_parts _ _ none).0) is
none_so (r ∷ rs) name (suc j) d none l is = none_so rs name j d (and_parts _ _ none).1 (omega arith) is

alone : (rs : List Rule) (name : Text) (k j : ℕ) (d : Rule) → is_alone rs name k ≡ true → j < length rs → bytes_eq (slice_index_or rs j d).id name ≡ true → j ≡ k
alone [] name k j d one l is = absurd (omega arith)
alone (r ∷ rs) name zero zero d one l is = refl
alone (r ∷ rs) name zero (suc j) d one l is = absurd (none_so rs name j d one (omega arith) is)
alone (r ∷ rs) name (suc k) zero d one l is = absurd (both_ways (bytes_eq r.id name) (not-true (bytes_eq r.id name) (and_parts _ _ one).0) is)
alone (r ∷ rs) name (suc k) (suc j) d one l is = let same = alone rs name k j d (and_parts _ _ one).1 (omega arith) is in omega arith

-- names that differ
differ : (a b : Text) → bytes_eq a b ≡ false → a ≡ b → ⊥
differ a b unequal same = both_ways (bytes_eq a b) unequal ((bytes_eq-Decides a b).1 same)

module _ (made : Command) (m : ArgMatches) (same : app_of made ≡ command) (p : IsParsedFrom made m) where
  rules_are : map rule_of (args_of made) ≡ arguments
  rules_are = ap (λ (a : App). a.top.rules) same

  many : length (args_of made) ≡ 13
  many = sym (length-map (args_of made) rule_of) ∙ ap length rules_are

  rule_at : (k : ℕ) (d : Arg) (e : Rule) → k < length (args_of made) → rule_of (slice_index_or (args_of made) k d) ≡ slice_index_or arguments k e
  rule_at k d e l = sym (get_or-map rule_of (args_of made) k d e l) ∙ ap (λ rs. slice_index_or rs k e) rules_are

  no_groups : groups_of p.built ≡ []
  no_groups =
      (p.from.same_groups (simple_groups made (ap (λ (a : App). list_all (λ (r : Rule). r.is_simple) a.top.rules) same))).1
      ∙ (plain_fields made (ap (λ (a : App). a.top.is_plain) same)).groups

  any_arg : (xs : List Arg) → length xs ≡ 13 → Arg
  any_arg [] n = absurd (omega arith)
  any_arg (x ∷ xs) n = x

  -- an option that wants a number, which is the k-th argument
  module _ (k : ℕ) (d : Arg) (name : Text) (least most : ℕ) (l : k < length (args_of made))
      (is_name : (e : Rule) → (slice_index_or arguments k e).id ≡ name) (is_parser : (e : Rule) → (slice_index_or arguments k e).parser ≡ Some (Unsigned least most))
      (one : is_alone arguments name k ≡ true) (named : name ≡ [] → ⊥) (no_help : name ≡ codes "help" → ⊥) (no_version : name ≡ codes "version" → ⊥) where
    rule_is : rule_of (slice_index_or (args_of made) k d) ≡ slice_index_or arguments k (rule_of d)
    rule_is = rule_at k d (rule_of d) l

    name_is : (slice_index_or (args_of made) k d).id.now ≡ name
    name_is = ap (λ (r : Rule). r.id) rule_is ∙ is_name (rule_of d)

    parser_is : (slice_index_or (args_of made) k d).value_parser ≡ Some (Unsigned least most)
    parser_is = ap (λ (r : Rule). r.parser) rule_is ∙ is_parser (rule_of d)

    own : IsAuto (slice_index_or (args_of made) k d) → ⊥
    own (inl h) = no_help (sym name_is ∙ h)
    own (inr h) = no_version (sym name_is ∙ h)

    unique : (j : ℕ) (e : Arg) → j < length (args_of made) → bytes_eq (slice_index_or (args_of made) j e).id.now (slice_index_or (args_of made) k d).id.now ≡ true → j ≡ k
    unique j e lt h =
        let short : j < length arguments = subst (λ n. j < n) many lt in
        let ids : (slice_index_or (args_of made) j e).id.now ≡ (slice_index_or arguments j (rule_of e)).id = ap (λ (r : Rule). r.id) (rule_at j e (rule_of e) lt) in
        alone arguments name k j (rule_of e) one short (subst (λ t. bytes_eq t name ≡ true) ids (subst (λ t. bytes_eq (slice_index_or (args_of made) j e).id.now t ≡ true) name_is h))

    -- the argument of that name of the built command has that parser
    kept : (j : ℕ) (x : Arg) → j < length (args_of p.built) → slice_index_or (args_of p.built) j x ≡ x → bytes_eq x.id.now name ≡ true → parser_of x ≡ Unsigned least most
    kept j x lt at h =
        let rules = same_rules_by_id made m p k d l unique own j x lt at (subst (λ t. bytes_eq x.id.now t ≡ true) (sym name_is) h) in
        ap parser_of_value (rules.parser (Unsigned least most) parser_is)

    passes : (v : Text) → PassesArg p.built name v → IsUnsignedIn least most v
    passes v any = subst (λ (q : ValueParser). Accepts any.1.ignore_case q v) (kept any.0 any.1 any.2 any.3 any.4.0) any.4.1

    reads : (how : Reading) → HasReading p.built name how → how ≡ AsWritten
    reads how any = sym any.4.1 ∙ ap reading_of (kept any.0 any.1 any.2 any.3 any.4.0)

    -- what holds of an entry of that name
    no_group : (e : Entry) → e.0.now ≡ name → EntryPasses p.built e → e.1.is_group ≡ true → ⊥
    no_group e key pass g = elim (pass.3 g) [
      | inl empty ↦ named (sym key ∙ empty)
      | inr lots ↦ let some : 0 < 0 = subst (λ gs. 0 < length gs) no_groups lots in omega arith
    ]

    values_fit : (e : Entry) → e.0.now ≡ name → EntryPasses p.built e → All (λ v. IsUnsignedIn least most v.now) e.1.vals.items
    values_fit e key pass = elim pass.0 [
      | inl g ↦ absurd (no_group e key pass g)
      | inr each ↦ λ i v lt. passes (slice_index_or e.1.vals.items i v).now (subst (λ t. PassesArg p.built t (slice_index_or e.1.vals.items i v).now) key (each i v lt))
    ]

    read_plainly : (e : Entry) → e.0.now ≡ name → EntryPasses p.built e → e.1.reading ≡ AsWritten
    read_plainly e key pass = elim pass.4 [
      | inl g ↦ absurd (no_group e key pass g)
      | inr how ↦ reads e.1.reading (subst (λ t. HasReading p.built t e.1.reading) key how)
    ]

    -- the first value of that name
    head_fits : (vs : List (Bor Text)) (how : Reading) → All (λ v. IsUnsignedIn least most v.now) vs → how ≡ AsWritten → IfSome (option_map (λ v. read_as how v.now) (slice_get vs 0)) (IsUnsignedIn least most)
    head_fits [] how all is = tt
    head_fits (v ∷ vs) how all is = subst (λ (h : Reading). IsUnsignedIn least most (read_as h v.now)) (sym is) (all 0 v (omega arith))

    abbrev text_of : MatchedArg → Option Text
    text_of x = option_map (λ v. read_as x.reading v.now) (slice_get x.vals.items 0)

    found_fits : (o : Option MatchedArg) → matched_of (found_of m) name ≡ o → IfSome (option_and_then text_of o) (IsUnsignedIn least most)
    found_fits None e = tt
    found_fits (Some x) e =
        let parsed = p.parsed (p.from.globals ∙ (plain_fields made (ap (λ (a : App). a.top.is_plain) same)).globals) in
        let got = entry_by_id (EntryPasses p.built) (found_of m).entries.items name x parsed.values e in
        let key : got.0.0.now ≡ name = (bytes_eq-Decides got.0.0.now name).0 got.2 in
        subst (λ (y : MatchedArg). IfSome (text_of y) (IsUnsignedIn least most)) got.1 (head_fits got.0.1.vals.items got.0.1.reading (values_fit got.0 key got.3) (read_plainly got.0 key got.3))

    fits : Fits name least most (rows_of (found_of m))
    fits = subst (λ o. IfSome o (IsUnsignedIn least most)) (one_text-rows (found_of m) name) (found_fits (matched_of (found_of m) name) refl)

  pub numbers_fit : NumbersFit (rows_of (found_of m))
  numbers_fit =
      let d : Arg = any_arg (args_of made) many in
      record {
        limit = fits 2 d (codes "limit") 0 most_steps (omega (arith, many)) (λ e. refl) (λ e. refl) refl (differ _ _ refl) (differ _ _ refl) (differ _ _ refl);
        seed = fits 3 d (codes "seed") 0 most_seed (omega (arith, many)) (λ e. refl) (λ e. refl) refl (differ _ _ refl) (differ _ _ refl) (differ _ _ refl);
        decimals = fits 4 d (codes "precision") 0 most_decimals (omega (arith, many)) (λ e. refl) (λ e. refl) refl (differ _ _ refl) (differ _ _ refl) (differ _ _ refl);
        budget = fits 5 d (codes "budget") 1 most_budget (omega (arith, many)) (λ e. refl) (λ e. refl) refl (differ _ _ refl) (differ _ _ refl) (differ _ _ refl);
        draw = fits 11 d (codes "draw") 1 most_draw (omega (arith, many)) (λ e. refl) (λ e. refl) refl (differ _ _ refl) (differ _ _ refl) (differ _ _ refl);
        count = fits 12 d (codes "count") 1 most_count (omega (arith, many)) (λ e. refl) (λ e. refl) refl (differ _ _ refl) (differ _ _ refl) (differ _ _ refl);
      }
