-- Sets of keys as sets of terms.
use Rattle.std.proofs.Common.{◌≡◌, ◌∙◌, Bool, true, false, List, [], ◌∷◌, ◌++◌, ap, refl}
use Rattle.std.proofs.lemmas.List.{map-append}
use Rattle.std.specs.Prelude.{◌||◌, if◌then◌else◌}
use Rattle.std.specs.List.{list_any}
use Rattle.lt_term.specs.View.{process}
use Rattle.lt_same_term.specs.Alike.{alike}
use Rattle.lt_check.specs.declared.key.TermKey.{TermKey}
use Rattle.lt_check.specs.inner.TermSet.{terms_of}
use Rattle.lt_check.specs.inner.Terms.{has, with_one}

-- a key is equal to one of some keys where its term is among theirs
any_has : (k : TermKey) (ks : List TermKey) → list_any (λ q. alike (process k.term) (process q.term)) ks ≡ has (terms_of ks) (process k.term)
any_has k [] = refl
any_has k (q ∷ ks) = ap (λ b. alike (process k.term) (process q.term) || b) (any_has k ks)

-- a key more is a term more
pub one_more : (ks : List TermKey) (k : TermKey) → terms_of (if list_any (λ q. alike (process k.term) (process q.term)) ks then ks else ks ++ k ∷ []) ≡ with_one (terms_of ks) (process k.term)
one_more ks k = by_either (list_any (λ q. alike (process k.term) (process q.term)) ks) (has (terms_of ks) (process k.term)) (any_has k ks)
  where
    by_either : (b c : Bool) → b ≡ c → terms_of (if b then ks else ks ++ k ∷ []) ≡ (if c then terms_of ks else terms_of ks ++ process k.term ∷ [])
    by_either true c e = ap (λ x. if x then terms_of ks else terms_of ks ++ process k.term ∷ []) e
    by_either false c e = map-append (λ (q : TermKey). process q.term) ks (k ∷ []) ∙ ap (λ x. if x then terms_of ks else terms_of ks ++ process k.term ∷ []) e
