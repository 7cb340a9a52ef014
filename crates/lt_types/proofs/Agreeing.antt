-- A fact and a list that is empty exactly where it holds, and how such pairs are joined.
use Rattle.std.proofs.Common.{◌≡◌, List, [], ◌∷◌, ◌++◌, Option, Some, Bool, true, false, ◌&&◌, option_map, IsTrue, refl, ap, sym, ◌∙◌, subst}
use Rattle.lt_ast.specs.declared.span.Span.{Span}
use Rattle.lt_ast.specs.declared.group.TypeName.{TypeName}
use Rattle.lt_ast.specs.declared.group.TypeName.TheVariants as t
use Rattle.lt_types.specs.Operators.{same_type, is_value}
use Rattle.lt_types.specs.Refusals.{unless, first_nonempty, typed, operands, branches}
use Rattle.lt_types.specs.declared.refusal.TypeRefusal.{TypeRefusal}
use Rattle.lt_types.specs.declared.refusal.TypeRefusal.TheVariants.{Mismatch}

-- a list is empty exactly where a fact holds
pub record Agrees (P : Type 0) (rs : List TypeRefusal) : Type 0 where
  pub clean : P → rs ≡ []
  pub back : rs ≡ [] → P

-- of two lists in a row
pub nil_both : {xs ys : List TypeRefusal} → xs ≡ [] → ys ≡ [] → xs ++ ys ≡ []
nil_both p q = λ i. p i ++ q i

pub nil_left : (xs ys : List TypeRefusal) → xs ++ ys ≡ [] → xs ≡ []
nil_left [] ys e = refl
nil_left (x ∷ xs) ys e = cc

pub nil_right : (xs ys : List TypeRefusal) → xs ++ ys ≡ [] → ys ≡ []
nil_right [] ys e = e
nil_right (x ∷ xs) ys e = absurd (cc)

pub nil_first_nonempty : {xs ys : List TypeRefusal} → xs ≡ [] → ys ≡ [] → first_nonempty xs ys ≡ []
nil_first_nonempty p q = λ i. first_nonempty (p i) (q i)

pub first_nonempty_left : (xs ys : List TypeRefusal) → first_nonempty xs ys ≡ [] → xs ≡ []
first_nonempty_left [] ys e = refl
first_nonempty_left (x ∷ xs) ys e = e

pub first_nonempty_right : (xs ys : List TypeRefusal) → first_nonempty xs ys ≡ [] → ys ≡ []
first_nonempty_right [] ys e = e
first_nonempty_right (x ∷ xs) ys e = absurd (cc)

-- of a test
pub unless_clean : {b : Bool} (r : TypeRefusal) → b ≡ true → unless b r ≡ []
unless_clean {b} r e = ap (λ test. unless test r) e

pub unless_back : (b : Bool) (r : TypeRefusal) → unless b r ≡ [] → b ≡ true
unless_back true r e = refl
unless_back false r e = absurd (cc)

-- joined
pub none : Agrees (Unit {0}) []
none = record { clean = λ _. refl; back = λ _. tt }

pub never : (rs : List TypeRefusal) (r : TypeRefusal) → Agrees ⊥ (rs ++ (r ∷ []))
never rs r = record { clean = λ h. absurd h; back = λ e. let f : r ∷ [] ≡ [] = nil_right rs _ e in absurd (cc) }

pub test : (b : Bool) (r : TypeRefusal) → Agrees (IsTrue b) (unless b r)
test b r = record { clean = unless_clean r; back = unless_back b r }

pub both : {P Q : Type 0} {xs ys : List TypeRefusal} → Agrees P xs → Agrees Q ys → Agrees (P × Q) (xs ++ ys)
both {xs = xs} a b = record {
  clean = λ h. nil_both (a.clean h.0) (b.clean h.1);
  back = λ e. (a.back (nil_left xs _ e), b.back (nil_right xs _ e));
}

pub all_three : {P Q R : Type 0} {xs ys zs : List TypeRefusal} → Agrees P xs → Agrees Q ys → Agrees R zs → Agrees (P × Q × R) (xs ++ (ys ++ zs))
all_three {xs = xs} {ys = ys} a b c = record {
  clean = λ h. nil_both (a.clean h.0) (nil_both (b.clean h.1) (c.clean h.2));
  back = λ e. (a.back (nil_left xs _ e), b.back (nil_left ys _ (nil_right xs _ e)), c.back (nil_right ys _ (nil_right xs _ e)));
}

pub all_five : {P Q R S T : Type 0} {xs ys zs ws vs : List TypeRefusal} → Agrees P xs → Agrees Q ys → Agrees R zs → Agrees S ws → Agrees T vs → Agrees (P × Q × R × S × T) (xs ++ (ys ++ (zs ++ (ws ++ vs))))
all_five {xs = xs} {ys = ys} {zs = zs} {ws = ws} a b c d e = record {
  clean = λ h. nil_both (a.clean h.0) (nil_both (b.clean h.1) (nil_both (c.clean h.2) (nil_both (d.clean h.3) (e.clean h.4))));
  back = λ n.
      let behind = nil_right xs _ n in
      let inner = nil_right ys _ behind in
      let last = nil_right zs _ inner in
      (a.back (nil_left xs _ n), b.back (nil_left ys _ behind), c.back (nil_left zs _ inner), d.back (nil_left ws _ last), e.back (nil_right ws _ last));
}

-- a fact of which two lists speak, with others between them
pub record AgreesInTwo (P : Type 0) (inside own : List TypeRefusal) : Type 0 where
  pub clean : P → (inside ≡ []) × (own ≡ [])
  pub back : inside ≡ [] → own ≡ [] → P

pub four_in_five : {P Q R S : Type 0} {xs ys zs ws vs : List TypeRefusal} → Agrees P xs → Agrees Q ys → AgreesInTwo R zs vs → Agrees S ws → Agrees (P × Q × R × S) (xs ++ (ys ++ (zs ++ (ws ++ vs))))
four_in_five {xs = xs} {ys = ys} {zs = zs} {ws = ws} a b c d = record {
  clean = λ h. nil_both (a.clean h.0) (nil_both (b.clean h.1) (nil_both (c.clean h.2).0 (nil_both (d.clean h.3) (c.clean h.2).1)));
  back = λ e.
      let behind = nil_right xs _ e in
      let inner = nil_right ys _ behind in
      let last = nil_right zs _ inner in
      (a.back (nil_left xs _ e), b.back (nil_left ys _ behind), c.back (nil_left zs _ inner) (nil_right ws _ last), d.back (nil_left ws _ last));
}

-- one argument before others: what it breaks inside comes before the rule on their number, and whether it fits after that
pub one_more : {P Q : Type 0} (inside fit others number fits : List TypeRefusal) → Agrees P (inside ++ fit) → Agrees Q (others ++ (number ++ fits)) → Agrees (P × Q) ((inside ++ others) ++ (number ++ (fit ++ fits)))
one_more inside fit others number fits a b = record {
  clean = λ h.
      let p = a.clean h.0 in
      let q = b.clean h.1 in
      nil_both (nil_both (nil_left inside _ p) (nil_left others _ q)) (nil_both (nil_left number fits (nil_right others _ q)) (nil_both (nil_right inside fit p) (nil_right number fits (nil_right others _ q))));
  back = λ e.
      let left = nil_left (inside ++ others) _ e in
      let right = nil_right (inside ++ others) _ e in
      let last = nil_right number _ right in
      (a.back (nil_both (nil_left inside _ left) (nil_left fit _ last)), b.back (nil_both (nil_right inside others left) (nil_both (nil_left number _ right) (nil_right fit _ last))));
}

-- types that are one
pub same-refl : (k : TypeName) → same_type k k ≡ true
same-refl t.Bool = refl
same-refl t.Int = refl
same-refl t.Real = refl
same-refl t.Trace = refl

pub same-is : (k m : TypeName) → same_type k m ≡ true → k ≡ m
same-is t.Bool t.Bool e = refl
same-is t.Int t.Int e = refl
same-is t.Real t.Real e = refl
same-is t.Trace t.Trace e = refl
same-is t.Bool t.Int e = absurd (cc)
same-is t.Bool t.Real e = absurd (cc)
same-is t.Bool t.Trace e = absurd (cc)
same-is t.Int t.Bool e = absurd (cc)
same-is t.Int t.Real e = absurd (cc)
same-is t.Int t.Trace e = absurd (cc)
same-is t.Real t.Bool e = absurd (cc)
same-is t.Real t.Int e = absurd (cc)
same-is t.Real t.Trace e = absurd (cc)
same-is t.Trace t.Bool e = absurd (cc)
same-is t.Trace t.Int e = absurd (cc)
same-is t.Trace t.Real e = absurd (cc)

pub same : (k m : TypeName) (r : TypeRefusal) → Agrees (k ≡ m) (unless (same_type k m) r)
same k m r = record { clean = λ e. unless_clean _ (ap (λ x. same_type x m) e ∙ same-refl m); back = λ e. same-is k m (unless_back (same_type k m) _ e) }

pub and-both : {a b : Bool} → a ≡ true → b ≡ true → (a && b) ≡ true
and-both p q = λ i. p i && q i

pub and-left : (a b : Bool) → (a && b) ≡ true → a ≡ true
and-left true b e = refl
and-left false b e = e

pub and-right : (a b : Bool) → (a && b) ≡ true → b ≡ true
and-right true b e = e
and-right false b e = absurd (cc)

-- the types that an expression has: there is one exactly where a list is empty, and it is the one that the form shows
pub record Types (H : TypeName → Type 0) (rs : List TypeRefusal) (shown : Option TypeName) : Type 0 where
  pub clean : (k : TypeName) → H k → rs ≡ []
  pub is_shown : (k : TypeName) → H k → shown ≡ Some k
  pub back : rs ≡ [] → (k : TypeName) × H k

-- a test of the type that the form shows
pub typed_clean : (p : TypeName → Bool) {o : Option TypeName} {k : TypeName} (at : Span) → o ≡ Some k → p k ≡ true → typed p o at ≡ []
typed_clean p {o} {k} at e h = ap (λ x. typed p x at) e ∙ unless_clean _ h

pub typed_back : (p : TypeName → Bool) {o : Option TypeName} {k : TypeName} (at : Span) → o ≡ Some k → typed p o at ≡ [] → p k ≡ true
typed_back p {o} {k} at e h = unless_back (p k) _ (sym (ap (λ x. typed p x at) e) ∙ h)

-- an expression of some type that passes a test
pub tested : {H : TypeName → Type 0} {rs : List TypeRefusal} {o : Option TypeName} (p : TypeName → Bool) (at : Span) → Types H rs o → Agrees ((k : TypeName) × H k × IsTrue (p k)) (rs ++ typed p o at)
tested {H} {rs} {o} p at a = record {
  clean = λ h. nil_both (a.clean h.0 h.1) (typed_clean p at (a.is_shown h.0 h.1) h.2);
  back = λ e. let h = a.back (nil_left rs _ e) in (h.0, h.1, typed_back p at (a.is_shown h.0 h.1) (nil_right rs _ e));
}

-- an expression of a wanted type, and what stands after it
pub wanted_clean : {H : TypeName → Type 0} {rs : List TypeRefusal} {o : Option TypeName} (kind : TypeName) (at : Span) → Types H rs o → H kind → typed (λ k. same_type k kind) o at ≡ []
wanted_clean kind at a h = typed_clean (λ k. same_type k kind) at (a.is_shown kind h) (same-refl kind)

pub wanted_back : {H : TypeName → Type 0} {rs : List TypeRefusal} {o : Option TypeName} (kind : TypeName) (at : Span) → Types H rs o → rs ≡ [] → typed (λ k. same_type k kind) o at ≡ [] → H kind
wanted_back {H} kind at a e f =
    let h = a.back e in
    subst H (same-is h.0 kind (typed_back (λ k. same_type k kind) at (a.is_shown h.0 h.1) f)) h.1

pub of_type : {H : TypeName → Type 0} {rs : List TypeRefusal} {o : Option TypeName} (kind : TypeName) (at : Span) → Types H rs o → Agrees (H kind) (rs ++ typed (λ k. same_type k kind) o at)
of_type {rs = rs} kind at a = record {
  clean = λ h. nil_both (a.clean kind h) (wanted_clean kind at a h);
  back = λ e. wanted_back kind at a (nil_left rs _ e) (nil_right rs _ e);
}

pub of_type_then : {H : TypeName → Type 0} {rs : List TypeRefusal} {o : Option TypeName} {Q : Type 0} {others : List TypeRefusal} (kind : TypeName) (at : Span) → Types H rs o → Agrees Q others → Agrees (H kind × Q) (rs ++ (typed (λ k. same_type k kind) o at ++ others))
of_type_then {rs = rs} {o = o} kind at a b = record {
  clean = λ h. nil_both (a.clean kind h.0) (nil_both (wanted_clean kind at a h.0) (b.clean h.1));
  back = λ e.
      let rest = nil_right rs _ e in
      let own : typed (λ k. same_type k kind) o at ≡ [] = nil_left (typed (λ k. same_type k kind) o at) _ rest in
      (wanted_back kind at a (nil_left rs _ e) own, b.back (nil_right (typed (λ k. same_type k kind) o at) _ rest));
}

pub of_type_around : {H : TypeName → Type 0} {rs : List TypeRefusal} {o : Option TypeName} {Q : Type 0} {others : List TypeRefusal} (kind : TypeName) (at : Span) → Types H rs o → Agrees Q others → Agrees (H kind × Q) (rs ++ (others ++ typed (λ k. same_type k kind) o at))
of_type_around {rs = rs} {others = others} kind at a b = record {
  clean = λ h. nil_both (a.clean kind h.0) (nil_both (b.clean h.1) (wanted_clean kind at a h.0));
  back = λ e.
      let rest = nil_right rs _ e in
      (wanted_back kind at a (nil_left rs _ e) (nil_right others _ rest), b.back (nil_left others _ rest));
}

-- an expression of one type alone
pub only : (kind : TypeName) → Types (λ k. k ≡ kind) [] (Some kind)
only kind = record { clean = λ k h. refl; is_shown = λ k h. ap Some (sym h); back = λ _. (kind, refl) }

-- a first value, which is judged where it stands and, for its type, after the group
pub in_two : {H : TypeName → Type 0} {rs : List TypeRefusal} {o : Option TypeName} (kind : TypeName) (at : Span) → Types H rs o → AgreesInTwo (H kind) rs (typed (λ k. same_type k kind) o at)
in_two kind at a = record { clean = λ h. (a.clean kind h, wanted_clean kind at a h); back = λ e f. wanted_back kind at a e f }

-- operators
pub with_one : {H : TypeName → Type 0} {rs : List TypeRefusal} {o : Option TypeName} (takes : TypeName → Bool) (gives : TypeName → TypeName) (at : Span) → Types H rs o
    → Types (λ kind. (k : TypeName) × H k × IsTrue (takes k) × (kind ≡ gives k)) (rs ++ typed takes o at) (option_map gives o)
with_one {H} {rs} {o} takes gives at a = record {
  clean = λ kind h. nil_both (a.clean h.0 h.1) (typed_clean takes at (a.is_shown h.0 h.1) h.2);
  is_shown = λ kind h. ap (option_map gives) (a.is_shown h.0 h.1) ∙ ap Some (sym h.3);
  back = λ e. let h = a.back (nil_left rs _ e) in (gives h.0, (h.0, h.1, typed_back takes at (a.is_shown h.0 h.1) (nil_right rs _ e), refl));
}

pub operands_clean : (takes : TypeName → Bool) {left right : Option TypeName} {k : TypeName} (at : Span) → left ≡ Some k → right ≡ Some k → takes k ≡ true → operands takes left right at ≡ []
operands_clean takes {left} {right} {k} at e f h = ap (λ x. operands takes x right at) e ∙ typed_clean (λ other. same_type other k && takes k) at f (and-both (same-refl k) h)

pub operands_back : (takes : TypeName → Bool) {left right : Option TypeName} {k m : TypeName} (at : Span) → left ≡ Some k → right ≡ Some m → operands takes left right at ≡ [] → (m ≡ k) × (takes k ≡ true)
operands_back takes {left} {right} {k} {m} at e f h =
    let b : (same_type m k && takes k) ≡ true = typed_back (λ other. same_type other k && takes k) at f (sym (ap (λ x. operands takes x right at) e) ∙ h) in
    (same-is m k (and-left (same_type m k) (takes k) b), and-right (same_type m k) (takes k) b)

pub with_two : {H J : TypeName → Type 0} {rs ss : List TypeRefusal} {o q : Option TypeName} (takes : TypeName → Bool) (gives : TypeName → TypeName) (at : Span) → Types H rs o → Types J ss q
    → Types (λ kind. (k : TypeName) × H k × J k × IsTrue (takes k) × (kind ≡ gives k)) (rs ++ (ss ++ operands takes o q at)) (option_map gives o)
with_two {H} {J} {rs} {ss} {o} {q} takes gives at a b = record {
  clean = λ kind h. nil_both (a.clean h.0 h.1) (nil_both (b.clean h.0 h.2) (operands_clean takes at (a.is_shown h.0 h.1) (b.is_shown h.0 h.2) h.3));
  is_shown = λ kind h. ap (option_map gives) (a.is_shown h.0 h.1) ∙ ap Some (sym h.4);
  back = λ e.
      let h = a.back (nil_left rs _ e) in
      let rest = nil_right rs _ e in
      let j = b.back (nil_left ss _ rest) in
      let s = operands_back takes at (a.is_shown h.0 h.1) (b.is_shown j.0 j.1) (nil_right ss _ rest) in
      (gives h.0, (h.0, h.1, subst J s.0 j.1, s.1, refl));
}

pub with_choice : {C H J : TypeName → Type 0} {cs rs ss : List TypeRefusal} {c o q : Option TypeName} (at : Span) → Types C cs c → Types H rs o → Types J ss q
    → Types (λ kind. C t.Bool × H kind × J kind × IsTrue (is_value kind)) (cs ++ (rs ++ (ss ++ branches c o q at))) o
with_choice {C} {H} {J} {cs} {rs} {ss} {c} {o} {q} at d a b = record {
  clean = λ kind h.
      let own : branches c o q at ≡ [] = ap (λ x. branches x o q at) (d.is_shown t.Bool h.0) ∙ operands_clean is_value at (a.is_shown kind h.1) (b.is_shown kind h.2) h.3 in
      nil_both (d.clean t.Bool h.0) (nil_both (a.clean kind h.1) (nil_both (b.clean kind h.2) own));
  is_shown = λ kind h. a.is_shown kind h.1;
  back = λ e.
      let g = d.back (nil_left cs _ e) in
      let rest = nil_right cs _ e in
      let h = a.back (nil_left rs _ rest) in
      let last = nil_right rs _ rest in
      let j = b.back (nil_left ss _ last) in
      let own : first_nonempty (unless (same_type g.0 t.Bool) (Mismatch at)) (operands is_value o q at) ≡ [] = sym (ap (λ x. branches x o q at) (d.is_shown g.0 g.1)) ∙ nil_right ss _ last in
      let s = operands_back is_value at (a.is_shown h.0 h.1) (b.is_shown j.0 j.1) (first_nonempty_right (unless (same_type g.0 t.Bool) (Mismatch at)) _ own) in
      let condition = same-is g.0 t.Bool (unless_back (same_type g.0 t.Bool) _ (first_nonempty_left (unless (same_type g.0 t.Bool) (Mismatch at)) _ own)) in
      (h.0, (subst C condition g.1, h.1, subst J s.0 j.1, s.1));
}
