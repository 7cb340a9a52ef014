-- What an instant gives follows.
use Rattle.std.proofs.Common.{◌≡◌, ℕ, zero, suc, Bool, true, false, List, [], ◌∷◌, ◌++◌, length, map, None, Some, Option, ℤ, pos, negsuc, ◌≤ℤ◌, refl, ap, subst, sym, ◌∙◌, arith, append_assoc, length-append, get_or, if◌then◌else◌}
use Rattle.std.specs.Prelude.{Contains, replicate}
use Rattle.std.proofs.Math.Seq.{get_or-append_seam}
use Rattle.std.proofs.lemmas.Int.{ints}
use Rattle.lt_num.proofs.Public.{points_of_step_one, raws_are_within}
use Rattle.lt_num.specs.Range.{points_of}
use Rattle.lt_num.specs.Value.{raw_of, value_of}
use Rattle.lt_num.specs.declared.fault.Arith.{Arith}
use Rattle.lt_num.specs.declared.kind.Kind.{Kind}
use Rattle.lt_num.specs.declared.kind.Kind.TheVariants as kind
use Rattle.lt_num.specs.declared.range.Range.{Range}
use Rattle.lt_num.specs.declared.value.Value.{Value}
use Rattle.lt_draw.specs.declared.directions.Draw as rule
use Rattle.lt_formula.specs.Domain.{IsDomain}
use Rattle.lt_formula.specs.Expression.{Expression}
use Rattle.lt_formula.specs.Solution.{IsPointOf}
use Rattle.lt_space.specs.Formula.{Formula}
use Rattle.lt_space.specs.Scope.{ranges_in}
use Rattle.lt_term.specs.Configuration.{Configuration}
use Rattle.lt_term.specs.Evaluated as ev
use Rattle.lt_term.specs.Process.{Process}
use Rattle.lt_term.specs.Scene.{Scene, Variable}
use Rattle.lt_term.specs.Tree.{Lasts}
use Rattle.lt_trace.specs.Told.{Shown}
use Rattle.lt_instant.specs.Drawn.{Met}
use Rattle.lt_instant.specs.Instant.{Instant, values, normal, raise, deadlock, fault, too_large, Leaf, go_instant, instant_of, is_too_large, judged, leaf_instant, next_configuration, taken_in, taken_instant, words_of}
use Rattle.lt_instant.specs.Legal.{DeadlockMeansNoneLive, DrawIsLegal, SolutionsPass}
use Rattle.lt_instant.specs.Solved.{is_in_scope, locals_by, marks_from, outputs_by, ranges_at, ranges_of_all, scoped, solution_of, values_from}
use Rattle.lt_legal.specs.Follows.{Follows, MayTake, Reached, local_raw, shown_raws}
use Rattle.lt_legal.specs.Follows as follows
use Rattle.lt_legal_laws.specs.Runs.{HaveDomains, InstantsEnd, InstantsFollow, begun, went_on, RunsReach}

either : {P : Type 0} (b : Bool) → (b ≡ true → P) → (b ≡ false → P) → P
either true first second = first refl
either false first second = second refl

-- ---- raw numbers, and the values that show them

-- a number from 0 to 1
zero-one : (raw : ℤ) → pos 0 ≤ℤ raw → raw ≤ℤ pos 1 → raw_of (value_of kind.Bool raw) ≡ raw
zero-one (pos zero) low high = refl
zero-one (pos (suc zero)) low high = refl
zero-one (pos (suc (suc n))) low high = absurd (omega (arith, ints))
zero-one (negsuc n) low high = absurd (omega (arith, ints))

-- a point of a range of step 1 lies between its ends
between : (low high raw : ℤ) → low ≤ℤ high → Contains (points_of (record { low = low; high = high; step = pos 1 })) raw → (low ≤ℤ raw) × (raw ≤ℤ high)
between low high raw some is =
    let tell = (raws_are_within (record { low = low; high = high })).0 raw in
    tell.0 (subst (λ (xs : List ℤ). Contains xs raw) (points_of_step_one low high some) is)

raw-back : (k : Kind) (range : Range) (raw : ℤ) → IsDomain k range → Contains (points_of range) raw → raw_of (value_of k raw) ≡ raw
raw-back kind.Int range raw domain is = refl
raw-back kind.Real range raw domain is = refl
raw-back kind.Bool range raw domain is =
    let ends = between (pos 0) (pos 1) raw (omega (arith, ints)) (subst (λ (r : Range). Contains (points_of r) raw) (domain.boolean refl) is) in
    zero-one raw ends.0 ends.1

-- what is at the seam of two lists
seam : (front : List ℤ) (x : ℤ) (back : List ℤ) (i : ℕ) → length front ≡ i → get_or (front ++ x ∷ back) i (pos 0) ≡ x
seam front x back i e = ap (λ (n : ℕ). get_or (front ++ x ∷ back) n (pos 0)) (sym e) ∙ get_or-append_seam front x back (pos 0)

longer : (front : List ℤ) (x : ℤ) (i : ℕ) → length front ≡ i → length (front ++ x ∷ []) ≡ suc i
longer front x i e = omega (arith, length-append front (x ∷ []))

-- the outputs
outputs-back : (vs : List Variable) (front xs back : List ℤ) (i : ℕ) → length front ≡ i → HaveDomains vs → IsPointOf (ranges_of_all vs) xs → map raw_of (values_from i vs (front ++ (xs ++ back))) ≡ xs
outputs-back [] front [] back i e domains point = refl
outputs-back [] front (x ∷ xs) back i e domains point = absurd point
outputs-back (v ∷ vs) front [] back i e domains point = absurd point
outputs-back (v ∷ vs) front (x ∷ xs) back i e domains point =
    let here = seam front x (xs ++ back) i e in
    let one = raw-back v.kind v.range x domains.0 point.0 in
    let rest = outputs-back vs (front ++ x ∷ []) xs back (suc i) (longer front x i e) domains.1 point.1 in
    let text : (front ++ x ∷ []) ++ (xs ++ back) ≡ front ++ x ∷ (xs ++ back) = append_assoc front (x ∷ []) (xs ++ back) in
    ap (λ (r : ℤ). raw_of (value_of v.kind r) ∷ map raw_of (values_from (suc i) vs (front ++ x ∷ (xs ++ back)))) here
    ∙ ap (λ (r : ℤ). r ∷ map raw_of (values_from (suc i) vs (front ++ x ∷ (xs ++ back)))) one
    ∙ ap (λ (t : List ℤ). x ∷ map raw_of (values_from (suc i) vs t)) (sym text)
    ∙ ap (λ (t : List ℤ). x ∷ t) rest

-- the locals
local-back : (b : Bool) (v : Variable) (x : ℤ) → IsDomain v.kind v.range → IsPointOf (ranges_in (b ∷ []) (v.range ∷ [])) (x ∷ []) → local_raw (if b then Some (value_of v.kind x) else None) ≡ x
local-back true v x domain point = raw-back v.kind v.range x domain point.0
local-back false v x domain point = let ends = between (pos 0) (pos 0) x (omega (arith, ints)) point.0 in let low = ends.0 in let high = ends.1 in omega (arith, ints)

locals-back : (ls : Lasts) (vs : List Variable) (j : ℕ) (front zs : List ℤ) (i : ℕ) → length front ≡ i → HaveDomains vs → IsPointOf (ranges_in (marks_from ls j vs) (ranges_of_all vs)) zs → map local_raw (scoped ls j (values_from i vs (front ++ zs))) ≡ zs
locals-back ls [] j front [] i e domains point = refl
locals-back ls [] j front (z ∷ zs) i e domains point = absurd point
locals-back ls (v ∷ vs) j front [] i e domains point = absurd point
locals-back ls (v ∷ vs) j front (z ∷ zs) i e domains point =
    let here = seam front z zs i e in
    let b = is_in_scope ls j in
    let one = local-back b v z domains.0 (point.0, tt) in
    let rest = locals-back ls vs (suc j) (front ++ z ∷ []) zs (suc i) (longer front z i e) domains.1 point.1 in
    let text : (front ++ z ∷ []) ++ zs ≡ front ++ z ∷ zs = append_assoc front (z ∷ []) zs in
    ap (λ (r : ℤ). local_raw (if b then Some (value_of v.kind r) else None) ∷ map local_raw (scoped ls (suc j) (values_from (suc i) vs (front ++ z ∷ zs)))) here
    ∙ ap (λ (r : ℤ). r ∷ map local_raw (scoped ls (suc j) (values_from (suc i) vs (front ++ z ∷ zs)))) one
    ∙ ap (λ (t : List ℤ). z ∷ map local_raw (scoped ls (suc j) (values_from (suc i) vs t))) (sym text)
    ∙ ap (λ (t : List ℤ). z ∷ t) rest

-- a point of the outputs and of others
record Parts (vs : List Variable) (marks : List Bool) (rs : List Range) (raws : List ℤ) : Type 0 where
  xs : List ℤ
  zs : List ℤ
  whole : raws ≡ xs ++ zs
  first : IsPointOf (ranges_of_all vs) xs
  second : IsPointOf (ranges_in marks rs) zs
  count : length xs ≡ length vs

parts-of : (vs : List Variable) (marks : List Bool) (rs : List Range) (raws : List ℤ) → IsPointOf (ranges_in (replicate (length vs) true ++ marks) (ranges_of_all vs ++ rs)) raws → Parts vs marks rs raws
parts-of [] marks rs raws point = record { xs = []; zs = raws; whole = refl; first = tt; second = point; count = refl }
parts-of (v ∷ vs) marks rs [] point = absurd point
parts-of (v ∷ vs) marks rs (x ∷ raws) point =
    let more = parts-of vs marks rs raws point.1 in
    record { xs = x ∷ more.xs; zs = more.zs; whole = ap (λ (t : List ℤ). x ∷ t) more.whole; first = (point.0, more.first); second = more.second; count = ap suc more.count }

shown-back : (s : Scene) (ls : Lasts) (raws : List ℤ) (answer : List Value) → HaveDomains s.outputs → HaveDomains s.locals → IsPointOf (ranges_at s ls) raws → shown_raws (record { outputs = outputs_by s raws; inputs = answer; locals = scoped ls 0 (locals_by s raws) }) ≡ raws
shown-back s ls raws answer outs locs point =
    let p = parts-of s.outputs (marks_from ls 0 s.locals) (ranges_of_all s.locals) raws point in
    let one : map raw_of (outputs_by s raws) ≡ p.xs = ap (λ (t : List ℤ). map raw_of (values_from 0 s.outputs t)) p.whole ∙ outputs-back s.outputs [] p.xs p.zs 0 refl outs p.first in
    let two : map local_raw (scoped ls 0 (locals_by s raws)) ≡ p.zs = ap (λ (t : List ℤ). map local_raw (scoped ls 0 (values_from (length s.outputs) s.locals t))) p.whole ∙ locals-back ls s.locals 0 p.xs p.zs (length s.outputs) p.count locs p.second in
    ap (λ (t : List ℤ). t ++ map local_raw (scoped ls 0 (locals_by s raws))) one ∙ ap (λ (t : List ℤ). p.xs ++ t) two ∙ sym p.whole

-- ---- the instant

-- an instant with values takes a leaf
record TakesLeaf (s : Scene) (seed : ℕ) (draw : rule.Draw) (c : Configuration) (inputs : List Value) (o : Leaf) (outs : List Value) (locs : List (Option Value)) (next : Configuration) : Type 0 where
  formula : Formula
  lasts : Lasts
  rest : Process Expression
  raws : List ℤ
  leaf_is : o ≡ ev.go formula lasts rest
  solves : solution_of s draw (words_of seed c) lasts formula ≡ Some raws
  outs_are : outputs_by s raws ≡ outs
  locs_are : scoped lasts 0 (locals_by s raws) ≡ locs
  next_is : next_configuration s c inputs lasts rest raws ≡ next

solved : (s : Scene) (seed : ℕ) (draw : rule.Draw) (c : Configuration) (inputs : List Value) (f : Formula) (ls : Lasts) (n : Process Expression) (outs : List Value) (locs : List (Option Value)) (next : Configuration) (r : Option (List ℤ))
    → solution_of s draw (words_of seed c) ls f ≡ r → go_instant s c inputs ls n r ≡ values outs locs next → TakesLeaf s seed draw c inputs (ev.go f ls n) outs locs next
solved s seed draw c inputs f ls n outs locs next None e h = absurd (cc)
solved s seed draw c inputs f ls n outs locs next (Some raws) e h = record { formula = f; lasts = ls; rest = n; raws = raws; leaf_is = refl; solves = e; outs_are = cc; locs_are = cc; next_is = cc }

leaf-case : (s : Scene) (seed : ℕ) (draw : rule.Draw) (c : Configuration) (inputs : List Value) (o : Leaf) (outs : List Value) (locs : List (Option Value)) (next : Configuration) → leaf_instant s seed draw c inputs o ≡ values outs locs next → TakesLeaf s seed draw c inputs o outs locs next
leaf-case s seed draw c inputs ev.vanish outs locs next h = absurd (cc)
leaf-case s seed draw c inputs ev.nothing outs locs next h = absurd (cc)
leaf-case s seed draw c inputs (ev.raised z) outs locs next h = absurd (cc)
leaf-case s seed draw c inputs (ev.faulty x) outs locs next h = absurd (cc)
leaf-case s seed draw c inputs (ev.go f ls n) outs locs next h = solved s seed draw c inputs f ls n outs locs next (solution_of s draw (words_of seed c) ls f) refl h

follow-drawn : SolutionsPass → DrawIsLegal → (s : Scene) (seed : ℕ) (draw : rule.Draw) (c next : Configuration) (inputs outs answer : List Value) (locs : List (Option Value)) → HaveDomains s.outputs → HaveDomains s.locals → is_too_large s c ≡ false
    → (m : Met Formula (Process Expression)) → taken_in s seed draw c inputs ≡ Some m → leaf_instant s seed draw c inputs m.outlook ≡ values outs locs next → Follows s c inputs (record { outputs = outs; inputs = answer; locals = locs }) next
follow-drawn first draws s seed draw c next inputs outs answer locs out_domains loc_domains small m taken h =
    let l = leaf-case s seed draw c inputs m.outlook outs locs next h in
    let legal = rw taken at (draws s draw (words_of seed c) (judged s c inputs)) in
    let point = rw l.solves at (first s draw (words_of seed c) l.lasts l.formula) in
    let shown : Shown = record { outputs = outs; inputs = answer; locals = locs } in
    let raws_are : shown_raws shown ≡ l.raws =
    ap (λ (x : List Value). shown_raws (record { outputs = x; inputs = answer; locals = locs })) (sym l.outs_are)
    ∙ ap (λ (x : List (Option Value)). shown_raws (record { outputs = outputs_by s l.raws; inputs = answer; locals = x })) (sym l.locs_are)
    ∙ shown-back s l.lasts l.raws answer out_domains loc_domains point.0 in
    record {
      formula = l.formula;
      lasts = l.lasts;
      next = l.rest;
      small = small;
      leaf = (m.position, legal.2 ∙ ap (λ (o : Leaf). Some o) l.leaf_is, legal.1);
      shows = record {
        points = rw raws_are point.0;
        holds = rw raws_are point.1;
        outputs = rw raws_are l.outs_are;
        locals = rw raws_are l.locs_are;
      };
      next_is = rw raws_are (sym l.next_is);
    }

taken-case : SolutionsPass → DrawIsLegal → (s : Scene) (seed : ℕ) (draw : rule.Draw) (c next : Configuration) (inputs outs answer : List Value) (locs : List (Option Value)) → HaveDomains s.outputs → HaveDomains s.locals → is_too_large s c ≡ false
    → (r : Option (Met Formula (Process Expression))) → taken_in s seed draw c inputs ≡ r → taken_instant s seed draw c inputs r ≡ values outs locs next → Follows s c inputs (record { outputs = outs; inputs = answer; locals = locs }) next
taken-case first draws s seed draw c next inputs outs answer locs od ld small None e h = absurd (cc)
taken-case first draws s seed draw c next inputs outs answer locs od ld small (Some m) e h = follow-drawn first draws s seed draw c next inputs outs answer locs od ld small m e h

pub instants-follow : SolutionsPass → DrawIsLegal → InstantsFollow
instants-follow first draws s seed draw c next inputs outs answer locs od ld h =
    either (is_too_large s c)
    (λ t. absurd (let k : too_large ≡ values outs locs next = rw t at h in cc))
    (λ t. taken-case first draws s seed draw c next inputs outs answer locs od ld t (taken_in s seed draw c inputs) refl (rw t at h))

-- ---- ends

-- a leaf that is an instant ends no run but by a deadlock
abbrev IsGoing : Instant → Type 0
IsGoing (values a b c) = Unit {0}
IsGoing deadlock = Unit {0}
IsGoing other = ⊥

going-solved : (s : Scene) (c : Configuration) (inputs : List Value) (ls : Lasts) (n : Process Expression) (r : Option (List ℤ)) → IsGoing (go_instant s c inputs ls n r)
going-solved s c inputs ls n None = tt
going-solved s c inputs ls n (Some raws) = tt

going : (s : Scene) (seed : ℕ) (draw : rule.Draw) (c : Configuration) (inputs : List Value) (f : Formula) (ls : Lasts) (n : Process Expression) → IsGoing (leaf_instant s seed draw c inputs (ev.go f ls n))
going s seed draw c inputs f ls n = going-solved s c inputs ls n (solution_of s draw (words_of seed c) ls f)

leaf-normal : (s : Scene) (seed : ℕ) (draw : rule.Draw) (c : Configuration) (inputs : List Value) (o : Leaf) → leaf_instant s seed draw c inputs o ≡ normal → o ≡ ev.vanish
leaf-normal s seed draw c inputs ev.vanish h = refl
leaf-normal s seed draw c inputs ev.nothing h = absurd (cc)
leaf-normal s seed draw c inputs (ev.raised z) h = absurd (cc)
leaf-normal s seed draw c inputs (ev.faulty x) h = absurd (cc)
leaf-normal s seed draw c inputs (ev.go f ls n) h = absurd (subst IsGoing h (going s seed draw c inputs f ls n))

leaf-raised : (s : Scene) (seed : ℕ) (draw : rule.Draw) (c : Configuration) (inputs : List Value) (z : ℕ) (o : Leaf) → leaf_instant s seed draw c inputs o ≡ raise z → o ≡ ev.raised z
leaf-raised s seed draw c inputs z ev.vanish h = absurd (cc)
leaf-raised s seed draw c inputs z ev.nothing h = absurd (cc)
leaf-raised s seed draw c inputs z (ev.raised y) h = let e : y ≡ z = cc in ap (λ (x : ℕ). ev.raised x) e
leaf-raised s seed draw c inputs z (ev.faulty x) h = absurd (cc)
leaf-raised s seed draw c inputs z (ev.go f ls n) h = absurd (subst IsGoing h (going s seed draw c inputs f ls n))

leaf-faulty : (s : Scene) (seed : ℕ) (draw : rule.Draw) (c : Configuration) (inputs : List Value) (x : Arith) (o : Leaf) → leaf_instant s seed draw c inputs o ≡ fault x → o ≡ ev.faulty x
leaf-faulty s seed draw c inputs x ev.vanish h = absurd (cc)
leaf-faulty s seed draw c inputs x ev.nothing h = absurd (cc)
leaf-faulty s seed draw c inputs x (ev.raised z) h = absurd (cc)
leaf-faulty s seed draw c inputs x (ev.faulty y) h = let e : y ≡ x = cc in ap (λ (w : Arith). ev.faulty w) e
leaf-faulty s seed draw c inputs x (ev.go f ls n) h = absurd (subst IsGoing h (going s seed draw c inputs f ls n))

-- an instant that isn't too large, and no deadlock, takes a leaf
record TakesSome (s : Scene) (seed : ℕ) (draw : rule.Draw) (c : Configuration) (inputs : List Value) (i : Instant) : Type 0 where
  small : is_too_large s c ≡ false
  met : Met Formula (Process Expression)
  taken : taken_in s seed draw c inputs ≡ Some met
  leaf : leaf_instant s seed draw c inputs met.outlook ≡ i

takes-step : (s : Scene) (seed : ℕ) (draw : rule.Draw) (c : Configuration) (inputs : List Value) (i : Instant) → (i ≡ deadlock → ⊥) → is_too_large s c ≡ false → (r : Option (Met Formula (Process Expression))) → taken_in s seed draw c inputs ≡ r → taken_instant s seed draw c inputs r ≡ i → TakesSome s seed draw c inputs i
takes-step s seed draw c inputs i other small None e h = absurd (other (sym h))
takes-step s seed draw c inputs i other small (Some m) e h = record { small = small; met = m; taken = e; leaf = h }

takes : (s : Scene) (seed : ℕ) (draw : rule.Draw) (c : Configuration) (inputs : List Value) (i : Instant) → (i ≡ deadlock → ⊥) → (i ≡ too_large → ⊥) → instant_of s seed draw c inputs ≡ i → TakesSome s seed draw c inputs i
takes s seed draw c inputs i other small h =
    either (is_too_large s c)
    (λ t. absurd (let k : too_large ≡ i = rw t at h in small (sym k)))
    (λ t. takes-step s seed draw c inputs i other t (taken_in s seed draw c inputs) refl (rw t at h))

-- it offers a leaf
offers-leaf : DrawIsLegal → (s : Scene) (seed : ℕ) (draw : rule.Draw) (c : Configuration) (inputs : List Value) (m : Met Formula (Process Expression)) (o : Leaf) → taken_in s seed draw c inputs ≡ Some m → m.outlook ≡ o → MayTake s c inputs o
offers-leaf draws s seed draw c inputs m o taken is =
    let legal = rw taken at (draws s draw (words_of seed c) (judged s c inputs)) in
    (m.position, legal.2 ∙ ap (λ (x : Leaf). Some x) is, legal.1)

pub instants-end : DrawIsLegal → DeadlockMeansNoneLive → InstantsEnd
instants-end draws none s seed draw c inputs = record {
  over = λ h. let t = takes s seed draw c inputs normal (λ e. cc) (λ e. cc) h in (t.small, offers-leaf draws s seed draw c inputs t.met ev.vanish t.taken (leaf-normal s seed draw c inputs t.met.outlook t.leaf));
  raised = λ z h. let t = takes s seed draw c inputs (raise z) (λ e. cc) (λ e. cc) h in (t.small, (z, refl, offers-leaf draws s seed draw c inputs t.met (ev.raised z) t.taken (leaf-raised s seed draw c inputs z t.met.outlook t.leaf)));
  faulty = λ x h. let t = takes s seed draw c inputs (fault x) (λ e. cc) (λ e. cc) h in (t.small, offers-leaf draws s seed draw c inputs t.met (ev.faulty x) t.taken (leaf-faulty s seed draw c inputs x t.met.outlook t.leaf));
  stuck = λ h. let t = (none s seed draw c inputs).0 h in (t.0, t.1);
}

-- ---- runs

pub runs-reach : SolutionsPass → DrawIsLegal → RunsReach
runs-reach first draws s seed draw steps c od ld begun = follows.start
runs-reach first draws s seed draw steps c od ld (went_on before outs answer locs d next ran h) =
    follows.further before (record { outputs = outs; inputs = answer; locals = locs }) d next (runs-reach first draws s seed draw before d od ld ran) (instants-follow first draws s seed draw d next (follows.inputs_behind s before) outs answer locs od ld h)
