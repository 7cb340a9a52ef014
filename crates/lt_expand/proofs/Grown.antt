-- Terms over a table that grows, and the alternatives that are put one by one.
use Rattle.std.proofs.Common.{◌≡◌, ℕ, zero, suc, ◌+◌, ◌<◌, ◌≤◌, true, ◌&&◌, List, [], ◌∷◌, ◌++◌, length, take, get_or, refl, ap, sym, ◌∙◌, subst, arith}
use mathlib.Core.Former.{Count}
use Rattle.std.proofs.lemmas.Bool.{lt-ltb}
use Rattle.std.proofs.lemmas.List.{take_all, take_more}
use Rattle.lt_formula.specs.Expression.{Expression}
use Rattle.lt_formula.specs.Kinds.{Kinds}
use Rattle.lt_formula.specs.Table.{IsNumber, Keeps, spelled}
use Rattle.lt_formula.specs.declared.table.Table.{Table}
use Rattle.lt_macros.specs.Expanded as x
use Rattle.lt_macros.specs.Expanded.{Exception, Expanded}
use Rattle.lt_macros.specs.Placed.{bare}
use Rattle.lt_macros.specs.Tree.{expanded, part_row, parts, placed}
use Rattle.lt_macros.specs.declared.tree.Part.{Part}
use Rattle.lt_macros.specs.declared.tree.Parts.{Parts, Parts', out-Parts, Row_of-Part, end_of-Part, more_of-Part, items-the_row-Part, items_shown-the_row-Part-0}
use Rattle.lt_macros.specs.declared.tree.Expanded.TheBlock.{shown-the_row-Part-0}
use denote.Hole.Carrier.{out}
use Rattle.lt_term.proofs.Public.{both, left_of, right_of}
use Rattle.lt_term.specs.Process.{Process, Choices, no_choice, choice, choices_with_constraints, with_constraints}
use Rattle.lt_term.specs.View.{choices, process}
use Rattle.lt_term.specs.Within.{Tests, passes, each_passes}
use Rattle.lt_term.specs.declared.term.Term.{Term}
use Rattle.lt_expand.specs.Scenes.{choices_of, process_of}
use Rattle.lt_expand.specs.inner.Put.{AreChoices, IsGrown, IsTerm, among, parts_from}
use Rattle.lt_expand.specs.inner.Ready.{AreEachReady, AreReady, IsReady}
use Rattle.lt_expand.proofs.Spelled.{choices_kept, each_kept, spelled_kept, within_kept}

-- A table that grows twice has grown.

keeps_both : (a b c : List Expression) → Keeps a b → Keeps b c → Keeps a c
keeps_both a b c g h = let k = g.more in let l = h.more in record { more = omega arith; same = λ n w. h.same n (omega (arith, k, w)) ∙ g.same n w }

pub grown_both : (a b c : Table) → IsGrown a b → IsGrown b c → IsGrown a c
grown_both a b c g h = record { keeps = keeps_both _ _ _ g.keeps h.keeps; kinds = h.kinds ∙ g.kinds }

pub grown_alone : (a : Table) → IsGrown a a
grown_alone a = record { keeps = record { more = omega arith; same = λ n w. refl }; kinds = refl }

-- What is put stays.

pub term_kept : (es new : List Expression) (zs : List Exception) (t : Expanded) (p : Process ℕ) → Keeps es new → IsTerm es zs t p → IsTerm new zs t p
term_kept es new zs t p k h = record {
  spells = spelled_kept es new (length zs) p k h.within ∙ h.spells;
  within = within_kept (length es) (length new) (length zs) p k.more h.within;
}

choices_stay : (es new : List Expression) (zs : List Exception) (ps : x.Parts) (cs : Choices ℕ) → Keeps es new → AreChoices es zs ps cs → AreChoices new zs ps cs
choices_stay es new zs ps cs k h = record {
  spells = choices_kept es new (length zs) cs k h.within ∙ h.spells;
  within = each_kept (length es) (length new) (length zs) cs k.more h.within;
}

-- Alternatives.

row_listed : {n : Count} (k : Row_of-Part n) → part_row k ≡ parts_from (items-the_row-Part n k)
row_listed end_of-Part = refl
row_listed (more_of-Part w p a rest) = ap (λ ps. x.part (placed w) (expanded a) ps) (row_listed rest)

-- alternatives are a list of the code
pub parts_listed : (p : Parts) → parts p ≡ parts_from (out-Parts p).items.items
unfolding out-Parts out shown-the_row-Part-0
parts_listed (Parts' shape row) = row_listed row ∙ ap parts_from (sym (items_shown-the_row-Part-0 shape row))

each_ready_at : (ks : Kinds) (zs : List Exception) (ps : List Part) (i : ℕ) (d : Part) → i < length ps → AreEachReady ks zs (parts_from ps)
    → IsReady ks (placed (get_or ps i d).weight) × AreReady ks zs (expanded (get_or ps i d).body.value)
each_ready_at ks zs [] i d l h = absurd (omega arith)
each_ready_at ks zs (p ∷ ps) zero d l h = (h.0, h.1.0)
each_ready_at ks zs (p ∷ ps) (suc i) d l h = each_ready_at ks zs ps i d (omega arith) h.1.1

-- an alternative is ready
pub part_ready : (ks ls : Kinds) (zs : List Exception) (p : Parts) (ps : List Part) (i : ℕ) (d : Part) → ps ≡ (out-Parts p).items.items → i < length ps → d ≡ get_or ps i d → ls ≡ ks
    → AreEachReady ks zs (parts p)
    → IsReady ls (placed d.weight) × AreReady ls zs (expanded d.body.value)
part_ready ks ls zs p ps i d listed l is same h =
    let each : AreEachReady ks zs (parts_from ps) = subst (AreEachReady ks zs) (parts_listed p ∙ ap parts_from (sym listed)) h in
    let at = each_ready_at ks zs ps i d l each in
    subst (λ k. IsReady k (placed d.weight) × AreReady k zs (expanded d.body.value)) (sym same)
    (subst (λ q. IsReady ks (placed q.weight) × AreReady ks zs (expanded q.body.value)) (sym is) at)

-- one more choice behind others
abbrev with_last : {C : Type 0} → Choices C → C → Process C → Choices C
with_last no_choice w p = choice w p no_choice
with_last (choice v q cs) w p = choice v q (with_last cs w p)

spelled_last : (f : ℕ → Expression) (cs : List (ℕ × Term)) (w : ℕ) (t : Term)
    → choices_with_constraints f (choices (cs ++ (w, t) ∷ [])) ≡ with_last (choices_with_constraints f (choices cs)) (f w) (with_constraints f (process t))
spelled_last f [] w t = refl
spelled_last f (c ∷ cs) w t = ap (choice (f c.0) (with_constraints f (process c.1))) (spelled_last f cs w t)

listed_last : (zs : List Exception) (ps : List Part) (d : Part)
    → choices_of zs (parts_from (ps ++ d ∷ [])) ≡ with_last (choices_of zs (parts_from ps)) (bare (placed d.weight)) (process_of zs (expanded d.body.value))
listed_last zs [] d = refl
listed_last zs (p ∷ ps) d = ap (choice (bare (placed p.weight)) (process_of zs (expanded p.body.value))) (listed_last zs ps d)

within_last : (ts : Tests ℕ) (cs : List (ℕ × Term)) (w : ℕ) (t : Term) → ts.constraint w ≡ true → passes ts (process t) ≡ true → each_passes ts (choices cs) ≡ true
    → each_passes ts (choices (cs ++ (w, t) ∷ [])) ≡ true
within_last ts [] w t g h k = both _ _ g (both _ true h refl)
within_last ts (c ∷ cs) w t g h k =
    let rest = right_of (ts.constraint c.0) (passes ts (process c.1) && each_passes ts (choices cs)) k in
    both _ _ (left_of (ts.constraint c.0) (passes ts (process c.1) && each_passes ts (choices cs)) k)
    (both _ _ (left_of (passes ts (process c.1)) (each_passes ts (choices cs)) rest) (within_last ts cs w t g h (right_of (passes ts (process c.1)) (each_passes ts (choices cs)) rest)))

last_put : (es : List Expression) (zs : List Exception) (ps : List Part) (cs : List (ℕ × Term)) (d : Part) (w : ℕ) (t : Term)
    → AreChoices es zs (parts_from ps) (choices cs) → IsNumber es w (bare (placed d.weight)) → IsTerm es zs (expanded d.body.value) (process t)
    → AreChoices es zs (parts_from (ps ++ d ∷ [])) (choices (cs ++ (w, t) ∷ []))
last_put es zs ps cs d w t h n p = record {
  spells =
      spelled_last (spelled es) cs w t
      ∙ (λ i. with_last (h.spells i) (n.spells i) (p.spells i))
      ∙ sym (listed_last zs ps d);
  within = within_last (among (length es) (length zs)) cs w t (lt-ltb w (length es) n.within) p.within h.within;
}

pub number_kept : (es new : List Expression) (n : ℕ) (e : Expression) → Keeps es new → IsNumber es n e → IsNumber new n e
number_kept es new n e k h = let l = k.more in let w = h.within in record { within = omega arith; spells = k.same n h.within ∙ h.spells }

-- where none is put yet
pub none_put : (es : List Expression) (zs : List Exception) (cs : List (ℕ × Term)) → cs ≡ [] → AreChoices es zs x.no_part (choices cs)
none_put es zs cs e = subst (λ ds. AreChoices es zs x.no_part (choices ds)) (sym e) (record { spells = refl; within = refl })

-- one more alternative is put
pub alternative_put : (old mid new : List Expression) (zs : List Exception) (ps : List Part) (i : ℕ) (d : Part) (cs ds : List (ℕ × Term)) (w : ℕ) (t : Term) → i < length ps → d ≡ get_or ps i d
    → Keeps old mid → Keeps mid new
    → AreChoices old zs (parts_from (take i ps)) (choices cs) → IsNumber mid w (bare (placed d.weight)) → IsTerm new zs (expanded d.body.value) (process t) → ds ≡ cs ++ (w, t) ∷ []
    → AreChoices new zs (parts_from (take (i + 1) ps)) (choices ds)
alternative_put old mid new zs ps i d cs ds w t l is g h c n p e =
    let more : take (i + 1) ps ≡ take i ps ++ d ∷ [] = take_more ps i d l ∙ ap (λ y. take i ps ++ y ∷ []) (sym is) in
    let put = last_put new zs (take i ps) cs d w t (choices_stay old new zs _ _ (keeps_both old mid new g h) c) (number_kept mid new w _ h n) p in
    subst (λ qs. AreChoices new zs (parts_from qs) (choices ds)) (sym more) (subst (λ bs. AreChoices new zs (parts_from (take i ps ++ d ∷ [])) (choices bs)) (sym e) put)

-- all of them are
pub alternatives_put : (es : List Expression) (zs : List Exception) (p : Parts) (ps : List Part) (i : ℕ) (cs : List (ℕ × Term)) → ps ≡ (out-Parts p).items.items → length ps ≤ i
    → AreChoices es zs (parts_from (take i ps)) (choices cs) → AreChoices es zs (parts p) (choices cs)
alternatives_put es zs p ps i cs listed l h =
    subst (λ q. AreChoices es zs q (choices cs)) (ap parts_from (take_all i ps l ∙ listed) ∙ sym (parts_listed p)) h
