-- The arguments of runs, as they are put into tables.
use Rattle.std.proofs.Common.{◌≡◌, ℕ, ◌+◌, ◌<◌, ◌≤◌, List, [], ◌∷◌, ◌++◌, map, length, take, get_or, refl, sym, ap, ◌∙◌, subst, arith}
use Rattle.std.specs.List.{All, AllByRecursion}
use Rattle.std.proofs.lemmas.List.{map-append}
use Rattle.std.proofs.lemmas.List.Elements.{All-append, All-from_recursion}
use Rattle.lt_formula.specs.Table.{IsNumber, Keeps, spelled}
use Rattle.lt_formula.specs.View.{table_expressions, table_kinds, table_len}
use Rattle.lt_formula.specs.Expression.{Expression}
use Rattle.lt_formula.specs.declared.table.Table.{Table}
use Rattle.lt_macros.specs.Expanded.{Node}
use Rattle.lt_macros.specs.Placed.{bare}
use Rattle.lt_macros.specs.Tree.{call, placed}
use Rattle.lt_macros.specs.declared.tree.Call as run
use Rattle.lt_macros.specs.declared.tree.Placed as written
use Rattle.lt_expand.specs.Calls.{IsOver, call_of, call_view}
use Rattle.lt_expand.specs.Classes.{kinds_of}
use Rattle.lt_expand.specs.declared.calls.Call as code
use Rattle.lt_expand.specs.inner.Put.{IsGrown}
use Rattle.lt_expand.proofs.Preorders.{taken}
use Rattle.lt_expand.proofs.Sizes.{length-entries}

-- The numbers of these arguments in a table that has grown.
pub record IsGiven (old new : Table) (given : List written.Placed) (numbers : List ℕ) : Type 0 where
  pub spells : map (spelled (table_expressions new)) numbers ≡ map bare (map placed given)
  pub there : AllByRecursion (λ n. n < length (table_expressions new)) numbers
  pub kinds : table_kinds new ≡ table_kinds old

-- what is there stays there, and spells the same
still_there : (es fs : List Expression) (ns : List ℕ) → Keeps es fs → AllByRecursion (λ n. n < length es) ns → AllByRecursion (λ n. n < length fs) ns
still_there es fs [] k h = tt
still_there es fs (n ∷ ns) k h = let l = h.0 in let m = k.more in (omega (arith, l, m), still_there es fs ns k h.1)

still_spells : (es fs : List Expression) (ns : List ℕ) → Keeps es fs → AllByRecursion (λ n. n < length es) ns → map (spelled fs) ns ≡ map (spelled es) ns
still_spells es fs [] k h = refl
still_spells es fs (n ∷ ns) k h = λ i. k.same n h.0 i ∷ still_spells es fs ns k h.1 i

there_more : (k : ℕ) (ns : List ℕ) (n : ℕ) → AllByRecursion (λ m. m < k) ns → n < k → AllByRecursion (λ m. m < k) (ns ++ n ∷ [])
there_more k [] n h l = (l, tt)
there_more k (m ∷ ns) n h l = (h.0, there_more k ns n h.1 l)

pub given_start : (table : Table) (numbers : List ℕ) → numbers ≡ [] → IsGiven table table [] numbers
given_start table numbers e = record {
  spells = ap (map (spelled (table_expressions table))) e;
  there = subst (AllByRecursion (λ n. n < length (table_expressions table))) (sym e) tt;
  kinds = refl;
}

-- one argument more
pub given_more : (old mid new : Table) (ws : List written.Placed) (i : ℕ) (w : written.Placed) (ns ms : List ℕ) (n : ℕ) → i < length ws → w ≡ get_or ws i w → IsGiven old mid (take i ws) ns → IsGrown mid new
    → IsNumber (table_expressions new) n (bare (placed w)) → ms ≡ ns ++ n ∷ [] → IsGiven old new (take (i + 1) ws) ms
given_more old mid new ws i w ns ms n l is h grown number e = record {
  spells =
      ap (map (spelled (table_expressions new))) e
      ∙ map-append (spelled (table_expressions new)) ns (n ∷ [])
      ∙ (λ j. (still_spells (table_expressions mid) (table_expressions new) ns grown.keeps h.there ∙ h.spells) j ++ number.spells j ∷ [])
      ∙ sym (ap (map bare) (taken placed ws i w l is) ∙ map-append bare (map placed (take i ws)) (placed w ∷ []));
  there =
      subst (AllByRecursion (λ m. m < length (table_expressions new))) (sym e)
      (there_more (length (table_expressions new)) ns n (still_there (table_expressions mid) (table_expressions new) ns grown.keeps h.there) number.within);
  kinds = grown.kinds ∙ h.kinds;
}

-- all of them
pub given_there : (table : Table) (ns : List ℕ) → AllByRecursion (λ n. n < length (table_expressions table)) ns → All (λ n. n < table_len table) ns
given_there table ns h =
    All-from_recursion (λ n. n < table_len table) ns (subst (λ k. AllByRecursion (λ n. n < k) ns) (length-entries table.nodes.entries) h)

-- Runs of a node that are put.
pub record AreGiven (node : Node) (runs : List run.Call) (made : List code.Call) : Type 0 where
  pub calls : map call_view made ≡ map call_of (map call runs)
  pub over : All (IsOver (kinds_of node)) made

pub runs_start : (node : Node) (made : List code.Call) → made ≡ [] → AreGiven node [] made
runs_start node made e = record {
  calls = ap (map call_view) e;
  over = subst (All (IsOver (kinds_of node))) (sym e) (All-from_recursion (IsOver (kinds_of node)) [] tt);
}

one_of : {X : Type 0} (P : X → Type 0) (x : X) → P x → All P (x ∷ [])
one_of P x h = All-from_recursion P (x ∷ []) (h, tt)

-- one run more
pub runs_more : (node : Node) (runs : List run.Call) (i : ℕ) (r : run.Call) (old new : List code.Call) (c : code.Call) → i < length runs → r ≡ get_or runs i r → AreGiven node (take i runs) old
    → call_view c ≡ call_of (call r) → IsOver (kinds_of node) c → new ≡ old ++ c ∷ [] → AreGiven node (take (i + 1) runs) new
runs_more node runs i r old new c l is h view over e = record {
  calls =
      ap (map call_view) e
      ∙ map-append call_view old (c ∷ [])
      ∙ (λ j. h.calls j ++ view j ∷ [])
      ∙ sym (ap (map call_of) (taken call runs i r l is) ∙ map-append call_of (map call (take i runs)) (call r ∷ []));
  over = subst (All (IsOver (kinds_of node))) (sym e) (All-append (IsOver (kinds_of node)) old (c ∷ []) h.over (one_of (IsOver (kinds_of node)) c over));
}
