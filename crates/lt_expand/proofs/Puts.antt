-- Traces are put as terms, part by part.
use Rattle.std.proofs.Common.{◌≡◌, ℕ, true, nat_lt, List, length, Vec, Global, refl, ap, sym, ◌∙◌, subst}
use Rattle.std.proofs.lemmas.Bool.{lt-ltb}
use Rattle.std.proofs.lemmas.List.{append-nil}
use Rattle.lt_formula.specs.Table.{IsNumber}
use Rattle.lt_formula.specs.View.{table_expressions, table_kinds}
use Rattle.lt_formula.specs.declared.table.Table.{Table}
use Rattle.lt_macros.specs.Expanded as x
use Rattle.lt_macros.specs.Expanded.{Bounds, Declared, Exception, Expanded}
use Rattle.lt_macros.specs.Placed.{Placed, bare}
use Rattle.lt_term.proofs.Public.{both, process_any}
use Rattle.lt_term.specs.Named.{parts_in, with_parts}
use Rattle.lt_term.specs.Process.{Process, eps, dead, con, raise, seq, loop, count, any, pri, par, assert, exist, catch, try}
use Rattle.lt_term.specs.View.{choices, process}
use Rattle.lt_term.specs.declared.last.Last.TheVariants.{First}
use Rattle.lt_term.specs.declared.term.Term.{Term, Any}
use Rattle.lt_expand.specs.Exceptions.{number_in}
use Rattle.lt_expand.specs.Scenes.{process_of}
use Rattle.lt_expand.specs.inner.Put.{AreChoices, IsFilled, IsGrown, IsPut, parts_in_each}
use Rattle.lt_expand.specs.inner.Ready.{AreReady, IsKnown}
use Rattle.lt_expand.proofs.Filled.{filled_both, filled_none, two_filled}
use Rattle.lt_expand.proofs.Grown.{grown_alone, grown_both, number_kept, term_kept}

-- the same trace is put
pub same_put : (old new : Table) (zs : List Exception) (t u : Expanded) (p : Process ℕ) → t ≡ u → IsPut old new zs u p → IsPut old new zs t p
same_put old new zs t u p is h = subst (λ v. IsPut old new zs v p) (sym is) h

-- what is ready stays so when the table grows
pub ready_still : (old new : Table) (zs : List Exception) (t : Expanded) → IsGrown old new → AreReady (table_kinds old) zs t → AreReady (table_kinds new) zs t
ready_still old new zs t g h = subst (λ ks. AreReady ks zs t) (sym g.kinds) h

-- NO PARTS

pub eps_put : (a : Table) (zs : List Exception) → IsPut a a zs x.eps eps
eps_put a zs = record { term = record { spells = refl; within = refl }; grown = grown_alone a; filled = filled_none (table_expressions a) }

pub dead_put : (a : Table) (zs : List Exception) → IsPut a a zs x.dead dead
dead_put a zs = record { term = record { spells = refl; within = refl }; grown = grown_alone a; filled = filled_none (table_expressions a) }

-- the number of an exception is one of those
number_there : (zs : List Exception) (z : Exception) (n : ℕ) → n ≡ number_in zs z → IsKnown zs z → nat_lt n (length zs) ≡ true
number_there zs z n is known = ap (λ m. nat_lt m (length zs)) is ∙ lt-ltb (number_in zs z) (length zs) known.there

pub raise_put : (a : Table) (zs : List Exception) (z : Exception) (n : ℕ) → n ≡ number_in zs z → IsKnown zs z → IsPut a a zs (x.raise z) (raise n)
raise_put a zs z n is known = record {
  term = record { spells = ap raise is; within = number_there zs z n is known };
  grown = grown_alone a;
  filled = filled_none (table_expressions a);
}

pub con_put : (old new : Table) (zs : List Exception) (e : Placed) (n : ℕ) → IsNumber (table_expressions new) n (bare e) → IsGrown old new
    → IsFilled (table_expressions old) (table_expressions new) (with_parts (bare e)) → IsPut old new zs (x.con e) (con n)
con_put old new zs e n number grown filled = record {
  term = record { spells = ap con number.spells; within = lt-ltb n (length (table_expressions new)) number.within };
  grown = grown;
  filled = subst (IsFilled (table_expressions old) (table_expressions new)) (sym (append-nil (with_parts (bare e)))) filled;
}

-- ONE PART

pub loop_put : (old new : Table) (zs : List Exception) (a : Expanded) (p : Process ℕ) → IsPut old new zs a p → IsPut old new zs (x.loop a) (loop p)
loop_put old new zs a p h = record { term = record { spells = ap loop h.term.spells; within = h.term.within }; grown = h.grown; filled = h.filled }

pub count_put : (old new : Table) (zs : List Exception) (i : ℕ) (b : Bounds) (a : Expanded) (p : Process ℕ) → IsPut old new zs a p → IsPut old new zs (x.count i b a) (count i 0 p)
count_put old new zs i b a p h = record { term = record { spells = ap (count i 0) h.term.spells; within = h.term.within }; grown = h.grown; filled = h.filled }

pub exist_put : (old new : Table) (zs : List Exception) (i : ℕ) (d : Declared) (a : Expanded) (p : Process ℕ) → IsPut old new zs a p → IsPut old new zs (x.exist i d a) (exist i First p)
exist_put old new zs i d a p h = record { term = record { spells = ap (exist i First) h.term.spells; within = h.term.within }; grown = h.grown; filled = h.filled }

-- a constraint comes before the trace
pub assert_put : (old mid new : Table) (zs : List Exception) (e : Placed) (n : ℕ) (a : Expanded) (p : Process ℕ) → IsNumber (table_expressions mid) n (bare e) → IsGrown old mid
    → IsFilled (table_expressions old) (table_expressions mid) (with_parts (bare e)) → IsPut mid new zs a p → IsPut old new zs (x.assert e a) (assert n p)
assert_put old mid new zs e n a p number grown filled h =
    let kept = number_kept (table_expressions mid) (table_expressions new) n (bare e) h.grown.keeps number in
    record {
      term = record {
        spells = λ i. assert (kept.spells i) (h.term.spells i);
        within = both _ _ (lt-ltb n (length (table_expressions new)) kept.within) h.term.within;
      };
      grown = grown_both old mid new grown h.grown;
      filled =
          filled_both (table_expressions old) (table_expressions mid) (table_expressions new) (with_parts (bare e)) (parts_in (process_of zs a)) filled h.filled;
    }

-- TWO PARTS

pub seq_put : (old mid new : Table) (zs : List Exception) (a b : Expanded) (p q : Process ℕ) → IsPut old mid zs a p → IsPut mid new zs b q → IsPut old new zs (x.seq a b) (seq p q)
seq_put old mid new zs a b p q h g =
    let first = term_kept (table_expressions mid) (table_expressions new) zs a p g.grown.keeps h.term in
    record {
      term = record { spells = λ i. seq (first.spells i) (g.term.spells i); within = both _ _ first.within g.term.within };
      grown = grown_both old mid new h.grown g.grown;
      filled = two_filled (table_expressions old) (table_expressions mid) (table_expressions new) zs a b h.filled g.filled;
    }

pub pri_put : (old mid new : Table) (zs : List Exception) (a b : Expanded) (p q : Process ℕ) → IsPut old mid zs a p → IsPut mid new zs b q → IsPut old new zs (x.pri a b) (pri p q)
pri_put old mid new zs a b p q h g =
    let first = term_kept (table_expressions mid) (table_expressions new) zs a p g.grown.keeps h.term in
    record {
      term = record { spells = λ i. pri (first.spells i) (g.term.spells i); within = both _ _ first.within g.term.within };
      grown = grown_both old mid new h.grown g.grown;
      filled = two_filled (table_expressions old) (table_expressions mid) (table_expressions new) zs a b h.filled g.filled;
    }

pub par_put : (old mid new : Table) (zs : List Exception) (a b : Expanded) (p q : Process ℕ) → IsPut old mid zs a p → IsPut mid new zs b q → IsPut old new zs (x.par a b) (par p q)
par_put old mid new zs a b p q h g =
    let first = term_kept (table_expressions mid) (table_expressions new) zs a p g.grown.keeps h.term in
    record {
      term = record { spells = λ i. par (first.spells i) (g.term.spells i); within = both _ _ first.within g.term.within };
      grown = grown_both old mid new h.grown g.grown;
      filled = two_filled (table_expressions old) (table_expressions mid) (table_expressions new) zs a b h.filled g.filled;
    }

pub try_put : (old mid new : Table) (zs : List Exception) (a b : Expanded) (p q : Process ℕ) → IsPut old mid zs a p → IsPut mid new zs b q → IsPut old new zs (x.try a b) (try p q)
try_put old mid new zs a b p q h g =
    let first = term_kept (table_expressions mid) (table_expressions new) zs a p g.grown.keeps h.term in
    record {
      term = record { spells = λ i. try (first.spells i) (g.term.spells i); within = both _ _ first.within g.term.within };
      grown = grown_both old mid new h.grown g.grown;
      filled = two_filled (table_expressions old) (table_expressions mid) (table_expressions new) zs a b h.filled g.filled;
    }

pub catch_put : (old mid new : Table) (zs : List Exception) (z : Exception) (n : ℕ) (a b : Expanded) (p q : Process ℕ) → n ≡ number_in zs z → IsKnown zs z
    → IsPut old mid zs a p → IsPut mid new zs b q → IsPut old new zs (x.catch z a b) (catch n p q)
catch_put old mid new zs z n a b p q is known h g =
    let first = term_kept (table_expressions mid) (table_expressions new) zs a p g.grown.keeps h.term in
    record {
      term = record {
        spells = λ i. catch (is i) (first.spells i) (g.term.spells i);
        within = both _ _ (number_there zs z n is known) (both _ _ first.within g.term.within);
      };
      grown = grown_both old mid new h.grown g.grown;
      filled = two_filled (table_expressions old) (table_expressions mid) (table_expressions new) zs a b h.filled g.filled;
    }

-- ALTERNATIVES

pub any_put : (old new : Table) (zs : List Exception) (ps : x.Parts) (v : Vec (ℕ × Term) Global) → AreChoices (table_expressions new) zs ps (choices v.items) → IsGrown old new
    → IsFilled (table_expressions old) (table_expressions new) (parts_in_each zs ps) → IsPut old new zs (x.any ps) (process (Any v))
any_put old new zs ps v h grown filled =
    subst (IsPut old new zs (x.any ps)) (sym (process_any v))
    (record { term = record { spells = ap any h.spells; within = h.within }; grown = grown; filled = filled })
