use Rattle.std.proofs.Common.{◌≡◌, ◌≤◌, ◌∷◌, length, reverse, ap, sym, subst, ◌∙◌, arith}
use Rattle.std.proofs.Math.Nat.{le-max_left, le-max_right}
use Rattle.lt_macros.specs.inner.Counting.{AreWithin, pending_figure}
use Rattle.lt_macros.specs.inner.Numbers.{numbers_view}
use Rattle.lt_macros.specs.inner.Rows.{rows}
use Rattle.lt_macros.proofs.Adding.{adds_both}
use Rattle.lt_macros.proofs.Waiting.{cut_adds, part_within, pending_kept, popped, turned, within_least, within_lower, within_more}
use Rattle.lt_macros.proofs.counting.run.Goals as goal

pub take-requires-clause-within : goal.take-requires-clause-within
take-requires-clause-within c =
    let p = c.in-Some.pending in
    let rest = c.pop.new.self.items in
    let was = popped c.args.base (length (rows c.turns.scope)) c.turns.count.left.items rest p c.in-Some.ensures.items c.turns.invariant.within in
    let enough : c.len_of_left.result ≤ length (rows c.truncate.new.self) = omega (arith, c.max-len.ensures, le-max_right c.own_len.result c.len_of_left.result, c.truncate.ensures.len) in
    within_lower c.args.base 0 (length (rows c.truncate.new.self)) (reverse rest) (omega arith)
    (within_more c.args.base c.len_of_left.result (length (rows c.truncate.new.self)) (reverse rest) enough (c.len_of_left.ensures p.at.len was.1.1.1).1)

pub turns-preserved : goal.turns-preserved
turns-preserved c =
    let p = c.in-Some.pending in
    let base = c.args.base in
    let items = c.turns.count.left.items in
    let rest = c.pop.new.self.items in
    let old = rows c.turns.scope in
    let cut = rows c.truncate.new.self in
    let n = numbers_view c.turns.count.numbers in
    let own = c.own_len.result in
    let others = c.len_of_left.result in
    let len = c.max-len.result in
    let was = popped base (length old) items rest p c.in-Some.ensures.items c.turns.invariant.within in
    let behind : AreWithin base others (reverse rest) = (c.len_of_left.ensures p.at.len was.1.1.1).1 in
    let first : own ≤ len = omega (arith, c.max-len.ensures, le-max_left own others) in
    let second : others ≤ len = omega (arith, c.max-len.ensures, le-max_right own others) in
    let is : length cut ≡ len = c.truncate.ensures.len in
    let there : AreWithin base len (reverse rest) = within_more base others len (reverse rest) second behind in
    let whole : AreWithin base (length cut) (record p { at = record p.at { len = len } } ∷ reverse rest) =
    subst (λ k. AreWithin base k (record p { at = record p.at { len = len } } ∷ reverse rest)) (sym is) (part_within base own others len p (reverse rest) first second c.own_len.ensures.environment c.own_len.ensures.left behind) in
    record {
      figures = λ decimals f.
          let kept : pending_figure decimals old f (p ∷ reverse rest) n ≡ pending_figure decimals cut f (p ∷ reverse rest) n =
          pending_kept decimals cut old f base (record p { at = record p.at { len = len } } ∷ reverse rest) n c.truncate.ensures.adds whole in
          let taken = ap (λ ps. pending_figure decimals old f ps n) (ap reverse c.in-Some.ensures.items ∙ turned rest p) in
          omega (arith, c.in_ok-take.ensures.figures decimals f, kept, taken, c.turns.invariant.figures decimals f);
      within = c.in_ok-take.ensures.within base (subst (λ k. AreWithin base k (reverse rest)) (sym is) there);
      kept = λ oldest same a.
          let least : length oldest ≤ length cut = omega (arith, same, is, within_least base len (reverse rest) there) in
          adds_both oldest cut (rows c.take.new.scope) (cut_adds oldest old cut (c.turns.invariant.kept oldest same a) c.truncate.ensures.adds least) c.in_ok-take.ensures.adds;
      right = c.in_ok-take.ensures.right;
    }
