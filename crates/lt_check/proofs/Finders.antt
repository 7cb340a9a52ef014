-- What a search for instants keeps as more is unfolded.
use Rattle.std.proofs.Common.{◌≡◌, ◌<◌, ℕ, zero, suc, List, [], ◌∷◌, ◌++◌, map, ap, arith, refl, subst, sym}
use Rattle.std.specs.Prelude.{All}
use Rattle.std.proofs.lemmas.List.Elements.{All-append, All-weaker}
use Rattle.lt_term.specs.Unfolded.{going}
use Rattle.lt_term.specs.UnfoldingView.{Grows, instants_in}
use Rattle.lt_term.specs.declared.root.Later.{Later}
use Rattle.lt_term.specs.declared.unfolding.Unfolding.{Unfolding}
use Rattle.lt_term.proofs.Public.{instant-kept, tree-kept, within-kept}
use Rattle.lt_term.proofs.Unfoldings.{instants-more}
use Rattle.lt_instant.specs.declared.draw_context.DrawContext.{DrawContext}
use Rattle.lt_check.specs.declared.finder.Task.{Task}
use Rattle.lt_check.specs.declared.finder.Task.TheVariants as task
use Rattle.lt_check.specs.inner.FinderView.{IsFit, NumbersPass, TaskIsFit, leaves_in, todo_of, tree_in}
use Rattle.lt_check.specs.inner.QuestionView.{kinds_in}
use Rattle.lt_check.specs.inner.Visited.{check, right, visit}

pub only_one : {A : Type 0} (P : A → Type 0) (x : A) → P x → All P (x ∷ [])
only_one P x h zero d l = h
only_one P x h (suc k) d l = absurd (omega (arith, l))

pub one_behind : {A : Type 0} (P : A → Type 0) (xs new : List A) (x : A) → All P xs → P x → new ≡ xs ++ x ∷ [] → All P new
one_behind P xs new x h p e = subst (All P) (sym e) (All-append P xs (x ∷ []) h (only_one P x p))

front_of : {A : Type 0} (P : A → Type 0) (xs : List A) (x : A) → All P (xs ++ x ∷ []) → All P xs
front_of P [] x h k d l = absurd (omega (arith, l))
front_of P (y ∷ ys) x h zero d l = h 0 d (omega arith)
front_of P (y ∷ ys) x h (suc k) d l = front_of P ys x (λ j e n. h (suc j) e (omega (arith, n))) k d (omega (arith, l))

last_of : {A : Type 0} (P : A → Type 0) (xs : List A) (x : A) → All P (xs ++ x ∷ []) → P x
last_of P [] x h = h 0 x (omega arith)
last_of P (y ∷ ys) x h = last_of P ys x (λ j e n. h (suc j) e (omega (arith, n)))

-- the front of a list, and its last element
pub front : {A : Type 0} (P : A → Type 0) (xs all : List A) (x : A) → all ≡ xs ++ x ∷ [] → All P all → All P xs
front P xs all x e h = front_of P xs x (subst (All P) e h)

pub last : {A : Type 0} (P : A → Type 0) (xs all : List A) (x : A) → all ≡ xs ++ x ∷ [] → All P all → P x
last P xs all x e h = last_of P xs x (subst (All P) e h)

module _ (m : DrawContext) (a b : Unfolding) (g : Grows a b) where
  pub tree_kept : (l : Later) → IsFit m a l → tree_in m b l ≡ tree_in m a l
  tree_kept l f = tree-kept a b g (kinds_in m) l f.within

  pub fit_kept : (l : Later) → IsFit m a l → IsFit m b l
  fit_kept l f = record { within = within-kept a b g l f.within; passes = subst (NumbersPass m) (sym (tree_kept l f)) f.passes }

  pub fits_kept : (ls : List Later) → All (IsFit m a) ls → All (IsFit m b) ls
  fits_kept ls h = All-weaker (IsFit m a) (IsFit m b) fit_kept ls h

  pub trees_kept : (ls : List Later) → All (IsFit m a) ls → map (tree_in m b) ls ≡ map (tree_in m a) ls
  trees_kept [] h = refl
  trees_kept (l ∷ ls) h = λ i. tree_kept l (h 0 l (omega arith)) i ∷ trees_kept ls (λ k d n. h (suc k) d (omega (arith, n))) i

  pub task_kept : (t : Task) → TaskIsFit m a t → TaskIsFit m b t
  task_kept (task.Visit tree) f = fit_kept tree f
  task_kept (task.Right left r n) f = (fit_kept left f.0, fit_kept r f.1)
  task_kept (task.Check left n) f = fit_kept left f

  pub tasks_kept : (ts : List Task) → All (TaskIsFit m a) ts → All (TaskIsFit m b) ts
  tasks_kept ts h = All-weaker (TaskIsFit m a) (TaskIsFit m b) task_kept ts h

  pub todo_kept : (t : Task) → TaskIsFit m a t → todo_of m b t ≡ todo_of m a t
  todo_kept (task.Visit tree) f = ap visit (tree_kept tree f)
  todo_kept (task.Right left r n) f = λ i. right (tree_kept left f.0 i) (tree_kept r f.1 i) n
  todo_kept (task.Check left n) f = ap (λ t. check t n) (tree_kept left f)

  pub todos_kept : (ts : List Task) → All (TaskIsFit m a) ts → map (todo_of m b) ts ≡ map (todo_of m a) ts
  todos_kept [] h = refl
  todos_kept (t ∷ ts) h = λ i. todo_kept t (h 0 t (omega arith)) i ∷ todos_kept ts (λ k d n. h (suc k) d (omega (arith, n))) i

  pub found_kept : (ns : List ℕ) → All (λ n. n < instants_in a) ns → All (λ n. n < instants_in b) ns
  found_kept ns h = All-weaker (λ n. n < instants_in a) (λ n. n < instants_in b) (λ n l. let w = instants-more a b g in omega (arith, l, w)) ns h

  pub leaves_kept : (ns : List ℕ) → All (λ n. n < instants_in a) ns → leaves_in m b ns ≡ leaves_in m a ns
  leaves_kept [] h = refl
  leaves_kept (n ∷ ns) h = λ i. going (instant-kept a b g (kinds_in m) n (h 0 n (omega arith)) i) ∷ leaves_kept ns (λ k d l. h (suc k) d (omega (arith, l))) i
