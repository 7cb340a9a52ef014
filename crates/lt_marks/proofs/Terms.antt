-- What tracks offer, by their marks.
use Rattle.std.proofs.Common.{◌≡◌, ℕ, List, [], Bool, true, false, if◌then◌else◌, refl, ap, sym, ◌∙◌}
use Rattle.lt_num.specs.declared.kind.Kind.{Kind}
use Rattle.lt_term.specs.declared.last.Last.{Last}
use Rattle.lt_term.specs.declared.last.Last.TheVariants as last
use Rattle.lt_term.specs.Offers.{start_of, in_seq, in_par, in_assert, in_exist, in_catch, in_try, offers_of, offers_of_each}
use Rattle.lt_term.specs.Process.{Process, eps, con, seq, loop, count, any, pri, par, assert, exist, catch, try, Choices}
use Rattle.lt_term.specs.Tree.{ordered, weighted, with_leaves, with_local}
use Rattle.lt_marks.specs.Marks.{marked, is_new, are_new, is_outside, last_of, con_at, seq_at, loop_at, count_at, any_at, pri_at, par_at, assert_at, exist_at, catch_at, try_at}
use Rattle.lt_marks.specs.Over.{is_over}
use Rattle.lt_marks.specs.View.{body, standing, begun}
use Rattle.lt_marks.specs.declared.track.Mark.{Mark}
use Rattle.lt_marks.specs.declared.track.Mark.TheVariants as mark
use Rattle.lt_marks.specs.declared.track.Track.{Track}
use Rattle.lt_marks.proofs.Rules.{followed_by-offers, beside-offers, asserting-offers, with_scope-offers, catching-offers, trying-offers, trying_over}

-- what is still to be done in a term, by its mark, or what is to be done from its beginning
pub begun_is : (f : Bool) (t : Track) (at m : Mark) (F : Mark → Process ℕ) → m ≡ marked f at → standing t ≡ F at → body t ≡ F mark.Fresh → begun f t ≡ F m
begun_is true t at m F e s b = b ∙ ap F (sym e)
begun_is false t at m F e s b = s ∙ ap F (sym e)

module _ (k : List Kind) where
  abbrev part : Bool → Process ℕ → Process ℕ → Process ℕ
  part new a x = if new then a else x

  -- of parts that begin anew, or not
  seq_by : (m : Mark) (a b x y : Process ℕ) → (m ≡ mark.Second → ⊥) → offers_of k (seq_at m a b x y) ≡ with_leaves (in_seq b (offers_of k b)) (offers_of k (part (is_new m) a x))
  seq_by mark.Fresh a b x y n = refl
  seq_by mark.Over a b x y n = refl
  seq_by mark.Inside a b x y n = followed_by-offers k x b
  seq_by mark.Second a b x y n = absurd (n refl)
  seq_by mark.Both a b x y n = refl
  seq_by (mark.Chosen j) a b x y n = refl
  seq_by (mark.Counted d) a b x y n = refl
  seq_by (mark.Scoped v) a b x y n = refl

  pub seq_tree : (m : Mark) (new : Bool) (a b x y : Process ℕ) → (m ≡ mark.Second → ⊥) → new ≡ is_new m → offers_of k (seq_at m a b x y) ≡ with_leaves (in_seq b (offers_of k b)) (offers_of k (part new a x))
  seq_tree m new a b x y n e = seq_by m a b x y n ∙ ap (λ f. with_leaves (in_seq b (offers_of k b)) (offers_of k (part f a x))) (sym e)

  pub loop_new : (m : Mark) (t x : Process ℕ) → (m ≡ mark.Inside → ⊥) → loop_at m t x ≡ loop t
  loop_new mark.Fresh t x n = refl
  loop_new mark.Over t x n = refl
  loop_new mark.Inside t x n = absurd (n refl)
  loop_new mark.Second t x n = refl
  loop_new mark.Both t x n = refl
  loop_new (mark.Chosen j) t x n = refl
  loop_new (mark.Counted d) t x n = refl
  loop_new (mark.Scoped v) t x n = refl

  pub count_new : (m : Mark) (i : ℕ) (t x : Process ℕ) → ((d : ℕ) → m ≡ mark.Counted d → ⊥) → count_at m i t x ≡ count i 0 t
  count_new mark.Fresh i t x n = refl
  count_new mark.Over i t x n = refl
  count_new mark.Inside i t x n = refl
  count_new mark.Second i t x n = refl
  count_new mark.Both i t x n = refl
  count_new (mark.Chosen j) i t x n = refl
  count_new (mark.Counted d) i t x n = absurd (n d refl)
  count_new (mark.Scoped v) i t x n = refl

  pub any_new : (m : Mark) (cs : Choices ℕ) (xs : List (Process ℕ)) → ((j : ℕ) → m ≡ mark.Chosen j → ⊥) → any_at m cs xs ≡ any cs
  any_new mark.Fresh cs xs n = refl
  any_new mark.Over cs xs n = refl
  any_new mark.Inside cs xs n = refl
  any_new mark.Second cs xs n = refl
  any_new mark.Both cs xs n = refl
  any_new (mark.Chosen j) cs xs n = absurd (n j refl)
  any_new (mark.Counted d) cs xs n = refl
  any_new (mark.Scoped v) cs xs n = refl

  pub pri_new : (m : Mark) (a b x y : Process ℕ) → (m ≡ mark.Inside → ⊥) → (m ≡ mark.Second → ⊥) → pri_at m a b x y ≡ pri a b
  pri_new mark.Fresh a b x y h n = refl
  pri_new mark.Over a b x y h n = refl
  pri_new mark.Inside a b x y h n = absurd (h refl)
  pri_new mark.Second a b x y h n = absurd (n refl)
  pri_new mark.Both a b x y h n = refl
  pri_new (mark.Chosen j) a b x y h n = refl
  pri_new (mark.Counted d) a b x y h n = refl
  pri_new (mark.Scoped v) a b x y h n = refl

  par_by : (m : Mark) (a b x y : Process ℕ) → (m ≡ mark.Inside → ⊥) → (m ≡ mark.Second → ⊥) → offers_of k (par_at m a b x y) ≡ with_leaves (in_par (offers_of k (part (are_new m) b y))) (offers_of k (part (are_new m) a x))
  par_by mark.Fresh a b x y h n = refl
  par_by mark.Over a b x y h n = refl
  par_by mark.Inside a b x y h n = absurd (h refl)
  par_by mark.Second a b x y h n = absurd (n refl)
  par_by mark.Both a b x y h n = beside-offers k x y
  par_by (mark.Chosen j) a b x y h n = refl
  par_by (mark.Counted d) a b x y h n = refl
  par_by (mark.Scoped v) a b x y h n = refl

  pub par_tree : (m : Mark) (new : Bool) (a b x y : Process ℕ) → (m ≡ mark.Inside → ⊥) → (m ≡ mark.Second → ⊥) → new ≡ are_new m → offers_of k (par_at m a b x y) ≡ with_leaves (in_par (offers_of k (part new b y))) (offers_of k (part new a x))
  par_tree m new a b x y h n e = par_by m a b x y h n ∙ ap (λ f. with_leaves (in_par (offers_of k (part f b y))) (offers_of k (part f a x))) (sym e)

  assert_by : (m : Mark) (c : ℕ) (t x : Process ℕ) → offers_of k (assert_at m c t x) ≡ with_leaves (in_assert c) (offers_of k (part (is_new m) t x))
  assert_by mark.Fresh c t x = refl
  assert_by mark.Over c t x = refl
  assert_by mark.Inside c t x = asserting-offers k c x
  assert_by mark.Second c t x = refl
  assert_by mark.Both c t x = refl
  assert_by (mark.Chosen j) c t x = refl
  assert_by (mark.Counted d) c t x = refl
  assert_by (mark.Scoped v) c t x = refl

  pub assert_tree : (m : Mark) (new : Bool) (c : ℕ) (t x : Process ℕ) → new ≡ is_new m → offers_of k (assert_at m c t x) ≡ with_leaves (in_assert c) (offers_of k (part new t x))
  assert_tree m new c t x e = assert_by m c t x ∙ ap (λ f. with_leaves (in_assert c) (offers_of k (part f t x))) (sym e)

  exist_by : (m : Mark) (i : ℕ) (t x : Process ℕ) → offers_of k (exist_at m i t x) ≡ with_leaves (in_exist (start_of k i) i (last_of m)) (with_local (i, last_of m) (offers_of k (part (is_outside m) t x)))
  exist_by mark.Fresh i t x = refl
  exist_by mark.Over i t x = refl
  exist_by mark.Inside i t x = refl
  exist_by mark.Second i t x = refl
  exist_by mark.Both i t x = refl
  exist_by (mark.Chosen j) i t x = refl
  exist_by (mark.Counted d) i t x = refl
  exist_by (mark.Scoped v) i t x = with_scope-offers k i v x

  pub exist_tree : (m : Mark) (new : Bool) (v : Last) (i : ℕ) (t x : Process ℕ) → new ≡ is_outside m → v ≡ last_of m
      → offers_of k (exist_at m i t x) ≡ with_leaves (in_exist (start_of k i) i v) (with_local (i, v) (offers_of k (part new t x)))
  exist_tree m new v i t x e d = exist_by m i t x ∙ (λ j. with_leaves (in_exist (start_of k i) i (sym d j)) (with_local (i, sym d j) (offers_of k (part (sym e j) t x))))

  catch_by : (m : Mark) (z : ℕ) (t h x y : Process ℕ) → (m ≡ mark.Second → ⊥) → offers_of k (catch_at m z t h x y) ≡ with_leaves (in_catch z h (offers_of k h)) (offers_of k (part (is_new m) t x))
  catch_by mark.Fresh z t h x y n = refl
  catch_by mark.Over z t h x y n = refl
  catch_by mark.Inside z t h x y n = catching-offers k z x h
  catch_by mark.Second z t h x y n = absurd (n refl)
  catch_by mark.Both z t h x y n = refl
  catch_by (mark.Chosen j) z t h x y n = refl
  catch_by (mark.Counted d) z t h x y n = refl
  catch_by (mark.Scoped v) z t h x y n = refl

  pub catch_tree : (m : Mark) (new : Bool) (z : ℕ) (t h x y : Process ℕ) → (m ≡ mark.Second → ⊥) → new ≡ is_new m → offers_of k (catch_at m z t h x y) ≡ with_leaves (in_catch z h (offers_of k h)) (offers_of k (part new t x))
  catch_tree m new z t h x y n e = catch_by m z t h x y n ∙ ap (λ f. with_leaves (in_catch z h (offers_of k h)) (offers_of k (part f t x))) (sym e)

  try_by : (m : Mark) (t h x y : Process ℕ) → (m ≡ mark.Second → ⊥) → (is_new m ≡ false → is_over x ≡ false) → offers_of k (try_at m t h x y) ≡ ordered (with_leaves (in_try h) (offers_of k (part (is_new m) t x))) (offers_of k h)
  try_by mark.Fresh t h x y n o = refl
  try_by mark.Over t h x y n o = refl
  try_by mark.Inside t h x y n o = trying-offers k x h (o refl)
  try_by mark.Second t h x y n o = absurd (n refl)
  try_by mark.Both t h x y n o = refl
  try_by (mark.Chosen j) t h x y n o = refl
  try_by (mark.Counted d) t h x y n o = refl
  try_by (mark.Scoped v) t h x y n o = refl

  pub try_tree : (m : Mark) (new : Bool) (t h x y : Process ℕ) → (m ≡ mark.Second → ⊥) → new ≡ is_new m → (new ≡ false → is_over x ≡ false) → offers_of k (try_at m t h x y) ≡ ordered (with_leaves (in_try h) (offers_of k (part new t x))) (offers_of k h)
  try_tree m new t h x y n e o = try_by m t h x y n (λ g. o (e ∙ g)) ∙ ap (λ f. ordered (with_leaves (in_try h) (offers_of k (part f t x))) (offers_of k h)) (sym e)

  -- a part that is over
  pub try_over : (m : Mark) (new : Bool) (t h x y : Process ℕ) → new ≡ is_new m → new ≡ false → is_over x ≡ true → try_at m t h x y ≡ eps
  try_over mark.Inside new t h x y e f o = trying_over x h o
  try_over mark.Fresh new t h x y e f o = absurd (let g : true ≡ false = sym e ∙ f in cc)
  try_over mark.Over new t h x y e f o = absurd (let g : true ≡ false = sym e ∙ f in cc)
  try_over mark.Second new t h x y e f o = absurd (let g : true ≡ false = sym e ∙ f in cc)
  try_over mark.Both new t h x y e f o = absurd (let g : true ≡ false = sym e ∙ f in cc)
  try_over (mark.Chosen j) new t h x y e f o = absurd (let g : true ≡ false = sym e ∙ f in cc)
  try_over (mark.Counted d) new t h x y e f o = absurd (let g : true ≡ false = sym e ∙ f in cc)
  try_over (mark.Scoped v) new t h x y e f o = absurd (let g : true ≡ false = sym e ∙ f in cc)

-- The trees of what is to be done in terms whose parts go on, or begin anew.

module _ (k : List Kind) (f : Bool) (t : Track) (at m : Mark) (new : Bool) (e : m ≡ marked f at) where
  pub seq_offers : (a b : Track) → standing t ≡ seq_at at (body a) (body b) (standing a) (standing b) → body t ≡ seq (body a) (body b) → (m ≡ mark.Second → ⊥) → new ≡ is_new m
      → offers_of k (begun f t) ≡ with_leaves (in_seq (body b) (offers_of k (body b))) (offers_of k (begun new a))
  seq_offers a b s d n g = ap (offers_of k) (begun_is f t at m (λ l. seq_at l (body a) (body b) (standing a) (standing b)) e s d) ∙ seq_tree k m new (body a) (body b) (standing a) (standing b) n g

  pub par_offers : (a b : Track) → standing t ≡ par_at at (body a) (body b) (standing a) (standing b) → body t ≡ par (body a) (body b) → (m ≡ mark.Inside → ⊥) → (m ≡ mark.Second → ⊥) → new ≡ are_new m
      → offers_of k (begun f t) ≡ with_leaves (in_par (offers_of k (begun new b))) (offers_of k (begun new a))
  par_offers a b s d h n g = ap (offers_of k) (begun_is f t at m (λ l. par_at l (body a) (body b) (standing a) (standing b)) e s d) ∙ par_tree k m new (body a) (body b) (standing a) (standing b) h n g

  pub assert_offers : (c : ℕ) (a : Track) → standing t ≡ assert_at at c (body a) (standing a) → body t ≡ assert c (body a) → new ≡ is_new m
      → offers_of k (begun f t) ≡ with_leaves (in_assert c) (offers_of k (begun new a))
  assert_offers c a s d g = ap (offers_of k) (begun_is f t at m (λ l. assert_at l c (body a) (standing a)) e s d) ∙ assert_tree k m new c (body a) (standing a) g

  pub exist_offers : (x : ℕ) (v : Last) (a : Track) → standing t ≡ exist_at at x (body a) (standing a) → body t ≡ exist x last.First (body a) → new ≡ is_outside m → v ≡ last_of m
      → offers_of k (begun f t) ≡ with_leaves (in_exist (start_of k x) x v) (with_local (x, v) (offers_of k (begun new a)))
  exist_offers x v a s d g w = ap (offers_of k) (begun_is f t at m (λ l. exist_at l x (body a) (standing a)) e s d) ∙ exist_tree k m new v x (body a) (standing a) g w

  pub catch_offers : (z : ℕ) (a b : Track) → standing t ≡ catch_at at z (body a) (body b) (standing a) (standing b) → body t ≡ catch z (body a) (body b) → (m ≡ mark.Second → ⊥) → new ≡ is_new m
      → offers_of k (begun f t) ≡ with_leaves (in_catch z (body b) (offers_of k (body b))) (offers_of k (begun new a))
  catch_offers z a b s d n g = ap (offers_of k) (begun_is f t at m (λ l. catch_at l z (body a) (body b) (standing a) (standing b)) e s d) ∙ catch_tree k m new z (body a) (body b) (standing a) (standing b) n g

  pub try_offers : (a b : Track) → standing t ≡ try_at at (body a) (body b) (standing a) (standing b) → body t ≡ try (body a) (body b) → (m ≡ mark.Second → ⊥) → new ≡ is_new m → (new ≡ false → is_over (standing a) ≡ false)
      → offers_of k (begun f t) ≡ ordered (with_leaves (in_try (body b)) (offers_of k (begun new a))) (offers_of k (body b))
  try_offers a b s d n g o = ap (offers_of k) (begun_is f t at m (λ l. try_at l (body a) (body b) (standing a) (standing b)) e s d) ∙ try_tree k m new (body a) (body b) (standing a) (standing b) n g o

module _ (k : List Kind) (f : Bool) (t : Track) (at : Mark) where
  pub loop_offers : (a : Track) → mark.Inside ≡ marked f at → standing t ≡ loop_at at (body a) (standing a) → body t ≡ loop (body a)
      → offers_of k (begun f t) ≡ with_leaves (in_seq (loop (body a)) (offers_of k (loop (body a)))) (offers_of k (standing a))
  loop_offers a e s d = ap (offers_of k) (begun_is f t at mark.Inside (λ l. loop_at l (body a) (standing a)) e s d) ∙ followed_by-offers k (standing a) (loop (body a))

  pub count_offers : (i done : ℕ) (a : Track) → mark.Counted done ≡ marked f at → standing t ≡ count_at at i (body a) (standing a) → body t ≡ count i 0 (body a)
      → offers_of k (begun f t) ≡ with_leaves (in_seq (count i done (body a)) (offers_of k (count i done (body a)))) (offers_of k (standing a))
  count_offers i done a e s d = ap (offers_of k) (begun_is f t at (mark.Counted done) (λ l. count_at l i (body a) (standing a)) e s d) ∙ followed_by-offers k (standing a) (count i done (body a))

  pub any_offers : (m : Mark) (cs : Choices ℕ) (xs : List (Process ℕ)) → m ≡ marked f at → standing t ≡ any_at at cs xs → body t ≡ any cs → ((j : ℕ) → m ≡ mark.Chosen j → ⊥)
      → offers_of k (begun f t) ≡ weighted [] (offers_of_each k cs)
  any_offers m cs xs e s d n = ap (offers_of k) (begun_is f t at m (λ l. any_at l cs xs) e s d ∙ any_new k m cs xs n)

  pub pri_offers : (m : Mark) (a b : Track) → m ≡ marked f at → standing t ≡ pri_at at (body a) (body b) (standing a) (standing b) → body t ≡ pri (body a) (body b) → (m ≡ mark.Inside → ⊥) → (m ≡ mark.Second → ⊥)
      → offers_of k (begun f t) ≡ ordered (offers_of k (body a)) (offers_of k (body b))
  pri_offers m a b e s d h n = ap (offers_of k) (begun_is f t at m (λ l. pri_at l (body a) (body b) (standing a) (standing b)) e s d ∙ pri_new k m (body a) (body b) (standing a) (standing b) h n)

-- a constraint, once over and before
pub con_over : (f : Bool) (t : Track) (at : Mark) (c : ℕ) → mark.Over ≡ marked f at → standing t ≡ con_at at c → body t ≡ con c → begun f t ≡ eps
con_over f t at c e s d = begun_is f t at mark.Over (λ l. con_at l c) e s d

con_new : (m : Mark) (c : ℕ) → (m ≡ mark.Over → ⊥) → con_at m c ≡ con c
con_new mark.Fresh c n = refl
con_new mark.Over c n = absurd (n refl)
con_new mark.Inside c n = refl
con_new mark.Second c n = refl
con_new mark.Both c n = refl
con_new (mark.Chosen j) c n = refl
con_new (mark.Counted d) c n = refl
con_new (mark.Scoped v) c n = refl

pub con_begun : (f : Bool) (t : Track) (at m : Mark) (c : ℕ) → m ≡ marked f at → standing t ≡ con_at at c → body t ≡ con c → (m ≡ mark.Over → ⊥) → begun f t ≡ con c
con_begun f t at m c e s d n = begun_is f t at m (λ l. con_at l c) e s d ∙ con_new m c n

-- a term without marks
pub plain : (f : Bool) (t : Track) (p : Process ℕ) → standing t ≡ p → body t ≡ p → begun f t ≡ p
plain true t p s d = d
plain false t p s d = s
