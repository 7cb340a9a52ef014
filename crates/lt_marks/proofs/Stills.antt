-- What a walk leaves as it is.
use Rattle.std.proofs.Common.{◌≡◌, ℕ, ◌∷◌, refl, sym, subst}
use Rattle.std.specs.Prelude.{Some}
use Rattle.lt_term.specs.Process.{Process}
use Rattle.lt_marks.specs.Marks.{con_at, seq_at, loop_at, count_at, any_at, pri_at, par_at, assert_at, exist_at, catch_at, try_at}
use Rattle.lt_marks.specs.Still.{still, still_each}
use Rattle.lt_marks.specs.Tallied.{IsTallyOf, IsRaisedAt, IsWhole, IsTallied, AreTallied}
use Rattle.lt_marks.specs.View.{body, choices_of, standing, standing_each}
use Rattle.lt_marks.specs.declared.extent.Extent.{Extent}
use Rattle.lt_marks.specs.declared.track.Mark.{Mark}
use Rattle.lt_marks.specs.declared.track.Track.{Track}
use Rattle.lt_marks.specs.declared.track.Track.TheVariants.{Eps, Dead, Con, Raise, Seq', Loop', Count', Any', Pri', Par', Assert', Exist', Catch', Try'}
use Rattle.lt_marks.specs.declared.track.Parts.{Parts}
use Rattle.lt_marks.specs.declared.track.Parts.TheVariants.{End, Part'}

mutual
  -- what is still to be done hangs on what stays
  stands_still : (t u : Track) → still t ≡ still u → body t ≡ body u → standing t ≡ standing u
  stands_still Eps Eps s b = refl
  stands_still Dead Dead s b = refl
  stands_still (Con m c) (Con n d) s b = let f : m.at ≡ n.at = cc in let g : c ≡ d = cc in λ i. con_at (f i) (g i)
  stands_still (Raise z) (Raise y) s b = b
  stands_still (Seq' m p a q c) (Seq' n r d o e) s b =
      let f : m.at ≡ n.at = cc in
      let x : body a ≡ body d = cc in
      let y : body c ≡ body e = cc in
      let k = stands_still a d (cc) x in
      let l = stands_still c e (cc) y in
      λ i. seq_at (f i) (x i) (y i) (k i) (l i)
  stands_still (Loop' m p t) (Loop' n q u) s b =
      let f : m.at ≡ n.at = cc in
      let x : body t ≡ body u = cc in
      let k = stands_still t u (cc) x in
      λ i. loop_at (f i) (x i) (k i)
  stands_still (Count' m z p t) (Count' n y q u) s b =
      let f : m.at ≡ n.at = cc in
      let g : z ≡ y = cc in
      let x : body t ≡ body u = cc in
      let k = stands_still t u (cc) x in
      λ i. count_at (f i) (g i) (x i) (k i)
  stands_still (Any' m p ps) (Any' n q qs) s b =
      let f : m.at ≡ n.at = cc in
      let x : choices_of ps ≡ choices_of qs = cc in
      let k = each_stands_still ps qs (cc) x in
      λ i. any_at (f i) (x i) (k i)
  stands_still (Pri' m p a q c) (Pri' n r d o e) s b =
      let f : m.at ≡ n.at = cc in
      let x : body a ≡ body d = cc in
      let y : body c ≡ body e = cc in
      let k = stands_still a d (cc) x in
      let l = stands_still c e (cc) y in
      λ i. pri_at (f i) (x i) (y i) (k i) (l i)
  stands_still (Par' m p a q c) (Par' n r d o e) s b =
      let f : m.at ≡ n.at = cc in
      let x : body a ≡ body d = cc in
      let y : body c ≡ body e = cc in
      let k = stands_still a d (cc) x in
      let l = stands_still c e (cc) y in
      λ i. par_at (f i) (x i) (y i) (k i) (l i)
  stands_still (Assert' m z p t) (Assert' n y q u) s b =
      let f : m.at ≡ n.at = cc in
      let g : z ≡ y = cc in
      let x : body t ≡ body u = cc in
      let k = stands_still t u (cc) x in
      λ i. assert_at (f i) (g i) (x i) (k i)
  stands_still (Exist' m z p t) (Exist' n y q u) s b =
      let f : m.at ≡ n.at = cc in
      let g : z ≡ y = cc in
      let x : body t ≡ body u = cc in
      let k = stands_still t u (cc) x in
      λ i. exist_at (f i) (g i) (x i) (k i)
  stands_still (Catch' m z p a q c) (Catch' n v r d o e) s b =
      let f : m.at ≡ n.at = cc in
      let g : z ≡ v = cc in
      let x : body a ≡ body d = cc in
      let y : body c ≡ body e = cc in
      let k = stands_still a d (cc) x in
      let l = stands_still c e (cc) y in
      λ i. catch_at (f i) (g i) (x i) (y i) (k i) (l i)
  stands_still (Try' m p a q c) (Try' n r d o e) s b =
      let f : m.at ≡ n.at = cc in
      let x : body a ≡ body d = cc in
      let y : body c ≡ body e = cc in
      let k = stands_still a d (cc) x in
      let l = stands_still c e (cc) y in
      λ i. try_at (f i) (x i) (y i) (k i) (l i)
  stands_still t u s b = absurd (cc)

  each_stands_still : (ps qs : Parts) → still_each ps ≡ still_each qs → choices_of ps ≡ choices_of qs → standing_each ps ≡ standing_each qs
  each_stands_still End End s b = refl
  each_stands_still (Part' w p t q ps) (Part' v r u o qs) s b =
      let x : body t ≡ body u = cc in
      let y : choices_of ps ≡ choices_of qs = cc in
      let k = stands_still t u (cc) x in
      let l = each_stands_still ps qs (cc) y in
      λ i. k i ∷ l i
  each_stands_still ps qs s b = absurd (cc)

whole_still : (e d : Extent) (p q : Process ℕ) → e ≡ d → p ≡ q → IsWhole (Some d) q → IsWhole (Some e) p
whole_still e d p q f g h = subst (λ x. IsWhole (Some x) p) (sym f) (subst (λ x. IsWhole (Some d) x) (sym g) h)

rest_still : (e d : Extent) (p q : Process ℕ) → e ≡ d → p ≡ q → IsTallyOf d.tally q → IsTallyOf e.tally p
rest_still e d p q f g h = subst (λ x. IsTallyOf x.tally p) (sym f) (subst (IsTallyOf d.tally) (sym g) h)

raised_still : (m n : Mark) (e d : Extent) (z y : ℕ) (b c x w : Process ℕ) → m ≡ n → e ≡ d → z ≡ y → b ≡ c → x ≡ w → IsRaisedAt n d.raised y c w → IsRaisedAt m e.raised z b x
raised_still m n e d z y b c x w f g i j k h =
    subst (λ v. IsRaisedAt v e.raised z b x) (sym f)
    (subst (λ v. IsRaisedAt n v.raised z b x) (sym g)
    (subst (λ v. IsRaisedAt n d.raised v b x) (sym i)
    (subst (λ v. IsRaisedAt n d.raised y v x) (sym j)
    (subst (λ v. IsRaisedAt n d.raised y c v) (sym k) h))))

mutual
  -- what nodes keep stays right where a walk changes nothing but where the run would go on
  pub tallied_still : (t u : Track) → still t ≡ still u → body t ≡ body u → IsTallied u → IsTallied t
  tallied_still Eps Eps s b h = tt
  tallied_still Dead Dead s b h = tt
  tallied_still (Con m c) (Con n d) s b h =
      (whole_still m.whole n.whole (body (Con m c)) (body (Con n d)) (cc) b h.0, (rest_still m.rest n.rest (standing (Con m c)) (standing (Con n d)) (cc) (stands_still (Con m c) (Con n d) s b) h.1.0, tt), tt)
  tallied_still (Raise z) (Raise y) s b h = tt
  tallied_still (Seq' m p a q c) (Seq' n r d o e) s b h =
      (whole_still m.whole n.whole (body (Seq' m p a q c)) (body (Seq' n r d o e)) (cc) b h.0, (rest_still m.rest n.rest (standing (Seq' m p a q c)) (standing (Seq' n r d o e)) (cc) (stands_still (Seq' m p a q c) (Seq' n r d o e) s b) h.1.0, tt), (tallied_still a d (cc) (cc) h.2.0, tallied_still c e (cc) (cc) h.2.1))
  tallied_still (Pri' m p a q c) (Pri' n r d o e) s b h =
      (whole_still m.whole n.whole (body (Pri' m p a q c)) (body (Pri' n r d o e)) (cc) b h.0, (rest_still m.rest n.rest (standing (Pri' m p a q c)) (standing (Pri' n r d o e)) (cc) (stands_still (Pri' m p a q c) (Pri' n r d o e) s b) h.1.0, tt), (tallied_still a d (cc) (cc) h.2.0, tallied_still c e (cc) (cc) h.2.1))
  tallied_still (Par' m p a q c) (Par' n r d o e) s b h =
      (whole_still m.whole n.whole (body (Par' m p a q c)) (body (Par' n r d o e)) (cc) b h.0, (rest_still m.rest n.rest (standing (Par' m p a q c)) (standing (Par' n r d o e)) (cc) (stands_still (Par' m p a q c) (Par' n r d o e) s b) h.1.0, tt), (tallied_still a d (cc) (cc) h.2.0, tallied_still c e (cc) (cc) h.2.1))
  tallied_still (Try' m p a q c) (Try' n r d o e) s b h =
      (whole_still m.whole n.whole (body (Try' m p a q c)) (body (Try' n r d o e)) (cc) b h.0, (rest_still m.rest n.rest (standing (Try' m p a q c)) (standing (Try' n r d o e)) (cc) (stands_still (Try' m p a q c) (Try' n r d o e) s b) h.1.0, tt), (tallied_still a d (cc) (cc) h.2.0, tallied_still c e (cc) (cc) h.2.1))
  tallied_still (Loop' m p t) (Loop' n q u) s b h =
      (whole_still m.whole n.whole (body (Loop' m p t)) (body (Loop' n q u)) (cc) b h.0, (rest_still m.rest n.rest (standing (Loop' m p t)) (standing (Loop' n q u)) (cc) (stands_still (Loop' m p t) (Loop' n q u) s b) h.1.0, tt), tallied_still t u (cc) (cc) h.2)
  tallied_still (Count' m z p t) (Count' n y q u) s b h =
      (whole_still m.whole n.whole (body (Count' m z p t)) (body (Count' n y q u)) (cc) b h.0, (rest_still m.rest n.rest (standing (Count' m z p t)) (standing (Count' n y q u)) (cc) (stands_still (Count' m z p t) (Count' n y q u) s b) h.1.0, tt), tallied_still t u (cc) (cc) h.2)
  tallied_still (Assert' m z p t) (Assert' n y q u) s b h =
      (whole_still m.whole n.whole (body (Assert' m z p t)) (body (Assert' n y q u)) (cc) b h.0, (rest_still m.rest n.rest (standing (Assert' m z p t)) (standing (Assert' n y q u)) (cc) (stands_still (Assert' m z p t) (Assert' n y q u) s b) h.1.0, tt), tallied_still t u (cc) (cc) h.2)
  tallied_still (Exist' m z p t) (Exist' n y q u) s b h =
      (whole_still m.whole n.whole (body (Exist' m z p t)) (body (Exist' n y q u)) (cc) b h.0, (rest_still m.rest n.rest (standing (Exist' m z p t)) (standing (Exist' n y q u)) (cc) (stands_still (Exist' m z p t) (Exist' n y q u) s b) h.1.0, tt), tallied_still t u (cc) (cc) h.2)
  tallied_still (Any' m p ps) (Any' n q qs) s b h =
      (whole_still m.whole n.whole (body (Any' m p ps)) (body (Any' n q qs)) (cc) b h.0, (rest_still m.rest n.rest (standing (Any' m p ps)) (standing (Any' n q qs)) (cc) (stands_still (Any' m p ps) (Any' n q qs) s b) h.1.0, tt), each_tallied_still ps qs (cc) (cc) h.2)
  tallied_still (Catch' m z p a q c) (Catch' n v r d o e) s b h =
      let x : body a ≡ body d = cc in
      let k = stands_still a d (cc) x in
      (whole_still m.whole n.whole (body (Catch' m z p a q c)) (body (Catch' n v r d o e)) (cc) b h.0, (rest_still m.rest n.rest (standing (Catch' m z p a q c)) (standing (Catch' n v r d o e)) (cc) (stands_still (Catch' m z p a q c) (Catch' n v r d o e) s b) h.1.0, raised_still m.at n.at m.rest n.rest z v (body a) (body d) (standing a) (standing d) (cc) (cc) (cc) x k h.1.1), (tallied_still a d (cc) x h.2.0, tallied_still c e (cc) (cc) h.2.1))
  tallied_still t u s b h = absurd (cc)

  each_tallied_still : (ps qs : Parts) → still_each ps ≡ still_each qs → choices_of ps ≡ choices_of qs → AreTallied qs → AreTallied ps
  each_tallied_still End End s b h = tt
  each_tallied_still (Part' w p t q ps) (Part' v r u o qs) s b h = (tallied_still t u (cc) (cc) h.0, each_tallied_still ps qs (cc) (cc) h.1)
  each_tallied_still ps qs s b h = absurd (cc)
