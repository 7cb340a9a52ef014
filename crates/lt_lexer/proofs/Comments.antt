-- Where comments end.
use Rattle.std.proofs.Common.{◌≡◌, ℕ, Bool, true, false, not, List, [], ◌∷◌, ◌++◌, drop, get_or, refl, ap, sym, ◌∙◌, arith, subst, Some, None, codes}
use Rattle.std.specs.declared.option.Option.{Option}
use Rattle.std.specs.List.{list_all}
use Rattle.std.proofs.lemmas.Bool.{cond_both, cond-true, cond-false, eqb-true}
use Rattle.lt_lexer.specs.Byte.{is_in_line, begins_with}
use Rattle.lt_lexer.specs.Piece.{HasClose, IsLineEnd}
use Rattle.lt_lexer.specs.inner.Reading.{leading, after_leading, Comment, comment_more, closed}
use Rattle.lt_lexer.proofs.Bools.{left_of, right_of, is_false}
use Rattle.lt_lexer.proofs.Starts.{begins_two}

not_false : (b : Bool) → not b ≡ false → b ≡ true
not_false true h = refl
not_false false h = absurd (cc)

-- a line ends where the bytes of a line end
pub line_end : (xs : List ℕ) → IsLineEnd (after_leading is_in_line xs)
line_end [] = tt
line_end (x ∷ xs) = cond_both (is_in_line x) (after_leading is_in_line xs) (x ∷ xs) IsLineEnd (λ t. line_end xs) (λ f. eqb-true x 10 (not_false _ f))

in_line-line_feed : (b : ℕ) → b ≡ 10 → is_in_line b ≡ false
in_line-line_feed b e = let P : ℕ → Type 0 = λ n. is_in_line n ≡ false in subst P (sym e) refl

-- bytes of a line before the end of it are its leading ones
pub leading-line : (xs ys : List ℕ) → list_all is_in_line xs ≡ true → IsLineEnd ys → leading is_in_line (xs ++ ys) ≡ xs
leading-line [] [] h e = refl
leading-line [] (y ∷ ys) h e = cond-false _ (y ∷ leading is_in_line ys) [] (in_line-line_feed y e)
leading-line (x ∷ xs) ys h e =
    cond-true _ (x ∷ leading is_in_line (xs ++ ys)) [] (left_of (is_in_line x) (list_all is_in_line xs) h)
    ∙ ap (λ l. x ∷ l) (leading-line xs ys (right_of (is_in_line x) _ h) e)

-- what the place of the first close says
abbrev pub ClosedIs : List ℕ → Option Comment → Type 0
ClosedIs text None = HasClose text → ⊥
ClosedIs text (Some parts) = (text ≡ parts.inside ++ (codes "*)" ++ parts.after)) × (HasClose parts.inside → ⊥)

none : (before after : List ℕ) → [] ≡ before ++ (codes "*)" ++ after) → ⊥
none [] after e = cc e
none (x ∷ before) after e = cc e

no_close_in_none : HasClose [] → ⊥
no_close_in_none h = none h.0 h.1 h.2

-- one more byte in front, where no close begins with it
close-cons : (b : ℕ) (bs : List ℕ) → (bs ≡ 41 ∷ drop 1 bs → b ≡ 42 → ⊥) → (HasClose bs → ⊥) → HasClose (b ∷ bs) → ⊥
close-cons b bs here later h = at h.0 h.1 h.2
  where
    at : (before after : List ℕ) → b ∷ bs ≡ before ++ (codes "*)" ++ after) → ⊥
    at [] after e = let tail : bs ≡ 41 ∷ after = cc e in here (tail ∙ ap (λ l. 41 ∷ drop 1 l) (sym tail)) (cc e)
    at (x ∷ before) after e = later (before, after, cc e)

-- a close at the front
begins-close : (b : ℕ) (bs : List ℕ) → b ≡ 42 → bs ≡ 41 ∷ drop 1 bs → begins_with (codes "*)") (b ∷ bs) ≡ true
begins-close b bs e f =
    let P : ℕ → Type 0 = λ n. begins_with (codes "*)") (n ∷ bs) ≡ true in
    let Q : List ℕ → Type 0 = λ l. begins_with (codes "*)") (42 ∷ l) ≡ true in
    subst P (sym e) (subst Q (sym f) refl)

-- the place of the first close with one more byte in front
closed-more : (b : ℕ) (bs : List ℕ) (o : Option Comment) → begins_with (codes "*)") (b ∷ bs) ≡ false → ClosedIs bs o → ClosedIs (b ∷ bs) (comment_more b o)
closed-more b bs None f h = close-cons b bs (λ tail star. let t = begins-close b bs star tail in cc (f, t)) h
closed-more b bs (Some parts) f h = (
  ap (λ l. b ∷ l) h.0,
  close-cons b parts.inside
      (λ tail star.
      let whole : bs ≡ 41 ∷ (drop 1 parts.inside ++ (codes "*)" ++ parts.after)) = h.0 ∙ ap (λ l. l ++ (codes "*)" ++ parts.after)) tail in
      let t = begins-close b bs star (whole ∙ ap (λ l. 41 ∷ drop 1 l) (sym whole)) in cc (f, t))
      h.1,
)

-- the first close that is found is the first one
pub closed-is : (text : List ℕ) → ClosedIs text (closed text)
closed-is [] = no_close_in_none
closed-is (b ∷ bs) =
    cond_both (begins_with (codes "*)") (b ∷ bs)) (Some (record { inside = []; after = drop 1 bs })) (comment_more b (closed bs)) (ClosedIs (b ∷ bs))
    (λ t. let p = begins_two 42 41 b bs t in ((λ i. p.0 i ∷ p.1 i), no_close_in_none))
    (λ f. closed-more b bs (closed bs) f (closed-is bs))

-- a close that begins with the last byte before one stands inside
close_inside : (b : ℕ) (bs after : List ℕ) → (HasClose (b ∷ bs) → ⊥) → b ≡ 42 → bs ++ (codes "*)" ++ after) ≡ 41 ∷ drop 1 (bs ++ (codes "*)" ++ after)) → ⊥
close_inside b [] after h e f = let first : List ℕ → ℕ = λ l. get_or l 0 0 in omega (arith, ap first f)
close_inside b (c ∷ cs) after h e f = let second : c ≡ 41 = cc f in h ([], cs, (λ i. e i ∷ second i ∷ cs))

-- a comment is closed where the first close is
pub closed-at : (inside after : List ℕ) → (HasClose inside → ⊥) → closed (inside ++ (codes "*)" ++ after)) ≡ Some (record { inside = inside; after = after })
closed-at [] after h = refl
closed-at (b ∷ bs) after h =
    let f : begins_with (codes "*)") (b ∷ (bs ++ (codes "*)" ++ after))) ≡ false = is_false _ (λ t. let p = begins_two 42 41 b (bs ++ (codes "*)" ++ after)) t in close_inside b bs after h p.0 p.1) in
    cond-false _ (Some (record { inside = []; after = drop 1 (bs ++ (codes "*)" ++ after)) })) (comment_more b (closed (bs ++ (codes "*)" ++ after)))) f
    ∙ ap (comment_more b) (closed-at bs after (λ g. h (b ∷ g.0, g.1, ap (λ l. b ∷ l) g.2)))
