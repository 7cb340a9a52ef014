-- Texts that stand one after the other.
use Rattle.std.proofs.Common.{◌≡◌, ◌≤◌, ◌<◌, ◌+◌, ◌-◌, ℕ, suc, List, [], ◌∷◌, ◌++◌, length, sum, take, drop, get_or, arith, refl, sym, ap, subst, ◌∙◌, append_assoc, length-drop}
use Rattle.std.specs.List.{concat}
use Rattle.std.proofs.Math.Seq.{drop-cons, take-add, take-length}
use Rattle.std.proofs.lemmas.List.{take-append-drop, take-append-le, drop-append-le, length-take-le}
use Rattle.std.proofs.lemmas.List.Sums.{sum_by-cons}
use Rattle.std.specs.declared.option.Option.{Option}
use Rattle.std.specs.Io.KnownBytes.{Appends}
use Rattle.lt_io.specs.Gathering.{AppendsUpTo, StandsBehind, cut_at}

sum-cons : (n : ℕ) (ns : List ℕ) → sum (n ∷ ns) ≡ n + sum ns
sum-cons n ns = sum_by-cons (λ x. x) n ns

-- a list, split at one of its places
pub split_at : (ns : List ℕ) (i : ℕ) → i < length ns → ns ≡ take i ns ++ get_or ns i 0 ∷ drop (suc i) ns
split_at ns i h = sym (take-append-drop i ns) ∙ ap (λ (t : List ℕ). take i ns ++ t) (drop-cons ns i 0 h)

no_bytes : (bytes : List ℕ) → length bytes ≡ 0 → bytes ≡ []
no_bytes [] e = refl
no_bytes (b ∷ bytes) e = absurd (omega (arith, e))

-- one text more
pub cut_more : (ns bytes text : List ℕ) → sum ns ≡ length bytes → cut_at (ns ++ length text ∷ []) (bytes ++ text) ≡ cut_at ns bytes ++ text ∷ []
cut_more [] bytes text e =
    let none : bytes ≡ [] = no_bytes bytes (sym e) in
    ap (λ (t : List ℕ). take (length text) (t ++ text) ∷ []) none ∙ ap (λ (t : List ℕ). t ∷ []) (take-length text)
cut_more (n ∷ ns) bytes text e =
    let all : n + sum ns ≡ length bytes = sym (sum-cons n ns) ∙ e in
    let within : n ≤ length bytes = omega (arith, all) in
    let rest : sum ns ≡ length (drop n bytes) = omega (arith, all, length-drop n bytes) in
    ap (λ (t : List ℕ). t ∷ cut_at (ns ++ length text ∷ []) (drop n (bytes ++ text))) (take-append-le n bytes text within)
    ∙ ap (λ (t : List ℕ). take n bytes ∷ cut_at (ns ++ length text ∷ []) t) (drop-append-le n bytes text within)
    ∙ ap (λ (t : List (List ℕ)). take n bytes ∷ t) (cut_more ns (drop n bytes) text rest)

-- all of them
pub concat_cut : (ns bytes : List ℕ) → sum ns ≡ length bytes → concat (cut_at ns bytes) ≡ bytes
concat_cut [] bytes e = sym (no_bytes bytes (sym e))
concat_cut (n ∷ ns) bytes e =
    let all : n + sum ns ≡ length bytes = sym (sum-cons n ns) ∙ e in
    let rest : sum ns ≡ length (drop n bytes) = omega (arith, all, length-drop n bytes) in
    ap (λ (t : List ℕ). take n bytes ++ t) (concat_cut ns (drop n bytes) rest) ∙ take-append-drop n bytes

length-cut : (ns bytes : List ℕ) → length (cut_at ns bytes) ≡ length ns
length-cut [] bytes = refl
length-cut (n ∷ ns) bytes = ap (λ (m : ℕ). suc m) (length-cut ns (drop n bytes))

-- where texts are cut at a place
record IsCut (texts : List (List ℕ)) (written : List ℕ) (behind : ℕ) : Type 0 where
  pub front : List (List ℕ)
  pub prefix : List ℕ
  pub rest : List ℕ
  pub back : List (List ℕ)
  pub texts_are : texts ≡ front ++ (prefix ++ rest) ∷ back
  pub some : 0 < length rest
  pub behind_is : behind ≡ length back
  pub written_is : written ≡ concat front ++ prefix

-- the place is in the first of them
cut_here : (n : ℕ) (ns bytes : List ℕ) (place : ℕ) → n ≤ length bytes → place < n → IsCut (take n bytes ∷ cut_at ns (drop n bytes)) (take place bytes) (length ns)
cut_here n ns bytes place within inside = record {
  front = [];
  prefix = take place bytes;
  rest = take (n - place) (drop place bytes);
  back = cut_at ns (drop n bytes);
  texts_are = ap (λ (t : List ℕ). t ∷ cut_at ns (drop n bytes)) (ap (λ (m : ℕ). take m bytes) (let m : n ≡ place + (n - place) = omega (arith, inside) in m) ∙ take-add place (n - place) bytes);
  some = let few : n - place ≤ length (drop place bytes) = omega (arith, within, length-drop place bytes) in omega (arith, inside, length-take-le (n - place) (drop place bytes) few);
  behind_is = sym (length-cut ns (drop n bytes));
  written_is = refl;
}

-- the place is behind the first one
cut_later : (n : ℕ) (bytes : List ℕ) (place behind : ℕ) (texts : List (List ℕ)) → n ≤ place → IsCut texts (take (place - n) (drop n bytes)) behind → IsCut (take n bytes ∷ texts) (take place bytes) behind
cut_later n bytes place behind texts later h = record {
  front = take n bytes ∷ h.front;
  prefix = h.prefix;
  rest = h.rest;
  back = h.back;
  texts_are = ap (λ (t : List (List ℕ)). take n bytes ∷ t) h.texts_are;
  some = h.some;
  behind_is = h.behind_is;
  written_is = ap (λ (m : ℕ). take m bytes) (let m : place ≡ n + (place - n) = omega (arith, later) in m) ∙ take-add n (place - n) bytes
      ∙ ap (λ (t : List ℕ). take n bytes ++ t) h.written_is ∙ sym (append_assoc (take n bytes) (concat h.front) h.prefix);
}

cut_in : (front : List ℕ) (n : ℕ) (back bytes : List ℕ) (place : ℕ) → sum (front ++ n ∷ back) ≡ length bytes → sum front ≤ place → place < sum front + n → IsCut (cut_at (front ++ n ∷ back) bytes) (take place bytes) (length back)
cut_in [] n back bytes place e begins inside = cut_here n back bytes place (omega (arith, e, sum-cons n back)) (omega (arith, inside))
cut_in (m ∷ front) n back bytes place e begins inside =
    let all : m + sum (front ++ n ∷ back) ≡ length bytes = sym (sum-cons m (front ++ n ∷ back)) ∙ e in
    let first : sum (m ∷ front) ≡ m + sum front = sum-cons m front in
    let rest : sum (front ++ n ∷ back) ≡ length (drop m bytes) = omega (arith, all, length-drop m bytes) in
    cut_later m bytes place (length back) (cut_at (front ++ n ∷ back) (drop m bytes)) (omega (arith, first, begins))
    (cut_in front n back (drop m bytes) (place - m) rest (omega (arith, first, begins)) (omega (arith, first, begins, inside)))

up_to : (old new : Option (List ℕ)) (texts : List (List ℕ)) (written : List ℕ) (behind : ℕ) → IsCut texts written behind → Appends old new written → AppendsUpTo old new texts behind
up_to old new texts written behind h wrote = (h.front, h.prefix, h.rest, h.back, h.texts_are, h.some, h.behind_is, subst (λ (t : List ℕ). Appends old new t) h.written_is wrote)

-- of texts one after the other so many bytes were written, which end in the one behind which so many stand
pub written_up_to : (old new : Option (List ℕ)) (lengths bytes : List ℕ) (place behind : ℕ) → sum lengths ≡ length bytes → StandsBehind lengths place behind → Appends old new (take place bytes) → AppendsUpTo old new (cut_at lengths bytes) behind
written_up_to old new lengths bytes place behind e (front, n, back, is, begins, inside, behind_is) wrote =
    subst (λ (ns : List ℕ). AppendsUpTo old new (cut_at ns bytes) behind) (sym is)
    (subst (λ (m : ℕ). AppendsUpTo old new (cut_at (front ++ n ∷ back) bytes) m) (sym behind_is)
    (up_to old new (cut_at (front ++ n ∷ back) bytes) (take place bytes) (length back) (cut_in front n back bytes place (ap sum (sym is) ∙ e) begins inside) wrote))
