-- What readers make of what comes.
use Rattle.std.proofs.Common.{◌≡◌, ◌<◌, ◌≤◌, ◌+◌, ℕ, Bool, true, false, ◌==◌, List, [], ◌∷◌, ◌++◌, length, None, Some, Option, ap, subst, ◌∙◌, sym, refl, arith, ◌-◌, drop, drop-drop, take, if◌then◌else◌, length-append, length-drop, append-nil, append_assoc, ◌||◌}
use Rattle.std.specs.List.{list_any}
use Rattle.std.proofs.lemmas.List.{drop_all, take-append-drop, length-take-le}
use Rattle.std.proofs.lemmas.Bool.{le-leb, lt-leb, lt-ltb, le-ltb, cond_both}
use Rattle.lt_num.specs.declared.value.Value.{Value}
use Rattle.lt_rif.specs.Word.{is_blank, word, words_of}
use Rattle.lt_rif.specs.Reply.{longest, Stream, Reply, whole, needs, short, malformed, Begun, Progress, more, done, refused, filled, after_word, go_on, stop, reply_in, reply_of, beginning}
use Rattle.lt_rif.specs.Reading.{Reading, between, found, answer, FedTells, ClosingTells}
use Rattle.lt_rif.specs.inner.Draft.{HasEffect, looked, filled_with}
use Rattle.lt_rif.specs.View.{begun}
use Rattle.lt_rif.specs.inner.Open.{open_at}
use Rattle.lt_rif.specs.declared.draft.Draft.{Draft}
use Rattle.lt_rif.specs.declared.draft.Effect.TheVariants as effect
use Rattle.lt_rif.specs.declared.draft.Look.TheVariants as look
use Rattle.lt_rif.specs.declared.reader.Fed.TheVariants as fed
use Rattle.lt_rif.specs.declared.reader.Closing.TheVariants as closing
use Rattle.lt_rif.specs.declared.reader.Refusal.{Refusal}
use Rattle.std.specs.declared.vec.Vec.{Vec}
use Rattle.std.specs.declared.alloc.Global.{Global}
use Rattle.lt_rif.specs.declared.slot.Slot.{Slot}
use Rattle.lt_rif.specs.declared.fault.ValueFault.{ValueFault}
use Rattle.lt_rif.specs.declared.fault.ValueFault.TheVariants as fault

-- with as many bytes as may be taken, a reply is too long whatever comes
pub full_in : (closed : Bool) (r : Begun) (text bytes : List ℕ) → longest ≤ r.taken + length text
    → reply_in closed r (words_of text bytes) ≡ malformed fault.TooLong r.place
full_in closed r text [] full = rw (le-leb longest (r.taken + length text) full) refl
full_in closed r text (b ∷ bs) full =
    cond_both (is_blank b) (word text b bs (words_of [] bs)) (words_of (text ++ b ∷ []) bs) (λ ws. reply_in closed r ws ≡ malformed fault.TooLong r.place)
    (λ e. rw (lt-ltb longest (r.taken + length text + 1) (omega arith)) refl)
    (λ e. full_in closed r (text ++ b ∷ []) bs (omega (arith, length-append text (b ∷ []))))

-- the same of a reader
full_found : (slots : List Slot) (r : Begun) (text bytes : List ℕ) (closed : Bool) → 0 < length slots → longest ≤ r.taken + length text
    → found slots None r text bytes closed ≡ malformed fault.TooLong r.place
full_found [] r text bytes closed some full = absurd (omega arith)
full_found (slot ∷ slots) r text bytes closed some full = full_in closed r text bytes full

-- neither of two tests holds
pub neither : (a b : Bool) → a || b ≡ false → (a ≡ false) × (b ≡ false)
neither true b h = absurd (cc)
neither false b h = (refl, h)

-- a run of bytes that aren't blank belongs to the word
pub words_run : (text run bytes : List ℕ) → list_any is_blank run ≡ false → words_of text (run ++ bytes) ≡ words_of (text ++ run) bytes
words_run text [] bytes none = rw append-nil refl
words_run text (b ∷ bs) bytes none =
    let h = neither (is_blank b) (list_any is_blank bs) none in
    rw h.0 (words_run (text ++ b ∷ []) bs bytes h.1 ∙ ap (λ (t : List ℕ). words_of t bytes) (append_assoc text (b ∷ []) bs))

-- it is taken
run_found : (slots : List Slot) (r : Begun) (text run bytes : List ℕ) (closed : Bool) → 0 < length slots → list_any is_blank run ≡ false
    → found slots None r text (run ++ bytes) closed ≡ found slots None r (text ++ run) bytes closed
run_found [] r text run bytes closed some none = absurd (omega arith)
run_found (slot ∷ slots) r text run bytes closed some none = ap (reply_in closed r) (words_run text run bytes none)

-- a blank ends a word
blank_found : (slots : List Slot) (r : Begun) (text bytes : List ℕ) (b : ℕ) (closed : Bool) → 0 < length slots → r.taken + length text < longest → is_blank b ≡ true
    → found slots None r text (b ∷ bytes) closed
    ≡ go_on (after_word r text (b == 10)) (record { place = r.place + r.taken + length text + 1; bytes = bytes; is_closed = closed }) (λ r. found slots None r [] bytes closed)
blank_found [] r text bytes b closed some small blank = absurd (omega arith)
blank_found (slot ∷ slots) r text bytes b closed some small blank = rw (blank, le-ltb longest (r.taken + length text + 1) (omega arith)) refl

-- what isn't too long needs more
needs_found : (slots : List Slot) (r : Begun) (text : List ℕ) → 0 < length slots → r.taken + length text < longest → found slots None r text [] false ≡ needs
needs_found [] r text some small = absurd (omega arith)
needs_found (slot ∷ slots) r text some small = rw (lt-leb longest (r.taken + length text) small) refl

-- a reader that refused goes on refusing
pub refused_answer : (new : Reading) (refusal : Refusal) (bytes : List ℕ) (closed : Bool) → new.refusal ≡ Some refusal
    → answer new bytes closed ≡ malformed refusal.fault refusal.place
unfolding answer
refused_answer new refusal bytes closed e = rw e refl

-- a run leaves a reply that goes on, or is too long
pub run_more : (d : Draft) (run : List ℕ) (new : Reading) (values : List Value) → 0 < length d.slots.items → list_any is_blank run ≡ false → d.taken + length d.word.items + length run < longest
    → new ≡ record { slots = d.slots.items; begun = begun d; text = d.word.items ++ run; refusal = None }
    → FedTells (open_at d) run fed.More new values
unfolding answer
run_more d run new values some none small e = (
  λ bytes closed. run_found d.slots.items (begun d) d.word.items run bytes closed some none ∙ ap (λ (r : Reading). found r.slots r.refusal r.begun r.text bytes closed) (sym e),
  rw e (needs_found d.slots.items (begun d) (d.word.items ++ run) some (omega (arith, length-append d.word.items run))),
)

pub run_full : (d : Draft) (run : List ℕ) (new : Reading) (values : List Value) → 0 < length d.slots.items → list_any is_blank run ≡ false → longest ≤ d.taken + length d.word.items + length run
    → new.refusal ≡ Some (record { fault = fault.TooLong; place = d.place })
    → FedTells (open_at d) run (fed.Malformed fault.TooLong d.place) new values
unfolding answer
run_full d run new values some none full e = (
  λ bytes closed. run_found d.slots.items (begun d) d.word.items run bytes closed some none
      ∙ full_found d.slots.items (begun d) (d.word.items ++ run) bytes closed some (omega (arith, length-append d.word.items run)),
  λ bytes closed. refused_answer new (record { fault = fault.TooLong; place = d.place }) bytes closed e,
)

-- what is left where a reply goes on
effect_text : (p : Progress) (d new : Draft) → HasEffect p d effect.More new → new.word.items ≡ []
effect_text (more r) d new e = e.1
effect_text (done values) d new e = absurd e
effect_text (refused f place) d new e = absurd e

effect_slots : (p : Progress) (d new : Draft) → HasEffect p d effect.More new → new.slots ≡ d.slots
effect_slots (more r) d new e = e.2
effect_slots (done values) d new e = absurd e
effect_slots (refused f place) d new e = absurd e

-- what is left where a reply is whole
done_ends : (p : Progress) (d new : Draft) → HasEffect p d effect.Done new
    → (new.slots ≡ d.slots) × (new.place ≡ d.place) × (new.taken ≡ d.taken + length d.word.items + 1) × (new.decimals ≡ d.decimals)
done_ends (more r) d new e = absurd e
done_ends (done values) d new e = (e.1, e.2, e.3, e.4)
done_ends (refused f place) d new e = absurd e

-- a word that leaves a reply that goes on
effect_more : (p : Progress) (d new : Draft) (left : Stream) (go : Begun → Reply) → HasEffect p d effect.More new → go_on p left go ≡ go (begun new)
effect_more (more r) d new left go e = ap go (sym e.0)
effect_more (done values) d new left go e = absurd e
effect_more (refused f place) d new left go e = absurd e

-- a word that makes a reply whole
effect_done : (p : Progress) (d new : Draft) (left : Stream) (go : Begun → Reply) → HasEffect p d effect.Done new → go_on p left go ≡ whole new.values.items left
effect_done (more r) d new left go e = absurd e
effect_done (done values) d new left go e = ap (λ (vs : List Value). whole vs left) (sym e.0)
effect_done (refused f place) d new left go e = absurd e

-- a word that is refused
effect_refused : (p : Progress) (d new : Draft) (f : ValueFault) (left : Stream) (go : Begun → Reply) → HasEffect p d (effect.Refused f) new → go_on p left go ≡ malformed f (new.place + new.taken)
effect_refused (more r) d new f left go e = absurd e
effect_refused (done values) d new f left go e = absurd e
effect_refused (refused g place) d new f left go e = cc

-- what a reader finds, where its state is another one's
same_found : (a b : Reading) (bytes : List ℕ) (closed : Bool) → a ≡ b → found a.slots a.refusal a.begun a.text bytes closed ≡ found b.slots b.refusal b.begun b.text bytes closed
same_found a b bytes closed e = ap (λ (r : Reading). found r.slots r.refusal r.begun r.text bytes closed) e

-- a blank after which the reply goes on
pub blank_more : (d new : Draft) (b : ℕ) (r : Reading) (values : List Value) → 0 < length d.slots.items → is_blank b ≡ true → d.taken + length d.word.items < longest
    → HasEffect (after_word (begun d) d.word.items (b == 10)) d effect.More new → new.taken + length new.word.items < longest → r ≡ open_at new
    → FedTells (open_at d) (b ∷ []) fed.More r values
unfolding answer
blank_more d new b r values some blank small e room is =
    let text : new.word.items ≡ [] = effect_text (after_word (begun d) d.word.items (b == 10)) d new e in
    let slots : new.slots ≡ d.slots = effect_slots (after_word (begun d) d.word.items (b == 10)) d new e in
    let after : (bytes : List ℕ) (closed : Bool) → found d.slots.items None (begun new) [] bytes closed ≡ found r.slots r.refusal r.begun r.text bytes closed =
    λ bytes closed. sym (same_found r (record { slots = d.slots.items; begun = begun new; text = []; refusal = None }) bytes closed (is ∙ (cc))) in (
      λ bytes closed. blank_found d.slots.items (begun d) d.word.items bytes b closed some small blank
          ∙ effect_more (after_word (begun d) d.word.items (b == 10)) d new _ _ e
          ∙ after bytes closed,
      sym (after [] false) ∙ needs_found d.slots.items (begun new) [] some (omega arith),
    )

-- a blank after which the reply is too long
pub blank_full : (d new : Draft) (b : ℕ) (r : Reading) (values : List Value) → 0 < length d.slots.items → is_blank b ≡ true → d.taken + length d.word.items < longest
    → HasEffect (after_word (begun d) d.word.items (b == 10)) d effect.More new → longest ≤ new.taken + length new.word.items → new.place ≡ d.place
    → r.refusal ≡ Some (record { fault = fault.TooLong; place = new.place })
    → FedTells (open_at d) (b ∷ []) (fed.Malformed fault.TooLong new.place) r values
unfolding answer
blank_full d new b r values some blank small e full place is =
    let text : new.word.items ≡ [] = effect_text (after_word (begun d) d.word.items (b == 10)) d new e in (
      λ bytes closed. blank_found d.slots.items (begun d) d.word.items bytes b closed some small blank
          ∙ effect_more (after_word (begun d) d.word.items (b == 10)) d new _ _ e
          ∙ full_found d.slots.items (begun new) [] bytes closed some (omega (arith, ap (λ (xs : List ℕ). length xs) text)),
      λ bytes closed. refused_answer r (record { fault = fault.TooLong; place = new.place }) bytes closed is,
    )

-- a blank that makes the reply whole
pub blank_done : (d new : Draft) (b : ℕ) (r : Reading) (values : List Value) → 0 < length d.slots.items → is_blank b ≡ true → d.taken + length d.word.items < longest
    → HasEffect (after_word (begun d) d.word.items (b == 10)) d effect.Done new → values ≡ new.values.items → r ≡ between new.decimals new.slots.items (new.place + new.taken)
    → FedTells (open_at d) (b ∷ []) (fed.Whole 1) r values
unfolding answer
blank_done d new b r values some blank small e kept is =
    let ends = done_ends (after_word (begun d) d.word.items (b == 10)) d new e in
    let slots : new.slots.items ≡ d.slots.items = ap (λ (v : Vec Slot Global). v.items) ends.0 in
    let decimals = ends.3 in
    let at : r.begun.place ≡ new.place + new.taken = ap (λ (r : Reading). r.begun.place) is in
    let at_word : d.place + d.taken + length d.word.items + 1 ≡ r.begun.place = omega (arith, ends.1, ends.2, at) in (
      omega arith,
      λ bytes closed. blank_found d.slots.items (begun d) d.word.items bytes b closed some small blank
          ∙ effect_done (after_word (begun d) d.word.items (b == 10)) d new _ _ e
          ∙ cc,
      is ∙ cc,
    )

-- a blank after a word that is refused
pub blank_refused : (d new : Draft) (b : ℕ) (f : ValueFault) (r : Reading) (values : List Value) → 0 < length d.slots.items → is_blank b ≡ true → d.taken + length d.word.items < longest
    → HasEffect (after_word (begun d) d.word.items (b == 10)) d (effect.Refused f) new
    → r.refusal ≡ Some (record { fault = f; place = new.place + new.taken })
    → FedTells (open_at d) (b ∷ []) (fed.Malformed f (new.place + new.taken)) r values
unfolding answer
blank_refused d new b f r values some blank small e is = (
  λ bytes closed. blank_found d.slots.items (begun d) d.word.items bytes b closed some small blank
      ∙ effect_refused (after_word (begun d) d.word.items (b == 10)) d new f _ _ e,
  λ bytes closed. refused_answer r (record { fault = f; place = new.place + new.taken }) bytes closed is,
)

-- a draft that was begun again is between two replies
pub begun_again : (new : Draft) (r : Reading) (decimals : ℕ) (slots : List Slot) (place : ℕ) → new.slots.items ≡ slots → begun new ≡ beginning decimals slots place → new.word.items ≡ [] → r ≡ open_at new
    → r ≡ between decimals slots place
begun_again new r decimals slots place same begins empty is = is ∙ (λ i. record { slots = same i; begun = begins i; text = empty i; refusal = None })

-- a reader that refused goes on refusing what it is fed ..
pub refused_fed : (r : Reading) (piece : List ℕ) (refusal : Refusal) (values : List Value) → r.refusal ≡ Some refusal
    → FedTells r piece (fed.Malformed refusal.fault refusal.place) r values
refused_fed r piece refusal values e = (λ bytes closed. refused_answer r refusal (piece ++ bytes) closed e, λ bytes closed. refused_answer r refusal bytes closed e)

-- .. and at the end
pub refused_closing : (r : Reading) (refusal : Refusal) (values : List Value) → r.refusal ≡ Some refusal
    → ClosingTells r (closing.Malformed refusal.fault refusal.place) r values
refused_closing r refusal values e = (refused_answer r refusal [] true e, λ bytes closed. refused_answer r refusal bytes closed e)

-- a reply of no slots is whole
none_found : (slots : List Slot) (r : Begun) (text bytes : List ℕ) (closed : Bool) → length slots ≡ 0
    → found slots None r text bytes closed ≡ whole [] (record { place = r.place; bytes = bytes; is_closed = closed })
none_found [] r text bytes closed none = refl
none_found (slot ∷ slots) r text bytes closed none = absurd (omega arith)

-- a reader of no slots needs no byte ..
pub none_fed : (d : Draft) (old new : Reading) (piece : List ℕ) (values : List Value) → length d.slots.items ≡ 0 → old ≡ open_at d → values ≡ [] → new ≡ between d.decimals d.slots.items d.place
    → FedTells old piece (fed.Whole 0) new values
unfolding answer
none_fed d old new piece values none was empty is =
    let at : new.begun.place ≡ d.place = ap (λ (r : Reading). r.begun.place) is in
    rw was (
      omega arith,
      λ bytes closed. none_found d.slots.items (begun d) d.word.items (piece ++ bytes) closed none ∙ cc,
      is ∙ cc,
    )

-- .. also at the end
pub none_closing : (d : Draft) (old new : Reading) (values : List Value) → length d.slots.items ≡ 0 → old ≡ open_at d → values ≡ [] → new ≡ between d.decimals d.slots.items d.place
    → ClosingTells old closing.Whole new values
unfolding answer
none_closing d old new values none was empty is =
    let at : new.begun.place ≡ d.place = ap (λ (r : Reading). r.begun.place) is in
    rw was (none_found d.slots.items (begun d) d.word.items [] true none ∙ cc, is ∙ cc)

-- a chunk at a place of a piece, and what stands after it
pub chunk_prefix : (piece : List ℕ) (used m : ℕ) → drop used piece ≡ take (used + m - used) (drop used piece) ++ drop (used + m) piece
chunk_prefix piece used m =
    let count : used + m - used ≡ m = omega arith in
    rw (count, ← drop-drop m used piece) (sym (take-append-drop m (drop used piece)))

pub chunk_length : (piece : List ℕ) (used m : ℕ) → used + m ≤ length piece → length (take (used + m - used) (drop used piece)) ≡ m
chunk_length piece used m within =
    let count : used + m - used ≡ m = omega arith in
    rw count (length-take-le m (drop used piece) (omega (arith, length-drop used piece)))

-- a reply that ends within a piece
pub whole_fed : (d : Draft) (old mid new : Reading) (piece : List ℕ) (used : ℕ) (chunk : List ℕ) (m : ℕ) (n : ℕ) (values : List Value) → used + m ≤ length piece
    → ((bytes : List ℕ) (closed : Bool) → answer old (piece ++ bytes) closed ≡ answer mid (drop used piece ++ bytes) closed)
    → drop used piece ≡ chunk ++ drop (used + m) piece → old.slots ≡ d.slots.items → old.begun.decimals ≡ d.decimals → mid ≡ open_at d → n ≡ length chunk
    → FedTells (open_at d) chunk (fed.Whole n) new values
    → FedTells old piece (fed.Whole (used + m)) new values
whole_fed d old mid new piece used chunk m n values within same prefix slots decimals is all told =
    let t : FedTells (open_at d) chunk (fed.Whole (length chunk)) new values = subst (λ (k : ℕ). FedTells (open_at d) chunk (fed.Whole k) new values) all told in (
      within,
      λ bytes closed. same bytes closed
          ∙ ap (λ (xs : List ℕ). answer mid (xs ++ bytes) closed) prefix
          ∙ ap (λ (r : Reading). answer r ((chunk ++ drop (used + m) piece) ++ bytes) closed) is
          ∙ ap (λ (xs : List ℕ). answer (open_at d) xs closed) (append_assoc chunk (drop (used + m) piece) bytes)
          ∙ t.1 (drop (used + m) piece ++ bytes) closed
          ∙ rw (drop_all (length chunk) chunk (omega arith)) refl,
      t.2 ∙ (λ i. between (sym decimals i) (sym slots i) new.begun.place),
    )

-- one that is refused within a piece
pub malformed_fed : (d : Draft) (old mid new : Reading) (piece : List ℕ) (used : ℕ) (chunk : List ℕ) (m : ℕ) (f : ValueFault) (place : ℕ) (values : List Value)
    → ((bytes : List ℕ) (closed : Bool) → answer old (piece ++ bytes) closed ≡ answer mid (drop used piece ++ bytes) closed)
    → drop used piece ≡ chunk ++ drop (used + m) piece → mid ≡ open_at d
    → FedTells (open_at d) chunk (fed.Malformed f place) new values
    → FedTells old piece (fed.Malformed f place) new values
malformed_fed d old mid new piece used chunk m f place values same prefix is told = (
  λ bytes closed. same bytes closed
      ∙ ap (λ (xs : List ℕ). answer mid (xs ++ bytes) closed) prefix
      ∙ ap (λ (r : Reading). answer r ((chunk ++ drop (used + m) piece) ++ bytes) closed) is
      ∙ ap (λ (xs : List ℕ). answer (open_at d) xs closed) (append_assoc chunk (drop (used + m) piece) bytes)
      ∙ told.0 (drop (used + m) piece ++ bytes) closed,
  told.1,
)

-- what a chunk leaves of a piece
pub same_after : (d : Draft) (old mid new : Reading) (piece : List ℕ) (used : ℕ) (chunk : List ℕ) (m : ℕ) (values : List Value)
    → ((bytes : List ℕ) (closed : Bool) → answer old (piece ++ bytes) closed ≡ answer mid (drop used piece ++ bytes) closed)
    → drop used piece ≡ chunk ++ drop (used + m) piece → mid ≡ open_at d
    → FedTells (open_at d) chunk fed.More new values
    → (bytes : List ℕ) (closed : Bool) → answer old (piece ++ bytes) closed ≡ answer new (drop (used + m) piece ++ bytes) closed
same_after d old mid new piece used chunk m values same prefix is told bytes closed =
    same bytes closed
    ∙ ap (λ (xs : List ℕ). answer mid (xs ++ bytes) closed) prefix
    ∙ ap (λ (r : Reading). answer r ((chunk ++ drop (used + m) piece) ++ bytes) closed) is
    ∙ ap (λ (xs : List ℕ). answer (open_at d) xs closed) (append_assoc chunk (drop (used + m) piece) bytes)
    ∙ told.0 (drop (used + m) piece ++ bytes) closed

-- a piece that ends before the reply is whole
pub more_fed : (d : Draft) (old new : Reading) (piece : List ℕ) (index : ℕ) (values : List Value) → length piece ≤ index → 0 < length d.slots.items → d.taken + length d.word.items < longest
    → ((bytes : List ℕ) (closed : Bool) → answer old (piece ++ bytes) closed ≡ answer new (drop index piece ++ bytes) closed)
    → new ≡ open_at d
    → FedTells old piece fed.More new values
unfolding answer
more_fed d old new piece index values all some small same is =
    let none : drop index piece ≡ [] = drop_all index piece all in (
      λ bytes closed. same bytes closed ∙ ap (λ (xs : List ℕ). answer new (xs ++ bytes) closed) none,
      rw is (needs_found d.slots.items (begun d) d.word.items some small),
    )

-- the end of the stream ends a word
end_found : (slots : List Slot) (r : Begun) (text : List ℕ) → 0 < length slots → r.taken + length text < longest
    → found slots None r text [] true ≡ stop (after_word r text true) (r.taken + length text) (record { place = r.place + r.taken + length text; bytes = []; is_closed = true })
end_found [] r text some small = absurd (omega arith)
end_found (slot ∷ slots) r text some small = rw (lt-leb longest (r.taken + length text) small) refl

-- the stream ends after a word that is passed
pub pass_closing : (d : Draft) (old : Reading) (is_comment : Bool) (n : ℕ) (values : List Value) → n ≡ d.taken + length d.word.items → 0 < length d.slots.items → d.taken + length d.word.items < longest
    → after_word (begun d) d.word.items true ≡ looked d (look.Pass is_comment) → old ≡ open_at d
    → ClosingTells old (closing.Short n) old values
unfolding answer
pass_closing d old is_comment n values count some small seen was =
    (rw (was, count, end_found d.slots.items (begun d) d.word.items some small, seen) refl, refl)

-- it ends after a word that is refused
pub refused_at_end : (d : Draft) (old new : Reading) (f : ValueFault) (values : List Value) → 0 < length d.slots.items → d.taken + length d.word.items < longest
    → after_word (begun d) d.word.items true ≡ looked d (look.Refused f) → old ≡ open_at d → new.refusal ≡ Some (record { fault = f; place = d.place + d.taken })
    → ClosingTells old (closing.Malformed f (d.place + d.taken)) new values
unfolding answer
refused_at_end d old new f values some small seen was is =
    (rw (was, end_found d.slots.items (begun d) d.word.items some small, seen) refl, λ bytes closed. refused_answer new (record { fault = f; place = d.place + d.taken }) bytes closed is)

-- slots are left behind a value
left_stop : (r : Begun) (text : List ℕ) (left : List Slot) (values : List Value) (taken : ℕ) (s : Stream) → 0 < length left → stop (filled r text left values) taken s ≡ short taken
left_stop r text [] values taken s some = absurd (omega arith)
left_stop r text (slot ∷ left) values taken s some = refl

-- none are left
full_stop : (r : Begun) (text : List ℕ) (left : List Slot) (values : List Value) (taken : ℕ) (s : Stream) → length left ≡ 0 → stop (filled r text left values) taken s ≡ whole values s
full_stop r text [] values taken s none = refl
full_stop r text (slot ∷ left) values taken s none = absurd (omega arith)

-- it ends after a value that isn't the last one
pub short_closing : (d : Draft) (old : Reading) (value : Value) (keep : Bool) (n : ℕ) (values : List Value) → n ≡ d.taken + length d.word.items → 0 < length d.slots.items → d.taken + length d.word.items < longest
    → after_word (begun d) d.word.items true ≡ filled_with d value keep → d.filled + 1 < length d.slots.items
    → old ≡ open_at d → ClosingTells (open_at d) (closing.Short n) old values
unfolding answer
short_closing d old value keep n values count some small seen few was = (
  rw (count, end_found d.slots.items (begun d) d.word.items some small, seen) (left_stop (begun d) _ (drop (d.filled + 1) d.slots.items) _ _ _ (omega (arith, length-drop (d.filled + 1) d.slots.items))),
  was,
)

-- it ends after the last value
pub done_closing : (d : Draft) (value : Value) (keep : Bool) (new : Reading) (values : List Value) → 0 < length d.slots.items → d.taken + length d.word.items < longest
    → after_word (begun d) d.word.items true ≡ filled_with d value keep → length d.slots.items ≤ d.filled + 1
    → values ≡ (if keep then d.values.items ++ value ∷ [] else d.values.items) → new ≡ between d.decimals d.slots.items (d.place + d.taken + length d.word.items)
    → ClosingTells (open_at d) closing.Whole new values
unfolding answer
done_closing d value keep new values some small seen all kept is =
    let at : new.begun.place ≡ d.place + d.taken + length d.word.items = ap (λ (r : Reading). r.begun.place) is in (
      rw (end_found d.slots.items (begun d) d.word.items some small, seen)
          (full_stop (begun d) _ (drop (d.filled + 1) d.slots.items) _ _ _ (omega (arith, length-drop (d.filled + 1) d.slots.items)) ∙ cc),
      is ∙ cc,
    )

-- what is no refusal is none
pub no_refusal : (o : Option Refusal) → ((x : Refusal) → o ≡ Some x → ⊥) → o ≡ None
no_refusal None never = refl
no_refusal (Some x) never = absurd (never x refl)

-- a list of no elements is empty
pub no_values : (vs : List Value) → length vs ≡ 0 → vs ≡ []
no_values [] none = refl
no_values (v ∷ vs) none = absurd (omega arith)

-- between two replies the reply at hand is the next one of the stream
pub next_reply : (decimals : ℕ) (slots : List Slot) (s : Stream) → answer (between decimals slots s.place) s.bytes s.is_closed ≡ reply_of decimals slots s
unfolding answer
next_reply decimals [] s = refl
next_reply decimals (slot ∷ slots) s = refl
