-- The bytes by which a trace grows.
use Rattle.std.proofs.Common.{◌≡◌, ℕ, List, [], ◌∷◌, ◌++◌, None, Some, refl, ap, sym, ◌∙◌, append_assoc, append-nil}
use Rattle.std.specs.Io.KnownBytes.{Appends, Keeps}
use Rattle.std.specs.declared.option.Option.{Option}
use Rattle.lt_drive.specs.Interaction.{bytes_to, text_to}
use Rattle.lt_loop.specs.Play.{Piece, destination_of}
use Rattle.lt_loop.specs.declared.event.Destination.{Destination}
use Rattle.lt_loop.specs.declared.event.Destination.TheVariants as destination
use Rattle.lt_trace_laws.specs.Replay.{trace_text, traced_to}

same_bytes : (d : Destination) (bytes : List ℕ) → bytes_to destination.Trace d bytes ≡ traced_to d bytes
same_bytes destination.Controller bytes = refl
same_bytes destination.Oracle bytes = refl
same_bytes destination.Trace bytes = refl

-- what pieces give to the trace is the text that they write there
pub same_text : (ps : List Piece) → text_to destination.Trace ps ≡ trace_text ps
same_text [] = refl
same_text (p ∷ ps) = λ i. same_bytes (destination_of p.kind) p.bytes i ++ same_text ps i

pub text_append : (ps qs : List Piece) → trace_text (ps ++ qs) ≡ trace_text ps ++ trace_text qs
text_append [] qs = refl
text_append (p ∷ ps) qs =
    ap (λ (t : List ℕ). traced_to (destination_of p.kind) p.bytes ++ t) (text_append ps qs)
    ∙ sym (append_assoc (traced_to (destination_of p.kind) p.bytes) (trace_text ps) (trace_text qs))

-- ---- told bytes

-- what kept its bytes grew by none
pub none_appended : (old new : Option (List ℕ)) → Keeps old new → Appends old new []
none_appended None new h = tt
none_appended (Some xs) None h = h
none_appended (Some xs) (Some ys) h = h ∙ sym (append-nil xs)

tail_same : (xs ys zs : List ℕ) → xs ++ ys ≡ xs ++ zs → ys ≡ zs
tail_same [] ys zs h = h
tail_same (x ∷ xs) ys zs h = let after : xs ++ ys ≡ xs ++ zs = cc in tail_same xs ys zs after

-- it grew by one text alone
pub grew_by : (old new : Option (List ℕ)) (before text bytes : List ℕ) → old ≡ Some before → new ≡ Some (before ++ bytes) → Appends old new text → bytes ≡ text
grew_by None new before text bytes e f h = absurd (cc)
grew_by (Some xs) None before text bytes e f h = absurd h
grew_by (Some xs) (Some ys) before text bytes e f h =
    let first : xs ≡ before = cc in
    let all : ys ≡ before ++ bytes = cc in
    tail_same before bytes text (sym all ∙ h ∙ ap (λ (t : List ℕ). t ++ text) first)

-- and then it tells them
pub told_now : (old new : Option (List ℕ)) (before text : List ℕ) → old ≡ Some before → Appends old new text → new ≡ Some (before ++ text)
told_now None new before text e h = absurd (cc)
told_now (Some xs) None before text e h = absurd h
told_now (Some xs) (Some ys) before text e h = let first : xs ≡ before = cc in ap (λ (t : List ℕ). Some t) (h ∙ ap (λ (t : List ℕ). t ++ text) first)
