-- How replies may be written.
use Rattle.std.specs.Prelude.{◌≡◌, ◌≤◌, ℕ, ◌+◌, Bool, true, false, ◌==◌, List, [], ◌∷◌, ◌++◌, length, codes, if◌then◌else◌, Ok}
use Rattle.std.specs.List.{before_first, flat_map, list_any}
use Rattle.lt_num.specs.declared.value.Value.{Value}
use Rattle.lt_rif.specs.Judgement.{judged}
use Rattle.lt_rif.specs.Reply.{whole, longest, reply_of}
use Rattle.lt_rif.specs.Word.{is_blank, class_of}
use Rattle.lt_rif.specs.declared.slot.Slot.{Slot}
use Rattle.lt_rif.specs.declared.word.WordClass.TheVariants as class

-- what may stand between values
pub data Filler : Type 0 where
  blank : ℕ → Filler
  -- the word #outs, and the blank after it
  outs : ℕ → Filler
  -- a comment, up to the end of its line
  comment : List ℕ → Filler

abbrev pub filler_text : Filler → List ℕ
filler_text (blank b) = b ∷ []
filler_text (outs b) = codes "#outs" ++ b ∷ []
filler_text (comment text) = text ++ 10 ∷ []

-- A comment begins with a word that begins one, and its line ends after it.
abbrev pub IsFiller : Filler → Type 0
IsFiller (blank b) = is_blank b ≡ true
IsFiller (outs b) = is_blank b ≡ true
IsFiller (comment text) = (class_of (before_first is_blank text) ≡ class.Comment) × (list_any (λ b. b == 10) text ≡ false)

-- any number of them
abbrev pub AreFillers : List Filler → Type 0
AreFillers [] = Unit {0}
AreFillers (part ∷ gap) = IsFiller part × AreFillers gap

abbrev pub gap_text : List Filler → List ℕ
gap_text gap = flat_map filler_text gap

-- a value as it stands in a reply: what stands before it, its word, and the blank after that
pub record Field : Type 0 where
  pub gap : List Filler
  pub word : List ℕ
  pub blank : ℕ

abbrev pub field_text : Field → List ℕ
field_text f = gap_text f.gap ++ f.word ++ f.blank ∷ []

pub record IsField (f : Field) : Type 0 where
  pub gap : AreFillers f.gap
  pub word : list_any is_blank f.word ≡ false
  pub class : class_of f.word ≡ class.Value
  pub blank : is_blank f.blank ≡ true

-- fields that write these values of these slots, in turn
abbrev pub Writes : ℕ → List Slot → List Field → List Value → Type 0
Writes decimals [] [] [] = Unit {0}
Writes decimals (slot ∷ slots) (f ∷ fields) (v ∷ values) = IsField f × (judged decimals slot f.word ≡ Ok v) × Writes decimals slots fields values
Writes decimals slots fields values = ⊥

abbrev pub fields_text : List Field → List ℕ
fields_text fields = flat_map field_text fields

-- the values that slots keep
abbrev pub kept : List Slot → List Value → List Value
kept [] values = []
kept (slot ∷ slots) [] = []
kept (slot ∷ slots) (v ∷ values) = if slot.keep then v ∷ kept slots values else kept slots values

-- However a reply is written, it is read as its values: what stands between them changes nothing.
abbrev pub SpellingIsRead : Type 0
SpellingIsRead =
    (decimals place : ℕ) (slots : List Slot) (fields : List Field) (values : List Value) (rest : List ℕ) (closed : Bool) →
    Writes decimals slots fields values → length (fields_text fields) ≤ longest →
    reply_of decimals slots (record { place = place; bytes = fields_text fields ++ rest; is_closed = closed })
    ≡ whole (kept slots values) (record { place = place + length (fields_text fields); bytes = rest; is_closed = closed })
