-- The form of a plant's lines.
use Rattle.std.proofs.Common.{◌≡◌, ◌≢◌, ℕ, ◌≤◌, List, ◌++◌, length, take, Bool, ℤ, unsigned_abs, append_assoc, length-append, ap, sym, ◌∙◌, arith, None, Some, IfNone}
use Rattle.std.proofs.Math.Seq.{take-append_seam}
use Rattle.std.specs.declared.option.Option.{Option}
use Rattle.lt_num.specs.Bounds.{most_raw}
use Rattle.lt_num.specs.Text.{text_of}
use Rattle.lt_plants.specs.Replies.{after_blank, decimals, HasNoReply}
use Rattle.lt_plants.specs.declared.plant.Plant.TheVariants as plant

-- what holds at all holds where an option is empty
pub where_none : {A : Type 0} (o : Option A) (P : Type 0) → P → IfNone o P
where_none None P p = p
where_none (Some x) P p = tt

-- what stands before a blank and a truth
same_prefix : (a b : List ℕ) (s t : Bool) → a ++ after_blank s ≡ b ++ after_blank t → a ≡ b
same_prefix a b s t e =
    let long : length a ≡ length b = omega (arith, ap length e, length-append a (after_blank s), length-append b (after_blank t)) in
    sym (take-append_seam a (after_blank s)) ∙ ap (λ l. take (length a) l) e ∙ ap (λ n. take n (b ++ after_blank t)) long ∙ take-append_seam b (after_blank t)

-- a thermostat's line ends in a truth ..
pub thermostat_needs_truth : (last : Bool) (line : List ℕ) → ((prefix : List ℕ) (truth : Bool) → line ≢ prefix ++ after_blank truth) → HasNoReply plant.Thermostat last line
thermostat_needs_truth last line none = λ reply now h. none (text_of decimals h.0) h.1 h.2.text

-- .. after a real
pub thermostat_needs_real : (last : Bool) (line prefix : List ℕ) (truth : Bool) → line ≡ prefix ++ after_blank truth → ((raw : ℤ) → unsigned_abs raw ≤ most_raw → prefix ≢ text_of decimals raw) → HasNoReply plant.Thermostat last line
thermostat_needs_real last line prefix truth e none = λ reply now h.
    none h.0 h.2.within (same_prefix prefix (text_of decimals h.0) truth h.1 (sym e ∙ h.2.text))

-- the line of what watches a thermostat ends in a truth ..
pub safe_needs_truth : (last : Bool) (line : List ℕ) → ((prefix : List ℕ) (truth : Bool) → line ≢ prefix ++ after_blank truth) → HasNoReply plant.Safe last line
safe_needs_truth last line none = λ reply now h. none (text_of decimals h.0 ++ after_blank h.1) h.2 (h.3.text ∙ sym (append_assoc (text_of decimals h.0) (after_blank h.1) (after_blank h.2)))

-- .. after a truth ..
pub safe_needs_truths : (last : Bool) (line prefix : List ℕ) (heat : Bool) → line ≡ prefix ++ after_blank heat → ((other : List ℕ) (truth : Bool) → prefix ≢ other ++ after_blank truth) → HasNoReply plant.Safe last line
safe_needs_truths last line prefix heat e none = λ reply now h.
    none (text_of decimals h.0) h.1 (same_prefix prefix (text_of decimals h.0 ++ after_blank h.1) heat h.2 (sym e ∙ h.3.text ∙ sym (append_assoc (text_of decimals h.0) (after_blank h.1) (after_blank h.2))))

-- .. after a real
pub safe_needs_real : (last : Bool) (line prefix text : List ℕ) (door heat : Bool) → line ≡ prefix ++ after_blank heat → prefix ≡ text ++ after_blank door → ((raw : ℤ) → unsigned_abs raw ≤ most_raw → text ≢ text_of decimals raw) → HasNoReply plant.Safe last line
safe_needs_real last line prefix text door heat e f none = λ reply now h.
    let same : prefix ≡ text_of decimals h.0 ++ after_blank h.1 = same_prefix prefix (text_of decimals h.0 ++ after_blank h.1) heat h.2 (sym e ∙ h.3.text ∙ sym (append_assoc (text_of decimals h.0) (after_blank h.1) (after_blank h.2))) in
    none h.0 h.3.within (same_prefix text (text_of decimals h.0) door h.1 (sym f ∙ same))
