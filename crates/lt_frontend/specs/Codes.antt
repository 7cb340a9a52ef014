-- The codes and places of refusals.
use Rattle.std.specs.Prelude.{ℕ, List, Option, None, codes}
use Rattle.lt_expand.specs.Codes.{expand_code, expand_place}
use Rattle.lt_parser.specs.Refusals.{parse_code, parse_place}
use Rattle.lt_types.specs.Codes.{type_code, type_place}
use Rattle.lt_frontend.specs.declared.refusal.Refusal.{Refusal}
use Rattle.lt_frontend.specs.declared.refusal.Refusal.TheVariants as refusal

-- the code of a refusal: the word of the layer that refuses, a point, and what it is called there
abbrev pub refusal_code : Refusal → List ℕ
refusal_code (refusal.Text reason) = parse_code reason
refusal_code (refusal.Types reason) = type_code reason
refusal_code (refusal.Expand reason) = expand_code reason
refusal_code refusal.HasRuns = codes "run.HasRuns"
refusal_code refusal.TooManyAtoms = codes "run.TooManyAtoms"

-- where in the text the cause is, if that is at one place
abbrev pub refusal_place : Refusal → Option ℕ
refusal_place (refusal.Text reason) = parse_place reason
refusal_place (refusal.Types reason) = type_place reason
refusal_place (refusal.Expand reason) = expand_place reason
refusal_place refusal.HasRuns = None
refusal_place refusal.TooManyAtoms = None
