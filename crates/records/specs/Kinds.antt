-- The kinds of records as the code has them, and their numbers in Formats (B2 to B6).
-- Assumes nothing.
use Rattle.std.specs.Prelude.{◌≡◌, ◌⊎◌, ℕ, ◌<◌, Result, MatchResult}
use Rattle.refusal.specs.declared.Refusal.{Refusal}
use Rattle.records.specs.declared.kind.Kind.{Kind}
use Rattle.records.specs.declared.kind.Kind.TheVariants.{Timed, Boot, Setting, Zone}
use Rattle.records.specs.Formats.{timed_kind, boot_kind, setting_kind, zone_kind}
use Rattle.records.specs.Refusals.{unknown_kind}

-- B2, B4, B5, B6: a kind's number
abbrev pub number_of : Kind → ℕ
number_of Timed = timed_kind
number_of Boot = boot_kind
number_of Setting = setting_kind
number_of Zone = zone_kind

-- R23: the kind with this number; 0 and the numbers past the last kind's have none
abbrev pub Decodes : ℕ → Result Kind Refusal → Type 0
Decodes number r = MatchResult r (λ kind. number_of kind ≡ number) (λ refusal. (refusal ≡ unknown_kind) × ((number ≡ 0) ⊎ (zone_kind < number)))
