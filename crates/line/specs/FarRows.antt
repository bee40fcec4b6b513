-- Every offset; and long runs of blanks and names, under both kinds and dialects.
-- Assumes nothing.
use Rattle.std.specs.Prelude.{ℕ, ◌+◌, ◌/◌, ◌%◌, ◌≡◌, refl, false, List, [], ◌∷◌, ◌++◌, map, replicate, pos, negsuc, Some, None, Ok, Result}
use Rattle.octets.specs.Texts.{text}
use Rattle.octets.specs.Rows.{Hold}
use Rattle.octets.specs.Sets.{set_of, up_to}
use Rattle.field.specs.declared.Dialect.TheVariants.{Rising, Wrapping}
use Rattle.line.specs.declared.Part.{Part}
use Rattle.line.specs.declared.Rules.{Rules}
use Rattle.line.specs.declared.Kind.TheVariants.{User, System}
use Rattle.line.specs.declared.time.When.{When}
use Rattle.line.specs.declared.time.When.TheVariants.{Reboot, Timed}
use Rattle.line.specs.declared.Line.{Line}
use Rattle.line.specs.declared.Line.TheVariants.{Ignored, Setting, Entry}
use Rattle.line.specs.Offsets.{read_offset}
use Rattle.line.specs.Lines.{read_line}
use Rattle.line.specs.Computing.{reading}
use Rattle.field.specs.declared.Fault.{Fault}

abbrev in_first : Rules
in_first = record { kind = User; dialect = Rising }

abbrev in_second : Rules
in_second = record { kind = System; dialect = Wrapping }

abbrev part : ℕ → ℕ → Part
part start end = record { start = start; end = end }

-- ---- every offset: a sign, hours and minutes

abbrev offset_text : ℕ → ℕ → List ℕ
offset_text sign n = let h = n / 60 in let m = n % 60 in sign ∷ (48 + h / 10) ∷ (48 + h % 10) ∷ 58 ∷ (48 + m / 10) ∷ (48 + m % 10) ∷ []

biased_offset : map (λ n. read_offset (offset_text 43 n)) (up_to 0 1000) ≡ map (λ n. Some (pos n)) (up_to 0 840) ++ replicate 160 None
unfolding reading
biased_offset = refl

behind : map (λ n. read_offset (offset_text 45 n)) (up_to 0 1000) ≡ Some (pos 0) ∷ map (λ n. Some (negsuc n)) (up_to 0 719) ++ replicate 280 None
unfolding reading
behind = refl

-- ---- long runs: blanks before a line, between its parts and after a name; and long names

abbrev setting : ℕ → ℕ → ℕ → ℕ → Result Line Fault
setting n m v w = Ok (Setting (part n m) (part v w) None)

abbrev blanks : List ℕ
blanks = replicate 120 32 ++ replicate 120 9

long-blanks : Hold (λ (s : List ℕ). read_line in_first s ∷ read_line in_second s ∷ [])
    ((blanks ++ text "#", Ok Ignored ∷ Ok Ignored ∷ [])
    ∷ (blanks ++ text "@reboot" ++ blanks ++ text "u" ++ blanks ++ text "x", Ok (Entry Reboot 487) ∷ Ok (Entry Reboot 728) ∷ [])
    ∷ (blanks ++ text "A" ++ blanks ++ text "=" ++ blanks ++ text "b" ++ blanks, setting 240 241 722 723 ∷ setting 240 241 722 723 ∷ [])
    ∷ (text "'" ++ replicate 300 65 ++ text "'" ++ blanks ++ text "=\"" ++ replicate 300 66 ++ text "\" \t ", setting 1 301 544 844 ∷ setting 1 301 544 844 ∷ [])
    ∷ (replicate 300 65 ++ text "=" ++ replicate 300 66, setting 0 300 301 601 ∷ setting 0 300 301 601 ∷ [])
    ∷ [])
unfolding reading
long-blanks = refl

-- midnight on the first of January, and on each Monday in it
abbrev new_year : When
new_year =
    Timed
    (record {
      minutes = set_of (0 ∷ []);
      hours = set_of (0 ∷ []);
      days = set_of (1 ∷ []);
      months = set_of (1 ∷ []);
      weekdays = set_of (1 ∷ []);
      stars = record { minutes = false; hours = false; days = false; months = false; weekdays = false };
    })

-- after each of the five fields, and after the user
abbrev wide : List ℕ
wide = replicate 60 32 ++ replicate 60 9

wide-fields : Hold (λ (rules : Rules). read_line rules (text "0" ++ wide ++ text "0" ++ wide ++ text "1" ++ wide ++ text "1" ++ wide ++ text "1" ++ wide ++ text "u" ++ wide ++ text "x"))
    ((in_first, Ok (Entry new_year 605)) ∷ (in_second, Ok (Entry new_year 726)) ∷ [])
unfolding reading
wide-fields = refl
