-- Lines whose faults are past column 255: each refusal of a line after 300 blanks, in a user's table in the first dialect and in a system's in the second.
-- Assumes nothing.
use Rattle.std.specs.Prelude.{ℕ, refl, List, [], ◌∷◌, ◌++◌, replicate, Err, Result}
use Rattle.refusal.specs.declared.Refusal.{Refusal}
use Rattle.refusal.specs.declared.Refusal.TheVariants.{NulByte, TooFewFields, Malformed, OutOfLimits, Reversed, StepZero, NoCommand, UnknownWord, BadSetting, BadUser, BadOffset, ControlByte}
use Rattle.octets.specs.Texts.{text}
use Rattle.octets.specs.Rows.{Hold}
use Rattle.field.specs.declared.Dialect.TheVariants.{Rising, Wrapping}
use Rattle.line.specs.declared.Kind.TheVariants.{User, System}
use Rattle.line.specs.declared.Line.{Line}
use Rattle.line.specs.Lines.{read_line}
use Rattle.line.specs.Computing.{reading}
use Rattle.field.specs.declared.Fault.{Fault}

abbrev lines : List ℕ → Result Line Fault × Result Line Fault
lines s =
    let line : List ℕ = replicate 300 32 ++ s in
    (read_line (record { kind = User; dialect = Rising }) line, read_line (record { kind = System; dialect = Wrapping }) line)

abbrev both : Refusal → ℕ → Result Line Fault × Result Line Fault
both refusal column = (Err (record { refusal = refusal; column = column }), Err (record { refusal = refusal; column = column }))

far : Hold lines
    ((text "A" ++ 0 ∷ [], both NulByte 302)
    ∷ (text "#" ++ 127 ∷ [], both ControlByte 302)
    ∷ (text "1 1 1 1", both TooFewFields 308)
    ∷ (text "1 1 1 1 x", both Malformed 309)
    ∷ (text "1 1 1 1,60 1 u c", both OutOfLimits 309)
    ∷ (text "1 1-2/0 1 1 1 u c", both StepZero 303)
    ∷ (text "1 1 1 1 1", both NoCommand 310)
    ∷ (text "@noon u c", both UnknownWord 301)
    ∷ (text "=c", both BadSetting 301)
    ∷ (text "A=\"c", both BadSetting 301)
    ∷ (text "A c", both BadSetting 301)
    ∷ (text "CRON_TZ = x", both BadOffset 311)
    ∷ [])
unfolding reading
far = refl

-- 7 is the first dialect's, 20 a system table's
far_apart : Hold lines
    ((text "9-1 1 1 1 1 - c", (Err (record { refusal = Reversed; column = 301 }), Err (record { refusal = BadUser; column = 313 }))) ∷ [])
unfolding reading
far_apart = refl
