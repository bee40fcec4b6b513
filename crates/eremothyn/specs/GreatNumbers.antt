-- The greatest numbers that each kind of answer can have, as C gets them: none is cut.
-- Assumes nothing.
use Rattle.std.specs.Prelude.{◌≡◌, refl, [], ◌∷◌, Some, None, Ok, Err}
use Rattle.refusal.specs.declared.Refusal.TheVariants.{NotOnCalendar, PastEnd, NoSetting, NotAQueue}
use Rattle.refusal.specs.Numbers.{number_of}
use Rattle.octets.specs.Rows.{Hold}
use Rattle.eremothyn.specs.Answer.{answer_of}
use Rattle.eremothyn.specs.Commands.{split_number, input_number}
use Rattle.eremothyn.specs.NormalForms.{normal_number}
use Rattle.eremothyn.specs.Queue.{tick_number, pop_number}
use Rattle.eremothyn.specs.Entries.{next_number}
use Rattle.eremothyn.specs.Settings.{line_number}

-- a text of 49,152 bytes; records of more, since a line `A=b` of 4 bytes becomes 8
texts : Hold normal_number ((Ok 0, 0) ∷ (Ok 32768, 32768) ∷ (Ok 49152, 49152) ∷ (Ok 98304, 98304) ∷ (Err NotAQueue, 4294967324) ∷ [])
unfolding normal_number number_of
texts = refl

commands :
    (split_number (Ok (record { shell = 998; input = Some 997 })) ≡ 998)
    × (input_number (Some 997) ≡ 997)
    × (input_number (Some 0) ≡ 0)
    × (input_number None ≡ 4294967296)
unfolding split_number input_number
commands = (refl, refl, refl, refl)

-- 512 entries
queues : Hold tick_number ((Ok 0, 0) ∷ (Ok 256, 256) ∷ (Ok 512, 512) ∷ (Err NotAQueue, 4294967324) ∷ [])
unfolding tick_number number_of
queues = refl

requests : Hold pop_number ((Ok (Some 0), 0) ∷ (Ok (Some 256), 256) ∷ (Ok (Some 511), 511) ∷ (Ok None, 4294967296) ∷ (Err NotAQueue, 4294967324) ∷ [])
unfolding pop_number number_of
requests = refl

-- the calendar's last minute, and the last line of a table of newlines
minutes : Hold next_number ((Ok 1, 1) ∷ (Ok 2147483648, 2147483648) ∷ (Ok 4223371679, 4223371679) ∷ (Err PastEnd, 4294967313) ∷ [])
unfolding next_number number_of
minutes = refl

lines : Hold line_number ((Ok 1, 1) ∷ (Ok 32768, 32768) ∷ (Ok 49152, 49152) ∷ (Err NoSetting, 4294967315) ∷ [])
unfolding line_number number_of
lines = refl

-- offsets, lengths, dates and minutes of dates
values : (answer_of (Ok 49151) ≡ 49151) × (answer_of (Ok 4223371679) ≡ 4223371679) × (answer_of (Err NotOnCalendar) ≡ 4294967310) × (answer_of (Err NotAQueue) ≡ 4294967324)
unfolding answer_of number_of
values = (refl, refl, refl, refl)
