-- What a caller may rely on of one line: what is known of each answer of reading it, how rules act on it, and which bytes have a meaning.
--   time-view, content-view, line_view: for each answer of reading a time or a line, all that is known of it
--   column-view, owner-within: of a user column that is accepted, and of the owner that a line names
--   zoned-is, setting-says: what a setting says of the offset, by its shown name and value; one that is read may stand
-- Kind and dialect act apart from each other:
--   system-line: a system's line is the user's up to the end of its time, in each dialect; so a user's refusal is the system's, with its column
--   dialect-line, time-ends: where both dialects read the time, the lines differ in its sets alone, in each kind
--   word_line, other-line: a word is the same in both dialects, and a line that doesn't start as an entry under all rules
--   first-line-same: in the first dialect a line is what it was before there was a second
-- What has a meaning, and nothing else:
--   leading-blanks, field-spaced, word-spaced, setting-spaced, value-spaced, quoted-whole: what is read at a place, by the bytes that are there, however many blanks
--     are around them and however long they are
--   known-word: a word that is known is one of the eight; offset-name: a setting changes the offset exactly if its name is `CRON_TZ`
-- Each rule once more in other words, for any bytes:
--   FiveFields: the five fields of a line, and lines that have fewer; WholeLines: a line by its first byte, its time, its command, its name and value, its bytes
--   Columns: the user column, and a system table's entry by it
-- For the functions of upper crates:
--   kept, kept_in, same_bits, forced, force-in: an offset that may be is kept in 32 bits
--   setting-zoned, setting-proper, entry-proper: of a line that is read to a setting or an entry
-- Assumes nothing.
pub use Rattle.line.proofs.TimeViews.{LineRefused, refused, FromField, FromFields, WhenView, TimeRead, TimeView, time-view}
pub use Rattle.line.proofs.TextViews.{Inside, Quoted, NamePart, BareValue, ValuePart}
pub use Rattle.line.proofs.Users.{OwnerWithin, ColumnView, column-view, owner-within}
pub use Rattle.line.proofs.Offsets.{kept, kept_in, same_bits, forced, force-in}
pub use Rattle.line.proofs.Zones.{zoned-is}
pub use Rattle.line.proofs.LineViews.{content_start, AfterUser, CommandAt, EntryView, SettingView, ContentView, content-view, LineView, line_view, setting-says, setting-zoned, setting-proper, entry-proper}
pub use Rattle.line.proofs.FirstDialect.{first-line-same}
pub use Rattle.line.proofs.KindsDialects.{rules_of, first_byte, with_column, system-line, with_when, time-ends, dialect-line, word_line, other-line}
pub use Rattle.line.proofs.Spacing.{leading-blanks, field-spaced, word-spaced, after-spaced, quoted-whole, value-spaced, name-whole, setting-spaced}
pub use Rattle.line.proofs.ExactWords.{AnyOf, same-is, same-itself, known-word, offset-name}
