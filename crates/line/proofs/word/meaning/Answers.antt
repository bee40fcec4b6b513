-- `line::word::meaning` meets its contract: the words in their order.
-- Assumes nothing.
use mathlib.Core.Path.{refl, sym}
use Rattle.line.specs.Words.{meanings, word_for, word_of}
use Rattle.line.proofs.Words.{row-none, row_here, row_later, word-meanings}
use Rattle.line.proofs.word.meaning.Goals as goal

pub returns-then-is_word : goal.returns-then-is_word
unfolding word_of meanings word_for
returns-then-is_word c = row_here _ _ _ refl (sym c.if-is_word.ensures)

pub returns-then-is_word-2 : goal.returns-then-is_word-2
unfolding word_of meanings
returns-then-is_word-2 c =
    let (yearly, monthly, weekly, daily, hourly) = word-meanings in
    row_later _ _ _ (sym c.if-is_word.ensures)
    (row_here _ _ _ yearly (sym c.if-is_word-2.ensures))

pub returns-then-is_word-3 : goal.returns-then-is_word-3
unfolding word_of meanings
returns-then-is_word-3 c =
    let (yearly, monthly, weekly, daily, hourly) = word-meanings in
    row_later _ _ _ (sym c.if-is_word.ensures)
    (row_later _ _ _ (sym c.if-is_word-2.ensures)
    (row_here _ _ _ yearly (sym c.if-is_word-3.ensures)))

pub returns-then-is_word-4 : goal.returns-then-is_word-4
unfolding word_of meanings
returns-then-is_word-4 c =
    let (yearly, monthly, weekly, daily, hourly) = word-meanings in
    row_later _ _ _ (sym c.if-is_word.ensures)
    (row_later _ _ _ (sym c.if-is_word-2.ensures)
    (row_later _ _ _ (sym c.if-is_word-3.ensures)
    (row_here _ _ _ monthly (sym c.if-is_word-4.ensures))))

pub returns-then-is_word-5 : goal.returns-then-is_word-5
unfolding word_of meanings
returns-then-is_word-5 c =
    let (yearly, monthly, weekly, daily, hourly) = word-meanings in
    row_later _ _ _ (sym c.if-is_word.ensures)
    (row_later _ _ _ (sym c.if-is_word-2.ensures)
    (row_later _ _ _ (sym c.if-is_word-3.ensures)
    (row_later _ _ _ (sym c.if-is_word-4.ensures)
    (row_here _ _ _ weekly (sym c.if-is_word-5.ensures)))))

pub returns-then-is_word-6 : goal.returns-then-is_word-6
unfolding word_of meanings
returns-then-is_word-6 c =
    let (yearly, monthly, weekly, daily, hourly) = word-meanings in
    row_later _ _ _ (sym c.if-is_word.ensures)
    (row_later _ _ _ (sym c.if-is_word-2.ensures)
    (row_later _ _ _ (sym c.if-is_word-3.ensures)
    (row_later _ _ _ (sym c.if-is_word-4.ensures)
    (row_later _ _ _ (sym c.if-is_word-5.ensures)
    (row_here _ _ _ daily (sym c.if-is_word-6.ensures))))))

pub returns-then-is_word-7 : goal.returns-then-is_word-7
unfolding word_of meanings
returns-then-is_word-7 c =
    let (yearly, monthly, weekly, daily, hourly) = word-meanings in
    row_later _ _ _ (sym c.if-is_word.ensures)
    (row_later _ _ _ (sym c.if-is_word-2.ensures)
    (row_later _ _ _ (sym c.if-is_word-3.ensures)
    (row_later _ _ _ (sym c.if-is_word-4.ensures)
    (row_later _ _ _ (sym c.if-is_word-5.ensures)
    (row_later _ _ _ (sym c.if-is_word-6.ensures)
    (row_here _ _ _ daily (sym c.if-is_word-7.ensures)))))))

pub returns-then-is_word-8 : goal.returns-then-is_word-8
unfolding word_of meanings
returns-then-is_word-8 c =
    let (yearly, monthly, weekly, daily, hourly) = word-meanings in
    row_later _ _ _ (sym c.if-is_word.ensures)
    (row_later _ _ _ (sym c.if-is_word-2.ensures)
    (row_later _ _ _ (sym c.if-is_word-3.ensures)
    (row_later _ _ _ (sym c.if-is_word-4.ensures)
    (row_later _ _ _ (sym c.if-is_word-5.ensures)
    (row_later _ _ _ (sym c.if-is_word-6.ensures)
    (row_later _ _ _ (sym c.if-is_word-7.ensures)
    (row_here _ _ _ hourly (sym c.if-is_word-8.ensures))))))))

pub returns : goal.returns
unfolding word_of meanings
returns c =
    row_later _ _ _ (sym c.if-is_word.ensures)
    (row_later _ _ _ (sym c.if-is_word-2.ensures)
    (row_later _ _ _ (sym c.if-is_word-3.ensures)
    (row_later _ _ _ (sym c.if-is_word-4.ensures)
    (row_later _ _ _ (sym c.if-is_word-5.ensures)
    (row_later _ _ _ (sym c.if-is_word-6.ensures)
    (row_later _ _ _ (sym c.if-is_word-7.ensures)
    (row_later _ _ _ (sym c.if-is_word-8.ensures)
    (row-none _))))))))
