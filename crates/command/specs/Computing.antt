-- All that a command is split by, under one name: an example that is computed says `unfolding splitting`.
-- Assumes nothing.
use Rattle.octets.specs.OverFront.{over_front}
use Rattle.command.specs.Pieces.{alone, paired, pieces, byte_of, bytes_of}
use Rattle.command.specs.Parts.{up_to_percent, rest_of, shell_line, input_of, text_of, input_length, lengths_of}
use Rattle.command.specs.Buffers.{have_room, split_step}

unfoldable pub splitting : Unit {0}
unfolding over_front alone paired pieces byte_of bytes_of up_to_percent rest_of shell_line input_of text_of input_length lengths_of have_room split_step
splitting = tt
