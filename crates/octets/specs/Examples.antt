-- The bytes of each kind, all 256 tried in order; numbers in bytes; and texts in a buffer.
-- Assumes nothing.
use Rattle.std.specs.Prelude.{◌≡◌, refl, Bool, List, [], ◌∷◌, ◌++◌, map, ℕ, zero, suc, ◌*◌, get_or}
use Rattle.std.proofs.Common.{ap, arith}
use Rattle.octets.specs.AllBytes.{bytes_where, trying}
use Rattle.octets.specs.Classes.{is_blank, is_quote, is_account, is_control, of_class}
use Rattle.octets.specs.declared.class.Class.TheVariants.{InLine}
use Rattle.octets.specs.OverFront.{over_front}
use Rattle.octets.specs.Clipped.{clipped_front, clipped, saturated}
use Rattle.octets.specs.LittleEndian.{little_endian, number_of, width}
use Rattle.octets.specs.Rows.{Hold}
use Rattle.octets.specs.Runs.{trimmed}
use Rattle.octets.specs.Sets.{has_bit, with_bit, put, with_all, set_of, from_on, up_to}
use Rattle.octets.specs.Texts.{text}

abbrev bytes_of : (ℕ → Bool) → List ℕ
bytes_of p = bytes_where p (up_to 0 255)

blanks : bytes_of is_blank ≡ 9 ∷ 32 ∷ []
unfolding trying is_blank
blanks = refl

quotes : bytes_of is_quote ≡ text "\"'"
unfolding trying is_quote
quotes = refl

-- U2: letters, digits, `_`, `-`, `.`
accounts : bytes_of is_account ≡ text "-.0123456789ABCDEFGHIJKLMNOPQRSTUVWXYZ_abcdefghijklmnopqrstuvwxyz"
unfolding trying is_account
accounts = refl

-- T5: what a line may have, without newline, byte 0 and control bytes
controls : bytes_of is_control ≡ up_to 1 8 ++ (up_to 11 31 ++ 127 ∷ [])
unfolding trying is_control
controls = refl

in-a-line : bytes_of (of_class InLine) ≡ 9 ∷ (up_to 32 126 ++ up_to 128 255)
unfolding trying is_control of_class
in-a-line = refl

-- numbers and their bytes, the low byte first
in_bytes : Hold (λ (n : ℕ). little_endian 4 n) ((0, 0 ∷ 0 ∷ 0 ∷ 0 ∷ []) ∷ (258, 2 ∷ 1 ∷ 0 ∷ 0 ∷ []) ∷ (4278190337, 1 ∷ 1 ∷ 0 ∷ 255 ∷ []) ∷ [])
unfolding little_endian
in_bytes = refl

of_bytes : Hold number_of (([], 0) ∷ (2 ∷ 1 ∷ [], 258) ∷ (1 ∷ 1 ∷ 0 ∷ 255 ∷ [], 4278190337) ∷ [])
unfolding number_of
of_bytes = refl

widths : Hold width ((0, 1) ∷ (2, 65536) ∷ (4, 4294967296) ∷ (8, 18446744073709551616) ∷ [])
widths = refl

-- ---- sets: bit n has the weight 2 ^ n, written by doubling

-- so many numbers, each twice the one before
doubled : ℕ → ℕ → List ℕ
doubled n zero = []
doubled n (suc count) = n ∷ doubled (2 * n) count

-- each value alone, and put to the set of 0 to 63; a word has no bit 64
weights : (map (λ n. set_of (n ∷ [])) (up_to 0 63) ≡ doubled 1 64) × (map (put 0) (up_to 0 65) ≡ doubled 1 64 ++ 0 ∷ 0 ∷ [])
unfolding doubled with_bit put with_all set_of from_on up_to
weights = (refl, refl)

-- which of the values 0 to 63 a number has
members : Hold (λ (set : ℕ). bytes_where (has_bit set) (up_to 0 63))
    ((0, [])
    ∷ (1, 0 ∷ [])
    ∷ (3072, 10 ∷ 11 ∷ [])
    ∷ (1024, 10 ∷ [])
    ∷ (2048, 11 ∷ [])
    ∷ (576460752303423489, 0 ∷ 59 ∷ [])
    ∷ (12297829382473034410, 1 ∷ 3 ∷ 5 ∷ 7 ∷ 9 ∷ 11 ∷ 13 ∷ 15 ∷ 17 ∷ 19 ∷ 21 ∷ 23 ∷ 25 ∷ 27 ∷ 29 ∷ 31 ∷ 33 ∷ 35 ∷ 37 ∷ 39 ∷ 41 ∷ 43 ∷ 45 ∷ 47 ∷ 49 ∷ 51 ∷ 53 ∷ 55 ∷ 57 ∷ 59 ∷ 61 ∷ 63 ∷ [])
    ∷ [])
unfolding trying has_bit
members = refl

each_member : map (λ set. bytes_where (has_bit set) (up_to 0 63)) (doubled 1 64) ≡ map (λ n. n ∷ []) (up_to 0 63)
unfolding doubled trying has_bit
each_member = refl

-- ---- blanks at the end: all of them, whatever their order, and none before another byte

trimmings : Hold trimmed
    (([], 0)
    ∷ (text " ", 0)
    ∷ (text "\t \t", 0)
    ∷ (text "a", 1)
    ∷ (text "a \t", 1)
    ∷ (text "a\t ", 1)
    ∷ (text "a \t \t\t  ", 1)
    ∷ (text " \ta", 3)
    ∷ (text "a \t b\t ", 5)
    ∷ (text "a\n \t", 2)
    ∷ [])
unfolding is_blank trimmed
trimmings = refl

-- ---- texts in a buffer

at-the-front : Hold (λ (t : List ℕ). over_front t (1 ∷ 2 ∷ 3 ∷ [])) (([], 1 ∷ 2 ∷ 3 ∷ []) ∷ (7 ∷ 8 ∷ [], 7 ∷ 8 ∷ 3 ∷ []) ∷ (7 ∷ 8 ∷ 9 ∷ [], 7 ∷ 8 ∷ 9 ∷ []) ∷ [])
unfolding over_front
at-the-front = refl

-- as much of 7, 8 as fits at each place
clippings : Hold (λ (at : ℕ). clipped at (7 ∷ 8 ∷ []) (1 ∷ 2 ∷ 3 ∷ []))
    ((0, 7 ∷ 8 ∷ 3 ∷ []) ∷ (1, 1 ∷ 7 ∷ 8 ∷ []) ∷ (2, 1 ∷ 2 ∷ 7 ∷ []) ∷ (3, 1 ∷ 2 ∷ 3 ∷ []) ∷ (300, 1 ∷ 2 ∷ 3 ∷ []) ∷ [])
unfolding clipped clipped_front
clippings = refl

no_room : clipped 0 (7 ∷ []) [] ≡ []
unfolding clipped clipped_front
no_room = refl

places : Hold saturated
    ((0, 0)
    ∷ (65536, 65536)
    ∷ (18446744073709551614, 18446744073709551614)
    ∷ (18446744073709551615, 18446744073709551615)
    ∷ (18446744073709551616, 18446744073709551615)
    ∷ (36893488147419103232, 18446744073709551615)
    ∷ [])
unfolding saturated
places = refl

-- ---- rows: one that is wrong is found, first or last

wrong-rows :
    (Hold suc ((0, 2) ∷ (1, 2) ∷ []) → ⊥)
    × (Hold suc ((0, 1) ∷ (1, 3) ∷ []) → ⊥)
    × (Hold suc ((0, 1) ∷ (1, 2) ∷ (2, 0) ∷ []) → ⊥)
wrong-rows = (
  (λ e. omega (arith, ap (λ (l : List ℕ). get_or l 0 0) e)),
  (λ e. omega (arith, ap (λ (l : List ℕ). get_or l 1 0) e)),
  (λ e. omega (arith, ap (λ (l : List ℕ). get_or l 2 0) e)),
)
