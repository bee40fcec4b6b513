-- A text as its bytes, so that names and worked examples can be read. Texts are in ASCII, where a character is one byte. A newline is \n, a
-- tab \t, a quote \", a backslash \\.
-- Assumes nothing.
use Rattle.std.specs.Prelude.{ℕ, ◌≡◌, refl, List, [], ◌∷◌}
use Prim.Native.Char.{code}
use Prim.Native.String.{String}
use Prim.Native.String as characters

abbrev pub text : String → List ℕ
text characters.[] = []
text (characters.◌∷◌ c s) = code c ∷ text s

escapes : text "a\n\t\"\\" ≡ 97 ∷ 10 ∷ 9 ∷ 34 ∷ 92 ∷ []
escapes = refl
