-- A backslash and what follows it.
use Rattle.std.specs.Prelude.{ℕ, ◌+◌, ◌-◌, ◌*◌, Bool, ◌&&◌, nat_eq, nat_le, nat_lt, List, [], ◌∷◌, take, drop, Ok, Err, Option, Some, None, if◌then◌else◌}
use Rattle.patterns.specs.CharSet.{is_scalar, has, complement_of}
use Rattle.js_pattern.specs.declared.fault.PatternFault.TheVariants.{Syntax, Unsupported}
use Rattle.js_pattern.specs.declared.fault.PatternForm.{PatternForm}
use Rattle.js_pattern.specs.declared.fault.PatternForm.TheVariants.{Backreference, Octal, Boundary, Property, Control, NamedGroup, Surrogate}
use Rattle.js_pattern.specs.declared.escape.Escape.{Escape}
use Rattle.js_pattern.specs.declared.escape.Escape.TheVariants.{Character, Class}
use Rattle.js_pattern.specs.declared.escape.ClassEscape.{ClassEscape}
use Rattle.js_pattern.specs.declared.escape.ClassEscape.TheVariants.{Digit, NotDigit, Word, NotWord, Space, NotSpace}
use Rattle.js_pattern.specs.Reading.{Reading, ◌∈◌, stands_at, digits}

-- 0 to 9
abbrev pub digit_set : List (ℕ × ℕ)
digit_set = (48, 57) ∷ []

-- 0 to 9, A to Z, the underscore, a to z
abbrev pub word_set : List (ℕ × ℕ)
word_set = (48, 57) ∷ (65, 90) ∷ (95, 95) ∷ (97, 122) ∷ []

-- tab to carriage return, the Unicode spaces and line ends, and the byte order mark
abbrev pub space_set : List (ℕ × ℕ)
space_set =
    (0x9, 0xd) ∷ (0x20, 0x20) ∷ (0xa0, 0xa0) ∷ (0x1680, 0x1680) ∷ (0x2000, 0x200a) ∷ (0x2028, 0x2029) ∷
    (0x202f, 0x202f)
    ∷ (0x205f, 0x205f) ∷ (0x3000, 0x3000) ∷ (0xfeff, 0xfeff) ∷ []

-- the set of a class escape: a capital letter stands for the complement
abbrev pub class_set : ClassEscape → List (ℕ × ℕ)
class_set Digit = digit_set
class_set NotDigit = complement_of digit_set
class_set Word = word_set
class_set NotWord = complement_of word_set
class_set Space = space_set
class_set NotSpace = complement_of space_set

abbrev pub class_escape : ℕ → Option ClassEscape
class_escape c =
    if c ∈ "d" then Some Digit
    else if c ∈ "D" then Some NotDigit
    else if c ∈ "w" then Some Word
    else if c ∈ "W" then Some NotWord
    else if c ∈ "s" then Some Space
    else if c ∈ "S" then Some NotSpace
    else None

-- what the profile leaves out, by name
abbrev pub unsupported_escape : ℕ → Option PatternForm
unsupported_escape c =
    if nat_le 49 c && nat_le c 57 then Some Backreference
    else if c ∈ "bB" then Some Boundary
    else if c ∈ "pP" then Some Property
    else if c ∈ "c" then Some Control
    else if c ∈ "k" then Some NamedGroup
    else None

-- what ASCII prints, but for the space, the digits and the letters
abbrev pub is_punctuation : ℕ → Bool
is_punctuation c = has ((33, 47) ∷ (58, 64) ∷ (91, 96) ∷ (123, 126) ∷ []) c

-- a control character by its letter, or a mark of punctuation, which is itself
abbrev pub letter_escape : ℕ → Option ℕ
letter_escape c =
    if c ∈ "t" then Some 9
    else if c ∈ "n" then Some 10
    else if c ∈ "v" then Some 11
    else if c ∈ "f" then Some 12
    else if c ∈ "r" then Some 13
    else if is_punctuation c then Some c
    else None

-- the number that exactly n hexadecimal digits write
abbrev pub hexadecimal : ℕ → List ℕ → Option ℕ
hexadecimal n t = if nat_eq (digits 16 (take n t)).1 n then Some (digits 16 (take n t)).0 else None

-- the number of `{..}` and how many characters that takes
abbrev pub in_braces : List ℕ → Option (ℕ × ℕ)
in_braces t =
    let d = digits 16 (drop 1 t) in
    if stands_at 0 "{" t && nat_lt 0 d.1 && stands_at (1 + d.1) "}" t then Some (d.0, 2 + d.1) else None

-- the character of a number: a surrogate is none, nor is a number past the last character
abbrev pub numbered : ℕ → ℕ → ℕ → Reading Escape
numbered at taken n =
    if is_scalar n then Ok (Character n, taken)
    else if nat_lt n 0x110000 then Err (Unsupported at Surrogate)
    else Err (Syntax at)

abbrev pub is_high_surrogate : ℕ → Bool
is_high_surrogate n = nat_le 0xd800 n && nat_lt n 0xdc00

abbrev pub is_low_surrogate : ℕ → Bool
is_low_surrogate n = nat_le 0xdc00 n && nat_lt n 0xe000

abbrev pub if_low_surrogate : Option ℕ → Option ℕ
if_low_surrogate None = None
if_low_surrogate (Some n) = if is_low_surrogate n then Some n else None

-- the low surrogate that a text begins with, as `\uHHHH`
abbrev pub low_surrogate : List ℕ → Option ℕ
low_surrogate t =
    if stands_at 0 "\\" t && stands_at 1 "u" t then if_low_surrogate (hexadecimal 4 (drop 2 t)) else None

-- the number in braces, or the first four digits and the low surrogate after them
abbrev pub unicode_of : ℕ → Option (ℕ × ℕ) → Option ℕ → Option ℕ → Reading Escape
unicode_of at (Some b) first second = numbered at (1 + b.1) b.0
unicode_of at None None second = Err (Syntax at)
unicode_of at None (Some n) None = numbered at 5 n
unicode_of at None (Some n) (Some low) =
    if is_high_surrogate n then numbered at 11
    (0x10000 + 0x400 * (n - 0xd800) + (low - 0xdc00)) else numbered at 5 n

-- `\u{H..}`, `\uHHHH`, or two of the latter that form one character; t follows the `u`
abbrev pub unicode_escape : ℕ → List ℕ → Reading Escape
unicode_escape at t = unicode_of at (in_braces t) (hexadecimal 4 t) (low_surrogate (drop 4 t))

abbrev pub byte_of : ℕ → Option ℕ → Reading Escape
byte_of at None = Err (Syntax at)
byte_of at (Some n) = numbered at 3 n

-- `\xHH`; t follows the `x`
abbrev pub byte_escape : ℕ → List ℕ → Reading Escape
byte_escape at t = byte_of at (hexadecimal 2 t)

-- `\0`, after which no digit comes; t follows the `0`
abbrev pub null_escape : ℕ → List ℕ → Reading Escape
null_escape at t = if nat_lt 0 (digits 10 t).1 then Err (Unsupported at Octal) else Ok (Character 0, 1)

abbrev pub letter_of : ℕ → Option ℕ → Reading Escape
letter_of at None = Err (Syntax at)
letter_of at (Some n) = Ok (Character n, 1)

abbrev pub escape_of : ℕ → ℕ → List ℕ → Option ClassEscape → Option PatternForm → Reading Escape
escape_of at c t (Some set) form = Ok (Class set, 1)
escape_of at c t None (Some form) = Err (Unsupported at form)
escape_of at c t None None =
    if c ∈ "0" then null_escape at t
    else if c ∈ "x" then byte_escape at t
    else if c ∈ "u" then unicode_escape at t
    else letter_of at (letter_escape c)

-- an escape: the backslash is at the place `at`, and the text follows it
abbrev pub escape : ℕ → List ℕ → Reading Escape
escape at [] = Err (Syntax at)
escape at (c ∷ t) = escape_of at c t (class_escape c) (unsupported_escape c)
