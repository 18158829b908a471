-- Names, as their bytes and as their two words; and ids, numbers of 64 bits, as names.
use Rattle.std.specs.Prelude.{◌≡◌, ℕ, ◌+◌, ◌-◌, ◌^◌, ◌<◌, ◌==◌, IsTrue, nat_le, nat_lt, Bool, true, false, not, ◌&&◌, ◌||◌, List, [], ◌∷◌, ◌++◌, length, take, drop, replicate, Option, Some, None, is_none, Result, Ok, Err, if◌then◌else◌, zero, suc, ◌*◌, ◌/◌, ◌%◌, slice_index_or}
use Rattle.std.specs.Char.{is_ascii_lowercase, is_ascii_digit}
use Rattle.std.specs.Int.{w64, from_be_bytes, to_be_bytes}
use Rattle.registry_values.specs.declared.name.Name.{Name}
use Rattle.registry_values.specs.declared.name.NameFault.{NameFault}
use Rattle.registry_values.specs.declared.name.NameFault.TheVariants.{Empty, TooLong, BadByte}

-- a lower-case letter, or after the first place a digit
abbrev pub is_allowed : ℕ → ℕ → Bool
is_allowed place b = is_ascii_lowercase b || (not (place == 0) && is_ascii_digit b)

-- the first place, counted on from the number given, with a byte that may not be there
abbrev pub bad_place : ℕ → List ℕ → Option ℕ
bad_place i [] = None
bad_place i (b ∷ bs) = if is_allowed i b then bad_place (i + 1) bs else Some i

-- 1 to 15 bytes, each allowed at its place
abbrev pub is_name : List ℕ → Bool
is_name bytes = nat_le 1 (length bytes) && nat_le (length bytes) 15 && is_none (bad_place 0 bytes)

-- with zero bytes up to 16
abbrev pub padded_bytes : List ℕ → List ℕ
padded_bytes bytes = bytes ++ replicate (16 - length bytes) 0

-- the first 8 of them as a number, the high byte first
abbrev pub high_word : List ℕ → ℕ
high_word bytes = from_be_bytes w64 (take 8 (padded_bytes bytes))

-- the last 8 of them
abbrev pub low_word : List ℕ → ℕ
low_word bytes = from_be_bytes w64 (drop 8 (padded_bytes bytes))

-- the name that is written by these bytes
abbrev pub name_of : List ℕ → Name
name_of bytes = record { high = high_word bytes; low = low_word bytes }

-- that name, unless a byte is bad
abbrev pub unless_bad : Option ℕ → List ℕ → Result Name NameFault
unless_bad None bytes = Ok (name_of bytes)
unless_bad (Some place) bytes = Err (BadByte place)

-- what reading bytes as a name gives: the name or the first fault
abbrev pub name_of_bytes : List ℕ → Result Name NameFault
name_of_bytes [] = Err Empty
name_of_bytes (b ∷ bs) = if nat_lt 15 (length (b ∷ bs)) then Err TooLong else unless_bad (bad_place 0 (b ∷ bs)) (b ∷ bs)

-- the 16 bytes of two words, the high ones first
abbrev pub bytes_of : ℕ → ℕ → List ℕ
bytes_of high low = to_be_bytes w64 high ++ to_be_bytes w64 low

-- zero bytes only
abbrev pub are_zeros : List ℕ → Bool
are_zeros [] = true
are_zeros (b ∷ bs) = b == 0 && are_zeros bs

-- letters and digits, and then zero bytes only, at least one
abbrev pub is_rest : List ℕ → Bool
is_rest [] = false
is_rest (b ∷ bs) = if b == 0 then are_zeros bs else is_allowed 1 b && is_rest bs

-- a letter, and then such a rest
abbrev pub is_padded : List ℕ → Bool
is_padded [] = false
is_padded (b ∷ bs) = is_allowed 0 b && is_rest bs

-- the bytes of the two words are so; other crates see it closed
unfoldable pub are_name_words : ℕ → ℕ → Bool
are_name_words high low = is_padded (bytes_of high low)

-- the words of a name are those of one
abbrev pub is_lawful : Name → Bool
is_lawful name = are_name_words name.high name.low

-- the two words aren't both 0; other crates see it closed
unfoldable pub are_key_words : ℕ → ℕ → Bool
are_key_words high low = not (high == 0 && low == 0)

-- an entry may be attached by these words; a lawful name is a key
abbrev pub is_key : Name → Bool
is_key name = are_key_words name.high name.low

-- the key that has these words, unless both are 0
abbrev pub key_of_words : ℕ → ℕ → Option Name
key_of_words high low = if are_key_words high low then Some (record { high = high; low = low }) else None

-- the key that is these bytes and zero bytes up to 16: there are 1 to 16, and not all are 0
abbrev pub key_of_bytes : List ℕ → Option Name
key_of_bytes bytes = if nat_le (length bytes) 16 && not (are_zeros bytes) then Some (name_of bytes) else None

-- the name that has these words, if one has
abbrev pub name_of_words : ℕ → ℕ → Option Name
name_of_words high low = if are_name_words high low then Some (record { high = high; low = low }) else None

-- the words of a name give it back
abbrev pub RoundTrip : Type 0
RoundTrip = (bytes : List ℕ) → IsTrue (is_name bytes) → name_of_words (name_of bytes).high (name_of bytes).low ≡ Some (name_of bytes)

-- a lawful name is a key
abbrev pub NamesAreKeys : Type 0
NamesAreKeys = (name : Name) → IsTrue (is_lawful name) → IsTrue (is_key name)

-- a name that two words give is written by some bytes
abbrev pub IsWritten : Type 0
IsWritten = (high low : ℕ) (name : Name) → high < 2 ^ 64 → low < 2 ^ 64 → name_of_words high low ≡ Some name → (bytes : List ℕ) × IsTrue (is_name bytes) × (name_of bytes ≡ name)

-- Ids, numbers of 64 bits, as names.

-- a digit to the base 32: 0 to 9, then a to v
abbrev pub digit_byte : ℕ → ℕ
digit_byte d = if nat_lt d 10 then 48 + d else 87 + d

-- the lowest k digits of n, the highest of them first
abbrev pub digits : ℕ → ℕ → List ℕ
digits zero n = []
digits (suc k) n = digit_byte (n / 32 ^ k % 32) ∷ digits k n

-- a letter, a to p, and twelve digits
abbrev pub id_bytes : ℕ → List ℕ
id_bytes id = (97 + id / 2 ^ 60) ∷ digits 12 id

-- the name of these bytes
unfoldable pub name_of_id : ℕ → Name
name_of_id id = name_of (id_bytes id)

abbrev pub digit_value : ℕ → ℕ
digit_value b = if nat_lt b 58 then b - 48 else b - 87

-- what these digits say, after those that said n, in 64 bits
abbrev pub value_of : ℕ → List ℕ → ℕ
value_of n [] = n
value_of n (b ∷ bs) = value_of ((n * 32 % 2 ^ 64 + digit_value b) % 2 ^ 64) bs

-- what these bytes say
abbrev pub id_of_bytes : List ℕ → ℕ
id_of_bytes bytes = value_of (slice_index_or bytes 0 0 - 97) (take 12 (drop 1 bytes))

abbrev pub said_by : Name → ℕ
said_by name = id_of_bytes (bytes_of name.high name.low)

abbrev pub is_same : Name → Name → Bool
is_same a b = a.high == b.high && a.low == b.low

-- what its bytes say, if that has this name
unfoldable pub id_of_name : Name → Option ℕ
id_of_name name = if is_same (name_of_id (said_by name)) name then Some (said_by name) else None

-- the name of an id gives it back
abbrev pub IdsComeBack : Type 0
IdsComeBack = (id : ℕ) → id < 2 ^ 64 → id_of_name (name_of_id id) ≡ Some id

-- a name that gives an id is that id's
abbrev pub NamesComeBack : Type 0
NamesComeBack = (name : Name) (id : ℕ) → id_of_name name ≡ Some id → name_of_id id ≡ name
