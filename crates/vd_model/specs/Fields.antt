-- The fields of a line: what one word says, or None where the word isn't such a field.
use Rattle.std.specs.Prelude.{ℕ, ◌+◌, ◌-◌, ◌*◌, ◌^◌, ◌==◌, ◌&&◌, ◌||◌, nat_le, nat_lt, Bool, true, false, if◌then◌else◌, List, [], ◌∷◌, length, codes, Option, Some, None, option_map}
use Rattle.std.specs.List.{list_all}
use Rattle.std.specs.Str.{bytes_eq}
use Rattle.std.specs.Result.{result_ok}
use Rattle.hex.specs.Hex.{decode_of}
use Rattle.vd_model.specs.declared.memory.Dir.{Dir}
use Rattle.vd_model.specs.declared.memory.Dir.TheVariants.{To, From, Both}
use Rattle.vd_model.specs.declared.step.QueueOrConfig.{QueueOrConfig}
use Rattle.vd_model.specs.declared.step.QueueOrConfig.TheVariants.{Config, Queue}

-- a kind of field: the value that a word says, if it says one
abbrev pub Field : Type 0 → Type 0
Field X = List ℕ → Option X

-- the value of a digit, 0 to 9 and lower-case a to f; 99 for any other byte
abbrev pub digit : ℕ → ℕ
digit c = if nat_le 48 c && nat_le c 57 then c - 48 else if nat_le 97 c && nat_le c 102 then c - 87 else 99

-- the number that digits say, of which those before them said n
abbrev pub digits_from : ℕ → ℕ → Field ℕ
digits_from radix n [] = Some n
digits_from radix n (c ∷ cs) = if nat_lt (digit c) radix then digits_from radix (n * radix + digit c) cs else None

-- one digit or more, the first of them no zero unless it stands alone
abbrev pub plain_number : ℕ → Field ℕ
plain_number radix [] = None
plain_number radix (c ∷ cs) = if (c == 48) && nat_lt 0 (length cs) then None else digits_from radix 0 (c ∷ cs)

-- a decimal number, or 0x and a hexadecimal one
abbrev pub numeral : Field ℕ
numeral [] = None
numeral (c ∷ []) = plain_number 10 (c ∷ [])
numeral (c ∷ d ∷ w) = if (c == 48) && (d == 120) then plain_number 16 w else plain_number 10 (c ∷ d ∷ w)

-- a number, where it is from low to high
abbrev pub number_within : ℕ → ℕ → Option ℕ → Option ℕ
number_within low high None = None
number_within low high (Some n) = if nat_le low n && nat_le n high then Some n else None

-- a number from low to high
unfoldable pub number_in : ℕ → ℕ → Field ℕ
number_in low high w = number_within low high (numeral w)

-- a number that fits 64 bits
abbrev pub u64_field : Field ℕ
u64_field = number_in 0 (2 ^ 64 - 1)

-- a number that fits 32 bits
abbrev pub u32_field : Field ℕ
u32_field = number_in 0 (2 ^ 32 - 1)

-- a number that fits 16 bits
abbrev pub u16_field : Field ℕ
u16_field = number_in 0 (2 ^ 16 - 1)

-- the length of a line that reads bytes: 1 to 32,768
abbrev pub length_field : Field ℕ
length_field = number_in 1 32768

-- a byte of a name: a lower-case letter, a digit, _ or -
abbrev pub is_name_byte : ℕ → Bool
is_name_byte c = (nat_le 97 c && nat_le c 122) || (nat_le 48 c && nat_le c 57) || (c == 95) || (c == 45)

-- 1 to 255 such bytes
abbrev pub is_name : List ℕ → Bool
is_name w = nat_lt 0 (length w) && nat_le (length w) 255 && list_all is_name_byte w

-- a device's name
abbrev pub name_field : Field (List ℕ)
name_field w = if is_name w then Some w else None

-- two hexadecimal digits of either case for each byte, and one byte at least
unfoldable pub hex_field : Field (List ℕ)
hex_field [] = None
hex_field (c ∷ cs) = result_ok (decode_of (c ∷ cs))

-- the same, or - for no bytes
unfoldable pub optional_hex_field : Field (List ℕ)
optional_hex_field w = if bytes_eq w (codes "-") then Some [] else hex_field w

-- the byte 0 or the byte 1
unfoldable pub flag_field : Field Bool
flag_field w = if bytes_eq w (codes "0") then Some false else if bytes_eq w (codes "1") then Some true else None

-- the direction of a mapping
unfoldable pub dir_field : Field Dir
dir_field w = if bytes_eq w (codes "to") then Some To else if bytes_eq w (codes "from") then Some From else if bytes_eq w (codes "both") then Some Both else None

-- a queue's number, or config
unfoldable pub on_field : Field QueueOrConfig
on_field w = if bytes_eq w (codes "config") then Some Config else option_map Queue (u32_field w)

-- whether the device writes a part: r for one that it reads, w for one that it writes
unfoldable pub writable_field : Field Bool
writable_field w = if bytes_eq w (codes "r") then Some false else if bytes_eq w (codes "w") then Some true else None
