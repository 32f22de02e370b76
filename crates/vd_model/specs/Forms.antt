-- The forms of lines: what a list of words says as a whole, or None where the words aren't of the form.
use Rattle.std.specs.Prelude.{ℕ, ◌==◌, ◌&&◌, nat_lt, nat_le, List, [], ◌∷◌, length, codes, if◌then◌else◌, Bool, Option, Some, None, option_and_then, option_map}
use Rattle.std.specs.List.{slice_split}
use Rattle.std.specs.Str.{bytes_eq}
use Rattle.vd_model.specs.Fields.{Field, u64_field, u32_field, writable_field}
use Rattle.vd_model.specs.declared.parts.Part.{Part}
use Rattle.vd_model.specs.declared.step.SubmitForm.{SubmitForm}
use Rattle.vd_model.specs.declared.step.SubmitForm.TheVariants.{Read, Write, Flush, Id}

-- the pieces of a text that is cut at each separator: at two in a row there is an empty one
abbrev pub cut_at : ℕ → List ℕ → List (List ℕ)
cut_at separator text = slice_split (λ b. b == separator) text

-- a form: the value that a list of words says, if it says one
abbrev pub Form : Type 0 → Type 0
Form S = List (List ℕ) → Option S

-- s, where no word is left
abbrev pub no_more_words : {S : Type 0} → S → Form S
no_more_words s [] = Some s
no_more_words s (w ∷ ws) = None

-- what the next word says, and the words after it
abbrev pub next_field : {X : Type 0} → Field X → List (List ℕ) → Option (X × List (List ℕ))
next_field f [] = None
next_field f (w ∷ ws) = option_map (λ x. (x, ws)) (f w)

-- a field, and then the form that its value chooses
infixr 10 ◌▹◌
abbrev pub ◌▹◌ : {X S : Type 0} → Field X → (X → Form S) → Form S
(f ▹ form) ws = option_and_then (λ read. form read.0 read.1) (next_field f ws)

-- the same words, and C of what they say
abbrev pub form_as : {S T : Type 0} → (S → T) → Form S → Form T
form_as C form ws = option_map C (form ws)

-- one field and no more
abbrev pub one_field : {A S : Type 0} → Field A → (A → S) → Form S
one_field f C = f ▹ λ a. no_more_words (C a)

-- two fields
abbrev pub two_fields : {A B S : Type 0} → Field A → Field B → (A → B → S) → Form S
two_fields f g C = f ▹ λ a. one_field g (C a)

-- three fields
abbrev pub three_fields : {A B D S : Type 0} → Field A → Field B → Field D → (A → B → D → S) → Form S
three_fields f g h C = f ▹ λ a. two_fields g h (C a)

-- four fields
abbrev pub four_fields : {A B D E S : Type 0} → Field A → Field B → Field D → Field E → (A → B → D → E → S) → Form S
four_fields f g h i C = f ▹ λ a. three_fields g h i (C a)

-- five fields
abbrev pub five_fields : {A B D E F S : Type 0} → Field A → Field B → Field D → Field E → Field F → (A → B → D → E → F → S) → Form S
five_fields f g h i j C = f ▹ λ a. four_fields g h i j (C a)

-- six fields
abbrev pub six_fields : {A B D E F G S : Type 0} → Field A → Field B → Field D → Field E → Field F → Field G → (A → B → D → E → F → G → S) → Form S
six_fields f g h i j k C = f ▹ λ a. five_fields g h i j k (C a)

-- seven fields
abbrev pub seven_fields : {A B D E F G H S : Type 0} → Field A → Field B → Field D → Field E → Field F → Field G → Field H → (A → B → D → E → F → G → H → S) → Form S
seven_fields f g h i j k l C = f ▹ λ a. six_fields g h i j k l (C a)

-- a part, by its fields in the order of the line
abbrev pub line_part : Bool → ℕ → ℕ → Part
line_part writable at len = record { at = at; len = len; writable = writable }

-- r:ADDR:LEN or w:ADDR:LEN
abbrev pub part_field : Field Part
part_field w = three_fields writable_field u64_field u32_field line_part (cut_at 58 w)

-- all words, each read by f
abbrev pub each_word : {X : Type 0} → Field X → Form (List X)
each_word f [] = Some []
each_word f (w ∷ ws) = option_and_then (λ x. option_map (λ xs. x ∷ xs) (each_word f ws)) (f w)

-- 1 to 64 parts
unfoldable pub parts_form : Form (List Part)
parts_form ws = if nat_lt 0 (length ws) && nat_le (length ws) 64 then each_word part_field ws else None

-- a block request: read and write with SECTOR B OFF LEN, flush, or id with B OFF
unfoldable pub submit_form : Form SubmitForm
submit_form [] = None
submit_form (w ∷ ws) =
    if bytes_eq w (codes "read") then four_fields u64_field u64_field u64_field u64_field Read ws else
    if bytes_eq w (codes "write") then four_fields u64_field u64_field u64_field u64_field Write ws else
    if bytes_eq w (codes "flush") then no_more_words Flush ws else
    if bytes_eq w (codes "id") then two_fields u64_field u64_field Id ws else
    None
